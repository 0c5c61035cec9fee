use Rattle.std.proofs.Common.{sym, subst}
use Rattle.meaning.specs.Table.{Allows}
use Rattle.source_offers.specs.Offered.{label_of}
use Rattle.source_table.specs.Tables.{table_of}
use Rattle.source_states.proofs.done.permit.Goals as goal

pub returns-in_ok-exit-in-Exits : goal.returns-in_ok-exit-in-Exits
returns-in_ok-exit-in-Exits c =
    subst (λ l. Allows c.args.process (label_of l) (table_of c.args.table.now) (table_of c.exit.new.self))
    (sym c.in-Exits.is) (c.in_ok-exit-in-Exits.ensures.ok c.args.process)

pub returns-in_ok-abandon-in-Abandons : goal.returns-in_ok-abandon-in-Abandons
returns-in_ok-abandon-in-Abandons c =
    subst (λ l. Allows c.args.process (label_of l) (table_of c.args.table.now) (table_of c.abandon.new.self))
    (sym c.in-Abandons.is) (c.in_ok-abandon-in-Abandons.ensures.ok c.args.process)
