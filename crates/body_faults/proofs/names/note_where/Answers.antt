use Rattle.std.proofs.Common.{sym, subst}
use Rattle.types.specs.Faults.{Gathers, where_true}
use Rattle.types.proofs.Gathered.{gathers_none}
use Rattle.body_faults.proofs.names.note_where.Goals as goal

pub returns-then-test : goal.returns-then-test
returns-then-test c = subst (λ b. Gathers (where_true b c.args.kind c.args.place) c.args.least c.note.result)
    (sym c.if-test.true) c.note.ensures

pub returns : goal.returns
returns c = subst (λ b. Gathers (where_true b c.args.kind c.args.place) c.args.least c.args.least)
    (sym c.if-test.false) (gathers_none c.args.least)
