use Rattle.std.proofs.Common.{ℕ, sym, subst, rules}
use Rattle.std.proofs.lemmas.List.{drop_all, drop_more}
use Rattle.program.specs.declared.kinds.Member.{Member}
use Rattle.source_table.proofs.Waiters.{IsRest, rest-all, rest-end, rest-more, rest-not}
use Rattle.source_table.proofs.table.Table.names_all.Goals as goal

-- what stands behind the last entry
abbrev nowhere : ℕ × Member
nowhere = (0, record { monitor = 0; number = 0 })

pub loop-process-init : goal.loop-process-init
loop-process-init c =
    subst (IsRest c.args.self.now.waits c.args.condition c.args.resumed.now) (sym c.entries-process-items.ensures.all)
    (rest-all c.args.self.now.waits c.args.condition c.args.resumed.now c.entries-process-items.ensures.ordered)

pub returns-then-not-is_named : goal.returns-then-not-is_named
returns-then-not-is_named c =
    let unnamed = rw c.if-not-is_named.true at c.is_named.ensures in
    rest-not c.args.self.now.waits c.args.condition _ c.args.resumed.now _ _ _ c.loop-process.invariant
    (drop_more c.entries-process-items.result.now c.loop-process.process-index nowhere c.loop-process-test.true) unnamed.0
    unnamed.1

pub loop-process-preserved : goal.loop-process-preserved
loop-process-preserved c =
    rest-more c.args.self.now.waits c.args.condition _ c.args.resumed.now _ _ _ c.loop-process.invariant
    (drop_more c.entries-process-items.result.now c.loop-process.process-index nowhere c.loop-process-test.true)
    (rw c.if-not-is_named.false at c.is_named.ensures)

pub returns : goal.returns
returns c =
    rest-end c.args.self.now.waits c.args.condition c.args.resumed.now _ c.loop-process.invariant
    (drop_all c.loop-process.process-index c.entries-process-items.result.now (search rules))
