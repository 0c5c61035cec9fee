use Rattle.std.proofs.Common.{ℕ, ◌+◌, Global, Vec, drop, subst, sym, rules}
use Rattle.program.specs.declared.kinds.Member.{Member}
use Rattle.std.proofs.lemmas.Bool.Decides.{Decides-at, not_from_Decides}
use Rattle.std.proofs.lemmas.List.{drop_all, drop_more}
use Rattle.source_table.proofs.Listing.{IsListed, decides_member, listed-all, listed-end, listed-one, listed-other, listed-rising}
use Rattle.source_table.proofs.table.Table.waiting.Goals.{then-eq+in_ok-push, else-eq}
use Rattle.source_table.proofs.table.Table.waiting.Goals as goal

-- what stands behind the last entry
abbrev nowhere : ℕ × Member
nowhere = (0, record { monitor = 0; number = 0 })

pub loop-process-init : goal.loop-process-init
loop-process-init c =
    subst (IsListed c.args.self.now.waits c.args.condition c.new-waiting.result.items)
    (sym c.entries-process-items.ensures.all)
    (listed-all c.args.self.now.waits c.args.condition c.new-waiting.result.items
    c.entries-process-items.ensures.ordered c.new-waiting.ensures.items)

pub loop-process-preserved : goal.loop-process-preserved
loop-process-preserved c =
    let rest = drop_more c.entries-process-items.result.now c.loop-process.process-index nowhere c.loop-process-test.true in
    elim c.if-eq.branch [
      | then-eq+in_ok-push w ↦ subst (λ (v : Vec ℕ Global). IsListed c.args.self.now.waits c.args.condition v.items
          (drop (c.loop-process.process-index + 1) c.entries-process-items.result.now)) (sym w.waiting-is)
          (listed-one c.args.self.now.waits c.args.condition _ c.loop-process.waiting.items _ _ _ c.loop-process.invariant
          rest ((Decides-at c.eq.result _ c.eq.ensures (decides_member _ c.args.condition)).0 w.if-eq.true)
          w.push.new.self.items w.in_ok-push.ensures.items)
      | else-eq w ↦ subst (λ (v : Vec ℕ Global). IsListed c.args.self.now.waits c.args.condition v.items
          (drop (c.loop-process.process-index + 1) c.entries-process-items.result.now)) (sym w.waiting-is)
          (listed-other c.args.self.now.waits c.args.condition _ c.loop-process.waiting.items _ _ _ c.loop-process.invariant
          rest (not_from_Decides c.eq.result
          (Decides-at c.eq.result _ c.eq.ensures (decides_member _ c.args.condition)) w.if-eq.false))
    ]

pub returns-clause-rising : goal.returns-clause-rising
returns-clause-rising c = listed-rising c.args.self.now.waits c.args.condition _ _ c.loop-process.invariant

pub returns-clause-all : goal.returns-clause-all
returns-clause-all c =
    listed-end c.args.self.now.waits c.args.condition _ _ c.loop-process.invariant
    (drop_all c.loop-process.process-index c.entries-process-items.result.now (search rules))
