use Rattle.std.proofs.Common.{◌↔◌, List, ℕ, nat_cmp, subst, sym, Contains}
use Rattle.std.proofs.lemmas.Map.Keys.{IsStrictlyIncreasing-from_sorted}
use Rattle.std.specs.List.Sorted.{IsStrictlySortedBy}
use Rattle.std.specs.Prelude.{IsSome}
use Rattle.source_states.specs.States.{processes_in}
use Rattle.source_states.proofs.Numbers.{all_seen, are_numbers, seen-more}
use Rattle.source_states.proofs.state.SourceState.numbers.Goals as goal

pub loop-number-preserved : goal.loop-number-preserved
loop-number-preserved c =
    seen-more c.entries-processes.result.now _ _ c.loop-number.number-index c.loop-number-item.result
    c.loop-number-test.true c.loop-number-item.is c.in_ok-push.ensures.items c.loop-number.invariant

pub returns-clause-rising : goal.returns-clause-rising
returns-clause-rising c =
    IsStrictlyIncreasing-from_sorted c.loop-number.numbers.items
    (subst (IsStrictlySortedBy nat_cmp)
    (sym (all_seen c.entries-processes.result.now c.args.self.now.processes c.loop-number.numbers.items
    c.loop-number.number-index c.loop-number-test.false c.entries-processes.ensures.all c.loop-number.invariant))
    c.entries-processes.ensures.ordered)

pub returns-clause-all : goal.returns-clause-all
returns-clause-all c = λ q.
    subst (λ (ks : List ℕ). Contains ks q ↔ IsSome (processes_in c.args.self.now.processes q))
    (sym (all_seen c.entries-processes.result.now c.args.self.now.processes c.loop-number.numbers.items
    c.loop-number.number-index c.loop-number-test.false c.entries-processes.ensures.all c.loop-number.invariant))
    (are_numbers c.args.self.now.processes q)
