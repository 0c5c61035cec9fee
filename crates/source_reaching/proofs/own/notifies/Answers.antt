use Rattle.std.proofs.Common.{◌≡◌, ◌∙◌, ◌↔◌, ◌≤◌, ℕ, Contains, List, Some, ap, arith, length, map, subst}
use Rattle.std.proofs.lemmas.Bool.Decides.{nat_tests}
use Rattle.meaning.specs.Labels.{Action, Notify}
use Rattle.meaning.specs.Offers.{NotifiesSome}
use Rattle.meaning.specs.Processes.{Process}
use Rattle.meaning.specs.Table.{Table}
use Rattle.source_states.specs.Actions.{action_of}
use Rattle.source_states.specs.States.{state_of}
use Rattle.source_reaching.specs.Choices.{AllTakeUp, HasEachSet, by, lists_in}
use Rattle.source_reaching.proofs.Tried.{all_tried, few_tried, notify_tried}
use Rattle.source_reaching.proofs.own.notifies.Goals as goal

pub returns-then-len-le1 : goal.returns-then-len-le1
returns-then-len-le1 c =
    let waiting : (r : ℕ) → Contains c.in_ok-waiting.waiting.items r
    ↔ ((state_of c.args.state.now).table.waits r ≡ Some c.args.condition) =
    subst (λ (t : Table). (r : ℕ) → Contains c.in_ok-waiting.waiting.items r ↔ (t.waits r ≡ Some c.args.condition))
    c.table.ensures c.in_ok-waiting.ensures.all in
    let few : length c.in_ok-waiting.waiting.items ≤ 1 = grind (arith, nat_tests, c.if-len-le1.true) in
    all_tried c.one.result c.args.process (Notify c.args.condition c.in_ok-waiting.waiting.items)
    (λ (actions : List Action). (after : Process) → AllTakeUp c.args.process (NotifiesSome c.args.condition after)
    (state_of c.args.state.now).table actions)
    (λ actions is after. few_tried c.args.process c.args.condition after (state_of c.args.state.now).table
    c.in_ok-waiting.waiting.items waiting c.in_ok-waiting.ensures.rising few actions is) c.one.ensures

pub returns : goal.returns
returns c = λ after.
    let waiting : (r : ℕ) → Contains c.in_ok-waiting.waiting.items r
    ↔ ((state_of c.args.state.now).table.waits r ≡ Some c.args.condition) =
    subst (λ (t : Table). (r : ℕ) → Contains c.in_ok-waiting.waiting.items r ↔ (t.waits r ≡ Some c.args.condition))
    c.table.ensures c.in_ok-waiting.ensures.all in
    let sets : HasEachSet c.as_slice.result.now (lists_in c.in-Some.lists.items) =
    rw c.in-Some.is at c.in_ok-lists.ensures in
    notify_tried c.args.process c.args.condition after (state_of c.args.state.now).table c.in_ok-waiting.waiting.items
    waiting c.in_ok-waiting.ensures.rising (lists_in c.in-Some.lists.items) (map action_of c.in_ok-actions.actions.items)
    (subst (λ numbers. HasEachSet numbers (lists_in c.in-Some.lists.items)) c.as_slice.ensures.value sets)
    (c.in_ok-actions.ensures
    ∙ ap (λ lists. map (λ list. by c.args.process (Notify c.args.condition list)) (lists_in lists))
    c.as_slice-2.ensures.value)
