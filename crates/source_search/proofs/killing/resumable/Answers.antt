use Rattle.std.proofs.Common.{◌≡◌, ◌↔◌, Contains, None, Some, subst, ℕ}
use Rattle.std.proofs.lemmas.Option.{IfSome_then}
use Rattle.std.proofs.lemmas.Result.{IfOk-weaker}
use Rattle.program.specs.Views.{program_of}
use Rattle.meaning.specs.Table.{Table}
use Rattle.source_states.specs.States.{state_of}
use Rattle.source_reaching.specs.Choices.{HasEachSet, lists_in}
use Rattle.source_search.specs.Choices.{WouldNotify}
use Rattle.source_search.proofs.Kills.{nobody_tried, sets_tried}
use Rattle.source_search.proofs.killing.resumable.Goals as goal

pub returns-in_default : goal.returns-in_default
returns-in_default c =
    let p = program_of c.args.checked.now.tree in
    let s = state_of c.args.state.now in
    let none : WouldNotify p s c.args.process None = rw c.in_default.is at c.in_ok-condition.ensures in
    nobody_tried p s c.args.process _ c.in_ok-nobody.ensures none

pub returns : goal.returns
returns c =
    let p = program_of c.args.checked.now.tree in
    let s = state_of c.args.state.now in
    let only : WouldNotify p s c.args.process (Some c.in-Some.condition) =
    rw c.in-Some.is at c.in_ok-condition.ensures in
    let waiting : (r : ℕ) → Contains c.in_ok-waiting.waiting.items r ↔ (s.table.waits r ≡ Some c.in-Some.condition) =
    subst (λ (t : Table). (r : ℕ) → Contains c.in_ok-waiting.waiting.items r ↔ (t.waits r ≡ Some c.in-Some.condition))
    c.table.ensures c.in_ok-waiting.ensures.all in
    IfOk-weaker c.sets.result _ _ (λ o h. IfSome_then o h (λ v each.
    sets_tried p s c.args.process c.in-Some.condition c.in_ok-waiting.waiting.items (lists_in v.items) waiting
    c.in_ok-waiting.ensures.rising
    (subst (λ numbers. HasEachSet numbers (lists_in v.items)) c.as_slice.ensures.value each) only))
    c.sets.ensures
