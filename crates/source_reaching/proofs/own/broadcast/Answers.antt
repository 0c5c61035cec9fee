use Rattle.std.proofs.Common.{◌≡◌, ◌↔◌, ℕ, Contains, List, Some, subst}
use Rattle.meaning.specs.Labels.{Action, Broadcast}
use Rattle.meaning.specs.Offers.{NotifiesAll}
use Rattle.meaning.specs.Processes.{Process}
use Rattle.meaning.specs.Table.{Table}
use Rattle.source_states.specs.States.{state_of}
use Rattle.source_reaching.specs.Choices.{AllTakeUp}
use Rattle.source_reaching.proofs.Tried.{all_tried, broadcast_tried}
use Rattle.source_reaching.proofs.own.broadcast.Goals as goal

pub returns : goal.returns
returns c =
    let waiting : (r : ℕ) → Contains c.in_ok-waiting.waiting.items r
    ↔ ((state_of c.args.state.now).table.waits r ≡ Some c.args.condition) =
    subst (λ (t : Table). (r : ℕ) → Contains c.in_ok-waiting.waiting.items r ↔ (t.waits r ≡ Some c.args.condition))
    c.table.ensures c.in_ok-waiting.ensures.all in
    all_tried c.one.result c.args.process (Broadcast c.args.condition c.in_ok-waiting.waiting.items)
    (λ (actions : List Action). (after : Process) → AllTakeUp c.args.process (NotifiesAll c.args.condition after)
    (state_of c.args.state.now).table actions)
    (λ actions is after. broadcast_tried c.args.process c.args.condition after (state_of c.args.state.now).table
    c.in_ok-waiting.waiting.items waiting c.in_ok-waiting.ensures.rising actions is) c.one.ensures
