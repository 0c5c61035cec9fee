use Rattle.std.proofs.Common.{List, ℕ, refl, ap, subst, ◌∙◌}
use Rattle.meaning.specs.Labels.{Broadcasts, Broadcast}
use Rattle.meaning.specs.Offers.{NotifiesAll, Nothing}
use Rattle.meaning.specs.Table.{Table, Allows}
use Rattle.source_offers.specs.Stages.{process_of}
use Rattle.source_table.specs.Tables.{table_of}
use Rattle.source_states.specs.Actions.{kind_of}
use Rattle.source_states.specs.States.{state_of}
use Rattle.source_states.specs.Taken.{IsTakenUp}
use Rattle.source_states.proofs.Takes.{placed, same_member, no_broadcast}
use Rattle.source_states.proofs.state.SourceState.broadcast.Goals as goal

pub returns-then-not-broadcast : goal.returns-then-not-broadcast
returns-then-not-broadcast c = λ u r.
    no_broadcast c.args.number c.args.condition c.in-Broadcast.resumed.items (process_of c.args.process)
    (state_of c.args.self.now)
    (subst (λ (rs : List ℕ). (t : Table)
    → Allows c.args.number (Broadcasts c.args.condition rs) (table_of c.args.self.now.table) t → ⊥)
    c.as_slice.ensures.value (c.if-not-broadcast.ensures c.args.number).0) u
    (subst (λ k. IsTakenUp c.args.number k (NotifiesAll c.args.condition (process_of c.args.process))
    (state_of c.args.self.now) u)
    (ap kind_of c.in-Broadcast.is
    ∙ ap (λ d. Broadcast d c.in-Broadcast.resumed.items) (same_member _ _ c.if-ne.ensures)) r)

pub returns : goal.returns
returns c = record {
  label = Broadcasts c.args.condition c.in-Broadcast.resumed.items;
  effect = Nothing;
  after = process_of c.args.process;
  takes = (c.in-Broadcast.resumed.items, refl, refl, refl);
  named = ap kind_of c.in-Broadcast.is
      ∙ ap (λ d. Broadcast d c.in-Broadcast.resumed.items) (same_member _ _ c.if-ne.ensures);
  done = placed c.args.number (Broadcasts c.args.condition c.in-Broadcast.resumed.items) (process_of c.args.process)
      (state_of c.args.self.now) (state_of c.place.new.self) (table_of c.broadcast.new.self)
      (subst (λ (rs : List ℕ). Allows c.args.number (Broadcasts c.args.condition rs) (table_of c.args.self.now.table)
      (table_of c.broadcast.new.self))
      c.as_slice.ensures.value (c.if-not-broadcast.ensures c.args.number)) c.in_ok-place.ensures;
}
