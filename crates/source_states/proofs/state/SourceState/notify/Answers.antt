use Rattle.std.proofs.Common.{List, ℕ, refl, ap, subst, ◌∙◌}
use Rattle.meaning.specs.Labels.{Notifies, Notify}
use Rattle.meaning.specs.Offers.{NotifiesSome, Nothing}
use Rattle.meaning.specs.Table.{Table, Allows}
use Rattle.source_offers.specs.Stages.{process_of}
use Rattle.source_table.specs.Tables.{table_of}
use Rattle.source_states.specs.Actions.{kind_of}
use Rattle.source_states.specs.States.{state_of}
use Rattle.source_states.specs.Taken.{IsTakenUp}
use Rattle.source_states.proofs.Takes.{placed, same_member, no_notify}
use Rattle.source_states.proofs.state.SourceState.notify.Goals as goal

pub returns-then-not-notify : goal.returns-then-not-notify
returns-then-not-notify c = λ u r.
    no_notify c.args.number c.args.condition c.in-Notify.resumed.items (process_of c.args.process)
    (state_of c.args.self.now)
    (subst (λ (rs : List ℕ). (t : Table)
    → Allows c.args.number (Notifies c.args.condition rs) (table_of c.args.self.now.table) t → ⊥)
    c.as_slice.ensures.value (c.if-not-notify.ensures c.args.number).0) u
    (subst (λ k. IsTakenUp c.args.number k (NotifiesSome c.args.condition (process_of c.args.process))
    (state_of c.args.self.now) u)
    (ap kind_of c.in-Notify.is ∙ ap (λ d. Notify d c.in-Notify.resumed.items) (same_member _ _ c.if-ne.ensures)) r)

pub returns : goal.returns
returns c = record {
  label = Notifies c.args.condition c.in-Notify.resumed.items;
  effect = Nothing;
  after = process_of c.args.process;
  takes = (c.in-Notify.resumed.items, refl, refl, refl);
  named = ap kind_of c.in-Notify.is
      ∙ ap (λ d. Notify d c.in-Notify.resumed.items) (same_member _ _ c.if-ne.ensures);
  done = placed c.args.number (Notifies c.args.condition c.in-Notify.resumed.items) (process_of c.args.process)
      (state_of c.args.self.now) (state_of c.place.new.self) (table_of c.notify.new.self)
      (subst (λ (rs : List ℕ). Allows c.args.number (Notifies c.args.condition rs) (table_of c.args.self.now.table)
      (table_of c.notify.new.self))
      c.as_slice.ensures.value (c.if-not-notify.ensures c.args.number)) c.in_ok-place.ensures;
}
