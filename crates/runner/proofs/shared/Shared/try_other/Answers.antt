-- The log has one entry more, or nothing has changed.
use Rattle.std.proofs.Common.{◌≡◌, true, ◌≤◌, ◌<◌, ◌+◌, ◌++◌, [], ◌∷◌, List, length, length-append, ap, refl, sym, subst, ◌∙◌, arith}
use Rattle.isa.specs.Programs.{Program}
use Rattle.piece_machine.specs.PieceConcrete.{PieceConcrete}
use Rattle.piece_machine.specs.PieceViews.{parts}
use Rattle.machine.specs.declared.event.Entry.{Entry}
use Rattle.runner.specs.Logs.{cost, event_cost}
use Rattle.runner.specs.Entries.{taken_entry, taken_event}
use Rattle.machine.specs.ConcreteSteps.{can_move}
use Rattle.runner.specs.Views.{LogState, SharedView, log_state}
use Rattle.runner.specs.Orders.{HasMade}
use Rattle.runner.specs.Reports.{CanFail, IsNextEntry}
use Rattle.runner.specs.declared.attempt.Attempt.{Attempt}
use Rattle.runner.specs.Attempts.{HasEntered, TriedSo}
use mir.Val.{bool_byte}
use Rattle.runner.proofs.Callings.{on_made}
use Rattle.runner.proofs.Growing.{breaks_can, cost_more, keeps_entry}
use Rattle.runner.proofs.Noting.{made_so, wants_at}
use Rattle.runner.proofs.Ordering.{next_costs}
use Rattle.runner.proofs.Walking.{and_err, and_on}
use Rattle.runner.proofs.Wanting.{and_ok, entered_so}
use Rattle.runner.proofs.shared.Shared.try_other.Goals as goal

pub invariant_of-self-in-Ok : goal.invariant_of-self-in-Ok
invariant_of-self-in-Ok g c =
    let s = c.self.inside in
    let m = c.make_room in
    let e = c.take_if_free in
    let taken = c.in-Ok.taken in
    let limit = g.J.RunName.limit in
    let room = subst (λ (x : SharedView). cost x.log + 257 ≤ limit) (sym c.self.view_is) c.requires.room in
    let counted = c.self.invariant.1 in
    let grows = ap length c.push_taken.ensures in
    let entry : Entry = taken_entry c.args.t taken e.new.event in (
      keeps_entry g.J.RunName.program g.J.RunName.outside s.machine.view.program m.new.machine.view.program
          e.new.machine.view.program limit (parts s.machine) (parts m.new.machine)
          (parts e.new.machine) s.log.items m.new.log.items c.push_taken.new.log.items entry s.left
          s.limit s.kills c.from.result
          c.self.invariant.0 room m.ensures.program m.ensures.same.0 m.ensures.same.1 c.in-Ok.ensures.program
          c.in-Ok.ensures.enters c.in-Ok.ensures.turn c.push_taken.ensures (c.from.ensures ∙ ap bool_byte (c.is_shared.ensures e.new.event)),
      record {
        total = omega (
          arith,
          c.count_one.ensures.total,
          counted.total,
          grows,
          ap length m.ensures.same.1,
          length-append m.new.log.items (entry ∷ []),
        );
        whole = counted.whole;
        unused = counted.unused;
        parts = counted.parts;
      },
    )

pub returns-in-Ok-clause-err : goal.returns-in-Ok-clause-err
returns-in-Ok-clause-err g c =
    let s = c.self.inside in
    let m = c.make_room in
    let e = c.take_if_free in
    let moves = subst (λ (x : SharedView). can_move (log_state x).concrete.concrete c.args.t ≡ true) (sym c.self.view_is)
    c.requires.thread in
    and_err (λ fault. CanFail g.J.RunName.program g.J.RunName.outside g.J.RunName.limit fault) c.in-Ok.outcome c.attempt_of-attempt.result c.and.result
    c.and.ensures
    (breaks_can g.J.RunName.program g.J.RunName.outside s.machine.view.program m.new.machine.view.program
    g.J.RunName.limit (parts s.machine) (parts m.new.machine) s.log.items s.left s.limit s.kills c.args.t
    c.in-Ok.taken.local c.in-Ok.outcome c.self.invariant.0 m.ensures.program m.ensures.same.0 moves c.in-Ok.ensures.turn
    c.in-Ok.ensures.breaks)

pub returns-in-Ok-clause-made : goal.returns-in-Ok-clause-made
returns-in-Ok-clause-made g c =
    let m = c.make_room in
    let taken = c.in-Ok.taken in
    let event = taken_event taken.behind c.take_if_free.new.event in
    let q = m.new.machine.view.program in
    let costs : cost c.push_taken.new.log.items ≡ cost m.new.log.items + (taken.local + event_cost event) =
    ap cost c.push_taken.ensures ∙ cost_more m.new.log.items c.args.t taken.local event in
    let before : cost m.new.log.items ≡ cost c.args.self.now.log =
    ap cost m.ensures.same.1 ∙ ap (λ (v : SharedView). cost v.log) c.self.view_is in
    on_made _ c.and.result (and_on (IsNextEntry q (parts m.new.machine) c.args.t taken.local event)
    (cost c.args.self.now.log < cost c.push_taken.new.log.items)
    c.in-Ok.outcome c.attempt_of-attempt.result c.and.result c.and.ensures c.in-Ok.ensures.next
    (λ next. omega (arith, next_costs q (parts m.new.machine) c.args.t taken.local event next, costs, before)))

pub returns-in-Ok-clause-entry : goal.returns-in-Ok-clause-entry
returns-in-Ok-clause-entry g c =
    let p = g.J.RunName.program in
    let s = c.self.inside in
    let m = c.make_room in
    let e = c.take_if_free in
    let t = c.args.t in
    let taken = c.in-Ok.taken in
    let event = taken_event taken.behind e.new.event in
    let q = m.new.machine.view.program in
    let one : Entry = taken_entry t taken e.new.event in
    let new : LogState = record { log = c.push_taken.new.log.items; concrete = parts e.new.machine } in
    let moves = subst (λ (x : SharedView). can_move (log_state x).concrete.concrete t ≡ true) (sym c.self.view_is)
    c.requires.thread in
    on_made _ c.and.result (and_on (IsNextEntry q (parts m.new.machine) t taken.local event)
    (HasMade p t (log_state c.args.self.now) new)
    c.in-Ok.outcome c.attempt_of-attempt.result c.and.result c.and.ensures c.in-Ok.ensures.next
    (λ next. subst (λ (x : SharedView). HasMade p t (log_state x) new) c.self.view_is (
      one,
      refl,
      moves,
      subst (λ (x : Program). IsNextEntry x (parts s.machine) t taken.local event)
          (m.ensures.program ∙ c.self.invariant.0.program)
          (subst (λ (x : PieceConcrete). IsNextEntry q x t taken.local event) m.ensures.same.0 next),
      c.push_taken.ensures ∙ ap (λ (l : List Entry). l ++ one ∷ []) m.ensures.same.1,
    )))

pub returns-in-Ok-clause-tried : goal.returns-in-Ok-clause-tried
returns-in-Ok-clause-tried g c =
    let p = g.J.RunName.program in
    let s = c.self.inside in
    let m = c.make_room in
    let e = c.take_if_free in
    and_ok (λ (a : Attempt). TriedSo p (log_state c.args.self.now).concrete c.args.t a (parts e.new.machine)) c.in-Ok.outcome
    c.attempt_of-attempt.result c.and.result c.and.ensures
    (made_so p (log_state c.args.self.now).concrete (parts e.new.machine) c.args.t c.attempt_of-attempt.result
    c.attempt_of-attempt.ensures.made c.attempt_of-attempt.ensures.other
    (subst (λ (x : SharedView). HasEntered p (log_state x).concrete c.args.t (parts e.new.machine)) c.self.view_is
    (entered_so p s.machine.view.program m.new.machine.view.program (parts s.machine) (parts m.new.machine)
    (parts e.new.machine) c.args.t c.in-Ok.taken e.new.event c.self.invariant.0.program m.ensures.program m.ensures.same.0
    c.in-Ok.ensures.enters)))

pub returns-in-Err-clause-tried : goal.returns-in-Err-clause-tried
returns-in-Err-clause-tried g c =
    let m = c.make_room in
    let e = c.take_if_free in
    c.attempt.ensures.tried g.J.RunName.program (log_state c.args.self.now).concrete (parts e.new.machine) c.args.t
    (wants_at g.J.RunName.program c.self.inside.machine.view.program m.new.machine.view.program (parts m.new.machine)
    (parts e.new.machine) c.args.t c.in-Err.obstacle c.self.invariant.0.program m.ensures.program c.in-Err.ensures.held.0
    c.in-Err.ensures.wants)
