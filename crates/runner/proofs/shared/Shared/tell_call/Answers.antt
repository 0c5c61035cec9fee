-- The log has one entry more, or nothing has changed.
use Rattle.std.proofs.Common.{◌≡◌, true, ◌≤◌, ◌<◌, ◌+◌, ◌-◌, [], ◌∷◌, ℕ, length, length-append, ap, refl, sym, subst, ◌∙◌, arith}
use Rattle.std.proofs.Common.{IfOk, List, ◌++◌}
use Rattle.std.proofs.lemmas.Result.{IfOk-weaker, on_ok_weaker}
use Rattle.isa.specs.Programs.{Program}
use Rattle.machine.specs.ConcreteSteps.{can_move}
use Rattle.machine.specs.declared.event.Entry.{Entry}
use Rattle.piece_machine.specs.PieceViews.{parts}
use Rattle.runner.specs.Attempts.{TriedSo}
use Rattle.runner.specs.Legal.{IsLegal}
use Rattle.runner.specs.Logs.{EntersOwn, cost, event_cost}
use Rattle.runner.specs.Orders.{HasMade}
use Rattle.runner.specs.Reports.{IsNextEntry}
use Rattle.runner.specs.Views.{LogState, SharedView, log_state}
use Rattle.runner.specs.Walks.{EndsWalk}
use Rattle.runner.specs.declared.attempt.Attempt.{Attempt}
use Rattle.runner.proofs.Callings.{none_not, on_made}
use Rattle.runner.proofs.Growing.{breaks_can, cost_more, cost_small, event_byte, keeps_entry}
use Rattle.runner.proofs.Noting.{made_so, wants_at}
use Rattle.runner.proofs.Ordering.{next_costs}
use Rattle.runner.proofs.Passing.{mover_number}
use Rattle.runner.proofs.Unrolling.{holds}
use Rattle.runner.proofs.shared.Shared.tell_call.Goals as goal

pub take_call-requires-clause-number : goal.take_call-requires-clause-number
take_call-requires-clause-number g c =
    let s = c.self.inside in
    let moves = subst (λ (x : SharedView). can_move (log_state x).concrete.concrete c.args.t ≡ true) (sym c.self.view_is)
    c.requires.thread in
    mover_number g.J.RunName.program (parts s.machine) c.args.t
    (holds g.J.RunName.program s.log.items (parts s.machine) c.self.invariant.0.legal) moves

pub invariant_of-self-in-Ok : goal.invariant_of-self-in-Ok
invariant_of-self-in-Ok g c =
    let s = c.self.inside in
    let m = c.make_room in
    let e = c.take_call in
    let p = g.J.RunName.program in
    let may = g.J.RunName.outside in
    let q = s.machine.view.program in
    let k = parts s.machine in
    let new = parts e.new.machine in
    let limit = g.J.RunName.limit in
    let room = subst (λ (x : SharedView). cost x.log + 257 ≤ limit) (sym c.self.view_is) c.requires.room in
    let counted = c.self.invariant.1 in
    let ended : EndsWalk q k c.args.t 0 m.new.self.items new e.new.log.items c.in-Ok.steps e.new.told = c.in-Ok.ensures.ends in
    let one : Entry = ended.entry in
    let grows = ap length ended.grows in (
      subst (λ (n : ℕ). IsLegal p may limit e.new.machine.view.program new e.new.log.items (s.left - n) s.limit s.kills)
          (sym ended.costs)
          (keeps_entry p may q q e.new.machine.view.program limit k k new s.log.items m.new.self.items e.new.log.items one
          s.left s.limit s.kills (event_cost one.event) c.self.invariant.0 room refl refl m.ensures.same
          c.in-Ok.ensures.program ended.enters (omega (arith, ended.local)) ended.grows (event_byte one.event)),
      record {
        total = omega (
          arith,
          c.count_one.ensures.total,
          counted.total,
          grows,
          ap length m.ensures.same,
          length-append m.new.self.items (one ∷ []),
        );
        whole = counted.whole;
        unused = counted.unused;
        parts = counted.parts;
      },
    )

pub returns-in-Ok-clause-err : goal.returns-in-Ok-clause-err
returns-in-Ok-clause-err g c =
    let s = c.self.inside in
    let q = s.machine.view.program in
    let k = parts s.machine in
    let moves = subst (λ (x : SharedView). can_move (log_state x).concrete.concrete c.args.t ≡ true) (sym c.self.view_is)
    c.requires.thread in
    breaks_can g.J.RunName.program g.J.RunName.outside q q g.J.RunName.limit k k s.log.items s.left s.limit s.kills
    c.args.t 0 c.take_call.new.told c.self.invariant.0 refl refl moves (omega arith) c.in-Ok.ensures.breaks

pub returns-in-Ok-clause-made : goal.returns-in-Ok-clause-made
returns-in-Ok-clause-made g c =
    let s = c.self.inside in
    let m = c.make_room in
    let e = c.take_call in
    let ended : EndsWalk s.machine.view.program (parts s.machine) c.args.t 0 m.new.self.items (parts e.new.machine)
    e.new.log.items c.in-Ok.steps e.new.told = c.in-Ok.ensures.ends in
    let one : Entry = ended.entry in
    let costs : cost e.new.log.items ≡ cost m.new.self.items + (one.local + event_cost one.event) =
    ap cost ended.grows ∙ cost_more m.new.self.items one.thread one.local one.event in
    let before : cost m.new.self.items ≡ cost c.args.self.now.log =
    ap cost m.ensures.same ∙ ap (λ (v : SharedView). cost v.log) c.self.view_is in
    on_made _ e.new.told (on_ok_weaker {Q = cost c.args.self.now.log < cost e.new.log.items} e.new.told
    (λ next. omega (
      arith,
      next_costs s.machine.view.program (parts s.machine) c.args.t one.local one.event next,
      costs,
      before,
    )) ended.next)

pub returns-in-Ok-clause-entry : goal.returns-in-Ok-clause-entry
returns-in-Ok-clause-entry g c =
    let p = g.J.RunName.program in
    let s = c.self.inside in
    let m = c.make_room in
    let e = c.take_call in
    let t = c.args.t in
    let q = s.machine.view.program in
    let k = parts s.machine in
    let new : LogState = record { log = e.new.log.items; concrete = parts e.new.machine } in
    let ended : EndsWalk q k t 0 m.new.self.items (parts e.new.machine) e.new.log.items c.in-Ok.steps e.new.told =
    c.in-Ok.ensures.ends in
    let one : Entry = ended.entry in
    let moves = subst (λ (x : SharedView). can_move (log_state x).concrete.concrete t ≡ true) (sym c.self.view_is)
    c.requires.thread in
    on_made _ e.new.told (on_ok_weaker {P = IsNextEntry q k t one.local one.event}
    {Q = HasMade p t (log_state c.args.self.now) new} e.new.told
    (λ next. subst (λ (x : SharedView). HasMade p t (log_state x) new) c.self.view_is (
      one,
      ended.own,
      moves,
      subst (λ (x : Program). IsNextEntry x k t one.local one.event) c.self.invariant.0.program next,
      ended.grows ∙ ap (λ (l : List Entry). l ++ one ∷ []) m.ensures.same,
    )) ended.next)

pub returns-in-Ok-clause-none : goal.returns-in-Ok-clause-none
returns-in-Ok-clause-none g c = none_not _ c.take_call.new.told c.in-Ok.ensures.ends.made

pub returns-in-Ok-clause-tried : goal.returns-in-Ok-clause-tried
returns-in-Ok-clause-tried g c =
    let p = g.J.RunName.program in
    let s = c.self.inside in
    let e = c.take_call in
    let t = c.args.t in
    let k = parts s.machine in
    let new = parts e.new.machine in
    let ended : EndsWalk s.machine.view.program k t 0 c.make_room.new.self.items new e.new.log.items c.in-Ok.steps e.new.told
    = c.in-Ok.ensures.ends in
    let enters = subst (λ (x : Program). EntersOwn x k ended.entry new) c.self.invariant.0.program ended.enters in
    subst (λ (x : SharedView). IfOk e.new.told (λ (a : Attempt). TriedSo p (log_state x).concrete t a new)) c.self.view_is
    (IfOk-weaker e.new.told _ (λ (a : Attempt). TriedSo p k t a new)
    (λ a h. made_so p k new t a h.0 h.1 (ended.entry, ended.own, enters)) ended.made)

pub returns-in-Ok-clause-within : goal.returns-in-Ok-clause-within
returns-in-Ok-clause-within g c =
    let s = c.self.inside in
    let m = c.make_room in
    let e = c.take_call in
    let ended : EndsWalk s.machine.view.program (parts s.machine) c.args.t 0 m.new.self.items (parts e.new.machine)
    e.new.log.items c.in-Ok.steps e.new.told = c.in-Ok.ensures.ends in
    let one : Entry = ended.entry in
    let costs : cost e.new.log.items ≡ cost m.new.self.items + (one.local + event_cost one.event) =
    ap cost ended.grows ∙ cost_more m.new.self.items one.thread one.local one.event in
    let before : cost m.new.self.items ≡ cost c.args.self.now.log =
    ap cost m.ensures.same ∙ ap (λ (v : SharedView). cost v.log) c.self.view_is in
    omega (arith, costs, before, ended.local, cost_small one.event, c.requires.room)

pub returns-in-Err-clause-tried : goal.returns-in-Err-clause-tried
returns-in-Err-clause-tried g c =
    let q = c.self.inside.machine.view.program in
    let e = c.take_call in
    c.attempt.ensures.tried g.J.RunName.program (log_state c.args.self.now).concrete (parts e.new.machine) c.args.t
    (wants_at g.J.RunName.program q q (parts c.self.inside.machine)
    (parts e.new.machine) c.args.t c.in-Err.obstacle c.self.invariant.0.program refl c.in-Err.ensures.held.0
    c.in-Err.ensures.wants)
