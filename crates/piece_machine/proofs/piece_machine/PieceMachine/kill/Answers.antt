-- Behind a kill the thread stands outside calls, and what it held is free.
use Rattle.std.proofs.Common.{◌≡◌, ◌==◌, ◌∙◌, List, Ok, length-set, slice_set, sym, ap, subst}
use Rattle.futexcalls.specs.declared.pieces.FutexPhase.{FutexPhase}
use Rattle.futexcalls.specs.declared.pieces.FutexPhase.TheVariants.{First}
use Rattle.machine.specs.PieceStates.{called}
use Rattle.machine.specs.States.{ConcreteState, thread_of}
use Rattle.machine.specs.ConcreteOutside.{kill_of}
use Rattle.machine.specs.Views.{concrete}
use Rattle.piece_machine.specs.PieceConcrete.{PieceConcrete, Outcome, pieces_at, kill_piece, killed_at}
use Rattle.piece_machine.specs.PieceViews.{PieceView, pieces, parts, kill_step, Kills, IsKept}
use Rattle.piece_machine.proofs.Killed.{kill_done, killed_parts}
use Rattle.piece_machine.proofs.Owns.{kept_by, kept_fit}
use Rattle.piece_machine.proofs.piece_machine.PieceMachine.kill.Goals as goal

pub invariant_of-self-2 : goal.invariant_of-self-2
invariant_of-self-2 c =
    let v = c.self.inside.machine in
    let v1 = c.give_up.new.machine in
    let v' = c.kill.new.self in
    let ph = c.self.inside.phases in
    let t = c.args.t in
    let event = c.kill.new.event in
    let gave = c.give_up.ensures in
    let e = c.in_ok-kill.ensures in
    let calls = subst (λ (q : PieceView). c.call_at-call.result ≡ called q.view.program t (thread_of (concrete q.view) t))
    (sym c.self.view_is) c.call_at-call.ensures in
    let k = parts (record { view = v; phases = ph }) in
    let same = killed_parts v v1 v' ph t c.call_at-call.result c.at.result c.self.invariant
    c.if-not-is_made.ensures calls c.at.ensures gave.holders gave.count e.holders in
    let r = kill_done v.program k (concrete v') t event (kept_fit v ph c.self.invariant)
    (ap (λ (q : ConcreteState). kill_of q t) (sym gave.same.1) ∙ e.done) in
    let s : Kills v.program (pieces_at k) t event (pieces (record { view = v'; phases = slice_set ph t First })) =
    subst (λ (q : PieceConcrete). Kills v.program (pieces_at k) t event (pieces_at q)) (sym same) r.0 in
    subst (λ (phs : List FutexPhase). IsKept v' phs) (sym c.put.ensures)
    (kept_by v v' ph (slice_set ph t First) (kill_step t (event.value == 1)) c.self.invariant
    (e.program ∙ gave.same.0) e.holds (length-set ph t First) s.step)

pub returns-clause-done : goal.returns-clause-done
returns-clause-done c =
    let v = c.self.inside.machine in
    let v1 = c.give_up.new.machine in
    let v' = c.kill.new.self in
    let ph = c.self.inside.phases in
    let t = c.args.t in
    let event = c.kill.new.event in
    let gave = c.give_up.ensures in
    let e = c.in_ok-kill.ensures in
    let calls = subst (λ (q : PieceView). c.call_at-call.result ≡ called q.view.program t (thread_of (concrete q.view) t))
    (sym c.self.view_is) c.call_at-call.ensures in
    let k = parts (record { view = v; phases = ph }) in
    let same = killed_parts v v1 v' ph t c.call_at-call.result c.at.result c.self.invariant
    c.if-not-is_made.ensures calls c.at.ensures gave.holders gave.count e.holders in
    subst (λ (q : PieceView). kill_piece q.view.program (parts q) t
    ≡ (let o : Outcome = Ok (parts (record { view = v'; phases = c.put.new.self }), event) in o))
    c.self.view_is
    (ap (killed_at v.program k t) (ap (λ (q : ConcreteState). kill_of q t) (sym gave.same.1) ∙ e.done)
    ∙ (λ i. Ok (sym same i, event)) ∙ (λ i. Ok (parts (record { view = v'; phases = sym c.put.ensures i }), event)))
