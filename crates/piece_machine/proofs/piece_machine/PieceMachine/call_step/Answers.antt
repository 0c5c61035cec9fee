-- A piece of the call that the thread makes.
use Rattle.std.proofs.Common.{◌≡◌, List, inl, inr, slice_set, Some, None, Ok, Err, true, sym, ap, ◌∙◌}
use Rattle.std.proofs.Common.{subst, length-set}
use Rattle.buckets.specs.Places.{names}
use Rattle.buckets.specs.Sleepers.{bucket_count}
use Rattle.futexcalls.specs.declared.pieces.FutexPhase.{FutexPhase}
use Rattle.futexcalls.specs.declared.pieces.FutexPhase.TheVariants.{First}
use Rattle.futexcalls.specs.Pieces.{held_at, takes_at, IsPhase}
use Rattle.robustexit.specs.ExitRules.{exit_of}
use Rattle.locals.specs.Looks.{Asks}
use Rattle.machine.specs.ConcretePieces.{pieces_of, MakesCall}
use Rattle.machine.specs.PieceStates.{request_of}
use Rattle.machine.specs.declared.event.StepFault.TheVariants.{CannotMove}
use Rattle.machine.specs.States.{state_of}
use Rattle.machine.specs.Views.{View, concrete, IsWellFormed}
use Rattle.isa.specs.Programs.{Program}
use Rattle.piece_machine.specs.PieceConcrete.{Outcome, pieces_at, piece_of}
use Rattle.piece_machine.specs.PieceViews.{PieceView, pieces, parts, phase_in, event_told, told_next, IsKept}
use Rattle.piece_machine.proofs.Given.{held_up}
use Rattle.piece_machine.proofs.OwnCalls.{stands_in, holds, call_blocks}
use Rattle.piece_machine.proofs.Owns.{kept_fit}
use Rattle.piece_machine.proofs.Taken.{taken_next, taken_done, kept_step}
use Rattle.piece_machine.proofs.piece_machine.PieceMachine.call_step.Goals as goal

pub take_piece-requires-clause-stands : goal.take_piece-requires-clause-stands
take_piece-requires-clause-stands c =
    let v = c.self.inside.machine in
    let ph = c.self.inside.phases in
    let m = subst (λ (q : PieceView). MakesCall q.view c.args.t c.args.call) (sym c.self.view_is) c.requires.makes in
    let at = sym (subst (λ (q : PieceView). c.args.phase ≡ phase_in q.phases c.args.t) (sym c.self.view_is)
    c.requires.phase) in
    elim (stands_in v.program (pieces_of v (phase_in ph)) c.args.t m.thread c.args.call m.go c.self.invariant.right
    m.stands m.asks) [
      | inl f ↦ inl (sym at ∙ f)
      | inr w ↦ inr (subst (λ (f : FutexPhase). IsPhase (bucket_count v.sleepers) f c.args.call) at w.0)
    ]

pub take_piece-requires-clause-held : goal.take_piece-requires-clause-held
take_piece-requires-clause-held c = λ k h.
    let v = c.self.inside.machine in
    let ph = c.self.inside.phases in
    let m = subst (λ (q : PieceView). MakesCall q.view c.args.t c.args.call) (sym c.self.view_is) c.requires.makes in
    let at = sym (subst (λ (q : PieceView). c.args.phase ≡ phase_in q.phases c.args.t) (sym c.self.view_is)
    c.requires.phase) in
    holds v.program (pieces_of v (phase_in ph)) c.args.t m.thread c.args.call m.go k c.self.invariant.right
    m.stands m.asks
    (subst (λ (f : FutexPhase). names (held_at (bucket_count v.sleepers) f (Some c.args.call)) k ≡ true) (sym at) h)

pub invariant_of-self : goal.invariant_of-self
invariant_of-self c =
    let v = c.self.inside.machine in
    let v' = c.take_piece.new.self in
    let ph = c.self.inside.phases in
    let m = subst (λ (q : PieceView). MakesCall q.view c.args.t c.args.call) (sym c.self.view_is) c.requires.makes in
    let awake : (state_of (concrete v)).asleep c.args.t ≡ None =
    subst (λ (q : PieceView). (pieces q).base.asleep c.args.t ≡ None) (sym c.self.view_is) c.requires.awake in
    let at = sym (subst (λ (q : PieceView). c.args.phase ≡ phase_in q.phases c.args.t) (sym c.self.view_is)
    c.requires.phase) in
    let e = c.in-Next.ensures in
    subst (λ (phs : List FutexPhase). IsKept v' phs) (sym c.put_from.ensures)
    (kept_step v v' ph (slice_set ph c.args.t c.in-Next.next) c.args.t _ c.self.invariant e.program
    (length-set ph c.args.t c.in-Next.next)
    (taken_next v v' ph c.args.t c.args.call c.args.phase c.in-Next.next
    c.take_piece.new.event c.self.invariant m
    c.if-not-has_words.ensures awake at e.order (e.piece (phase_in ph) m.thread at m.stands)))

pub returns-in-Next-clause-done : goal.returns-in-Next-clause-done
returns-in-Next-clause-done c =
    let v = c.self.inside.machine in
    let v' = c.take_piece.new.self in
    let ph = c.self.inside.phases in
    let m = subst (λ (q : PieceView). MakesCall q.view c.args.t c.args.call) (sym c.self.view_is) c.requires.makes in
    let awake : (state_of (concrete v)).asleep c.args.t ≡ None =
    subst (λ (q : PieceView). (pieces q).base.asleep c.args.t ≡ None) (sym c.self.view_is) c.requires.awake in
    let at = sym (subst (λ (q : PieceView). c.args.phase ≡ phase_in q.phases c.args.t) (sym c.self.view_is)
    c.requires.phase) in
    let e = c.in-Next.ensures in
    let told : told_next (takes_at (bucket_count v.sleepers) c.args.phase c.args.call) c.args.call
    ≡ event_told c.tell.result c.take_piece.new.event =
    ap (λ o. told_next o c.args.call) (sym c.next_bucket-bucket.ensures) ∙ sym (c.tell.ensures c.take_piece.new.event) in
    subst (λ (q : PieceView). piece_of q.view.program (parts q) c.args.t
    ≡ (let o : Outcome = Ok (parts (record { view = v'; phases = c.put_from.new.self }), event_told c.tell.result c.take_piece.new.event)
    in o)) c.self.view_is
    (taken_next v v' ph c.args.t c.args.call c.args.phase c.in-Next.next
    c.take_piece.new.event c.self.invariant m
    c.if-not-has_words.ensures awake at e.order (e.piece (phase_in ph) m.thread at m.stands)
    ∙ (λ i. Ok (parts (record { view = v'; phases = sym c.put_from.ensures i }), told i)))

pub invariant_of-self-in-Blocked : goal.invariant_of-self-in-Blocked
invariant_of-self-in-Blocked c =
    let v = c.self.inside.machine in
    let ph = c.self.inside.phases in
    let m = subst (λ (q : PieceView). MakesCall q.view c.args.t c.args.call) (sym c.self.view_is) c.requires.makes in
    let at = sym (subst (λ (q : PieceView). c.args.phase ≡ phase_in q.phases c.args.t) (sym c.self.view_is)
    c.requires.phase) in
    subst (λ (q : View). IsKept q ph) (sym (c.in-Blocked.ensures.piece (phase_in ph) m.thread at m.stands).1)
    c.self.invariant

pub returns-in-Blocked-clause-err : goal.returns-in-Blocked-clause-err
returns-in-Blocked-clause-err c =
    let v = c.self.inside.machine in
    let ph = c.self.inside.phases in
    let m = subst (λ (q : PieceView). MakesCall q.view c.args.t c.args.call) (sym c.self.view_is) c.requires.makes in
    let at = sym (subst (λ (q : PieceView). c.args.phase ≡ phase_in q.phases c.args.t) (sym c.self.view_is)
    c.requires.phase) in
    let awake : (state_of (concrete v)).asleep c.args.t ≡ None =
    subst (λ (q : PieceView). (pieces q).base.asleep c.args.t ≡ None) (sym c.self.view_is) c.requires.awake in
    let b = c.in-Blocked.ensures.piece (phase_in ph) m.thread at m.stands in
    let k = parts (record { view = v; phases = ph }) in (
      subst (λ (q : PieceView). piece_of q.view.program (parts q) c.args.t ≡ (let o : Outcome = Err CannotMove in o))
          c.self.view_is
          (held_up v.program k c.args.t m.thread (Asks (request_of c.args.call) m.go) (kept_fit v ph c.self.invariant)
          (m.stands, awake) m.asks
          (call_blocks (exit_of v.program.version) (pieces_at k) c.args.t c.args.call m.go b.0)),
      (λ i. record { view = b.1 i; phases = ph }) ∙ c.self.view_is,
    )

pub invariant_of-self-in-Done : goal.invariant_of-self-in-Done
invariant_of-self-in-Done c =
    let v = c.self.inside.machine in
    let v' = c.take_piece.new.self in
    let ph = c.self.inside.phases in
    let m = subst (λ (q : PieceView). MakesCall q.view c.args.t c.args.call) (sym c.self.view_is) c.requires.makes in
    let awake : (state_of (concrete v)).asleep c.args.t ≡ None =
    subst (λ (q : PieceView). (pieces q).base.asleep c.args.t ≡ None) (sym c.self.view_is) c.requires.awake in
    let at = sym (subst (λ (q : PieceView). c.args.phase ≡ phase_in q.phases c.args.t) (sym c.self.view_is)
    c.requires.phase) in
    let e = c.in-Done.ensures in
    subst (λ (phs : List FutexPhase). IsKept v' phs) (sym c.put_from-in-Done.ensures)
    (kept_step v v' ph (slice_set ph c.args.t First) c.args.t c.take_piece.new.event c.self.invariant e.program
    (length-set ph c.args.t First)
    (taken_done v v' ph c.args.t c.args.call c.args.phase c.take_piece.new.event c.self.invariant m
    c.if-not-has_words.ensures awake at (subst (λ (p : Program). IsWellFormed p (concrete v')) e.program e.holds) e.order
    (e.piece (phase_in ph) m.thread at m.stands)))

pub returns-in-Done-clause-done : goal.returns-in-Done-clause-done
returns-in-Done-clause-done c =
    let v = c.self.inside.machine in
    let v' = c.take_piece.new.self in
    let ph = c.self.inside.phases in
    let m = subst (λ (q : PieceView). MakesCall q.view c.args.t c.args.call) (sym c.self.view_is) c.requires.makes in
    let awake : (state_of (concrete v)).asleep c.args.t ≡ None =
    subst (λ (q : PieceView). (pieces q).base.asleep c.args.t ≡ None) (sym c.self.view_is) c.requires.awake in
    let at = sym (subst (λ (q : PieceView). c.args.phase ≡ phase_in q.phases c.args.t) (sym c.self.view_is)
    c.requires.phase) in
    let e = c.in-Done.ensures in
    subst (λ (q : PieceView). piece_of q.view.program (parts q) c.args.t
    ≡ (let o : Outcome = Ok (parts (record { view = v'; phases = c.put_from-in-Done.new.self }), c.take_piece.new.event)
    in o)) c.self.view_is
    (taken_done v v' ph c.args.t c.args.call c.args.phase c.take_piece.new.event c.self.invariant m
    c.if-not-has_words.ensures awake at (subst (λ (p : Program). IsWellFormed p (concrete v')) e.program e.holds) e.order
    (e.piece (phase_in ph) m.thread at m.stands)
    ∙ (λ i. Ok (parts (record { view = v'; phases = sym c.put_from-in-Done.ensures i }), c.take_piece.new.event)))
