-- A step of a thread's own is one of the machine with pieces.
use Rattle.std.proofs.Common.{◌≡◌, ℕ, ◌<◌, ◌%◌, Option, Some, None, List, [], ◌∷◌, ◌++◌, length, slice_set}
use Rattle.std.proofs.Common.{refl, sym, ap, ◌∙◌, inl, inr, subst, arith}
use Rattle.std.specs.Prelude.{slice_index_or}
use Rattle.std.proofs.Math.Path.{fun_ext}
use Rattle.std.proofs.lemmas.Bool.{cases_eq}
use Rattle.std.proofs.lemmas.List.{get_or-set_same, get_or-set_other}
use Rattle.isa.specs.Programs.{Program}
use Rattle.words.specs.Updates.{put}
use Rattle.futexcalls.specs.declared.pieces.FutexPhase.{FutexPhase}
use Rattle.futexcalls.specs.declared.pieces.FutexPhase.TheVariants.{First}
use Rattle.futexcalls.proofs.SameHolders.{same_count, same_holders}
use Rattle.robustexit.specs.ExitRules.{exit_of}
use Rattle.locals.specs.Threads.{Thread}
use Rattle.locals.specs.Looks.{Look, Goes, Asks, Leaves, Breaks, Rests, look}
use Rattle.machine.specs.States.{ConcreteState, State, state_of, thread_of}
use Rattle.machine.specs.Runs.{Moves, Step}
use Rattle.machine.specs.ConcretePieces.{pieces_of}
use Rattle.machine.specs.PieceStates.{PieceState, call_at, IsHeldRight, opening_pieces}
use Rattle.machine.specs.PieceSteps.{Piece, IsLocal, IsPlain, IsExit, BlocksAt, IsPieceStep, GoesByPieces}
use Rattle.machine.specs.Views.{View, concrete, IsWellFormed}
use Rattle.machine.proofs.Placing.{put-here, put-there}
use Rattle.machine.proofs.Landing.{has_place}
use Rattle.piece_machine.proofs.OwnCalls.{call_back}
use Rattle.proof_pieces.proofs.Runs.{held_kept}
use Rattle.piece_machine.specs.PieceConcrete.{PieceConcrete, pieces_at}
use Rattle.piece_machine.specs.PieceDetermined.{IsFit}
use Rattle.piece_machine.specs.PieceViews.{phase_in, parts, IsKept}

inside : (x y : Thread) → Some x ≡ Some y → x ≡ y
inside x y h = cc

-- a thread that makes no call stands outside calls
pub apart_first : (p : Program) (s : PieceState) (t : ℕ) (x : Thread) → IsHeldRight p s → s.base.thread t ≡ Some x
    → call_at (look p t x) ≡ None → s.phase t ≡ First
apart_first p s t x right stands none = elim (right.apart t) [
  | inl f ↦ f
  | inr w ↦
      let same : x ≡ w.thread = inside x w.thread (sym stands ∙ w.stands) in
      let e : None ≡ Some w.call = sym none ∙ ap (λ y. call_at (look p t y)) same ∙ ap call_at w.asks
      ∙ call_back w.call in
      absurd cc
]

-- a bucket that nobody is known to hold is free
free_of : (o : Option ℕ) → ((u : ℕ) → o ≡ Some u → ⊥) → o ≡ None
free_of None h = refl
free_of (Some u) h = absurd (h u refl)

-- what is put where it stood already changes nothing
unput : (f : ℕ → FutexPhase) (t : ℕ) (c : FutexPhase) → c ≡ f t → (u : ℕ) → put f t c u ≡ f u
unput f t c e u = elim (cases_eq u t) [
  | inl q ↦ put-here f t c u q ∙ e ∙ ap f (sym q)
  | inr ne ↦ put-there f t c u ne
]

-- a thread that stays outside calls
outside : (k : PieceConcrete) (c : ConcreteState) (t : ℕ) (b : State) → k.phase t ≡ First → state_of c ≡ b
    → pieces_at (record k { concrete = c })
    ≡ record (pieces_at k) { base = b; phase = put k.phase t First; holder = k.holder }
outside k c t b at state = λ i. record {
  base = state i;
  phase = sym (fun_ext (unput k.phase t First (sym at))) i;
  holder = k.holder;
  buckets = k.buckets;
}

-- such a step as a piece
pub whole_is_piece : (p : Program) (k : PieceConcrete) (c : ConcreteState) (t : ℕ) (x : Thread) (woken : List ℕ) (l : Look)
    → look p t x ≡ l → Moves (exit_of p.version) (state_of k.concrete) t woken l (state_of c) → call_at l ≡ None
    → (BlocksAt (exit_of p.version) (pieces_at k) t l → ⊥) → k.phase t ≡ First
    → Piece p (pieces_at k) t x woken (pieces_at (record k { concrete = c }))
whole_is_piece p k c t x woken (Goes y) is h none free at = IsLocal y is at h.0 (outside k c t _ at h.1)
whole_is_piece p k c t x woken (Asks request go) is h none free at =
    IsPlain request go h.0 h.1 is none at h.2 (outside k c t _ at h.3)
whole_is_piece p k c t x woken (Leaves phase) is h none free at =
    IsExit phase h.0 h.1 is at h.2 (λ a w. free_of (k.holder (a % k.buckets)) (λ u e. free (a, u, w, e)))
    (outside k c t _ at h.3)
whole_is_piece p k c t x woken Breaks is h none free at = absurd h
whole_is_piece p k c t x woken Rests is h none free at = absurd h

-- what always holds, of what is kept
pub kept_fit : (v : View) (phases : List FutexPhase) → IsKept v phases
    → IsFit v.program (parts (record { view = v; phases = phases }))
kept_fit v phases kept = record { well = kept.well; right = kept.right }

-- the holders are as before
pub same_parts : (v v' : View) (phases : List FutexPhase) → v'.sleepers.holders ≡ v.sleepers.holders
    → parts (record { view = v'; phases = phases })
    ≡ record (parts (record { view = v; phases = phases })) { concrete = concrete v' }
same_parts v v' phases holders = λ i. record {
  concrete = concrete v';
  phase = phase_in phases;
  holder = same_holders v.sleepers v'.sleepers holders i;
  buckets = same_count v.sleepers v'.sleepers holders i;
}

-- the phase of one thread changes
pub phase_put : (phases : List FutexPhase) (t : ℕ) (phase : FutexPhase) → t < length phases
    → phase_in (slice_set phases t phase) ≡ put (phase_in phases) t phase
phase_put phases t phase l = fun_ext (λ u. elim (cases_eq u t) [
  | inl e ↦ ap (λ j. slice_index_or (slice_set phases t phase) j First) e ∙ get_or-set_same phases t phase First l
      ∙ sym (put-here (phase_in phases) t phase u e)
  | inr ne ↦ get_or-set_other phases t u phase First ne ∙ sym (put-there (phase_in phases) t phase u ne)
])

-- a run and one step more
pub goes_more : (p : Program) (s mid s' : PieceState) (steps : List Step) (step : Step) → GoesByPieces p s steps mid
    → IsPieceStep p mid step s' → GoesByPieces p s (steps ++ step ∷ []) s'
goes_more p s mid s' [] step h one =
    (s', subst (λ (q : PieceState). IsPieceStep p q step s') (sym h) one, refl)
goes_more p s mid s' (first ∷ steps) step h one =
    (h.0, h.1, goes_more p h.0 mid s' steps step h.2 one)

-- a step keeps what always holds
pub kept_by : (v v' : View) (phases phases' : List FutexPhase) (step : Step) → IsKept v phases
    → v'.program ≡ v.program → IsWellFormed v'.program (concrete v') → length phases' ≡ length phases
    → IsPieceStep v.program (pieces_of v (phase_in phases)) step (pieces_of v' (phase_in phases')) → IsKept v' phases'
kept_by v v' phases phases' step kept same well long moves = record {
  well = well;
  right = rw same (held_kept v.program (pieces_of v (phase_in phases)) (pieces_of v' (phase_in phases')) step
      kept.right moves);
  come = rw same (record {
    buckets = kept.come.buckets;
    some = kept.come.some;
    steps = kept.come.steps ++ step ∷ [];
    run = goes_more v.program (opening_pieces v.program kept.come.buckets) (pieces_of v (phase_in phases))
        (pieces_of v' (phase_in phases')) kept.come.steps step kept.come.run moves;
  });
  long = omega (arith, long, kept.long);
}

-- a thread that was made has a phase
pub has_phase : (v : View) (phases : List FutexPhase) (t : ℕ) (x : Thread) → IsKept v phases
    → thread_of (concrete v) t ≡ Some x → t < length phases
has_phase v phases t x kept stands =
    let place = has_place v.program (concrete v) t x kept.well stands in
    omega (arith, place.few, kept.well.few, kept.well.fits, kept.long)
