-- Runs in pieces are runs of whole steps.
use Rattle.std.proofs.Common.{◌≡◌, ◌⊎◌, ℕ, ◌+◌, ◌<◌, ◌==◌, inl, inr, Option, Some, None, List, [], ◌∷◌, refl, ap, subst}
use Rattle.std.proofs.Common.{◌∙◌, sym, Bool, true, false, arith}
use Rattle.std.specs.Prelude.{if◌then◌else◌, MatchBool}
use Rattle.std.proofs.lemmas.Bool.{eqb-true}
use Rattle.isa.specs.Programs.{Program}
use Rattle.futexcalls.specs.declared.pieces.FutexPhase.TheVariants.{First}
use Rattle.locals.specs.Threads.{Thread}
use Rattle.machine.specs.States.{State, opening_state}
use Rattle.machine.specs.Runs.{Step, Doing, Own, Strayed, Killed, is_own}
use Rattle.machine.specs.PieceStates.{PieceState, IsHeldRight, opening_pieces}
use Rattle.machine.specs.PieceSteps.{IsOwnPiece, IsPieceDone, IsPieceStep, GoesByPieces, PieceRun}
use Rattle.proof_pieces.specs.Silence.{IsHushed, IsHeard, whole_step, is_silent, piece_answer}
use Rattle.proof_pieces.specs.Traces.{TraceStep, Loud, Silent, Trace, KeepsTime, none_taken, taken}
use Rattle.proof_pieces.specs.Whole.{whole, whole_at}
use Rattle.proof_pieces.specs.WholeCalls.{IsWholeDone}
use Rattle.proof_pieces.proofs.Held.{piece_kept}
use Rattle.proof_pieces.proofs.Outside.{strays_kept, strays_both, kills_kept, kills_both}
use Rattle.proof_pieces.proofs.Reduces.{Reduced, piece_so}

done_kept : (p : Program) (s s' : PieceState) (step : Step) (d : Doing) → IsHeldRight p s → IsPieceDone p s step s' d
    → IsHeldRight p s'
done_kept p s s' step Own right h =
    piece_kept p s s' step.thread h.thread step.woken right h.stands h.awake h.piece
done_kept p s s' step (Strayed a) right h = strays_kept p a s s' step right h
done_kept p s s' step (Killed begins) right h = kills_kept p begins s s' step right h

pub held_kept : (p : Program) (s s' : PieceState) (step : Step) → IsHeldRight p s → IsPieceStep p s step s'
    → IsHeldRight p s'
held_kept p s s' step right h = done_kept p s s' step step.doing right h

-- which of the two a thread's own piece is
pub which : (p : Program) (s s' : PieceState) (step : Step) → IsHeldRight p s → (own : IsOwnPiece p s step s')
    → MatchBool (is_silent p s step.thread own.thread step.woken s' own.piece) (IsHushed p s step s')
    (IsHeard p s step own.thread (piece_answer p s step.thread own.thread step.woken s' own.piece) s')
which p s s' step right own = by_silence (is_silent p s step.thread own.thread step.woken s' own.piece)
    (piece_so p s s' step.thread own.thread step.woken right own.stands own.awake step.pauses own.pauses own.piece)
  where
    by_silence : (b : Bool) → Reduced p s step.thread own.thread step.woken step.pauses s' b
        (piece_answer p s step.thread own.thread step.woken s' own.piece)
        → MatchBool b (IsHushed p s step s')
        (IsHeard p s step own.thread (piece_answer p s step.thread own.thread step.woken s' own.piece) s')
    by_silence true q = (
      q.0,
      q.1,
      λ on. let k = q.2 on in record { awake = k.awake; few = k.few; more = k.more },
    )
    by_silence false q = (q.0, record { few = q.1.few; goes_on = q.1.goes_on })

-- one of the two
either_so : (p : Program) (s s' : PieceState) (step : Step) → IsHeldRight p s → (own : IsOwnPiece p s step s')
    → IsHushed p s step s'
    ⊎ (IsWholeDone p (whole p s) step (whole p s') Own × KeepsTime p (whole p s) (taken p s) step (whole p s'))
either_so p s s' step right own = by_silence (is_silent p s step.thread own.thread step.woken s' own.piece)
    (which p s s' step right own)
  where
    by_silence : (b : Bool) → MatchBool b (IsHushed p s step s')
        (IsHeard p s step own.thread (piece_answer p s step.thread own.thread step.woken s' own.piece) s')
        → IsHushed p s step s'
        ⊎ (IsWholeDone p (whole p s) step (whole p s') Own × KeepsTime p (whole p s) (taken p s) step (whole p s'))
    by_silence true q = inl q
    by_silence false q = inr (whole_step p (whole p s) step.thread own.thread step.woken _ (whole p s') q.0, q.1)

-- each step is one of the trace
traced : (p : Program) (s s' : PieceState) (step : Step) (d : Doing) → step.doing ≡ d → IsHeldRight p s
    → IsPieceDone p s step s' d → TraceStep p (whole p s) (taken p s) step (whole p s') (taken p s')
traced p s s' step Own is right h = elim (either_so p s s' step right h) [
  | inl q ↦ Silent is q.1 q.2
  | inr w ↦ Loud (subst (IsWholeDone p (whole p s) step (whole p s')) (sym is) w.0) (λ own. w.1)
]
traced p s s' step (Strayed a) is right h = Loud
    (subst (IsWholeDone p (whole p s) step (whole p s')) (sym is) (strays_both p a s s' step right h))
    (λ own. absurd (let isnt : is_own (Strayed a) ≡ true = ap is_own (sym is) ∙ own in cc))
traced p s s' step (Killed begins) is right h = Loud
    (subst (IsWholeDone p (whole p s) step (whole p s')) (sym is) (kills_both p begins s s' step h))
    (λ own. absurd (let isnt : is_own (Killed begins) ≡ true = ap is_own (sym is) ∙ own in cc))

-- silent, or one whole step, by what the step is
abbrev Done : Program → PieceState → Step → PieceState → Doing → Type 0
Done p s step s' d = ((d ≡ Own) × (step.woken ≡ []) × (whole p s' ≡ whole p s))
    ⊎ IsWholeDone p (whole p s) step (whole p s') d

done_so : (p : Program) (s s' : PieceState) (step : Step) (d : Doing) → IsHeldRight p s → IsPieceDone p s step s' d
    → Done p s step s' d
done_so p s s' step Own right h =
    elim (either_so p s s' step right h) [ inl q ↦ inl (refl, q.0, q.1) | inr w ↦ inr w.0 ]
done_so p s s' step (Strayed a) right h = inr (strays_both p a s s' step right h)
done_so p s s' step (Killed begins) right h = inr (kills_both p begins s s' step h)

pub reduces : (p : Program) (s s' : PieceState) (step : Step) → IsHeldRight p s → IsPieceStep p s step s'
    → ((step.doing ≡ Own) × (step.woken ≡ []) × (whole p s' ≡ whole p s))
    ⊎ IsWholeDone p (whole p s) step (whole p s') step.doing
reduces p s s' step right h = done_so p s s' step step.doing right h

outside_whole : (p : Program) (u : ℕ) (o : Option Thread) → whole_at p u First o ≡ o
outside_whole p u None = refl
outside_whole p u (Some x) = refl

pub opening_whole : (p : Program) (n : ℕ) → whole p (opening_pieces p n) ≡ opening_state p
opening_whole p n = λ k. record (opening_state p) { thread = λ u. outside_whole p u ((opening_state p).thread u) k }

pub opening_held : (p : Program) (n : ℕ) → 0 < n → IsHeldRight p (opening_pieces p n)
opening_held p n some = record {
  some = some;
  few = λ u x h. by_test u (u == 1) refl _ h;
  apart = λ u. inl refl;
  right = λ b u h. absurd cc;
  all = λ b u h. absurd cc;
}
  where
    by_test : (u : ℕ) (b : Bool) → (u == 1) ≡ b → {x : Thread} (y : Thread) → (if b then Some y else None) ≡ Some x
        → u < 1 + 1
    by_test u true q y h = omega (arith, eqb-true u 1 q)
    by_test u false q y h = absurd cc

goes : (p : Program) (steps : List Step) (s s' : PieceState) → IsHeldRight p s → GoesByPieces p s steps s'
    → IsHeldRight p s' × Trace p (whole p s) (taken p s) steps (whole p s')
goes p [] s s' right e = (subst (IsHeldRight p) e right, ap (whole p) e)
goes p (step ∷ steps) s s' right run =
    let rest = goes p steps run.0 s' (held_kept p s run.0 step right run.1) run.2 in
    (rest.0, (whole p run.0, taken p run.0, traced p s run.0 step step.doing refl right run.1, rest.1))

pub runs_so : (p : Program) (n : ℕ) (steps : List Step) (s : PieceState) → 0 < n → PieceRun p n steps s
    → IsHeldRight p s × Trace p (opening_state p) none_taken steps (whole p s)
runs_so p n steps s some run =
    let r = goes p steps (opening_pieces p n) s (opening_held p n some) run in
    (r.0, subst (λ (z : State). Trace p z none_taken steps (whole p s)) (opening_whole p n) r.1)
