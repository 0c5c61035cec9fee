-- A machine at rest: no thread can move.
use Rattle.std.proofs.Common.{◌≡◌, ℕ, true, Option, Some, None, inl, inr, sym, ◌∙◌}
use Rattle.std.proofs.lemmas.Bool.{cases_Bool}
use Rattle.isa.specs.Programs.{Program}
use Rattle.futexcalls.specs.declared.pieces.FutexCall.{FutexCall}
use Rattle.robustexit.specs.declared.rule.ExitRule.{ExitRule}
use Rattle.locals.specs.Looks.{Look, Goes, Asks, Leaves, Breaks, Rests, look}
use Rattle.machine.specs.ConcreteSteps.{can_move}
use Rattle.machine.specs.PieceStates.{PieceState, call_of}
use Rattle.machine.specs.PieceSteps.{BlocksAt, BlocksCall, CanTakePiece}
use Rattle.machine.specs.Views.{IsQuiet, concrete}
use Rattle.machine.proofs.Refusing.{moves_so}
use Rattle.piece_machine.specs.PieceViews.{PieceView, IsAtRest, pieces}

none_or_some : (o : Option ℕ) (u : ℕ) → o ≡ None → o ≡ Some u → ⊥
none_or_some o u none some = absurd (cc (sym none ∙ some))

call_free : (s : PieceState) (t : ℕ) (call : Option FutexCall) → ((b : ℕ) → s.holder b ≡ None) → BlocksCall s t call → ⊥
call_free s t None none h = h
call_free s t (Some call) none h = none_or_some (s.holder h.1) h.2 (none h.1) h.4

free : (rule : ExitRule) (s : PieceState) (t : ℕ) (l : Look) → ((b : ℕ) → s.holder b ≡ None) → BlocksAt rule s t l → ⊥
free rule s t (Asks request go) none h = call_free s t (call_of request) none h
free rule s t (Leaves phase) none h = none_or_some (s.holder _) h.1 (none _) h.3
free rule s t (Goes x) none h = h
free rule s t Breaks none h = h
free rule s t Rests none h = h

-- where no thread can take a step and nobody holds a bucket, none can move
pub quiet_so : (p : Program) (v : PieceView) → IsAtRest p (pieces v) → ((b : ℕ) → (pieces v).holder b ≡ None)
    → IsQuiet (concrete v.view)
quiet_so p v rests none t = elim (cases_Bool (can_move (concrete v.view) t)) [
  | inl moves ↦
      let c = (moves_so (concrete v.view) t).0 moves in
      absurd (rests t (record {
        thread = c.thread;
        stands = c.stands;
        awake = c.awake;
        goes_on = c.goes_on;
        free = free _ (pieces v) t (look p t c.thread) none;
      }))
  | inr not ↦ not
]

-- who can take a step can move
pub mover_so : (p : Program) (v : PieceView) (t : ℕ) → CanTakePiece p (pieces v) t → can_move (concrete v.view) t ≡ true
mover_so p v t c = (moves_so (concrete v.view) t).1 (record {
  thread = c.thread;
  stands = c.stands;
  awake = c.awake;
  goes_on = c.goes_on;
})
