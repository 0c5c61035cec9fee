-- Accesses that a thread made ahead of the machine are steps in pieces, one after the other.
use Rattle.std.proofs.Common.{◌≡◌, ℕ, List, [], ◌∷◌, true, Some, ap, sym, subst, ◌∙◌}
use Rattle.futexcalls.specs.declared.pieces.FutexPhase.{FutexPhase}
use Rattle.locals.specs.Threads.{Thread}
use Rattle.machine.specs.declared.speculation.SpeculativeAccess.{SpeculativeAccess}
use Rattle.machine.specs.ConcreteSteps.{can_move}
use Rattle.machine.specs.Speculation.{Commits}
use Rattle.machine.specs.States.{thread_of}
use Rattle.machine.specs.Views.{View, concrete}
use Rattle.piece_machine.specs.PieceViews.{GoesTo, IsKept}
use Rattle.piece_machine.specs.Speculated.{CommitsFrom}
use Rattle.piece_machine.proofs.Accessed.{from_done, from_kept, from_program}

pub commits_from : (v v' : View) (phases : List FutexPhase) (t : ℕ) (x y : Thread) (made : List SpeculativeAccess)
    → thread_of (concrete v) t ≡ Some x → Commits v t x made v' y
    → CommitsFrom (record { view = v; phases = phases }) t x made (record { view = v'; phases = phases }) y
commits_from v v' phases t x y [] stands c = ((λ i. record { view = c.0 i; phases = phases }), c.1)
commits_from v v' phases t x y (a ∷ rest) stands (here, mid, z, goes, m, others) =
    let g : GoesTo v t here = record { origin = x; count = a.local; stands = stands; goes = goes } in (
      here,
      record { view = mid; phases = phases },
      z,
      goes,
      from_done v mid phases t here z (Some a.access) g m,
      from_program v mid t here z (Some a.access) m,
      commits_from mid v' phases t z y rest m.stands others,
    )

pub commits_kept : (v v' : View) (phases : List FutexPhase) (t : ℕ) (x y : Thread) (made : List SpeculativeAccess)
    → IsKept v phases → can_move (concrete v) t ≡ true → thread_of (concrete v) t ≡ Some x → Commits v t x made v' y
    → IsKept v' phases
commits_kept v v' phases t x y [] kept can stands c = subst (λ (q : View). IsKept q phases) (sym c.0) kept
commits_kept v v' phases t x y (a ∷ rest) kept can stands (here, mid, z, goes, m, others) =
    let g : GoesTo v t here = record { origin = x; count = a.local; stands = stands; goes = goes } in
    commits_kept mid v' phases t z y rest (from_kept v mid phases t here z (Some a.access) kept can g m) m.moves m.stands
    others

pub commits_program : (v v' : View) (t : ℕ) (x y : Thread) (made : List SpeculativeAccess) → Commits v t x made v' y
    → v'.program ≡ v.program
commits_program v v' t x y [] c = ap (λ (q : View). q.program) c.0
commits_program v v' t x y (a ∷ rest) (here, mid, z, goes, m, others) =
    commits_program mid v' t z y rest others ∙ from_program v mid t here z (Some a.access) m
