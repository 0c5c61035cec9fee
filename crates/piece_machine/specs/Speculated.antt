-- Accesses that a thread made ahead of the machine with pieces.
use Rattle.std.specs.Prelude.{ℕ, ◌≡◌, List, [], ◌∷◌, Some}
use Rattle.locals.specs.Steps.{local_after}
use Rattle.locals.specs.Threads.{Thread}
use Rattle.machine.specs.declared.speculation.SpeculativeAccess.{SpeculativeAccess}
use Rattle.machine.specs.States.{thread_of}
use Rattle.machine.specs.Views.{concrete}
use Rattle.piece_machine.specs.PieceViews.{DoneFrom, PieceView}

-- thread t, from x, made the accesses on the machine, each behind its local steps, and stands at y
abbrev pub CommitsFrom : PieceView → ℕ → Thread → List SpeculativeAccess → PieceView → Thread → Type 0
CommitsFrom v t x [] v' y = (v' ≡ v) × (y ≡ x)
CommitsFrom v t x (a ∷ rest) v' y =
    (here : Thread) × (mid : PieceView) × (z : Thread) × (local_after v.view.program t a.local x ≡ Some here)
    × DoneFrom a.access v t here mid z × (mid.view.program ≡ v.view.program) × CommitsFrom mid t z rest v' y

-- the same from where it stood
pub record CommittedFrom (v : PieceView) (t : ℕ) (made : List SpeculativeAccess) (v' : PieceView) (y : Thread) : Type 0
  where
    pub origin : Thread
    pub stands : thread_of (concrete v.view) t ≡ Some origin
    pub commits : CommitsFrom v t origin made v' y
