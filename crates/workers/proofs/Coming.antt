-- Pieces that come in one after the other.
use Rattle.std.proofs.Common.{◌≡◌, ℕ, zero, suc, ◌++◌, Bool, false, List, [], ◌∷◌, take, Option, Some, None, is_some}
use Rattle.std.proofs.Common.{◌<◌, IfNone, arith, length, slice_get, slice_set, refl, ap, subst}
use Rattle.runner.specs.declared.fault.RunFault.{RunFault}
use Rattle.isa.specs.Programs.{Program}
use Rattle.runner.specs.Views.{PieceView, ShareView}
use Rattle.workers.specs.SharedRuns.{SharedRunView}
use Rattle.workers.specs.Handed.{ComesIn, ComeIn}

pub no_fault : (fault : Option RunFault) {b : Bool} → b ≡ is_some fault → b ≡ false → fault ≡ None
no_fault None is h = refl
no_fault (Some x) is h = absurd cc

pub if_none : {A P : Type 0} (o : Option A) → IfNone o P → ((x : A) → o ≡ Some x → ⊥) → P
if_none None h other = h
if_none (Some x) h other = absurd (other x refl)

take_one : (pieces : List PieceView) (at : ℕ) (piece : PieceView) → slice_get pieces at ≡ Some piece
    → take (suc at) pieces ≡ take at pieces ++ piece ∷ []
take_one [] at piece h = absurd cc
take_one (x ∷ xs) zero piece h = let e : x ≡ piece = cc in ap (λ (y : PieceView). y ∷ []) e
take_one (x ∷ xs) (suc at) piece h = ap (λ (ys : List PieceView). x ∷ ys) (take_one xs at piece h)

come_more : (p : Program) (limit : ℕ) (old mid new : SharedRunView) (t : ℕ) (pieces : List PieceView)
    (piece : PieceView)
    (share counted share' : ShareView) → ComeIn p limit old t pieces mid share counted
    → ComesIn p limit mid t piece new counted share' → ComeIn p limit old t (pieces ++ piece ∷ []) new share share'
come_more p limit old mid new t [] piece share counted share' come last =
    let at_start = subst (λ (d : SharedRunView). ComesIn p limit d t piece new counted share') come.0 last in (
      new,
      share',
      subst (λ (s : ShareView). ComesIn p limit old t piece new s share') come.1 at_start,
      (refl, refl),
    )
come_more p limit old mid new t (x ∷ xs) piece share counted share' come last =
    (come.0, come.1, come.2, come_more p limit come.0 mid new t xs piece come.1 counted share' come.3 last)

-- one more of the pieces came in
pub one_more : (p : Program) (limit : ℕ) (old mid new : SharedRunView) (t : ℕ) (pieces : List PieceView) (at : ℕ)
    (piece : PieceView) (share counted share' : ShareView) → slice_get pieces at ≡ Some piece
    → ComeIn p limit old t (take at pieces) mid share counted → ComesIn p limit mid t piece new counted share'
    → ComeIn p limit old t (take (suc at) pieces) new share share'
one_more p limit old mid new t pieces at piece share counted share' is come last =
    rw (take_one pieces at piece is)
    (come_more p limit old mid new t (take at pieces) piece share counted share' come last)

-- the first of what there is, written over
pub set_first : {A : Type 0} → (xs : List A) (x : A) → 0 < length xs → slice_get (slice_set xs 0 x) 0 ≡ Some x
set_first [] x some = absurd (omega (arith, some))
set_first (y ∷ ys) x some = refl
