-- Values put into locals, and their words.
use Rattle.std.proofs.Common.{rules, inl, inr, ◌≡◌, ◌⊎◌, ℕ, zero, suc, ◌<◌, List, [], ◌∷◌, length, Some, slice_get}
use Rattle.std.proofs.Common.{refl, ap, sym, ◌∙◌, subst, arith, ℤ, pos}
use Rattle.std.specs.Prelude.{slice_index, slice_set}
use Rattle.words.specs.Signed.{word_of}
use Rattle.program.specs.declared.kinds.ValueType.{ValueType}
use Rattle.program.specs.declared.kinds.ValueType.TheVariants.{Integer, Boolean, Process}
use Rattle.proof_thread.specs.Typed.{HasValue, HaveValues, HoldValues}

pub slot_below : (ts : List ValueType) (slot : ℕ) (u : ValueType) → slice_get ts slot ≡ Some u → slot < length ts
slot_below [] slot u h = absurd cc
slot_below (t ∷ ts) zero u h = omega arith
slot_below (t ∷ ts) (suc slot) u h = let r = slot_below ts slot u h in omega (arith, r)

-- a value of a local's type put into it
pub put_typed : (most made : ℕ) → (ts : List ValueType) (zs : List ℤ) (slot : ℕ) (u : ValueType) (z : ℤ)
    → HaveValues most made ts zs
    → slice_get ts slot ≡ Some u → HasValue most made u z → HaveValues most made ts (slice_set zs slot z)
put_typed most made [] zs slot u z h e k = absurd cc
put_typed most made (t ∷ ts) [] slot u z h e k = absurd h
put_typed most made (t ∷ ts) (y ∷ zs) zero u z h e k = let same : t ≡ u = cc in
    (subst (λ (w : ValueType). HasValue most made w z) (sym same) k, h.1)
put_typed most made (t ∷ ts) (y ∷ zs) (suc slot) u z h e k = (h.0, put_typed most made ts zs slot u z h.1 e k)

pub put_length : (ws : List ℕ) (slot w : ℕ) → length (slice_set ws slot w) ≡ length ws
put_length ws slot w = search rules

pub set_same : (ws : List ℕ) (slot w : ℕ) → slot < length ws → slice_index (slice_set ws slot w) slot ≡ w
set_same [] slot w h = absurd (omega (arith, h))
set_same (x ∷ ws) zero w h = refl
set_same (x ∷ ws) (suc slot) w h = set_same ws slot w (omega (arith, h))

pub set_other : (ws : List ℕ) (slot w i : ℕ) → (i ≡ slot → ⊥) → slice_index (slice_set ws slot w) i ≡ slice_index ws i
set_other [] slot w i h = refl
set_other (x ∷ ws) zero w zero h = absurd (h refl)
set_other (x ∷ ws) zero w (suc i) h = refl
set_other (x ∷ ws) (suc slot) w zero h = refl
set_other (x ∷ ws) (suc slot) w (suc i) h = set_other ws slot w i (λ e. h (ap suc e))

set_get : (zs : List ℤ) (slot i : ℕ) (z y : ℤ) → slice_get (slice_set zs slot z) i ≡ Some y → ((i ≡ slot) × (y ≡ z)) ⊎
    ((i ≡ slot → ⊥) × (slice_get zs i ≡ Some y))
set_get [] slot i z y h = absurd cc
set_get (x ∷ zs) zero zero z y h = inl (refl, cc)
set_get (x ∷ zs) zero (suc i) z y h = inr (λ e. absurd (omega (arith, e)), h)
set_get (x ∷ zs) (suc slot) zero z y h = inr (λ e. absurd (omega (arith, e)), h)
set_get (x ∷ zs) (suc slot) (suc i) z y h = more (set_get zs slot i z y h)
  where
    more : ((i ≡ slot) × (y ≡ z)) ⊎ ((i ≡ slot → ⊥) × (slice_get zs i ≡ Some y)) → ((suc i ≡ suc slot) × (y ≡ z)) ⊎
        ((suc i ≡ suc slot → ⊥) × (slice_get zs i ≡ Some y))
    more (inl (a, c)) = inl (ap suc a, c)
    more (inr (a, c)) = inr (λ e. a (omega (arith, e)), c)

pub put_holds : (ws : List ℕ) (zs : List ℤ) (slot : ℕ) (z : ℤ) → HoldValues ws zs → slot < length ws → HoldValues
    (slice_set ws slot (word_of z)) (slice_set zs slot z)
put_holds ws zs slot z h lt i y e = by_place (set_get zs slot i z y e)
  where
    by_place : ((i ≡ slot) × (y ≡ z)) ⊎ ((i ≡ slot → ⊥) × (slice_get zs i ≡ Some y)) → slice_index
        (slice_set ws slot (word_of z)) i ≡ word_of y
    by_place (inl (same, value)) = ap (slice_index (slice_set ws slot (word_of z))) same ∙ set_same ws slot
        (word_of z) lt ∙ ap word_of (sym value)
    by_place (inr (other, held)) = set_other ws slot (word_of z) i other ∙ h i y held

-- 0, FALSE and the empty handle are values of every type
pub zero_value : (most made : ℕ) → (t : ValueType) → HasValue most made t (pos 0)
zero_value most made Integer = search rules
zero_value most made Boolean = inl refl
zero_value most made Process = (0, refl, omega arith, omega arith)
