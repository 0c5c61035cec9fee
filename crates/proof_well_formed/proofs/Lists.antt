-- Elements of lists, by their numbers.
use Rattle.std.proofs.Common.{◌≡◌, ℕ, zero, suc, ◌+◌, ◌<◌, ◌≤◌, List, [], ◌∷◌, ◌++◌, length, map, slice_get}
use Rattle.std.proofs.Common.{Some, unwrap_or}
use Rattle.std.proofs.Common.{refl, ap, subst, arith, ◌⊎◌, inl, inr, Contains, slice_index_or}

pub some_same : {X : Type 0} (x y : X) → Some x ≡ Some y → x ≡ y
some_same x y h = ap (λ o. unwrap_or o x) h

place_at : {X : Type 0} (xs : List X) (k : ℕ) (x : X) → k < length xs → slice_index_or xs k x ≡ x
    → (n : ℕ) × (slice_get xs n ≡ Some x)
place_at [] k x l e = absurd (omega (arith, l))
place_at (z ∷ xs) zero x l e = (0, ap (λ y. Some y) e)
place_at (z ∷ xs) (suc k) x l e = let g = place_at xs k x (omega (arith, l)) e in (suc g.0, g.1)

-- an element of joined lists is one of the first, or of the second behind it
pub cut : {X : Type 0} (xs ys : List X) (n : ℕ) (x : X) → slice_get (xs ++ ys) n ≡ Some x
    → (slice_get xs n ≡ Some x) ⊎ ((i : ℕ) × (n ≡ length xs + i) × (slice_get ys i ≡ Some x))
cut [] ys n x h = inr (n, omega arith, h)
cut (z ∷ xs) ys zero x h = inl h
cut (z ∷ xs) ys (suc n) x h = elim (cut xs ys n x h) [
  | inl g ↦ inl g
  | inr g ↦ let e : n ≡ length xs + g.0 = g.1 in inr (g.0, omega (arith, e), g.2)
]

pub front : {X : Type 0} (xs ys : List X) (n : ℕ) (x : X) → slice_get xs n ≡ Some x
    → slice_get (xs ++ ys) n ≡ Some x
front [] ys n x h = cc
front (z ∷ xs) ys zero x h = h
front (z ∷ xs) ys (suc n) x h = front xs ys n x h

pub behind : {X : Type 0} (xs ys : List X) (n i : ℕ) (x : X) → n ≡ length xs + i → slice_get ys i ≡ Some x
    → slice_get (xs ++ ys) n ≡ Some x
behind [] ys n i x e h = let f : i ≡ n = omega (arith, e) in subst (λ m. slice_get ys m ≡ Some x) f h
behind (z ∷ xs) ys zero i x e h = absurd (omega (arith, e))
behind (z ∷ xs) ys (suc n) i x e h = behind xs ys n i x (omega (arith, e)) h

pub contains_at : {X : Type 0} (xs : List X) (n : ℕ) (x : X) → slice_get xs n ≡ Some x → Contains xs x
contains_at [] n x h = cc
contains_at (z ∷ xs) zero x h = (0, omega arith, some_same z x h)
contains_at (z ∷ xs) (suc n) x h = let g = contains_at xs n x h in (suc g.0, omega (arith, g.1), g.2)

-- where an element of a list stands
pub place_of : {X : Type 0} (xs : List X) (x : X) → Contains xs x → (n : ℕ) × (slice_get xs n ≡ Some x)
place_of xs x c = place_at xs c.0 x c.1 c.2

-- an element that a mapped list has is one of the list, mapped
pub mapped : {X Y : Type 0} (f : X → Y) (xs : List X) (n : ℕ) (y : Y) → slice_get (map f xs) n ≡ Some y
    → (x : X) × (slice_get xs n ≡ Some x) × (f x ≡ y)
mapped f [] n y h = cc
mapped f (z ∷ xs) zero y h = (z, refl, some_same (f z) y h)
mapped f (z ∷ xs) (suc n) y h = mapped f xs n y h

pub there : {X : Type 0} (xs : List X) (n : ℕ) → n < length xs → (x : X) × (slice_get xs n ≡ Some x)
there [] n h = absurd (omega (arith, h))
there (z ∷ xs) zero h = (z, refl)
there (z ∷ xs) (suc n) h = there xs n (omega (arith, h))

-- a number is below a limit, or not
pub within_or_past : (n most : ℕ) → (n ≤ most) ⊎ (most < n)
within_or_past zero most = inl (omega arith)
within_or_past (suc n) zero = inr (omega arith)
within_or_past (suc n) (suc most) = elim (within_or_past n most) [
  | inl h ↦ inl (omega (arith, h))
  | inr h ↦ inr (omega (arith, h))
]

pub first_in : {X : Type 0} (x : X) (xs : List X) → Contains (x ∷ xs) x
first_in x xs = (0, omega arith, refl)

pub later_in : {X : Type 0} (x y : X) (xs : List X) → Contains xs y → Contains (x ∷ xs) y
later_in x y xs c = (suc c.0, omega (arith, c.1), c.2)
