-- Two acts of one call that leave the same sleepers wake and move as many threads.
use Rattle.std.proofs.Common.{◌≡◌, ◌≢◌, ℕ, ◌≤◌, ◌+◌, true, false, Option, Some, None, List, [], length, inl, inr, refl, sym}
use Rattle.std.proofs.Common.{ap, ◌∙◌, arith}
use Rattle.std.specs.Prelude.{nat_eq}
use Rattle.std.specs.List.{IsDistinct}
use Rattle.std.proofs.Math.Path.{fun_ext}
use Rattle.std.proofs.lemmas.Bool.{cases_Bool, cases_eq}
use Rattle.std.proofs.lemmas.Cmp.{nat_eq_equiv}
use Rattle.std.proofs.lemmas.Map.Made.{length-le_from_is_member}
use Rattle.buckets.specs.Places.{names, with_place, Agree}
use Rattle.futexcalls.specs.declared.pieces.FutexCall.{FutexCall}
use Rattle.futexcalls.specs.declared.pieces.FutexCall.TheVariants.{Wait, Wake, Requeue}
use Rattle.futexcalls.specs.FutexCalls.{Wakes}
use Rattle.futexcalls.specs.Pieces.{Acts, RequeuesCompared}
use Rattle.machine.proofs.Sleeping.{placed, unplaced}

-- lists tell where threads sleep
asleep_where : (q : ℕ → List ℕ) (y z : ℕ → Option ℕ) → Agree q y → Agree q z → (u : ℕ) (o : Option ℕ) → y u ≡ o → z u ≡ o
asleep_where q y z a b u (Some at) h = b.sleeps u at (a.stands u at h)
asleep_where q y z a b u None h = nowhere (z u) refl
  where
    nowhere : (o : Option ℕ) → z u ≡ o → z u ≡ None
    nowhere None e = e
    nowhere (Some at) e = absurd (let s : None ≡ Some at = sym h ∙ a.sleeps u at (b.stands u at e) in cc)

pub one_asleep : (q : ℕ → List ℕ) (y z : ℕ → Option ℕ) → Agree q y → Agree q z → y ≡ z
one_asleep q y z a b = fun_ext (λ u. sym (asleep_where q y z a b u (y u) refl))

at_most : (xs ys : List ℕ) → IsDistinct nat_eq xs → ((u : ℕ) → names xs u ≡ true → names ys u ≡ true)
    → length xs ≤ length ys
at_most xs ys distinct within = length-le_from_is_member nat_eq_equiv xs ys distinct within

nobody : (xs ys : List ℕ) → xs ≡ [] → length xs ≤ length ys
nobody xs ys h = rw h (omega arith)

-- of a wake
wakes_most : (z after : ℕ → Option ℕ) (a n : ℕ) (xs ys : List ℕ) → Wakes z a n xs after → Wakes z a n ys after
    → length xs ≤ length ys
wakes_most z after a n xs ys w v = at_most xs ys w.choice.distinct (λ u h. elim (cases_Bool (names ys u)) [
  | inl y ↦ y
  | inr out ↦ absurd (let e : None ≡ Some a = sym (placed z xs None u h) ∙ ap (λ (f : ℕ → Option ℕ). f u)
      (sym w.awake ∙ v.awake) ∙ unplaced z ys None u out ∙ w.choice.slept u h in cc)
])

-- of a requeue: where its sleepers are behind it
apart_from : (z after : ℕ → Option ℕ) (a b n m u : ℕ) (xs ms : List ℕ) → RequeuesCompared z a b n m xs ms after
    → names xs u ≡ true → names ms u ≡ false
apart_from z after a b n m u xs ms r h = elim (cases_Bool (names ms u)) [
  | inr out ↦ out
  | inl moved ↦ absurd (elim (cases_eq a b) [
    | inl e ↦ let none : names [] u ≡ true = ap (λ ys. names ys u) (sym (r.moves.none e)) ∙ moved in cc
    | inr ne ↦ let e : None ≡ Some a = sym (placed z xs None u h) ∙ (r.moves.choice ne).slept u moved in cc
  ])
]

woken_to : (z after : ℕ → Option ℕ) (a b n m u : ℕ) (xs ms : List ℕ) → RequeuesCompared z a b n m xs ms after
    → names xs u ≡ true → after u ≡ None
woken_to z after a b n m u xs ms r h =
    ap (λ (f : ℕ → Option ℕ). f u) r.moves.goes
    ∙ unplaced (with_place z xs None) ms (Some b) u (apart_from z after a b n m u xs ms r h) ∙ placed z xs None u h

woken_back : (z after : ℕ → Option ℕ) (a b n m u : ℕ) (xs ms : List ℕ) → RequeuesCompared z a b n m xs ms after
    → z u ≡ Some a → after u ≡ None → names xs u ≡ true
woken_back z after a b n m u xs ms r slept awake = elim (cases_Bool (names xs u)) [
  | inl y ↦ y
  | inr out ↦ absurd (elim (cases_Bool (names ms u)) [
    | inl moved ↦ let e : None ≡ Some b = sym awake ∙ ap (λ (f : ℕ → Option ℕ). f u) r.moves.goes
        ∙ placed (with_place z xs None) ms (Some b) u moved in cc
    | inr stays ↦ let e : None ≡ Some a = sym awake ∙ ap (λ (f : ℕ → Option ℕ). f u) r.moves.goes
        ∙ unplaced (with_place z xs None) ms (Some b) u stays ∙ unplaced z xs None u out ∙ slept in cc
  ])
]

moved_from : (z after : ℕ → Option ℕ) (a b n m u : ℕ) (xs ms : List ℕ) → RequeuesCompared z a b n m xs ms after
    → a ≢ b → names ms u ≡ true → z u ≡ Some a
moved_from z after a b n m u xs ms r ne moved = elim (cases_Bool (names xs u)) [
  | inl woken ↦ absurd (let e : None ≡ Some a = sym (placed z xs None u woken) ∙ (r.moves.choice ne).slept u moved in cc)
  | inr out ↦ sym (unplaced z xs None u out) ∙ (r.moves.choice ne).slept u moved
]

moved_back : (z after : ℕ → Option ℕ) (a b n m u : ℕ) (xs ms : List ℕ) → RequeuesCompared z a b n m xs ms after
    → a ≢ b → z u ≡ Some a → after u ≡ Some b → names ms u ≡ true
moved_back z after a b n m u xs ms r ne slept there = elim (cases_Bool (names ms u)) [
  | inl y ↦ y
  | inr stays ↦
      let left : with_place z xs None u ≡ Some b = sym (unplaced (with_place z xs None) ms (Some b) u stays)
      ∙ sym (ap (λ (f : ℕ → Option ℕ). f u) r.moves.goes) ∙ there in
      absurd (elim (cases_Bool (names xs u)) [
        | inl woken ↦ let e : None ≡ Some b = sym (placed z xs None u woken) ∙ left in cc
        | inr out ↦ let e : Some a ≡ Some b = sym slept ∙ sym (unplaced z xs None u out) ∙ left in ne cc
      ])
]

moves_most : (z after : ℕ → Option ℕ) (a b n m : ℕ) (xs ms ys ns : List ℕ) → RequeuesCompared z a b n m xs ms after
    → RequeuesCompared z a b n m ys ns after → length ms ≤ length ns
moves_most z after a b n m xs ms ys ns r s = elim (cases_eq a b) [
  | inl e ↦ nobody ms ns (r.moves.none e)
  | inr ne ↦ at_most ms ns (r.moves.choice ne).distinct (λ u h. moved_back z after a b n m u ys ns s ne
      (moved_from z after a b n m u xs ms r ne h)
      (ap (λ (f : ℕ → Option ℕ). f u) r.moves.goes ∙ placed (with_place z xs None) ms (Some b) u h))
]

-- of an act
acts_most : (t : ℕ) (call : FutexCall) (z after : ℕ → Option ℕ) (xs ms ys ns : List ℕ) → Acts t call z xs ms after
    → Acts t call z ys ns after → (length xs ≤ length ys) × (length ms ≤ length ns)
acts_most t (Wait a expected) z after xs ms ys ns r s = (nobody xs ys r.0, nobody ms ns r.1)
acts_most t (Wake a wakes) z after xs ms ys ns r s = (wakes_most z after a.0 wakes xs ys r.1 s.1, nobody ms ns r.0)
acts_most t (Requeue a b wakes moves expected) z after xs ms ys ns r s = (
  at_most xs ys r.wakes.choice.distinct (λ u h. woken_back z after a.0 b.0 wakes moves u ys ns s
      (r.wakes.choice.slept u h) (woken_to z after a.0 b.0 wakes moves u xs ms r h)),
  moves_most z after a.0 b.0 wakes moves xs ms ys ns r s,
)

pub as_many : (t : ℕ) (call : FutexCall) (z after : ℕ → Option ℕ) (xs ms ys ns : List ℕ) → Acts t call z xs ms after
    → Acts t call z ys ns after → length xs + length ms ≡ length ys + length ns
as_many t call z after xs ms ys ns r s =
    let to = acts_most t call z after xs ms ys ns r s in
    let from = acts_most t call z after ys ns xs ms s r in
    omega (arith, to.0, to.1, from.0, from.1)
