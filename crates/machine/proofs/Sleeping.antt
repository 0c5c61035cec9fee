-- Lists and places agree still when a front wakes, and when threads that are awake come to a list.
use Rattle.std.proofs.Common.{◌≡◌, ℕ, zero, suc, true, false, ◌||◌, cond, eqb, Option, Some, None, List, [], ◌∷◌}
use Rattle.std.proofs.Common.{◌++◌, take, drop, refl, sym, ap, ◌∙◌, ◌⊎◌, inl, inr}
use Rattle.std.specs.List.{IsDistinct, AllByRecursion}
use Rattle.std.proofs.lemmas.Bool.{cases_eq, cases_Bool, or_cases, or_left, or_right, both_ways}
use Rattle.std.proofs.lemmas.Bool.{false_from_ne_true, eqb-true, eq-eqb}
use Rattle.std.proofs.lemmas.List.{take-append-drop}
use Rattle.std.proofs.lemmas.List.Folds.{list_any-append}
use Rattle.buckets.specs.Places.{names, with_place, Agree}
use Rattle.buckets.proofs.Takes.{names-take}
use Rattle.robustexit.specs.RobustExit.{put}
use Rattle.machine.proofs.Placing.{put-here, put-there}

-- a place that was given, and one that wasn't
pub placed : (s : ℕ → Option ℕ) (xs : List ℕ) (p : Option ℕ) (t : ℕ) → names xs t ≡ true → with_place s xs p t ≡ p
placed s xs p t h = ap (λ b. cond b p (s t)) h

pub unplaced : (s : ℕ → Option ℕ) (xs : List ℕ) (p : Option ℕ) (t : ℕ) → names xs t ≡ false
    → with_place s xs p t ≡ s t
unplaced s xs p t h = ap (λ b. cond b p (s t)) h

pub names-drop : (n t : ℕ) (xs : List ℕ) → names (drop n xs) t ≡ true → names xs t ≡ true
names-drop zero t xs h = h
names-drop (suc n) t [] h = h
names-drop (suc n) t (x ∷ xs) h = or_right (eqb t x) _ (names-drop n t xs h)

-- whoever stands in a list stands in its front or in its rest
names-split : (n t : ℕ) (xs : List ℕ) → names xs t ≡ true
    → (names (take n xs) t ≡ true) ⊎ (names (drop n xs) t ≡ true)
names-split n t xs h =
    or_cases _ _ (sym (list_any-append (eqb t) (take n xs) (drop n xs))
    ∙ ap (λ ys. names ys t) (take-append-drop n xs) ∙ h)

unnamed : (x : ℕ) (xs : List ℕ) → AllByRecursion (λ y. eqb x y ≡ false) xs → names xs x ≡ true → ⊥
unnamed x [] a h = absurd cc
unnamed x (y ∷ ys) a h = elim
    (or_cases (eqb x y) _ h) [ inl e ↦ both_ways (eqb x y) a.0 e | inr r ↦ unnamed x ys a.1 r ]

all_apart : (x : ℕ) (ys : List ℕ) → (names ys x ≡ true → ⊥) → AllByRecursion (λ y. eqb x y ≡ false) ys
all_apart x [] h = tt
all_apart x (y ∷ ys) h =
    (false_from_ne_true _ (λ e. h (or_left (eqb x y) _ e)), all_apart x ys (λ e. h (or_right (eqb x y) _ e)))

-- nobody stands both in the front and in the rest
pub names-apart : (n t : ℕ) (xs : List ℕ) → IsDistinct eqb xs → names (take n xs) t ≡ true
    → names (drop n xs) t ≡ true → ⊥
unfolding IsDistinct
names-apart zero t xs d h r = absurd cc
names-apart (suc n) t [] d h r = absurd cc
names-apart (suc n) t (x ∷ xs) d h r = elim (or_cases (eqb t x) _ h) [
  | inl e ↦ unnamed x xs d.0 (names-drop n x xs (ap (names (drop n xs)) (sym (eqb-true t x e)) ∙ r))
  | inr q ↦ names-apart n t xs d.1 q r
]

IsDistinct-drop : (n : ℕ) (xs : List ℕ) → IsDistinct eqb xs → IsDistinct eqb (drop n xs)
unfolding IsDistinct
IsDistinct-drop zero xs h = h
IsDistinct-drop (suc n) [] h = h
IsDistinct-drop (suc n) (x ∷ xs) h = IsDistinct-drop n xs h.1

apart-append : (x : ℕ) (xs ys : List ℕ) → AllByRecursion (λ y. eqb x y ≡ false) xs
    → AllByRecursion (λ y. eqb x y ≡ false) ys → AllByRecursion (λ y. eqb x y ≡ false) (xs ++ ys)
apart-append x [] ys a b = b
apart-append x (y ∷ xs) ys a b = (a.0, apart-append x xs ys a.1 b)

IsDistinct-append : (xs ys : List ℕ) → IsDistinct eqb xs → IsDistinct eqb ys
    → ((t : ℕ) → names xs t ≡ true → names ys t ≡ true → ⊥) → IsDistinct eqb (xs ++ ys)
unfolding IsDistinct
IsDistinct-append [] ys a b apart = b
IsDistinct-append (x ∷ xs) ys a b apart = (
  apart-append x xs ys a.0 (all_apart x ys (apart x (or_left (eqb x x) _ (eq-eqb x x refl)))),
  IsDistinct-append xs ys a.1 b (λ t h. apart t (or_right (eqb t x) _ h)),
)

no_place : (a : ℕ) (o : Option ℕ) → o ≡ None → o ≡ Some a → ⊥
no_place a o e f = absurd cc

same_place : (a b : ℕ) (o : Option ℕ) → o ≡ Some a → o ≡ Some b → a ≡ b
same_place a b o e f = cc

pub agree-woken : (q : ℕ → List ℕ) (s : ℕ → Option ℕ) (a n : ℕ) → Agree q s
    → Agree (put q a (drop n (q a))) (with_place s (take n (q a)) None)
agree-woken q s a n ok = record {
  stands = λ t b h. elim (cases_Bool (names (take n (q a)) t)) [
    | inl y ↦ absurd (no_place b _ (placed s (take n (q a)) None t y) h)
    | inr out ↦ let stood : names (q b) t ≡ true = ok.stands t b (sym (unplaced s (take n (q a)) None t out) ∙ h) in
        elim (cases_eq b a) [
          | inl e ↦ ap (λ xs. names xs t) (put-here q a (drop n (q a)) b e)
              ∙ elim (names-split n t (q a) (ap (λ x. names (q x) t) (sym e) ∙ stood)) [
                | inl f ↦ absurd (both_ways _ out f)
                | inr r ↦ r
              ]
          | inr ne ↦ ap (λ xs. names xs t) (put-there q a (drop n (q a)) b ne) ∙ stood
        ]
  ];
  sleeps = λ t b h. elim (cases_eq b a) [
    | inl e ↦ let r : names (drop n (q a)) t ≡ true = ap (λ xs. names xs t) (sym (put-here q a (drop n (q a)) b e))
        ∙ h in
        unplaced s (take n (q a)) None t (false_from_ne_true _ (λ f. names-apart n t (q a) (ok.distinct a) f r))
        ∙ ok.sleeps t a (names-drop n t (q a) r) ∙ ap (λ x. Some x) (sym e)
    | inr ne ↦ let sl : s t ≡ Some b =
        ok.sleeps t b (ap (λ xs. names xs t) (sym (put-there q a (drop n (q a)) b ne)) ∙ h) in
        unplaced s (take n (q a)) None t
        (false_from_ne_true _ (λ f. ne (same_place b a (s t) sl (ok.sleeps t a (names-take n t (q a) f))))) ∙ sl
  ];
  distinct = λ b. elim (cases_eq b a) [
    | inl e ↦ rw (put-here q a (drop n (q a)) b e) (IsDistinct-drop n (q a) (ok.distinct a))
    | inr ne ↦ rw (put-there q a (drop n (q a)) b ne) (ok.distinct b)
  ];
}

pub agree-arrived : (q : ℕ → List ℕ) (s : ℕ → Option ℕ) (b : ℕ) (xs : List ℕ) → IsDistinct eqb xs
    → ((t : ℕ) → names xs t ≡ true → s t ≡ None) → Agree q s
    → Agree (put q b (q b ++ xs)) (with_place s xs (Some b))
agree-arrived q s b xs d free ok = record {
  stands = λ t c h. elim (cases_Bool (names xs t)) [
    | inl y ↦ let e : c ≡ b = same_place c b _ h (placed s xs (Some b) t y) in
        ap (λ ys. names ys t) (put-here q b (q b ++ xs) c e) ∙ joined t ∙ or_right (names (q b) t) _ y
    | inr out ↦ let stood : names (q c) t ≡ true = ok.stands t c (sym (unplaced s xs (Some b) t out) ∙ h) in
        elim (cases_eq c b) [
          | inl e ↦ ap (λ ys. names ys t) (put-here q b (q b ++ xs) c e) ∙ joined t
              ∙ or_left (names (q b) t) _ (ap (λ x. names (q x) t) (sym e) ∙ stood)
          | inr ne ↦ ap (λ ys. names ys t) (put-there q b (q b ++ xs) c ne) ∙ stood
        ]
  ];
  sleeps = λ t c h. elim (cases_eq c b) [
    | inl e ↦ elim (or_cases (names (q b) t) (names xs t) (sym (joined t)
        ∙ ap (λ ys. names ys t) (sym (put-here q b (q b ++ xs) c e)) ∙ h)) [
          | inl old ↦ let sl : s t ≡ Some b = ok.sleeps t b old in
              unplaced s xs (Some b) t (false_from_ne_true _ (λ y. no_place b (s t) (free t y) sl)) ∙ sl
              ∙ ap (λ x. Some x) (sym e)
          | inr y ↦ placed s xs (Some b) t y ∙ ap (λ x. Some x) (sym e)
        ]
    | inr ne ↦ let sl : s t ≡ Some c =
        ok.sleeps t c (ap (λ ys. names ys t) (sym (put-there q b (q b ++ xs) c ne)) ∙ h) in
        unplaced s xs (Some b) t (false_from_ne_true _ (λ y. no_place c (s t) (free t y) sl)) ∙ sl
  ];
  distinct = λ c. elim (cases_eq c b) [
    | inl e ↦ rw (put-here q b (q b ++ xs) c e)
        (IsDistinct-append (q b) xs (ok.distinct b) d (λ t old y. no_place b (s t) (free t y) (ok.sleeps t b old)))
    | inr ne ↦ rw (put-there q b (q b ++ xs) c ne) (ok.distinct c)
  ];
} where
  joined : (t : ℕ) → names (q b ++ xs) t ≡ (names (q b) t || names xs t)
  joined t = list_any-append (eqb t) (q b) xs
