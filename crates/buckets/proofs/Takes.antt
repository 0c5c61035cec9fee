-- The first sleepers on an address leave it one after another.
use Rattle.std.proofs.Common.{◌≡◌, ◌≢◌, ℕ, zero, suc, ◌+◌, ◌<◌, ◌≤◌, Bool, true, false, ◌||◌, not, cond, eqb, Option}
use Rattle.std.proofs.Common.{None, List, [], ◌∷◌, ◌++◌, length, get_or, take, drop, refl, sym, ap, ◌∙◌, arith, inl, inr}
use Rattle.std.specs.List.{filter, IsDistinct, AllByRecursion}
use Rattle.std.proofs.Math.Path.{fun_ext}
use Rattle.std.proofs.lemmas.Bool.{or_cases, or_left, or_right, or_from, false_from_ne_true, eq-eqb}
use Rattle.std.proofs.lemmas.List.{take_more, take_all, drop_more, drop_min, length-take}
use Rattle.std.proofs.lemmas.List.Folds.{list_any-append}
use Rattle.buckets.specs.Places.{names, with_place}
use Rattle.buckets.specs.Sleepers.{Sleepers, queue, place_of, thread_count, IsSound}
use Rattle.buckets.proofs.Drops.{filter-absent}
use Rattle.buckets.proofs.Outcomes.{names-get_or, Taken, Dropped}

pub names-take : (n t : ℕ) (xs : List ℕ) → names (take n xs) t ≡ true → names xs t ≡ true
names-take zero t xs h = absurd cc
names-take (suc n) t [] h = h
names-take (suc n) t (x ∷ xs) h = elim (or_cases (eqb t x) (names (take n xs) t) h) [
  | inl q ↦ or_left (eqb t x) _ q
  | inr q ↦ or_right (eqb t x) _ (names-take n t xs q)
]

pub with_place-append : (asleep : ℕ → Option ℕ) (xs : List ℕ) (t : ℕ) (p : Option ℕ) → with_place
    (with_place asleep xs p) (t ∷ []) p ≡ with_place asleep (xs ++ t ∷ []) p
with_place-append asleep xs t p = fun_ext (λ u. rw (list_any-append (eqb u) xs (t ∷ []))
    (both p (asleep u) (names xs u) (names (t ∷ []) u))) where
      both : {A : Type 0} (x y : A) (b c : Bool) → cond c x (cond b x y) ≡ cond (b || c) x y
      both x y true true = refl
      both x y true false = refl
      both x y false c = refl

none_named : (t : ℕ) (ts : List ℕ) → AllByRecursion (λ y. eqb t y ≡ false) ts → names ts t ≡ false
none_named t [] h = refl
none_named t (x ∷ xs) h = or_from (eqb t x) _ h.0 (none_named t xs h.1)

distinct-drop : (i : ℕ) (xs : List ℕ) → IsDistinct eqb xs → IsDistinct eqb (drop i xs)
unfolding IsDistinct
distinct-drop zero xs h = h
distinct-drop (suc i) [] h = h
distinct-drop (suc i) (x ∷ xs) h = distinct-drop i xs h.1

-- who heads a list without repeats leaves its rest
filter-head : (t : ℕ) (xs : List ℕ) → IsDistinct eqb (t ∷ xs) → filter (λ u. not (eqb u t)) (t ∷ xs) ≡ xs
unfolding IsDistinct
filter-head t xs h = rw (eq-eqb t t refl) (filter-absent t xs (none_named t xs h.0))

pub drop-take_length : (n : ℕ) (xs : List ℕ) → drop n xs ≡ drop (length (take n xs)) xs
drop-take_length n xs = sym (drop_min n xs) ∙ ap (λ k. drop k xs) (sym (length-take n xs))

-- after the first i of those taken left
pub record Left (s s' : Sleepers) (taken : List ℕ) (a i : ℕ) : Type 0 where
  pub within : i ≤ length taken
  pub rest : queue s' a ≡ drop i (queue s a)
  pub others : (b : ℕ) → b ≢ a → queue s' b ≡ queue s b
  pub places : place_of s' ≡ with_place (place_of s) (take i taken) None
  pub holders : s'.holders ≡ s.holders
  pub threads : thread_count s' ≡ thread_count s
  pub sound : IsSound s'

pub Left-none : (s : Sleepers) (taken : List ℕ) (a : ℕ) → IsSound s → Left s s taken a 0
Left-none s taken a ok = record {
  within = omega arith;
  rest = refl;
  others = λ b ne. refl;
  places = refl;
  holders = refl;
  threads = refl;
  sound = ok;
}

get_or-take : (n i d : ℕ) (xs : List ℕ) → i < length (take n xs) → (i < length xs)
    × (get_or (take n xs) i d ≡ get_or xs i d)
get_or-take zero i d xs l = absurd (omega (arith, l))
get_or-take (suc n) i d [] l = absurd (omega (arith, l))
get_or-take (suc n) zero d (x ∷ xs) l = (omega arith, refl)
get_or-take (suc n) (suc i) d (x ∷ xs) l = let r = get_or-take n i d xs (omega (arith, l)) in (omega (arith, r.0), r.1)

-- the next of those taken is a thread
pub Left-next : (s s' : Sleepers) (taken : List ℕ) (a n i t : ℕ) → IsSound s → taken ≡ take n (queue s a) → Left s s'
    taken a i → i < length taken → t ≡ get_or taken i t → t ≤ thread_count s'
Left-next s s' taken a n i t ok is l h e =
    let named : names (queue s a) t ≡ true = names-take n t (queue s a) (rw (← is, e) (names-get_or taken i t h)) in
    omega (arith, (ok.in_range t a (ok.agree.sleeps t a named)).1, l.threads)

pub Left-more : (s s' s'' : Sleepers) (taken : List ℕ) (a n i t : ℕ) → IsSound s → taken ≡ take n (queue s a)
    → Left s s' taken a i → i < length taken → t ≡ get_or taken i t → Dropped s' s'' t → Left s s'' taken a (i + 1)
Left-more s s' s'' taken a n i t ok is l h e d =
    let q = queue s a in
    let g = get_or-take n i t q (rw is at h) in
    let head : drop i q ≡ t ∷ drop (i + 1) q = drop_more q i t g.0
    ∙ ap (λ x. x ∷ drop (i + 1) q) (sym g.1 ∙ ap (λ x. get_or x i t) (sym is) ∙ sym e) in
    let named : names q t ≡ true = names-take n t q (rw (← is) (rw e (names-get_or taken i t h))) in
    let more : take (i + 1) taken ≡ take i taken ++ t ∷ [] = take_more taken i t h ∙ ap (λ x. take i taken ++ x ∷ [])
    (sym e) in
    record {
      within = omega (arith, h);
      rest = d.queues a ∙ ap (filter (λ u. not (eqb u t))) (l.rest ∙ head)
          ∙ filter-head t (drop (i + 1) q) (rw head at (distinct-drop i q (ok.agree.distinct a)));
      others = λ b ne. d.queues b ∙ ap (filter (λ u. not (eqb u t))) (l.others b ne) ∙ filter-absent t (queue s b)
          (false_from_ne_true _ (λ r. ne (let there = ok.agree.sleeps t a named in
          let also = ok.agree.sleeps t b r in cc)));
      places = d.places ∙ ap (λ p. with_place p (t ∷ []) None) l.places ∙ with_place-append (place_of s)
          (take i taken) t None ∙ ap (λ x. with_place (place_of s) x None) (sym more);
      holders = d.holders ∙ l.holders;
      threads = d.threads ∙ l.threads;
      sound = d.sound.1;
    }

-- all of them left
pub Left-all : (s s' : Sleepers) (taken : List ℕ) (a n i : ℕ) → IsSound s → taken ≡ take n (queue s a) → Left s s' taken
    a i → length taken ≤ i → Taken s s' taken a n
Left-all s s' taken a n i ok is l h =
    let whole : take i taken ≡ taken = take_all i taken h in
    let i_is : i ≡ length taken = omega (arith, h, l.within) in
    record {
      taken = is;
      rest = l.rest ∙ ap (λ k. drop k (queue s a)) i_is ∙ sym (drop-take_length n (queue s a)
          ∙ ap (λ x. drop (length x) (queue s a)) (sym is));
      others = l.others;
      places = l.places ∙ ap (λ x. with_place (place_of s) x None) whole;
      holders = l.holders;
      threads = l.threads;
      sound = (ok, l.sound);
    }
