-- Threads that were taken come to the end of another list, one after another.
use Rattle.std.proofs.Common.{◌≡◌, ◌≢◌, ℕ, zero, suc, ◌+◌, ◌<◌, ◌≤◌, Bool, true, false, cond, eqb, Option, Some}
use Rattle.std.proofs.Common.{None, List, [], ◌∷◌, ◌++◌, length, get_or, take, drop, refl, sym, ap, ◌∙◌, arith}
use Rattle.std.specs.List.{IsDistinct, AllByRecursion}
use Rattle.std.proofs.Math.Path.{fun_ext}
use Rattle.std.proofs.lemmas.Bool.{or_from, both_ways, false_from_ne_true, eq-eqb, eqb-true}
use Rattle.std.proofs.lemmas.List.{append_assoc, append-nil, take_more, take_all}
use Rattle.buckets.specs.Places.{names, with_place}
use Rattle.buckets.specs.Sleepers.{Sleepers, queue, place_of, thread_count, IsSound}
use Rattle.buckets.proofs.Takes.{names-take, with_place-append}
pub use Rattle.buckets.proofs.Takes.{drop-take_length}
use Rattle.buckets.proofs.Outcomes.{names-get_or, Taken}

-- after the first i of those moved came to b
pub record Moved (s s' : Sleepers) (moved : List ℕ) (b i : ℕ) : Type 0 where
  pub last : queue s' b ≡ queue s b ++ take i moved
  pub others : (d : ℕ) → d ≢ b → queue s' d ≡ queue s d
  pub places : place_of s' ≡ with_place (place_of s) (take i moved) (Some b)
  pub holders : s'.holders ≡ s.holders
  pub threads : thread_count s' ≡ thread_count s
  pub sound : IsSound s'

pub Moved-none : (s : Sleepers) (moved : List ℕ) (b : ℕ) → IsSound s → Moved s s moved b 0
Moved-none s moved b ok = record {
  last = sym (append-nil (queue s b));
  others = λ d ne. refl;
  places = refl;
  holders = refl;
  threads = refl;
  sound = ok;
}

-- nobody stands twice in a list without repeats
pub names-front : (xs : List ℕ) (i d : ℕ) → IsDistinct eqb xs → i < length xs → names (take i xs) (get_or xs i d)
    ≡ false
unfolding IsDistinct
names-front [] i d h l = absurd (omega arith)
names-front (x ∷ xs) zero d h l = refl
names-front (x ∷ xs) (suc i) d h l = or_from (eqb (get_or xs i d) x) _ (apart xs i h.0 (omega arith))
    (names-front xs i d h.1 (omega arith)) where
      flip : (y : ℕ) → eqb x y ≡ false → eqb y x ≡ false
      flip y e = false_from_ne_true _ (λ q. both_ways (eqb x y) e (eq-eqb x y (sym (eqb-true y x q))))

      apart : (ys : List ℕ) (j : ℕ) → AllByRecursion (λ y. eqb x y ≡ false) ys → j < length ys → eqb (get_or ys j d) x
          ≡ false
      apart [] j a k = absurd (omega arith)
      apart (y ∷ ys) zero a k = flip y a.0
      apart (y ∷ ys) (suc j) a k = apart ys j a.1 (omega arith)

pub IsDistinct-take : (n : ℕ) (xs : List ℕ) → IsDistinct eqb xs → IsDistinct eqb (take n xs)
unfolding IsDistinct
IsDistinct-take zero xs h = tt
IsDistinct-take (suc n) [] h = tt
IsDistinct-take (suc n) (x ∷ xs) h = (some n xs h.0, IsDistinct-take n xs h.1) where
  some : (m : ℕ) (ys : List ℕ) → AllByRecursion (λ y. eqb x y ≡ false) ys → AllByRecursion (λ y. eqb x y ≡ false)
      (take m ys)
  some zero ys a = tt
  some (suc m) [] a = tt
  some (suc m) (y ∷ ys) a = (a.0, some m ys a.1)

pub Moved-more : (s s' s'' : Sleepers) (moved : List ℕ) (b i t : ℕ) → Moved s s' moved b i → i < length moved → t
    ≡ get_or moved i t
    → queue s'' b ≡ queue s' b ++ t ∷ [] → ((d : ℕ) → d ≢ b → queue s'' d ≡ queue s' d) → place_of s'' ≡ with_place
    (place_of s') (t ∷ []) (Some b) → s''.holders ≡ s'.holders → thread_count s'' ≡ thread_count s' → IsSound s''
    → Moved s s'' moved b (i + 1)
Moved-more s s' s'' moved b i t m l e last others places holders threads ok =
    let more : take (i + 1) moved ≡ take i moved ++ t ∷ [] = take_more moved i t l ∙ ap (λ x. take i moved ++ x ∷ [])
    (sym e) in
    record {
      last = last ∙ ap (λ x. x ++ t ∷ []) m.last ∙ append_assoc (queue s b) (take i moved) (t ∷ [])
          ∙ ap (λ x. queue s b ++ x) (sym more);
      others = λ d ne. others d ne ∙ m.others d ne;
      places = places ∙ ap (λ p. with_place p (t ∷ []) (Some b)) m.places ∙ with_place-append (place_of s)
          (take i moved) t (Some b) ∙ ap (λ x. with_place (place_of s) x (Some b)) (sym more);
      holders = holders ∙ m.holders;
      threads = threads ∙ m.threads;
      sound = ok;
    }

-- the next of those moved sleeps nowhere, and is one of the threads
pub Moved-next : (o s s' : Sleepers) (moved : List ℕ) (a b n i t : ℕ) → IsSound o → moved ≡ take n (queue o a)
    → place_of s ≡ with_place (place_of o) moved None → thread_count s ≡ thread_count o → Moved s s' moved b i
    → i < length moved → t ≡ get_or moved i t
    → ((1 ≤ t) × (t ≤ thread_count s')) × (place_of s' t ≡ None)
Moved-next o s s' moved a b n i t ok taken places threads m l e =
    let named : names moved t ≡ true = rw e (names-get_or moved i t l) in
    let there : place_of o t ≡ Some a = ok.agree.sleeps t a (names-take n t (queue o a) (rw taken at named)) in
    let r = ok.in_range t a there in
    let apart : names (take i moved) t ≡ false = rw e
    (names-front moved i t (rw taken (IsDistinct-take n (queue o a) (ok.agree.distinct a))) l) in (
      (r.0, omega (arith, r.1, threads, m.threads)),
      ap (λ f. f t) m.places ∙ rw apart (ap (λ f. f t) places ∙ rw named refl),
    )

-- in all, they go from one place to the other
pub with_place-again : (asleep : ℕ → Option ℕ) (xs : List ℕ) (p q : Option ℕ) → with_place (with_place asleep xs p)
    xs q ≡ with_place asleep xs q
with_place-again asleep xs p q = fun_ext (λ u. twice q p (asleep u) (names xs u)) where
  twice : {A : Type 0} (x y z : A) (b : Bool) → cond b x (cond b y z) ≡ cond b x z
  twice x y z true = refl
  twice x y z false = refl

-- what the whole move does
pub record Shifted (o s : Sleepers) (moved : List ℕ) (a b : ℕ) : Type 0 where
  pub rest : queue s a ≡ drop (length moved) (queue o a)
  pub last : queue s b ≡ queue o b ++ moved
  pub others : (d : ℕ) → d ≢ a → d ≢ b → queue s d ≡ queue o d
  pub places : place_of s ≡ with_place (place_of o) moved (Some b)
  pub holders : s.holders ≡ o.holders
  pub threads : thread_count s ≡ thread_count o

pub Moved-all : (o s s' : Sleepers) (moved : List ℕ) (a b n i : ℕ) → a ≢ b → Taken o s moved a n → Moved s s' moved b
    i → length moved ≤ i → Shifted o s' moved a b
Moved-all o s s' moved a b n i ne t m l =
    let whole : take i moved ≡ moved = take_all i moved l in
    record {
      rest = m.others a ne ∙ t.rest ∙ drop-take_length n (queue o a) ∙ ap (λ x. drop (length x) (queue o a))
          (sym t.taken);
      last = m.last ∙ ap (λ x. queue s b ++ x) whole ∙ ap (λ x. x ++ moved) (t.others b (λ e. ne (sym e)));
      others = λ d na nb. m.others d nb ∙ t.others d na;
      places = m.places ∙ ap (λ x. with_place (place_of s) x (Some b)) whole ∙ ap (λ p. with_place p moved (Some b))
          t.places ∙ with_place-again (place_of o) moved None (Some b);
      holders = m.holders ∙ t.holders;
      threads = m.threads ∙ t.threads;
    }
