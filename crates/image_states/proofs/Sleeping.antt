-- Who sleeps where, by numbers, as loops over them go on.
use Rattle.std.proofs.Common.{◌≡◌, ◌≢◌, ◌<◌, ◌≤◌, ◌+◌, ◌-◌, ◌∙◌, ◌||◌, ℕ, zero, suc, Bool, true, false, List, [], ◌∷◌, ◌++◌, Option, None}
use Rattle.std.proofs.Common.{inl, inr, refl, sym, ap, arith, length, subst, take, get_or, eqb}
use Rattle.std.specs.Prelude.{◌⊎◌, nat_eq, slice_index, slice_set}
use Rattle.std.specs.List.{IsDistinct}
use Rattle.std.proofs.Math.Path.{fun_ext}
use Rattle.std.proofs.lemmas.Bool.{cases_lt, eq-eqb, eqb-true, or_cases, or_left, or_right}
use Rattle.std.proofs.lemmas.List.{get_or_past, get_or-set_other, get_or-set_same, length-append, take_more}
use Rattle.std.proofs.lemmas.List.Elements.{All-push, All-weaker}
use Rattle.std.proofs.lemmas.List.Folds.{list_any-append}
use Rattle.std.proofs.lemmas.Map.Keys.{IsDistinct-push}
use Rattle.words.proofs.Updates.{at_put}
use Rattle.buckets.specs.Places.{names, with_place}
use Rattle.buckets.proofs.Takes.{with_place-append}
use Rattle.image_states.specs.Choosing.{AreSleepers}
use Rattle.image_states.specs.Crowds.{counted, sleepers_on}
use Rattle.image_states.specs.Room.{AreThreads}
use Rattle.image_states.specs.Packed.{asleep_at, place_of}
use Rattle.image_states.proofs.Choosing.{number_laws}
use Rattle.image_states.proofs.Crowds.{counted_here, counted_other, sleepers_next}
use Rattle.image_states.proofs.Turned.{alone_put}

-- of the first k threads these sleep at a place
pub record SleepersTo (places : List ℕ) (place k : ℕ) (sleepers : List ℕ) : Type 0 where
  pub distinct : IsDistinct nat_eq sleepers
  pub within : (t : ℕ) → names sleepers t ≡ true → t ≤ k
  pub sleep : (t : ℕ) → names sleepers t ≡ true → asleep_at places t ≡ place_of place
  pub all : (t : ℕ) → t ≤ k → asleep_at places t ≡ place_of place → names sleepers t ≡ true
  pub threads : AreThreads k sleepers
  pub count : length sleepers ≡ sleepers_on (asleep_at places) (place - 1) k

nowhere : (place : ℕ) → 0 < place → None ≡ place_of place → ⊥
nowhere zero less e = omega (arith, less)
nowhere (suc a) less e = cc

place_one : (m n : ℕ) → 0 < n → place_of m ≡ place_of n → m ≡ n
place_one zero n less e = absurd (nowhere n less e)
place_one (suc m) zero less e = absurd (omega (arith, less))
place_one (suc m) (suc n) less e = let same : m ≡ n = cc in ap suc same

pub sleepers_none : (places : List ℕ) (place : ℕ) → 0 < place → SleepersTo places place 0 []
unfolding IsDistinct
sleepers_none places place some = record {
  distinct = tt;
  within = λ t h. absurd (let no' : false ≡ true = h in cc);
  sleep = λ t h. absurd (let no' : false ≡ true = h in cc);
  all = λ t less e. first t less e;
  threads = λ i d less. absurd (omega (arith, less));
  count = refl;
}
  where
    first : (t : ℕ) → t ≤ 0 → asleep_at places t ≡ place_of place → names [] t ≡ true
    first zero less e = absurd (nowhere place some e)
    first (suc t) less e = absurd (omega (arith, less))

module _ (places : List ℕ) (place k : ℕ) (sleepers : List ℕ) (so_far : SleepersTo places place k sleepers) where
  named : (t : ℕ) → names (sleepers ++ (k + 1) ∷ []) t ≡ (names sleepers t || eqb t (k + 1))
  named t = list_any-append (eqb t) sleepers ((k + 1) ∷ []) ∙ ap (λ b. names sleepers t || b) (or_none (eqb t (k + 1)))
    where
      or_none : (b : Bool) → (b || false) ≡ b
      or_none true = refl
      or_none false = refl

  fresh : names sleepers (k + 1) ≡ false
  fresh = by (names sleepers (k + 1)) refl
    where
      by : (b : Bool) → names sleepers (k + 1) ≡ b → b ≡ false
      by true e = absurd (let less : k + 1 ≤ k = so_far.within (k + 1) e in omega (arith, less))
      by false e = refl

  pub sleepers_more : 0 < place → slice_index places k ≡ place
      → SleepersTo places place (k + 1) (sleepers ++ (k + 1) ∷ [])
  sleepers_more some at = record {
    distinct = IsDistinct-push number_laws sleepers (k + 1) so_far.distinct fresh;
    within = λ t h. elim (or_cases (names sleepers t) (eqb t (k + 1)) (sym (named t) ∙ h)) [
      | inl q ↦ let less : t ≤ k = so_far.within t q in omega (arith, less)
      | inr q ↦ let same : t ≡ k + 1 = eqb-true t (k + 1) q in omega (arith, same)
    ];
    sleep = λ t h. elim (or_cases (names sleepers t) (eqb t (k + 1)) (sym (named t) ∙ h)) [
      | inl q ↦ so_far.sleep t q
      | inr q ↦ here t (eqb-true t (k + 1) q)
    ];
    all = λ t less e. named t ∙ last t less e (cases_lt k t);
    threads = All-push (λ t. (0 < t) × (t ≤ k + 1)) sleepers (k + 1)
        (All-weaker (λ t. (0 < t) × (t ≤ k)) (λ t. (0 < t) × (t ≤ k + 1)) (λ t l. (l.0, omega (arith, l.1))) sleepers
        so_far.threads) (omega arith, omega arith);
    count = length-append sleepers ((k + 1) ∷ []) ∙ ap (λ n. n + 1) so_far.count
        ∙ ap (λ n. sleepers_on (asleep_at places) (place - 1) k + n)
        (sym (counted_here (slice_index places k) place some at))
        ∙ sym (sleepers_next (asleep_at places) (place - 1) k);
  }
    where
      next : k + 1 ≡ suc k
      next = omega arith

      here : (t : ℕ) → t ≡ k + 1 → asleep_at places t ≡ place_of place
      here t e = ap (asleep_at places) (e ∙ next) ∙ ap place_of at

      last : (t : ℕ) → t ≤ k + 1 → asleep_at places t ≡ place_of place → (k < t) ⊎ (t ≤ k)
          → (names sleepers t || eqb t (k + 1)) ≡ true
      last t less e (inl more) = or_right (names sleepers t) (eqb t (k + 1)) (eq-eqb t (k + 1) (omega (arith, less, more)))
      last t less e (inr few) = or_left (names sleepers t) (eqb t (k + 1)) (so_far.all t few e)

  pub sleepers_skip : 0 < place → slice_index places k ≢ place → SleepersTo places place (k + 1) sleepers
  sleepers_skip some other = record {
    distinct = so_far.distinct;
    within = λ t h. let less : t ≤ k = so_far.within t h in omega (arith, less);
    sleep = so_far.sleep;
    all = λ t less e. last t less e (cases_lt k t);
    threads = All-weaker (λ t. (0 < t) × (t ≤ k)) (λ t. (0 < t) × (t ≤ k + 1)) (λ t l. (l.0, omega (arith, l.1))) sleepers
        so_far.threads;
    count =
        let none : counted (asleep_at places (suc k)) (place - 1) ≡ 0 =
        counted_other (slice_index places k) place some other in
        let next : sleepers_on (asleep_at places) (place - 1) (k + 1)
        ≡ sleepers_on (asleep_at places) (place - 1) k + counted (asleep_at places (suc k)) (place - 1) =
        sleepers_next (asleep_at places) (place - 1) k in
        let before : length sleepers ≡ sleepers_on (asleep_at places) (place - 1) k = so_far.count in
        omega (arith, none, next, before);
  }
    where
      last : (t : ℕ) → t ≤ k + 1 → asleep_at places t ≡ place_of place → (k < t) ⊎ (t ≤ k) → names sleepers t ≡ true
      last t less e (inl more) =
          let same : t ≡ suc k = omega (arith, less, more) in
          absurd (other (place_one (slice_index places k) place some (ap (asleep_at places) (sym same) ∙ e)))
      last t less e (inr few) = so_far.all t few e

  pub sleepers_all : 0 < place → k ≡ length places → AreSleepers places place sleepers
  sleepers_all some is = record {
    distinct = so_far.distinct;
    sleep = so_far.sleep;
    all = λ t e. every t e (cases_lt k t);
    threads = subst (λ n. AreThreads n sleepers) is so_far.threads;
    count = so_far.count ∙ ap (sleepers_on (asleep_at places) (place - 1)) is;
  }
    where
      past : length places ≤ k
      past = omega (arith, is)

      every : (t : ℕ) → asleep_at places t ≡ place_of place → (k < t) ⊎ (t ≤ k) → names sleepers t ≡ true
      every t e (inr few) = so_far.all t few e
      every zero e (inl more) = absurd (omega (arith, more))
      every (suc j) e (inl more) = absurd (nowhere place some
          (sym (ap place_of (get_or_past places j 0 (omega (arith, more, past)))) ∙ e))

-- one thread is placed
pub placed_one : (places : List ℕ) (t place : ℕ) → 0 < t → t ≤ length places
    → asleep_at (slice_set places (t - 1) place) ≡ with_place (asleep_at places) (t ∷ []) (place_of place)
placed_one places t place some less =
    fun_ext (λ u. at_put (asleep_at places) t (place_of place) u (λ o. asleep_at (slice_set places (t - 1) place) u ≡ o)
    (here u) (there u))
    ∙ sym (alone_put (asleep_at places) t (place_of place))
  where
    here : (u : ℕ) → u ≡ t → asleep_at (slice_set places (t - 1) place) u ≡ place_of place
    here zero e = absurd (omega (arith, e, some))
    here (suc j) e =
        let same : t - 1 ≡ j = omega (arith, e) in
        ap (λ i. place_of (slice_index (slice_set places i place) j)) same
        ∙ ap place_of (get_or-set_same places j place 0 (omega (arith, e, less)))

    there : (u : ℕ) → u ≢ t → asleep_at (slice_set places (t - 1) place) u ≡ asleep_at places u
    there zero ne = refl
    there (suc j) ne =
        ap place_of (get_or-set_other places (t - 1) j place 0 (λ e. ne (omega (arith, e, some))))

-- one more of those that are placed
pub placed_more : (first places : List ℕ) (chosen : List ℕ) (i t place : ℕ) → i < length chosen → t ≡ get_or chosen i 0
    → 0 < t → t ≤ length places
    → asleep_at places ≡ with_place (asleep_at first) (take i chosen) (place_of place)
    → asleep_at (slice_set places (t - 1) place)
    ≡ with_place (asleep_at first) (take (i + 1) chosen) (place_of place)
placed_more first places chosen i t place less is some fits so_far =
    placed_one places t place some fits
    ∙ ap (λ (f : ℕ → Option ℕ). with_place f (t ∷ []) (place_of place)) so_far
    ∙ with_place-append (asleep_at first) (take i chosen) t (place_of place)
    ∙ ap (λ list. with_place (asleep_at first) list (place_of place))
    (sym (take_more chosen i 0 less ∙ ap (λ n. take i chosen ++ n ∷ []) (sym is)))

-- who is awake behind the others changes nothing
zero_more : (xs : List ℕ) (j : ℕ) → slice_index (xs ++ 0 ∷ []) j ≡ slice_index xs j
zero_more [] zero = refl
zero_more [] (suc j) = refl
zero_more (x ∷ xs) zero = refl
zero_more (x ∷ xs) (suc j) = zero_more xs j

pub asleep_more : (xs : List ℕ) → asleep_at (xs ++ 0 ∷ []) ≡ asleep_at xs
asleep_more xs = fun_ext at
  where
    at : (u : ℕ) → asleep_at (xs ++ 0 ∷ []) u ≡ asleep_at xs u
    at zero = refl
    at (suc j) = ap place_of (zero_more xs j)

pub length_more : (xs : List ℕ) (x : ℕ) → length (xs ++ x ∷ []) ≡ suc (length xs)
length_more xs x = let e : length (xs ++ x ∷ []) ≡ length xs + 1 = length-append xs (x ∷ []) in omega (arith, e)
