-- Rising threads are the members of their set, and are read one by one.
use Rattle.std.proofs.Common.{◌≡◌, ◌<◌, ◌≤◌, ◌^◌, ◌⊎◌, ◌||◌, eqb, ℕ, zero, suc, List, [], ◌∷◌, ◌++◌, length}
use Rattle.std.proofs.Common.{true, false, refl, ap, sym, ◌∙◌, subst, arith, inl, inr, length-append}
use Rattle.std.specs.List.{All}
use Rattle.std.specs.Fmt.{decimal}
use Rattle.std.proofs.lemmas.Bool.{cases_eq, cases_lt, cases_Bool, eq-eqb, ne_eqb, both_ways}
use Rattle.std.proofs.lemmas.List.{append-nil, append_assoc}
use Rattle.std.proofs.lemmas.List.Elements.{All-cons, All-nil}
use Rattle.std.proofs.lemmas.Grind.{flat_map-append}
use Rattle.words.specs.Limits.{most_threads}
use Rattle.buckets.specs.Places.{names}
use Rattle.machine.specs.ThreadSets.{has, IsThread, set_of}
use Rattle.machine.specs.declared.thread_set.ThreadSet.{ThreadSet}
use Rattle.log_text.specs.Cuts.{NoDigit, NoNumber, Rises}
use Rattle.log_text.specs.LogLines.{members, numbers_text}
use Rattle.log_text.proofs.Digits.{digit_there}
use Rattle.log_text.proofs.Members.{more, same_named}

-- the last of rising threads is this, or there is none
abbrev pub Ends : ℕ → List ℕ → ℕ → Type 0
Ends low [] last = low ≡ last
Ends low (t ∷ ts) last = Ends t ts last

pub rises_more : (low last t : ℕ) (ts : List ℕ) → Rises low ts → Ends low ts last → last < t → t ≤ most_threads
    → Rises low (ts ++ (t ∷ []))
rises_more low last t [] rises ends less few = (omega (arith, ends, less), few, tt)
rises_more low last t (u ∷ ts) rises ends less few = (rises.0, rises.1, rises_more u last t ts rises.2 ends less few)

pub ends_more : (low t : ℕ) (ts : List ℕ) → Ends low (ts ++ (t ∷ [])) t
ends_more low t [] = refl
ends_more low t (u ∷ ts) = ends_more u t ts

pub some_threads : (ts : List ℕ) (last : ℕ) → Ends 0 ts last → (last ≡ 0 → ⊥) → 0 < length ts
some_threads [] last ends some = absurd (some (sym ends))
some_threads (t ∷ ts) last ends some = omega arith

pub rising_threads : (low : ℕ) (ts : List ℕ) → Rises low ts → All IsThread ts
rising_threads low [] rises = All-nil IsThread
rising_threads low (t ∷ ts) rises =
    let above = rises.0 in
    All-cons IsThread t ts (omega (arith, above), rises.1) (rising_threads t ts rises.2)

-- who isn't above a number isn't named above it
low_named : (low t : ℕ) (ts : List ℕ) → Rises low ts → t ≤ low → names ts t ≡ false
low_named low t [] rises le = refl
low_named low t (u ∷ ts) rises le =
    let above = rises.0 in
    (λ i. ne_eqb t u (λ e. absurd (omega (arith, e, above, le))) i || low_named u t ts rises.2 (omega (arith, above, le)) i)

first_named : (t : ℕ) (ts : List ℕ) → names (t ∷ ts) t ≡ true
first_named t ts = ap (λ b. b || names ts t) (eq-eqb t t refl)

tail_same : (x : ℕ) (xs ys : List ℕ) → Rises x xs → Rises x ys → ((t : ℕ) → names (x ∷ xs) t ≡ names (x ∷ ys) t)
    → (t : ℕ) → names xs t ≡ names ys t
tail_same x xs ys p q same t = elim (cases_eq t x) [
  | inl e ↦ low_named x t xs p (omega (arith, e)) ∙ sym (low_named x t ys q (omega (arith, e)))
  | inr ne ↦
      let other : eqb t x ≡ false = ne_eqb t x ne in
      sym (ap (λ b. b || names xs t) other) ∙ same t ∙ ap (λ b. b || names ys t) other
]

-- no two lists of rising threads name the same
apart : (x y : ℕ) (xs ys : List ℕ) → x < y → y ≤ most_threads → Rises y ys
    → ((t : ℕ) → names (x ∷ xs) t ≡ names (y ∷ ys) t) → ⊥
apart x y xs ys less few q same = both_ways (names (x ∷ xs) x)
    (same x ∙ low_named x x (y ∷ ys) (less, few, q) (omega arith)) (first_named x xs)

same_rising : (low : ℕ) (xs ys : List ℕ) → Rises low xs → Rises low ys → ((t : ℕ) → names xs t ≡ names ys t) → xs ≡ ys
same_rising low [] [] p q same = refl
same_rising low [] (y ∷ ys) p q same = absurd (both_ways (names (y ∷ ys) y) (sym (same y)) (first_named y ys))
same_rising low (x ∷ xs) [] p q same = absurd (both_ways (names (x ∷ xs) x) (same x) (first_named x xs))
same_rising low (x ∷ xs) (y ∷ ys) p q same = elim (cases_eq x y) [
  | inl e ↦
      let q' : Rises x ys = subst (λ (n : ℕ). Rises n ys) (sym e) q.2 in
      let rest : xs ≡ ys = same_rising x xs ys p.2 q' (tail_same x xs ys p.2 q'
      (λ t. same t ∙ ap (λ (n : ℕ). names (n ∷ ys) t) (sym e))) in
      λ i. e i ∷ rest i
  | inr other ↦ elim (cases_lt x y) [
    | inl less ↦ absurd (apart x y xs ys less q.1 q.2 same)
    | inr past ↦ absurd (apart y x ys xs (omega (arith, other, past)) p.1 p.2 (λ t. sym (same t)))
  ]
]

-- threads that rise to at most a number
abbrev Row : ℕ → List ℕ → Type 0
Row n ts = (last : ℕ) × (last ≤ n) × Rises 0 ts × Ends 0 ts last

members_row : (set : ThreadSet) (n : ℕ) → n ≤ most_threads → Row n (members set n)
members_row set zero few = (0, omega arith, tt, refl)
members_row set (suc n) few =
    let before = members_row set n (omega (arith, few)) in
    let within = before.1 in
    elim (cases_Bool (has set (suc n))) [
      | inl has_it ↦
          subst (Row (suc n)) (sym (more set n true has_it)) (
            suc n,
            omega arith,
            rises_more 0 before.0 (suc n) (members set n) before.2 before.3 (omega (arith, within)) few,
            ends_more 0 (suc n) (members set n),
          )
      | inr lacks ↦
          subst (Row (suc n)) (sym (more set n false lacks ∙ append-nil (members set n)))
          (before.0, omega (arith, within), before.2, before.3)
    ]

pub members_rise : (set : ThreadSet) → Rises 0 (members set most_threads)
members_rise set = (members_row set most_threads (omega arith)).2

pub members_of : (ts : List ℕ) → Rises 0 ts → members (set_of ts) most_threads ≡ ts
members_of ts rises = same_rising 0 (members (set_of ts) most_threads) ts (members_rise (set_of ts)) rises
    (same_named ts (rising_threads 0 ts rises))

-- what a space or a set begins by is no digit
pub no_digit_space : (xs : List ℕ) → NoDigit (32 ∷ xs)
no_digit_space xs d = let low = d.0 in absurd (omega (arith, low))

pub no_digit : (xs : List ℕ) → NoNumber xs → NoDigit xs
no_digit [] non = tt
no_digit (x ∷ xs) non = non.0

pub no_digit_numbers : (ns end : List ℕ) → NoNumber end → NoDigit (numbers_text ns ++ end)
no_digit_numbers [] end non = no_digit end non
no_digit_numbers (n ∷ ns) end non = no_digit_space (decimal n ++ numbers_text ns ++ end)

pub not_there : (u : ℕ) (text after : List ℕ) → u < 2 ^ 32 → text ≡ 32 ∷ (decimal u ++ after) → NoNumber text → ⊥
not_there u text after small is non =
    let non' : NoNumber (32 ∷ (decimal u ++ after)) = subst NoNumber is non in
    digit_there u (decimal u ++ after) after small (non'.1 refl) refl

-- threads that were read, the last of them, and those that are still to come
abbrev pub ReadsOn : List ℕ → List ℕ → ℕ → List ℕ → Type 0
ReadsOn text read last rest =
    (ts : List ℕ) (end : List ℕ) → Rises 0 ts → NoNumber end → text ≡ numbers_text ts ++ end
    → (later : List ℕ) × (ts ≡ read ++ later) × (rest ≡ numbers_text later ++ end) × Rises last later

pub reads_none : (text : List ℕ) → ReadsOn text [] 0 text
reads_none text ts end rises none is = (ts, refl, is, rises)

-- what a number behind a space gives
abbrev pub GivesNumber : ℕ → List ℕ → List ℕ → Type 0
GivesNumber t rest after =
    (n : ℕ) (left : List ℕ) → n < 2 ^ 32 → NoDigit left → rest ≡ 32 ∷ (decimal n ++ left) → (t ≡ n) × (after ≡ left)

module _ (text read rest after : List ℕ) (last t : ℕ) (next : GivesNumber t rest after) (small : t < 2 ^ 32)
    (is : rest ≡ 32 ∷ (decimal t ++ after)) where
  here : (u : ℕ) (later end : List ℕ) → NoNumber end → rest ≡ numbers_text (u ∷ later) ++ end → u ≤ most_threads
      → (t ≡ u) × (after ≡ numbers_text later ++ end)
  here u later end none more few =
      next u (numbers_text later ++ end) (omega (arith, few)) (no_digit_numbers later end none)
      (more ∙ append_assoc (32 ∷ decimal u) (numbers_text later) end)

  goes_on : (ts end later : List ℕ) → NoNumber end → ts ≡ read ++ later → rest ≡ numbers_text later ++ end
      → Rises last later → (later' : List ℕ) × (ts ≡ (read ++ (t ∷ [])) ++ later')
      × (after ≡ numbers_text later' ++ end) × Rises t later'
  goes_on ts end [] none sum more up = absurd (not_there t rest after small is (subst NoNumber (sym more) none))
  goes_on ts end (u ∷ later) none sum more up =
      let one = here u later end none more up.1 in (
        later,
        sum ∙ ap (λ (n : ℕ). read ++ (n ∷ later)) (sym one.0) ∙ sym (append_assoc read (t ∷ []) later),
        one.1,
        subst (λ (n : ℕ). Rises n later) (sym one.0) up.2,
      )

  pub reads_more : ReadsOn text read last rest → ReadsOn text (read ++ (t ∷ [])) t after
  reads_more on ts end rises none whole =
      let now = on ts end rises none whole in
      goes_on ts end now.0 none now.1 now.2 now.3

  falls : (ts end later : List ℕ) → (t ≤ last) ⊎ (most_threads < t) → NoNumber end → rest ≡ numbers_text later ++ end
      → Rises last later → ⊥
  falls ts end [] bad none more up = not_there t rest after small is (subst NoNumber (sym more) none)
  falls ts end (u ∷ later) (inl low) none more up =
      let one = (here u later end none more up.1).0 in
      let above = up.0 in
      absurd (omega (arith, one, above, low))
  falls ts end (u ∷ later) (inr high) none more up =
      let few = up.1 in
      let one = (here u later end none more few).0 in
      absurd (omega (arith, one, few, high))

  -- a number that doesn't rise, or isn't a thread's
  pub reads_not : (t ≤ last) ⊎ (most_threads < t) → ReadsOn text read last rest → (ts end : List ℕ) → Rises 0 ts → NoNumber end
      → text ≡ numbers_text ts ++ end → ⊥
  reads_not bad on ts end rises none whole =
      let now = on ts end rises none whole in
      falls ts end now.0 bad none now.2 now.3

-- nothing is still to come where no number stands
pub reads_all : (text read rest : List ℕ) (last : ℕ)
    → ((n : ℕ) (left : List ℕ) → n < 2 ^ 32 → NoDigit left → rest ≡ 32 ∷ (decimal n ++ left) → ⊥)
    → ReadsOn text read last rest → (ts end : List ℕ) → Rises 0 ts → NoNumber end → text ≡ numbers_text ts ++ end
    → (ts ≡ read) × (rest ≡ end)
reads_all text read rest last never on ts end rises none whole =
    let now = on ts end rises none whole in by now.0 now.1 now.2 now.3
  where
    by : (later : List ℕ) → ts ≡ read ++ later → rest ≡ numbers_text later ++ end → Rises last later
        → (ts ≡ read) × (rest ≡ end)
    by [] sum more up = (sum ∙ append-nil read, more)
    by (u ∷ later) sum more up =
        let few = up.1 in
        absurd (never u (numbers_text later ++ end) (omega (arith, few)) (no_digit_numbers later end none)
        (more ∙ append_assoc (32 ∷ decimal u) (numbers_text later) end))

-- one thread more, and the text behind it
pub numbers_more : (text read read' rest after : List ℕ) (t : ℕ) → text ≡ numbers_text read ++ rest
    → rest ≡ 32 ∷ (decimal t ++ after) → read' ≡ read ++ (t ∷ []) → text ≡ numbers_text read' ++ after
numbers_more text read read' rest after t whole is grows =
    let one : numbers_text read' ≡ numbers_text read ++ (32 ∷ decimal t) =
    ap numbers_text grows ∙ flat_map-append (λ (n : ℕ). 32 ∷ decimal n) read (t ∷ [])
    ∙ ap (λ (z : List ℕ). numbers_text read ++ z) (append-nil (32 ∷ decimal t)) in
    whole ∙ ap (λ (z : List ℕ). numbers_text read ++ z) is
    ∙ sym (append_assoc (numbers_text read) (32 ∷ decimal t) after) ∙ ap (λ (z : List ℕ). z ++ after) (sym one)

pub shorter : (rest after : List ℕ) (t : ℕ) → rest ≡ 32 ∷ (decimal t ++ after) → length after < length rest
shorter rest after t is =
    let l : length rest ≡ length (32 ∷ (decimal t ++ after)) = ap length is in
    let sum = length-append (decimal t) after in
    omega (arith, l, sum)
