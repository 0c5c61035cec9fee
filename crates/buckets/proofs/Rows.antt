-- What the lists of the buckets say of each address and of each thread.
use Rattle.std.proofs.Common.{◌≡◌, ◌≢◌, ℕ, zero, suc, ◌<◌, ◌≤◌, ◌%◌, true, false, eqb, Option, Some, None, List, []}
use Rattle.std.proofs.Common.{◌∷◌, ◌++◌, length, get_or, refl, sym, ap, ◌∙◌, subst, arith, inl, inr}
use Rattle.std.specs.List.{IsDistinct, AllByRecursion}
use Rattle.std.specs.Option.{option_map}
use Rattle.std.proofs.lemmas.Bool.{eqb-true, cases_eq, or_cases, or_parts, or_left, or_right, both_ways, cases_lt}
use Rattle.std.proofs.lemmas.Bool.{false_from_ne_true}
use Rattle.std.proofs.lemmas.List.{append-nil, get_or_past}
use Rattle.std.proofs.lemmas.List.Elements.{filter_map-append}
use Rattle.words.specs.declared.mem.Addr.{Addr}
use Rattle.buckets.specs.declared.sleeper.Sleeper.{Sleeper}
use Rattle.buckets.specs.Places.{names}
use Rattle.buckets.specs.Sleepers.{thread_on, queue, place_of, thread_count, bucket_count, IsSound}
use Rattle.buckets.specs.Lists.{concatenation, among, Stand, IsConsistent}
use Rattle.buckets.proofs.Queues.{on, on-here, on-elsewhere}

-- no list of another bucket has a sleeper on the address
pub on-away : (places : List (Option Addr)) (n k b : ℕ) (ss : List Sleeper) → Stand places n k ss → b % n ≢ k → on b
    ss ≡ []
on-away places n k b [] st h = refl
on-away places n k b (s ∷ ss) st h = on-elsewhere b s ss (λ e. h (ap (λ x. x % n) (sym e) ∙ st.0)) ∙ on-away places n
    k b ss st.3 h

on-joined_at : (b k : ℕ) (rows : List (List Sleeper)) → ((j : ℕ) → j < length rows → j ≢ k → on b (get_or rows j [])
    ≡ []) → k < length rows → on b (concatenation rows) ≡ on b (get_or rows k [])
on-joined_at b k [] away l = absurd (omega arith)
on-joined_at b zero (row ∷ rows) away l =
    filter_map-append (thread_on b) row (concatenation rows) ∙ ap (λ x. on b row ++ x)
    (none rows (λ j h. away (suc j) (omega arith) (omega arith))) ∙ append-nil (on b row) where
      none : (rest : List (List Sleeper)) → ((j : ℕ) → j < length rest → on b (get_or rest j []) ≡ []) → on b
          (concatenation rest) ≡ []
      none [] out = refl
      none (r ∷ rest) out = filter_map-append (thread_on b) r (concatenation rest)
          ∙ ap (λ x. x ++ on b (concatenation rest))
          (out 0 (omega arith)) ∙ none rest (λ j h. out (suc j) (omega arith))
on-joined_at b (suc k) (row ∷ rows) away l =
    filter_map-append (thread_on b) row (concatenation rows) ∙ ap (λ x. x ++ on b (concatenation rows))
    (away 0 (omega arith) (omega arith)) ∙ on-joined_at b k rows (λ j h ne. away (suc j) (omega arith)
    (λ e. ne (omega arith))) (omega arith)

pub mod_lt : (a n : ℕ) → 1 ≤ n → a % n < n
mod_lt a n h = omega arith

-- the sleepers on an address are those of its bucket's list
pub on-concatenation : (places : List (Option Addr)) (rows : List (List Sleeper)) → IsConsistent places rows → (b : ℕ)
    → on b (concatenation rows) ≡ on b (get_or rows (b % length rows) [])
on-concatenation places rows i b = on-joined_at b (b % length rows) rows (λ j l ne. on-away places (length rows) j b
    (get_or rows j []) (i.stand j l) (λ e. ne (sym e))) (mod_lt b (length rows) i.some)

-- who is named for an address stands in the list, and sleeps there by the table
pub place-on : (places : List (Option Addr)) (n k a t : ℕ) (ss : List Sleeper) → Stand places n k ss → names
    (on a ss) t ≡ true → option_map (λ x. x.0) (get_or places t None) ≡ Some a
place-on places n k a t [] st h = absurd cc
place-on places n k a t (s ∷ ss) st h = elim (cases_eq s.address.0 a) [
  | inl e ↦ elim (or_cases (eqb t s.thread) (names (on a ss) t) (rw (on-here a s ss e) at h)) [
    | inl q ↦ rw (eqb-true t s.thread q, st.1) (ap Some e)
    | inr q ↦ place-on places n k a t ss st.3 q
  ]
  | inr e ↦ place-on places n k a t ss st.3 (rw (on-elsewhere a s ss e) at h)
]

pub names-on : (places : List (Option Addr)) (n k t : ℕ) (a : Addr) (ss : List Sleeper) → Stand places n k ss → among
    t ss ≡ true → get_or places t None ≡ Some a → names (on a.0 ss) t ≡ true
names-on places n k t a [] st h g = absurd cc
names-on places n k t a (s ∷ ss) st h g = elim (cases_eq s.address.0 a.0) [
  | inl e ↦ rw (on-here a.0 s ss e) (elim (or_cases (eqb t s.thread) (among t ss) h) [
    | inl q ↦ or_left (eqb t s.thread) _ q
    | inr q ↦ or_right (eqb t s.thread) _ (names-on places n k t a ss st.3 q g)
  ])
  | inr e ↦ rw (on-elsewhere a.0 s ss e) (elim (or_cases (eqb t s.thread) (among t ss) h) [
    | inl q ↦ let same : s.thread ≡ t = sym (eqb-true t s.thread q) in let at : get_or places t None ≡ Some
        s.address = subst (λ x. get_or places x None ≡ Some s.address) same st.1 in
        absurd (e (let is : s.address ≡ a = cc in ap (λ x. x.0) is))
    | inr q ↦ names-on places n k t a ss st.3 q g
  ])
]

pub among-on : (a t : ℕ) (ss : List Sleeper) → names (on a ss) t ≡ true → among t ss ≡ true
among-on a t [] h = h
among-on a t (s ∷ ss) h = elim (cases_eq s.address.0 a) [
  | inl e ↦ elim (or_cases (eqb t s.thread) (names (on a ss) t) (rw (on-here a s ss e) at h)) [
    | inl q ↦ or_left (eqb t s.thread) _ q
    | inr q ↦ or_right (eqb t s.thread) _ (among-on a t ss q)
  ]
  | inr e ↦ or_right (eqb t s.thread) _ (among-on a t ss (rw (on-elsewhere a s ss e) at h))
]

none_named : (t : ℕ) (ts : List ℕ) → names ts t ≡ false → AllByRecursion (λ y. eqb t y ≡ false) ts
none_named t [] h = tt
none_named t (x ∷ xs) h = let p = or_parts (eqb t x) (names xs t) h in (p.0, none_named t xs p.1)

pub distinct-on : (places : List (Option Addr)) (n k a : ℕ) (ss : List Sleeper) → Stand places n k ss → IsDistinct
    eqb (on a ss)
unfolding IsDistinct
distinct-on places n k a [] st = tt
distinct-on places n k a (s ∷ ss) st = elim (cases_eq s.address.0 a) [
  | inl e ↦ rw (on-here a s ss e) (
    none_named s.thread (on a ss)
        (false_from_ne_true _ (λ h. both_ways (among s.thread ss) st.2 (among-on a s.thread ss h))),
    distinct-on places
        n k a ss st.3,
  )
  | inr e ↦ rw (on-elsewhere a s ss e) (distinct-on places n k a ss st.3)
]

-- the entry of the table that says an address
pub entry_of : (o : Option Addr) (a : ℕ) → option_map (λ x. x.0) o ≡ Some a → (x : Addr) × ((o ≡ Some x) × (x.0 ≡ a))
entry_of None a h = absurd cc
entry_of (Some x) a h = (x, (refl, cc))

no_entry : (a : ℕ) → option_map (λ (x : Addr). x.0) None ≡ Some a → ⊥
no_entry a h = cc

-- a thread that sleeps has a number of the table, and not 0
pub in_table : (places : List (Option Addr)) (rows : List (List Sleeper)) → IsConsistent places rows → (t a : ℕ)
    → option_map (λ x. x.0) (get_or places t None) ≡ Some a → (1 ≤ t) × (t < length places)
in_table places rows i t a h = (
  elim (cases_eq t 0) [ inl z ↦ absurd (no_entry a (rw (z, i.no_zero) at h)) | inr nz ↦ omega arith ],
  elim (cases_lt t (length places)) [ inl l ↦ l | inr p ↦ absurd (no_entry a (rw (get_or_past places t None p) at h)) ],
)

-- what callers learn
pub sound : (places : List (Option Addr)) (rows : List (List Sleeper)) (holders : List (Option ℕ))
    → IsConsistent places rows → length holders ≡ length rows → IsSound
    (record { places = places; waiting = concatenation rows; holders = holders })
unfolding queue place_of thread_count bucket_count
sound places rows holders i held =
    let home : (a : ℕ) → a % length rows < length rows = λ a. mod_lt a (length rows) i.some in
    record {
      some = omega (arith, i.some, held);
      in_range = λ t a h. let r = in_table places rows i t a h in (r.0, omega (arith, r.1));
      agree = record {
        stands = λ t a h. rw (on-concatenation places rows i a) (named t a (entry_of (get_or places t None) a h));
        sleeps = λ t a h. place-on places (length rows) (a % length rows) a t _ (i.stand (a % length rows) (home a))
            (rw (on-concatenation places rows i a) at h);
        distinct = λ a. rw (on-concatenation places rows i a) (distinct-on places (length rows) (a % length rows) a _
            (i.stand (a % length rows) (home a)));
      };
    } where
      named : (t a : ℕ) → (x : Addr) × ((get_or places t None ≡ Some x) × (x.0 ≡ a)) → names
          (on a (get_or rows (a % length rows) [])) t ≡ true
      named t a e =
          let at : names (on e.0.0 (get_or rows (e.0.0 % length rows) [])) t ≡ true = names-on places (length rows)
          (e.0.0 % length rows) t e.0 _ (i.stand (e.0.0 % length rows) (mod_lt e.0.0 (length rows) i.some))
          (i.found t e.0 e.1.0) e.1.0 in
          rw e.1.1 at at
