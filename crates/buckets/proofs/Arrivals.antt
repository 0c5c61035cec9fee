-- A thread comes to the end of its bucket's list, for which there is room.
use Rattle.std.proofs.Common.{◌≡◌, ◌≢◌, ℕ, ◌+◌, ◌<◌, ◌≤◌, ◌%◌, true, false, eqb, Option, Some, None, List, [], ◌∷◌}
use Rattle.std.proofs.Common.{◌++◌, length, map, get_or, set, refl, sym, ap, ◌∙◌, arith, inl, inr}
use Rattle.std.specs.List.{list_any, IsDistinct, AllByRecursion}
use Rattle.std.proofs.lemmas.Bool.{eq-eqb, ne_eqb, eqb-true, cases_eq, cases_lt, or_cases, or_parts, or_left}
use Rattle.std.proofs.lemmas.Bool.{or_right, or_from}
use Rattle.std.proofs.lemmas.List.{get_or-set_same, get_or-set_other, length-set, length-map, get_or_past}
use Rattle.std.proofs.lemmas.List.Elements.{filter_map-append}
use Rattle.std.proofs.lemmas.List.Folds.{list_any-append}
use Rattle.std.proofs.lemmas.Map.Keys.{IsDistinct-cons}
use Rattle.std.proofs.lemmas.Map.Steps.{length-le_from_distinct_below}
use Rattle.words.specs.declared.mem.Addr.{Addr}
use Rattle.buckets.specs.declared.sleeper.Sleeper.{Sleeper}
use Rattle.buckets.specs.Sleepers.{thread_on}
use Rattle.buckets.specs.Lists.{among, Stand, IsConsistent}
use Rattle.buckets.proofs.Queues.{on}
use Rattle.buckets.proofs.Rows.{mod_lt}
use Rattle.buckets.proofs.Changes.{Replaces}

-- a thread with no place is not one of the list
other_thread : (places : List (Option Addr)) (t : ℕ) (s : Sleeper) → get_or places s.thread None ≡ Some s.address
    → get_or places t None ≡ None → s.thread ≢ t
other_thread places t s h free e = let at : get_or places t None ≡ Some s.address = rw e at h in cc

stand-push : (places : List (Option Addr)) (n k : ℕ) (s : Sleeper) (ss : List Sleeper) → Stand places n k ss → get_or
    places s.thread None ≡ None → s.thread < length places → s.address.0 % n ≡ k → Stand
    (set places s.thread (Some s.address)) n k (ss ++ s ∷ [])
stand-push places n k s [] st free l h = (h, get_or-set_same places s.thread (Some s.address) None l, refl, tt)
stand-push places n k s (x ∷ ss) st free l h =
    let ne : x.thread ≢ s.thread = other_thread places s.thread x st.1 free in (
      st.0,
      get_or-set_other places s.thread x.thread (Some s.address) None ne ∙ st.1,
      list_any-append (λ y. eqb x.thread y.thread) ss (s ∷ []) ∙ or_from _ _ st.2 (or_from (eqb x.thread s.thread)
          false (ne_eqb x.thread s.thread ne) refl),
      stand-push places n k s ss st.3 free l h,
    )

pub enters : (places : List (Option Addr)) (rows : List (List Sleeper)) (s : Sleeper) → IsConsistent places rows
    → 1 ≤ s.thread → s.thread < length places → get_or places s.thread None ≡ None → Replaces places
    (set places s.thread (Some s.address)) (length rows) (s.address.0 % length rows)
    (get_or rows (s.address.0 % length rows) [] ++ s ∷ [])
enters places rows s i p l free =
    let k = s.address.0 % length rows in
    record {
      long = length-set places s.thread (Some s.address);
      no_zero = get_or-set_other places s.thread 0 (Some s.address) None (λ e. absurd (omega arith)) ∙ i.no_zero;
      kept = λ t a h ne. get_or-set_other places s.thread t (Some s.address) None (λ e. let at : get_or places
          s.thread None ≡ Some a = rw e at h in cc) ∙ h;
      back = λ t a h ne. elim (cases_eq t s.thread) [
        | inl e ↦ let at : get_or (set places s.thread (Some s.address)) s.thread None ≡ Some a = rw e at h in
            let is : s.address ≡ a = let g = get_or-set_same places s.thread (Some s.address) None l in cc in absurd
            (ne (ap (λ x. x.0 % length rows) (sym is)))
        | inr o ↦ sym (get_or-set_other places s.thread t (Some s.address) None o) ∙ h
      ];
      stand = stand-push places (length rows) k s _ (i.stand k (mod_lt s.address.0 (length rows) i.some)) free l refl;
      found = λ t a h e. list_any-append (λ y. eqb t y.thread) (get_or rows k []) (s ∷ []) ∙ elim
          (cases_eq t s.thread) [
            | inl q ↦ or_right _ _ (or_left (eqb t s.thread) false (eq-eqb t s.thread q))
            | inr o ↦ or_left _ _ (rw e at (i.found t a
                (sym (get_or-set_other places s.thread t (Some s.address) None o)
                ∙ h)))
          ];
    }

pub on-push : (b : ℕ) (s : Sleeper) (ss : List Sleeper) → on b (ss ++ s ∷ []) ≡ on b ss ++ on b (s ∷ [])
on-push b s ss = filter_map-append (thread_on b) ss (s ∷ [])

-- the numbers of the threads of a list
numbers : List Sleeper → List ℕ
numbers ss = map (λ s. s.thread) ss

numbers-apart : (t : ℕ) (ss : List Sleeper) → among t ss ≡ false → AllByRecursion (λ y. eqb t y ≡ false) (numbers ss)
unfolding numbers
numbers-apart t [] h = tt
numbers-apart t (s ∷ ss) h = let p = or_parts (eqb t s.thread) (among t ss) h in (p.0, numbers-apart t ss p.1)

free-apart : (places : List (Option Addr)) (n k t : ℕ) (ss : List Sleeper) → Stand places n k ss → get_or places t
    None ≡ None → AllByRecursion (λ y. eqb t y ≡ false) (numbers ss)
unfolding numbers
free-apart places n k t [] st free = tt
free-apart places n k t (s ∷ ss) st free = (
  ne_eqb t s.thread (λ e. other_thread places t s st.1 free (sym e)),
  free-apart places n k t ss st.3 free,
)

numbers-distinct : (places : List (Option Addr)) (n k : ℕ) (ss : List Sleeper) → Stand places n k ss → IsDistinct eqb
    (numbers ss)
unfolding numbers IsDistinct
numbers-distinct places n k [] st = tt
numbers-distinct places n k (s ∷ ss) st = (numbers-apart s.thread ss st.2, numbers-distinct places n k ss st.3)

numbers-below : (places : List (Option Addr)) (n k : ℕ) (ss : List Sleeper) → Stand places n k ss → (q : ℕ)
    → list_any (eqb q) (numbers ss) ≡ true → q < length places
unfolding numbers
numbers-below places n k [] st q h = absurd cc
numbers-below places n k (s ∷ ss) st q h = elim (or_cases (eqb q s.thread) _ h) [
  | inl e ↦ elim (cases_lt s.thread (length places)) [
    | inl l ↦ omega (arith, eqb-true q s.thread e)
    | inr p ↦ absurd
        (let no = get_or_past places s.thread None p in let is = st.1 in cc)
  ]
  | inr r ↦ numbers-below places n k ss st.3 q r
]

numbers-length : (ss : List Sleeper) → length (numbers ss) ≡ length ss
unfolding numbers
numbers-length ss = length-map ss (λ s. s.thread)

-- a list is shorter than the table, which has a place for thread 0
pub few_stand : (places : List (Option Addr)) (n k : ℕ) (ss : List Sleeper) → Stand places n k ss → 1 ≤ length places
    → get_or places 0 None ≡ None → length ss + 1 ≤ length places
few_stand places n k ss st some zero =
    let d : IsDistinct eqb (0 ∷ numbers ss) = IsDistinct-cons eqb 0 (numbers ss) (free-apart places n k 0 ss st zero)
    (numbers-distinct places n k ss st) in
    omega (
      arith,
      numbers-length ss,
      length-le_from_distinct_below (0 ∷ numbers ss) (length places) d
          (λ q h. elim (or_cases (eqb q 0) _ h) [
            | inl e ↦ omega (arith, eqb-true q 0 e)
            | inr r ↦ numbers-below places
                n k ss st q r
          ]),
    )

-- and shorter by two where a thread sleeps nowhere
pub room_for : (places : List (Option Addr)) (n k t : ℕ) (ss : List Sleeper) → Stand places n k ss → 1 ≤ t
    → t < length places → get_or places 0 None ≡ None → get_or places t None ≡ None → length ss + 2 ≤ length places
room_for places n k t ss st p l zero free =
    let d0 : IsDistinct eqb (0 ∷ numbers ss) = IsDistinct-cons eqb 0 (numbers ss) (free-apart places n k 0 ss st
    zero) (numbers-distinct places n k ss st) in
    let d : IsDistinct eqb (t ∷ 0 ∷ numbers ss) = IsDistinct-cons eqb t (0 ∷ numbers ss)
    (ne_eqb t 0 (λ e. absurd (omega arith)), free-apart places n k t ss st free) d0 in
    omega (
      arith,
      numbers-length ss,
      length-le_from_distinct_below (t ∷ 0 ∷ numbers ss) (length places) d
          (λ q h. elim (or_cases (eqb q t) _ h) [
            | inl e ↦ omega (arith, eqb-true q t e)
            | inr r ↦ elim
                (or_cases (eqb q 0) _ r) [
                  | inl e ↦ omega (arith, eqb-true q 0 e)
                  | inr r' ↦ numbers-below places n k ss st q
                      r'
                ]
          ]),
    )
