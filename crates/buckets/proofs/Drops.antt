-- A thread leaves its bucket's list, wherever it stands in it.
use Rattle.std.proofs.Common.{◌≡◌, ◌≢◌, ℕ, ◌<◌, ◌%◌, true, false, not, eqb, Option, Some, None, List, [], ◌∷◌, length}
use Rattle.std.proofs.Common.{get_or, set, refl, sym, ap, ◌∙◌, inl, inr}
use Rattle.std.specs.List.{filter}
use Rattle.std.proofs.lemmas.Bool.{cases_eq, eq-eqb, ne_eqb, eqb-true, or_cases, or_parts, or_left, or_right}
use Rattle.std.proofs.lemmas.Bool.{both_ways, false_from_ne_true}
use Rattle.std.proofs.lemmas.List.{get_or-set_same, get_or-set_other, length-set}
use Rattle.words.specs.declared.mem.Addr.{Addr}
use Rattle.buckets.specs.declared.sleeper.Sleeper.{Sleeper}
use Rattle.buckets.specs.Places.{names}
use Rattle.buckets.specs.Lists.{among, Stand, IsConsistent}
use Rattle.buckets.proofs.Queues.{on, on-here, on-elsewhere}
use Rattle.buckets.proofs.Rows.{mod_lt}
use Rattle.buckets.proofs.Changes.{Replaces}

-- the sleepers of a list that aren't a thread's
abbrev pub others : ℕ → List Sleeper → List Sleeper
others t ss = filter (λ s. not (eqb s.thread t)) ss

pub others-same : (t : ℕ) (s : Sleeper) (ss : List Sleeper) → s.thread ≡ t → others t (s ∷ ss) ≡ others t ss
others-same t s ss e = rw (eq-eqb s.thread t e) refl

pub others-kept : (t : ℕ) (s : Sleeper) (ss : List Sleeper) → s.thread ≢ t → others t (s ∷ ss) ≡ s ∷ others t ss
others-kept t s ss ne = rw (ne_eqb s.thread t ne) refl

pub filter-absent : (t : ℕ) (xs : List ℕ) → names xs t ≡ false → filter (λ u. not (eqb u t)) xs ≡ xs
filter-absent t [] h = refl
filter-absent t (x ∷ xs) h =
    let p = or_parts (eqb t x) (names xs t) h in
    rw (ne_eqb x t (λ e. both_ways (eqb t x) p.0 (eq-eqb t x (sym e)))) (ap (λ ys. x ∷ ys) (filter-absent t xs p.1))

pub on-others : (b t : ℕ) (ss : List Sleeper) → on b (others t ss) ≡ filter (λ u. not (eqb u t)) (on b ss)
on-others b t [] = refl
on-others b t (s ∷ ss) = elim (cases_eq s.thread t) [
  | inl e ↦ rw (others-same t s ss e) (on-others b t ss ∙ elim (cases_eq s.address.0 b) [
    | inl q ↦ rw (on-here b s ss q, eq-eqb s.thread t e) refl
    | inr q ↦ rw (on-elsewhere b s ss q) refl
  ])
  | inr ne ↦ rw (others-kept t s ss ne) (elim (cases_eq s.address.0 b) [
    | inl q ↦ rw (on-here b s (others t ss) q, on-here b s ss q, ne_eqb s.thread t ne) (ap (λ ys. s.thread ∷ ys)
        (on-others b t ss))
    | inr q ↦ rw (on-elsewhere b s (others t ss) q, on-elsewhere b s ss q) (on-others b t ss)
  ])
]

among-others : (t u : ℕ) (ss : List Sleeper) → among u (others t ss) ≡ true → among u ss ≡ true
among-others t u [] h = h
among-others t u (s ∷ ss) h = elim (cases_eq s.thread t) [
  | inl e ↦ or_right (eqb u s.thread) _ (among-others t u ss (rw (others-same t s ss e) at h))
  | inr ne ↦ elim (or_cases (eqb u s.thread) (among u (others t ss)) (rw (others-kept t s ss ne) at h)) [
    | inl q ↦ or_left (eqb u s.thread) _ q
    | inr q ↦ or_right (eqb u s.thread) _ (among-others t u ss q)
  ]
]

others-rest : (t u : ℕ) (ss : List Sleeper) → u ≢ t → among u ss ≡ true → among u (others t ss) ≡ true
others-rest t u [] ne h = h
others-rest t u (s ∷ ss) ne h = elim (cases_eq s.thread t) [
  | inl e ↦ rw (others-same t s ss e) (elim (or_cases (eqb u s.thread) (among u ss) h) [
    | inl q ↦ absurd (ne (eqb-true u s.thread q ∙ e))
    | inr q ↦ others-rest t u ss ne q
  ])
  | inr o ↦ rw (others-kept t s ss o) (elim (or_cases (eqb u s.thread) (among u ss) h) [
    | inl q ↦ or_left (eqb u s.thread) _ q
    | inr q ↦ or_right (eqb u s.thread) _ (others-rest t u ss ne q)
  ])
]

stand-others : (places : List (Option Addr)) (n k t : ℕ) (ss : List Sleeper) → Stand places n k ss → Stand
    (set places t None) n k (others t ss)
stand-others places n k t [] st = tt
stand-others places n k t (s ∷ ss) st = elim (cases_eq s.thread t) [
  | inl e ↦ rw (others-same t s ss e) (stand-others places n k t ss st.3)
  | inr ne ↦ rw (others-kept t s ss ne) (
    st.0,
    get_or-set_other places t s.thread None None ne ∙ st.1,
    false_from_ne_true _ (λ h. both_ways (among s.thread ss) st.2 (among-others t s.thread ss h)),
    stand-others places n k t ss st.3,
  )
]

pub drops : (places : List (Option Addr)) (rows : List (List Sleeper)) (t : ℕ) (a : Addr) → IsConsistent places rows
    → t < length places → get_or places t None ≡ Some a → Replaces places (set places t None) (length rows)
    (a.0 % length rows) (others t (get_or rows (a.0 % length rows) []))
drops places rows t a i l sleeps = record {
  long = length-set places t None;
  no_zero = elim (cases_eq 0 t) [
    | inl e ↦ rw e (get_or-set_same places t None None l)
    | inr o ↦ get_or-set_other
        places t 0 None None o ∙ i.no_zero
  ];
  kept = λ u b h ne. get_or-set_other places t u None None (λ e. let at : get_or places t None ≡ Some b = rw e at h
      in let is : a ≡ b = cc in absurd (ne (ap (λ x. x.0 % length rows) (sym is)))) ∙ h;
  back = λ u b h ne. sym (get_or-set_other places t u None None (apart u b h)) ∙ h;
  stand = stand-others places (length rows) (a.0 % length rows) t _ (i.stand (a.0 % length rows)
      (mod_lt a.0 (length rows) i.some));
  found = λ u b h e. others-rest t u _ (apart u b h)
      (rw e at (i.found u b (sym (get_or-set_other places t u None None (apart u b h)) ∙ h)));
} where
  apart : (u : ℕ) (b : Addr) → get_or (set places t None) u None ≡ Some b → u ≢ t
  apart u b h e = let at : get_or (set places t None) t None ≡ Some b = rw e at h in let no = get_or-set_same places
      t None None l in cc
