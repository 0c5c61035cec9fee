-- What changes when the list of one bucket does.
use Rattle.std.proofs.Common.{◌≡◌, ◌≢◌, ℕ, ◌<◌, ◌%◌, true, Option, Some, None, List, [], ◌∷◌, length, get_or, set}
use Rattle.std.proofs.Common.{sym, ◌∙◌, arith, inl, inr}
use Rattle.std.proofs.lemmas.Bool.{cases_eq}
use Rattle.std.proofs.lemmas.List.{get_or-set_same, get_or-set_other, length-set}
use Rattle.words.specs.declared.mem.Addr.{Addr}
use Rattle.buckets.specs.declared.sleeper.Sleeper.{Sleeper}
use Rattle.buckets.specs.Lists.{concatenation, among, Stand, IsConsistent}
use Rattle.buckets.proofs.Queues.{on}
use Rattle.buckets.proofs.Rows.{on-concatenation}

-- what a new table and a new list of bucket k owe, where n buckets are
pub record Replaces (places places' : List (Option Addr)) (n k : ℕ) (row : List Sleeper) : Type 0 where
  pub long : length places' ≡ length places
  pub no_zero : get_or places' 0 None ≡ None
  pub kept : (t : ℕ) (a : Addr) → get_or places t None ≡ Some a → a.0 % n ≢ k → get_or places' t None ≡ Some a
  pub back : (t : ℕ) (a : Addr) → get_or places' t None ≡ Some a → a.0 % n ≢ k → get_or places t None ≡ Some a
  pub stand : Stand places' n k row
  pub found : (t : ℕ) (a : Addr) → get_or places' t None ≡ Some a → a.0 % n ≡ k → among t row ≡ true

stand-kept : (places places' : List (Option Addr)) (n j k : ℕ) (ss : List Sleeper)
    → ((t : ℕ) (a : Addr) → get_or places t None ≡ Some a → a.0 % n ≢ k → get_or places' t None ≡ Some a) → j ≢ k
    → Stand places n j ss → Stand places' n j ss
stand-kept places places' n j k [] kept ne st = tt
stand-kept places places' n j k (s ∷ ss) kept ne st = (
  st.0,
  kept s.thread s.address st.1 (λ e. ne (sym st.0 ∙ e)),
  st.2,
  stand-kept places places' n j k ss kept ne st.3,
)

pub replaced : (places places' : List (Option Addr)) (rows : List (List Sleeper)) (k : ℕ) (row : List Sleeper)
    → IsConsistent places rows → k < length rows → Replaces places places' (length rows) k row → IsConsistent places'
    (set rows k row)
replaced places places' rows k row i l r =
    let n : length (set rows k row) ≡ length rows = length-set rows k row in
    record {
      threads = omega (arith, r.long, i.threads);
      few = omega (arith, r.long, i.few);
      no_zero = r.no_zero;
      some = omega (arith, n, i.some);
      stand = λ j h. rw n (elim (cases_eq j k) [
        | inl e ↦ rw (e, get_or-set_same rows k row [] l) r.stand
        | inr ne ↦ rw (get_or-set_other rows k j row [] ne) (stand-kept places places' (length rows) j k _ r.kept ne
            (i.stand j (omega arith)))
      ]);
      found = λ t a h. rw n (elim (cases_eq (a.0 % length rows) k) [
        | inl e ↦ rw (e, get_or-set_same rows k row [] l) (r.found t a h e)
        | inr ne ↦ rw (get_or-set_other rows k (a.0 % length rows) row [] ne) (i.found t a (r.back t a h ne))
      ]);
    }

-- the sleepers on an address after the change, by whether its bucket changed
pub on-replaced : (places places' : List (Option Addr)) (rows : List (List Sleeper)) (k : ℕ) (row : List Sleeper)
    → IsConsistent places rows → IsConsistent places' (set rows k row) → k < length rows → (b : ℕ) (ys : List ℕ)
    → (b % length rows ≡ k → on b row ≡ ys) → (b % length rows ≢ k → on b (concatenation rows) ≡ ys) → on b
    (concatenation (set rows k row)) ≡ ys
on-replaced places places' rows k row i i' l b ys here there =
    let n : length (set rows k row) ≡ length rows = length-set rows k row in
    on-concatenation places' (set rows k row) i' b ∙ rw n (elim (cases_eq (b % length rows) k) [
      | inl e ↦ rw (e, get_or-set_same rows k row [] l) (here e)
      | inr ne ↦ rw (get_or-set_other rows k (b % length rows) row [] ne)
          (sym (on-concatenation places rows i b) ∙ there ne)
    ])
