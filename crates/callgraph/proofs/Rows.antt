-- What each procedure calls.
use Rattle.std.proofs.Common.{◌≡◌, ℕ, zero, suc, ◌<◌, ◌+◌, List, [], ◌∷◌, ◌++◌, length, slice_index_or, slice_set, take}
use Rattle.std.proofs.Common.{true, false, cond, map, nat_eq, refl, ap, ◌∙◌, sym, subst, arith, eq-eqb}
use Rattle.std.proofs.Common.{eqb-true, ◌⊎◌, inl, inr}
use Rattle.std.specs.Prelude.{filter, Contains}
use Rattle.std.proofs.lemmas.List.{map-append, append-nil, get_or-set_same, get_or-set_other}
use Rattle.std.proofs.lemmas.List.Elements.{filter_more}
use Rattle.callgraph.specs.declared.Call.{Call}
use Rattle.callgraph.specs.Calls.{IsCall}
use Rattle.callgraph.specs.Graphs.{callees_of, rows_of}
use Rattle.callgraph.specs.declared.graph.Row.{Row}

pub later : {X : Type 0} (x : X) (xs : List X) (y : X) → Contains xs y → Contains (x ∷ xs) y
later x xs y h = (suc h.0, omega (arith, h.1), h.2)

-- a row more, which is empty
pub empty_more : (xs : List (List ℕ)) → ((a : ℕ) → slice_index_or xs a [] ≡ []) → (a : ℕ)
    → slice_index_or (xs ++ [] ∷ []) a [] ≡ []
empty_more [] h zero = refl
empty_more [] h (suc a) = refl
empty_more (x ∷ xs) h zero = h zero
empty_more (x ∷ xs) h (suc a) = empty_more xs (λ b. h (suc b)) a

-- what is called by one call more
callees_more : (calls : List Call) (i : ℕ) (d : Call) (a : ℕ) → i < length calls → callees_of (take (i + 1) calls) a
    ≡ callees_of (take i calls) a ++ map (λ c. c.callee) (cond (nat_eq (slice_index_or calls i d).caller a)
    (slice_index_or calls i d ∷ []) [])
callees_more calls i d a h = ap (map (λ c. c.callee)) (filter_more (λ c. nat_eq c.caller a) calls i d h)
    ∙ map-append (λ c. c.callee) _ _

-- a row after one call more
pub row_more : (calls : List Call) (rows : List (List ℕ)) (i : ℕ) (d : Call) → i < length calls
    → (slice_index_or calls i d).caller < length rows
    → ((a : ℕ) → slice_index_or rows a [] ≡ callees_of (take i calls) a) → (a : ℕ)
    → slice_index_or (slice_set rows (slice_index_or calls i d).caller
    (slice_index_or rows (slice_index_or calls i d).caller [] ++ (slice_index_or calls i d).callee ∷ [])) a []
    ≡ callees_of (take (i + 1) calls) a
row_more calls rows i d h l same a =
    let c : Call = slice_index_or calls i d in
    let row : List ℕ = slice_index_or rows c.caller [] ++ c.callee ∷ [] in
    (elim (nat_eq c.caller a) as (λ b. (b ≡ true → c.caller ≡ a) → (b ≡ false → a ≡ c.caller → ⊥)
    → slice_index_or (slice_set rows c.caller row) a []
    ≡ callees_of (take i calls) a ++ map (λ x. x.callee) (cond b (c ∷ []) [])) [
      | true ↦ λ yes no. subst (λ (x : ℕ). slice_index_or (slice_set rows c.caller row) x []
          ≡ callees_of (take i calls) x ++ c.callee ∷ []) (yes refl)
          (get_or-set_same rows c.caller row [] l ∙ ap (λ xs. xs ++ c.callee ∷ []) (same c.caller))
      | false ↦ λ yes no. get_or-set_other rows c.caller a row [] (no refl) ∙ same a ∙ sym (append-nil _)
    ] (eqb-true c.caller a) (λ q e. let w : nat_eq c.caller a ≡ true = eq-eqb c.caller a (sym e) in
    let v : false ≡ true = sym q ∙ w in cc)) ∙ sym (callees_more calls i d a h)

pub row_at : (rows : List Row) (k : ℕ) (r : Row) → k < length rows → r ≡ slice_index_or rows k r
    → r.callees.items ≡ slice_index_or (rows_of rows) k []
row_at [] k r h e = absurd (omega (arith, h))
row_at (x ∷ xs) zero r h e = ap (λ z. z.callees.items) e
row_at (x ∷ xs) (suc k) r h e = row_at xs k r (omega (arith, h)) e

-- what is listed is called, and what is called is listed
pub listed : (calls : List Call) (a : ℕ) (d : Call) (k : ℕ) → k < length calls → (slice_index_or calls k d).caller ≡ a
    → Contains (callees_of calls a) (slice_index_or calls k d).callee
listed [] a d k h e = absurd (omega (arith, h))
listed (x ∷ xs) a d zero h e =
    elim (nat_eq x.caller a) as (λ b. (b ≡ true) → Contains (map (λ c. c.callee) (cond b
    (x ∷ filter (λ c. nat_eq c.caller a) xs) (filter (λ c. nat_eq c.caller a) xs))) x.callee) [
      | true ↦ λ q. (0, omega arith, refl)
      | false ↦ λ q. let w : false ≡ true = q in cc
    ] (eq-eqb _ _ e)
listed (x ∷ xs) a d (suc k) h e =
    elim (nat_eq x.caller a) as (λ b. Contains (map (λ c. c.callee) (cond b
    (x ∷ filter (λ c. nat_eq c.caller a) xs) (filter (λ c. nat_eq c.caller a) xs))) (slice_index_or xs k d).callee) [
      | true ↦ later _ _ _ (listed xs a d k (omega (arith, h)) e)
      | false ↦ listed xs a d k (omega (arith, h)) e
    ]

pub is_listed : (calls : List Call) (a b : ℕ) → IsCall calls a b → Contains (callees_of calls a) b
is_listed calls a b h =
    let e : slice_index_or calls h.0 (record { caller = a; callee = b }) ≡ record { caller = a; callee = b } = h.2 in
    subst (λ (x : ℕ). Contains (callees_of calls a) x) (ap (λ c. c.callee) e)
    (listed calls a (record { caller = a; callee = b }) h.0 h.1 (ap (λ c. c.caller) e))

first_or_later : (y : ℕ) (ys : List ℕ) (b k : ℕ) → k < length (y ∷ ys) → slice_index_or (y ∷ ys) k b ≡ b
    → (y ≡ b) ⊎ Contains ys b
first_or_later y ys b zero h e = inl e
first_or_later y ys b (suc k) h e = inr (k, omega (arith, h), e)

alike : (c : Call) (a b : ℕ) → c.caller ≡ a → c.callee ≡ b → c ≡ record { caller = a; callee = b }
alike c a b e f = ap (λ n. record { caller = n; callee = c.callee }) e ∙ ap (λ n. record { caller = a; callee = n }) f

pub is_called : (calls : List Call) (a b : ℕ) → Contains (callees_of calls a) b → IsCall calls a b
is_called [] a b h = absurd (omega (arith, h.1))
is_called (x ∷ xs) a b h =
    elim (nat_eq x.caller a) as (λ t. (t ≡ true → x.caller ≡ a) → Contains (map (λ c. c.callee) (cond t
    (x ∷ filter (λ c. nat_eq c.caller a) xs) (filter (λ c. nat_eq c.caller a) xs))) b → IsCall (x ∷ xs) a b) [
      | true ↦ λ yes k. elim (first_or_later x.callee _ b k.0 k.1 k.2) [
        | inl e ↦ (0, omega arith, alike x a b (yes refl) e)
        | inr l ↦ later x xs _ (is_called xs a b l)
      ]
      | false ↦ λ yes k. later x xs _ (is_called xs a b k)
    ] (eqb-true x.caller a) h
