-- One call more.
use Rattle.std.proofs.Common.{◌≡◌, ℕ, zero, suc, ◌<◌, ◌+◌, List, [], ◌∷◌, length, slice_index_or, Bool, false}
use Rattle.std.proofs.Common.{◌||◌, ◌&&◌, nat_eq, refl, ap, ◌∙◌, sym, arith, add-one}
use Rattle.std.specs.List.{list_any}
use Rattle.callgraph.specs.declared.Call.{Call}
use Rattle.callgraph.specs.Calls.{Within, has_chain}

-- two tests that agree on each element
pub any_alike : {X : Type 0} (p q : X → Bool) (xs : List X) → ((i : ℕ) (d : X) → i < length xs
    → p (slice_index_or xs i d) ≡ q (slice_index_or xs i d)) → list_any p xs ≡ list_any q xs
any_alike p q [] h = refl
any_alike p q (x ∷ xs) h =
    let first : p x ≡ q x = h 0 x (omega arith) in
    let rest : list_any p xs ≡ list_any q xs = any_alike p q xs (λ i d k. h (suc i) d (omega (arith, k))) in
    ap (λ b. b || list_any p xs) first ∙ ap (λ b. q x || b) rest

pub chain_step : (calls : List Call) (marks : List Bool) (count n : ℕ) → Within calls count → ((a : ℕ)
    → a < count → slice_index_or marks a false ≡ has_chain calls n a) → (a : ℕ)
    → list_any (λ c. nat_eq c.caller a && slice_index_or marks c.callee false) calls ≡ has_chain calls (n + 1) a
chain_step calls marks count n within h a =
    any_alike _ _ calls (λ i d k. ap (λ b. nat_eq (slice_index_or calls i d).caller a && b) (h
    (slice_index_or calls i d).callee (within i d k).1))
    ∙ sym (ap (λ m. has_chain calls m a) (add-one n))

-- where one call more makes no difference, no further ones do
pub steady : (calls : List Call) (count n k : ℕ) → Within calls count
    → ((a : ℕ) → a < count → has_chain calls (n + 1) a ≡ has_chain calls n a) → (a : ℕ) → a < count
    → has_chain calls (n + k) a ≡ has_chain calls n a
steady calls count n zero within h a lt =
    let none : n + zero ≡ n = omega arith in ap (λ m. has_chain calls m a) none
steady calls count n (suc k) within h a lt =
    let more : n + suc k ≡ suc (n + k) = omega arith in
    ap (λ m. has_chain calls m a) more
    ∙ any_alike _ _ calls (λ i d j. ap (λ b. nat_eq (slice_index_or calls i d).caller a && b)
    (steady calls count n k within h (slice_index_or calls i d).callee (within i d j).1))
    ∙ sym (ap (λ m. has_chain calls m a) (add-one n)) ∙ h a lt
