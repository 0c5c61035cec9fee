-- The numbers of the processes.
use Rattle.std.proofs.Common.{◌≡◌, ◌==◌, ◌↔◌, ◌+◌, ◌<◌, ◌≤◌, ◌++◌, ℕ, true, List, ◌∷◌, [], Contains, Option, Some, None}
use Rattle.std.proofs.Common.{add-one, ap, arith, get_or, length, refl, sym, take, ◌∙◌}
use Rattle.std.proofs.Math.Seq.{take-suc}
use Rattle.std.proofs.lemmas.Bool.Decides.{nat_tests}
use Rattle.std.proofs.lemmas.Cmp.{nat_cmp_total}
use Rattle.std.proofs.lemmas.List.{map-append, take_all}
use Rattle.std.proofs.lemmas.Map.Views.{Contains-keys_from_lookup, IsSome-lookup_from_Contains}
use Rattle.std.specs.Cmp.{eq_by_cmp_equiv, unsigned_tied}
use Rattle.std.specs.Map.{keys_of}
use Rattle.std.specs.Ordering.{eq_by_cmp, nat_cmp}
use Rattle.std.specs.Prelude.{IsSome, is_some, option_map}
use Rattle.sorted_map.specs.Maps.{get}
use Rattle.source_offers.specs.declared.process.Process.{Process as ProcessOf}
use Rattle.source_offers.specs.Stages.{process_of}
use Rattle.source_states.specs.States.{processes_in}

alike : (a b : ℕ) → eq_by_cmp nat_cmp a b ≡ true → a ≡ b
alike a b h = let is : (a == b) ≡ true = sym (unsigned_tied a b) ∙ h in grind (arith, nat_tests)

some_stays : (o : Option ProcessOf) → is_some (option_map process_of o) ≡ is_some o
some_stays None = refl
some_stays (Some q) = refl

-- a process is there where its number is one of them
pub are_numbers : (es : List (ℕ × ProcessOf)) (q : ℕ) → Contains (keys_of es) q ↔ IsSome (processes_in es q)
are_numbers es q = (
  λ h. some_stays (get nat_cmp es q) ∙ IsSome-lookup_from_Contains (eq_by_cmp_equiv nat_cmp_total) q es h,
  λ h. Contains-keys_from_lookup alike q es (sym (some_stays (get nat_cmp es q)) ∙ h),
)

-- one number more is seen
pub seen-more : (es : List (ℕ × ProcessOf)) (ns ms : List ℕ) (k : ℕ) (e : ℕ × ProcessOf) → k < length es
    → e ≡ get_or es k e → ms ≡ ns ++ e.0 ∷ [] → ns ≡ keys_of (take k es) → ms ≡ keys_of (take (k + 1) es)
seen-more es ns ms k e l is pushed before =
    pushed ∙ ap (λ xs. xs ++ e.0 ∷ []) before
    ∙ sym (ap keys_of taken ∙ map-append (λ (f : ℕ × ProcessOf). f.0) (take k es) (e ∷ []))
  where
    taken : take (k + 1) es ≡ take k es ++ e ∷ []
    taken = ap (λ n. take n es) (add-one k) ∙ take-suc es k e l ∙ ap (λ x. take k es ++ x ∷ []) (sym is)

-- the numbers of all that were gone through
pub all_seen : (es all : List (ℕ × ProcessOf)) (ns : List ℕ) (k : ℕ) → length es ≤ k → es ≡ all
    → ns ≡ keys_of (take k es) → ns ≡ keys_of all
all_seen es all ns k past is seen = seen ∙ ap keys_of (take_all k es past ∙ is)
