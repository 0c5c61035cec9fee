-- Processes that are copied one by one.
use Rattle.std.proofs.Common.{◌≡◌, ◌+◌, ◌<◌, ◌++◌, ℕ, Bool, true, false, cond, List, [], ◌∷◌, Option, Some, add-one, ap, get_or}
use Rattle.std.proofs.Common.{length, refl, subst, sym, take, ◌∙◌}
use Rattle.std.proofs.Math.Seq.{take-suc}
use Rattle.std.proofs.lemmas.List.{map-append}
use Rattle.std.specs.BTreeMap.{is_at}
use Rattle.std.specs.List.Sorted.{IsStrictlySortedBy}
use Rattle.std.specs.Map.{keys_of, lookup}
use Rattle.std.specs.Ordering.{nat_cmp}
use Rattle.std.specs.Prelude.{option_map}
use Rattle.sorted_map.specs.Maps.{IsOrdered}
use Rattle.meaning.specs.Processes.{Process}
use Rattle.source_offers.specs.declared.process.Process.{Process as ProcessOf}
use Rattle.source_offers.specs.Stages.{process_of}
use Rattle.source_states.specs.States.{numbered, processes_in}

abbrev shown : ℕ × ProcessOf → ℕ × Process
shown e = (e.0, process_of e.1)

-- one more is copied
pub copied-more : (es fs gs : List (ℕ × ProcessOf)) (k : ℕ) (e f : ℕ × ProcessOf) → k < length es → e ≡ get_or es k e
    → shown f ≡ shown e → gs ≡ fs ++ f ∷ [] → numbered fs ≡ numbered (take k es)
    → numbered gs ≡ numbered (take (k + 1) es)
copied-more es fs gs k e f l is same pushed before =
    ap numbered pushed ∙ map-append shown fs (f ∷ [])
    ∙ (λ i. before i ++ same i ∷ [])
    ∙ sym (ap numbered taken ∙ map-append shown (take k es) (e ∷ []))
  where
    taken : take (k + 1) es ≡ take k es ++ e ∷ []
    taken = ap (λ n. take n es) (add-one k) ∙ take-suc es k e l ∙ ap (λ x. take k es ++ x ∷ []) (sym is)

keys : (es : List (ℕ × ProcessOf)) → keys_of (numbered es) ≡ keys_of es
keys [] = refl
keys (e ∷ es) = ap (λ ks. e.0 ∷ ks) (keys es)

chosen : (b : Bool) (q : ProcessOf) (o : Option ProcessOf)
    → cond b (Some (process_of q)) (option_map process_of o) ≡ option_map process_of (cond b (Some q) o)
chosen true q o = refl
chosen false q o = refl

-- the process of a number, among all of them
found : (es : List (ℕ × ProcessOf)) (n : ℕ) → lookup (is_at (nat_cmp n)) (numbered es) ≡ processes_in es n
found [] n = refl
found (e ∷ es) n =
    ap (cond (is_at (nat_cmp n) e.0) (Some (process_of e.1))) (found es n)
    ∙ chosen (is_at (nat_cmp n) e.0) e.1 (lookup (is_at (nat_cmp n)) es)

module _ (es fs : List (ℕ × ProcessOf)) (same : numbered fs ≡ numbered es) where
  pub copied_ordered : IsOrdered nat_cmp es → IsOrdered nat_cmp fs
  copied_ordered ordered = subst (IsStrictlySortedBy nat_cmp) (sym (keys es) ∙ ap keys_of (sym same) ∙ keys fs) ordered

  pub copied_all : processes_in fs ≡ processes_in es
  copied_all = λ i n. (sym (found fs n) ∙ ap (λ ps. lookup (is_at (nat_cmp n)) ps) same ∙ found es n) i
