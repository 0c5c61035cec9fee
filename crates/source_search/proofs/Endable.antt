-- Kept states from which each run ends, or none does, among those that are found to be live.
use Rattle.std.proofs.Common.{◌≡◌, ◌<◌, ◌⊎◌, ℕ, List, length, get_or, Option, Some, None, All, Contains, inl, inr, subst, sym, false}
use Rattle.std.specs.Prelude.{MatchOption}
use Rattle.std.proofs.lemmas.List.Elements.{All-map, Contains-get_or}
use Rattle.program.specs.Trees.{Program}
use Rattle.program.specs.WellFormed.{WellFormed}
use Rattle.meaning.specs.States.{SourceState}
use Rattle.source_search.specs.Bounds.{AreAll}
use Rattle.source_search.specs.Ending.{EachMayEnd, HasUnended, IsEndLookedFor}
use Rattle.source_search.specs.Ends.{GoesOnInOne, IsEndable, IsEnded}
use Rattle.source_search.specs.Found.{is_any}
use Rattle.source_search.specs.Kept.{states_in}
use Rattle.source_search.specs.Living.{AreLiveTo}
use Rattle.source_search.specs.Packed.{HasKey, unpacked}
use Rattle.source_search.specs.declared.living.Aim.TheVariants.{End}
use Rattle.source_search.specs.declared.outside.Outside.{Outside}
use Rattle.source_search.specs.declared.packed.Packed.{Packed as PackedOf}
use Rattle.source_search.specs.declared.parts.Parts.{Parts as PartsOf}
use Rattle.source_reaching.proofs.Subsets.{contains_map}
use Rattle.source_search.proofs.Ended.{each_may_end, end_here}
use Rattle.source_search.proofs.Lively.{key_live}

pub goes_on_one : (parts : PartsOf) (xs : List PackedOf) (i : ℕ) (x : PackedOf) → i < length xs → x ≡ get_or xs i x
    → (IsEnded (unpacked parts x) → ⊥) → GoesOnInOne (states_in parts xs)
goes_on_one parts xs i x less is unended = (
  unpacked parts x,
  contains_map (unpacked parts) xs x (subst (Contains xs) (sym is) (Contains-get_or xs i x less)),
  unended,
)

module _ (p : Program) (parts : PartsOf) (live xs : List PackedOf) (all : AreLiveTo p End (states_in parts live)) where
  either : (x : PackedOf) → HasKey live x ⊎ IsEnded (unpacked parts x) → IsEndable p (unpacked parts x)
  either x (inl key) = key_live p End parts live x all key
  either x (inr ended) = end_here p (unpacked parts x) ended

  -- where each of these states is live, or an end, each may end
  pub endable_found : (o : Option ℕ)
      → MatchOption o (All (λ (x : PackedOf). HasKey live x ⊎ IsEnded (unpacked parts x)) xs)
      (λ place. GoesOnInOne (states_in parts xs))
      → IsEndLookedFor p (states_in parts xs) o
  endable_found None each = All-map (IsEndable p) (unpacked parts) xs (λ k d l. either (get_or xs k d) (each k d l))
  endable_found (Some place) one = one

pub end_looked_for : (p : Program) → WellFormed p → (may : Outside) (kept : List SourceState) → AreAll p may kept
    → is_any may ≡ false → (o : Option ℕ) → IsEndLookedFor p kept o
    → MatchOption o (EachMayEnd p may) (λ place. HasUnended p may)
end_looked_for p wf may kept all none None endable = each_may_end p wf may kept all none endable
end_looked_for p wf may kept all none (Some place) one = record { kept = kept; all = all; goes_on = one }
