-- Whether a search came to its end, or which bound it met.
use Rattle.std.proofs.Common.{◌≡◌, ◌<◌, arith, ℕ, Bool, List, Option, Some, None, Contains, length, slice_get, subst, true, false}
use Rattle.std.specs.Prelude.{MatchOption}
use Rattle.std.specs.Vec.{vec_len}
use Rattle.std.proofs.lemmas.List.{length-map}
use Rattle.std.proofs.lemmas.List.Elements.{Contains-get_or}
use Rattle.std.proofs.lemmas.Option.{get_or_from_slice_get, slice_get_within}
use Rattle.program.specs.Trees.{Program}
use Rattle.meaning.specs.States.{SourceState}
use Rattle.source_search.specs.Bounds.{AreAll, HasEnded, IsMet}
use Rattle.source_search.specs.Kept.{states_of}
use Rattle.source_search.specs.Packed.{unpacked}
use Rattle.source_search.specs.declared.bounds.Bound.{Bound}
use Rattle.source_search.specs.declared.kept.Kept.{Kept as KeptOf}
use Rattle.source_search.specs.declared.outside.Outside.{Outside}

pub contains_at : {X : Type 0} (xs : List X) (i : ℕ) (x : X) → slice_get xs i ≡ Some x → Contains xs x
contains_at xs i x is =
    subst (Contains xs) (get_or_from_slice_get xs i x x is) (Contains-get_or xs i x (slice_get_within xs i x is))

-- of each list of so many states, of which this is so, the bound was met
abbrev pub IsMetBy : ℕ → ℕ → (Program → Outside → List SourceState → Type 0) → Bound → Type 0
IsMetBy most states Is b = (p : Program) (may : Outside) (kept : List SourceState) → length kept ≡ states → Is p may kept
    → IsMet p may most kept b

-- fewer states are kept than may be
pub few_states : (kept : KeptOf) (most : ℕ) → vec_len kept.states < most → length (states_of kept) < most
few_states kept most few =
    omega (arith, few, kept.states.ok.0, length-map kept.states.items (unpacked kept.parts))

module _ (p : Program) (may : Outside) (most states : ℕ) (complete : Bool)
    (Is : Program → Outside → List SourceState → Type 0) where
  pub ended : (bound : Option Bound)
      → MatchOption bound (complete ≡ true) (λ b. (complete ≡ false) × IsMetBy most states Is b)
      → (kept : List SourceState) → length kept ≡ states → Is p may kept → (complete ≡ true → AreAll p may kept)
      → HasEnded p may most kept bound
  ended None is kept count so all = all is
  ended (Some b) is kept count so all = is.1 p may kept count so

  pub completed : (bound : Option Bound)
      → MatchOption bound (complete ≡ true) (λ b. (complete ≡ false) × IsMetBy most states Is b)
      → MatchOption bound (complete ≡ true) (λ b. complete ≡ false)
  completed None is = is
  completed (Some b) is = is.0
