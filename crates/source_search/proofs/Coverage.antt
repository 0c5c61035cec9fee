-- What is covered behind the actions of one process, and behind those of all.
use Rattle.std.proofs.Common.{◌≡◌, ◌<◌, ◌+◌, not, ℕ, zero, suc, List, [], ◌∷◌, ◌++◌, length, get_or, map, slice_get, take}
use Rattle.std.proofs.Common.{Option, Some, None, All, Bool, refl, sym, ap, ◌∙◌, subst, arith, false, true}
use Rattle.std.specs.Prelude.{IsSome, is_some}
use Rattle.std.proofs.lemmas.List.{map_more}
use Rattle.std.proofs.lemmas.List.Elements.{All-push, All-weaker}
use Rattle.std.proofs.lemmas.Option.{slice_get_within}
use Rattle.program.specs.Trees.{Program}
use Rattle.meaning.specs.Processes.{Process}
use Rattle.meaning.specs.Runs.{CanMove}
use Rattle.meaning.specs.States.{SourceState}
use Rattle.proof_exploration.specs.Exploring.{IsLike, awake}
use Rattle.proof_exploration.specs.Searching.{IsCovered, IsExpandedBy}
use Rattle.proof_exploration.proofs.Representing.{grown, like_covered}
use Rattle.source_reaching.specs.Among.{AreCovered, AreEnds, IsAheadAmong, LeadsOwn, among}
use Rattle.source_reaching.specs.Choices.{by}
use Rattle.source_reaching.specs.Covered.{IsAhead}
use Rattle.source_reaching.proofs.Ahead.{ahead_none, ahead_then, covered_to}
use Rattle.source_reaching.proofs.Among.{can_up}
use Rattle.source_search.specs.Covered.{IsAheadOf, IsCoveredSo, IsFollowedOwn}
use Rattle.source_search.specs.Found.{interleaves}
use Rattle.source_search.specs.declared.outside.Outside.{Outside}
use Rattle.source_search.specs.Packed.{IsGrown, IsWithin, some_process, unpacked}
use Rattle.source_search.specs.Spots.{IsAlone, IsMergedOf, IsSpotOf}
use Rattle.source_search.specs.Kept.{IsExpanded, IsExpandedSo, IsLonger}
use Rattle.source_search.specs.declared.packed.Packed.{Packed as PackedOf}
use Rattle.source_search.specs.declared.parts.Parts.{Parts as PartsOf}
use Rattle.source_search.specs.declared.spot.Spot.{Spot as SpotOf}
use Rattle.source_search.proofs.Keeping.{all_contained}
use Rattle.source_search.proofs.Merged.{among_spot}
use Rattle.source_search.proofs.Packing.{unpacked_still, within_still}

module _ (p : Program) where
  pub covered_like : (kept : List SourceState) (s r : SourceState) → IsCoveredSo p kept s
      → IsLike s r → IsCoveredSo p kept r
  covered_like kept s r is like = (is.0, like_covered p kept is.0 s r like is.1)

  pub covered_still : (kept kept' : List SourceState) → IsLonger kept kept' → (s : SourceState)
      → IsCoveredSo p kept s → IsCoveredSo p kept' s
  covered_still kept kept' longer s is = (is.0, grown p kept kept' (all_contained kept kept' longer) is.0 s is.1)

  -- what a process's own actions lead to stays covered
  pub own_still : (kept kept' : List SourceState) → IsLonger kept kept' → (s : SourceState) (t : ℕ)
      → IsFollowedOwn p kept s t → IsFollowedOwn p kept' s t
  own_still kept kept' longer s t own kind = (
    (own kind).0,
    λ s' x. grown p kept kept' (all_contained kept kept' longer) (own kind).0 s' ((own kind).1 s' x),
  )

  -- a process that was followed, with the others of a kept state beside it
  pub ahead_merged : (parts parts' : PartsOf) (x y : PackedOf) (place : ℕ) (spot : SpotOf) (s s' : SourceState)
      → IsSpotOf x place spot → IsAlone parts spot s → IsAheadAmong p spot.process s s' → IsMergedOf parts parts' x s' y
      → IsAheadOf p parts parts' x y
  ahead_merged parts parts' x y place spot s s' is single ahead merged = record {
    within = merged.within;
    ahead = subst (λ r. IsAhead p r (unpacked parts' y))
        (ap (among (unpacked parts x).process) single.same ∙ among_spot parts x place spot is)
        (λ kept n covered. (ahead single.stands).1 (unpacked parts x).process kept n
        (like_covered p kept n (unpacked parts' y) (among (unpacked parts x).process s') merged.like covered));
  }

  pub ahead_of_itself : (parts : PartsOf) (x : PackedOf) → IsWithin parts x → IsAheadOf p parts parts x x
  ahead_of_itself parts x within = record { within = within; ahead = ahead_none p (unpacked parts x) }

  pub ahead_of_then : (a b d : PartsOf) (x y z : PackedOf) → IsAheadOf p a b x y → IsAheadOf p b d y z
      → IsAheadOf p a d x z
  ahead_of_then a b d x y z first second = record {
    within = second.within;
    ahead = ahead_then p (unpacked a x) (unpacked b y) (unpacked d z) first.ahead second.ahead;
  }

  pub ahead_of_still : (a b d : PartsOf) (x y : PackedOf) → IsGrown b d → IsAheadOf p a b x y → IsAheadOf p a d x y
  ahead_of_still a b d x y g first = record {
    within = within_still b d g y first.within;
    ahead = subst (IsAhead p (unpacked a x)) (sym (unpacked_still b d g y first.within)) first.ahead;
  }

  -- one state more that a process comes to is covered
  module _ {X : Type 0} (f : X → SourceState) (others : ℕ → Option Process) (xs : List X) where
    abbrev Covered : List SourceState → ℕ → SourceState → Type 0
    Covered kept n s = IsCovered p kept n (among others s)

    pub ends_more : (kept kept' : List SourceState) → IsLonger kept kept' → (k : ℕ) (x : X) → k < length xs
        → x ≡ get_or xs k x → (n : ℕ) × AreCovered p kept n others (map f (take k xs))
        → IsCoveredSo p kept' (among others (f x)) → (n : ℕ) × AreCovered p kept' n others (map f (take (k + 1) xs))
    ends_more kept kept' longer k x less is all one = (
      all.0 + one.0,
      subst (All (Covered kept' (all.0 + one.0)))
          (sym (map_more f xs k x less ∙ ap (λ y. map f (take k xs) ++ f y ∷ []) (sym is)))
          (All-push (Covered kept' (all.0 + one.0)) (map f (take k xs)) (f x)
          (All-weaker (λ s. IsCovered p kept all.0 (among others s)) (Covered kept' (all.0 + one.0))
          (λ s c. covered_to p kept' all.0 one.0 (all.0 + one.0) (among others s) (omega arith)
          (grown p kept kept' (all_contained kept kept' longer) all.0 (among others s) c))
          (map f (take k xs)) all.1)
          (covered_to p kept' one.0 all.0 (all.0 + one.0) (among others (f x)) (omega arith) one.1)),
    )

    pub ends_none : (kept : List SourceState) → (n : ℕ) × AreCovered p kept n others (map f (take 0 xs))
    ends_none kept = (zero, λ k d l. absurd (let no : k < length (map f (take 0 xs)) = l in nothing k xs no))
      where
        nothing : (k : ℕ) (ys : List X) → k < length (map f (take 0 ys)) → ⊥
        nothing k [] less = omega (arith, less)
        nothing k (y ∷ ys) less = omega (arith, less)

  -- then so is what each of the process's own actions leads to
  pub followed_own : (kept : List SourceState) (parts : PartsOf) (x : PackedOf) (place : ℕ) (spot : SpotOf)
      (s : SourceState) (ends : List SourceState) → IsSpotOf x place spot → IsAlone parts spot s
      → AreEnds p spot.process s ends → (n : ℕ) × AreCovered p kept n (unpacked parts x).process ends
      → IsFollowedOwn p kept (unpacked parts x) (suc place)
  followed_own kept parts x place spot s ends is single are covered kind =
      subst (λ t. LeadsOwn p kept (unpacked parts x) (by t kind)) is.process
      (subst (λ r. LeadsOwn p kept r (by spot.process kind))
      (ap (among (unpacked parts x).process) single.same ∙ among_spot parts x place spot is)
      (are kind single.stands (unpacked parts x).process kept covered.0 covered.1))

  pub moves_too : (parts : PartsOf) (x : PackedOf) (place : ℕ) (spot : SpotOf) (s : SourceState) → IsSpotOf x place spot
      → IsAlone parts spot s → CanMove p s spot.process → CanMove p (unpacked parts x) (suc place)
  moves_too parts x place spot s is single can =
      subst (CanMove p (unpacked parts x)) is.process
      (subst (λ r. CanMove p r spot.process)
      (ap (among (unpacked parts x).process) single.same ∙ among_spot parts x place spot is)
      (can_up (unpacked parts x).process p s spot.process can))

  -- of all processes, where not all actions are interleaved
  module _ (may : Outside) (turns : interleaves may ≡ false) (kept : List SourceState) (parts : PartsOf) (x : PackedOf)
      (all : (place : ℕ) → place < length x.processes.items
      → IsFollowedOwn p kept (awake may.strays (suc place) (unpacked parts x)) (suc place)) where
    turn_at : (t : ℕ) → IsSome ((unpacked parts x).process t)
        → IsFollowedOwn p kept (awake may.strays t (unpacked parts x)) t
    turn_at zero is = absurd (let no : false ≡ true = is in cc)
    turn_at (suc j) is = here (slice_get x.processes.items j) refl is
      where
        here : (o : Option ℕ) → slice_get x.processes.items j ≡ o
            → IsSome (some_process parts.processes.items (slice_get x.processes.items j))
            → IsFollowedOwn p kept (awake may.strays (suc j) (unpacked parts x)) (suc j)
        here (Some n) e is = all j (slice_get_within x.processes.items j n e)
        here None e is = absurd (let no : false ≡ true =
            subst (λ o. IsSome (some_process parts.processes.items o)) e is in cc)

    there : (strays : Bool) (t : ℕ) (s : SourceState) → (awake strays t s).process ≡ s.process
    there false t s = refl
    there true t s = refl

    expanded : IsExpandedBy p may.strays kept (unpacked parts x)
    expanded a s' y =
        let leads : LeadsOwn p kept (awake may.strays a.process (unpacked parts x)) a =
        turn_at a.process (subst (λ (f : ℕ → Option Process). IsSome (f a.process))
        (there may.strays a.process (unpacked parts x)) (ap is_some y.stands)) a.kind in
        (leads.0, leads.1 s' y)

    pub expanded_turns : IsExpanded p may kept (unpacked parts x)
    expanded_turns = subst (λ b. IsExpandedSo p may b kept (unpacked parts x)) (sym turns) expanded

-- what is denied is false
pub denied : (b : Bool) → not b ≡ true → b ≡ false
denied true e = absurd (let no : false ≡ true = e in cc)
denied false e = refl

-- one of two, and what follows of either
pub either_moves : (a b r : Bool) → (r ≡ true → a ≡ false → b ≡ true) → (X : Type 0) → (a ≡ true → X) → (b ≡ true → X)
    → r ≡ true → X
either_moves true b r is X first second e = first refl
either_moves false b r is X first second e = second (is e refl)
