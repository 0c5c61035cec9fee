-- States that are kept, and stay so while more is.
use Rattle.std.proofs.Common.{◌≡◌, ◌<◌, ◌≤◌, ◌+◌, refl, arith, ◌↔◌, ℕ, Bool, List, [], ◌∷◌, ◌++◌, length, get_or, map, take, All}
use Rattle.std.proofs.Common.{Contains, Some, true, false, zero}
use Rattle.std.proofs.Common.{slice_get, sym, ap, ◌∙◌, subst, append_assoc}
use Rattle.std.specs.Prelude.{IsSome, ◌||◌, nat_lt}
use Rattle.std.proofs.lemmas.Bool.Decides.{nat_tests}
use Rattle.std.proofs.lemmas.List.{append-nil, map_more, map_push}
use Rattle.std.proofs.lemmas.List.Elements.{All-contains, All-more, All-push, All-weaker, Contains-append_left}
use Rattle.std.proofs.lemmas.List.Elements.{Contains-get_or, Contains-push}
use Rattle.std.proofs.lemmas.Option.{get_or_from_slice_get, slice_get_within}
use Rattle.program.specs.Trees.{Program}
use Rattle.meaning.specs.Labels.{Action}
use Rattle.meaning.specs.Runs.{IsStep}
use Rattle.meaning.specs.States.{SourceState}
use Rattle.proof_exploration.specs.Exploring.{IsLike}
use Rattle.proof_exploration.specs.Searching.{IsCovered, IsKept}
use Rattle.proof_exploration.proofs.Alike.{like_self, like_trans}
use Rattle.proof_exploration.proofs.Representing.{grown}
use Rattle.source_states.specs.Actions.{action_of}
use Rattle.source_states.specs.declared.action.Action.{Action as ActionOf}
use Rattle.source_reaching.specs.Choices.{by}
use Rattle.source_search.specs.Choices.{AreChoices}
use Rattle.source_search.specs.Found.{interleaves, is_any}
use Rattle.source_search.specs.declared.outside.Outside.{Outside}
use Rattle.source_search.specs.Packed.{HasKey, IsGrown, IsSameKey, IsWithin, unpacked}
use Rattle.source_search.specs.declared.packed.Packed.{Packed as PackedOf}
use Rattle.source_search.specs.declared.parts.Parts.{Parts as PartsOf}
use Rattle.source_search.specs.Kept.{IsExpanded, IsExpandedSo, IsFollowed, IsInterleaved, IsLonger, IsSeen, LeadsToKept}
use Rattle.source_search.specs.Kept.{states_in}
use Rattle.source_search.proofs.Packing.{same_key, states_still}
use Rattle.source_reaching.proofs.Subsets.{contains_map}

pub longer_none : (kept : List SourceState) → IsLonger kept kept
longer_none kept = ([], sym (append-nil kept))

pub longer_twice : (first kept kept' : List SourceState) → IsLonger first kept → IsLonger kept kept'
    → IsLonger first kept'
longer_twice first kept kept' a b =
    (a.0 ++ b.0, b.1 ∙ ap (λ x. x ++ b.0) a.1 ∙ append_assoc first a.0 b.0)

-- one state more is kept
module _ (parts : PartsOf) (xs ys : List PackedOf) (x : PackedOf) (is : ys ≡ xs ++ x ∷ []) where
  last_kept : states_in parts ys ≡ states_in parts xs ++ unpacked parts x ∷ []
  last_kept = ap (states_in parts) is ∙ map_push (unpacked parts) xs x

  pub longer_one : IsLonger (states_in parts xs) (states_in parts ys)
  longer_one = (unpacked parts x ∷ [], last_kept)

  pub kept_last : IsKept (states_in parts ys) (unpacked parts x)
  kept_last = (
    unpacked parts x,
    subst (λ l. Contains l (unpacked parts x)) (sym last_kept)
        (Contains-push (states_in parts xs) (unpacked parts x)),
    like_self (unpacked parts x),
  )

  pub sound_one : All (IsWithin parts) xs → IsWithin parts x → All (IsWithin parts) ys
  sound_one all one = subst (All (IsWithin parts)) (sym is) (All-push (IsWithin parts) xs x all one)

-- with more parts, the same is kept
pub longer_still : (a b : PartsOf) → IsGrown a b → (xs : List PackedOf) → All (IsWithin a) xs
    → IsLonger (states_in a xs) (states_in b xs)
longer_still a b g xs all = ([], states_still a b g xs all ∙ sym (append-nil (states_in a xs)))

-- a state of the parts of one that is kept
pub kept_key : (parts : PartsOf) (xs : List PackedOf) (x : PackedOf) → HasKey xs x
    → IsKept (states_in parts xs) (unpacked parts x)
kept_key parts xs x (y, c, same) = (
  unpacked parts y,
  contains_map (unpacked parts) xs y c,
  subst (IsLike (unpacked parts y)) (same_key parts y x same) (like_self (unpacked parts y)),
)

pub has_key : (xs : List PackedOf) (i : ℕ) (x y : PackedOf) → slice_get xs i ≡ Some x → IsSameKey x y → HasKey xs y
has_key xs i x y is same = (
  x,
  subst (Contains xs) (get_or_from_slice_get xs i x x is) (Contains-get_or xs i x (slice_get_within xs i x is)),
  same,
)

pub kept_like : (kept : List SourceState) (s r : SourceState) → IsKept kept s → IsLike s r → IsKept kept r
kept_like kept s r is like = (is.0, is.1, like_trans is.0 s r is.2 like)

-- what is kept, in place of what is covered
pub seen_kept : (p : Program) (whole : Bool) (kept : List SourceState) (s : SourceState) → IsKept kept s
    → IsSeen p whole kept s
seen_kept p true kept s is = is
seen_kept p false kept s is = (zero, is)

-- where not all actions are interleaved, what is covered is seen
pub seen_covered : (p : Program) (whole : Bool) (kept : List SourceState) (s : SourceState) → whole ≡ false
    → (n : ℕ) × IsCovered p kept n s → IsSeen p whole kept s
seen_covered p true kept s e is = absurd (let differ : true ≡ false = e in cc)
seen_covered p false kept s e is = is

pub all_contained : (kept kept' : List SourceState) → IsLonger kept kept' → (s : SourceState) → Contains kept s
    → Contains kept' s
all_contained kept kept' longer s is =
    subst (λ l. Contains l s) (sym longer.1) (Contains-append_left kept longer.0 s is)

-- what holds of some actions and of the next one
pub one_more_action : (P : Action → Type 0) (actions : List ActionOf) (i : ℕ) (a : ActionOf)
    → i < length actions → a ≡ get_or actions i a → All P (map action_of (take i actions)) → P (action_of a)
    → All P (map action_of (take (i + 1) actions))
one_more_action P actions i a less is all one =
    subst (All P)
    (sym (map_more action_of actions i a less
    ∙ ap (λ x. map action_of (take i actions) ++ action_of x ∷ []) (sym is)))
    (All-push P (map action_of (take i actions)) (action_of a) all one)

-- where nothing from outside is searched
both_false : (b c : Bool) → (b || c) ≡ false → (b ≡ false) × (c ≡ false)
both_false true c e = absurd (let differ : true ≡ false = e in cc)
both_false false c e = (refl, e)

pub none_strays : (may : Outside) → is_any may ≡ false → may.strays ≡ false
none_strays may none = (both_false may.strays (nat_lt 0 may.kills) none).0

pub none_whole : (may : Outside) → is_any may ≡ false → interleaves may ≡ false
none_whole may none = (both_false may.strays (nat_lt 0 may.kills) none).1

-- and where no kills are
pub none_kills : (may : Outside) → interleaves may ≡ false → may.kills ≤ 0
none_kills may is = few (nat_lt 0 may.kills) refl is
  where
    few : (b : Bool) → nat_lt 0 may.kills ≡ b → b ≡ false → may.kills ≤ 0
    few true is e = absurd (let differ : true ≡ false = e in cc)
    few false is e = grind (arith, nat_tests, is)

module _ (kept kept' : List SourceState) (longer : IsLonger kept kept') where
  pub kept_still : (s : SourceState) → IsKept kept s → IsKept kept' s
  kept_still s is =
      (is.0, subst (λ l. Contains l is.0) (sym longer.1) (Contains-append_left kept longer.0 is.0 is.1), is.2)

  pub seen_still : (p : Program) (whole : Bool) (s : SourceState) → IsSeen p whole kept s → IsSeen p whole kept' s
  seen_still p true s is = kept_still s is
  seen_still p false s is = (is.0, grown p kept kept' (all_contained kept kept' longer) is.0 s is.1)

  pub leads_still : (p : Program) (s : SourceState) (a : Action) → LeadsToKept p kept s a → LeadsToKept p kept' s a
  leads_still p s a leads s' x = kept_still s' (leads s' x)

  -- one action more
  pub leads_more : (p : Program) (s : SourceState) (actions : List ActionOf) (i : ℕ) (a : ActionOf)
      → i < length actions → a ≡ get_or actions i a
      → All (LeadsToKept p kept s) (map action_of (take i actions)) → LeadsToKept p kept' s (action_of a)
      → All (LeadsToKept p kept' s) (map action_of (take (i + 1) actions))
  leads_more p s actions i a less is all leads =
      one_more_action (LeadsToKept p kept' s) actions i a less is
      (All-weaker (LeadsToKept p kept s) (LeadsToKept p kept' s) (leads_still p s)
      (map action_of (take i actions)) all)
      leads

  pub followed_still : (p : Program) (may : Outside) (s : SourceState) (n : ℕ) → IsFollowed p may kept s n
      → IsFollowed p may kept' s n
  followed_still p may s n leads kind from = leads_still p s (by n kind) (leads kind from)

  -- one process more
  pub followed_more : (p : Program) (may : Outside) (s : SourceState) (ns : List ℕ) (i : ℕ) → i < length ns
      → All (IsFollowed p may kept s) (take i ns) → IsFollowed p may kept' s (get_or ns i 0)
      → All (IsFollowed p may kept' s) (take (i + 1) ns)
  followed_more p may s ns i less all one =
      All-more (IsFollowed p may kept' s) ns i 0 less
      (All-weaker (IsFollowed p may kept s) (IsFollowed p may kept' s) (followed_still p may s) (take i ns)
      all) one

  pub expanded_still : (p : Program) (may : Outside) (s : SourceState) → IsExpanded p may kept s
      → IsExpanded p may kept' s
  expanded_still p may s = still (interleaves may)
    where
      still : (b : Bool) → IsExpandedSo p may b kept s → IsExpandedSo p may b kept' s
      still true leads = λ a there from. leads_still p s a (leads a there from)
      still false leads = λ a s' x. (
        (leads a s' x).0,
        grown p kept kept' (all_contained kept kept' longer) (leads a s' x).0 s' (leads a s' x).1,
      )

-- what a process may do was all tried
pub all_followed : (p : Program) (may : Outside) (kept : List SourceState) (s : SourceState) (n : ℕ)
    (actions : List Action) → AreChoices p may s n actions → All (LeadsToKept p kept s) actions
    → IsFollowed p may kept s n
all_followed p may kept s n actions are all kind from s' x =
    let tried : (a : Action) × Contains actions a × IsStep p s a s' = are kind s' from x in
    All-contains (LeadsToKept p kept s) actions tried.0 all tried.1 s' tried.2

-- and that of each process that is there
pub all_expanded : (p : Program) (may : Outside) (kept : List SourceState) (s : SourceState) (ns : List ℕ)
    → ((q : ℕ) → Contains ns q ↔ IsSome (s.process q)) → All (IsFollowed p may kept s) ns
    → IsInterleaved p may kept s
all_expanded p may kept s ns is_there all a there from s' x =
    All-contains (IsFollowed p may kept s) ns a.process all ((is_there a.process).1 there) a.kind from s' x
