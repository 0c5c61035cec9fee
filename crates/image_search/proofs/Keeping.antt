-- What is kept stays so while more is.
use Rattle.std.proofs.Common.{◌≡◌, ◌∙◌, ◌++◌, ◌∷◌, ◌⊎◌, [], ℕ, suc, All, Contains, List, Some, ap, arith, inl, inr, length, refl}
use Rattle.std.proofs.Common.{slice_get, subst, sym}
use Rattle.std.proofs.lemmas.List.Elements.{All-push, All-weaker, Contains-get_or, Contains-push}
use Rattle.std.proofs.lemmas.List.Elements.{Contains-push_cases}
use Rattle.std.proofs.lemmas.List.{map-append}
use Rattle.std.proofs.lemmas.Option.{get_or_from_slice_get, slice_get_within, slice_get-map}
use Rattle.std.specs.Prelude.{option_map}
use Rattle.isa.specs.Programs.{Program}
use Rattle.image_states.proofs.Growing.{kept_still, same_key, grown_none, prefix_contains, prefix_none, prefix_twice, within_still}
use Rattle.image_states.proofs.Subsets.{contains_map}
use Rattle.image_states.specs.Packed.{IsGrown, IsPrefix, IsSameKey, IsWithin, kept_of}
use Rattle.image_states.specs.declared.next.Next.{Next as NextOf}
use Rattle.image_states.specs.declared.packed.Packed.{Packed as PackedOf}
use Rattle.image_states.specs.declared.parts.Parts.{Parts as PartsOf}
use Rattle.image_search.specs.declared.kept.KeptStates.{KeptStates as KeptOf}
use Rattle.image_search.specs.Kept.{HasKey, IsMore, IsMoreOf, IsSound, states_in, states_of}

-- a state at a place, and one of the same numbers
pub has_key : (xs : List PackedOf) (i : ℕ) (x y : PackedOf) → slice_get xs i ≡ Some x → IsSameKey x y → HasKey xs y
has_key xs i x y is same = (
  x,
  subst (Contains xs) (get_or_from_slice_get xs i x x is) (Contains-get_or xs i x (slice_get_within xs i x is)),
  same,
)

same_numbers : (x : PackedOf) → IsSameKey x x
same_numbers x = record { memory = refl; killed = refl; parts = refl; places = refl }

-- a state that is kept is kept still
pub key_more : (xs ys : List PackedOf) (x : PackedOf) → IsPrefix xs ys → HasKey xs x → HasKey ys x
key_more xs ys x a is = (is.0, prefix_contains xs ys is.0 a is.1, is.2)

-- one of those that are kept
pub key_in : (xs : List PackedOf) (x : PackedOf) → Contains xs x → HasKey xs x
key_in xs x is = (x, is, same_numbers x)

-- the last one is kept
pub key_last : (xs ys : List PackedOf) (x : PackedOf) → ys ≡ xs ++ x ∷ [] → HasKey ys x
key_last xs ys x is = key_in ys x (subst (λ l. Contains l x) (sym is) (Contains-push xs x))

pub sound_last : (parts : PartsOf) (xs ys : List PackedOf) (x : PackedOf) → ys ≡ xs ++ x ∷ [] → All (IsWithin parts) xs
    → IsWithin parts x → All (IsWithin parts) ys
sound_last parts xs ys x is all one = subst (All (IsWithin parts)) (sym is) (All-push (IsWithin parts) xs x all one)

-- the parts of all are there still
pub sound_still : (a b : PartsOf) → IsGrown a b → (xs : List PackedOf) → All (IsWithin a) xs → All (IsWithin b) xs
sound_still a b grows xs all = All-weaker (IsWithin a) (IsWithin b) (within_still a b grows) xs all

-- more is kept of the same parts
pub more_none : (kept : KeptOf) → IsMoreOf kept kept
more_none kept = record { parts = refl; states = prefix_none kept.states.items; most = refl }

pub more_twice : (a b c : KeptOf) → IsMoreOf a b → IsMoreOf b c → IsMoreOf a c
more_twice a b c f g = record {
  parts = g.parts ∙ f.parts;
  states = prefix_twice a.states.items b.states.items c.states.items f.states g.states;
  most = g.most ∙ f.most;
}

-- of more parts
pub more_grown : (kept kept' : KeptOf) (mid : PartsOf) → IsGrown kept.parts mid
    → IsMoreOf (record kept { parts = mid }) kept' → IsMore kept kept'
more_grown kept kept' mid grows more = record {
  parts = subst (IsGrown kept.parts) (sym more.parts) grows;
  states = more.states;
  most = more.most;
}

pub more_itself : (kept : KeptOf) → IsMore kept kept
more_itself kept = record { parts = grown_none kept.parts; states = prefix_none kept.states.items; most = refl }

-- a state that is kept, where it is of some parts
abbrev pub IsKeptOf : PartsOf → KeptOf → NextOf → Type 0
IsKeptOf parts kept y = IsWithin parts y.state → HasKey kept.states.items y.state

-- of those that come next one is kept, and the others are left
pub kept_next : (parts : PartsOf) (before behind : List NextOf) (next : NextOf) (kept kept' : KeptOf)
    → before ≡ behind ++ next ∷ [] → IsMoreOf kept kept' → IsKeptOf parts kept' next → (y : NextOf)
    → Contains before y ⊎ IsKeptOf parts kept y → Contains behind y ⊎ IsKeptOf parts kept' y
kept_next parts before behind next kept kept' is more key y (inl left) =
    by_case (Contains-push_cases behind next y (subst (λ l. Contains l y) is left))
  where
    by_case : Contains behind y ⊎ (next ≡ y) → Contains behind y ⊎ IsKeptOf parts kept' y
    by_case (inl there) = inl there
    by_case (inr same) = inr (subst (IsKeptOf parts kept') same key)
kept_next parts before behind next kept kept' is more key y (inr has) =
    inr (λ within. key_more kept.states.items kept'.states.items y.state more.states (has within))

-- none is left
pub kept_all : (parts : PartsOf) (left : List NextOf) (n : ℕ) (kept : KeptOf) → n ≡ length left → n ≡ 0 → (y : NextOf)
    → Contains left y ⊎ IsKeptOf parts kept y → IsKeptOf parts kept y
kept_all parts left n kept long none y (inl is) = absurd (let less = is.1 in omega (arith, less, long, none))
kept_all parts left n kept long none y (inr has) = has

pub contains_at : {X : Type 0} (xs : List X) (i : ℕ) (x : X) → slice_get xs i ≡ Some x → Contains xs x
contains_at xs i x is =
    subst (Contains xs) (get_or_from_slice_get xs i x x is) (Contains-get_or xs i x (slice_get_within xs i x is))

-- with more parts, the same is kept
pub states_still : (p : Program) (a b : PartsOf) → IsGrown a b → (xs : List PackedOf) → All (IsWithin a) xs
    → states_in p b xs ≡ states_in p a xs
states_still p a b grows [] all = refl
states_still p a b grows (x ∷ xs) all = λ i.
    kept_still a b grows p x (all 0 x (omega arith)) i
    ∷ states_still p a b grows xs (λ k d l. all (suc k) d (omega (arith, l))) i

-- what is kept stands in front of what is kept later
pub states_more : (p : Program) (kept kept' : KeptOf) → IsSound kept → IsMore kept kept'
    → IsPrefix (states_of p kept) (states_of p kept')
states_more p kept kept' sound more = (
  states_in p kept'.parts more.states.0,
  ap (states_in p kept'.parts) more.states.1
      ∙ map-append (kept_of p kept'.parts) kept.states.items more.states.0
      ∙ ap (λ l. l ++ states_in p kept'.parts more.states.0)
      (states_still p kept.parts kept'.parts more.parts kept.states.items sound),
)

-- a state of the same numbers is kept
pub key_kept : (p : Program) (kept : KeptOf) (mid : PartsOf) → kept.parts ≡ mid → (x : PackedOf)
    → HasKey kept.states.items x → Contains (states_of p kept) (kept_of p mid x)
key_kept p kept mid same x is =
    subst (λ parts. Contains (states_in p parts kept.states.items) (kept_of p mid x)) (sym same)
    (subst (Contains (states_in p mid kept.states.items)) (same_key p mid is.0 x is.2)
    (contains_map (kept_of p mid) kept.states.items is.0 is.1))

-- the state that stands at a place
pub state_at : (p : Program) (kept : KeptOf) (place : ℕ) (x : PackedOf) → slice_get kept.states.items place ≡ Some x
    → slice_get (states_of p kept) place ≡ Some (kept_of p kept.parts x)
state_at p kept place x here =
    slice_get-map (kept_of p kept.parts) kept.states.items place ∙ ap (option_map (kept_of p kept.parts)) here
