-- What flags of kept states say.
use Rattle.std.proofs.Common.{◌≡◌, ◌∙◌, ◌<◌, ◌≤◌, ◌+◌, ℕ, zero, suc, All, Bool, Contains, List, [], ◌∷◌, Option, Some, None, ap, arith}
use Rattle.std.proofs.Common.{◌==◌, false, not, inl, inr, length, map, refl, slice_get, subst, sym, take, true}
use Rattle.std.proofs.lemmas.Bool.{cases_lt}
use Rattle.machine.specs.Runs.{CanStep, NextIsBroken}
use Rattle.std.proofs.lemmas.List.{get_or_past, length-map}
use Rattle.std.proofs.lemmas.List.Elements.{All-contains, All-more}
use Rattle.std.proofs.lemmas.Option.{get_or_from_slice_get, slice_get_within, same_Some}
use Rattle.std.specs.Prelude.{slice_index_or, slice_set, ◌⊎◌, Vec, MatchBool}
use Rattle.std.specs.Global.{Global}
use Rattle.isa.specs.Programs.{Program}
use Rattle.machine.specs.States.{State}
use Rattle.proof_image_search.specs.Searching.{IsCovered, Kept}
use Rattle.proof_image_liveness.specs.Sleeping.{AreLive, AreWakened, IsFew, IsWakened}
use Rattle.image_states.specs.Nexts.{OwnDone, Reaches}
use Rattle.image_states.specs.Packed.{asleep_at, kept_of, place_of, IsGrown, IsWithin}
use Rattle.image_states.specs.declared.next.Next.{Next as NextOf}
use Rattle.image_states.specs.declared.packed.Packed.{Packed as PackedOf}
use Rattle.image_states.specs.declared.parts.Parts.{Parts as PartsOf}
use Rattle.image_states.proofs.Growing.{grown_none, grown_twice, same_key}
use Rattle.image_search.specs.declared.kept.KeptStates.{KeptStates as KeptOf}
use Rattle.proof_pieces.specs.WholeCalls.{IsWholeStep}
use Rattle.image_search.specs.Kept.{IsApartIn, IsSound, states_in, states_of}
use Rattle.image_search.specs.Living.{AllWakened, AreFlagged, AreKnown, CanGo, HoldsAt, IsClosed, IsFlagged, IsStill}
use Rattle.image_search.specs.Living.{LeadsAt, LivesAt, OwnLeads}
use Rattle.image_search.proofs.Keeping.{contains_at, sound_still, state_at, states_still}

pub still_none : (kept : KeptOf) → IsStill kept kept
still_none kept = record { parts = grown_none kept.parts; states = refl; most = refl }

pub still_twice : (a b c : KeptOf) → IsStill a b → IsStill b c → IsStill a c
still_twice a b c f g = record {
  parts = grown_twice a.parts b.parts c.parts f.parts g.parts;
  states = g.states ∙ f.states;
  most = g.most ∙ f.most;
}

-- the same is kept
pub states_same : (p : Program) (a b : KeptOf) → IsSound a → IsStill a b → states_of p b ≡ states_of p a
states_same p a b sound still =
    ap (λ (v : Vec PackedOf Global). states_in p b.parts v.items) still.states
    ∙ states_still p a.parts b.parts still.parts a.states.items sound

-- one state is kept at a place
pub one_at : (p : Program) (kept : KeptOf) (place : ℕ) (x : PackedOf) → slice_get kept.states.items place ≡ Some x
    → (r : Kept) → slice_get (states_of p kept) place ≡ Some r → kept_of p kept.parts x ≡ r
one_at p kept place x here r at = same_Some _ _ (sym (state_at p kept place x here) ∙ at)

pub holds_at : (p : Program) (kept : KeptOf) (place : ℕ) (x : PackedOf) (Holds : Kept → Type 0)
    → slice_get kept.states.items place ≡ Some x → Holds (kept_of p kept.parts x) → HoldsAt p kept place Holds
holds_at p kept place x Holds here is r at = subst Holds (one_at p kept place x here r at) is

-- who can step, and stands before no step that may not be
pub can_go_so : (p : Program) (kept : KeptOf) (place u : ℕ) (x : PackedOf) → slice_get kept.states.items place ≡ Some x
    → CanStep (kept_of p kept.parts x).state u → (broken : Bool)
    → MatchBool broken (NextIsBroken p (kept_of p kept.parts x).state u)
    (NextIsBroken p (kept_of p kept.parts x).state u → ⊥)
    → not broken ≡ true → HoldsAt p kept place (CanGo p u)
can_go_so p kept place u x here can true is e = absurd (let differ : false ≡ true = e in cc)
can_go_so p kept place u x here can false is e =
    holds_at p kept place x (CanGo p u) here (record { can = can; whole = is })

-- where whatever comes next is flagged, it leads to what the flagged states cover
pub own_leads : (p : Program) (kept : KeptOf) (flags : List Bool) (place u : ℕ) (x : PackedOf) (found : List NextOf)
    → slice_get kept.states.items place ≡ Some x → OwnDone p kept.parts x found u
    → All (λ (next : NextOf). IsFlagged kept flags next.state) found
    → HoldsAt p kept place (OwnLeads p kept flags u)
own_leads p kept flags place u x found here done all =
    holds_at p kept place x (OwnLeads p kept flags u) here (λ lives are woken s step.
    by_reach lives are s (done woken s step))
  where
    by_reach : (lives : List Kept) → AreFlagged p kept flags lives → (s : State) → Reaches p kept.parts found s x.killed
        → (m : ℕ) × IsCovered p kept.parts.alone lives m s x.killed
    by_reach lives are s reach =
        let f = All-contains (λ (next : NextOf). IsFlagged kept flags next.state) found reach.next all reach.found in
        reach.covers lives (subst (Contains lives) (same_key p kept.parts f.state reach.next.state f.same)
        (are f.place (kept_of p kept.parts f.state) f.flagged (state_at p kept f.place f.state f.here)))

-- only threads that have a place sleep
asleep_few : (places : List ℕ) (u a : ℕ) → asleep_at places u ≡ Some a → u < suc (length places)
asleep_few places zero a h = absurd (let none : None ≡ Some a = h in cc)
asleep_few places (suc u) a h = by_test (cases_lt u (length places))
  where
    by_test : (u < length places) ⊎ (length places ≤ u) → suc u < suc (length places)
    by_test (inl less) = omega (arith, less)
    by_test (inr most) = absurd (let none : None ≡ Some a =
        sym (ap place_of (get_or_past places u 0 most)) ∙ h in cc)

-- where none has a place, none sleeps
pub none_asleep : (places : List ℕ) → All (λ n. n ≡ 0) places → (t : ℕ) → asleep_at places t ≡ None
none_asleep places all zero = refl
none_asleep places all (suc t) = by_test (cases_lt t (length places))
  where
    by_test : (t < length places) ⊎ (length places ≤ t) → asleep_at places (suc t) ≡ None
    by_test (inl less) = ap place_of (all t 0 less)
    by_test (inr most) = ap place_of (get_or_past places t 0 most)

pub few_of : (p : Program) (kept : KeptOf) (x : PackedOf) → IsWithin kept.parts x
    → IsFew (kept_of p kept.parts x).state
few_of p kept x within = record {
  most = suc (length x.places.items);
  asleep = asleep_few x.places.items;
  made = within.few;
}

pub leads_at : (p : Program) (kept : KeptOf) (flags : List Bool) (place u : ℕ) (x : PackedOf)
    → slice_get kept.states.items place ≡ Some x → IsWithin kept.parts x → HoldsAt p kept place (OwnLeads p kept flags u)
    → HoldsAt p kept place (CanGo p u) → HoldsAt p kept place (IsApartIn p kept.parts.alone)
    → HoldsAt p kept place (LeadsAt p kept flags)
leads_at p kept flags place u x here made leads can apart r at lives are = record {
  thread = u;
  can = (can r at).can;
  whole = (can r at).whole;
  few = subst (λ (q : Kept). IsFew q.state) (one_at p kept place x here r at) (few_of p kept x made);
  apart = apart r at;
  leads = leads r at lives are;
}

-- flagged states are still, of more parts
pub known_still : (p : Program) (t : ℕ) (a b : KeptOf) (flags : List Bool) → IsSound a → IsStill a b
    → AreKnown p t a flags → AreKnown p t b flags
known_still p t a b flags sound still known = record {
  lives = known.lives;
  live = subst (λ (alone : Bool). AreLive p alone t known.lives) (sym still.parts.alone) known.live;
  flagged = subst (λ rs. (i : ℕ) (r : Kept) → slice_get flags i ≡ Some true → slice_get rs i ≡ Some r
      → Contains known.lives r) (sym (states_same p a b sound still)) known.flagged;
}

get_set : {X : Type 0} (xs : List X) (i j : ℕ) (x y : X) → slice_get (slice_set xs i x) j ≡ Some y
    → (i ≡ j) ⊎ (slice_get xs j ≡ Some y)
get_set [] i j x y h = inr h
get_set (z ∷ zs) zero zero x y h = inl refl
get_set (z ∷ zs) zero (suc j) x y h = inr h
get_set (z ∷ zs) (suc i) zero x y h = inr h
get_set (z ∷ zs) (suc i) (suc j) x y h = elim (get_set zs i j x y h) [ inl e ↦ inl (ap suc e) | inr is ↦ inr is ]

contains_more : {X : Type 0} (x y : X) (xs : List X) → Contains xs y → Contains (x ∷ xs) y
contains_more x y xs (k, less, e) = (suc k, omega (arith, less), e)

-- one state more is flagged, which is live
pub known_more : (p : Program) (t : ℕ) (kept : KeptOf) (flags : List Bool) (place : ℕ) → AreKnown p t kept flags
    → HoldsAt p kept place (LivesAt p t kept flags) → AreKnown p t kept (slice_set flags place true)
known_more p t kept flags place known lives = by_state (slice_get (states_of p kept) place) refl
  where
    by_state : (o : Option Kept) → slice_get (states_of p kept) place ≡ o → AreKnown p t kept (slice_set flags place true)
    by_state None none = record {
      lives = known.lives;
      live = known.live;
      flagged = λ i r is at. elim (get_set flags place i true true is) [
        | inl e ↦ absurd (let no' : None ≡ Some r = sym none ∙ ap (slice_get (states_of p kept)) e ∙ at in cc)
        | inr was ↦ known.flagged i r was at
      ];
    }
    by_state (Some x) here = record {
      lives = x ∷ known.lives;
      live = (lives x here known.lives known.flagged, known.live);
      flagged = λ i r is at. elim (get_set flags place i true true is) [
        | inl e ↦ (0, omega arith, same_Some _ _ (sym here ∙ ap (slice_get (states_of p kept)) e ∙ at))
        | inr was ↦ contains_more x r known.lives (known.flagged i r was at)
      ];
    }

-- none is flagged
pub known_none : (p : Program) (t : ℕ) (kept : KeptOf) (flags : List Bool) → All (λ flag. flag ≡ false) flags
    → AreKnown p t kept flags
known_none p t kept flags none = record {
  lives = [];
  live = tt;
  flagged = λ i r is at. absurd (let e : true ≡ false =
      sym (get_or_from_slice_get flags i true true is) ∙ none i true (slice_get_within flags i true is) in cc);
}

-- a live state of a list is wakened
wakened_in : (p : Program) (alone : Bool) (t : ℕ) (lives : List Kept) → AreLive p alone t lives → (r : Kept)
    → Contains lives r → IsWakened p alone t r
wakened_in p alone t [] live r (k, less, e) = absurd (omega (arith, less))
wakened_in p alone t (x ∷ lives) live r (zero, less, e) =
    subst (IsWakened p alone t) e (record { behind = lives; lives = live.1; live = live.0 })
wakened_in p alone t (x ∷ lives) live r (suc k, less, e) =
    wakened_in p alone t lives live.1 r (k, omega (arith, less), e)

get_at : {X : Type 0} (xs : List X) (i : ℕ) (d : X) → i < length xs → slice_get xs i ≡ Some (slice_index_or xs i d)
get_at [] i d less = absurd (omega (arith, less))
get_at (x ∷ xs) zero d less = refl
get_at (x ∷ xs) (suc i) d less = get_at xs i d (omega (arith, less))

-- all are flagged
pub all_wakened : (p : Program) (t : ℕ) (kept : KeptOf) (flags : List Bool) → AreKnown p t kept flags
    → length kept.states.items ≤ length flags → All (λ flag. flag ≡ true) flags → AllWakened p t kept
all_wakened p t kept flags known long all r (k, less, e) a slept =
    wakened_in p kept.parts.alone t known.lives known.live r (known.flagged k r
    (get_at flags k true within ∙ ap (λ b. Some b) (all k true within))
    (get_at (states_of p kept) k r less ∙ ap (λ q. Some q) e))
  where
    within : k < length flags
    within = let size : length (states_of p kept) ≡ length kept.states.items =
        length-map kept.states.items (kept_of p kept.parts) in omega (arith, less, size, long)

-- a state of those that are kept
packed_in : (p : Program) (parts : PartsOf) (r : Kept) (xs : List PackedOf) (k : ℕ) → k < length (map (kept_of p parts) xs)
    → slice_index_or (map (kept_of p parts) xs) k r ≡ r → (x : PackedOf) × Contains xs x × (kept_of p parts x ≡ r)
packed_in p parts r [] k less e = absurd (omega (arith, less))
packed_in p parts r (x ∷ xs) zero less e = (x, (0, omega arith, refl), e)
packed_in p parts r (x ∷ xs) (suc k) less e =
    let rest = packed_in p parts r xs k (omega (arith, less)) e in
    (rest.0, contains_more x rest.0 xs rest.1, rest.2)

-- each state is wakened for each of so many threads, and no others sleep
pub are_wakened : (p : Program) (kept : KeptOf) (count : ℕ) → IsSound kept
    → All (λ x. length x.places.items ≤ count) kept.states.items
    → ((k : ℕ) → k < count → AllWakened p (suc k) kept)
    → (r : Kept) → Contains (states_of p kept) r → AreWakened p kept.parts.alone r
are_wakened p kept count sound within all r is = by_packed (packed_in p kept.parts r kept.states.items is.0 is.1 is.2)
  where
    by_thread : (x : PackedOf) → length x.places.items ≤ count → kept_of p kept.parts x ≡ r → (t a : ℕ)
        → r.state.asleep t ≡ Some a → IsWakened p kept.parts.alone t r
    by_thread x few same t a slept = at t
        (asleep_few x.places.items t a (subst (λ (q : Kept). q.state.asleep t ≡ Some a) (sym same) slept)) slept
      where
        at : (u : ℕ) → u < suc (length x.places.items) → r.state.asleep u ≡ Some a → IsWakened p kept.parts.alone u r
        at zero less slept = absurd (let none : None ≡ Some a =
            ap (λ (q : Kept). q.state.asleep 0) same ∙ slept in cc)
        at (suc k) less slept = all k (omega (arith, less, few)) r is a slept

    by_packed : (x : PackedOf) × Contains kept.states.items x × (kept_of p kept.parts x ≡ r) → AreWakened p kept.parts.alone r
    by_packed (x, there, same) = record {
      few = subst (λ (q : Kept). IsFew q.state) same
          (few_of p kept x (All-contains (IsWithin kept.parts) kept.states.items x sound there));
      wakened = by_thread x (All-contains (λ y. length y.places.items ≤ count) kept.states.items x within there) same;
    }

-- one element more holds
pub all_one_more : {X : Type 0} (P : X → Type 0) (xs : List X) (i : ℕ) (x : X) → i < length xs
    → x ≡ slice_index_or xs i x → All P (take i xs) → P x → All P (take (i + 1) xs)
all_one_more P xs i x less is all one = All-more P xs i x less all (subst P is one)

-- where a thread sleeps that isn't awake
pub place_some : (n : ℕ) → not (n == 0) ≡ true → (a : ℕ) × (place_of n ≡ Some a)
place_some zero e = absurd (let no' : false ≡ true = e in cc)
place_some (suc a) e = (a, refl)

pub sound_parts : (kept : KeptOf) (mid : PartsOf) → IsGrown kept.parts mid → IsSound kept
    → IsSound (record kept { parts = mid })
sound_parts kept mid grows sound = sound_still kept.parts mid grows kept.states.items sound

pub still_parts : (kept : KeptOf) (mid : PartsOf) → IsGrown kept.parts mid → IsStill kept (record kept { parts = mid })
still_parts kept mid grows = record { parts = grows; states = refl; most = refl }

-- a state that is kept at a place is one that was packed
pub packed_at : (p : Program) (parts : PartsOf) (xs : List PackedOf) (i : ℕ) (r : Kept)
    → slice_get (map (kept_of p parts) xs) i ≡ Some r → (x : PackedOf) × (slice_get xs i ≡ Some x)
packed_at p parts [] i r h = absurd cc
packed_at p parts (x ∷ xs) zero r h = (x, refl)
packed_at p parts (x ∷ xs) (suc i) r h = packed_at p parts xs i r h

pub leads_of : (p : Program) (kept : KeptOf) (flags : List Bool) (place u : ℕ) → IsSound kept
    → HoldsAt p kept place (OwnLeads p kept flags u) → HoldsAt p kept place (CanGo p u)
    → HoldsAt p kept place (IsApartIn p kept.parts.alone) → HoldsAt p kept place (LeadsAt p kept flags)
leads_of p kept flags place u sound leads can apart r at =
    let x = packed_at p kept.parts kept.states.items place r at in
    leads_at p kept flags place u x.0 x.1 (All-contains (IsWithin kept.parts) kept.states.items x.0 sound
    (contains_at kept.states.items place x.0 x.1)) leads can apart r at

-- what holds of a state with fewer parts holds of it with more
pub holds_still : (p : Program) (a b : KeptOf) (place : ℕ) (Holds : Kept → Type 0) → IsSound a → IsStill a b
    → HoldsAt p a place Holds → HoldsAt p b place Holds
holds_still p a b place Holds sound still h =
    subst (λ rs. (r : Kept) → slice_get rs place ≡ Some r → Holds r) (sym (states_same p a b sound still)) h

pub flagged_before : (p : Program) (a b : KeptOf) (flags : List Bool) (lives : List Kept) → IsSound a → IsStill a b
    → AreFlagged p b flags lives → AreFlagged p a flags lives
flagged_before p a b flags lives sound still are =
    subst (λ rs. (i : ℕ) (r : Kept) → slice_get flags i ≡ Some true → slice_get rs i ≡ Some r → Contains lives r)
    (states_same p a b sound still) are

-- what leads to what is covered does so of more parts
alone_still : (p : Program) (a b : KeptOf) → IsStill a b → (u : ℕ) (r : Kept) (lives : List Kept)
    → ((woken : List ℕ) (s : State) → IsWholeStep p r.state u woken s
    → (m : ℕ) × IsCovered p a.parts.alone lives m s r.killed)
    → (woken : List ℕ) (s : State) → IsWholeStep p r.state u woken s
    → (m : ℕ) × IsCovered p b.parts.alone lives m s r.killed
alone_still p a b still u r lives h woken s step =
    subst (λ (alone : Bool). (m : ℕ) × IsCovered p alone lives m s r.killed) (sym still.parts.alone) (h woken s step)

pub leads_still : (p : Program) (a b : KeptOf) (flags : List Bool) (place u : ℕ) → IsSound a → IsStill a b
    → HoldsAt p a place (OwnLeads p a flags u) → HoldsAt p b place (OwnLeads p b flags u)
leads_still p a b flags place u sound still h = holds_still p a b place (OwnLeads p b flags u) sound still
    (λ r at lives are. alone_still p a b still u r lives (h r at lives (flagged_before p a b flags lives sound still are)))

pub closed_still : (p : Program) (a b : KeptOf) (flags : List Bool) (place t : ℕ) → IsSound a → IsStill a b
    → HoldsAt p a place (IsClosed p t a flags) → HoldsAt p b place (IsClosed p t b flags)
closed_still p a b flags place t sound still h = holds_still p a b place (IsClosed p t b flags) sound still
    (λ r at. record {
      sleeps = (h r at).sleeps;
      leads = λ u lives are. alone_still p a b still u r lives
          ((h r at).leads u lives (flagged_before p a b flags lives sound still are));
      apart = subst (λ (alone : Bool). IsApartIn p alone r) (sym still.parts.alone) (h r at).apart;
    })

pub wakened_still : (p : Program) (a b : KeptOf) (t : ℕ) → IsSound a → IsStill a b → AllWakened p t a → AllWakened p t b
wakened_still p a b t sound still h =
    subst (λ rs. (r : Kept) → Contains rs r → (c : ℕ) → r.state.asleep t ≡ Some c → IsWakened p b.parts.alone t r)
    (sym (states_same p a b sound still))
    (subst (λ (alone : Bool). (r : Kept) → Contains (states_of p a) r → (c : ℕ) → r.state.asleep t ≡ Some c
    → IsWakened p alone t r) (sym still.parts.alone) h)

-- as many are kept
pub same_count : (a b : KeptOf) → IsStill a b → length b.states.items ≡ length a.states.items
same_count a b still = ap (λ (v : Vec PackedOf Global). length v.items) still.states

pub within_still_too : (a b : KeptOf) (count : ℕ) → IsStill a b
    → All (λ (x : PackedOf). length x.places.items ≤ count) a.states.items
    → All (λ (x : PackedOf). length x.places.items ≤ count) b.states.items
within_still_too a b count still within =
    subst (λ (v : Vec PackedOf Global). All (λ (x : PackedOf). length x.places.items ≤ count) v.items) (sym still.states) within

-- flags as a slice
pub lives_slice : (p : Program) (t : ℕ) (kept : KeptOf) (place : ℕ) (fs flags : List Bool) → fs ≡ flags
    → HoldsAt p kept place (LivesAt p t kept fs) → HoldsAt p kept place (LivesAt p t kept flags)
lives_slice p t kept place fs flags same h = subst (λ xs. HoldsAt p kept place (LivesAt p t kept xs)) same h
