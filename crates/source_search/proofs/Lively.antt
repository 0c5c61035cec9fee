-- Which kept states are live, and what follows where all are, or where one isn't.
use Rattle.std.proofs.Common.{◌≡◌, ◌<◌, ◌≤◌, ◌+◌, not, ℕ, zero, suc, Bool, List, [], ◌∷◌, ◌++◌, length, get_or, map, take, slice_get}
use Rattle.std.proofs.Common.{Option, Some, None, All, Contains, MatchBool, refl, sym, ap, ◌∙◌, subst, arith, true, false}
use Rattle.std.specs.Prelude.{MatchOption, Vec}
use Rattle.std.specs.Global.{Global}
use Rattle.std.proofs.lemmas.List.{append-nil, length-append, length-map, map_more, map_push, take-append-le, take-map, take_all}
use Rattle.std.proofs.lemmas.List.Elements.{All-contains, All-map, All-push, All-weaker, Contains-get_or}
use Rattle.std.proofs.lemmas.Option.{slice_get_within}
use Rattle.program.specs.Trees.{Program}
use Rattle.program.specs.WellFormed.{WellFormed}
use Rattle.meaning.specs.Labels.{Action}
use Rattle.meaning.specs.Processes.{Process}
use Rattle.meaning.specs.Runs.{CanMove, IsStep, Leads}
use Rattle.meaning.proofs.Led.{leads_more}
use Rattle.meaning.specs.States.{SourceState, opening}
use Rattle.meaning.specs.Table.{Table}
use Rattle.proof_exploration.specs.Blocking.{GoesOn, HasBlocked, IsBlocked, IsHeldUp, IsLive}
use Rattle.proof_exploration.specs.Exploring.{IsOver, LeadsAlone}
use Rattle.proof_exploration.specs.Searching.{IsKept}
use Rattle.proof_exploration.proofs.Alike.{like_back, like_trans}
use Rattle.proof_exploration.proofs.Lasting.{blocked_here, covered_comes, live_back, live_moves, live_over, never_blocked}
use Rattle.proof_exploration.proofs.Representing.{own_leads}
use Rattle.source_states.specs.Actions.{action_of}
use Rattle.source_states.specs.declared.action.Action.{Action as ActionOf}
use Rattle.source_reaching.specs.Choices.{by}
use Rattle.source_search.specs.Blocking.{HasResting}
use Rattle.source_search.specs.Bounds.{AreAll}
use Rattle.source_search.specs.Covered.{IsFollowedOwn}
use Rattle.source_search.specs.Found.{LeadsNowhere, is_any}
use Rattle.source_search.specs.Kept.{IsLonger, IsSeen, states_in}
use Rattle.source_search.specs.Ends.{IsEndable}
use Rattle.source_search.specs.Living.{AreBlockedAt, AreLiveFor, AreLiveTo, ComesToOne, IsAsked, IsClosedOver, IsHeldIn}
use Rattle.source_search.specs.Living.{IsLiveFor, IsLiveTo, IsLookedFor, IsResting, RestsInOne}
use Rattle.source_search.specs.Packed.{HasKey, IsGrown, IsPackedOf, IsSameKey, IsWithin, process_in, some_process, some_table, table_in}
use Rattle.source_search.specs.Packed.{unpacked}
use Rattle.source_search.specs.declared.kept.Kept.{Kept as KeptOf}
use Rattle.source_search.specs.declared.living.Aim.{Aim as AimOf}
use Rattle.source_search.specs.declared.living.Aim.TheVariants.{Act, End}
use Rattle.source_search.specs.declared.living.Resting.{Resting as RestingOf}
use Rattle.source_search.specs.declared.outside.Outside.{Outside}
use Rattle.source_search.specs.declared.packed.Packed.{Packed as PackedOf}
use Rattle.source_search.specs.declared.parts.Parts.{Parts as PartsOf}
use Rattle.source_search.specs.declared.spot.Spot.{Spot as SpotOf}
use Rattle.source_search.specs.Spots.{IsSpotOf}
use Rattle.source_reaching.proofs.Subsets.{contains_map}
use Rattle.source_search.proofs.Coverage.{covered_like}
use Rattle.source_search.proofs.Ended.{end_back}
use Rattle.source_search.proofs.Keeping.{kept_key, none_whole}
use Rattle.source_search.proofs.Packing.{same_key, sound_still, states_still, unpacked_still}
use Rattle.source_search.proofs.Searched.{are_own, complete}

-- where nothing more was kept, the same states are
none_more : (kept kept' : List SourceState) → IsLonger kept kept' → length kept' ≡ length kept → kept' ≡ kept
none_more kept kept' (more, is) same =
    is ∙ without more (omega (arith, ap length is, length-append kept more, same))
  where
    without : (xs : List SourceState) → length xs ≡ 0 → kept ++ xs ≡ kept
    without [] none = append-nil kept
    without (x ∷ xs) none = absurd (omega (arith, none))

module _ (a b : PartsOf) (xs ys : List PackedOf) (longer : IsLonger (states_in a xs) (states_in b ys)) where
  pub same_count : length ys ≡ length xs → states_in b ys ≡ states_in a xs
  same_count same = none_more (states_in a xs) (states_in b ys) longer
      (length-map ys (unpacked b) ∙ same ∙ sym (length-map xs (unpacked a)))

  -- and they are where what was kept behind them is taken away
  pub cut_back : (zs : List PackedOf) (n : ℕ) → n ≡ length xs → zs ≡ take n ys → states_in b zs ≡ states_in a xs
  cut_back zs n count cut =
      ap (states_in b) cut
      ∙ sym (take-map (unpacked b) n ys)
      ∙ ap (take n) longer.1
      ∙ take-append-le n (states_in a xs) longer.0 (omega (arith, count, length-map xs (unpacked a)))
      ∙ take_all n (states_in a xs) (omega (arith, count, length-map xs (unpacked a)))

-- with more parts, the same states are and their parts are there
module _ (a b : PartsOf) (g : IsGrown a b) (xs ys : List PackedOf) (same : ys ≡ xs) (all : All (IsWithin a) xs) where
  pub sound_same : All (IsWithin b) ys
  sound_same = subst (All (IsWithin b)) (sym same) (sound_still a b g xs all)

  pub states_same : states_in b ys ≡ states_in a xs
  states_same = ap (states_in b) same ∙ states_still a b g xs all

pub still_sound : (a b : PartsOf) (xs : List PackedOf) → b ≡ a → All (IsWithin a) xs → All (IsWithin b) xs
still_sound a b xs same all = subst (λ parts. All (IsWithin parts) xs) (sym same) all

pub items_same : (k k' : KeptOf) → k'.states ≡ k.states → k'.states.items ≡ k.states.items
items_same k k' e = λ i. (e i).items

pub items_of : (states : Vec PackedOf Global) (k : KeptOf) → states ≡ k.states → states.items ≡ k.states.items
items_of states k e = λ i. (e i).items

pub items_twice : (k k' k'' : KeptOf) → k'.states ≡ k.states → k''.states ≡ k'.states → k''.states.items ≡ k.states.items
items_twice k k' k'' e f = items_same k' k'' f ∙ items_same k k' e

pub key_within : (parts : PartsOf) (x y : PackedOf) → IsSameKey x y → IsWithin parts x → IsWithin parts y
key_within parts x y same is = record {
  table = subst (λ n. n < length parts.tables.items) same.table is.table;
  variables = subst (λ n. n < length parts.variables.items) same.variables is.variables;
  processes = subst (All (λ n. n < length parts.processes.items)) same.processes is.processes;
}

pub none_led : (p : Program) (s : SourceState) (actions : List ActionOf) → Leads p s (map action_of (take 0 actions)) s
none_led p s [] = refl
none_led p s (a ∷ actions) = refl

-- one action more
pub led_more : (p : Program) (s s1 s2 : SourceState) (actions : List ActionOf) (i : ℕ) (a : ActionOf)
    → i < length actions → a ≡ get_or actions i a → Leads p s (map action_of (take i actions)) s1
    → IsStep p s1 (action_of a) s2 → Leads p s (map action_of (take (i + 1) actions)) s2
led_more p s s1 s2 actions i a less is led step =
    subst (λ all. Leads p s all s2)
    (sym (map_more action_of actions i a less ∙ ap (λ x. map action_of (take i actions) ++ action_of x ∷ []) (sym is)))
    (leads_more p s s1 s2 (map action_of (take i actions)) (action_of a) led step)

-- a process of a kept state that is held up
pub held_there : (parts : PartsOf) (x : PackedOf) (n part q : ℕ) (at : Process) (t : Table) → q ≡ suc n
    → slice_get x.processes.items n ≡ Some part → process_in parts.processes.items part ≡ Some at
    → table_in parts.tables.items x.table ≡ Some t
    → ((p : Program) (s : SourceState) → s.table ≡ t → s.process q ≡ Some at → CanMove p s q → ⊥)
    → (p : Program) → IsHeldUp p (unpacked parts x) q at
held_there parts x n part q at t is here there table rests p = record {
  stands = stands;
  rests = rests p (unpacked parts x) (ap some_table table) stands;
}
  where
    stands : (unpacked parts x).process q ≡ Some at
    stands = ap (unpacked parts x).process is ∙ ap (some_process parts.processes.items) here ∙ there

-- what is decided so holds where the answer is yes
pub told_true : (b : Bool) (X Y : Type 0) → MatchBool b X Y → b ≡ true → X
told_true true X Y decided is = decided
told_true false X Y decided is = absurd (let no : false ≡ true = is in cc)

pub over_at : (o : Option Process) (at : Process) (b : Bool) → o ≡ Some at → MatchBool b (IsOver at) (IsOver at → ⊥)
    → b ≡ true → (q : Process) → o ≡ Some q → IsOver q
over_at o at b there decided is q stands =
    subst IsOver (one at q (sym there ∙ stands)) (told_true b (IsOver at) (IsOver at → ⊥) decided is)
  where
    one : (a c : Process) → Some a ≡ Some c → a ≡ c
    one a c e = cc

module _ (p : Program) where
  -- where an action of a process leads to what these states cover, they are come to
  pub comes_on : (kept : List SourceState) (s : SourceState) (t : ℕ) → CanMove p s t → IsFollowedOwn p kept s t
      → ComesToOne p kept s
  comes_on kept s t can own =
      let next : ComesToOne p kept can.after =
      covered_comes p kept (own can.kind).0 can.after ((own can.kind).1 can.after can.moves) in
      (next.0, next.1, (by t can.kind ∷ next.2.0, next.2.1, (can.after, can.moves, next.2.2), next.2.3))

  -- a state that actions lead from to one of the parts of one of these
  pub walked : (a b : PartsOf) → IsGrown a b → (xs : List PackedOf) → All (IsWithin a) xs → (x : PackedOf)
      (s e : SourceState) (actions : List Action) → LeadsAlone p s actions e → IsPackedOf b x e → HasKey xs x
      → ComesToOne p (states_in a xs) s
  walked a b g xs sound x s e actions led are key =
      let there : IsKept (states_in a xs) (unpacked b x) =
      subst (λ kept. IsKept kept (unpacked b x)) (states_still a b g xs sound) (kept_key b xs x key) in (
        there.0,
        there.1,
        (
          actions,
          e,
          led,
          like_trans e (unpacked b x) there.0 (like_back (unpacked b x) e are.like)
              (like_back there.0 (unpacked b x) there.2),
        ),
      )

  pub comes_still : (a b : PartsOf) → IsGrown a b → (x : PackedOf) → IsWithin a x → (kept kept' : List SourceState)
      → kept' ≡ kept → ComesToOne p kept' (unpacked b x) → ComesToOne p kept (unpacked a x)
  comes_still a b g x within kept kept' same comes =
      subst (ComesToOne p kept) (unpacked_still a b g x within)
      (subst (λ states. ComesToOne p states (unpacked b x)) same comes)

  pub live_on : (aim : AimOf) (kept : List SourceState) (s : SourceState) → AreLiveTo p aim kept
      → ComesToOne p kept s → IsLiveTo p aim s
  live_on (Act who) kept s all comes = λ q is.
      live_back p s comes.0 q comes.2 (All-contains (IsLiveFor p who) kept comes.0 all comes.1 q is)
  live_on End kept s all comes = end_back p s comes.0 comes.2 (All-contains (IsEndable p) kept comes.0 all comes.1)

  -- one live state more
  pub one_live : (aim : AimOf) (parts : PartsOf) (xs ys : List PackedOf) (x : PackedOf) → ys ≡ xs ++ x ∷ []
      → AreLiveTo p aim (states_in parts xs) → IsLiveTo p aim (unpacked parts x) → AreLiveTo p aim (states_in parts ys)
  one_live aim parts xs ys x is all one =
      subst (AreLiveTo p aim) (sym (ap (states_in parts) is ∙ map_push (unpacked parts) xs x))
      (All-push (IsLiveTo p aim) (states_in parts xs) (unpacked parts x) all one)

  -- a state of the parts of a live one
  pub key_live : (aim : AimOf) (parts : PartsOf) (xs : List PackedOf) (x : PackedOf)
      → AreLiveTo p aim (states_in parts xs) → HasKey xs x → IsLiveTo p aim (unpacked parts x)
  key_live aim parts xs x all (y, c, same) =
      subst (IsLiveTo p aim) (same_key parts y x same)
      (All-contains (IsLiveTo p aim) (states_in parts xs) (unpacked parts y) all (contains_map (unpacked parts) xs y c))

  pub still_live : (aim : AimOf) (a b : PartsOf) (xs : List PackedOf) → b ≡ a → AreLiveTo p aim (states_in a xs)
      → AreLiveTo p aim (states_in b xs)
  still_live aim a b xs same all = subst (λ parts. AreLiveTo p aim (states_in parts xs)) (sym same) all

  pub none_live : (aim : AimOf) (parts : PartsOf) (xs : List PackedOf) → xs ≡ [] → AreLiveTo p aim (states_in parts xs)
  none_live aim parts xs none =
      subst (λ ys. AreLiveTo p aim (states_in parts ys)) (sym none) (λ k d l. absurd (omega (arith, l)))

  -- where the parts of all are those of live ones
  pub all_live : (aim : AimOf) (parts : PartsOf) (xs ys : List PackedOf) → AreLiveTo p aim (states_in parts xs)
      → All (HasKey xs) ys → AreLiveTo p aim (states_in parts ys)
  all_live aim parts xs ys live all =
      All-map (IsLiveTo p aim) (unpacked parts) ys (λ k d l. key_live aim parts xs (get_or ys k d) live (all k d l))

  -- a process that isn't there, or is over, or can move
  pub over_live : (s : SourceState) (q : ℕ) → ((at : Process) → s.process q ≡ Some at → IsOver at) → IsLive p s q
  over_live s q over = live_over p s q (λ on. on.2 (over on.0 on.1))

  pub rests_decided : (s : SourceState) (q : ℕ) (b : Bool) → GoesOn s q → MatchBool b (CanMove p s q) (CanMove p s q → ⊥)
      → MatchBool (not b) (IsResting p s q) (IsLive p s q)
  rests_decided s q true on can = live_moves p s q can
  rests_decided s q false on never = record { goes_on = on; rests = never }

  pub rests_told : (s r : SourceState) (q : ℕ) (b : Bool) → s ≡ r → GoesOn s q
      → MatchBool b (CanMove p s q) (CanMove p s q → ⊥) → MatchBool (not b) (IsResting p r q) (IsLive p r q)
  rests_told s r q b same on can =
      subst (λ x. MatchBool (not b) (IsResting p x q) (IsLive p x q)) same (rests_decided s q b on can)

  pub spot_live : (parts : PartsOf) (x : PackedOf) (place : ℕ) (spot : SpotOf) → IsSpotOf x place spot
      → ((q : Process) → process_in parts.processes.items spot.part ≡ Some q → IsOver q)
      → IsLive p (unpacked parts x) (suc place)
  spot_live parts x place spot is over =
      over_live (unpacked parts x) (suc place)
      (λ at e. over at (sym (ap (some_process parts.processes.items) is.part) ∙ e))

  -- each process of a kept state that is asked for
  pub live_each : (who : Option ℕ) (parts : PartsOf) (x : PackedOf)
      → ((k : ℕ) → k < length x.processes.items → IsAsked who (suc k) → IsLive p (unpacked parts x) (suc k))
      → IsLiveFor p who (unpacked parts x)
  live_each who parts x each zero is =
      over_live (unpacked parts x) zero (λ at e. absurd (let no : None ≡ Some at = e in cc))
  live_each who parts x each (suc j) is = here (slice_get x.processes.items j) refl
    where
      here : (o : Option ℕ) → slice_get x.processes.items j ≡ o → IsLive p (unpacked parts x) (suc j)
      here (Some n) e = each j (slice_get_within x.processes.items j n e) is
      here None e = over_live (unpacked parts x) (suc j) (λ at stands. absurd (let no : None ≡ Some at =
          sym (ap (some_process parts.processes.items) e) ∙ stands in cc))

  -- one process in all of these states
  pub live_one : (parts : PartsOf) (xs : List PackedOf) (n : ℕ) → All (λ x. IsLive p (unpacked parts x) n) xs
      → AreLiveFor p (Some n) (states_in parts xs)
  live_one parts xs n all = All-map (IsLiveFor p (Some n)) (unpacked parts) xs
      (λ i d l q is. subst (IsLive p (unpacked parts (get_or xs i d))) (sym is) (all i d l))

  -- all of them, one after another
  pub live_all : (parts : PartsOf) (xs : List PackedOf) (most : ℕ) → All (λ (x : PackedOf). length x.processes.items ≤ most) xs
      → ((k : ℕ) → k < most → AreLiveFor p (Some (suc k)) (states_in parts xs)) → AreLiveFor p None (states_in parts xs)
  live_all parts xs most few each = All-map (IsLiveFor p None) (unpacked parts) xs
      (λ i d l. live_each None parts (get_or xs i d) (λ k less is.
      let within : length (get_or xs i d).processes.items ≤ most = few i d l in
      All-contains (IsLiveFor p (Some (suc k))) (states_in parts xs) (unpacked parts (get_or xs i d))
      (each k (omega (arith, less, within)))
      (contains_map (unpacked parts) xs (get_or xs i d) (Contains-get_or xs i d l)) (suc k) refl))

  pub rests_one : (parts : PartsOf) (xs : List PackedOf) (i : ℕ) (x : PackedOf) (q : ℕ) → i < length xs → x ≡ get_or xs i x
      → IsResting p (unpacked parts x) q → RestsInOne p (states_in parts xs) q
  rests_one parts xs i x q less is resting = (
    unpacked parts x,
    contains_map (unpacked parts) xs x (subst (Contains xs) (sym is) (Contains-get_or xs i x less)),
    resting,
  )

  -- of a state that is the same but for what was printed
  pub closed_like : (kept : List SourceState) (r s : SourceState) → r ≡ record s { printed = [] } → IsClosedOver p kept r
      → IsClosedOver p kept s
  closed_like kept r s same is = record {
    covered = covered_like p kept r s is.covered (record {
      table = ap (λ (x : SourceState). x.table) same;
      variable = ap (λ (x : SourceState). x.variable) same;
      process = ap (λ (x : SourceState). x.process) same;
    });
    expanded = is.expanded;
  }

  -- who is held up in all that is come to from a state is blocked for good
  pub held_blocked : WellFormed p → (kept : List SourceState) (s : SourceState) → IsClosedOver p kept s → (ns : List ℕ)
      → All (IsHeldIn p kept s) ns → AreBlockedAt p s ns
  held_blocked wf kept s closed ns all actions run =
      All-weaker (IsHeldIn p kept s) (IsBlocked p s) (λ q is.
      blocked_here p wf kept closed.expanded actions s run closed.covered q is.at is.waits
      (λ r c. All-contains (λ u. IsHeldUp p u q is.at) kept r is.held c) is.stands) ns all

-- where nothing from outside is searched, and each process is live in each kept state, none is blocked for good in any run
module _ (p : Program) (wf : WellFormed p) (may : Outside) (kept : List SourceState) (all : AreAll p may kept)
    (none : is_any may ≡ false) where
  opens : IsSeen p false kept (opening p)
  opens = subst (λ b. IsSeen p b kept (opening p)) (none_whole may none) all.opens

  nowhere_blocked : AreLiveFor p None kept → LeadsNowhere p may (HasBlocked p)
  nowhere_blocked live actions s run from blocked =
      never_blocked p kept wf (complete p wf may kept opens all.expanded none)
      (λ r c q. All-contains (IsLiveFor p None) kept r live c q tt) actions s blocked.0
      (own_leads p (opening p) s actions run (are_own may actions none from.0 from.1)) blocked.1

  pub looked_for : (o : Option RestingOf) → IsLookedFor p kept o
      → MatchOption o (LeadsNowhere p may (HasBlocked p)) (λ r. HasResting p may)
  looked_for None live = nowhere_blocked live
  looked_for (Some r) rests = record { kept = kept; all = all; process = r.process; rests = rests }
