-- What threads' steps lead to, and what comes from outside.
use Rattle.std.proofs.Common.{◌≡◌, ◌≢◌, ◌<◌, ◌≤◌, ◌+◌, ◌==◌, ◌∙◌, ℕ, zero, suc, Bool, true, false, not, List, [], ◌∷◌, Option, Some, None}
use Rattle.std.proofs.Common.{inl, inr, refl, sym, ap, subst, arith, length, All, cond, ◌||◌}
use Rattle.std.specs.Prelude.{◌⊎◌, slice_index, MatchBool}
use Rattle.std.proofs.Math.Path.{fun_ext}
use Rattle.std.proofs.lemmas.Bool.{cases_lt}
use Rattle.std.proofs.lemmas.List.{get_or_past}
use Rattle.std.proofs.lemmas.Option.{slice_get_past, same_Some}
use Rattle.words.specs.Updates.{put}
use Rattle.words.specs.declared.outcome.Cause.TheVariants.{Killed as Killed'}
use Rattle.buckets.specs.Places.{with_place}
use Rattle.isa.specs.Programs.{Program}
use Rattle.robustexit.specs.ExitRules.{exit_of}
use Rattle.robustexit.specs.declared.phase.ExitPhase.{ExitPhase}
use Rattle.robustexit.specs.declared.phase.ExitPhase.TheVariants.{Ended}
use Rattle.locals.specs.declared.request.NextStep.{NextStep}
use Rattle.locals.specs.declared.request.NextStep.TheVariants as next
use Rattle.locals.specs.Threads.{Thread, Dies, Exits, is_dying}
use Rattle.locals.specs.Looks.{Request, AskLoad, AskStore, AskSwap, AskCompareSwap, AskOr, AskAdd, AskFork, AskPrint}
use Rattle.locals.specs.Looks.{AskWait, AskWake, AskRequeue, AskReturn, AskReturnValue, AskFault, Look, Goes}
use Rattle.locals.specs.Looks.{Asks, Leaves, Breaks, Rests, look}
use Rattle.locals.specs.Requests.{next_step_of, request_step}
use Rattle.locals.specs.Steps.{local_next, local_step}
use Rattle.machine.specs.Runs.{Doing, Own, Strayed, Killed}
use Rattle.machine.specs.States.{State, with_sleepers, with_thread}
use Rattle.machine.proofs.Steps.{local_goes}
use Rattle.proof_pieces.specs.WholeCalls.{IsWholeDone, IsWholeStep, MovesWhole}
use Rattle.proof_image_search.specs.Searching.{May, IsCovered, IsNamed, kills_by}
use Rattle.image_states.specs.declared.next.Next.{Next as NextOf}
use Rattle.image_states.specs.declared.packed.Packed.{Packed as PackedOf}
use Rattle.image_states.specs.declared.parts.Parts.{Parts as PartsOf}
use Rattle.image_states.specs.Choosing.{HasKilled, HasPlaced}
use Rattle.image_states.specs.Nexts.{AreNexts, Covers, IsBase, IsDone, KillDone, LeavesTo, MovesTo, OwnDone, Reaches, ReachesAt, StrayDone}
use Rattle.image_states.specs.Packed.{asleep_at, local_in, place_of, thread_at, unpacked, words_in, IsGrown, IsPlaced, IsWithin}
use Rattle.image_states.proofs.Covering.{base_covers, base_within, leaf}
use Rattle.image_states.proofs.Growing.{prefix_within, within_still}

-- whether the code tells a request
abbrev is_asking : NextStep → Bool
is_asking next.Local = false
is_asking (next.Shared request) = true
is_asking (next.Fork entry count room) = true
is_asking (next.Exit phase) = false
is_asking next.Broken = false
is_asking next.Ended = false

asking : (r : Request) → is_asking (request_step r) ≡ true
asking (AskLoad a) = refl
asking (AskStore a v) = refl
asking (AskSwap a v) = refl
asking (AskCompareSwap a expected new) = refl
asking (AskOr a v) = refl
asking (AskAdd a v) = refl
asking (AskFork entry arguments has_room) = refl
asking (AskPrint number) = refl
asking (AskWait a expected) = refl
asking (AskWake a n) = refl
asking (AskRequeue a b wake moves expected) = refl
asking AskReturn = refl
asking (AskReturnValue v) = refl
asking (AskFault cause) = refl

not_asking : (r : Request) (n : NextStep) → is_asking n ≡ false → request_step r ≡ n → ⊥
not_asking r n quiet e = let differ : true ≡ false = sym (asking r) ∙ ap is_asking e ∙ quiet in cc

-- what the code tells as an exit's step, as one that may not be, and as none
pub exit_told : (l : Look) (phase : ExitPhase) → next_step_of l ≡ next.Exit phase → l ≡ Leaves phase
exit_told (Goes x) phase e = absurd cc
exit_told (Asks r go) phase e = absurd (not_asking r (next.Exit phase) refl e)
exit_told (Leaves p) phase e = let same : p ≡ phase = cc in ap (λ q. Leaves q) same
exit_told Breaks phase e = absurd cc
exit_told Rests phase e = absurd cc

pub broken_told : (l : Look) → next_step_of l ≡ next.Broken → l ≡ Breaks
broken_told (Goes x) e = absurd cc
broken_told (Asks r go) e = absurd (not_asking r next.Broken refl e)
broken_told (Leaves p) e = absurd cc
broken_told Breaks e = refl
broken_told Rests e = absurd cc

pub ended_told : (l : Look) → next_step_of l ≡ next.Ended → l ≡ Rests
ended_told (Goes x) e = absurd cc
ended_told (Asks r go) e = absurd (not_asking r next.Ended refl e)
ended_told (Leaves p) e = absurd cc
ended_told Breaks e = absurd cc
ended_told Rests e = refl

-- a local step
local_so : (l : Look) (x : Thread) → local_next l ≡ Some x → l ≡ Goes x
local_so (Goes y) x e = let same : y ≡ x = cc in ap (λ z. Goes z) same
local_so (Asks r go) x e = absurd cc
local_so (Leaves p) x e = absurd cc
local_so Breaks x e = absurd cc
local_so Rests x e = absurd cc

module _ (p : Program) (parts : PartsOf) (x : PackedOf) (nexts : List NextOf) (t : ℕ) (here : Thread) where
  pub local_moves : (there : Thread) (took : Bool) → next_step_of (look p t here) ≡ next.Local
      → MatchBool took (local_step p t here ≡ Some there) ((local_step p t here ≡ None) × (there ≡ here))
      → ReachesAt p parts x nexts t (words_in parts.memories.items x.memory) (asleep_at x.places.items) there
      → MovesTo p parts x nexts t here
  local_moves there true told took reaches woken s' moves =
      subst (λ s. Reaches p parts nexts s x.killed) (sym at.1) (reaches [])
    where
      at : (woken ≡ []) × (s' ≡ with_thread (unpacked p parts x) t there)
      at = subst (λ l. MovesWhole (exit_of p.version) (unpacked p parts x) t woken l s')
          (local_so (look p t here) there took) moves
  local_moves there false told took reaches woken s' moves = absurd (local_goes (look p t here) told took.0)

  pub exit_moves : (phase : ExitPhase) → next_step_of (look p t here) ≡ next.Exit phase → LeavesTo p parts x nexts t phase
      → MovesTo p parts x nexts t here
  exit_moves phase told leaves woken s' moves =
      leaves woken s' (subst (λ l. MovesWhole (exit_of p.version) (unpacked p parts x) t woken l s')
      (exit_told (look p t here) phase told) moves)

  pub broken_moves : next_step_of (look p t here) ≡ next.Broken → MovesTo p parts x nexts t here
  broken_moves told woken s' moves =
      absurd (subst (λ l. MovesWhole (exit_of p.version) (unpacked p parts x) t woken l s')
      (broken_told (look p t here) told) moves)

  pub ended_moves : next_step_of (look p t here) ≡ next.Ended → MovesTo p parts x nexts t here
  ended_moves told woken s' moves =
      absurd (subst (λ l. MovesWhole (exit_of p.version) (unpacked p parts x) t woken l s')
      (ended_told (look p t here) told) moves)

  -- the steps of its own of a thread that stands here
  pub own_done : thread_at parts.locals.items x.parts.items t ≡ Some here → MovesTo p parts x nexts t here
      → OwnDone p parts x nexts t
  own_done stands moves woken s' step =
      moves woken s' (subst (λ z. MovesWhole (exit_of p.version) (unpacked p parts x) t woken (look p t z) s')
      (same_Some step.thread here (sym step.stands ∙ stands)) step.moves)

  -- of one that wasn't made, or sleeps
  pub own_absent : thread_at parts.locals.items x.parts.items t ≡ None → OwnDone p parts x nexts t
  own_absent none woken s' step =
      absurd (let differ : None ≡ Some step.thread = sym none ∙ step.stands in cc)

  pub own_asleep : (k : ℕ) → t ≡ suc k → slice_index x.places.items k ≢ 0 → OwnDone p parts x nexts t
  own_asleep k number sleeps woken s' step =
      absurd (awake (slice_index x.places.items k) sleeps
      (ap (asleep_at x.places.items) (sym number) ∙ step.awake))
    where
      awake : (n : ℕ) → n ≢ 0 → place_of n ≡ None → ⊥
      awake zero ne e = ne refl
      awake (suc n) ne e = cc

-- a thread that has ended takes no step
pub own_ended : (p : Program) (parts : PartsOf) (x : PackedOf) (nexts : List NextOf) (t : ℕ)
    → thread_at parts.locals.items x.parts.items t ≡ Some (Exits Ended) → OwnDone p parts x nexts t
own_ended p parts x nexts t ended woken s' step =
    absurd (subst (λ z. MovesWhole (exit_of p.version) (unpacked p parts x) t woken (look p t z) s')
    (same_Some step.thread (Exits Ended) (sym step.stands ∙ ended)) step.moves)

-- one thread is elsewhere
pub alone_put : (f : ℕ → Option ℕ) (t : ℕ) (v : Option ℕ) → with_place f (t ∷ []) v ≡ put f t v
alone_put f t v = fun_ext (λ u. same (u == t) (f u))
  where
    same : (b : Bool) (w : Option ℕ) → cond (b || false) v w ≡ cond b v w
    same true w = refl
    same false w = refl

-- a state that is another but for where threads sleep
pub placed_is : (p : Program) (parts : PartsOf) (x y : PackedOf) (asleep : ℕ → Option ℕ) → IsPlaced x y asleep
    → with_sleepers (unpacked p parts x) asleep ≡ unpacked p parts y
placed_is p parts x y asleep placed = λ i. record (unpacked p parts x) {
  word = λ a. slice_index (words_in parts.memories.items (sym placed.memory i)) a;
  size = length (words_in parts.memories.items (sym placed.memory i));
  made = length (sym placed.parts i);
  thread = thread_at parts.locals.items (sym placed.parts i);
  asleep = sym placed.places i;
}

pub placed_within : (parts : PartsOf) (x y : PackedOf) (asleep : ℕ → Option ℕ) → IsPlaced x y asleep → IsWithin parts x
    → IsWithin parts y
placed_within parts x y asleep placed is = record {
  memory = subst (λ m. m < length parts.memories.items) (sym placed.memory) is.memory;
  locals = subst (All (λ n. n < length parts.locals.items)) (sym placed.parts) is.locals;
  places = placed.count ∙ is.places ∙ ap length (sym placed.parts);
  few = subst (λ ns. length ns ≤ parts.most) (sym placed.parts) is.few;
}

-- a wake that nobody called for
pub stray_done : (p : Program) (parts : PartsOf) (x : PackedOf) (nexts : List NextOf) (t : ℕ) → IsWithin parts x
    → HasPlaced x nexts (with_place (asleep_at x.places.items) (t ∷ []) None) → StrayDone p parts x nexts t
stray_done p parts x nexts t is has a step s' thread stray = record {
  next = has.next;
  found = has.found;
  within = placed_within parts x has.next.state (with_place (asleep_at x.places.items) (t ∷ []) None) has.placed is;
  covers = λ kept in_kept. (
    zero,
    subst (IsCovered p parts.alone kept zero s') has.killed
        (leaf p parts kept has.next.state s' (ap (λ (s : State). record s { output = [] }) is_so) in_kept),
  );
}
  where
    is_so : s' ≡ unpacked p parts has.next.state
    is_so = stray.after ∙ ap (λ u. with_sleepers (unpacked p parts x) (put (asleep_at x.places.items) u None)) thread
        ∙ ap (with_sleepers (unpacked p parts x)) (sym (alone_put (asleep_at x.places.items) t None))
        ∙ placed_is p parts x has.next.state (with_place (asleep_at x.places.items) (t ∷ []) None) has.placed

pub stray_absent : (p : Program) (parts : PartsOf) (x : PackedOf) (nexts : List NextOf) (t k : ℕ) → t ≡ suc k
    → slice_index x.places.items k ≡ 0 → StrayDone p parts x nexts t
stray_absent p parts x nexts t k number awake a step s' thread stray =
    absurd (let differ : None ≡ Some a =
    sym (ap place_of awake) ∙ ap (asleep_at x.places.items) (sym (thread ∙ number)) ∙ stray.sleeps in cc)

-- a kill
pub kill_done : (p : Program) (a parts : PartsOf) (x state : PackedOf) (k t : ℕ) (nexts : List NextOf) → t ≡ suc k
    → IsGrown a parts → IsWithin a x → IsBase p parts x k x.memory (Dies Killed') state
    → HasKilled state nexts (with_place (asleep_at state.places.items) (t ∷ []) None) (x.killed + 1)
    → KillDone p parts x nexts t
kill_done p a parts x state k t nexts number grown is base has step s' thread kill = record {
  next = has.next;
  found = has.found;
  within = base_within p parts x state k x.memory (Dies Killed') base has.next.state after has.placed []
      (within_still a parts grown x is) (prefix_within a.memories.items parts.memories.items x.memory grown.memories is.memory);
  covers = subst (Covers p parts has.next.state s') has.killed
      (subst (λ s. Covers p parts has.next.state s has.next.state.killed) (sym leads)
      (base_covers p parts x state k x.memory (Dies Killed') base has.next.state after has.placed []));
}
  where
    after : ℕ → Option ℕ
    after = with_place (asleep_at state.places.items) (t ∷ []) None

    leads : s' ≡ with_thread (with_sleepers (unpacked p parts x) (with_place (asleep_at state.places.items) (t ∷ []) None)) (suc k) (Dies Killed')
    leads = kill.after
        ∙ ap (λ u. with_thread (with_sleepers (unpacked p parts x) (put (asleep_at x.places.items) u None)) u (Dies Killed'))
        thread
        ∙ ap (λ (f : ℕ → Option ℕ). with_thread (with_sleepers (unpacked p parts x) f) t (Dies Killed'))
        (sym (alone_put (asleep_at x.places.items) t None)
        ∙ ap (λ ns. with_place (asleep_at ns) (t ∷ []) None) (sym base.moved.places))
        ∙ ap (λ u. with_thread (with_sleepers (unpacked p parts x) (with_place (asleep_at state.places.items) (t ∷ []) None)) u (Dies Killed'))
        number

pub kill_absent : (p : Program) (parts : PartsOf) (x : PackedOf) (nexts : List NextOf) (t : ℕ)
    → thread_at parts.locals.items x.parts.items t ≡ None → KillDone p parts x nexts t
kill_absent p parts x nexts t none step s' thread kill =
    absurd (let differ : None ≡ Some kill.thread =
    sym none ∙ ap (thread_at parts.locals.items x.parts.items) (sym thread) ∙ kill.stands in cc)

pub kill_dying : (p : Program) (parts : PartsOf) (x : PackedOf) (nexts : List NextOf) (t : ℕ) (here : Thread)
    → thread_at parts.locals.items x.parts.items t ≡ Some here → is_dying here ≡ true → KillDone p parts x nexts t
kill_dying p parts x nexts t here stands dying step s' thread kill =
    absurd (let differ : true ≡ not true =
    kill.begins_so ∙ ap (λ z. not (is_dying z)) (same_Some kill.thread here
    (sym kill.stands ∙ ap (thread_at parts.locals.items x.parts.items) thread ∙ stands)) ∙ ap not dying in cc)

-- all that a thread's steps lead to
pub all_done : (p : Program) (may : May) (parts : PartsOf) (x : PackedOf) (nexts : List NextOf) (t : ℕ)
    → OwnDone p parts x nexts t → (may.strays ≡ true → StrayDone p parts x nexts t)
    → (x.killed < may.kills → KillDone p parts x nexts t) → IsDone p may parts x nexts t
all_done p may parts x nexts t own stray kill step s' thread = by step.doing
  where
    none_more : x.killed ≡ x.killed + 0
    none_more = omega arith

    by : (d : Doing) → IsWholeDone p (unpacked p parts x) step s' d → IsNamed may d → x.killed + kills_by d ≤ may.kills
        → Covers p parts x s' (x.killed + kills_by d) ⊎ Reaches p parts nexts s' (x.killed + kills_by d)
    by Own done named few =
        inr (subst (Reaches p parts nexts s') none_more
        (own step.woken s' (subst (λ u. IsWholeStep p (unpacked p parts x) u step.woken s') thread done)))
    by (Strayed a) done named few = inr (subst (Reaches p parts nexts s') none_more (stray named a step s' thread done))
    by (Killed true) done named few = inr (kill (omega (arith, few)) step s' thread done)
    by (Killed false) done named few =
        inl (subst (Covers p parts x s') none_more (λ kept has.
        (zero, leaf p parts kept x s' (ap (λ (s : State). record s { output = [] }) done.after) has)))

-- who wasn't made takes no step
pub none_done : (p : Program) (may : May) (parts : PartsOf) (x : PackedOf) (nexts : List NextOf) (t : ℕ)
    → thread_at parts.locals.items x.parts.items t ≡ None → asleep_at x.places.items t ≡ None → IsDone p may parts x nexts t
none_done p may parts x nexts t none nowhere step s' thread = by step.doing
  where
    absent : (z : Thread) → thread_at parts.locals.items x.parts.items step.thread ≡ Some z → ⊥
    absent z stands =
        let differ : None ≡ Some z = sym none ∙ ap (thread_at parts.locals.items x.parts.items) (sym thread) ∙ stands in cc

    by : (d : Doing) → IsWholeDone p (unpacked p parts x) step s' d → IsNamed may d → x.killed + kills_by d ≤ may.kills
        → Covers p parts x s' (x.killed + kills_by d) ⊎ Reaches p parts nexts s' (x.killed + kills_by d)
    by Own done named few = absurd (absent done.thread done.stands)
    by (Strayed a) done named few =
        absurd (let differ : None ≡ Some a =
        sym nowhere ∙ ap (asleep_at x.places.items) (sym thread) ∙ done.sleeps in cc)
    by (Killed true) done named few = absurd (absent done.thread done.stands)
    by (Killed false) done named few = absurd (absent done.thread done.stands)

-- all that may come next, where that of each thread that was made is there
pub all_threads : (p : Program) (may : May) (parts : PartsOf) (x : PackedOf) (nexts : List NextOf) (n : ℕ)
    → length x.parts.items ≤ n → length x.places.items ≤ length x.parts.items
    → ((j : ℕ) → j < n → IsDone p may parts x nexts (suc j)) → AreNexts p may parts x nexts
all_threads p may parts x nexts n past few done zero = none_done p may parts x nexts zero refl refl
all_threads p may parts x nexts n past few done (suc j) = elim (cases_lt j n) [
  | inl less ↦ done j less
  | inr more ↦ none_done p may parts x nexts (suc j)
      (ap (local_in parts.locals.items) (slice_get_past x.parts.items j (omega (arith, past, more))))
      (ap place_of (get_or_past x.places.items j 0 (omega (arith, past, more, few))))
]
