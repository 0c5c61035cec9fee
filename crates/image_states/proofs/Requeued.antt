-- A requeue, by the sets of sleepers that it wakes and moves.
use Rattle.std.proofs.Common.{◌≡◌, ◌≢◌, ◌<◌, ◌≤◌, ◌+◌, ◌∙◌, ℕ, zero, suc, true, false, List, [], ◌∷◌, Option, Some, None}
use Rattle.std.proofs.Common.{inl, inr, refl, sym, ap, subst, arith, length, Contains, take, get_or, ◌++◌}
use Rattle.std.specs.Prelude.{◌⊎◌, slice_index}
use Rattle.std.specs.List.{IsDistinct}
use Rattle.std.proofs.lemmas.Bool.{cases_eq, cases_lt}
use Rattle.std.proofs.lemmas.List.{take_more}
use Rattle.image_states.proofs.Listing.{all_and_one, none_in}
use Rattle.buckets.specs.Places.{with_place}
use Rattle.futexcalls.specs.FutexCalls.{IsChoice, Moves}
use Rattle.isa.specs.Programs.{Program}
use Rattle.words.specs.declared.mem.Addr.{Addr}
use Rattle.locals.specs.declared.request.Request.{Request as Told}
use Rattle.locals.specs.declared.request.Request.TheVariants as told
use Rattle.locals.specs.declared.request.NextStep.TheVariants as next
use Rattle.locals.specs.Threads.{Thread}
use Rattle.locals.specs.Looks.{look}
use Rattle.locals.specs.Requests.{after_answer, next_step_of}
use Rattle.machine.specs.AbstractServing.{IsUnserved}
use Rattle.machine.specs.RequestMeanings.{asked_of}
use Rattle.machine.specs.States.{with_sleepers, with_thread}
use Rattle.image_states.specs.declared.next.Next.{Next as NextOf}
use Rattle.image_states.specs.declared.packed.Packed.{Packed as PackedOf}
use Rattle.image_states.specs.declared.parts.Parts.{Parts as PartsOf}
use Rattle.image_states.specs.Choosing.{chosen_of, AreChosen, AreSleepers, HasPlaced, IsPlacedSome}
use Rattle.image_states.specs.Nexts.{shaped, IsMore, MovesTo, Reaches, ReachesAt}
use Rattle.image_states.specs.Packed.{asleep_at, thread_at, unpacked, words_in, IsGrown, IsPlaced, IsWithin}
use Rattle.image_states.specs.Requeues.{AsksThere, MidDone, RequeuesDone}
use Rattle.image_states.proofs.Choosing.{are_chosen}
use Rattle.image_states.proofs.Growing.{reaches_still, stands_still, unpacked_still, words_still}
use Rattle.image_states.proofs.Served.{moves_told, AllServed}
use Rattle.image_states.proofs.Stepped.{answered_so}
use Rattle.image_states.proofs.Turned.{placed_within}

-- nobody is a choice of none
pub none_chosen : (asleep : ℕ → Option ℕ) (a : ℕ) → IsChoice asleep a 0 []
unfolding IsDistinct
none_chosen asleep a = record {
  distinct = tt;
  slept = λ t h. absurd (let differ : false ≡ true = h in cc);
  few = omega arith;
  all = λ less. absurd (omega (arith, less));
}

-- with more parts
module _ (p : Program) (a b : PartsOf) (g : IsGrown a b) (x : PackedOf) (is : IsWithin a x) (t : ℕ) where
  pub asks_still : (request : Told) → AsksThere p a x t request → AsksThere p b x t request
  asks_still request there here stands = there here (sym (stands_still a b g x is t) ∙ stands)

module _ (p : Program) (a b : PartsOf) (xs ys : List NextOf) (m : IsMore a xs b ys) (x : PackedOf) (is : IsWithin a x)
    (t : ℕ) where
  pub at_still : (y : PackedOf) → IsWithin a y → (memory : ℕ) → memory < length a.memories.items
      → (asleep : ℕ → Option ℕ) (here : Thread)
      → ReachesAt p a y xs t (words_in a.memories.items memory) asleep here
      → ReachesAt p b y ys t (words_in b.memories.items memory) asleep here
  at_still y in_y memory less asleep here reaches output =
      subst (λ s. Reaches p b ys (with_thread s t here) y.killed) same
      (reaches_still a b xs ys m p
      (with_thread (shaped (unpacked p a y) (words_in a.memories.items memory) asleep output) t here) y.killed
      (reaches output))
    where
      same : shaped (unpacked p a y) (words_in a.memories.items memory) asleep output
          ≡ shaped (unpacked p b y) (words_in b.memories.items memory) asleep output
      same = λ i. shaped (sym (unpacked_still a b m.parts p y in_y) i) (sym (words_still a b m.parts memory less) i) asleep output

  pub mid_still : (mid : PackedOf) → IsWithin a mid → (ad to most size : ℕ) → MidDone p a x mid xs t ad to most size
      → MidDone p b x mid ys t ad to most size
  mid_still mid in_mid ad to most size done here stands moved choice =
      at_still mid in_mid mid.memory in_mid.memory (with_place (asleep_at mid.places.items) moved (Some to))
      (after_answer (look p t here) (size + length moved) here)
      (done here (sym (stands_still a b m.parts x is t) ∙ stands) moved choice)

  pub requeues_still : (ad to n most : ℕ) → RequeuesDone p a x xs t ad to n most → RequeuesDone p b x ys t ad to n most
  requeues_still ad to n most done here stands woken moved choice choice' =
      at_still x is x.memory is.memory (with_place (with_place (asleep_at x.places.items) woken None) moved (Some to))
      (after_answer (look p t here) (length woken + length moved) here)
      (done here (sym (stands_still a b m.parts x is t) ∙ stands) woken moved choice choice')

-- what is reached behind a state in which some were woken
module _ (p : Program) (parts : PartsOf) (x mid : PackedOf) (asleep : ℕ → Option ℕ) (placed : IsPlaced x mid asleep)
    (killed : mid.killed ≡ x.killed) where
  pub mid_reaches : (nexts : List NextOf) (t : ℕ) (after : ℕ → Option ℕ) (here : Thread)
      → ReachesAt p parts mid nexts t (words_in parts.memories.items mid.memory) after here
      → ReachesAt p parts x nexts t (words_in parts.memories.items x.memory) after here
  mid_reaches nexts t after here reaches output =
      subst (λ s. Reaches p parts nexts (with_thread s t here) x.killed) same
      (subst (Reaches p parts nexts
      (with_thread (shaped (unpacked p parts mid) (words_in parts.memories.items mid.memory) after output) t here)) killed
      (reaches output))
    where
      same : shaped (unpacked p parts mid) (words_in parts.memories.items mid.memory) after output
          ≡ shaped (unpacked p parts x) (words_in parts.memories.items x.memory) after output
      same = λ i. record (shaped (unpacked p parts x) (words_in parts.memories.items (placed.memory i)) after output) {
        made = length (placed.parts i);
        thread = thread_at parts.locals.items (placed.parts i);
      }

-- all of it
pub all_requeued : (p : Program) (parts : PartsOf) (x : PackedOf) (mids nexts : List NextOf) (t ad to n most size : ℕ)
    (sleepers : List ℕ) → AreSleepers x.places.items (suc ad) sleepers → size ≡ chosen_of n (length sleepers)
    → ((woken : List ℕ) → AreChosen x.places.items (suc ad) size woken
    → HasPlaced x mids (with_place (asleep_at x.places.items) woken None))
    → ((mid : NextOf) → Contains mids mid → MidDone p parts x mid.state nexts t ad to most size)
    → RequeuesDone p parts x nexts t ad to n most
all_requeued p parts x mids nexts t ad to n most size sleepers are size_is each done here stands woken moved choice choice' =
    subst (λ f. ReachesAt p parts x nexts t (words_in parts.memories.items x.memory) (with_place f moved (Some to))
    (after_answer (look p t here) (length woken + length moved) here)) has.placed.places
    (mid_reaches p parts x has.next.state (with_place (asleep_at x.places.items) woken None) has.placed has.killed nexts t
    (with_place (asleep_at has.next.state.places.items) moved (Some to))
    (after_answer (look p t here) (length woken + length moved) here)
    (subst (λ k. ReachesAt p parts has.next.state nexts t (words_in parts.memories.items has.next.state.memory)
    (with_place (asleep_at has.next.state.places.items) moved (Some to)) (after_answer (look p t here) (k + length moved) here))
    (sym chosen.size)
    (done has.next has.found here stands moved
    (subst (λ f. IsChoice f ad most moved) (sym has.placed.places) choice'))))
  where
    chosen : AreChosen x.places.items (suc ad) size woken
    chosen = subst (λ s. AreChosen x.places.items (suc ad) s woken) (sym size_is)
        (are_chosen x.places.items (suc ad) ad n sleepers woken are refl choice)

    has : HasPlaced x mids (with_place (asleep_at x.places.items) woken None)
    has = each woken chosen

-- the step of a requeue
pub requeue_moves : (p : Program) (parts : PartsOf) (x : PackedOf) (nexts : List NextOf) (t : ℕ) (here : Thread) (ad to : Addr)
    (n m most expected : ℕ) → next_step_of (look p t here) ≡ next.Shared (told.Requeue ad to n m expected)
    → thread_at parts.locals.items x.parts.items t ≡ Some here
    → (ad.0 ≡ to.0 → most ≡ 0) → (ad.0 ≢ to.0 → most ≡ m)
    → RequeuesDone p parts x nexts t ad.0 to.0 n most
    → (slice_index (words_in parts.memories.items x.memory) ad.0 ≢ expected
    → ReachesAt p parts x nexts t (words_in parts.memories.items x.memory) (asleep_at x.places.items)
    (after_answer (look p t here) 4294967295 here))
    → MovesTo p parts x nexts t here
requeue_moves p parts x nexts t here ad to n m most expected is stands one other done again =
    moves_told p parts x nexts t here (told.Requeue ad to n m expected) is each
  where
    chosen : (asleep after : ℕ → Option ℕ) (moved : List ℕ) → Moves asleep ad.0 to.0 m moved after
        → (ad.0 ≡ to.0) ⊎ (ad.0 ≢ to.0) → IsChoice asleep ad.0 most moved
    chosen asleep after moved moves (inl e) =
        subst (λ k. IsChoice asleep ad.0 k moved) (sym (one e))
        (subst (IsChoice asleep ad.0 0) (sym (moves.none e)) (none_chosen asleep ad.0))
    chosen asleep after moved moves (inr ne) = subst (λ k. IsChoice asleep ad.0 k moved) (sym (other ne)) (moves.choice ne)

    each : AllServed p parts x nexts t here (asked_of (told.Requeue ad to n m expected))
    each woken answer mid (lies, lies', inl (moved, after, requeues, count_is, leads)) =
        answered_so p parts x nexts t here (length woken + length moved) answer
        (shaped (unpacked p parts x) (words_in parts.memories.items x.memory)
        (with_place (with_place (asleep_at x.places.items) woken None) moved (Some to.0)) []) mid
        (ap (with_sleepers (unpacked p parts x)) (sym (requeues.moves).goes) ∙ sym leads) count_is
        (done here stands woken moved (requeues.wakes).choice
        (chosen (with_place (asleep_at x.places.items) woken None) after moved requeues.moves (cases_eq ad.0 to.0)) [])
    each woken answer mid (lies, lies', inr (differs, nobody, again_is, leads)) =
        answered_so p parts x nexts t here 4294967295 answer
        (shaped (unpacked p parts x) (words_in parts.memories.items x.memory) (asleep_at x.places.items) []) mid
        (sym leads) again_is (again differs [])

-- one on words outside the memory
pub requeue_none : (p : Program) (parts : PartsOf) (x : PackedOf) (nexts : List NextOf) (t : ℕ) (here : Thread) (ad to : Addr)
    (n m expected : ℕ) → next_step_of (look p t here) ≡ next.Shared (told.Requeue ad to n m expected)
    → IsUnserved (asked_of (told.Requeue ad to n m expected)) (unpacked p parts x) → MovesTo p parts x nexts t here
requeue_none p parts x nexts t here ad to n m expected is unserved =
    moves_told p parts x nexts t here (told.Requeue ad to n m expected) is
    (λ woken answer mid (lies, lies', served). absurd (unserved (lies, lies')))

-- one of a list, as a loop over it goes on
pub none_of : (mids : List NextOf) (mid : NextOf) → Contains (take 0 mids) mid → ⊥
none_of [] mid has = none_in mid has
none_of (m ∷ ms) mid has = none_in mid has

pub one_more_of : (P : NextOf → Type 0) (mids : List NextOf) (i : ℕ) (one : NextOf) → i < length mids
    → one ≡ get_or mids i one → ((mid : NextOf) → Contains (take i mids) mid → P mid) → P one
    → (mid : NextOf) → Contains (take (i + 1) mids) mid → P mid
one_more_of P mids i one less is = all_and_one P (take i mids) (take (i + 1) mids) one
    (take_more mids i one less ∙ ap (λ n. take i mids ++ n ∷ []) (sym is))

-- of two addresses of which it isn't so that not both lie in a memory
pub both_lie : (a b size : ℕ) → (((a < size) × (b < size) → ⊥) → ⊥) → (a < size) × (b < size)
both_lie a b size not' = by (cases_lt a size) (cases_lt b size)
  where
    by : (a < size) ⊎ (size ≤ a) → (b < size) ⊎ (size ≤ b) → (a < size) × (b < size)
    by (inl less) (inl less') = (less, less')
    by (inr more) other = absurd (not' (λ (l, l'). omega (arith, more, l)))
    by (inl less) (inr more) = absurd (not' (λ (l, l'). omega (arith, more, l')))

-- a state in which some were woken is within the parts
pub some_within : (parts : PartsOf) (x mid : PackedOf) → IsPlacedSome x 0 mid → IsWithin parts x → IsWithin parts mid
some_within parts x mid placed = placed_within parts x mid _ placed.1

pub item_of : (mids : List NextOf) (i : ℕ) (one : NextOf) → i < length mids → one ≡ get_or mids i one → Contains mids one
item_of [] i one less is = absurd (omega (arith, less))
item_of (m ∷ ms) zero one less is = (zero, omega arith, sym is)
item_of (m ∷ ms) (suc i) one less is =
    let rest : Contains ms one = item_of ms i one (omega (arith, less)) is in
    let l : rest.0 < length ms = rest.1 in
    (suc rest.0, omega (arith, l), rest.2)
