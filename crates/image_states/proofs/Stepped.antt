-- What threads' own steps lead to, and the states in which they were taken on.
use Rattle.std.proofs.Common.{◌≡◌, ◌≢◌, ◌<◌, ◌≤◌, ◌∙◌, ℕ, suc, List, [], ◌∷◌, Option, Some, None}
use Rattle.std.proofs.Common.{inl, inr, refl, sym, ap, subst, arith, length, Contains, slice_get}
use Rattle.std.specs.Prelude.{slice_index, slice_set}
use Rattle.words.specs.Process.{process_word}
use Rattle.words.specs.declared.mem.Addr.{Addr}
use Rattle.buckets.specs.Places.{with_place}
use Rattle.isa.specs.Programs.{Program}
use Rattle.locals.specs.declared.request.Request.{Request as Told}
use Rattle.locals.specs.declared.request.Request.TheVariants as told
use Rattle.locals.specs.declared.request.NextStep.TheVariants as next
use Rattle.robustexit.specs.ExitRules.{exit_of}
use Rattle.robustexit.specs.declared.phase.ExitPhase.{ExitPhase}
use Rattle.futexcalls.specs.Answers.{word_of}
use Rattle.locals.specs.Threads.{Thread, Exits}
use Rattle.locals.specs.Looks.{look}
use Rattle.locals.specs.Requests.{after_answer, next_step_of}
use Rattle.machine.specs.RequestMeanings.{asked_of}
use Rattle.proof_pieces.specs.WholeCalls.{ServesWhole}
use Rattle.machine.specs.AbstractServing.{with_shared}
use Rattle.machine.specs.States.{State, with_sleepers, with_thread, with_word}
use Rattle.image_states.specs.declared.next.Doing.TheVariants as doing
use Rattle.image_states.specs.declared.next.Next.{Next as NextOf}
use Rattle.image_states.specs.declared.packed.Packed.{Packed as PackedOf}
use Rattle.image_states.specs.declared.parts.Parts.{Parts as PartsOf}
use Rattle.image_states.specs.Accesses.{access_of, access_answer, word_after}
use Rattle.image_states.specs.Choosing.{chosen_of, AreChosen, AreSleepers, HasPlaced}
use Rattle.image_states.specs.Exits.{IsPlanned, IsPlanOf, WakesAt}
use Rattle.image_states.specs.declared.exits.ExitPlan.{ExitPlan}
use Rattle.image_states.specs.Nexts.{shaped, IsBase, LeavesTo, MovesTo, Reaches, ReachesAt}
use Rattle.image_states.specs.Packed.{asleep_at, unpacked, some_words, words_in, IsGrown, IsMarked, IsWithin}
use Rattle.image_states.proofs.Covering.{base_reaches}
use Rattle.image_states.proofs.Growing.{prefix_some, prefix_within, within_still, words_still}
use Rattle.image_states.proofs.Served.{access_served, moves_told, with_two_words, with_word_is, AllServed, IsAccess}
use Rattle.image_states.proofs.Choosing.{are_chosen}
use Rattle.std.proofs.lemmas.List.{length-set}

-- a state that is so, but for who sleeps where, is one of the next ones
pub base_placed : (p : Program) (a parts : PartsOf) (x state : PackedOf) (k t memory : ℕ) (here : Thread) (ys : List NextOf)
    (asleep : ℕ → Option ℕ) → t ≡ suc k → IsGrown a parts → IsWithin a x → memory < length a.memories.items
    → IsBase p parts x k memory here state → HasPlaced state ys asleep
    → ReachesAt p parts x ys t (words_in parts.memories.items memory) asleep here
base_placed p a parts x state k t memory here ys asleep number grown is less base has output =
    subst (λ j. Reaches p parts ys
    (with_thread (shaped (unpacked p parts x) (words_in parts.memories.items memory) asleep output) j here) x.killed)
    (sym number)
    (base_reaches p parts x state k memory here base (within_still a parts grown x is)
    (prefix_within a.memories.items parts.memories.items memory grown.memories less) ys has.next asleep has.placed
    (has.killed ∙ base.moved.killed) has.found output)

-- the state itself is
pub base_pushed : (p : Program) (a parts : PartsOf) (x state : PackedOf) (k t memory : ℕ) (here : Thread)
    (ys : List NextOf) → t ≡ suc k → IsGrown a parts → IsWithin a x → memory < length a.memories.items
    → IsBase p parts x k memory here state → Contains ys (record { state = state; thread = t; doing = doing.Own })
    → ReachesAt p parts x ys t (words_in parts.memories.items memory) (asleep_at x.places.items) here
base_pushed p a parts x state k t memory here ys number grown is less base found =
    base_placed p a parts x state k t memory here ys (asleep_at x.places.items) number grown is less base (record {
      next = record { state = state; thread = t; doing = doing.Own };
      found = found;
      placed = record { memory = refl; parts = refl; places = ap asleep_at base.moved.places; count = refl };
      killed = refl;
    })

-- the words of a memory that is another with one word changed
pub stored_words : (a b parts : PartsOf) (x : PackedOf) (memory m ad v : ℕ) → IsGrown a parts → IsGrown b parts
    → m < length a.memories.items
    → slice_get b.memories.items memory ≡ Some (slice_set (words_in a.memories.items m) ad v)
    → words_in parts.memories.items memory ≡ slice_set (words_in parts.memories.items m) ad v
stored_words a b parts x memory m ad v f g less is =
    ap some_words (prefix_some b.memories.items parts.memories.items memory
    (slice_set (words_in a.memories.items m) ad v) g.memories is)
    ∙ ap (λ w. slice_set w ad v) (sym (words_still a parts f m less))

-- whatever these reach is reached
pub reached_so : (p : Program) (parts : PartsOf) (x : PackedOf) (nexts : List NextOf) (t : ℕ) (here there : Thread) (s s' : State)
    → s ≡ s' → here ≡ there → Reaches p parts nexts (with_thread s t here) x.killed
    → Reaches p parts nexts (with_thread s' t there) x.killed
reached_so p parts x nexts t here there s s' same is r =
    subst (λ z. Reaches p parts nexts (with_thread s' t z) x.killed) is
    (subst (λ z. Reaches p parts nexts (with_thread z t here) x.killed) same r)

-- the same of a thread behind its answer
pub answered_so : (p : Program) (parts : PartsOf) (x : PackedOf) (nexts : List NextOf) (t : ℕ) (here : Thread)
    (n answer : ℕ) (s s' : State) → s ≡ s' → answer ≡ n
    → Reaches p parts nexts (with_thread s t (after_answer (look p t here) n here)) x.killed
    → Reaches p parts nexts (with_thread s' t (after_answer (look p t here) answer here)) x.killed
answered_so p parts x nexts t here n answer s s' same is =
    reached_so p parts x nexts t (after_answer (look p t here) n here) (after_answer (look p t here) answer here) s s'
    same (ap (λ m. after_answer (look p t here) m here) (sym is))

module _ (p : Program) (a parts : PartsOf) (x : PackedOf) (nexts : List NextOf) (t : ℕ) (here : Thread)
    (grown : IsGrown a parts) (within : IsWithin a x) where
  same_words : words_in parts.memories.items x.memory ≡ words_in a.memories.items x.memory
  same_words = words_still a parts grown x.memory within.memory

  -- what asks for a word outside the memory isn't served
  pub none_moves : (q : Told) (ad : ℕ) → next_step_of (look p t here) ≡ next.Shared q
      → length (words_in a.memories.items x.memory) ≤ ad
      → ((woken : List ℕ) (answer : ℕ) (mid : State) → ServesWhole t (asked_of q) (unpacked p parts x) woken answer mid
      → ad < length (words_in parts.memories.items x.memory))
      → MovesTo p parts x nexts t here
  none_moves q ad is outside serves = moves_told p parts x nexts t here q is (λ woken answer mid served.
      let lies : ad < length (words_in parts.memories.items x.memory) = serves woken answer mid served in
      let same : length (words_in parts.memories.items x.memory) ≡ length (words_in a.memories.items x.memory) =
      ap length same_words in
      absurd (omega (arith, lies, same, outside)))

  -- an access
  pub access_moves : (q : Told) (ad w : ℕ) → next_step_of (look p t here) ≡ next.Shared q → access_of q ≡ Some ad
      → w ≡ slice_index (words_in a.memories.items x.memory) ad
      → ReachesAt p parts x nexts t (slice_set (words_in parts.memories.items x.memory) ad (word_after q w))
      (asleep_at x.places.items) (after_answer (look p t here) (access_answer q w) here)
      → MovesTo p parts x nexts t here
  access_moves q ad w is at found reaches = moves_told p parts x nexts t here q is (λ woken answer mid serves.
      let access : IsAccess (unpacked p parts x) q ad answer mid =
      access_served t (unpacked p parts x) woken answer mid q ad at serves in
      answered_so p parts x nexts t here (access_answer q w) answer
      (shaped (unpacked p parts x) (slice_set (words_in parts.memories.items x.memory) ad (word_after q w))
      (asleep_at x.places.items) []) mid
      (with_word_is p parts x ad (word_after q w) access.lies
      ∙ ap (λ v. with_word (unpacked p parts x) ad (word_after q v)) word_is ∙ sym access.leads)
      (access.answered ∙ ap (access_answer q) (sym word_is)) (reaches []))
    where
      word_is : w ≡ slice_index (words_in parts.memories.items x.memory) ad
      word_is = found ∙ ap (λ l. slice_index l ad) (sym same_words)

  -- a number that is printed
  pub print_moves : (n : ℕ) → next_step_of (look p t here) ≡ next.Shared (told.Print n)
      → ReachesAt p parts x nexts t (words_in parts.memories.items x.memory) (asleep_at x.places.items)
      (after_answer (look p t here) 0 here) → MovesTo p parts x nexts t here
  print_moves n is reaches =
      moves_told p parts x nexts t here (told.Print n) is (λ woken answer mid (nobody, (zero_is, leads)).
      answered_so p parts x nexts t here 0 answer
      (shaped (unpacked p parts x) (words_in parts.memories.items x.memory) (asleep_at x.places.items) mid.output) mid
      ((λ i. record (unpacked p parts x) { output = ap (λ (s : State). s.output) leads i }) ∙ sym leads)
      zero_is (reaches mid.output))

  -- a wait where the word is as expected, and where it differs
  pub sleep_moves : (ad : Addr) (expected w : ℕ)
      → next_step_of (look p t here) ≡ next.Shared (told.Wait ad expected)
      → w ≡ slice_index (words_in a.memories.items x.memory) ad.0 → w ≡ expected
      → ReachesAt p parts x nexts t (words_in parts.memories.items x.memory)
      (with_place (asleep_at x.places.items) (t ∷ []) (Some ad.0)) (after_answer (look p t here) 0 here)
      → MovesTo p parts x nexts t here
  sleep_moves ad expected w is found same reaches = moves_told p parts x nexts t here (told.Wait ad expected) is each
    where
      each : AllServed p parts x nexts t here (asked_of (told.Wait ad expected))
      each woken answer mid (lies, (nobody, inl (after, sleeps, zero_is, leads))) =
          answered_so p parts x nexts t here 0 answer
          (shaped (unpacked p parts x) (words_in parts.memories.items x.memory)
          (with_place (asleep_at x.places.items) (t ∷ []) (Some ad.0)) []) mid
          (ap (with_sleepers (unpacked p parts x)) (sym sleeps.joins) ∙ sym leads) zero_is (reaches [])
      each woken answer mid (lies, (nobody, inr (differs, one_is, leads))) =
          absurd (differs (ap (λ l. slice_index l ad.0) same_words ∙ sym found ∙ same))

  pub again_moves : (ad : Addr) (expected w : ℕ)
      → next_step_of (look p t here) ≡ next.Shared (told.Wait ad expected)
      → w ≡ slice_index (words_in a.memories.items x.memory) ad.0 → w ≢ expected
      → ReachesAt p parts x nexts t (words_in parts.memories.items x.memory) (asleep_at x.places.items)
      (after_answer (look p t here) 1 here) → MovesTo p parts x nexts t here
  again_moves ad expected w is found other reaches = moves_told p parts x nexts t here (told.Wait ad expected) is each
    where
      each : AllServed p parts x nexts t here (asked_of (told.Wait ad expected))
      each woken answer mid (lies, (nobody, inl (after, sleeps, zero_is, leads))) =
          absurd (other (found ∙ ap (λ l. slice_index l ad.0) (sym same_words) ∙ sleeps.equal))
      each woken answer mid (lies, (nobody, inr (differs, one_is, leads))) =
          answered_so p parts x nexts t here 1 answer
          (shaped (unpacked p parts x) (words_in parts.memories.items x.memory) (asleep_at x.places.items) []) mid
          (sym leads) one_is (reaches [])

  -- a wake
  pub wake_moves : (ad : Addr) (n size : ℕ) (sleepers : List ℕ)
      → next_step_of (look p t here) ≡ next.Shared (told.Wake ad n)
      → AreSleepers x.places.items (suc ad.0) sleepers → size ≡ chosen_of n (length sleepers)
      → ((woken : List ℕ) → AreChosen x.places.items (suc ad.0) size woken
      → ReachesAt p parts x nexts t (words_in parts.memories.items x.memory)
      (with_place (asleep_at x.places.items) woken None) (after_answer (look p t here) size here))
      → MovesTo p parts x nexts t here
  wake_moves ad n size sleepers is are size_is reaches =
      moves_told p parts x nexts t here (told.Wake ad n) is (λ woken answer mid (lies, after, wakes, count_is, leads).
      let chosen : AreChosen x.places.items (suc ad.0) size woken =
      subst (λ s. AreChosen x.places.items (suc ad.0) s woken) (sym size_is)
      (are_chosen x.places.items (suc ad.0) ad.0 n sleepers woken are refl wakes.choice) in
      answered_so p parts x nexts t here size answer
      (shaped (unpacked p parts x) (words_in parts.memories.items x.memory)
      (with_place (asleep_at x.places.items) woken None) []) mid
      (ap (with_sleepers (unpacked p parts x)) (sym wakes.awake) ∙ sym leads)
      (count_is ∙ chosen.size) (reaches woken chosen []))

  -- the end of a thread: by its return, with a value, and by a fault
  pub end_moves : (q : Told) (outcome : ℕ) → next_step_of (look p t here) ≡ next.Shared q
      → ((woken : List ℕ) (answer : ℕ) (mid : State) → ServesWhole t (asked_of q) (unpacked p parts x) woken answer mid
      → (answer ≡ (unpacked p parts x).word (process_word t 0))
      × (mid ≡ with_word (unpacked p parts x) (process_word t 5) outcome))
      → process_word t 5 < length (words_in parts.memories.items x.memory)
      → ReachesAt p parts x nexts t
      (slice_set (words_in parts.memories.items x.memory) (process_word t 5) outcome) (asleep_at x.places.items)
      (after_answer (look p t here) (slice_index (words_in parts.memories.items x.memory) (process_word t 0)) here)
      → MovesTo p parts x nexts t here
  end_moves q outcome is serves less reaches = moves_told p parts x nexts t here q is (λ woken answer mid served.
      let so = serves woken answer mid served in
      answered_so p parts x nexts t here (slice_index (words_in parts.memories.items x.memory) (process_word t 0))
      answer
      (shaped (unpacked p parts x) (slice_set (words_in parts.memories.items x.memory) (process_word t 5) outcome)
      (asleep_at x.places.items) []) mid
      (with_word_is p parts x (process_word t 5) outcome less ∙ sym so.1) so.0 (reaches []))

  pub end_with_moves : (v : ℕ) (words : List ℕ) → next_step_of (look p t here) ≡ next.Shared (told.ReturnValue v)
      → words ≡ slice_set (words_in parts.memories.items x.memory) (process_word t 4) v
      → process_word t 5 < length words
      → ReachesAt p parts x nexts t (slice_set words (process_word t 5) 16) (asleep_at x.places.items)
      (after_answer (look p t here) (slice_index (words_in parts.memories.items x.memory) (process_word t 0)) here)
      → MovesTo p parts x nexts t here
  end_with_moves v words is words_are less reaches =
      moves_told p parts x nexts t here (told.ReturnValue v) is (λ woken answer mid (nobody, (head_is, leads)).
      let same : length words ≡ length (words_in parts.memories.items x.memory) =
      ap length words_are ∙ length-set (words_in parts.memories.items x.memory) (process_word t 4) v in
      answered_so p parts x nexts t here (slice_index (words_in parts.memories.items x.memory) (process_word t 0))
      answer
      (shaped (unpacked p parts x) (slice_set words (process_word t 5) 16) (asleep_at x.places.items) []) mid
      (ap (λ w. shaped (unpacked p parts x) (slice_set w (process_word t 5) 16) (asleep_at x.places.items) []) words_are
      ∙ with_two_words p parts x (process_word t 4) v (process_word t 5) 16 (omega (arith, same, less))
      (omega (arith, same, less)) ∙ sym leads)
      head_is (reaches []))

-- a step of an exit
pub leaves_by : (p : Program) (parts : PartsOf) (x : PackedOf) (nexts : List NextOf) (t : ℕ) (phase : ExitPhase) (plan : ExitPlan)
    (memory : ℕ) → IsMarked parts x.memory plan.marks memory
    → IsPlanOf (exit_of p.version) (length (words_in parts.memories.items x.memory)) t phase
    (word_of (words_in parts.memories.items x.memory)) plan
    → ((woken : List ℕ) (after : ℕ → Option ℕ) → WakesAt plan.wakes (asleep_at x.places.items) woken after
    → ReachesAt p parts x nexts t (words_in parts.memories.items memory) after (Exits plan.next))
    → LeavesTo p parts x nexts t phase
leaves_by p parts x nexts t phase plan memory mark is reaches woken s' (after, next, step, leads) =
    let planned : IsPlanned plan (record { word = word_of (words_in parts.memories.items x.memory); asleep = asleep_at x.places.items }) woken after next =
    is (asleep_at x.places.items) woken after next step in
    subst (λ s. Reaches p parts nexts s x.killed) (sym leads)
    (reached_so p parts x nexts t (Exits plan.next) (Exits next)
    (shaped (unpacked p parts x) (words_in parts.memories.items memory) after.asleep [])
    (with_shared (unpacked p parts x) after)
    (λ i. record (unpacked p parts x) {
      word = λ k. (mark.words k ∙ ap (λ (f : ℕ → ℕ). f k) (sym planned.words)) i;
      size = mark.size i;
      asleep = after.asleep;
    })
    (ap (λ f. Exits f) (sym planned.next))
    (reaches woken after.asleep planned.wakes []))
