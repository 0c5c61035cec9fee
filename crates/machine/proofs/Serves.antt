-- A request that is served by the front is served.
use Rattle.std.proofs.Common.{◌≡◌, ◌≢◌, ℕ, ◌+◌, length-set, ◌<◌, ◌%◌, Bool, true, false, cond, eqb, ltb, List, []}
use Rattle.std.proofs.Common.{◌∷◌, ◌++◌, length, drop, Some, None, Result, Ok, Err, slice_set, refl, ap, sym, ◌∙◌}
use Rattle.std.proofs.Common.{arith, inl, inr}
use Rattle.std.specs.Prelude.{slice_index}
use Rattle.std.specs.Int.Bits.{bit_or}
use Rattle.std.proofs.Math.Path.{fun_ext}
use Rattle.std.proofs.lemmas.Bool.{cases_eq, eq-eqb, ne_eqb, ltb-true, cond-true, cond-false}
use Rattle.std.proofs.lemmas.List.{get_or-set_other}
use Rattle.words.specs.Process.{process_word}
use Rattle.words.specs.Outcomes.{cause_number}
use Rattle.words.specs.Signed.{signed_of}
use Rattle.buckets.specs.Places.{with_place}
use Rattle.isa.specs.Programs.{Program}
use Rattle.locals.specs.Threads.{Thread}
use Rattle.locals.specs.Looks.{Request, AskLoad, AskStore, AskSwap, AskCompareSwap, AskOr, AskAdd, AskFork, AskPrint}
use Rattle.locals.specs.Looks.{AskWait, AskWake, AskRequeue, AskReturn, AskReturnValue, AskFault, Asks}
use Rattle.machine.specs.declared.event.Event.{Event}
use Rattle.machine.specs.declared.event.EventName.TheVariants as name
use Rattle.machine.specs.declared.event.StepFault.{StepFault}
use Rattle.machine.specs.declared.event.StepFault.TheVariants.{Broken}
use Rattle.futexcalls.specs.FutexCalls as futex
use Rattle.robustexit.specs.RobustExit.{put}
use Rattle.machine.specs.States.{Common, ConcreteState, thread_of, state_of, with_word, with_thread}
use Rattle.machine.specs.AbstractServing.{Serves}
use Rattle.machine.specs.ConcreteServing.{Served, serve, gives, load, set_word, plain, event_of, front}
use Rattle.machine.specs.ConcreteServing.{wake_front, sleep_on, move_front, moves_of, wait_on, wake_on, requeue_to}
use Rattle.machine.specs.ConcreteSteps.{go_on_with, on_machine}
use Rattle.machine.specs.Views.{IsWellFormed}
use Rattle.machine.proofs.Placing.{words_put}
use Rattle.futexcalls.proofs.Choices.{choice-front}
use Rattle.machine.proofs.Sleeping.{agree-woken}
use Rattle.machine.proofs.Keeping.{Holds, holds-concrete, holds-set, holds-printed, holds-woke, holds-slept}
use Rattle.machine.proofs.Keeping.{holds-moved}
use Rattle.machine.proofs.Landing.{Steps, lands, HasPlace}

abbrev Outcome : Type 0
Outcome = Result (ConcreteState × Event) StepFault

-- what a step comes to by what came of its request
abbrev after : ConcreteState → ℕ → (ℕ → Thread) → Result Served StepFault → Outcome
after k t go r = on_machine k t (go_on_with go r)

-- a request on an address that was served lies in the memory
pub opens : (k : ConcreteState) (t : ℕ) (go : ℕ → Thread) (b : Bool) (r : Result Served StepFault)
    (q : ConcreteState × Event) → on_machine k t (go_on_with go (cond b r (Err Broken))) ≡ Ok q
    → (b ≡ true) × (on_machine k t (go_on_with go r) ≡ Ok q)
opens k t go true r q h = (refl, h)
opens k t go false r q h = absurd cc

-- a request that wakes nobody and changes no sleepers
quiet : (p : Program) (k k' : ConcreteState) (t : ℕ) (e ev : Event) (y : Thread) (request : Request)
    (go : ℕ → Thread) (answer : ℕ) (c : Common) (w : ℕ → ℕ) → IsWellFormed p k → thread_of k t ≡ Some y
    → Holds p (length k.threads) c → ((b : ℕ) → slice_index c.words b ≡ w b)
    → c.asleep ≡ k.common.asleep
    → ev.woken ≡ (plain name.Local 0).woken
    → Serves t request (state_of k) [] answer (record (state_of k) { word = w; output = c.output })
    → (let a : Outcome = on_machine k t (go_on_with go (gives answer c ev)) in a) ≡ Ok (k', e)
    → Steps p k k' t e (Asks request go)
quiet p k k' t e ev y request go answer c w concrete stands holds word still nobody serves h =
    let r = lands p k k' t e ev (go answer) y c w concrete stands holds word h in
    record {
      woken = [];
      set = r.event ∙ nobody;
      moves = (
        answer,
        record (state_of k) { word = w; output = c.output },
        serves,
        r.state
            ∙ (λ i. with_thread (record (state_of k) { word = w; asleep = still i; output = c.output }) t (go answer)),
      );
      concrete = r.concrete;
    }

-- an access to one word
pub accesses : (p : Program) (k k' : ConcreteState) (t : ℕ) (e ev : Event) (y : Thread) (request : Request)
    (go : ℕ → Thread) (a answer v : ℕ) → IsWellFormed p k → thread_of k t ≡ Some y → a < length k.common.words
    → ev.woken ≡ (plain name.Local 0).woken
    → Serves t request (state_of k) [] answer (with_word (state_of k) a v)
    → (let o : Outcome = on_machine k t (go_on_with go (gives answer (set_word k.common a v) ev)) in o) ≡ Ok (k', e)
    → Steps p k k' t e (Asks request go)
accesses p k k' t e ev y request go a answer v concrete stands inside nobody serves h =
    quiet p k k' t e ev y request go answer (set_word k.common a v)
    (put (λ b. slice_index k.common.words b) a v) concrete stands
    (holds-set _ _ k.common a v (holds-concrete p k concrete))
    (words_put k.common.words a v inside) refl nobody serves h

-- nothing changes
pub stays : (p : Program) (k k' : ConcreteState) (t : ℕ) (e ev : Event) (y : Thread) (request : Request)
    (go : ℕ → Thread) (answer : ℕ) → IsWellFormed p k → thread_of k t ≡ Some y
    → ev.woken ≡ (plain name.Local 0).woken
    → Serves t request (state_of k) [] answer (state_of k)
    → (let o : Outcome = on_machine k t (go_on_with go (gives answer k.common ev)) in o) ≡ Ok (k', e)
    → Steps p k k' t e (Asks request go)
stays p k k' t e ev y request go answer concrete stands nobody serves h =
    quiet p k k' t e ev y request go answer k.common (λ b. slice_index k.common.words b) concrete stands
    (holds-concrete p k concrete) (λ b. refl) refl nobody serves h

swaps_if : (p : Program) (k k' : ConcreteState) (t : ℕ) (e : Event) (y : Thread) (go : ℕ → Thread)
    (a expected new : ℕ) → IsWellFormed p k → thread_of k t ≡ Some y → a < length k.common.words
    → (b : Bool) → (eqb (load k.common a) expected ≡ b)
    → (let o : Outcome = on_machine k t
    (go_on_with go (gives (load k.common a) (cond b (set_word k.common a new) k.common)
    (plain name.CompareSwap (load k.common a)))) in o) ≡ Ok (k', e)
    → Steps p k k' t e (Asks (AskCompareSwap a expected new) go)
swaps_if p k k' t e y go a expected new concrete stands inside true is h =
    accesses p k k' t e _ y (AskCompareSwap a expected new) go a (load k.common a) new concrete stands inside refl
    (inside, (refl, (refl, λ i. cond (sym is i) (with_word (state_of k) a new) (state_of k)))) h
swaps_if p k k' t e y go a expected new concrete stands inside false is h =
    stays p k k' t e _ y (AskCompareSwap a expected new) go (load k.common a) concrete stands refl
    (inside, (refl, (refl, λ i. cond (sym is i) (with_word (state_of k) a new) (state_of k)))) h

waits_if : (p : Program) (k k' : ConcreteState) (t : ℕ) (e : Event) (y : Thread) (go : ℕ → Thread) (a expected : ℕ)
    → IsWellFormed p k → thread_of k t ≡ Some y → k.common.asleep t ≡ None → HasPlace k t → a < length k.common.words
    → (let o : Outcome = on_machine k t (go_on_with go (wait_on k.common t a expected)) in o) ≡ Ok (k', e)
    → Steps p k k' t e (Asks (AskWait a expected) go)
waits_if p k k' t e y go a expected concrete stands awake place inside h =
    elim (cases_eq (load k.common a) expected) [
      | inl is ↦
          let c : Common = sleep_on k.common t a in
          let r = lands p k k' t e (plain name.Wait 0) (go 0) y c (λ b. slice_index k.common.words b) concrete stands
          (holds-slept _ _ k.common t a place.some place.few awake (holds-concrete p k concrete)) (λ b. refl)
          (ap (λ o. on_machine k t (go_on_with go o)) (sym (cond-true _ _ _ (eq-eqb _ _ is))) ∙ h) in
          record {
            woken = [];
            set = r.event;
            moves = (
              0,
              record (state_of k) { asleep = c.asleep },
              (inside, (refl, inl (c.asleep, record { equal = is; joins = refl }, refl, refl))),
              r.state,
            );
            concrete = r.concrete;
          }
      | inr differs ↦
          stays p k k' t e (plain name.Wait 1) y (AskWait a expected) go 1 concrete stands refl
          (inside, (refl, inr (differs, refl, refl)))
          (ap (λ o. on_machine k t (go_on_with go o)) (sym (cond-false _ _ _ (ne_eqb _ _ differs))) ∙ h)
    ]

wakes : (p : Program) (k k' : ConcreteState) (t : ℕ) (e : Event) (y : Thread) (go : ℕ → Thread) (a n : ℕ)
    → IsWellFormed p k → thread_of k t ≡ Some y → a < length k.common.words
    → (let o : Outcome = on_machine k t (go_on_with go (wake_on k.common a n)) in o) ≡ Ok (k', e)
    → Steps p k k' t e (Asks (AskWake a n) go)
wakes p k k' t e y go a n concrete stands inside h =
    let c : Common = wake_front k.common a n in
    let woken : List ℕ = front k.common a n in
    let r = lands p k k' t e (event_of name.Wake (length woken) woken []) (go (length woken)) y c
    (λ b. slice_index k.common.words b) concrete stands
    (holds-woke _ _ k.common a n (holds-concrete p k concrete)) (λ b. refl) h in
    record {
      woken = woken;
      set = r.event;
      moves = (
        length woken,
        record (state_of k) { asleep = c.asleep },
        (
          inside,
          c.asleep,
          record {
            choice = choice-front k.common.queue k.common.asleep a n concrete.agree;
            awake = refl;
          },
          refl,
          refl,
        ),
        r.state,
      );
      concrete = r.concrete;
    }

-- the moves of a requeue
moves_on : (p : Program) (k : ConcreteState) (a b n m : ℕ) → IsWellFormed p k
    → futex.Moves (wake_front k.common a n).asleep a b m (moves_of (wake_front k.common a n) a b m)
    (move_front (wake_front k.common a n) a b m).asleep
moves_on p k a b n m concrete =
    let c : Common = wake_front k.common a n in
    elim (cases_eq a b) [
      | inl e ↦
          let none : moves_of c a b m ≡ [] = cond-true _ _ _ (eq-eqb a b e) in
          let still : move_front c a b m ≡ c = cond-true _ _ _ (eq-eqb a b e) in
          record { choice = λ ne. absurd (ne e); none = λ _. none; goes = rw (none, still) refl }
      | inr ne ↦
          let some : moves_of c a b m ≡ front c a m = cond-false _ _ _ (ne_eqb a b ne) in
          let goes : (move_front c a b m).asleep ≡ with_place c.asleep (front c a m) (Some b) =
          ap (λ (x : Common). x.asleep) (cond-false _ _ _ (ne_eqb a b ne)) in
          record {
            choice = λ _. rw some (choice-front c.queue c.asleep a m
                (agree-woken k.common.queue k.common.asleep a n concrete.agree));
            none = λ e. absurd (ne e);
            goes = goes ∙ ap (λ xs. with_place c.asleep xs (Some b)) (sym some);
          }
    ]

requeues : (p : Program) (k k' : ConcreteState) (t : ℕ) (e : Event) (y : Thread) (go : ℕ → Thread)
    (a b n m expected : ℕ) → IsWellFormed p k → thread_of k t ≡ Some y → a < length k.common.words
    → b < length k.common.words
    → (let o : Outcome = on_machine k t (go_on_with go (requeue_to k.common a b n m expected)) in o) ≡ Ok (k', e)
    → Steps p k k' t e (Asks (AskRequeue a b n m expected) go)
requeues p k k' t e y go a b n m expected concrete stands inside inside' h =
    elim (cases_eq (load k.common a) expected) [
      | inl is ↦
          let woke : Common = wake_front k.common a n in
          let woken : List ℕ = front k.common a n in
          let moved : List ℕ = moves_of woke a b m in
          let c : Common = move_front woke a b m in
          let r = lands p k k' t e (event_of name.Requeue (length woken + length moved) woken moved)
          (go (length woken + length moved)) y c (λ d. slice_index k.common.words d) concrete stands
          (holds-moved _ _ woke a b m (holds-woke _ _ k.common a n (holds-concrete p k concrete)))
          (λ d. words_moved woke a b m d)
          (ap (λ o. on_machine k t (go_on_with go o)) (sym (cond-true _ _ _ (eq-eqb _ _ is))) ∙ h) in
          record {
            woken = woken;
            set = r.event;
            moves = (
              length woken + length moved,
              record (state_of k) { asleep = c.asleep },
              (
                inside,
                inside',
                inl (
                  moved,
                  c.asleep,
                  record {
                    equal = is;
                    wakes =
                        record {
                          choice = choice-front k.common.queue k.common.asleep a n concrete.agree;
                          awake = refl;
                        };
                    moves = moves_on p k a b n m concrete;
                  },
                  refl,
                  refl,
                ),
              ),
              r.state ∙ (λ i. with_thread
                  (record (state_of k) { asleep = c.asleep; output = output_moved woke a b m i }) t
                  (go (length woken + length moved))),
            );
            concrete = r.concrete;
          }
      | inr differs ↦
          stays p k k' t e (plain name.Requeue 4294967295) y
          (AskRequeue a b n m expected) go 4294967295 concrete stands refl
          (inside, inside', inr (differs, refl, refl, refl))
          (ap (λ o. on_machine k t (go_on_with go o)) (sym (cond-false _ _ _ (ne_eqb _ _ differs))) ∙ h)
    ] where
      words_moved : (c : Common) (x z i d : ℕ) → slice_index (move_front c x z i).words d ≡ slice_index c.words d
      words_moved c x z i d = elim (eqb x z) as
          (λ q. slice_index (cond q c
          (record c {
            queue = put (put c.queue x (drop i (c.queue x))) z (c.queue z ++ front c x i);
            asleep =
                with_place c.asleep (front c x i) (Some z);
          })).words d ≡ slice_index c.words d) [ true ↦ refl | false ↦ refl ]

      output_moved : (c : Common) (x z i : ℕ) → (move_front c x z i).output ≡ c.output
      output_moved c x z i = elim (eqb x z) as
          (λ q. (cond q c (record c {
            queue = put (put c.queue x (drop i (c.queue x))) z (c.queue z ++ front c x i);
            asleep = with_place c.asleep (front c x i) (Some z);
          })).output ≡ c.output) [ true ↦ refl | false ↦ refl ]

-- a thread's first words are no words of its end
first_apart : (t j : ℕ) → 0 < j → process_word t 0 ≢ process_word t j
first_apart t j some e = absurd (omega arith)

returns : (p : Program) (k k' : ConcreteState) (t : ℕ) (e : Event) (y : Thread) (go : ℕ → Thread) (v : ℕ)
    → IsWellFormed p k → thread_of k t ≡ Some y → HasPlace k t
    → (let o : Outcome = on_machine k t
    (go_on_with go (gives (load (set_word k.common (process_word t 4) v) (process_word t 0))
    (set_word (set_word k.common (process_word t 4) v) (process_word t 5) 16) (plain name.RetValue v))) in o)
    ≡ Ok (k', e)
    → Steps p k k' t e (Asks (AskReturnValue v) go)
returns p k k' t e y go v concrete stands place h =
    let ws = k.common.words in
    let f : ℕ → ℕ = put (λ b. slice_index ws b) (process_word t 4) v in
    let inner : (b : ℕ) → slice_index (slice_set ws (process_word t 4) v) b ≡ f b =
    words_put ws (process_word t 4) v (omega (arith, place.words)) in
    let long : length (slice_set ws (process_word t 4) v) ≡ length ws = length-set ws (process_word t 4) v in
    let outer : (b : ℕ) → slice_index (slice_set (slice_set ws (process_word t 4) v) (process_word t 5) 16) b
    ≡ put f (process_word t 5) 16 b =
    λ b. words_put (slice_set ws (process_word t 4) v) (process_word t 5) 16 (omega (arith, long, place.words)) b
    ∙ ap (λ (g : ℕ → ℕ). put g (process_word t 5) 16 b) (fun_ext inner) in
    quiet p k k' t e (plain name.RetValue v) y (AskReturnValue v) go
    (load (set_word k.common (process_word t 4) v) (process_word t 0))
    (set_word (set_word k.common (process_word t 4) v) (process_word t 5) 16)
    (put f (process_word t 5) 16) concrete stands
    (holds-set _ _ _ (process_word t 5) 16
    (holds-set _ _ k.common (process_word t 4) v (holds-concrete p k concrete))) outer refl refl
    (refl, (get_or-set_other ws (process_word t 4) (process_word t 0) v 0 (first_apart t 4 (omega arith)), refl)) h

-- each request but a fork
abbrev pub WantsNoThread : Request → Type 0
WantsNoThread (AskFork entry arguments has_room) = ⊥
WantsNoThread request = Unit {0}

pub serves_so : (p : Program) (k k' : ConcreteState) (t : ℕ) (e : Event) (y : Thread) (request : Request)
    (go : ℕ → Thread) → WantsNoThread request → IsWellFormed p k → thread_of k t ≡ Some y → k.common.asleep t ≡ None
    → HasPlace k t
    → on_machine k t (go_on_with go (serve (length k.threads) t request k.common)) ≡ Ok (k', e)
    → Steps p k k' t e (Asks request go)
serves_so p k k' t e y (AskLoad a) go one concrete stands awake place h =
    let o = opens k t go (ltb a (length k.common.words)) _ (k', e) h in
    let i = ltb-true a (length k.common.words) o.0 in
    stays p k k' t e _ y (AskLoad a) go (load k.common a) concrete stands refl (i, (refl, (refl, refl))) o.1
serves_so p k k' t e y (AskStore a v) go one concrete stands awake place h =
    let o = opens k t go (ltb a (length k.common.words)) _ (k', e) h in
    let i = ltb-true a (length k.common.words) o.0 in
    accesses p k k' t e _ y (AskStore a v) go a 0 v concrete stands i refl (i, (refl, (refl, refl))) o.1
serves_so p k k' t e y (AskSwap a v) go one concrete stands awake place h =
    let o = opens k t go (ltb a (length k.common.words)) _ (k', e) h in
    let i = ltb-true a (length k.common.words) o.0 in
    accesses p k k' t e _ y (AskSwap a v) go a (load k.common a) v concrete stands i refl
    (i, (refl, (refl, refl))) o.1
serves_so p k k' t e y (AskCompareSwap a expected new) go one concrete stands awake place h =
    let o = opens k t go (ltb a (length k.common.words)) _ (k', e) h in
    let i = ltb-true a (length k.common.words) o.0 in
    swaps_if p k k' t e y go a expected new concrete stands i (eqb (load k.common a) expected) refl o.1
serves_so p k k' t e y (AskOr a v) go one concrete stands awake place h =
    let o = opens k t go (ltb a (length k.common.words)) _ (k', e) h in
    let i = ltb-true a (length k.common.words) o.0 in
    accesses p k k' t e _ y (AskOr a v) go a (load k.common a) (bit_or (load k.common a) v) concrete stands i refl
    (i, (refl, (refl, refl))) o.1
serves_so p k k' t e y (AskAdd a v) go one concrete stands awake place h =
    let o = opens k t go (ltb a (length k.common.words)) _ (k', e) h in
    let i = ltb-true a (length k.common.words) o.0 in
    accesses p k k' t e _ y (AskAdd a v) go a (load k.common a)
    ((load k.common a + v) % 4294967296) concrete stands i refl (i, (refl, (refl, refl))) o.1
serves_so p k k' t e y (AskFork entry arguments has_room) go one concrete stands awake place h = absurd one
serves_so p k k' t e y (AskPrint number) go one concrete stands awake place h =
    quiet p k k' t e _ y (AskPrint number) go 0
    (record k.common { output = k.common.output ++ signed_of number ∷ [] })
    (λ b. slice_index k.common.words b) concrete stands
    (holds-printed _ _ k.common _ (holds-concrete p k concrete)) (λ b. refl) refl refl (refl, (refl, refl)) h
serves_so p k k' t e y (AskWait a expected) go one concrete stands awake place h =
    let o = opens k t go (ltb a (length k.common.words)) _ (k', e) h in
    waits_if p k k' t e y go a expected concrete stands awake place (ltb-true a (length k.common.words) o.0) o.1
serves_so p k k' t e y (AskWake a n) go one concrete stands awake place h =
    let o = opens k t go (ltb a (length k.common.words)) _ (k', e) h in
    wakes p k k' t e y go a n concrete stands (ltb-true a (length k.common.words) o.0) o.1
serves_so p k k' t e y (AskRequeue a b n m expected) go one concrete stands awake place h =
    let o = opens k t go (ltb a (length k.common.words)) _ (k', e) h in
    let o' = opens k t go (ltb b (length k.common.words)) _ (k', e) o.1 in
    requeues p k k' t e y go a b n m expected concrete stands (ltb-true a (length k.common.words) o.0)
    (ltb-true b (length k.common.words) o'.0) o'.1
serves_so p k k' t e y AskReturn go one concrete stands awake place h =
    accesses p k k' t e _ y AskReturn go (process_word t 5)
    (load k.common (process_word t 0)) 16 concrete stands place.words refl (refl, (refl, refl)) h
serves_so p k k' t e y (AskReturnValue v) go one concrete stands awake place h =
    returns p k k' t e y go v concrete stands place h
serves_so p k k' t e y (AskFault cause) go one concrete stands awake place h =
    accesses p k k' t e _ y (AskFault cause) go (process_word t 5) (load k.common (process_word t 0))
    (cause_number cause) concrete stands place.words refl (refl, (refl, refl)) h
