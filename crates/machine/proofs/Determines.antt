-- A step of an exit that takes the front is the one that the front determines.
use Rattle.std.proofs.Common.{◌≡◌, ℕ, ◌+◌, ◌<◌, ◌≤◌, Bool, true, false, not, Option, Some, None, List, [], ◌∷◌}
use Rattle.std.proofs.Common.{length, take, drop, get_or, slice_set, refl, sym, ap, ◌∙◌, arith, inl, inr, length-set}
use Rattle.std.specs.Prelude.{ℤ}
use Rattle.std.specs.List.{All}
use Rattle.std.proofs.lemmas.Bool.{cases_lt, both_ways, eq-eqb, ne_eqb, or_left, or_right, or_from, cond-true}
use Rattle.std.proofs.lemmas.Bool.{cond-false, false_from_ne_true}
use Rattle.std.proofs.lemmas.List.{ext_get_or, take_all}
use Rattle.words.specs.LockWord.{lock_word, waiters_of}
use Rattle.words.specs.Process.{process_word}
use Rattle.buckets.specs.Places.{names, with_place, Agree}
use Rattle.buckets.specs.Sleepers.{Sleepers, queue, place_of, thread_count}
use Rattle.buckets.proofs.Takes.{names-take}
use Rattle.buckets.proofs.Moves.{drop-take_length, names-front}
use Rattle.buckets.proofs.Outcomes.{names-get_or}
use Rattle.futexcalls.specs.FutexCalls.{IsChoice, Wakes}
use Rattle.futexcalls.specs.Answers.{word_of}
use Rattle.robustexit.specs.declared.phase.ExitPhase.{ExitPhase}
use Rattle.robustexit.specs.declared.phase.ExitPhase.TheVariants.{Entry, Pending, ClearId, LastWake, Ended}
use Rattle.robustexit.specs.Phases.{next_entry}
use Rattle.robustexit.specs.RobustExit.{Shared, IsEntry, IsIdle, Abandons, WakesOne, EntryStep, PendingStep}
use Rattle.robustexit.specs.RobustExit.{ExitStep, IsPending, IsForeign, IsPassed, IsOwned, NoEntry, put}
use Rattle.robustexit.specs.Fronts.{shared_view, wake_word, TakesFront}
use Rattle.robustexit.proofs.Steps.{word_of-set}
use Rattle.machine.specs.ThreadSets.{IsThread}
use Rattle.machine.specs.declared.event.EventName.TheVariants as name
use Rattle.machine.specs.ConcreteServing.{front, wake_front, event_of}
use Rattle.machine.specs.ConcreteExits.{Left, leave, leave_entry, leave_pending, abandon, abandon_wakes}
use Rattle.machine.specs.RequestMeanings.{name_at, value_at}
use Rattle.machine.specs.Views.{common_of}
use Rattle.machine.proofs.Queues.{one_list, no_list}
use Rattle.machine.proofs.Leaving.{entry_so, entry_test}
use Rattle.robustexit.specs.declared.rule.ExitRule.{ExitRule}

-- memories of one length with the same words are the same
same_words : (ws ws' : List ℕ) → length ws' ≡ length ws → word_of ws' ≡ word_of ws → ws' ≡ ws
same_words ws ws' long is = ext_get_or 0 ws' ws long (λ i l. ap (λ (f : ℕ → ℕ). f i) is)

set_is : (ws ws' : List ℕ) (a v : ℕ) → length ws' ≡ length ws → a < length ws → word_of ws' ≡ put (word_of ws) a v
    → ws' ≡ slice_set ws a v
set_is ws ws' a v long inside is =
    same_words (slice_set ws a v) ws' (long ∙ sym (length-set ws a v)) (is ∙ sym (word_of-set ws a v inside))

-- a choice that is a front is the front
front_is : (q : ℕ → List ℕ) (s : ℕ → Option ℕ) (a n : ℕ) (woken : List ℕ) → Agree q s → IsChoice s a n woken
    → woken ≡ take (length woken) (q a) → woken ≡ take n (q a)
front_is q s a n woken ok choice is = elim (cases_lt (length woken) n) [
  | inl less ↦ elim (cases_lt (length woken) (length (q a))) [
    | inl short ↦
        let t : ℕ = get_or (q a) (length woken) 0 in
        let stands : names (q a) t ≡ true = names-get_or (q a) (length woken) 0 short in
        let chosen : names woken t ≡ true = choice.all less t (ok.sleeps t a stands) in
        absurd (both_ways (names (take (length woken) (q a)) t)
        (names-front (q a) (length woken) 0 (ok.distinct a) short) (ap (λ xs. names xs t) (sym is) ∙ chosen))
    | inr all ↦ is ∙ take_all (length woken) (q a) all ∙ sym (take_all n (q a) (omega (arith, all, less)))
  ]
  | inr more ↦ let e : length woken ≡ n = omega (arith, more, choice.few) in is ∙ ap (λ k. take k (q a)) e
]

rest_is : (s s' : Sleepers) (a n : ℕ) (woken : List ℕ) → TakesFront s s' a woken → woken ≡ take n (queue s a)
    → queue s' ≡ put (queue s) a (drop n (queue s a))
rest_is s s' a n woken takes is =
    one_list s s' a (drop n (queue s a)) (takes.rest ∙ ap (λ xs. drop (length xs) (queue s a)) is
    ∙ sym (drop-take_length n (queue s a))) takes.others

stays_list : (s s' : Sleepers) (a : ℕ) (woken : List ℕ) → TakesFront s s' a woken → woken ≡ [] → queue s' ≡ queue s
stays_list s s' a woken takes none =
    no_list s s' a (takes.rest ∙ ap (λ xs. drop (length xs) (queue s a)) none) takes.others

idle_is : (ws ws' : List ℕ) (s s' : Sleepers) (o : List ℤ) (a : ℕ) (woken : List ℕ)
    → IsIdle (shared_view ws s) woken (shared_view ws' s') → TakesFront s s' a woken → length ws' ≡ length ws
    → thread_count s' ≡ thread_count s → common_of ws' s' o ≡ common_of ws s o
idle_is ws ws' s s' o a woken idle takes long most =
    let words : ws' ≡ ws = same_words ws ws' long (ap (λ (x : Shared). x.word) idle.same) in
    let places : place_of s' ≡ place_of s = ap (λ (x : Shared). x.asleep) idle.same in
    let queues : queue s' ≡ queue s = stays_list s s' a woken takes idle.nobody in
    λ i. record { most = most i; words = words i; queue = queues i; asleep = places i; output = o }

no_threads : (xs : List ℕ) → length xs ≤ 0 → xs ≡ []
no_threads [] h = refl
no_threads (x ∷ xs) h = absurd (omega arith)

record Marks (ws ws' : List ℕ) (s s' : Sleepers) (o : List ℤ) (l : ℕ) (woken : List ℕ) : Type 0 where
  pub common : abandon (common_of ws s o) l ≡ common_of ws' s' o
  pub woke : abandon_wakes (common_of ws s o) l ≡ woken

marks_if : (ws ws' : List ℕ) (s s' : Sleepers) (o : List ℤ) (t l : ℕ) (woken : List ℕ)
    → Agree (queue s) (place_of s) → Abandons t l (shared_view ws s) woken (shared_view ws' s')
    → TakesFront s s' l woken
    → length ws' ≡ length ws → thread_count s' ≡ thread_count s → l < length ws
    → (w : Bool) → waiters_of (word_of ws l) ≡ w → Marks ws ws' s s' o l woken
marks_if ws ws' s s' o t l woken ok gone takes long most inside true is =
    let wakes : Wakes (place_of s) l 1 woken (place_of s') = rw is at gone.wakes in
    let words : ws' ≡ slice_set ws l (lock_word 0 true (waiters_of (word_of ws l))) =
    set_is ws ws' l _ long inside gone.marks in
    let one : woken ≡ take 1 (queue s l) = front_is (queue s) (place_of s) l 1 woken ok wakes.choice takes.front in
    let queues : queue s' ≡ put (queue s) l (drop 1 (queue s l)) = rest_is s s' l 1 woken takes one in
    let places : place_of s' ≡ with_place (place_of s) (take 1 (queue s l)) None = wakes.awake
    ∙ ap (λ xs. with_place (place_of s) xs None) one in
    record {
      common = cond-true _ _ _ is
          ∙ (λ i. record { most = sym most i; words = sym words i; queue = sym queues i; asleep = sym places i; output = o });
      woke = cond-true _ _ _ is ∙ sym one;
    }
marks_if ws ws' s s' o t l woken ok gone takes long most inside false is =
    let wakes : Wakes (place_of s) l 0 woken (place_of s') = rw is at gone.wakes in
    let words : ws' ≡ slice_set ws l (lock_word 0 true (waiters_of (word_of ws l))) =
    set_is ws ws' l _ long inside gone.marks in
    let none : woken ≡ [] = no_threads woken wakes.choice.few in
    let queues : queue s' ≡ queue s = stays_list s s' l woken takes none in
    let places : place_of s' ≡ place_of s = wakes.awake ∙ ap (λ xs. with_place (place_of s) xs None) none in
    record {
      common = cond-false _ _ _ is
          ∙ (λ i. record { most = sym most i; words = sym words i; queue = sym queues i; asleep = sym places i; output = o });
      woke = cond-false _ _ _ is ∙ sym none;
    }

marks : (ws ws' : List ℕ) (s s' : Sleepers) (o : List ℤ) (t l : ℕ) (woken : List ℕ)
    → Agree (queue s) (place_of s) → Abandons t l (shared_view ws s) woken (shared_view ws' s')
    → TakesFront s s' l woken
    → length ws' ≡ length ws → thread_count s' ≡ thread_count s → l < length ws
    → Marks ws ws' s s' o l woken
marks ws ws' s s' o t l woken ok gone takes long most inside =
    marks_if ws ws' s s' o t l woken ok gone takes long most inside (waiters_of (word_of ws l)) refl

record WakesFront (ws ws' : List ℕ) (s s' : Sleepers) (o : List ℤ) (a : ℕ) (woken : List ℕ) : Type 0 where
  pub common : wake_front (common_of ws s o) a 1 ≡ common_of ws' s' o
  pub woke : front (common_of ws s o) a 1 ≡ woken

one_woken : (ws ws' : List ℕ) (s s' : Sleepers) (o : List ℤ) (a : ℕ) (woken : List ℕ)
    → Agree (queue s) (place_of s) → WakesOne a (shared_view ws s) woken (shared_view ws' s') → TakesFront s s' a woken
    → length ws' ≡ length ws → thread_count s' ≡ thread_count s → WakesFront ws ws' s s' o a woken
one_woken ws ws' s s' o a woken ok wakes takes long most =
    let words : ws' ≡ ws = same_words ws ws' long wakes.same in
    let one : woken ≡ take 1 (queue s a) =
    front_is (queue s) (place_of s) a 1 woken ok wakes.wakes.choice takes.front in
    let queues : queue s' ≡ put (queue s) a (drop 1 (queue s a)) = rest_is s s' a 1 woken takes one in
    let places : place_of s' ≡ with_place (place_of s) (take 1 (queue s a)) None = wakes.wakes.awake
    ∙ ap (λ xs. with_place (place_of s) xs None) one in
    record {
      common = λ i. record { most = sym most i; words = sym words i; queue = sym queues i; asleep = sym places i; output = o };
      woke = sym one;
    }

-- what the code gives
abbrev pub left : List ℕ → Sleepers → List ℤ → ExitPhase → ExitPhase → ℕ → List ℕ → Left
left ws' s' o phase next value woken =
    record { common = common_of ws' s' o; next = next; event = event_of (name_at phase) value woken [] }

at_entry : (ws ws' : List ℕ) (s s' : Sleepers) (o : List ℤ) (t e seen : ℕ) (next : ExitPhase) (woken : List ℕ)
    → Agree (queue s) (place_of s) → EntryStep (length ws) t e (shared_view ws s) woken (shared_view ws' s')
    → TakesFront s s' (e + 1) woken → length ws' ≡ length ws → thread_count s' ≡ thread_count s
    → IsEntry (length ws) e → next ≡ next_entry (word_of ws e) (seen + 1)
    → leave_entry t e seen (common_of ws s o) ≡ left ws' s' o (Entry (record { 0 = e }) seen) next e woken
at_entry ws ws' s s' o t e seen next woken ok (IsPending is idle) takes long most entry goes =
    cond-false _ _ _ (ap not (entry_test (common_of ws s o) e entry)) ∙ cond-true _ _ _ (or_left _ _ (eq-eqb _ _ is))
    ∙ (λ i. record {
      common = sym (idle_is ws ws' s s' o (e + 1) woken idle takes long most) i;
      next =
          sym goes i;
      event = event_of name.Entry e (sym idle.nobody i) [];
    })
at_entry ws ws' s s' o t e seen next woken ok (IsForeign other idle) takes long most entry goes =
    cond-false _ _ _ (ap not (entry_test (common_of ws s o) e entry))
    ∙ cond-true _ _ _ (or_right _ _ (ap not (ne_eqb _ _ other)))
    ∙ (λ i. record {
      common = sym (idle_is ws ws' s s' o (e + 1) woken idle takes long most) i;
      next =
          sym goes i;
      event = event_of name.Entry e (sym idle.nobody i) [];
    })
at_entry ws ws' s s' o t e seen next woken ok (IsOwned apart gone) takes long most entry goes =
    let m = marks ws ws' s s' o t (e + 1) woken ok gone takes long most entry.1 in
    cond-false _ _ _ (ap not (entry_test (common_of ws s o) e entry))
    ∙ cond-false _ _ _ (or_from _ _ (ne_eqb _ _ apart) (ap not (eq-eqb _ _ gone.owned)))
    ∙ (λ i. record { common = m.common i; next = sym goes i; event = event_of name.Entry e (m.woke i) [] })

at_pending : (rule : ExitRule) (ws ws' : List ℕ) (s s' : Sleepers) (o : List ℤ) (t e : ℕ) (woken : List ℕ)
    → Agree (queue s) (place_of s) → PendingStep rule (length ws) t e (shared_view ws s) woken
    (shared_view ws' s')
    → TakesFront s s' (e + 1) woken → length ws' ≡ length ws → thread_count s' ≡ thread_count s
    → leave_pending rule t e (common_of ws s o) ≡ left ws' s' o Pending ClearId e woken
at_pending rule ws ws' s s' o t e woken ok (NoEntry out idle) takes long most =
    cond-true _ _ _ (ap not (false_from_ne_true _ (λ h. out (entry_so (common_of ws s o) e h))))
    ∙ (λ i. record {
      common = sym (idle_is ws ws' s s' o (e + 1) woken idle takes long most) i;
      next = ClearId;
      event =
          event_of name.Pending e (sym idle.nobody i) [];
    })
at_pending rule ws ws' s s' o t e woken ok (IsForeign entry other so wakes) takes long most =
    let m = one_woken ws ws' s s' o (e + 1) woken ok wakes takes long most in
    cond-false _ _ _ (ap not (entry_test (common_of ws s o) e entry)) ∙ cond-false _ _ _ (ne_eqb _ _ other)
    ∙ cond-true _ _ _ so
    ∙ (λ i. record { common = m.common i; next = ClearId; event = event_of name.Pending e (m.woke i) [] })
at_pending rule ws ws' s s' o t e woken ok (IsPassed entry other so idle) takes long most =
    cond-false _ _ _ (ap not (entry_test (common_of ws s o) e entry)) ∙ cond-false _ _ _ (ne_eqb _ _ other)
    ∙ cond-false _ _ _ so
    ∙ (λ i. record {
      common = sym (idle_is ws ws' s s' o (e + 1) woken idle takes long most) i;
      next = ClearId;
      event = event_of name.Pending e (sym idle.nobody i) [];
    })
at_pending rule ws ws' s s' o t e woken ok (IsOwned entry gone) takes long most =
    let m = marks ws ws' s s' o t (e + 1) woken ok gone takes long most entry.1 in
    cond-false _ _ _ (ap not (entry_test (common_of ws s o) e entry)) ∙ cond-true _ _ _ (eq-eqb _ _ gone.owned)
    ∙ (λ i. record { common = m.common i; next = ClearId; event = event_of name.Pending e (m.woke i) [] })

-- the value that an event of an exit has
abbrev pub value_of : ℕ → ExitPhase → List ℕ → List ℕ → ℕ
value_of t LastWake ws woken = length woken
value_of t phase ws woken = value_at t phase ws

pub left_is : (rule : ExitRule) (ws ws' : List ℕ) (s s' : Sleepers) (o : List ℤ) (t : ℕ) (phase next : ExitPhase) (woken : List ℕ)
    → Agree (queue s) (place_of s) → process_word t 5 < length ws
    → ExitStep rule (length ws) t phase (shared_view ws s) woken (shared_view ws' s') next
    → TakesFront s s' (wake_word t phase (word_of ws)) woken → length ws' ≡ length ws
    → thread_count s' ≡ thread_count s → leave rule t phase (common_of ws s o) ≡ left ws' s' o phase next (value_of t phase ws woken) woken
left_is rule ws ws' s s' o t (Entry e seen) next woken ok block (inl r) takes long most =
    at_entry ws ws' s s' o t e.0 seen next woken ok r.1 takes long most r.0 r.2
left_is rule ws ws' s s' o t (Entry e seen) next woken ok block (inr r) takes long most =
    cond-true _ _ _ (ap not (false_from_ne_true _ (λ h. r.0 (entry_so (common_of ws s o) e.0 h))))
    ∙ (λ i. record {
      common = sym (idle_is ws ws' s s' o (e.0 + 1) woken r.1 takes long most) i;
      next =
          sym r.2 i;
      event = event_of name.Entry e.0 (sym r.1.nobody i) [];
    })
left_is rule ws ws' s s' o t Pending next woken ok block r takes long most =
    at_pending rule ws ws' s s' o t (word_of ws (process_word t 1)) woken ok r.0 takes long most
    ∙ (λ i. left ws' s' o Pending (sym r.1 i) (word_of ws (process_word t 1)) woken)
left_is rule ws ws' s s' o t ClearId next woken ok block r takes long most =
    let words : ws' ≡ slice_set ws (process_word t 2) 0 =
    set_is ws ws' (process_word t 2) 0 long (omega (arith, block)) (ap (λ (x : Shared). x.word) r.1) in
    let queues : queue s' ≡ queue s = stays_list s s' (process_word t 2) woken takes r.0 in
    let places : place_of s' ≡ place_of s = ap (λ (x : Shared). x.asleep) r.1 in
    λ i. record {
      common = record { most = sym most i; words = sym words i; queue = sym queues i; asleep = sym places i; output = o };
      next = sym r.2 i;
      event = event_of name.Clear 0 (sym r.0 i) [];
    }
left_is rule ws ws' s s' o t LastWake next woken ok block r takes long most =
    let m = one_woken ws ws' s s' o (process_word t 2) woken ok r.0 takes long most in
    λ i. record {
      common = m.common i;
      next = sym r.1 i;
      event =
          event_of name.Last (length (m.woke i)) (m.woke i) [];
    }
left_is rule ws ws' s s' o t Ended next woken ok block r takes long most = absurd r

-- those woken are threads
pub left_threads : (s s' : Sleepers) (a : ℕ) (woken : List ℕ) → Agree (queue s) (place_of s)
    → ((u b : ℕ) → place_of s u ≡ Some b → IsThread u) → TakesFront s s' a woken → All IsThread woken
left_threads s s' a woken ok known takes = λ k d l.
    let t : ℕ = get_or woken k d in
    let named : names (take (length woken) (queue s a)) t ≡ true = ap (λ xs. names xs t) (sym takes.front)
    ∙ names-get_or woken k d l in
    known t a (ok.sleeps t a (names-take (length woken) t (queue s a) named))
