-- What the machine does for a request of a thread's point, as the protocol's words serve it: request by request.
use Rattle.std.proofs.Common.{◌≡◌, ◌≢◌, ℕ, suc, ◌+◌, ◌%◌, ◌<◌, ◌≤◌, ◌==◌, true, List, [], length, Option, Some, None}
use Rattle.std.proofs.Common.{inl, inr, refl, sym, ap, ◌∙◌, subst, arith}
use Rattle.std.specs.Int.Bits.{bit_or}
use Rattle.std.proofs.lemmas.Bool.{cases_eq, eq-eqb, ne_eqb, cond-true, cond-false}
use Rattle.words.specs.Outcomes.{cause_number}
use Rattle.words.specs.Updates.{put}
use Rattle.words.specs.Versions.{most_of}
use Rattle.buckets.specs.Places.{with_place}
use Rattle.futexcalls.specs.FutexCalls.{IsChoice, Requeues}
use Rattle.locals.specs.Looks as M
use Rattle.program.specs.declared.kinds.Member.{Member}
use Rattle.program.specs.Trees.{Program}
use Rattle.meaning.specs.Labels.{Cause}
use Rattle.meaning.specs.Table.{Table}
use Rattle.machine.specs.States.{State, with_word, with_sleepers}
use Rattle.machine.specs.AbstractServing.{shared_of}
use Rattle.machine.specs.AbstractServing as A
use Rattle.lowering.specs.Conditions.{everyone}
use Rattle.protocol.specs.Word.{with_waiters}
use Rattle.protocol.specs.Points.{Spot, OnLock, OnSequence, OnId, Release, ToExit, ToWait, Point, EnterPends}
use Rattle.protocol.specs.Points.{EnterTries, ReenterPends, ReenterTries, TakeMarks, TakeTries, GotLinks, GotHeads}
use Rattle.protocol.specs.Points.{GotUnpends, NotifyAdds, BroadcastAdds, BroadcastMarks, LeavePends, LeaveHeads}
use Rattle.protocol.specs.Points.{LeaveSwaps, HasLeft, BroadcastMoves}
use Rattle.protocol.specs.World.{World, put_sequence, awake_after, requeued_sleep}
use Rattle.protocol.specs.Cells.{Cell, LockOf, LinkOf, HeadOf, PendingOf, IdOf, ClaimOf, ResultOf, OutcomeOf}
use Rattle.protocol.specs.Cells.{SequenceOf, cell, write, cell_of}
use Rattle.protocol.specs.Memory.{stored_value}
use Rattle.protocol.specs.Exits.{Shares, sleep_address}
use Rattle.protocol.specs.Requests.{Request, AskNothing, AskLoad, AskStore, AskSwap, AskCompareSwap, AskOrWaiters}
use Rattle.protocol.specs.Requests.{AskAddOne, AskAdd, AskWait, AskWakeOne, AskRequeue, AskFault, AskExitStep, request}
use Rattle.protocol.specs.Answers.{Serves, WakesOne}
use Rattle.protocol.proofs.Calls.{calls_follow}
use Rattle.protocol.proofs.Exits.{distinct, names-mem, none_woken, spot_at}
use Rattle.protocol.proofs.Good.{Good}
use Rattle.protocol.proofs.Rest.{matches}
use Rattle.protocol.proofs.Waits.{FreshAt}
use Rattle.words.proofs.Updates.{put_other}
use Rattle.protocol.proofs.Sleeps.{cases_member, sequence_same, sequence_other}
use Rattle.protocol.proofs.Stores.{stores_follow}
use Rattle.proof_thread.specs.Variables.{variable_address}
use Rattle.proof_templates.specs.Layout.{place, valid}
use Rattle.proof_templates.specs.Asking.{machine_request, machine_answer}
use Rattle.proof_templates.proofs.Layouts.{apart, number_is}
use Rattle.proof_templates.proofs.Addresses.{variable_apart}
use Rattle.proof_simulation.specs.Serving.{IsAskable, Keeps, IsServed}
use Rattle.proof_pieces.specs.WholeCalls.{ServesWhole}
use Rattle.proof_simulation.proofs.Pigeons.{short}
use Rattle.protocol.specs.Rules.{ReleaseRule, ClearsWord, KeepsWaiters, TidiesWaiters, DropsOwner, release_of}
use Rattle.protocol.specs.Requests.{given_up}

-- what is served for a request, whatever point asks it
pub record IsAnswered (p : Program) (s mid : State) (w : World) (t : ℕ) (pt : Point) (r : Request)
    (answer : ℕ) : Type 0 where
  pub reply : ℕ
  pub after : World
  pub serves : Serves w t pt r reply after
  pub told : answer ≡ machine_answer p r reply
  pub shares : Shares (place p) (valid p) (shared_of mid) after
  pub keeps : Keeps p s mid
  pub made : after.made ≡ w.made
  pub at : after.at ≡ w.at
  pub result : after.result ≡ w.result
  pub numbers : (c : Member) → after.sequence c ≤ suc (w.sequence c)

-- requests that points make: entries and words of locks and conditions, each in its own way
abbrev pub IsStored : Cell → Type 0
IsStored (LinkOf m) = Unit {0}
IsStored (HeadOf t) = Unit {0}
IsStored (PendingOf t) = Unit {0}
IsStored a = ⊥

abbrev pub IsLock : Cell → Type 0
IsLock (LockOf m) = Unit {0}
IsLock a = ⊥

abbrev pub IsSequence : Cell → Type 0
IsSequence (SequenceOf c) = Unit {0}
IsSequence a = ⊥

abbrev pub IsUsual : Request → Type 0
IsUsual (AskStore a v) = IsStored a
IsUsual (AskSwap a v) = IsLock a
IsUsual (AskCompareSwap a x v) = IsLock a
IsUsual (AskOrWaiters a) = IsLock a
IsUsual (AskAddOne a) = IsSequence a
IsUsual (AskAdd a v) = IsLock a
IsUsual r = Unit {0}

-- a word that is written is no result, and a sequence number grows by one at most
abbrev pub IsWritten : World → Cell → ℕ → Type 0
IsWritten w (ResultOf t) v = ⊥
IsWritten w (SequenceOf c) v = v ≤ suc (w.sequence c)
IsWritten w a v = Unit {0}

write_made : (w : World) (a : Cell) (v : ℕ) → (write w a v).made ≡ w.made
write_made w (LockOf m) v = refl
write_made w (LinkOf m) v = refl
write_made w (HeadOf t) v = refl
write_made w (PendingOf t) v = refl
write_made w (IdOf t) v = refl
write_made w (ClaimOf t) v = refl
write_made w (ResultOf t) v = refl
write_made w (OutcomeOf t) v = refl
write_made w (SequenceOf c) v = refl

write_at : (w : World) (a : Cell) (v : ℕ) → (write w a v).at ≡ w.at
write_at w (LockOf m) v = refl
write_at w (LinkOf m) v = refl
write_at w (HeadOf t) v = refl
write_at w (PendingOf t) v = refl
write_at w (IdOf t) v = refl
write_at w (ClaimOf t) v = refl
write_at w (ResultOf t) v = refl
write_at w (OutcomeOf t) v = refl
write_at w (SequenceOf c) v = refl

write_asleep : (w : World) (a : Cell) (v : ℕ) → (write w a v).asleep ≡ w.asleep
write_asleep w (LockOf m) v = refl
write_asleep w (LinkOf m) v = refl
write_asleep w (HeadOf t) v = refl
write_asleep w (PendingOf t) v = refl
write_asleep w (IdOf t) v = refl
write_asleep w (ClaimOf t) v = refl
write_asleep w (ResultOf t) v = refl
write_asleep w (OutcomeOf t) v = refl
write_asleep w (SequenceOf c) v = refl

write_result : (w : World) (a : Cell) (v : ℕ) → IsWritten w a v → (write w a v).result ≡ w.result
write_result w (LockOf m) v h = refl
write_result w (LinkOf m) v h = refl
write_result w (HeadOf t) v h = refl
write_result w (PendingOf t) v h = refl
write_result w (IdOf t) v h = refl
write_result w (ClaimOf t) v h = refl
write_result w (ResultOf t) v h = absurd h
write_result w (OutcomeOf t) v h = refl
write_result w (SequenceOf c) v h = refl

write_numbers : (w : World) (a : Cell) (v : ℕ) → IsWritten w a v → (d : Member)
    → (write w a v).sequence d ≤ suc (w.sequence d)
write_numbers w (LockOf m) v h d = omega arith
write_numbers w (LinkOf m) v h d = omega arith
write_numbers w (HeadOf t) v h d = omega arith
write_numbers w (PendingOf t) v h d = omega arith
write_numbers w (IdOf t) v h d = omega arith
write_numbers w (ClaimOf t) v h d = omega arith
write_numbers w (ResultOf t) v h d = omega arith
write_numbers w (OutcomeOf t) v h d = omega arith
write_numbers w (SequenceOf c) v h d = elim (cases_member d c) [
  | inl q ↦ subst (λ (e : Member). put_sequence w.sequence c v e ≤ suc (w.sequence e)) (sym q)
      (let same = sequence_same w.sequence c v in omega (arith, same, h))
  | inr o ↦ let same = sequence_other w.sequence c v d o in omega (arith, same)
]

-- a store, with the sleepers as they are
shares_stored : (p : Program) (s : State) (w : World) (a : Cell) (v : ℕ) → valid p a ≡ true
    → Shares (place p) (valid p) (shared_of s) w
    → Shares (place p) (valid p) (shared_of (with_word s (place p a) (stored_value (place p) a v))) (write w a v)
shares_stored p s w a v ok h = record {
  words = stores_follow (place p) (valid p) s.word w a v (apart p) ok h.words;
  sleeps = λ u. h.sleeps u ∙ ap (λ (f : ℕ → Option Spot). sleep_address (place p) (f u)) (sym (write_asleep w a v));
  spots = λ u x e. h.spots u x (ap (λ (f : ℕ → Option Spot). f u) (sym (write_asleep w a v)) ∙ e);
}

small_sum : (x : ℕ) → x + 1 < 4294967296 → (x + 1) % 4294967296 ≡ x + 1
small_sum x h = omega (arith, h)

module _ (p : Program) (s : State) (w : World) (t : ℕ) (pt : Point)
    (shares : Shares (place p) (valid p) (shared_of s) w) where
  -- no word changes
  still : (mid : State) (r : Request) (answer reply : ℕ) → mid ≡ s → Serves w t pt r reply w
      → answer ≡ machine_answer p r reply
      → IsAnswered p s mid w t pt r answer
  still mid r answer reply e h same = subst (λ (m : State). IsAnswered p s m w t pt r answer) (sym e) (record {
    reply = reply;
    after = w;
    serves = h;
    told = same;
    shares = shares;
    keeps = record { size = refl; most = refl; made = refl; output = refl; thread = refl; variables = λ m i g. refl };
    made = refl;
    at = refl;
    result = refl;
    numbers = λ c. omega arith;
  })

  -- one word changes
  stored : (mid : State) (r : Request) (answer reply : ℕ) (a : Cell) (v : ℕ) → valid p a ≡ true → IsWritten w a v
      → mid ≡ with_word s (place p a) (stored_value (place p) a v) → Serves w t pt r reply (write w a v)
      → answer ≡ machine_answer p r reply → IsAnswered p s mid w t pt r answer
  stored mid r answer reply a v ok fits e h same =
      subst (λ (m : State). IsAnswered p s m w t pt r answer) (sym e) (record {
        reply = reply;
        after = write w a v;
        serves = h;
        told = same;
        shares = shares_stored p s w a v ok shares;
        keeps = record {
          size = refl;
          most = refl;
          made = refl;
          output = refl;
          thread = refl;
          variables = λ m i g. put_other s.word (place p a) (stored_value (place p) a v) (variable_address p m i)
              (λ q. variable_apart p m i a g ok q);
        };
        made = write_made w a v;
        at = write_at w a v;
        result = write_result w a v fits;
        numbers = λ c. write_numbers w a v fits c;
      })

  -- sleepers change
  slept : (mid : State) (r : Request) (answer reply : ℕ) (after : ℕ → Option ℕ) (asleep : ℕ → Option Spot)
      → mid ≡ with_sleepers s after
      → Shares (place p) (valid p) (shared_of (with_sleepers s after)) (record w { asleep = asleep })
      → Serves w t pt r reply (record w { asleep = asleep }) → answer ≡ machine_answer p r reply
      → IsAnswered p s mid w t pt r answer
  slept mid r answer reply after asleep e sh h same =
      subst (λ (m : State). IsAnswered p s m w t pt r answer) (sym e) (record {
        reply = reply;
        after = record w { asleep = asleep };
        serves = h;
        told = same;
        shares = sh;
        keeps =
            record { size = refl; most = refl; made = refl; output = refl; thread = refl; variables = λ m i g. refl };
        made = refl;
        at = refl;
        result = refl;
        numbers = λ c. omega arith;
      })

  module _ (woken : List ℕ) (answer : ℕ) (mid : State) where
    loads : (a : Cell) → valid p a ≡ true → A.Serves t (M.AskLoad (place p a)) s woken answer mid
        → IsAnswered p s mid w t pt (AskLoad a) answer
    loads a ok h =
        still mid (AskLoad a) answer (cell w a) h.1.1.1 (refl, refl) (h.1.1.0 ∙ shares.words.word a ok)

    stores : (a : Cell) (v : ℕ) → valid p a ≡ true → IsStored a
        → A.Serves t (M.AskStore (place p a) (stored_value (place p) a v)) s woken answer mid
        → IsAnswered p s mid w t pt (AskStore a v) answer
    stores (LinkOf m) v ok fits h =
        stored mid (AskStore (LinkOf m) v) answer answer (LinkOf m) v ok tt h.1.1.1 refl refl
    stores (HeadOf u) v ok fits h =
        stored mid (AskStore (HeadOf u) v) answer answer (HeadOf u) v ok tt h.1.1.1 refl refl
    stores (PendingOf u) v ok fits h =
        stored mid (AskStore (PendingOf u) v) answer answer (PendingOf u) v ok tt h.1.1.1 refl refl
    stores a v ok fits h = absurd fits

    swaps : (a : Cell) (v : ℕ) → valid p a ≡ true → IsLock a
        → A.Serves t (M.AskSwap (place p a) (stored_value (place p) a v)) s woken answer mid
        → IsAnswered p s mid w t pt (AskSwap a v) answer
    swaps (LockOf m) v ok fits h =
        stored mid (AskSwap (LockOf m) v) answer (w.lock m) (LockOf m) v ok tt h.1.1.1 (refl, refl)
        (h.1.1.0 ∙ shares.words.word (LockOf m) ok)
    swaps a v ok fits h = absurd fits

    compares : (a : Cell) (x v : ℕ) → valid p a ≡ true → IsLock a
        → A.Serves t (M.AskCompareSwap (place p a) x v) s woken answer mid
        → IsAnswered p s mid w t pt (AskCompareSwap a x v) answer
    compares (LockOf m) x v ok fits h = elim (cases_eq (w.lock m) x) [
      | inl e ↦
          stored mid (AskCompareSwap (LockOf m) x v) answer (w.lock m) (LockOf m) v ok tt
          (h.1.1.1 ∙ cond-true (s.word (place p (LockOf m)) == x) _ _
          (eq-eqb (s.word (place p (LockOf m))) x (word ∙ e)))
          (refl, inl (e, refl)) (h.1.1.0 ∙ word)
      | inr o ↦
          still mid (AskCompareSwap (LockOf m) x v) answer (w.lock m)
          (h.1.1.1 ∙ cond-false (s.word (place p (LockOf m)) == x) _ _
          (ne_eqb (s.word (place p (LockOf m))) x (λ q. o (sym word ∙ q))))
          (refl, inr (o, refl)) (h.1.1.0 ∙ word)
    ]
      where
        word : s.word (place p (LockOf m)) ≡ w.lock m
        word = shares.words.word (LockOf m) ok
    compares a x v ok fits h = absurd fits

    marks : (a : Cell) → valid p a ≡ true → IsLock a
        → A.Serves t (M.AskOr (place p a) 2147483648) s woken answer mid
        → IsAnswered p s mid w t pt (AskOrWaiters a) answer
    unfolding with_waiters
    marks (LockOf m) ok fits h =
        let word : s.word (place p (LockOf m)) ≡ w.lock m = shares.words.word (LockOf m) ok in
        stored mid (AskOrWaiters (LockOf m)) answer (w.lock m) (LockOf m) (with_waiters (w.lock m)) ok tt
        (h.1.1.1 ∙ ap (λ v. with_word s (place p (LockOf m)) (bit_or v 2147483648)) word) (refl, refl) (h.1.1.0 ∙ word)
    marks a ok fits h = absurd fits

    adds : ((c : Member) → w.sequence c + 1 < 4294967296) → (a : Cell) → valid p a ≡ true → IsSequence a
        → A.Serves t (M.AskAdd (place p a) 1) s woken answer mid → IsAnswered p s mid w t pt (AskAddOne a) answer
    adds low (SequenceOf c) ok fits h =
        let word : s.word (place p (SequenceOf c)) ≡ w.sequence c = shares.words.word (SequenceOf c) ok in
        stored mid (AskAddOne (SequenceOf c)) answer (w.sequence c) (SequenceOf c) (w.sequence c + 1) ok
        (omega arith)
        (h.1.1.1 ∙ ap (λ v. with_word s (place p (SequenceOf c)) ((v + 1) % 4294967296)) word
        ∙ ap (λ v. with_word s (place p (SequenceOf c)) v) (small_sum (w.sequence c) (low c))) (refl, refl)
        (h.1.1.0 ∙ word)
    adds low a ok fits h = absurd fits

    added : (a : Cell) (v : ℕ) → valid p a ≡ true → IsLock a
        → A.Serves t (M.AskAdd (place p a) v) s woken answer mid → IsAnswered p s mid w t pt (AskAdd a v) answer
    added (LockOf m) v ok fits h =
        let word : s.word (place p (LockOf m)) ≡ w.lock m = shares.words.word (LockOf m) ok in
        stored mid (AskAdd (LockOf m) v) answer (w.lock m) (LockOf m) ((w.lock m + v) % 4294967296) ok tt
        (h.1.1.1 ∙ ap (λ x. with_word s (place p (LockOf m)) ((x + v) % 4294967296)) word) (refl, refl)
        (h.1.1.0 ∙ word)
    added a v ok fits h = absurd fits

    waits : (x : Spot) (v : ℕ) → valid p (cell_of x) ≡ true
        → A.Serves t (M.AskWait (place p (cell_of x)) v) s woken answer mid
        → IsAnswered p s mid w t pt (AskWait x v) answer
    waits x v ok h = elim h.1.1 [
      | inl g ↦
          let k = (calls_follow (place p) (valid p) (apart p)).waits (shared_of s) w t v x g.0 shares ok g.1 in
          slept mid (AskWait x v) answer answer g.0 (put w.asleep t (Some x)) g.3 k.1 (inl (k.0, refl)) refl
      | inr g ↦
          still mid (AskWait x v) answer answer g.2
          (inr ((λ q. g.0 (shares.words.word (cell_of x) ok ∙ plain x (cell w (cell_of x)) ∙ q)), refl)) refl
    ]
      where
        plain : (x : Spot) (v : ℕ) → stored_value (place p) (cell_of x) v ≡ v
        plain (OnLock m) v = refl
        plain (OnSequence c) v = refl
        plain (OnId q) v = refl

    wakes : (x : Spot) → valid p (cell_of x) ≡ true
        → A.Serves t (M.AskWake (place p (cell_of x)) 1) s woken answer mid
        → IsAnswered p s mid w t pt (AskWakeOne x) answer
    wakes x ok h =
        let k = (calls_follow (place p) (valid p) (apart p)).wakes (shared_of s) w x woken h.1 shares ok h.2 in
        let one : WakesOne w x k.0 = k.1 in
        slept mid (AskWakeOne x) answer answer h.1 (awake_after w.asleep one.woken) h.4
        (subst (λ (y : World). Shares (place p) (valid p) (shared_of (with_sleepers s h.1)) y) one.awake k.2)
        (record { woken = one.woken; wake = one.wake; awake = refl }) refl

    -- sleepers are processes, and so there are few of them
    requeues : ((u : ℕ) (c : Member) → w.asleep u ≡ Some (OnSequence c) → u ≤ 1000) → (c : Member) (v : ℕ)
        → valid p (SequenceOf c) ≡ true → valid p (LockOf c.monitor) ≡ true
        → A.Serves t (M.AskRequeue (place p (SequenceOf c)) (place p (LockOf c.monitor)) 0 everyone v) s woken
        answer mid
        → IsAnswered p s mid w t pt (AskRequeue c v) answer
    requeues few c v ok okl h = elim h.2 [
      | inl g ↦
          let k = (calls_follow (place p) (valid p) (apart p)).requeues (shared_of s) w c everyone v woken g.0 g.1
          shares ok okl (few_moved g.0 g.1 g.2) g.2 in
          slept mid (AskRequeue c v) answer answer g.1 (requeued_sleep w.asleep c) g.4 k.1 (inl (k.0, refl)) refl
      | inr g ↦
          still mid (AskRequeue c v) answer answer g.3
          (inr ((λ q. g.0 (shares.words.word (SequenceOf c) ok ∙ q)), refl)) refl
    ]
      where
        differ : place p (SequenceOf c) ≢ place p (LockOf c.monitor)
        differ = λ q. let z = apart p (SequenceOf c) (LockOf c.monitor) ok okl q in cc

        few_moved : (moved : List ℕ) (after : ℕ → Option ℕ)
            → Requeues s.word s.asleep (place p (SequenceOf c)) (place p (LockOf c.monitor)) 0 everyone v woken moved
            after
            → length moved < everyone
        few_moved moved after g =
            let nobody : woken ≡ [] = none_woken woken g.wakes.choice.few in
            let choice : IsChoice s.asleep (place p (SequenceOf c)) everyone moved =
            subst (λ us. IsChoice (with_place s.asleep us None) (place p (SequenceOf c)) everyone moved) nobody
            (g.moves.choice differ) in
            let less = short 1001 moved (distinct moved choice.distinct) (λ u e.
            let spot = spot_at (place p) (valid p) (OnSequence c) (w.asleep u) (apart p) ok
            (λ y z. shares.spots u y z)
            (sym (shares.sleeps u) ∙ choice.slept u (names-mem moved u ∙ e)) in
            let small = few u c spot in
            omega (arith, small)) in
            omega (arith, less)

    -- a requeue that moves whatever the word says: the number is still the word's
    requeues_fresh : ((u : ℕ) (c : Member) → w.asleep u ≡ Some (OnSequence c) → u ≤ 1000) → (c : Member) (v : ℕ)
        → valid p (SequenceOf c) ≡ true → valid p (LockOf c.monitor) ≡ true → v ≡ w.sequence c
        → ServesWhole t (M.AskRequeue (place p (SequenceOf c)) (place p (LockOf c.monitor)) 0 everyone v) s woken
        answer mid
        → IsAnswered p s mid w t pt (AskRequeue c v) answer
    requeues_fresh few c v ok okl fresh h = requeues few c v ok okl (
      h.0,
      h.1,
      elim h.2 [
        | inl g ↦ inl (
          g.0,
          g.1,
          record {
            equal = shares.words.word (SequenceOf c) ok ∙ sym fresh;
            wakes = g.2.wakes;
            moves = g.2.moves;
          },
          g.3,
          g.4,
        )
        | inr g ↦ inr g
      ],
    )

    faults : (cause : Cause) → 0 < t → t ≤ most_of p.version
        → A.Serves t (M.AskFault cause) s woken answer mid → IsAnswered p s mid w t pt (AskFault cause) answer
    faults cause some few h =
        let ok = number_is p t some few in
        stored mid (AskFault cause) answer (w.head t) (OutcomeOf t) (cause_number cause) ok tt
        h.1.1 (refl, refl)
        (h.1.0 ∙ shares.words.word (HeadOf t) ok)

-- points make usual requests
usual_leave : (u : ReleaseRule) (t m : ℕ) (k : Release) → IsUsual (request u t (HasLeft m k))
usual_leave u t m ToExit = tt
usual_leave u t m (ToWait c s) = tt

usual_swap : (u : ReleaseRule) (t m : ℕ) → IsUsual (given_up u t m)
usual_swap ClearsWord t m = tt
usual_swap KeepsWaiters t m = tt
usual_swap TidiesWaiters t m = tt
usual_swap DropsOwner t m = tt

usual : (u : ReleaseRule) (t : ℕ) (pt : Point) → IsUsual (request u t pt)
usual u t (EnterPends m) = tt
usual u t (EnterTries m) = tt
usual u t (ReenterPends m) = tt
usual u t (ReenterTries m) = tt
usual u t (TakeMarks m v k) = tt
usual u t (TakeTries m v k) = tt
usual u t (GotLinks m v h) = tt
usual u t (GotHeads m v) = tt
usual u t (GotUnpends m v) = tt
usual u t (NotifyAdds c) = tt
usual u t (BroadcastAdds c) = tt
usual u t (BroadcastMarks c) = tt
usual u t (LeavePends m r) = tt
usual u t (LeaveHeads m h r) = tt
usual u t (LeaveSwaps m r) = usual_swap u t m
usual u t (HasLeft m r) = usual_leave u t m r
usual u t pt = tt

-- the number of a requeue is still the word's
abbrev pub IsFresh : World → Request → Type 0
IsFresh w (AskRequeue c v) = v ≡ w.sequence c
IsFresh w r = Unit {0}

fresh_leave : (u : ReleaseRule) (w : World) (t m : ℕ) (k : Release) → IsFresh w (request u t (HasLeft m k))
fresh_leave u w t m ToExit = tt
fresh_leave u w t m (ToWait c s) = tt

fresh_swap : (u : ReleaseRule) (w : World) (t m : ℕ) → IsFresh w (given_up u t m)
fresh_swap ClearsWord w t m = tt
fresh_swap KeepsWaiters w t m = tt
fresh_swap TidiesWaiters w t m = tt
fresh_swap DropsOwner w t m = tt

fresh_request : (u : ReleaseRule) (w : World) (t : ℕ) (pt : Point) → FreshAt w.sequence pt
    → IsFresh w (request u t pt)
fresh_request u w t (BroadcastMoves c s) h = h
fresh_request u w t (LeaveSwaps m r) h = fresh_swap u w t m
fresh_request u w t (HasLeft m r) h = fresh_leave u w t m r
fresh_request u w t pt h = tt

-- what a thread at a point knows of the number there
pub fresh_at : (w : World) (T : Table) → Good w T → (t : ℕ) (pt : Point) → (w.at t).point ≡ pt → FreshAt w.sequence pt
fresh_at w T good t pt point = subst (FreshAt w.sequence) point (good.fresh.fresh t)

-- what the machine answers to a usual request, by the request alone
answered : (p : Program) (s : State) (w : World) (t : ℕ) (pt : Point) (r : Request) (asks : M.Request) (woken : List ℕ)
    (answer : ℕ) (mid : State) → Shares (place p) (valid p) (shared_of s) w → 0 < t
    → t ≤ most_of p.version → ((c : Member) → w.sequence c + 1 < 4294967296)
    → ((u : ℕ) (c : Member) → w.asleep u ≡ Some (OnSequence c) → u ≤ 1000)
    → IsFresh w r → IsUsual r → IsAskable p r → machine_request p r ≡ Some asks → ServesWhole t asks s woken answer mid
    → IsAnswered p s mid w t pt r answer
answered p s w t pt r asks woken answer mid shares some few low sleepers = by_request r
  where
    same : (x : M.Request) → Some x ≡ Some asks → ServesWhole t asks s woken answer mid
        → ServesWhole t x s woken answer mid
    same x e h = let q : x ≡ asks = cc in subst (λ (y : M.Request). ServesWhole t y s woken answer mid) (sym q) h

    by_request : (r : Request) → IsFresh w r → IsUsual r → IsAskable p r → machine_request p r ≡ Some asks
        → ServesWhole t asks s woken answer mid
        → IsAnswered p s mid w t pt r answer
    by_request AskNothing fresh usual ok e h = absurd ok
    by_request (AskLoad a) fresh usual ok e h =
        loads p s w t pt shares woken answer mid a ok (same (M.AskLoad (place p a)) e h)
    by_request (AskStore a v) fresh usual ok e h =
        stores p s w t pt shares woken answer mid a v ok usual
        (same (M.AskStore (place p a) (stored_value (place p) a v)) e h)
    by_request (AskSwap a v) fresh usual ok e h =
        swaps p s w t pt shares woken answer mid a v ok usual
        (same (M.AskSwap (place p a) (stored_value (place p) a v)) e h)
    by_request (AskCompareSwap a x v) fresh usual ok e h =
        compares p s w t pt shares woken answer mid a x v ok usual (same (M.AskCompareSwap (place p a) x v) e h)
    by_request (AskOrWaiters a) fresh usual ok e h =
        marks p s w t pt shares woken answer mid a ok usual (same (M.AskOr (place p a) 2147483648) e h)
    by_request (AskAddOne a) fresh usual ok e h =
        adds p s w t pt shares woken answer mid low a ok usual (same (M.AskAdd (place p a) 1) e h)
    by_request (AskAdd a v) fresh usual ok e h =
        added p s w t pt shares woken answer mid a v ok usual (same (M.AskAdd (place p a) v) e h)
    by_request (AskWait x v) fresh usual ok e h =
        waits p s w t pt shares woken answer mid x v ok (same (M.AskWait (place p (cell_of x)) v) e h)
    by_request (AskWakeOne x) fresh usual ok e h =
        wakes p s w t pt shares woken answer mid x ok (same (M.AskWake (place p (cell_of x)) 1) e h)
    by_request (AskRequeue c v) fresh usual ok e h =
        requeues_fresh p s w t pt shares woken answer mid sleepers c v ok.0 ok.1 fresh
        (same (M.AskRequeue (place p (SequenceOf c)) (place p (LockOf c.monitor)) 0 everyone v) e h)
    by_request (AskFault cause) fresh usual ok e h =
        faults p s w t pt shares woken answer mid cause some few (same (M.AskFault cause) e h)
    by_request AskExitStep fresh usual ok e h = absurd cc

-- who sleeps on a condition is a process
sleeper_few : (w : World) (T : Table) → Good w T → (u : ℕ) (c : Member) → w.asleep u ≡ Some (OnSequence c)
    → u ≤ 1000
sleeper_few w T good u c e =
    let m = matches w T good in
    let number = m.waiter u c (m.sleeper u c e) in
    let few = good.threads.few in
    let bound = good.threads.bound in
    omega (arith, number.1, few, bound)

-- and so to the request of a thread's point
pub served : (p : Program) (s : State) (w : World) (T : Table) (t : ℕ) (pt : Point) (asks : M.Request) (woken : List ℕ)
    (answer : ℕ) (mid : State) → Shares (place p) (valid p) (shared_of s) w → Good w T → 0 < t
    → t ≤ most_of p.version → ((c : Member) → w.sequence c + 1 < 4294967296) → FreshAt w.sequence pt
    → IsAskable p (request (release_of p.version) t pt)
    → machine_request p (request (release_of p.version) t pt) ≡ Some asks
    → ServesWhole t asks s woken answer mid → IsServed p s mid w t pt answer
served p s w T t pt asks woken answer mid shares good some few low fresh ok e h =
    let a = answered p s w t pt (request (release_of p.version) t pt) asks woken answer mid shares some few low
    (λ u c z. sleeper_few w T good u c z) (fresh_request (release_of p.version) w t pt fresh) (usual (release_of
    p.version) t pt) ok e h in
    record {
      reply = a.reply;
      after = a.after;
      serves = a.serves;
      told = a.told;
      shares = a.shares;
      keeps = a.keeps;
      made = a.made;
      at = a.at;
      result = a.result;
      numbers = a.numbers;
    }
