-- A step of an exit by the front is a step of the exit.
use Rattle.std.proofs.Common.{◌≡◌, ◌≢◌, ℕ, ◌+◌, ◌<◌, Bool, true, false, ◌&&◌, ◌||◌, not, cond, eqb, ltb, List, []}
use Rattle.std.proofs.Common.{length, Option, refl, sym, arith, inl, inr}
use Rattle.std.specs.Prelude.{slice_index}
use Rattle.std.specs.List.{IsDistinct}
use Rattle.std.proofs.lemmas.Bool.{both_ways, eq-eqb, eqb-true, ne_eqb, ltb-true, lt-ltb, or_cases, or_parts}
use Rattle.words.specs.LockWord.{lock_word, owner_of, waiters_of}
use Rattle.words.specs.Process.{process_word}
use Rattle.isa.specs.Programs.{Program}
use Rattle.futexcalls.specs.FutexCalls.{IsChoice}
use Rattle.robustexit.specs.declared.phase.ExitPhase.{ExitPhase}
use Rattle.robustexit.specs.declared.phase.ExitPhase.TheVariants.{Entry, Pending, ClearId, LastWake, Ended}
use Rattle.robustexit.specs.Phases.{next_entry}
use Rattle.robustexit.specs.RobustExit.{IsEntry, Abandons, ExitStep, IsPending, IsForeign, IsPassed, IsOwned, NoEntry, put}
use Rattle.machine.specs.ThreadSets.{set_of}
use Rattle.machine.specs.States.{Common, ConcreteState, state_of}
use Rattle.machine.specs.AbstractServing.{shared_of}
use Rattle.machine.specs.ConcreteServing.{load, set_word, front, wake_front, plain, event_of}
use Rattle.machine.specs.ConcreteExits.{Left, leave, is_entry, abandon, abandon_wakes}
use Rattle.machine.specs.declared.event.EventName.TheVariants as name
use Rattle.machine.specs.Views.{IsWellFormed}
use Rattle.machine.proofs.Placing.{words_put}
use Rattle.futexcalls.proofs.Choices.{choice-front}
use Rattle.machine.proofs.Keeping.{Holds, holds-concrete, holds-set, holds-woke}
use Rattle.machine.proofs.Landing.{HasPlace}
use Rattle.robustexit.specs.declared.rule.ExitRule.{ExitRule}
use Rattle.robustexit.specs.ExitRules.{wakes}

-- what a step of an exit leaves
pub record Leaving (rule : ExitRule) (p : Program) (k : ConcreteState) (t : ℕ) (phase : ExitPhase) (l : Left) : Type 0 where
  pub woken : List ℕ
  pub set : l.event.woken ≡ set_of woken
  pub word : ℕ → ℕ
  pub words : (b : ℕ) → slice_index l.common.words b ≡ word b
  pub holds : Holds p (length k.threads) l.common
  pub output : l.common.output ≡ k.common.output
  pub step : ExitStep rule (length k.common.words) t phase (shared_of (state_of k)) woken
      (record { word = word; asleep = l.common.asleep }) l.next

both : (a b : Bool) → (a && b) ≡ true → (a ≡ true) × (b ≡ true)
both true b h = (refl, h)
both false b h = absurd cc

not_so : (b : Bool) → not b ≡ true → b ≡ false
not_so true h = absurd cc
not_so false h = refl

pub entry_so : (c : Common) (e : ℕ) → is_entry c e ≡ true → IsEntry (length c.words) e
entry_so c e h =
    let r = both (not (eqb e 0) && ltb (e + 1) (length c.words)) (ltb (e + 1) 4294967296) h in
    let q = both (not (eqb e 0)) (ltb (e + 1) (length c.words)) r.0 in
    let ne : e ≢ 0 = λ z. both_ways (eqb e 0) (not_so _ q.0) (eq-eqb e 0 z) in
    (omega (arith, ne), ltb-true (e + 1) (length c.words) q.1, ltb-true (e + 1) 4294967296 r.1)

pub entry_test : (c : Common) (e : ℕ) → IsEntry (length c.words) e → is_entry c e ≡ true
entry_test c e h = rw (
  ne_eqb e 0 (λ z. absurd (let p = h.0 in omega (arith, p, z))),
  lt-ltb (e + 1) (length c.words) h.1,
  lt-ltb (e + 1) 4294967296 h.2,
) refl

pub no_entry_so : (c : Common) (e : ℕ) → is_entry c e ≡ false → IsEntry (length c.words) e → ⊥
no_entry_so c e h i = both_ways (is_entry c e) h (entry_test c e i)

nobody_chosen : (s : ℕ → Option ℕ) (a : ℕ) → IsChoice s a 0 []
unfolding IsDistinct
nobody_chosen s a = record {
  distinct = tt;
  slept = λ t h. absurd cc;
  few = omega arith;
  all =
      λ l. absurd (omega arith);
}

-- a lock whose owner dies, by whether there may be waiters
abandoned_if : Common → ℕ → Bool → Common
abandoned_if c l w = cond w (wake_front (set_word c l (lock_word 0 true w)) l 1) (set_word c l (lock_word 0 true w))

record Abandoning (p : Program) (k : ConcreteState) (t l : ℕ) (c : Common) (woken : List ℕ) : Type 0 where
  pub word : ℕ → ℕ
  pub words : (b : ℕ) → slice_index c.words b ≡ word b
  pub holds : Holds p (length k.threads) c
  pub output : c.output ≡ k.common.output
  pub step : Abandons t l (shared_of (state_of k)) woken (record { word = word; asleep = c.asleep })

abandoning_if : (p : Program) (k : ConcreteState) (t l : ℕ) → IsWellFormed p k → l < length k.common.words
    → owner_of (load k.common l) ≡ t → (w : Bool) → waiters_of (load k.common l) ≡ w
    → Abandoning p k t l (abandoned_if k.common l w) (cond w (front k.common l 1) [])
unfolding abandoned_if
abandoning_if p k t l concrete inside owned true is =
    let f : ℕ → ℕ = λ b. slice_index k.common.words b in record {
      word = put f l (lock_word 0 true true);
      words = words_put k.common.words l (lock_word 0 true true) inside;
      holds = holds-woke _ _ _ l 1 (holds-set _ _ k.common l (lock_word 0 true true) (holds-concrete p k concrete));
      output = refl;
      step = record {
        owned = owned;
        marks = λ i. put f l (lock_word 0 true (sym is i));
        wakes = rw is (record {
          choice = choice-front k.common.queue k.common.asleep l 1 concrete.agree;
          awake =
              refl;
        });
      };
    }
abandoning_if p k t l concrete inside owned false is =
    let f : ℕ → ℕ = λ b. slice_index k.common.words b in record {
      word = put f l (lock_word 0 true false);
      words = words_put k.common.words l (lock_word 0 true false) inside;
      holds = holds-set _ _ k.common l (lock_word 0 true false) (holds-concrete p k concrete);
      output = refl;
      step = record {
        owned = owned;
        marks = λ i. put f l (lock_word 0 true (sym is i));
        wakes = rw is (record { choice = nobody_chosen k.common.asleep l; awake = refl });
      };
    }

abandoning : (p : Program) (k : ConcreteState) (t l : ℕ) → IsWellFormed p k → l < length k.common.words
    → owner_of (load k.common l) ≡ t → Abandoning p k t l (abandon k.common l) (abandon_wakes k.common l)
unfolding abandoned_if
abandoning p k t l concrete inside owned =
    abandoning_if p k t l concrete inside owned (waiters_of (load k.common l)) refl

-- nothing changes
idle : (p : Program) (k : ConcreteState) → IsWellFormed p k → Holds p (length k.threads) k.common
idle p k concrete = holds-concrete p k concrete

at_entry : (rule : ExitRule) (p : Program) (k : ConcreteState) (t e seen : ℕ) → IsWellFormed p k → HasPlace k t → (b : Bool)
    → is_entry k.common e ≡ b
    → (d : Bool) → (eqb (load k.common (process_word t 1)) e || not (eqb (owner_of (load k.common (e + 1))) t)) ≡ d
    → Leaving rule p k t (Entry (record { 0 = e }) seen)
    (cond (not b) (record { common = k.common; next = Pending; event = plain name.Entry e })
    (cond d (record { common = k.common; next = next_entry (load k.common e) (seen + 1); event = plain name.Entry e })
    (record {
      common = abandon k.common (e + 1);
      next = next_entry (load k.common e) (seen + 1);
      event =
          event_of name.Entry e (abandon_wakes k.common (e + 1)) [];
    })))
at_entry rule p k t e seen concrete place false is d so = record {
  woken = [];
  set = refl;
  word = λ b. slice_index k.common.words b;
  words = λ b. refl;
  holds = idle p k concrete;
  output = refl;
  step = inr (no_entry_so k.common e is, record { nobody = refl; same = refl }, refl);
}
at_entry rule p k t e seen concrete place true is true so = record {
  woken = [];
  set = refl;
  word = λ b. slice_index k.common.words b;
  words = λ b. refl;
  holds = idle p k concrete;
  output = refl;
  step = inl (
    entry_so k.common e is,
    elim (or_cases _ _ so) [
      | inl q ↦ IsPending (eqb-true _ _ q) (record { nobody = refl; same = refl })
      | inr q ↦ IsForeign (λ o. both_ways _ (not_so _ q) (eq-eqb _ _ o)) (record { nobody = refl; same = refl })
    ],
    refl,
  );
}
at_entry rule p k t e seen concrete place true is false so =
    let i = entry_so k.common e is in
    let q = or_parts _ _ so in
    let owned : owner_of (load k.common (e + 1)) ≡ t = owner _ q.1 in
    let a = abandoning p k t (e + 1) concrete i.1 owned in record {
      woken = abandon_wakes k.common (e + 1);
      set = refl;
      word = a.word;
      words = a.words;
      holds = a.holds;
      output = a.output;
      step = inl (i, IsOwned (λ o. both_ways _ q.0 (eq-eqb _ _ o)) a.step, refl);
    } where
      owner : (o : ℕ) → not (eqb o t) ≡ false → o ≡ t
      owner o h = eqb-true o t (not_not (eqb o t) h) where
        not_not : (b : Bool) → not b ≡ false → b ≡ true
        not_not true g = refl
        not_not false g = absurd cc

at_pending : (rule : ExitRule) (p : Program) (k : ConcreteState) (t e : ℕ) → IsWellFormed p k → HasPlace k t
    → load k.common (process_word t 1) ≡ e → (b : Bool) → is_entry k.common e ≡ b
    → (d : Bool) → eqb (owner_of (load k.common (e + 1))) t ≡ d
    → (w : Bool) → wakes rule (load k.common (e + 1)) ≡ w
    → Leaving rule p k t Pending (cond (not b) (record { common = k.common; next = ClearId; event = plain name.Pending e })
    (cond d (record {
      common = abandon k.common (e + 1);
      next = ClearId;
      event =
          event_of name.Pending e (abandon_wakes k.common (e + 1)) [];
    })
    (cond w (record {
      common = wake_front k.common (e + 1) 1;
      next = ClearId;
      event =
          event_of name.Pending e (front k.common (e + 1) 1) [];
    }) (record { common = k.common; next = ClearId; event = plain name.Pending e }))))
at_pending rule p k t e concrete place named false is d so w how = record {
  woken = [];
  set = refl;
  word = λ b. slice_index k.common.words b;
  words = λ b. refl;
  holds = idle p k concrete;
  output = refl;
  step = (rw named (NoEntry (no_entry_so k.common e is) (record { nobody = refl; same = refl })), refl);
}
at_pending rule p k t e concrete place named true is true so w how =
    let i = entry_so k.common e is in
    let a = abandoning p k t (e + 1) concrete i.1 (eqb-true _ _ so) in record {
      woken = abandon_wakes k.common (e + 1);
      set = refl;
      word = a.word;
      words = a.words;
      holds = a.holds;
      output = a.output;
      step = (rw named (IsOwned i a.step), refl);
    }
at_pending rule p k t e concrete place named true is false so true how =
    let i = entry_so k.common e is in record {
      woken = front k.common (e + 1) 1;
      set = refl;
      word = λ b. slice_index k.common.words b;
      words = λ b. refl;
      holds = holds-woke _ _ k.common (e + 1) 1 (holds-concrete p k concrete);
      output = refl;
      step = (
        rw named (IsForeign i (λ o. both_ways _ so (eq-eqb _ _ o)) how
            (record {
              same = refl;
              wakes =
                  record {
                    choice = choice-front k.common.queue k.common.asleep (e + 1) 1 concrete.agree;
                    awake =
                        refl;
                  };
            })),
        refl,
      );
    }
at_pending rule p k t e concrete place named true is false so false how =
    let i = entry_so k.common e is in record {
      woken = [];
      set = refl;
      word = λ b. slice_index k.common.words b;
      words = λ b. refl;
      holds = idle p k concrete;
      output = refl;
      step = (
        rw named (IsPassed i (λ o. both_ways _ so (eq-eqb _ _ o)) how (record { nobody = refl; same = refl })),
        refl,
      );
    }

-- an exit that isn't over
abbrev pub IsUnderWay : ExitPhase → Type 0
IsUnderWay Ended = ⊥
IsUnderWay phase = Unit {0}

pub leaving : (rule : ExitRule) (p : Program) (k : ConcreteState) (t : ℕ) (phase : ExitPhase) → IsUnderWay phase → IsWellFormed p k
    → HasPlace k t → Leaving rule p k t phase (leave rule t phase k.common)
leaving rule p k t (Entry e seen) runs concrete place =
    at_entry rule p k t e.0 seen concrete place (is_entry k.common e.0) refl _ refl
leaving rule p k t Pending runs concrete place = at_pending rule p k t (load k.common (process_word t 1)) concrete place refl
    (is_entry k.common (load k.common (process_word t 1))) refl _ refl _ refl
leaving rule p k t ClearId runs concrete place = record {
  woken = [];
  set = refl;
  word = put (λ b. slice_index k.common.words b) (process_word t 2) 0;
  words = words_put k.common.words (process_word t 2) 0 (omega (arith, place.words));
  holds = holds-set _ _ k.common (process_word t 2) 0 (holds-concrete p k concrete);
  output = refl;
  step = (refl, refl, refl);
}
leaving rule p k t LastWake runs concrete place = record {
  woken = front k.common (process_word t 2) 1;
  set = refl;
  word = λ b. slice_index k.common.words b;
  words = λ b. refl;
  holds = holds-woke _ _ k.common (process_word t 2) 1 (holds-concrete p k concrete);
  output = refl;
  step = (
    record {
      same = refl;
      wakes =
          record {
            choice = choice-front k.common.queue k.common.asleep (process_word t 2) 1 concrete.agree;
            awake =
                refl;
          };
    },
    refl,
  );
}
leaving rule p k t Ended runs concrete place = absurd runs
