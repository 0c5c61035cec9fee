-- A step that may be can be taken: what is asked for can be served, and an exit goes on.
use Rattle.std.proofs.Common.{◌≡◌, ◌≢◌, ◌<◌, ◌≤◌, ◌+◌, ◌^◌, ◌++◌, ◌⊎◌, ℕ, suc, Bool, true, false, List, [], ◌∷◌}
use Rattle.std.proofs.Common.{Some, None, inl, inr, refl, arith}
use Rattle.std.specs.Prelude.{if◌then◌else◌, ◌%◌, ◌==◌}
use Rattle.std.specs.Int.Bits.{bit_or}
use Rattle.std.proofs.lemmas.Bool.{cases_eq, cases_lt}
use Rattle.words.specs.LockWord.{lock_word, owner_of, waiters_of}
use Rattle.words.specs.Outcomes.{cause_number}
use Rattle.words.specs.Process.{process_word}
use Rattle.words.specs.Signed.{signed_of}
use Rattle.words.specs.Updates.{put}
use Rattle.isa.specs.Programs.{Program}
use Rattle.buckets.specs.Places.{with_place}
use Rattle.robustexit.specs.ExitRules.{wakes}
use Rattle.robustexit.specs.RobustExit.{Shared, ExitStep, EntryStep, PendingStep, IsPending, IsForeign, IsPassed}
use Rattle.robustexit.specs.RobustExit.{IsEntry, IsOwned, NoEntry, Abandons}
use Rattle.robustexit.specs.Phases.{next_entry}
use Rattle.robustexit.specs.declared.phase.ExitPhase.{ExitPhase}
use Rattle.robustexit.specs.declared.phase.ExitPhase.TheVariants.{Entry, Pending, ClearId, LastWake, Ended}
use Rattle.robustexit.specs.declared.rule.ExitRule.{ExitRule}
use Rattle.locals.specs.Threads.{Thread, Runs, Dies, Exits}
use Rattle.locals.specs.Looks.{Request, AskLoad, AskStore, AskSwap, AskCompareSwap, AskOr, AskAdd, AskFork, AskPrint}
use Rattle.locals.specs.Looks.{AskWait, AskWake, AskRequeue, AskReturn, AskReturnValue, AskFault, Look, look}
use Rattle.locals.specs.Looks.{Goes, Asks, Leaves, Breaks, Rests}
use Rattle.machine.specs.States.{State, with_word}
use Rattle.machine.specs.AbstractServing.{Serves, IsUnserved, Lies, with_child, with_outcome}
use Rattle.machine.specs.PieceStates.{call_of}
use Rattle.machine.specs.Runs.{has_ended}
use Rattle.machine.proofs.Stepping.{IsOfCode, look_code}
use Rattle.proof_pieces.specs.WholeCalls.{ServesWhole}
use Rattle.proof_image_liveness.proofs.Picking.{pick, wakes_some}

-- an answer to what is asked for, and the state behind it
pub record Served (t : ℕ) (request : Request) (s : State) : Type 0 where
  pub answer : ℕ
  pub mid : State
  pub serves : Serves t request s [] answer mid
  pub whole : ServesWhole t request s [] answer mid

lies_so : (s : State) (a : ℕ) → ((Lies s a → ⊥) → ⊥) → Lies s a
lies_so s a h = elim (cases_lt a s.size) [
  | inl less ↦ less
  | inr most ↦ absurd (h (λ less. omega (arith, less, most)))
]

pub both_lie : (s : State) (a b : ℕ) → (((Lies s a × Lies s b) → ⊥) → ⊥) → Lies s a × Lies s b
both_lie s a b h = (lies_so s a (λ no. h (λ both. no both.0)), lies_so s b (λ no. h (λ both. no both.1)))

pub lies_in : (s : State) (a : ℕ) → ((Lies s a → ⊥) → ⊥) → Lies s a
lies_in s a h = lies_so s a h

pub served : (t : ℕ) (request : Request) (s : State) → call_of request ≡ None → (IsUnserved request s → ⊥)
    → s.made ≤ s.most → Served t request s
served t (AskLoad a) s own h few =
    let l = lies_so s a h in
    record { answer = s.word a; mid = s; serves = (l, (refl, (refl, refl))); whole = (l, (refl, (refl, refl))) }
served t (AskStore a v) s own h few =
    let l = lies_so s a h in
    record { answer = 0; mid = with_word s a v; serves = (l, (refl, (refl, refl))); whole = (l, (refl, (refl, refl))) }
served t (AskSwap a v) s own h few =
    let l = lies_so s a h in
    record {
      answer = s.word a;
      mid = with_word s a v;
      serves = (l, (refl, (refl, refl)));
      whole = (l, (refl, (refl, refl)));
    }
served t (AskCompareSwap a expected new) s own h few =
    let l = lies_so s a h in
    record {
      answer = s.word a;
      mid = if s.word a == expected then with_word s a new else s;
      serves = (l, (refl, (refl, refl)));
      whole = (l, (refl, (refl, refl)));
    }
served t (AskOr a v) s own h few =
    let l = lies_so s a h in
    record {
      answer = s.word a;
      mid = with_word s a (bit_or (s.word a) v);
      serves = (l, (refl, (refl, refl)));
      whole = (l, (refl, (refl, refl)));
    }
served t (AskAdd a v) s own h few =
    let l = lies_so s a h in
    record {
      answer = s.word a;
      mid = with_word s a ((s.word a + v) % 4294967296);
      serves = (l, (refl, (refl, refl)));
      whole = (l, (refl, (refl, refl)));
    }
served t (AskFork entry arguments true) s own h few = elim (cases_lt s.made s.most) [
  | inl less ↦ record {
    answer = suc s.made;
    mid = with_child s entry arguments;
    serves = (refl, inr (less, refl, refl, refl));
    whole = (refl, inr (less, refl, refl, refl));
  }
  | inr most ↦ let full : s.made ≡ s.most = omega (arith, most, few) in
      record {
        answer = 0;
        mid = s;
        serves = (refl, inl (full, refl, refl));
        whole = (refl, inl (full, refl, refl));
      }
]
served t (AskFork entry arguments false) s own h few = elim (cases_lt s.made s.most) [
  | inl less ↦ absurd (h (less, λ e. let no' : false ≡ true = e in cc))
  | inr most ↦ let full : s.made ≡ s.most = omega (arith, most, few) in
      record {
        answer = 0;
        mid = s;
        serves = (refl, inl (full, refl, refl));
        whole = (refl, inl (full, refl, refl));
      }
]
served t (AskPrint number) s own h few = record {
  answer = 0;
  mid = record s { output = s.output ++ signed_of number ∷ [] };
  serves = (refl, (refl, refl));
  whole = (refl, (refl, refl));
}
served t AskReturn s own h few = record {
  answer = s.word (process_word t 0);
  mid = with_outcome s t 16;
  serves = (refl, (refl, refl));
  whole = (refl, (refl, refl));
}
served t (AskReturnValue v) s own h few = record {
  answer = s.word (process_word t 0);
  mid = with_outcome (with_word s (process_word t 4) v) t 16;
  serves = (refl, (refl, refl));
  whole = (refl, (refl, refl));
}
served t (AskFault cause) s own h few = record {
  answer = s.word (process_word t 0);
  mid = with_outcome s t (cause_number cause);
  serves = (refl, (refl, refl));
  whole = (refl, (refl, refl));
}
served t (AskWait a expected) s own h few = absurd cc
served t (AskWake a n) s own h few = absurd cc
served t (AskRequeue a b n m expected) s own h few = absurd cc

-- a step of an exit by this rule
pub record Left (rule : ExitRule) (size t : ℕ) (phase : ExitPhase) (before : Shared) : Type 0 where
  pub woken : List ℕ
  pub after : Shared
  pub next : ExitPhase
  pub step : ExitStep rule size t phase before woken after next

is_entry_or : (size e : ℕ) → IsEntry size e ⊎ (IsEntry size e → ⊥)
is_entry_or size e = elim (cases_lt 0 e) [
  | inr none ↦ inr (λ i. let some : 0 < e = i.0 in omega (arith, some, none))
  | inl some ↦ elim (cases_lt (e + 1) size) [
    | inr out ↦ inr (λ i. let l : e + 1 < size = i.1 in omega (arith, l, out))
    | inl lies ↦ elim (cases_lt (e + 1) (2 ^ 32)) [
      | inr wide ↦ inr (λ i. let l : e + 1 < 2 ^ 32 = i.2 in omega (arith, l, wide))
      | inl fits ↦ inl (some, lies, fits)
    ]
  ]
]

module _ (rule : ExitRule) (size t : ℕ) (b : Shared) (k : ℕ) (few : (u a : ℕ) → b.asleep u ≡ Some a → u < k) where
  -- whom one wakes on a word
  abbrev woken_at : ℕ → ℕ → List ℕ
  woken_at a n = pick b.asleep a k n

  abbrev abandoned : ℕ → Shared
  abandoned l = record {
    word = put b.word l (lock_word 0 true (waiters_of (b.word l)));
    asleep = with_place b.asleep (woken_at l (if waiters_of (b.word l) then 1 else 0)) None;
  }

  abandons : (l : ℕ) → owner_of (b.word l) ≡ t
      → Abandons t l b (woken_at l (if waiters_of (b.word l) then 1 else 0)) (abandoned l)
  abandons l owned = record {
    owned = owned;
    marks = refl;
    wakes = wakes_some b.asleep l k (if waiters_of (b.word l) then 1 else 0) few;
  }

  abbrev awoken : ℕ → Shared
  awoken a = record { word = b.word; asleep = with_place b.asleep (woken_at a 1) None }

  at_entry : (e : ℕ) → (woken : List ℕ) × (after : Shared) × EntryStep size t e b woken after
  at_entry e = elim (cases_eq (b.word (process_word t 1)) e) [
    | inl q ↦ ([], b, IsPending q (record { nobody = refl; same = refl }))
    | inr ne ↦ elim (cases_eq (owner_of (b.word (e + 1))) t) [
      | inl q ↦ (
        woken_at (e + 1) (if waiters_of (b.word (e + 1)) then 1 else 0),
        abandoned (e + 1),
        IsOwned ne (abandons (e + 1) q),
      )
      | inr other ↦ ([], b, IsForeign other (record { nobody = refl; same = refl }))
    ]
  ]

  -- at a lock that the thread doesn't own
  at_foreign : (e : ℕ) → IsEntry size e → owner_of (b.word (e + 1)) ≢ t
      → (woken : List ℕ) × (after : Shared) × PendingStep rule size t e b woken after
  at_foreign e is other = by_rule (wakes rule (b.word (e + 1))) refl
    where
      by_rule : (so : Bool) → wakes rule (b.word (e + 1)) ≡ so
          → (woken : List ℕ) × (after : Shared) × PendingStep rule size t e b woken after
      by_rule true so = (
        woken_at (e + 1) 1,
        awoken (e + 1),
        IsForeign is other so (record { same = refl; wakes = wakes_some b.asleep (e + 1) k 1 few }),
      )
      by_rule false so = ([], b, IsPassed is other so (record { nobody = refl; same = refl }))

  at_pending : (e : ℕ) → (woken : List ℕ) × (after : Shared) × PendingStep rule size t e b woken after
  at_pending e = elim (is_entry_or size e) [
    | inr none ↦ ([], b, NoEntry none (record { nobody = refl; same = refl }))
    | inl is ↦ elim (cases_eq (owner_of (b.word (e + 1))) t) [
      | inl q ↦ (
        woken_at (e + 1) (if waiters_of (b.word (e + 1)) then 1 else 0),
        abandoned (e + 1),
        IsOwned is (abandons (e + 1) q),
      )
      | inr other ↦ at_foreign e is other
    ]
  ]

  pub left : (phase : ExitPhase) → phase ≢ Ended → Left rule size t phase b
  left (Entry e seen) on = elim (is_entry_or size e.0) [
    | inl is ↦ let h = at_entry e.0 in
        record {
          woken = h.0;
          after = h.1;
          next = next_entry (b.word e.0) (seen + 1);
          step = inl (is, h.2, refl);
        }
    | inr none ↦ record {
      woken = [];
      after = b;
      next = Pending;
      step = inr (none, record { nobody = refl; same = refl }, refl);
    }
  ]
  left Pending on =
      let h = at_pending (b.word (process_word t 1)) in
      record { woken = h.0; after = h.1; next = ClearId; step = (h.2, refl) }
  left ClearId on = record {
    woken = [];
    after = record b { word = put b.word (process_word t 2) 0 };
    next = LastWake;
    step = (refl, refl, refl);
  }
  left LastWake on = record {
    woken = woken_at (process_word t 2) 1;
    after = awoken (process_word t 2);
    next = Ended;
    step = (record { same = refl; wakes = wakes_some b.asleep (process_word t 2) k 1 few }, refl);
  }
  left Ended on = absurd (on refl)

code_rests : (l : Look) → IsOfCode l → l ≡ Rests → ⊥
code_rests (Goes x) h e = absurd cc
code_rests (Asks request go) h e = absurd cc
code_rests (Leaves phase) h e = absurd cc
code_rests Breaks h e = absurd cc
code_rests Rests h e = absurd h

code_leaves : (l : Look) (phase : ExitPhase) → IsOfCode l → l ≡ Leaves phase → ⊥
code_leaves (Goes x) phase h e = absurd cc
code_leaves (Asks request go) phase h e = absurd cc
code_leaves (Leaves phase') phase h e = absurd h
code_leaves Breaks phase h e = absurd cc
code_leaves Rests phase h e = absurd cc

-- a thread rests only where it has ended, and leaves by no phase that is over
pub rests_ended : (p : Program) (t : ℕ) (x : Thread) → look p t x ≡ Rests → has_ended (Some x) ≡ true
rests_ended p t (Runs place operands locals callers) e =
    absurd (code_rests _ (look_code _ t _ place operands locals callers) e)
rests_ended p t (Dies cause) e = absurd cc
rests_ended p t (Exits (Entry a seen)) e = absurd cc
rests_ended p t (Exits Pending) e = absurd cc
rests_ended p t (Exits ClearId) e = absurd cc
rests_ended p t (Exits LastWake) e = absurd cc
rests_ended p t (Exits Ended) e = refl

pub leaves_on : (p : Program) (t : ℕ) (x : Thread) (phase : ExitPhase) → look p t x ≡ Leaves phase → phase ≢ Ended
leaves_on p t (Runs place operands locals callers) phase e q =
    code_leaves _ phase (look_code _ t _ place operands locals callers) e
leaves_on p t (Dies cause) phase e q = absurd cc
leaves_on p t (Exits (Entry a seen)) phase e q = absurd cc
leaves_on p t (Exits Pending) phase e q = absurd cc
leaves_on p t (Exits ClearId) phase e q = absurd cc
leaves_on p t (Exits LastWake) phase e q = absurd cc
leaves_on p t (Exits Ended) phase e q = absurd cc
