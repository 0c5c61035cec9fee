-- The bucket that a thread wants is in its way where a thread holds it.
use Rattle.std.proofs.Common.{◌≡◌, ◌≢◌, ◌⊎◌, ℕ, ◌+◌, ◌&&◌, ◌==◌, Bool, true, false, not, ltb, length, Option, Some}
use Rattle.std.proofs.Common.{None, inl, inr, refl, sym, ap, ◌∙◌, subst}
use Rattle.std.specs.Prelude.{is_some, if◌then◌else◌, MatchBool}
use Rattle.std.proofs.lemmas.Bool.{both_ways, cases_Bool, cases_eq, eq-eqb, eqb-true, ne_eqb, ltb-true, lt-ltb}
use Rattle.words.specs.LockWord.{owner_of, waiters_of}
use Rattle.words.specs.Process.{process_word}
use Rattle.isa.specs.Programs.{Program}
use Rattle.futexcalls.specs.Answers.{word_of}
use Rattle.futexcalls.specs.declared.pieces.FutexCall.{FutexCall}
use Rattle.futexcalls.specs.declared.pieces.FutexCall.TheVariants.{Wait, Wake, Requeue}
use Rattle.futexcalls.specs.Pieces.{takes_at, LiesIn}
use Rattle.robustexit.specs.declared.phase.ExitPhase.{ExitPhase}
use Rattle.robustexit.specs.declared.phase.ExitPhase.TheVariants.{Entry, Pending, ClearId, LastWake, Ended}
use Rattle.robustexit.specs.Waking.{WakesOn}
use Rattle.locals.specs.Looks.{Look, Goes, Asks, Leaves, Breaks, Rests, look}
use Rattle.machine.specs.States.{Common, thread_of}
use Rattle.machine.specs.ConcreteServing.{load}
use Rattle.machine.specs.ConcreteExits.{is_entry}
use Rattle.machine.specs.ConcreteSteps.{can_move}
use Rattle.machine.specs.PieceStates.{call_of}
use Rattle.machine.specs.PieceSteps.{BlocksAt, BlocksCall}
use Rattle.machine.proofs.Leaving.{entry_so, entry_test}
use Rattle.machine.proofs.Refusing.{moves_so}
use Rattle.piece_machine.specs.PieceConcrete.{PieceConcrete, pieces_at, lies_in, entry_word, pending_word, word_left}
use Rattle.piece_machine.specs.PieceConcrete.{bucket_of, wanted_by, wanted, is_held, is_blocked, can_take}
use Rattle.piece_machine.specs.PieceDetermined.{TakesSo}
use Rattle.piece_machine.specs.PieceViews.{IsBlocked}
use Rattle.robustexit.specs.declared.rule.ExitRule.{ExitRule}
use Rattle.robustexit.specs.ExitRules.{exit_of, wakes}
use Rattle.std.proofs.lemmas.Bool.{cond-true, cond-false}

both : (a b : Bool) → (a && b) ≡ true → (a ≡ true) × (b ≡ true)
both true b h = (refl, h)
both false b h = absurd cc

not_so : (b : Bool) → not b ≡ true → b ≡ false
not_so true h = absurd cc
not_so false h = refl

-- whether the words of a call lie in the memory
pub lies_so : (n : ℕ) (call : FutexCall) → lies_in n call ≡ true → LiesIn n call
lies_so n (Wait a expected) h = ltb-true a.0 n h
lies_so n (Wake a wakes) h = ltb-true a.0 n h
lies_so n (Requeue a b wakes moves expected) h =
    let r = both (ltb a.0 n) (ltb b.0 n) h in (ltb-true a.0 n r.0, ltb-true b.0 n r.1)

pub lies_test : (n : ℕ) (call : FutexCall) → LiesIn n call → lies_in n call ≡ true
lies_test n (Wait a expected) h = lt-ltb a.0 n h
lies_test n (Wake a wakes) h = lt-ltb a.0 n h
lies_test n (Requeue a b wakes moves expected) h = rw (lt-ltb a.0 n h.0, lt-ltb b.0 n h.1) refl

pub lies_not : (n : ℕ) (call : FutexCall) → lies_in n call ≡ false → LiesIn n call → ⊥
lies_not n call h i = both_ways (lies_in n call) h (lies_test n call i)

some_if : (b : Bool) (x a : ℕ) → (if b then Some x else None) ≡ Some a → (b ≡ true) × (x ≡ a)
some_if true x a h = (refl, cc)
some_if false x a h = absurd cc

if_some : (b : Bool) (x a : ℕ) → b ≡ true → x ≡ a → (if b then Some x else None) ≡ Some a
if_some b x a h e = rw h (ap (λ y. Some y) e)

-- the word on which the step of an exit wakes
entry_wakes : (rule : ExitRule) (c : Common) (t e a seen : ℕ) → entry_word c t e ≡ Some a
    → WakesOn rule (length c.words) t (Entry (record { 0 = e }) seen) (word_of c.words) a
entry_wakes rule c t e a seen h =
    let s = some_if _ (e + 1) a h in
    let w = both (is_entry c e && not (load c (process_word t 1) == e) && (owner_of (load c (e + 1)) == t)) _ s.0 in
    let o = both (is_entry c e && not (load c (process_word t 1) == e)) (owner_of (load c (e + 1)) == t) w.0 in
    let q = both (is_entry c e) (not (load c (process_word t 1) == e)) o.0 in (
      entry_so c e q.0,
      λ z. both_ways (load c (process_word t 1) == e) (not_so _ q.1) (eq-eqb _ _ z),
      eqb-true _ _ o.1,
      w.1,
      sym s.1,
    )

wakes_entry : (rule : ExitRule) (c : Common) (t e a seen : ℕ)
    → WakesOn rule (length c.words) t (Entry (record { 0 = e }) seen) (word_of c.words) a → entry_word c t e ≡ Some a
wakes_entry rule c t e a seen h = if_some _ (e + 1) a
    (rw (entry_test c e h.0, ne_eqb (load c (process_word t 1)) e h.1, eq-eqb (owner_of (load c (e + 1))) t h.2, h.3)
    refl) (sym h.4)

pending_wakes : (rule : ExitRule) (c : Common) (t a : ℕ) → pending_word rule c t (load c (process_word t 1)) ≡ Some a
    → WakesOn rule (length c.words) t Pending (word_of c.words) a
pending_wakes rule c t a h =
    let e = load c (process_word t 1) in
    let s = some_if _ (e + 1) a h in
    let w = both (is_entry c e) (if owner_of (load c (e + 1)) == t then waiters_of (load c (e + 1))
    else wakes rule (load c (e + 1))) s.0 in (
      entry_so c e w.0,
      sym s.1,
      subst (λ (b : ℕ). ((owner_of (load c b) ≢ t) × (wakes rule (load c b) ≡ true))
          ⊎ ((owner_of (load c b) ≡ t) × (waiters_of (load c b) ≡ true))) s.1
          (elim (cases_eq (owner_of (load c (e + 1))) t) [
            | inr ne ↦ inl (ne, sym (cond-false _ _ _ (ne_eqb _ _ ne)) ∙ w.1)
            | inl own ↦ inr (own, sym (cond-true _ _ _ (eq-eqb _ _ own)) ∙ w.1)
          ]),
    )

wakes_pending : (rule : ExitRule) (c : Common) (t a : ℕ) → WakesOn rule (length c.words) t Pending (word_of c.words) a
    → pending_word rule c t (load c (process_word t 1)) ≡ Some a
wakes_pending rule c t a h =
    let e = load c (process_word t 1) in
    let at = subst (λ (b : ℕ). ((owner_of (load c b) ≢ t) × (wakes rule (load c b) ≡ true))
    ⊎ ((owner_of (load c b) ≡ t) × (waiters_of (load c b) ≡ true))) h.1 h.2 in
    if_some _ (e + 1) a (elim at [
      | inl ne ↦ rw (entry_test c e h.0, ne_eqb (owner_of (load c (e + 1))) t ne.0, ne.1) refl
      | inr y ↦ rw (entry_test c e h.0, eq-eqb (owner_of (load c (e + 1))) t y.0, y.1) refl
    ]) (sym h.1)

pub word_so : (rule : ExitRule) (c : Common) (t a : ℕ) (phase : ExitPhase) → word_left rule c t phase ≡ Some a
    → WakesOn rule (length c.words) t phase (word_of c.words) a
word_so rule c t a (Entry e seen) h = entry_wakes rule c t e.0 a seen h
word_so rule c t a Pending h = pending_wakes rule c t a h
word_so rule c t a ClearId h = absurd cc
word_so rule c t a LastWake h = cc
word_so rule c t a Ended h = absurd cc

pub word_back : (rule : ExitRule) (c : Common) (t a : ℕ) (phase : ExitPhase)
    → WakesOn rule (length c.words) t phase (word_of c.words) a → word_left rule c t phase ≡ Some a
word_back rule c t a (Entry e seen) h = wakes_entry rule c t e.0 a seen h
word_back rule c t a Pending h = wakes_pending rule c t a h
word_back rule c t a ClearId h = absurd h
word_back rule c t a LastWake h = ap (λ y. Some y) (sym h)
word_back rule c t a Ended h = absurd h

-- a bucket that is held
some_holder : (o : Option ℕ) → is_some o ≡ true → (u : ℕ) × (o ≡ Some u)
some_holder None h = absurd cc
some_holder (Some u) h = (u, refl)

pub held_by : (k : PieceConcrete) (o : Option ℕ) → is_held k o ≡ true
    → (b : ℕ) × (u : ℕ) × (o ≡ Some b) × (k.holder b ≡ Some u)
held_by k None h = absurd cc
held_by k (Some b) h = let r = some_holder (k.holder b) h in (b, r.0, refl, r.1)

pub held_test : (k : PieceConcrete) (o : Option ℕ) (b u : ℕ) → o ≡ Some b → k.holder b ≡ Some u → is_held k o ≡ true
held_test k o b u is h = ap (is_held k) is ∙ ap is_some h

-- where a call wants a bucket
wanted_if : (k : PieceConcrete) (b : Bool) (o : Option ℕ) → is_held k (if b then o else None) ≡ true
    → (b ≡ true) × (is_held k o ≡ true)
wanted_if k true o h = (refl, h)
wanted_if k false o h = absurd cc

call_wants : (k : PieceConcrete) (t : ℕ) (o : Option FutexCall) → is_held k (wanted_by k t o) ≡ true
    → BlocksCall (pieces_at k) t o
call_wants k t None h = absurd cc
call_wants k t (Some call) h =
    let w = wanted_if k (lies_in (length k.concrete.common.words) call) (takes_at k.buckets (k.phase t) call) h in
    let r = held_by k (takes_at k.buckets (k.phase t) call) w.1 in
    (lies_so (length k.concrete.common.words) call w.0, r.0, r.1, r.2, r.3)

wants_call : (k : PieceConcrete) (t : ℕ) (o : Option FutexCall) → BlocksCall (pieces_at k) t o
    → is_held k (wanted_by k t o) ≡ true
wants_call k t None h = absurd h
wants_call k t (Some call) h =
    rw (lies_test (length k.concrete.common.words) call h.0)
    (held_test k (takes_at k.buckets (k.phase t) call) h.1 h.2 h.3 h.4)

word_bucket : (n b : ℕ) (o : Option ℕ) → bucket_of n o ≡ Some b → (a : ℕ) × (o ≡ Some a) × (bucket_of n (Some a) ≡ Some b)
word_bucket n b None h = absurd cc
word_bucket n b (Some a) h = (a, refl, h)

some_is : (a b : ℕ) → Some a ≡ Some b → a ≡ b
some_is a b h = cc

-- such a bucket is in the way of a thread
pub blocks_so : (rule : ExitRule) (k : PieceConcrete) (t : ℕ) (l : Look) → is_held k (wanted rule k t l) ≡ true
    → BlocksAt rule (pieces_at k) t l
blocks_so rule k t (Asks request go) h = call_wants k t (call_of request) h
blocks_so rule k t (Leaves phase) h =
    let r = held_by k (bucket_of k.buckets (word_left rule k.concrete.common t phase)) h in
    let w = word_bucket k.buckets r.0 (word_left rule k.concrete.common t phase) r.2 in
    (w.0, r.1, word_so rule k.concrete.common t w.0 phase w.1, ap k.holder (some_is _ r.0 w.2) ∙ r.3)
blocks_so rule k t (Goes x) h = absurd cc
blocks_so rule k t Breaks h = absurd cc
blocks_so rule k t Rests h = absurd cc

pub blocks_test : (rule : ExitRule) (k : PieceConcrete) (t : ℕ) (l : Look) → BlocksAt rule (pieces_at k) t l
    → is_held k (wanted rule k t l) ≡ true
blocks_test rule k t (Asks request go) h = wants_call k t (call_of request) h
blocks_test rule k t (Leaves phase) h =
    rw (word_back rule k.concrete.common t h.0 phase h.2) (ap is_some h.3)
blocks_test rule k t (Goes x) h = absurd h
blocks_test rule k t Breaks h = absurd h
blocks_test rule k t Rests h = absurd h

pub takes_so : TakesSo
takes_so p k t = (
  λ h. let r = both (can_move k.concrete t) _ h in
      let c = (moves_so k.concrete t).0 r.0 in record {
        thread = c.thread;
        stands = c.stands;
        awake = c.awake;
        goes_on = c.goes_on;
        free = λ b. both_ways (is_blocked p k t (thread_of k.concrete t)) (not_so _ r.1)
            (ap (is_blocked p k t) c.stands ∙ blocks_test (exit_of p.version) k t (look p t c.thread) b);
      },
  λ c. rw (
    (moves_so k.concrete t).1 (record {
      thread = c.thread;
      stands = c.stands;
      awake = c.awake;
      goes_on = c.goes_on;
    }),
    c.stands,
  ) (elim (cases_Bool (is_held k (wanted (exit_of p.version) k t (look p t c.thread)))) [
    | inl y ↦ absurd (c.free (blocks_so (exit_of p.version) k t (look p t c.thread) y))
    | inr n ↦ ap not n
  ]),
)

-- whether a thread that can move can take a step, by whether a held bucket is in its way
pub take_is : (p : Program) (k : PieceConcrete) (t : ℕ) (b : Bool) → can_move k.concrete t ≡ true
    → MatchBool b (IsBlocked p (pieces_at k) t) (IsBlocked p (pieces_at k) t → ⊥) → not b ≡ can_take p k t
take_is p k t true can w =
    rw (can, w.stands, blocks_test (exit_of p.version) k t (look p t w.thread) w.blocks) refl
take_is p k t false can free =
    let c = (moves_so k.concrete t).0 can in
    rw (can, c.stands) (elim (cases_Bool (is_held k (wanted (exit_of p.version) k t (look p t c.thread)))) [
      | inl y ↦ absurd (free (record {
        thread = c.thread;
        stands = c.stands;
        blocks = blocks_so (exit_of p.version) k t (look p t c.thread) y;
      }))
      | inr n ↦ sym (ap not n)
    ])
