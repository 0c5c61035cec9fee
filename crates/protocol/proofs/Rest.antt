-- Whole runs, and what holds where threads sleep.
use Rattle.std.proofs.Common.{◌≡◌, ℕ, suc, Bool, true, false, ◌==◌, ◌||◌, Option, Some, None, List, [], ◌∷◌, ◌⊎◌, inl}
use Rattle.std.proofs.Common.{inr, refl, sym, ap, ◌∙◌, subst, arith, ◌≤◌, ◌+◌}
use Rattle.std.proofs.lemmas.Bool.{false≢true, eq-eqb, eqb-true, or_left, or_right, cases_Bool}
use Rattle.words.specs.declared.version.ImageVersion.{ImageVersion}
use Rattle.words.specs.declared.version.ImageVersion.TheVariants.{One, Two, Linux}
use Rattle.words.specs.Versions.{most_of}
use Rattle.meaning.specs.Labels.{End, Label, Joins, Enters, Resumes}
use Rattle.meaning.specs.Table.{Hold, Free, Abandoned, HeldBy, Table, first_table, Allows}
use Rattle.protocol.specs.Word.{owner, owner_died_bit}
use Rattle.protocol.specs.Points.{Purpose, ToEnter, ToReenter, ToResume, Entry, NoEntry, Owned, Unowned, Spot, OnLock}
use Rattle.protocol.specs.Points.{OnSequence, OnId, Point, Unmade, TakeReads, TakeMarks, TakeSleeps, TakeTries}
use Rattle.protocol.specs.Points.{JoinReads, JoinSleeps, LeaveWakes, Dies, Walks, LastWakes, HasEnded, entry_at}
use Rattle.protocol.specs.Points.{taking_entry, entry_word}
use Rattle.protocol.specs.World.{World, mem, opening_world, opening_under}
use Rattle.protocol.specs.Rules.{ReleaseRule, ClearsWord, KeepsWaiters, TidiesWaiters, Rules, AreSafe, Clears}
use Rattle.protocol.specs.Rules.{version_rules}
use Rattle.protocol.specs.Moves.{Move}
use Rattle.protocol.specs.Finds.{CarriesFinding}
use Rattle.protocol.specs.Steps.{after}
use Rattle.protocol.specs.Carries.{Event, PermitsMove, event_of, table_after}
use Rattle.std.specs.Prelude.{length}
use Rattle.program.specs.declared.kinds.Member.{Member}
use Rattle.std.proofs.lemmas.Bool.{cond_both}
use Rattle.protocol.specs.World.{same_member}
use Rattle.protocol.proofs.Sleeps.{same-true}
use Rattle.protocol.specs.Steps.{after}
use Rattle.protocol.specs.Moves.{AddSeq, AddAll}
use Rattle.protocol.specs.Runs.{IsOver}
use Rattle.protocol.proofs.Roles.{own, owing, point_helps, point_sleeps, holds, helps, may_sleep, Tie}
use Rattle.protocol.proofs.Lock.{tie_owner}
use Rattle.protocol.proofs.Joins.{joins, goes, point_joins}
use Rattle.protocol.proofs.Pend.{PendAt}
use Rattle.protocol.proofs.Processes.{EndsAt}
use Rattle.meaning.specs.Table.{enterable}
use Rattle.protocol.specs.Carries.{with_event}
use Rattle.protocol.specs.Runs.{Leads, events, last_table, PermitsAll, FreeIs, HoldIs, Matches, IsNext, CannotAct, Goes, IsOutside}
use Rattle.protocol.specs.Runs.{LosesNoWake, IsExplainedByMoves, IsExplainedUnder}
use Rattle.protocol.proofs.Joins.{point_goes}
use Rattle.protocol.proofs.KeptConds.{waiter_made}
use Rattle.protocol.proofs.Kept.{kept, permitted, good_start}
use Rattle.protocol.proofs.Good.{Good}
use Rattle.protocol.specs.Rules.{DropsOwner}

-- ---- whole runs
pub with_permitted : (e : Option Event) (es : List Event) (T mid T' : Table) → PermitsMove e T mid
    → PermitsAll es mid T' → PermitsAll (with_event e es) T T'
with_permitted None es T mid T' here later = subst (λ x. PermitsAll es x T') here later
with_permitted (Some e) es T mid T' here later = (mid, here, later)

run_kept : (ss : List (ℕ × Move)) (w w' : World) (T : Table) → Good w T → Leads w ss w'
    → PermitsAll (events w T ss) T (last_table w T ss) × Good w' (last_table w T ss)
run_kept [] w w' T inv run = (refl, subst (λ x. Good x T) (sym run) inv)
run_kept (s ∷ ss) w w' T inv run =
    let rest = run_kept ss (after w s.0 s.1) w' (table_after w T s.0 s.1) (kept w T s.0 s.1 inv run.0) run.1 in (
      with_permitted (event_of w T s.0 s.1) (events (after w s.0 s.1) (table_after w T s.0 s.1) ss) T
          (table_after w T s.0 s.1) (last_table (after w s.0 s.1) (table_after w T s.0 s.1) ss)
          (permitted w T s.0 s.1 inv run.0) rest.0,
      rest.1,
    )

-- ---- the table is the world's
has_of : (x : ℕ) (l : List ℕ) (y : Entry) → (mem x l || own y x) ≡ true → (mem x l ≡ true) ⊎ (y ≡ Owned x)
has_of x l NoEntry h = elim (cases_Bool (mem x l)) [
  | inl a ↦ inl a
  | inr n ↦ absurd (false≢true (ap (λ b. b || false) (sym n) ∙ h))
]
has_of x l (Unowned m) h = elim (cases_Bool (mem x l)) [
  | inl a ↦ inl a
  | inr n ↦ absurd (false≢true (ap (λ b. b || false) (sym n) ∙ h))
]
has_of x l (Owned m) h = elim (cases_Bool (mem x l)) [
  | inl a ↦ inl a
  | inr n ↦
      inr (ap Owned (sym (eqb-true x m (ap (λ b. b || (x == m)) (sym n) ∙ h))))
]

of_has : (x : ℕ) (l : List ℕ) (y : Entry) → (mem x l ≡ true) ⊎ (y ≡ Owned x) → (mem x l || own y x) ≡ true
of_has x l y (inl h) = or_left (mem x l) (own y x) h
of_has x l y (inr h) = or_right (mem x l) (own y x) (ap (λ z. own z x) h ∙ eq-eqb x x refl)

over_tells : (p : Point) (e : End) (o r : ℕ) → IsOver p e → EndsAt p o r → CarriesFinding e o r
over_tells (LastWakes end) e o r h k = rw h k
over_tells (HasEnded end) e o r h k = rw h k
over_tells p e o r h k = absurd h

free_is : (rule : ReleaseRule) (v : ℕ) → (owner v ≡ 0) × (owner_died_bit v ≡ 0) → (Clears rule → v ≡ 0) → FreeIs rule v
free_is ClearsWord v h plain = plain tt
free_is KeepsWaiters v h plain = h
free_is TidiesWaiters v h plain = h
free_is DropsOwner v h plain = h

hold_is : (rule : ReleaseRule) (h : Hold) (v : ℕ) → Tie h v → (Clears rule → h ≡ Free → v ≡ 0) → HoldIs rule h v
unfolding Tie
hold_is rule Free v tie plain = free_is rule v tie (λ k. plain k refl)
hold_is rule (HeldBy p) v tie plain = tie
hold_is rule Abandoned v tie plain = tie

pub matches : (w : World) (T : Table) → Good w T → Matches w.rules w T
unfolding holds
matches w T inv = record {
  hold = λ m. hold_is w.rules.release (T.hold m) (w.lock m) (inv.locks.tie m) (λ k. inv.plain.word k m);
  held = λ m t h. has_of m (w.at t).list (entry_at (w.at t).point) (inv.locks.owned m t h);
  has = λ m t h. inv.locks.held m t (of_has m (w.at t).list (entry_at (w.at t).point) h);
  sleeper = λ t c h. inv.conds.sleeper t c h;
  waiter = λ t c h. waiter_made w T t c inv h;
  claimed = inv.claims;
  made = inv.made;
  most = inv.most;
  over = λ q e h. let k = inv.ends.past q e h in (
    k,
    over_tells (w.at q).point e (w.outcome q) (w.result q) k
        (inv.ends.tells q),
  );
  ended = λ q e h. inv.ends.ended q e h;
  joined = λ t q e h. inv.ends.learned t q e h;
}

-- ---- no wake was lost
taking_word : (m : ℕ) (k : Purpose) → entry_word (taking_entry m k) ≡ suc m
taking_word m ToEnter = refl
taking_word m ToReenter = refl
taking_word m (ToResume c) = refl

-- a thread with no pending entry owes no wake
no_debt : (y : Entry) (x : ℕ) → owing y x ≡ true → entry_word y ≡ 0 → ⊥
no_debt NoEntry x h z = false≢true h
no_debt (Owned m) x h z = omega (arith, z)
no_debt (Unowned m) x h z = omega (arith, z)

helper_inside : (p : Point) (v x : ℕ) → point_helps p x ≡ true → PendAt p v → IsOutside p v → ⊥
helper_inside (TakeReads m k) v x h pend out = omega (arith, pend, out, taking_word m k)
helper_inside (TakeMarks m s k) v x h pend out = omega (arith, pend, out, taking_word m k)
helper_inside (TakeSleeps m s k) v x h pend out = omega (arith, pend, out, taking_word m k)
helper_inside (TakeTries m s k) v x h pend out = omega (arith, pend, out, taking_word m k)
helper_inside (LeaveWakes m r) v x h pend out = omega (arith, pend, out)
helper_inside (Dies cause y) v x h pend out = no_debt y x h (sym pend ∙ out)
helper_inside (Walks a y end) v x h pend out = out
helper_inside p v x h pend out = false≢true h

sleeps_at : (p : Point) (x : ℕ) → point_sleeps p x ≡ true → (k : Purpose) × (p ≡ TakeReads x k)
sleeps_at (TakeReads m k) x h = (k, ap (λ y. TakeReads y k) (sym (eqb-true x m h)))
sleeps_at p x h = absurd (false≢true h)

not_enterable : (h : Hold) (p : ℕ) (b : Bool) → h ≡ HeldBy p → h ≡ enterable b → ⊥
not_enterable h p true e k = let z : HeldBy p ≡ Abandoned = sym e ∙ k in cc
not_enterable h p false e k = let z : HeldBy p ≡ Free = sym e ∙ k in cc

cannot_take : (T T' : Table) (t m p : ℕ) (k : Purpose) (l : Label) → T.hold m ≡ HeldBy p → IsNext (TakeReads m k) l
    → Allows t l T T' → ⊥
cannot_take T T' t m p ToEnter l h (b, is) may = let a : Allows t (Enters m b) T T' = subst (λ y. Allows t y T T') is
    may in not_enterable (T.hold m) p b h a.0
cannot_take T T' t m p ToReenter l h (b, is) may = let a : Allows t (Enters m b) T T' = subst (λ y. Allows t y T T')
    is may in not_enterable (T.hold m) p b h a.0
cannot_take T T' t m p (ToResume c) l h (b, is) may = let a : Allows t (Resumes m b) T T' = subst
    (λ y. Allows t y T T') is may in not_enterable (T.hold m) p b h a.1

joins_next : (p : Point) (q : ℕ) (l : Label) → point_joins p q ≡ true → IsNext p l → (end : End) × (l ≡ Joins q end)
joins_next (JoinReads x) q l h (e, is) = (e, is ∙ ap (λ y. Joins y e) (sym (eqb-true q x h)))
joins_next (JoinSleeps x) q l h (e, is) = (e, is ∙ ap (λ y. Joins y e) (sym (eqb-true q x h)))
joins_next p q l h next = absurd (false≢true h)

asleep_or : (o : Option Spot) → (o ≡ None) ⊎ ((s : Spot) × (o ≡ Some s))
asleep_or None = inl refl
asleep_or (Some s) = inr (s, refl)

last_wake_at : (p : Point) (e : End) → IsOver p e → point_goes p ≡ true → p ≡ LastWakes e
last_wake_at (LastWakes end) e h g = ap LastWakes (sym h)
last_wake_at (HasEnded end) e h g = absurd (false≢true g)
last_wake_at p e h g = absurd h

-- a thread that makes its last wake doesn't sleep
last_waker_awake : (w : World) (T : Table) (q : ℕ) (e : End) (s : Spot) → Good w T → (w.at q).point ≡ LastWakes e
    → w.asleep q ≡ Some s → ⊥
unfolding may_sleep joins
last_waker_awake w T q e (OnLock m) inv is h = false≢true (sym (ap (λ y. point_sleeps y m) is) ∙ inv.locks.sleeps m q h)
last_waker_awake w T q e (OnSequence c) inv is h = let k = inv.conds.sleeping q c h
    in let z : LastWakes e ≡ TakeReads k.monitor (ToResume c) = sym is ∙ k.stands in cc
last_waker_awake w T q e (OnId x) inv is h = false≢true (sym (ap (λ y. point_joins y x) is) ∙ inv.joiners.sleeps q x h)

abbrev AllOutside : World → Type 0
AllOutside w = (t : ℕ) → w.asleep t ≡ None → IsOutside (w.at t).point (w.pending t)

sleeper_cannot : (w : World) (T : Table) (t : ℕ) (s : Spot) → Good w T → AllOutside w → w.asleep t ≡ Some s
    → CannotAct w T t
unfolding helps may_sleep joins goes
sleeper_cannot w T t (OnLock m) inv calm h l T' next may =
    let k = sleeps_at (w.at t).point m (inv.locks.sleeps m t h) in
    let next2 : IsNext (TakeReads m k.0) l = subst (λ y. IsNext y l) k.1 next in
    elim (inv.locks.safe m t h) [
      | inl a ↦ cannot_take T T' t m (owner (w.lock m)) k.0 l (tie_owner (T.hold m) (w.lock m) (inv.locks.tie m) a.0)
          next2 may
      | inr u ↦ helper_inside (w.at u.0).point (w.pending u.0) m u.1 (inv.pends.pend u.0) (calm u.0 u.2)
    ]
sleeper_cannot w T t (OnSequence c) inv calm h l T' next may =
    let k = inv.conds.sleeping t c h in
    let next2 : IsNext (TakeReads k.monitor (ToResume c)) l = subst (λ y. IsNext y l) k.stands next in
    let a : Allows t (Resumes k.monitor next2.0) T T' = subst (λ y. Allows t y T T') next2.1 may in
    let z : None ≡ Some c = sym a.0 ∙ inv.conds.sleeper t c h in
    cc
sleeper_cannot w T t (OnId q) inv calm h l T' next may =
    let j = joins_next (w.at t).point q l (inv.joiners.sleeps t q h) next in
    let a : Allows t (Joins q j.0) T T' = subst (λ y. Allows t y T T') j.1 may in
    let is : (w.at q).point ≡ LastWakes j.0 = last_wake_at (w.at q).point j.0 (inv.ends.past q j.0 a.0)
    (inv.joiners.unended t q h) in
    elim (asleep_or (w.asleep q)) [
      | inl awake ↦ subst (λ y. IsOutside y (w.pending q)) is (calm q awake)
      | inr s ↦ last_waker_awake w T q j.0 s.0 inv is s.1
    ]

rest_outside : (p : Point) (v : ℕ) → (Goes p → ⊥) → IsOutside p v
rest_outside Unmade v n = tt
rest_outside (HasEnded end) v n = tt
rest_outside p v n = absurd (n tt)

rest_next : (p : Point) (l : Label) → (Goes p → ⊥) → IsNext p l → ⊥
rest_next Unmade l n next = next
rest_next (HasEnded end) l n next = next
rest_next p l n next = n tt

loses_none : (w : World) (T : Table) → Good w T → LosesNoWake w T
loses_none w T inv = record {
  sleepers = λ calm t s h. sleeper_cannot w T t s inv calm h;
  at_rest = λ still t l T' next may. elim (asleep_or (w.asleep t)) [
    | inl awake ↦ rest_next (w.at t).point l (λ g. still t (awake, g)) next
    | inr s ↦ sleeper_cannot w T t s.0 inv (λ u awake. rest_outside (w.at u).point (w.pending u)
        (λ g. still u (awake, g))) s.1 l T' next may
  ];
}

pub good_under : (version : ImageVersion) (rules : Rules) → AreSafe rules → (ss : List (ℕ × Move)) (w : World)
    → Leads (opening_under version rules) ss w
    → Good w (last_table (opening_under version rules) (first_table (most_of version)) ss)
good_under version rules safe ss w run = (run_kept ss (opening_under version rules) w (first_table (most_of version))
    (good_start version rules safe) run).1

pub version_safe : (version : ImageVersion) → AreSafe (version_rules version)
version_safe One = inl tt
version_safe Two = inl tt
version_safe Linux = inr tt

pub good_run : (version : ImageVersion) (ss : List (ℕ × Move)) (w : World) → Leads (opening_world version) ss w
    → Good w (last_table (opening_world version) (first_table (most_of version)) ss)
good_run version ss w run = good_under version (version_rules version) (version_safe version) ss w run

-- moves don't change the rules
pub rules_kept : (ss : List (ℕ × Move)) (w w' : World) → Leads w ss w' → w'.rules ≡ w.rules
rules_kept [] w w' run = ap (λ x. x.rules) run
rules_kept (s ∷ ss) w w' run = rules_kept ss (after w s.0 s.1) w' run.1 ∙ same_rules w s.0 s.1 where
  same_rules : (w : World) (t : ℕ) (m : Move) → (after w t m).rules ≡ w.rules
  same_rules w t (AddSeq c) = refl
  same_rules w t m = refl

-- nor how many threads there can be
pub most_kept : (ss : List (ℕ × Move)) (w w' : World) → Leads w ss w' → w'.most ≡ w.most
most_kept [] w w' run = ap (λ x. x.most) run
most_kept (s ∷ ss) w w' run = most_kept ss (after w s.0 s.1) w' run.1 ∙ same_most w s.0 s.1 where
  same_most : (w : World) (t : ℕ) (m : Move) → (after w t m).most ≡ w.most
  same_most w t (AddSeq c) = refl
  same_most w t m = refl

-- a sequence number is raised at most once by a move
raised : (w : World) (t : ℕ) (m : Move) (d : Member) → (after w t m).sequence d ≤ suc (w.sequence d)
raised w t (AddSeq c) d = cond_both (same_member d c) (w.sequence c + 1) (w.sequence d) (λ y. y ≤ suc (w.sequence d))
    (λ h. omega (arith, ap w.sequence (same-true d c h))) (λ h. omega arith)
raised w t (AddAll c) d = cond_both (same_member d c) (w.sequence c + 1) (w.sequence d) (λ y. y ≤ suc (w.sequence d))
    (λ h. omega (arith, ap w.sequence (same-true d c h))) (λ h. omega arith)
raised w t m d = omega arith

all_raised : (ss : List (ℕ × Move)) (w w' : World) (d : Member) → Leads w ss w'
    → w'.sequence d ≤ w.sequence d + length ss
all_raised [] w w' d run = let e : w'.sequence d ≡ w.sequence d = ap (λ x. x.sequence d) run in omega (arith, e)
all_raised (s ∷ ss) w w' d run = omega (arith, raised w s.0 s.1 d, all_raised ss (after w s.0 s.1) w' d run.1)

pub safe_no_wake_lost : (version : ImageVersion) (rules : Rules) → AreSafe rules → (ss : List (ℕ × Move)) (w : World)
    → Leads (opening_under version rules) ss w → IsExplainedUnder version rules ss w
safe_no_wake_lost version rules safe ss w run =
    let k = run_kept ss (opening_under version rules) w (first_table (most_of version)) (good_start version rules safe)
    run in
    record {
      permits = k.0;
      matches = subst
          (λ (x : Rules). Matches x w (last_table (opening_under version rules) (first_table (most_of version)) ss))
          (rules_kept ss (opening_under version rules) w run)
          (matches w (last_table (opening_under version rules) (first_table (most_of version)) ss) k.1);
      waking = loses_none w (last_table (opening_under version rules) (first_table (most_of version)) ss) k.1;
      numbers = λ d. omega (arith, all_raised ss (opening_under version rules) w d run);
    }

pub no_wake_lost : (version : ImageVersion) (ss : List (ℕ × Move)) (w : World) → Leads (opening_world version) ss w
    → IsExplainedByMoves version ss w
no_wake_lost version ss w run = safe_no_wake_lost version (version_rules version) (version_safe version) ss w run
