-- What every moment keeps, and what the mover of a move has.
use Rattle.std.proofs.Common.{◌≡◌, ◌≢◌, ℕ, ◌<◌, ◌≤◌, Bool, true, false, ◌==◌, ◌||◌, List, ◌∷◌, inl, inr, refl, sym}
use Rattle.std.proofs.Common.{ap, ◌∙◌, subst, arith}
use Rattle.std.proofs.lemmas.Bool.{cases_eq, false≢true, eq-eqb, ne_eqb, or_left}
use Rattle.program.specs.declared.kinds.Member.{Member}
use Rattle.meaning.specs.Table.{HeldBy, Table}
use Rattle.protocol.specs.Word.{owner}
use Rattle.protocol.specs.Points.{Purpose, ToEnter, ToReenter, ToResume, Entry, NoEntry, Owned, Unowned, Point}
use Rattle.protocol.specs.Points.{TakeReads, TakeMarks, TakeSleeps, TakeTries, LeaveWakes, Dies, Walks, entry_at}
use Rattle.protocol.specs.Points.{taking_entry, Thread, thread_at}
use Rattle.protocol.specs.World.{World, mem, tail, Distinct}
use Rattle.protocol.specs.Moves.{Move}
use Rattle.protocol.specs.Origins.{from}
use Rattle.protocol.specs.Steps.{Can}
use Rattle.protocol.specs.Runs.{ClaimIs}
use Rattle.protocol.proofs.Roles.{own, owing, takes, point_helps, point_sleeps, Listed, holds, may_sleep, Knows}
use Rattle.protocol.proofs.Lock.{Inv, tie_held, one_holder}
use Rattle.protocol.proofs.Chains.{ChainAt, Chains}
use Rattle.protocol.proofs.Waits.{HomeAt, Homes, Fresh, Marks}
use Rattle.protocol.proofs.Conds.{StandsBefore, Conds}
use Rattle.protocol.proofs.Joins.{Joiners}
use Rattle.protocol.proofs.Pend.{Pends}
use Rattle.protocol.proofs.Processes.{Threads, Ends, Refusals}
use Rattle.protocol.proofs.Bits.{Styles, Bits, Plain}
use Rattle.protocol.specs.Rules.{AreSafe}

pub record Good (w : World) (T : Table) : Type 0 where
  pub locks : Inv w.lock w.asleep w.at T.hold
  pub chains : Chains w.link w.head w.at
  pub pends : Pends w.pending w.at
  pub homes : Homes w.at
  pub fresh : Fresh w.sequence w.at
  pub marked_locks : Marks w.lock w.at
  pub conds : Conds w.sequence w.asleep w.at T.waits
  pub joiners : Joiners w.id w.claim w.asleep w.at
  pub threads : Threads w.most w.made w.at
  pub ends : Ends w.outcome w.result w.at T.over
  pub claims : (q : ℕ) → ClaimIs (T.claimed q) (w.claim q)
  pub refusals : Refusals T.claimed w.at
  pub made : T.made ≡ w.made
  pub most : T.most ≡ w.most
  -- by rules that lose no wake
  pub safe_rules : AreSafe w.rules
  pub styles : Styles w.rules.release w.at
  pub bits : Bits w.rules.release w.lock w.asleep
  pub plain : Plain w.rules.release w.lock T.hold

-- the mover
pub stands_at : (w : World) (t : ℕ) (m : Move) → Can w t m → w.at t ≡ thread_at (from m) (w.at t).list
stands_at w t m can = ap (λ q. thread_at q (w.at t).list) can.stands

pub known_at : (w : World) (T : Table) (t : ℕ) (m : Move) → Good w T → Can w t m
    → Distinct (w.at t).list × Listed (from m) (w.at t).list
unfolding Knows
known_at w T t m inv can = subst Knows (stands_at w t m can) (inv.locks.knows t)

pub chain_at : (w : World) (T : Table) (t : ℕ) (m : Move) → Good w T → Can w t m
    → ChainAt w.link (w.head t) (from m) (w.at t).list
chain_at w T t m inv can = subst (λ y. ChainAt w.link (w.head t) y.point y.list) (stands_at w t m can)
    (inv.chains.chain t)

-- tests
pub or_again : (a b : Bool) → ((a || b) || a) ≡ (b || a)
or_again true true = refl
or_again true false = refl
or_again false true = refl
or_again false false = refl

pub or_absorb : (a b : Bool) → ((a || b) || a) ≡ ((a || b) || false)
or_absorb true b = refl
or_absorb false true = refl
or_absorb false false = refl

pub listed_again : (x e : ℕ) (l : List ℕ) → l ≡ e ∷ tail l → (mem x l || (x == e)) ≡ (mem x (tail l) || (x == e))
listed_again x e l is = ap (λ k. mem x k || (x == e)) is ∙ or_again (x == e) (mem x (tail l))

pub listed_too : (x e : ℕ) (l : List ℕ) → l ≡ e ∷ tail l → (mem x l || (x == e)) ≡ (mem x l || false)
listed_too x e l is = ap (λ k. mem x k || (x == e)) is ∙ or_absorb (x == e) (mem x (tail l))
    ∙ sym (ap (λ k. mem x k || false) is)

-- of a monitor that is on the list anywhere
pub in_anyway : (x e : ℕ) (l : List ℕ) → mem e l ≡ true → (mem x l || (x == e)) ≡ (mem x l || false)
in_anyway x e l h = elim (cases_eq x e) [
  | inl q ↦ or_left (mem x l) (x == e) (ap (λ y. mem y l) q ∙ h)
      ∙ sym (or_left (mem x l) false (ap (λ y. mem y l) q ∙ h))
  | inr n ↦ ap (λ b. mem x l || b) (ne_eqb x e n)
]

pub own_other : (a : ℕ) (y : Entry) → y ≢ Owned a → own y a ≡ false
own_other a NoEntry n = refl
own_other a (Owned e) n = ne_eqb a e (λ q. n (ap Owned (sym q)))
own_other a (Unowned e) n = refl

pub or_miss : (x e : ℕ) (b : Bool) → x ≢ e → (b || (x == e)) ≡ (b || false)
or_miss x e b n = ap (λ c. b || c) (ne_eqb x e n)

pub tail_miss : (x a : ℕ) (l : List ℕ) (b : Bool) → l ≡ a ∷ tail l → x ≢ a → (mem x (tail l) || b) ≡ (mem x l || b)
tail_miss x a l b is n = sym (ap (λ k. mem x k || b) is ∙ ap (λ c. (c || mem x (tail l)) || b) (ne_eqb x a n))

pub head_in : (a : ℕ) (l : List ℕ) (b : Bool) → l ≡ a ∷ tail l → (mem a l || b) ≡ true
head_in a l b is = or_left (mem a l) b (ap (mem a) is ∙ or_left (a == a) (mem a (tail l)) (eq-eqb a a refl))

pub tail_out : (a : ℕ) (l : List ℕ) (b : Bool) → l ≡ a ∷ tail l → Distinct l → b ≡ false → (mem a (tail l) || b) ≡ false
tail_out a l b is d e = let d' : Distinct (a ∷ tail l) = subst Distinct is d in cc

pub tail_known : (a : ℕ) (l : List ℕ) → l ≡ a ∷ tail l → Distinct l → Distinct (tail l)
tail_known a l is d = let d' : Distinct (a ∷ tail l) = subst Distinct is d in d'.1

-- a killed thread helps by its pending entry
left_for : (k : Purpose) (m x : ℕ) → takes k m x ≡ true → owing (taking_entry m k) x ≡ true
left_for ToEnter m x h = h
left_for ToReenter m x h = absurd (false≢true h)
left_for (ToResume c) m x h = h

pub helps_left : (p : Point) (x : ℕ) → point_helps p x ≡ true → owing (entry_at p) x ≡ true
helps_left (TakeReads e k) x h = left_for k e x h
helps_left (TakeMarks e v k) x h = left_for k e x h
helps_left (TakeSleeps e v k) x h = left_for k e x h
helps_left (TakeTries e v k) x h = left_for k e x h
helps_left (LeaveWakes e m) x h = h
helps_left (Dies cause y) x h = h
helps_left (Walks a y end) x h = h
helps_left p x h = absurd (false≢true h)

-- what the mover holds
pub mine_at : (w : World) (T : Table) (t : ℕ) (m : Move) → Good w T → Can w t m → (e : ℕ)
    → (mem e (w.at t).list || own (entry_at (from m)) e) ≡ true → T.hold e ≡ HeldBy t
unfolding holds
mine_at w T t m inv can e h = inv.locks.held e t (subst (λ y. holds y e ≡ true) (sym (stands_at w t m can)) h)

pub owned_word : (w : World) (T : Table) (t : ℕ) (m : Move) → Good w T → Can w t m → (e : ℕ)
    → (mem e (w.at t).list || own (entry_at (from m)) e) ≡ true → owner (w.lock e) ≢ 0
owned_word w T t m inv can e h =
    let a = tie_held (T.hold e) (w.lock e) t (inv.locks.tie e) (mine_at w T t m inv can e h)
    in λ z. omega (arith, a.0, a.1, z)

pub mine_of : (w : World) (t : ℕ) (m : Move) → Can w t m → (e : ℕ)
    → (mem e (w.at t).list || own (entry_at (from m)) e) ≡ true → holds (w.at t) e ≡ true
unfolding holds
mine_of w t m can e h = subst (λ y. holds y e ≡ true) (sym (stands_at w t m can)) h

-- a thread's number is below the owner's limit
pub small : (w : World) (T : Table) (t : ℕ) → Good w T → t ≤ w.made → t < 1073741824
small w T t inv h = omega (arith, inv.threads.few, inv.threads.bound, h)

-- who sleeps on a condition stands before its monitor's lock
stands_before : (p : Thread) (c : Member) (m : ℕ) → p.point ≡ TakeReads m (ToResume c) → may_sleep p m ≡ true
unfolding may_sleep
stands_before p c m is = ap (λ y. point_sleeps y m) is ∙ eq-eqb m m refl

pub home_waits : (p : Thread) (c : Member) → StandsBefore p c → HomeAt p.point → may_sleep p c.monitor ≡ true
home_waits p c s h =
    let e : c.monitor ≡ s.monitor = subst HomeAt s.stands h in
    rw e (stands_before p c s.monitor s.stands)

-- a lock has one owner
pub one_owner : (w : World) (T : Table) (e t u : ℕ) → Good w T → holds (w.at t) e ≡ true → holds (w.at u) e ≡ true
    → u ≡ t
one_owner w T e t u inv mine yours = one_holder w.lock w.asleep w.at T.hold e t u inv.locks mine yours
