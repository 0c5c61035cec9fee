-- What the shared words answer to a request, and where the thread stands after each answer.
use Rattle.std.specs.Prelude.{◌≡◌, ◌≢◌, ℕ, zero, suc, ◌+◌, ◌%◌, ◌==◌, if◌then◌else◌, Some, List, ◌∷◌, ◌⊎◌}
use Rattle.words.specs.Outcomes.{cause_number}
use Rattle.words.specs.Updates.{put}
use Rattle.meaning.specs.Labels.{End, Aborted}
use Rattle.protocol.specs.Word.{owner, waiters, with_waiters, died_word}
use Rattle.protocol.specs.Rules.{ExitRule, WakesAlways, WakesUnowned, WakesUncovered}
use Rattle.protocol.specs.Points.{ToEnter, ToReenter, ToResume, ToExit, ToWait, Spot, OnLock, OnId, Point, Runs}
use Rattle.protocol.specs.Points.{EnterPends, EnterTries, ReenterPends, ReenterTries, TakeReads, TakeMarks}
use Rattle.protocol.specs.Points.{TakeSleeps, TakeTries, GotReads, GotLinks, GotHeads, GotUnpends, WaitReads}
use Rattle.protocol.specs.Points.{NotifyAdds, NotifyWakes, BroadcastAdds, BroadcastMarks, BroadcastReads}
use Rattle.protocol.specs.Points.{BroadcastMoves, JoinReads, JoinSleeps, JoinLearns, JoinTakes, LeavePends}
use Rattle.protocol.specs.Points.{LeaveReads, LeaveHeads, LeaveSwaps, LeaveWakes, HasLeft, Dies, Walks, ClearsId}
use Rattle.protocol.specs.Points.{LastWakes, HasEnded}
use Rattle.protocol.specs.World.{World, awake_after, requeued_sleep, tail, IsWake}
use Rattle.protocol.specs.Cells.{LockOf, IdOf, OutcomeOf, cell, write, cell_of}
use Rattle.protocol.specs.Requests.{Request, AskNothing, AskLoad, AskStore, AskSwap, AskCompareSwap, AskOrWaiters}
use Rattle.protocol.specs.Requests.{AskAddOne, AskAdd, AskWait, AskWakeOne, AskRequeue, AskFault, AskExitStep}

-- a wake of one sleeper, and what becomes of the world
pub record WakesOne (w : World) (s : Spot) (w' : World) : Type 0 where
  pub woken : List ℕ
  pub wake : IsWake w.asleep s 1 woken
  pub awake : w' ≡ record w { asleep = awake_after w.asleep woken }

-- at a pending entry that the thread doesn't own one sleeper is woken, where the rule of exits says so
abbrev pub Foreign : ExitRule → World → ℕ → World → Type 0
Foreign WakesAlways w m w' = WakesOne w (OnLock m) w'
Foreign WakesUnowned w m w' =
    ((owner (w.lock m) ≡ 0) × WakesOne w (OnLock m) w') ⊎ ((owner (w.lock m) ≢ 0) × (w' ≡ w))
Foreign WakesUncovered w m w' =
    (((owner (w.lock m) ≡ 0) ⊎ (waiters (w.lock m) ≡ 0)) × WakesOne w (OnLock m) w')
    ⊎ (((owner (w.lock m) ≢ 0) × (waiters (w.lock m) ≢ 0)) × (w' ≡ w))

-- at its owner's exit a lock is marked as abandoned, and one sleeper is woken where it had waiters
abbrev pub Abandon : World → ℕ → ℕ → World → Type 0
Abandon w t m w' = (owner (w.lock m) ≡ t)
    × (((waiters (w.lock m) ≡ 0) × (w' ≡ write w (LockOf m) (died_word (w.lock m))))
    ⊎ ((waiters (w.lock m) ≢ 0) × WakesOne (write w (LockOf m) (died_word (w.lock m))) (OnLock m) w'))

-- a step of an exit over the robust list (robust-futex ABI), by the phase that the point names
abbrev pub ExitDoes : World → ℕ → Point → World → Type 0
ExitDoes w t (Walks zero x end) w' = ((w.pending t ≡ 0) × (w' ≡ w))
    ⊎ ((m : ℕ) × (w.pending t ≡ suc m)
    × (((owner (w.lock m) ≢ t) × Foreign w.rules.exit w m w') ⊎ Abandon w t m w'))
ExitDoes w t (Walks (suc m) x end) w' = ((w.pending t ≡ suc m) × (w' ≡ w))
    ⊎ (((owner (w.lock m) ≢ t) × (w' ≡ w)) ⊎ ((w.pending t ≢ suc m) × Abandon w t m w'))
ExitDoes w t (ClearsId end) w' = w' ≡ write w (IdOf t) 0
ExitDoes w t (LastWakes end) w' = WakesOne w (OnId t) w'
ExitDoes w t p w' = ⊥

-- what the shared words answer to the request of thread t, and what becomes of them
abbrev pub Serves : World → ℕ → Point → Request → (answer : ℕ) → World → Type 0
Serves w t p AskNothing r w' = ⊥
Serves w t p (AskLoad a) r w' = (r ≡ cell w a) × (w' ≡ w)
Serves w t p (AskStore a v) r w' = w' ≡ write w a v
Serves w t p (AskSwap a v) r w' = (r ≡ cell w a) × (w' ≡ write w a v)
Serves w t p (AskCompareSwap a x v) r w' =
    (r ≡ cell w a) × (((cell w a ≡ x) × (w' ≡ write w a v)) ⊎ ((cell w a ≢ x) × (w' ≡ w)))
Serves w t p (AskOrWaiters a) r w' = (r ≡ cell w a) × (w' ≡ write w a (with_waiters (cell w a)))
Serves w t p (AskAddOne a) r w' = (r ≡ cell w a) × (w' ≡ write w a (cell w a + 1))
Serves w t p (AskAdd a v) r w' = (r ≡ cell w a) × (w' ≡ write w a ((cell w a + v) % 4294967296))
Serves w t p (AskWait s x) r w' =
    ((cell w (cell_of s) ≡ x) × (w' ≡ record w {
      asleep =
          put w.asleep t (Some s);
    })) ⊎ ((cell w (cell_of s) ≢ x) × (w' ≡ w))
Serves w t p (AskWakeOne s) r w' = WakesOne w s w'
Serves w t p (AskRequeue c x) r w' =
    ((w.sequence c ≡ x) × (w' ≡ record w { asleep = requeued_sleep w.asleep c })) ⊎ ((w.sequence c ≢ x) × (w' ≡ w))
Serves w t p (AskFault cause) r w' = (r ≡ w.head t) × (w' ≡ write w (OutcomeOf t) (cause_number cause))
Serves w t p AskExitStep r w' = (r ≡ 0) × ExitDoes w t p w'

-- where the thread stands after the answer; how a joined process is over, and an entry's link, are the world's
abbrev pub next : World → End → Point → (answer : ℕ) → Point
next w e (EnterPends m) r = EnterTries m
next w e (EnterTries m) r = if r == 0 then GotReads m 0 else TakeReads m ToEnter
next w e (ReenterPends m) r = ReenterTries m
next w e (ReenterTries m) r = if r == 0 then GotReads m 0 else TakeReads m ToReenter
next w e (TakeReads m k) r = if owner r == 0 then TakeTries m r k else TakeMarks m r k
next w e (TakeMarks m v k) r = if r == v then TakeSleeps m (with_waiters v) k else TakeReads m k
next w e (TakeSleeps m v k) r = TakeReads m k
next w e (TakeTries m v k) r = if r == v then GotReads m v else TakeReads m k
next w e (GotReads m v) r = GotLinks m v r
next w e (GotLinks m v h) r = GotHeads m v
next w e (GotHeads m v) r = GotUnpends m v
next w e (GotUnpends m v) r = Runs
next w e (WaitReads c) r = LeavePends c.monitor (ToWait c r)
next w e (NotifyAdds c) r = NotifyWakes c
next w e (NotifyWakes c) r = Runs
next w e (BroadcastAdds c) r = BroadcastMarks c
next w e (BroadcastMarks c) r = BroadcastReads c
next w e (BroadcastReads c) r = BroadcastMoves c r
next w e (BroadcastMoves c s) r = Runs
next w e (JoinReads q) r = if r == 0 then JoinLearns q e else JoinSleeps q
next w e (JoinSleeps q) r = JoinReads q
next w e (JoinLearns q end) r = if r == 16 then JoinTakes q end else Runs
next w e (JoinTakes q end) r = Runs
next w e (LeavePends m k) r = LeaveReads m k
next w e (LeaveReads m k) r = LeaveHeads m r k
next w e (LeaveHeads m h k) r = LeaveSwaps m k
next w e (LeaveSwaps m k) r = if waiters r == 0 then HasLeft m k else LeaveWakes m k
next w e (LeaveWakes m k) r = HasLeft m k
next w e (HasLeft m ToExit) r = Runs
next w e (HasLeft m (ToWait c s)) r = TakeReads m (ToResume c)
next w e (Dies cause x) r = Walks r x (Aborted cause)
next w e (Walks zero x end) r = ClearsId end
next w e (Walks (suc m) x end) r = Walks (w.link m) x end
next w e (ClearsId end) r = LastWakes end
next w e (LastWakes end) r = HasEnded end
next w e p r = p

-- and its list
abbrev pub next_list : Point → List ℕ → List ℕ
next_list (GotHeads m v) l = m ∷ l
next_list (LeaveHeads m h r) l = tail l
next_list (Walks (suc m) x end) l = tail l
next_list p l = l
