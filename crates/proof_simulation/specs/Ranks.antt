-- At most how many steps a thread takes, where no other steps in between, till an action of its process, or till it
-- sleeps or ends.
use Rattle.std.specs.Prelude.{ℕ, zero, suc, ◌+◌, ◌==◌, List, Option, if◌then◌else◌}
use Rattle.locals.specs.Threads.{Thread}
use Rattle.meaning.specs.Values.{Variables}
use Rattle.meaning.specs.Processes.{Process}
use Rattle.protocol.specs.Points.{ToExit, ToWait, Point, EnterPends, EnterTries, ReenterPends, ReenterTries, TakeReads}
use Rattle.protocol.specs.Points.{TakeMarks, TakeSleeps, TakeTries, GotReads, GotLinks, GotHeads, GotUnpends, WaitReads}
use Rattle.protocol.specs.Points.{NotifyAdds, NotifyWakes, BroadcastAdds, BroadcastMarks, BroadcastReads}
use Rattle.protocol.specs.Points.{BroadcastMoves, JoinReads, JoinSleeps, JoinLearns, JoinTakes, LeavePends, LeaveReads}
use Rattle.protocol.specs.Points.{LeaveHeads, LeaveSwaps, LeaveWakes, HasLeft, Dies, Walks, ClearsId, LastWakes}
use Rattle.protocol.specs.Served.{is_pending}
use Rattle.protocol.specs.World.{World}
use Rattle.proof_thread.specs.Following.{Build}
use Rattle.proof_thread.specs.Builds.{most_steps}
use Rattle.proof_simulation.specs.Standing.{StandsAt, unmade, works, returns, inside, faults, killed, refused, reads}
use Rattle.proof_simulation.specs.Standing.{sleeps, learns, takes, walks, clears, wakes, rests}

-- from its own code to the first request of the longest template
abbrev pub before_template : ℕ
before_template = 86

-- in a template: from the request of a point on, with 17 for a request and the local steps behind it; a lock word that
-- was seen and is another by now leads back to its reading; and in the end so many more to the next template
abbrev pub rank : ℕ → World → Point → ℕ
rank more w (EnterPends m) = 69
rank more w (EnterTries m) = 52
rank more w (ReenterPends m) = 69
rank more w (ReenterTries m) = 52
rank more w (TakeReads m k) = 35
rank more w (TakeMarks m v k) = if w.lock m == v then 18 else 52
rank more w (TakeSleeps m v k) = if w.lock m == v then 4 else 52
rank more w (TakeTries m v k) = if w.lock m == v then 4 else 52
rank more w (GotReads m v) = more + 68
rank more w (GotLinks m v h) = more + 51
rank more w (GotHeads m v) = more + 34
rank more w (GotUnpends m v) = more + 17
rank more w (WaitReads c) = 69
rank more w (NotifyAdds c) = 18
rank more w (NotifyWakes c) = 4
rank more w (BroadcastAdds c) = 52
rank more w (BroadcastMarks c) = 35
rank more w (BroadcastReads c) = 18
rank more w (BroadcastMoves c s) = 4
rank more w (JoinReads q) = if w.id q == 0 then 4 else 35
rank more w (JoinSleeps q) = 18
rank more w (JoinLearns q end) = more + 34
rank more w (JoinTakes q end) = more + 17
rank more w (LeavePends m r) = 52
rank more w (LeaveReads m r) = 35
rank more w (LeaveHeads m h r) = 18
rank more w (LeaveSwaps m r) = 4
rank more w (LeaveWakes m ToExit) = more + 34
rank more w (LeaveWakes m (ToWait c s)) = 69
rank more w (HasLeft m ToExit) = more + 17
rank more w (HasLeft m (ToWait c s)) = 52
rank more w (Dies cause x) = 5
rank more w (Walks zero x end) = 3
rank more w (Walks (suc m) x end) = if is_pending x m then 4 else 1
rank more w (ClearsId end) = 2
rank more w (LastWakes end) = 1
rank more w pt = 0

-- the steps that a template may lead to in the end
abbrev pub more_steps : Build → ℕ
more_steps b = most_steps b + before_template

-- how many steps a thread has left
abbrev pub steps_left : (b : Build) (v : Variables) (t : ℕ) (w : World) → {x : Option Thread} {q : Option Process}
    {pt : Point} {l : List ℕ} → StandsAt b v t x q pt l → ℕ
steps_left b v t w unmade = 0
steps_left b v t w (works left few h s) = left + before_template
steps_left b v t w (returns r fits h mark) = 5
steps_left b v t w (inside {pt = pt} left k u few walk fits same ne stands) = left + rank (more_steps b) w pt
steps_left b v t w (faults fault) = 5
steps_left b v t w (killed of) = 5
steps_left b v t w (refused left few h o s) = left + 5
steps_left b v t w (reads {child = child} left few c j h) = left + rank (more_steps b) w (JoinReads child)
steps_left b v t w (sleeps left few c j h) = left + 18
steps_left b v t w (learns left few c j h) = left + (more_steps b + 34)
steps_left b v t w (takes left few c j h) = left + (more_steps b + 17)
steps_left b v t w (walks {e = zero} phase is short end of) = 3
steps_left b v t w (walks {e = suc m} {x = x} phase is short end of) = if is_pending x m then 4 else 1
steps_left b v t w clears = 2
steps_left b v t w wakes = 1
steps_left b v t w rests = 0

-- the most of them
abbrev pub most_left : Build → ℕ
most_left b = more_steps b + 84
