-- How many steps a thread has left at most.
use Rattle.std.proofs.Common.{ℕ, zero, suc, ◌+◌, ◌<◌, ◌≤◌, ◌==◌, Bool, true, false, List, Option, arith, sym}
use Rattle.std.proofs.Common.{◌≡◌, ◌∙◌, refl, ap, Some, None}
use Rattle.std.specs.Prelude.{if◌then◌else◌}
use Rattle.locals.specs.Looks as M
use Rattle.meaning.specs.Labels.{Faulted, Killed}
use Rattle.protocol.specs.Requests.{request}
use Rattle.proof_templates.specs.Asking.{machine_request}
use Rattle.proof_simulation.proofs.Ranking.{spare_at}
use Rattle.locals.specs.Threads.{Thread}
use Rattle.program.specs.Trees.{Program}
use Rattle.program.specs.WellFormed.{WellFormed}
use Rattle.meaning.specs.Values.{Variables}
use Rattle.meaning.specs.Processes.{Process}
use Rattle.protocol.specs.Points.{ToExit, ToWait, Point, Unmade, Runs, EnterPends, EnterTries, ReenterPends}
use Rattle.protocol.specs.Points.{ReenterTries, TakeReads, TakeMarks, TakeSleeps, TakeTries, GotReads, GotLinks}
use Rattle.protocol.specs.Points.{GotHeads, GotUnpends, WaitReads, NotifyAdds, NotifyWakes, BroadcastAdds}
use Rattle.protocol.specs.Points.{BroadcastMarks, BroadcastReads, BroadcastMoves, JoinReads, JoinSleeps, JoinLearns}
use Rattle.protocol.specs.Points.{JoinTakes, LeavePends, LeaveReads, LeaveHeads, LeaveSwaps, LeaveWakes, HasLeft, Dies}
use Rattle.protocol.specs.Points.{MeetsClaimed, LeaveLoads, LeaveKeeps, LeaveClears, Walks, ClearsId, LastWakes, HasEnded}
use Rattle.protocol.specs.Served.{is_pending}
use Rattle.protocol.specs.World.{World}
use Rattle.proof_thread.specs.Following.{Build}
use Rattle.refinement.specs.Built.{build_of}
use Rattle.refinement.specs.Pace.{stretch_length}
use Rattle.proof_simulation.specs.Standing.{StandsAt, unmade, works, returns, inside, faults, killed, refused, reads}
use Rattle.proof_simulation.specs.Standing.{sleeps, learns, takes, walks, clears, wakes, rests}
use Rattle.proof_simulation.specs.Ranks.{rank, steps_left, more_steps, most_left}
use Rattle.words.specs.declared.version.ImageVersion.{ImageVersion}
use Rattle.words.specs.declared.version.ImageVersion.TheVariants.{One, Two, Linux}
use Rattle.protocol.specs.Requests.{given_up}
use Rattle.protocol.specs.Rules.{release_of}

either_few : (b : Bool) (x y n : ℕ) → x ≤ n → y ≤ n → (if b then x else y) ≤ n
either_few true x y n h g = h
either_few false x y n h g = g

rank_few : (more : ℕ) (w : World) → 2 ≤ more → (pt : Point) → rank more w pt ≤ more + 68
rank_few more w big (EnterPends m) = omega (arith, big)
rank_few more w big (EnterTries m) = omega arith
rank_few more w big (ReenterPends m) = omega (arith, big)
rank_few more w big (ReenterTries m) = omega arith
rank_few more w big (TakeReads m k) = omega arith
rank_few more w big (TakeMarks m v k) = either_few (w.lock m == v) 18 52 _ (omega arith) (omega arith)
rank_few more w big (TakeSleeps m v k) = either_few (w.lock m == v) 4 52 _ (omega arith) (omega arith)
rank_few more w big (TakeTries m v k) = either_few (w.lock m == v) 4 52 _ (omega arith) (omega arith)
rank_few more w big (GotReads m v) = omega arith
rank_few more w big (GotLinks m v h) = omega arith
rank_few more w big (GotHeads m v) = omega arith
rank_few more w big (GotUnpends m v) = omega arith
rank_few more w big (WaitReads c) = omega (arith, big)
rank_few more w big (NotifyAdds c) = omega arith
rank_few more w big (NotifyWakes c) = omega arith
rank_few more w big (BroadcastAdds c) = omega arith
rank_few more w big (BroadcastMarks c) = omega arith
rank_few more w big (BroadcastReads c) = omega arith
rank_few more w big (BroadcastMoves c s) = omega arith
rank_few more w big (JoinReads q) = either_few (w.id q == 0) 4 35 _ (omega arith) (omega arith)
rank_few more w big (JoinSleeps q) = omega arith
rank_few more w big (JoinLearns q end) = omega arith
rank_few more w big (JoinTakes q end) = omega arith
rank_few more w big (LeavePends m r) = omega arith
rank_few more w big (LeaveReads m r) = omega arith
rank_few more w big (LeaveHeads m h r) = omega arith
rank_few more w big (LeaveSwaps m r) = omega arith
rank_few more w big (LeaveLoads m r) = omega arith
rank_few more w big (LeaveKeeps m v r) = omega arith
rank_few more w big (LeaveClears m r) = omega arith
rank_few more w big (LeaveWakes m ToExit) = omega arith
rank_few more w big (LeaveWakes m (ToWait c s)) = omega (arith, big)
rank_few more w big (HasLeft m ToExit) = omega arith
rank_few more w big (HasLeft m (ToWait c s)) = omega arith
rank_few more w big (Dies cause x) = omega arith
rank_few more w big (Walks zero x end) = omega arith
rank_few more w big (Walks (suc m) x end) = either_few (is_pending x m) 4 1 _ (omega arith) (omega arith)
rank_few more w big (ClearsId end) = omega arith
rank_few more w big (LastWakes end) = omega arith
rank_few more w big Unmade = omega arith
rank_few more w big Runs = omega arith
rank_few more w big (MeetsClaimed q) = omega arith
rank_few more w big (HasEnded end) = omega arith

either_some : (b : Bool) (x y n : ℕ) → n ≤ x → n ≤ y → n ≤ (if b then x else y)
either_some true x y n h g = h
either_some false x y n h g = g

-- before a call so many steps are left
pub rank_some : (more : ℕ) (w : World) (pt : Point) → spare_at pt ≡ 3 → 4 ≤ rank more w pt
rank_some more w (TakeSleeps m v k) h = either_some (w.lock m == v) 4 52 _ (omega arith) (omega arith)
rank_some more w (HasLeft m (ToWait c s)) h = omega arith
rank_some more w (LeaveWakes m ToExit) h = omega arith
rank_some more w (LeaveWakes m (ToWait c s)) h = omega arith
rank_some more w (NotifyWakes c) h = omega arith
rank_some more w (BroadcastMoves c s) h = omega arith
rank_some more w (JoinSleeps q) h = omega arith
rank_some more w pt h = absurd cc

abbrev pub is_call : M.Request → Bool
is_call (M.AskWait a expected) = true
is_call (M.AskWake a n) = true
is_call (M.AskRequeue a b n m expected) = true
is_call request = false

abbrev asks_call : Option M.Request → Bool
asks_call None = false
asks_call (Some r) = is_call r

swap_call : (v : ImageVersion) (p : Program) (t m : ℕ)
    → asks_call (machine_request p (given_up (release_of v) t m)) ≡ false
swap_call One p t m = refl
swap_call Two p t m = refl
swap_call Linux p t m = refl

-- a point whose request is a call has as many to spare as its pieces
pub call_spare : (p : Program) (t : ℕ) (pt : Point) (asks : M.Request)
    → machine_request p (request (release_of p.version) t pt) ≡ Some asks
    → is_call asks ≡ true → spare_at pt ≡ 3
call_spare p t (TakeSleeps m v k) asks e h = refl
call_spare p t (HasLeft m (ToWait c s)) asks e h = refl
call_spare p t (LeaveWakes m k) asks e h = refl
call_spare p t (NotifyWakes c) asks e h = refl
call_spare p t (BroadcastMoves c s) asks e h = refl
call_spare p t (JoinSleeps q) asks e h = refl
call_spare p t (LeaveSwaps m k) asks e h = absurd (let isnt = sym (swap_call p.version p t m) ∙ ap asks_call e ∙ h in
    cc)
call_spare p t (Dies (Faulted fault) x) asks e h = absurd (let isnt = ap asks_call e ∙ h in cc)
call_spare p t (Dies Killed x) asks e h = absurd (let isnt = ap asks_call e ∙ h in cc)
call_spare p t pt asks e h = absurd (let isnt = ap asks_call e ∙ h in cc)

module _ (b : Build) (v : Variables) (t : ℕ) (w : World) where
  at_most : (pt : Point) → rank (more_steps b) w pt ≤ more_steps b + 68
  at_most pt = rank_few (more_steps b) w (omega arith) pt

  pub left_few : {x : Option Thread} {q : Option Process} {pt : Point} {l : List ℕ} (stand : StandsAt b v t x q pt l)
      → steps_left b v t w stand ≤ most_left b
  left_few unmade = omega arith
  left_few (works left few h s) = omega (arith, few)
  left_few (returns r fits h mark) = omega arith
  left_few (inside {pt = pt} left k u few walk fits same ne stands) = let r = at_most pt in omega (arith, few, r)
  left_few (faults fault) = omega arith
  left_few (killed of) = omega arith
  left_few (refused left few h o s) = omega (arith, few)
  left_few (reads {child = child} left few c j h) = let r = at_most (JoinReads child) in omega (arith, few, r)
  left_few (sleeps left few c j h) = omega (arith, few)
  left_few (learns left few c j h) = omega (arith, few)
  left_few (takes left few c j h) = omega (arith, few)
  left_few (walks {e = zero} phase is short end of) = omega arith
  left_few (walks {e = suc m} {x = x} phase is short end of) =
      either_few (is_pending x m) 4 1 _ (omega arith) (omega arith)
  left_few clears = omega arith
  left_few wakes = omega arith
  left_few rests = omega arith

-- a stretch is longer
pub left_short : (p : Program) (w : WellFormed p) (made : ℕ) → most_left (build_of p w made) < stretch_length p
left_short p w made = omega arith
