-- Where a thread stands in the templates of a lock, at each of their points.
use Rattle.std.specs.Prelude.{ℕ, ◌+◌, ◌-◌, ◌≡◌, ◌≢◌, List, [], ◌∷◌, Option}
use Rattle.words.specs.Process.{process_word}
use Rattle.locals.specs.declared.frame.Locals.{Locals}
use Rattle.locals.specs.declared.frame.Frame.{Frame}
use Rattle.locals.specs.Threads.{Thread, Runs as Runs'}
use Rattle.program.specs.Trees.{Program}
use Rattle.program.specs.declared.kinds.Member.{Member}
use Rattle.lowering.specs.Layout.{link_word, lock_word_address, member_address}
use Rattle.protocol.specs.Word.{with_waiters, owner_died_bit}
use Rattle.protocol.specs.Points.{Purpose, ToEnter, ToReenter, Point, Runs, EnterPends, EnterTries, ReenterPends}
use Rattle.protocol.specs.Points.{ReenterTries, TakeReads, TakeMarks, TakeSleeps, TakeTries, GotReads, GotLinks}
use Rattle.protocol.specs.Points.{GotHeads, GotUnpends, ToExit, LeavePends, LeaveReads, LeaveHeads, LeaveSwaps}
use Rattle.protocol.specs.Points.{LeaveWakes, HasLeft, WaitReads, ToWait, ToResume}
use Rattle.protocol.specs.Memory.{entry_address}
use Rattle.proof_thread.specs.Following.{result_operands}
use Rattle.proof_templates.specs.Layout.{place}
use Rattle.protocol.specs.Rules.{ReleaseRule, DropsOwner}

-- locals of these values, with a word in the templates' own
abbrev pub template_locals : List ℕ → ℕ → Locals
template_locals values word = record { values = values; scratch = word }

-- in the taking of a monitor's lock, from a place on, and in what follows it, till the thread goes on in the monitor,
-- or with the recovery of an abandoned one
pub data Takes (p : Program) (t m : ℕ) (k : Purpose) (first : ℕ) (values : List ℕ)
    (fs : List Frame) : Point → Thread → Type 0 where
  reads : (word : ℕ) → Takes p t m k first values fs (TakeReads m k)
      (Runs' (first + 1) (lock_word_address p m ∷ []) (template_locals values word) fs)
  marks : (v : ℕ) → Takes p t m k first values fs (TakeMarks m v k)
      (Runs' (first + 12) (with_waiters v ∷ v ∷ lock_word_address p m ∷ []) (template_locals values v) fs)
  sleeps : (v : ℕ) → Takes p t m k first values fs (TakeSleeps m (with_waiters v) k)
      (Runs' (first + 20) (with_waiters v ∷ lock_word_address p m ∷ []) (template_locals values v) fs)
  tries : (v : ℕ) → Takes p t m k first values fs (TakeTries m v k)
      (Runs' (first + 28) (with_waiters t ∷ v ∷ lock_word_address p m ∷ []) (template_locals values v) fs)
  heads : (v : ℕ) → Takes p t m k first values fs (GotReads m v)
      (Runs' (first + 35) (process_word t 0 ∷ link_word p m ∷ []) (template_locals values v) fs)
  links : (v h : ℕ) → Takes p t m k first values fs (GotLinks m v h)
      (Runs' (first + 36) (entry_address (place p) h ∷ link_word p m ∷ []) (template_locals values v) fs)
  lists : (v : ℕ) → Takes p t m k first values fs (GotHeads m v)
      (Runs' (first + 40) (link_word p m ∷ process_word t 0 ∷ []) (template_locals values v) fs)
  unpends : (v : ℕ) → Takes p t m k first values fs (GotUnpends m v)
      (Runs' (first + 44) (0 ∷ process_word t 1 ∷ []) (template_locals values v) fs)
  enters : (v : ℕ) → owner_died_bit v ≡ 0
      → Takes p t m k first values fs Runs (Runs' (first + 50) [] (template_locals values v) fs)
  recovers : (v : ℕ) → owner_died_bit v ≢ 0
      → Takes p t m k first values fs Runs (Runs' (first + 49) [] (template_locals values v) fs)

-- in the entering of a monitor: at first the pending word is set, and the lock tried
pub data EntersAt (p : Program) (t m base : ℕ) (l : Locals) (fs : List Frame) : Point → Thread → Type 0 where
  pends : EntersAt p t m base l fs (EnterPends m)
      (Runs' (base + 3) (link_word p m ∷ process_word t 1 ∷ []) l fs)
  tries : EntersAt p t m base l fs (EnterTries m)
      (Runs' (base + 7) (t ∷ 0 ∷ lock_word_address p m ∷ []) l fs)
  takes : {pt : Point} {x : Thread} → Takes p t m ToEnter (base + 11) l.values fs pt x → EntersAt p t m base l fs pt x
  -- the same of a monitor that the thread holds
  pends_again : EntersAt p t m base l fs (ReenterPends m)
      (Runs' (base + 3) (link_word p m ∷ process_word t 1 ∷ []) l fs)
  tries_again : EntersAt p t m base l fs (ReenterTries m)
      (Runs' (base + 7) (t ∷ 0 ∷ lock_word_address p m ∷ []) l fs)
  takes_again : {pt : Point} {x : Thread} → Takes p t m ToReenter (base + 11) l.values fs pt x
      → EntersAt p t m base l fs pt x

-- the operand of the step that gives up a lock that thread t owns
abbrev pub swap_operand : ReleaseRule → ℕ → ℕ
swap_operand DropsOwner t = 4294967296 - t
swap_operand u t = 0

-- in the leaving of a monitor, with a result on the operands beneath; the giving up of its lock has n instructions
pub data ExitsAt (n : ℕ) (u : ReleaseRule) (p : Program) (t m base : ℕ) (shown : Option ℕ) (l : Locals)
    (fs : List Frame) : Point → Thread → Type 0 where
  pends : ExitsAt n u p t m base shown l fs (LeavePends m ToExit)
      (Runs' (base + 3) (link_word p m ∷ process_word t 1 ∷ result_operands shown) l fs)
  reads : ExitsAt n u p t m base shown l fs (LeaveReads m ToExit)
      (Runs' (base + 7) (link_word p m ∷ process_word t 0 ∷ result_operands shown) l fs)
  cuts : (h : ℕ) → ExitsAt n u p t m base shown l fs (LeaveHeads m h ToExit)
      (Runs' (base + 8) (entry_address (place p) h ∷ process_word t 0 ∷ result_operands shown) l fs)
  swaps : ExitsAt n u p t m base shown l fs (LeaveSwaps m ToExit)
      (Runs' (base + (n - 8)) (swap_operand u t ∷ lock_word_address p m ∷ result_operands shown) l fs)
  wakes : ExitsAt n u p t m base shown l fs (LeaveWakes m ToExit)
      (Runs' (base + (n - 2)) (1 ∷ lock_word_address p m ∷ result_operands shown) l fs)
  unpends : ExitsAt n u p t m base shown l fs (HasLeft m ToExit)
      (Runs' (base + (n + 3)) (0 ∷ process_word t 1 ∷ result_operands shown) l fs)
  goes : ExitsAt n u p t m base shown l fs Runs (Runs' (base + (n + 4)) (result_operands shown) l fs)

-- in a WAIT: the sequence word is read, the monitor left, and the thread sleeps; then the lock is taken again
pub data WaitsAt (n : ℕ) (u : ReleaseRule) (p : Program) (t : ℕ) (c : Member) (base : ℕ) (l : Locals)
    (fs : List Frame) : Point → Thread → Type 0 where
  numbers : WaitsAt n u p t c base l fs (WaitReads c)
      (Runs' (base + 2) (member_address p c ∷ member_address p c ∷ []) l fs)
  pends : (v : ℕ) → WaitsAt n u p t c base l fs (LeavePends c.monitor (ToWait c v))
      (Runs' (base + 6) (link_word p c.monitor ∷ process_word t 1 ∷ v ∷ member_address p c ∷ []) l fs)
  reads : (v : ℕ) → WaitsAt n u p t c base l fs (LeaveReads c.monitor (ToWait c v))
      (Runs' (base + 10) (link_word p c.monitor ∷ process_word t 0 ∷ v ∷ member_address p c ∷ []) l fs)
  cuts : (v h : ℕ) → WaitsAt n u p t c base l fs (LeaveHeads c.monitor h (ToWait c v))
      (Runs' (base + 11) (entry_address (place p) h ∷ process_word t 0 ∷ v ∷ member_address p c ∷ []) l fs)
  swaps : (v : ℕ) → WaitsAt n u p t c base l fs (LeaveSwaps c.monitor (ToWait c v))
      (Runs' (base + (n - 5)) (swap_operand u t ∷ lock_word_address p c.monitor ∷ v ∷ member_address p c ∷ []) l fs)
  wakes : (v : ℕ) → WaitsAt n u p t c base l fs (LeaveWakes c.monitor (ToWait c v))
      (Runs' (base + (n + 1)) (1 ∷ lock_word_address p c.monitor ∷ v ∷ member_address p c ∷ []) l fs)
  sleeps : (v : ℕ) → WaitsAt n u p t c base l fs (HasLeft c.monitor (ToWait c v))
      (Runs' (base + (n + 3)) (v ∷ member_address p c ∷ []) l fs)
  takes : {pt : Point} {x : Thread} → Takes p t c.monitor (ToResume c) (base + (n + 5)) l.values fs pt x
      → WaitsAt n u p t c base l fs pt x
