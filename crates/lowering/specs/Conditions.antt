-- The templates of conditions (Lampson and Redell, section 3; futex(2)). s is the condition's sequence word, e the
-- link word of its monitor. Places count from each template's own beginning.
use Rattle.std.specs.Prelude.{ℕ, ◌+◌, List, [], ◌∷◌, ◌++◌}
use Rattle.program.specs.declared.kinds.Member.{Member}
use Rattle.isa.specs.declared.instr.Instr.{Instr}
use Rattle.isa.specs.declared.instr.Instr.TheVariants.{Push, Pop, Load, FetchOr, FetchAdd, FutexWait, FutexWake}
use Rattle.isa.specs.declared.instr.Instr.TheVariants.{FutexRequeue}
use Rattle.lowering.specs.declared.mark.Mark.TheVariants.{Resume, Wait, Notify, Broadcast}
use Rattle.lowering.specs.declared.mark.Marked.{Marked}
use Rattle.lowering.specs.Marks.{with_mark, plain, plainly}
use Rattle.lowering.specs.Locks.{waiters, take_at, got_at, leave_at, leave_length}
use Rattle.words.specs.declared.version.ImageVersion.{ImageVersion}

-- every sleeper
abbrev pub everyone : ℕ
everyone = 4294967295

-- the sequence word is read under the lock, which is given up, and the process sleeps where that word is still the
-- same
abbrev pub sleep_code : ImageVersion → Member → ℕ → ℕ → List Marked
sleep_code v c e s =
    plainly (Push s ∷ Push s ∷ Load ∷ []) ++ (leave_at v (Wait c) e 3 ++ plainly (FutexWait ∷ Pop ∷ []))

-- where in a wait the taking of the lock begins, and what follows it, its recovery, and the end
abbrev pub wait_takes : ImageVersion → ℕ
wait_takes v = leave_length v + 5

abbrev pub wait_got : ImageVersion → ℕ
wait_got v = wait_takes v + 32

abbrev pub wait_recovers : ImageVersion → ℕ
wait_recovers v = wait_got v + 17

abbrev pub wait_length : ImageVersion → ℕ
wait_length v = wait_got v + 18

-- then it takes the lock again
abbrev pub wait_code : ImageVersion → Member → ℕ → ℕ → Instr → List Marked
wait_code v c e s recover =
    sleep_code v c e s ++ (take_at (Resume c.monitor) e (wait_takes v) ++ got_at e recover (wait_got v))

-- the sequence word goes on by one, and one sleeper is woken
abbrev pub notify_code : Member → ℕ → List Marked
notify_code c s =
    plainly (Push s ∷ Push 1 ∷ FetchAdd ∷ Pop ∷ Push s ∷ Push 1 ∷ []) ++
    (with_mark (Notify c) FutexWake ∷ plain Pop ∷ [])

-- the sequence word goes on by one, the lock word tells of waiters, and all sleepers go over to it
abbrev pub broadcast_code : Member → ℕ → ℕ → List Marked
broadcast_code c e s =
    plainly (Push s ∷ Push 1 ∷ FetchAdd ∷ Pop ∷ Push (e + 1) ∷ Push waiters ∷ FetchOr ∷ Pop ∷
    Push s ∷ Push (e + 1) ∷ Push 0 ∷ Push everyone ∷ Push s ∷ Load ∷ []) ++
    (with_mark (Broadcast c) FutexRequeue ∷ plain Pop ∷ [])
