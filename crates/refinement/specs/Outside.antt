-- What comes from outside: wakes that nobody called for, of those who slept on the word of a condition; and kills.
use Rattle.std.specs.Prelude.{ℕ, zero, suc, ◌==◌, ◌&&◌, ◌||◌, Bool, false, List, length, map, filter, Option, Some}
use Rattle.std.specs.Prelude.{None, slice_get}
use Rattle.machine.specs.Runs.{Doing, Own, Strayed, Killed, Step}
use Rattle.program.specs.declared.kinds.Member.{Member}
use Rattle.program.specs.Scope.{member_type}
use Rattle.proof_thread.specs.Variables.{is_condition}
use Rattle.program.specs.Trees.{Monitor, Program}
use Rattle.lowering.specs.Layout.{member_address}

-- the test holds of a number below this one
abbrev pub any_below : ℕ → (ℕ → Bool) → Bool
any_below zero test = false
any_below (suc n) test = test n || any_below n test

-- how many members a monitor has
abbrev pub member_count : Option Monitor → ℕ
member_count None = 0
member_count (Some m) = length m.members

-- whether the member is a condition whose word has this address
abbrev pub is_word_of : Program → (address : ℕ) → Member → Bool
is_word_of p a c = is_condition (member_type p c) && (member_address p c == a)

-- the address is that of a condition's word
abbrev pub is_condition_word : Program → (address : ℕ) → Bool
is_condition_word p a = any_below (length p.monitors) (λ m.
    any_below (member_count (slice_get p.monitors m)) (λ n. is_word_of p a (record { monitor = m; number = n })))

-- a wake that nobody called for, of a thread that slept on a condition's word
abbrev pub is_condition_stray : Program → Doing → Bool
is_condition_stray p Own = false
is_condition_stray p (Strayed a) = is_condition_word p a
is_condition_stray p (Killed begins) = false

-- the threads of those among the machine's steps, in order
abbrev pub stray_threads : Program → List Step → List ℕ
stray_threads p steps = map (λ l. l.thread) (filter (λ l. is_condition_stray p l.doing) steps)

-- a kill by which the thread begins to die
abbrev pub is_kill : Doing → Bool
is_kill Own = false
is_kill (Strayed a) = false
is_kill (Killed begins) = begins

-- the threads that were killed in these steps of the machine, in order
abbrev pub killed_threads : List Step → List ℕ
killed_threads steps = map (λ l. l.thread) (filter (λ l. is_kill l.doing) steps)
