-- Places of code from which a thread comes to no futex call before it takes another shared step.
use Rattle.std.specs.Prelude.{ℕ, ◌≡◌, ◌+◌, ◌&&◌, Bool, true, false, List, Some, slice_get, slice_index_or}
use Rattle.isa.specs.declared.instr.Instr.{Instr}
use Rattle.isa.specs.declared.instr.Instr.TheVariants.{Push, GetLocal, SetLocal, Pop, Operate, Negate, Not, Jump}
use Rattle.isa.specs.declared.instr.Instr.TheVariants.{JumpIfZero, Call, Ret, RetValue, Index, OwnNumber}
use Rattle.isa.specs.declared.instr.Instr.TheVariants.{ProcessAddress, Raise, Load, Store, Swap, CompareSwap}
use Rattle.isa.specs.declared.instr.Instr.TheVariants.{FetchOr, FetchAdd, Fork, Print, FutexWait, FutexWake}
use Rattle.isa.specs.declared.instr.Instr.TheVariants.{FutexRequeue}
use Rattle.locals.specs.Threads.{Thread, Runs, Dies, Exits}

-- whether a place is noted; none past the last is
abbrev pub is_calm : List Bool → ℕ → Bool
is_calm places at = slice_index_or places at false

-- whether the instruction at a place is a local step that leads to places that are noted alone, or a shared step other than
-- a futex call. Where a return leads isn't known
abbrev pub leads_calmly : List Bool → ℕ → Instr → Bool
leads_calmly places at (Push n) = is_calm places (at + 1)
leads_calmly places at (GetLocal slot) = is_calm places (at + 1)
leads_calmly places at (SetLocal slot) = is_calm places (at + 1)
leads_calmly places at Pop = is_calm places (at + 1)
leads_calmly places at (Operate operator) = is_calm places (at + 1)
leads_calmly places at Negate = is_calm places (at + 1)
leads_calmly places at Not = is_calm places (at + 1)
leads_calmly places at (Jump to) = is_calm places to
leads_calmly places at (JumpIfZero to) = is_calm places to && is_calm places (at + 1)
leads_calmly places at (Call to) = is_calm places to
leads_calmly places at Ret = false
leads_calmly places at RetValue = false
leads_calmly places at (Index base size) = is_calm places (at + 1)
leads_calmly places at OwnNumber = is_calm places (at + 1)
leads_calmly places at (ProcessAddress word) = is_calm places (at + 1)
leads_calmly places at (Raise fault) = true
leads_calmly places at Load = true
leads_calmly places at Store = true
leads_calmly places at Swap = true
leads_calmly places at CompareSwap = true
leads_calmly places at FetchOr = true
leads_calmly places at FetchAdd = true
leads_calmly places at (Fork entry count) = true
leads_calmly places at Print = true
leads_calmly places at FutexWait = false
leads_calmly places at FutexWake = false
leads_calmly places at FutexRequeue = false

-- the instruction at each place that is noted does
abbrev pub IsClosed : List Instr → List Bool → Type 0
IsClosed code places =
    (at : ℕ) (i : Instr) → is_calm places at ≡ true → slice_get code at ≡ Some i → leads_calmly places at i ≡ true

-- a thread that stands at a place that is noted, or dies
abbrev pub IsCalm : List Bool → Thread → Type 0
IsCalm places (Runs place operands locals callers) = is_calm places place ≡ true
IsCalm places (Dies cause) = Unit {0}
IsCalm places (Exits phase) = ⊥
