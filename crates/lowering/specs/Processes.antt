-- The templates of processes: fork, join, returns. Places count from each template's own beginning.
use Rattle.std.specs.Prelude.{ℕ, List, [], ◌∷◌, ◌++◌, Option, Some, None}
use Rattle.words.specs.declared.outcome.Fault.TheVariants.{HandleNotJoinable}
use Rattle.words.specs.declared.process.ProcessWord.TheVariants.{Id, Claim, Result, Outcome}
use Rattle.program.specs.declared.kinds.ValueType.{ValueType}
use Rattle.program.specs.declared.kinds.Role.{Role}
use Rattle.program.specs.declared.kinds.Role.TheVariants.{Entry, Internal, Recover, External, Main}
use Rattle.isa.specs.declared.operator.Operator.TheVariants.{Eq}
use Rattle.isa.specs.declared.slot.Slot.TheVariants.{Local}
use Rattle.isa.specs.declared.instr.Instr.{Instr}
use Rattle.isa.specs.declared.instr.Instr.TheVariants.{Push, SetLocal, Pop, Operate, Jump, JumpIfZero, Call as Call'}
use Rattle.isa.specs.declared.instr.Instr.TheVariants.{Fork as Fork', Ret, RetValue, ProcessAddress, Raise, Load, Swap}
use Rattle.isa.specs.declared.instr.Instr.TheVariants.{FutexWait}
use Rattle.lowering.specs.declared.mark.Mark.{Mark}
use Rattle.lowering.specs.declared.mark.Mark.TheVariants.{Plain, Fork, Claim as Claims, Join as Joins, Call, Return}
use Rattle.lowering.specs.declared.mark.Mark.TheVariants.{LastReturn}
use Rattle.lowering.specs.declared.mark.Marked.{Marked}
use Rattle.lowering.specs.Marks.{with_mark, plain, plainly}
use Rattle.lowering.specs.Locks.{get, keep}

-- a result on the operands goes into a local, or away
abbrev pub into_code : Option ℕ → Instr
into_code (Some slot) = SetLocal (Local slot)
into_code None = Pop

-- with the handle as its operand: the process is claimed, and its end awaited
abbrev pub await_code : List Marked
await_code =
    plainly (keep ∷ get ∷ JumpIfZero 8 ∷ get ∷ ProcessAddress Claim ∷ Push 1 ∷ []) ++ (with_mark Claims Swap ∷
    (plainly (JumpIfZero 9 ∷ Raise HandleNotJoinable ∷ get ∷ ProcessAddress Id ∷ []) ++ (with_mark Joins Load ∷
    plainly (JumpIfZero 19 ∷ get ∷ ProcessAddress Id ∷ get ∷ FutexWait ∷ Pop ∷ Jump 9 ∷ []))))

-- then, where it has ended by its return, its result is read
abbrev pub ended_code : List Marked
ended_code =
    plainly (get ∷ ProcessAddress Outcome ∷ Load ∷ Push 16 ∷ Operate Eq ∷ JumpIfZero 30 ∷
    get ∷ ProcessAddress Result ∷ Load ∷ [])

-- all of it, up to where the result is taken; a process that aborted is found at place 30, behind a jump past what is
-- done then
abbrev pub join_code : Option ℕ → List Marked
join_code into = await_code ++ (ended_code ++ plain (into_code into) ∷ [])

-- behind its arguments: a process of so many arguments is forked at a place, and its handle goes into a local
abbrev pub fork_code : ℕ → ℕ → ℕ → List Marked
fork_code place arguments into = with_mark Fork (Fork' place arguments) ∷ plain (SetLocal (Local into)) ∷ []

-- behind its arguments: a procedure at a place is called, and its result, if there is one, is taken; its return is
-- then placed where that is done
abbrev pub call_code : ℕ → Option ℕ → Option ValueType → List Marked
call_code place (Some slot) result = with_mark Call (Call' place) ∷ with_mark Return (SetLocal (Local slot)) ∷ []
call_code place None (Some t) = with_mark Call (Call' place) ∷ with_mark Return Pop ∷ []
call_code place None None = with_mark Call (Call' place) ∷ []

-- the mark at a return: the main part and a RECOVER part make none, and where there is a result the caller's next
-- instruction has it
abbrev pub return_mark : Role → Option ValueType → Mark
return_mark (Recover m) result = Plain
return_mark Main result = Plain
return_mark (Entry m) None = Return
return_mark (Entry m) (Some t) = LastReturn
return_mark (Internal m) None = Return
return_mark (Internal m) (Some t) = LastReturn
return_mark External None = Return
return_mark External (Some t) = LastReturn

-- with or without a result
abbrev pub return_instruction : Option ValueType → Instr
return_instruction None = Ret
return_instruction (Some t) = RetValue

-- the return from a procedure of this role
abbrev pub return_code : Role → Option ValueType → Marked
return_code role result = with_mark (return_mark role result) (return_instruction result)
