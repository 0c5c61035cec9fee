-- The code of statements, from the place where it begins.
use Rattle.std.specs.Prelude.{ℕ, ◌+◌, List, [], ◌∷◌, ◌++◌, length, slice_get, Option, Some, None}
use Rattle.words.specs.declared.outcome.Fault.TheVariants.{AbortStatement, JoinedAborted}
use Rattle.program.specs.declared.kinds.ValueType.{ValueType}
use Rattle.program.specs.declared.kinds.Role.{Role}
use Rattle.program.specs.declared.kinds.Role.TheVariants.{Entry, Internal, Recover, External, Main}
use Rattle.program.specs.Trees.{Program, Procedure, Expression, Target, ToLocal, ToMember, ToElement, Statement}
use Rattle.program.specs.Trees.{Assign, If, While, Call, Fork, Join, Return, Wait, Notify, Broadcast, Print, Abort}
use Rattle.program.specs.Trees.{Block, Done, Then, Part, NoPart, SomePart}
use Rattle.program.specs.Scope.{recover_of}
use Rattle.isa.specs.declared.slot.Slot.TheVariants.{Local}
use Rattle.isa.specs.declared.instr.Instr.{Instr}
use Rattle.isa.specs.declared.instr.Instr.TheVariants.{Push, SetLocal, Jump, JumpIfZero, Raise, Store, Print as Print'}
use Rattle.lowering.specs.declared.mark.Mark.TheVariants.{AssignMember, AssignLocal, Test, Print as Prints}
use Rattle.lowering.specs.declared.mark.Marked.{Marked}
use Rattle.lowering.specs.Marks.{with_mark, plain, rebase_all, Code}
use Rattle.lowering.specs.Layout.{link_word, member_address}
use Rattle.lowering.specs.Locks.{recovery, exit_code}
use Rattle.lowering.specs.Conditions.{wait_code, notify_code, broadcast_code}
use Rattle.lowering.specs.Processes.{join_code, fork_code, call_code, return_code}
use Rattle.lowering.specs.Expressions.{expression_code, arguments_code, value_code, index_code}

-- in which program and procedure a statement stands, and where each piece of code begins
pub record Setting : Type 0 where
  pub program : Program
  pub starts : ℕ → ℕ
  pub role : Role
  pub result : Option ValueType

-- where the code of a piece begins, where there is one
abbrev pub start_in : (ℕ → ℕ) → Option ℕ → Option ℕ
start_in starts None = None
start_in starts (Some piece) = Some (starts piece)

-- what is done in an abandoned monitor
abbrev pub recovery_of : Setting → ℕ → Instr
recovery_of c m = recovery (start_in c.starts (recover_of c.program m))

-- the type of a procedure's result, where it has one
abbrev pub result_in : Option Procedure → Option ValueType
result_in None = None
result_in (Some q) = q.result

-- the type of a procedure's result
abbrev pub result_of : Program → ℕ → Option ValueType
result_of p q = result_in (slice_get p.procedures q)

-- an address comes before the value, or a local behind it
abbrev pub assignment_code : Program → Target → Expression → List Marked
assignment_code p (ToLocal slot) e = expression_code p e ++ with_mark AssignLocal (SetLocal (Local slot)) ∷ []
assignment_code p (ToMember m) e =
    plain (Push (member_address p m)) ∷ (expression_code p e ++ with_mark AssignMember Store ∷ [])
assignment_code p (ToElement a i) e =
    expression_code p i ++ (plain (index_code p a) ∷ (expression_code p e ++ with_mark AssignMember Store ∷ []))

-- a test, with a jump past one part
abbrev pub if_code : List Marked → Code → Code
if_code test a start =
    let then_start = start + length test + 1 in
    test ++ (with_mark Test (JumpIfZero (then_start + length (a then_start))) ∷ a then_start)

-- a test, a part with a jump past the other, and the other
abbrev pub if_else_code : List Marked → Code → Code → Code
if_else_code test a b start =
    let then_start = start + length test + 1 in
    let else_start = then_start + length (a then_start) + 1 in
    test ++ (with_mark Test (JumpIfZero else_start) ∷
    (a then_start ++ (plain (Jump (else_start + length (b else_start))) ∷ b else_start)))

-- a test, a jump past the end, the body, and a jump back to the test
abbrev pub while_code : List Marked → Code → Code
while_code test body start =
    let body_start = start + length test + 1 in
    test ++ (with_mark Test (JumpIfZero (body_start + length (body body_start) + 1)) ∷
    (body body_start ++ plain (Jump start) ∷ []))

-- a handle, the join, a jump past what is done where the process aborted, and that
abbrev pub join_all_code : List Marked → Option ℕ → Code → Code
join_all_code handle into aborted start =
    let joins = start + length handle in
    let aborts = joins + 30 in
    handle ++ (rebase_all joins (join_code into) ++ (plain (Jump (aborts + length (aborted aborts))) ∷ aborted aborts))

-- the lock is given up at the end of an ENTRY procedure
abbrev pub leaving_code : Program → Role → Code
leaving_code p (Entry m) place = rebase_all place (exit_code p.version m (link_word p m))
leaving_code p (Internal m) place = []
leaving_code p (Recover m) place = []
leaving_code p External place = []
leaving_code p Main place = []

-- the return of a procedure
abbrev pub ending_code : Setting → Code
ending_code c place = leaving_code c.program c.role place ++ return_code c.role c.result ∷ []

abbrev mutual
  pub statement_code : Setting → Statement → Code
  statement_code c (Assign target e) start = assignment_code c.program target e
  statement_code c (If e b NoPart) start = if_code (expression_code c.program e) (block_code c b) start
  statement_code c (If e b (SomePart other)) start =
      if_else_code (expression_code c.program e) (block_code c b) (block_code c other) start
  statement_code c (While e b) start = while_code (expression_code c.program e) (block_code c b) start
  statement_code c (Call q es into) start =
      arguments_code c.program es ++ call_code (c.starts q) into (result_of c.program q)
  statement_code c (Fork q es into) start =
      arguments_code c.program es ++ fork_code (c.starts q) (length es) into
  statement_code c (Join e into part) start =
      join_all_code (expression_code c.program e) into (aborted_code c part) start
  statement_code c (Return value) start =
      let left = value_code c.program value in left ++ ending_code c (start + length left)
  statement_code c (Wait m) start =
      rebase_all start (wait_code c.program.version m (link_word c.program m.monitor) (member_address c.program m)
      (recovery_of c m.monitor))
  statement_code c (Notify m) start = notify_code m (member_address c.program m)
  statement_code c (Broadcast m) start =
      broadcast_code m (link_word c.program m.monitor) (member_address c.program m)
  statement_code c (Print e) start = expression_code c.program e ++ with_mark Prints Print' ∷ []
  statement_code c Abort start = plain (Raise AbortStatement) ∷ []

  pub block_code : Setting → Block → Code
  block_code c Done start = []
  block_code c (Then first rest) start =
      statement_code c first start ++ block_code c rest (start + length (statement_code c first start))

  -- what is done where the process that is joined aborted
  pub aborted_code : Setting → Part → Code
  aborted_code c NoPart start = plain (Raise JoinedAborted) ∷ []
  aborted_code c (SomePart b) start = block_code c b start
