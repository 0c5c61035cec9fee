-- A piece of code that is linked is the piece's code at its place.
use Rattle.std.proofs.Common.{◌≡◌, ◌+◌, ◌++◌, ℕ, zero, suc, List, [], ◌∷◌, Option, Some, None, length, refl, sym, ap}
use Rattle.std.proofs.Common.{◌∙◌, arith}
use Rattle.program.specs.declared.kinds.ValueType.{ValueType}
use Rattle.program.specs.declared.kinds.UnaryOperator.{UnaryOperator}
use Rattle.program.specs.declared.kinds.UnaryOperator.TheVariants.{Negate as Negated, Not as Not'}
use Rattle.program.specs.declared.kinds.Role.{Role}
use Rattle.program.specs.declared.kinds.Role.TheVariants.{Entry, Internal, Recover, External, Main}
use Rattle.program.specs.Trees.{Program, Procedure, Expression, Constant, Truth, Local, Member, Element, Unary, Both}
use Rattle.program.specs.Trees.{Target, ToLocal, ToMember, ToElement, Statement, Assign, If, While, Call, Fork, Join}
use Rattle.program.specs.Trees.{Return, Wait, Notify, Broadcast, Print, Abort, Block, Done, Then, Part, NoPart}
use Rattle.program.specs.Trees.{SomePart}
use Rattle.program.specs.Scope.{recover_of}
use Rattle.isa.specs.declared.instr.Instr.{Instr}
use Rattle.isa.specs.declared.instr.Instr.TheVariants.{Push, GetLocal, SetLocal, Pop, Operate, Negate, Not, Jump}
use Rattle.isa.specs.declared.instr.Instr.TheVariants.{JumpIfZero, Call as Call', Fork as Fork', Ret, RetValue, Index}
use Rattle.isa.specs.declared.instr.Instr.TheVariants.{OwnNumber, ProcessAddress, Raise, Load, Store, Swap}
use Rattle.isa.specs.declared.instr.Instr.TheVariants.{CompareSwap, FetchOr, FetchAdd, Print as Print', FutexWait}
use Rattle.isa.specs.declared.instr.Instr.TheVariants.{FutexWake, FutexRequeue}
use Rattle.isa.specs.declared.slot.Slot.TheVariants.{Local as Slot'}
use Rattle.lowering.specs.declared.mark.Mark.TheVariants.{Test}
use Rattle.lowering.specs.declared.mark.Marked.{Marked}
use Rattle.lowering.specs.Marks.{with_mark, plain, rebase, rebase_all, Code, sequence}
use Rattle.lowering.specs.Layout.{link_word, member_address}
use Rattle.lowering.specs.Locks.{recovery, enter_code, exit_code}
use Rattle.lowering.specs.Conditions.{wait_code}
use Rattle.lowering.specs.Processes.{join_code, call_code, return_code}
use Rattle.lowering.specs.Expressions.{expression_code, arguments_code, value_code, unary_code, index_code}
use Rattle.lowering.specs.Statements.{Setting, start_in, recovery_of, result_of, assignment_code, statement_code}
use Rattle.lowering.specs.Statements.{block_code, aborted_code, ending_code, leaving_code, if_code, if_else_code}
use Rattle.lowering.specs.Statements.{while_code, join_all_code}
use Rattle.lowering.specs.Pieces.{setting_of, piece_code, unlinked_code, entering_code, parameters_code, default_code}
use Rattle.lowering.specs.Linking.{linked_instruction, linked_code}
use Rattle.words.specs.declared.version.ImageVersion.{ImageVersion}
use Rattle.words.specs.declared.version.ImageVersion.TheVariants.{One, Two, Linux}
use Rattle.program.specs.declared.kinds.Member.{Member as MemberOf}

-- calls and forks by the places where pieces begin, jumps as they are
abbrev called : (ℕ → ℕ) → Instr → Instr
called starts (Call' piece) = Call' (starts piece)
called starts (Fork' piece n) = Fork' (starts piece) n
called starts i = i

abbrev called_code : (ℕ → ℕ) → List Marked → List Marked
called_code starts [] = []
called_code starts (i ∷ is) =
    record { instruction = called starts i.instruction; mark = i.mark } ∷ called_code starts is

module _ (starts : ℕ → ℕ) (base : ℕ) where
  -- a template's instruction, moved and then linked
  one_linked : (a : ℕ) (i : Instr) → linked_instruction starts base (rebase a i) ≡ rebase (base + a) (called starts i)
  one_linked a (Push n) = refl
  one_linked a (GetLocal slot) = refl
  one_linked a (SetLocal slot) = refl
  one_linked a Pop = refl
  one_linked a (Operate op) = refl
  one_linked a Negate = refl
  one_linked a Not = refl
  one_linked a (Jump p) = ap (λ n. Jump n) (let at : base + (a + p) ≡ base + a + p = omega arith in at)
  one_linked a (JumpIfZero p) = ap (λ n. JumpIfZero n) (let at : base + (a + p) ≡ base + a + p = omega arith in at)
  one_linked a (Call' p) = refl
  one_linked a Ret = refl
  one_linked a RetValue = refl
  one_linked a (Index b n) = refl
  one_linked a OwnNumber = refl
  one_linked a (ProcessAddress word) = refl
  one_linked a (Raise fault) = refl
  one_linked a Load = refl
  one_linked a Store = refl
  one_linked a Swap = refl
  one_linked a CompareSwap = refl
  one_linked a FetchOr = refl
  one_linked a FetchAdd = refl
  one_linked a (Fork' p n) = refl
  one_linked a Print' = refl
  one_linked a FutexWait = refl
  one_linked a FutexWake = refl
  one_linked a FutexRequeue = refl

  placed_linked : (a : ℕ) (is : List Marked)
      → linked_code starts base (rebase_all a is) ≡ rebase_all (base + a) (called_code starts is)
  placed_linked a [] = refl
  placed_linked a (i ∷ is) =
      ap (λ (x : Instr). with_mark i.mark x ∷ linked_code starts base (rebase_all a is)) (one_linked a i.instruction)
      ∙ ap (λ l. with_mark i.mark (rebase (base + a) (called starts i.instruction)) ∷ l) (placed_linked a is)

  append_linked : (xs ys : List Marked) → linked_code starts base (xs ++ ys)
      ≡ linked_code starts base xs ++ linked_code starts base ys
  append_linked [] ys = refl
  append_linked (x ∷ xs) ys = ap (λ l. with_mark x.mark (linked_instruction starts base x.instruction) ∷ l)
      (append_linked xs ys)

  length_linked : (xs : List Marked) → length (linked_code starts base xs) ≡ length xs
  length_linked [] = refl
  length_linked (x ∷ xs) = ap suc (length_linked xs)

  -- code without jumps and calls stays as it is
  abbrev Stays : List Marked → Type 0
  Stays is = linked_code starts base is ≡ is

  both_stay : (xs ys : List Marked) → Stays xs → Stays ys → Stays (xs ++ ys)
  both_stay xs ys e h = append_linked xs ys ∙ ap (λ l. l ++ linked_code starts base ys) e ∙ ap (λ l. xs ++ l) h

  after : (xs ys zs : List Marked) → Stays xs → linked_code starts base ys ≡ zs
      → linked_code starts base (xs ++ ys) ≡ xs ++ zs
  after xs ys zs e h = append_linked xs ys ∙ ap (λ l. l ++ linked_code starts base ys) e ∙ ap (λ l. xs ++ l) h

  unary_stays : (op : UnaryOperator) → Stays (plain (unary_code op) ∷ [])
  unary_stays Negated = refl
  unary_stays Not' = refl

  expression_stays : (p : Program) (e : Expression) → Stays (expression_code p e)
  expression_stays p (Constant n) = refl
  expression_stays p (Truth b) = refl
  expression_stays p (Local slot) = refl
  expression_stays p (Member m) = refl
  expression_stays p (Element a e) = after (expression_code p e) _ _ (expression_stays p e) refl
  expression_stays p (Unary op e) = after (expression_code p e) _ _ (expression_stays p e) (unary_stays op)
  expression_stays p (Both op l r) =
      after (expression_code p l) _ _ (expression_stays p l)
      (after (expression_code p r) _ _ (expression_stays p r) refl)

  arguments_stay : (p : Program) (es : List Expression) → Stays (arguments_code p es)
  arguments_stay p [] = refl
  arguments_stay p (e ∷ es) =
      both_stay (expression_code p e) (arguments_code p es) (expression_stays p e) (arguments_stay p es)

  value_stays : (p : Program) (e : Option Expression) → Stays (value_code p e)
  value_stays p None = refl
  value_stays p (Some e) = expression_stays p e

  parameters_stay : (n : ℕ) → Stays (parameters_code n)
  parameters_stay zero = refl
  parameters_stay (suc n) = ap (λ l. plain (SetLocal (Slot' n)) ∷ l) (parameters_stay n)

  default_stays : (t : Option ValueType) → Stays (default_code t)
  default_stays None = refl
  default_stays (Some t) = refl

  return_stays : (role : Role) (t : Option ValueType) → Stays (return_code role t ∷ [])
  return_stays role None = refl
  return_stays role (Some t) = refl

  assignment_stays : (p : Program) (target : Target) (e : Expression) → Stays (assignment_code p target e)
  assignment_stays p (ToLocal slot) e = after (expression_code p e) _ _ (expression_stays p e) refl
  assignment_stays p (ToMember m) e =
      ap (λ l. plain (Push (member_address p m)) ∷ l) (after (expression_code p e) _ _ (expression_stays p e) refl)
  assignment_stays p (ToElement a i) e =
      after (expression_code p i) _ _ (expression_stays p i)
      (ap (λ l. plain (index_code p a) ∷ l) (after (expression_code p e) _ _ (expression_stays p e) refl))

  call_linked : (piece : ℕ) (into : Option ℕ) (t : Option ValueType)
      → linked_code starts base (call_code piece into t) ≡ call_code (starts piece) into t
  call_linked piece (Some slot) t = refl
  call_linked piece None (Some t) = refl
  call_linked piece None None = refl

  -- code that is linked is other code at the place behind the piece's beginning
  abbrev Moves : Code → Code → Type 0
  Moves f g = (a : ℕ) → linked_code starts base (f a) ≡ g (base + a)

  same_length : (f g : Code) → Moves f g → (a : ℕ) → length (g (base + a)) ≡ length (f a)
  same_length f g e a = sym (ap length (e a)) ∙ length_linked (f a)

  sequence_moves : (f f' g g' : Code) → Moves f f' → Moves g g' → Moves (sequence f g) (sequence f' g')
  sequence_moves f f' g g' e h a =
      let n = same_length f f' e a in
      let at : base + (a + length (f a)) ≡ base + a + length (f' (base + a)) = omega (arith, n) in
      append_linked (f a) (g (a + length (f a)))
      ∙ ap (λ l. l ++ linked_code starts base (g (a + length (f a)))) (e a)
      ∙ ap (λ l. f' (base + a) ++ l) (h (a + length (f a)) ∙ ap g' at)

  if_moves : (t : List Marked) (f g : Code) → Stays t → Moves f g → Moves (if_code t f) (if_code t g)
  if_moves t f g u e a =
      let s = a + length t + 1 in
      let z = base + a + length t + 1 in
      let at : base + s ≡ z = omega arith in
      let part : linked_code starts base (f s) ≡ g z = e s ∙ ap g at in
      let n : length (g z) ≡ length (f s) = sym (ap length part) ∙ length_linked (f s) in
      let jump : base + (s + length (f s)) ≡ z + length (g z) = omega (arith, n) in
      after t _ _ u
      (ap (λ l. with_mark Test (JumpIfZero (base + (s + length (f s)))) ∷ l) part
      ∙ ap (λ n. with_mark Test (JumpIfZero n) ∷ g z) jump)

  if_else_moves : (t : List Marked) (f f' g g' : Code) → Stays t → Moves f f' → Moves g g'
      → Moves (if_else_code t f g) (if_else_code t f' g')
  if_else_moves t f f' g g' u e h a =
      let s = a + length t + 1 in
      let z = base + a + length t + 1 in
      let at : base + s ≡ z = omega arith in
      let part : linked_code starts base (f s) ≡ f' z = e s ∙ ap f' at in
      let n : length (f' z) ≡ length (f s) = sym (ap length part) ∙ length_linked (f s) in
      let s2 = s + length (f s) + 1 in
      let z2 = z + length (f' z) + 1 in
      let at2 : base + s2 ≡ z2 = omega (arith, n) in
      let part2 : linked_code starts base (g s2) ≡ g' z2 = h s2 ∙ ap g' at2 in
      let n2 : length (g' z2) ≡ length (g s2) = sym (ap length part2) ∙ length_linked (g s2) in
      let jump : base + (s2 + length (g s2)) ≡ z2 + length (g' z2) = omega (arith, at2, n2) in
      let tail : linked_code starts base (f s ++ plain (Jump (s2 + length (g s2))) ∷ g s2)
      ≡ f' z ++ plain (Jump (z2 + length (g' z2))) ∷ g' z2 =
      append_linked (f s) (plain (Jump (s2 + length (g s2))) ∷ g s2)
      ∙ ap (λ l. l ++ plain (Jump (base + (s2 + length (g s2)))) ∷ linked_code starts base (g s2)) part
      ∙ ap (λ l. f' z ++ plain (Jump (base + (s2 + length (g s2)))) ∷ l) part2
      ∙ ap (λ n. f' z ++ plain (Jump n) ∷ g' z2) jump in
      after t _ _ u (ap (λ l. with_mark Test (JumpIfZero (base + s2)) ∷ l) tail
      ∙ ap (λ n. with_mark Test (JumpIfZero n) ∷ (f' z ++ plain (Jump (z2 + length (g' z2))) ∷ g' z2)) at2)

  while_moves : (t : List Marked) (f g : Code) → Stays t → Moves f g → Moves (while_code t f) (while_code t g)
  while_moves t f g u e a =
      let s = a + length t + 1 in
      let z = base + a + length t + 1 in
      let at : base + s ≡ z = omega arith in
      let part : linked_code starts base (f s) ≡ g z = e s ∙ ap g at in
      let n : length (g z) ≡ length (f s) = sym (ap length part) ∙ length_linked (f s) in
      let jump : base + (s + length (f s) + 1) ≡ z + length (g z) + 1 = omega (arith, n) in
      let tail : linked_code starts base (f s ++ plain (Jump a) ∷ []) ≡ g z ++ plain (Jump (base + a)) ∷ [] =
      append_linked (f s) (plain (Jump a) ∷ []) ∙ ap (λ l. l ++ plain (Jump (base + a)) ∷ []) part in
      after t _ _ u
      (ap (λ l. with_mark Test (JumpIfZero (base + (s + length (f s) + 1))) ∷ l) tail
      ∙ ap (λ n. with_mark Test (JumpIfZero n) ∷ (g z ++ plain (Jump (base + a)) ∷ [])) jump)

  join_called : (into : Option ℕ) → called_code starts (join_code into) ≡ join_code into
  join_called None = refl
  join_called (Some slot) = refl

  join_moves : (t : List Marked) (into : Option ℕ) (f g : Code) → Stays t → Moves f g
      → Moves (join_all_code t into f) (join_all_code t into g)
  join_moves t into f g u e a =
      let s = a + length t in
      let z = base + a + length t in
      let at : base + s ≡ z = omega arith in
      let at30 : base + (s + 30) ≡ z + 30 = omega arith in
      let part : linked_code starts base (f (s + 30)) ≡ g (z + 30) = e (s + 30) ∙ ap g at30 in
      let n : length (g (z + 30)) ≡ length (f (s + 30)) = sym (ap length part) ∙ length_linked (f (s + 30)) in
      let jump : base + (s + 30 + length (f (s + 30))) ≡ z + 30 + length (g (z + 30)) = omega (arith, n) in
      let template : linked_code starts base (rebase_all s (join_code into)) ≡ rebase_all z (join_code into) =
      placed_linked s (join_code into) ∙ ap (λ l. rebase_all (base + s) l) (join_called into)
      ∙ ap (λ n. rebase_all n (join_code into)) at in
      after t _ _ u
      (append_linked (rebase_all s (join_code into)) (plain (Jump (s + 30 + length (f (s + 30)))) ∷ f (s + 30))
      ∙ ap (λ l. l ++ plain (Jump (base + (s + 30 + length (f (s + 30))))) ∷ linked_code starts base (f (s + 30)))
      template
      ∙ ap (λ l. rebase_all z (join_code into) ++ plain (Jump (base + (s + 30 + length (f (s + 30))))) ∷ l) part
      ∙ ap (λ n. rebase_all z (join_code into) ++ plain (Jump n) ∷ g (z + 30)) jump)

  module _ (p : Program) (role : Role) (result : Option ValueType) where
    abbrev here : Setting
    here = record { program = p; starts = λ piece. piece; role = role; result = result }

    abbrev there : Setting
    there = record { program = p; starts = starts; role = role; result = result }

    exit_called : (v : ImageVersion) (m e : ℕ) → called_code starts (exit_code v m e) ≡ exit_code v m e
    exit_called One m e = refl
    exit_called Two m e = refl
    exit_called Linux m e = refl

    wait_called : (v : ImageVersion) (c : MemberOf) (e s : ℕ) (r : Instr)
        → called_code starts (wait_code v c e s r) ≡ wait_code v c e s (called starts r)
    wait_called One c e s r = refl
    wait_called Two c e s r = refl
    wait_called Linux c e s r = refl

    recovery_called : (piece : Option ℕ) → called starts (recovery (start_in (λ n. n) piece))
        ≡ recovery (start_in starts piece)
    recovery_called None = refl
    recovery_called (Some n) = refl

    leaving_moves : (r : Role) → Moves (leaving_code p r) (leaving_code p r)
    leaving_moves (Entry m) a = placed_linked a (exit_code p.version m (link_word p m))
        ∙ ap (λ l. rebase_all (base + a) l) (exit_called p.version m (link_word p m))
    leaving_moves (Internal m) a = refl
    leaving_moves (Recover m) a = refl
    leaving_moves External a = refl
    leaving_moves Main a = refl

    ending_moves : Moves (ending_code here) (ending_code there)
    ending_moves a =
        append_linked (leaving_code p role a) (return_code role result ∷ [])
        ∙ ap (λ l. l ++ linked_code starts base (return_code role result ∷ [])) (leaving_moves role a)
        ∙ ap (λ l. leaving_code p role (base + a) ++ l) (return_stays role result)

    mutual
      statement_moves : (s : Statement) → Moves (statement_code here s) (statement_code there s)
      statement_moves (Assign target e) a = assignment_stays p target e
      statement_moves (If e x NoPart) a =
          if_moves (expression_code p e) (block_code here x) (block_code there x) (expression_stays p e)
          (block_moves x) a
      statement_moves (If e x (SomePart y)) a =
          if_else_moves (expression_code p e) (block_code here x) (block_code there x) (block_code here y)
          (block_code there y) (expression_stays p e) (block_moves x) (block_moves y) a
      statement_moves (While e x) a =
          while_moves (expression_code p e) (block_code here x) (block_code there x) (expression_stays p e)
          (block_moves x) a
      statement_moves (Call q es into) a =
          after (arguments_code p es) _ _ (arguments_stay p es) (call_linked q into (result_of p q))
      statement_moves (Fork q es into) a = after (arguments_code p es) _ _ (arguments_stay p es) refl
      statement_moves (Join e into part) a =
          join_moves (expression_code p e) into (aborted_code here part) (aborted_code there part)
          (expression_stays p e) (part_moves part) a
      statement_moves (Return value) a =
          let v = value_code p value in
          let at : base + (a + length v) ≡ base + a + length v = omega arith in
          after v _ _ (value_stays p value) (ending_moves (a + length v) ∙ ap (ending_code there) at)
      statement_moves (Wait m) a =
          placed_linked a (wait_code p.version m (link_word p m.monitor) (member_address p m)
          (recovery_of here m.monitor))
          ∙ ap (λ l. rebase_all (base + a) l)
          (wait_called p.version m (link_word p m.monitor) (member_address p m) (recovery_of here m.monitor))
          ∙ ap (λ (i : Instr). rebase_all (base + a) (wait_code p.version m (link_word p m.monitor) (member_address p
          m) i))
          (recovery_called (recover_of p m.monitor))
      statement_moves (Notify m) a = refl
      statement_moves (Broadcast m) a = refl
      statement_moves (Print e) a = after (expression_code p e) _ _ (expression_stays p e) refl
      statement_moves Abort a = refl

      block_moves : (x : Block) → Moves (block_code here x) (block_code there x)
      block_moves Done a = refl
      block_moves (Then s x) a =
          sequence_moves (statement_code here s) (statement_code there s) (block_code here x) (block_code there x)
          (statement_moves s) (block_moves x) a

      part_moves : (x : Part) → Moves (aborted_code here x) (aborted_code there x)
      part_moves NoPart a = refl
      part_moves (SomePart x) a = block_moves x a

    entering_moves : (r : Role) → Moves (entering_code here r) (entering_code there r)
    entering_moves (Entry m) a =
        placed_linked a (enter_code m (link_word p m) (recovery_of here m))
        ∙ ap (λ (i : Instr). rebase_all (base + a) (enter_code m (link_word p m) i)) (recovery_called (recover_of p m))
    entering_moves (Internal m) a = refl
    entering_moves (Recover m) a = refl
    entering_moves External a = refl
    entering_moves Main a = refl

-- a piece that is linked is the piece's code at its place, with the other pieces at theirs
pub unlinked_moves : (p : Program) (starts : ℕ → ℕ) (q : Procedure) (base : ℕ)
    → linked_code starts base (unlinked_code p q) ≡ piece_code p starts q base
unlinked_moves p starts q base =
    let c = setting_of p (λ n. n) q in
    let d = setting_of p starts q in
    let parameters : Code = λ _. parameters_code (length q.parameters) in
    let default : Code = λ _. default_code q.result in
    let at : base + 0 ≡ base = omega arith in
    sequence_moves starts base parameters parameters
    (sequence (entering_code c q.role) (sequence (block_code c q.body) (sequence default (ending_code c))))
    (sequence (entering_code d q.role) (sequence (block_code d q.body) (sequence default (ending_code d))))
    (λ a. parameters_stay starts base (length q.parameters))
    (sequence_moves starts base (entering_code c q.role) (entering_code d q.role)
    (sequence (block_code c q.body) (sequence default (ending_code c)))
    (sequence (block_code d q.body) (sequence default (ending_code d)))
    (entering_moves starts base p q.role q.result q.role)
    (sequence_moves starts base (block_code c q.body) (block_code d q.body) (sequence default (ending_code c))
    (sequence default (ending_code d)) (block_moves starts base p q.role q.result q.body)
    (sequence_moves starts base default default (ending_code c) (ending_code d)
    (λ a. default_stays starts base q.result) (ending_moves starts base p q.role q.result)))) 0
    ∙ ap (piece_code p starts q) at
