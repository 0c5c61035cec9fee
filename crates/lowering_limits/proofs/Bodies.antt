-- The code of expressions and statements of a checked program is within the limits of an image, where it has room.
use Rattle.std.proofs.Common.{◌≡◌, ◌+◌, ◌<◌, ◌≤◌, ℕ, suc, List, [], ◌∷◌, Option, Some, None, refl, ap}
use Rattle.std.proofs.Common.{length, length-append, arith}
use Rattle.std.specs.Prelude.{IfSome, slice_get}
use Rattle.std.proofs.lemmas.Option.{slice_get_within}
use Rattle.program.specs.declared.kinds.ValueType.{ValueType}
use Rattle.program.specs.declared.kinds.ValueType.TheVariants.{Integer, Boolean, Process}
use Rattle.program.specs.declared.kinds.UnaryOperator.{UnaryOperator}
use Rattle.program.specs.declared.kinds.UnaryOperator.TheVariants.{Negate as Negated, Not as Not'}
use Rattle.program.specs.declared.kinds.Role.{Role}
use Rattle.program.specs.declared.kinds.Role.TheVariants.{Entry, Internal, Recover, External, Main}
use Rattle.program.specs.Trees.{Program, Procedure, slots, Expression, Constant, Truth, Local, Member, Element, Unary}
use Rattle.program.specs.Trees.{Both, Target, ToLocal, ToMember, ToElement, Statement, Assign, If, While, Call, Fork}
use Rattle.program.specs.Trees.{Join, Return, Wait, Notify, Broadcast, Print, Abort, Block, Done, Then}
use Rattle.program.specs.Trees.{Part, NoPart, SomePart}
use Rattle.program.specs.Scope.{scope_of, recover_of}
use Rattle.program.specs.Typing.{HasType, TargetHasType, ArgumentsFit, ResultFits, ReturnFits, Fits, BlockFits}
use Rattle.program.specs.Typing.{PartFits}
use Rattle.program.specs.Typing.{unary_type}
use Rattle.program.specs.WellFormed.{WellFormed}
use Rattle.lowering.specs.Marks.{plain}
use Rattle.lowering.specs.Layout.{link_word, member_address}
use Rattle.lowering.specs.Locks.{exit_code, exit_length}
use Rattle.lowering.specs.Conditions.{wait_code, wait_length, notify_code, broadcast_code}
use Rattle.lowering.specs.Processes.{call_code, return_code}
use Rattle.lowering.specs.Expressions.{expression_code, arguments_code, value_code, unary_code}
use Rattle.lowering.specs.Statements.{Setting, start_in, recovery_of, result_of, assignment_code, statement_code}
use Rattle.lowering.specs.Statements.{block_code}
use Rattle.lowering.specs.Statements.{aborted_code, ending_code, leaving_code}
use Rattle.lowering.specs.Pieces.{setting_of}
use Rattle.lowering.proofs.LengthLaws.{length-placed}
use Rattle.lowering_limits.proofs.Fine.{AreFine, HasRoom, Ends, fine_append, placed_fine}
use Rattle.lowering_limits.proofs.Templates.{exit_fits, exit_long, wait_long, wait_fits, recovery_fits}
use Rattle.lowering_limits.proofs.Parts.{if_fine, if_else_fine, while_fine, join_fine}

-- each piece of a program begins below the total
abbrev pub BeginBelow : Program → (ℕ → ℕ) → ℕ → Type 0
BeginBelow p starts total = (n : ℕ) (q : Procedure) → slice_get p.procedures n ≡ Some q → starts n < total

module _ (p : Program) (starts : ℕ → ℕ) (total : ℕ) (begun : BeginBelow p starts total) (formed : WellFormed p) where
  -- a monitor's recovery begins below the total
  pub recovery_below : (m : ℕ) → IfSome (start_in starts (recover_of p m)) (λ n. n < total)
  recovery_below m = below (recover_of p m) (formed.recovers m)
    where
      below : (r : Option ℕ) → ((n : ℕ) → r ≡ Some n → (q : Procedure) × (slice_get p.procedures n ≡ Some q)
          × (q.role ≡ Recover m)) → IfSome (start_in starts r) (λ n. n < total)
      below None h = tt
      below (Some n) h = let there = h n refl in begun n there.0 there.1

  -- as many arguments as parameters
  arguments_count : (q : Procedure) (es : List Expression) (ts : List ValueType) → ArgumentsFit (scope_of p q) es ts
      → length es ≡ length ts
  arguments_count q [] [] h = refl
  arguments_count q [] (t ∷ ts) h = absurd h
  arguments_count q (e ∷ es) [] h = absurd h
  arguments_count q (e ∷ es) (t ∷ ts) h = ap suc (arguments_count q es ts h.1)

  module _ (q : Procedure) (few : length (slots q) ≤ 64) where
    slot_below : (slot : ℕ) (t : ValueType) → slice_get (slots q) slot ≡ Some t → slot < 64
    slot_below slot t e = let h = slice_get_within (slots q) slot t e in omega (arith, h, few)

    unary_fine : (op : UnaryOperator) → AreFine total (plain (unary_code op) ∷ [])
    unary_fine Negated = ((tt, tt), tt)
    unary_fine Not' = ((tt, tt), tt)

    expression_fine : (e : Expression) (t : ValueType) → HasType (scope_of p q) e t
        → AreFine total (expression_code p e)
    expression_fine (Constant n) t h = ((tt, tt), tt)
    expression_fine (Truth b) t h = ((tt, tt), tt)
    expression_fine (Local slot) t h = ((slot_below slot t h, tt), tt)
    expression_fine (Member m) t h = ((tt, tt), ((tt, tt), tt))
    expression_fine (Element a e) t h =
        fine_append total (expression_code p e) _ (expression_fine e Integer h.1) ((tt, tt), ((tt, tt), tt))
    expression_fine (Unary op e) t h =
        fine_append total (expression_code p e) _ (expression_fine e (unary_type op) h.0) (unary_fine op)
    expression_fine (Both op l r) t h =
        fine_append total (expression_code p l) _ (expression_fine l h.0 h.2)
        (fine_append total (expression_code p r) _ (expression_fine r h.0 h.3) ((tt, tt), tt))

    arguments_fine : (es : List Expression) (ts : List ValueType) → ArgumentsFit (scope_of p q) es ts
        → AreFine total (arguments_code p es)
    arguments_fine [] ts h = tt
    arguments_fine (e ∷ es) [] h = absurd h
    arguments_fine (e ∷ es) (t ∷ ts) h =
        fine_append total (expression_code p e) (arguments_code p es) (expression_fine e t h.0)
        (arguments_fine es ts h.1)

    value_fine : (t : Option ValueType) (e : Option Expression) → ReturnFits (scope_of p q) t e
        → AreFine total (value_code p e)
    value_fine t None h = tt
    value_fine None (Some e) h = absurd h
    value_fine (Some t) (Some e) h = expression_fine e t h

    assignment_fine : (target : Target) (e : Expression) (t : ValueType) → TargetHasType (scope_of p q) target t
        → HasType (scope_of p q) e t → AreFine total (assignment_code p target e)
    assignment_fine (ToLocal slot) e t h k =
        fine_append total (expression_code p e) _ (expression_fine e t k) ((slot_below slot t h, tt), tt)
    assignment_fine (ToMember m) e t h k =
        ((tt, tt), fine_append total (expression_code p e) _ (expression_fine e t k) ((tt, tt), tt))
    assignment_fine (ToElement a i) e t h k =
        fine_append total (expression_code p i) _ (expression_fine i Integer h.1)
        ((tt, tt), fine_append total (expression_code p e) _ (expression_fine e t k) ((tt, tt), tt))

    into_below : (into : Option ℕ) (t : Option ValueType) → ResultFits (scope_of p q) into t
        → IfSome into (λ slot. slot < 64)
    into_below None t h = tt
    into_below (Some slot) None h = absurd h
    into_below (Some slot) (Some t) h = slot_below slot t h

    call_fine : (place : ℕ) (into : Option ℕ) (t : Option ValueType) → place < total
        → IfSome into (λ slot. slot < 64) → AreFine total (call_code place into t)
    call_fine place (Some slot) t below h = ((tt, below), ((h, tt), tt))
    call_fine place None (Some t) below h = ((tt, below), ((tt, tt), tt))
    call_fine place None None below h = ((tt, below), tt)

    abbrev here : Setting
    here = setting_of p starts q

    leaving_fine : (r : Role) → HasRoom total (leaving_code p r)
    leaving_fine (Entry m) a room =
        let n = length-placed a (exit_code p.version m (link_word p m)) in
        let long = exit_long p.version m (link_word p m) in
        placed_fine total (exit_length p.version) a (omega (arith, room, n, long)) (exit_code p.version m (link_word p
        m))
        (exit_fits p.version total m (link_word p m))
    leaving_fine (Internal m) a room = tt
    leaving_fine (Recover m) a room = tt
    leaving_fine External a room = tt
    leaving_fine Main a room = tt

    return_fine : (r : Role) (t : Option ValueType) → AreFine total (return_code r t ∷ [])
    return_fine r None = ((tt, tt), tt)
    return_fine r (Some t) = ((tt, tt), tt)

    pub ending_fine : Ends total (ending_code here)
    ending_fine a room =
        let n = length-append (leaving_code p q.role a) (return_code q.role q.result ∷ []) in
        fine_append total (leaving_code p q.role a) _ (leaving_fine q.role a (omega (arith, room, n)))
        (return_fine q.role q.result)

    mutual
      statement_fine : (s : Statement) → Fits (scope_of p q) s → HasRoom total (statement_code here s)
      statement_fine (Assign target e) h a room = assignment_fine target e h.0 h.1 h.2
      statement_fine (If e x NoPart) h a room =
          if_fine total (expression_code p e) (block_code here x) (expression_fine e Boolean h.0) (block_fine x h.1)
          a room
      statement_fine (If e x (SomePart y)) h a room =
          if_else_fine total (expression_code p e) (block_code here x) (block_code here y)
          (expression_fine e Boolean h.0) (block_fine x h.1) (block_fine y h.2) a room
      statement_fine (While e x) h a room =
          while_fine total (expression_code p e) (block_code here x) (expression_fine e Boolean h.0)
          (block_fine x h.1) a room
      statement_fine (Call n es into) h a room =
          fine_append total (arguments_code p es) _ (arguments_fine es h.1.parameters h.4)
          (call_fine (starts n) into (result_of p n) (begun n h.1 h.2) (into_below into h.1.result h.5))
      statement_fine (Fork n es into) h a room =
          let count = arguments_count q es h.1.parameters h.4 in
          let few_parameters = (formed.procedures n h.1 h.2).parameters in
          fine_append total (arguments_code p es) _ (arguments_fine es h.1.parameters h.4)
          ((omega (arith, count, few_parameters), begun n h.1 h.2), ((slot_below into Process h.5, tt), tt))
      statement_fine (Join e into part) h a room =
          join_fine total (expression_code p e) into (aborted_code here part) (expression_fine e Process h.1)
          (into_below into (Some Integer) h.2) (part_fine part h.3) a room
      statement_fine (Return value) h a room =
          let v = value_code p value in
          let n = length-append v (ending_code here (a + length v)) in
          fine_append total v _ (value_fine q.result value h.1) (ending_fine (a + length v) (omega (arith, room, n)))
      statement_fine (Wait m) h a room =
          let e = link_word p m.monitor in
          let r = recovery_of here m.monitor in
          let code = wait_code p.version m e (member_address p m) r in
          let n = length-placed a code in
          let long = wait_long p.version m e (member_address p m) r in
          placed_fine total (wait_length p.version) a (omega (arith, room, n, long)) code
          (wait_fits p.version total m e (member_address p m) r
          (recovery_fits total (wait_length p.version) (start_in starts (recover_of p m.monitor)) (recovery_below
          m.monitor)))
      statement_fine (Notify m) h a room =
          placed_fine total 7 a (omega (arith, room)) (notify_code m (member_address p m)) refl
      statement_fine (Broadcast m) h a room =
          placed_fine total 15 a (omega (arith, room))
          (broadcast_code m (link_word p m.monitor) (member_address p m)) refl
      statement_fine (Print e) h a room =
          fine_append total (expression_code p e) _ (expression_fine e Integer h) ((tt, tt), tt)
      statement_fine Abort h a room = ((tt, tt), tt)

      pub block_fine : (x : Block) → BlockFits (scope_of p q) x → HasRoom total (block_code here x)
      block_fine Done h a room = tt
      block_fine (Then s x) h a room =
          let f = statement_code here s a in
          let n = length-append f (block_code here x (a + length f)) in
          fine_append total f _ (statement_fine s h.0 a (omega (arith, room, n)))
          (block_fine x h.1 (a + length f) (omega (arith, room, n)))

      part_fine : (x : Part) → PartFits (scope_of p q) x → HasRoom total (aborted_code here x)
      part_fine NoPart h a room = ((tt, tt), tt)
      part_fine (SomePart x) h a room = block_fine x h a room
