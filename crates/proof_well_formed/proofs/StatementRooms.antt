-- How many operands the statements of a block without a fault need.
use Rattle.std.proofs.Common.{◌≡◌, ℕ, ◌+◌, ◌*◌, ◌≤◌, arith, List, [], ◌∷◌, ◌++◌, Option, Some, None, length}
use Rattle.program.specs.declared.kinds.ValueType.TheVariants.{Boolean, Process, Integer}
use Rattle.program.specs.Measures.{room, arguments_room, assignment_room, value_room, statement_room, block_room}
use Rattle.program.specs.Measures.{part_room, most_room}
use Rattle.program.specs.Scope as P
use Rattle.syntax.specs.Nesting.{expression_nesting, index_nesting, arguments_nesting, value_nesting}
use Rattle.syntax.specs.Nesting.{statement_nesting, statements_nesting, else_nesting, aborted_nesting}
use Rattle.syntax.specs.Tree.{ExpressionTree, IndexTree, NoIndex, At, CalleeTree, StatementTree, Assign, If, While}
use Rattle.syntax.specs.Tree.{Call, Fork, Join, Return, Wait, Notify, Broadcast, Print, Abort, StatementTrees}
use Rattle.syntax.specs.Tree.{NoStatements, Then, PartTree, NoPart, Part}
use Rattle.types.specs.Pieces.{Piece}
use Rattle.types.specs.Scope.{Scope, Meaning, Nothing, ALocal, AMember, meaning}
use Rattle.types.specs.StatementFaults.{typed_faults, into_faults}
use Rattle.types.specs.StatementFaults.{called_piece}
use Rattle.types.specs.StatementFaults.{count_faults}
use Rattle.types.specs.CallFaults.{recover_faults, call_faults, fork_faults, statement_faults, block_faults}
use Rattle.types.specs.CallFaults.{part_faults}
use Rattle.types.specs.Expressions.{expression}
use Rattle.types.specs.Statements.{target_of, arguments, value, statement, block, part}
use Rattle.proof_well_formed.proofs.Free.{Free, parts, three}
use Rattle.proof_well_formed.proofs.Agreement.{Agrees}
use Rattle.proof_well_formed.proofs.CallParts.{IsCalled, free_call, free_fork}
use Rattle.proof_well_formed.proofs.CallsFit.{counted}
use Rattle.proof_well_formed.proofs.Rooms.{expression_room}

arguments_room_of : (s : Scope) (es : List ExpressionTree) (k : ℕ) → arguments_nesting es ≤ k
    → arguments_room (arguments s es) ≤ 6 + 5 * k + length es
arguments_room_of s [] k h = omega arith
arguments_room_of s (e ∷ es) k h =
    let f : room (expression s e) ≤ 6 + 5 * expression_nesting e = expression_room s e in
    let g : arguments_room (arguments s es) ≤ 6 + 5 * k + length es = arguments_room_of s es k (omega (arith, h)) in
    omega (arith, f, g, h)

target_room : (s : Scope) (m : Meaning) (i : IndexTree) (e : ExpressionTree) → index_nesting i ≤ 64
    → expression_nesting e ≤ 64 → assignment_room (target_of s m i) (expression s e) ≤ most_room
target_room s m NoIndex e h g = let f : room (expression s e) ≤ 6 + 5 * expression_nesting e = expression_room s e in
    elim m as (λ x. assignment_room (target_of s x NoIndex) (expression s e) ≤ most_room) [
      | Nothing ↦ omega (arith, f, g)
      | ALocal slot k ↦ omega (arith, f, g)
      | AMember x k ↦ omega (arith, f, g)
    ]
target_room s m (At j) e h g =
    let f : room (expression s e) ≤ 6 + 5 * expression_nesting e = expression_room s e in
    let i : room (expression s j) ≤ 6 + 5 * expression_nesting j = expression_room s j in
    elim m as (λ x. assignment_room (target_of s x (At j)) (expression s e) ≤ most_room) [
      | Nothing ↦ omega (arith, f, g, h, i)
      | ALocal slot k ↦ omega (arith, f, g, h, i)
      | AMember x k ↦ omega (arith, f, g, h, i)
    ]

value_room_of : (s : Scope) (e : Option ExpressionTree) → value_nesting e ≤ 64
    → value_room (value s e) ≤ most_room
value_room_of s None h = omega arith
value_room_of s (Some e) h = let f : room (expression s e) ≤ 6 + 5 * expression_nesting e = expression_room s e in
    omega (arith, f, h)

-- a procedure that is called has at most 16 parameters, so at most 16 arguments are passed
few : (s : Scope) (t : P.Scope) → Agrees s t → (c : CalleeTree) (q : Piece) → IsCalled s c q → Free (count_faults c q)
    → length c.arguments ≤ 16
few s t a c q k f =
    let h : length q.parameters ≤ 16 = (a.piece k.number q k.at).1 in
    let g : length c.arguments ≡ length q.parameters = counted c q f in omega (arith, g, h)

passed : (s : Scope) (es : List ExpressionTree) → length es ≤ 16 → arguments_nesting es ≤ 64
    → arguments_room (arguments s es) ≤ most_room
passed s es h n =
    let g : arguments_room (arguments s es) ≤ 6 + 5 * 64 + length es = arguments_room_of s es 64 n in
    omega (arith, g, h)

module _ (s : Scope) (t : P.Scope) (a : Agrees s t) where
  mutual
    pub statement_room_of : (x : StatementTree) → Free (statement_faults s x) → statement_nesting x ≤ 64
        → statement_room (statement s x) ≤ most_room
    statement_room_of (Assign v e) f n =
        target_room s (meaning s v.name) v.index e (omega (arith, n)) (omega (arith, n))
    statement_room_of (If place e ss rest) f n =
        let p = three (typed_faults s Boolean e) (block_faults s ss) (part_faults s rest) f in
        let g : room (expression s e) ≤ 6 + 5 * expression_nesting e = expression_room s e in
        let h : block_room (block s ss) ≤ most_room = block_room_of ss p.1 (omega (arith, n)) in
        let i : part_room (part s rest) ≤ most_room = else_room rest p.2 (omega (arith, n)) in
        omega (arith, g, h, i, n)
    statement_room_of (While place e ss) f n =
        let p = parts (typed_faults s Boolean e) (block_faults s ss) f in
        let g : room (expression s e) ≤ 6 + 5 * expression_nesting e = expression_room s e in
        let h : block_room (block s ss) ≤ most_room = block_room_of ss p.1 (omega (arith, n)) in
        omega (arith, g, h, n)
    statement_room_of (Call place c into) f n =
        let p = parts (recover_faults s place) (call_faults s c into (called_piece s c)) f in
        let k = free_call s c into p.1 in passed s c.arguments (few s t a c k.piece k.called k.count) n
    statement_room_of (Fork place c into) f n =
        let p = parts (recover_faults s place) (fork_faults s c into (called_piece s c)) f in
        let k = free_fork s c into p.1 in passed s c.arguments (few s t a c k.piece k.called k.count) n
    statement_room_of (Join place e into rest) f n =
        let p = parts (recover_faults s place ++ typed_faults s Process e ++ into_faults s (Some Integer) into)
        (part_faults s rest) f in
        let g : room (expression s e) ≤ 6 + 5 * expression_nesting e = expression_room s e in
        let h : part_room (part s rest) ≤ most_room = aborted_room rest p.1 (omega (arith, n)) in
        omega (arith, g, h, n)
    statement_room_of (Return place e) f n = value_room_of s e n
    statement_room_of (Wait place name) f n = omega arith
    statement_room_of (Notify place name) f n = omega arith
    statement_room_of (Broadcast place name) f n = omega arith
    statement_room_of (Print place e) f n =
        let g : room (expression s e) ≤ 6 + 5 * expression_nesting e = expression_room s e in omega (arith, g, n)
    statement_room_of (Abort place) f n = omega arith

    pub block_room_of : (ss : StatementTrees) → Free (block_faults s ss) → statements_nesting ss ≤ 64
        → block_room (block s ss) ≤ most_room
    block_room_of NoStatements f n = omega arith
    block_room_of (Then first rest) f n =
        let p = parts (statement_faults s first) (block_faults s rest) f in
        let g : statement_room (statement s first) ≤ most_room = statement_room_of first p.0 (omega (arith, n)) in
        let h : block_room (block s rest) ≤ most_room = block_room_of rest p.1 (omega (arith, n)) in
        omega (arith, g, h)

    else_room : (x : PartTree) → Free (part_faults s x) → else_nesting x ≤ 64 → part_room (part s x) ≤ most_room
    else_room NoPart f n = omega arith
    else_room (Part ss) f n = block_room_of ss f n

    aborted_room : (x : PartTree) → Free (part_faults s x) → aborted_nesting x ≤ 64
        → part_room (part s x) ≤ most_room
    aborted_room NoPart f n = omega arith
    aborted_room (Part ss) f n = block_room_of ss f (omega (arith, n))
