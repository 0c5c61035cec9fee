-- The length of code depends neither on its place nor on where other pieces begin.
use Rattle.std.proofs.Common.{◌≡◌, ◌+◌, ◌++◌, ℕ, zero, suc, List, [], ◌∷◌, Option, Some, None, length, refl, sym, ap}
use Rattle.std.proofs.Common.{◌∙◌, arith, append_assoc, length-append}
use Rattle.program.specs.declared.kinds.ValueType.{ValueType}
use Rattle.program.specs.declared.kinds.Role.{Role}
use Rattle.program.specs.declared.kinds.Role.TheVariants.{Entry, Internal, Recover, External, Main}
use Rattle.program.specs.Trees.{Program, Procedure, Statement, Assign, If, While, Call, Fork, Join, Return, Wait}
use Rattle.program.specs.Trees.{Notify, Broadcast, Print, Abort, Block, Done, Then, Part, NoPart, SomePart}
use Rattle.isa.specs.declared.instr.Instr.TheVariants.{JumpIfZero, Jump}
use Rattle.lowering.specs.declared.mark.Mark.TheVariants.{Test}
use Rattle.lowering.specs.declared.mark.Marked.{Marked}
use Rattle.lowering.specs.Marks.{with_mark, plain, rebase_all, Code, sequence}
use Rattle.lowering.specs.Layout.{link_word, member_address}
use Rattle.lowering.specs.Locks.{exit_code, enter_code}
use Rattle.lowering.specs.Processes.{join_code, call_code}
use Rattle.lowering.specs.Expressions.{expression_code, arguments_code, value_code}
use Rattle.lowering.specs.Statements.{Setting, recovery_of, result_of, statement_code, block_code, aborted_code}
use Rattle.lowering.specs.Statements.{ending_code, leaving_code, if_code, if_else_code, while_code, join_all_code}
use Rattle.lowering.specs.Pieces.{setting_of, piece_code, unlinked_code, entering_code, parameters_code, default_code}
use Rattle.lowering.specs.Pieces.{pieces_code, starts_from, start_of, marked_code}
use Rattle.lowering.specs.Rebasing.{StandsFrom}
use Rattle.std.specs.Prelude.{slice_get, slice_index}
use Rattle.words.specs.declared.version.ImageVersion.{ImageVersion}
use Rattle.words.specs.declared.version.ImageVersion.TheVariants.{One, Two, Linux}
use Rattle.lowering.specs.Conditions.{wait_code}
use Rattle.program.specs.declared.kinds.Member.{Member}
use Rattle.isa.specs.declared.instr.Instr.{Instr}

pub length-placed : (a : ℕ) (is : List Marked) → length (rebase_all a is) ≡ length is
length-placed a [] = refl
length-placed a (i ∷ is) = let h = length-placed a is in omega arith

-- one length at all places
abbrev SameLength : Code → Code → Type 0
SameLength f g = (a b : ℕ) → length (f a) ≡ length (g b)

sequence_same : (f f' g g' : Code) → SameLength f f' → SameLength g g' → SameLength (sequence f g) (sequence f' g')
sequence_same f f' g g' e h a b =
    let x = length-append (f a) (g (a + length (f a))) in
    let y = length-append (f' b) (g' (b + length (f' b))) in
    let u = e a b in
    let v = h (a + length (f a)) (b + length (f' b)) in omega arith

if_same : (t : List Marked) (f f' : Code) → SameLength f f' → SameLength (if_code t f) (if_code t f')
if_same t f f' e a b =
    let s = a + length t + 1 in let s' = b + length t + 1 in
    let x = length-append t (with_mark Test (JumpIfZero (s + length (f s))) ∷ f s) in
    let y = length-append t (with_mark Test (JumpIfZero (s' + length (f' s'))) ∷ f' s') in
    let u = e s s' in omega arith

if_else_same : (t : List Marked) (f f' g g' : Code) → SameLength f f' → SameLength g g'
    → SameLength (if_else_code t f g) (if_else_code t f' g')
if_else_same t f f' g g' e h a b =
    let s = a + length t + 1 in let s' = b + length t + 1 in
    let z = s + length (f s) + 1 in let z' = s' + length (f' s') + 1 in
    let j = plain (Jump (z + length (g z))) in let j' = plain (Jump (z' + length (g' z'))) in
    let x = length-append t (with_mark Test (JumpIfZero z) ∷ (f s ++ j ∷ g z)) in
    let y = length-append t (with_mark Test (JumpIfZero z') ∷ (f' s' ++ j' ∷ g' z')) in
    let x2 = length-append (f s) (j ∷ g z) in
    let y2 = length-append (f' s') (j' ∷ g' z') in
    let u = e s s' in let v = h z z' in omega arith

while_same : (t : List Marked) (f f' : Code) → SameLength f f' → SameLength (while_code t f) (while_code t f')
while_same t f f' e a b =
    let s = a + length t + 1 in let s' = b + length t + 1 in
    let j = plain (Jump a) in let j' = plain (Jump b) in
    let x = length-append t (with_mark Test (JumpIfZero (s + length (f s) + 1)) ∷ (f s ++ j ∷ [])) in
    let y = length-append t (with_mark Test (JumpIfZero (s' + length (f' s') + 1)) ∷ (f' s' ++ j' ∷ [])) in
    let x2 = length-append (f s) (j ∷ []) in
    let y2 = length-append (f' s') (j' ∷ []) in
    let u = e s s' in omega arith

join_same : (t : List Marked) (into : Option ℕ) (f f' : Code) → SameLength f f'
    → SameLength (join_all_code t into f) (join_all_code t into f')
join_same t into f f' e a b =
    let s = a + length t in let s' = b + length t in
    let j = plain (Jump (s + 30 + length (f (s + 30)))) in let j' = plain (Jump (s' + 30 + length (f' (s' + 30)))) in
    let x = length-append t (rebase_all s (join_code into) ++ (j ∷ f (s + 30))) in
    let y = length-append t (rebase_all s' (join_code into) ++ (j' ∷ f' (s' + 30))) in
    let x2 = length-append (rebase_all s (join_code into)) (j ∷ f (s + 30)) in
    let y2 = length-append (rebase_all s' (join_code into)) (j' ∷ f' (s' + 30)) in
    let x3 = length-placed s (join_code into) in
    let y3 = length-placed s' (join_code into) in
    let u = e (s + 30) (s' + 30) in omega arith

call_same : (x y : ℕ) (into : Option ℕ) (result : Option ValueType)
    → length (call_code x into result) ≡ length (call_code y into result)
call_same x y (Some slot) result = refl
call_same x y None (Some t) = refl
call_same x y None None = refl

wait_same : (v : ImageVersion) (a b : ℕ) (c : Member) (e s : ℕ) (i j : Instr)
    → length (rebase_all a (wait_code v c e s i)) ≡ length (rebase_all b (wait_code v c e s j))
wait_same One a b c e s i j = refl
wait_same Two a b c e s i j = refl
wait_same Linux a b c e s i j = refl

module _ (p : Program) (role : Role) (result : Option ValueType) (starts others : ℕ → ℕ) where
  abbrev here : Setting
  here = record { program = p; starts = starts; role = role; result = result }

  abbrev elsewhere : Setting
  elsewhere = record { program = p; starts = others; role = role; result = result }

  leaving_same : (r : Role) → SameLength (leaving_code p r) (leaving_code p r)
  leaving_same (Entry m) a b =
      length-placed a (exit_code p.version m (link_word p m))
      ∙ sym (length-placed b (exit_code p.version m (link_word p m)))
  leaving_same (Internal m) a b = refl
  leaving_same (Recover m) a b = refl
  leaving_same External a b = refl
  leaving_same Main a b = refl

  ending_same : SameLength (ending_code here) (ending_code elsewhere)
  ending_same a b = let h = leaving_same role a b in grind (arith, length-append)

  mutual
    statement_same : (s : Statement) → SameLength (statement_code here s) (statement_code elsewhere s)
    statement_same (Assign target e) a b = refl
    statement_same (If e x NoPart) a b =
        if_same (expression_code p e) (block_code here x) (block_code elsewhere x) (block_same x) a b
    statement_same (If e x (SomePart y)) a b =
        if_else_same (expression_code p e) (block_code here x) (block_code elsewhere x) (block_code here y)
        (block_code elsewhere y) (block_same x) (block_same y) a b
    statement_same (While e x) a b =
        while_same (expression_code p e) (block_code here x) (block_code elsewhere x) (block_same x) a b
    statement_same (Call q es into) a b =
        let u = length-append (arguments_code p es) (call_code (starts q) into (result_of p q)) in
        let v = length-append (arguments_code p es) (call_code (others q) into (result_of p q)) in
        let h = call_same (starts q) (others q) into (result_of p q) in omega arith
    statement_same (Fork q es into) a b = grind (arith, length-append)
    statement_same (Join e into part) a b =
        join_same (expression_code p e) into (aborted_code here part) (aborted_code elsewhere part) (part_same part) a
        b
    statement_same (Return value) a b =
        let v = value_code p value in
        let x = length-append v (ending_code here (a + length v)) in
        let y = length-append v (ending_code elsewhere (b + length v)) in
        let h = ending_same (a + length v) (b + length v) in omega arith
    statement_same (Wait m) a b =
        wait_same p.version a b m (link_word p m.monitor) (member_address p m) (recovery_of here m.monitor)
        (recovery_of elsewhere m.monitor)
    statement_same (Notify m) a b = refl
    statement_same (Broadcast m) a b = refl
    statement_same (Print e) a b = refl
    statement_same Abort a b = refl

    block_same : (x : Block) → SameLength (block_code here x) (block_code elsewhere x)
    block_same Done a b = refl
    block_same (Then s x) a b =
        let h = statement_same s a b in
        let k = block_same x (a + length (statement_code here s a)) (b + length (statement_code elsewhere s b)) in
        let u = length-append (statement_code here s a) (block_code here x (a + length (statement_code here s a))) in
        let v =
        length-append (statement_code elsewhere s b)
        (block_code elsewhere x (b + length (statement_code elsewhere s b))) in omega arith

    part_same : (x : Part) → SameLength (aborted_code here x) (aborted_code elsewhere x)
    part_same NoPart a b = refl
    part_same (SomePart x) a b = block_same x a b

  entering_same : (r : Role) → SameLength (entering_code here r) (entering_code elsewhere r)
  entering_same (Entry m) a b =
      length-placed a (enter_code m (link_word p m) (recovery_of here m))
      ∙ sym (length-placed b (enter_code m (link_word p m) (recovery_of elsewhere m)))
  entering_same (Internal m) a b = refl
  entering_same (Recover m) a b = refl
  entering_same External a b = refl
  entering_same Main a b = refl

-- a piece has one length, wherever it and others stand
pub piece_same : (p : Program) (starts others : ℕ → ℕ) (q : Procedure) (a b : ℕ)
    → length (piece_code p starts q a) ≡ length (piece_code p others q b)
piece_same p starts others q =
    let c = setting_of p starts q in
    let d = setting_of p others q in
    let parameters : Code = λ _. parameters_code (length q.parameters) in
    let default : Code = λ _. default_code q.result in
    sequence_same parameters parameters (sequence (entering_code c q.role)
    (sequence (block_code c q.body) (sequence default (ending_code c)))) (sequence (entering_code d q.role)
    (sequence (block_code d q.body) (sequence default (ending_code d)))) (λ a b. refl)
    (sequence_same (entering_code c q.role) (entering_code d q.role)
    (sequence (block_code c q.body) (sequence default (ending_code c)))
    (sequence (block_code d q.body) (sequence default (ending_code d)))
    (entering_same p q.role q.result starts others q.role)
    (sequence_same (block_code c q.body) (block_code d q.body) (sequence default (ending_code c))
    (sequence default (ending_code d)) (block_same p q.role q.result starts others q.body)
    (sequence_same default default (ending_code c) (ending_code d) (λ a b. refl)
    (ending_same p q.role q.result starts others))))

some_inj : {A : Type 0} {x y : A} → Some x ≡ Some y → x ≡ y
some_inj e = cc

none_some : {A : Type 0} {x : A} → None ≡ Some x → ⊥
none_some e = cc

-- pieces one behind the other, from a place on
placed_from : (p : Program) (f : ℕ → ℕ) (base : ℕ) (qs : List Procedure) (n : ℕ) (q : Procedure)
    → slice_get qs n ≡ Some q →
    (front : List Marked) × (back : List Marked)
    × (pieces_code p f qs base ≡ front ++ (piece_code p f q (slice_index (starts_from p base qs) n) ++ back))
    × (base + length front ≡ slice_index (starts_from p base qs) n)
placed_from p f base [] n q e = absurd (none_some e)
placed_from p f base (x ∷ qs) zero q e = (
  [],
  pieces_code p f qs (base + length (piece_code p f x base)),
  ap (λ y. piece_code p f y base ++ pieces_code p f qs (base + length (piece_code p f x base))) (some_inj e),
  omega arith,
)
placed_from p f base (x ∷ qs) (suc n) q e =
    let first = piece_code p f x base in
    let same : length first ≡ length (unlinked_code p x) = piece_same p f (λ piece. piece) x base 0 in
    let ih = placed_from p f (base + length (unlinked_code p x)) qs n q e in
    let s = slice_index (starts_from p (base + length (unlinked_code p x)) qs) n in
    let both = length-append first ih.0 in
    let at = ih.3 in (
      first ++ ih.0,
      ih.1,
      ap (λ k. first ++ pieces_code p f qs (base + k)) same ∙ ap (λ l. first ++ l) ih.2
          ∙ sym (append_assoc first ih.0 (piece_code p f q s ++ ih.1)),
      omega (arith, both, same, at),
    )

pub pieces_stand : (p : Program) (n : ℕ) (q : Procedure) → slice_get p.procedures n ≡ Some q
    → StandsFrom (marked_code p) (start_of p n) (piece_code p (start_of p) q (start_of p n))
pieces_stand p n q e =
    let h = placed_from p (start_of p) 0 p.procedures n q e in
    let at = h.3 in record { front = h.0; back = h.1; is = h.2; at = omega (arith, at) }
