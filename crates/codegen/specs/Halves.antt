-- Parts of the code that are made together.
use Rattle.std.specs.Prelude.{ℕ, ◌+◌, List, [], ◌∷◌, ◌++◌, length}
use Rattle.isa.specs.declared.instr.Instr.TheVariants.{Jump, JumpIfZero}
use Rattle.lowering.specs.declared.mark.Mark.TheVariants.{Test}
use Rattle.lowering.specs.declared.mark.Marked.{Marked}
use Rattle.lowering.specs.Marks.{with_mark, plain, Code, sequence}
use Rattle.lowering.specs.Statements.{Setting, ending_code}
use Rattle.lowering.specs.Pieces.{parameters_code, entering_code, default_code}

-- the first half of an IF with an ELSE: a test, a part, and a jump that isn't written yet
abbrev pub then_code : List Marked → Code → Code
then_code test a start =
    let then_start = start + length test + 1 in
    test ++ (with_mark Test (JumpIfZero (then_start + length (a then_start) + 1)) ∷ (a then_start ++ plain
    (Jump 0) ∷ []))

-- the beginning of a procedure with so many parameters
abbrev pub beginning_code : Setting → ℕ → Code
beginning_code c parameters = sequence (λ _. parameters_code parameters) (entering_code c c.role)

-- the end of its text
abbrev pub end_code : Setting → Code
end_code c = sequence (λ _. default_code c.result) (ending_code c)
