use Rattle.std.proofs.Common.{◌∙◌, arith, subst, sym}
use Rattle.std.specs.Fmt.{decimal}
use Rattle.std.specs.Str.{IsUtf8}
use Rattle.std.proofs.lemmas.Fmt.{IsAscii-decimal}
use Rattle.std.proofs.lemmas.Str.{IsUtf8-from_ascii}
use Rattle.assembler.proofs.numbers.decimal_number.Goals as goal

pub returns-in_default : goal.returns-in_default
returns-in_default c = λ n small is.
    absurd (c.in_default.ensures.cases.0 (subst IsUtf8 (sym is)
    (IsUtf8-from_ascii (decimal n) (IsAscii-decimal n (omega (arith, small))))))

pub returns : goal.returns
returns c = λ n small is. c.parsed.ensures n small (c.in-Ok.ensures.cases.0 ∙ is)
