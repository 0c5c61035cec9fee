use Rattle.std.proofs.Common.{◌∙◌, ap, arith}
use Rattle.std.specs.Result.{result_ok}
use Rattle.std.proofs.lemmas.Fmt.{parse-decimal}
use Rattle.assembler.proofs.numbers.parsed.Goals as goal

pub returns : goal.returns
returns c = λ n small is.
    c.ok.ensures.value ∙ ap result_ok (parse-decimal 32 n c.args.digits.now c.parse.result small (omega (arith, small)) is
    c.parse.ensures.value.0)
