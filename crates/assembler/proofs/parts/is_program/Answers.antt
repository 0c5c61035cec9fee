use Rattle.std.proofs.Common.{◌∙◌, arith, length, refl, sym}
use Rattle.std.proofs.lemmas.Bool.{false≢true}
use Rattle.assembler.proofs.Within.{all_within, ends_so, within_all}
use Rattle.assembler.proofs.parts.is_program.Goals as goal

pub returns-then-not-are_within : goal.returns-then-not-are_within
returns-then-not-are_within c = λ p.
    absurd (false≢true (sym c.if-not-are_within.true ∙ c.are_within.ensures ∙ within_all c.args.code.now p.instructions))

pub returns : goal.returns
returns c =
    ends_so c.lead_below.result (length c.args.code.now) _ c.lead_below.ensures refl
    (λ leads. record {
      few_monitors = omega arith;
      few_members = c.if-not-sum_is_within.ensures;
      short = omega arith;
      starts = omega arith;
      instructions = all_within c.args.code.now (sym c.are_within.ensures ∙ c.if-not-are_within.false);
      targets = leads;
    })
