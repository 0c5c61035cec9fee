use Rattle.std.proofs.Common.{◌≡◌, ◌∙◌, [], ap, arith, length, sym}
use Rattle.std.specs.Fmt.{decimal}
use Rattle.std.proofs.lemmas.List.{append-nil}
use Rattle.log_text.proofs.Logs.{some_left}
use Rattle.action_text.proofs.Numbers.{cancel}
use Rattle.action_text.proofs.counting.number_after.Goals as goal

pub returns-in_default-number : goal.returns-in_default-number
returns-in_default-number c = λ n small same.
    c.in_default-number.ensures.reads n [] small tt
    (cancel c.args.word.now c.in-Some.digits.now (decimal n) (sym c.in-Some.ensures ∙ same) ∙ sym (append-nil (decimal n)))

pub returns-then-not-is_empty : goal.returns-then-not-is_empty
returns-then-not-is_empty c = λ n small same.
    let both = c.in-Some-number.ensures.reads n [] small tt
    (cancel c.args.word.now c.in-Some.digits.now (decimal n) (sym c.in-Some.ensures ∙ same) ∙ sym (append-nil (decimal n))) in
    let some = some_left (length c.in-Some-number.rest.now) c.if-not-is_empty.ensures in
    let none : length c.in-Some-number.rest.now ≡ 0 = ap length both.1 in
    absurd (omega (arith, some, none))
