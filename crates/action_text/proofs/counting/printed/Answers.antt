use Rattle.std.proofs.Common.{◌≡◌, ◌∙◌, [], ap, arith, codes, length, sym}
use Rattle.std.specs.Fmt.{signed_decimal}
use Rattle.std.proofs.lemmas.List.{append-nil}
use Rattle.words.specs.Signed.{word_of}
use Rattle.log_text.proofs.Logs.{some_left}
use Rattle.action_text.proofs.Numbers.{cancel, small_word}
use Rattle.action_text.proofs.counting.printed.Goals as goal

pub returns-in_default-value_of : goal.returns-in_default-value_of
returns-in_default-value_of c = λ z fits same.
    c.in_default-value_of.ensures.reads (word_of z) [] (small_word z fits) tt
    (cancel (codes "print ") c.in-Some.shown.now (signed_decimal z) (sym c.in-Some.ensures ∙ same)
    ∙ ap signed_decimal (sym (c.signed_laws.ensures.back z fits)) ∙ sym (append-nil _))

pub returns-then-not-is_empty : goal.returns-then-not-is_empty
returns-then-not-is_empty c = λ z fits same.
    let both = c.in-Some-value_of.ensures.reads (word_of z) [] (small_word z fits) tt
    (cancel (codes "print ") c.in-Some.shown.now (signed_decimal z) (sym c.in-Some.ensures ∙ same)
    ∙ ap signed_decimal (sym (c.signed_laws.ensures.back z fits)) ∙ sym (append-nil _)) in
    let some = some_left (length c.in-Some-value_of.rest.now) c.if-not-is_empty.ensures in
    let none : length c.in-Some-value_of.rest.now ≡ 0 = ap length both.1 in
    absurd (omega (arith, some, none))
