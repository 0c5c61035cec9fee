use Rattle.std.proofs.Common.{◌<◌, ap, ◌∙◌, sym, inr, arith}
use Rattle.std.specs.Char.{is_ascii_digit}
use Rattle.scanner.specs.Lexemes.{value_of}
use Rattle.scanner.specs.Places.{place_after}
use Rattle.scanner.proofs.Runs.{splits}
use Rattle.scanner.proofs.LexemeLaws.{longest_digits}
use Rattle.scanner.proofs.Passing.{digits_taken, token_passed, bad_token}
use Rattle.scanner.proofs.source.Source.number.Goals as goal

pub value_of-requires : goal.value_of-requires
value_of-requires c =
    (splits is_ascii_digit c.args.self.now.rest.now _ _ _ c.digits_length.ensures.count c.take-text.ensures.taken
    c.take-text.ensures.rest).passes

pub returns-in-None-clause-wrong : goal.returns-in-None-clause-wrong
returns-in-None-clause-wrong c =
    let split = splits is_ascii_digit _ _ _ _ c.digits_length.ensures.count c.take-text.ensures.taken
    c.take-text.ensures.rest in
    let digits = digits_taken c.args.self.now.rest.now _ _ split c.requires.first in
    let above : 2147483647 < value_of c.take-text.result.now = omega (arith, c.in-None.ensures) in
    bad_token _ _ (inr (
      c.take-text.result.now,
      c.take-text.new.self.rest.now,
      split.parts,
      digits,
      longest_digits _ _
          digits split.stops,
      above,
    ))

pub returns-in-Some-clause-token : goal.returns-in-Some-clause-token
returns-in-Some-clause-token c =
    let split = splits is_ascii_digit _ _ _ _ c.digits_length.ensures.count c.take-text.ensures.taken
    c.take-text.ensures.rest in
    let place = c.take-text.ensures.place ∙ ap (place_after c.args.self.now.place) (sym c.take-text.ensures.taken) in
    let digits = digits_taken c.args.self.now.rest.now _ _ split c.requires.first in
    token_passed _ _ _ _ _ _ split.parts place (digits, sym c.in-Some.ensures.1, omega (arith, c.in-Some.ensures))
    (longest_digits _ _ digits split.stops)
