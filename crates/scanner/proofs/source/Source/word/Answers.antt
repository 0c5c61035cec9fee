use Rattle.std.proofs.Common.{ap, ◌∙◌, sym}
use Rattle.std.specs.Char.{is_ascii_alphanumeric}
use Rattle.scanner.specs.Places.{place_after}
use Rattle.scanner.proofs.Runs.{splits}
use Rattle.scanner.proofs.LexemeLaws.{longest_word}
use Rattle.scanner.proofs.Passing.{word_taken, token_passed}
use Rattle.scanner.proofs.source.Source.word.Goals as goal

pub kind_of_word-requires : goal.kind_of_word-requires
kind_of_word-requires c =
    word_taken c.args.self.now.rest.now _ _ (splits is_ascii_alphanumeric _ _ _ _ c.word_length.ensures.count
    c.take-text.ensures.taken c.take-text.ensures.rest) c.requires.first

pub returns-clause-token : goal.returns-clause-token
returns-clause-token c =
    let split = splits is_ascii_alphanumeric _ _ _ _ c.word_length.ensures.count c.take-text.ensures.taken
    c.take-text.ensures.rest in
    let place = c.take-text.ensures.place ∙ ap (place_after c.args.self.now.place) (sym c.take-text.ensures.taken) in
    token_passed _ _ _ _ _ c.kind_of_word.result split.parts place c.kind_of_word.ensures
    (longest_word _ _ (word_taken c.args.self.now.rest.now _ _ split c.requires.first) split.stops)
