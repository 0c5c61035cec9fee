use Rattle.std.proofs.Common.{◌≡◌, ◌≢◌, get_or, ap, ◌∙◌, sym, arith}
use Rattle.scanner.specs.Bytes.{is_comment_byte}
use Rattle.scanner.specs.Places.{place_after}
use Rattle.scanner.proofs.Runs.{splits}
use Rattle.scanner.proofs.Passing.{comment_ends, comment_feed, comment_cut}
use Rattle.scanner.proofs.source.Source.pass_comment.Goals as goal

pub returns-in_default-clause-wrong : goal.returns-in_default-clause-wrong
returns-in_default-clause-wrong c =
    let split = splits is_comment_byte _ _ _ _ c.comment_length.ensures.count c.take-comment.ensures.taken
    c.take-comment.ensures.rest in
    let place = c.take-comment.ensures.place ∙ ap (place_after c.args.self.now.place)
    (sym c.take-comment.ensures.taken) in
    let feed : get_or c.take-comment.new.self.rest.now 0 0 ≢ 10 = λ e. omega arith in
    comment_cut _ _ _ _ _ split c.requires.comment place c.in_default.len_at_least feed

pub returns-in-empty-clause-gap : goal.returns-in-empty-clause-gap
returns-in-empty-clause-gap c =
    let split = splits is_comment_byte _ _ _ _ c.comment_length.ensures.count c.take-comment.ensures.taken
    c.take-comment.ensures.rest in
    let place = c.take-comment.ensures.place ∙ ap (place_after c.args.self.now.place)
    (sym c.take-comment.ensures.taken) in
    comment_ends _ _ _ _ _ split c.requires.comment place c.in-empty.len_below

pub returns-in-10-clause-gap : goal.returns-in-10-clause-gap
returns-in-10-clause-gap c =
    let split = splits is_comment_byte _ _ _ _ c.comment_length.ensures.count c.take-comment.ensures.taken
    c.take-comment.ensures.rest in
    let place = c.take-comment.ensures.place ∙ ap (place_after c.args.self.now.place)
    (sym c.take-comment.ensures.taken) in
    let feed : get_or c.take-comment.new.self.rest.now 0 0 ≡ 10 = omega arith in
    comment_feed _ _ _ _ _ _ _ split c.requires.comment place c.in-10.len_at_least feed c.pass.ensures.rest
    c.pass.ensures.place
