use Rattle.std.proofs.Common.{sym, subst, ◌∙◌}
use Rattle.grammar.specs.Reading.{StartsFactor}
use Rattle.token_cursor.proofs.Begins.{starts}
use Rattle.token_cursor.proofs.parser.Parser.starts_factor.Goals as goal

pub returns-clause-yes : goal.returns-clause-yes
returns-clause-yes c = λ e.
    let t = c.peek.result in
    subst StartsFactor c.peek.ensures.lexeme (starts c.start_of.result t.text.now t.place _
    (c.start_of.ensures t.text.now t.place) (sym c.is_some.ensures ∙ e))
