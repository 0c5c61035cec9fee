use Rattle.token_cursor.proofs.Small.{found_word, absent_word}
use Rattle.token_cursor.proofs.parser.Parser.expect_keyword.Goals as goal

pub returns-then-eat_keyword-clause-ok : goal.returns-then-eat_keyword-clause-ok
returns-then-eat_keyword-clause-ok c = found_word c.if-eat_keyword.ensures

pub returns-else-eat_keyword-clause-err : goal.returns-else-eat_keyword-clause-err
returns-else-eat_keyword-clause-err c = absent_word c.if-eat_keyword.ensures c.refusal.ensures
