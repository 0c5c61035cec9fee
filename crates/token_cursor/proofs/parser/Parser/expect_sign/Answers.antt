use Rattle.token_cursor.proofs.Small.{found_mark, absent_mark}
use Rattle.token_cursor.proofs.parser.Parser.expect_sign.Goals as goal

pub returns-then-eat_sign-clause-ok : goal.returns-then-eat_sign-clause-ok
returns-then-eat_sign-clause-ok c = found_mark c.if-eat_sign.ensures

pub returns-else-eat_sign-clause-err : goal.returns-else-eat_sign-clause-err
returns-else-eat_sign-clause-err c = absent_mark c.if-eat_sign.ensures c.refusal.ensures
