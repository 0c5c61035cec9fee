use Rattle.token_cursor.proofs.Small.{found_placed, absent_placed}
use Rattle.token_cursor.proofs.parser.Parser.expect_placed.Goals as goal

pub returns-in-Some-clause-ok : goal.returns-in-Some-clause-ok
returns-in-Some-clause-ok c = found_placed c.in-Some.ensures

pub returns-in-None-clause-err : goal.returns-in-None-clause-err
returns-in-None-clause-err c = absent_placed c.in-None.ensures.0 c.in-None.ensures.1 c.refusal.ensures
