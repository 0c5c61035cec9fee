-- Which statement a lexeme begins.
use Rattle.std.specs.Prelude.{◌≡◌, Option, Some, None}
use Rattle.scanner.specs.declared.token.Keyword.TheVariants as K
use Rattle.syntax.specs.Lexeme.{Lexeme, WordAt, Named}
use Rattle.syntax.specs.Tree.{NoStatements}
use Rattle.syntax.specs.View.{name_of}
use Rattle.grammar.specs.Machine.{Skip, reply_statements}
use Rattle.parser.specs.declared.start.StatementStart.{StatementStart}
use Rattle.parser.specs.declared.start.StatementStart.TheVariants.{Assign, If, While, Call, Fork, Join, Return, Wait}
use Rattle.parser.specs.declared.start.StatementStart.TheVariants.{Notify, Broadcast, Print, Abort}

-- the lexeme that a statement starts with
abbrev pub start_lexeme : StatementStart → Lexeme
start_lexeme (Assign name) = Named (name_of name)
start_lexeme (If place) = WordAt K.If place
start_lexeme (While place) = WordAt K.While place
start_lexeme (Call place) = WordAt K.Call place
start_lexeme (Fork place) = WordAt K.Fork place
start_lexeme (Join place) = WordAt K.Join place
start_lexeme (Return place) = WordAt K.Return place
start_lexeme (Wait place) = WordAt K.Wait place
start_lexeme (Notify place) = WordAt K.Notify place
start_lexeme (Broadcast place) = WordAt K.Broadcast place
start_lexeme (Print place) = WordAt K.Print place
start_lexeme (Abort place) = WordAt K.Abort place

-- a statement begins so with this lexeme, or none does
abbrev pub Begins : Option StatementStart → Lexeme → Type 0
Begins (Some s) k = k ≡ start_lexeme s
Begins None k = reply_statements k ≡ Skip NoStatements
