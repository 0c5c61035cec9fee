-- A number for each keyword and each sign, by which the machine compares them.
use Rattle.std.specs.Prelude.{ℕ}
use Rattle.scanner.specs.declared.token.Keyword.{Keyword}
use Rattle.scanner.specs.declared.token.Keyword.TheVariants as K
use Rattle.scanner.specs.declared.token.Sign.{Sign}
use Rattle.scanner.specs.declared.token.Sign.TheVariants as S
use Rattle.syntax.specs.Tree.{Minus, Not, Assign, If, While, Call, Fork, Join, Return, Wait, Notify, Broadcast, Print}
use Rattle.syntax.specs.Tree.{Abort, Then}

-- a number for each keyword
abbrev pub word_code : Keyword → ℕ
word_code K.Program = 0
word_code K.Monitor = 1
word_code K.Var = 2
word_code K.Condition = 3
word_code K.Array = 4
word_code K.Of = 5
word_code K.Integer = 6
word_code K.Boolean = 7
word_code K.Process = 8
word_code K.Entry = 9
word_code K.Internal = 10
word_code K.Procedure = 11
word_code K.End = 12
word_code K.Recover = 13
word_code K.Main = 14
word_code K.If = 15
word_code K.Then = 16
word_code K.Else = 17
word_code K.Endif = 18
word_code K.While = 19
word_code K.Do = 20
word_code K.Endloop = 21
word_code K.Call = 22
word_code K.Into = 23
word_code K.Fork = 24
word_code K.Join = 25
word_code K.Aborted = 26
word_code K.Return = 27
word_code K.Wait = 28
word_code K.Notify = 29
word_code K.Broadcast = 30
word_code K.Print = 31
word_code K.Abort = 32
word_code K.Or = 33
word_code K.And = 34
word_code K.Mod = 35
word_code K.Not = 36
word_code K.True = 37
word_code K.False = 38

-- a number for each sign
abbrev pub sign_code : Sign → ℕ
sign_code S.Assign = 0
sign_code S.Colon = 1
sign_code S.Semicolon = 2
sign_code S.Comma = 3
sign_code S.Dot = 4
sign_code S.OpenParen = 5
sign_code S.CloseParen = 6
sign_code S.OpenBracket = 7
sign_code S.CloseBracket = 8
sign_code S.Equal = 9
sign_code S.NotEqual = 10
sign_code S.Less = 11
sign_code S.LessEqual = 12
sign_code S.Greater = 13
sign_code S.GreaterEqual = 14
sign_code S.Plus = 15
sign_code S.Minus = 16
sign_code S.Times = 17
sign_code S.Divide = 18
