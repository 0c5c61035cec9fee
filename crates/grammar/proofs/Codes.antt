-- A keyword, and a sign, is told by its number.
use Rattle.std.proofs.Common.{◌≡◌, ℕ, List, [], ◌∷◌, true, get_or, nat_eq, refl, ap, sym, ◌∙◌, arith, eq-eqb}
use Rattle.std.proofs.lemmas.Bool.Decides.{nat_tests}
use Rattle.scanner.specs.declared.token.Keyword.{Keyword}
use Rattle.scanner.specs.declared.token.Keyword.TheVariants as K
use Rattle.scanner.specs.declared.token.Sign.{Sign}
use Rattle.scanner.specs.declared.token.Sign.TheVariants as S
use Rattle.syntax.specs.Lexeme.{Word, WordAt, Mark}
use Rattle.scanner.specs.declared.token.Place.{Place}
use Rattle.grammar.specs.Machine.{word_code, sign_code, reply_word, reply_mark, reply_word_at, Push}

equal_of : (a b : ℕ) → nat_eq a b ≡ true → a ≡ b
equal_of a b h = grind (arith, nat_tests)

words : List Keyword
words = K.Program ∷ K.Monitor ∷ K.Var ∷ K.Condition ∷ K.Array ∷ K.Of ∷ K.Integer ∷ K.Boolean ∷ K.Process ∷ K.Entry ∷
    K.Internal ∷ K.Procedure ∷ K.End ∷ K.Recover ∷ K.Main ∷ K.If ∷ K.Then ∷ K.Else ∷ K.Endif ∷ K.While ∷ K.Do ∷
    K.Endloop ∷ K.Call ∷ K.Into ∷ K.Fork ∷ K.Join ∷ K.Aborted ∷ K.Return ∷ K.Wait ∷ K.Notify ∷ K.Broadcast ∷ K.Print ∷
    K.Abort ∷ K.Or ∷ K.And ∷ K.Mod ∷ K.Not ∷ K.True ∷ K.False ∷ []

word_back : (w : Keyword) → get_or words (word_code w) K.Program ≡ w
unfolding words
word_back K.Program = refl
word_back K.Monitor = refl
word_back K.Var = refl
word_back K.Condition = refl
word_back K.Array = refl
word_back K.Of = refl
word_back K.Integer = refl
word_back K.Boolean = refl
word_back K.Process = refl
word_back K.Entry = refl
word_back K.Internal = refl
word_back K.Procedure = refl
word_back K.End = refl
word_back K.Recover = refl
word_back K.Main = refl
word_back K.If = refl
word_back K.Then = refl
word_back K.Else = refl
word_back K.Endif = refl
word_back K.While = refl
word_back K.Do = refl
word_back K.Endloop = refl
word_back K.Call = refl
word_back K.Into = refl
word_back K.Fork = refl
word_back K.Join = refl
word_back K.Aborted = refl
word_back K.Return = refl
word_back K.Wait = refl
word_back K.Notify = refl
word_back K.Broadcast = refl
word_back K.Print = refl
word_back K.Abort = refl
word_back K.Or = refl
word_back K.And = refl
word_back K.Mod = refl
word_back K.Not = refl
word_back K.True = refl
word_back K.False = refl

pub same_word : (w v : Keyword) → nat_eq (word_code w) (word_code v) ≡ true → w ≡ v
same_word w v h = sym (word_back w) ∙ ap (λ n. get_or words n K.Program)
    (equal_of (word_code w) (word_code v) h) ∙ word_back v

signs : List Sign
signs = S.Assign ∷ S.Colon ∷ S.Semicolon ∷ S.Comma ∷ S.Dot ∷ S.OpenParen ∷ S.CloseParen ∷ S.OpenBracket ∷
    S.CloseBracket ∷ S.Equal ∷ S.NotEqual ∷ S.Less ∷ S.LessEqual ∷ S.Greater ∷ S.GreaterEqual ∷ S.Plus ∷ S.Minus ∷
    S.Times ∷ S.Divide ∷ []

sign_back : (s : Sign) → get_or signs (sign_code s) S.Assign ≡ s
unfolding signs
sign_back S.Assign = refl
sign_back S.Colon = refl
sign_back S.Semicolon = refl
sign_back S.Comma = refl
sign_back S.Dot = refl
sign_back S.OpenParen = refl
sign_back S.CloseParen = refl
sign_back S.OpenBracket = refl
sign_back S.CloseBracket = refl
sign_back S.Equal = refl
sign_back S.NotEqual = refl
sign_back S.Less = refl
sign_back S.LessEqual = refl
sign_back S.Greater = refl
sign_back S.GreaterEqual = refl
sign_back S.Plus = refl
sign_back S.Minus = refl
sign_back S.Times = refl
sign_back S.Divide = refl

pub same_sign : (s r : Sign) → nat_eq (sign_code s) (sign_code r) ≡ true → s ≡ r
same_sign s r h = sym (sign_back s) ∙ ap (λ n. get_or signs n S.Assign)
    (equal_of (sign_code s) (sign_code r) h) ∙ sign_back r

pub word_reply : (w : Keyword) → reply_word w (Word w) ≡ Push [] (λ _. tt)
word_reply w = rw (eq-eqb (word_code w) (word_code w) refl) refl

pub mark_reply : (s : Sign) → reply_mark s (Mark s) ≡ Push [] (λ _. tt)
mark_reply s = rw (eq-eqb (sign_code s) (sign_code s) refl) refl

pub word_at_reply : (w : Keyword) (place : Place) → reply_word_at w (WordAt w place) ≡ Push [] (λ _. place)
word_at_reply w place = rw (eq-eqb (word_code w) (word_code w) refl) refl
