-- What kind of token a lexeme is, is determined.
use Rattle.std.proofs.Common.{◌≡◌, ℕ, ◌≤◌, arith, Bool, true, false, ◌&&◌, List, [], ◌∷◌, Option, Some, refl, sym, ap}
use Rattle.std.proofs.Common.{◌∙◌, eqb}
use Rattle.std.specs.List.{find}
use Rattle.std.proofs.lemmas.Bool.{both_ways, and_parts, false≢true}
use Rattle.std.specs.Char.{is_ascii_alphabetic, is_ascii_digit}
use Rattle.scanner.specs.declared.token.Keyword.{Keyword as Word}
use Rattle.scanner.specs.declared.token.Keyword.TheVariants.{Program, Monitor, Var, Condition, Array, Of, Integer}
use Rattle.scanner.specs.declared.token.Keyword.TheVariants.{Boolean, Process, Entry, Internal, Procedure, Recover}
use Rattle.scanner.specs.declared.token.Keyword.TheVariants.{Main, If, Then, Else, Endif, While, Do, Endloop, Call}
use Rattle.scanner.specs.declared.token.Keyword.TheVariants.{Into, Fork, Join, Aborted, Return, Wait, Notify}
use Rattle.scanner.specs.declared.token.Keyword.TheVariants.{Broadcast, Print, Abort, Or, And, Mod, Not, True, False}
use Rattle.scanner.specs.declared.token.Keyword.TheVariants as words
use Rattle.scanner.specs.declared.token.Sign.{Sign as Mark}
use Rattle.scanner.specs.declared.token.Sign.TheVariants.{Assign, Colon, Semicolon, Comma, Dot, OpenParen, CloseParen}
use Rattle.scanner.specs.declared.token.Sign.TheVariants.{OpenBracket, CloseBracket, Equal, NotEqual, Less, LessEqual}
use Rattle.scanner.specs.declared.token.Sign.TheVariants.{Greater, GreaterEqual, Plus, Minus, Times, Divide}
use Rattle.scanner.specs.declared.token.Kind.{Kind}
use Rattle.scanner.specs.declared.token.Kind.TheVariants.{Keyword, Sign, Name, Number, End}
use Rattle.scanner.specs.Lexemes.{keyword_text, sign_text, is_word, is_digits, value_of, Spells}
use Rattle.scanner.proofs.LexemeLaws.{keyword_word, sign_byte, first_of_sign, letter_no_digit}

abbrev same_text : List ℕ → List ℕ → Bool
same_text [] [] = true
same_text (x ∷ xs) (y ∷ ys) = eqb x y && same_text xs ys
same_text _ _ = false

abbrev every_keyword : List Word
every_keyword = Program ∷ Monitor ∷ Var ∷ Condition ∷ Array ∷ Of ∷ Integer ∷ Boolean ∷ Process ∷ Entry ∷ Internal ∷
    Procedure ∷ words.End ∷ Recover ∷ Main ∷ If ∷ Then ∷ Else ∷ Endif ∷ While ∷ Do ∷ Endloop ∷ Call ∷ Into ∷ Fork ∷
    Join ∷ Aborted ∷ Return ∷ Wait ∷ Notify ∷ Broadcast ∷ Print ∷ Abort ∷ Or ∷ And ∷ Mod ∷ Not ∷ True ∷ False ∷ []

abbrev every_sign : List Mark
every_sign = Assign ∷ Colon ∷ Semicolon ∷ Comma ∷ Dot ∷ OpenParen ∷ CloseParen ∷ OpenBracket ∷ CloseBracket ∷ Equal ∷
    NotEqual ∷ Less ∷ LessEqual ∷ Greater ∷ GreaterEqual ∷ Plus ∷ Minus ∷ Times ∷ Divide ∷ []

-- the keyword, or the sign, that is written so
abbrev keyword_at : List ℕ → Option Word
keyword_at bs = find (λ k. same_text bs (keyword_text k)) every_keyword

abbrev sign_at : List ℕ → Option Mark
sign_at bs = find (λ s. same_text bs (sign_text s)) every_sign

keyword_again : (k : Word) → keyword_at (keyword_text k) ≡ Some k
keyword_again Program = refl
keyword_again Monitor = refl
keyword_again Var = refl
keyword_again Condition = refl
keyword_again Array = refl
keyword_again Of = refl
keyword_again Integer = refl
keyword_again Boolean = refl
keyword_again Process = refl
keyword_again Entry = refl
keyword_again Internal = refl
keyword_again Procedure = refl
keyword_again words.End = refl
keyword_again Recover = refl
keyword_again Main = refl
keyword_again If = refl
keyword_again Then = refl
keyword_again Else = refl
keyword_again Endif = refl
keyword_again While = refl
keyword_again Do = refl
keyword_again Endloop = refl
keyword_again Call = refl
keyword_again Into = refl
keyword_again Fork = refl
keyword_again Join = refl
keyword_again Aborted = refl
keyword_again Return = refl
keyword_again Wait = refl
keyword_again Notify = refl
keyword_again Broadcast = refl
keyword_again Print = refl
keyword_again Abort = refl
keyword_again Or = refl
keyword_again And = refl
keyword_again Mod = refl
keyword_again Not = refl
keyword_again True = refl
keyword_again False = refl

sign_again : (s : Mark) → sign_at (sign_text s) ≡ Some s
sign_again Assign = refl
sign_again Colon = refl
sign_again Semicolon = refl
sign_again Comma = refl
sign_again Dot = refl
sign_again OpenParen = refl
sign_again CloseParen = refl
sign_again OpenBracket = refl
sign_again CloseBracket = refl
sign_again Equal = refl
sign_again NotEqual = refl
sign_again Less = refl
sign_again LessEqual = refl
sign_again Greater = refl
sign_again GreaterEqual = refl
sign_again Plus = refl
sign_again Minus = refl
sign_again Times = refl
sign_again Divide = refl

keyword_unique : (k l : Word) → keyword_text k ≡ keyword_text l → k ≡ l
keyword_unique k l e =
    let same : Some k ≡ Some l = sym (keyword_again k) ∙ ap keyword_at e ∙ keyword_again l in
    cc

sign_unique : (s t : Mark) → sign_text s ≡ sign_text t → s ≡ t
sign_unique s t e =
    let same : Some s ≡ Some t = sym (sign_again s) ∙ ap sign_at e ∙ sign_again t in
    cc

-- no text is of two of these: a word, digits and a sign
word_no_digits : (bs : List ℕ) → is_word bs ≡ true → is_digits bs ≡ true → ⊥
word_no_digits [] word digits = false≢true word
word_no_digits (b ∷ bs) word digits = both_ways _ (letter_no_digit b (and_parts (is_ascii_alphabetic b) _ word).0)
    (and_parts (is_ascii_digit b) _ digits).0

sign_no_word : (s : Mark) (bs : List ℕ) → bs ≡ sign_text s → is_word bs ≡ true → ⊥
sign_no_word s [] e word = false≢true word
sign_no_word s (b ∷ bs) e word = both_ways _ (sign_byte b (first_of_sign s b bs e)).no_letter
    (and_parts (is_ascii_alphabetic b) _ word).0

sign_no_digits : (s : Mark) (bs : List ℕ) → bs ≡ sign_text s → is_digits bs ≡ true → ⊥
sign_no_digits s [] e digits = false≢true digits
sign_no_digits s (b ∷ bs) e digits = both_ways _ (sign_byte b (first_of_sign s b bs e)).no_digit
    (and_parts (is_ascii_digit b) _ digits).0

keyword_is_word : (k : Word) (bs : List ℕ) → bs ≡ keyword_text k → is_word bs ≡ true
keyword_is_word k bs e = ap is_word e ∙ keyword_word k

pub spells_unique : (k l : Kind) (bs : List ℕ) → Spells k bs → Spells l bs → k ≡ l
spells_unique (Keyword k) (Keyword l) bs a b = ap Keyword (keyword_unique k l (sym a ∙ b))
spells_unique (Keyword k) (Sign s) bs a b = absurd (sign_no_word s bs b (keyword_is_word k bs a))
spells_unique (Keyword k) Name bs a b = absurd (b.1 k a)
spells_unique (Keyword k) (Number n) bs a b = absurd (word_no_digits bs (keyword_is_word k bs a) b.0)
spells_unique (Sign s) (Keyword l) bs a b = absurd (sign_no_word s bs a (keyword_is_word l bs b))
spells_unique (Sign s) (Sign t) bs a b = ap Sign (sign_unique s t (sym a ∙ b))
spells_unique (Sign s) Name bs a b = absurd (sign_no_word s bs a b.0)
spells_unique (Sign s) (Number n) bs a b = absurd (sign_no_digits s bs a b.0)
spells_unique Name (Keyword l) bs a b = absurd (a.1 l b)
spells_unique Name (Sign s) bs a b = absurd (sign_no_word s bs b a.0)
spells_unique Name Name bs a b = refl
spells_unique Name (Number n) bs a b = absurd (word_no_digits bs a.0 b.0)
spells_unique (Number n) (Keyword l) bs a b = absurd (word_no_digits bs (keyword_is_word l bs b) a.0)
spells_unique (Number n) (Sign s) bs a b = absurd (sign_no_digits s bs b a.0)
spells_unique (Number n) Name bs a b = absurd (word_no_digits bs b.0 a.0)
spells_unique (Number n) (Number m) bs a b = ap Number (sym a.1 ∙ b.1)
spells_unique End l bs a b = absurd a
spells_unique (Keyword k) End bs a b = absurd b
spells_unique (Sign s) End bs a b = absurd b
spells_unique Name End bs a b = absurd b
spells_unique (Number n) End bs a b = absurd b

-- digits that are a token are a number that is not too great
pub digits_number : (k : Kind) (bs : List ℕ) → Spells k bs → is_digits bs ≡ true → value_of bs ≤ 2147483647
digits_number (Keyword k) bs a digits = absurd (word_no_digits bs (keyword_is_word k bs a) digits)
digits_number (Sign s) bs a digits = absurd (sign_no_digits s bs a digits)
digits_number Name bs a digits = absurd (word_no_digits bs a.0 digits)
digits_number (Number n) bs a digits = omega (arith, a.1, a.2)
digits_number End bs a digits = absurd a
