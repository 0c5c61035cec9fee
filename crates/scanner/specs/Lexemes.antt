-- The lexemes of the language, and what kind of token each is.
use Rattle.std.specs.Prelude.{◌≡◌, ◌≢◌, ◌≤◌, ◌⊎◌, ℕ, ◌+◌, ◌-◌, ◌*◌, Bool, false, ◌&&◌, List, [], ◌∷◌, ◌++◌, IsTrue}
use Rattle.std.specs.Prelude.{codes}
use Rattle.std.specs.List.{list_all}
use Rattle.std.specs.Char.{is_ascii_alphabetic, is_ascii_digit, is_ascii_alphanumeric}
use Rattle.scanner.specs.Limits.{most_number}
use Rattle.scanner.specs.declared.token.Keyword.{Keyword as Word}
use Rattle.scanner.specs.declared.token.Keyword.TheVariants.{Program, Monitor, Var, Condition, Array, Of, Integer}
use Rattle.scanner.specs.declared.token.Keyword.TheVariants.{Boolean, Process, Entry, Internal, Procedure, Recover}
use Rattle.scanner.specs.declared.token.Keyword.TheVariants.{Main, If, Then, Else, Endif, While, Do, Endloop, Call}
use Rattle.scanner.specs.declared.token.Keyword.TheVariants.{Into, Fork, Join, Aborted, Return, Wait, Notify}
use Rattle.scanner.specs.declared.token.Keyword.TheVariants.{Broadcast, Print, Abort, Or, And, Mod, Not, True, False}
use Rattle.scanner.specs.declared.token.Keyword.TheVariants as words
use Rattle.scanner.specs.declared.token.Sign.{Sign as Mark}
use Rattle.scanner.specs.declared.token.Sign.TheVariants.{Assign, Colon, Semicolon, Comma, Dot, OpenParen, CloseParen}
use Rattle.scanner.specs.declared.token.Sign.TheVariants.{OpenBracket, CloseBracket, Equal, NotEqual, Less, LessEqual}
use Rattle.scanner.specs.declared.token.Sign.TheVariants.{Greater, GreaterEqual, Plus, Minus, Times, Divide}
use Rattle.scanner.specs.declared.token.Kind.{Kind}
use Rattle.scanner.specs.declared.token.Kind.TheVariants.{Keyword, Sign, Name, Number, End}

-- how a keyword is written
abbrev pub keyword_text : Word → List ℕ
keyword_text Program = codes "PROGRAM"
keyword_text Monitor = codes "MONITOR"
keyword_text Var = codes "VAR"
keyword_text Condition = codes "CONDITION"
keyword_text Array = codes "ARRAY"
keyword_text Of = codes "OF"
keyword_text Integer = codes "INTEGER"
keyword_text Boolean = codes "BOOLEAN"
keyword_text Process = codes "PROCESS"
keyword_text Entry = codes "ENTRY"
keyword_text Internal = codes "INTERNAL"
keyword_text Procedure = codes "PROCEDURE"
keyword_text words.End = codes "END"
keyword_text Recover = codes "RECOVER"
keyword_text Main = codes "MAIN"
keyword_text If = codes "IF"
keyword_text Then = codes "THEN"
keyword_text Else = codes "ELSE"
keyword_text Endif = codes "ENDIF"
keyword_text While = codes "WHILE"
keyword_text Do = codes "DO"
keyword_text Endloop = codes "ENDLOOP"
keyword_text Call = codes "CALL"
keyword_text Into = codes "INTO"
keyword_text Fork = codes "FORK"
keyword_text Join = codes "JOIN"
keyword_text Aborted = codes "ABORTED"
keyword_text Return = codes "RETURN"
keyword_text Wait = codes "WAIT"
keyword_text Notify = codes "NOTIFY"
keyword_text Broadcast = codes "BROADCAST"
keyword_text Print = codes "PRINT"
keyword_text Abort = codes "ABORT"
keyword_text Or = codes "OR"
keyword_text And = codes "AND"
keyword_text Mod = codes "MOD"
keyword_text Not = codes "NOT"
keyword_text True = codes "TRUE"
keyword_text False = codes "FALSE"

-- how a sign is written
abbrev pub sign_text : Mark → List ℕ
sign_text Assign = codes ":="
sign_text Colon = codes ":"
sign_text Semicolon = codes ";"
sign_text Comma = codes ","
sign_text Dot = codes "."
sign_text OpenParen = codes "("
sign_text CloseParen = codes ")"
sign_text OpenBracket = codes "["
sign_text CloseBracket = codes "]"
sign_text Equal = codes "="
sign_text NotEqual = codes "#"
sign_text Less = codes "<"
sign_text LessEqual = codes "<="
sign_text Greater = codes ">"
sign_text GreaterEqual = codes ">="
sign_text Plus = codes "+"
sign_text Minus = codes "-"
sign_text Times = codes "*"
sign_text Divide = codes "/"

-- a letter followed by letters and digits
abbrev pub is_word : List ℕ → Bool
is_word [] = false
is_word (b ∷ bs) = is_ascii_alphabetic b && list_all is_ascii_alphanumeric bs

-- one digit or more
abbrev pub is_digits : List ℕ → Bool
is_digits [] = false
is_digits (b ∷ bs) = is_ascii_digit b && list_all is_ascii_digit bs

-- the number that digits write behind those of n
abbrev pub value_after : ℕ → List ℕ → ℕ
value_after n [] = n
value_after n (b ∷ bs) = value_after (10 * n + (b - 48)) bs

-- the number that digits write
abbrev pub value_of : List ℕ → ℕ
value_of digits = value_after 0 digits

-- what begins a comment
abbrev pub comment_mark : List ℕ
comment_mark = codes "--"

-- a word, digits, a sign, or what begins a comment
abbrev pub IsLexeme : List ℕ → Type 0
IsLexeme bs = IsTrue (is_word bs) ⊎ (IsTrue (is_digits bs) ⊎ (((s : Mark) × (bs ≡ sign_text s)) ⊎ (bs ≡ comment_mark)))

-- no lexeme goes on from bs into what stands behind it
abbrev pub IsLongest : List ℕ → List ℕ → Type 0
IsLongest bs behind = (more rest : List ℕ) → behind ≡ more ++ rest → IsLexeme (bs ++ more) → more ≡ []

-- which lexemes a kind of token has; the end has none
abbrev pub Spells : Kind → List ℕ → Type 0
Spells (Keyword k) bs = bs ≡ keyword_text k
Spells (Sign s) bs = bs ≡ sign_text s
Spells Name bs = IsTrue (is_word bs) × ((k : Word) → bs ≢ keyword_text k)
Spells (Number n) bs = IsTrue (is_digits bs) × (value_of bs ≡ n) × (n ≤ most_number)
Spells End bs = ⊥
