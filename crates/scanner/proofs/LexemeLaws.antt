-- What a lexeme begins with, and that the longest one is determined.
use Rattle.std.proofs.Common.{◌≡◌, ◌≢◌, ◌⊎◌, ℕ, ◌<◌, ◌≤◌, Bool, true, false, not, ◌&&◌, ◌||◌, nat_lt, List, [], ◌∷◌}
use Rattle.std.proofs.Common.{◌++◌, get_or, leb, eqb, refl, sym, ap, ◌∙◌, inl, inr, ⊎_elim, subst, arith, append-nil}
use Rattle.std.specs.Int.{is_in_range}
use Rattle.std.specs.Char.{is_ascii_alphabetic, is_ascii_digit, is_ascii_alphanumeric}
use Rattle.std.proofs.lemmas.Bool.{and_from, and_parts, both_ways, or_cases, leb-true, eqb-true, eq-eqb, ltb-true}
use Rattle.std.proofs.lemmas.Bool.{false≢true, not-true, agree_below, agree_below_at}
use Rattle.scanner.specs.declared.token.Keyword.{Keyword as Word}
use Rattle.scanner.specs.declared.token.Keyword.TheVariants.{Program, Monitor, Var, Condition, Array, Of, Integer}
use Rattle.scanner.specs.declared.token.Keyword.TheVariants.{Boolean, Process, Entry, Internal, Procedure, Recover}
use Rattle.scanner.specs.declared.token.Keyword.TheVariants.{Main, If, Then, Else, Endif, While, Do, Endloop, Call}
use Rattle.scanner.specs.declared.token.Keyword.TheVariants.{Into, Fork, Join, Aborted, Return, Wait, Notify}
use Rattle.scanner.specs.declared.token.Keyword.TheVariants.{Broadcast, Print, Abort, Or, And, Mod, Not, True, False}
use Rattle.scanner.specs.declared.token.Keyword.TheVariants as words
use Rattle.scanner.specs.declared.token.Sign.{Sign as Mark}
use Rattle.scanner.specs.declared.token.Sign.TheVariants.{Assign, Colon, Semicolon, Comma, Dot, OpenParen, CloseParen}
use Rattle.scanner.specs.declared.token.Sign.TheVariants.{OpenBracket, CloseBracket, Equal, NotEqual, Less, LessEqual}
use Rattle.scanner.specs.declared.token.Sign.TheVariants.{Greater, GreaterEqual, Plus, Minus, Times, Divide}
use Rattle.scanner.specs.declared.token.Kind.{Kind}
use Rattle.scanner.specs.declared.token.Kind.TheVariants.{Keyword, Sign, Name, Number, End}
use Rattle.scanner.specs.Bytes.{is_white}
use Rattle.scanner.specs.Lexemes.{keyword_text, sign_text, is_word, is_digits, comment_mark, IsLexeme, IsLongest}
use Rattle.scanner.specs.Lexemes.{Spells}
use Rattle.scanner.specs.Steps.{can_grow, begins_minus}
use Rattle.scanner.proofs.Runs.{Stops, prefix_at, one_within}

-- each keyword is a word
pub keyword_word : (k : Word) → is_word (keyword_text k) ≡ true
keyword_word Program = refl
keyword_word Monitor = refl
keyword_word Var = refl
keyword_word Condition = refl
keyword_word Array = refl
keyword_word Of = refl
keyword_word Integer = refl
keyword_word Boolean = refl
keyword_word Process = refl
keyword_word Entry = refl
keyword_word Internal = refl
keyword_word Procedure = refl
keyword_word words.End = refl
keyword_word Recover = refl
keyword_word Main = refl
keyword_word If = refl
keyword_word Then = refl
keyword_word Else = refl
keyword_word Endif = refl
keyword_word While = refl
keyword_word Do = refl
keyword_word Endloop = refl
keyword_word Call = refl
keyword_word Into = refl
keyword_word Fork = refl
keyword_word Join = refl
keyword_word Aborted = refl
keyword_word Return = refl
keyword_word Wait = refl
keyword_word Notify = refl
keyword_word Broadcast = refl
keyword_word Print = refl
keyword_word Abort = refl
keyword_word Or = refl
keyword_word And = refl
keyword_word Mod = refl
keyword_word Not = refl
keyword_word True = refl
keyword_word False = refl

-- a byte that begins a sign
abbrev pub begins_sign : ℕ → Bool
begins_sign b = (not (is_ascii_alphabetic b) && not (is_ascii_digit b)) && (not (is_white b) && nat_lt b 128)

pub sign_begins : (s : Mark) → begins_sign (get_or (sign_text s) 0 0) ≡ true
sign_begins Assign = refl
sign_begins Colon = refl
sign_begins Semicolon = refl
sign_begins Comma = refl
sign_begins Dot = refl
sign_begins OpenParen = refl
sign_begins CloseParen = refl
sign_begins OpenBracket = refl
sign_begins CloseBracket = refl
sign_begins Equal = refl
sign_begins NotEqual = refl
sign_begins Less = refl
sign_begins LessEqual = refl
sign_begins Greater = refl
sign_begins GreaterEqual = refl
sign_begins Plus = refl
sign_begins Minus = refl
sign_begins Times = refl
sign_begins Divide = refl

-- a sign of two bytes
pub sign_second : (s : Mark) (b c : ℕ) (more : List ℕ) → sign_text s ≡ b ∷ c ∷ more → (c ≡ 61) × (can_grow b ≡ true)
    × (more ≡ [])
sign_second Assign b c more e = let first : b ≡ 58 = cc in (cc, ap can_grow first, cc)
sign_second Colon b c more e = absurd (cc)
sign_second Semicolon b c more e = absurd (cc)
sign_second Comma b c more e = absurd (cc)
sign_second Dot b c more e = absurd (cc)
sign_second OpenParen b c more e = absurd (cc)
sign_second CloseParen b c more e = absurd (cc)
sign_second OpenBracket b c more e = absurd (cc)
sign_second CloseBracket b c more e = absurd (cc)
sign_second Equal b c more e = absurd (cc)
sign_second NotEqual b c more e = absurd (cc)
sign_second Less b c more e = absurd (cc)
sign_second LessEqual b c more e = let first : b ≡ 60 = cc in (cc, ap can_grow first, cc)
sign_second Greater b c more e = absurd (cc)
sign_second GreaterEqual b c more e = let first : b ≡ 62 = cc in (cc, ap can_grow first, cc)
sign_second Plus b c more e = absurd (cc)
sign_second Minus b c more e = absurd (cc)
sign_second Times b c more e = absurd (cc)
sign_second Divide b c more e = absurd (cc)

sign_nonempty : (s : Mark) → [] ≡ sign_text s → ⊥
sign_nonempty Assign e = cc
sign_nonempty Colon e = cc
sign_nonempty Semicolon e = cc
sign_nonempty Comma e = cc
sign_nonempty Dot e = cc
sign_nonempty OpenParen e = cc
sign_nonempty CloseParen e = cc
sign_nonempty OpenBracket e = cc
sign_nonempty CloseBracket e = cc
sign_nonempty Equal e = cc
sign_nonempty NotEqual e = cc
sign_nonempty Less e = cc
sign_nonempty LessEqual e = cc
sign_nonempty Greater e = cc
sign_nonempty GreaterEqual e = cc
sign_nonempty Plus e = cc
sign_nonempty Minus e = cc
sign_nonempty Times e = cc
sign_nonempty Divide e = cc

-- the first byte of each sign
pub first_of_sign : (s : Mark) (b : ℕ) (more : List ℕ) → b ∷ more ≡ sign_text s → begins_sign b ≡ true
first_of_sign s b more e = ap (λ l. begins_sign (get_or l 0 0)) e ∙ sign_begins s

-- the tests that a byte of a sign passes
pub record SignByte (b : ℕ) : Type 0 where
  pub no_letter : is_ascii_alphabetic b ≡ false
  pub no_digit : is_ascii_digit b ≡ false
  pub no_white : is_white b ≡ false
  pub ascii : nat_lt b 128 ≡ true

pub sign_byte : (b : ℕ) → begins_sign b ≡ true → SignByte b
sign_byte b e =
    let halves = and_parts (not (is_ascii_alphabetic b) && not (is_ascii_digit b)) _ e in
    let one = and_parts (not (is_ascii_alphabetic b)) _ halves.0 in
    let two = and_parts (not (is_white b)) _ halves.1 in
    record { no_letter = not-true _ one.0; no_digit = not-true _ one.1; no_white = not-true _ two.0; ascii = two.1 }

range_below : (low high b : ℕ) → high < 128 → is_in_range low high b ≡ true → b < 128
range_below low high b small e =
    let within : b ≤ high = leb-true b high (and_parts (leb low b) (leb b high) e).1 in
    omega arith

letter_below : (b : ℕ) → is_ascii_alphabetic b ≡ true → b < 128
letter_below b e = ⊎_elim (range_below 65 90 b (omega arith)) (range_below 97 122 b (omega arith))
    (or_cases (is_in_range 65 90 b) (is_in_range 97 122 b) e)

digit_below : (b : ℕ) → is_ascii_digit b ≡ true → b < 128
digit_below b e = range_below 48 57 b (omega arith) e

-- a test of bytes that implies another one, by its table
implies : (f g : ℕ → Bool) (b : ℕ) → agree_below (λ c. not (f c) || g c) (λ _. true) 128 ≡ true → b < 128 → f b ≡ true
    → g b ≡ true
implies f g b table below e =
    ⊎_elim (λ n. absurd (both_ways (f b) (not-true _ n) e)) (λ h. h)
    (or_cases (not (f b)) (g b) (agree_below_at (λ c. not (f c) || g c) (λ _. true) 128 b table below))

pub letter_no_digit : (b : ℕ) → is_ascii_alphabetic b ≡ true → is_ascii_digit b ≡ false
letter_no_digit b e = not-true _ (implies is_ascii_alphabetic (λ c. not (is_ascii_digit c)) b refl (letter_below b e)
    e)

letter_no_white : (b : ℕ) → is_ascii_alphabetic b ≡ true → is_white b ≡ false
letter_no_white b e = not-true _ (implies is_ascii_alphabetic (λ c. not (is_white c)) b refl (letter_below b e) e)

pub letter_alphanumeric : (b : ℕ) → is_ascii_alphabetic b ≡ true → is_ascii_alphanumeric b ≡ true
letter_alphanumeric b e = implies is_ascii_alphabetic is_ascii_alphanumeric b refl (letter_below b e) e

digit_alphanumeric : (b : ℕ) → is_ascii_digit b ≡ true → is_ascii_alphanumeric b ≡ true
digit_alphanumeric b e = implies is_ascii_digit is_ascii_alphanumeric b refl (digit_below b e) e

digit_no_white : (b : ℕ) → is_ascii_digit b ≡ true → is_white b ≡ false
digit_no_white b e = not-true _ (implies is_ascii_digit (λ c. not (is_white c)) b refl (digit_below b e) e)

pub white_below : (b : ℕ) → is_white b ≡ true → b < 128
white_below b e =
    ⊎_elim (λ h. let at : b ≡ 32 = eqb-true b 32 h in omega arith)
    (λ more. ⊎_elim (λ h. let at : b ≡ 9 = eqb-true b 9 h in omega arith)
    (λ last. ⊎_elim (λ h. let at : b ≡ 10 = eqb-true b 10 h in omega arith)
    (λ h. let at : b ≡ 13 = eqb-true b 13 h in omega arith)
    (or_cases (eqb b 10) (eqb b 13) last))
    (or_cases (eqb b 9) _ more))
    (or_cases (eqb b 32) _ e)

-- the first byte of a lexeme
pub lexeme_byte : (b : ℕ) (more : List ℕ) → IsLexeme (b ∷ more) → (is_white b ≡ false) × (b < 128)
lexeme_byte b more (inl word) =
    let letter : is_ascii_alphabetic b ≡ true = (and_parts (is_ascii_alphabetic b) _ word).0 in
    (letter_no_white b letter, letter_below b letter)
lexeme_byte b more (inr (inl digits)) =
    let digit : is_ascii_digit b ≡ true = (and_parts (is_ascii_digit b) _ digits).0 in
    (digit_no_white b digit, digit_below b digit)
lexeme_byte b more (inr (inr (inl sign))) =
    let byte = sign_byte b (first_of_sign sign.0 b more sign.1) in
    (byte.no_white, ltb-true b 128 byte.ascii)
lexeme_byte b more (inr (inr (inr mark))) =
    let dash : b ≡ 45 = cc in
    (ap is_white dash, omega arith)

pub lexeme_nonempty : IsLexeme [] → ⊥
lexeme_nonempty (inl word) = false≢true word
lexeme_nonempty (inr (inl digits)) = false≢true digits
lexeme_nonempty (inr (inr (inl sign))) = sign_nonempty sign.0 sign.1
lexeme_nonempty (inr (inr (inr mark))) = cc

-- a lexeme that begins with a letter is a word
lexeme_word : (b : ℕ) (more : List ℕ) → IsLexeme (b ∷ more) → is_ascii_alphabetic b ≡ true → is_word (b ∷ more) ≡ true
lexeme_word b more (inl word) letter = word
lexeme_word b more (inr (inl digits)) letter =
    absurd (both_ways _ (letter_no_digit b letter) (and_parts (is_ascii_digit b) _ digits).0)
lexeme_word b more (inr (inr (inl sign))) letter =
    absurd (both_ways _ (sign_byte b (first_of_sign sign.0 b more sign.1)).no_letter letter)
lexeme_word b more (inr (inr (inr mark))) letter =
    let dash : b ≡ 45 = cc in
    absurd (both_ways _ (ap is_ascii_alphabetic dash) letter)

-- one that begins with a digit is digits
lexeme_digits : (b : ℕ) (more : List ℕ) → IsLexeme (b ∷ more) → is_ascii_digit b ≡ true → is_digits (b ∷ more) ≡ true
lexeme_digits b more (inl word) digit = absurd
    (both_ways _ (letter_no_digit b (and_parts (is_ascii_alphabetic b) _ word).0) digit)
lexeme_digits b more (inr (inl digits)) digit = digits
lexeme_digits b more (inr (inr (inl sign))) digit =
    absurd (both_ways _ (sign_byte b (first_of_sign sign.0 b more sign.1)).no_digit digit)
lexeme_digits b more (inr (inr (inr mark))) digit =
    let dash : b ≡ 45 = cc in
    absurd (both_ways _ (ap is_ascii_digit dash) digit)

-- a word is the longest where no letter and no digit follows
pub longest_word : (bs rest : List ℕ) → is_word bs ≡ true → Stops is_ascii_alphanumeric rest → IsLongest bs rest
longest_word bs rest word stops [] behind e lexeme = refl
longest_word [] rest word stops (m ∷ more) behind e lexeme = absurd (false≢true word)
longest_word (b ∷ bs) rest word stops (m ∷ more) behind e lexeme =
    let longer = lexeme_word b (bs ++ m ∷ more) lexeme (and_parts (is_ascii_alphabetic b) _ word).0 in
    absurd (both_ways _ (subst (Stops is_ascii_alphanumeric) e stops)
    (prefix_at is_ascii_alphanumeric m bs more (and_parts (is_ascii_alphabetic b) _ longer).1))

-- digits are the longest where no digit follows
pub longest_digits : (bs rest : List ℕ) → is_digits bs ≡ true → Stops is_ascii_digit rest → IsLongest bs rest
longest_digits bs rest digits stops [] behind e lexeme = refl
longest_digits [] rest digits stops (m ∷ more) behind e lexeme = absurd (false≢true digits)
longest_digits (b ∷ bs) rest digits stops (m ∷ more) behind e lexeme =
    let longer = lexeme_digits b (bs ++ m ∷ more) lexeme (and_parts (is_ascii_digit b) _ digits).0 in
    absurd (both_ways _ (subst (Stops is_ascii_digit) e stops)
    (prefix_at is_ascii_digit m bs more (and_parts (is_ascii_digit b) _ longer).1))

-- what two bytes a lexeme may begin with that is no word and no digits
two_bytes : (b m : ℕ) (more : List ℕ) → is_ascii_alphabetic b ≡ false → is_ascii_digit b ≡ false
    → IsLexeme (b ∷ m ∷ more) → ((m ≡ 61) × (can_grow b ≡ true) × (more ≡ [])) ⊎ ((b ≡ 45) × (m ≡ 45) × (more ≡ []))
two_bytes b m more no_letter no_digit (inl word) =
    absurd (both_ways _ no_letter (and_parts (is_ascii_alphabetic b) _ word).0)
two_bytes b m more no_letter no_digit (inr (inl digits)) =
    absurd (both_ways _ no_digit (and_parts (is_ascii_digit b) _ digits).0)
two_bytes b m more no_letter no_digit (inr (inr (inl sign))) = inl (sign_second sign.0 b m more (sym sign.1))
two_bytes b m more no_letter no_digit (inr (inr (inr mark))) = inr (cc, cc, cc)

-- a sign of one byte is the longest where what follows makes it no other sign and no comment
pub longest_one : (b : ℕ) (rest : List ℕ) → is_ascii_alphabetic b ≡ false → is_ascii_digit b ≡ false
    → ((eqb b 45 && begins_minus rest) ≡ false) → (can_grow b ≡ true → Stops (λ c. eqb c 61) rest)
    → IsLongest (b ∷ []) rest
longest_one b rest no_letter no_digit no_mark no_sign [] behind e lexeme = refl
longest_one b rest no_letter no_digit no_mark no_sign (m ∷ more) behind e lexeme =
    absurd (⊎_elim
    (λ w. both_ways _ (subst (Stops (λ c. eqb c 61)) e (no_sign w.1)) (eq-eqb m 61 w.0))
    (λ w. both_ways _ no_mark (and_from (eqb b 45) _ (eq-eqb b 45 w.0) (ap begins_minus e ∙ eq-eqb m 45 w.1)))
    (two_bytes b m more no_letter no_digit lexeme))

-- a sign of two bytes is the longest
pub longest_two : (b : ℕ) (rest : List ℕ) → is_ascii_alphabetic b ≡ false → is_ascii_digit b ≡ false
    → IsLongest (b ∷ 61 ∷ []) rest
longest_two b rest no_letter no_digit [] behind e lexeme = refl
longest_two b rest no_letter no_digit (m ∷ more) behind e lexeme =
    absurd (⊎_elim
    (λ w. let none : m ∷ more ≡ [] = w.2 in cc)
    (λ w. let dash : ◌≡◌ {A = ℕ} 61 45 = w.1 in omega arith)
    (two_bytes b 61 (m ∷ more) no_letter no_digit lexeme))

-- a byte that is no letter, no digit and no sign begins no lexeme
pub no_lexeme : (b : ℕ) (more : List ℕ) → is_ascii_alphabetic b ≡ false → is_ascii_digit b ≡ false
    → ((s : Mark) → get_or (sign_text s) 0 0 ≢ b) → IsLexeme (b ∷ more) → ⊥
no_lexeme b more no_letter no_digit no_sign (inl word) =
    both_ways _ no_letter (and_parts (is_ascii_alphabetic b) _ word).0
no_lexeme b more no_letter no_digit no_sign (inr (inl digits)) =
    both_ways _ no_digit (and_parts (is_ascii_digit b) _ digits).0
no_lexeme b more no_letter no_digit no_sign (inr (inr (inl sign))) =
    no_sign sign.0 (sym (ap (λ l. get_or l 0 0) sign.1))
no_lexeme b more no_letter no_digit no_sign (inr (inr (inr mark))) =
    let dash : b ≡ 45 = cc in
    no_sign Minus (sym dash)

-- what a token is spelled by is a lexeme, and not what begins a comment
pub spells_lexeme : (k : Kind) (bs : List ℕ) → Spells k bs → IsLexeme bs
spells_lexeme (Keyword k) bs e = inl (ap is_word e ∙ keyword_word k)
spells_lexeme (Sign s) bs e = inr (inr (inl (s, e)))
spells_lexeme Name bs w = inl w.0
spells_lexeme (Number n) bs w = inr (inl w.0)
spells_lexeme End bs w = absurd w

pub spells_no_mark : (k : Kind) (bs : List ℕ) → Spells k bs → bs ≡ comment_mark → ⊥
spells_no_mark (Keyword k) bs e mark = both_ways _ (ap is_word mark) (ap is_word e ∙ keyword_word k)
spells_no_mark (Sign s) bs e mark =
    let second : ◌≡◌ {A = ℕ} 45 61 = (sign_second s 45 45 [] (sym e ∙ mark)).0 in
    omega arith
spells_no_mark Name bs w mark = both_ways _ (ap is_word mark) w.0
spells_no_mark (Number n) bs w mark = both_ways _ (ap is_digits mark) w.0
spells_no_mark End bs w mark = w

-- of two longest lexemes that stand first in one text each is the other
pub longest_unique : (a b x y : List ℕ) → IsLexeme a → IsLexeme b → IsLongest a x → IsLongest b y → a ++ x ≡ b ++ y
    → (a ≡ b) × (x ≡ y)
longest_unique a b x y la lb longest_a longest_b e =
    ⊎_elim
    (λ w.
    let none : w.0 ≡ [] = longest_a w.0 y w.2 (subst IsLexeme w.1 lb) in
    (sym (w.1 ∙ ap (λ l. a ++ l) none ∙ append-nil a), w.2 ∙ ap (λ l. l ++ y) none))
    (λ w.
    let none : w.0 ≡ [] = longest_b w.0 x w.2 (subst IsLexeme w.1 la) in
    (w.1 ∙ ap (λ l. b ++ l) none ∙ append-nil b, sym (w.2 ∙ ap (λ l. l ++ x) none)))
    (one_within a b x y e)

-- no lexeme but a comment's mark is the longest where that mark stands
pub no_mark : (a x y : List ℕ) → IsLexeme a → (a ≡ comment_mark → ⊥) → IsLongest a x → a ++ x ≡ comment_mark ++ y → ⊥
no_mark [] x y lexeme other longest e = lexeme_nonempty lexeme
no_mark (b ∷ []) x y lexeme other longest e =
    let dash : b ≡ 45 = cc in
    let behind : x ≡ 45 ∷ y = cc in
    let none : ◌≡◌ {A = List ℕ} (45 ∷ []) [] =
    longest (45 ∷ []) y behind (inr (inr (inr (ap (λ c. c ∷ 45 ∷ []) dash)))) in
    cc
no_mark (b ∷ c ∷ more) x y lexeme other longest e =
    let first : b ≡ 45 = cc in
    let second : c ≡ 45 = cc in
    ⊎_elim
    (λ w. let equals : ◌≡◌ {A = ℕ} 45 61 = sym second ∙ w.0 in omega arith)
    (λ w. other (λ i. w.0 i ∷ w.1 i ∷ w.2 i))
    (two_bytes b c more (ap is_ascii_alphabetic first) (ap is_ascii_digit first) lexeme)
