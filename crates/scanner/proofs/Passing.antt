-- What the steps of the scanner give: from the tests on the first bytes to tokens, gaps and faults.
use Rattle.std.proofs.Common.{◌≡◌, ◌≢◌, ◌⊎◌, ℕ, zero, suc, ◌+◌, ◌<◌, ◌≤◌, Bool, true, false, cond, not, ◌&&◌, List}
use Rattle.std.proofs.Common.{[], ◌∷◌, ◌++◌, length, get_or, take, drop, eqb, Option, Some, None, MatchOption, refl}
use Rattle.std.proofs.Common.{sym, ap, ◌∙◌, inl, inr, ⊎_elim, subst, arith, append_assoc, append-nil, drop-cons}
use Rattle.std.proofs.Common.{length-append, ◌*◌, ◌-◌}
use Rattle.std.specs.Prelude.{nat_lt}
use Rattle.std.specs.Char.{is_ascii_alphabetic, is_ascii_digit, is_ascii_alphanumeric}
use Rattle.std.proofs.lemmas.Bool.{both_ways, and_parts, and_from, and_cases, eqb-true, ltb-true, ltb-false}
use Rattle.std.proofs.lemmas.Bool.{false≢true, not-false, cases_Bool}
use Rattle.scanner.specs.declared.front.Front.{Front}
use Rattle.scanner.specs.declared.front.Front.TheVariants.{Finish, White, Comment, Word, Digits, Other, PastAscii}
use Rattle.scanner.specs.declared.token.Sign.{Sign as Mark}
use Rattle.scanner.specs.declared.token.Place.{Place}
use Rattle.scanner.specs.declared.token.Kind.{Kind}
use Rattle.scanner.specs.declared.token.Token.{Token}
use Rattle.scanner.specs.declared.refusal.Refusal.{Refusal}
use Rattle.scanner.specs.declared.refusal.RefusalKind.{RefusalKind}
use Rattle.scanner.specs.declared.refusal.RefusalKind.TheVariants.{NotAscii, BadToken, Expected, Redeclared, Unknown}
use Rattle.scanner.specs.declared.refusal.RefusalKind.TheVariants.{TypeMismatch, WrongPlace, DirectReentry, Recursion}
use Rattle.scanner.specs.declared.refusal.RefusalKind.TheVariants.{Limit, Memory, StrayPiece}
use Rattle.scanner.specs.Bytes.{is_white, is_comment_byte}
use Rattle.scanner.specs.Places.{start, place_after}
use Rattle.scanner.specs.Lexemes.{sign_text, is_word, is_digits, value_after, comment_mark, IsLexeme, IsLongest}
use Rattle.scanner.specs.Lexemes.{Spells}
use Rattle.scanner.specs.Gaps.{IsGap, IsOpenComment, IsLastGap, Comment as CommentBlank, White as WhiteBlank}
use Rattle.scanner.specs.Limits.{most_bytes}
use Rattle.scanner.specs.Tokens.{TokenView, StandsFirst, StandInOrder, IsTokens, end_at, view, views}
use Rattle.scanner.specs.Faults.{BeginsNoToken, BeginsTooGreat, IsWrong, StandsWrong}
use Rattle.scanner.specs.Steps.{front_of, begins_minus, can_grow, Passes, PassesGap, PassesToken, SignFirst}
use Rattle.scanner.proofs.LineLaws.{place_after-append}
use Rattle.scanner.proofs.Runs.{Stops, Splits}
use Rattle.scanner.proofs.LexemeLaws.{letter_alphanumeric, longest_one, longest_two, no_lexeme, lexeme_nonempty}
use Rattle.scanner.proofs.LexemeLaws.{spells_lexeme}
use Rattle.scanner.proofs.Stops.{end_or_wrong, nothing_first}
use Rattle.scanner.proofs.GapLaws.{gap_empty, gap_append, gap_blank, last_gap, last_gap_append, last_gap_comment}

chosen : {A : Type 0} {x y z : A} (b : Bool) → cond b x y ≡ z → ((b ≡ true) × (x ≡ z)) ⊎ ((b ≡ false) × (y ≡ z))
chosen true e = inl (refl, e)
chosen false e = inr (refl, e)

-- what the tests said of the first byte and the bytes behind it
abbrev FrontSays : Front → ℕ → List ℕ → Type 0
FrontSays Finish b bs = ⊥
FrontSays White b bs = is_white b ≡ true
FrontSays Comment b bs = (b ≡ 45) × (begins_minus bs ≡ true)
FrontSays Word b bs = is_ascii_alphabetic b ≡ true
FrontSays Digits b bs = is_ascii_digit b ≡ true
FrontSays Other b bs = (is_white b ≡ false) × ((eqb b 45 && begins_minus bs) ≡ false)
    × (is_ascii_alphabetic b ≡ false) × (is_ascii_digit b ≡ false) × (b < 128)
FrontSays PastAscii b bs = 128 ≤ b

front_says : (b : ℕ) (bs : List ℕ) (f : Front) → front_of (b ∷ bs) ≡ f → FrontSays f b bs
front_says b bs f e =
    let P : Front → Type 0 = λ g. FrontSays g b bs in
    ⊎_elim (λ w. subst P w.1 w.0)
    (λ w. ⊎_elim (λ m. let both = and_parts (eqb b 45) (begins_minus bs) m.0 in
    subst P m.1 (eqb-true b 45 both.0, both.1))
    (λ m. ⊎_elim (λ l. subst P l.1 l.0)
    (λ l. ⊎_elim (λ d. subst P d.1 d.0)
    (λ d. ⊎_elim (λ a. subst P a.1 (w.0, m.0, l.0, d.0, ltb-true b 128 a.0))
    (λ a. subst P a.1 (ltb-false b 128 a.0))
    (chosen (nat_lt b 128) d.1))
    (chosen (is_ascii_digit b) l.1))
    (chosen (is_ascii_alphabetic b) m.1))
    (chosen (eqb b 45 && begins_minus bs) w.1))
    (chosen (is_white b) e)

-- letters and digits that begin with a letter are a word
pub word_taken : (old taken rest : List ℕ) → Splits is_ascii_alphanumeric old taken rest → front_of old ≡ Word
    → is_word taken ≡ true
word_taken [] taken rest s e = absurd (cc)
word_taken (b ∷ bs) [] rest s e =
    absurd (both_ways _ (subst (Stops is_ascii_alphanumeric) (sym s.parts) s.stops)
    (letter_alphanumeric b (front_says b bs Word e)))
word_taken (b ∷ bs) (c ∷ taken) rest s e =
    let parts = s.parts in
    let same : b ≡ c = cc in
    and_from (is_ascii_alphabetic c) _ (ap is_ascii_alphabetic (sym same) ∙ front_says b bs Word e)
    (and_parts (is_ascii_alphanumeric c) _ s.passes).1

-- and digits where a digit stands first are digits
pub digits_taken : (old taken rest : List ℕ) → Splits is_ascii_digit old taken rest → front_of old ≡ Digits
    → is_digits taken ≡ true
digits_taken [] taken rest s e = absurd (cc)
digits_taken (b ∷ bs) [] rest s e =
    absurd (both_ways _ (subst (Stops is_ascii_digit) (sym s.parts) s.stops) (front_says b bs Digits e))
digits_taken (b ∷ bs) (c ∷ taken) rest s e = s.passes

pub token_passed : (p q : Place) (old taken rest : List ℕ) (k : Kind) → old ≡ taken ++ rest → q ≡ place_after p taken
    → Spells k taken → IsLongest taken rest → PassesToken p old (record { kind = k; text = taken; place = p }) q rest
token_passed p q old taken rest k parts place spells longest =
    record { passes = record { parts = parts; place = place }; place = refl; spells = spells; longest = longest }

pub bad_token : (p : Place) (old : List ℕ) → BeginsNoToken old ⊎ BeginsTooGreat old
    → StandsWrong p old (record { kind = BadToken; place = p })
bad_token p old bad = record { before = []; behind = old; parts = refl; wrong = (gap_empty, bad); at = refl }

-- no sign stands first
no_sign : (bytes : List ℕ) (first : ℕ) → front_of bytes ≡ Other → first ≡ get_or bytes 0 0
    → ((s : Mark) → get_or (sign_text s) 0 0 ≢ first) → BeginsNoToken bytes
no_sign [] first e is none = absurd (cc)
no_sign (b ∷ bs) first e is none =
    let says = front_says b bs Other e in
    (says.4, says.0, λ more. no_lexeme b more says.2 says.3 (λ s first_is. none s (first_is ∙ sym is)))

not_equals : (bs : List ℕ) → eqb (get_or bs 0 0) 61 ≡ false → Stops (λ c. eqb c 61) bs
not_equals [] e = tt
not_equals (c ∷ bs) e = e

one_line : (b : ℕ) (bs : List ℕ) → b ≢ 10 → (k : ℕ) → k < 1 → get_or (b ∷ bs) k 0 ≢ 10
one_line b bs other zero below e = other e
one_line b bs other (suc k) below e = omega arith

two_line : (b c : ℕ) (bs : List ℕ) → b ≢ 10 → c ≢ 10 → (k : ℕ) → k < 2 → get_or (b ∷ c ∷ bs) k 0 ≢ 10
two_line b c bs one two zero below e = one e
two_line b c bs one two (suc zero) below e = two e
two_line b c bs one two (suc (suc k)) below e = omega arith

one_first : (b : ℕ) (bs : List ℕ) → FrontSays Other b bs → (can_grow b && eqb (get_or (b ∷ bs) 1 0) 61) ≡ false
    → SignFirst (b ∷ []) (b ∷ bs)
one_first b bs says single = record {
  parts = refl;
  longest = longest_one b bs says.2 says.3 says.1
      (λ grows. not_equals bs (⊎_elim (λ n. absurd (both_ways _ n grows)) (λ n. n)
      (and_cases (can_grow b) _ single)));
  line = record { within = omega arith; no_feed = one_line b bs (λ e. both_ways _ says.0 (ap is_white e)) };
}

two_first : (b : ℕ) (bs : List ℕ) → FrontSays Other b bs → eqb (get_or (b ∷ bs) 1 0) 61 ≡ true
    → SignFirst (b ∷ 61 ∷ []) (b ∷ bs)
two_first b [] says equal = absurd (false≢true equal)
two_first b (c ∷ bs) says equal =
    let second : 61 ≡ c = sym (eqb-true c 61 equal) in
    subst (λ d. SignFirst (b ∷ 61 ∷ []) (b ∷ d ∷ bs)) second (record {
      parts = refl;
      longest = longest_two b bs says.2 says.3;
      line = record {
        within = omega arith;
        no_feed =
            two_line b 61 bs (λ e. both_ways _ says.0 (ap is_white e)) (λ e. omega arith);
      };
    })

sign_first : (bytes : List ℕ) (s : Mark) (first : ℕ) (equal : Bool) → front_of bytes ≡ Other
    → first ≡ get_or bytes 0 0 → equal ≡ eqb (get_or bytes 1 0) 61 → sign_text s ≡ first ∷ cond
    (can_grow first && equal) (61 ∷ []) [] → SignFirst (sign_text s) bytes
sign_first [] s first equal e first_is equal_is text = absurd (cc)
sign_first (b ∷ bs) s first equal e first_is equal_is text =
    let says = front_says b bs Other e in
    let at_bytes : sign_text s ≡ b ∷ cond (can_grow b && eqb (get_or (b ∷ bs) 1 0) 61) (61 ∷ []) [] =
    text ∙ (λ i. first_is i ∷ cond (can_grow (first_is i) && equal_is i) (61 ∷ []) []) in
    ⊎_elim
    (λ double. subst (λ t. SignFirst t (b ∷ bs)) (sym (at_bytes ∙ ap (λ v. b ∷ cond v (61 ∷ []) []) double))
    (two_first b bs says (and_parts (can_grow b) _ double).1))
    (λ single. subst (λ t. SignFirst t (b ∷ bs)) (sym (at_bytes ∙ ap (λ v. b ∷ cond v (61 ∷ []) []) single))
    (one_first b bs says single))
    (cases_Bool (can_grow b && eqb (get_or (b ∷ bs) 1 0) 61))

-- what the longest sign says of the bytes that begin with it
pub sign_found : (bytes : List ℕ) (found : Option Mark) (first : ℕ) (equal : Bool) → front_of bytes ≡ Other
    → first ≡ get_or bytes 0 0 → equal ≡ eqb (get_or bytes 1 0) 61 → MatchOption found
    ((s : Mark) → get_or (sign_text s) 0 0 ≢ first)
    (λ s. sign_text s ≡ first ∷ cond (can_grow first && equal) (61 ∷ []) [])
    → MatchOption found (BeginsNoToken bytes) (λ s. SignFirst (sign_text s) bytes)
sign_found bytes None first equal e first_is equal_is none = no_sign bytes first e first_is none
sign_found bytes (Some s) first equal e first_is equal_is text =
    sign_first bytes s first equal e first_is equal_is text

-- a comment's mark and the bytes with which it goes on are a comment
pub comment_taken : (old taken rest : List ℕ) → Splits is_comment_byte old taken rest → front_of old ≡ Comment
    → IsOpenComment taken
comment_taken [] taken rest s e = absurd (cc)
comment_taken (b ∷ []) taken rest s e = absurd (false≢true (front_says b [] Comment e).1)
comment_taken (b ∷ c ∷ bs) [] rest s e =
    let dash = (front_says b (c ∷ bs) Comment e).0 in
    absurd (both_ways _ (subst (Stops is_comment_byte) (sym s.parts) s.stops) (ap is_comment_byte dash))
comment_taken (b ∷ c ∷ bs) (x ∷ []) rest s e =
    let dash = eqb-true c 45 (front_says b (c ∷ bs) Comment e).1 in
    let parts = s.parts in
    let rest_is : rest ≡ c ∷ bs = cc in
    absurd (both_ways _ (subst (Stops is_comment_byte) rest_is s.stops) (ap is_comment_byte dash))
comment_taken (b ∷ c ∷ bs) (x ∷ y ∷ body) rest s e =
    let says = front_says b (c ∷ bs) Comment e in
    let first : b ≡ 45 = says.0 in
    let second : c ≡ 45 = eqb-true c 45 says.1 in
    let parts = s.parts in
    let x_is : x ≡ 45 = cc in
    let y_is : y ≡ 45 = cc in (
      body,
      (λ i. x_is i ∷ y_is i ∷ body),
      (and_parts (is_comment_byte y) _
          (and_parts (is_comment_byte x) _ s.passes).1).1,
    )

-- a comment with which the text ends
pub comment_ends : (p q : Place) (old taken rest : List ℕ) → Splits is_comment_byte old taken rest
    → front_of old ≡ Comment → q ≡ place_after p taken → length rest < 1 → PassesGap p old q rest
comment_ends p q old taken (b ∷ rest) s e place empty = absurd (omega arith)
comment_ends p q old taken [] s e place empty = record {
  gap = taken;
  passes = record { parts = s.parts; place = place };
  is_gap = inr (last_gap_comment taken (comment_taken old taken [] s e), refl);
}

-- and one that a line feed ends
comment_passed : (p q r : Place) (old taken rest more : List ℕ) → Splits is_comment_byte old taken rest
    → front_of old ≡ Comment → q ≡ place_after p taken → rest ≡ 10 ∷ more → r ≡ place_after q (10 ∷ [])
    → PassesGap p old r more
comment_passed p q r old taken rest more s e place feed after =
    let comment = comment_taken old taken rest s e in
    let text : taken ++ 10 ∷ [] ≡ comment_mark ++ (comment.0 ++ 10 ∷ []) = ap (λ l. l ++ 10 ∷ []) comment.1 in
    record {
      gap = taken ++ 10 ∷ [];
      passes = record {
        parts = s.parts ∙ ap (λ l. taken ++ l) feed ∙ sym (append_assoc taken (10 ∷ []) more);
        place = after ∙ ap (λ x. place_after x (10 ∷ [])) place ∙ sym (place_after-append p taken (10 ∷ []));
      };
      is_gap = inl (subst IsGap (sym text) (gap_blank (CommentBlank comment.0 comment.2)));
    }

pub comment_feed : (p q r : Place) (old taken rest more : List ℕ) → Splits is_comment_byte old taken rest
    → front_of old ≡ Comment → q ≡ place_after p taken → 0 < length rest → get_or rest 0 0 ≡ 10 → more ≡ drop 1 rest
    → r ≡ place_after q (take 1 rest) → PassesGap p old r more
comment_feed p q r old taken [] more s e place some feed more_is after = absurd (omega arith)
comment_feed p q r old taken (b ∷ rest) more s e place some feed more_is after =
    comment_passed p q r old taken (b ∷ rest) more s e place (λ i. feed i ∷ sym more_is i)
    (after ∙ ap (λ c. place_after q (c ∷ [])) feed)

past_from : (b : ℕ) → is_comment_byte b ≡ false → b ≢ 10 → 128 ≤ b
past_from b stops feed =
    ⊎_elim (λ e. ltb-false b 128 e) (λ e. absurd (feed (eqb-true b 10 (not-false _ e))))
    (and_cases (nat_lt b 128) (not (eqb b 10)) stops)

-- a byte past ASCII in a comment
pub comment_cut : (p q : Place) (old taken rest : List ℕ) → Splits is_comment_byte old taken rest
    → front_of old ≡ Comment → q ≡ place_after p taken → 0 < length rest → get_or rest 0 0 ≢ 10
    → StandsWrong p old (record { kind = NotAscii; place = q })
comment_cut p q old taken [] s e place some feed = absurd (omega arith)
comment_cut p q old taken (b ∷ bs) s e place some feed = record {
  before = taken;
  behind = b ∷ bs;
  parts = s.parts;
  wrong = (last_gap_comment taken (comment_taken old taken (b ∷ bs) s e), past_from b s.stops feed);
  at = place;
}

pub gap_none : (p : Place) (bytes : List ℕ) → PassesGap p bytes p bytes
gap_none p bytes = record { gap = []; passes = record { parts = refl; place = refl }; is_gap = inl gap_empty }

-- a gap with bytes behind it
some_gap : (p q : Place) (old rest : List ℕ) → PassesGap p old q rest → (rest ≡ [] → ⊥) → (gap : List ℕ) × IsGap gap
    × Passes p old gap q rest
some_gap p q old rest g some = ⊎_elim (λ is. (g.gap, is, g.passes)) (λ last. absurd (some last.1)) g.is_gap

pub gaps_join : (p q r : Place) (old middle rest : List ℕ) → PassesGap p old q middle → PassesGap q middle r rest
    → (middle ≡ [] → ⊥) → PassesGap p old r rest
gaps_join p q r old middle rest g h some =
    let first = some_gap p q old middle g some in
    record {
      gap = first.0 ++ h.gap;
      passes = record {
        parts = first.2.parts ∙ ap (λ l. first.0 ++ l) h.passes.parts ∙ sym (append_assoc first.0 h.gap rest);
        place = h.passes.place ∙ ap (λ x. place_after x h.gap) first.2.place ∙ sym
            (place_after-append p first.0 h.gap);
      };
      is_gap = ⊎_elim (λ is. inl (gap_append first.0 h.gap first.1 is))
          (λ last. inr (last_gap_append first.0 h.gap first.1 last.0, last.1)) h.is_gap;
    }

pub comment_some : (bytes : List ℕ) → front_of bytes ≡ Comment → bytes ≡ [] → ⊥
comment_some [] e empty = cc
comment_some (b ∷ bs) e empty = cc

-- one byte of white space more
pub gap_white : (p q r : Place) (old middle rest : List ℕ) → PassesGap p old q middle → front_of middle ≡ White
    → rest ≡ drop 1 middle → r ≡ place_after q (take 1 middle) → PassesGap p old r rest
gap_white p q r old [] rest g e rest_is place = absurd (cc)
gap_white p q r old (b ∷ bs) rest g e rest_is place =
    gaps_join p q r old (b ∷ bs) rest g
    (record {
      gap = b ∷ [];
      passes = record { parts = ap (λ l. b ∷ l) (sym rest_is); place = place };
      is_gap = inl (gap_blank (WhiteBlank b (front_says b bs White e)));
    })
    (λ none. cc)

wrong_later : (k : RefusalKind) (gap before behind : List ℕ) → IsGap gap → IsWrong k before behind
    → IsWrong k (gap ++ before) behind
wrong_later NotAscii gap before behind g w = (last_gap_append gap before g w.0, w.1)
wrong_later BadToken gap before behind g w = (gap_append gap before g w.0, w.1)
wrong_later Expected gap before behind g w = absurd w
wrong_later Redeclared gap before behind g w = absurd w
wrong_later Unknown gap before behind g w = absurd w
wrong_later TypeMismatch gap before behind g w = absurd w
wrong_later WrongPlace gap before behind g w = absurd w
wrong_later DirectReentry gap before behind g w = absurd w
wrong_later Recursion gap before behind g w = absurd w
wrong_later Limit gap before behind g w = absurd w
wrong_later Memory gap before behind g w = absurd w
wrong_later StrayPiece gap before behind g w = absurd w

-- what is wrong behind a gap
pub wrong_behind : (p q : Place) (old middle : List ℕ) (e : Refusal) → PassesGap p old q middle
    → StandsWrong q middle e → (middle ≡ [] → ⊥) → StandsWrong p old e
wrong_behind p q old middle e g w some =
    let first = some_gap p q old middle g some in
    record {
      before = first.0 ++ w.before;
      behind = w.behind;
      parts = first.2.parts ∙ ap (λ l. first.0 ++ l) w.parts ∙ sym (append_assoc first.0 w.before w.behind);
      wrong = wrong_later e.kind first.0 w.before w.behind first.1 w.wrong;
      at = w.at ∙ ap (λ x. place_after x w.before) first.2.place ∙ sym (place_after-append p first.0 w.before);
    }

-- a number only grows with the digits to come
value_grows : (n : ℕ) (digits : List ℕ) → n ≤ value_after n digits
value_grows n [] = omega arith
value_grows n (b ∷ digits) = omega (arith, value_grows (10 * n + (b - 48)) digits)

pub value_next : (n i : ℕ) (digits : List ℕ) → i < length digits → 10 * n + (get_or digits i 0 - 48) ≤ value_after n
    (drop i digits)
value_next n i digits below = rw (drop-cons digits i 0)
    (value_grows (10 * n + (get_or digits i 0 - 48)) (drop (suc i) digits))

pub no_wrong_end : (q : Place) (bytes : List ℕ) (e : Refusal) → StandsWrong q bytes e → bytes ≡ [] → ⊥
no_wrong_end q bytes e w empty = end_or_wrong q bytes e (subst IsLastGap (sym empty) (last_gap [] gap_empty)) w

-- what is wrong behind a gap is what is wrong
pub wrong_after : (p q : Place) (old middle : List ℕ) (e : Refusal) → PassesGap p old q middle
    → StandsWrong q middle e → StandsWrong p old e
wrong_after p q old middle e g w = wrong_behind p q old middle e g w (no_wrong_end q middle e w)

-- a byte past ASCII
pub past_ascii : (p : Place) (old : List ℕ) → front_of old ≡ PastAscii
    → StandsWrong p old (record { kind = NotAscii; place = p })
past_ascii p [] e = absurd (cc)
past_ascii p (b ∷ bs) e = record {
  before = [];
  behind = b ∷ bs;
  parts = refl;
  wrong =
      (last_gap [] gap_empty, front_says b bs PastAscii e);
  at = refl;
}

-- a token behind a gap
pub token_after : (p q r : Place) (old middle rest : List ℕ) (t : TokenView) → PassesGap p old q middle
    → PassesToken q middle t r rest → StandsFirst p old t rest × (r ≡ place_after t.place t.text)
token_after p q r old middle rest t g w =
    let lexeme = spells_lexeme t.kind t.text w.spells in
    let first = some_gap p q old middle g (λ empty. nothing_first t.text rest lexeme (sym w.passes.parts ∙ empty)) in (
      record {
        gap = first.0;
        parts = first.2.parts ∙ ap (λ l. first.0 ++ l) w.passes.parts;
        is_gap = first.1;
        spells = w.spells;
        longest = w.longest;
        place = w.place ∙ first.2.place;
      },
      w.passes.place ∙ ap (λ x. place_after x t.text) (sym w.place),
    )

lexeme_some : (bs : List ℕ) → IsLexeme bs → 0 < length bs
lexeme_some [] lexeme = absurd (lexeme_nonempty lexeme)
lexeme_some (b ∷ bs) lexeme = omega arith

pub token_shorter : (p : Place) (old rest : List ℕ) (t : TokenView) → StandsFirst p old t rest
    → length rest < length old
token_shorter p old rest t s =
    let some : 0 < length t.text = lexeme_some t.text (spells_lexeme t.kind t.text s.spells) in
    omega (arith, ap length s.parts, length-append s.gap (t.text ++ rest), length-append t.text rest)

-- the gap with which a text ends
pub gap_ends : (p q : Place) (old rest : List ℕ) → PassesGap p old q rest → Finish ≡ front_of rest → IsLastGap old
    × (q ≡ place_after p old)
gap_ends p q old [] g e =
    let all : old ≡ g.gap = g.passes.parts ∙ append-nil g.gap in (
      subst IsLastGap (sym all) (⊎_elim (last_gap g.gap) (λ last. last.0) g.is_gap),
      g.passes.place ∙ ap
          (place_after p) (sym all),
    )
gap_ends p q old (b ∷ rest) g e = absurd (front_says b rest Finish (sym e))

-- one token more
pub order_push : (p q : Place) (bytes : List ℕ) (ts : List TokenView) (middle rest : List ℕ) (t : TokenView)
    → StandInOrder p bytes ts q middle → StandsFirst q middle t rest → StandInOrder p bytes (ts ++ t ∷ [])
    (place_after t.place t.text) rest
order_push p q bytes [] middle rest t w s = (
  rest,
  subst (λ l. StandsFirst p l t rest) (sym w.1) (subst (λ x. StandsFirst x middle t rest) (sym w.0) s),
  (refl, refl),
)
order_push p q bytes (u ∷ us) middle rest t w s =
    (w.0, w.1, order_push (place_after u.place u.text) q w.0 us middle rest t w.2 s)

pub views_push : (ts : List Token) (t : Token) → views (ts ++ t ∷ []) ≡ views ts ++ view t ∷ []
views_push [] t = refl
views_push (u ∷ ts) t = ap (λ l. view u ∷ l) (views_push ts t)

-- the tokens of a text that ends behind a last gap
pub tokens_made : (text : List ℕ) (before all : List Token) (last : Token) (place q : Place) (rest : List ℕ)
    → length text ≤ most_bytes → StandInOrder start text (views before) place rest → IsLastGap rest
    × (q ≡ place_after place rest) → all ≡ before ++ last ∷ [] → view last ≡ end_at q → IsTokens text (views all)
tokens_made text before all last place q rest short in_order ends all_is last_is = record {
  short = short;
  tokens = views before;
  place = place;
  rest = rest;
  in_order = in_order;
  last_gap = ends.0;
  all = ap views all_is ∙ views_push before last ∙ (λ i. views before ++ (last_is ∙ ap end_at ends.1) i ∷ []);
}

-- one token more in the list
pub order_more : (text : List ℕ) (before more : List Token) (t : Token) (place q : Place) (middle rest : List ℕ)
    → StandInOrder start text (views before) place middle → StandsFirst place middle (view t) rest
    × (q ≡ place_after t.place t.text.now) → more ≡ before ++ t ∷ [] → StandInOrder start text (views more) q rest
order_more text before more t place q middle rest in_order first more_is =
    let pushed = order_push start place text (views before) middle rest (view t) in_order first.0 in
    let there = subst (λ x. StandInOrder start text (views before ++ view t ∷ []) x rest) (sym first.1) pushed in
    subst (λ (ts : List TokenView). StandInOrder start text ts q rest) (sym (ap views more_is ∙ views_push before t))
    there
