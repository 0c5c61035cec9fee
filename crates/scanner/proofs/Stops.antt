-- Where a text stops having tokens: at its end, or at what is wrong. Neither stands where a token does, nor both at
-- once.
use Rattle.std.proofs.Common.{◌≡◌, ◌⊎◌, ℕ, ◌<◌, ◌≤◌, true, List, [], ◌∷◌, ◌++◌, refl, sym, ap, ◌∙◌, inl, inr, ⊎_elim}
use Rattle.std.proofs.Common.{subst, arith, append_assoc, append-nil}
use Rattle.std.specs.List.{list_all}
use Rattle.std.proofs.lemmas.Bool.{both_ways}
use Rattle.scanner.specs.declared.token.Sign.TheVariants.{Minus}
use Rattle.scanner.specs.declared.token.Place.{Place}
use Rattle.scanner.specs.declared.refusal.Refusal.{Refusal}
use Rattle.scanner.specs.declared.refusal.RefusalKind.{RefusalKind}
use Rattle.scanner.specs.declared.refusal.RefusalKind.TheVariants.{NotAscii, BadToken, Expected, Redeclared, Unknown}
use Rattle.scanner.specs.declared.refusal.RefusalKind.TheVariants.{TypeMismatch, WrongPlace, DirectReentry, Recursion}
use Rattle.scanner.specs.declared.refusal.RefusalKind.TheVariants.{Limit, Memory, StrayPiece}
use Rattle.scanner.specs.Bytes.{is_comment_byte}
use Rattle.scanner.specs.Lexemes.{is_digits, value_of, comment_mark, IsLexeme, IsLongest}
use Rattle.scanner.specs.Gaps.{IsGap, IsOpenComment, IsLastGap}
use Rattle.scanner.specs.Tokens.{TokenView, StandsFirst}
use Rattle.scanner.specs.Faults.{BeginsPastAscii, BeginsNoToken, BeginsTooGreat, IsWrong, StandsWrong}
use Rattle.scanner.specs.Lexemes.{Spells}
use Rattle.scanner.specs.Places.{place_after}
use Rattle.scanner.proofs.Runs.{run_unique, prefix_at}
use Rattle.scanner.proofs.LexemeLaws.{spells_lexeme, spells_no_mark, longest_unique, no_mark, lexeme_nonempty}
use Rattle.scanner.proofs.LexemeLaws.{lexeme_byte}
use Rattle.scanner.proofs.KindLaws.{digits_number}
use Rattle.scanner.proofs.GapLaws.{NoBlank, gap_unique, no_blank_nil, no_blank_lexeme, no_blank_byte}
use Rattle.scanner.proofs.GapLaws.{no_blank_past_ascii, no_blank_open, no_blank_cut, past_no_comment}

-- what is wrong behind a gap: `extra` stands before its place, and `bytes` is all that stands behind the gap
pub data Wrong (k : RefusalKind) (extra bytes : List ℕ) : Type 0 where
  past : k ≡ NotAscii → extra ≡ [] → (b : ℕ) (more : List ℕ) → bytes ≡ b ∷ more → 128 ≤ b → Wrong k extra bytes
  cut : k ≡ NotAscii → (body : List ℕ) (b : ℕ) (more : List ℕ) → extra ≡ comment_mark ++ body
      → list_all is_comment_byte body ≡ true → bytes ≡ comment_mark ++ (body ++ b ∷ more) → 128 ≤ b
      → Wrong k extra bytes
  none : k ≡ BadToken → extra ≡ [] → BeginsNoToken bytes → Wrong k extra bytes
  great : k ≡ BadToken → extra ≡ [] → BeginsTooGreat bytes → Wrong k extra bytes

-- a gap, and what is wrong behind it
pub record StopsAt (k : RefusalKind) (bytes before : List ℕ) : Type 0 where
  pub gap : List ℕ
  pub extra : List ℕ
  pub behind : List ℕ
  pub before_is : before ≡ gap ++ extra
  pub parts : bytes ≡ gap ++ behind
  pub is_gap : IsGap gap
  pub no_blank : NoBlank behind
  pub wrong : Wrong k extra behind

dash_lexeme : IsLexeme (45 ∷ [])
dash_lexeme = inr (inr (inl (Minus, refl)))

no_blank_none : (bytes : List ℕ) → BeginsNoToken bytes → NoBlank bytes
no_blank_none [] n = absurd n
no_blank_none (b ∷ bs) n = no_blank_byte b bs n.1
    (λ dash. n.2 [] (subst (λ c. IsLexeme (c ∷ [])) (sym dash) dash_lexeme))

great_no_mark : (digits : List ℕ) → is_digits digits ≡ true → digits ≡ comment_mark → ⊥
great_no_mark digits ok mark = both_ways _ (ap is_digits mark) ok

no_blank_great : (bytes : List ℕ) → BeginsTooGreat bytes → NoBlank bytes
no_blank_great bytes g = subst NoBlank (sym g.2) (no_blank_lexeme g.0 g.1 (inr (inl g.3)) (great_no_mark g.0 g.3) g.4)

past_stops : (bytes before behind : List ℕ) → bytes ≡ before ++ behind → IsLastGap before → BeginsPastAscii behind
    → StopsAt NotAscii bytes before
past_stops bytes before [] parts last above = absurd above
past_stops bytes before (b ∷ bs) parts last above =
    ⊎_elim
    (λ empty. record {
      gap = last.gap;
      extra = [];
      behind = b ∷ bs;
      before_is = last.parts ∙ ap (λ l. last.gap ++ l) empty;
      parts = parts ∙ ap (λ l. l ++ b ∷ bs) (last.parts ∙ ap (λ l. last.gap ++ l) empty ∙ append-nil last.gap);
      is_gap = last.is_gap;
      no_blank = no_blank_past_ascii b bs above;
      wrong = past refl refl b bs refl above;
    })
    (λ comment. record {
      gap = last.gap;
      extra = last.tail;
      behind = comment_mark ++ (comment.0 ++ b ∷ bs);
      before_is = last.parts;
      parts = parts ∙ ap (λ l. l ++ b ∷ bs) last.parts ∙ append_assoc last.gap last.tail (b ∷ bs) ∙ ap
          (λ l. last.gap ++ (l ++ b ∷ bs)) comment.1;
      is_gap = last.is_gap;
      no_blank = no_blank_cut comment.0 b bs comment.2 above;
      wrong = cut refl comment.0 b bs comment.1 comment.2 refl above;
    })
    last.is_tail

stops : (k : RefusalKind) (bytes before behind : List ℕ) → bytes ≡ before ++ behind → IsWrong k before behind
    → StopsAt k bytes before
stops NotAscii bytes before behind parts w = past_stops bytes before behind parts w.0 w.1
stops BadToken bytes before behind parts w =
    ⊎_elim
    (λ n. record {
      gap = before;
      extra = [];
      behind = behind;
      before_is = sym (append-nil before);
      parts =
          parts;
      is_gap = w.0;
      no_blank = no_blank_none behind n;
      wrong = none refl refl n;
    })
    (λ g. record {
      gap = before;
      extra = [];
      behind = behind;
      before_is = sym (append-nil before);
      parts =
          parts;
      is_gap = w.0;
      no_blank = no_blank_great behind g;
      wrong = great refl refl g;
    })
    w.1
stops Expected bytes before behind parts w = absurd w
stops Redeclared bytes before behind parts w = absurd w
stops Unknown bytes before behind parts w = absurd w
stops TypeMismatch bytes before behind parts w = absurd w
stops WrongPlace bytes before behind parts w = absurd w
stops DirectReentry bytes before behind parts w = absurd w
stops Recursion bytes before behind parts w = absurd w
stops Limit bytes before behind parts w = absurd w
stops Memory bytes before behind parts w = absurd w
stops StrayPiece bytes before behind parts w = absurd w

-- what stands behind the gap before a token begins with no blank
pub token_no_blank : (p : Place) (bytes rest : List ℕ) (t : TokenView) → StandsFirst p bytes t rest
    → NoBlank (t.text ++ rest)
token_no_blank p bytes rest t s = no_blank_lexeme t.text rest (spells_lexeme t.kind t.text s.spells)
    (spells_no_mark t.kind t.text s.spells) s.longest

pub nothing_first : (a x : List ℕ) → IsLexeme a → a ++ x ≡ [] → ⊥
nothing_first [] x lexeme e = lexeme_nonempty lexeme
nothing_first (b ∷ a) x lexeme e = cc

past_no_lexeme : (a x : List ℕ) (b : ℕ) (more : List ℕ) → IsLexeme a → a ++ x ≡ b ∷ more → 128 ≤ b → ⊥
past_no_lexeme [] x b more lexeme e above = lexeme_nonempty lexeme
past_no_lexeme (c ∷ a) x b more lexeme e above =
    let same : c ≡ b = cc in
    let below : c < 128 = (lexeme_byte c a lexeme).1 in
    omega arith

none_no_lexeme : (a x bytes : List ℕ) → IsLexeme a → a ++ x ≡ bytes → BeginsNoToken bytes → ⊥
none_no_lexeme [] x bytes lexeme e n = lexeme_nonempty lexeme
none_no_lexeme (c ∷ a) x [] lexeme e n = n
none_no_lexeme (c ∷ a) x (b ∷ bs) lexeme e n =
    let same : c ≡ b = cc in
    n.2 a (subst (λ d. IsLexeme (d ∷ a)) same lexeme)

-- no token stands where a text ends
pub token_or_end : (p : Place) (bytes rest : List ℕ) (t : TokenView) → StandsFirst p bytes t rest → IsLastGap bytes → ⊥
token_or_end p bytes rest t s last =
    ⊎_elim
    (λ empty.
    let e = (gap_unique s.gap last.gap (t.text ++ rest) last.tail s.is_gap last.is_gap
    (token_no_blank p bytes rest t s) (subst NoBlank (sym empty) no_blank_nil) (sym s.parts ∙ last.parts)).1 in
    nothing_first t.text rest (spells_lexeme t.kind t.text s.spells) (e ∙ empty))
    (λ comment.
    let e = (gap_unique s.gap last.gap (t.text ++ rest) last.tail s.is_gap last.is_gap
    (token_no_blank p bytes rest t s) (subst NoBlank (sym comment.1) (no_blank_open comment.0 comment.2))
    (sym s.parts ∙ last.parts)).1 in
    no_mark t.text rest comment.0 (spells_lexeme t.kind t.text s.spells) (spells_no_mark t.kind t.text s.spells)
    s.longest (e ∙ comment.1))
    last.is_tail

token_no_wrong : (k : RefusalKind) (extra bytes rest : List ℕ) (t : TokenView) → Spells t.kind t.text
    → IsLongest t.text rest → t.text ++ rest ≡ bytes → Wrong k extra bytes → ⊥
token_no_wrong k extra bytes rest t spells longest e (past _ _ b more is above) =
    past_no_lexeme t.text rest b more (spells_lexeme t.kind t.text spells) (e ∙ is) above
token_no_wrong k extra bytes rest t spells longest e (cut _ body b more _ _ is above) =
    no_mark t.text rest (body ++ b ∷ more) (spells_lexeme t.kind t.text spells) (spells_no_mark t.kind t.text spells)
    longest (e ∙ is)
token_no_wrong k extra bytes rest t spells longest e (none _ _ n) =
    none_no_lexeme t.text rest bytes (spells_lexeme t.kind t.text spells) e n
token_no_wrong k extra bytes rest t spells longest e (great _ _ g) =
    let same = (longest_unique t.text g.0 rest g.1 (spells_lexeme t.kind t.text spells) (inr (inl g.3)) longest g.4
    (e ∙ g.2)).0 in
    let small = digits_number t.kind t.text spells (ap is_digits same ∙ g.3) in
    let value = ap value_of same in
    let above : 2147483647 < value_of g.0 = g.5 in
    omega (arith, small, value)

-- nor where something is wrong
pub token_or_wrong : (p q : Place) (bytes rest : List ℕ) (t : TokenView) (e : Refusal) → StandsFirst p bytes t rest
    → StandsWrong q bytes e → ⊥
token_or_wrong p q bytes rest t e s w =
    let stop = stops e.kind bytes w.before w.behind w.parts w.wrong in
    token_no_wrong e.kind stop.extra stop.behind rest t s.spells s.longest
    ((gap_unique s.gap stop.gap (t.text ++ rest) stop.behind s.is_gap stop.is_gap
    (token_no_blank p bytes rest t s) stop.no_blank (sym s.parts ∙ stop.parts)).1) stop.wrong

cut_no_none : (bytes more : List ℕ) → bytes ≡ comment_mark ++ more → BeginsNoToken bytes → ⊥
cut_no_none bytes more e n = none_no_lexeme (45 ∷ []) (45 ∷ more) bytes dash_lexeme (sym e) n

cut_no_great : (bytes more : List ℕ) → bytes ≡ comment_mark ++ more → BeginsTooGreat bytes → ⊥
cut_no_great bytes more e g = no_mark g.0 g.1 more (inr (inl g.3)) (great_no_mark g.0 g.3) g.4 (sym g.2 ∙ e)

past_no_none : (bytes : List ℕ) (b : ℕ) (more : List ℕ) → bytes ≡ b ∷ more → 128 ≤ b → BeginsNoToken bytes → ⊥
past_no_none [] b more e above n = n
past_no_none (c ∷ bytes) b more e above n =
    let same : c ≡ b = cc in
    let below : c < 128 = n.0 in
    omega arith

past_no_great : (bytes : List ℕ) (b : ℕ) (more : List ℕ) → bytes ≡ b ∷ more → 128 ≤ b → BeginsTooGreat bytes → ⊥
past_no_great bytes b more e above g = past_no_lexeme g.0 g.1 b more (inr (inl g.3)) (sym g.2 ∙ e) above

past_no_cut : (bytes : List ℕ) (b : ℕ) (more rest : List ℕ) → bytes ≡ b ∷ more → 128 ≤ b
    → bytes ≡ comment_mark ++ rest → ⊥
past_no_cut bytes b more rest e above mark =
    let dash : b ≡ 45 = cc in
    omega arith

open_body : (a b : List ℕ) → comment_mark ++ a ≡ comment_mark ++ b → a ≡ b
open_body a b e = cc

-- a text doesn't end where something is wrong
end_no_wrong : (k : RefusalKind) (extra bytes : List ℕ) → (bytes ≡ []) ⊎ IsOpenComment bytes → Wrong k extra bytes → ⊥
end_no_wrong k extra bytes (inl empty) (past _ _ b more is above) = cc
end_no_wrong k extra bytes (inl empty) (cut _ body b more _ _ is above) = cc
end_no_wrong k extra bytes (inl empty) (none _ _ n) = subst BeginsNoToken empty n
end_no_wrong k extra bytes (inl empty) (great _ _ g) = nothing_first g.0 g.1 (inr (inl g.3)) (sym g.2 ∙ empty)
end_no_wrong k extra bytes (inr comment) (past _ _ b more is above) =
    past_no_cut bytes b more comment.0 is above comment.1
end_no_wrong k extra bytes (inr comment) (cut _ body b more _ _ is above) =
    let same : comment.0 ≡ body ++ b ∷ more = open_body comment.0 (body ++ b ∷ more) (sym comment.1 ∙ is) in
    both_ways _ (past_no_comment b above) (prefix_at is_comment_byte b body more
    (ap (list_all is_comment_byte) (sym same) ∙ comment.2))
end_no_wrong k extra bytes (inr comment) (none _ _ n) = cut_no_none bytes comment.0 comment.1 n
end_no_wrong k extra bytes (inr comment) (great _ _ g) = cut_no_great bytes comment.0 comment.1 g

tail_no_blank : (tail : List ℕ) → (tail ≡ []) ⊎ IsOpenComment tail → NoBlank tail
tail_no_blank tail (inl empty) = subst NoBlank (sym empty) no_blank_nil
tail_no_blank tail (inr comment) = subst NoBlank (sym comment.1) (no_blank_open comment.0 comment.2)

pub end_or_wrong : (q : Place) (bytes : List ℕ) (e : Refusal) → IsLastGap bytes → StandsWrong q bytes e → ⊥
end_or_wrong q bytes e last w =
    let stop = stops e.kind bytes w.before w.behind w.parts w.wrong in
    let same = (gap_unique last.gap stop.gap last.tail stop.behind last.is_gap stop.is_gap
    (tail_no_blank last.tail last.is_tail) stop.no_blank (sym last.parts ∙ stop.parts)).1 in
    end_no_wrong e.kind stop.extra last.tail last.is_tail (subst (Wrong e.kind stop.extra) (sym same) stop.wrong)

-- what is wrong is determined, and so is its place
wrong_unique : (k l : RefusalKind) (x y bytes : List ℕ) → Wrong k x bytes → Wrong l y bytes → (k ≡ l) × (x ≡ y)
wrong_unique k l x y bytes (past k1 x1 b1 more1 is1 above1) (past k2 x2 b2 more2 is2 above2) =
    (k1 ∙ sym k2, x1 ∙ sym x2)
wrong_unique k l x y bytes (past k1 x1 b1 more1 is1 above1) (cut k2 body2 b2 more2 x2 ok2 is2 above2) =
    absurd (past_no_cut bytes b1 more1 (body2 ++ b2 ∷ more2) is1 above1 is2)
wrong_unique k l x y bytes (past k1 x1 b1 more1 is1 above1) (none k2 x2 n2) =
    absurd (past_no_none bytes b1 more1 is1 above1 n2)
wrong_unique k l x y bytes (past k1 x1 b1 more1 is1 above1) (great k2 x2 g2) =
    absurd (past_no_great bytes b1 more1 is1 above1 g2)
wrong_unique k l x y bytes (cut k1 body1 b1 more1 x1 ok1 is1 above1) (past k2 x2 b2 more2 is2 above2) =
    absurd (past_no_cut bytes b2 more2 (body1 ++ b1 ∷ more1) is2 above2 is1)
wrong_unique k l x y bytes (cut k1 body1 b1 more1 x1 ok1 is1 above1) (cut k2 body2 b2 more2 x2 ok2 is2 above2) =
    let bodies : body1 ++ b1 ∷ more1 ≡ body2 ++ b2 ∷ more2 = open_body _ _ (sym is1 ∙ is2) in
    let r = run_unique is_comment_byte body1 body2 b1 b2 more1 more2 ok1 ok2 (past_no_comment b1 above1)
    (past_no_comment b2 above2) bodies in
    (k1 ∙ sym k2, x1 ∙ ap (λ body. comment_mark ++ body) r.0 ∙ sym x2)
wrong_unique k l x y bytes (cut k1 body1 b1 more1 x1 ok1 is1 above1) (none k2 x2 n2) =
    absurd (cut_no_none bytes (body1 ++ b1 ∷ more1) is1 n2)
wrong_unique k l x y bytes (cut k1 body1 b1 more1 x1 ok1 is1 above1) (great k2 x2 g2) =
    absurd (cut_no_great bytes (body1 ++ b1 ∷ more1) is1 g2)
wrong_unique k l x y bytes (none k1 x1 n1) (past k2 x2 b2 more2 is2 above2) =
    absurd (past_no_none bytes b2 more2 is2 above2 n1)
wrong_unique k l x y bytes (none k1 x1 n1) (cut k2 body2 b2 more2 x2 ok2 is2 above2) =
    absurd (cut_no_none bytes (body2 ++ b2 ∷ more2) is2 n1)
wrong_unique k l x y bytes (none k1 x1 n1) (none k2 x2 n2) = (k1 ∙ sym k2, x1 ∙ sym x2)
wrong_unique k l x y bytes (none k1 x1 n1) (great k2 x2 g2) = (k1 ∙ sym k2, x1 ∙ sym x2)
wrong_unique k l x y bytes (great k1 x1 g1) (past k2 x2 b2 more2 is2 above2) =
    absurd (past_no_great bytes b2 more2 is2 above2 g1)
wrong_unique k l x y bytes (great k1 x1 g1) (cut k2 body2 b2 more2 x2 ok2 is2 above2) =
    absurd (cut_no_great bytes (body2 ++ b2 ∷ more2) is2 g1)
wrong_unique k l x y bytes (great k1 x1 g1) (none k2 x2 n2) = (k1 ∙ sym k2, x1 ∙ sym x2)
wrong_unique k l x y bytes (great k1 x1 g1) (great k2 x2 g2) = (k1 ∙ sym k2, x1 ∙ sym x2)

pub wrong_once : (q : Place) (bytes : List ℕ) (e f : Refusal) → StandsWrong q bytes e → StandsWrong q bytes f → e ≡ f
wrong_once q bytes e f w v =
    let one = stops e.kind bytes w.before w.behind w.parts w.wrong in
    let two = stops f.kind bytes v.before v.behind v.parts v.wrong in
    let same = gap_unique one.gap two.gap one.behind two.behind one.is_gap two.is_gap one.no_blank two.no_blank
    (sym one.parts ∙ two.parts) in
    let what = wrong_unique e.kind f.kind one.extra two.extra one.behind one.wrong
    (subst (Wrong f.kind two.extra) (sym same.1) two.wrong) in
    let before : w.before ≡ v.before = one.before_is ∙ (λ i. same.0 i ++ what.1 i) ∙ sym two.before_is in
    let places : e.place ≡ f.place = w.at ∙ ap (place_after q) before ∙ sym v.at in
    (λ i. record { kind = what.0 i; place = places i })
