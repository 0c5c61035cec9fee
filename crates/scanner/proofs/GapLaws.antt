-- The gap that stands first in a text is determined, where what follows it begins with no blank.
use Rattle.std.proofs.Common.{◌≡◌, ℕ, ◌<◌, ◌≤◌, true, false, List, [], ◌∷◌, ◌++◌, refl, sym, ap, ◌∙◌, inl, inr, arith}
use Rattle.std.proofs.Common.{append_assoc, append-nil}
use Rattle.std.specs.Prelude.{nat_lt}
use Rattle.std.specs.List.{list_all, flat_map}
use Rattle.std.proofs.lemmas.Bool.{and_parts, both_ways, ltb-true, false≢true, false_from_ne_true}
use Rattle.std.proofs.lemmas.List.Concat.{flat_map-append}
use Rattle.scanner.specs.Bytes.{is_white, is_comment_byte}
use Rattle.scanner.specs.Lexemes.{comment_mark, IsLexeme, IsLongest}
use Rattle.scanner.specs.Gaps.{Blank, White, Comment, blank_text, IsGap, IsOpenComment, IsLastGap}
use Rattle.scanner.proofs.Runs.{run_unique, prefix_at}
use Rattle.scanner.proofs.LexemeLaws.{lexeme_byte, lexeme_nonempty, no_mark, white_below}

-- a comment's bytes are of ASCII
pub comment_byte_ascii : (b : ℕ) → is_comment_byte b ≡ true → b < 128
comment_byte_ascii b e = ltb-true b 128 (and_parts (nat_lt b 128) _ e).0

pub past_no_comment : (b : ℕ) → 128 ≤ b → is_comment_byte b ≡ false
past_no_comment b past = false_from_ne_true _ (λ e. let below : b < 128 = comment_byte_ascii b e in omega arith)

-- no blank stands first
abbrev pub NoBlank : List ℕ → Type 0
NoBlank a = (blank : Blank) (rest : List ℕ) → a ≡ blank_text blank ++ rest → ⊥

blank_unique : (g h : Blank) (x y : List ℕ) → blank_text g ++ x ≡ blank_text h ++ y → (blank_text g ≡ blank_text h)
    × (x ≡ y)
blank_unique (White b _) (White c _) x y e =
    let same : b ≡ c = cc in
    ((λ i. same i ∷ []), cc)
blank_unique (White b white) (Comment body _) x y e =
    let dash : b ≡ 45 = cc in
    absurd (both_ways _ (ap is_white dash) white)
blank_unique (Comment body _) (White b white) x y e =
    let dash : b ≡ 45 = cc in
    absurd (both_ways _ (ap is_white dash) white)
blank_unique (Comment body ok) (Comment other also) x y e =
    let tails : (body ++ 10 ∷ []) ++ x ≡ (other ++ 10 ∷ []) ++ y = cc in
    let regrouped : body ++ 10 ∷ x ≡ other ++ 10 ∷ y =
    sym (append_assoc body (10 ∷ []) x) ∙ tails ∙ append_assoc other (10 ∷ []) y in
    let r = run_unique is_comment_byte body other 10 10 x y ok also refl refl regrouped in
    ((λ i. comment_mark ++ (r.0 i ++ 10 ∷ [])), r.2)

blanks_unique : (gs hs : List Blank) (a b : List ℕ) → flat_map blank_text gs ++ a ≡ flat_map blank_text hs ++ b
    → NoBlank a → NoBlank b → (flat_map blank_text gs ≡ flat_map blank_text hs) × (a ≡ b)
blanks_unique [] [] a b e na nb = (refl, e)
blanks_unique [] (h ∷ hs) a b e na nb = absurd
    (na h (flat_map blank_text hs ++ b) (e ∙ append_assoc (blank_text h) (flat_map blank_text hs) b))
blanks_unique (g ∷ gs) [] a b e na nb = absurd
    (nb g (flat_map blank_text gs ++ a) (sym e ∙ append_assoc (blank_text g) (flat_map blank_text gs) a))
blanks_unique (g ∷ gs) (h ∷ hs) a b e na nb =
    let first = blank_unique g h (flat_map blank_text gs ++ a) (flat_map blank_text hs ++ b)
    (sym (append_assoc (blank_text g) (flat_map blank_text gs) a) ∙ e ∙ append_assoc (blank_text h)
    (flat_map blank_text hs) b) in
    let r = blanks_unique gs hs a b first.1 na nb in
    ((λ i. first.0 i ++ r.0 i), r.1)

pub gap_unique : (g h a b : List ℕ) → IsGap g → IsGap h → NoBlank a → NoBlank b → g ++ a ≡ h ++ b → (g ≡ h) × (a ≡ b)
gap_unique g h a b is_g is_h na nb e =
    let r = blanks_unique is_g.blanks is_h.blanks a b
    (ap (λ l. l ++ a) (sym is_g.text) ∙ e ∙ ap (λ l. l ++ b) is_h.text) na nb in
    (is_g.text ∙ r.0 ∙ sym is_h.text, r.1)

pub gap_empty : IsGap []
gap_empty = record { blanks = []; text = refl }

pub gap_append : (a b : List ℕ) → IsGap a → IsGap b → IsGap (a ++ b)
gap_append a b g h = record {
  blanks = g.blanks ++ h.blanks;
  text =
      (λ i. g.text i ++ h.text i) ∙ sym (flat_map-append blank_text g.blanks h.blanks);
}

pub gap_blank : (blank : Blank) → IsGap (blank_text blank)
gap_blank blank = record { blanks = blank ∷ []; text = sym (append-nil (blank_text blank)) }

pub last_gap : (a : List ℕ) → IsGap a → IsLastGap a
last_gap a g = record { gap = a; tail = []; parts = sym (append-nil a); is_gap = g; is_tail = inl refl }

pub last_gap_append : (a b : List ℕ) → IsGap a → IsLastGap b → IsLastGap (a ++ b)
last_gap_append a b g last = record {
  gap = a ++ last.gap;
  tail = last.tail;
  parts = ap (λ l. a ++ l) last.parts ∙ sym (append_assoc a last.gap last.tail);
  is_gap = gap_append a last.gap g last.is_gap;
  is_tail = last.is_tail;
}

pub last_gap_comment : (a : List ℕ) → IsOpenComment a → IsLastGap a
last_gap_comment a comment = record { gap = []; tail = a; parts = refl; is_gap = gap_empty; is_tail = inr comment }

-- no blank stands first where nothing stands
pub no_blank_nil : NoBlank []
no_blank_nil (White b _) rest e = cc
no_blank_nil (Comment body _) rest e = cc

-- nor where a longest lexeme does that begins no comment
pub no_blank_lexeme : (t r : List ℕ) → IsLexeme t → (t ≡ comment_mark → ⊥) → IsLongest t r → NoBlank (t ++ r)
no_blank_lexeme [] r lexeme other longest blank rest e = lexeme_nonempty lexeme
no_blank_lexeme (b ∷ t) r lexeme other longest (White c white) rest e =
    let same : c ≡ b = cc in
    both_ways _ (ap is_white same ∙ (lexeme_byte b t lexeme).0) white
no_blank_lexeme (b ∷ t) r lexeme other longest (Comment body _) rest e =
    no_mark (b ∷ t) r ((body ++ 10 ∷ []) ++ rest) lexeme other longest e

-- nor where a byte stands that is neither white space nor begins a lexeme
pub no_blank_byte : (b : ℕ) (bs : List ℕ) → is_white b ≡ false → (b ≡ 45 → ⊥) → NoBlank (b ∷ bs)
no_blank_byte b bs no_white no_dash (White c white) rest e =
    let same : c ≡ b = cc in
    both_ways _ (ap is_white same ∙ no_white) white
no_blank_byte b bs no_white no_dash (Comment body _) rest e = no_dash cc

pub no_blank_past_ascii : (b : ℕ) (bs : List ℕ) → 128 ≤ b → NoBlank (b ∷ bs)
no_blank_past_ascii b bs past (White c white) rest e =
    let same : c ≡ b = cc in
    let below : c < 128 = white_below c white in
    omega arith
no_blank_past_ascii b bs past (Comment body _) rest e =
    let dash : b ≡ 45 = cc in
    omega arith

-- nor where a comment does in which no line feed stands before a byte past ASCII, or none at all
pub no_blank_open : (body : List ℕ) → list_all is_comment_byte body ≡ true → NoBlank (comment_mark ++ body)
no_blank_open body ok (White c white) rest e =
    let dash : c ≡ 45 = cc in
    both_ways _ (ap is_white dash) white
no_blank_open body ok (Comment other _) rest e =
    let tails : body ≡ (other ++ 10 ∷ []) ++ rest = cc in
    false≢true (prefix_at is_comment_byte 10 other rest
    (ap (list_all is_comment_byte) (sym (tails ∙ append_assoc other (10 ∷ []) rest)) ∙ ok))

pub no_blank_cut : (body : List ℕ) (b : ℕ) (bs : List ℕ) → list_all is_comment_byte body ≡ true → 128 ≤ b
    → NoBlank (comment_mark ++ (body ++ b ∷ bs))
no_blank_cut body b bs ok past (White c white) rest e =
    let dash : c ≡ 45 = cc in
    both_ways _ (ap is_white dash) white
no_blank_cut body b bs ok past (Comment other also) rest e =
    let tails : body ++ b ∷ bs ≡ (other ++ 10 ∷ []) ++ rest = cc in
    let not_comment : is_comment_byte b ≡ false = past_no_comment b past in
    let r = run_unique is_comment_byte body other b 10 bs rest ok also not_comment refl
    (tails ∙ append_assoc other (10 ∷ []) rest) in
    let same : b ≡ 10 = r.1 in
    omega arith
