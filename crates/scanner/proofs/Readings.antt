-- A text has one reading: one list of tokens or one fault, and not both.
use Rattle.std.proofs.Common.{◌≡◌, ℕ, suc, ◌<◌, List, [], ◌∷◌, ◌++◌, length, refl, sym, ap, ◌∙◌, inl, inr, subst}
use Rattle.std.proofs.Common.{arith, append_assoc, append-nil, length-append}
use Rattle.scanner.specs.declared.token.Place.{Place}
use Rattle.scanner.specs.declared.refusal.Refusal.{Refusal}
use Rattle.scanner.specs.Places.{start, place_after}
use Rattle.scanner.specs.Lexemes.{Spells}
use Rattle.scanner.specs.Gaps.{IsGap, IsLastGap}
use Rattle.scanner.specs.Joined.{joined_bytes, AreGaps}
use Rattle.scanner.specs.Tokens.{TokenView, StandsFirst, StandInOrder, IsTokens, EndsOnce, end_at}
use Rattle.scanner.specs.Faults.{StandsWrong, IsFault}
use Rattle.scanner.proofs.LexemeLaws.{spells_lexeme, longest_unique}
use Rattle.scanner.proofs.GapLaws.{gap_unique}
use Rattle.scanner.proofs.KindLaws.{spells_unique}
use Rattle.scanner.proofs.LineLaws.{place_after-append}
use Rattle.scanner.proofs.Stops.{token_no_blank, token_or_end, token_or_wrong, end_or_wrong, wrong_once}

-- the token that stands first is determined, and so is what stands behind it
token_unique : (p : Place) (bytes rest behind : List ℕ) (t u : TokenView) → StandsFirst p bytes t rest
    → StandsFirst p bytes u behind → (t ≡ u) × (rest ≡ behind)
token_unique p bytes rest behind t u s v =
    let gaps = gap_unique s.gap v.gap (t.text ++ rest) (u.text ++ behind) s.is_gap v.is_gap
    (token_no_blank p bytes rest t s) (token_no_blank p bytes behind u v) (sym s.parts ∙ v.parts) in
    let texts = longest_unique t.text u.text rest behind (spells_lexeme t.kind t.text s.spells)
    (spells_lexeme u.kind u.text v.spells) s.longest v.longest gaps.1 in
    let kinds : t.kind ≡ u.kind = spells_unique t.kind u.kind t.text s.spells
    (subst (Spells u.kind) (sym texts.0) v.spells) in
    let places : t.place ≡ u.place = s.place ∙ ap (place_after p) gaps.0 ∙ sym v.place in
    ((λ i. record { kind = kinds i; text = texts.0 i; place = places i }), texts.1)

-- no token stands first, wherever the bytes begin
abbrev NoToken : List ℕ → Type 0
NoToken bytes = (p : Place) (t : TokenView) (rest : List ℕ) → StandsFirst p bytes t rest → ⊥

-- the tokens up to where no further one stands are determined
order_unique : (p : Place) (bytes : List ℕ) (ts us : List TokenView) (q r : Place) (b c : List ℕ)
    → StandInOrder p bytes ts q b → StandInOrder p bytes us r c → NoToken b → NoToken c → (ts ≡ us) × (q ≡ r)
    × (b ≡ c)
order_unique p bytes [] [] q r b c w v nb nc = (refl, sym w.0 ∙ v.0, sym w.1 ∙ v.1)
order_unique p bytes [] (u ∷ us) q r b c w v nb nc = absurd (nb p u v.0 (subst (λ l. StandsFirst p l u v.0) w.1 v.1))
order_unique p bytes (t ∷ ts) [] q r b c w v nb nc = absurd (nc p t w.0 (subst (λ l. StandsFirst p l t w.0) v.1 w.1))
order_unique p bytes (t ∷ ts) (u ∷ us) q r b c w v nb nc =
    let first = token_unique p bytes w.0 v.0 t u w.1 v.1 in
    let moved = subst (λ (x : TokenView). StandInOrder (place_after x.place x.text) v.0 us r c) (sym first.0) v.2 in
    let same = order_unique (place_after t.place t.text) w.0 ts us q r b c w.2
    (subst (λ l. StandInOrder (place_after t.place t.text) l us r c) (sym first.1) moved) nb nc in
    ((λ i. first.0 i ∷ same.0 i), same.1, same.2)

end_no_token : (bytes : List ℕ) → IsLastGap bytes → NoToken bytes
end_no_token bytes last p t rest s = token_or_end p bytes rest t s last

wrong_no_token : (q : Place) (bytes : List ℕ) (e : Refusal) → StandsWrong q bytes e → NoToken bytes
wrong_no_token q bytes e w p t rest s = token_or_wrong p q bytes rest t e s w

pub tokens_unique : (text : List ℕ) (ts us : List TokenView) → IsTokens text ts → IsTokens text us → ts ≡ us
tokens_unique text ts us a b =
    let same = order_unique start text a.tokens b.tokens a.place b.place a.rest b.rest a.in_order b.in_order
    (end_no_token a.rest a.last_gap) (end_no_token b.rest b.last_gap) in
    a.all ∙ (λ i. same.0 i ++ end_at (place_after (same.1 i) (same.2 i)) ∷ []) ∙ sym b.all

pub fault_unique : (text : List ℕ) (e f : Refusal) → IsFault text e → IsFault text f → e ≡ f
fault_unique text e f (inl a) (inl b) = a.1 ∙ sym b.1
fault_unique text e f (inl a) (inr b) = absurd (omega (arith, a.0, b.0))
fault_unique text e f (inr a) (inl b) = absurd (omega (arith, a.0, b.0))
fault_unique text e f (inr (_, a)) (inr (_, b)) =
    let same = order_unique start text a.tokens b.tokens a.place b.place a.rest b.rest a.in_order b.in_order
    (wrong_no_token a.place a.rest e a.wrong) (wrong_no_token b.place b.rest f b.wrong) in
    let there = subst (λ l. StandsWrong b.place l f) (sym same.2) b.wrong in
    wrong_once a.place a.rest e f a.wrong (subst (λ q. StandsWrong q a.rest f) (sym same.1) there)

pub not_both : (text : List ℕ) (ts : List TokenView) (e : Refusal) → IsTokens text ts → IsFault text e → ⊥
not_both text ts e a (inl b) = omega (arith, a.short, b.0)
not_both text ts e a (inr (_, b)) =
    let same = order_unique start text a.tokens b.tokens a.place b.place a.rest b.rest a.in_order b.in_order
    (end_no_token a.rest a.last_gap) (wrong_no_token b.place b.rest e b.wrong) in
    end_or_wrong b.place b.rest e (subst IsLastGap same.2 a.last_gap) b.wrong

-- what stands between tokens
gaps_more : (gap : List ℕ) (gaps : List (List ℕ)) → 0 < length gaps → IsGap gap → AreGaps gaps → AreGaps (gap ∷ gaps)
gaps_more gap [] some g are = absurd (omega arith)
gaps_more gap (next ∷ gaps) some g are = (g, are)

joins : (p : Place) (bytes : List ℕ) (ts : List TokenView) (q : Place) (rest : List ℕ) (at : Place)
    → StandInOrder p bytes ts q rest → IsLastGap rest → (gaps : List (List ℕ)) × AreGaps gaps
    × (length gaps ≡ length (ts ++ end_at at ∷ [])) × (bytes ≡ joined_bytes gaps (ts ++ end_at at ∷ []))
joins p bytes [] q rest at w last = (rest ∷ [], last, refl, w.1 ∙ sym (append-nil rest))
joins p bytes (t ∷ ts) q rest at w last =
    let more = joins (place_after t.place t.text) w.0 ts q rest at w.2 last in
    let some : 0 < length more.0 = omega (arith, more.2, length-append ts (end_at at ∷ [])) in (
      w.1.gap ∷ more.0,
      gaps_more w.1.gap more.0 some w.1.is_gap more.1,
      ap suc more.2,
      w.1.parts ∙ ap
          (λ l. w.1.gap ++ (t.text ++ l)) more.3,
    )

pub tokens_join : (text : List ℕ) (ts : List TokenView) → IsTokens text ts → (gaps : List (List ℕ)) × AreGaps gaps
    × (length gaps ≡ length ts) × (text ≡ joined_bytes gaps ts)
tokens_join text ts a = subst (λ l. (gaps : List (List ℕ)) × AreGaps gaps × (length gaps ≡ length l)
    × (text ≡ joined_bytes gaps l)) (sym a.all) (joins start text a.tokens a.place a.rest (place_after a.place a.rest)
    a.in_order a.last_gap)

-- the end is the last token and no other
ends_in : (p : Place) (bytes : List ℕ) (ts : List TokenView) (q : Place) (rest : List ℕ) (at : Place)
    → StandInOrder p bytes ts q rest → EndsOnce (ts ++ end_at at ∷ [])
ends_in p bytes [] q rest at w = refl
ends_in p bytes (t ∷ []) q rest at w = ((λ e. subst (λ k. Spells k t.text) e w.1.spells), refl)
ends_in p bytes (t ∷ u ∷ us) q rest at w =
    ((λ e. subst (λ k. Spells k t.text) e w.1.spells), ends_in (place_after t.place t.text) w.0 (u ∷ us) q rest at w.2)

pub tokens_end : (text : List ℕ) (ts : List TokenView) → IsTokens text ts → EndsOnce ts
tokens_end text ts a = subst EndsOnce (sym a.all)
    (ends_in start text a.tokens a.place a.rest (place_after a.place a.rest) a.in_order)

-- a token's bytes stand at its place, wherever the bytes begin
abbrev SpanIn : Place → List ℕ → TokenView → Type 0
SpanIn p bytes t = (front behind : List ℕ) × (bytes ≡ front ++ (t.text ++ behind)) × (t.place ≡ place_after p front)

span_more : (p : Place) (bytes gap text behind : List ℕ) (t : TokenView) (q : Place) → bytes ≡ gap ++ (text ++ behind)
    → q ≡ place_after p gap → SpanIn (place_after q text) behind t → SpanIn p bytes t
span_more p bytes gap text behind t q parts place later = (
  gap ++ (text ++ later.0),
  later.1,
  parts ∙ ap (λ l. gap ++ (text ++ l)) later.2 ∙ ap (λ l. gap ++ l)
      (sym (append_assoc text later.0 (t.text ++ later.1))) ∙ sym
      (append_assoc gap (text ++ later.0) (t.text ++ later.1)),
  later.3 ∙ ap (λ x. place_after (place_after x text) later.0) place ∙ sym
      (place_after-append (place_after p gap) text later.0) ∙ sym (place_after-append p gap (text ++ later.0)),
)

spans_in : (p : Place) (bytes : List ℕ) (ts : List TokenView) (q : Place) (rest : List ℕ)
    → StandInOrder p bytes ts q rest → (before after : List TokenView) (t : TokenView)
    → ts ++ end_at (place_after q rest) ∷ [] ≡ before ++ t ∷ after → SpanIn p bytes t
spans_in p bytes [] q rest w [] after t e =
    let is_end : end_at (place_after q rest) ≡ t = cc in
    subst (SpanIn p bytes) is_end (
      bytes,
      [],
      sym (append-nil bytes),
      ap (λ x. place_after x rest) (sym w.0) ∙ ap
          (place_after p) (sym w.1),
    )
spans_in p bytes [] q rest w (u ∷ []) after t e = absurd (cc)
spans_in p bytes [] q rest w (u ∷ v ∷ before) after t e = absurd (cc)
spans_in p bytes (u ∷ us) q rest w [] after t e =
    let is_first : u ≡ t = cc in
    subst (SpanIn p bytes) is_first (w.1.gap, w.0, w.1.parts, w.1.place)
spans_in p bytes (u ∷ us) q rest w (v ∷ before) after t e =
    let later : us ++ end_at (place_after q rest) ∷ [] ≡ before ++ t ∷ after = cc in
    span_more p bytes w.1.gap u.text w.0 t u.place w.1.parts w.1.place
    (spans_in (place_after u.place u.text) w.0 us q rest w.2 before after t later)

pub tokens_span : (text : List ℕ) (before after : List TokenView) (t : TokenView)
    → IsTokens text (before ++ t ∷ after) → (front behind : List ℕ) × (text ≡ front ++ (t.text ++ behind))
    × (t.place ≡ place_after start front)
tokens_span text before after t a = spans_in start text a.tokens a.place a.rest a.in_order before after t (sym a.all)
