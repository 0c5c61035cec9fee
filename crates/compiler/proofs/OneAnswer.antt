-- A text is one program or has one refusal.
use Rattle.std.proofs.Common.{◌≡◌, arith, length, inl, inr, ℕ, List, [], ◌∷◌, map, slice_get, Some, refl, sym, ap}
use Rattle.std.proofs.Common.{◌∙◌, subst}
use Rattle.words.specs.declared.version.ImageVersion.{ImageVersion}
use Rattle.words.specs.declared.version.ImageVersion.TheVariants.{Two}
use Rattle.scanner.specs.declared.token.Place.{Place}
use Rattle.scanner.specs.declared.token.Token.{Token}
use Rattle.scanner.specs.declared.refusal.Refusal.{Refusal}
use Rattle.scanner.specs.declared.refusal.RefusalKind.{RefusalKind}
use Rattle.scanner.specs.declared.refusal.RefusalKind.TheVariants.{NotAscii, BadToken, Expected, Redeclared, Unknown}
use Rattle.scanner.specs.declared.refusal.RefusalKind.TheVariants.{TypeMismatch, WrongPlace}
use Rattle.scanner.specs.declared.refusal.RefusalKind.TheVariants.{DirectReentry, Recursion, Limit, Memory, StrayPiece}
use Rattle.scanner.specs.Refusals.{number_of}
use Rattle.scanner.specs.Faults.{IsFault}
use Rattle.scanner.specs.Tokens.{IsTokens, TokenView, views}
use Rattle.syntax.specs.Spelling.{unit_text}
use Rattle.syntax.specs.Tree.{UnitTree}
use Rattle.types.specs.Faults.{ComesNoLater}
use Rattle.types.specs.Judgement.{IsFaulty}
use Rattle.types.specs.Resolved.{resolved}
use Rattle.program.specs.Trees.{Program, as_version}
use Rattle.lowering.specs.Pieces.{code_of}
use Rattle.backend.specs.Refusals.{CodeFits}
use Rattle.compiler.specs.Accepts.{IsUnit, AcceptsText, IsNoUnit, IsFaultyUnit, RefusesProgram, RefusesText}
use Rattle.compiler.specs.Accepts.{RefusesTextAs}
use Rattle.compiler.proofs.Versions.{is_two, refused_so}
use Rattle.compiler.proofs.Spoken.{said, spoken, same_lexemes}
use Rattle.compiler.proofs.Refused.{Stops, stops, one_stop, same_refusal, unit_not_refused}

-- a text has one list of tokens, one fault, and not both; and tokens are one unit
pub record Reads : Type 0 where
  pub one : (text : List ℕ) (ts us : List TokenView) → IsTokens text ts → IsTokens text us → ts ≡ us
  pub fault : (text : List ℕ) (e f : Refusal) → IsFault text e → IsFault text f → e ≡ f
  pub either : (text : List ℕ) (ts : List TokenView) (e : Refusal) → IsTokens text ts → IsFault text e → ⊥
  pub tree : (u v : UnitTree) → unit_text u ≡ unit_text v → u ≡ v

-- a text is one unit
pub one_unit : Reads → (text : List ℕ) (ts us : List Token) (u v : UnitTree) → IsUnit text ts u → IsUnit text us v → u
    ≡ v
one_unit r text ts us u v a b =
    r.tree u v (a.spelled ∙ (same_lexemes ts us (r.one text (views ts) (views us) a.scanned b.scanned) ∙ sym b.spelled))

pub one_program : Reads → (text : List ℕ) (p q : Program) → AcceptsText text p → AcceptsText text q → p ≡ q
one_program r text p q a b =
    a.is_program.program ∙ (ap resolved (one_unit r text a.tokens b.tokens a.unit b.unit a.is_unit b.is_unit)
    ∙ sym b.is_program.program)

-- a unit isn't refused as none
unit_or_none : Reads → (text : List ℕ) (ts : List Token) (u : UnitTree) (e : Refusal) → IsUnit text ts u
    → IsNoUnit text e → ⊥
unit_or_none r text ts u e a n =
    unit_not_refused (views n.tokens) u e (a.spelled
    ∙ (spoken ts ∙ ap (map said) (r.one text (views ts) (views n.tokens)
    a.scanned n.scanned))) a.within (stops n.tokens e n.refusal)

-- a program has no fault
program_or_fault : Reads → (text : List ℕ) (p : Program) (e : Refusal) → AcceptsText text p → IsFaultyUnit text e → ⊥
program_or_fault r text p e a n =
    a.is_program.faultless e.place e.kind (subst (λ u. IsFaulty u e.place e.kind) (one_unit r text n.tokens a.tokens
    n.unit a.unit n.is_unit a.is_unit) n.refusal.0)

same_kind : (a b : RefusalKind) → Some a ≡ Some b → a ≡ b
same_kind a b h = cc

-- a kind is known by its number
abbrev kinds : List RefusalKind
kinds = NotAscii ∷ NotAscii ∷ BadToken ∷ Expected ∷ Redeclared ∷ Unknown ∷ TypeMismatch ∷ WrongPlace
    ∷ DirectReentry ∷ Recursion ∷ Limit ∷ Memory ∷ StrayPiece ∷ []

number_back : (k : RefusalKind) → slice_get kinds (number_of k) ≡ Some k
number_back NotAscii = refl
number_back BadToken = refl
number_back Expected = refl
number_back Redeclared = refl
number_back Unknown = refl
number_back TypeMismatch = refl
number_back WrongPlace = refl
number_back DirectReentry = refl
number_back Recursion = refl
number_back Limit = refl
number_back Memory = refl
number_back StrayPiece = refl

one_number : (a b : RefusalKind) → number_of a ≡ number_of b → a ≡ b
one_number a b e = same_kind a b (sym (number_back a) ∙ (ap (slice_get kinds) e ∙ number_back b))

same_place : (a b : Place) → a.line ≡ b.line → a.column ≡ b.column → a ≡ b
same_place a b l c = ap (λ (x : ℕ). record { line = x; column = a.column }) l
    ∙ ap (λ (x : ℕ). record { line = b.line; column = x }) c

-- of two faults neither of which comes later than the other
one_least : (e f : Refusal) → ComesNoLater e f → ComesNoLater f e → e ≡ f
one_least e f (inl a) (inl b) = absurd (omega (arith, a, b))
one_least e f (inl a) (inr b) = absurd (omega (arith, a, b.0))
one_least e f (inr a) (inl b) = absurd (omega (arith, a.0, b))
one_least e f (inr (l, inl a)) (inr (m, inl b)) = absurd (omega (arith, a, b))
one_least e f (inr (l, inl a)) (inr (m, inr b)) = absurd (omega (arith, a, b.0))
one_least e f (inr (l, inr a)) (inr (m, inl b)) = absurd (omega (arith, a.0, b))
one_least e f (inr (l, inr a)) (inr (m, inr b)) =
    same_refusal e f (one_number e.kind f.kind (omega (arith, a.1, b.1))) (same_place e.place f.place l a.0)

one_fault : Reads → (text : List ℕ) (e f : Refusal) → IsFaultyUnit text e → IsFaultyUnit text f → e ≡ f
one_fault r text e f x y =
    let same : x.unit ≡ y.unit = one_unit r text x.tokens y.tokens x.unit y.unit x.is_unit y.is_unit in
    let there : IsFaulty x.unit f.place f.kind = subst (λ u. IsFaulty u f.place f.kind) (sym same) y.refusal.0 in
    let here : IsFaulty y.unit e.place e.kind = subst (λ u. IsFaulty u e.place e.kind) same x.refusal.0 in
    one_least e f (x.refusal.1 f.place f.kind there) (y.refusal.1 e.place e.kind here)

-- each refusal of an earlier phase excludes those of the later ones
fault_or_no_unit : Reads → (text : List ℕ) (e f : Refusal) → IsFault text e → IsNoUnit text f → ⊥
fault_or_no_unit r text e f x y = r.either text (views y.tokens) e y.scanned x

fault_or_unit : Reads → (text : List ℕ) (ts : List Token) (u : UnitTree) (e : Refusal) → IsFault text e
    → IsUnit text ts u → ⊥
fault_or_unit r text ts u e x y = r.either text (views ts) e y.scanned x

-- a text's refusal is one
pub one_refusal_as : Reads → (v : ImageVersion) (text : List ℕ) (e f : Refusal) → RefusesTextAs v text e
    → RefusesTextAs v text f → e ≡ f
one_refusal_as r v text e f (inl (inl x)) (inl (inl y)) = r.fault text e f x y
one_refusal_as r v text e f (inl (inl x)) (inl (inr (inl y))) = absurd (fault_or_no_unit r text e f x y)
one_refusal_as r v text e f (inl (inl x)) (inl (inr (inr y))) = absurd (fault_or_unit r text y.tokens y.unit e x y.is_unit)
one_refusal_as r v text e f (inl (inl x)) (inr y) =
    absurd (fault_or_unit r text y.accepts.tokens y.accepts.unit e x y.accepts.is_unit)
one_refusal_as r v text e f (inl (inr (inl x))) (inl (inl y)) = absurd (fault_or_no_unit r text f e y x)
one_refusal_as r v text e f (inl (inr (inl x))) (inl (inr (inl y))) =
    one_stop (views y.tokens) e f (subst (λ ts. Stops ts e) (r.one text (views x.tokens) (views y.tokens) x.scanned
    y.scanned) (stops x.tokens e x.refusal)) (stops y.tokens f y.refusal)
one_refusal_as r v text e f (inl (inr (inl x))) (inl (inr (inr y))) = absurd
    (unit_or_none r text y.tokens y.unit e y.is_unit x)
one_refusal_as r v text e f (inl (inr (inl x))) (inr y) =
    absurd (unit_or_none r text y.accepts.tokens y.accepts.unit e y.accepts.is_unit x)
one_refusal_as r v text e f (inl (inr (inr x))) (inl (inl y)) = absurd (fault_or_unit r text x.tokens x.unit f y x.is_unit)
one_refusal_as r v text e f (inl (inr (inr x))) (inl (inr (inl y))) = absurd
    (unit_or_none r text x.tokens x.unit f x.is_unit y)
one_refusal_as r v text e f (inl (inr (inr x))) (inl (inr (inr y))) = one_fault r text e f x y
one_refusal_as r v text e f (inl (inr (inr x))) (inr y) = absurd (program_or_fault r text y.program e y.accepts x)
one_refusal_as r v text e f (inr x) (inl (inl y)) =
    absurd (fault_or_unit r text x.accepts.tokens x.accepts.unit f y x.accepts.is_unit)
one_refusal_as r v text e f (inr x) (inl (inr (inl y))) =
    absurd (unit_or_none r text x.accepts.tokens x.accepts.unit f x.accepts.is_unit y)
one_refusal_as r v text e f (inr x) (inl (inr (inr y))) = absurd (program_or_fault r text x.program f x.accepts y)
one_refusal_as r v text e f (inr x) (inr y) = x.refusal ∙ sym y.refusal

pub one_refusal : Reads → (text : List ℕ) (e f : Refusal) → RefusesText text e → RefusesText text f → e ≡ f
one_refusal r text e f x y = one_refusal_as r Two text e f (refused_so text e x) (refused_so text f y)

-- a program is not refused as none
program_or_refused : Reads → (text : List ℕ) (p : Program) (e : Refusal) → AcceptsText text p → RefusesProgram text e
    → ⊥
program_or_refused r text p e a (inl x) = fault_or_unit r text a.tokens a.unit e x a.is_unit
program_or_refused r text p e a (inr (inl x)) = unit_or_none r text a.tokens a.unit e a.is_unit x
program_or_refused r text p e a (inr (inr x)) = program_or_fault r text p e a x

pub not_both_as : Reads → (v : ImageVersion) (text : List ℕ) (p : Program) (e : Refusal) → AcceptsText text p
    → CodeFits (as_version v p) → RefusesTextAs v text e → ⊥
not_both_as r v text p e a fits (inl x) = program_or_refused r text p e a x
not_both_as r v text p e a fits (inr x) =
    let same = ap (λ (q : Program). length (code_of (as_version v q)).code)
    (one_program r text x.program p x.accepts a) in
    let long = x.long in
    omega arith

pub not_both : Reads → (text : List ℕ) (p : Program) (e : Refusal) → AcceptsText text p → CodeFits p
    → RefusesText text e → ⊥
not_both r text p e a fits x =
    not_both_as r Two text p e a (subst CodeFits (sym (is_two text p a)) fits) (refused_so text e x)
