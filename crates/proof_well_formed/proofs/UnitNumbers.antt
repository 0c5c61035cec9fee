-- The numbers of each piece's statements are those of its unit's text.
use Rattle.std.proofs.Common.{◌≡◌, ℕ, zero, suc, ◌≤◌, List, [], ◌∷◌, Option, Some, None, slice_get}
use Rattle.std.proofs.Common.{refl, subst, arith, inl, inr, Contains}
use Rattle.std.specs.Prelude.{⊤}
use Rattle.scanner.specs.Limits.{most_number}
use Rattle.scanner.specs.declared.token.Keyword.TheVariants as K
use Rattle.scanner.specs.declared.token.Sign.TheVariants as S
use Rattle.syntax.specs.Lexeme.{Lexeme, Word, WordAt, Mark, MarkAt, Named, Numbered, Finish}
use Rattle.syntax.specs.declared.declaration.MemberType.{MemberType as MemberKind}
use Rattle.syntax.specs.declared.declaration.MemberType.TheVariants as M
use Rattle.syntax.specs.declared.declaration.ResultType.{ResultType}
use Rattle.syntax.specs.declared.leaf.Number.{Number}
use Rattle.syntax.specs.Tree.{LocalTree, ParameterTree, MemberTree, BodyTree, ProcedureTree, MonitorProcedureTree}
use Rattle.syntax.specs.Tree.{RecoverTree, MonitorTree, UnitTree}
use Rattle.syntax.specs.Spelling.{statements_text, member_type_text, locals_text, members_text, more_parameters_text}
use Rattle.syntax.specs.Spelling.{parameters_text, returns_text, body_text, procedure_text, procedures_text}
use Rattle.syntax.specs.Spelling.{monitor_procedures_text, recover_text, monitors_text, unit_text}
use Rattle.types.specs.Pieces.{Piece}
use Rattle.proof_well_formed.specs.Faultless.{HasNumbers}
use Rattle.proof_well_formed.proofs.Lists.{some_same, place_of}
use Rattle.proof_well_formed.proofs.Small.{SmallStatements}
use Rattle.proof_well_formed.proofs.Numbers.{SmallLexeme, SmallText, statements_small}
use Rattle.proof_well_formed.proofs.Numbering.{InMonitor, IsPiece}

locals_small : (ls : List LocalTree) (ks : List Lexeme) → SmallText (locals_text ls ks) → SmallText ks
locals_small [] ks h = h
locals_small (l ∷ ls) ks h = locals_small ls ks h.1.1.1.1.1

more_parameters_small : (ps : List ParameterTree) (ks : List Lexeme) → SmallText (more_parameters_text ps ks)
    → SmallText ks
more_parameters_small [] ks h = h
more_parameters_small (p ∷ ps) ks h = more_parameters_small ps ks h.1.1.1.1

parameters_small : (ps : List ParameterTree) (ks : List Lexeme) → SmallText (parameters_text ps ks) → SmallText ks
parameters_small [] ks h = h
parameters_small (p ∷ ps) ks h = more_parameters_small ps ks h.1.1.1

returns_small : (r : Option ResultType) (ks : List Lexeme) → SmallText (returns_text r ks) → SmallText ks
returns_small None ks h = h
returns_small (Some t) ks h = h.1.1

member_type_small : (k : MemberKind) (ks : List Lexeme) → SmallText (member_type_text k ks) → SmallText ks
member_type_small M.Integer ks h = h.1
member_type_small M.Boolean ks h = h.1
member_type_small M.Process ks h = h.1
member_type_small M.Condition ks h = h.1
member_type_small (M.Array n) ks h = h.1.1.1.1

members_small : (ms : List MemberTree) (ks : List Lexeme) → SmallText (members_text ms ks) → SmallText ks
members_small [] ks h = h
members_small (m ∷ ms) ks h =
    members_small ms ks (member_type_small m.kind (Mark S.Semicolon ∷ members_text ms ks) h.1.1.1).1

body_small : (b : BodyTree) (ks : List Lexeme) → SmallText (body_text b ks)
    → SmallStatements b.statements × SmallText ks
body_small b ks h =
    let p = locals_small b.locals (statements_text b.statements (Word K.End ∷ ks)) h in
    let q = statements_small b.statements (Word K.End ∷ ks) p in (q.0, q.1.1)

procedure_small : (x : ProcedureTree) (ks : List Lexeme) → SmallText (procedure_text x ks)
    → SmallStatements x.body.statements × SmallText ks
procedure_small x ks h =
    let rest : List Lexeme = Mark S.Semicolon ∷ body_text x.body (Mark S.Semicolon ∷ ks) in
    let p = parameters_small x.parameters (Mark S.CloseParen ∷ returns_text x.returns rest) h.1.1.1 in
    let q = returns_small x.returns rest p.1 in
    let r = body_small x.body (Mark S.Semicolon ∷ ks) q.1 in (r.0, r.1.1)

abbrev pub SmallProcedures : List ProcedureTree → Type 0
SmallProcedures [] = ⊤
SmallProcedures (x ∷ xs) = SmallStatements x.body.statements × SmallProcedures xs

abbrev pub SmallInner : List MonitorProcedureTree → Type 0
SmallInner [] = ⊤
SmallInner (x ∷ xs) = SmallStatements x.procedure.body.statements × SmallInner xs

abbrev pub SmallRecover : Option RecoverTree → Type 0
SmallRecover None = ⊤
SmallRecover (Some r) = SmallStatements r.body.statements

abbrev pub SmallMonitors : List MonitorTree → Type 0
SmallMonitors [] = ⊤
SmallMonitors (t ∷ ts) = (SmallInner t.procedures × SmallRecover t.recover) × SmallMonitors ts

procedures_small : (xs : List ProcedureTree) (ks : List Lexeme) → SmallText (procedures_text xs ks)
    → SmallProcedures xs × SmallText ks
procedures_small [] ks h = (tt, h)
procedures_small (x ∷ xs) ks h = let p = procedure_small x (procedures_text xs ks) h in
    let q = procedures_small xs ks p.1 in ((p.0, q.0), q.1)

inner_small : (xs : List MonitorProcedureTree) (ks : List Lexeme) → SmallText (monitor_procedures_text xs ks)
    → SmallInner xs × SmallText ks
inner_small [] ks h = (tt, h)
inner_small (x ∷ xs) ks h = let p = procedure_small x.procedure (monitor_procedures_text xs ks) h.1 in
    let q = inner_small xs ks p.1 in ((p.0, q.0), q.1)

recover_small : (r : Option RecoverTree) (ks : List Lexeme) → SmallText (recover_text r ks)
    → SmallRecover r × SmallText ks
recover_small None ks h = (tt, h)
recover_small (Some r) ks h = let p = body_small r.body (Mark S.Semicolon ∷ ks) h.1 in (p.0, p.1.1)

monitors_small : (ts : List MonitorTree) (ks : List Lexeme) → SmallText (monitors_text ts ks)
    → SmallMonitors ts × SmallText ks
monitors_small [] ks h = (tt, h)
monitors_small (t ∷ ts) ks h =
    let last : List Lexeme = Word K.End ∷ Mark S.Semicolon ∷ monitors_text ts ks in
    let a = members_small t.members (monitor_procedures_text t.procedures (recover_text t.recover last)) h.1.1.1 in
    let b = inner_small t.procedures (recover_text t.recover last) a in
    let c = recover_small t.recover last b.1 in
    let d = monitors_small ts ks c.1.1.1 in (((b.0, c.0), d.0), d.1)

abbrev pub SmallUnit : UnitTree → Type 0
SmallUnit u = SmallMonitors u.monitors × SmallProcedures u.procedures × SmallStatements u.body.statements

unit_small : (u : UnitTree) → SmallText (unit_text u) → SmallUnit u
unit_small u h =
    let end : List Lexeme = Mark S.Dot ∷ Finish ∷ [] in
    let main : List Lexeme = WordAt K.Main u.place ∷ body_text u.body end in
    let a = monitors_small u.monitors (procedures_text u.procedures main) h.1.1.1 in
    let b = procedures_small u.procedures main a.1 in
    let c = body_small u.body end b.1.1 in (a.0, b.0, c.0)

small_lexeme : (k : Lexeme) → ((n : Number) → k ≡ Numbered n → n.value ≤ most_number) → SmallLexeme k
small_lexeme (Word w) h = tt
small_lexeme (WordAt w place) h = tt
small_lexeme (Mark w) h = tt
small_lexeme (MarkAt w place) h = tt
small_lexeme (Named name) h = tt
small_lexeme (Numbered n) h = h n refl
small_lexeme Finish h = tt

small_text : (ks : List Lexeme) → ((n : Number) → Contains ks (Numbered n) → n.value ≤ most_number) → SmallText ks
small_text [] h = tt
small_text (k ∷ ks) h = (
  small_lexeme k (λ n e. h n (0, omega arith, e)),
  small_text ks (λ n c. h n (suc c.0, omega (arith, c.1), c.2)),
)

pub numbers_small : (u : UnitTree) → HasNumbers u → SmallUnit u
numbers_small u h = unit_small u (small_text (unit_text u) h)

in_procedures : (xs : List ProcedureTree) (i : ℕ) (x : ProcedureTree) → SmallProcedures xs → slice_get xs i ≡ Some x
    → SmallStatements x.body.statements
in_procedures [] i x h e = cc
in_procedures (z ∷ xs) zero x h e = subst (λ y. SmallStatements y.body.statements) (some_same z x e) h.0
in_procedures (z ∷ xs) (suc i) x h e = in_procedures xs i x h.1 e

in_inner : (xs : List MonitorProcedureTree) (i : ℕ) (x : MonitorProcedureTree) → SmallInner xs
    → slice_get xs i ≡ Some x → SmallStatements x.procedure.body.statements
in_inner [] i x h e = cc
in_inner (z ∷ xs) zero x h e = subst (λ y. SmallStatements y.procedure.body.statements) (some_same z x e) h.0
in_inner (z ∷ xs) (suc i) x h e = in_inner xs i x h.1 e

in_all : (ts : List MonitorTree) (j : ℕ) (t : MonitorTree) → SmallMonitors ts → slice_get ts j ≡ Some t
    → SmallInner t.procedures × SmallRecover t.recover
in_all [] j t h e = cc
in_all (z ∷ ts) zero t h e =
    subst (λ y. SmallInner y.procedures × SmallRecover y.recover) (some_same z t e) h.0
in_all (z ∷ ts) (suc j) t h e = in_all ts j t h.1 e

abbrev pub SmallPiece : Piece → Type 0
SmallPiece q = SmallStatements q.body.statements

in_own : (m : ℕ) (t : MonitorTree) (k : ℕ) (q : Piece) → SmallInner t.procedures → SmallRecover t.recover
    → InMonitor m t k q → SmallPiece q
in_own m t k q f g h = elim h [
  | inl x ↦ subst SmallPiece x.2 (in_inner t.procedures k x.0 f x.1)
  | inr x ↦ subst SmallPiece x.3 (subst SmallRecover x.1 g)
]

pub piece_small : (u : UnitTree) (n : ℕ) (q : Piece) → SmallUnit u → IsPiece u n q → SmallPiece q
piece_small u n q s h = elim h [
  | inl g ↦ let p = in_all u.monitors g.0 g.1 s.0 g.2 in in_own g.0 g.1 g.3 q p.0 p.1 g.5
  | inr g ↦ elim g [
    | inl f ↦ let p = place_of u.procedures f.0 f.1 in
        subst SmallPiece f.2 (in_procedures u.procedures p.0 f.0 s.1 p.1)
    | inr f ↦ subst SmallPiece f.1 s.2
  ]
]
