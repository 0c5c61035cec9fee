-- A unit declares no more than it has lexemes, and a text has no more tokens than bytes, and its end.
use Rattle.std.proofs.Common.{◌≡◌, ℕ, ◌<◌, ◌≤◌, ◌+◌, ◌-◌, ◌^◌, List, [], ◌∷◌, ◌++◌, length, map, Option, Some, None}
use Rattle.std.proofs.Common.{refl, ap, arith, length-append}
use Rattle.std.specs.List.{flat_map, sum_by}
use Rattle.std.proofs.lemmas.List.{length-map}
use Rattle.std.proofs.lemmas.List.Sums.{sum_by-cons, sum_by-append}
use Rattle.scanner.specs.declared.token.Keyword.TheVariants as K
use Rattle.scanner.specs.declared.token.Sign.TheVariants as S
use Rattle.scanner.specs.declared.token.Place.{Place}
use Rattle.scanner.specs.declared.token.Kind.{Kind}
use Rattle.scanner.specs.declared.token.Token.{Token}
use Rattle.scanner.specs.Lexemes.{Spells}
use Rattle.scanner.specs.Tokens.{TokenView, StandInOrder, IsTokens, views, view, end_at}
use Rattle.scanner.specs.Places.{place_after}
use Rattle.scanner.proofs.LexemeLaws.{spells_lexeme, lexeme_nonempty}
use Rattle.program.specs.declared.kinds.Role.TheVariants.{External, Main}
use Rattle.syntax.specs.declared.declaration.MemberType.{MemberType as MemberKind}
use Rattle.syntax.specs.declared.declaration.MemberType.TheVariants as M
use Rattle.syntax.specs.declared.declaration.ResultType.{ResultType}
use Rattle.syntax.specs.Lexeme.{Lexeme, Word, WordAt, Mark, Finish, lexemes}
use Rattle.syntax.specs.Tree.{LocalTree, ParameterTree, MemberTree, BodyTree, ProcedureTree, MonitorProcedureTree}
use Rattle.syntax.specs.Tree.{RecoverTree, MonitorTree, UnitTree}
use Rattle.syntax.specs.Spelling.{member_type_text, members_text, locals_text, more_parameters_text, parameters_text}
use Rattle.syntax.specs.Spelling.{returns_text, body_text, procedure_text, procedures_text, monitor_procedures_text}
use Rattle.syntax.specs.Spelling.{recover_text, monitors_text, unit_text, statements_text}
use Rattle.types.specs.Names.{parameter_names, body_scope}
use Rattle.types.specs.Pieces.{Piece, piece_of, role_of, part_of, recover_pieces, monitor_pieces, pieces_from}
use Rattle.callees.specs.Names.{declarations}
use Rattle.callees.proofs.Longer.{longer_statements}

abbrev slots : Piece → ℕ
slots q = length (body_scope q.parameters q.body.locals)

scope_length : (ps : List ParameterTree) (ls : List LocalTree) → length (body_scope ps ls) ≡ length ps + length ls
scope_length ps ls =
    let a = length-append (parameter_names ps) (map (λ l. l.name) ls) in
    let b = length-map ps (λ p. p.name) in
    let c = length-map ls (λ l. l.name) in
    omega arith

longer_kind : (k : MemberKind) (ks : List Lexeme) → length ks ≤ length (member_type_text k ks)
longer_kind M.Integer ks = omega arith
longer_kind M.Boolean ks = omega arith
longer_kind M.Process ks = omega arith
longer_kind M.Condition ks = omega arith
longer_kind (M.Array n) ks = omega arith

count_members : (ms : List MemberTree) (ks : List Lexeme) → length ms + length ks ≤ length (members_text ms ks)
count_members [] ks = omega arith
count_members (m ∷ ms) ks =
    omega (arith, longer_kind m.kind (Mark S.Semicolon ∷ members_text ms ks), count_members ms ks)

count_locals : (ls : List LocalTree) (ks : List Lexeme) → length ls + length ks ≤ length (locals_text ls ks)
count_locals [] ks = omega arith
count_locals (l ∷ ls) ks = omega (arith, count_locals ls ks)

count_more : (ps : List ParameterTree) (ks : List Lexeme) → length ps + length ks ≤ length (more_parameters_text ps ks)
count_more [] ks = omega arith
count_more (p ∷ ps) ks = omega (arith, count_more ps ks)

count_parameters : (ps : List ParameterTree) (ks : List Lexeme)
    → length ps + length ks ≤ length (parameters_text ps ks)
count_parameters [] ks = omega arith
count_parameters (p ∷ ps) ks = omega (arith, count_more ps ks)

longer_returns : (o : Option ResultType) (ks : List Lexeme) → length ks ≤ length (returns_text o ks)
longer_returns None ks = omega arith
longer_returns (Some t) ks = omega arith

count_body : (b : BodyTree) (ks : List Lexeme) → length b.locals + length ks ≤ length (body_text b ks)
count_body b ks = omega (
  arith,
  count_locals b.locals (statements_text b.statements (Word K.End ∷ ks)),
  longer_statements b.statements (Word K.End ∷ ks),
)

count_procedure : (p : ProcedureTree) (ks : List Lexeme)
    → 1 + length (body_scope p.parameters p.body.locals) + length ks ≤ length (procedure_text p ks)
count_procedure p ks =
    let after = Mark S.Semicolon ∷ body_text p.body (Mark S.Semicolon ∷ ks) in
    omega (
      arith,
      scope_length p.parameters p.body.locals,
      count_parameters p.parameters (Mark S.CloseParen ∷ returns_text p.returns after),
      longer_returns p.returns after,
      count_body p.body (Mark S.Semicolon ∷ ks),
    )

count_inner : (k : ℕ) (ps : List MonitorProcedureTree) (ks : List Lexeme)
    → length ps + sum_by slots (map (λ q. piece_of (role_of q.access k) q.procedure) ps) + length ks
    ≤ length (monitor_procedures_text ps ks)
count_inner k [] ks = omega arith
count_inner k (p ∷ ps) ks =
    let f : MonitorProcedureTree → Piece = λ q. piece_of (role_of q.access k) q.procedure in
    let rest = monitor_procedures_text ps ks in
    omega (arith, sum_by-cons slots (f p) (map f ps), count_procedure p.procedure rest, count_inner k ps ks)

count_recover : (k : ℕ) (r : Option RecoverTree) (ks : List Lexeme)
    → length (recover_pieces k r) + sum_by slots (recover_pieces k r) + length ks ≤ length (recover_text r ks)
count_recover k None ks = omega arith
count_recover k (Some r) ks = omega (arith, scope_length [] r.body.locals, count_body r.body (Mark S.Semicolon ∷ ks))

count_monitor : (k : ℕ) (t : MonitorTree) (ks : List Lexeme)
    → length (monitor_pieces k t) + sum_by slots (monitor_pieces k t) + length ks
    ≤ length (monitor_procedures_text t.procedures (recover_text t.recover ks))
count_monitor k t ks =
    let f : MonitorProcedureTree → Piece = λ q. piece_of (role_of q.access k) q.procedure in
    omega (
      arith,
      length-append (map f t.procedures) (recover_pieces k t.recover),
      length-map t.procedures f,
      sum_by-append slots (map f t.procedures) (recover_pieces k t.recover),
      count_inner k t.procedures (recover_text t.recover ks),
      count_recover k t.recover ks,
    )

count_monitors : (k : ℕ) (ts : List MonitorTree) (ks : List Lexeme)
    → length ts + length (flat_map (λ m. m.members) ts) + length (pieces_from k ts) + sum_by slots (pieces_from k ts)
    + length ks ≤ length (monitors_text ts ks)
count_monitors k [] ks = omega arith
count_monitors k (t ∷ ts) ks =
    let after = Word K.End ∷ Mark S.Semicolon ∷ monitors_text ts ks in
    omega (
      arith,
      length-append t.members (flat_map (λ m. m.members) ts),
      length-append (monitor_pieces k t) (pieces_from (k + 1) ts),
      sum_by-append slots (monitor_pieces k t) (pieces_from (k + 1) ts),
      count_members t.members (monitor_procedures_text t.procedures (recover_text t.recover after)),
      count_monitor k t after,
      count_monitors (k + 1) ts ks,
    )

count_externals : (ps : List ProcedureTree) (ks : List Lexeme)
    → length ps + sum_by slots (map (piece_of External) ps) + length ks ≤ length (procedures_text ps ks)
count_externals [] ks = omega arith
count_externals (p ∷ ps) ks = omega (
  arith,
  sum_by-cons slots (piece_of External p) (map (piece_of External) ps),
  count_procedure p (procedures_text ps ks),
  count_externals ps ks,
)

-- no more declarations than lexemes
pub declared_lexemes : (u : UnitTree) → declarations u ≤ length (unit_text u)
declared_lexemes u =
    let ps = pieces_from 0 u.monitors in
    let qs = map (piece_of External) u.procedures in
    let main = part_of Main u.place u.body in
    let last = Mark S.Dot ∷ Finish ∷ [] in
    let text = WordAt K.Main u.place ∷ body_text u.body last in
    omega (
      arith,
      length-append ps qs,
      length-append (ps ++ qs) (main ∷ []),
      length-map u.procedures (piece_of External),
      sum_by-append slots ps qs,
      sum_by-append slots (ps ++ qs) (main ∷ []),
      scope_length [] u.body.locals,
      count_monitors 0 u.monitors (procedures_text u.procedures text),
      count_externals u.procedures text,
      count_body u.body last,
    )

some_byte : (kind : Kind) (bs : List ℕ) → Spells kind bs → 1 ≤ length bs
some_byte kind [] h = absurd (lexeme_nonempty (spells_lexeme kind [] h))
some_byte kind (b ∷ bs) h = omega arith

order_count : (p : Place) (bytes : List ℕ) (ts : List TokenView) (q : Place) (rest : List ℕ)
    → StandInOrder p bytes ts q rest → length ts ≤ length bytes
order_count p bytes [] q rest h = omega arith
order_count p bytes (t ∷ ts) q rest h =
    let f = ap length h.1.parts in
    omega (
      arith,
      length-append h.1.gap (t.text ++ h.0),
      length-append t.text h.0,
      some_byte t.kind t.text h.1.spells,
      order_count (place_after t.place t.text) h.0 ts q rest h.2,
    )

lexeme_count : (ts : List Token) → length (lexemes ts) ≡ length ts
lexeme_count [] = refl
lexeme_count (t ∷ ts) = omega (arith, lexeme_count ts)

-- a unit that is read from a text declares few things
pub few_declared : (text : List ℕ) (ts : List Token) (u : UnitTree) → IsTokens text (views ts)
    → unit_text u ≡ lexemes ts → declarations u < 2 ^ 32 - 1
few_declared text ts u h e =
    let a = ap length h.all in
    let b = length-append h.tokens (end_at (place_after h.place h.rest) ∷ []) in
    let c = order_count _ text h.tokens h.place h.rest h.in_order in
    let d = length-map ts view in
    let f = ap length e in
    omega (arith, declared_lexemes u, lexeme_count ts, h.short)
