-- Declarations and units are read as their trees.
use Rattle.std.proofs.Common.{◌≡◌, ◌≤◌, ℕ, ◌+◌, List, [], ◌∷◌, Option, Some, None, refl, arith, max}
use Rattle.scanner.specs.declared.token.Keyword.TheVariants as K
use Rattle.scanner.specs.declared.token.Sign.TheVariants as S
use Rattle.scanner.specs.declared.token.Place.{Place}
use Rattle.syntax.specs.declared.declaration.LocalType.{LocalType}
use Rattle.syntax.specs.declared.declaration.LocalType.TheVariants as L
use Rattle.syntax.specs.declared.declaration.MemberType.{MemberType}
use Rattle.syntax.specs.declared.declaration.MemberType.TheVariants as M
use Rattle.syntax.specs.declared.declaration.ResultType.{ResultType}
use Rattle.syntax.specs.declared.declaration.ResultType.TheVariants as R
use Rattle.syntax.specs.declared.declaration.Access.{Access}
use Rattle.syntax.specs.declared.declaration.Access.TheVariants as A
use Rattle.syntax.specs.Lexeme.{Lexeme, Word, WordAt, Mark, MarkAt, Named, Numbered, Finish}
use Rattle.syntax.specs.Tree.{Assign, If, While, Call, Fork, Join, Return, Wait, Notify, Broadcast, Print, Abort}
use Rattle.syntax.specs.Tree.{StatementTrees, NoStatements, Then, LocalTree, ParameterTree, MemberTree, BodyTree}
use Rattle.syntax.specs.Tree.{ProcedureTree, MonitorProcedureTree, RecoverTree, MonitorTree, UnitTree}
use Rattle.syntax.specs.Spelling.{statements_text, local_type_text, result_type_text, member_type_text, locals_text}
use Rattle.syntax.specs.Spelling.{members_text, parameters_text, more_parameters_text, returns_text, body_text}
use Rattle.syntax.specs.Spelling.{procedure_text, procedures_text, access_text, monitor_procedures_text, recover_text}
use Rattle.syntax.specs.Spelling.{monitors_text, unit_text}
use Rattle.syntax.specs.Nesting.{statements_nesting, procedures_nesting, monitor_procedures_nesting, recover_nesting}
use Rattle.syntax.specs.Nesting.{monitors_nesting, unit_nesting}
use Rattle.grammar.specs.Machine.{Symbol, Trees, AWord, AMark, AWordAt, AnOpening, AName, ANumber, Statements}
use Rattle.grammar.specs.Machine.{ALocalType, AMemberType, AResultType, AReturns, Locals, Members, Parameters}
use Rattle.grammar.specs.Machine.{MoreParameters, Procedures, MonitorProcedures, ARecover, Monitors, Skip, Read}
use Rattle.grammar.specs.Machine.{procedure, body, unit, unit_trees, procedure_in, behind_procedure, reply_locals}
use Rattle.grammar.specs.Machine.{reply_members, reply_procedures, reply_monitor_procedures, reply_monitors, reads}
use Rattle.grammar.specs.Machine.{on_read, nestings}
use Rattle.grammar.specs.Reading.{lexeme_at}
use Rattle.grammar.proofs.Steps.{on_reads, pushed, skipped}
use Rattle.grammar.proofs.Complete.{plains, word_reads, mark_reads, word_at_reads, opening_reads, name_reads}
use Rattle.grammar.proofs.Complete.{number_reads}
use Rattle.grammar.proofs.Statements.{statements_read}

split2 : (a b n m : ℕ) → max a b + n ≤ m → (a + n ≤ m) × (b + n ≤ m)
split2 a b n m h = (omega arith, omega arith)

low : (a n m : ℕ) → a + n ≤ m → n ≤ m
low a n m h = omega arith

local_type_reads : (m : ℕ) (t : LocalType) (ks : List Lexeme) (κ : List Symbol) → nestings κ ≤ m
    → reads m (plains (local_type_text t ∷ ks)) (ALocalType ∷ κ) ≡ on_read (λ y. (t, y)) (reads m (plains ks) κ)
local_type_reads m L.Integer ks κ le = pushed m (plains (Word K.Integer ∷ ks)) ALocalType κ [] (λ _. L.Integer) refl le
local_type_reads m L.Boolean ks κ le = pushed m (plains (Word K.Boolean ∷ ks)) ALocalType κ [] (λ _. L.Boolean) refl le
local_type_reads m L.Process ks κ le = pushed m (plains (Word K.Process ∷ ks)) ALocalType κ [] (λ _. L.Process) refl le

result_type_reads : (m : ℕ) (t : ResultType) (ks : List Lexeme) (κ : List Symbol) → nestings κ ≤ m
    → reads m (plains (result_type_text t ∷ ks)) (AResultType ∷ κ) ≡ on_read (λ y. (t, y)) (reads m (plains ks) κ)
result_type_reads m R.Integer ks κ le = pushed m (plains (Word K.Integer ∷ ks)) AResultType κ [] (λ _. R.Integer) refl
    le
result_type_reads m R.Boolean ks κ le = pushed m (plains (Word K.Boolean ∷ ks)) AResultType κ [] (λ _. R.Boolean) refl
    le

member_type_reads : (m : ℕ) (t : MemberType) (ks : List Lexeme) (κ : List Symbol) → nestings κ ≤ m
    → reads m (plains (member_type_text t ks)) (AMemberType ∷ κ) ≡ on_read (λ y. (t, y)) (reads m (plains ks) κ)
member_type_reads m M.Integer ks κ le = pushed m (plains (Word K.Integer ∷ ks)) AMemberType κ [] (λ _. M.Integer) refl
    le
member_type_reads m M.Boolean ks κ le = pushed m (plains (Word K.Boolean ∷ ks)) AMemberType κ [] (λ _. M.Boolean) refl
    le
member_type_reads m M.Process ks κ le = pushed m (plains (Word K.Process ∷ ks)) AMemberType κ [] (λ _. M.Process) refl
    le
member_type_reads m M.Condition ks κ le = pushed m (plains (Word K.Condition ∷ ks)) AMemberType κ [] (λ _. M.Condition)
    refl le
member_type_reads m (M.Array n) ks κ le =
    rw (
      pushed m (plains (Word K.Array ∷ Numbered n ∷ Word K.Of ∷ Word K.Integer ∷ ks)) AMemberType κ
          (ANumber ∷ AWord K.Of ∷ AWord K.Integer ∷ []) (λ t. M.Array t.0) refl le,
      number_reads m n (Word K.Of ∷ Word K.Integer ∷ ks) (AWord K.Of ∷ AWord K.Integer ∷ κ) le,
      word_reads m K.Of (Word K.Integer ∷ ks) (AWord K.Integer ∷ κ) le,
      word_reads m K.Integer ks κ le,
    ) (simp on_reads)

returns_read : (m : ℕ) (x : Option ResultType) (ks : List Lexeme) (κ : List Symbol) → nestings κ ≤ m
    → reads m (plains (returns_text x (Mark S.Semicolon ∷ ks))) (AReturns ∷ κ) ≡ on_read (λ y. (x, y))
    (reads m (plains (Mark S.Semicolon ∷ ks)) κ)
returns_read m None ks κ le = skipped m (plains (Mark S.Semicolon ∷ ks)) AReturns κ None refl
returns_read m (Some t) ks κ le =
    rw (
      pushed m (plains (Mark S.Colon ∷ result_type_text t ∷ Mark S.Semicolon ∷ ks)) AReturns κ (AResultType ∷ [])
          (λ t. Some t.0) refl le,
      result_type_reads m t (Mark S.Semicolon ∷ ks) κ le,
    ) (simp on_reads)

locals_read : (m : ℕ) (ls : List LocalTree) (ks : List Lexeme) (κ : List Symbol) → nestings κ ≤ m
    → reply_locals (lexeme_at (plains ks)) ≡ Skip [] → reads m (plains (locals_text ls ks)) (Locals ∷ κ) ≡ on_read
    (λ y. (ls, y)) (reads m (plains ks) κ)
locals_read m [] ks κ le h = skipped m (plains ks) Locals κ [] h
locals_read m (l ∷ ls) ks κ le h =
    let more = locals_text ls ks in
    rw (
      pushed m (plains (WordAt K.Var l.place ∷ Named l.name ∷ Mark S.Colon ∷ local_type_text l.kind ∷ Mark
          S.Semicolon ∷ more)) Locals κ (AName ∷ AMark S.Colon ∷ ALocalType ∷ AMark S.Semicolon ∷ Locals ∷ [])
          (λ t. record { place = l.place; name = t.0; kind = t.1.1.0 } ∷ t.1.1.1.1.0) refl le,
      name_reads m l.name (Mark S.Colon ∷ local_type_text l.kind ∷ Mark S.Semicolon ∷ more)
          (AMark S.Colon ∷ ALocalType ∷ AMark S.Semicolon ∷ Locals ∷ κ) le,
      mark_reads m S.Colon (local_type_text l.kind ∷ Mark S.Semicolon ∷ more)
          (ALocalType ∷ AMark S.Semicolon ∷ Locals ∷ κ) le,
      local_type_reads m l.kind (Mark S.Semicolon ∷ more) (AMark S.Semicolon ∷ Locals ∷ κ) le,
      mark_reads m S.Semicolon more (Locals ∷ κ) le,
      locals_read m ls ks κ le h,
    ) (simp on_reads)

members_read : (m : ℕ) (ms : List MemberTree) (ks : List Lexeme) (κ : List Symbol) → nestings κ ≤ m
    → reply_members (lexeme_at (plains ks)) ≡ Skip [] → reads m (plains (members_text ms ks)) (Members ∷ κ) ≡ on_read
    (λ y. (ms, y)) (reads m (plains ks) κ)
members_read m [] ks κ le h = skipped m (plains ks) Members κ [] h
members_read m (l ∷ ls) ks κ le h =
    let more = members_text ls ks in
    rw (
      pushed m (plains (WordAt K.Var l.place ∷ Named l.name ∷ Mark S.Colon ∷ member_type_text l.kind
          (Mark S.Semicolon ∷ more))) Members κ
          (AName ∷ AMark S.Colon ∷ AMemberType ∷ AMark S.Semicolon ∷ Members ∷ [])
          (λ t. record { place = l.place; name = t.0; kind = t.1.1.0 } ∷ t.1.1.1.1.0) refl le,
      name_reads m l.name (Mark S.Colon ∷ member_type_text l.kind (Mark S.Semicolon ∷ more))
          (AMark S.Colon ∷ AMemberType ∷ AMark S.Semicolon ∷ Members ∷ κ) le,
      mark_reads m S.Colon (member_type_text l.kind (Mark S.Semicolon ∷ more))
          (AMemberType ∷ AMark S.Semicolon ∷ Members ∷ κ) le,
      member_type_reads m l.kind (Mark S.Semicolon ∷ more) (AMark S.Semicolon ∷ Members ∷ κ) le,
      mark_reads m S.Semicolon more (Members ∷ κ) le,
      members_read m ls ks κ le h,
    ) (simp on_reads)

more_parameters_read : (m : ℕ) (ps : List ParameterTree) (ks : List Lexeme) (κ : List Symbol) → nestings κ ≤ m
    → reads m (plains (more_parameters_text ps (Mark S.CloseParen ∷ ks))) (MoreParameters ∷ κ) ≡ on_read (λ y. (ps, y))
    (reads m (plains (Mark S.CloseParen ∷ ks)) κ)
more_parameters_read m [] ks κ le = skipped m (plains (Mark S.CloseParen ∷ ks)) MoreParameters κ [] refl
more_parameters_read m (p ∷ ps) ks κ le =
    let more = more_parameters_text ps (Mark S.CloseParen ∷ ks) in
    rw (
      pushed m (plains (Mark S.Comma ∷ Named p.name ∷ Mark S.Colon ∷ local_type_text p.kind ∷ more)) MoreParameters κ
          (AName ∷ AMark S.Colon ∷ ALocalType ∷ MoreParameters ∷ [])
          (λ t. record { name = t.0; kind = t.1.1.0 } ∷ t.1.1.1.0) refl le,
      name_reads m p.name (Mark S.Colon ∷ local_type_text p.kind ∷ more)
          (AMark S.Colon ∷ ALocalType ∷ MoreParameters ∷ κ) le,
      mark_reads m S.Colon (local_type_text p.kind ∷ more) (ALocalType ∷ MoreParameters ∷ κ) le,
      local_type_reads m p.kind more (MoreParameters ∷ κ) le,
      more_parameters_read m ps ks κ le,
    ) (simp on_reads)

parameters_read : (m : ℕ) (ps : List ParameterTree) (ks : List Lexeme) (κ : List Symbol) → nestings κ ≤ m
    → reads m (plains (parameters_text ps (Mark S.CloseParen ∷ ks))) (Parameters ∷ κ) ≡ on_read (λ y. (ps, y))
    (reads m (plains (Mark S.CloseParen ∷ ks)) κ)
parameters_read m [] ks κ le = skipped m (plains (Mark S.CloseParen ∷ ks)) Parameters κ [] refl
parameters_read m (p ∷ ps) ks κ le =
    let more = more_parameters_text ps (Mark S.CloseParen ∷ ks) in
    rw (
      pushed m (plains (Named p.name ∷ Mark S.Colon ∷ local_type_text p.kind ∷ more)) Parameters κ
          (AMark S.Colon ∷ ALocalType ∷ MoreParameters ∷ [])
          (λ t. record { name = p.name; kind = t.1.0 } ∷ t.1.1.0) refl le,
      mark_reads m S.Colon (local_type_text p.kind ∷ more) (ALocalType ∷ MoreParameters ∷ κ) le,
      local_type_reads m p.kind more (MoreParameters ∷ κ) le,
      more_parameters_read m ps ks κ le,
    ) (simp on_reads)

-- no further local variable stands before statements
after_locals : (ss : StatementTrees) (ks : List Lexeme) → reply_locals
    (lexeme_at (plains (statements_text ss (Word K.End ∷ ks)))) ≡ Skip []
after_locals NoStatements ks = refl
after_locals (Then (Assign v e) ss) ks = refl
after_locals (Then (If p e a b) ss) ks = refl
after_locals (Then (While p e a) ss) ks = refl
after_locals (Then (Call p c i) ss) ks = refl
after_locals (Then (Fork p c i) ss) ks = refl
after_locals (Then (Join p e i a) ss) ks = refl
after_locals (Then (Return p v) ss) ks = refl
after_locals (Then (Wait p x) ss) ks = refl
after_locals (Then (Notify p x) ss) ks = refl
after_locals (Then (Broadcast p x) ss) ks = refl
after_locals (Then (Print p e) ss) ks = refl
after_locals (Then (Abort p) ss) ks = refl

body_reads : (m : ℕ) (b : BodyTree) (ks : List Lexeme) (κ : List Symbol)
    → statements_nesting b.statements + nestings κ ≤ m → reads m (plains (body_text b ks)) (body κ) ≡ on_read
    (λ y. (b.locals, (b.statements, (tt, y)))) (reads m (plains ks) κ)
body_reads m b ks κ le =
    rw (
      locals_read m b.locals (statements_text b.statements (Word K.End ∷ ks)) (Statements ∷ AWord K.End ∷ κ)
          (low _ _ _ le) (after_locals b.statements ks),
      statements_read m b.statements (Word K.End ∷ ks) (AWord K.End ∷ κ) le refl,
      word_reads m K.End ks κ (low _ _ _ le),
    ) (simp on_reads)

-- a procedure behind the word PROCEDURE
abbrev after_procedure : ProcedureTree → List Lexeme → List Lexeme
after_procedure p ks = Named p.name ∷ MarkAt S.OpenParen p.open_place ∷ parameters_text p.parameters
    (Mark S.CloseParen ∷ returns_text p.returns (Mark S.Semicolon ∷ body_text p.body (Mark S.Semicolon ∷ ks)))

procedure_reads : (m : ℕ) (p : ProcedureTree) (ks : List Lexeme) (κ : List Symbol)
    → statements_nesting p.body.statements + nestings κ ≤ m → reads m (plains (after_procedure p ks))
    (procedure κ) ≡ on_read
    (λ y. (
      p.name,
      (p.open_place, (p.parameters, (tt, (p.returns, (tt, (p.body.locals, (p.body.statements, (tt, (tt, y))))))))),
    ))
    (reads m (plains ks) κ)
procedure_reads m p ks κ le =
    let n = low _ _ _ le in
    let ending = Mark S.Semicolon ∷ ks in
    let closing = Mark S.CloseParen ∷ returns_text p.returns (Mark S.Semicolon ∷ body_text p.body ending) in
    rw (
      name_reads m p.name (MarkAt S.OpenParen p.open_place ∷ parameters_text p.parameters closing)
          (AnOpening ∷ Parameters ∷ AMark S.CloseParen ∷ AReturns ∷ AMark S.Semicolon ∷ body (AMark S.Semicolon ∷ κ))
          n,
      opening_reads m p.open_place (parameters_text p.parameters closing)
          (Parameters ∷ AMark S.CloseParen ∷ AReturns ∷ AMark S.Semicolon ∷ body (AMark S.Semicolon ∷ κ)) n,
      parameters_read m p.parameters (returns_text p.returns (Mark S.Semicolon ∷ body_text p.body ending))
          (AMark S.CloseParen ∷ AReturns ∷ AMark S.Semicolon ∷ body (AMark S.Semicolon ∷ κ)) n,
      mark_reads m S.CloseParen (returns_text p.returns (Mark S.Semicolon ∷ body_text p.body ending))
          (AReturns ∷ AMark S.Semicolon ∷ body (AMark S.Semicolon ∷ κ)) n,
      returns_read m p.returns (body_text p.body ending) (AMark S.Semicolon ∷ body (AMark S.Semicolon ∷ κ)) n,
      mark_reads m S.Semicolon (body_text p.body ending) (body (AMark S.Semicolon ∷ κ)) n,
      body_reads m p.body ending (AMark S.Semicolon ∷ κ) le,
      mark_reads m S.Semicolon ks κ n,
    ) (simp on_reads)

procedures_read : (m : ℕ) (ps : List ProcedureTree) (ks : List Lexeme) (κ : List Symbol)
    → procedures_nesting ps + nestings κ ≤ m → reply_procedures (lexeme_at (plains ks)) ≡ Skip []
    → reads m (plains (procedures_text ps ks)) (Procedures ∷ κ) ≡ on_read (λ y. (ps, y)) (reads m (plains ks) κ)
procedures_read m [] ks κ le h = skipped m (plains ks) Procedures κ [] h
procedures_read m (p ∷ ps) ks κ le h =
    let b = split2 (statements_nesting p.body.statements) (procedures_nesting ps) (nestings κ) m le in
    let more = procedures_text ps ks in
    rw (
      pushed m (plains (procedure_text p more)) Procedures κ (procedure (Procedures ∷ []))
          (λ t. procedure_in p.place t ∷ (behind_procedure t).0) refl (low _ _ _ le),
      procedure_reads m p more (Procedures ∷ κ) b.0,
      procedures_read m ps ks κ b.1 h,
    ) (simp on_reads)

access_reads : (m : ℕ) (a : Access) (ks : List Lexeme) (κ : List Symbol) → nestings κ ≤ m
    → reads m (plains (access_text a ∷ ks)) (MonitorProcedures ∷ κ) ≡ on_read
    (λ y. (
      record { access = a; procedure = procedure_in y.0 y.1 } ∷
          (behind_procedure {A = List MonitorProcedureTree × Trees κ} y.1).0,
      (behind_procedure {A = List MonitorProcedureTree × Trees κ} y.1).1,
    ))
    (reads m (plains ks) (AWordAt K.Procedure ∷ procedure (MonitorProcedures ∷ κ)))
access_reads m A.Entry ks κ le = pushed m (plains (Word K.Entry ∷ ks)) MonitorProcedures κ
    (AWordAt K.Procedure ∷ procedure (MonitorProcedures ∷ []))
    (λ t. record { access = A.Entry; procedure = procedure_in t.0 t.1 } ∷ (behind_procedure t.1).0) refl le
access_reads m A.Internal ks κ le = pushed m (plains (Word K.Internal ∷ ks)) MonitorProcedures κ
    (AWordAt K.Procedure ∷ procedure (MonitorProcedures ∷ []))
    (λ t. record { access = A.Internal; procedure = procedure_in t.0 t.1 } ∷ (behind_procedure t.1).0) refl le

monitor_procedures_read : (m : ℕ) (ps : List MonitorProcedureTree) (ks : List Lexeme) (κ : List Symbol)
    → monitor_procedures_nesting ps + nestings κ ≤ m → reply_monitor_procedures (lexeme_at (plains ks)) ≡ Skip []
    → reads m (plains (monitor_procedures_text ps ks)) (MonitorProcedures ∷ κ) ≡ on_read (λ y. (ps, y))
    (reads m (plains ks) κ)
monitor_procedures_read m [] ks κ le h = skipped m (plains ks) MonitorProcedures κ [] h
monitor_procedures_read m (p ∷ ps) ks κ le h =
    let b = split2 (statements_nesting p.procedure.body.statements) (monitor_procedures_nesting ps) (nestings κ) m
    le in
    let more = monitor_procedures_text ps ks in
    rw (
      access_reads m p.access (procedure_text p.procedure more) κ (low _ _ _ le),
      word_at_reads m K.Procedure p.procedure.place (after_procedure p.procedure more)
          (procedure (MonitorProcedures ∷ κ)) (low _ _ _ le),
      procedure_reads m p.procedure more (MonitorProcedures ∷ κ) b.0,
      monitor_procedures_read m ps ks κ b.1 h,
    ) (simp on_reads)

recover_reads : (m : ℕ) (r : Option RecoverTree) (ks : List Lexeme) (κ : List Symbol)
    → recover_nesting r + nestings κ ≤ m → reads m (plains (recover_text r (Word K.End ∷ ks))) (ARecover ∷ κ) ≡ on_read
    (λ y. (r, y)) (reads m (plains (Word K.End ∷ ks)) κ)
recover_reads m None ks κ le = skipped m (plains (Word K.End ∷ ks)) ARecover κ None refl
recover_reads m (Some r) ks κ le =
    let ending = Mark S.Semicolon ∷ Word K.End ∷ ks in
    rw (
      pushed m (plains (WordAt K.Recover r.place ∷ body_text r.body ending)) ARecover κ (body (AMark S.Semicolon ∷ []))
          (λ t. Some (record { place = r.place; body = record { locals = t.0; statements = t.1.0 } })) refl
          (low _ _ _ le),
      body_reads m r.body ending (AMark S.Semicolon ∷ κ) le,
      mark_reads m S.Semicolon (Word K.End ∷ ks) κ (low _ _ _ le),
    ) (simp on_reads)

-- what stands behind the procedures, and behind the members, of a monitor
after_procedures : (r : Option RecoverTree) (ks : List Lexeme) → reply_monitor_procedures
    (lexeme_at (plains (recover_text r (Word K.End ∷ ks)))) ≡ Skip []
after_procedures None ks = refl
after_procedures (Some r) ks = refl

no_member : (a : Access) → reply_members (access_text a) ≡ Skip []
no_member A.Entry = refl
no_member A.Internal = refl

after_members : (ps : List MonitorProcedureTree) (r : Option RecoverTree) (ks : List Lexeme)
    → reply_members (lexeme_at (plains (monitor_procedures_text ps (recover_text r (Word K.End ∷ ks))))) ≡ Skip []
after_members [] None ks = refl
after_members [] (Some r) ks = refl
after_members (p ∷ ps) r ks = no_member p.access

monitors_read : (m : ℕ) (ms : List MonitorTree) (ks : List Lexeme) (κ : List Symbol)
    → monitors_nesting ms + nestings κ ≤ m → reply_monitors (lexeme_at (plains ks)) ≡ Skip []
    → reads m (plains (monitors_text ms ks)) (Monitors ∷ κ) ≡ on_read (λ y. (ms, y)) (reads m (plains ks) κ)
monitors_read m [] ks κ le h = skipped m (plains ks) Monitors κ [] h
monitors_read m (x ∷ ms) ks κ le h =
    let b = split2 (max (monitor_procedures_nesting x.procedures) (recover_nesting x.recover)) (monitors_nesting ms)
    (nestings κ) m le in
    let d = split2 (monitor_procedures_nesting x.procedures) (recover_nesting x.recover) (nestings κ) m b.0 in
    let n = low _ _ _ le in
    let more = monitors_text ms ks in
    let ending = Mark S.Semicolon ∷ more in
    let recovering = recover_text x.recover (Word K.End ∷ ending) in
    let inside = monitor_procedures_text x.procedures recovering in
    rw (
      pushed m (plains (WordAt K.Monitor x.place ∷ Named x.name ∷ Mark S.Semicolon ∷ members_text x.members inside))
          Monitors κ
          (AName ∷ AMark S.Semicolon ∷ Members ∷ MonitorProcedures ∷ ARecover ∷ AWord K.End ∷ AMark
          S.Semicolon ∷ Monitors ∷ [])
          (λ t. record {
            place = x.place;
            name = t.0;
            members = t.1.1.0;
            procedures = t.1.1.1.0;
            recover =
                t.1.1.1.1.0;
          } ∷ t.1.1.1.1.1.1.1.0) refl n,
      name_reads m x.name (Mark S.Semicolon ∷ members_text x.members inside)
          (AMark S.Semicolon ∷ Members ∷ MonitorProcedures ∷ ARecover ∷ AWord K.End ∷ AMark S.Semicolon ∷ Monitors ∷ κ)
          n,
      mark_reads m S.Semicolon (members_text x.members inside)
          (Members ∷ MonitorProcedures ∷ ARecover ∷ AWord K.End ∷ AMark S.Semicolon ∷ Monitors ∷ κ) n,
      members_read m x.members inside (MonitorProcedures ∷ ARecover ∷ AWord K.End ∷ AMark S.Semicolon ∷ Monitors ∷ κ) n
          (after_members x.procedures x.recover ending),
      monitor_procedures_read m x.procedures recovering (ARecover ∷ AWord K.End ∷ AMark S.Semicolon ∷ Monitors ∷ κ) d.0
          (after_procedures x.recover ending),
      recover_reads m x.recover ending (AWord K.End ∷ AMark S.Semicolon ∷ Monitors ∷ κ) d.1,
      word_reads m K.End ending (AMark S.Semicolon ∷ Monitors ∷ κ) n,
      mark_reads m S.Semicolon more (Monitors ∷ κ) n,
      monitors_read m ms ks κ b.1 h,
    ) (simp on_reads)

after_monitors : (ps : List ProcedureTree) (place : Place) (ks : List Lexeme)
    → reply_monitors (lexeme_at (plains (procedures_text ps (WordAt K.Main place ∷ ks)))) ≡ Skip []
after_monitors [] place ks = refl
after_monitors (p ∷ ps) place ks = refl

parts : (a b c m : ℕ) → max a (max b c) ≤ m → (0 ≤ m) × (a + 0 ≤ m) × (b + 0 ≤ m) × (c + 0 ≤ m)
parts a b c m h = (omega arith, omega arith, omega arith, omega arith)

-- a unit's text is read as that unit
pub unit_reads : (m : ℕ) (u : UnitTree) → unit_nesting u ≤ m → reads m (plains (unit_text u)) unit ≡ Read
    (unit_trees u)
unit_reads m u le =
    let b = parts (monitors_nesting u.monitors) (procedures_nesting u.procedures)
    (statements_nesting u.body.statements) m le in
    let ending = Mark S.Dot ∷ Finish ∷ [] in
    let main = WordAt K.Main u.place ∷ body_text u.body ending in
    let calls = procedures_text u.procedures main in
    let inside = monitors_text u.monitors calls in
    rw (
      word_reads m K.Program (Named u.name ∷ Mark S.Semicolon ∷ inside)
          (AName ∷ AMark S.Semicolon ∷ Monitors ∷ Procedures ∷ AWordAt K.Main ∷ body (AMark S.Dot ∷ [])) b.0,
      name_reads m u.name (Mark S.Semicolon ∷ inside)
          (AMark S.Semicolon ∷ Monitors ∷ Procedures ∷ AWordAt K.Main ∷ body (AMark S.Dot ∷ [])) b.0,
      mark_reads m S.Semicolon inside (Monitors ∷ Procedures ∷ AWordAt K.Main ∷ body (AMark S.Dot ∷ [])) b.0,
      monitors_read m u.monitors calls (Procedures ∷ AWordAt K.Main ∷ body (AMark S.Dot ∷ [])) b.1
          (after_monitors u.procedures u.place (body_text u.body ending)),
      procedures_read m u.procedures main (AWordAt K.Main ∷ body (AMark S.Dot ∷ [])) b.2 refl,
      word_at_reads m K.Main u.place (body_text u.body ending) (body (AMark S.Dot ∷ [])) b.0,
      body_reads m u.body ending (AMark S.Dot ∷ []) b.3,
      mark_reads m S.Dot (Finish ∷ []) [] b.0,
    ) refl
