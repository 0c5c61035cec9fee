-- What procedures, monitors and a whole unit are read as.
use Rattle.std.proofs.Common.{◌≡◌, ◌≤◌, ◌⊎◌, inl, inr, ℕ, List, [], ◌∷◌, Some, None, refl, ap, sym, arith}
use Rattle.scanner.specs.declared.token.Kind.{Kind}
use Rattle.scanner.specs.declared.token.Kind.TheVariants.{Keyword as AKeyword, Sign as ASign}
use Rattle.scanner.specs.declared.token.Keyword.TheVariants as K
use Rattle.scanner.specs.declared.token.Sign.{Sign}
use Rattle.scanner.specs.declared.token.Sign.TheVariants as S
use Rattle.scanner.specs.declared.token.Place.{Place}
use Rattle.scanner.specs.declared.token.Token.{Token}
use Rattle.scanner.specs.declared.refusal.Refusal.{Refusal}
use Rattle.scanner.specs.declared.refusal.RefusalKind.TheVariants.{Memory}
use Rattle.scanner.specs.Tokens.{EndsOnce, views}
use Rattle.syntax.specs.declared.declaration.Access.{Access}
use Rattle.syntax.specs.Lexeme.{WordAt, lexeme, lexemes, sign_lexeme}
use Rattle.syntax.specs.Tree.{ProcedureTree, UnitTree}
use Rattle.syntax.specs.Spelling.{unit_text}
use Rattle.syntax.specs.Nesting.{unit_nesting}
use Rattle.grammar.specs.Accepts.{IsRefusalOf}
use Rattle.grammar.specs.Machine.{Trees, Item, AWord, AMark, AWordAt, AName, Members, Procedures, MonitorProcedures}
use Rattle.grammar.specs.Machine.{ARecover, Monitors, Locals, Statements, Skip, Read, Refused, procedure}
use Rattle.grammar.specs.Machine.{procedure_in, behind_procedure, of_access, reply_monitor_procedures, items_of}
use Rattle.grammar.specs.Machine.{reads, unit, unit_trees, unit_in}
use Rattle.grammar.specs.Reading.{lexeme_at, rest_after, Passes, Fails, Leads}
use Rattle.grammar.proofs.Joins.{push, then10, fail10, leads_as}
use Rattle.grammar.proofs.Law.{accepts, refused}
use Rattle.parser.specs.Kinds.{access_at}
use Rattle.parser.specs.Steps.{procedure_trees}

procedure_begins : {a b : List Item} {place : Place} → lexeme_at a ≡ WordAt K.Procedure place → b ≡ rest_after a
    → Leads 0 (Procedures ∷ []) (procedure (Procedures ∷ []))
    (λ t. (procedure_in place t ∷ (behind_procedure t).0, tt)) a b
procedure_begins e r = rw r (push (rw e refl) (omega arith))

pub procedure_reads : {a b c : List Item} (p : ProcedureTree) → lexeme_at a ≡ WordAt K.Procedure p.place
    → b ≡ rest_after a → Passes 0 (procedure []) (procedure_trees p) b c
    → Leads 0 (Procedures ∷ []) (Procedures ∷ []) (λ y. (p ∷ y.0, tt)) a c
procedure_reads p e r q = then10 q (procedure_begins e r) refl

pub procedure_fails : {a b : List Item} {place : Place} {x : Refusal} → lexeme_at a ≡ WordAt K.Procedure place
    → b ≡ rest_after a → Fails 0 (procedure []) b x → Fails 0 (Procedures ∷ []) a x
procedure_fails e r q = fail10 q (procedure_begins e r) refl

pub access_reply : (k : Kind) (text : List ℕ) (place : Place) (x : Access) → access_at k ≡ Some x
    → reply_monitor_procedures (lexeme k text place) ≡ of_access x
access_reply (AKeyword K.Entry) text place x e = ap of_access (cc)
access_reply (AKeyword K.Internal) text place x e = ap of_access (cc)
access_reply _ text place x e = absurd (cc)

no_access_at : (s : Sign) (place : Place) → reply_monitor_procedures (sign_lexeme s place) ≡ Skip []
no_access_at S.OpenParen place = refl
no_access_at S.Plus place = refl
no_access_at S.Minus place = refl
no_access_at _ place = refl

pub no_access : (k : Kind) (text : List ℕ) (place : Place) → access_at k ≡ None
    → reply_monitor_procedures (lexeme k text place) ≡ Skip []
no_access (AKeyword K.Entry) text place e = absurd (cc)
no_access (AKeyword K.Internal) text place e = absurd (cc)
no_access (ASign s) text place e = no_access_at s place
no_access _ text place e = refl

pub access_begins : {a b : List Item} {x : Access} → reply_monitor_procedures (lexeme_at a) ≡ of_access x
    → b ≡ rest_after a → Leads 0 (MonitorProcedures ∷ []) (AWordAt K.Procedure ∷ procedure (MonitorProcedures ∷ []))
    (λ t. (record { access = x; procedure = procedure_in t.0 t.1 } ∷ (behind_procedure t.1).0, tt)) a b
access_begins e r = rw r (push e (omega arith))

pub access_reads : {a b c : List Item} {place : Place} (x : Access) (p : ProcedureTree) → p.place ≡ place
    → Leads 0 (MonitorProcedures ∷ []) (procedure (MonitorProcedures ∷ []))
    (λ t. (record { access = x; procedure = procedure_in place t } ∷ (behind_procedure t).0, tt)) a b
    → Passes 0 (procedure []) (procedure_trees p) b c → Leads 0 (MonitorProcedures ∷ []) (MonitorProcedures ∷ [])
    (λ y. (record { access = x; procedure = p } ∷ y.0, tt)) a c
access_reads x p e l q =
    leads_as (λ y. ap (λ z. (record { access = x; procedure = record p { place = z } } ∷ y.0, tt)) (sym e))
    (then10 q l refl)

pub recover_begins : {a b : List Item} {place : Place} → lexeme_at a ≡ WordAt K.Recover place → b ≡ rest_after a
    → Leads 0 (ARecover ∷ []) (Locals ∷ Statements ∷ AWord K.End ∷ AMark S.Semicolon ∷ [])
    (λ t. (Some (record { place = place; body = record { locals = t.0; statements = t.1.0 } }), tt)) a b
recover_begins e r = rw r (push (rw e refl) (omega arith))

pub monitor_begins : {a b : List Item} {place : Place} → lexeme_at a ≡ WordAt K.Monitor place → b ≡ rest_after a
    → Leads 0 (Monitors ∷ []) (AName ∷ AMark S.Semicolon ∷ Members ∷ MonitorProcedures ∷ ARecover ∷ AWord
    K.End ∷ AMark S.Semicolon ∷ Monitors ∷ [])
    (λ t. (
      record { place = place; name = t.0; members = t.1.1.0; procedures = t.1.1.1.0; recover = t.1.1.1.1.0 } ∷
          t.1.1.1.1.1.1.1.0,
      tt,
    )) a b
monitor_begins e r = rw r (push (rw e refl) (omega arith))

-- a whole unit
pub unit_reads : {a b : List Item} {g : Trees (AMark S.Dot ∷ []) → Trees unit} → Leads 0 unit (AMark S.Dot ∷ []) g a b
    → reads 64 b (AMark S.Dot ∷ []) ≡ Read (tt, tt) → reads 64 a unit ≡ Read (g (tt, tt))
unit_reads l h = rw (l.leads [] refl, h) refl

pub unit_refused : {a b : List Item} {g : Trees (AMark S.Dot ∷ []) → Trees unit} {e : Refusal}
    → Leads 0 unit (AMark S.Dot ∷ []) g a b → reads 64 b (AMark S.Dot ∷ []) ≡ Refused e → reads 64 a unit ≡ Refused e
unit_refused l h = rw (l.leads [] refl, h) refl

pub unit_fails : {a : List Item} {e : Refusal} → Fails 0 unit a e → (e.kind ≡ Memory) ⊎ (reads 64 a unit ≡ Refused e)
unit_fails f = elim f.fails [ inl m ↦ inl m | inr r ↦ inr (r.refuses [] refl) ]

-- what a unit that was read says of the tokens
pub only_read : (ts : List Token) (t u : UnitTree) → unit_text t ≡ lexemes ts → unit_nesting t ≤ 64
    → reads 64 (items_of ts) unit ≡ Read (unit_trees u) → u ≡ t
only_read ts t u e le r =
    let s : reads 64 (items_of ts) unit ≡ Read (unit_trees t) = accepts ts t le e in
    let same : unit_trees u ≡ unit_trees t = cc in
    ap unit_in same

pub never_refused : (ts : List Token) (t : UnitTree) (x : Refusal) → unit_text t ≡ lexemes ts → unit_nesting t ≤ 64
    → reads 64 (items_of ts) unit ≡ Refused x → ⊥
never_refused ts t x e le r =
    let s : reads 64 (items_of ts) unit ≡ Read (unit_trees t) = accepts ts t le e in cc

pub refusal_read : (ts : List Token) (x : Refusal) → EndsOnce (views ts)
    → reads 64 (items_of ts) unit ≡ Refused x → IsRefusalOf ts x
refusal_read ts x h r = refused ts x h r
