-- What is expected behind the first token of a statement.
use Rattle.std.proofs.Common.{◌≡◌, ◌≤◌, ◌<◌, ℕ, List, [], ◌∷◌, refl, arith}
use Rattle.scanner.specs.declared.token.Keyword.TheVariants as K
use Rattle.scanner.specs.declared.token.Sign.TheVariants as S
use Rattle.scanner.specs.declared.token.Place.{Place}
use Rattle.syntax.specs.Lexeme.{NameTree, Word, WordAt, Named}
use Rattle.syntax.specs.Tree.{Assign, If, While, Call, Fork, Join, Return, Print, Then, Part}
use Rattle.grammar.specs.Machine.{AWord, AMark, AName, AnIndex, AnInto, AValue, AnElse, AnAborted, Statements, Closed}
use Rattle.grammar.specs.Machine.{Item, expression, callee, expression_in, behind_expression, callee_in}
use Rattle.grammar.specs.Machine.{behind_callee}
use Rattle.grammar.specs.Reading.{lexeme_at, rest_after, Leads}
use Rattle.grammar.proofs.Joins.{push}

pub assigns : {d : ℕ} {a b : List Item} {name : NameTree} → lexeme_at a ≡ Named name → b ≡ rest_after a → d ≤ 64
    → Leads d (Statements ∷ []) (AnIndex ∷ AMark S.Assign ∷ expression (AMark S.Semicolon ∷ Statements ∷ []))
    (λ t. (
      Then (Assign (record { name = name; index = t.0 }) (expression_in t.1.1)) (behind_expression t.1.1).1.0,
      tt,
    )) a b
assigns e r le = rw r (push (rw e refl) (omega arith))

pub ifs : {d : ℕ} {a b : List Item} {place : Place} → lexeme_at a ≡ WordAt K.If place → b ≡ rest_after a → d < 64
    → Leads d (Statements ∷ []) (expression (AWord K.Then ∷ Statements ∷ AnElse ∷ AWord K.Endif ∷ Closed ∷ AMark
    S.Semicolon ∷ Statements ∷ []))
    (λ t. (
      Then (If place (expression_in t) (behind_expression t).1.0 (behind_expression t).1.1.0)
          (behind_expression t).1.1.1.1.1.1.0,
      tt,
    )) a b
ifs e r le = rw r (push (rw e refl) (omega arith))

pub whiles : {d : ℕ} {a b : List Item} {place : Place} → lexeme_at a ≡ WordAt K.While place → b ≡ rest_after a
    → d < 64 → Leads d (Statements ∷ []) (expression
    (AWord K.Do ∷ Statements ∷ AWord K.Endloop ∷ Closed ∷ AMark S.Semicolon ∷ Statements ∷ []))
    (λ t. (Then (While place (expression_in t) (behind_expression t).1.0) (behind_expression t).1.1.1.1.1.0, tt)) a b
whiles e r le = rw r (push (rw e refl) (omega arith))

pub calls : {d : ℕ} {a b : List Item} {place : Place} → lexeme_at a ≡ WordAt K.Call place → b ≡ rest_after a → d ≤ 64
    → Leads d (Statements ∷ []) (callee (AnInto ∷ AMark S.Semicolon ∷ Statements ∷ []))
    (λ t. (Then (Call place (callee_in t) (behind_callee t).0) (behind_callee t).1.1.0, tt)) a b
calls e r le = rw r (push (rw e refl) (omega arith))

pub forks : {d : ℕ} {a b : List Item} {place : Place} → lexeme_at a ≡ WordAt K.Fork place → b ≡ rest_after a → d ≤ 64
    → Leads d (Statements ∷ []) (callee (AWord K.Into ∷ AName ∷ AMark S.Semicolon ∷ Statements ∷ []))
    (λ t. (Then (Fork place (callee_in t) (behind_callee t).1.0) (behind_callee t).1.1.1.0, tt)) a b
forks e r le = rw r (push (rw e refl) (omega arith))

pub joins : {d : ℕ} {a b : List Item} {place : Place} → lexeme_at a ≡ WordAt K.Join place → b ≡ rest_after a → d ≤ 64
    → Leads d (Statements ∷ []) (expression (AnInto ∷ AnAborted ∷ AMark S.Semicolon ∷ Statements ∷ []))
    (λ t. (
      Then (Join place (expression_in t) (behind_expression t).0 (behind_expression t).1.0)
          (behind_expression t).1.1.1.0,
      tt,
    )) a b
joins e r le = rw r (push (rw e refl) (omega arith))

pub returns : {d : ℕ} {a b : List Item} {place : Place} → lexeme_at a ≡ WordAt K.Return place → b ≡ rest_after a
    → d ≤ 64 → Leads d (Statements ∷ []) (AValue ∷ AMark S.Semicolon ∷ Statements ∷ [])
    (λ t. (Then (Return place t.0) t.1.1.0, tt)) a b
returns e r le = rw r (push (rw e refl) (omega arith))

pub prints : {d : ℕ} {a b : List Item} {place : Place} → lexeme_at a ≡ WordAt K.Print place → b ≡ rest_after a
    → d ≤ 64 → Leads d (Statements ∷ []) (expression (AMark S.Semicolon ∷ Statements ∷ []))
    (λ t. (Then (Print place (expression_in t)) (behind_expression t).1.0, tt)) a b
prints e r le = rw r (push (rw e refl) (omega arith))

pub aborts : {d : ℕ} {a b : List Item} → lexeme_at a ≡ Word K.Aborted → b ≡ rest_after a → d < 64
    → Leads d (AnAborted ∷ []) (Statements ∷ AWord K.End ∷ Closed ∷ []) (λ t. (Part t.0, tt)) a b
aborts e r le = rw r (push (rw e refl) (omega arith))
