-- Factors, indexes and comparisons.
use Rattle.std.proofs.Common.{◌≡◌, ◌≤◌, ℕ, ◌+◌, List, [], ◌∷◌, ap, arith}
use Rattle.scanner.specs.declared.token.Place.{Place}
use Rattle.scanner.specs.declared.token.Sign.{Sign}
use Rattle.scanner.specs.declared.token.Sign.TheVariants as S
use Rattle.scanner.specs.declared.token.Keyword.TheVariants as K
use Rattle.scanner.specs.declared.refusal.Refusal.{Refusal}
use Rattle.syntax.specs.Lexeme.{NameTree, Mark, MarkAt, Named, WordAt}
use Rattle.syntax.specs.Tree.{ExpressionTree, FactorTree, Group, Minus, Not, At}
use Rattle.grammar.specs.Machine.{AFactor, AnIndex, AMark, Item, expression, reply_factor, reply_index}
use Rattle.grammar.specs.Reading.{lexeme_at, rest_after, Passes, Fails}
use Rattle.grammar.proofs.Joins.{here, done, close, leads_as, then1, then6, then7, fail1, fail7}
use Rattle.token_cursor.specs.Taking.{Takes, Rejects}
use Rattle.expression_parser.specs.Levels.{expression_trees, enclosed_trees}
use Rattle.token_cursor.proofs.Small.{pushes, takes, rejects}
use Rattle.expression_parser.proofs.LevelLaws.{enclosed_back}

-- an expression and the sign behind it
pub enclosed_passes : {d : ℕ} {s : Sign} {a n b : List Item} (e : ExpressionTree) → d ≤ 64
    → Passes d (expression []) (expression_trees e) a n → Takes (AMark s) tt n b
    → Passes d (expression (AMark s ∷ [])) (enclosed_trees s e) a b
enclosed_passes {d} {s} e le p t = done (then1 {d = d} {d' = d} (takes t le)
    (then6 {d = d} {d' = d} p (here {σ = expression (AMark s ∷ [])}) (omega arith)) (omega arith))

pub enclosed_fails : {d : ℕ} {s : Sign} {a n : List Item} {x : Refusal} (e : ExpressionTree)
    → Passes d (expression []) (expression_trees e) a n → Rejects (AMark s) n x
    → Fails d (expression (AMark s ∷ [])) a x
enclosed_fails {d} {s} e p r = fail1 {d = d} {d' = d} (rejects r)
    (then6 {d = d} {d' = d} p (here {σ = expression (AMark s ∷ [])}) (omega arith)) (omega arith)

-- a factor in parentheses, and one behind `-` or NOT
pub paren_passes : {d i : ℕ} {a p b : List Item} (place : Place) (e : ExpressionTree) → i ≡ d + 1 → i ≤ 64
    → lexeme_at a ≡ MarkAt S.OpenParen place → p ≡ rest_after a → Passes i (expression (AMark S.CloseParen ∷ []))
    (enclosed_trees S.CloseParen e) p b → Passes d (AFactor ∷ []) (Group place e, tt) a b
paren_passes {d} {i} place e eq le h q x =
    done (leads_as (λ y. ap (λ z. (Group place z, tt)) (enclosed_back S.CloseParen e))
    (close (then7 {d = d} {d' = i} x (pushes {s = AFactor} (ap reply_factor h) q (omega arith)) (omega arith))))

pub minus_passes : {d i : ℕ} {a p b : List Item} (place : Place) (f : FactorTree) → i ≡ d + 1 → i ≤ 64
    → lexeme_at a ≡ MarkAt S.Minus place → p ≡ rest_after a → Passes i (AFactor ∷ []) (f, tt) p b
    → Passes d (AFactor ∷ []) (Minus place f, tt) a b
minus_passes {d} {i} place f eq le h q x =
    done (close (then1 {d = d} {d' = i} x (pushes {s = AFactor} (ap reply_factor h) q (omega arith)) (omega arith)))

pub not_passes : {d i : ℕ} {a p b : List Item} (place : Place) (f : FactorTree) → i ≡ d + 1 → i ≤ 64
    → lexeme_at a ≡ WordAt K.Not place → p ≡ rest_after a → Passes i (AFactor ∷ []) (f, tt) p b
    → Passes d (AFactor ∷ []) (Not place f, tt) a b
not_passes {d} {i} place f eq le h q x =
    done (close (then1 {d = d} {d' = i} x (pushes {s = AFactor} (ap reply_factor h) q (omega arith)) (omega arith)))

-- an index in brackets
pub index_passes : {d i : ℕ} {a p b : List Item} (e : ExpressionTree) → i ≡ d + 1 → i ≤ 64
    → lexeme_at a ≡ Mark S.OpenBracket → p ≡ rest_after a → Passes i (expression (AMark S.CloseBracket ∷ []))
    (enclosed_trees S.CloseBracket e) p b → Passes d (AnIndex ∷ []) (At e, tt) a b
index_passes {d} {i} e eq le h q x =
    done (leads_as (λ y. ap (λ z. (At z, tt)) (enclosed_back S.CloseBracket e))
    (close (then7 {d = d} {d' = i} x (pushes {s = AnIndex} (ap reply_index h) q (omega arith)) (omega arith))))

-- refusals behind the first sign of a factor, and of an index
pub paren_fails : {d i : ℕ} {a p : List Item} {e : Refusal} (place : Place) → i ≡ d + 1 → i ≤ 64
    → lexeme_at a ≡ MarkAt S.OpenParen place → p ≡ rest_after a
    → Fails i (expression (AMark S.CloseParen ∷ [])) p e → Fails d (AFactor ∷ []) a e
paren_fails {d} {i} place eq le h q f =
    fail7 {d = d} {d' = i} f (pushes {s = AFactor} (ap reply_factor h) q (omega arith)) (omega arith)

pub minus_fails : {d i : ℕ} {a p : List Item} {e : Refusal} (place : Place) → i ≡ d + 1 → i ≤ 64
    → lexeme_at a ≡ MarkAt S.Minus place → p ≡ rest_after a → Fails i (AFactor ∷ []) p e → Fails d (AFactor ∷ []) a e
minus_fails {d} {i} place eq le h q f =
    fail1 {d = d} {d' = i} f (pushes {s = AFactor} (ap reply_factor h) q (omega arith)) (omega arith)

pub not_fails : {d i : ℕ} {a p : List Item} {e : Refusal} (place : Place) → i ≡ d + 1 → i ≤ 64
    → lexeme_at a ≡ WordAt K.Not place → p ≡ rest_after a → Fails i (AFactor ∷ []) p e → Fails d (AFactor ∷ []) a e
not_fails {d} {i} place eq le h q f =
    fail1 {d = d} {d' = i} f (pushes {s = AFactor} (ap reply_factor h) q (omega arith)) (omega arith)

pub name_fails : {d : ℕ} {a p : List Item} {e : Refusal} (name : NameTree) → d ≤ 64 → lexeme_at a ≡ Named name
    → p ≡ rest_after a → Fails d (AnIndex ∷ []) p e → Fails d (AFactor ∷ []) a e
name_fails {d} name le h q f =
    fail1 {d = d} {d' = d} f (pushes {s = AFactor} (ap reply_factor h) q (omega arith)) (omega arith)

pub index_fails : {d i : ℕ} {a p : List Item} {e : Refusal} → i ≡ d + 1 → i ≤ 64
    → lexeme_at a ≡ Mark S.OpenBracket → p ≡ rest_after a → Fails i (expression (AMark S.CloseBracket ∷ [])) p e
    → Fails d (AnIndex ∷ []) a e
index_fails {d} {i} eq le h q f =
    fail7 {d = d} {d' = i} f (pushes {s = AnIndex} (ap reply_index h) q (omega arith)) (omega arith)
