-- How what the steps of a parser ensure joins.
use Rattle.std.proofs.Common.{◌≡◌, ◌≤◌, ◌<◌, ℕ, ◌+◌, List, [], ◌∷◌, refl, arith}
use Rattle.scanner.specs.declared.refusal.Refusal.{Refusal}
use Rattle.scanner.specs.declared.token.Keyword.{Keyword}
use Rattle.scanner.specs.declared.token.Sign.{Sign}
use Rattle.scanner.specs.declared.token.Sign.TheVariants as S
use Rattle.syntax.specs.Tree.{ExpressionTree, AnyOf, AllOf, Relates, Total, Product, CalleeTree}
use Rattle.grammar.specs.Machine.{Symbol, Tree, Trees, AWord, AMark, Closed, Item, expression, callee, expression_in}
use Rattle.grammar.specs.Machine.{behind_expression, callee_in, behind_callee, nestings}
use Rattle.grammar.specs.Reading.{Passes, Fails, Leads}
use Rattle.grammar.proofs.Joins.{here, close, done, then1, fail1, then5, fail5, then6, fail6, then7}
use Rattle.grammar.proofs.Joins.{fail7}
use Rattle.token_cursor.specs.Taking.{Takes, Rejects}
use Rattle.token_cursor.proofs.Small.{takes, rejects}
use Rattle.expression_parser.specs.Levels.{expression_trees, enclosed_trees, callee_trees}
use Rattle.parser.specs.Steps.{condition_trees}

pub then_takes : {d : ℕ} {σ ρ : List Symbol} {s : Symbol} {g : Trees (s ∷ ρ) → Trees σ} {x : Tree s}
    {a b c : List Item} → Takes s x b c → Leads d σ (s ∷ ρ) g a b → nestings ρ + d ≤ 64
    → Leads d σ ρ (λ y. g (x, y)) a c
then_takes t l le = then1 (takes t le) l refl

pub fail_rejects : {d : ℕ} {σ ρ : List Symbol} {s : Symbol} {g : Trees (s ∷ ρ) → Trees σ} {a b : List Item}
    {e : Refusal} → Rejects s b e → Leads d σ (s ∷ ρ) g a b → Fails d σ a e
fail_rejects {d = d} {ρ = ρ} r l = fail1 (rejects {d = nestings ρ + d} r) l refl

pub then_expression : {d d' : ℕ} {σ ρ : List Symbol} {a b c : List Item} (k : ExpressionTree → Trees ρ → Trees σ)
    (e : ExpressionTree) → Passes d' (expression []) (expression_trees e) b c
    → Leads d σ (expression ρ) (λ t. k (expression_in t) (behind_expression t)) a b → d' ≡ nestings ρ + d
    → Leads d σ ρ (k e) a c
then_expression k (AnyOf (AllOf (Relates (Total (Product f fs) ts) c) rs) cs) p l q = then6 p l q

pub fail_expression : {d d' : ℕ} {σ ρ : List Symbol} {g : Trees (expression ρ) → Trees σ} {a b : List Item}
    {e : Refusal} → Fails d' (expression []) b e → Leads d σ (expression ρ) g a b → d' ≡ nestings ρ + d
    → Fails d σ a e
fail_expression p l q = fail6 p l q

pub then_callee : {d d' : ℕ} {σ ρ : List Symbol} {a b c : List Item} (k : CalleeTree → Trees ρ → Trees σ)
    (x : CalleeTree) → Passes d' (callee []) (callee_trees x) b c → Leads d σ (callee ρ)
    (λ t. k (callee_in t) (behind_callee t)) a b → d' ≡ nestings ρ + d → Leads d σ ρ (k x) a c
then_callee k x p l q = then5 p l q

pub fail_callee : {d d' : ℕ} {σ ρ : List Symbol} {g : Trees (callee ρ) → Trees σ} {a b : List Item} {e : Refusal}
    → Fails d' (callee []) b e → Leads d σ (callee ρ) g a b → d' ≡ nestings ρ + d → Fails d σ a e
fail_callee p l q = fail5 p l q

-- an expression and a keyword or a sign behind it
pub condition_passes : {d : ℕ} {w : Keyword} {a n b : List Item} (e : ExpressionTree) → d ≤ 64
    → Passes d (expression []) (expression_trees e) a n → Takes (AWord w) tt n b
    → Passes d (expression (AWord w ∷ [])) (condition_trees w e) a b
condition_passes {d} {w} e le p t =
    done (then1 {d = d} {d' = d} (takes t le)
    (then6 {d = d} {d' = d} p (here {σ = expression (AWord w ∷ [])}) (omega arith)) (omega arith))

pub condition_fails : {d : ℕ} {w : Keyword} {a n : List Item} {x : Refusal} (e : ExpressionTree)
    → Passes d (expression []) (expression_trees e) a n → Rejects (AWord w) n x
    → Fails d (expression (AWord w ∷ [])) a x
condition_fails {d} {w} e p r =
    fail1 {d = d} {d' = d} (rejects r)
    (then6 {d = d} {d' = d} p (here {σ = expression (AWord w ∷ [])}) (omega arith)) (omega arith)

pub then_condition : {d d' : ℕ} {σ ρ : List Symbol} {w : Keyword} {a b c : List Item}
    (k : ExpressionTree → Trees ρ → Trees σ) (e : ExpressionTree)
    → Passes d' (expression (AWord w ∷ [])) (condition_trees w e) b c
    → Leads d σ (expression (AWord w ∷ ρ)) (λ t. k (expression_in t) (behind_expression t).1) a b → d' ≡ nestings ρ + d
    → Leads d σ ρ (k e) a c
then_condition k (AnyOf (AllOf (Relates (Total (Product f fs) ts) c) rs) cs) p l q = then7 p l q

pub fail_condition : {d d' : ℕ} {σ ρ : List Symbol} {w : Keyword} {g : Trees (expression (AWord w ∷ ρ)) → Trees σ}
    {a b : List Item} {e : Refusal} → Fails d' (expression (AWord w ∷ [])) b e
    → Leads d σ (expression (AWord w ∷ ρ)) g a b → d' ≡ nestings ρ + d → Fails d σ a e
fail_condition p l q = fail7 p l q

pub then_enclosed : {d d' : ℕ} {σ ρ : List Symbol} {s : Sign} {a b c : List Item}
    (k : ExpressionTree → Trees ρ → Trees σ) (e : ExpressionTree)
    → Passes d' (expression (AMark s ∷ [])) (enclosed_trees s e) b c
    → Leads d σ (expression (AMark s ∷ ρ)) (λ t. k (expression_in t) (behind_expression t).1) a b → d' ≡ nestings ρ + d
    → Leads d σ ρ (k e) a c
then_enclosed k (AnyOf (AllOf (Relates (Total (Product f fs) ts) c) rs) cs) p l q = then7 p l q

pub fail_enclosed : {d d' : ℕ} {σ ρ : List Symbol} {s : Sign} {g : Trees (expression (AMark s ∷ ρ)) → Trees σ}
    {a b : List Item} {e : Refusal} → Fails d' (expression (AMark s ∷ [])) b e
    → Leads d σ (expression (AMark s ∷ ρ)) g a b → d' ≡ nestings ρ + d → Fails d σ a e
fail_enclosed p l q = fail7 p l q

-- the keyword that ends a nesting, and the semicolon behind it
pub ending_passes : {d : ℕ} {w : Keyword} {a n b : List Item} → d < 64 → Takes (AWord w) tt a n
    → Takes (AMark S.Semicolon) tt n b
    → Passes d (AWord w ∷ Closed ∷ AMark S.Semicolon ∷ []) (tt, (tt, (tt, tt))) a b
ending_passes {d} {w} le t u =
    done (then_takes u
    (close (then_takes t (here {σ = AWord w ∷ Closed ∷ AMark S.Semicolon ∷ []}) (omega arith))) (omega arith))

pub ending_fails : {d : ℕ} {w : Keyword} {a n : List Item} {x : Refusal} → d < 64 → Takes (AWord w) tt a n
    → Rejects (AMark S.Semicolon) n x → Fails d (AWord w ∷ Closed ∷ AMark S.Semicolon ∷ []) a x
ending_fails {d} {w} le t r =
    fail_rejects r (close (then_takes t (here {σ = AWord w ∷ Closed ∷ AMark S.Semicolon ∷ []}) (omega arith)))
