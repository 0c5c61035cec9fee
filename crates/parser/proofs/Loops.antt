-- What a loop has read, one element after another.
use Rattle.std.proofs.Common.{◌≡◌, ℕ, List, [], ◌∷◌, ◌++◌, map, refl, ap, sym, ◌∙◌, arith}
use Rattle.grammar.specs.Machine.{Symbol, Tree, Trees, Item}
use Rattle.grammar.specs.Reading.{Passes, Leads}
use Rattle.grammar.proofs.Joins.{onto, then1, done, leads_as}
use Rattle.syntax.specs.declared.statement.Statement.{Statement}
use Rattle.syntax.specs.Tree.{StatementTrees}
use Rattle.syntax.specs.View.{statements_before}
use Rattle.parser.specs.Chains.{chain}
use Rattle.parser.specs.Steps.{add_statement}

pub chain_more : {X A : Type 0} (add : X → A → A) (xs : List X) (x : X) (later : A)
    → chain add (xs ++ x ∷ []) later ≡ chain add xs (add x later)
chain_more add [] x later = refl
chain_more add (y ∷ xs) x later = ap (add y) (chain_more add xs x later)

pub chain_map : {X T : Type 0} (view : X → T) (xs : List X) → chain (λ x later. view x ∷ later) xs [] ≡ map view xs
chain_map view [] = refl
chain_map view (x ∷ xs) = ap (λ l. view x ∷ l) (chain_map view xs)

pub chain_statements : (xs : List Statement) (later : StatementTrees)
    → chain add_statement xs later ≡ statements_before xs later
chain_statements [] later = refl
chain_statements (x ∷ xs) later = ap (add_statement x) (chain_statements xs later)

-- one more element
pub goes_on : {X : Type 0} {d : ℕ} {σ : List Symbol} {s : Symbol} (make : Tree s → Trees σ)
    (add : X → Tree s → Tree s) (xs ys : List X) (x : X) (a b c : List Item) → ys ≡ xs ++ x ∷ []
    → Leads d σ (s ∷ []) (λ y. make (chain add xs y.0)) a b → Leads d (s ∷ []) (s ∷ []) (λ y. (add x y.0, tt)) b c
    → Leads d σ (s ∷ []) (λ y. make (chain add ys y.0)) a c
goes_on {d = d} {σ = σ} {s = s} make add xs ys x a b c e l m =
    leads_as (λ y. ap make (sym (chain_more add xs x y.0) ∙ ap (λ zs. chain add zs y.0) (sym e))) (onto m l)

-- no more elements
pub ends : {X : Type 0} {d : ℕ} {σ : List Symbol} {s : Symbol} (make : Tree s → Trees σ) (add : X → Tree s → Tree s)
    (xs : List X) (empty : Tree s) (a b c : List Item) → Leads d σ (s ∷ []) (λ y. make (chain add xs y.0)) a b
    → Passes d (s ∷ []) (empty, tt) b c → Passes d σ (make (chain add xs empty)) a c
ends make add xs empty a b c l p = done (then1 p l (omega arith))
