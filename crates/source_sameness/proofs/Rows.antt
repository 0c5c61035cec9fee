-- What a statement's lists of statements say.
use Rattle.std.proofs.Common.{◌≡◌, ℕ, List, Option, Some, None, sym, ap, ◌∙◌, Vec, Global}
use Rattle.program.specs.declared.statement.Statement.{Statement as StatementOf}
use Rattle.program.specs.declared.statement.Statement.{If as IfOf, Join as JoinOf, While as WhileOf}
use Rattle.program.specs.declared.expression.Expression.{Expression as ExpressionOf}
use Rattle.program.specs.declared.statement.Statement.TheBlock.{hidden-the_row-Statement-0}
use Rattle.program.specs.Trees.{Block, Done, If, Join, NoPart, SomePart, While}
use Rattle.program.specs.Views.{block_before, block_of, block_in, expression_of, statement_of}
use Rattle.program.proofs.Blocks.{inner_block}

-- two of them are the same where the statements are
pub same_inner : (ss ts : List StatementOf) (v w : Vec StatementOf Global) → ss ≡ v.items → ts ≡ w.items
    → ((later : Block) → block_before ss later ≡ block_before ts later)
    → block_of (hidden-the_row-Statement-0 v) ≡ block_of (hidden-the_row-Statement-0 w)
same_inner ss ts v w e f same = inner_block v ∙ sym (ap block_in e) ∙ same Done ∙ ap block_in f ∙ sym (inner_block w)

module _ (a b : StatementOf) (e f : ExpressionOf) (condition : expression_of e ≡ expression_of f) where
  module _ (v w : Vec StatementOf Global)
      (body : block_of (hidden-the_row-Statement-0 v) ≡ block_of (hidden-the_row-Statement-0 w)) where
    pub same_while : a ≡ WhileOf e v → b ≡ WhileOf f w → statement_of a ≡ statement_of b
    same_while is also =
        let both : statement_of (WhileOf e v) ≡ statement_of (WhileOf f w) = λ i. While (condition i) (body i) in
        ap statement_of is ∙ both ∙ sym (ap statement_of also)

    pub same_if : (p q : Option (Vec StatementOf Global)) → a ≡ IfOf e v p → b ≡ IfOf f w q → p ≡ None → q ≡ None
        → statement_of a ≡ statement_of b
    same_if p q is also none none' =
        let both : statement_of (IfOf e v None) ≡ statement_of (IfOf f w None) =
        λ i. If (condition i) (body i) NoPart in
        ap statement_of is ∙ ap (λ r. statement_of (IfOf e v r)) none ∙ both
        ∙ sym (ap (λ r. statement_of (IfOf f w r)) none') ∙ sym (ap statement_of also)

    pub same_if_else : (p q : Option (Vec StatementOf Global)) (v' w' : Vec StatementOf Global) → a ≡ IfOf e v p
        → b ≡ IfOf f w q → p ≡ Some v' → q ≡ Some w'
        → block_of (hidden-the_row-Statement-0 v') ≡ block_of (hidden-the_row-Statement-0 w')
        → statement_of a ≡ statement_of b
    same_if_else p q v' w' is also some some' other =
        let both : statement_of (IfOf e v (Some v')) ≡ statement_of (IfOf f w (Some w')) =
        λ i. If (condition i) (body i) (SomePart (other i)) in
        ap statement_of is ∙ ap (λ r. statement_of (IfOf e v r)) some ∙ both
        ∙ sym (ap (λ r. statement_of (IfOf f w r)) some') ∙ sym (ap statement_of also)

  pub same_join : (m n : Option ℕ) (p q : Option (Vec StatementOf Global)) (v w : Vec StatementOf Global) → m ≡ n
      → a ≡ JoinOf e m p → b ≡ JoinOf f n q → p ≡ Some v → q ≡ Some w
      → block_of (hidden-the_row-Statement-0 v) ≡ block_of (hidden-the_row-Statement-0 w)
      → statement_of a ≡ statement_of b
  same_join m n p q v w into is also some some' part =
      let both : statement_of (JoinOf e m (Some v)) ≡ statement_of (JoinOf f n (Some w)) =
      λ i. Join (condition i) (into i) (SomePart (part i)) in
      ap statement_of is ∙ ap (λ r. statement_of (JoinOf e m r)) some ∙ both
      ∙ sym (ap (λ r. statement_of (JoinOf f n r)) some') ∙ sym (ap statement_of also)
