-- Statements in code, as blocks of the tree.
use Rattle.std.proofs.Common.{◌≡◌, ◌<◌, ◌+◌, ℕ, suc, List, [], ◌∷◌, ◌++◌, Option, Some, None, Vec, Global, Bool}
use Rattle.std.proofs.Common.{length, drop, get_or, drop-cons, refl, ap, ◌∙◌, sym, arith}
use Rattle.syntax.specs.declared.statement.Statement.{Statement as Tree}
use Rattle.syntax.specs.View as v
use Rattle.types.specs.CallFaults.{block_faults, part_faults}
use Rattle.types.specs.Scope.{Scope}
use Rattle.types.specs.Statements as st
use Rattle.program.specs.declared.statement.Statement.{Statement}
use Rattle.program.specs.declared.statement.Statement.TheBlock.{hidden-the_row-Statement-0}
use Rattle.program.specs.declared.expression.Expression.{Expression}
use Rattle.program.specs.declared.statement.Statement.TheViews.{If as IfOf, While as WhileOf, Join as JoinOf}
use Rattle.program.specs.Trees.{Block, Then, If, While, Join, NoPart, SomePart}
use Rattle.program.proofs.Blocks.{inner_block}
use Rattle.program.specs.Views.{expression_of, statement_of, block_of, block_before, block_in, part_in}
use Rattle.resolver.specs.Clean.{is_clean}
use Rattle.resolver.specs.Sites.{part_made, is_part_clean}

pub while_made : (e : Expression) (v : Vec Statement Global)
    → statement_of (WhileOf e v) ≡ While (expression_of e) (block_in v.items)
while_made e v = ap (While (expression_of e)) (inner_block v)

pub if_made : (e : Expression) (v : Vec Statement Global) (o : Option (Vec Statement Global))
    → statement_of (IfOf e v o) ≡ If (expression_of e) (block_in v.items) (part_in o)
if_made e v None = ap (λ x. If (expression_of e) x NoPart) (inner_block v)
if_made e v (Some w) =
    ap (λ x. If (expression_of e) x (SomePart (block_of (hidden-the_row-Statement-0 w)))) (inner_block v)
    ∙ ap (λ x. If (expression_of e) (block_in v.items) (SomePart x)) (inner_block w)

pub join_made : (e : Expression) (into : Option ℕ) (o : Option (Vec Statement Global))
    → statement_of (JoinOf e into o) ≡ Join (expression_of e) into (part_in o)
join_made e into None = refl
join_made e into (Some w) = ap (λ x. Join (expression_of e) into (SomePart x)) (inner_block w)

-- the statements of a part, where there is one, and whether they are clean
abbrev pub IsPart : Scope → Option (Vec Tree Global) → Option (Vec Statement Global × Bool) → Type 0
IsPart s trees made = (part_made made ≡ st.part s (v.part_in trees))
    × (is_part_clean made ≡ is_clean (part_faults s (v.part_in trees)))

pub some_part : (s : Scope) (made : Option (Vec Statement Global × Bool)) (trees : Option (Vec Tree Global))
    (b : Vec Statement Global × Bool) (w : Vec Tree Global) (ts : List Tree) → made ≡ Some b → trees ≡ Some w
    → ts ≡ w.items → block_in b.0.items ≡ st.block s (v.statements_in ts)
    → b.1 ≡ is_clean (block_faults s (v.statements_in ts)) → IsPart s trees made
some_part s made trees b w ts is there same e f = (
  ap part_made is ∙ ap SomePart (e ∙ ap (λ l. st.block s (v.statements_in l)) same)
      ∙ ap (λ o. st.part s (v.part_in o)) (sym there),
  ap is_part_clean is ∙ f ∙ ap (λ l. is_clean (block_faults s (v.statements_in l))) same
      ∙ ap (λ o. is_clean (part_faults s (v.part_in o))) (sym there),
)

pub no_part : (s : Scope) (made : Option (Vec Statement Global × Bool)) (trees : Option (Vec Tree Global))
    → made ≡ None → trees ≡ None → IsPart s trees made
no_part s made trees is there = (
  ap part_made is ∙ ap (λ o. st.part s (v.part_in o)) (sym there),
  ap is_part_clean is ∙ ap (λ o. is_clean (part_faults s (v.part_in o))) (sym there),
)

-- one more statement in front of others
block_more : (ss : List Statement) (m : Statement) (later : Block)
    → block_before (ss ++ m ∷ []) later ≡ block_before ss (Then (statement_of m) later)
block_more [] m later = refl
block_more (n ∷ ss) m later = ap (Then (statement_of n)) (block_more ss m later)

-- one more tree is resolved
pub block_next : (s : Scope) (ss new : List Statement) (m : Statement) (ts : List Tree) (i : ℕ) (t : Tree)
    → i < length ts → t ≡ get_or ts i t → new ≡ ss ++ m ∷ [] → statement_of m ≡ st.statement s (v.statement_of t)
    → block_before new (st.block s (v.statements_in (drop (i + 1) ts)))
    ≡ block_before ss (st.block s (v.statements_in (drop i ts)))
block_next s ss new m ts i t lt is pushed same =
    let cut : drop i ts ≡ t ∷ drop (suc i) ts = drop-cons ts i t lt ∙ ap (λ y. y ∷ drop (suc i) ts) (sym is) in
    let next : i + 1 ≡ suc i = omega arith in
    let rest : Block = st.block s (v.statements_in (drop (suc i) ts)) in
    ap (λ j. block_before new (st.block s (v.statements_in (drop j ts)))) next
    ∙ ap (λ l. block_before l rest) pushed ∙ block_more ss m rest
    ∙ ap (λ z. block_before ss (Then z rest)) same
    ∙ sym (ap (λ l. block_before ss (st.block s (v.statements_in l))) cut)
