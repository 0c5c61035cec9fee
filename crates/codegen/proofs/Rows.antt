-- What a statement's lists of statements say.
use Rattle.std.proofs.Common.{◌≡◌, ◌<◌, ◌≤◌, ◌+◌, ℕ, suc, get_or, drop, drop-cons, arith, length-append, List, ◌∷◌}
use Rattle.std.proofs.Common.{◌++◌, length, Result, sym, ap, ◌∙◌, Vec, Global}
use Rattle.std.specs.Prelude.{MatchResult}
use Rattle.scanner.specs.declared.refusal.Refusal.{Refusal}
use Rattle.program.specs.declared.statement.Statement.{Statement as StatementOf}
use Rattle.program.specs.declared.statement.Statement.TheBlock.{hidden-the_row-Statement-0}
use Rattle.program.specs.Trees.{Statement}
use Rattle.program.specs.Views.{block_of, block_in, statement_of}
use Rattle.program.proofs.Blocks.{inner_block as held_block}
use Rattle.lowering.specs.declared.mark.Marked.{Marked}
use Rattle.lowering.specs.Statements.{Setting, statement_code, block_code}
use Rattle.codegen.specs.Failures.{Fails}

-- the statements in a `Vec` that a statement holds
pub inner_block : (ss : List StatementOf) (v : Vec StatementOf Global) → ss ≡ v.items
    → block_in ss ≡ block_of (hidden-the_row-Statement-0 v)
inner_block ss v e = ap block_in e ∙ sym (held_block v)

-- a statement's code was made, or it failed for its cause
abbrev pub Makes : {T : Type 0} → Setting → List Marked → List Marked → Result T Refusal → Statement → Type 0
Makes c old new r s =
    MatchResult r (λ _. new ≡ old ++ statement_code c s (length old))
    (λ e. Fails e (length old + length (statement_code c s (length old))))

-- the code of one statement is no longer than that of it and the rest
pub first_fits : (c : Setting) (code old made : List Marked) (ss : List StatementOf) (i : ℕ) (s : StatementOf)
    → i < length ss → s ≡ get_or ss i s → code ++ block_code c (block_in (drop i ss)) (length code) ≡ old ++ made
    → length code + length (statement_code c (statement_of s) (length code)) ≤ length old + length made
first_fits c code old made ss i s lt is e =
    let first = statement_code c (statement_of s) (length code) in
    let rest = block_code c (block_in (drop (suc i) ss)) (length code + length first) in
    let cut : drop i ss ≡ s ∷ drop (suc i) ss = drop-cons ss i s lt ∙ ap (λ x. x ∷ drop (suc i) ss) (sym is) in
    let all : code ++ (first ++ rest) ≡ old ++ made =
    sym (ap (λ l. code ++ block_code c (block_in l) (length code)) cut) ∙ e in
    omega (arith, ap length all, length-append code (first ++ rest), length-append first rest, length-append old made)
