use Rattle.std.proofs.Common.{◌≢◌, rules, inl, inr}
use Rattle.scanner.specs.declared.refusal.RefusalKind.TheVariants.{Memory}
use Rattle.syntax.specs.Whole.{unit_of}
use Rattle.grammar.proofs.Law.{spells}
use Rattle.parser.proofs.Units.{only_read, never_refused, refusal_read}
use Rattle.parser.proofs.unit.parse.Goals as goal

pub returns-in-Ok-clause-tree : goal.returns-in-Ok-clause-tree
returns-in-Ok-clause-tree c =
    spells c.args.tokens.now (unit_of c.in-Ok.unit) c.requires.ends (rw c.new-parser.ensures at c.in-Ok.ensures.ok)

pub returns-in-Ok-clause-only : goal.returns-in-Ok-clause-only
returns-in-Ok-clause-only c = λ t e le.
    only_read c.args.tokens.now t (unit_of c.in-Ok.unit) e le (rw c.new-parser.ensures at c.in-Ok.ensures.ok)

pub returns-in-Err-2-clause-only : goal.returns-in-Err-2-clause-only
returns-in-Err-2-clause-only c = λ t e le.
    let ne : c.in-Err.refusal.kind ≢ Memory = search rules in
    elim c.in-Err.ensures.err [
      | inl m ↦ absurd (ne m)
      | inr r ↦ absurd (never_refused c.args.tokens.now t c.in-Err.refusal e le (rw c.new-parser.ensures at r))
    ]

pub returns-in-Err-2-clause-refusal : goal.returns-in-Err-2-clause-refusal
returns-in-Err-2-clause-refusal c =
    let ne : c.in-Err.refusal.kind ≢ Memory = search rules in
    elim c.in-Err.ensures.err [
      | inl m ↦ absurd (ne m)
      | inr r ↦ inr (refusal_read c.args.tokens.now c.in-Err.refusal c.requires.ends (rw c.new-parser.ensures at r))
    ]
