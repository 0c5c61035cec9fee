use Rattle.std.proofs.Common.{◌∙◌, ap, sym}
use Rattle.std.proofs.lemmas.Result.{err_from_is_err_and}
use Rattle.syntax.specs.Lexeme.{lexemes}
use Rattle.syntax.specs.Whole.{unit_of}
use Rattle.source_layout.proofs.Spoken.{same_lexemes}
use Rattle.source_layout.proofs.keeping.unit_tokens.Goals as goal

pub returns-in-Ok-clause-unit : goal.returns-in-Ok-clause-unit
returns-in-Ok-clause-unit c = record {
  scanned = c.in_ok-tokens.ensures.tokens;
  unit = unit_of c.in-Ok._unit;
  spelled = c.in-Ok.ensures.tree ∙ ap lexemes c.as_slice.ensures.value;
  within = c.in-Ok.ensures.within;
}

pub returns-in_err-tokens-clause-only : goal.returns-in_err-tokens-clause-only
returns-in_err-tokens-clause-only c = λ ts is.
    let p = err_from_is_err_and c.from_residual.result c.from_residual.ensures.1 in
    rw (p.1, p.2) (c.in_err-tokens.ensures.only _ is.scanned)

pub returns-clause-only : goal.returns-clause-only
returns-clause-only c = λ ts is.
    c.in-Err.ensures.only is.unit
    (is.spelled ∙ (same_lexemes ts c.in_ok-tokens.tokens.items (sym (c.in_ok-tokens.ensures.only _ is.scanned))
    ∙ ap lexemes (sym c.as_slice.ensures.value))) is.within
