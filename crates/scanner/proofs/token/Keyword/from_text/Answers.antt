use Rattle.std.proofs.Common.{◌≢◌, get_or, arith, sym, ap, ◌∙◌, below_more}
use Rattle.std.proofs.lemmas.Bool.Decides.{Decides-eqb, not_from_Decides}
use Rattle.std.proofs.lemmas.List.{get_or_default}
use Rattle.std.proofs.lemmas.Slice.Eq.{slice_eq-Decides}
use Rattle.scanner.specs.Lexemes.{keyword_text}
use Rattle.scanner.proofs.token.Keyword.from_text.Goals as goal

pub loop-keyword-init : goal.loop-keyword-init
loop-keyword-init c = λ i d below. absurd (omega arith)

-- the keyword that was just compared isn't it either
pub loop-keyword-preserved : goal.loop-keyword-preserved
loop-keyword-preserved c =
    λ i d. below_more (λ j. c.args.text.now ≢ keyword_text (get_or c.beginning_with-keyword-items.result.now j d))
    c.loop-keyword.keyword-index
    (λ j below. c.loop-keyword.invariant j d below)
    (λ is. not_from_Decides c.eq.result (slice_eq-Decides Decides-eqb c.args.text.now c.text.result.now c.eq.result
    c.eq.ensures) c.if-eq.false
    (is ∙ ap keyword_text (get_or_default c.beginning_with-keyword-items.result.now c.loop-keyword.keyword-index _ _
    c.loop-keyword-test.true) ∙ sym c.text.ensures))
    i

-- a keyword that is written so begins with the first byte
pub returns : goal.returns
returns c = λ k is.
    let listed = c.beginning_with-keyword-items.ensures k (sym (ap (λ l. get_or l 0 0) is)) in
    c.loop-keyword.invariant listed.0 k (omega (arith, listed.1)) (is ∙ ap keyword_text (sym listed.2))
