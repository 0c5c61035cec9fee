use Rattle.std.proofs.Common.{sym}
use Rattle.std.proofs.lemmas.Result.{err_from_is_err_and}
use Rattle.scanner.proofs.Passing.{gap_white, gaps_join, wrong_behind, comment_some}
use Rattle.scanner.proofs.source.Source.pass_gap.Goals as goal

pub loop-self-preserved-in-White : goal.loop-self-preserved-in-White
loop-self-preserved-in-White c = record {
  passed = gap_white _ _ _ _ _ _ c.loop-self.invariant.passed (sym c.in-White.ensures) c.pass.ensures.rest
      c.pass.ensures.place;
  fits = c.pass.ensures.fits;
}

pub loop-self-preserved : goal.loop-self-preserved
loop-self-preserved c = record {
  passed = gaps_join _ _ _ _ _ _ c.loop-self.invariant.passed c.in_ok-pass_comment-in-Comment.ensures.gap
      (comment_some _ (sym c.in-Comment.ensures));
  fits = c.in_ok-pass_comment-in-Comment.ensures.fits;
}

pub returns-in_err-pass_comment-in-Comment-clause-wrong :
    goal.returns-in_err-pass_comment-in-Comment-clause-wrong
returns-in_err-pass_comment-in-Comment-clause-wrong c =
    let p = err_from_is_err_and c.from_residual.result c.from_residual.ensures.1 in
    rw (p.1, p.2) (wrong_behind _ _ _ _ _ c.loop-self.invariant.passed c.in_err-pass_comment-in-Comment.ensures.wrong
    (comment_some _ (sym c.in-Comment.ensures)))
