use Rattle.std.proofs.Common.{subst}
use Rattle.program.specs.Views.{program_of}
use Rattle.source_search.specs.Ending.{IsLostRun}
use Rattle.source_search.proofs.ending.lost_at.Goals as goal

pub returns-then-not-branch : goal.returns-then-not-branch
returns-then-not-branch c = λ unended asked complete. unended

pub shorten-requires : goal.shorten-requires
shorten-requires c = record {
  lost = subst (IsLostRun (program_of c.args.checked.now.tree) c.args.outside) c.as_slice.ensures.value
      (c.in_ok-is_lost_run.ensures c.if-not-branch.false);
}

pub returns : goal.returns
returns c = λ unended asked complete. c.in_ok-shorten.ensures.lost
