use Rattle.std.proofs.Common.{false, refl, replicate, suc}
use Rattle.words.specs.Limits.{most_threads}
use Rattle.runner.specs.Seeds.{begun_at, moment_of, numbers_from}
use Rattle.runner.specs.Views.{log_state}
use Rattle.runner.proofs.Passing.{none_past, none_true}
use Rattle.runner.proofs.Seeding.{draws_both, moment_begun}
use Rattle.runner.proofs.drawing.run_drawn.Goals as goal

pub loop-init : goal.loop-init
loop-init g c = record {
  past = none_past g.J.RunName.program g.J.RunName.limit (suc most_threads) (log_state c.args.shared.now);
  nobody = none_true (suc most_threads);
  drawn = (
    0,
    moment_begun (log_state c.args.shared.now) (numbers_from c.args.generator.now) (replicate (suc most_threads) false)
        (replicate (suc most_threads) false) (none_true (suc most_threads))
        (none_true (suc most_threads)),
  );
}

pub loop-preserved : goal.loop-preserved
loop-preserved g c =
    let v = c.loop.invariant in
    let e = c.in_ok-make_next.ensures in
    record {
      past = e.past;
      nobody = e.nobody c.if-branch.true;
      drawn = draws_both g.J.RunName.program c.args.outside g.J.RunName.limit
          (begun_at (log_state c.args.shared.now) (numbers_from c.args.generator.now))
          (moment_of (log_state c.loop.shared) (numbers_from c.loop.generator) c.loop.refused c.loop.passed)
          (moment_of (log_state c.make_next.new.shared) (numbers_from c.make_next.new.generator) c.make_next.new.refused
          c.make_next.new.passed) v.drawn e.drawn;
    }

pub returns-clause-ends : goal.returns-clause-ends
returns-clause-ends g c =
    let v = c.loop.invariant in
    let e = c.in_ok-make_next.ensures in
    let last = moment_of (log_state c.make_next.new.shared) (numbers_from c.make_next.new.generator) c.make_next.new.refused
    c.make_next.new.passed in
    let all = draws_both g.J.RunName.program c.args.outside g.J.RunName.limit
    (begun_at (log_state c.args.shared.now) (numbers_from c.args.generator.now))
    (moment_of (log_state c.loop.shared) (numbers_from c.loop.generator) c.loop.refused c.loop.passed) last v.drawn e.drawn in
    record {
      count = all.0;
      last = last;
      draws = all.1;
      leads = e.legal c.if-branch.false;
      over = e.over c.if-branch.false;
      log_is = refl;
    }
