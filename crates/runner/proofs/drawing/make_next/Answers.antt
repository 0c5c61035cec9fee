use Rattle.std.proofs.Common.{◌∙◌, refl}
use Rattle.runner.specs.Seeds.{moment_of, numbers_from}
use Rattle.runner.specs.Views.{log_state}
use Rattle.runner.proofs.Drawn.{idle_so}
use Rattle.runner.proofs.Seeding.{draw_made, draw_passed, drawn_still, draws_more, over_so}
use Rattle.runner.proofs.drawing.make_next.Goals as goal

pub loop-drawn-init : goal.loop-drawn-init
loop-drawn-init g c = record {
  same = refl;
  past = c.requires.past;
  stopped = λ t is. absurd (c.requires.nobody t is);
  nobody = λ none. c.requires.nobody;
  drawn = (0, refl);
}

-- who was drawn can make no entry
pub loop-drawn-preserved : goal.loop-drawn-preserved
loop-drawn-preserved g c =
    let p = g.J.RunName.program in
    let limit = g.J.RunName.limit in
    let v = c.loop-drawn.invariant in
    let e = c.in_ok-make_drawn.ensures in
    let still = e.none c.if-branch.false in
    let old = log_state c.loop-drawn.shared in
    let new = log_state c.make_drawn.new.shared in
    let before = numbers_from c.loop-drawn.generator in
    let after = numbers_from c.draw_entry.new.generator in
    record {
      same = still.0 ∙ v.same;
      past = e.past;
      stopped = still.1;
      nobody = λ none. absurd cc;
      drawn = draws_more p c.args.outside limit
          (moment_of (log_state c.args.shared.now) (numbers_from c.args.generator.now) c.args.refused.now c.args.passed.now)
          (moment_of old before c.loop-drawn.refused c.loop-drawn.passed)
          (moment_of new after c.make_drawn.new.refused c.make_drawn.new.passed) v.drawn
          (draw_passed p c.args.outside limit old new before after c.loop-drawn.refused c.loop-drawn.passed
          c.make_drawn.new.refused c.make_drawn.new.passed c.in-Some.drawn c.in-Some.ensures.legal
          c.in-Some.ensures.draws (e.passes c.if-branch.false before after));
    }

-- an entry was made
pub returns-then-branch-clause-drawn : goal.returns-then-branch-clause-drawn
returns-then-branch-clause-drawn g c =
    let p = g.J.RunName.program in
    let limit = g.J.RunName.limit in
    let v = c.loop-drawn.invariant in
    let e = c.in_ok-make_drawn.ensures in
    let old = log_state c.loop-drawn.shared in
    let new = log_state c.make_drawn.new.shared in
    let before = numbers_from c.loop-drawn.generator in
    let after = numbers_from c.draw_entry.new.generator in
    let makes = e.makes c.if-branch.true in
    draws_more p c.args.outside limit
    (moment_of (log_state c.args.shared.now) (numbers_from c.args.generator.now) c.args.refused.now c.args.passed.now)
    (moment_of old before c.loop-drawn.refused c.loop-drawn.passed)
    (moment_of new after c.make_drawn.new.refused c.clear_where.new.passed) v.drawn
    (draw_made p c.args.outside limit old new before after c.loop-drawn.refused c.loop-drawn.passed
    c.make_drawn.new.refused c.clear_where.new.passed c.in-Some.drawn c.in-Some.ensures.legal c.in-Some.ensures.draws
    makes.0 c.clear_where.ensures.nobody makes.1)

-- nothing is drawn
pub returns-clause-drawn : goal.returns-clause-drawn
returns-clause-drawn g c =
    drawn_still g.J.RunName.program c.args.outside g.J.RunName.limit
    (moment_of (log_state c.args.shared.now) (numbers_from c.args.generator.now) c.args.refused.now c.args.passed.now)
    (log_state c.loop-drawn.shared) (numbers_from c.loop-drawn.generator) (numbers_from c.draw_entry.new.generator)
    c.loop-drawn.refused c.loop-drawn.passed c.in_default.ensures.still c.loop-drawn.invariant.drawn

pub returns-clause-over : goal.returns-clause-over
returns-clause-over g c = λ still.
    over_so c.args.outside g.J.RunName.limit (log_state c.loop-drawn.shared) (numbers_from c.loop-drawn.generator)
    (numbers_from c.draw_entry.new.generator) c.loop-drawn.refused c.loop-drawn.passed c.in_default.ensures.draws
    c.in_default.ensures.still

pub returns-clause-none : goal.returns-clause-none
returns-clause-none g c = λ still. idle_so g.J.RunName.program g.J.RunName.limit (log_state c.loop-drawn.shared)
    c.loop-drawn.refused c.loop-drawn.passed c.loop-drawn.invariant.past c.loop-drawn.invariant.stopped c.in_default.ensures.drawn
