-- What the thread did on the words is what it did on what is shared.
use Rattle.std.proofs.Common.{subst}
use Rattle.std.specs.Prelude.{vec_capacity}
use Rattle.locals.specs.Looks.{look}
use Rattle.machine.specs.Accessing.{AccessedSo}
use Rattle.machine.specs.Views.{CommonView}
use Rattle.machine.proofs.Accessing.{accessed_on, kept_on}
use Rattle.machine.proofs.thread_step.take_walk.Goals as goal

pub returns : goal.returns
returns c =
    let v : CommonView = record {
      words = c.shared.inside.words;
      sleepers = c.shared.inside.buckets;
      output = c.shared.inside.output.items;
      capacity = vec_capacity c.shared.inside.output;
    } in
    let w = c.walk.ensures.walks in
    let made = c.walk.result.1 in
    let l = look c.args.image.now c.args.t w.here in
    record {
      here = w.here;
      goes = w.goes;
      within = w.within;
      whole = w.whole;
      lives = w.lives;
      did = subst (λ (q : CommonView). AccessedSo made l q (record v { words = c.walk.new.words }) c.walk.new.self)
          c.shared.view_is (accessed_on made l v c.walk.new.words w.here c.walk.new.self w.ends);
      none = kept_on made l v c.args.shared.now c.walk.new.words w.here c.walk.new.self c.shared.view_is w.ends;
      after = c.walk.ensures.lives;
    }
