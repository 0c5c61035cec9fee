-- What the thread did on the words is what it did on what is shared.
use Rattle.std.proofs.Common.{subst}
use Rattle.std.specs.Prelude.{vec_capacity}
use Rattle.locals.specs.Looks.{look}
use Rattle.machine.specs.Accessing.{AccessedSo}
use Rattle.machine.specs.Views.{CommonView}
use Rattle.machine.proofs.Accessing.{accessed_on, kept_on}
use Rattle.machine.proofs.thread_step.take_access.Goals as goal

pub returns-clause-access : goal.returns-clause-access
returns-clause-access c =
    let v : CommonView = record {
      words = c.shared.inside.words;
      sleepers = c.shared.inside.buckets;
      output = c.shared.inside.output.items;
      capacity = vec_capacity c.shared.inside.output;
    } in
    subst (λ (q : CommonView). AccessedSo c.access.result (look c.args.image.now c.args.t c.args.local.now) q
    (record v { words = c.access.new.words }) c.access.new.self) c.shared.view_is
    (accessed_on c.access.result (look c.args.image.now c.args.t c.args.local.now) v c.access.new.words c.args.local.now
    c.access.new.self c.access.ensures.access)

pub returns-clause-none : goal.returns-clause-none
returns-clause-none c =
    let v : CommonView = record {
      words = c.shared.inside.words;
      sleepers = c.shared.inside.buckets;
      output = c.shared.inside.output.items;
      capacity = vec_capacity c.shared.inside.output;
    } in
    kept_on c.access.result (look c.args.image.now c.args.t c.args.local.now) v c.args.shared.now c.access.new.words
    c.args.local.now c.access.new.self c.shared.view_is c.access.ensures.access
