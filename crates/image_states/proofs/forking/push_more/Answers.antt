use Rattle.image_states.specs.declared.next.Doing.TheVariants as doing
use Rattle.image_states.proofs.forking.push_more.Goals as goal

pub returns-clause-added : goal.returns-clause-added
returns-clause-added c = record {
  next = record { state = c.add_thread.new.state; thread = c.args.thread; doing = doing.Own };
  found = c.in_ok-push_next.ensures.there;
  more = c.in_ok-add_thread.ensures;
}
