use Rattle.program.specs.Names.{naming_of}
use Rattle.action_text.proofs.Members.{member_below}
use Rattle.action_text.proofs.conditions.notified_of.Goals as goal

pub returns : goal.returns
returns c = λ k ns same h.
    c.loop-place.invariant k ns same
    (member_below (naming_of c.args.names.now) k c.args.monitor c.members_of-place-end.result c.loop-place.place same h.0
    c.members_of-place-end.ensures c.loop-place-test.false) h
