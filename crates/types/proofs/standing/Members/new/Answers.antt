use Rattle.types.proofs.InSight.{member_names_step, member_kinds_step, all_members}
use Rattle.types.proofs.standing.Members.new.Goals as goal

pub loop-member-preserved : goal.loop-member-preserved
loop-member-preserved c = record {
  names = member_names_step c.args.members.now c.loop-member.member-index _ c.declare.new.self c.loop-member-test.true
      (c.in_ok-declare.ensures.declared _ c.loop-member.invariant.names);
  kinds = member_kinds_step c.args.members.now c.loop-member.member-index _ _ _ _ c.loop-member-test.true
      c.in_ok-push.ensures.items c.member_kind.ensures c.loop-member.invariant.kinds;
}

pub returns : goal.returns
returns c = all_members c.args.members.now c.loop-member.member-index
    (record { names = c.loop-member.names; kinds = c.loop-member.kinds }) c.loop-member-test.false
    c.loop-member.invariant.names c.loop-member.invariant.kinds
