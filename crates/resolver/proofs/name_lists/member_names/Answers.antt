use Rattle.std.proofs.Common.{map, refl}
use Rattle.syntax.specs.View.{member_of}
use Rattle.resolver.proofs.BlockRows.{row_all, view_step}
use Rattle.resolver.proofs.name_lists.member_names.Goals as goal

pub loop-member-preserved : goal.loop-member-preserved
loop-member-preserved c =
    view_step (λ n. n.now) (λ m. m.name.text) member_of _ _ _ c.args.members.now c.loop-member.member-index _
    c.loop-member-test.true c.in_ok-push.ensures.items refl c.loop-member.invariant

pub returns : goal.returns
returns c =
    row_all (λ ms. map (λ m. m.name.text) (map member_of ms)) _ c.args.members.now c.loop-member.member-index
    c.loop-member-test.false c.loop-member.invariant
