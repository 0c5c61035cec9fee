use Rattle.std.proofs.Common.{[], arith}
use Rattle.syntax.specs.View.{member_of}
use Rattle.parser.specs.Steps.{add_member}
use Rattle.parser.proofs.Loops.{goes_on, ends, chain_map}
use Rattle.parser.proofs.declaration.members.Goals as goal

pub members-preserved : goal.members-preserved
members-preserved c = record {
  read = goes_on (λ x. (x, tt)) add_member _ _ c.in-Some.member _ _ _ c.in_ok-push.ensures.items
      c.members.invariant.read (rw c.in-Some.is at c.in_ok-member.ensures.ok);
  within = omega (arith, c.members.invariant.within, c.in_ok-member.ensures.within);
}

pub returns-clause-ok : goal.returns-clause-ok
returns-clause-ok c =
    rw (← (chain_map member_of c.members.members.items))
    (ends (λ x. (x, tt)) add_member c.members.members.items [] _ _ _ c.members.invariant.read
    (rw c.in_default.is at c.in_ok-member.ensures.ok))
