use Rattle.std.proofs.Common.{All, subst, sym}
use Rattle.proof_exploration.specs.Blocking.{IsHeldUp}
use Rattle.source_offers.specs.Stages.{process_of}
use Rattle.source_search.specs.Kept.{states_in}
use Rattle.source_search.proofs.holding.is_held_in.Goals as goal

pub returns : goal.returns
returns c = λ e p. record {
  at = process_of c.in-Some.process.now;
  stands = sym (rw c.in-Some.is at c.process.ensures);
  waits = c.may_wait.ensures c.if-not-may_wait.false;
  held = subst (λ xs. All (λ s. IsHeldUp p s c.args.number (process_of c.in-Some.process.now))
      (states_in c.args.kept.now.parts xs)) c.as_slice.ensures.value (c.is_held_in_all.ensures e p);
}
