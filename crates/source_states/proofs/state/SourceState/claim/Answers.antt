use Rattle.std.proofs.Common.{refl, inl, ap, ◌∙◌}
use Rattle.std.proofs.lemmas.Result.{IfOk-weaker}
use Rattle.words.specs.declared.outcome.Fault.TheVariants.{HandleNotJoinable}
use Rattle.meaning.specs.Labels.{Claims, Claim}
use Rattle.meaning.specs.Offers.{Nothing, dies}
use Rattle.meaning.specs.Processes.{Joining}
use Rattle.source_offers.specs.Frames.{callers_of, frame_of}
use Rattle.source_offers.specs.Stages.{part_at}
use Rattle.source_table.specs.Tables.{table_of}
use Rattle.source_states.specs.Actions.{kind_of}
use Rattle.source_states.specs.States.{state_of}
use Rattle.source_states.proofs.Takes.{placed, claims_other, claimed_once}
use Rattle.source_states.proofs.SameKind.{same_kind}
use Rattle.source_states.specs.declared.action.ActionKind.TheVariants as Code
use Rattle.source_states.proofs.state.SourceState.claim.Goals as goal

pub returns-then-not-branch : goal.returns-then-not-branch
returns-then-not-branch c =
    IfOk-weaker c.refuse.result _ _ (λ b h. claimed_once c.args.number c.args.child (kind_of c.args.kind.now)
    (Joining c.args.child c.args.into (part_at c.args.aborted) (frame_of c.args.process.frame)
    (callers_of c.args.process.callers.items))
    (dies HandleNotJoinable (frame_of c.args.process.frame) (callers_of c.args.process.callers.items))
    (state_of c.args.self.now) (table_of c.claim.new.self) b (state_of c.refuse.new.self)
    (rw c.if-not-branch.true at (c.in_ok-claim.ensures.ok c.args.number)) h) c.refuse.ensures

pub returns-in_default : goal.returns-in_default
returns-in_default c =
    claims_other c.args.number c.args.child (kind_of c.args.kind.now) _ _
    (state_of c.args.self.now) (table_of c.claim.new.self)
    (rw c.if-not-branch.false at (c.in_ok-claim.ensures.ok c.args.number)) (λ e. c.in_default.not-Claim c.args.child
    (same_kind c.args.kind.now (Code.Claim c.args.child) refl e))

pub returns : goal.returns
returns c = record {
  label = Claims c.args.child;
  effect = Nothing;
  after = Joining c.args.child c.args.into (part_at c.args.aborted) (frame_of c.args.process.frame)
      (callers_of c.args.process.callers.items);
  takes = inl (refl, refl, refl);
  named = ap kind_of c.in-Claim.is ∙ ap Claim c.if-named-child.false;
  done = placed c.args.number (Claims c.args.child)
      (Joining c.args.child c.args.into (part_at c.args.aborted) (frame_of c.args.process.frame)
      (callers_of c.args.process.callers.items))
      (state_of c.args.self.now) (state_of c.place.new.self) (table_of c.claim.new.self)
      (rw c.if-not-branch.false at (c.in_ok-claim.ensures.ok c.args.number)) c.in_ok-place.ensures;
}
