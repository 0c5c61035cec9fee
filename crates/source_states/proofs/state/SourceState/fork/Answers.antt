use Rattle.std.proofs.Common.{refl, ap, sym, ◌∙◌, arith, w64, pos, ℕ, None, Some, ◌≡◌}
use Rattle.std.proofs.lemmas.Int.{ints, to_z_pos}
use Rattle.std.proofs.lemmas.Result.{IfOk-weaker}
use Rattle.words.proofs.Versions.{most_few}
use Rattle.words.specs.Updates.{put}
use Rattle.words.specs.declared.outcome.Fault.TheVariants.{ProcessTableFull}
use Rattle.meaning.specs.Labels.{Fork}
use Rattle.meaning.specs.Offers.{dies}
use Rattle.meaning.specs.Processes.{goes_on, with_local}
use Rattle.source_offers.specs.Frames.{callers_of, frame_of}
use Rattle.source_offers.specs.Stages.{process_of}
use Rattle.source_table.specs.Tables.{table_of}
use Rattle.source_states.specs.Actions.{kind_of}
use Rattle.source_states.specs.States.{state_of}
use Rattle.source_states.proofs.Takes.{placed_both, made_one, makes_other, full_once}
use Rattle.source_states.proofs.SameKind.{same_kind}
use Rattle.source_states.specs.declared.action.ActionKind.TheVariants as Code
use Rattle.source_states.proofs.state.SourceState.fork.Goals as goal

forked_once : (n k : ℕ) → Fork n ≡ Fork k → n ≡ k
forked_once n k e = cc

pub returns-in_default : goal.returns-in_default
returns-in_default c =
    IfOk-weaker c.refuse.result _ _ (λ b h. full_once c.args.number (kind_of c.args.kind.now) _ _ _
    (state_of c.args.self.now) (table_of c.fork.new.self) b (state_of c.refuse.new.self)
    (c.in_default.ensures c.args.number) h) c.refuse.ensures

pub returns-in_default-kind : goal.returns-in_default-kind
returns-in_default-kind c =
    makes_other c.args.number c.in-Some.made (kind_of c.args.kind.now) _ _ _ (state_of c.args.self.now)
    (table_of c.fork.new.self) (c.in-Some.ensures c.args.number)
    (λ e. c.in_default-kind.not-Fork c.in-Some.made
    (same_kind c.args.kind.now (Code.Fork c.in-Some.made) refl e))

pub returns-then-named-made : goal.returns-then-named-made
returns-then-named-made c =
    makes_other c.args.number c.in-Some.made (kind_of c.args.kind.now) _ _ _ (state_of c.args.self.now)
    (table_of c.fork.new.self) (c.in-Some.ensures c.args.number)
    (λ e. absurd (c.if-named-made.true (forked_once _ _ (sym (ap kind_of c.in-Fork.is) ∙ e))))

pub overflow_cast-made : goal.overflow_cast-made
overflow_cast-made c =
    let h = c.in-Some.ensures 0 in let below = h.0 in let is = h.1 in
    let few = most_few c.args.self.now.table.version in omega (arith, ints, few)

pub returns : goal.returns
returns c =
    made_one c.args.number c.in-Some.made (kind_of c.args.kind.now) (process_of c.args.child.value)
    (λ n. goes_on None (with_local (frame_of c.args.process.frame) c.args.into (pos n))
    (callers_of c.args.process.callers.items))
    (dies ProcessTableFull (frame_of c.args.process.frame) (callers_of c.args.process.callers.items))
    (state_of c.args.self.now) (state_of c.place-2.new.self) (table_of c.fork.new.self)
    (c.in-Some.ensures c.args.number)
    (ap kind_of c.in-Fork.is ∙ ap Fork c.if-named-made.false)
    (placed_both c.args.number c.in-Some.made (state_of c.args.self.now) (state_of c.place.new.self)
    (state_of c.place-2.new.self) (table_of c.fork.new.self) (process_of c.args.child.value)
    (process_of c.go_on.new.self) _ c.in_ok-place-2.ensures
    (c.in_ok-place.ensures
    ∙ ap (λ q. record (state_of c.args.self.now) {
      table = table_of c.fork.new.self;
      process = put (state_of c.args.self.now).process c.in-Some.made (Some (process_of q));
    }) c.into_inner.ensures)
    (c.go_on.ensures ∙ ap (λ f. goes_on None f (callers_of c.args.process.callers.items)) (c.put.ensures.frame
    ∙ ap (λ z. with_local (frame_of c.args.process.frame) c.args.into z)
    (let h = c.in-Some.ensures 0 in let below = h.0 in let is = h.1 in
    let few = most_few c.args.self.now.table.version in to_z_pos w64 c.in-Some.made (omega (arith, few))))))
