use Rattle.std.proofs.Common.{◌∙◌, ◌∷◌, [], List, ap}
use Rattle.std.proofs.lemmas.Option.{IfSome_then}
use Rattle.std.proofs.lemmas.Result.{IfOk-weaker}
use Rattle.meaning.specs.Labels.{Action, kind_of as name_of}
use Rattle.meaning.specs.Offers.{Does}
use Rattle.source_offers.specs.Offered.{effect_of, label_of, offer_with}
use Rattle.source_offers.specs.Stages.{process_of}
use Rattle.source_offers.specs.declared.offers.Offered.TheVariants as Code
use Rattle.source_offers.specs.declared.process.Process.{Process as ProcessOf}
use Rattle.source_states.specs.Actions.{kind_of}
use Rattle.source_states.specs.States.{state_of}
use Rattle.source_reaching.specs.Choices.{AllTakeUp, by}
use Rattle.source_reaching.proofs.Tried.{all_tried, does_named, one_tried}
use Rattle.source_reaching.proofs.own.own_choices.Goals as goal
use Rattle.source_reaching.proofs.own.own_choices.Goals.{in-Rests, in-Does, in-Makes, in-Claims, in-NotifiesSome, in-NotifiesAll}

pub returns : goal.returns
returns c = elim c.match-own.branch [
  | in-Rests w ↦ rw (w.result-is, w.in-Rests.is) (λ q label effect after t' takes allows. absurd takes)
  | in-Does w ↦ rw (w.result-is, w.in-Does.is) (all_tried w.one.result c.args.process (kind_of w.named.result)
      (λ (actions : List Action). (q : ProcessOf) → AllTakeUp c.args.process
      (offer_with (Code.Does w.in-Does.label w.in-Does.field-1) q) (state_of c.args.state.now).table actions)
      (λ actions is q. one_tried c.args.process
      (Does (label_of w.in-Does.label) (effect_of w.in-Does.field-1) (process_of q)) (state_of c.args.state.now).table
      (name_of (label_of w.in-Does.label)) actions (is ∙ ap (λ k. by c.args.process k ∷ []) w.named.ensures)
      (does_named c.args.process (label_of w.in-Does.label) (effect_of w.in-Does.field-1) (process_of q)
      (state_of c.args.state.now).table)) w.one.ensures)
  | in-Makes w ↦ rw (w.result-is, w.in-Makes.is) (IfOk-weaker w.forks.result _ _
      (λ o h. IfSome_then o h (λ v all q. all _ _ _)) w.forks.ensures)
  | in-Claims w ↦ rw (w.result-is, w.in-Claims.is) (IfOk-weaker w.claims.result _ _
      (λ o h. IfSome_then o h (λ v all q. all _ _)) w.claims.ensures)
  | in-NotifiesSome w ↦ rw (w.result-is, w.in-NotifiesSome.is) (IfOk-weaker w.notifies.result _ _
      (λ o h. IfSome_then o h (λ v all q. all (process_of q))) w.notifies.ensures)
  | in-NotifiesAll w ↦ rw (w.result-is, w.in-NotifiesAll.is) (IfOk-weaker w.broadcast.result _ _
      (λ o h. IfSome_then o h (λ v all q. all (process_of q))) w.broadcast.ensures)
]
