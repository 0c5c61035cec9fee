use Rattle.std.proofs.Common.{◌∙◌, List, ℕ, map, subst, sym}
use Rattle.std.specs.List.{flat_map}
use Rattle.actionlines.specs.Lines.{line}
use Rattle.source_states.specs.Actions.{action_of}
use Rattle.answers.specs.Answers.{AreDrawn, AreTold}
use Rattle.answers.proofs.retelling.retold_answer.Goals as goal

pub returns-clause-told : goal.returns-clause-told
returns-clause-told c = record {
  ended = c.quiet.ensures.status ∙ c.status_of_end.ensures;
  are_told = subst
      (λ (xs : List ℕ). AreTold c.args.places
      (flat_map (line c.args.checked.now.names) (map action_of c.args.run.now.actions.items)) xs)
      (sym c.quiet.ensures.output)
      (subst
      (λ actions. AreTold c.args.places (flat_map (line c.args.checked.now.names) (map action_of actions))
      c.in_ok-lines.lines.items)
      c.as_slice.ensures.value c.in_ok-lines.ensures);
  account = c.quiet.ensures.account;
  files = subst (AreDrawn c.args.drawings.chart c.args.drawings.timeline c.args.drawings.page) (sym c.quiet.ensures.files)
      c.in_ok-files.ensures;
}
