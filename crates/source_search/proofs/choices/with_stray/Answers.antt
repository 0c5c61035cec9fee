use Rattle.std.proofs.Common.{◌∙◌, ap, map, sym}
use Rattle.std.proofs.lemmas.List.{map_push}
use Rattle.source_states.specs.Actions.{action_of}
use Rattle.source_states.specs.States.{state_of}
use Rattle.source_search.proofs.Tried.{not_searched, not_waiting, waiting}
use Rattle.source_search.proofs.choices.with_stray.Goals as goal

pub returns-then-not-strays : goal.returns-then-not-strays
returns-then-not-strays c =
    not_searched c.args.strays (state_of c.args.state.now).table c.args.process (map action_of c.args.own.items)
    c.if-not-strays.true

pub returns-in_default : goal.returns-in_default
returns-in_default c =
    not_waiting c.args.strays (state_of c.args.state.now).table c.args.process (map action_of c.args.own.items)
    (sym c.waits.ensures ∙ c.in_default.is)

pub returns : goal.returns
returns c =
    waiting c.args.strays (state_of c.args.state.now).table c.args.process (map action_of c.args.own.items)
    c.in-Some.condition (map action_of c.push.new.self.items) (sym c.waits.ensures ∙ c.in-Some.is)
    (ap (map action_of) c.in_ok-push.ensures.items ∙ map_push action_of c.args.own.items _)
