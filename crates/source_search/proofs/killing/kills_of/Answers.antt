use Rattle.std.proofs.Common.{◌∙◌, List, ap, map, ℕ}
use Rattle.std.specs.Global.{Global}
use Rattle.std.specs.List.{flat_map}
use Rattle.std.specs.Prelude.{Vec}
use Rattle.program.specs.Views.{program_of}
use Rattle.source_offers.specs.Stages.{process_of}
use Rattle.source_states.specs.Actions.{action_of}
use Rattle.source_states.specs.States.{state_of}
use Rattle.source_reaching.specs.Choices.{lists_in}
use Rattle.source_search.specs.Choices.{AreResumable, kills_with}
use Rattle.source_search.proofs.Kills.{kills_tried, none_there}
use Rattle.source_search.proofs.killing.kills_of.Goals as goal

pub returns-in_default : goal.returns-in_default
returns-in_default c =
    none_there (program_of c.args.checked.now.tree) (state_of c.args.state.now) c.args.process _
    (rw c.in_default.is at c.process.ensures)

pub returns : goal.returns
returns c =
    let p = program_of c.args.checked.now.tree in
    let s = state_of c.args.state.now in
    let lists : AreResumable p s c.args.process (lists_in c.in-Some-2.lists.items) =
    rw c.in-Some-2.is at c.in_ok-lists.ensures in
    kills_tried p s c.args.process (process_of c.in-Some.found.now) (lists_in c.in-Some-2.lists.items)
    c.in_ok-monitors.monitors.items (map action_of c.in_ok-kills.kills.items)
    (rw c.in-Some.is at c.process.ensures) lists c.in_ok-monitors.ensures
    (c.in_ok-kills.ensures
    ∙ ap (λ (ms : List ℕ). flat_map (kills_with c.args.process ms) (lists_in c.as_slice.result.now))
    c.as_slice-2.ensures.value
    ∙ ap (λ (lists : List (Vec ℕ Global)). flat_map (kills_with c.args.process c.in_ok-monitors.monitors.items) (lists_in lists))
    c.as_slice.ensures.value)
