use Rattle.std.proofs.Common.{◌∙◌, ap, arith, map}
use Rattle.std.proofs.lemmas.List.{map-append}
use Rattle.program.specs.Views.{program_of}
use Rattle.source_states.specs.Actions.{action_of}
use Rattle.source_states.specs.States.{state_of}
use Rattle.source_search.specs.Choices.{AreKills}
use Rattle.source_search.proofs.Tried.{no_more, some_more}
use Rattle.source_search.proofs.choices.with_kills.Goals as goal

pub returns-then-killed_in-from : goal.returns-then-killed_in-from
returns-then-killed_in-from c =
    no_more (program_of c.args.checked.now.tree) c.args.kills (state_of c.args.state.now) c.args.process
    (map action_of c.args.others.items) (omega (arith, c.killed_in.ensures, c.if-killed_in-from.true))

pub returns : goal.returns
returns c =
    let p = program_of c.args.checked.now.tree in
    let s = state_of c.args.state.now in
    let are : AreKills p s c.args.process (map action_of c.in-Some.kills.items) =
    rw c.in-Some.is at c.in_ok-kills.ensures in
    some_more p c.args.kills s c.args.process (map action_of c.args.others.items)
    (map action_of c.in-Some.kills.items) (map action_of c.append.new.self.items) are
    (ap (map action_of) c.in_ok-append.ensures.items
    ∙ map-append action_of c.args.others.items c.in-Some.kills.items)
