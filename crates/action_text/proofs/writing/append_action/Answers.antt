use Rattle.std.proofs.Common.{◌∙◌, ◌++◌, sym}
use Rattle.program.specs.Names.{naming_of}
use Rattle.source_states.specs.Actions.{action_of}
use Rattle.action_text.proofs.Shown.{last_line, ok_so, shown, shown_end}
use Rattle.action_text.proofs.writing.append_action.Goals as goal

pub returns-in-Some : goal.returns-in-Some
returns-in-Some c =
    let names = naming_of c.args.names.now in
    let a = action_of c.args.action.now in
    let old = c.args.bytes.now.items in
    ok_so c.append_last.result _ _
    (λ h. h ∙ last_line names a c.in-Some.last old (sym c.last_of.ensures ∙ c.in-Some.is))
    (c.append_last.ensures (old ++ shown names a)
    (shown_end names a old c.append_line.new.bytes.items c.in_ok-append_line.ensures))
