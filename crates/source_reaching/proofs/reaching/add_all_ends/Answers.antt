use Rattle.std.proofs.lemmas.Result.{IfOk-weaker}
use Rattle.program.specs.Views.{program_of}
use Rattle.source_states.specs.States.{state_of}
use Rattle.source_reaching.specs.Among.{LeadsToEnds}
use Rattle.source_reaching.specs.Ends.{ends_in}
use Rattle.source_reaching.proofs.Listed.{all_of_one}
use Rattle.source_reaching.proofs.reaching.add_all_ends.Goals as goal

pub returns-in-len1 : goal.returns-in-len1
returns-in-len1 c =
    let Leads = LeadsToEnds (program_of c.args.checked.now.tree) c.args.process (state_of c.args.state)
    (ends_in c.add_only_end.new.ends.items) in
    IfOk-weaker c.add_only_end.result _ _
    (λ b leads e. all_of_one Leads c.args.actions.now c.action-item.result c.in-len1.len_at_least c.in-len1.len_below
    c.action-item.is (leads e)) c.add_only_end.ensures
