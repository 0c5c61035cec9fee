-- A thread inside a template follows the protocol, and its process does what the steps carry.
use Rattle.proof_templates.specs.Inside.{Enters, Exits, Waits, Notifies, Broadcasts}
use Rattle.proof_templates.specs.Templates.{TemplatesFollow}
use Rattle.proof_templates.proofs.EnterFollows.{enters_go}
use Rattle.proof_templates.proofs.ExitFollows.{exits_go}
use Rattle.proof_templates.proofs.WaitFollows.{waits_go}
use Rattle.proof_templates.proofs.ConditionFollows.{notifies_go, broadcasts_go}

pub follows : TemplatesFollow
follows b vs t (Enters m base l fs f cs) is some few fits pt x inside s =
    enters_go b vs t m base l fs f cs is some few fits pt x inside s
follows b vs t (Exits m base shown l fs before z cs) is some few fits pt x inside s =
    exits_go b vs t m base shown l fs before z cs some few fits pt x inside s
follows b vs t (Waits c base l fs before f cs ms) is some few fits pt x inside s =
    waits_go b vs t c base l fs before f cs ms is some few fits pt x inside s
follows b vs t (Notifies c base l fs before after ms) is some few fits pt x inside s =
    notifies_go b vs t c base l fs before after ms fits pt x inside s
follows b vs t (Broadcasts c base l fs before after ms) is some few fits pt x inside s =
    broadcasts_go b vs t c base l fs before after ms fits pt x inside s
