use Rattle.commandline.specs.CommandLine.{version_by}
use Rattle.answers.proofs.LegalLogs.{legal_answer}
use Rattle.answers.proofs.source_log.explain_log_text.Goals as goal

pub returns-clause-explained : goal.returns-clause-explained
returns-clause-explained c = c.explain_lines.ensures.explained

pub returns-clause-short : goal.returns-clause-short
returns-clause-short c = c.explain_lines.ensures.short

pub returns-clause-fault : goal.returns-clause-fault
returns-clause-fault c = c.explain_lines.ensures.fault

pub returns-clause-only : goal.returns-clause-only
returns-clause-only c = c.explain_lines.ensures.only

pub returns-clause-legal : goal.returns-clause-legal
returns-clause-legal c run =
    legal_answer (version_by c.args.exits) c.args.text.now c.args.lines.now c.text_laws.ensures.one_program
    c.log_text_laws.ensures.once c.log_text_laws.ensures.good c.args.most run c.explain_lines.result c.explain_lines.ensures.fault c.explain_lines.ensures.only
