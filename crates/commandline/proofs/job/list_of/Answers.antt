use Rattle.std.proofs.Common.{rules, codes, sym, ◌∙◌}
use Rattle.clap.proofs.WalkLemmas.{first_value-rows, one_text-rows}
use Rattle.clap.specs.Words.{found_of}
use Rattle.clap.specs.Walk.{rows_of}
use Rattle.commandline.proofs.NoJobs.{no_list}
use Rattle.commandline.proofs.job.list_of.Goals as goal

pub returns-in_err-image-clause-none : goal.returns-in_err-image-clause-none
returns-in_err-image-clause-none c =
    let image = first_value-rows (found_of c.args.matches.now) (codes "IMAGE") in
    λ _ job. no_list (rows_of (found_of c.args.matches.now)) job (search rules)

pub returns-clause-job : goal.returns-clause-job
returns-clause-job c =
    let found = found_of c.args.matches.now in
    let image = first_value-rows found (codes "IMAGE") in
    let linux = one_text-rows found (codes "linux") in
    let source = first_value-rows found (codes "source") in
    let hints = one_text-rows found (codes "hints") in
    (search rules, (search rules, search rules), sym source ∙ sym c.get_str-source.ensures, (search rules, search rules))
