use Rattle.std.proofs.Common.{refl}
use Rattle.clap.specs.Words.{found_of}
use Rattle.clap.specs.Walk.{rows_of}
use Rattle.commandline.proofs.NoJobs.{no_formed_search}
use Rattle.commandline.proofs.job.explore_of.Goals as goal

pub returns-in_err-form_of-clause-none : goal.returns-in_err-form_of-clause-none
returns-in_err-form_of-clause-none c = λ _ job.
    no_formed_search (rows_of (found_of c.args.matches.now)) job (c.in_err-form_of.ensures.none refl)
