use Rattle.std.proofs.Common.{refl}
use Rattle.clap.specs.Words.{found_of}
use Rattle.clap.specs.Walk.{rows_of}
use Rattle.commandline.proofs.NoJobs.{no_formed_replay}
use Rattle.commandline.proofs.job.replay_of.Goals as goal

pub returns-in_err-form_of-clause-none : goal.returns-in_err-form_of-clause-none
returns-in_err-form_of-clause-none c = λ _ job.
    no_formed_replay (rows_of (found_of c.args.matches.now)) job (c.in_err-form_of.ensures.none refl)
