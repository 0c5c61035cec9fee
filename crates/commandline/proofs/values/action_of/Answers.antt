use Rattle.std.proofs.Common.{rules, refl}
use Rattle.clap.specs.Words.{found_of}
use Rattle.clap.specs.Walk.{rows_of}
use Rattle.commandline.proofs.NoSources.{no_action}
use Rattle.commandline.proofs.values.action_of.Goals as goal

pub returns-in_err-action-clause-none : goal.returns-in_err-action-clause-none
returns-in_err-action-clause-none c = λ _ a.
    no_action c.args.id.now (rows_of (found_of c.args.matches.now)) a (search rules)
    (c.in_err-action.ensures.none refl)
