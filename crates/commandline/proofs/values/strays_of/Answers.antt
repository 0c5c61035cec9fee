use Rattle.std.proofs.Common.{rules, refl}
use Rattle.clap.specs.Words.{found_of}
use Rattle.clap.specs.Walk.{rows_of}
use Rattle.commandline.proofs.NoSources.{no_count}
use Rattle.commandline.proofs.values.strays_of.Goals as goal

pub returns-in_err-strays-clause-none : goal.returns-in_err-strays-clause-none
returns-in_err-strays-clause-none c = λ _ s.
    no_count (rows_of (found_of c.args.matches.now)) s (search rules) (c.in_err-strays.ensures.none refl)
