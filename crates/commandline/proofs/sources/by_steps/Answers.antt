use Rattle.std.proofs.Common.{rules, inl, inr, refl}
use Rattle.clap.specs.Words.{found_of}
use Rattle.clap.specs.Walk.{rows_of}
use Rattle.commandline.proofs.NoSources.{no_seeded, no_steps}
use Rattle.commandline.proofs.sources.by_steps.Goals as goal

pub returns-in_err-steps-clause-none : goal.returns-in_err-steps-clause-none
returns-in_err-steps-clause-none c = λ _ e.
    no_steps (rows_of (found_of c.args.matches.now)) e c.requires.schedule c.requires.log
    (c.in_err-steps.ensures.none refl)

pub returns-in_err-seed-clause-none : goal.returns-in_err-seed-clause-none
returns-in_err-seed-clause-none c = λ _ e.
    no_seeded (rows_of (found_of c.args.matches.now)) e c.requires.schedule c.requires.log (search rules)
    (inl (c.in_err-seed.ensures.none refl))

pub returns-in_err-strays-clause-none : goal.returns-in_err-strays-clause-none
returns-in_err-strays-clause-none c = λ _ e.
    no_seeded (rows_of (found_of c.args.matches.now)) e c.requires.schedule c.requires.log (search rules)
    (inr (inl (c.in_err-strays.ensures.none refl)))

pub returns-in_err-kills-clause-none : goal.returns-in_err-kills-clause-none
returns-in_err-kills-clause-none c = λ _ e.
    no_seeded (rows_of (found_of c.args.matches.now)) e c.requires.schedule c.requires.log (search rules)
    (inr (inr (c.in_err-kills.ensures.none refl)))
