use Rattle.std.proofs.Common.{rules, refl, inl, inr}
use Rattle.clap.specs.Words.{found_of}
use Rattle.clap.specs.Walk.{rows_of}
use Rattle.commandline.proofs.NoSources.{no_seed}
use Rattle.commandline.proofs.values.order_of.Goals as goal

pub returns-in_err-seed-clause-none : goal.returns-in_err-seed-clause-none
returns-in_err-seed-clause-none c = λ _ o.
    no_seed (rows_of (found_of c.args.matches.now)) o (search rules) (search rules)
    (inl (c.in_err-seed.ensures.none refl))

pub returns-in_err-strays-clause-none : goal.returns-in_err-strays-clause-none
returns-in_err-strays-clause-none c = λ _ o.
    no_seed (rows_of (found_of c.args.matches.now)) o (search rules) (search rules)
    (inr (inl (c.in_err-strays.ensures.none refl)))

pub returns-in_err-kills-clause-none : goal.returns-in_err-kills-clause-none
returns-in_err-kills-clause-none c = λ _ o.
    no_seed (rows_of (found_of c.args.matches.now)) o (search rules) (search rules)
    (inr (inr (c.in_err-kills.ensures.none refl)))
