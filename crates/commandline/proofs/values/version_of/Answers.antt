use Rattle.std.proofs.Common.{ℕ, List, codes, refl}
use Rattle.words.specs.declared.version.ImageVersion.{ImageVersion}
use Rattle.words.specs.declared.version.ImageVersion.TheVariants.{One, Two, Linux}
use Rattle.clap.specs.Words.{Row, found_of, one_of}
use Rattle.clap.specs.Walk.{rows_of}
use Rattle.commandline.specs.CommandLine.{IsNumberOf, ReadsVersion}
use Rattle.commandline.proofs.values.version_of.Goals as goal

-- where no number stands, none of a version does
no_version : (rows : List Row) → ((n : ℕ) → IsNumberOf (one_of (codes "image") rows) 32 n → ⊥) → (v : ImageVersion)
    → ReadsVersion rows v → ⊥
no_version rows none One h = none 1 h
no_version rows none Two h = none 2 h
no_version rows none Linux h = h

pub returns-in_err-number_of-clause-none : goal.returns-in_err-number_of-clause-none
returns-in_err-number_of-clause-none c = λ _ v h.
    no_version (rows_of (found_of c.args.matches.now)) (c.in_err-number_of.ensures.none refl) v h
