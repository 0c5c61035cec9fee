-- Whom an exit wakes at a pending entry that the dying thread doesn't own.
use Rattle.std.specs.Prelude.{ℕ, Bool, true, not, ◌||◌, ◌==◌}
use Rattle.words.specs.LockWord.{owner_of, waiters_of}
use Rattle.words.specs.declared.version.ImageVersion.{ImageVersion}
use Rattle.words.specs.declared.version.ImageVersion.TheVariants.{One, Two, Linux}
use Rattle.robustexit.specs.declared.rule.ExitRule.{ExitRule}
use Rattle.robustexit.specs.declared.rule.ExitRule.TheVariants.{WakesAlways, WakesUnowned, WakesUncovered}

-- whether one sleeper is woken at this lock word
abbrev pub wakes : ExitRule → (word : ℕ) → Bool
wakes WakesAlways v = true
wakes WakesUnowned v = owner_of v == 0
wakes WakesUncovered v = (owner_of v == 0) || not (waiters_of v)

-- the rule of an image's version
abbrev pub exit_of : ImageVersion → ExitRule
exit_of One = WakesAlways
exit_of Two = WakesAlways
exit_of Linux = WakesUnowned
