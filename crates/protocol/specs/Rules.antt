-- The rules of a machine and of its locks: whom an exit wakes at a pending entry, and how a lock is given up.
use Rattle.std.specs.Prelude.{◌≡◌, ◌≢◌, ℕ, ◌⊎◌}
use Rattle.words.specs.declared.version.ImageVersion.{ImageVersion}
use Rattle.words.specs.declared.version.ImageVersion.TheVariants.{One, Two, Linux}
use Rattle.robustexit.specs.ExitRules.{exit_of}
pub use Rattle.robustexit.specs.declared.rule.ExitRule.{ExitRule}
pub use Rattle.robustexit.specs.declared.rule.ExitRule.TheVariants.{WakesAlways, WakesUnowned, WakesUncovered}
use Rattle.protocol.specs.Word.{owner, waiters}

-- how a lock is given up: its word is swapped for 0; or changed to what is left of the waiters bit by a compare-and-swap;
-- or that, and the bit is cleared once a wake has found nobody; or its owner's number is taken off it by a
-- fetch-and-add, which leaves the waiters bit
pub data ReleaseRule : Type 0 where
  ClearsWord : ReleaseRule
  KeepsWaiters : ReleaseRule
  TidiesWaiters : ReleaseRule
  DropsOwner : ReleaseRule

pub record Rules : Type 0 where
  pub exit : ExitRule
  pub release : ReleaseRule

-- these rules
abbrev pub rules_of : ExitRule → ReleaseRule → Rules
rules_of x r = record { exit = x; release = r }

-- how the templates of an image of this version give a lock up
abbrev pub release_of : ImageVersion → ReleaseRule
release_of One = ClearsWord
release_of Two = ClearsWord
release_of Linux = DropsOwner

-- the machine's exit and the templates' release, by the version of an image
abbrev pub version_rules : ImageVersion → Rules
version_rules version = rules_of (exit_of version) (release_of version)

-- an exit wakes one sleeper of a pending word that the thread doesn't own
abbrev pub Wakes : ExitRule → (word : ℕ) → Type 0
Wakes WakesAlways v = Unit {0}
Wakes WakesUnowned v = owner v ≡ 0
Wakes WakesUncovered v = (owner v ≡ 0) ⊎ (waiters v ≡ 0)

-- or none
abbrev pub Passes : ExitRule → (word : ℕ) → Type 0
Passes WakesAlways v = ⊥
Passes WakesUnowned v = owner v ≢ 0
Passes WakesUncovered v = (owner v ≢ 0) × (waiters v ≢ 0)

-- a release that swaps the word for 0
abbrev pub Clears : ReleaseRule → Type 0
Clears ClearsWord = Unit {0}
Clears KeepsWaiters = ⊥
Clears TidiesWaiters = ⊥
Clears DropsOwner = ⊥

-- a release by a compare-and-swap, which leaves the waiters bit
abbrev pub Keeps : ReleaseRule → Type 0
Keeps ClearsWord = ⊥
Keeps KeepsWaiters = Unit {0}
Keeps TidiesWaiters = Unit {0}
Keeps DropsOwner = ⊥

-- a release that clears the bit afterwards
abbrev pub Tidies : ReleaseRule → Type 0
Tidies ClearsWord = ⊥
Tidies KeepsWaiters = ⊥
Tidies TidiesWaiters = Unit {0}
Tidies DropsOwner = ⊥

-- a release by one step, which swaps the word for 0 or takes the owner's number off it
abbrev pub Swaps : ReleaseRule → Type 0
Swaps ClearsWord = Unit {0}
Swaps KeepsWaiters = ⊥
Swaps TidiesWaiters = ⊥
Swaps DropsOwner = Unit {0}

-- what is left of the word that is given up
abbrev pub left_by : ReleaseRule → (word : ℕ) → ℕ
left_by ClearsWord v = 0
left_by KeepsWaiters v = waiters v
left_by TidiesWaiters v = waiters v
left_by DropsOwner v = waiters v

-- a release that leaves the waiters bit for good
abbrev pub KeepsBit : ReleaseRule → Type 0
KeepsBit ClearsWord = ⊥
KeepsBit KeepsWaiters = Unit {0}
KeepsBit TidiesWaiters = ⊥
KeepsBit DropsOwner = Unit {0}

-- an exit that passes a pending word only where its waiters bit covers who sleeps there
abbrev pub SafeExit : ExitRule → Type 0
SafeExit WakesAlways = Unit {0}
SafeExit WakesUnowned = ⊥
SafeExit WakesUncovered = Unit {0}

-- the pairs that lose no wake: any release where who passes a pending word leaves its bit to somebody; else only those
-- that keep the bit for good
abbrev pub AreSafe : Rules → Type 0
AreSafe r = SafeExit r.exit ⊎ KeepsBit r.release
