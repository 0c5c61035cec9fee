-- What a search over an image says where it was complete.
use Rattle.std.proofs.Common.{◌≡◌, refl}
use Rattle.isa.specs.Programs.{Program}
use Rattle.image_search.specs.Never.{NeverBreaks, NeverFails, NeverStuck}
use Rattle.image_search.specs.declared.ending.Ending.{Ending}
use Rattle.image_search.specs.declared.ending.Ending.TheVariants as ending
use Rattle.image_states.specs.Nexts.{may_of}
use Rattle.image_states.specs.declared.outside.Outside.{Outside}
use Rattle.answers.specs.Images.{SaysNever}

pub says_never : (p : Program) (may : Outside) (e : Ending) → (e ≡ ending.Complete → NeverStuck p (may_of may))
    → (e ≡ ending.Complete → NeverFails p (may_of may)) → (e ≡ ending.Complete → NeverBreaks p (may_of may))
    → SaysNever p may e
says_never p may ending.Complete stuck fails breaks = (stuck refl, fails refl, breaks refl)
says_never p may (ending.Stuck turns) stuck fails breaks = tt
says_never p may (ending.Failed turns) stuck fails breaks = tt
says_never p may (ending.Broken turns) stuck fails breaks = tt
says_never p may (ending.Bounded bound) stuck fails breaks = tt
