-- The code of a leaving, where the version's release swaps the lock word for 0.
use Rattle.std.proofs.Common.{◌≡◌, ◌⊎◌, inl, inr, ℕ, refl}
use Rattle.words.specs.declared.version.ImageVersion.{ImageVersion}
use Rattle.words.specs.declared.version.ImageVersion.TheVariants.{One, Two, Linux}
use Rattle.lowering.specs.declared.mark.Mark.{Mark}
use Rattle.lowering.specs.Marks.{rebase_all}
use Rattle.lowering.specs.Locks.{leave_at}
use Rattle.locklower.proofs.Extended.{extended}
use Rattle.locklower.proofs.lock.leave_from.Goals as goal

-- versions 1 and 2 have the same code
swapping : (v : ImageVersion) (mark : Mark) (e s a : ℕ) → (v ≡ One) ⊎ (v ≡ Two)
    → rebase_all s (leave_at One mark e a) ≡ rebase_all s (leave_at v mark e a)
swapping One mark e s a h = refl
swapping Two mark e s a h = refl
swapping Linux mark e s a (inl h) = absurd cc
swapping Linux mark e s a (inr h) = absurd cc

pub returns-in-One : goal.returns-in-One
returns-in-One c =
    let a = c.args in
    extended c.extend_from_slice.result c.extend_from_slice.new.self.items a.code.now.items _
    (rebase_all a.start (leave_at a.version a.mark a.link a.a)) c.extend_from_slice.ensures.items
    (rw (c.plain-lock.ensures, c.plain-link.ensures, c.plain-unwanted.ensures)
    (swapping a.version a.mark a.link a.start a.a c.in-One.is))
