-- The code of a leaving by any version, and the pending word cleared behind it.
use Rattle.std.proofs.Common.{◌≡◌, ℕ, List, ◌∷◌, [], ◌++◌, length, refl, ap, ◌∙◌, subst, append_assoc}
use Rattle.std.specs.Prelude.{OnOk}
use Rattle.words.specs.declared.version.ImageVersion.{ImageVersion}
use Rattle.words.specs.declared.version.ImageVersion.TheVariants.{One, Two, Linux}
use Rattle.words.specs.declared.process.ProcessWord.TheVariants.{Pending}
use Rattle.isa.specs.declared.instr.Instr.TheVariants.{Push, Store}
use Rattle.lowering.specs.declared.mark.Marked.{Marked}
use Rattle.lowering.specs.Marks.{rebase_all, plainly}
use Rattle.lowering.specs.declared.mark.Mark.TheVariants.{Exit}
use Rattle.lowering.specs.Locks.{exit_code, leave_at, own}
use Rattle.locklower.proofs.Extended.{extended}
use Rattle.locklower.proofs.lock.exit.Goals as goal

abbrev cleared : List Marked
cleared = plainly (own Pending ++ (Push 0 ∷ Store ∷ []))

ends : (v : ImageVersion) (m e s : ℕ) → rebase_all s (leave_at v (Exit m) e 0) ++ cleared ≡ rebase_all s (exit_code v m e)
ends One m e s = refl
ends Two m e s = refl
ends Linux m e s = refl

pub returns : goal.returns
returns c =
    let a = c.args in
    let s = length a.code.now.items in
    let start : c.len-start.result ≡ length a.code.now.items = search in
    let left : c.leave_from.new.code.items ≡ a.code.now.items ++ rebase_all s (leave_at a.version (Exit a.monitor) a.link 0) =
    subst (λ n. c.leave_from.new.code.items ≡ a.code.now.items ++ rebase_all n (leave_at a.version (Exit a.monitor) a.link 0))
    start c.in_ok-leave_from.ensures in
    subst (λ y. OnOk c.extend_from_slice.result (c.extend_from_slice.new.self.items ≡ y))
    (ap (λ l. l ++ cleared) left ∙ append_assoc a.code.now.items _ cleared
    ∙ ap (λ l. a.code.now.items ++ l) (ends a.version a.monitor a.link s))
    (extended c.extend_from_slice.result c.extend_from_slice.new.self.items c.leave_from.new.code.items cleared cleared
    c.extend_from_slice.ensures.items refl)
