-- The beginning of a wait, by each version.
use Rattle.std.proofs.Common.{◌≡◌, ℕ, List, [], ◌∷◌, ◌++◌, refl, ap, ◌∙◌, subst, append_assoc}
use Rattle.std.specs.Prelude.{OnOk}
use Rattle.words.specs.declared.version.ImageVersion.{ImageVersion}
use Rattle.words.specs.declared.version.ImageVersion.TheVariants.{One, Two, Linux}
use Rattle.isa.specs.declared.instr.Instr.TheVariants.{Push, Load, FutexWait, Pop}
use Rattle.program.specs.declared.kinds.Member.{Member}
use Rattle.lowering.specs.declared.mark.Marked.{Marked}
use Rattle.lowering.specs.declared.mark.Mark.TheVariants.{Wait}
use Rattle.lowering.specs.Marks.{rebase_all, plainly}
use Rattle.lowering.specs.Locks.{leave_at}
use Rattle.lowering.specs.Conditions.{sleep_code}
use Rattle.condlower.proofs.condition.sleep_from.Goals as goal

abbrev reads : ℕ → List Marked
reads q = plainly (Push q ∷ Push q ∷ Load ∷ [])

abbrev sleeps : List Marked
sleeps = plainly (FutexWait ∷ Pop ∷ [])

together : (v : ImageVersion) (c : Member) (e q s : ℕ)
    → reads q ++ (rebase_all s (leave_at v (Wait c) e 3) ++ sleeps) ≡ rebase_all s (sleep_code v c e q)
together One c e q s = refl
together Two c e q s = refl
together Linux c e q s = refl

pub returns : goal.returns
returns c =
    let a = c.args in
    let old = a.code.now.items in
    let left = rebase_all a.start (leave_at a.version (Wait a.condition) a.link 3) in
    subst (λ y. OnOk c.append_plain-2.result (c.append_plain-2.new.code.items ≡ y))
    (ap (λ l. l ++ sleeps) c.in_ok-leave_from.ensures
    ∙ ap (λ l. (l ++ left) ++ sleeps) c.in_ok-append_plain.ensures
    ∙ append_assoc (old ++ reads a.sequence) left sleeps
    ∙ append_assoc old (reads a.sequence) (left ++ sleeps)
    ∙ ap (λ l. old ++ l) (together a.version a.condition a.link a.sequence a.start))
    c.append_plain-2.ensures
