-- A wait, by each version: its beginning, the taking of the lock, and what follows it.
use Rattle.std.proofs.Common.{◌≡◌, ℕ, ◌+◌, List, ◌++◌, refl, ap, ◌∙◌, subst, append_assoc}
use Rattle.std.specs.Prelude.{OnOk}
use Rattle.words.specs.declared.version.ImageVersion.{ImageVersion}
use Rattle.words.specs.declared.version.ImageVersion.TheVariants.{One, Two, Linux}
use Rattle.isa.specs.declared.instr.Instr.{Instr}
use Rattle.program.specs.declared.kinds.Member.{Member}
use Rattle.lowering.specs.declared.mark.Marked.{Marked}
use Rattle.lowering.specs.declared.mark.Mark.TheVariants.{Resume}
use Rattle.lowering.specs.Marks.{rebase_all}
use Rattle.lowering.specs.Locks.{take_at, got_at, recovery}
use Rattle.lowering.specs.Conditions.{sleep_code, wait_code, wait_takes, wait_got}
use Rattle.condlower.proofs.condition.wait_from.Goals as goal

abbrev takes : Member → ℕ → ℕ → ℕ → List Marked
takes c e s a = rebase_all s (take_at (Resume c.monitor) e a)

abbrev follows : ℕ → Instr → ℕ → ℕ → List Marked
follows e r s a = rebase_all s (got_at e r a)

together : (v : ImageVersion) (c : Member) (e q : ℕ) (r : Instr) (s : ℕ)
    → rebase_all s (sleep_code v c e q) ++ (takes c e s (wait_takes v) ++ follows e r s (wait_got v))
    ≡ rebase_all s (wait_code v c e q r)
together One c e q r s = refl
together Two c e q r s = refl
together Linux c e q r s = refl

pub returns : goal.returns
returns c =
    let a = c.args in
    let old = a.code.now.items in
    let r = recovery a.recover in
    let slept = rebase_all a.start (sleep_code a.version a.condition a.link a.sequence) in
    let n = c.leave_length-takes.result in
    subst (λ y. OnOk c.got_from.result (c.got_from.new.code.items ≡ y))
    (ap (λ l. l ++ follows a.link r a.start (n + 5 + 32)) c.in_ok-take_from.ensures
    ∙ ap (λ l. (l ++ takes a.condition a.link a.start (n + 5)) ++ follows a.link r a.start (n + 5 + 32))
    c.in_ok-sleep_from.ensures
    ∙ ap (λ k. ((old ++ slept) ++ takes a.condition a.link a.start (k + 5)) ++ follows a.link r a.start (k + 5 + 32))
    c.leave_length-takes.ensures.length
    ∙ append_assoc (old ++ slept) (takes a.condition a.link a.start (wait_takes a.version))
    (follows a.link r a.start (wait_got a.version))
    ∙ append_assoc old slept _
    ∙ ap (λ l. old ++ l) (together a.version a.condition a.link a.sequence r a.start))
    c.got_from.ensures
