use Rattle.std.proofs.Common.{◌≡◌, ◌++◌, ℕ, List, OnOk, Result, codes, subst, sym}
use Rattle.std.specs.Fmt.{decimal}
use Rattle.words.specs.Outcomes.{fault_number}
use Rattle.words.specs.declared.outcome.Fault.{Fault}
use Rattle.schedules.specs.declared.failing.RunFailure.{RunFailure}
use Rattle.schedules.specs.declared.failing.RunFailure.TheVariants.{Aborted}
use Rattle.answers.specs.Shrinking.{failure_line}
use Rattle.answers.proofs.shrinking.append_failure.Goals as goal

-- the line of a process that aborted by the fault of this number
abbrev line : (t n : ℕ) → List ℕ
line t n = codes "process " ++ (decimal t ++ (codes " aborted: fault " ++ (decimal n ++ codes "\n")))

told_so : {T E : Type 0} (r : Result T E) (old new : List ℕ) (t n : ℕ) (fault : Fault) (f : RunFailure)
    → f ≡ Aborted t fault → n ≡ fault_number fault → OnOk r (new ≡ old ++ line t n)
    → OnOk r (new ≡ old ++ failure_line f)
told_so r old new t n fault f is number h =
    subst (λ (x : RunFailure). OnOk r (new ≡ old ++ failure_line x)) (sym is)
    (subst (λ (m : ℕ). OnOk r (new ≡ old ++ line t m)) number h)

pub returns-in-Aborted : goal.returns-in-Aborted
returns-in-Aborted c =
    told_so c.writeln-in-Aborted.result _ _ c.in-Aborted.thread c.number-number.result c.in-Aborted.fault c.args.failure
    c.in-Aborted.is c.number-number.ensures c.writeln-in-Aborted.ensures.bytes
