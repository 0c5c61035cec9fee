use Rattle.std.proofs.Common.{ℕ, List, Some, subst}
use Rattle.std.specs.Prelude.{IfOk, codes}
use Rattle.answers.specs.Answers.{TellsAlone}
use Rattle.answers.proofs.Told.{ok_so}
use Rattle.answers.proofs.compiling.c_answer.Goals as goal

pub returns-clause-told : goal.returns-clause-told
returns-clause-told c =
    ok_so c.ok.result _ _ (λ a tells. record { starts = c.as_slice.result.now; tells = tells })
    (subst (λ (bytes : List ℕ). IfOk c.ok.result (TellsAlone (codes "ok\n") (Some (c.args.out, bytes))))
    c.in_ok-bytes.ensures c.ok.ensures.told)
