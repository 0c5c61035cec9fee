-- What was read of a job's files.
use Rattle.std.proofs.Common.{◌≡◌, ◌∙◌, ℕ, List, Option, IfSome, IfOk, Result, ap, sym, subst}
use Rattle.commandline.specs.declared.job.Job.{Job}
use Rattle.devices.specs.Files.{IsOfFile}
use Rattle.mesamon.specs.Asked.{AreRead, first_most, most_first, most_of, read_second}
use Rattle.mesamon.specs.declared.jobs.First.{First}
use Rattle.mesamon.specs.declared.jobs.Second.{Second}

pub are_read : {F : Type 0} (remaining : F → Option (List ℕ)) (job : Job) (most : Option ℕ) (bytes first second other : List ℕ)
    → bytes ≡ first → second ≡ other → most ≡ read_second job → IsOfFile remaining (first_most job) first
    → IfSome most (λ m. IsOfFile remaining m other) → AreRead (IsOfFile remaining) job bytes second
are_read remaining job most bytes first second other same also is one two = record {
  first = subst (IsOfFile remaining (first_most job)) (sym same) one;
  other = subst (λ (xs : List ℕ). IfSome (read_second job) (λ m. IsOfFile remaining m xs)) (sym also)
      (subst (λ (o : Option ℕ). IfSome o (λ m. IsOfFile remaining m other)) is two);
}

-- what was read of a second file, which is this one
pub second_so : {T E F : Type 0} (remaining : F → Option (List ℕ)) (items : T → List ℕ) (r : Result T E) (s same : Second)
    → s ≡ same → IfOk r (λ v. IfSome (most_of same) (λ most. IsOfFile remaining most (items v)))
    → IfOk r (λ v. IfSome (most_of s) (λ most. IsOfFile remaining most (items v)))
second_so remaining items r s same is h =
    subst (λ (o : Second). IfOk r (λ v. IfSome (most_of o) (λ most. IsOfFile remaining most (items v)))) (sym is) h

-- what was read of the first file, which is this one
pub first_so : {T E F : Type 0} (remaining : F → Option (List ℕ)) (items : T → List ℕ) (r : Result T E) (job : Job)
    (f same : First) → first_most job ≡ most_first f → f ≡ same
    → IfOk r (λ v. IsOfFile remaining (most_first same) (items v))
    → IfOk r (λ v. IsOfFile remaining (first_most job) (items v))
first_so remaining items r job f same most is h =
    subst (λ (n : ℕ). IfOk r (λ v. IsOfFile remaining n (items v))) (sym (most ∙ ap most_first is)) h
