-- Local steps one after another, and logs that grow.
use Rattle.std.proofs.Common.{◌≡◌, ℕ, zero, suc, ◌+◌, List, [], ◌∷◌, ◌++◌, Some, refl, ap, sym, ◌∙◌, arith, subst}
use Rattle.isa.specs.Programs.{Program}
use Rattle.locals.specs.Threads.{Thread}
use Rattle.locals.specs.Steps.{local_after, and_step}
use Rattle.machine.specs.declared.event.Entry.{Entry}
use Rattle.piece_machine.specs.PieceConcrete.{PieceConcrete}
use Rattle.runner.specs.Logs.{Runs, Enters}

-- n steps more, from where m steps led
pub after_sum : (p : Program) (t m n : ℕ) (o h : Thread) → local_after p t m o ≡ Some h
    → local_after p t (n + m) o ≡ local_after p t n h
after_sum p t m zero o h a = let e : 0 + m ≡ m = omega arith in ap (λ k. local_after p t k o) e ∙ a
after_sum p t m (suc n) o h a =
    let e : suc n + m ≡ suc (n + m) = omega arith in
    ap (λ k. local_after p t k o) e ∙ ap (and_step p t) (after_sum p t m n o h a)

-- one entry more
pub runs_more : (p : Program) (old mid new : PieceConcrete) (es : List Entry) (e : Entry) → Runs p old es mid
    → Enters p mid e new → Runs p old (es ++ e ∷ []) new
runs_more p old mid new [] e same enters =
    (new, (let P : PieceConcrete → Type 0 = λ s. Enters p s e new in subst P (sym same) enters), refl)
runs_more p old mid new (x ∷ es) e runs enters = (runs.0, runs.1, runs_more p runs.0 mid new es e runs.2 enters)
