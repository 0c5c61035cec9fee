-- How many steps the first entries of a log have.
use Rattle.std.proofs.Common.{◌≡◌, ◌<◌, ◌≤◌, ◌+◌, ◌++◌, ◌∙◌, ℕ, List, [], ◌∷◌, ap, get_or, length, sym, take}
use Rattle.std.proofs.lemmas.List.{take_more}
use Rattle.std.proofs.lemmas.List.Sums.{sum_by_push, sum_by-take-le}
use Rattle.machine.specs.declared.event.Entry.{Entry}
use Rattle.runner.specs.Logs.{cost, event_cost}

-- one entry more has its own steps more
pub one_more : (es : List Entry) (i : ℕ) (e : Entry) → i < length es → e ≡ get_or es i e
    → cost (take (i + 1) es) ≡ cost (take i es) + (e.local + event_cost e.event)
one_more es i e here is =
    ap cost (take_more es i e here) ∙ ap (λ x. cost (take i es ++ x ∷ [])) (sym is)
    ∙ sum_by_push (λ (x : Entry). x.local + event_cost x.event) (take i es) e

-- the first ones have no more than all
pub first_few : (es : List Entry) (i : ℕ) → cost (take i es) ≤ cost es
first_few es i = sum_by-take-le (λ (x : Entry). x.local + event_cost x.event) es i
