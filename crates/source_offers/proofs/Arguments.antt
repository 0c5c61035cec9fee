-- Arguments, evaluated one after another.
use Rattle.std.proofs.Common.{◌≡◌, ◌<◌, ◌+◌, ◌∙◌, ℕ, ℤ, List, [], ◌∷◌, ◌++◌, drop, get_or, length, map, refl, ap, sym}
use Rattle.std.proofs.Common.{append_assoc}
use Rattle.std.proofs.lemmas.List.{drop_more}
use Rattle.program.specs.Trees.{Program}
use Rattle.program.specs.Views.{expression_of}
use Rattle.program.specs.declared.expression.Expression.{Expression as ExpressionOf}
use Rattle.words.specs.declared.outcome.Fault.{Fault}
use Rattle.meaning.specs.Values.{Evaluated, Value, Fails, EvaluatedAll, Values, FailsAll, Variables, put_first}
use Rattle.meaning.specs.Values.{evaluate, evaluate_all}

-- the values so far, and the later ones
abbrev pub append_values : List ℤ → EvaluatedAll → EvaluatedAll
append_values zs (Values ws) = Values (zs ++ ws)
append_values zs (FailsAll fault) = FailsAll fault

pub append_values-none : (a : EvaluatedAll) → a ≡ append_values [] a
append_values-none (Values ws) = refl
append_values-none (FailsAll fault) = refl

pub append_values-more : (zs : List ℤ) (z : ℤ) (a : EvaluatedAll)
    → append_values zs (put_first (Value z) a) ≡ append_values (zs ++ z ∷ []) a
append_values-more zs z (Values ws) = ap Values (sym (append_assoc zs (z ∷ []) ws))
append_values-more zs z (FailsAll fault) = refl

pub append_values-fault : (zs : List ℤ) (fault : Fault) (a : EvaluatedAll)
    → append_values zs (put_first (Fails fault) a) ≡ FailsAll fault
append_values-fault zs fault a = refl

-- the values of those that are left begin with that of the next
pub next_argument : (p : Program) (v : Variables) (locals : List ℤ) (xs : List ExpressionOf) (i : ℕ)
    (x : ExpressionOf) (value : Evaluated) → i < length xs → x ≡ get_or xs i x
    → value ≡ evaluate p v locals (expression_of x)
    → evaluate_all p v locals (map expression_of (drop i xs))
    ≡ put_first value (evaluate_all p v locals (map expression_of (drop (i + 1) xs)))
next_argument p v locals xs i x value l item is =
    ap (λ ys. evaluate_all p v locals (map expression_of ys)) (drop_more xs i x l)
    ∙ ap (λ y. put_first (evaluate p v locals (expression_of y))
    (evaluate_all p v locals (map expression_of (drop (i + 1) xs)))) (sym item)
    ∙ ap (λ w. put_first w (evaluate_all p v locals (map expression_of (drop (i + 1) xs)))) (sym is)
