-- Arguments and their parameters, one after another.
use Rattle.std.proofs.Common.{◌≡◌, ℕ, suc, ◌<◌, ◌≤◌, ◌+◌, List, [], ◌∷◌, ◌++◌, length, map, Option, Some, None, Bool}
use Rattle.std.proofs.Common.{true, false, ◌&&◌, ◌⊎◌, inl, inr, refl, ap, ◌∙◌, sym, arith, drop, drop-cons}
use Rattle.std.proofs.Common.{get_or, slice_get}
use Rattle.std.specs.Prelude.{option_map}
use Rattle.std.proofs.lemmas.List.{drop_all}
use Rattle.std.proofs.lemmas.Option.{slice_get_cases}
use Rattle.scanner.specs.declared.refusal.Refusal.{Refusal}
use Rattle.program.specs.declared.kinds.ValueType.{ValueType}
use Rattle.syntax.specs.declared.declaration.Parameter.{Parameter}
use Rattle.syntax.specs.declared.expression.Expression.{Expression}
use Rattle.syntax.specs.Tree.{ExpressionTree, ParameterTree}
use Rattle.syntax.specs.View.{expression_of, parameter_of}
use Rattle.types.specs.ExpressionFaults.{expression_faults, wants}
use Rattle.types.specs.Kinds.{local_kind}
use Rattle.types.specs.Scope.{Scope}
use Rattle.types.specs.StatementFaults.{arguments_faults, matched_faults}
use Rattle.types.specs.Typing.{expression_type, expression_place}
use Rattle.resolver.specs.Clean.{is_clean, wants_of}
use Rattle.resolver.proofs.Cleanness.{clean_both}

-- the faults of arguments, then those of their types
abbrev pub passed : Scope → List ExpressionTree → List ParameterTree → List Refusal
passed s es ps = arguments_faults s es ++ matched_faults s es ps

abbrev first_kind : List ParameterTree → Option ValueType
first_kind [] = None
first_kind (p ∷ ps) = Some (local_kind p.kind)

abbrev rest_of : List ParameterTree → List ParameterTree
rest_of [] = []
rest_of (p ∷ ps) = ps

shuffled : (y e w a m : Bool) → ((y && (e && w)) && (a && m)) ≡ (y && ((e && a) && (w && m)))
shuffled false e w a m = refl
shuffled true false w a m = refl
shuffled true true false true m = refl
shuffled true true false false m = refl
shuffled true true true a m = refl

mixed : (y : Bool) (e w a m : List Refusal)
    → ((y && is_clean (e ++ w)) && is_clean (a ++ m)) ≡ (y && is_clean ((e ++ a) ++ (w ++ m)))
mixed y e w a m = ap (λ b. (y && b) && is_clean (a ++ m)) (clean_both e w)
    ∙ ap (λ b. (y && (is_clean e && is_clean w)) && b) (clean_both a m)
    ∙ shuffled y (is_clean e) (is_clean w) (is_clean a) (is_clean m)
    ∙ sym (ap (λ b. y && b) (clean_both (e ++ a) (w ++ m)
    ∙ ap (λ b. b && is_clean (w ++ m)) (clean_both e a)
    ∙ ap (λ b. (is_clean e && is_clean a) && b) (clean_both w m)))

unmatched : (s : Scope) (xs : List ExpressionTree) → matched_faults s xs [] ≡ []
unmatched s [] = refl
unmatched s (x ∷ xs) = refl

one_passed : (s : Scope) (x : ExpressionTree) (xs : List ExpressionTree) (ps : List ParameterTree) (y : Bool)
    → ((y && is_clean (expression_faults s x ++ wants_of (first_kind ps) (expression_type s x) (expression_place x)))
    && is_clean (passed s xs (rest_of ps))) ≡ (y && is_clean (passed s (x ∷ xs) ps))
one_passed s x xs [] y =
    ap (λ m. (y && is_clean (expression_faults s x ++ [])) && is_clean (arguments_faults s xs ++ m)) (unmatched s xs)
    ∙ mixed y (expression_faults s x) [] (arguments_faults s xs) []
one_passed s x xs (p ∷ ps) y =
    mixed y (expression_faults s x) (wants (local_kind p.kind) (expression_type s x) (expression_place x))
    (arguments_faults s xs) (matched_faults s xs ps)

first_in : (ps : List Parameter) (i : ℕ)
    → (((x : Parameter) × (i < length ps) × (slice_get ps i ≡ Some x) × (get_or ps i x ≡ x))
    ⊎ ((length ps ≤ i) × (slice_get ps i ≡ None)))
    → option_map (λ p. local_kind p.kind) (slice_get ps i) ≡ first_kind (map parameter_of (drop i ps))
first_in ps i (inl (x, lt, got, at)) = ap (option_map (λ p. local_kind p.kind)) got
    ∙ sym (ap (λ l. first_kind (map parameter_of l)) (drop-cons ps i x lt ∙ ap (λ y. y ∷ drop (suc i) ps) at))
first_in ps i (inr (past, none)) = ap (option_map (λ p. local_kind p.kind)) none
    ∙ sym (ap (λ l. first_kind (map parameter_of l)) (drop_all i ps past))

rest_in : (ps : List Parameter) (i : ℕ)
    → (((x : Parameter) × (i < length ps) × (slice_get ps i ≡ Some x) × (get_or ps i x ≡ x))
    ⊎ ((length ps ≤ i) × (slice_get ps i ≡ None)))
    → map parameter_of (drop (suc i) ps) ≡ rest_of (map parameter_of (drop i ps))
rest_in ps i (inl (x, lt, got, at)) = sym (ap (λ l. rest_of (map parameter_of l)) (drop-cons ps i x lt))
rest_in ps i (inr (past, none)) = ap (map parameter_of) (drop_all (suc i) ps (omega (arith, past)))
    ∙ sym (ap (λ l. rest_of (map parameter_of l)) (drop_all i ps past))

-- one more argument, and the parameter for it, if any
pub pass_next : (s : Scope) (es : List Expression) (ps : List Parameter) (i : ℕ) (e : Expression) (o : Option ValueType)
    (y z : Bool) → i < length es → e ≡ get_or es i e → o ≡ option_map (λ p. local_kind p.kind) (slice_get ps i)
    → z ≡ (y && is_clean (expression_faults s (expression_of e)
    ++ wants_of o (expression_type s (expression_of e)) (expression_place (expression_of e))))
    → (z && is_clean (passed s (map expression_of (drop (i + 1) es)) (map parameter_of (drop (i + 1) ps))))
    ≡ (y && is_clean (passed s (map expression_of (drop i es)) (map parameter_of (drop i ps))))
pass_next s es ps i e o y z lt is due made =
    let x = expression_of e in
    let left = map expression_of (drop (suc i) es) in
    let qs = map parameter_of (drop i ps) in
    let cut : drop i es ≡ e ∷ drop (suc i) es = drop-cons es i e lt ∙ ap (λ l. l ∷ drop (suc i) es) (sym is) in
    let same : i + 1 ≡ suc i = omega arith in
    let found = (slice_get_cases ps i).1 in
    ap (λ j. z && is_clean (passed s (map expression_of (drop j es)) (map parameter_of (drop j ps)))) same
    ∙ ap (λ b. b && is_clean (passed s left (map parameter_of (drop (suc i) ps))))
    (made ∙ ap (λ k. y && is_clean (expression_faults s x ++ wants_of k (expression_type s x) (expression_place x)))
    (due ∙ first_in ps i found))
    ∙ ap (λ l. (y && is_clean (expression_faults s x
    ++ wants_of (first_kind qs) (expression_type s x) (expression_place x))) && is_clean (passed s left l))
    (rest_in ps i found)
    ∙ one_passed s x left qs y ∙ sym (ap (λ l. y && is_clean (passed s (map expression_of l) qs)) cut)

-- no argument is left
pub pass_past : (s : Scope) (es : List Expression) (ps : List Parameter) (i : ℕ) (y : Bool) → length es ≤ i
    → (y && is_clean (passed s (map expression_of (drop i es)) (map parameter_of (drop i ps)))) ≡ y
pass_past s es ps i true past =
    ap (λ l. is_clean (passed s (map expression_of l) (map parameter_of (drop i ps)))) (drop_all i es past)
pass_past s es ps i false past = refl
