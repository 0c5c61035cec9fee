-- Faults of calls, gathered from those of their parts.
use Rattle.std.proofs.Common.{◌≡◌, ℕ, suc, ◌<◌, ◌≤◌, ◌+◌, List, [], ◌∷◌, ◌++◌, length, map, Option, Some, None, Bool}
use Rattle.std.proofs.Common.{inl, inr, min, refl, ap, ◌∙◌, sym, subst, arith, append_assoc, is_some, drop, drop-cons}
use Rattle.std.proofs.Common.{get_or}
use Rattle.std.proofs.lemmas.Bool.{cases_lt}
use Rattle.std.proofs.lemmas.List.{drop_all}
use Rattle.scanner.specs.declared.token.Place.{Place}
use Rattle.scanner.specs.declared.refusal.Refusal.{Refusal}
use Rattle.scanner.specs.declared.refusal.RefusalKind.{RefusalKind}
use Rattle.syntax.specs.declared.leaf.Name.{Name}
use Rattle.program.specs.declared.kinds.ValueType.{ValueType}
use Rattle.syntax.specs.declared.declaration.Parameter.{Parameter}
use Rattle.syntax.specs.declared.expression.Expression.{Expression}
use Rattle.syntax.specs.Tree.{ExpressionTree}
use Rattle.types.specs.Kinds.{local_kind}
use Rattle.types.specs.Scope.{Scope}
use Rattle.types.specs.ExpressionFaults.{wants}
use Rattle.types.specs.StatementFaults.{matched_faults}
use Rattle.types.specs.Typing.{expression_type, expression_place}
use Rattle.syntax.specs.View.{option_name, expression_of, parameter_of}
use Rattle.types.specs.Faults.{Gathers, where_true}
use Rattle.types.proofs.Gathered.{gathers_none, gathers_both}

pub gathers_where : (b d : Bool) (k : RefusalKind) (p q : Place) (x y : Option Refusal) → b ≡ d → p ≡ q
    → Gathers (where_true b k p) x y → Gathers (where_true d k q) x y
gathers_where b d k p q x y e f g = subst (λ a. Gathers (where_true d k a) x y) f
    (subst (λ a. Gathers (where_true a k p) x y) e g)

-- a call's own faults, then those of its arguments, then those of what takes its result
pub gathers_call : (cs es ms ts : List Refusal) (w x y z : Option Refusal) → Gathers cs w x → Gathers (es ++ ms) x y
    → Gathers ts y z → Gathers (cs ++ es ++ ms ++ ts) w z
gathers_call cs es ms ts w x y z f g h = gathers_both (cs ++ es ++ ms) ts w y z
    (subst (λ xs. Gathers xs w y) (sym (append_assoc cs es ms)) (gathers_both cs (es ++ ms) w x y f g)) h

pub taken_name : (n : Option Name) → is_some n ≡ is_some (option_name n)
taken_name None = refl
taken_name (Some n) = refl

-- an argument and a parameter, and those behind them
pub match_next : (s : Scope) (es : List Expression) (ps : List Parameter) (i : ℕ) (e : Expression) (d : Parameter)
    (k : ValueType) (m : Option ValueType) (q : Place) (a b c : Option Refusal) → i < length es → i < length ps
    → e ≡ get_or es i e → k ≡ local_kind (get_or ps i d).kind → m ≡ expression_type s (expression_of e)
    → q ≡ expression_place (expression_of e) → Gathers (wants k m q) a b
    → Gathers (matched_faults s (map expression_of (drop (i + 1) es)) (map parameter_of (drop (i + 1) ps))) b c
    → Gathers (matched_faults s (map expression_of (drop i es)) (map parameter_of (drop i ps))) a c
match_next s es ps i e d k m q a b c le lp is f g h w rest =
    let x = expression_of e in
    let p = parameter_of (get_or ps i d) in
    let cut : drop i es ≡ e ∷ drop (suc i) es = drop-cons es i e le ∙ ap (λ y. y ∷ drop (suc i) es) (sym is) in
    let same : i + 1 ≡ suc i = omega arith in
    let one : Gathers (wants (local_kind p.kind) (expression_type s x) (expression_place x)) a b =
    subst (λ y. Gathers (wants (local_kind p.kind) (expression_type s x) y) a b) h
    (subst (λ y. Gathers (wants (local_kind p.kind) y q) a b) g (subst (λ y. Gathers (wants y m q) a b) f w)) in
    subst (λ ys. Gathers (matched_faults s (map expression_of ys) (map parameter_of (drop i ps))) a c) (sym cut)
    (subst (λ ys. Gathers (matched_faults s (map expression_of (e ∷ drop (suc i) es)) (map parameter_of ys)) a c)
    (sym (drop-cons ps i d lp))
    (gathers_both (wants (local_kind p.kind) (expression_type s x) (expression_place x))
    (matched_faults s (map expression_of (drop (suc i) es)) (map parameter_of (drop (suc i) ps))) a b c one
    (subst (λ j. Gathers (matched_faults s (map expression_of (drop j es)) (map parameter_of (drop j ps))) b c) same
    rest)))

unmatched : (s : Scope) (xs : List ExpressionTree) → matched_faults s xs [] ≡ []
unmatched s [] = refl
unmatched s (x ∷ xs) = refl

-- no argument is left, or no parameter
pub match_past : (s : Scope) (es : List Expression) (ps : List Parameter) (i : ℕ) (a : Option Refusal)
    → min (length es) (length ps) ≤ i
    → Gathers (matched_faults s (map expression_of (drop i es)) (map parameter_of (drop i ps))) a a
match_past s es ps i a h = elim (cases_lt i (length es)) [
  | inl e ↦ subst (λ ys. Gathers (matched_faults s (map expression_of (drop i es)) (map parameter_of ys)) a a)
      (sym (drop_all i ps (omega arith)))
      (subst (λ fs. Gathers fs a a) (sym (unmatched s (map expression_of (drop i es)))) (gathers_none a))
  | inr e ↦ subst (λ ys. Gathers (matched_faults s (map expression_of ys) (map parameter_of (drop i ps))) a a)
      (sym (drop_all i es e)) (gathers_none a)
]
