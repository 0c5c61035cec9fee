-- Values, arguments and callees.
use Rattle.std.proofs.Common.{◌≡◌, ◌≤◌, ℕ, List, [], ◌∷◌, ◌++◌, map, Option, Some, None, refl, ap, sym, subst, ◌∙◌}
use Rattle.std.proofs.Common.{arith, append-nil}
use Rattle.scanner.specs.declared.token.Place.{Place}
use Rattle.scanner.specs.declared.token.Sign.TheVariants as S
use Rattle.scanner.specs.declared.refusal.Refusal.{Refusal}
use Rattle.syntax.specs.declared.expression.Expression.{Expression}
use Rattle.syntax.specs.Lexeme.{NameTree, Lexeme, Mark}
use Rattle.syntax.specs.Tree.{ExpressionTree}
use Rattle.syntax.specs.View.{expression_of}
use Rattle.grammar.specs.Machine.{AMark, AValue, Arguments, MoreArguments, AName}
use Rattle.grammar.specs.Machine.{ADottedName, AnOpening, Skip, NoFactor, Trees, Item, expression, expression_in}
use Rattle.grammar.specs.Machine.{behind_expression, callee, factor_begin, reply_more_arguments, reply_dotted}
use Rattle.grammar.specs.Machine.{reply_of_factor}
use Rattle.grammar.specs.Machine.{expression_rest, expression_from, behind_rest}
use Rattle.grammar.specs.Reading.{StartsFactor, lexeme_at, Passes, Fails, Leads}
use Rattle.grammar.proofs.Joins.{here, skip, done, leads_as, onto, then1, then6, fail1, fail6}
use Rattle.grammar.proofs.Starts.{arguments_begin, value_begins}
use Rattle.token_cursor.specs.Taking.{Takes, Rejects, Found, Absent}
use Rattle.expression_parser.specs.Levels.{expression_trees}
use Rattle.token_cursor.proofs.Small.{pushes, takes, rejects}
use Rattle.expression_parser.proofs.LevelLaws.{expression_back}

-- an expression that may be left out
value_begun : {d : ℕ} {a : List Item} → StartsFactor (lexeme_at a) → Leads d (AValue ∷ []) (expression [])
    (λ y. (Some (expression_in y), tt)) a a
value_begun {d} {a} s = record { leads = λ κ e. value_begins 64 a κ s }

pub value_passes : {d : ℕ} {a b : List Item} (e : ExpressionTree) → StartsFactor (lexeme_at a)
    → Passes d (expression []) (expression_trees e) a b → Passes d (AValue ∷ []) (Some e, tt) a b
value_passes {d} e s p = done (leads_as (λ _. ap (λ z. (Some z, tt)) (expression_back e))
    (then6 {d = d} {d' = d} p (value_begun s) (omega arith)))

pub value_fails : {d : ℕ} {a : List Item} {x : Refusal} → StartsFactor (lexeme_at a) → Fails d (expression []) a x
    → Fails d (AValue ∷ []) a x
value_fails {d} s f = fail6 {d = d} {d' = d} f (value_begun s) (omega arith)

pub value_absent : {d : ℕ} {a : List Item} → factor_begin (lexeme_at a) ≡ NoFactor
    → Passes d (AValue ∷ []) (None, tt) a a
value_absent h =
    skip {s = AValue} (ap (λ b. reply_of_factor b (expression_rest []) (λ f t. Some (expression_from f t)) None)
    h)

-- the first argument, and further ones
arguments_begun : {d : ℕ} {a : List Item} → StartsFactor (lexeme_at a)
    → Leads d (Arguments ∷ []) (expression (MoreArguments ∷ [])) (λ y. (expression_in y ∷ (behind_expression y).0, tt))
    a a
arguments_begun {d} {a} s = record { leads = λ κ e. arguments_begin 64 a κ s }

map_more : (xs : List Expression) (x : Expression) (later : List ExpressionTree)
    → map expression_of (xs ++ x ∷ []) ++ later ≡ map expression_of xs ++ expression_of x ∷ later
map_more [] x later = refl
map_more (y ∷ xs) x later = ap (λ l. expression_of y ∷ l) (map_more xs x later)

joined_more : (xs all : List Expression) (x : Expression) (later : List ExpressionTree) → all ≡ xs ++ x ∷ []
    → map expression_of all ++ later ≡ map expression_of xs ++ expression_of x ∷ later
joined_more xs all x later e = ap (λ l. map expression_of l ++ later) e ∙ map_more xs x later

pub arguments_start : {d : ℕ} {a b : List Item} (xs all : List Expression) (x : Expression) → xs ≡ []
    → all ≡ xs ++ x ∷ [] → StartsFactor (lexeme_at a) → Passes d (expression []) (expression_trees (expression_of x)) a
    b → Leads d (Arguments ∷ []) (MoreArguments ∷ []) (λ y. (map expression_of all ++ y.0, tt)) a b
arguments_start {d} xs all x none e s p =
    leads_as (λ y. ap (λ z. (z ∷ y.0, tt)) (expression_back (expression_of x)) ∙ ap (λ l. (l, tt))
    (sym (joined_more xs all x y.0 e ∙ ap (λ l. map expression_of l ++ expression_of x ∷ y.0) none)))
    (then6 {d = d} {d' = d} p (arguments_begun s) (omega arith))

pub arguments_fail : {d : ℕ} {a : List Item} {x : Refusal} → StartsFactor (lexeme_at a) → Fails d (expression []) a x
    → Fails d (Arguments ∷ []) a x
arguments_fail {d} s f = fail6 {d = d} {d' = d} f (arguments_begun s) (omega arith)

pub arguments_absent : {d : ℕ} {a : List Item} (xs : List Expression) → xs ≡ [] → factor_begin (lexeme_at a) ≡ NoFactor
    → Passes d (Arguments ∷ []) (map expression_of xs, tt) a a
arguments_absent {d} {a} xs none h =
    let P : List Expression → Type 0 = λ l. Passes d (Arguments ∷ []) (map expression_of l, tt) a a in
    subst P (sym none)
    (skip {s = Arguments} (ap (λ b. reply_of_factor b (expression_rest (MoreArguments ∷ []))
    (λ f t. expression_from f t ∷ (behind_rest t).0) []) h))

pub arguments_more : {d : ℕ} {a n p b : List Item} (xs all : List Expression) (x : Expression) → all ≡ xs ++ x ∷ []
    → d ≤ 64 → Leads d (Arguments ∷ []) (MoreArguments ∷ []) (λ y. (map expression_of xs ++ y.0, tt)) a n
    → Found (Mark S.Comma) n p → Passes d (expression []) (expression_trees (expression_of x)) p b
    → Leads d (Arguments ∷ []) (MoreArguments ∷ []) (λ y. (map expression_of all ++ y.0, tt)) a b
arguments_more {d} xs all x e le l w p =
    leads_as (λ y. ap (λ z. (map expression_of xs ++ z ∷ y.0, tt)) (expression_back (expression_of x)) ∙ ap
    (λ l. (l, tt)) (sym (joined_more xs all x y.0 e)))
    (then6 {d = d} {d' = d} p (onto (pushes {s = MoreArguments} (ap reply_more_arguments w.first) w.rest (omega arith))
    l) (omega arith))

pub more_fails : {d : ℕ} {g : Trees (MoreArguments ∷ []) → Trees (Arguments ∷ [])} {a n p : List Item} {x : Refusal}
    → d ≤ 64 → Leads d (Arguments ∷ []) (MoreArguments ∷ []) g a n → Found (Mark S.Comma) n p
    → Fails d (expression []) p x → Fails d (Arguments ∷ []) a x
more_fails {d} le l w f = fail6 {d = d} {d' = d} f
    (onto (pushes {s = MoreArguments} (ap reply_more_arguments w.first) w.rest (omega arith)) l) (omega arith)

no_more : (k : Lexeme) → (k ≡ Mark S.Comma → ⊥) → reply_more_arguments k ≡ Skip []
no_more (Mark S.Comma) h = absurd (h refl)
no_more _ h = refl

pub arguments_end : {d : ℕ} {a n b : List Item} (xs : List Expression)
    → Leads d (Arguments ∷ []) (MoreArguments ∷ []) (λ y. (map expression_of xs ++ y.0, tt)) a n
    → Absent (Mark S.Comma) n b → Passes d (Arguments ∷ []) (map expression_of xs, tt) a b
arguments_end {d} {a} {n} {b} xs l w =
    let P : List Item → Type 0 = λ i. Passes d (Arguments ∷ []) (map expression_of xs, tt) a i in
    subst P (sym w.same) (done (leads_as (λ _. ap (λ l. (l, tt)) (append-nil (map expression_of xs)))
    (then1 {d = d} {d' = d} (skip {s = MoreArguments} (no_more (lexeme_at n) w.first)) l (omega arith))))

-- the name behind a dot
no_dot : (k : Lexeme) → (k ≡ Mark S.Dot → ⊥) → reply_dotted k ≡ Skip None
no_dot (Mark S.Dot) h = absurd (h refl)
no_dot _ h = refl

pub dotted_absent : {d : ℕ} {a b : List Item} → Absent (Mark S.Dot) a b → Passes d (ADottedName ∷ []) (None, tt) a b
dotted_absent {d} {a} {b} w =
    let P : List Item → Type 0 = λ i. Passes d (ADottedName ∷ []) (None, tt) a i in
    subst P (sym w.same) (skip {s = ADottedName} (no_dot (lexeme_at a) w.first))

pub dotted_passes : {d : ℕ} {a p b : List Item} {n : NameTree} → d ≤ 64 → Found (Mark S.Dot) a p → Takes AName n p b
    → Passes d (ADottedName ∷ []) (Some n, tt) a b
dotted_passes {d} le w t =
    done (then1 {d = d} {d' = d} (takes t le) (pushes {s = ADottedName} (ap reply_dotted w.first) w.rest (omega arith))
    (omega arith))

pub dotted_fails : {d : ℕ} {a p : List Item} {x : Refusal} → d ≤ 64 → Found (Mark S.Dot) a p → Rejects AName p x
    → Fails d (ADottedName ∷ []) a x
dotted_fails {d} le w r = fail1 {d = d} {d' = d} (rejects r)
    (pushes {s = ADottedName} (ap reply_dotted w.first) w.rest (omega arith)) (omega arith)

-- a callee, part by part
after_name : {d : ℕ} {a b : List Item} {n : NameTree} → d ≤ 64 → Takes AName n a b
    → Leads d (callee []) (ADottedName ∷ AnOpening ∷ Arguments ∷ AMark S.CloseParen ∷ []) (λ y. (n, y)) a b
after_name {d} le t = then1 {d = d} {d' = d} (takes t le) (here {σ = callee []}) (omega arith)

pub after_dot : {d : ℕ} {a b c : List Item} {n : NameTree} {o : Option NameTree} → d ≤ 64 → Takes AName n a b
    → Passes d (ADottedName ∷ []) (o, tt) b c → Leads d (callee []) (AnOpening ∷ Arguments ∷ AMark S.CloseParen ∷ [])
    (λ y. (n, (o, y))) a c
after_dot {d} le t p = then1 {d = d} {d' = d} p (after_name le t) (omega arith)

pub dot_fails : {d : ℕ} {a b : List Item} {n : NameTree} {x : Refusal} → d ≤ 64 → Takes AName n a b
    → Fails d (ADottedName ∷ []) b x → Fails d (callee []) a x
dot_fails {d} le t f = fail1 {d = d} {d' = d} f (after_name le t) (omega arith)

pub opening_fails : {d : ℕ} {g : Trees (AnOpening ∷ Arguments ∷ AMark S.CloseParen ∷ []) → Trees (callee [])}
    {a b : List Item} {x : Refusal} → Leads d (callee []) (AnOpening ∷ Arguments ∷ AMark S.CloseParen ∷ []) g a b
    → Rejects AnOpening b x → Fails d (callee []) a x
opening_fails {d} l r = fail1 {d = d} {d' = d} (rejects r) l (omega arith)

pub after_opening : {d : ℕ} {g : Trees (AnOpening ∷ Arguments ∷ AMark S.CloseParen ∷ []) → Trees (callee [])}
    {a b c : List Item} {place : Place} → d ≤ 64 → Leads d (callee [])
    (AnOpening ∷ Arguments ∷ AMark S.CloseParen ∷ []) g a b → Takes AnOpening place b c
    → Leads d (callee []) (Arguments ∷ AMark S.CloseParen ∷ []) (λ y. g (place, y)) a c
after_opening {d} le l t = then1 {d = d} {d' = d} (takes t le) l (omega arith)

pub list_fails : {d : ℕ} {g : Trees (Arguments ∷ AMark S.CloseParen ∷ []) → Trees (callee [])} {a b : List Item}
    {x : Refusal} → Leads d (callee []) (Arguments ∷ AMark S.CloseParen ∷ []) g a b → Fails d (Arguments ∷ []) b x
    → Fails d (callee []) a x
list_fails {d} l f = fail1 {d = d} {d' = d} f l (omega arith)

pub closing_fails : {d : ℕ} {g : Trees (Arguments ∷ AMark S.CloseParen ∷ []) → Trees (callee [])} {a b c : List Item}
    {es : List ExpressionTree} {x : Refusal} → Leads d (callee []) (Arguments ∷ AMark S.CloseParen ∷ []) g a b
    → Passes d (Arguments ∷ []) (es, tt) b c → Rejects (AMark S.CloseParen) c x → Fails d (callee []) a x
closing_fails {d} l p r = fail1 {d = d} {d' = d} (rejects r) (then1 {d = d} {d' = d} p l (omega arith)) (omega arith)

pub callee_closes : {d : ℕ} {g : Trees (Arguments ∷ AMark S.CloseParen ∷ []) → Trees (callee [])} {a b c e : List Item}
    {es : List ExpressionTree} → d ≤ 64 → Leads d (callee []) (Arguments ∷ AMark S.CloseParen ∷ []) g a b
    → Passes d (Arguments ∷ []) (es, tt) b c → Takes (AMark S.CloseParen) tt c e
    → Passes d (callee []) (g (es, (tt, tt))) a e
callee_closes {d} le l p t = done (then1 {d = d} {d' = d} (takes t le) (then1 {d = d} {d' = d} p l (omega arith))
    (omega arith))
