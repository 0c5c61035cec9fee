-- How deep the trees go that a stack leaves room for.
use Rattle.std.proofs.Common.{◌≡◌, ◌≤◌, ℕ, ◌+◌, Bool, true, false, List, [], ◌∷◌, ◌++◌, Some, None, nat_eq, nat_lt}
use Rattle.std.proofs.Common.{cond, refl, ap, subst, ◌∙◌, arith, max}
use Rattle.scanner.specs.declared.token.Keyword.TheVariants as K
use Rattle.scanner.specs.declared.token.Sign.TheVariants as S
use Rattle.scanner.specs.declared.refusal.RefusalKind.{RefusalKind}
use Rattle.scanner.specs.declared.refusal.RefusalKind.TheVariants.{Limit}
use Rattle.syntax.specs.Lexeme.{Lexeme, Word, WordAt, Mark, MarkAt, Named, Numbered, Finish}
use Rattle.syntax.specs.Nesting.{expression_nesting, conjunctions_nesting, relations_nesting, comparison_nesting}
use Rattle.syntax.specs.Nesting.{summands_nesting, multipliers_nesting, factor_nesting, index_nesting}
use Rattle.syntax.specs.Nesting.{arguments_nesting, value_nesting, statements_nesting, else_nesting, aborted_nesting}
use Rattle.syntax.specs.Nesting.{procedures_nesting, monitor_procedures_nesting, recover_nesting, monitors_nesting}
use Rattle.grammar.specs.Machine.{Symbol, AWord, AMark, AWordAt, AnOpening, AName, ANumber, AFactor, AnIndex}
use Rattle.grammar.specs.Machine.{Multipliers, Summands, AComparison, Relations, Conjunctions, Arguments}
use Rattle.grammar.specs.Machine.{MoreArguments, ADottedName, AnInto, AValue, Statements, AnElse, AnAborted}
use Rattle.grammar.specs.Machine.{ALocalType, AMemberType, AResultType, AReturns, Locals, Members, Parameters}
use Rattle.grammar.specs.Machine.{MoreParameters, Procedures, MonitorProcedures, ARecover, Monitors, Closed, Tree}
use Rattle.grammar.specs.Machine.{Trees, Reply, Push, Start, Skip, Reject, Beginning, Begins, NoFactor, Step, Onto}
use Rattle.grammar.specs.Machine.{Over, Stuck, Item, Read, split, factor_reply, reply_of_factor, factor_begin}
use Rattle.grammar.specs.Machine.{expression}
use Rattle.grammar.specs.Machine.{expression_rest, expression_in, expression_from, behind_rest, at_end, step_by, step}
use Rattle.grammar.specs.Machine.{reply, word_code, sign_code, nestings, reads, onwards, refusal_at}
use Rattle.grammar.proofs.Sound.{trees_text, least, leasts, Undone, undone}
use Rattle.grammar.proofs.Halts.{Halts, stuck, full, goes, read_on, within}

abbrev pub tree_nesting : (s : Symbol) → Tree s → ℕ
tree_nesting (AWord w) x = 0
tree_nesting (AMark s) x = 0
tree_nesting (AWordAt w) x = 0
tree_nesting AnOpening x = 0
tree_nesting AName x = 0
tree_nesting ANumber x = 0
tree_nesting AFactor x = factor_nesting x
tree_nesting AnIndex x = index_nesting x
tree_nesting Multipliers x = multipliers_nesting x
tree_nesting Summands x = summands_nesting x
tree_nesting AComparison x = comparison_nesting x
tree_nesting Relations x = relations_nesting x
tree_nesting Conjunctions x = conjunctions_nesting x
tree_nesting Arguments x = arguments_nesting x
tree_nesting MoreArguments x = arguments_nesting x
tree_nesting ADottedName x = 0
tree_nesting AnInto x = 0
tree_nesting AValue x = value_nesting x
tree_nesting Statements x = statements_nesting x
tree_nesting AnElse x = else_nesting x
tree_nesting AnAborted x = aborted_nesting x
tree_nesting ALocalType x = 0
tree_nesting AMemberType x = 0
tree_nesting AResultType x = 0
tree_nesting AReturns x = 0
tree_nesting Locals x = 0
tree_nesting Members x = 0
tree_nesting Parameters x = 0
tree_nesting MoreParameters x = 0
tree_nesting Procedures x = procedures_nesting x
tree_nesting MonitorProcedures x = monitor_procedures_nesting x
tree_nesting ARecover x = recover_nesting x
tree_nesting Monitors x = monitors_nesting x
tree_nesting Closed x = 0

-- the trees of a stack leave within a bound what is open in each, and n more
abbrev pub Within : ℕ → ℕ → (σ : List Symbol) → Trees σ → Type 0
Within m n [] x = Unit {0}
Within m n (s ∷ σ) x = (tree_nesting s x.0 + (nestings (s ∷ σ) + n) ≤ m) × Within m n σ x.1

pub nest_append : (ρ σ : List Symbol) → nestings (ρ ++ σ) ≡ nestings ρ + nestings σ
nest_append [] σ = omega arith
nest_append (Closed ∷ ρ) σ = omega (arith, nest_append ρ σ)
nest_append (_ ∷ ρ) σ = nest_append ρ σ

-- of a symbol that isn't the end of a nesting
abbrev Lower : (s : Symbol) → Reply (Tree s) → Type 0
Lower s (Push ρ f) = (nestings (s ∷ []) ≡ 0) × ((m n : ℕ) (y : Trees ρ) → n ≤ m → Within m n ρ y
    → tree_nesting s (f y) + n ≤ m)
Lower s (Start ρ f τ g) = (nestings (s ∷ []) ≡ 0) × ((m n : ℕ) (y : Trees ρ) (z : Trees τ) → n ≤ m
    → Within m (nestings τ + n) ρ y → Within m n τ z → tree_nesting s (g (f y) z) + n ≤ m)
Lower s (Skip x) = tree_nesting s x ≡ 0
Lower s Reject = Unit {0}

abbrev LowerBeginning : Beginning → Type 0
LowerBeginning (Begins ρ f) = (m n : ℕ) (y : Trees ρ) → n ≤ m → Within m n ρ y → factor_nesting (f y) + n ≤ m
LowerBeginning NoFactor = Unit {0}

both : (a b n m : ℕ) → a + n ≤ m → b + n ≤ m → max a b + n ≤ m
both a b n m h i = omega arith

bare : (a n m : ℕ) → a + (0 + n) ≤ m → a + n ≤ m
bare a n m h = omega arith

none : (n m : ℕ) → n ≤ m → 0 + n ≤ m
none n m h = omega arith

inner : (a n m : ℕ) → a + (1 + n) ≤ m → a + 1 + n ≤ m
inner a n m h = omega arith

-- six trees in a row make an expression
expression_room : (f fs ts c rs cs n m : ℕ) → f + n ≤ m → fs + n ≤ m → ts + n ≤ m → c + n ≤ m → rs + n ≤ m → cs + n ≤ m
    → max (max (max (max (max f fs) ts) c) rs) cs + n ≤ m
expression_room f fs ts c rs cs n m h1 h2 h3 h4 h5 h6 =
    both (max (max (max (max f fs) ts) c) rs) cs n m
    (both (max (max (max f fs) ts) c) rs n m
    (both (max (max f fs) ts) c n m (both (max f fs) ts n m (both f fs n m h1 h2) h3) h4) h5) h6

expression_within : (m n : ℕ) (σ : List Symbol) (t : Trees (expression σ)) → Within m n (expression σ) t
    → expression_nesting (expression_in t) + (nestings σ + n) ≤ m
expression_within m n σ t w =
    expression_room (factor_nesting t.0) (multipliers_nesting t.1.0) (summands_nesting t.1.1.0)
    (comparison_nesting t.1.1.1.0) (relations_nesting t.1.1.1.1.0) (conjunctions_nesting t.1.1.1.1.1.0)
    (nestings σ + n) m w.0 w.1.0 w.1.1.0 w.1.1.1.0 w.1.1.1.1.0 w.1.1.1.1.1.0

beginning_lower : (k : Lexeme) → LowerBeginning (factor_begin k)
beginning_lower (Numbered x) = λ m n y le w. none n m le
beginning_lower (WordAt K.True place) = λ m n y le w. none n m le
beginning_lower (WordAt K.False place) = λ m n y le w. none n m le
beginning_lower (Named name) = λ m n y le w. bare _ n m w.0
beginning_lower (MarkAt S.OpenParen place) = λ m n y le w. inner _ n m
    (expression_within m n (AMark S.CloseParen ∷ Closed ∷ []) y w)
beginning_lower (MarkAt S.Minus place) = λ m n y le w. inner _ n m w.0
beginning_lower (WordAt K.Not place) = λ m n y le w. inner _ n m w.0
beginning_lower _ = tt

factor_lower : (b : Beginning) → LowerBeginning b → Lower AFactor (factor_reply b)
factor_lower (Begins ρ f) h = (refl, h)
factor_lower NoFactor h = tt

arguments_lower : (b : Beginning) → LowerBeginning b → Lower Arguments
    (reply_of_factor b (expression_rest (MoreArguments ∷ [])) (λ f t. expression_from f t ∷ (behind_rest t).0) [])
arguments_lower (Begins ρ f) h = (
  refl,
  λ m n y z le w v.
      let e = h m (0 + n) y (none n m le) w in
      both _ (arguments_nesting z.1.1.1.1.1.0) n m
      (bare _ n m (expression_room (factor_nesting (f y)) (multipliers_nesting z.0) (summands_nesting z.1.0)
      (comparison_nesting z.1.1.0) (relations_nesting z.1.1.1.0) (conjunctions_nesting z.1.1.1.1.0) (0 + n) m e v.0
      v.1.0 v.1.1.0 v.1.1.1.0 v.1.1.1.1.0)) (bare _ n m v.1.1.1.1.1.0),
)
arguments_lower NoFactor h = refl

value_lower : (b : Beginning) → LowerBeginning b
    → Lower AValue (reply_of_factor b (expression_rest []) (λ f t. Some (expression_from f t)) None)
value_lower (Begins ρ f) h = (
  refl,
  λ m n y z le w v.
      let e = h m (0 + n) y (none n m le) w in
      bare _ n m (expression_room (factor_nesting (f y)) (multipliers_nesting z.0) (summands_nesting z.1.0)
      (comparison_nesting z.1.1.0) (relations_nesting z.1.1.1.0) (conjunctions_nesting z.1.1.1.1.0) (0 + n) m e v.0
      v.1.0 v.1.1.0 v.1.1.1.0 v.1.1.1.1.0),
)
value_lower NoFactor h = refl

word_lower : (s : Symbol) (b : Bool) (r q : Reply (Tree s)) → Lower s r → Lower s q → Lower s (cond b r q)
word_lower s true r q h i = h
word_lower s false r q h i = i

if_room : (e a part rest n m : ℕ) → e + (1 + n) ≤ m → a + (1 + n) ≤ m → part + (1 + n) ≤ m → rest + (0 + n) ≤ m
    → max (max e (max a part) + 1) rest + n ≤ m
if_room e a part rest n m h1 h2 h3 h4 = omega arith

while_room : (e a rest n m : ℕ) → e + (1 + n) ≤ m → a + (1 + n) ≤ m → rest + (0 + n) ≤ m
    → max (max e a + 1) rest + n ≤ m
while_room e a rest n m h1 h2 h3 = omega arith

two_room : (a rest n m : ℕ) → a + (0 + n) ≤ m → rest + (0 + n) ≤ m → max a rest + n ≤ m
two_room a rest n m h1 h2 = omega arith

three_room : (a b rest n m : ℕ) → a + (0 + n) ≤ m → b + (0 + n) ≤ m → rest + (0 + n) ≤ m → max (max a b) rest + n ≤ m
three_room a b rest n m h1 h2 h3 = omega arith

rest_room : (rest n m : ℕ) → rest + (0 + n) ≤ m → max 0 rest + n ≤ m
rest_room rest n m h = omega arith

lower : (s : Symbol) (k : Lexeme) → Lower s (reply s k)
lower (AWord w) (Word v) = word_lower (AWord w) (nat_eq (word_code w) (word_code v)) (Push [] (λ _. tt)) Reject
    (refl, λ m n y le w. none n m le) tt
lower (AWord w) _ = tt
lower (AMark s) (Mark r) = word_lower (AMark s) (nat_eq (sign_code s) (sign_code r)) (Push [] (λ _. tt)) Reject
    (refl, λ m n y le w. none n m le) tt
lower (AMark s) _ = tt
lower (AWordAt w) (WordAt v place) = word_lower (AWordAt w) (nat_eq (word_code w) (word_code v)) (Push [] (λ _. place))
    Reject (refl, λ m n y le w. none n m le) tt
lower (AWordAt w) _ = tt
lower AnOpening (MarkAt S.OpenParen place) = (refl, λ m n y le w. none n m le)
lower AnOpening _ = tt
lower AName (Named x) = (refl, λ m n y le w. none n m le)
lower AName _ = tt
lower ANumber (Numbered x) = (refl, λ m n y le w. none n m le)
lower ANumber _ = tt
lower AFactor k = factor_lower (factor_begin k) (beginning_lower k)
lower AnIndex (Mark S.OpenBracket) =
    (refl, λ m n y le w. inner _ n m (expression_within m n (AMark S.CloseBracket ∷ Closed ∷ []) y w))
lower AnIndex _ = refl
lower Multipliers (Mark S.Times) = (refl, λ m n y le w. two_room _ _ n m w.0 w.1.0)
lower Multipliers (Mark S.Divide) = (refl, λ m n y le w. two_room _ _ n m w.0 w.1.0)
lower Multipliers (Word K.Mod) = (refl, λ m n y le w. two_room _ _ n m w.0 w.1.0)
lower Multipliers _ = refl
lower Summands (MarkAt S.Plus place) = (refl, λ m n y le w. three_room _ _ _ n m w.0 w.1.0 w.1.1.0)
lower Summands (MarkAt S.Minus place) = (refl, λ m n y le w. three_room _ _ _ n m w.0 w.1.0 w.1.1.0)
lower Summands _ = refl
lower AComparison (Mark S.Equal) = (refl, λ m n y le w. three_room _ _ _ n m w.0 w.1.0 w.1.1.0)
lower AComparison (Mark S.NotEqual) = (refl, λ m n y le w. three_room _ _ _ n m w.0 w.1.0 w.1.1.0)
lower AComparison (Mark S.Less) = (refl, λ m n y le w. three_room _ _ _ n m w.0 w.1.0 w.1.1.0)
lower AComparison (Mark S.LessEqual) = (refl, λ m n y le w. three_room _ _ _ n m w.0 w.1.0 w.1.1.0)
lower AComparison (Mark S.Greater) = (refl, λ m n y le w. three_room _ _ _ n m w.0 w.1.0 w.1.1.0)
lower AComparison (Mark S.GreaterEqual) = (refl, λ m n y le w. three_room _ _ _ n m w.0 w.1.0 w.1.1.0)
lower AComparison _ = refl
lower Relations (Word K.And) = (
  refl,
  λ m n y le w. bare _ n m (both _ _ (0 + n) m
      (both _ _ (0 + n) m (both _ _ (0 + n) m (both _ _ (0 + n) m w.0 w.1.0) w.1.1.0) w.1.1.1.0) w.1.1.1.1.0),
)
lower Relations _ = refl
lower Conjunctions (Word K.Or) = (refl, λ m n y le w. bare _ n m (expression_within m n [] y w))
lower Conjunctions _ = refl
lower Arguments k = arguments_lower (factor_begin k) (beginning_lower k)
lower MoreArguments (Mark S.Comma) = (
  refl,
  λ m n y le w. two_room _ _ n m
      (expression_within m n (MoreArguments ∷ []) y w) w.1.1.1.1.1.1.0,
)
lower MoreArguments _ = refl
lower ADottedName (Mark S.Dot) = (refl, λ m n y le w. none n m le)
lower ADottedName _ = refl
lower AnInto (Word K.Into) = (refl, λ m n y le w. none n m le)
lower AnInto _ = refl
lower AValue k = value_lower (factor_begin k) (beginning_lower k)
lower Statements (Named x) = (
  refl,
  λ m n y le w. three_room _ _ _ n m w.0
      (expression_within m n (AMark S.Semicolon ∷ Statements ∷ []) y.1.1 w.1.1) w.1.1.1.1.1.1.1.1.1.0,
)
lower Statements (WordAt K.If place) = (
  refl,
  λ m n y le w. let u = w.1.1.1.1.1.1 in
      if_room _ _ _ _ n m (expression_within m n
      (AWord K.Then ∷ Statements ∷ AnElse ∷ AWord K.Endif ∷ Closed ∷ AMark S.Semicolon ∷ Statements ∷ []) y w) u.1.0
      u.1.1.0 u.1.1.1.1.1.1.0,
)
lower Statements (WordAt K.While place) = (
  refl,
  λ m n y le w. let u = w.1.1.1.1.1.1 in
      while_room _ _ _ n m (expression_within m n
      (AWord K.Do ∷ Statements ∷ AWord K.Endloop ∷ Closed ∷ AMark S.Semicolon ∷ Statements ∷ []) y w) u.1.0
      u.1.1.1.1.1.0,
)
lower Statements (WordAt K.Call place) = (refl, λ m n y le w. two_room _ _ n m w.1.1.1.0 w.1.1.1.1.1.1.1.0)
lower Statements (WordAt K.Fork place) = (refl, λ m n y le w. two_room _ _ n m w.1.1.1.0 w.1.1.1.1.1.1.1.1.0)
lower Statements (WordAt K.Join place) = (
  refl,
  λ m n y le w. let u = w.1.1.1.1.1.1 in
      three_room _ _ _ n m (expression_within m n (AnInto ∷ AnAborted ∷ AMark S.Semicolon ∷ Statements ∷ []) y w) u.1.0
      u.1.1.1.0,
)
lower Statements (WordAt K.Return place) = (refl, λ m n y le w. two_room _ _ n m w.0 w.1.1.0)
lower Statements (WordAt K.Wait place) = (refl, λ m n y le w. rest_room _ n m w.1.1.0)
lower Statements (WordAt K.Notify place) = (refl, λ m n y le w. rest_room _ n m w.1.1.0)
lower Statements (WordAt K.Broadcast place) = (refl, λ m n y le w. rest_room _ n m w.1.1.0)
lower Statements (WordAt K.Print place) = (
  refl,
  λ m n y le w. two_room _ _ n m
      (expression_within m n (AMark S.Semicolon ∷ Statements ∷ []) y w) w.1.1.1.1.1.1.1.0,
)
lower Statements (WordAt K.Abort place) = (refl, λ m n y le w. rest_room _ n m w.1.0)
lower Statements _ = refl
lower AnElse (Word K.Else) = (refl, λ m n y le w. bare _ n m w.0)
lower AnElse _ = refl
lower AnAborted (Word K.Aborted) = (refl, λ m n y le w. inner _ n m w.0)
lower AnAborted _ = refl
lower ALocalType (Word K.Integer) = (refl, λ m n y le w. none n m le)
lower ALocalType (Word K.Boolean) = (refl, λ m n y le w. none n m le)
lower ALocalType (Word K.Process) = (refl, λ m n y le w. none n m le)
lower ALocalType _ = tt
lower AMemberType (Word K.Integer) = (refl, λ m n y le w. none n m le)
lower AMemberType (Word K.Boolean) = (refl, λ m n y le w. none n m le)
lower AMemberType (Word K.Process) = (refl, λ m n y le w. none n m le)
lower AMemberType (Word K.Condition) = (refl, λ m n y le w. none n m le)
lower AMemberType (Word K.Array) = (refl, λ m n y le w. none n m le)
lower AMemberType _ = tt
lower AResultType (Word K.Integer) = (refl, λ m n y le w. none n m le)
lower AResultType (Word K.Boolean) = (refl, λ m n y le w. none n m le)
lower AResultType _ = tt
lower AReturns (Mark S.Colon) = (refl, λ m n y le w. none n m le)
lower AReturns _ = refl
lower Locals (WordAt K.Var place) = (refl, λ m n y le w. none n m le)
lower Locals _ = refl
lower Members (WordAt K.Var place) = (refl, λ m n y le w. none n m le)
lower Members _ = refl
lower Parameters (Named x) = (refl, λ m n y le w. none n m le)
lower Parameters _ = refl
lower MoreParameters (Mark S.Comma) = (refl, λ m n y le w. none n m le)
lower MoreParameters _ = refl
lower Procedures (WordAt K.Procedure place) =
    (refl, λ m n y le w. let u = w.1.1.1.1.1.1.1 in two_room _ _ n m u.0 u.1.1.1.0)
lower Procedures _ = refl
lower MonitorProcedures (Word K.Entry) = (
  refl,
  λ m n y le w. let u = w.1.1.1.1.1.1.1.1 in
      two_room _ _ n m u.0 u.1.1.1.0,
)
lower MonitorProcedures (Word K.Internal) = (
  refl,
  λ m n y le w. let u = w.1.1.1.1.1.1.1.1 in
      two_room _ _ n m u.0 u.1.1.1.0,
)
lower MonitorProcedures _ = refl
lower ARecover (WordAt K.Recover place) = (refl, λ m n y le w. bare _ n m w.1.0)
lower ARecover _ = refl
lower Monitors (WordAt K.Monitor place) = (
  refl,
  λ m n y le w. three_room _ _ _ n m w.1.1.1.0 w.1.1.1.1.0
      w.1.1.1.1.1.1.1.0,
)
lower Monitors _ = refl
lower Closed k = refl

within_split : (m n : ℕ) (ρ σ : List Symbol) (y : Trees (ρ ++ σ)) → Within m n (ρ ++ σ) y
    → Within m (nestings σ + n) ρ (split ρ σ y).0 × Within m n σ (split ρ σ y).1
within_split m n [] σ y w = (tt, w)
within_split m n (s ∷ ρ) σ y w =
    let h = within_split m n ρ σ y.1 w.1 in
    let e : nestings (s ∷ (ρ ++ σ)) ≡ nestings (s ∷ ρ) + nestings σ = nest_append (s ∷ ρ) σ in
    ((omega (arith, w.0, e), h.0), h.1)

abbrev Lowers : ℕ → (σ : List Symbol) → Step (Trees σ) → Type 0
Lowers m σ (Onto τ f) = (y : Trees τ) → Within m 0 τ y → Within m 0 σ (f y)
Lowers m σ (Over x) = Within m 0 σ x
Lowers m σ Stuck = Unit {0}

at_head : (a o s m : ℕ) → o ≡ 0 + s → a + (s + 0) ≤ m → a + (o + 0) ≤ m
at_head a o s m e h = omega arith

at_skip : (a o m : ℕ) → a ≡ 0 → o ≤ m → a + (o + 0) ≤ m
at_skip a o m e h = omega arith

below : (o s t m : ℕ) → o ≡ s + t → o ≤ m → t + 0 ≤ m
below o s t m e h = omega arith

by_lower : (m : ℕ) (s : Symbol) (σ : List Symbol) (r : Reply (Tree s)) (st : Step (Trees σ)) → nestings (s ∷ σ) ≤ m
    → Lower s r → Lowers m σ st → Lowers m (s ∷ σ) (step_by σ r st)
by_lower m s σ (Push ρ f) st le h i = λ y w.
    let p = within_split m 0 ρ σ y w in
    let e : nestings (s ∷ σ) ≡ nestings (s ∷ []) + nestings σ = nest_append (s ∷ []) σ in
    let q = h.1 m (nestings σ + 0) (split ρ σ y).0 (below _ _ _ m e le) p.0 in
    (at_head _ _ (nestings σ) m (e ∙ ap (λ o. o + nestings σ) h.0) q, p.1)
by_lower m s σ (Start ρ f τ g) st le h i = λ y w.
    let p = within_split m 0 ρ (τ ++ σ) y w in
    let u = within_split m 0 τ σ (split ρ (τ ++ σ) y).1 p.1 in
    let e : nestings (s ∷ σ) ≡ nestings (s ∷ []) + nestings σ = nest_append (s ∷ []) σ in
    let P : ℕ → Type 0 = λ o. Within m o ρ (split ρ (τ ++ σ) y).0 in
    let d : nestings (τ ++ σ) + 0 ≡ nestings τ + (nestings σ + 0) = omega (arith, nest_append τ σ) in
    let q = h.1 m (nestings σ + 0) (split ρ (τ ++ σ) y).0 (split τ σ (split ρ (τ ++ σ) y).1).0 (below _ _ _ m e le)
    (subst P d p.0) u.0 in
    (at_head _ _ (nestings σ) m (e ∙ ap (λ o. o + nestings σ) h.0) q, u.1)
by_lower m s σ (Skip x) (Onto τ f) le h i = λ y w. (at_skip _ _ m h le, i y w)
by_lower m s σ (Skip x) (Over z) le h i = (at_skip _ _ m h le, i)
by_lower m s σ (Skip x) Stuck le h i = tt
by_lower m s σ Reject st le h i = tt

under : (m : ℕ) (s : Symbol) (σ : List Symbol) → nestings (s ∷ σ) ≤ m → nestings σ ≤ m
under m s σ le =
    let e : nestings (s ∷ σ) ≡ nestings (s ∷ []) + nestings σ = nest_append (s ∷ []) σ in
    omega (arith, e)

end_lower : (m : ℕ) (k : Lexeme) → Lowers m [] (at_end k)
end_lower m Finish = tt
end_lower m _ = tt

lowers : (m : ℕ) (σ : List Symbol) (k : Lexeme) → nestings σ ≤ m → Lowers m σ (step σ k)
lowers m [] k le = end_lower m k
lowers m (s ∷ σ) k le = by_lower m s σ (reply s k) (step σ k) le (lower s k) (lowers m σ k (under m s σ le))

least_nesting : (s : Symbol) → tree_nesting s (least s) ≡ 0
least_nesting (AWord w) = refl
least_nesting _ = refl

-- the least trees of a stack go no deeper than it
least_within : (m : ℕ) (σ : List Symbol) → nestings σ ≤ m → Within m 0 σ (leasts σ)
least_within m [] le = tt
least_within m (s ∷ σ) le = (at_skip _ _ m (least_nesting s) le, least_within m σ (under m s σ le))

-- what stands before a refusal begins a text within the limit
pub begins : {m : ℕ} {σ : List Symbol} {front : List Lexeme} {k : Lexeme} {kind : RefusalKind} → nestings σ ≤ m
    → Halts m σ front k kind → (x : Trees σ) × (rest : List Lexeme) × (trees_text σ x (Finish ∷ []) ≡ front ++ rest) ×
    Within m 0 σ x
begins {m = m} low (stuck {σ = σ} h) = (leasts σ, trees_text σ (leasts σ) (Finish ∷ []), refl, least_within m σ low)
begins {m = m} low (full {σ = σ} h lt) = (leasts σ, trees_text σ (leasts σ) (Finish ∷ []), refl, least_within m σ low)
begins {m = m} low (goes {σ = σ} {τ = τ} {j = j} {f = f} h le next) =
    let x = begins le next in
    let P : Step (Trees σ) → Type 0 = Lowers m σ in
    let Q : Step (Trees σ) → Type 0 = Undone σ j in
    let d = subst P h (lowers m σ j low) x.0 in
    (f x.0, x.1, subst Q h (undone σ j) x.0 (Finish ∷ []) ∙ ap (λ l. j ∷ l) x.2, d x.3)

-- a lexeme that would open one nesting too many could stand there
pub could : {m : ℕ} {σ : List Symbol} {front : List Lexeme} {k : Lexeme} {kind : RefusalKind} → kind ≡ Limit
    → Halts m σ front k kind → (x : Trees σ) × (rest : List Lexeme) ×
    (trees_text σ x (Finish ∷ []) ≡ front ++ k ∷ rest)
could l (stuck h) = cc
could l (full {σ = σ} {τ = τ} {k = k} {f = f} h lt) =
    let Q : Step (Trees σ) → Type 0 = Undone σ k in
    (f (leasts τ), trees_text τ (leasts τ) (Finish ∷ []), subst Q h (undone σ k) (leasts τ) (Finish ∷ []))
could l (goes {σ = σ} {j = j} {f = f} h le next) =
    let x = could l next in
    let Q : Step (Trees σ) → Type 0 = Undone σ j in
    (f x.0, x.1, subst Q h (undone σ j) x.0 (Finish ∷ []) ∙ ap (λ l. j ∷ l) x.2)

step_within : (m : ℕ) (σ : List Symbol) (st : Step (Trees σ)) (t : Item) (ts : List Item) (x : Trees σ) → Lowers m σ st
    → ((τ : List Symbol) (y : Trees τ) → nestings τ ≤ m → reads m ts τ ≡ Read y → Within m 0 τ y)
    → onwards m st (reads m ts) (t ∷ ts) ≡ Read x → Within m 0 σ x
step_within m σ (Onto τ f) t ts x l next h =
    let z = read_on (nat_lt m (nestings τ)) f (reads m ts τ) (refusal_at Limit (t ∷ ts)) x h in
    let P : Trees σ → Type 0 = Within m 0 σ in
    subst P z.3 (l z.1 (next τ z.1 (within m (nestings τ) z.0) z.2))
step_within m σ (Over y) t ts x l next h =
    let P : Trees σ → Type 0 = Within m 0 σ in
    let made : y ≡ x = cc in
    subst P made l
step_within m σ Stuck t ts x l next h = absurd (cc)

-- what is read is within the limit
pub read_within : (m : ℕ) (ts : List Item) (σ : List Symbol) (x : Trees σ) → nestings σ ≤ m → reads m ts σ ≡ Read x
    → Within m 0 σ x
read_within m [] σ x le h = absurd (cc)
read_within m (t ∷ ts) σ x le h = step_within m σ (step σ t.lexeme) t ts x (lowers m σ t.lexeme le)
    (λ τ y. read_within m ts τ y) h
