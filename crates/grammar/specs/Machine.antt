-- The machine: a stack of what is expected, which each lexeme in turn leads on or stops.
use Rattle.std.specs.Prelude.{ℕ, ◌+◌, List, [], ◌∷◌, ◌++◌, nat_lt, if◌then◌else◌}
use Rattle.scanner.specs.declared.token.Keyword.TheVariants as K
use Rattle.scanner.specs.declared.token.Sign.TheVariants as S
use Rattle.scanner.specs.declared.token.Place.{Place}
use Rattle.scanner.specs.declared.refusal.Refusal.{Refusal}
use Rattle.scanner.specs.declared.refusal.RefusalKind.{RefusalKind}
use Rattle.scanner.specs.declared.refusal.RefusalKind.TheVariants.{Expected, Limit}
use Rattle.syntax.specs.Lexeme.{Lexeme, Finish}
use Rattle.syntax.specs.Tree.{FactorTree, UnitTree}
pub use Rattle.grammar.specs.Items.{Item, item_of, items_of}
pub use Rattle.grammar.specs.Symbols.{Symbol, AWord, AMark, AWordAt, AnOpening, AName, ANumber, AFactor, AnIndex}
pub use Rattle.grammar.specs.Symbols.{Multipliers, Summands, AComparison, Relations, Conjunctions, Arguments}
pub use Rattle.grammar.specs.Symbols.{MoreArguments, ADottedName, AnInto, AValue, Statements, AnElse, AnAborted}
pub use Rattle.grammar.specs.Symbols.{ALocalType, AMemberType, AResultType, AReturns, Locals, Members, Parameters}
pub use Rattle.grammar.specs.Symbols.{MoreParameters, Procedures, MonitorProcedures, ARecover, Monitors, Closed, Tree}
pub use Rattle.grammar.specs.Symbols.{Trees, Reply, Push, Start, Skip, Reject, Beginning, Begins, NoFactor}
pub use Rattle.grammar.specs.Codes.{word_code, sign_code}
pub use Rattle.grammar.specs.ExpressionStack.{term, sum, relation, conjunction, expression, expression_rest, term_tree}
pub use Rattle.grammar.specs.ExpressionStack.{sum_tree, relation_tree, conjunction_tree, expression_tree}
pub use Rattle.grammar.specs.ExpressionStack.{ExpressionParts}
pub use Rattle.grammar.specs.ExpressionStack.{expression_in, behind_expression, RestParts, expression_from}
pub use Rattle.grammar.specs.ExpressionStack.{behind_rest}
pub use Rattle.grammar.specs.ExpressionReplies.{reply_word, reply_mark, reply_word_at, reply_opening, reply_name}
pub use Rattle.grammar.specs.ExpressionReplies.{reply_number, factor_begin, factor_reply, reply_factor, reply_index}
pub use Rattle.grammar.specs.ExpressionReplies.{scales}
pub use Rattle.grammar.specs.ExpressionReplies.{reply_multipliers, adds, reply_summands, compares, reply_comparison}
pub use Rattle.grammar.specs.ExpressionReplies.{reply_relations, reply_conjunctions}
pub use Rattle.grammar.specs.StatementReplies.{reply_of_factor, reply_arguments, reply_more_arguments, reply_dotted}
pub use Rattle.grammar.specs.StatementReplies.{reply_into}
pub use Rattle.grammar.specs.StatementReplies.{reply_value, callee, CalleeParts, callee_in, behind_callee, of_name}
pub use Rattle.grammar.specs.StatementReplies.{reply_statements, reply_else, reply_aborted}
pub use Rattle.grammar.specs.DeclarationReplies.{reply_local_type, reply_member_type, reply_result_type, reply_returns}
pub use Rattle.grammar.specs.DeclarationReplies.{reply_locals, reply_members, reply_parameters, reply_more_parameters}
pub use Rattle.grammar.specs.DeclarationReplies.{procedure, Proceeds, procedure_in, behind_procedure, reply_procedures}
pub use Rattle.grammar.specs.DeclarationReplies.{of_access, reply_monitor_procedures, reply_recover, reply_monitors}
pub use Rattle.grammar.specs.Replies.{reply}

-- the stack after a lexeme, and its trees made of those that are still to come; or all is read; or the lexeme can't
-- stand there
pub data Step (A : Type 0) : Type 0 where
  Onto : (σ : List Symbol) → (Trees σ → A) → Step A
  Over : A → Step A
  Stuck : Step A

-- the same step, to other trees
abbrev pub on_step : {A B : Type 0} → (A → B) → Step A → Step B
on_step g (Onto σ f) = Onto σ (λ t. g (f t))
on_step g (Over x) = Over (g x)
on_step g Stuck = Stuck

-- the trees of two stacks, one upon the other
abbrev pub split : (σ τ : List Symbol) → Trees (σ ++ τ) → Trees σ × Trees τ
split [] τ t = (tt, t)
split (s ∷ σ) τ t = ((t.0, (split σ τ t.1).0), (split σ τ t.1).1)

-- a factor and what follows it, before the trees of a stack
abbrev pub head_and_rest : {A : Type 0} → (τ σ : List Symbol) → (FactorTree → Trees τ → A) → FactorTree
    → Trees (τ ++ σ)
    → A × Trees σ
head_and_rest τ σ g f t = (g f (split τ σ t).0, (split τ σ t).1)

-- the step of a reply, with what the symbols below it make of the lexeme
abbrev pub step_by : {A : Type 0} → (σ : List Symbol) → Reply A → Step (Trees σ) → Step (A × Trees σ)
step_by σ (Push τ f) later = Onto (τ ++ σ) (λ t. (f (split τ σ t).0, (split τ σ t).1))
step_by σ (Start ρ f τ g) later = Onto (ρ ++ (τ ++ σ))
    (λ t. head_and_rest τ σ g (f (split ρ (τ ++ σ) t).0) (split ρ (τ ++ σ) t).1)
step_by σ (Skip x) later = on_step (λ y. (x, y)) later
step_by σ Reject later = Stuck

-- nothing is expected: the text has to end
abbrev pub at_end : Lexeme → Step (Unit {0})
at_end Finish = Over tt
at_end _ = Stuck

-- the step of a whole stack
abbrev pub step : (σ : List Symbol) → Lexeme → Step (Trees σ)
step [] k = at_end k
step (s ∷ σ) k = step_by σ (reply s k) (step σ k)

-- how many nestings are open
abbrev pub nestings : List Symbol → ℕ
nestings [] = 0
nestings (Closed ∷ σ) = nestings σ + 1
nestings (_ ∷ σ) = nestings σ

-- what comes of a list of items: trees, or a refusal
pub data Outcome (A : Type 0) : Type 0 where
  Read : A → Outcome A
  Refused : Refusal → Outcome A

-- the same outcome, with other trees
abbrev pub on_read : {A B : Type 0} → (A → B) → Outcome A → Outcome B
on_read f (Read x) = Read (f x)
on_read f (Refused e) = Refused e

-- where the first item stands
abbrev pub place_at : List Item → Place
place_at [] = record { line = 1; column = 1 }
place_at (t ∷ ts) = t.place

-- the refusal of the first item
abbrev pub refusal_at : RefusalKind → List Item → Refusal
refusal_at kind ts = record { kind = kind; place = place_at ts }

module _ (most : ℕ) where
  -- no more than so many nestings
  abbrev pub onwards : {A : Type 0} → Step A → ((σ : List Symbol) → Outcome (Trees σ)) → List Item → Outcome A
  onwards (Onto σ f) go ts = if nat_lt most (nestings σ) then Refused (refusal_at Limit ts) else on_read f (go σ)
  onwards (Over x) go ts = Read x
  onwards Stuck go ts = Refused (refusal_at Expected ts)

  abbrev pub reads : List Item → (σ : List Symbol) → Outcome (Trees σ)
  reads [] σ = Refused (refusal_at Expected [])
  reads (t ∷ ts) σ = onwards (step σ t.lexeme) (reads ts) (t ∷ ts)

-- a unit, from its first word on
abbrev pub body : List Symbol → List Symbol
body σ = Locals ∷ Statements ∷ AWord K.End ∷ σ

-- the symbols of a unit
abbrev pub unit : List Symbol
unit = AWord K.Program ∷ AName ∷ AMark S.Semicolon ∷ Monitors ∷ Procedures ∷ AWordAt K.Main ∷ body (AMark S.Dot ∷ [])

-- the trees of those symbols
abbrev pub unit_trees : UnitTree → Trees unit
unit_trees u =
    (tt, (u.name, (tt, (u.monitors, (u.procedures, (u.place, (u.body.locals, (u.body.statements, (tt, (tt, tt))))))))))

-- the unit of such trees
abbrev pub unit_in : Trees unit → UnitTree
unit_in t = record {
  name = t.1.0;
  monitors = t.1.1.1.0;
  procedures = t.1.1.1.1.0;
  place = t.1.1.1.1.1.0;
  body =
      record { locals = t.1.1.1.1.1.1.0; statements = t.1.1.1.1.1.1.1.0 };
}
