-- What is read is spelled so.
use Rattle.std.proofs.Common.{◌≡◌, Bool, true, false, List, [], ◌∷◌, ◌++◌, Some, None, nat_eq, cond, refl, ap, sym}
use Rattle.std.proofs.Common.{◌∙◌}
use Rattle.scanner.specs.declared.token.Keyword.{Keyword}
use Rattle.scanner.specs.declared.token.Keyword.TheVariants as K
use Rattle.scanner.specs.declared.token.Sign.{Sign}
use Rattle.scanner.specs.declared.token.Sign.TheVariants as S
use Rattle.scanner.specs.declared.token.Place.{Place}
use Rattle.syntax.specs.declared.declaration.LocalType.TheVariants as L
use Rattle.syntax.specs.declared.declaration.MemberType.TheVariants as M
use Rattle.syntax.specs.declared.declaration.ResultType.TheVariants as R
use Rattle.syntax.specs.Lexeme.{Lexeme, Word, WordAt, Mark, MarkAt, Named, Numbered, Finish}
use Rattle.syntax.specs.Tree.{NoConjunctions, NoRelations, NoComparison, NoSummands, NoMultipliers, Constant, NoIndex}
use Rattle.syntax.specs.Tree.{NoStatements, NoPart}
use Rattle.syntax.specs.Spelling.{conjunctions_text, relations_text, comparison_text, summands_text, multipliers_text}
use Rattle.syntax.specs.Spelling.{factor_text, index_text, arguments_text, more_arguments_text, dotted_text, into_text}
use Rattle.syntax.specs.Spelling.{value_text, statements_text, else_text, aborted_text, local_type_text}
use Rattle.syntax.specs.Spelling.{result_type_text, member_type_text, locals_text, members_text, parameters_text}
use Rattle.syntax.specs.Spelling.{more_parameters_text, returns_text, procedures_text, monitor_procedures_text}
use Rattle.syntax.specs.Spelling.{recover_text, monitors_text}
use Rattle.grammar.specs.Machine.{Symbol, AWord, AMark, AWordAt, AnOpening, AName, ANumber, AFactor, AnIndex}
use Rattle.grammar.specs.Machine.{Multipliers, Summands, AComparison, Relations, Conjunctions, Arguments}
use Rattle.grammar.specs.Machine.{MoreArguments, ADottedName, AnInto, AValue, Statements, AnElse, AnAborted}
use Rattle.grammar.specs.Machine.{ALocalType, AMemberType, AResultType, AReturns, Locals, Members, Parameters}
use Rattle.grammar.specs.Machine.{MoreParameters, Procedures, MonitorProcedures, ARecover, Monitors, Closed, Tree}
use Rattle.grammar.specs.Machine.{Trees, Reply, Push, Start, Skip, Reject, Beginning, Begins, NoFactor, Step, Onto}
use Rattle.grammar.specs.Machine.{Over, Stuck, split, factor_reply, reply_of_factor, factor_begin, expression_rest}
use Rattle.grammar.specs.Machine.{expression_from}
use Rattle.grammar.specs.Machine.{behind_rest, at_end, step_by, step, reply, word_code, sign_code}
use Rattle.grammar.proofs.Codes.{same_word, same_sign}

-- what the tree of a symbol, and the trees of a stack, are spelled as before what follows
abbrev pub tree_text : (s : Symbol) → Tree s → List Lexeme → List Lexeme
tree_text (AWord w) x ks = Word w ∷ ks
tree_text (AMark s) x ks = Mark s ∷ ks
tree_text (AWordAt w) place ks = WordAt w place ∷ ks
tree_text AnOpening place ks = MarkAt S.OpenParen place ∷ ks
tree_text AName x ks = Named x ∷ ks
tree_text ANumber n ks = Numbered n ∷ ks
tree_text AFactor x ks = factor_text x ks
tree_text AnIndex x ks = index_text x ks
tree_text Multipliers x ks = multipliers_text x ks
tree_text Summands x ks = summands_text x ks
tree_text AComparison x ks = comparison_text x ks
tree_text Relations x ks = relations_text x ks
tree_text Conjunctions x ks = conjunctions_text x ks
tree_text Arguments x ks = arguments_text x ks
tree_text MoreArguments x ks = more_arguments_text x ks
tree_text ADottedName x ks = dotted_text x ks
tree_text AnInto x ks = into_text x ks
tree_text AValue x ks = value_text x ks
tree_text Statements x ks = statements_text x ks
tree_text AnElse x ks = else_text x ks
tree_text AnAborted x ks = aborted_text x ks
tree_text ALocalType x ks = local_type_text x ∷ ks
tree_text AMemberType x ks = member_type_text x ks
tree_text AResultType x ks = result_type_text x ∷ ks
tree_text AReturns x ks = returns_text x ks
tree_text Locals x ks = locals_text x ks
tree_text Members x ks = members_text x ks
tree_text Parameters x ks = parameters_text x ks
tree_text MoreParameters x ks = more_parameters_text x ks
tree_text Procedures x ks = procedures_text x ks
tree_text MonitorProcedures x ks = monitor_procedures_text x ks
tree_text ARecover x ks = recover_text x ks
tree_text Monitors x ks = monitors_text x ks
tree_text Closed x ks = ks

abbrev pub trees_text : (σ : List Symbol) → Trees σ → List Lexeme → List Lexeme
trees_text [] x ks = ks
trees_text (s ∷ σ) x ks = tree_text s x.0 (trees_text σ x.1 ks)

-- a tree for each symbol
abbrev pub nowhere : Place
nowhere = record { line = 0; column = 0 }

abbrev pub least : (s : Symbol) → Tree s
least (AWord w) = tt
least (AMark s) = tt
least (AWordAt w) = nowhere
least AnOpening = nowhere
least AName = record { text = []; place = nowhere }
least ANumber = record { value = 0; place = nowhere }
least AFactor = Constant (record { value = 0; place = nowhere })
least AnIndex = NoIndex
least Multipliers = NoMultipliers
least Summands = NoSummands
least AComparison = NoComparison
least Relations = NoRelations
least Conjunctions = NoConjunctions
least Arguments = []
least MoreArguments = []
least ADottedName = None
least AnInto = None
least AValue = None
least Statements = NoStatements
least AnElse = NoPart
least AnAborted = NoPart
least ALocalType = L.Integer
least AMemberType = M.Integer
least AResultType = R.Integer
least AReturns = None
least Locals = []
least Members = []
least Parameters = []
least MoreParameters = []
least Procedures = []
least MonitorProcedures = []
least ARecover = None
least Monitors = []
least Closed = tt

abbrev pub leasts : (σ : List Symbol) → Trees σ
leasts [] = tt
leasts (s ∷ σ) = (least s, leasts σ)

-- a reply spells the lexeme
abbrev Undo : (s : Symbol) → Lexeme → Reply (Tree s) → Type 0
Undo s k (Push ρ f) = (y : Trees ρ) (ks : List Lexeme) → tree_text s (f y) ks ≡ k ∷ trees_text ρ y ks
Undo s k (Start ρ f τ g) = (y : Trees ρ) (z : Trees τ) (ks : List Lexeme)
    → tree_text s (g (f y) z) ks ≡ k ∷ trees_text ρ y (trees_text τ z ks)
Undo s k (Skip x) = (ks : List Lexeme) → tree_text s x ks ≡ ks
Undo s k Reject = Unit {0}

abbrev UndoBeginning : Lexeme → Beginning → Type 0
UndoBeginning k (Begins ρ f) = (y : Trees ρ) (ks : List Lexeme) → factor_text (f y) ks ≡ k ∷ trees_text ρ y ks
UndoBeginning k NoFactor = Unit {0}

word_undo : (w v : Keyword) (b : Bool) → (b ≡ true → w ≡ v) → Undo (AWord w) (Word v)
    (cond b (Push [] (λ _. tt)) Reject)
word_undo w v true h = λ y ks. ap (λ u. Word u ∷ ks) (h refl)
word_undo w v false h = tt

mark_undo : (s r : Sign) (b : Bool) → (b ≡ true → s ≡ r) → Undo (AMark s) (Mark r) (cond b (Push [] (λ _. tt)) Reject)
mark_undo s r true h = λ y ks. ap (λ u. Mark u ∷ ks) (h refl)
mark_undo s r false h = tt

word_at_undo : (w v : Keyword) (place : Place) (b : Bool) → (b ≡ true → w ≡ v)
    → Undo (AWordAt w) (WordAt v place) (cond b (Push [] (λ _. place)) Reject)
word_at_undo w v place true h = λ y ks. ap (λ u. WordAt u place ∷ ks) (h refl)
word_at_undo w v place false h = tt

beginning_undo : (k : Lexeme) → UndoBeginning k (factor_begin k)
beginning_undo (Numbered n) = λ y ks. refl
beginning_undo (WordAt K.True place) = λ y ks. refl
beginning_undo (WordAt K.False place) = λ y ks. refl
beginning_undo (Named name) = λ y ks. refl
beginning_undo (MarkAt S.OpenParen place) = λ y ks. refl
beginning_undo (MarkAt S.Minus place) = λ y ks. refl
beginning_undo (WordAt K.Not place) = λ y ks. refl
beginning_undo _ = tt

factor_undo : (k : Lexeme) (b : Beginning) → UndoBeginning k b → Undo AFactor k (factor_reply b)
factor_undo k (Begins ρ f) h = h
factor_undo k NoFactor h = tt

arguments_undo : (k : Lexeme) (b : Beginning) → UndoBeginning k b → Undo Arguments k
    (reply_of_factor b (expression_rest (MoreArguments ∷ [])) (λ f t. expression_from f t ∷ (behind_rest t).0) [])
arguments_undo k (Begins ρ f) h = λ y z ks. h y (trees_text (expression_rest (MoreArguments ∷ [])) z ks)
arguments_undo k NoFactor h = λ ks. refl

value_undo : (k : Lexeme) (b : Beginning) → UndoBeginning k b → Undo AValue k
    (reply_of_factor b (expression_rest []) (λ f t. Some (expression_from f t)) None)
value_undo k (Begins ρ f) h = λ y z ks. h y (trees_text (expression_rest []) z ks)
value_undo k NoFactor h = λ ks. refl

undo : (s : Symbol) (k : Lexeme) → Undo s k (reply s k)
undo (AWord w) (Word v) = word_undo w v (nat_eq (word_code w) (word_code v)) (same_word w v)
undo (AWord w) _ = tt
undo (AMark s) (Mark r) = mark_undo s r (nat_eq (sign_code s) (sign_code r)) (same_sign s r)
undo (AMark s) _ = tt
undo (AWordAt w) (WordAt v place) = word_at_undo w v place (nat_eq (word_code w) (word_code v)) (same_word w v)
undo (AWordAt w) _ = tt
undo AnOpening (MarkAt S.OpenParen place) = λ y ks. refl
undo AnOpening _ = tt
undo AName (Named x) = λ y ks. refl
undo AName _ = tt
undo ANumber (Numbered n) = λ y ks. refl
undo ANumber _ = tt
undo AFactor k = factor_undo k (factor_begin k) (beginning_undo k)
undo AnIndex (Mark S.OpenBracket) = λ y ks. refl
undo AnIndex _ = λ ks. refl
undo Multipliers (Mark S.Times) = λ y ks. refl
undo Multipliers (Mark S.Divide) = λ y ks. refl
undo Multipliers (Word K.Mod) = λ y ks. refl
undo Multipliers _ = λ ks. refl
undo Summands (MarkAt S.Plus place) = λ y ks. refl
undo Summands (MarkAt S.Minus place) = λ y ks. refl
undo Summands _ = λ ks. refl
undo AComparison (Mark S.Equal) = λ y ks. refl
undo AComparison (Mark S.NotEqual) = λ y ks. refl
undo AComparison (Mark S.Less) = λ y ks. refl
undo AComparison (Mark S.LessEqual) = λ y ks. refl
undo AComparison (Mark S.Greater) = λ y ks. refl
undo AComparison (Mark S.GreaterEqual) = λ y ks. refl
undo AComparison _ = λ ks. refl
undo Relations (Word K.And) = λ y ks. refl
undo Relations _ = λ ks. refl
undo Conjunctions (Word K.Or) = λ y ks. refl
undo Conjunctions _ = λ ks. refl
undo Arguments k = arguments_undo k (factor_begin k) (beginning_undo k)
undo MoreArguments (Mark S.Comma) = λ y ks. refl
undo MoreArguments _ = λ ks. refl
undo ADottedName (Mark S.Dot) = λ y ks. refl
undo ADottedName _ = λ ks. refl
undo AnInto (Word K.Into) = λ y ks. refl
undo AnInto _ = λ ks. refl
undo AValue k = value_undo k (factor_begin k) (beginning_undo k)
undo Statements (Named x) = λ y ks. refl
undo Statements (WordAt K.If place) = λ y ks. refl
undo Statements (WordAt K.While place) = λ y ks. refl
undo Statements (WordAt K.Call place) = λ y ks. refl
undo Statements (WordAt K.Fork place) = λ y ks. refl
undo Statements (WordAt K.Join place) = λ y ks. refl
undo Statements (WordAt K.Return place) = λ y ks. refl
undo Statements (WordAt K.Wait place) = λ y ks. refl
undo Statements (WordAt K.Notify place) = λ y ks. refl
undo Statements (WordAt K.Broadcast place) = λ y ks. refl
undo Statements (WordAt K.Print place) = λ y ks. refl
undo Statements (WordAt K.Abort place) = λ y ks. refl
undo Statements _ = λ ks. refl
undo AnElse (Word K.Else) = λ y ks. refl
undo AnElse _ = λ ks. refl
undo AnAborted (Word K.Aborted) = λ y ks. refl
undo AnAborted _ = λ ks. refl
undo ALocalType (Word K.Integer) = λ y ks. refl
undo ALocalType (Word K.Boolean) = λ y ks. refl
undo ALocalType (Word K.Process) = λ y ks. refl
undo ALocalType _ = tt
undo AMemberType (Word K.Integer) = λ y ks. refl
undo AMemberType (Word K.Boolean) = λ y ks. refl
undo AMemberType (Word K.Process) = λ y ks. refl
undo AMemberType (Word K.Condition) = λ y ks. refl
undo AMemberType (Word K.Array) = λ y ks. refl
undo AMemberType _ = tt
undo AResultType (Word K.Integer) = λ y ks. refl
undo AResultType (Word K.Boolean) = λ y ks. refl
undo AResultType _ = tt
undo AReturns (Mark S.Colon) = λ y ks. refl
undo AReturns _ = λ ks. refl
undo Locals (WordAt K.Var place) = λ y ks. refl
undo Locals _ = λ ks. refl
undo Members (WordAt K.Var place) = λ y ks. refl
undo Members _ = λ ks. refl
undo Parameters (Named x) = λ y ks. refl
undo Parameters _ = λ ks. refl
undo MoreParameters (Mark S.Comma) = λ y ks. refl
undo MoreParameters _ = λ ks. refl
undo Procedures (WordAt K.Procedure place) = λ y ks. refl
undo Procedures _ = λ ks. refl
undo MonitorProcedures (Word K.Entry) = λ y ks. refl
undo MonitorProcedures (Word K.Internal) = λ y ks. refl
undo MonitorProcedures _ = λ ks. refl
undo ARecover (WordAt K.Recover place) = λ y ks. refl
undo ARecover _ = λ ks. refl
undo Monitors (WordAt K.Monitor place) = λ y ks. refl
undo Monitors _ = λ ks. refl
undo Closed k = λ ks. refl

pub split_text : (ρ σ : List Symbol) (y : Trees (ρ ++ σ)) (ks : List Lexeme)
    → trees_text (ρ ++ σ) y ks ≡ trees_text ρ (split ρ σ y).0 (trees_text σ (split ρ σ y).1 ks)
split_text [] σ y ks = refl
split_text (s ∷ ρ) σ y ks = ap (λ l. tree_text s y.0 l) (split_text ρ σ y.1 ks)

-- a step spells the lexeme
abbrev pub Undone : (σ : List Symbol) → Lexeme → Step (Trees σ) → Type 0
Undone σ k (Onto τ f) = (y : Trees τ) (ks : List Lexeme) → trees_text σ (f y) ks ≡ k ∷ trees_text τ y ks
Undone σ k (Over x) = (k ≡ Finish) × ((ks : List Lexeme) → trees_text σ x ks ≡ ks)
Undone σ k Stuck = Unit {0}

by_undo : (s : Symbol) (σ : List Symbol) (k : Lexeme) (r : Reply (Tree s)) (st : Step (Trees σ)) → Undo s k r
    → Undone σ k st → Undone (s ∷ σ) k (step_by σ r st)
by_undo s σ k (Push ρ f) st h i = λ y ks. h (split ρ σ y).0 (trees_text σ (split ρ σ y).1 ks) ∙ ap (λ l. k ∷ l)
    (sym (split_text ρ σ y ks))
by_undo s σ k (Start ρ f τ g) st h i = λ y ks.
    let u = (split ρ (τ ++ σ) y).1 in
    h (split ρ (τ ++ σ) y).0 (split τ σ u).0 (trees_text σ (split τ σ u).1 ks)
    ∙ ap (λ l. k ∷ trees_text ρ (split ρ (τ ++ σ) y).0 l) (sym (split_text τ σ u ks))
    ∙ ap (λ l. k ∷ l) (sym (split_text ρ (τ ++ σ) y ks))
by_undo s σ k (Skip x) (Onto τ f) h i = λ y ks. h (trees_text σ (f y) ks) ∙ i y ks
by_undo s σ k (Skip x) (Over z) h i = (i.0, λ ks. h (trees_text σ z ks) ∙ i.1 ks)
by_undo s σ k (Skip x) Stuck h i = tt
by_undo s σ k Reject st h i = tt

end_undo : (k : Lexeme) → Undone [] k (at_end k)
end_undo Finish = (refl, λ ks. refl)
end_undo _ = tt

pub undone : (σ : List Symbol) (k : Lexeme) → Undone σ k (step σ k)
undone [] k = end_undo k
undone (s ∷ σ) k = by_undo s σ k (reply s k) (step σ k) (undo s k) (undone σ k)
