-- What is expected of statements and of what is called, at each lexeme.
use Rattle.std.specs.Prelude.{List, [], ◌∷◌, Option, Some, None}
use Rattle.scanner.specs.declared.token.Keyword.TheVariants as K
use Rattle.scanner.specs.declared.token.Sign.TheVariants as S
use Rattle.scanner.specs.declared.token.Place.{Place}
use Rattle.syntax.specs.Lexeme.{NameTree, Lexeme, Word, WordAt, Mark, Named}
use Rattle.syntax.specs.Tree.{ExpressionTree, FactorTree, CalleeTree, StatementTree, Assign, If, While, Call, Fork}
use Rattle.syntax.specs.Tree.{Join, Return, Wait, Notify, Broadcast, Print, Abort, StatementTrees, NoStatements, Then}
use Rattle.syntax.specs.Tree.{PartTree, NoPart, Part}
use Rattle.grammar.specs.Symbols.{Symbol, AWord, AMark, AnOpening, AName, AnIndex, Arguments, MoreArguments}
use Rattle.grammar.specs.Symbols.{ADottedName, AnInto, AValue, Statements, AnElse, AnAborted, Closed, Trees, Reply}
use Rattle.grammar.specs.Symbols.{Push, Start, Skip, Beginning, Begins, NoFactor}
use Rattle.grammar.specs.ExpressionStack.{expression, expression_rest, expression_in, behind_expression}
use Rattle.grammar.specs.ExpressionStack.{expression_from, behind_rest}
use Rattle.grammar.specs.ExpressionReplies.{factor_begin}

-- an expression where a factor begins, or else nothing
abbrev pub reply_of_factor : {A : Type 0} → Beginning → (τ : List Symbol) → (FactorTree → Trees τ → A) → A → Reply A
reply_of_factor (Begins ρ f) τ g x = Start ρ f τ g
reply_of_factor NoFactor τ g x = Skip x

-- arguments
abbrev pub reply_arguments : Lexeme → Reply (List ExpressionTree)
reply_arguments k = reply_of_factor (factor_begin k) (expression_rest (MoreArguments ∷ []))
    (λ f t. expression_from f t ∷ (behind_rest t).0) []

-- further arguments
abbrev pub reply_more_arguments : Lexeme → Reply (List ExpressionTree)
reply_more_arguments (Mark S.Comma) = Push (expression (MoreArguments ∷ []))
    (λ t. expression_in t ∷ (behind_expression t).0)
reply_more_arguments _ = Skip []

-- a dot and a name, if there is a dot
abbrev pub reply_dotted : Lexeme → Reply (Option NameTree)
reply_dotted (Mark S.Dot) = Push (AName ∷ []) (λ t. Some t.0)
reply_dotted _ = Skip None

-- INTO and a name, if there is an INTO
abbrev pub reply_into : Lexeme → Reply (Option NameTree)
reply_into (Word K.Into) = Push (AName ∷ []) (λ t. Some t.0)
reply_into _ = Skip None

-- an expression, if one begins
abbrev pub reply_value : Lexeme → Reply (Option ExpressionTree)
reply_value k = reply_of_factor (factor_begin k) (expression_rest []) (λ f t. Some (expression_from f t)) None

-- a callee, before other symbols
abbrev pub callee : List Symbol → List Symbol
callee σ = AName ∷ ADottedName ∷ AnOpening ∷ Arguments ∷ AMark S.CloseParen ∷ σ

-- what a callee is made of, with what is behind it
abbrev pub CalleeParts : Type 0 → Type 0
CalleeParts A = NameTree × (Option NameTree × (Place × (List ExpressionTree × (Unit {0} × A))))

-- the callee there
abbrev pub callee_in : {A : Type 0} → CalleeParts A → CalleeTree
callee_in t = record { name = t.0; dotted = t.1.0; open_place = t.1.1.0; arguments = t.1.1.1.0 }

-- what is behind it
abbrev pub behind_callee : {A : Type 0} → CalleeParts A → A
behind_callee t = t.1.1.1.1.1

-- a statement that takes a name alone
abbrev pub of_name : (NameTree → StatementTree) → Reply StatementTrees
of_name f = Push (AName ∷ AMark S.Semicolon ∷ Statements ∷ []) (λ t. Then (f t.0) t.1.1.0)

-- statements
abbrev pub reply_statements : Lexeme → Reply StatementTrees
reply_statements (Named name) =
    Push (AnIndex ∷ AMark S.Assign ∷ expression (AMark S.Semicolon ∷ Statements ∷ []))
    (λ t. Then (Assign (record { name = name; index = t.0 }) (expression_in t.1.1)) (behind_expression t.1.1).1.0)
reply_statements (WordAt K.If place) =
    Push (expression (AWord K.Then ∷ Statements ∷ AnElse ∷ AWord K.Endif ∷ Closed
    ∷ AMark S.Semicolon ∷ Statements ∷ []))
    (λ t. let u = behind_expression t in Then (If place (expression_in t) u.1.0 u.1.1.0) u.1.1.1.1.1.1.0)
reply_statements (WordAt K.While place) =
    Push (expression (AWord K.Do ∷ Statements ∷ AWord K.Endloop ∷ Closed ∷ AMark S.Semicolon ∷ Statements ∷ []))
    (λ t. let u = behind_expression t in Then (While place (expression_in t) u.1.0) u.1.1.1.1.1.0)
reply_statements (WordAt K.Call place) =
    Push (callee (AnInto ∷ AMark S.Semicolon ∷ Statements ∷ []))
    (λ t. let u = behind_callee t in Then (Call place (callee_in t) u.0) u.1.1.0)
reply_statements (WordAt K.Fork place) =
    Push (callee (AWord K.Into ∷ AName ∷ AMark S.Semicolon ∷ Statements ∷ []))
    (λ t. let u = behind_callee t in Then (Fork place (callee_in t) u.1.0) u.1.1.1.0)
reply_statements (WordAt K.Join place) =
    Push (expression (AnInto ∷ AnAborted ∷ AMark S.Semicolon ∷ Statements ∷ []))
    (λ t. let u = behind_expression t in Then (Join place (expression_in t) u.0 u.1.0) u.1.1.1.0)
reply_statements (WordAt K.Return place) =
    Push (AValue ∷ AMark S.Semicolon ∷ Statements ∷ []) (λ t. Then (Return place t.0) t.1.1.0)
reply_statements (WordAt K.Wait place) = of_name (Wait place)
reply_statements (WordAt K.Notify place) = of_name (Notify place)
reply_statements (WordAt K.Broadcast place) = of_name (Broadcast place)
reply_statements (WordAt K.Print place) =
    Push (expression (AMark S.Semicolon ∷ Statements ∷ []))
    (λ t. Then (Print place (expression_in t)) (behind_expression t).1.0)
reply_statements (WordAt K.Abort place) = Push (AMark S.Semicolon ∷ Statements ∷ []) (λ t. Then (Abort place) t.1.0)
reply_statements _ = Skip NoStatements

-- an ELSE, if there is one
abbrev pub reply_else : Lexeme → Reply PartTree
reply_else (Word K.Else) = Push (Statements ∷ []) (λ t. Part t.0)
reply_else _ = Skip NoPart

-- an ABORTED, if there is one
abbrev pub reply_aborted : Lexeme → Reply PartTree
reply_aborted (Word K.Aborted) = Push (Statements ∷ AWord K.End ∷ Closed ∷ []) (λ t. Part t.0)
reply_aborted _ = Skip NoPart
