-- What comes of a text that is to be the lines of actions.
use Rattle.std.specs.Prelude.{ℕ, ◌≡◌, ◌≢◌, ◌<◌, ◌+◌, List, ◌++◌, length, Bool, true}
use Rattle.std.specs.Prelude.{[]}
use Rattle.std.specs.List.{All}
use Rattle.program.specs.Names.{Naming}
use Rattle.program.specs.declared.kinds.Member.{Member}
use Rattle.meaning.specs.Labels.{Action, Kind}
use Rattle.actionlines.specs.Lines.{condition_name}
use Rattle.action_text.specs.ActionText.{action_line, action_text, kind_text, numbers_text, run_lines}
use Rattle.action_text.specs.Sized.{HasMember, IsNumber, IsReadable, IsSized, IsSizedKind}
use Rattle.action_text.specs.declared.counting.Counted.{Counted}
use Rattle.action_text.specs.declared.reading.ReadActionsFault.{ReadActionsFault}
use Rattle.action_text.specs.declared.reading.ReadActionsFault.TheVariants.{Line, Memory}

-- it is that of an action of this form
abbrev pub IsKindText : Naming → List ℕ → Kind → Type 0
IsKindText names text kind = IsSizedKind names kind × (text ≡ kind_text names kind)

-- it is that of none
abbrev pub IsNoKind : (IsOf : Kind → Type 0) → Naming → List ℕ → Type 0
IsNoKind IsOf names text = (kind : Kind) → IsOf kind → IsSizedKind names kind → text ≢ kind_text names kind

-- it is the text of an action, without the line's end
abbrev pub IsTextOf : Naming → List ℕ → Action → Type 0
IsTextOf names line a = IsSized names a × (line ≡ action_text names a)

-- it is that of none
abbrev pub IsNoText : Naming → List ℕ → Type 0
IsNoText names line = (a : Action) → IsSized names a → line ≢ action_text names a

-- nothing stands behind the numbers, and where they are to be none, they are
abbrev pub IsWhole : Counted → (alone : Bool) → Type 0
IsWhole c alone = (c.rest.now ≡ []) × (alone ≡ true → c.numbers.items ≡ [])

-- it names this condition, and these processes behind it; none, where it is to be the condition alone
abbrev pub NamesCondition : Naming → (alone : Bool) → List ℕ → Member → List ℕ → Type 0
NamesCondition names alone text c resumed =
    HasMember names c × All IsNumber resumed × (alone ≡ true → resumed ≡ [])
    × (text ≡ condition_name names c ++ numbers_text resumed)

-- the same behind a word
abbrev pub IsCondition : Naming → (word : List ℕ) → (alone : Bool) → List ℕ → Member → List ℕ → Type 0
IsCondition names word alone text c resumed =
    HasMember names c × All IsNumber resumed × (alone ≡ true → resumed ≡ [])
    × (text ≡ word ++ (condition_name names c ++ numbers_text resumed))

-- the text is just the lines of these actions
pub record IsActionsText (names : Naming) (text : List ℕ) (actions : List Action) : Type 0 where
  pub lines : run_lines names actions ≡ text
  pub readable : All (IsReadable names) actions

-- the text goes on by the line of no action
abbrev pub NoLine : Naming → List ℕ → Type 0
NoLine names text = (a : Action) (later : List ℕ) → IsReadable names a → text ≡ action_line names a ++ later → ⊥

-- the line of this number, from 1, is the first that is no action's: behind the lines of the actions before it the text
-- goes on, and not by the line of an action
pub record IsBadLine (names : Naming) (text : List ℕ) (number : ℕ) : Type 0 where
  pub before : List Action
  pub rest : List ℕ
  pub cut : text ≡ run_lines names before ++ rest
  pub readable : All (IsReadable names) before
  pub counted : number ≡ length before + 1
  pub more : 0 < length rest
  pub none : NoLine names rest

-- why a text isn't read
abbrev pub RefusesText : Naming → List ℕ → ReadActionsFault → Type 0
RefusesText names text (Line number) = IsBadLine names text number
RefusesText names text Memory = Unit {0}
