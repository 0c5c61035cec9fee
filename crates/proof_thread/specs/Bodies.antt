-- Bodies of procedures and their code, and programs with theirs.
use Rattle.std.specs.Prelude.{ℕ, suc, ◌+◌, ◌⊎◌, ◌≡◌, ◌<◌, ◌≤◌, List, [], ◌∷◌, ◌++◌, length, Option, Some, None}
use Rattle.std.specs.Prelude.{slice_get, Contains, ⊤}
use Rattle.isa.specs.declared.instr.Instr.TheVariants.{Jump}
use Rattle.isa.specs.Limits as isa
use Rattle.proof_thread.specs.Deferrals.{MarkedImage, IsAt}
use Rattle.words.specs.Versions.{most_of}
use Rattle.program.specs.declared.kinds.ValueType.{ValueType}
use Rattle.program.specs.declared.kinds.Role.TheVariants.{Main}
use Rattle.program.specs.Trees.{Statement, Block, Done, Then, Procedure, Program, slots}
use Rattle.program.specs.Limits.{most_locals}
use Rattle.program.specs.Scope.{Scope, scope_of}
use Rattle.program.specs.Typing.{Fits, MayBeForked}
use Rattle.program.specs.Tokens.{statement_tokens}
use Rattle.program.specs.Measures.{statement_room, most_room, calls}
use Rattle.lowering.specs.declared.mark.Mark.TheVariants as M
use Rattle.lowering.specs.Marks.{with_mark, plain}
use Rattle.lowering.specs.Statements.{Setting, statement_code, ending_code}
use Rattle.lowering.specs.Processes.{into_code}
use Rattle.lowering.specs.declared.mark.Marked.{Marked}
use Rattle.lowering.specs.Pieces.{default_code}
use Rattle.locals.specs.declared.frame.Locals.{Locals}
use Rattle.locals.specs.Threads.{Thread}
use Rattle.meaning.specs.Processes.{Frame}
use Rattle.proof_thread.specs.Typed.{HaveValues, HoldValues}
use Rattle.proof_thread.specs.Walks.{StandAt, WalksWithin, empty_view}
use Rattle.proof_thread.specs.Shapes.{nesting}

-- the code from a place on does what is left of a body, by way of so many jumps at first. Of each statement: how deep
-- it stands, so that at most so many jumps lead from its end to what comes after it
pub data Implements (image : MarkedImage) (c : Setting) (most : ℕ) : ℕ → ℕ → Block → Type 0 where
  finishes : {place : ℕ} → StandAt image place (default_code c.result ++ ending_code c
      (place + length (default_code c.result))) → Implements image c most 0 place Done
  states : {place : ℕ} {s : Statement} {rest : Block} (depth jumps : ℕ) → StandAt image place
      (statement_code c s place) → jumps ≤ depth → depth + nesting s ≤ most
      → Implements image c most jumps (place + length (statement_code c s place)) rest
      → Implements image c most 0 place (Then s rest)
  follows : {place jumps : ℕ} {rest : Block} (to : ℕ) → IsAt image place (plain (Jump to))
      → Implements image c most jumps to rest → Implements image c most (suc jumps) place rest

-- a statement of a procedure: it fits there, calls lower procedures only, and has room
pub record IsSound (height : ℕ → ℕ) (width number : ℕ) (scope : Scope) (s : Statement) : Type 0 where
  pub fits : Fits scope s
  pub lower : (callee : ℕ) → Contains (calls s) callee → height callee < height number
  pub room : statement_room s ≤ most_room
  pub tokens : statement_tokens s ≤ width

-- statements that are sound, each of them
abbrev pub AreSound : (ℕ → ℕ) → ℕ → ℕ → Scope → Block → Type 0
AreSound height width number scope Done = ⊤
AreSound height width number scope (Then first rest) = IsSound height width number scope first
    × AreSound height width number scope rest

-- a frame of the source runs this procedure, with its locals in the words of a machine's frame
pub record IsFrame (p : Program) (height : ℕ → ℕ) (made width number : ℕ) (q : Procedure) (f : Frame)
    (l : Locals) : Type 0 where
  pub procedure : slice_get p.procedures number ≡ Some q
  pub role : f.role ≡ q.role
  pub typed : HaveValues (most_of p.version) made (slots q) f.locals
  pub holds : HoldValues l.values f.locals
  pub words : length l.values ≡ isa.most_locals
  pub few : length (slots q) ≤ most_locals
  pub body : AreSound height width number (scope_of p q) f.rest

-- what stands behind a call: the result is taken
abbrev pub taking_code : Option ℕ → Option ValueType → List Marked
taking_code (Some slot) result = with_mark M.Return (into_code (Some slot)) ∷ []
taking_code None (Some t) = with_mark M.Return (into_code None) ∷ []
taking_code None None = []

-- a program, its code with the places where its pieces begin, the heights of its procedures, how deep
-- statements stand, the most tokens of one, and how many processes were made
pub record Build : Type 0 where
  pub program : Program
  pub code : MarkedImage
  pub starts : ℕ → ℕ
  pub height : ℕ → ℕ
  pub most : ℕ
  pub width : ℕ
  pub made : ℕ

-- how many processes can be made
abbrev pub most_made : Build → ℕ
most_made b = most_of b.program.version

-- the same code, where so many processes were made
abbrev pub with_made : Build → ℕ → Build
with_made b made = record b { made = made }

-- at most so many local steps, without a load
abbrev pub StepsWithin : Build → ℕ → ℕ → Thread → Thread → Type 0
StepsWithin b t n x y = WalksWithin b.code t (empty_view b.program) n x y

-- a procedure that no other called: the main part, or one that was forked
abbrev pub IsFirst : Procedure → Type 0
IsFirst q = ((q.role ≡ Main) × (q.result ≡ None)) ⊎ MayBeForked q.role
