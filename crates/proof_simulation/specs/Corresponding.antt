-- A state of the machine, a world of the protocol and a state of the source that belong together.
use Rattle.std.specs.Prelude.{ℕ, ◌≡◌, ◌<◌, ◌≤◌, ◌^◌, true, List, length}
use Rattle.words.specs.declared.version.ImageVersion.{ImageVersion}
use Rattle.words.specs.Signed.{word_of}
use Rattle.words.specs.Versions.{most_of}
use Rattle.isa.specs.Programs.{memory_size}
use Rattle.machine.specs.States.{State}
use Rattle.machine.specs.AbstractServing.{shared_of}
use Rattle.program.specs.declared.kinds.Member.{Member}
use Rattle.program.specs.Trees.{Program}
use Rattle.program.specs.WellFormed.{WellFormed}
use Rattle.lowering.specs.Pieces.{code_of}
use Rattle.meaning.specs.Table.{Table, first_table}
use Rattle.meaning.specs.States.{SourceState}
use Rattle.protocol.specs.Points.{Point, Walks, ClearsId, LastWakes, HasEnded}
use Rattle.protocol.specs.World.{World, opening_world, mem}
use Rattle.protocol.specs.Moves.{Move}
use Rattle.protocol.specs.Runs.{Leads, last_table}
use Rattle.protocol.specs.Exits.{Shares}
use Rattle.proof_thread.specs.Variables.{IsVariable, variable_address, VariablesFit}
use Rattle.refinement.specs.Built.{build_of}
use Rattle.proof_templates.specs.Layout.{place, valid}
use Rattle.proof_simulation.specs.Standing.{StandsAt}

-- moves of the protocol lead from the opening of an image of this version to a world and its table
pub record Reached (version : ImageVersion) (w : World) (T : Table) : Type 0 where
  pub moves : List (ℕ × Move)
  pub led : Leads (opening_world version) moves w
  pub table : T ≡ last_table (opening_world version) (first_table (most_of version)) moves

-- a thread that hasn't begun its exit
abbrev pub IsBefore : Point → Type 0
IsBefore (Walks e x end) = ⊥
IsBefore (ClearsId end) = ⊥
IsBefore (LastWakes end) = ⊥
IsBefore (HasEnded end) = ⊥
IsBefore p = Unit {0}

-- after so many steps of the machine
pub record Corresponds (p : Program) (w : WellFormed p) (steps : ℕ) (s : State) (c : SourceState) : Type 0 where
  pub world : World
  pub reached : Reached p.version world c.table
  pub shares : Shares (place p) (valid p) (shared_of s) world
  pub size : s.size ≡ memory_size (code_of p)
  pub most : s.most ≡ most_of p.version
  pub made : s.made ≡ world.made
  pub output : s.output ≡ c.printed
  -- the words of the variables, and values that fit them
  pub variables : (m : Member) (i : ℕ) → IsVariable p m i
      → s.word (variable_address p m i) ≡ word_of (c.variable m.monitor m.number i)
  pub fit : (m : ℕ) → VariablesFit world.made p m c.variable
  pub threads : (u : ℕ) → StandsAt (build_of p w world.made) c.variable u (s.thread u) (c.process u)
      (world.at u).point (world.at u).list
  -- only monitors of the program are on robust lists
  pub lists : (u m : ℕ) → mem m (world.at u).list ≡ true → m < length p.monitors
  -- a result is a word, and 0 before the exit
  pub words : (u : ℕ) → world.result u < 2 ^ 32
  pub blank : (u : ℕ) → IsBefore (world.at u).point → world.result u ≡ 0
  -- a sequence number counts no more steps than were taken
  pub numbers : (d : Member) → world.sequence d ≤ steps
