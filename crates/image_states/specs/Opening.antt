-- The packed state in which an image begins.
use Rattle.std.specs.Prelude.{ℕ, ◌≡◌, ◌∷◌, [], Some, replicate, slice_set}
use Rattle.std.specs.List.{slice_get}
use Rattle.isa.specs.Programs.{Program, memory_size}
use Rattle.locals.specs.Threads.{Thread, opening_thread}
use Rattle.image_states.specs.declared.packed.Packed.{Packed as PackedOf}
use Rattle.image_states.specs.declared.parts.Parts.{Parts as PartsOf}
use Rattle.image_states.specs.Nexts.{RunsOn}

-- one thread, which is awake
pub record IsAlone (x : PackedOf) (m n : ℕ) : Type 0 where
  pub memory : x.memory ≡ m
  pub killed : x.killed ≡ 0
  pub parts : x.parts.items ≡ n ∷ []
  pub places : x.places.items ≡ 0 ∷ []

-- and it has come by local steps from where it begins
pub record IsOpening (p : Program) (parts : PartsOf) (x : PackedOf) : Type 0 where
  pub memory : ℕ
  pub part : ℕ
  pub count : ℕ
  pub there : Thread
  pub alone : IsAlone x memory part
  pub words : slice_get parts.memories.items memory ≡ Some (slice_set (replicate (memory_size p) 0) 3 1)
  pub is : slice_get parts.locals.items part ≡ Some there
  pub runs : RunsOn p 1 count (opening_thread p.start []) there
