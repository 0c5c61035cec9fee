-- A state with a thread more.
use Rattle.std.specs.Prelude.{ℕ, suc, length, ◌≡◌, ◌++◌, ◌∷◌, [], List, Some, Contains, slice_get}
use Rattle.isa.specs.Programs.{Program}
use Rattle.locals.specs.Threads.{Thread}
use Rattle.image_states.specs.declared.next.Next.{Next as NextOf}
use Rattle.image_states.specs.declared.packed.Packed.{Packed as PackedOf}
use Rattle.image_states.specs.declared.parts.Parts.{Parts as PartsOf}
use Rattle.image_states.specs.Packed.{asleep_at}
use Rattle.image_states.specs.Nexts.{RunsOn}

-- one more thread, which is awake and whose local state has this number
pub record IsThreadMore (x y : PackedOf) (n : ℕ) : Type 0 where
  pub memory : y.memory ≡ x.memory
  pub killed : y.killed ≡ x.killed
  pub parts : y.parts.items ≡ x.parts.items ++ n ∷ []
  pub places : asleep_at y.places.items ≡ asleep_at x.places.items
  pub count : length y.places.items ≡ suc (length x.places.items)

-- one of the next states is so
pub record HasMore (x : PackedOf) (nexts : List NextOf) (part : ℕ) : Type 0 where
  pub next : NextOf
  pub found : Contains nexts next
  pub more : IsThreadMore x next.state part

-- one is so, and thread t has come there by local steps from a local state
pub record HasChild (p : Program) (parts : PartsOf) (x : PackedOf) (nexts : List NextOf) (t : ℕ) (child : Thread) : Type 0
  where
    pub part : ℕ
    pub count : ℕ
    pub there : Thread
    pub has : HasMore x nexts part
    pub is : slice_get parts.locals.items part ≡ Some there
    pub runs : RunsOn p t count child there
