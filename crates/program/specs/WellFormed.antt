-- What holds of each program that the checker accepts.
use Rattle.std.specs.Prelude.{ℕ, List, [], ◌∷◌, Some, None, slice_get, length, ◌≡◌, ◌≤◌, ◌<◌, ◌+◌, ◌-◌, Contains, ⊤}
use Rattle.program.specs.declared.kinds.ValueType.TheVariants.{Process}
use Rattle.program.specs.declared.kinds.MemberType.{MemberType}
use Rattle.program.specs.declared.kinds.MemberType.TheVariants.{Variable, Condition, Array}
use Rattle.program.specs.declared.kinds.Role.{Role}
use Rattle.program.specs.declared.kinds.Role.TheVariants.{Entry, Internal, Recover, External, Main}
use Rattle.program.specs.Trees.{Monitor, Procedure, Program, slots}
use Rattle.program.specs.Scope.{scope_of, recover_of}
use Rattle.program.specs.Typing.{BlockFits}
use Rattle.program.specs.Limits.{most_monitors, most_member_words, most_elements, most_pieces, most_parameters}
use Rattle.program.specs.Limits.{most_locals, most_in_chain}
use Rattle.program.specs.Measures.{block_room, most_room, block_calls}

-- the words of a member in memory: one, or one for each element of an array
abbrev pub member_words : MemberType → ℕ
member_words (Variable t) = 1
member_words Condition = 1
member_words (Array n) = n

-- the words of all members of a monitor
abbrev pub words_of : List MemberType → ℕ
words_of [] = 0
words_of (m ∷ ms) = member_words m + words_of ms

-- the words of all members of all monitors
abbrev pub all_words : List Monitor → ℕ
all_words [] = 0
all_words (m ∷ ms) = words_of m.members + all_words ms

-- an array has from 1 to 1,024 elements
abbrev pub HasElements : MemberType → Type 0
HasElements (Variable t) = ⊤
HasElements Condition = ⊤
HasElements (Array n) = (1 ≤ n) × (n ≤ most_elements)

-- a role names a monitor that there is; a RECOVER part is its monitor's, and has neither parameters nor a result, nor
-- has the main part
abbrev pub RoleFits : Program → ℕ → Procedure → Role → Type 0
RoleFits p number q (Entry m) = m < length p.monitors
RoleFits p number q (Internal m) = m < length p.monitors
RoleFits p number q (Recover m) = (recover_of p m ≡ Some number) × (q.parameters ≡ []) × (q.result ≡ None)
RoleFits p number q External = ⊤
RoleFits p number q Main = (number + 1 ≡ length p.procedures) × (q.parameters ≡ []) × (q.result ≡ None)

-- a procedure of this number
pub record IsProper (p : Program) (number : ℕ) (q : Procedure) : Type 0 where
  pub role : RoleFits p number q q.role
  pub parameters : length q.parameters ≤ most_parameters
  pub locals : length (slots q) ≤ most_locals
  -- no procedure answers a handle
  pub result : q.result ≡ Some Process → ⊥
  pub body : BlockFits (scope_of p q) q.body
  pub room : block_room q.body ≤ most_room

-- calls form no cycle, and a chain of them has at most 15 procedures: each procedure has a height, below that of each
-- that calls it
pub record IsAcyclic (p : Program) : Type 0 where
  pub height : ℕ → ℕ
  pub falls : (n callee : ℕ) (q : Procedure) → slice_get p.procedures n ≡ Some q
      → Contains (block_calls q.body) callee → height callee < height n
  pub bounded : (n : ℕ) → height n < most_in_chain

-- the program keeps all limits, and each of its bodies fits where it stands
pub record WellFormed (p : Program) : Type 0 where
  pub monitors : length p.monitors ≤ most_monitors
  pub words : all_words p.monitors ≤ most_member_words
  pub arrays : (m : ℕ) (monitor : Monitor) (n : ℕ) (t : MemberType) → slice_get p.monitors m ≡ Some monitor
      → slice_get monitor.members n ≡ Some t → HasElements t
  pub pieces : length p.procedures ≤ most_pieces
  -- the main part is the last piece
  pub main : Procedure
  pub is_last : slice_get p.procedures (length p.procedures - 1) ≡ Some main
  pub is_main : main.role ≡ Main
  -- a monitor's RECOVER part is a piece of that role
  pub recovers : (m r : ℕ) → recover_of p m ≡ Some r → (q : Procedure) × (slice_get p.procedures r ≡ Some q)
      × (q.role ≡ Recover m)
  pub procedures : (n : ℕ) (q : Procedure) → slice_get p.procedures n ≡ Some q → IsProper p n q
  pub acyclic : IsAcyclic p
