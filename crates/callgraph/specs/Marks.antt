-- Marks of procedures.
use Rattle.std.specs.Prelude.{ℕ, ◌≡◌, ◌<◌, ◌+◌, ◌⊎◌, List, length, slice_index_or, true, false, Bool, count_by}
use Rattle.std.specs.Prelude.{Contains}
use Rattle.callgraph.specs.declared.Call.{Call}
use Rattle.callgraph.specs.Calls.{has_chain}

-- the procedures are marked, no others are marked anew, and what is marked anew is added to the pending ones
pub record Marks (procedures : List ℕ) (old : List Bool) (before : List ℕ) (new : List Bool)
    (after : List ℕ) : Type 0 where
  pub len : length new ≡ length old
  pub all : (b : ℕ) → Contains procedures b → b < length old → slice_index_or new b false ≡ true
  pub kept : (b : ℕ) → slice_index_or old b false ≡ true → slice_index_or new b false ≡ true
  pub only : (b : ℕ) → slice_index_or new b false ≡ true
      → (slice_index_or old b false ≡ true) ⊎ Contains procedures b
  pub added : (b : ℕ) → slice_index_or new b false ≡ true → (slice_index_or old b false ≡ true) ⊎ Contains after b
  pub queued : (b : ℕ) → Contains before b → Contains after b
  pub waiting : (b : ℕ) → Contains after b → Contains before b ⊎ (slice_index_or new b false ≡ true)
  pub counted : count_by (λ m. m) new + length before ≡ count_by (λ m. m) old + length after

-- the chains that begin at an unmarked procedure end
abbrev pub AreSettled : List Call → List Bool → Type 0
AreSettled calls marks = (a : ℕ) → a < length marks → slice_index_or marks a false ≡ false
    → (n : ℕ) × (has_chain calls n a ≡ false)
