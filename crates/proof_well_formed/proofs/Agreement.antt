-- What a piece's scope says to its resolved procedure's.
use Rattle.std.proofs.Common.{◌≡◌, ℕ, ◌≤◌, Some, slice_get, length, false, is_some, option_map}
use Rattle.std.specs.Prelude.{⊤}
use Rattle.program.specs.declared.kinds.ValueType.{ValueType}
use Rattle.program.specs.declared.kinds.MemberType.{MemberType}
use Rattle.program.specs.declared.kinds.Member.{Member as MemberOf}
use Rattle.program.specs.declared.kinds.Role.{Role}
use Rattle.program.specs.declared.kinds.Role.TheVariants.{Entry, Internal, Recover, External, Main}
use Rattle.program.specs.Scope as P
use Rattle.program.specs.Scope.{own_monitor, member_type, IsOwn, IsLocal}
use Rattle.syntax.specs.Lexeme.{NameTree}
use Rattle.syntax.specs.Tree.{CalleeTree}
use Rattle.types.specs.Kinds.{result_kind}
use Rattle.types.specs.Pieces.{Piece, pieces}
use Rattle.types.specs.Resolved.{procedure}
use Rattle.types.specs.Scope.{Scope, ALocal, AMember, meaning, local_number, slot_kind, callee}

-- roles that a callee can have; an INTERNAL one without a dot is of the own monitor
abbrev pub IsFound : Scope → CalleeTree → Role → Type 0
IsFound s c (Entry m) = ⊤
IsFound s c (Internal m) = is_some c.dotted ≡ false → own_monitor s.piece.role ≡ Some m
IsFound s c (Recover m) = ⊥
IsFound s c External = ⊤
IsFound s c Main = ⊥

-- what names mean in one scope is there in the other
pub record Agrees (s : Scope) (t : P.Scope) : Type 0 where
  pub local : (name : NameTree) (slot : ℕ) (k : ValueType) → meaning s name ≡ ALocal slot k → IsLocal t slot k
  pub member : (name : NameTree) (m : MemberOf) (k : MemberType) → meaning s name ≡ AMember m k
      → IsOwn t m × (member_type t.program m ≡ Some k)
  pub taker : (name : NameTree) (slot : ℕ) → local_number s name ≡ Some slot
      → (k : ValueType) × (slot_kind s slot ≡ Some k) × IsLocal t slot k
  pub callee : (c : CalleeTree) (n : ℕ) (q : Piece) → callee s c ≡ Some n → slice_get (pieces s.unit) n ≡ Some q
      → IsFound s c q.role
  pub piece : (n : ℕ) (q : Piece) → slice_get (pieces s.unit) n ≡ Some q
      → (slice_get t.program.procedures n ≡ Some (procedure s.unit q)) × (length q.parameters ≤ 16)
  pub role : t.role ≡ s.piece.role
  pub result : t.result ≡ option_map result_kind s.piece.returns
