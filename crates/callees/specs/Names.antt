-- What the tables of a unit's names say of it.
use Rattle.std.specs.Prelude.{ℕ, ◌≡◌, ◌<◌, ◌+◌, ◌^◌, ◌-◌, length, map, slice_get, Some, sum_by}
use Rattle.syntax.specs.Tree.{MonitorTree, UnitTree}
use Rattle.types.specs.Names.{monitor_names, external_names, procedure_names, body_scope, all_members}
use Rattle.types.specs.Pieces.{pieces, first_piece, first_external}
use Rattle.types.specs.Standings.{IsMembers}
use Rattle.types.specs.Tables.{IsTable}
use Rattle.callees.specs.declared.monitor_names.MonitorNames.{MonitorNames}
use Rattle.callees.specs.declared.callees.Callees.{Callees}
use Rattle.callees.specs.Pieces.{piece_of}

-- the names of a monitor's members and procedures
abbrev pub HasNames : MonitorTree → MonitorNames → Type 0
HasNames t n = IsMembers t n.members × IsTable (procedure_names t) n.procedures

-- and the number of its first piece, where the monitor has this number
abbrev pub IsNames : UnitTree → ℕ → MonitorNames → Type 0
IsNames u m n = (t : MonitorTree) × (slice_get u.monitors m ≡ Some t) × HasNames t n
    × (n.first_piece ≡ first_piece u m)

-- how many monitors, members, pieces, parameters and locals a unit declares
abbrev pub declarations : UnitTree → ℕ
declarations u = length u.monitors + length (all_members u) + length (pieces u)
    + sum_by (λ q. length (body_scope q.parameters q.body.locals)) (pieces u)

-- the names and pieces of a unit, which are so few that 32 bits number them
pub record IsCallees (u : UnitTree) (c : Callees) : Type 0 where
  pub few : declarations u < 2 ^ 32 - 1
  pub monitors : IsTable (monitor_names u) c.monitors
  pub all : length c.inner.items ≡ length u.monitors
  pub inner : (m : ℕ) (n : MonitorNames) → slice_get c.inner.items m ≡ Some n → IsNames u m n
  pub externals : IsTable (external_names u) c.externals
  pub first : c.first_external ≡ first_external u
  pub pieces : map piece_of c.pieces.items ≡ pieces u
