-- What comes of a schedule by a log: for each of its entries, one of the same thread with the same local steps, and
-- then a shared step where the log's has one. The values of events are not compared.
use Rattle.std.specs.Prelude.{ℕ, ◌≡◌, ◌+◌, ◌<◌, ◌≤◌, ◌^◌, ◌⊎◌, Bool, List, map, take, slice_get, Some, is_some}
use Rattle.isa.specs.Programs.{Program}
use Rattle.machine.specs.declared.event.Entry.{Entry}
use Rattle.machine.specs.Views.{concrete}
use Rattle.piece_machine.specs.PieceConcrete.{PieceConcrete}
use Rattle.piece_machine.specs.PieceViews.{parts}
use Rattle.runner.specs.declared.report.Report.{Report}
use Rattle.runner.specs.declared.log_schedule.FollowLogFault.{FollowLogFault}
use Rattle.runner.specs.declared.log_schedule.FollowLogFault.TheVariants.{BadEntry, Memory}
use Rattle.runner.specs.Logs.{Runs, Enters, cost, event_cost, is_kill, is_outside, opening}
use Rattle.runner.specs.Reports.{IsVerdict}

-- the shape of an entry: its thread, its local steps, whether a shared step comes then, whether that comes from
-- outside, and whether it is a kill
pub record Shape : Type 0 where
  pub thread : ℕ
  pub local : ℕ
  pub shared : Bool
  pub outside : Bool
  pub kill : Bool

abbrev pub shape_of : Entry → Shape
shape_of e =
    record {
      thread = e.thread;
      local = e.local;
      shared = is_some e.event;
      outside = is_outside e.event;
      kill = is_kill e.event;
    }

-- the log is legal and leads there, by entries of these shapes in this order, and has fewer than 2^32 steps
pub record FollowsLog (p : Program) (shapes : List Shape) (log : List Entry) (k : PieceConcrete) : Type 0 where
  pub legal : Runs p (opening p) log k
  pub same : map shape_of log ≡ shapes
  pub few : cost log < 2 ^ 32

-- the report of a log that was followed to its end
pub record IsFollowedLog (p : Program) (entries : List Entry) (r : Report) : Type 0 where
  pub follows : FollowsLog p (map shape_of entries) r.log.items (parts r.last)
  pub program : r.last.view.program ≡ p
  pub output : r.output.items ≡ (concrete r.last.view).common.output
  pub verdict : IsVerdict (concrete r.last.view) r.verdict

-- no entry of this shape can be taken there
abbrev pub CannotTake : Program → PieceConcrete → Shape → Type 0
CannotTake p k shape = (e : Entry) (k' : PieceConcrete) → shape_of e ≡ shape → Enters p k e k' → ⊥

-- the entry of this number is the first that can't be followed: the entries before it lead to where it can't be taken,
-- or with it there are 2^32 steps or more
pub record IsBadLogEntry (p : Program) (entries : List Entry) (number : ℕ) : Type 0 where
  pub before : ℕ
  pub counted : number ≡ before + 1
  pub entry : Entry
  pub names : slice_get entries before ≡ Some entry
  pub log : List Entry
  pub concrete : PieceConcrete
  pub follows : FollowsLog p (map shape_of (take before entries)) log concrete
  pub refuses : CannotTake p concrete (shape_of entry) ⊎ (2 ^ 32 ≤ cost log + (entry.local + event_cost entry.event))

-- why a log isn't followed to its end
abbrev pub FailsLogAt : Program → List Entry → FollowLogFault → Type 0
FailsLogAt p entries (BadEntry number) = IsBadLogEntry p entries number
FailsLogAt p entries Memory = Unit {0}
