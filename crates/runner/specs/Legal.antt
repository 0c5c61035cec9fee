-- What the types of the shared part of a run and of a share of its count keep.
use Rattle.std.specs.Prelude.{ℕ, ◌≡◌, ◌≤◌, ◌<◌, ◌+◌, ◌*◌, ◌^◌, List, length}
use Rattle.isa.specs.Programs.{Program}
use Rattle.machine.specs.declared.event.Entry.{Entry}
use Rattle.piece_machine.specs.PieceConcrete.{PieceConcrete}
use Rattle.runner.specs.Logs.{HasOnly, Outside, Runs, cost, kills_in, opening}

-- the machine runs the program, the log is legal for it and leads to what the machine keeps, with no more from outside
-- than may be, so many steps are left of the limit behind the log's cost, and its kills are counted
pub record IsLegal (p : Program) (may : Outside) (limit : ℕ) (q : Program) (k : PieceConcrete) (log : List Entry)
    (left limited killed : ℕ) : Type 0 where
  pub program : q ≡ p
  pub legal : Runs p (opening p) log k
  pub own : HasOnly may log
  pub counted : left + cost log ≡ limited
  pub limit_is : limited ≡ limit
  pub kills : killed ≡ kills_in log
  pub few : killed ≤ cost log

-- the book's total is the number of entries, and what was not given out of the count's parts has counted none
pub record IsCounted (all booked rest idle given : ℕ) (log : List Entry) : Type 0 where
  pub total : booked ≡ length log
  pub whole : rest + given ≡ 1024
  pub unused : idle ≡ 0
  pub parts : all ≡ 1024

-- what a share says is what its tokens say
pub record IsShare (all cut amount said count : ℕ) : Type 0 where
  pub parts_are : cut ≡ said
  pub count_is : amount ≡ count
  pub some : 0 < said
  pub few : said ≤ 1024
  pub within : count ≤ said * 2 ^ 64
  pub parts : all ≡ 1024
