-- Whose entries come in.
use Rattle.std.specs.Prelude.{ℕ, ◌≡◌, ◌≤◌, ◌⊎◌, ◌++◌, true, List, [], ◌∷◌, length, is_some}
use Rattle.isa.specs.Programs.{Program}
use Rattle.machine.specs.declared.event.Entry.{Entry}
use Rattle.runner.specs.Orders.{HasGoneAlone}
use Rattle.runner.specs.Views.{log_state}
use Rattle.workers.specs.SharedRuns.{SharedRunView, state_of}

-- each entry is of thread t
abbrev pub AreOf : ℕ → List Entry → Type 0
AreOf t [] = Unit {0}
AreOf t (e ∷ es) = (e.thread ≡ t) × AreOf t es

-- a log has grown by entries of thread t alone
pub record GrowsBy (t : ℕ) (old new : List Entry) : Type 0 where
  pub entries : List Entry
  pub grows : new ≡ old ++ entries
  pub own : AreOf t entries

-- nothing has come in; or the run ends before its time; or, where no other thread had been made, thread t has gone on in its
-- place
abbrev pub MayGoAlone : Program → ℕ → ℕ → SharedRunView → SharedRunView → Type 0
MayGoAlone p limit t old new = (new.shared.log ≡ old.shared.log)
    ⊎ ((is_some new.fault ≡ true)
    ⊎ ((length (state_of old).threads ≤ 1) × HasGoneAlone p limit t (log_state old.shared) (log_state new.shared)))

-- entries of thread t have come in, and behind them what it made in its place
pub record MakesOwn (p : Program) (limit t : ℕ) (old new : SharedRunView) : Type 0 where
  pub mid : SharedRunView
  pub own : GrowsBy t old.shared.log mid.shared.log
  pub alone : MayGoAlone p limit t mid new
