use Rattle.std.proofs.Common.{◌≡◌, ℕ, ◌≤◌, ◌<◌, ◌-◌, true}
use Rattle.machine.specs.ThreadSets.{has}
use Rattle.machine.specs.Views.{parts_of, IsBitSo, KeepsBits}
use Rattle.machine.proofs.thread_bits.ThreadBits.refresh_some.Given as goal

abbrev pub invariant-loop-from : goal.invariant-loop-from
invariant-loop-from l = (1 ≤ l.from) × (l.from ≤ 1001)
    × KeepsBits l.fn.self.words l.self.words (parts_of l.common l.threads)
    × ((u : ℕ) → 1 ≤ u → u < l.from → has l.set u ≡ true → IsBitSo l.self.words (parts_of l.common l.threads) u)

abbrev pub decreases-loop-from : goal.decreases-loop-from
decreases-loop-from l = 1001 - l.from
