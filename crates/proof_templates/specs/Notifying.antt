-- Where a thread stands in the templates of NOTIFY and BROADCAST, at each of their points.
use Rattle.std.specs.Prelude.{ℕ, ◌+◌, List, [], ◌∷◌}
use Rattle.locals.specs.declared.frame.Locals.{Locals}
use Rattle.locals.specs.declared.frame.Frame.{Frame}
use Rattle.locals.specs.Threads.{Thread, Runs as Runs'}
use Rattle.program.specs.declared.kinds.Member.{Member}
use Rattle.program.specs.Trees.{Program}
use Rattle.lowering.specs.Layout.{lock_word_address, member_address}
use Rattle.lowering.specs.Locks.{waiters}
use Rattle.lowering.specs.Conditions.{everyone}
use Rattle.protocol.specs.Points.{Point, Runs, NotifyAdds, NotifyWakes, BroadcastAdds, BroadcastMarks, BroadcastReads}
use Rattle.protocol.specs.Points.{BroadcastMoves}

-- the thread at each point of a NOTIFY
pub data NotifiesAt (p : Program) (c : Member) (base : ℕ) (l : Locals) (fs : List Frame) : Point → Thread → Type 0 where
  adds : NotifiesAt p c base l fs (NotifyAdds c) (Runs' (base + 2) (1 ∷ member_address p c ∷ []) l fs)
  wakes : NotifiesAt p c base l fs (NotifyWakes c) (Runs' (base + 6) (1 ∷ member_address p c ∷ []) l fs)
  goes : NotifiesAt p c base l fs Runs (Runs' (base + 8) [] l fs)

-- the thread at each point of a BROADCAST
pub data BroadcastsAt (p : Program) (c : Member) (base : ℕ) (l : Locals) (fs : List Frame) : Point → Thread
    → Type 0 where
  adds : BroadcastsAt p c base l fs (BroadcastAdds c) (Runs' (base + 2) (1 ∷ member_address p c ∷ []) l fs)
  marks : BroadcastsAt p c base l fs (BroadcastMarks c)
      (Runs' (base + 6) (waiters ∷ lock_word_address p c.monitor ∷ []) l fs)
  reads : BroadcastsAt p c base l fs (BroadcastReads c)
      (Runs' (base + 13) (member_address p c ∷ everyone ∷ 0 ∷ lock_word_address p c.monitor ∷ member_address p c ∷
      []) l fs)
  moves : (v : ℕ) → BroadcastsAt p c base l fs (BroadcastMoves c v)
      (Runs' (base + 14) (v ∷ everyone ∷ 0 ∷ lock_word_address p c.monitor ∷ member_address p c ∷ []) l fs)
  goes : BroadcastsAt p c base l fs Runs (Runs' (base + 16) [] l fs)
