-- A step with whole calls leads to what is covered, where the same step of a state ahead does.
use Rattle.std.proofs.Common.{◌≡◌, ℕ, Bool, true, Option, Some, None, List, refl}
use Rattle.std.specs.Prelude.{ℤ}
use Rattle.isa.specs.Programs.{Program}
use Rattle.robustexit.specs.ExitRules.{exit_of}
use Rattle.locals.specs.Threads.{Thread}
use Rattle.locals.specs.Looks.{Asks, Breaks, Goes, Leaves, Look, Rests, look}
use Rattle.machine.specs.States.{State}
use Rattle.proof_pieces.specs.WholeCalls.{IsWholeStep, MovesWhole}
use Rattle.proof_image_search.specs.Searching.{IsApart, IsCovered, Kept}
use Rattle.proof_image_search.proofs.Ahead.{AllAhead, ahead}
use Rattle.proof_image_search.proofs.Further.{IsFurtherOn, further, itself_further}
use Rattle.proof_image_search.proofs.Closing.{Reached, covered}
use Rattle.proof_image_search.proofs.Simulating.{Taken, takes_exit, takes_local, takes_shared}

module _ (p : Program) (alone : Bool) (lives : List Kept) (n : ℕ) (b : State) (here : ℕ → Option Thread)
    (output : List ℤ) (all : AllAhead p b.thread here) (apart : alone ≡ true → IsApart p (ahead b here output)) (u : ℕ)
    (y : Thread) (at : here u ≡ Some y) (awake : b.asleep u ≡ None) (woken : List ℕ)
    (leads : (z : State) → IsWholeStep p (ahead b here output) u woken z → (m : ℕ) × IsCovered p alone lives m z n) where
  on : IsFurtherOn p alone b here b.word
  on = itself_further p alone b here all

  -- where it is taken
  lands : (b' : State) → Taken p alone b here b.word output u woken b' → Reached p alone lives b' n
  lands b' k =
      let c = leads (further b' k.there k.words_there k.printed) k.step in
      covered p alone lives c.0 b' n k.there k.words_there k.printed k.all c.1

  pub landed : (b' : State) → MovesWhole (exit_of p.version) b u woken (look p u y) b' → Reached p alone lives b' n
  landed b' moves = by_look (look p u y) refl moves
    where
      by_look : (l : Look) → look p u y ≡ l → MovesWhole (exit_of p.version) b u woken l b' → Reached p alone lives b' n
      by_look (Goes z) looks m =
          lands b' (takes_local p alone b here b.word output on apart u y z woken b' at awake looks m.0 m.1)
      by_look (Asks request go) looks m = lands b'
          (takes_shared p alone b here b.word output on apart u y request go woken m.0 m.1 b' at awake looks m.2 m.3)
      by_look (Leaves phase) looks m = lands b'
          (takes_exit p alone b here b.word output on apart u y phase woken m.0 m.1 b' at awake looks m.2 m.3)
      by_look Breaks looks m = absurd m
      by_look Rests looks m = absurd m
