-- A thread that leaves a monitor follows the protocol, and its process leaves with it.
use Rattle.std.proofs.Common.{inl, inr, ◌≡◌, ◌≢◌, ℕ, ◌<◌, ◌≤◌, ◌==◌, Bool, true, false, List, Option, refl, sym, subst}
use Rattle.std.proofs.Common.{ℤ}
use Rattle.std.specs.Prelude.{if◌then◌else◌}
use Rattle.words.specs.Versions.{most_of}
use Rattle.locals.specs.declared.frame.Locals.{Locals}
use Rattle.locals.specs.declared.frame.Frame.{Frame as MachineFrame}
use Rattle.locals.specs.Threads.{Thread}
use Rattle.lowering.specs.Locks.{leave_length}
use Rattle.meaning.specs.Labels as L
use Rattle.meaning.specs.Values.{Variables}
use Rattle.meaning.specs.Processes.{Caller, Process, Returning, callers_monitors}
use Rattle.meaning.specs.Offers.{Offer, TakesUp, Nothing}
use Rattle.protocol.specs.Word.{waiters}
use Rattle.protocol.specs.Points.{Point, Runs, ToExit, HasLeft, LeaveWakes}
use Rattle.proof_thread.specs.Following.{Build, Stands}
use Rattle.proof_templates.specs.Asking.{AsksSo}
use Rattle.proof_templates.specs.Locking.{ExitsAt, pends, reads, cuts, swaps, wakes, unpends, goes}
use Rattle.proof_templates.specs.Inside.{Template, Exits, ExitFits}
use Rattle.proof_templates.specs.Templates.{StandsOn, Follows}
use Rattle.proof_templates.proofs.Leavings.{exits_ask}
use Rattle.proof_templates.proofs.Taken.{follows_by}
use Rattle.protocol.specs.Rules.{release_of}

module _ (b : Build) (vs : Variables) (t m base : ℕ) (shown : Option ℕ) (l : Locals) (fs : List MachineFrame)
    (before : Process) (value : ℤ) (cs : List Caller) (some : 0 < t) (few : t ≤ most_of b.code.image.version)
    (fits : ExitFits b vs t m base shown l fs before value cs) where
  abbrev k : Template
  k = Exits m base shown l fs before value cs

  abbrev In : Point → Thread → Type 0
  In = ExitsAt (leave_length b.program.version) (release_of b.program.version) b.program t m base shown l fs

  asks : (pt : Point) (x : Thread) → (pt ≡ Runs → ⊥) → In pt x
      → AsksSo (release_of b.program.version) b.program b.code t In pt x
  asks = exits_ask b.program.version b.program b.code t m base shown l fs fits.code some few

  after_swap : (x : Bool) (y : Thread) → In (if x then HasLeft m ToExit else LeaveWakes m ToExit) y
      → StandsOn b t k (if x then HasLeft m ToExit else LeaveWakes m ToExit) (callers_monitors cs) y
      (Returning value cs)
  after_swap true y s = inl ((λ n. absurd cc), s, refl, refl)
  after_swap false y s = inl ((λ n. absurd cc), s, refl, refl)

  behind : (y : Thread) → In Runs y → Stands b t y (Returning value cs)
  behind y goes = fits.after

  pub exits_go : (pt : Point) (x : Thread) → pt ≢ Runs → In pt x → Follows b vs t k pt x
  exits_go pt x inside pends = follows_by b vs t k pt x (asks pt x inside pends)
      (λ w tb e r w' y may z. (before, refl, inl ((λ n. absurd cc), z, refl, refl)))
  exits_go pt x inside reads = follows_by b vs t k pt x (asks pt x inside reads)
      (λ w tb e r w' y may z. (before, refl, inl ((λ n. absurd cc), z, refl, refl)))
  exits_go pt x inside (cuts h) = follows_by b vs t k pt x (asks pt x inside (cuts h))
      (λ w tb e r w' y may z. (before, refl, inl ((λ n. absurd cc), z, refl, refl)))
  exits_go pt x inside swaps = follows_by b vs t k pt x (asks pt x inside swaps)
      (λ w tb e r w' y may z. (
        Returning value cs,
        (
          refl,
          subst (λ (o : Offer). TakesUp o (L.Exits m) Nothing (Returning value cs)) (sym fits.offers)
              (refl, refl, refl),
        ),
        after_swap (waiters r == 0) y z,
      ))
  exits_go pt x inside wakes = follows_by b vs t k pt x (asks pt x inside wakes)
      (λ w tb e r w' y may z. (Returning value cs, refl, inl ((λ n. absurd cc), z, refl, refl)))
  exits_go pt x inside unpends = follows_by b vs t k pt x (asks pt x inside unpends)
      (λ w tb e r w' y may z. (Returning value cs, refl, inr (refl, behind y z, refl)))
  exits_go pt x inside goes = absurd (inside refl)
