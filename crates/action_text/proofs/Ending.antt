-- How a run ends, by whether some process isn't over.
use Rattle.std.proofs.Common.{◌↔◌, ℕ, Bool, true, false, List, Contains, MatchBool, ap, is_some}
use Rattle.std.specs.Prelude.{IsSome}
use Rattle.std.specs.List.{All}
use Rattle.std.proofs.lemmas.List.Elements.{All-contains}
use Rattle.program.specs.Trees.{Program}
use Rattle.meaning.specs.Processes.{Process, Over}
use Rattle.meaning.specs.Runs.{CanMove}
use Rattle.meaning.specs.States.{SourceState}
use Rattle.proof_exploration.specs.Exploring.{IsOver}
use Rattle.action_text.specs.Following.{EndsSo, GoesOn, end_by}

-- who isn't over goes on
over_or : (at : Process) → ((IsOver at → ⊥) → ⊥) → IsOver at
over_or (Over end) not = tt
over_or other not = absurd (not (λ h. h))

module _ (s : SourceState) (ns : List ℕ) (all : (q : ℕ) → Contains ns q ↔ IsSome (s.process q)) where
  pub end_decided : (p : Program) (b : Bool) → ((t : ℕ) → CanMove p s t → ⊥)
      → MatchBool b ((q : ℕ) × GoesOn s q) (All (λ q. GoesOn s q → ⊥) ns) → EndsSo (end_by b) p s
  end_decided p true rests found = record {
    rests = rests;
    process = found.0;
    at = found.1.0;
    stands = found.1.1;
    goes_on = found.1.2;
  }
  end_decided p false rests none = λ q at stands.
      over_or at
      (λ on. All-contains (λ q. GoesOn s q → ⊥) ns q none ((all q).1 (ap is_some stands)) (at, stands, on))
