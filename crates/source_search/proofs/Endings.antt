-- States in which no process can move, or some process has aborted, by the numbers of their processes.
use Rattle.std.proofs.Common.{◌↔◌, ◌<◌, ℕ, zero, suc, Bool, true, false, MatchBool, List, All, Contains, Option, Some, None}
use Rattle.std.proofs.Common.{ap, get_or, length, refl, slice_get, sym, subst, ◌≡◌, ◌∙◌}
use Rattle.std.specs.Prelude.{IsSome, is_some}
use Rattle.std.proofs.lemmas.List.Elements.{All-contains}
use Rattle.std.proofs.lemmas.Option.{slice_get-get_or, slice_get_within}
use Rattle.program.specs.Trees.{Program}
use Rattle.meaning.specs.Labels.{Aborted, Cause}
use Rattle.meaning.specs.Processes.{Over, Process}
use Rattle.meaning.specs.Runs.{CanMove}
use Rattle.meaning.specs.States.{SourceState}
use Rattle.proof_exploration.specs.Exploring.{IsStuck}
use Rattle.source_search.specs.Found.{FailedAt, GoesOn, HasFailed, IsCounted}
use Rattle.source_search.specs.Packed.{process_in, some_process, unpacked}
use Rattle.source_search.specs.declared.outside.Outside.{Outside}
use Rattle.source_search.specs.declared.packed.Packed.{Packed as PackedOf}
use Rattle.source_search.specs.declared.parts.Parts.{Parts as PartsOf}

module _ (s : SourceState) (ns : List ℕ) (all : (q : ℕ) → Contains ns q ↔ IsSome (s.process q)) where
  pub stuck_decided : (p : Program) (b : Bool) → ((t : ℕ) → CanMove p s t → ⊥)
      → MatchBool b ((q : ℕ) × GoesOn s q) (All (λ q. GoesOn s q → ⊥) ns)
      → MatchBool b (IsStuck p s) (IsStuck p s → ⊥)
  stuck_decided p true rests found = record {
    rests = rests;
    process = found.0;
    at = found.1.0;
    stands = found.1.1;
    goes_on = found.1.2;
  }
  stuck_decided p false rests none = λ stuck.
      All-contains (λ q. GoesOn s q → ⊥) ns stuck.process none ((all stuck.process).1 (ap is_some stuck.stands))
      (stuck.at, stuck.stands, stuck.goes_on)

  pub failed_decided : (may : Outside) (b : Bool)
      → MatchBool b ((q : ℕ) × FailedAt may s q) (All (λ q. FailedAt may s q → ⊥) ns)
      → MatchBool b (HasFailed may s) (HasFailed may s → ⊥)
  failed_decided may true found = found
  failed_decided may false none = λ is.
      All-contains (λ q. FailedAt may s q → ⊥) ns is.0 none ((all is.0).1 (ap is_some is.1.1)) is.1

one_cause : (c d : Cause) → (let x : Process = Over (Aborted c) in x) ≡ (let y : Process = Over (Aborted d) in y) → c ≡ d
one_cause c d e = cc

pub failed_so : (q : Process) (cause : Cause) (may : Outside) (b : Bool) → q ≡ Over (Aborted cause)
    → MatchBool b (IsCounted may cause) (IsCounted may cause → ⊥)
    → MatchBool b ((c : Cause) × (q ≡ Over (Aborted c)) × IsCounted may c)
    ((c : Cause) → q ≡ Over (Aborted c) → IsCounted may c → ⊥)
failed_so q cause may true is counted = (cause, is, counted)
failed_so q cause may false is never = λ c same counted.
    never (subst (IsCounted may) (one_cause c cause (sym same ∙ is)) counted)

-- of a kept state, where none of its processes has
pub none_failed : (may : Outside) (parts : PartsOf) (x : PackedOf)
    → ((k : ℕ) → k < length x.processes.items → FailedAt may (unpacked parts x) (suc k) → ⊥)
    → HasFailed may (unpacked parts x) → ⊥
none_failed may parts x none (zero, failed) = let no : None ≡ Some (Over (Aborted failed.0)) = failed.1 in cc
none_failed may parts x none (suc j, failed) = here (slice_get x.processes.items j) refl
  where
    here : (o : Option ℕ) → slice_get x.processes.items j ≡ o → ⊥
    here (Some n) e = none j (slice_get_within x.processes.items j n e) failed
    here None e =
        let no : None ≡ Some (Over (Aborted failed.0)) =
        sym (ap (some_process parts.processes.items) e) ∙ failed.1 in cc

-- the process of a part
pub part_stands : (parts : PartsOf) (x : PackedOf) (k : ℕ) → k < length x.processes.items
    → (unpacked parts x).process (suc k) ≡ process_in parts.processes.items (get_or x.processes.items k 0)
part_stands parts x k less = ap (some_process parts.processes.items) (slice_get-get_or x.processes.items k 0 less)
