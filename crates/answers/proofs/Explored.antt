-- What a search says of a program's image.
use Rattle.std.proofs.Common.{◌≡◌, ◌<◌, ◌^◌, ◌==◌, ℕ, List, [], None, Some, true, ap, if◌then◌else◌, length, pos, refl, subst, sym}
use Rattle.words.specs.declared.outcome.Cause.{Cause}
use Rattle.words.specs.declared.outcome.Outcome.TheVariants.{Aborted}
use Rattle.words.specs.declared.version.ImageVersion.{ImageVersion}
use Rattle.words.specs.Versions.{most_of}
use Rattle.isa.specs.Programs.{Program as Image}
use Rattle.machine.specs.PieceStates.{PieceState}
use Rattle.machine.specs.PieceSteps.{PieceRun}
use Rattle.machine.specs.Runs.{CanStep, MachineRun, Step}
use Rattle.machine.specs.States.{State}
use Rattle.program.specs.Names.{CheckedProgram, said_by}
use Rattle.program.specs.Trees.{Program, as_version}
use Rattle.lowering.specs.Pieces.{code_of}
use Rattle.meaning.specs.Labels.{Action}
use Rattle.meaning.specs.Offers.{Offer, TakesUp}
use Rattle.meaning.specs.Runs.{CanMove, IsAction, IsRun, Leads}
use Rattle.meaning.specs.States.{SourceState, main_process, opening}
use Rattle.meaning.specs.Table.{first_table}
use Rattle.meaning.proofs.Versions.{leads_as, offered}
use Rattle.proof_exploration.specs.Exploring.{IsStuck}
use Rattle.refinement.specs.Pieces.{RefinesInPieces, RestsInPieces}
use Rattle.refinement.specs.Refines.{Refines}
use Rattle.refinement.specs.Seen.{machine_end}
use Rattle.source_search.specs.Found.{HasFailed, IsCounted, LeadsNowhere}
use Rattle.source_search.specs.declared.outside.Outside.{Outside}
use Rattle.image_ends.specs.Ending.{AllOver, IsSearched}
use Rattle.compiler.specs.Accepts.{AcceptsText}
use Rattle.compiler.specs.Compiles.{IsCompiledAs}
use Rattle.commandline.specs.CommandLine.{version_by}
use Rattle.commandline.specs.declared.options.Exits.{Exits}
use Rattle.commandline.specs.declared.options.Exits.TheVariants as exits
use Rattle.source_search.specs.declared.runs.Exploration.{Exploration}
use Rattle.answers.specs.Exploring.{HoldsOfImage}
use Rattle.answers.specs.Versions.{code_as}

-- an image of a program no run of which gets stuck hangs nowhere
abbrev NeverHangs : Type 0
NeverHangs =
    (p : Program) (image : Image) (may : Outside) (steps : List Step) (s : State) → Refines p image
    → LeadsNowhere p may (IsStuck p) → MachineRun image steps s → length steps < 2 ^ 32
    → IsSearched p may steps → ((t : ℕ) → CanStep s t → ⊥) → AllOver p s

-- one of a program in no run of which a process aborts has no thread that does
abbrev NeverAborts : Type 0
NeverAborts =
    (p : Program) (image : Image) (may : Outside) (steps : List Step) (s : State) (q : ℕ) (cause : Cause)
    → Refines p image → LeadsNowhere p may (HasFailed may) → MachineRun image steps s → length steps < 2 ^ 32
    → IsSearched p may steps → machine_end s q ≡ Some (Aborted cause) → IsCounted may cause → ⊥

-- the same of the runs in which futex calls are taken in pieces
abbrev PiecesNeverHang : Type 0
PiecesNeverHang =
    (p : Program) (image : Image) (may : Outside) (buckets : ℕ) (steps : List Step) (s : PieceState)
    → RefinesInPieces p image → LeadsNowhere p may (IsStuck p) → 0 < buckets → PieceRun image buckets steps s
    → length steps < 2 ^ 32 → IsSearched p may steps → RestsInPieces image s → AllOver p s.base

abbrev PiecesNeverAbort : Type 0
PiecesNeverAbort =
    (p : Program) (image : Image) (may : Outside) (buckets : ℕ) (steps : List Step) (s : PieceState) (q : ℕ)
    (cause : Cause)
    → RefinesInPieces p image → LeadsNowhere p may (HasFailed may) → 0 < buckets → PieceRun image buckets steps s
    → length steps < 2 ^ 32 → IsSearched p may steps
    → machine_end s.base q ≡ Some (Aborted cause) → IsCounted may cause → ⊥

pub holds_of_image : NeverHangs → NeverAborts → PiecesNeverHang → PiecesNeverAbort → (p : Program) (may : Outside)
    (e : Exploration) → Refines p (code_of p) × RefinesInPieces p (code_of p)
    → (e.complete ≡ true → e.stuck ≡ None → LeadsNowhere p may (IsStuck p))
    → (e.complete ≡ true → e.aborted ≡ None → LeadsNowhere p may (HasFailed may)) → HoldsOfImage p may e
holds_of_image hangs aborts pieces_hang pieces_abort p may e (refines, pieces) never_stuck never_aborted = record {
  never_hangs = λ complete none steps s run few calm rests.
      hangs p (code_of p) may steps s refines (never_stuck complete none) run few calm rests;
  never_faults = λ complete none steps s q cause run few calm h counted.
      aborts p (code_of p) may steps s q cause refines (never_aborted complete none) run few calm h counted;
  pieces_never_hang = λ complete none buckets steps s some run few calm rests.
      pieces_hang p (code_of p) may buckets steps s pieces (never_stuck complete none) some run few calm rests;
  pieces_never_fault = λ complete none buckets steps s q cause some run few calm h counted.
      pieces_abort p (code_of p) may buckets steps s q cause pieces (never_aborted complete none) some run few calm
      h counted;
}

-- the image that a text is compiled to refines the text's one program, with calls whole and in pieces
pub refines_own : (v : ImageVersion) (text : List ℕ) (image : Image) (p : Program)
    → ((q r : Program) → AcceptsText text q → AcceptsText text r → q ≡ r) → AcceptsText text p
    → IsCompiledAs v text image → Refines (as_version v p) (code_as v p) × RefinesInPieces (as_version v p) (code_as v p)
refines_own v text image p one accepts compiled =
    subst (λ (q : Program). Refines (as_version v q) (code_as v q) × RefinesInPieces (as_version v q) (code_as v q))
    (one compiled.program p compiled.accepts accepts)
    (subst
    (λ (i : Image). Refines (as_version v compiled.program) i × RefinesInPieces (as_version v compiled.program) i)
    compiled.code (compiled.refines, compiled.pieces))

-- versions with as many processes begin alike, and no step of the source depends on the version
module _ (v : ImageVersion) (p : Program) (same : most_of p.version ≡ most_of v) where
  opens : opening p ≡ opening (as_version v p)
  opens =
      ap
      (λ (n : ℕ). record {
        table = first_table n;
        variable = λ m n i. pos 0;
        process = λ q. if q == 1 then Some (main_process p) else None;
        printed = [];
      }) same

  run_of : (actions : List Action) (s : SourceState) → IsRun (as_version v p) actions s → IsRun p actions s
  run_of actions s run =
      subst (λ (o : SourceState). Leads p o actions s) (sym opens)
      (leads_as p.version (as_version v p) actions (opening (as_version v p)) s run)

  action_as : (s s' : SourceState) (a : Action) → IsAction p s a s' → IsAction (as_version v p) s a s'
  action_as s s' a x = record {
    before = x.before;
    after = x.after;
    label = x.label;
    effect = x.effect;
    stands = x.stands;
    acts = subst (λ (o : Offer). TakesUp o x.label x.effect x.after) (sym (offered v p s.variable x.before)) x.acts;
    named = x.named;
    allows = x.allows;
    variables = x.variables;
    printed = x.printed;
    processes = x.processes;
  }

  moves_as : (s : SourceState) (q : ℕ) → CanMove p s q → CanMove (as_version v p) s q
  moves_as s q can = record {
    kind = can.kind;
    after = can.after;
    moves = action_as s can.after (record { process = q; kind = can.kind }) can.moves;
  }

  -- so a run that gets stuck is none of the other version either
  pub never_stuck_as : (may : Outside) → LeadsNowhere p may (IsStuck p)
      → LeadsNowhere (as_version v p) may (IsStuck (as_version v p))
  never_stuck_as may none actions s run from stuck =
      none actions s (run_of actions s run) from (record {
        rests = λ t can. stuck.rests t (moves_as s t can);
        process = stuck.process;
        at = stuck.at;
        stands = stuck.stands;
        goes_on = stuck.goes_on;
      })

  pub never_failed_as : (may : Outside) → LeadsNowhere p may (HasFailed may)
      → LeadsNowhere (as_version v p) may (HasFailed may)
  never_failed_as may none actions s run from failed = none actions s (run_of actions s run) from failed

-- a text's program has as many processes as its image by any rule of exits
pub as_many : (e : Exits) (c : CheckedProgram) → most_of (said_by c).version ≡ most_of (version_by e)
as_many exits.Machine c = refl
as_many exits.Linux c = refl
