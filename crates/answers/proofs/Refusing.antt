-- Why a job has no answer: a refusal is the text's own, and what failed has its cause.
use Rattle.std.proofs.Common.{◌≡◌, ◌≢◌, ◌<◌, ◌⊎◌, ℕ, List, Result, Ok, Err, IfErr, inl, inr, ap, length, refl, subst, sym}
use Rattle.std.specs.Prelude.{IsErr, IsErrAnd}
use Rattle.words.specs.declared.version.ImageVersion.{ImageVersion}
use Rattle.scanner.specs.Limits.{most_bytes}
use Rattle.scanner.specs.Refusals.{out_of_memory}
use Rattle.scanner.specs.declared.refusal.Refusal.{Refusal}
use Rattle.isa.specs.Programs.{Program as Image}
use Rattle.isa.specs.Reading.{program_of}
use Rattle.isa.specs.declared.fault.DecodeFault.{DecodeFault}
use Rattle.isa.specs.declared.fault.DecodeFault.TheVariants as decode
use Rattle.machine.specs.declared.event.Entry.{Entry}
use Rattle.runner.specs.Logs.{Outside}
use Rattle.runner.specs.LogSchedules.{IsBadLogEntry}
use Rattle.runner.specs.Reports.{CanFail}
use Rattle.runner.specs.Schedules.{FailsAt}
use Rattle.runner.specs.declared.fault.RunFault.{RunFault}
use Rattle.runner.specs.declared.fault.RunFault.TheVariants as run
use Rattle.runner.specs.declared.schedule.ScheduleFault.{ScheduleFault}
use Rattle.runner.specs.declared.schedule.ScheduleFault.TheVariants as follow
use Rattle.runner.specs.declared.schedule.Turn.{Turn}
use Rattle.schedules.specs.Shrinking.{CannotShrink, HasNoFailure}
use Rattle.schedules.specs.declared.shrinking.ShrinkFault.{ShrinkFault}
use Rattle.schedules.specs.declared.shrinking.ShrinkFault.TheVariants as shrink
use Rattle.assembler.specs.Listings.{RefusesText}
use Rattle.assembler.specs.declared.refusal.AssemblyRefusal.{AssemblyRefusal}
use Rattle.log_text.specs.Spelled.{IsLogText}
use Rattle.commandline.specs.declared.options.RunOptions.{RunOptions}
use Rattle.compiler.specs.Accepts.{RefusesTextAs}
use Rattle.compiler.specs.Compiles.{IsCompiledAs}
use Rattle.answers.specs.Asked.{outside_by}
use Rattle.answers.specs.Causes.{CannotRun, CannotTakeLog, FailsLines, FailsLog, FailsShrinking, FailsTextLog}
use Rattle.answers.specs.Causes.{FailsTextTurns, FailsTurns, IsNoImage}
use Rattle.answers.specs.Explaining.{IsRefusedExplanation}
use Rattle.answers.specs.Failures.{IsLeftBy, IsRefusalOrMemory, OfAssembly, OfExplain, OfFault, OfImage, OfRefusal}
use Rattle.answers.specs.Failures.{OfFollowing, OfReplay, OfRun, OfSchedule, OfShrink, OfSourceLog, OrMemory}
use Rattle.answers.specs.Retelling.{StopsRetelling}
use Rattle.action_text.specs.Following.{IsRefusedText}
use Rattle.action_text.specs.declared.following.FollowFault.{FollowFault}
use Rattle.action_text.specs.declared.following.FollowFault.TheVariants as told
use Rattle.program.specs.Names.{CheckedProgram}
use Rattle.answers.specs.LogLimits.{log_bytes}
use Rattle.answers.specs.Replaying.{IsRefusedReplay}
use Rattle.answers.specs.Running.{IsRefusedRun}
use Rattle.answers.specs.SourceLog.{CannotFollow, FollowsNot, HasBadEntry, IsRefusedLog, IsUnfollowedLog, ReadsNot}
use Rattle.answers.specs.Turns.{turns_in}
use Rattle.answers.specs.Versions.{code_as}
use Rattle.answers.specs.declared.explained_run.ExplainSourceFault.{ExplainSourceFault}
use Rattle.answers.specs.declared.explained_run.ExplainSourceFault.TheVariants as explain
use Rattle.answers.specs.declared.failure.Failure.{Failure}
use Rattle.answers.specs.declared.failure.Failure.TheVariants as failure
use Rattle.answers.specs.declared.failure.Failure.TheVariants.{LogBytes, Memory, Schedule}
use Rattle.answers.specs.declared.failure.NoAnswer.{NoAnswer}
use Rattle.answers.specs.declared.failure.NoAnswer.TheVariants.{Failed}
use Rattle.answers.specs.declared.replaying.ReplayFault.{ReplayFault}
use Rattle.answers.specs.declared.replaying.ReplayFault.TheVariants as replay
use Rattle.answers.specs.declared.source_log.SourceLogFault.{SourceLogFault}
use Rattle.answers.specs.declared.source_log.SourceLogFault.TheVariants as log
use Rattle.answers.specs.declared.source_run.RunSourceFault.{RunSourceFault}
use Rattle.answers.specs.declared.source_run.RunSourceFault.TheVariants as source
use Rattle.answers.proofs.Replays.{replay_sound}

-- what comes of a fault that is passed on
pub left_by : {T E : Type 0} (r : Result T E) (Q P : E → Type 0) → IsErr r × IsErrAnd r Q → ((n : E) → Q n → P n)
    → IfErr r P
left_by (Ok t) Q P h on = tt
left_by (Err n) Q P h on = on n h.1

-- where it is the same, what is known of it
pub left_as : {T E : Type 0} (r : Result T E) (n : E) (P : E → Type 0) → IsErr r × IsErrAnd r (λ x. x ≡ n) → P n
    → IfErr r P
left_as r n P h p = left_by r (λ x. x ≡ n) P h (λ x e. subst P (sym e) p)

module _ (P : Refusal → Type 0) (U : AssemblyRefusal → Type 0) (F : Failure → Type 0) where
  -- want of memory, and another failure
  pub memory_left : (n : NoAnswer) → n ≡ Failed Memory → IsLeftBy P U F n
  memory_left n e = subst (IsLeftBy P U F) (sym e) (inl refl)

  pub failed_left : (n : NoAnswer) (f : Failure) → n ≡ Failed f → F f → IsLeftBy P U F n
  failed_left n f e h = subst (IsLeftBy P U F) (sym e) (inr h)

  pub failure_left : (n : NoAnswer) (f : Failure) → n ≡ Failed f → OrMemory F f → IsLeftBy P U F n
  failure_left n f e h = subst (IsLeftBy P U F) (sym e) h

  -- a refusal
  pub refused_by : (e : Refusal) (n : NoAnswer) → (e ≡ out_of_memory) ⊎ P e → OfRefusal e n → IsLeftBy P U F n
  refused_by e n known (inl (is, gives)) = memory_left n gives
  refused_by e n (inl memory) (inr (is_not, gives)) = absurd (is_not (ap (λ (x : Refusal). x.kind) memory))
  refused_by e n (inr refuses) (inr (is_not, gives)) = subst (IsLeftBy P U F) (sym gives) refuses

  -- that of an assembly text
  pub unassembled_by : (e : AssemblyRefusal) (n : NoAnswer) → U e → OfAssembly e n → IsLeftBy P U F n
  unassembled_by e n known (inl (is, gives)) = memory_left n gives
  unassembled_by e n known (inr (is_not, gives)) = subst (IsLeftBy P U F) (sym gives) known

-- the same where else there is no memory
pub refused_or_memory : (Refuses : Refusal → Type 0) (e : Refusal) (n : NoAnswer) → (e ≡ out_of_memory) ⊎ Refuses e
    → OfRefusal e n → IsRefusalOrMemory Refuses n
refused_or_memory Refuses e n known (inl (is, gives)) = subst (IsRefusalOrMemory Refuses) (sym gives) refl
refused_or_memory Refuses e n (inl memory) (inr (is_not, gives)) =
    absurd (is_not (ap (λ (x : Refusal). x.kind) memory))
refused_or_memory Refuses e n (inr refuses) (inr (is_not, gives)) =
    subst (IsRefusalOrMemory Refuses) (sym gives) refuses

-- bytes that are no image
no_image : (bytes : List ℕ) (e : DecodeFault) (f : Failure) → e ≢ decode.Memory
    → (e ≢ decode.Memory → program_of bytes ≡ Err e) → f ≡ failure.Image e → OrMemory (IsNoImage bytes) f
no_image bytes e f other exact gives = subst (OrMemory (IsNoImage bytes)) (sym gives) (inr (exact other))

pub not_image : (bytes : List ℕ) (e : DecodeFault) (f : Failure) → (e ≢ decode.Memory → program_of bytes ≡ Err e)
    → OfImage e f → OrMemory (IsNoImage bytes) f
not_image bytes decode.BadMagic f exact gives = no_image bytes decode.BadMagic f (λ q. absurd cc) exact gives
not_image bytes decode.Version f exact gives = no_image bytes decode.Version f (λ q. absurd cc) exact gives
not_image bytes decode.Short f exact gives = no_image bytes decode.Short f (λ q. absurd cc) exact gives
not_image bytes decode.BadInstr f exact gives = no_image bytes decode.BadInstr f (λ q. absurd cc) exact gives
not_image bytes decode.BadTarget f exact gives = no_image bytes decode.BadTarget f (λ q. absurd cc) exact gives
not_image bytes decode.Trailing f exact gives = no_image bytes decode.Trailing f (λ q. absurd cc) exact gives
not_image bytes decode.Limit f exact gives = no_image bytes decode.Limit f (λ q. absurd cc) exact gives
not_image bytes decode.Memory f exact gives = inl gives

-- a run of an image that fails
pub run_fails : (options : RunOptions) (image : Image) (e : RunFault) (f : Failure)
    → CanFail image (outside_by options.order) options.steps e → OfFault e f → OrMemory (CannotRun options image) f
run_fails options image run.Memory f fails gives = inl gives
run_fails options image run.Broken f fails gives =
    subst (OrMemory (CannotRun options image)) (sym gives) (inr (refl, fails))
run_fails options image run.Stray f fails gives = absurd fails
run_fails options image run.CannotMove f fails gives = absurd fails
run_fails options image run.Limit f fails gives = absurd fails

-- a log that is too long by its bytes
pub long_log : (IsBad : ℕ → Type 0) (most : ℕ) (text lines : List ℕ) (f : Failure)
    → (f ≡ LogBytes (log_bytes most)) × (log_bytes most < length lines) → FailsTextLog IsBad most text lines f
long_log IsBad most text lines f (is, long) = subst (FailsTextLog IsBad most text lines) (sym is) (refl, long)

pub long_lines : (most : ℕ) (lines : List ℕ) (f : Failure)
    → (f ≡ LogBytes (log_bytes most)) × (log_bytes most < length lines) → FailsLines most lines f
long_lines most lines f (is, long) = subst (FailsLines most lines) (sym is) (refl, long)

-- a schedule that is
long_turns : (v : ImageVersion) (text schedule : List ℕ) (f : Failure)
    → (f ≡ Schedule 0) × (most_bytes < length schedule) → FailsTextTurns v text schedule f
long_turns v text schedule f (is, long) = subst (FailsTextTurns v text schedule) (sym is) (inl (refl, long))

pub text_turns_unread : (v : ImageVersion) (text schedule : List ℕ) (f : Failure)
    → OrMemory (λ f. (f ≡ Schedule 0) × (most_bytes < length schedule)) f → OrMemory (FailsTextTurns v text schedule) f
text_turns_unread v text schedule f (inl memory) = inl memory
text_turns_unread v text schedule f (inr long) = inr (long_turns v text schedule f long)

pub shrink_unread : (v : ImageVersion) (text schedule : List ℕ) (f : Failure)
    → OrMemory (λ f. (f ≡ Schedule 0) × (most_bytes < length schedule)) f → OrMemory (FailsShrinking v text schedule) f
shrink_unread v text schedule f (inl memory) = inl memory
shrink_unread v text schedule f (inr (is, long)) =
    inr (subst (FailsShrinking v text schedule) (sym is) (inl (refl, long)))

pub turns_unread : (image : Image) (schedule : List ℕ) (f : Failure)
    → OrMemory (λ f. (f ≡ Schedule 0) × (most_bytes < length schedule)) f → OrMemory (FailsTurns image schedule) f
turns_unread image schedule f (inl memory) = inl memory
turns_unread image schedule f (inr (is, long)) =
    inr (subst (FailsTurns image schedule) (sym is) (inl (refl, long)))

module _ (v : ImageVersion) (text : List ℕ) where
  abbrev Refuses : Refusal → Type 0
  Refuses e = RefusesTextAs v text e

  -- a run of the text's code meets no step that may not be
  pub run_left : (may : Outside) (limit : ℕ) (fault : RunSourceFault) (n : NoAnswer)
      → IsRefusedRun v text may limit fault → fault ≢ source.Run run.Broken → OfRun fault n
      → IsRefusalOrMemory (RefusesTextAs v text) n
  run_left may limit (source.Refused e) n known sound gives = refused_or_memory Refuses e n known gives
  run_left may limit (source.Run run.Memory) n known sound (f, of_fault, gives) =
      subst (IsRefusalOrMemory Refuses) (sym gives) of_fault
  run_left may limit (source.Run run.Broken) n known sound gives = absurd (sound refl)
  run_left may limit (source.Run run.Stray) n known sound gives = absurd known.fails
  run_left may limit (source.Run run.CannotMove) n known sound gives = absurd known.fails
  run_left may limit (source.Run run.Limit) n known sound gives = absurd known.fails

  pub explain_left : (F : Failure → Type 0) (fault : ExplainSourceFault) (n : NoAnswer)
      → IsRefusedExplanation v text fault → OfExplain fault n → IsLeftBy (RefusesTextAs v text) (λ e. ⊥) F n
  explain_left F (explain.Refused e) n known gives = refused_by Refuses (λ e. ⊥) F e n known gives
  explain_left F explain.Memory n known gives = memory_left Refuses (λ e. ⊥) F n gives

  pub replay_left_by : (schedule : List ℕ) (turns : List Turn) (fault : ReplayFault) (n : NoAnswer)
      → turns ≡ turns_in schedule → IsRefusedReplay v text turns fault → OfReplay fault n
      → IsLeftBy (RefusesTextAs v text) (λ e. ⊥) (FailsTextTurns v text schedule) n
  replay_left_by schedule turns (replay.Refused e) n same known gives =
      refused_by Refuses (λ e. ⊥) (FailsTextTurns v text schedule) e n known gives
  replay_left_by schedule turns (replay.BadEntry number) n same known gives =
      let bad = subst (λ (ts : List Turn). IsRefusedReplay v text ts (replay.BadEntry number)) same known in
      failed_left Refuses (λ e. ⊥) (FailsTextTurns v text schedule) n _ gives (inr bad)
  replay_left_by schedule turns replay.Memory n same known gives =
      memory_left Refuses (λ e. ⊥) (FailsTextTurns v text schedule) n gives

  pub log_left : (lines : List ℕ) (most : ℕ) (fault : SourceLogFault) (n : NoAnswer)
      → IsRefusedLog v text lines most fault → OfSourceLog fault n
      → IsLeftBy (RefusesTextAs v text) (λ e. ⊥) (FailsTextLog (HasBadEntry v text lines) most text lines) n
  log_left lines most (log.Refused e) n known gives =
      refused_by Refuses (λ e. ⊥) (FailsTextLog (HasBadEntry v text lines) most text lines) e n known gives
  log_left lines most (log.Line number) n known gives =
      failed_left Refuses (λ e. ⊥) (FailsTextLog (HasBadEntry v text lines) most text lines) n _ gives known
  log_left lines most (log.Steps count) n known gives =
      failed_left Refuses (λ e. ⊥) (FailsTextLog (HasBadEntry v text lines) most text lines) n _ gives known
  log_left lines most (log.Entry number) n known gives =
      failed_left Refuses (λ e. ⊥) (FailsTextLog (HasBadEntry v text lines) most text lines) n _ gives known
  log_left lines most log.Memory n known gives =
      memory_left Refuses (λ e. ⊥) (FailsTextLog (HasBadEntry v text lines) most text lines) n gives

  pub log_not_followed : (lines : List ℕ) (most : ℕ) (fault : SourceLogFault) (n : NoAnswer)
      → IsUnfollowedLog v text lines most fault → OfSourceLog fault n
      → IsLeftBy (RefusesTextAs v text) (λ e. ⊥) (FailsTextLog (CannotFollow v text lines) most text lines) n
  log_not_followed lines most (log.Refused e) n known gives =
      refused_by Refuses (λ e. ⊥) (FailsTextLog (CannotFollow v text lines) most text lines) e n known gives
  log_not_followed lines most (log.Line number) n known gives =
      failed_left Refuses (λ e. ⊥) (FailsTextLog (CannotFollow v text lines) most text lines) n _ gives known
  log_not_followed lines most (log.Steps count) n known gives =
      failed_left Refuses (λ e. ⊥) (FailsTextLog (CannotFollow v text lines) most text lines) n _ gives known
  log_not_followed lines most (log.Entry number) n known gives =
      failed_left Refuses (λ e. ⊥) (FailsTextLog (CannotFollow v text lines) most text lines) n _ gives known
  log_not_followed lines most log.Memory n known gives =
      memory_left Refuses (λ e. ⊥) (FailsTextLog (CannotFollow v text lines) most text lines) n gives

-- a schedule that isn't made shorter
module _ (v : ImageVersion) (text : List ℕ) (image : Image) (compiled : IsCompiledAs v text image) (second : List ℕ) where
  abbrev Shrinks : NoAnswer → Type 0
  Shrinks n = IsLeftBy (RefusesTextAs v text) (λ e. ⊥) (FailsShrinking v text second) n

  not_taken_by : (fault : ScheduleFault) (n : NoAnswer) → FailsAt image (turns_in second) fault → OfSchedule fault n
      → Shrinks n
  not_taken_by (follow.BadEntry number) n known gives =
      failed_left (RefusesTextAs v text) (λ e. ⊥) (FailsShrinking v text second) n _ gives
      (inr (record {
        program = compiled.program;
        accepts = compiled.accepts;
        fails = subst (λ (i : Image). FailsAt i (turns_in second) (follow.BadEntry number)) compiled.code known;
      }))
  not_taken_by (follow.Broken number) n known gives =
      absurd (replay_sound v text image (turns_in second) number compiled known)
  not_taken_by follow.Memory n known gives = memory_left (RefusesTextAs v text) (λ e. ⊥) (FailsShrinking v text second) n gives

  not_shrunk : (fault : ShrinkFault) (n : NoAnswer) → CannotShrink image (turns_in second) fault → OfShrink fault n
      → Shrinks n
  not_shrunk (shrink.Schedule fault) n known gives = not_taken_by fault n known gives
  not_shrunk shrink.NoFailure n known gives =
      failed_left (RefusesTextAs v text) (λ e. ⊥) (FailsShrinking v text second) n _ gives
      (record {
        program = compiled.program;
        accepts = compiled.accepts;
        none = subst (λ (i : Image). HasNoFailure i (turns_in second)) compiled.code known;
      })
  not_shrunk shrink.Memory n known gives = memory_left (RefusesTextAs v text) (λ e. ⊥) (FailsShrinking v text second) n gives

  pub shrink_left : (turns : List Turn) (fault : ShrinkFault) (n : NoAnswer) → turns ≡ turns_in second
      → CannotShrink image turns fault → OfShrink fault n
      → IsLeftBy (RefusesTextAs v text) (λ e. ⊥) (FailsShrinking v text second) n
  shrink_left turns fault n same known gives =
      not_shrunk fault n (subst (λ (ts : List Turn). CannotShrink image ts fault) same known) gives

-- lines that are no log's
pub not_read : (F : Failure → Type 0) (lines : List ℕ) (most : ℕ) (fault : SourceLogFault) (n : NoAnswer)
    → ((f : Failure) → FailsLines most lines f → F f) → ReadsNot lines most fault → OfSourceLog fault n
    → IsLeftBy (λ e. ⊥) (λ e. ⊥) F n
not_read F lines most (log.Refused e) n on known gives = absurd known
not_read F lines most (log.Line number) n on known gives =
    failed_left (λ e. ⊥) (λ e. ⊥) F n _ gives (on (failure.LogLine number) known)
not_read F lines most (log.Steps count) n on known gives =
    failed_left (λ e. ⊥) (λ e. ⊥) F n _ gives (on (failure.LogSteps count) known)
not_read F lines most (log.Entry number) n on known gives = absurd known
not_read F lines most log.Memory n on known gives = memory_left (λ e. ⊥) (λ e. ⊥) F n gives

-- a log that an image can't follow
pub not_taken : (image : Image) (lines : List ℕ) (most : ℕ) (entries slice : List Entry) (fault : SourceLogFault)
    (n : NoAnswer) → IsLogText lines entries → slice ≡ entries → FollowsNot image slice fault → OfSourceLog fault n
    → IsLeftBy (λ e. ⊥) (λ e. ⊥) (FailsLog image most lines) n
not_taken image lines most entries slice (log.Refused e) n reads same known gives = absurd known
not_taken image lines most entries slice (log.Line number) n reads same known gives = absurd known
not_taken image lines most entries slice (log.Steps count) n reads same known gives = absurd known
not_taken image lines most entries slice (log.Entry number) n reads same known gives =
    failed_left (λ e. ⊥) (λ e. ⊥) (FailsLog image most lines) n _ gives
    (inr (entries, reads, subst (λ (es : List Entry). IsBadLogEntry image es number) same known))
not_taken image lines most entries slice log.Memory n reads same known gives =
    memory_left (λ e. ⊥) (λ e. ⊥) (FailsLog image most lines) n gives

-- a schedule that an image can't follow
pub not_followed_by : (image : Image) (schedule : List ℕ) (turns : List Turn) (fault : ScheduleFault) (n : NoAnswer)
    → turns ≡ turns_in schedule → FailsAt image turns fault → OfSchedule fault n
    → IsLeftBy (λ e. ⊥) (λ e. ⊥) (FailsTurns image schedule) n
not_followed_by image schedule turns (follow.BadEntry number) n same known gives =
    failed_left (λ e. ⊥) (λ e. ⊥) (FailsTurns image schedule) n _ gives
    (inr (subst (λ (ts : List Turn). FailsAt image ts (follow.BadEntry number)) same known))
not_followed_by image schedule turns (follow.Broken number) n same known gives =
    failed_left (λ e. ⊥) (λ e. ⊥) (FailsTurns image schedule) n _ gives
    (subst (λ (ts : List Turn). FailsAt image ts (follow.Broken number)) same known)
not_followed_by image schedule turns follow.Memory n same known gives =
    memory_left (λ e. ⊥) (λ e. ⊥) (FailsTurns image schedule) n gives

-- actions that are no run
module _ (c : CheckedProgram) (lines : List ℕ) where
  pub following_left : (fault : FollowFault) (n : NoAnswer) → IsRefusedText c lines fault → OfFollowing fault n
      → IsLeftBy (λ e. ⊥) (λ e. ⊥) (StopsRetelling c lines) n
  following_left (told.Line number) n known gives =
      failed_left (λ e. ⊥) (λ e. ⊥) (StopsRetelling c lines) n _ gives known
  following_left (told.Action number) n known gives =
      failed_left (λ e. ⊥) (λ e. ⊥) (StopsRetelling c lines) n _ gives known
  following_left told.Memory n known gives = memory_left (λ e. ⊥) (λ e. ⊥) (StopsRetelling c lines) n gives
