-- How the program ends, by what it told.
use Rattle.std.proofs.Common.{◌≡◌, ◌++◌, ◌⊎◌, ℕ, Bool, true, false, List, [], Result, Ok, Err, IfOk, IfErr, inl, inr, refl, codes}
use Rattle.std.proofs.Common.{◌∙◌, Bor, ap, is_some, sym, subst}
use Rattle.std.specs.Prelude.{IsErr, IsErrAnd, bytes_eq}
use Rattle.commandline.specs.CommandLine.{AsksFor}
use Rattle.commandline.specs.declared.job.Job.{Job}
use Rattle.commandline.specs.declared.job.Job.TheVariants.{Check, Compile, List as ListImage, Run, Exec, Replay, Explain, Emit, Explore}
use Rattle.commandline.specs.declared.job.Job.TheVariants.{Assemble, Fmt, Follow, Search, Shrink, Schedule as ScheduleLog, Retell}
use Rattle.commandline.proofs.Workers.{compiling_workers}
use Rattle.commandline.specs.declared.options.Exits.{Exits}
use Rattle.answers.proofs.Told.{lefts_so, ok_so}
use Rattle.log_text.specs.LogLines.{line_feed}
use Rattle.assembler.specs.Refusals.{refusal_text as assembly_refusal_text}
use Rattle.assembler.specs.declared.refusal.AssemblyRefusal.{AssemblyRefusal}
use Rattle.scanner.specs.Refusals.{refusal_text}
use Rattle.scanner.specs.declared.refusal.Refusal.{Refusal}
use Rattle.runner.specs.declared.report.Verdict.{Verdict}
use Rattle.runner.specs.declared.report.Verdict.TheVariants as verdict
use Rattle.answers.specs.Answers.{IsTold, IsToldOrMemory, status_of_verdict}
use Rattle.mesamon.specs.Asked.{HasWorkers, asks_for_hints, exits_of}
use Rattle.mesamon.specs.Commands.{Devices, EndsSo, FailsJob, FailsSome, FinishesSo, HasAnswered, HasDone, HasDoneSome}
use Rattle.mesamon.specs.Commands.{IsNoCommand}
use Rattle.mesamon.specs.Commands.{IsToldFailed}
use Rattle.mesamon.specs.Commands.{IsToldLeft, RefusesJob, RefusesSome, UnassemblesJob, UnassemblesSome}
use Rattle.image_search.specs.declared.ending.Ending.{Ending}
use Rattle.image_search.specs.declared.ending.Ending.TheVariants as ending
use Rattle.image_search.specs.declared.ending.Sleeping.{Sleeping}
use Rattle.image_search.specs.declared.ending.Sleeping.TheVariants as sleeping
use Rattle.answers.specs.Exploring.{found_status, is_failed}
use Rattle.answers.specs.Formatting.{layout_status}
use Rattle.answers.specs.Retelling.{status_of_end}
use Rattle.action_text.specs.declared.ends.RunEnd.{RunEnd}
use Rattle.action_text.specs.declared.ends.RunEnd.TheVariants as run
use Rattle.answers.specs.Images.{search_status, sleeping_status}
use Rattle.answers.specs.Failures.{IsLeftBy, OrMemory}
use Rattle.mesamon.specs.Overwriting.{overwrites}
use Rattle.answers.specs.declared.answer.Answer.{Answer}
use Rattle.answers.specs.declared.failure.Failure.{Failure}
use Rattle.answers.specs.declared.failure.NoAnswer.{NoAnswer}
use Rattle.answers.specs.declared.failure.NoAnswer.TheVariants as left
use Rattle.answers.specs.declared.status.Status.{Status}
use Rattle.answers.specs.declared.status.Status.TheVariants.{Done, Refused, Usage, Stuck, Limit, Memory, Failed, Found}

-- what was done of a job, of the job that it is
pub done_as : {E : Type 0} (r : Result Answer E) (job same : Job) (bytes second : List ℕ) → job ≡ same
    → IfOk r (HasDone same bytes second) → IfOk r (HasDone job bytes second)
done_as r job same bytes second is h = subst (λ (j : Job). IfOk r (HasDone j bytes second)) (sym is) h

-- the same where it is known of the rule of exits that a text has, which is the job's
pub done_by : {E : Type 0} (r : Result Answer E) (job same : Job) (bytes second : List ℕ) (e : Exits)
    (Holds : Exits → Answer → Type 0) → job ≡ same → e ≡ exits_of job
    → ((a : Answer) → Holds (exits_of same) a → HasDone same bytes second a) → IfOk r (Holds e)
    → IfOk r (HasDone job bytes second)
done_by r job same bytes second e Holds is by on h =
    done_as r job same bytes second is
    (ok_so r (Holds (exits_of same)) (HasDone same bytes second) on
    (subst (λ (x : Exits). IfOk r (Holds x)) (by ∙ ap exits_of is) h))

-- why it has no answer, of the job that it is
pub left_as : {T : Type 0} (r : Result T NoAnswer) (R : Refusal → Type 0) (U : AssemblyRefusal → Type 0)
    (F : Failure → Type 0) (job same : Job) (bytes second : List ℕ) → job ≡ same
    → ((e : Refusal) → R e → RefusesJob same bytes second e)
    → ((e : AssemblyRefusal) → U e → UnassemblesJob same bytes e) → ((f : Failure) → F f → FailsJob same bytes second f)
    → IfErr r (IsLeftBy R U F)
    → IfErr r (IsLeftBy (RefusesJob job bytes second) (UnassemblesJob job bytes) (FailsJob job bytes second))
left_as r R U F job same bytes second is refuses unassembles fails h =
    subst
    (λ (j : Job). IfErr r (IsLeftBy (RefusesJob j bytes second) (UnassemblesJob j bytes) (FailsJob j bytes second)))
    (sym is) (lefts_so r R (RefusesJob same bytes second) U (UnassemblesJob same bytes) F (FailsJob same bytes second)
    refuses unassembles fails h)

-- the same where it is known of the rule of exits that a text has, which is the job's
pub left_by : {T : Type 0} (r : Result T NoAnswer) (R : Exits → Refusal → Type 0) (U : AssemblyRefusal → Type 0)
    (F : Exits → Failure → Type 0) (job same : Job) (bytes second : List ℕ) (e : Exits) → job ≡ same → e ≡ exits_of job
    → ((x : Refusal) → R (exits_of same) x → RefusesJob same bytes second x)
    → ((x : AssemblyRefusal) → U x → UnassemblesJob same bytes x)
    → ((f : Failure) → F (exits_of same) f → FailsJob same bytes second f) → IfErr r (IsLeftBy (R e) U (F e))
    → IfErr r (IsLeftBy (RefusesJob job bytes second) (UnassemblesJob job bytes) (FailsJob job bytes second))
left_by r R U F job same bytes second e is by refuses unassembles fails h =
    left_as r (R (exits_of same)) U (F (exits_of same)) job same bytes second is refuses unassembles fails
    (subst (λ (x : Exits). IfErr r (IsLeftBy (R x) U (F x))) (by ∙ ap exits_of is) h)

-- what comes of a failure that is passed on
pub passed_on : {T E : Type 0} (r : Result T E) (Q P : E → Type 0) → IsErr r × IsErrAnd r Q → ((n : E) → Q n → P n)
    → IfErr r P
passed_on (Ok x) Q P h on = tt
passed_on (Err n) Q P h on = on n h.1

-- a file that isn't read is counted
pub unread : (P : Refusal → Type 0) (U : AssemblyRefusal → Type 0) (Misses : Type 0) (F : Failure → Type 0) (n : NoAnswer)
    (f : Failure) → n ≡ left.Failed f → OrMemory (λ f. Misses) f → IsLeftBy P U (λ f. Misses ⊎ F f) n
unread P U Misses F n f is (inl memory) = subst (IsLeftBy P U (λ f. Misses ⊎ F f)) (sym is) (inl memory)
unread P U Misses F n f is (inr missed) = subst (IsLeftBy P U (λ f. Misses ⊎ F f)) (sym is) (inr (inl missed))

-- a job that words ask for has a number of workers that may be
pub has_workers : (ws : List (List ℕ)) (job : Job) → AsksFor ws job → HasWorkers job
has_workers ws (Check file hints) asks = tt
has_workers ws (Compile file out workers version hints) asks =
    compiling_workers ws (Compile file out workers version hints) file out workers version hints asks refl
has_workers ws (ListImage image linux source hints) asks = tt
has_workers ws (Run file exits options page hints) asks = tt
has_workers ws (Exec image form exits options) asks = tt
has_workers ws (Replay file exits by trace page hints) asks = tt
has_workers ws (Explain file exits by chart timeline page places hints) asks = tt
has_workers ws (Retell file exits actions chart timeline page places hints) asks = tt
has_workers ws (Emit file out hints) asks = tt
has_workers ws (Explore file exits states strays kills every chart timeline page schedule actions places hints) asks = tt
has_workers ws (Search file form exits states strays kills files hints) asks = tt
has_workers ws (Follow file form exits by trace hints) asks = tt
has_workers ws (Assemble file out hints) asks = tt
has_workers ws (Fmt file check hints) asks = tt
has_workers ws (ScheduleLog log out steps hints) asks = tt
has_workers ws (Shrink file exits schedule out hints) asks = tt

-- a status with which a job that was done ends
abbrev IsEnd : Status → Type 0
IsEnd Done = Unit {0}
IsEnd Stuck = Unit {0}
IsEnd Limit = Unit {0}
IsEnd Refused = ⊥
IsEnd Usage = ⊥
IsEnd Memory = ⊥
IsEnd Failed = ⊥
IsEnd Found = Unit {0}

verdict_end : (v : Verdict) → IsEnd (status_of_verdict v)
verdict_end verdict.Done = tt
verdict_end verdict.Stuck = tt
verdict_end verdict.Limit = tt

found_end : (stuck failed complete : Bool) → IsEnd (found_status stuck failed complete)
found_end true failed complete = tt
found_end false true complete = tt
found_end false false true = tt
found_end false false false = tt

sleeping_end : (s : Sleeping) → IsEnd (sleeping_status s)
sleeping_end sleeping.Unsought = tt
sleeping_end sleeping.Never = tt
sleeping_end (sleeping.ForGood turns threads) = tt
sleeping_end (sleeping.Unknown why) = tt

search_end : (s : Sleeping) (e : Ending) → IsEnd (search_status s e)
search_end s ending.Complete = sleeping_end s
search_end s (ending.Stuck turns) = tt
search_end s (ending.Failed turns) = tt
search_end s (ending.Broken turns) = tt
search_end s (ending.Bounded bound) = tt

told_end : (e : RunEnd) → IsEnd (status_of_end e)
told_end run.Over = tt
told_end run.Stuck = tt
told_end run.Open = tt

layout_end : (check same : Bool) → IsEnd (layout_status check same)
layout_end false same = tt
layout_end true true = tt
layout_end true false = tt

end_as : (s t : Status) → s ≡ t → IsEnd t → IsEnd s
end_as s t is h = subst IsEnd (sym is) h

ends : (job : Job) (bytes second : List ℕ) (a : Answer) → HasDone job bytes second a → IsEnd a.status
ends (Check file hints) bytes second a h = end_as a.status Done h.tells.ended tt
ends (Compile file out workers version hints) bytes second a h = end_as a.status Done h.tells.ended tt
ends (ListImage image linux source hints) bytes second a h = end_as a.status Done h.tells.ended tt
ends (Run file exits options page hints) bytes second a h = end_as a.status _ h.tells.ended (verdict_end h.report.verdict)
ends (Exec image form exits options) bytes second a h = end_as a.status _ h.runs.tells.ended (verdict_end h.runs.report.verdict)
ends (Replay file exits by trace page hints) bytes second a h = end_as a.status _ h.tells.ended (verdict_end h.report.verdict)
ends (Explain file exits by chart timeline page places hints) bytes second a h =
    end_as a.status _ h.tells.ended (verdict_end h.explained_run.report.verdict)
ends (Retell file exits actions chart timeline page places hints) bytes second a h =
    end_as a.status _ h.retells.tells.ended (told_end h.retells.end)
ends (Emit file out hints) bytes second a h = end_as a.status Done h.tells.tells.ended tt
ends (Explore file exits states strays kills every chart timeline page schedule actions places hints) bytes second a h =
    let e = h.explored_text.exploration in
    end_as a.status _ h.tells.ended (found_end (is_some e.stuck) (is_failed e) e.complete)
ends (Search file form exits states strays kills files hints) bytes second a h =
    let e = h.searches.exploration in
    end_as a.status _ h.searches.tells.ended (search_end e.sleeping e.ending)
ends (Follow file form exits by trace hints) bytes second a h =
    end_as a.status _ h.follows.tells.ended (verdict_end h.follows.report.verdict)
ends (Fmt file check hints) bytes second a h =
    end_as a.status _ h.tells.ended (layout_end check (bytes_eq h.laid bytes))
ends (Assemble file out hints) bytes second a h = end_as a.status Done h.tells.ended tt
ends (ScheduleLog log out steps hints) bytes second a h = end_as a.status Done h.tells.ended tt
ends (Shrink file exits schedule out hints) bytes second a h = end_as a.status Done h.tells.ended tt

-- by what is known of the devices; F says that one of them failed
module _ (ws : List (List ℕ)) (on : Devices) where
  abbrev Ends : Status → Type 0
  Ends s = EndsSo ws on s

  cause_of : (job : Job) (f : Failure) → on.Misses ⊎ FailsSome on.Had job f
      → on.Misses ⊎ ((failure : Failure) × FailsSome on.Had job failure)
  cause_of job f (inl missed) = inl missed
  cause_of job f (inr fails) = inr (f, fails)

  failed : (s : Status) → s ≡ Failed → on.Fails → Ends s
  failed s is fails = subst Ends (sym is) (inl fails)

  at_end : (s : Status) → IsEnd s → HasAnswered ws on s → Ends s
  at_end Done is h = h
  at_end Stuck is h = h
  at_end Limit is h = h
  at_end Refused is h = absurd is
  at_end Usage is h = absurd is
  at_end Memory is h = absurd is
  at_end Failed is h = absurd is
  at_end Found is h = h

  -- memory that ran out
  pub told_memory : (F : Type 0) (s : Status) → (F → on.Fails) → on.Wrote [] → IsTold (on.Told (codes "memory\n")) F Memory s
      → Ends s
  told_memory F s by none (inl (is, told)) = subst Ends (sym is) (none, told)
  told_memory F s by none (inr (is, fails)) = failed s is (by fails)

  -- words that ask for nothing
  pub told_usage : (F : Type 0) (text : List ℕ) (s : Status) → (F → on.Fails) → on.Wrote [] → IsNoCommand ws
      → IsTold (on.Told text) F Usage s → Ends s
  told_usage F text s by none unasked (inl (is, told)) = subst Ends (sym is) (unasked, none)
  told_usage F text s by none unasked (inr (is, fails)) = failed s is (by fails)

  -- a job that failed
  pub told_failure : (F : Type 0) (job : Job) (f : Failure) (hints : List ℕ) (s : Status) → (F → on.Fails) → on.Wrote []
      → AsksFor ws job → overwrites job ≡ false
      → OrMemory (λ f. on.Misses ⊎ FailsSome on.Had job f) f → (asks_for_hints job ≡ false → hints ≡ [])
      → IsToldFailed on.Told F hints f s → Ends s
  told_failure F job f hints s by none asks apart (inl memory) unasked (inl (inl (is, named))) = absurd (named.0 memory)
  told_failure F job f hints s by none asks apart (inr cause) unasked (inl (inl (is, named))) =
      subst Ends (sym is)
      (inr (record {
        job = job;
        asks = asks;
        apart = apart;
        cause = cause_of job f cause;
        name = named.1.0;
        hints = hints;
        unasked = unasked;
        wrote = none;
        told = named.1.1;
      }))
  told_failure F job f hints s by none asks apart cause unasked (inl (inr (is, fails))) = failed s is (by fails)
  told_failure F job f hints s by none asks apart cause unasked (inr memory) = told_memory F s by none memory

  -- a job that was done
  pub told_answer : (job : Job) (a : Answer) (asked : Bool) (s : Status) → AsksFor ws job → overwrites job ≡ false
      → HasDoneSome on.Had job a → asked ≡ asks_for_hints job → FinishesSo on asked a s → Ends s
  told_answer job a asked s asks apart done same (inl (put, hints, unasked, inl (is, both))) =
      subst Ends (sym is)
      (at_end a.status (ends job done.bytes done.second a done.done)
      (record {
        job = job;
        asks = asks;
        apart = apart;
        answer = a;
        done = done;
        ended = refl;
        put = put;
        hints = hints;
        unasked = λ none. unasked (same ∙ none);
        wrote = both.0;
        told = both.1;
      }))
  told_answer job a asked s asks apart done same (inl (put, hints, unasked, inr (is, fails))) = failed s is fails
  told_answer job a asked s asks apart done same (inr (none, missed, f, hints, unasked, told)) =
      told_failure on.Fails job f hints s (λ f. f) none asks apart (inr (inl missed)) (λ unwanted. unasked (same ∙ unwanted))
      told

  -- a text that is refused
  told_refusal : (F : Type 0) (job : Job) (e : Refusal) (hints : List ℕ) (s : Status) → (F → on.Fails) → on.Wrote []
      → AsksFor ws job → overwrites job ≡ false → RefusesSome on.Had job e → (asks_for_hints job ≡ false → hints ≡ [])
      → IsToldOrMemory on.Told (on.Told ((refusal_text e ++ line_feed) ++ hints)) F Refused s → Ends s
  told_refusal F job e hints s by none asks apart refuses unasked (inl (inl (is, told))) =
      subst Ends (sym is)
      (inl (record {
        job = job;
        asks = asks;
        apart = apart;
        refusal = e;
        refuses = refuses;
        hints = hints;
        unasked = unasked;
        wrote = none;
        told = told;
      }))
  told_refusal F job e hints s by none asks apart refuses unasked (inl (inr (is, fails))) = failed s is (by fails)
  told_refusal F job e hints s by none asks apart refuses unasked (inr memory) = told_memory F s by none memory

  -- an assembly text that is refused
  told_unassembled : (F : Type 0) (job : Job) (e : AssemblyRefusal) (hints : List ℕ) (s : Status) → (F → on.Fails)
      → on.Wrote [] → AsksFor ws job → overwrites job ≡ false → UnassemblesSome on.Had job e → (asks_for_hints job ≡ false → hints ≡ [])
      → IsToldOrMemory on.Told (on.Told ((assembly_refusal_text e ++ line_feed) ++ hints)) F Refused s → Ends s
  told_unassembled F job e hints s by none asks apart refuses unasked (inl (inl (is, told))) =
      subst Ends (sym is)
      (inr (record {
        job = job;
        asks = asks;
        apart = apart;
        refusal = e;
        refuses = refuses;
        hints = hints;
        unasked = unasked;
        wrote = none;
        told = told;
      }))
  told_unassembled F job e hints s by none asks apart refuses unasked (inl (inr (is, fails))) = failed s is (by fails)
  told_unassembled F job e hints s by none asks apart refuses unasked (inr memory) = told_memory F s by none memory

  -- a job without an answer
  pub told_left : (F : Type 0) (job : Job) (n : NoAnswer) (hints : List ℕ) (s : Status) → (F → on.Fails) → on.Wrote []
      → AsksFor ws job → overwrites job ≡ false
      → IsLeftBy (RefusesSome on.Had job) (UnassemblesSome on.Had job) (λ f. on.Misses ⊎ FailsSome on.Had job f) n
      → (asks_for_hints job ≡ false → hints ≡ [])
      → IsToldLeft on.Told F hints n s → Ends s
  told_left F job (left.Refused e) hints s by none asks apart refuses unasked told =
      told_refusal F job e hints s by none asks apart refuses unasked told
  told_left F job (left.Unassembled e) hints s by none asks apart refuses unasked told =
      told_unassembled F job e hints s by none asks apart refuses unasked told
  told_left F job (left.Failed f) hints s by none asks apart cause unasked told =
      told_failure F job f hints s by none asks apart cause unasked told
