-- Where a value is missing, no job is asked for.
use Rattle.std.proofs.Common.{◌≡◌, ◌⊎◌, inl, inr, ℕ, Bool, true, false, List, [], ◌∷◌, Option, Some, None, codes}
use Rattle.clap.specs.Words.{Row, first_of}
use Rattle.commandline.specs.CommandLine.{IsCheckOf, IsCompileOf, IsEmitOf, IsExplainOf, IsListOf, AsksForExec}
use Rattle.commandline.specs.CommandLine.{IsAssembleOf, IsExploreOf, IsScheduleOf, IsShrinkOf, ReadsChart, ReadsKills}
use Rattle.commandline.specs.CommandLine.{ReadsStates, ReadsSteps}
use Rattle.commandline.specs.declared.options.ChartOptions.{ChartOptions}
use Rattle.commandline.specs.CommandLine.{AsksForReplay, AsksForRun, IsExplainedBy, IsReplayedBy, ReadsOptions}
use Rattle.commandline.specs.CommandLine.{ReadsVersion, ReadsWorkers}
use Rattle.words.specs.declared.version.ImageVersion.{ImageVersion}
use Rattle.commandline.specs.declared.options.Exits.{Exits}
use Rattle.commandline.specs.declared.options.ExplainedBy.{ExplainedBy}
use Rattle.commandline.specs.declared.options.ReplayedBy.{ReplayedBy}
use Rattle.commandline.specs.declared.options.RunOptions.{RunOptions}
use Rattle.commandline.specs.declared.job.Job.{Job}
use Rattle.commandline.specs.declared.job.Job.TheVariants.{Check, Compile, List as List', Run, Exec, Replay, Explain}
use Rattle.commandline.specs.declared.job.Job.TheVariants.{Emit, Explore, Search, Follow, Assemble, Fmt, Schedule, Shrink, Retell}
use Rattle.commandline.specs.declared.options.ImageForm.{ImageForm}
use Rattle.commandline.specs.CommandLine.{IsFmtOf, ReadsExits, ReadsForm, has_any, is_written, of_runs, of_source}
use Rattle.commandline.proofs.NoSources.{clash, no_source}
use Rattle.commandline.proofs.Numbers.{no_value}

pub no_check : (rows : List Row) (job : Job) → first_of (codes "FILE") rows ≡ None → IsCheckOf rows job → ⊥
no_check rows (Check file hints) none h = no_value _ _ none h.0
no_check rows other none h = h

pub no_compile : (rows : List Row) (job : Job)
    → (first_of (codes "FILE") rows ≡ None) ⊎ ((first_of (codes "OUT") rows ≡ None)
    ⊎ (((n : ℕ) → ReadsWorkers rows n → ⊥) ⊎ ((v : ImageVersion) → ReadsVersion rows v → ⊥)))
    → IsCompileOf rows job → ⊥
no_compile rows (Compile file out workers version hints) (inl none) h = no_value _ _ none h.0
no_compile rows (Compile file out workers version hints) (inr (inl none)) h = no_value _ _ none h.1
no_compile rows (Compile file out workers version hints) (inr (inr (inl none))) h = none workers h.2
no_compile rows (Compile file out workers version hints) (inr (inr (inr none))) h = none version h.3
no_compile rows other missing h = h

pub no_list : (rows : List Row) (job : Job) → first_of (codes "IMAGE") rows ≡ None → IsListOf rows job → ⊥
no_list rows (List' image linux source hints) none h = no_value _ _ none h.0
no_list rows other none h = h

pub no_run : (rows : List Row) (job : Job)
    → (first_of (codes "FILE") rows ≡ None) ⊎ ((o : RunOptions) → ReadsOptions rows o → ⊥) → AsksForRun rows job → ⊥
no_run rows (Run file exits options page hints) (inl none) h = no_value _ _ none h.0
no_run rows (Run file exits options page hints) (inr none) h = none options h.2
no_run rows other missing h = h

pub no_exec : (rows : List Row) (job : Job)
    → (first_of (codes "IMAGE") rows ≡ None) ⊎ (((e : Exits) → ReadsExits rows e → ⊥)
    ⊎ ((o : RunOptions) → ReadsOptions rows o → ⊥)) → AsksForExec rows job → ⊥
no_exec rows (Exec image form exits options) (inl none) h = no_value _ _ none h.0
no_exec rows (Exec image form exits options) (inr (inl none)) h = none exits h.2
no_exec rows (Exec image form exits options) (inr (inr none)) h = none options h.3
no_exec rows other missing h = h

pub no_replay : (rows : List Row) (job : Job) → ReadsForm rows None
    → (is_written (codes "exits") rows ≡ true)
    ⊎ ((first_of (codes "FILE") rows ≡ None) ⊎ ((r : ReplayedBy) → IsReplayedBy rows r → ⊥)) → AsksForReplay rows job
    → ⊥
no_replay rows (Replay file exits by trace page hints) source (inl more) h = clash _ more h.7
no_replay rows (Replay file exits by trace page hints) source (inr (inl none)) h = no_value _ _ none h.0
no_replay rows (Replay file exits by trace page hints) source (inr (inr none)) h = none by h.2
no_replay rows (Follow file form exits by trace hints) source missing h = no_source rows form source h.1
no_replay rows other source missing h = h

pub no_follow : (rows : List Row) (job : Job) (form : ImageForm) → ReadsForm rows (Some form)
    → (has_any (codes "page" ∷ codes "linux" ∷ []) rows ≡ true)
    ⊎ ((first_of (codes "FILE") rows ≡ None) ⊎ (((e : Exits) → ReadsExits rows e → ⊥)
    ⊎ ((r : ReplayedBy) → IsReplayedBy rows r → ⊥))) → AsksForReplay rows job → ⊥
no_follow rows (Replay file exits by trace page hints) form image missing h = no_source rows form h.6 image
no_follow rows (Follow file f exits by trace hints) form image (inl more) h = clash _ more h.5
no_follow rows (Follow file f exits by trace hints) form image (inr (inl none)) h = no_value _ _ none h.0
no_follow rows (Follow file f exits by trace hints) form image (inr (inr (inl none))) h = none exits h.2
no_follow rows (Follow file f exits by trace hints) form image (inr (inr (inr none))) h = none by h.3
no_follow rows other form image missing h = h

pub no_formed_replay : (rows : List Row) (job : Job) → ((f : Option ImageForm) → ReadsForm rows f → ⊥)
    → AsksForReplay rows job → ⊥
no_formed_replay rows (Replay file exits by trace page hints) none h = none None h.6
no_formed_replay rows (Follow file form exits by trace hints) none h = none (Some form) h.1
no_formed_replay rows other none h = h

pub no_explain : (rows : List Row) (job : Job) → is_written (codes "actions") rows ≡ false
    → (first_of (codes "FILE") rows ≡ None) ⊎ (((e : ExplainedBy) → IsExplainedBy rows e → ⊥)
    ⊎ ((c : Option ChartOptions) → ReadsChart rows c → ⊥)) → IsExplainOf rows job → ⊥
no_explain rows (Explain file exits by chart timeline page places hints) out (inl none) h = no_value _ _ none h.0
no_explain rows (Explain file exits by chart timeline page places hints) out (inr (inl none)) h = none by h.2
no_explain rows (Explain file exits by chart timeline page places hints) out (inr (inr none)) h = none chart h.3
no_explain rows (Retell file exits actions chart timeline page places hints) out missing h = clash _ h.8 out
no_explain rows other out missing h = h

pub no_retelling : (rows : List Row) (job : Job) → is_written (codes "actions") rows ≡ true
    → (has_any of_runs rows ≡ true) ⊎ ((first_of (codes "FILE") rows ≡ None)
    ⊎ ((first_of (codes "actions") rows ≡ None) ⊎ ((c : Option ChartOptions) → ReadsChart rows c → ⊥)))
    → IsExplainOf rows job → ⊥
no_retelling rows (Retell file exits actions chart timeline page places hints) stands (inl more) h = clash _ more h.9
no_retelling rows (Retell file exits actions chart timeline page places hints) stands (inr (inl none)) h =
    no_value _ _ none h.0
no_retelling rows (Retell file exits actions chart timeline page places hints) stands (inr (inr (inl none))) h =
    no_value _ _ none h.2
no_retelling rows (Retell file exits actions chart timeline page places hints) stands (inr (inr (inr none))) h =
    none chart h.3
no_retelling rows (Explain file exits by chart timeline page places hints) stands missing h = clash _ stands h.8
no_retelling rows other stands missing h = h

pub no_emit : (rows : List Row) (job : Job)
    → (first_of (codes "FILE") rows ≡ None) ⊎ (first_of (codes "OUT") rows ≡ None) → IsEmitOf rows job → ⊥
no_emit rows (Emit file out hints) (inl none) h = no_value _ _ none h.0
no_emit rows (Emit file out hints) (inr none) h = no_value _ _ none h.1
no_emit rows other missing h = h

pub no_explore : (rows : List Row) (job : Job) → ReadsForm rows None
    → (is_written (codes "exits") rows ≡ true) ⊎ ((first_of (codes "FILE") rows ≡ None)
    ⊎ (((n : ℕ) → ReadsStates rows n → ⊥) ⊎ (((n : ℕ) → ReadsKills rows n → ⊥)
    ⊎ ((c : Option ChartOptions) → ReadsChart rows c → ⊥)))) → IsExploreOf rows job → ⊥
no_explore rows (Explore file exits states strays kills ends chart timeline page schedule actions places hints) source (inl more) h =
    clash _ more h.14
no_explore rows (Explore file exits states strays kills ends chart timeline page schedule actions places hints) source (inr (inl none)) h =
    no_value _ _ none h.0
no_explore rows (Explore file exits states strays kills ends chart timeline page schedule actions places hints) source (inr (inr (inl none))) h =
    none states h.2
no_explore rows (Explore file exits states strays kills ends chart timeline page schedule actions places hints) source (inr (inr (inr (inl none)))) h =
    none kills h.4
no_explore rows (Explore file exits states strays kills ends chart timeline page schedule actions places hints) source (inr (inr (inr (inr none)))) h =
    none chart h.6
no_explore rows (Search file form exits states strays kills files hints) source missing h = no_source rows form source h.1
no_explore rows other source missing h = h

pub no_search : (rows : List Row) (job : Job) (form : ImageForm) → ReadsForm rows (Some form)
    → (has_any of_source rows ≡ true)
    ⊎ ((first_of (codes "FILE") rows ≡ None) ⊎ (((e : Exits) → ReadsExits rows e → ⊥)
    ⊎ (((n : ℕ) → ReadsStates rows n → ⊥) ⊎ ((n : ℕ) → ReadsKills rows n → ⊥)))) → IsExploreOf rows job → ⊥
no_search rows (Explore file exits states strays kills ends chart timeline page schedule actions places hints) form image missing h =
    no_source rows form h.13 image
no_search rows (Search file f exits states strays kills files hints) form image (inl more) h = clash _ more h.7
no_search rows (Search file f exits states strays kills files hints) form image (inr (inl none)) h =
    no_value _ _ none h.0
no_search rows (Search file f exits states strays kills files hints) form image (inr (inr (inl none))) h = none exits h.2
no_search rows (Search file f exits states strays kills files hints) form image (inr (inr (inr (inl none)))) h =
    none states h.3
no_search rows (Search file f exits states strays kills files hints) form image (inr (inr (inr (inr none)))) h =
    none kills h.5
no_search rows other form image missing h = h

pub no_formed_search : (rows : List Row) (job : Job) → ((f : Option ImageForm) → ReadsForm rows f → ⊥)
    → IsExploreOf rows job → ⊥
no_formed_search rows (Explore file exits states strays kills ends chart timeline page schedule actions places hints) none h = none None h.13
no_formed_search rows (Search file form exits states strays kills files hints) none h = none (Some form) h.1
no_formed_search rows other none h = h

pub no_fmt : (rows : List Row) (job : Job) → first_of (codes "FILE") rows ≡ None → IsFmtOf rows job → ⊥
no_fmt rows (Fmt file check hints) none h = no_value _ _ none h.0
no_fmt rows other none h = h

pub no_assemble : (rows : List Row) (job : Job)
    → (first_of (codes "FILE") rows ≡ None) ⊎ (first_of (codes "OUT") rows ≡ None) → IsAssembleOf rows job → ⊥
no_assemble rows (Assemble file out hints) (inl none) h = no_value _ _ none h.0
no_assemble rows (Assemble file out hints) (inr none) h = no_value _ _ none h.1
no_assemble rows other missing h = h

pub no_schedule : (rows : List Row) (job : Job)
    → (first_of (codes "LOG") rows ≡ None) ⊎ ((first_of (codes "OUT") rows ≡ None)
    ⊎ ((n : ℕ) → ReadsSteps rows n → ⊥)) → IsScheduleOf rows job → ⊥
no_schedule rows (Schedule log out steps hints) (inl none) h = no_value _ _ none h.0
no_schedule rows (Schedule log out steps hints) (inr (inl none)) h = no_value _ _ none h.1
no_schedule rows (Schedule log out steps hints) (inr (inr none)) h = none steps h.2
no_schedule rows other missing h = h

pub no_shrink : (rows : List Row) (job : Job)
    → (first_of (codes "FILE") rows ≡ None) ⊎ ((first_of (codes "SCHEDULE") rows ≡ None)
    ⊎ (first_of (codes "OUT") rows ≡ None)) → IsShrinkOf rows job → ⊥
no_shrink rows (Shrink file exits schedule out hints) (inl none) h = no_value _ _ none h.0
no_shrink rows (Shrink file exits schedule out hints) (inr (inl none)) h = no_value _ _ none h.2
no_shrink rows (Shrink file exits schedule out hints) (inr (inr none)) h = no_value _ _ none h.3
no_shrink rows other missing h = h
