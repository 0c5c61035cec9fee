-- What is told of a job, by what is told of what it made.
use Rattle.std.proofs.Common.{◌≡◌, ◌∙◌, ℕ, List, Option, None, Result, Ok, Err, IfOk, IfErr, ap, inl, inr, refl, sym, subst}
use Rattle.assembler.specs.declared.refusal.AssemblyRefusal.{AssemblyRefusal}
use Rattle.words.specs.declared.version.ImageVersion.{ImageVersion}
use Rattle.isa.specs.Programs.{Program as Image}
use Rattle.scanner.specs.declared.refusal.Refusal.{Refusal}
use Rattle.commandline.specs.declared.options.ExplainedBy.{ExplainedBy}
use Rattle.commandline.specs.declared.options.ReplayedBy.{ReplayedBy}
use Rattle.runner.specs.declared.report.Report.{Report}
use Rattle.compiler.specs.Accepts.{RefusesTextAs}
use Rattle.answers.specs.Answers.{ArePuts, Put, name_of, put_of}
use Rattle.answers.specs.Asked.{IsExplainedAs, IsReplayedAs}
use Rattle.answers.specs.Causes.{FailsBy, FailsExplanation, FailsReplay}
use Rattle.answers.specs.Failures.{HasNoMemory, IsLeftBy, IsRefusalOrMemory}
use Rattle.answers.specs.Images.{IsFollowedAs}
use Rattle.answers.specs.declared.answer.OutFile.{OutFile}
use Rattle.answers.specs.declared.answer.OutFiles.{OutFiles}
use Rattle.answers.specs.declared.explained_run.ExplainedRun.{ExplainedRun}
use Rattle.answers.specs.declared.failure.Failure.{Failure}
use Rattle.answers.specs.declared.failure.NoAnswer.{NoAnswer}
use Rattle.answers.specs.declared.failure.NoAnswer.TheVariants.{Refused, Unassembled, Failed}

-- what is so of an answer is so in more words
pub ok_so : {T E : Type 0} (r : Result T E) (P Q : T → Type 0) → ((x : T) → P x → Q x) → IfOk r P → IfOk r Q
ok_so (Ok x) P Q on h = on x h
ok_so (Err e) P Q on h = tt

-- where else there is no memory
pub memory_alone : {T : Type 0} (r : Result T NoAnswer) (Refuses : Refusal → Type 0) → IfErr r HasNoMemory
    → IfErr r (IsRefusalOrMemory Refuses)
memory_alone (Ok x) Refuses h = tt
memory_alone (Err n) Refuses h = subst (IsRefusalOrMemory Refuses) (sym h) refl

-- so no failure has a cause
or_none : (P : Refusal → Type 0) (U : AssemblyRefusal → Type 0) (F : Failure → Type 0) (n : NoAnswer)
    → IsRefusalOrMemory P n → IsLeftBy P U F n
or_none P U F (Refused e) h = h
or_none P U F (Unassembled e) h = absurd h
or_none P U F (Failed f) h = inl h

pub or_memory : {T : Type 0} (r : Result T NoAnswer) (P : Refusal → Type 0) (U : AssemblyRefusal → Type 0)
    (F : Failure → Type 0) → IfErr r (IsRefusalOrMemory P) → IfErr r (IsLeftBy P U F)
or_memory (Ok x) P U F h = tt
or_memory (Err n) P U F h = or_none P U F n h

-- why there is no answer, in more words
pub left_so : (P Q : Refusal → Type 0) (U V : AssemblyRefusal → Type 0) (F G : Failure → Type 0) (n : NoAnswer)
    → ((e : Refusal) → P e → Q e) → ((e : AssemblyRefusal) → U e → V e) → ((f : Failure) → F f → G f)
    → IsLeftBy P U F n → IsLeftBy Q V G n
left_so P Q U V F G (Refused e) on by cause h = on e h
left_so P Q U V F G (Unassembled e) on by cause h = by e h
left_so P Q U V F G (Failed f) on by cause (inl h) = inl h
left_so P Q U V F G (Failed f) on by cause (inr h) = inr (cause f h)

pub lefts_so : {T : Type 0} (r : Result T NoAnswer) (P Q : Refusal → Type 0) (U V : AssemblyRefusal → Type 0)
    (F G : Failure → Type 0) → ((e : Refusal) → P e → Q e) → ((e : AssemblyRefusal) → U e → V e)
    → ((f : Failure) → F f → G f) → IfErr r (IsLeftBy P U F) → IfErr r (IsLeftBy Q V G)
lefts_so (Ok x) P Q U V F G on by cause h = tt
lefts_so (Err n) P Q U V F G on by cause h = left_so P Q U V F G n on by cause h

-- want of memory needs no cause
pub no_memory : {T : Type 0} (r : Result T NoAnswer) (P : Refusal → Type 0) (U : AssemblyRefusal → Type 0)
    (F : Failure → Type 0) → IfErr r HasNoMemory → IfErr r (IsLeftBy P U F)
no_memory (Ok x) P U F h = tt
no_memory (Err n) P U F h = subst (IsLeftBy P U F) (sym h) (inl refl)

-- the file that is made alone is this one
pub are_puts : (made files : OutFiles) (out : Option OutFile) (put : Option Put) → files ≡ made → made.out ≡ out
    → made.timeline ≡ None → made.page ≡ None → made.schedule ≡ None → made.actions ≡ None → put_of out ≡ put
    → ArePuts put files
are_puts made files out put is has none no_page no_schedule no_actions same =
    subst (ArePuts put) (sym is)
    (ap put_of has ∙ same, ap name_of none, ap name_of no_page, ap name_of no_schedule, ap name_of no_actions)

-- a run again, by what is named
pub replayed_as : {E : Type 0} (r : Result Report E) (v : ImageVersion) (by same : ReplayedBy) (second text : List ℕ)
    → by ≡ same → IfOk r (IsReplayedAs v same second text) → IfOk r (IsReplayedAs v by second text)
replayed_as r v by same second text is h =
    subst (λ (b : ReplayedBy). IfOk r (IsReplayedAs v b second text)) (sym is) h

-- the same of an image
pub followed_as : {E : Type 0} (r : Result Report E) (by same : ReplayedBy) (image : Image) (second : List ℕ) → by ≡ same
    → IfOk r (IsFollowedAs same image second) → IfOk r (IsFollowedAs by image second)
followed_as r by same image second is h =
    subst (λ (b : ReplayedBy). IfOk r (IsFollowedAs b image second)) (sym is) h

-- a run that is explained, by what is named
pub explained_as : {E : Type 0} (r : Result ExplainedRun E) (v : ImageVersion) (by same : ExplainedBy)
    (second text : List ℕ) → by ≡ same → IfOk r (IsExplainedAs v same second text)
    → IfOk r (IsExplainedAs v by second text)
explained_as r v by same second text is h =
    subst (λ (b : ExplainedBy). IfOk r (IsExplainedAs v b second text)) (sym is) h

-- why such a run isn't made, by what is named
pub replay_left_as : {T : Type 0} (r : Result T NoAnswer) (v : ImageVersion) (by same : ReplayedBy) (text second : List ℕ)
    → by ≡ same → IfErr r (IsLeftBy (RefusesTextAs v text) (λ e. ⊥) (FailsReplay v same text second))
    → IfErr r (IsLeftBy (RefusesTextAs v text) (λ e. ⊥) (FailsReplay v by text second))
replay_left_as r v by same text second is h =
    subst (λ (b : ReplayedBy). IfErr r (IsLeftBy (RefusesTextAs v text) (λ e. ⊥) (FailsReplay v b text second))) (sym is) h

pub follow_left_as : {T : Type 0} (r : Result T NoAnswer) (by same : ReplayedBy) (image : Image) (second : List ℕ)
    → by ≡ same → IfErr r (IsLeftBy (λ e. ⊥) (λ e. ⊥) (FailsBy same image second))
    → IfErr r (IsLeftBy (λ e. ⊥) (λ e. ⊥) (FailsBy by image second))
follow_left_as r by same image second is h =
    subst (λ (b : ReplayedBy). IfErr r (IsLeftBy (λ e. ⊥) (λ e. ⊥) (FailsBy b image second))) (sym is) h

pub explain_left_as : {T : Type 0} (r : Result T NoAnswer) (v : ImageVersion) (by same : ExplainedBy)
    (text second : List ℕ) → by ≡ same
    → IfErr r (IsLeftBy (RefusesTextAs v text) (λ e. ⊥) (FailsExplanation v same text second))
    → IfErr r (IsLeftBy (RefusesTextAs v text) (λ e. ⊥) (FailsExplanation v by text second))
explain_left_as r v by same text second is h =
    subst (λ (b : ExplainedBy). IfErr r (IsLeftBy (RefusesTextAs v text) (λ e. ⊥) (FailsExplanation v b text second)))
    (sym is) h
