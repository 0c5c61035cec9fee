-- What is done of the bytes of a file, and what is told of it.
use Rattle.std.proofs.Common.{Bor}
use Rattle.std.specs.Prelude.{codes, ◌≡◌, ◌⊎◌, ℕ, Bool, true, false, List, [], Option, Some, None, length, map}
use Rattle.std.specs.List.{flat_map}
use Rattle.words.specs.declared.version.ImageVersion.{ImageVersion}
use Rattle.words.specs.declared.version.ImageVersion.TheVariants.{Linux}
use Rattle.isa.specs.Programs.{Program}
use Rattle.isa.specs.Spelling.{HasByte, IsSpelled, spelling}
use Rattle.isa.specs.Lines.{lines}
use Rattle.scanner.specs.declared.refusal.Refusal.{Refusal}
use Rattle.emit_image.specs.Texts.{c_text}
use Rattle.emit_image.specs.declared.comments.LineStart.{LineStart}
use Rattle.assembler.specs.Listings.{IsAssembled}
use Rattle.runner.specs.declared.report.Report.{Report}
use Rattle.program.specs.Trees.{Program as ProgramOf}
use Rattle.source_states.specs.Actions.{action_of}
use Rattle.actionlines.specs.Lines.{line}
use Rattle.commandline.specs.declared.options.ChartOptions.{ChartOptions}
use Rattle.commandline.specs.declared.options.Exits.{Exits}
use Rattle.commandline.specs.declared.options.ExplainedBy.{ExplainedBy}
use Rattle.commandline.specs.declared.options.ImageForm.{ImageForm}
use Rattle.commandline.specs.declared.options.RunOptions.{RunOptions}
use Rattle.compiler.specs.Accepts.{AcceptsText, RefusesTextAs}
use Rattle.compiler.specs.Compiles.{IsCompiledAs}
use Rattle.answers.specs.declared.answer.Answer.{Answer}
use Rattle.answers.specs.declared.explained_run.ExplainedRun.{ExplainedRun}
use Rattle.answers.specs.declared.status.Status.TheVariants.{Done}
use Rattle.answers.specs.Answers.{AreDrawn, ArePuts, AreTold, TellsAlone, TellsReport}
use Rattle.answers.specs.Answers.{status_of_verdict}
use Rattle.answers.specs.Asked.{IsExplainedAs, IsImageRunBy}
use Rattle.answers.specs.ImageLine.{image_line}
use Rattle.answers.specs.Images.{IsImageBy}

-- the text was checked, and it was told that it is a program
pub record HasChecked (text : List ℕ) (a : Answer) : Type 0 where
  pub program : ProgramOf
  pub accepts : AcceptsText text program
  pub tells : TellsAlone (codes "ok\n") None a

-- the C of an image is written to the file of this name, with lines of the text where their code begins, and that was told
pub record TellsC (out : Bor (List ℕ)) (text : List ℕ) (image : Program) (a : Answer) : Type 0 where
  pub starts : List LineStart
  pub tells : TellsAlone (codes "ok\n") (Some (out, c_text image text starts)) a

-- the text was compiled to an image of the layout Linux, the C of which is written to the file of this name, and that was
-- told
pub record HasEmitted (out : Bor (List ℕ)) (text : List ℕ) (a : Answer) : Type 0 where
  pub image : Program
  pub compiled : IsCompiledAs Linux text image
  pub tells : TellsC out text image a

-- the text was compiled to an image of this version, which is written to the file of this name, and its line was told
pub record HasCompiled (version : ImageVersion) (out : Bor (List ℕ)) (text : List ℕ) (a : Answer) : Type 0 where
  pub image : Program
  pub compiled : IsCompiledAs version text image
  pub tells : TellsAlone (image_line (length image.code)) (Some (out, spelling image)) a

-- an image of the assembly text is written to the file of this name, and its line was told
pub record HasAssembled (out : Bor (List ℕ)) (text : List ℕ) (a : Answer) : Type 0 where
  pub image : Program
  pub assembled : IsAssembled text image
  pub tells : TellsAlone (image_line (length image.code)) (Some (out, spelling image)) a

-- the command is done, and tells these lines alone, with more beside them where that is asked for
pub record TellsLines (more : Bool) (lines : List ℕ) (a : Answer) : Type 0 where
  pub ended : a.status ≡ Done
  pub are_told : AreTold more lines a.output.items
  pub account : a.account.items ≡ []
  pub files : ArePuts None a.files

-- the image that is listed: the bytes spell it; or where a source text's code for Linux is asked for, they are that text
abbrev pub IsListed : (linux : Bool) → (bytes : List ℕ) → Program → Type 0
IsListed false bytes image = HasByte image.version × IsSpelled image × (spelling image ≡ bytes)
IsListed true bytes image = IsCompiledAs Linux bytes image

-- the lines of its instructions were told; where a source is named it is that one's image
pub record HasListed (linux more : Bool) (bytes second : List ℕ) (a : Answer) : Type 0 where
  pub image : Program
  pub is : IsListed linux bytes image
  pub beside : more ≡ true → IsCompiledAs image.version second image
  pub tells : TellsLines more (lines 0 image.code) a

-- the text was run so, and that was told and logged, and shown on a page where that is wanted
pub record HasRun (IsRun : List ℕ → Report → Type 0) (trace : Bool) (log page : Option (Bor (List ℕ))) (text : List ℕ)
    (a : Answer)
    : Type 0
  where
    pub report : Report
    pub run : IsRun text report
    pub tells : TellsReport report trace log page a

-- the image was run as the options say, and that was told and logged
pub record RunsImage (options : RunOptions) (image : Program) (a : Answer) : Type 0 where
  pub report : Report
  pub run : IsImageRunBy options.order options.steps image report
  pub tells : TellsReport report options.trace options.log None a

-- the image in a file of this form was run so, by this rule of exits
pub record HasExecuted (exits : Exits) (form : ImageForm) (options : RunOptions) (bytes : List ℕ) (a : Answer) : Type 0
  where
    pub image : Program
    pub is : IsImageBy exits form bytes image
    pub runs : RunsImage options image a

-- the lines of the actions of an explained run, by the names of its program
abbrev pub explained_lines : ExplainedRun → List ℕ
explained_lines r = flat_map (line r.checked.names) (map action_of r.actions.items)

-- the lines of the actions of an explained run are told alone, with their places where those are asked for, and the run is
-- drawn, timed and shown on a page, to the files of these names
pub record TellsRun (places : Bool) (chart : Option ChartOptions) (timeline page : Option (Bor (List ℕ)))
    (r : ExplainedRun) (a : Answer)
    : Type 0
  where
    pub ended : a.status ≡ status_of_verdict r.report.verdict
    pub are_told : AreTold places (explained_lines r) a.output.items
    pub account : a.account.items ≡ []
    pub files : AreDrawn chart timeline page a.files

-- the text's code for this version was run as was asked for and its run explained, or a log of it, and that was told
pub record HasExplained (version : ImageVersion) (by : ExplainedBy) (second : List ℕ) (places : Bool)
    (chart : Option ChartOptions) (timeline page : Option (Bor (List ℕ))) (text : List ℕ) (a : Answer)
    : Type 0
  where
    pub explained_run : ExplainedRun
    pub explained : IsExplainedAs version by second text explained_run
    pub tells : TellsRun places chart timeline page explained_run a

-- this is the refusal of a source text whose code is to be listed
abbrev pub RefusesListed : (linux : Bool) → (bytes : List ℕ) → Refusal → Type 0
RefusesListed false bytes e = ⊥
RefusesListed true bytes e = RefusesTextAs Linux bytes e

-- this is the refusal of the source beside an image, where one is named, for an image of the version of that one
pub record RefusesBeside (linux : Bool) (bytes second : List ℕ) (e : Refusal) : Type 0 where
  pub image : Program
  pub is : IsListed linux bytes image
  pub refuses : RefusesTextAs image.version second e

-- this is a refusal of a listing
abbrev pub RefusesListing : (linux : Bool) → (bytes second : List ℕ) → Refusal → Type 0
RefusesListing linux bytes second e = RefusesListed linux bytes e ⊎ RefusesBeside linux bytes second e
