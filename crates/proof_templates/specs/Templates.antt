-- What is promised of a thread inside a template.
use Rattle.words.specs.Versions.{most_of}
use Rattle.std.specs.Prelude.{ℕ, ◌≡◌, ◌≢◌, ◌≤◌, ◌<◌, ◌⊎◌, Bool, List, Option, Some, None}
use Rattle.locals.specs.Threads.{Thread}
use Rattle.locals.specs.Looks.{Asks, look}
use Rattle.locals.specs.Looks as M
use Rattle.program.specs.Trees.{Program}
use Rattle.meaning.specs.Labels.{End}
use Rattle.meaning.specs.Table.{Table}
use Rattle.meaning.specs.Values.{Variables}
use Rattle.meaning.specs.Processes.{Process, holds}
use Rattle.meaning.specs.Offers.{Nothing, offer, TakesUp}
use Rattle.protocol.specs.Carries.{Event, Acts, Strays, Kills}
use Rattle.protocol.specs.Points.{Point, Runs}
use Rattle.protocol.specs.World.{World}
use Rattle.protocol.specs.Requests.{request}
use Rattle.protocol.specs.Answers.{next, next_list}
use Rattle.protocol.specs.Served.{MayAnswer, source_event}
use Rattle.proof_thread.specs.Following.{Build, StepsWithin, Stands}
use Rattle.proof_thread.specs.Builds.{IsBuild}
use Rattle.proof_templates.specs.Asking.{machine_request, machine_answer, template_steps}
use Rattle.proof_templates.specs.Inside.{Template, process_at, list_at, StandsIn, first_thread, first_point}
use Rattle.proof_templates.specs.Inside.{TemplateFits}
use Rattle.protocol.specs.Rules.{release_of}

-- the process does what a step of its thread carries, or nothing
abbrev pub ActsSo : Program → Variables → ℕ → Option Event → Process → Process → Type 0
ActsSo p v t None q q' = q' ≡ q
ActsSo p v t (Some (Acts u label)) q q' = (u ≡ t) × TakesUp (offer p v q) label Nothing q'
ActsSo p v t (Some (Strays u c)) q q' = ⊥
ActsSo p v t (Some (Kills u notified resumed)) q q' = ⊥

-- the thread stands at another point of the template, or behind it
abbrev pub StandsOn : Build → ℕ → Template → Point → List ℕ → Thread → Process → Type 0
StandsOn b t k pt l x q =
    ((pt ≢ Runs) × StandsIn b.program t k pt x × (q ≡ process_at b.program k pt) × (l ≡ list_at k pt))
    ⊎ ((pt ≡ Runs) × Stands b t x q × (l ≡ holds q))

-- where a thread comes after an answer
pub record Comes (b : Build) (v : Variables) (t : ℕ) (k : Template) (pt : Point) (w : World) (T : Table) (e : End)
    (r : ℕ) (w' : World) (x : Thread) : Type 0 where
  pub thread : Thread
  pub walk : StepsWithin b t template_steps x thread
  pub process : Process
  pub acts : ActsSo b.program v t (source_event w T t pt r w' e) (process_at b.program k pt) process
  pub stands : StandsOn b t k (next w e pt r) (next_list pt (list_at k pt)) thread process

-- a thread inside a template asks what its point asks, and goes on as it goes on, while its process does what the
-- step carries
pub record Follows (b : Build) (v : Variables) (t : ℕ) (k : Template) (pt : Point) (x : Thread) : Type 0 where
  pub asks : M.Request
  pub go : ℕ → Thread
  pub same : machine_request b.program (request (release_of b.program.version) t pt) ≡ Some asks
  pub look : look b.code.image t x ≡ Asks asks go
  pub goes : (w : World) (T : Table) (e : End) (r : ℕ) (w' : World) → MayAnswer pt r
      → Comes b v t k pt w T e r w' (go (machine_answer b.program (request (release_of b.program.version) t pt) r))

-- a thread comes from before a template to its first point
pub record Begins (b : Build) (t : ℕ) (held : Bool) (k : Template) : Type 0 where
  pub thread : Thread
  pub walk : StepsWithin b t template_steps (first_thread k) thread
  pub stands : StandsIn b.program t k (first_point held k) thread

-- inside each template a thread goes through the protocol's points, and its process with it
abbrev pub TemplatesFollow : Type 0
TemplatesFollow = (b : Build) (v : Variables) (t : ℕ) (k : Template) → IsBuild b → 0 < t
    → t ≤ most_of b.code.image.version
    → TemplateFits b v t k → (pt : Point) (x : Thread) → pt ≢ Runs → StandsIn b.program t k pt x → Follows b v t k pt x

-- where the code of a template begins, the thread stands at its first point
abbrev pub TemplatesBegin : Type 0
TemplatesBegin = (b : Build) (v : Variables) (t : ℕ) (held : Bool) (k : Template) → 0 < t
    → t ≤ most_of b.code.image.version
    → TemplateFits b v t k → Begins b t held k
