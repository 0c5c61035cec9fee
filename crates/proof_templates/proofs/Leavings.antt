-- The two templates that give a lock up go through their points, in an image of each version.
use Rattle.std.proofs.Common.{◌≡◌, ℕ, ◌+◌, ◌<◌, ◌≤◌, ◌++◌, List, [], ◌∷◌, Option}
use Rattle.words.specs.Process.{process_word}
use Rattle.words.specs.Versions.{most_of}
use Rattle.words.specs.declared.version.ImageVersion.{ImageVersion}
use Rattle.words.specs.declared.version.ImageVersion.TheVariants.{One, Two, Linux}
use Rattle.isa.specs.declared.instr.Instr.{Instr}
use Rattle.program.specs.Trees.{Program}
use Rattle.program.specs.declared.kinds.Member.{Member}
use Rattle.lowering.specs.Marks.{rebase_all}
use Rattle.lowering.specs.Layout.{link_word, member_address}
use Rattle.lowering.specs.Locks.{leave_length, exit_code, take_at, got_at}
use Rattle.lowering.specs.Conditions.{wait_code, wait_takes}
use Rattle.lowering.specs.declared.mark.Mark.TheVariants.{Resume}
use Rattle.locals.specs.declared.frame.Locals.{Locals}
use Rattle.locals.specs.declared.frame.Frame.{Frame}
use Rattle.locals.specs.Threads.{Thread, Runs as Runs'}
use Rattle.protocol.specs.Rules.{release_of}
use Rattle.protocol.specs.Points.{Point, Runs}
use Rattle.proof_thread.specs.Deferrals.{MarkedImage}
use Rattle.proof_thread.specs.Walks.{empty_view, StandAt, WalksWithin}
use Rattle.proof_thread.specs.Following.{result_operands}
use Rattle.proof_templates.specs.Asking.{AsksSo, template_steps}
use Rattle.proof_templates.specs.Locking.{ExitsAt, WaitsAt}
use Rattle.proof_templates.proofs.Exiting as E
use Rattle.proof_templates.proofs.ExitingDrops as F
use Rattle.proof_templates.proofs.Waiting as W
use Rattle.proof_templates.proofs.WaitingDrops as X

pub exits_ask : (v : ImageVersion) (p : Program) (image : MarkedImage) (t m base : ℕ) (shown : Option ℕ) (l : Locals)
    (fs : List Frame) → StandAt image base (rebase_all base (exit_code v m (link_word p m))) → 0 < t
    → t ≤ most_of image.image.version → (pt : Point) (x : Thread) → (pt ≡ Runs → ⊥)
    → ExitsAt (leave_length v) (release_of v) p t m base shown l fs pt x
    → AsksSo (release_of v) p image t (ExitsAt (leave_length v) (release_of v) p t m base shown l fs) pt x
exits_ask One p image t m base shown l fs code some few = E.exits_follow p image t m base shown l fs code some few
exits_ask Two p image t m base shown l fs code some few = E.exits_follow p image t m base shown l fs code some few
exits_ask Linux p image t m base shown l fs code some few = F.exits_follow p image t m base shown l fs code some few

pub exits_begin : (v : ImageVersion) (p : Program) (image : MarkedImage) (t m base : ℕ) (shown : Option ℕ) (l : Locals)
    (fs : List Frame) → StandAt image base (rebase_all base (exit_code v m (link_word p m))) → 0 < t
    → t ≤ most_of image.image.version → WalksWithin image t (empty_view p) template_steps
    (Runs' base (result_operands shown) l fs)
    (Runs' (base + 3) (link_word p m ∷ process_word t 1 ∷ result_operands shown) l fs)
exits_begin One p image t m base shown l fs code some few = E.exits_begin p image t m base shown l fs code some few
exits_begin Two p image t m base shown l fs code some few = E.exits_begin p image t m base shown l fs code some few
exits_begin Linux p image t m base shown l fs code some few = F.exits_begin p image t m base shown l fs code some few

pub waits_ask : (v : ImageVersion) (p : Program) (image : MarkedImage) (t base : ℕ) (c : Member) (recover : Instr)
    (l : Locals) (fs : List Frame)
    → StandAt image base (rebase_all base (wait_code v c (link_word p c.monitor) (member_address p c) recover)) → 0 < t
    → t ≤ most_of image.image.version → (pt : Point) (x : Thread) → (pt ≡ Runs → ⊥)
    → WaitsAt (leave_length v) (release_of v) p t c base l fs pt x
    → AsksSo (release_of v) p image t (WaitsAt (leave_length v) (release_of v) p t c base l fs) pt x
waits_ask One p image t base c recover l fs code some few = W.waits_follow p image t base c recover l fs code some few
waits_ask Two p image t base c recover l fs code some few = W.waits_follow p image t base c recover l fs code some few
waits_ask Linux p image t base c recover l fs code some few = X.waits_follow p image t base c recover l fs code some few

pub waits_begin : (v : ImageVersion) (p : Program) (image : MarkedImage) (t base : ℕ) (c : Member) (recover : Instr)
    (l : Locals) (fs : List Frame)
    → StandAt image base (rebase_all base (wait_code v c (link_word p c.monitor) (member_address p c) recover)) → 0 < t
    → t ≤ most_of image.image.version → WalksWithin image t (empty_view p) template_steps (Runs' base [] l fs)
    (Runs' (base + 2) (member_address p c ∷ member_address p c ∷ []) l fs)
waits_begin One p image t base c recover l fs code some few = W.waits_begin p image t base c recover l fs code some few
waits_begin Two p image t base c recover l fs code some few = W.waits_begin p image t base c recover l fs code some few
waits_begin Linux p image t base c recover l fs code some few = X.waits_begin p image t base c recover l fs code some
    few

pub waits_taking : (v : ImageVersion) (p : Program) (image : MarkedImage) (t base : ℕ) (c : Member) (recover : Instr)
    (l : Locals) (fs : List Frame)
    → StandAt image base (rebase_all base (wait_code v c (link_word p c.monitor) (member_address p c) recover)) → 0 < t
    → t ≤ most_of image.image.version → StandAt image (base + wait_takes v)
    (rebase_all base (take_at (Resume c.monitor) (link_word p c.monitor) (wait_takes v)
    ++ got_at (link_word p c.monitor) recover (wait_takes v + 32)))
waits_taking One p image t base c recover l fs code some few = W.taking p image t base c recover l fs code some few
waits_taking Two p image t base c recover l fs code some few = W.taking p image t base c recover l fs code some few
waits_taking Linux p image t base c recover l fs code some few = X.taking p image t base c recover l fs code some few
