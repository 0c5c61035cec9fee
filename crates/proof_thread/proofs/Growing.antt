-- What holds where so many processes were made holds where more were; and what holds with some variables holds with
-- others that are the same in the own monitor.
use Rattle.std.proofs.Common.{ℕ, ◌+◌, ◌≡◌, ◌≤◌, List, [], ◌∷◌, arith, ℤ, Option, Some, None, sym, ◌∙◌}
use Rattle.program.specs.declared.kinds.ValueType.{ValueType}
use Rattle.program.specs.declared.kinds.ValueType.TheVariants.{Integer, Boolean, Process as Handle}
use Rattle.program.specs.declared.kinds.MemberType.{MemberType}
use Rattle.program.specs.declared.kinds.MemberType.TheVariants.{Variable, Condition, Array}
use Rattle.program.specs.Trees.{Part, NoPart, SomePart, Procedure}
use Rattle.lowering.specs.declared.mark.Marked.{Marked}
use Rattle.locals.specs.declared.frame.Locals.{Locals}
use Rattle.locals.specs.declared.frame.Frame.{Frame as MachineFrame}
use Rattle.locals.specs.Threads.{Thread}
use Rattle.meaning.specs.Values.{Variables}
use Rattle.meaning.specs.Processes.{Frame, Caller, Process}
use Rattle.meaning.specs.Offers.{offer}
use Rattle.proof_thread.specs.Typed.{HasValue, HaveValues}
use Rattle.proof_thread.specs.Variables.{ValueFits, SameIn}
use Rattle.proof_thread.specs.Following.{Build, most_made, with_made, IsFrame, StandsBehind, CallersStand, is_first}
use Rattle.proof_thread.specs.Following.{is_called}
use Rattle.proof_thread.specs.Following.{is_recovery, Running, IsEntering, IsReturning, ShowsResult, Stands, runs}
use Rattle.proof_thread.specs.Following.{enters}
use Rattle.proof_thread.specs.Following.{returns, fails, own_of}
use Rattle.proof_thread.specs.Completing.{GoesAborted, Awaits, GoesOn, Completes, Proceeds}
use Rattle.proof_thread.specs.Completing as F
use Rattle.proof_thread.specs.Builds.{IsBuild}
use Rattle.proof_thread.proofs.Walking.{same_within}
use Rattle.lowering.specs.Conditions.{wait_recovers}

pub value_grows : (most m n : ℕ) → m ≤ n → (t : ValueType) (z : ℤ) → HasValue most m t z → HasValue most n t z
value_grows most m n le Integer z h = h
value_grows most m n le Boolean z h = h
value_grows most m n le Handle z h = (h.0, h.1, omega (arith, le, h.2), h.3)

pub values_grow : (most m n : ℕ) → m ≤ n → (ts : List ValueType) (zs : List ℤ) → HaveValues most m ts zs
    → HaveValues most n ts zs
values_grow most m n le [] [] h = tt
values_grow most m n le [] (z ∷ zs) h = absurd h
values_grow most m n le (t ∷ ts) [] h = absurd h
values_grow most m n le (t ∷ ts) (z ∷ zs) h = (value_grows most m n le t z h.0, values_grow most m n le ts zs h.1)

-- a variable's value
pub fitting_grows : (most m n : ℕ) → m ≤ n → (t : Option MemberType) (z : ℤ) → ValueFits most m t z
    → ValueFits most n t z
fitting_grows most m n le None z h = h
fitting_grows most m n le (Some (Variable t)) z h = value_grows most m n le t z h
fitting_grows most m n le (Some Condition) z h = h
fitting_grows most m n le (Some (Array k)) z h = h

shown_grows : (most m n : ℕ) → m ≤ n → (t : Option ValueType) (shown : Option ℕ) (z : ℤ) → ShowsResult most m t shown z
    → ShowsResult most n t shown z
shown_grows most m n le None None z h = h
shown_grows most m n le None (Some w) z h = h
shown_grows most m n le (Some u) None z h = h
shown_grows most m n le (Some u) (Some w) z h = (h.0, value_grows most m n le u z h.1)

-- the same code for more processes
pub build_grows : (b : Build) (n : ℕ) → IsBuild b → IsBuild (with_made b n)
build_grows b n is = record {
  version = is.version;
  role = is.role;
  recovers = is.recovers;
  low = is.low;
  laid = is.laid;
  sound = is.sound;
  deep = is.deep;
  parameters = is.parameters;
  locals = is.locals;
  bounded = is.bounded;
}

module _ (b : Build) (n : ℕ) (le : b.made ≤ n) where
  pub frame_grows : (number : ℕ) (q : Procedure) (f : Frame) (l : Locals)
      → IsFrame b.program b.height b.made b.width number q f l → IsFrame b.program b.height n b.width number q f l
  frame_grows number q f l h = record {
    procedure = h.procedure;
    role = h.role;
    typed = values_grow (most_made b) b.made n le _ f.locals h.typed;
    holds = h.holds;
    words = h.words;
    few = h.few;
    body = h.body;
  }

  behind_grows : (m : MachineFrame) (c : Caller) (number : ℕ) (q : Procedure) (code : List Marked)
      → StandsBehind b m c number q code → StandsBehind (with_made b n) m c number q code
  behind_grows m c number q code h = record {
    frame = frame_grows number q c.frame m.locals h.frame;
    here = h.here;
    jumps = h.jumps;
    few = h.few;
    more = h.more;
  }

  pub callers_grow : (number : ℕ) (q : Procedure) (fs : List MachineFrame) (cs : List Caller)
      → CallersStand b number q fs cs → CallersStand (with_made b n) number q fs cs
  callers_grow number q [] [] (is_first h) = is_first h
  callers_grow number q [] (c ∷ cs) h = elim h [ ]
  callers_grow number q (m ∷ fs) [] h = elim h [ ]
  callers_grow number q (m ∷ fs) (c ∷ cs) (is_called k caller calls may lower fits behind below) =
      is_called k caller calls may lower fits (behind_grows m c k caller _ behind) (callers_grow k caller fs cs below)
  callers_grow number q (m ∷ fs) (c ∷ cs) (is_recovery k caller monitor role none into own calls behind below) =
      is_recovery k caller monitor role none into own calls (behind_grows m c k caller _ behind)
      (callers_grow k caller fs cs below)

  running_grows : (place : ℕ) (l : Locals) (fs : List MachineFrame) (f : Frame) (cs : List Caller)
      → Running b place l fs f cs → Running (with_made b n) place l fs f cs
  running_grows place l fs f cs h = record {
    number = h.number;
    procedure = h.procedure;
    frame = frame_grows h.number h.procedure f l h.frame;
    jumps = h.jumps;
    few = h.few;
    code = h.code;
    callers = callers_grow h.number h.procedure fs cs h.callers;
  }

  entering_grows : (m place : ℕ) (l : Locals) (fs : List MachineFrame) (f : Frame) (cs : List Caller)
      → IsEntering b m place l fs f cs → IsEntering (with_made b n) m place l fs f cs
  entering_grows m place l fs f cs h = record {
    number = h.number;
    procedure = h.procedure;
    role = h.role;
    frame = frame_grows h.number h.procedure f l h.frame;
    template = h.template;
    jumps = h.jumps;
    few = h.few;
    code = h.code;
    callers = callers_grow h.number h.procedure fs cs h.callers;
  }

  returning_grows : (place : ℕ) (shown : Option ℕ) (fs : List MachineFrame) (z : ℤ) (cs : List Caller)
      → IsReturning b place shown fs z cs → IsReturning (with_made b n) place shown fs z cs
  returning_grows place shown fs z cs h = record {
    number = h.number;
    procedure = h.procedure;
    monitor = h.monitor;
    role = h.role;
    code = h.code;
    result = shown_grows (most_made b) b.made n le _ shown z h.result;
    callers = callers_grow h.number h.procedure fs cs h.callers;
  }

  module _ (t : ℕ) where
    pub stands_grow : (x : Thread) (q : Process) → Stands b t x q → Stands (with_made b n) t x q
    stands_grow x q (runs entered f cs place l fs walk h same) =
        runs entered f cs place l fs walk (running_grows place l fs f cs h) same
    stands_grow x q (enters m f cs place l fs walk h same) =
        enters m f cs place l fs walk (entering_grows m place l fs f cs h) same
    stands_grow x q (returns z cs place shown l fs walk h same) =
        returns z cs place shown l fs walk (returning_grows place shown fs z cs h) same
    stands_grow x q (fails m f cs walk same) = fails m f cs walk same

    pub aborted_grows : (x : Thread) (part : Part) (f : Frame) (cs : List Caller)
        → GoesAborted b t x part f cs → GoesAborted (with_made b n) t x part f cs
    aborted_grows x NoPart f cs h = h
    aborted_grows x (SomePart body) f cs h = stands_grow x _ h

    unfoldable pub awaits_grow : (child : ℕ) (into : Option ℕ) (part : Part) (f : Frame) (cs : List Caller)
        → Awaits b t child into part f cs → Awaits (with_made b n) t child into part f cs
    awaits_grow child into part f cs h = record {
      reads = h.reads;
      sleeps = h.sleeps;
      learns = h.learns;
      takes = h.takes;
      after_read = h.after_read;
      after_sleep = h.after_sleep;
      after_outcome = h.after_outcome;
      after_result = h.after_result;
      read = h.read;
      sleep = h.sleep;
      outcome = h.outcome;
      result = h.result;
      there = h.there;
      gone = h.gone;
      again = h.again;
      ended = h.ended;
      aborted = λ k ne. aborted_grows (h.after_outcome k) part f cs (h.aborted k ne);
      taken = λ w lt. stands_grow (h.after_result w) _ (h.taken w lt);
    }

    pub goes_on_grows : (m place : ℕ) (l : Locals) (fs : List MachineFrame) (f : Frame) (cs : List Caller)
        → GoesOn b t m place l fs f cs → GoesOn (with_made b n) t m place l fs f cs
    goes_on_grows m place l fs f cs h = record {
      enters = λ word. stands_grow _ _ (h.enters word);
      recovers = λ word. stands_grow _ _ (h.recovers word);
    }

    pub completes_grow : (v : Variables) (x : Thread) (q : Process) → Completes b t v x q
        → Completes (with_made b n) t v x q
    unfolding awaits_grow
    completes_grow v x q (F.acts {y = y} {r = r} kind own h n o s) = F.acts kind own h n o (stands_grow y r s)
    completes_grow v x q (F.prints {r = r} w go h o s) = F.prints w go h o (λ a. stands_grow (go a) r (s a))
    completes_grow v x q (F.stores {r = r} m i z go own first is fits h o s) =
        F.stores m i z go own first is (fitting_grows (most_made b) b.made n le _ z fits) h o (λ a. stands_grow
        (go a) r (s a))
    completes_grow v x q (F.returns h n o) = F.returns h n o
    completes_grow v x q (F.leaves r k h n o) = F.leaves r k h n o
    completes_grow v x q (F.forks entry arguments go h e o mine child none) =
        F.forks entry arguments go h e o (λ k few. mine k (omega (arith, le, few)))
        (λ k u few. child k u (omega (arith, le, few))) none
    completes_grow v x q
        (F.claims {into = into} {part = part} {f = f} {callers = cs} child go some few most h o j w d) =
        F.claims child go some (omega (arith, few, le)) most h o (awaits_grow child into part f cs j) w d
    completes_grow v x q (F.faults fault e o) = F.faults fault e o
    completes_grow v x q (F.enters {m = m} {f = f} {cs = cs} {l = l} {fs = fs} base same e some first code on) =
        F.enters base same e some first code (goes_on_grows m (base + 60) l fs f cs on)
    completes_grow v x q (F.exits m base shown o first e code s) = F.exits m base shown o first e code
        (stands_grow _ _ s)
    completes_grow v x q (F.waits {f = f} {cs = cs} {l = l} {fs = fs} c base is o held own all e code on) =
        F.waits c base is o held own all e code (goes_on_grows c.monitor (base + wait_recovers b.program.version) l fs
        f cs on)
    completes_grow v x q (F.notifies c base is o first keeps e code s) =
        F.notifies c base is o first keeps e code (stands_grow _ _ s)
    completes_grow v x q (F.broadcasts c base is o first keeps e code s) =
        F.broadcasts c base is o first keeps e code (stands_grow _ _ s)

    pub proceeds_grow : (v : Variables) (steps : ℕ) (x : Thread) (q : Process) → Proceeds b t v steps x q
        → Proceeds (with_made b n) t v steps x q
    proceeds_grow v steps x q h = record {
      last = h.last;
      walk = h.walk;
      completes = completes_grow v h.last q h.completes;
    }

pub completes_same : (b : Build) (t : ℕ) (v v' : Variables) (x : Thread) (q : Process)
    → offer b.program v q ≡ offer b.program v' q → Completes b t v x q → Completes b t v' x q
completes_same b t v v' x q e (F.acts kind own h n o s) = F.acts kind own h n (sym e ∙ o) s
completes_same b t v v' x q e (F.prints w go h o s) = F.prints w go h (sym e ∙ o) s
completes_same b t v v' x q e (F.stores m i z go own first is fits h o s) =
    F.stores m i z go own first is fits h (sym e ∙ o) s
completes_same b t v v' x q e (F.returns h n o) = F.returns h n o
completes_same b t v v' x q e (F.leaves r k h n o) = F.leaves r k h n (sym e ∙ o)
completes_same b t v v' x q e (F.forks entry arguments go h d o mine child none) =
    F.forks entry arguments go h d (sym e ∙ o) mine child none
completes_same b t v v' x q e (F.claims child go some few most h o j w d) =
    F.claims child go some few most h (sym e ∙ o) j w d
completes_same b t v v' x q e (F.faults fault d o) = F.faults fault d (sym e ∙ o)
completes_same b t v v' x q e (F.enters base same d some first code on) = F.enters base same d some first code on
completes_same b t v v' x q e (F.exits m base shown o first d code s) =
    F.exits m base shown (sym e ∙ o) first d code s
completes_same b t v v' x q e (F.waits c base is o held own all d code on) =
    F.waits c base is (sym e ∙ o) held own all d code on
completes_same b t v v' x q e (F.notifies c base is o first keeps d code s) =
    F.notifies c base is (sym e ∙ o) first keeps d code s
completes_same b t v v' x q e (F.broadcasts c base is o first keeps d code s) =
    F.broadcasts c base is (sym e ∙ o) first keeps d code s

-- a thread proceeds as well where the own monitor's variables are the same, and so is what its process offers
pub proceeds_same : (b : Build) (t : ℕ) (v v' : Variables) (steps : ℕ) (x : Thread) (q : Process)
    → SameIn (own_of q) v v' → offer b.program v q ≡ offer b.program v' q → Proceeds b t v steps x q
    → Proceeds b t v' steps x q
proceeds_same b t v v' steps x q same e h = record {
  last = h.last;
  walk = same_within b.code t b.program (own_of q) v v' steps x h.last same h.walk;
  completes = completes_same b t v v' h.last q e h.completes;
}
