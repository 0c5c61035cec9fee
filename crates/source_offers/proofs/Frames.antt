-- Positions in a body, one over the other.
use Rattle.std.proofs.Common.{◌≡◌, Option, Some, None, ◌-◌, ◌≤◌, get_or, ℕ, zero, suc, ◌+◌, ◌<◌, ℤ, pos, List, []}
use Rattle.std.proofs.Common.{◌∷◌, ◌++◌, length, take, refl, ap, sym, ◌∙◌, arith, append_assoc, add-one}
use Rattle.program.specs.declared.kinds.ValueType.{ValueType}
use Rattle.meaning.specs.Processes.{zeros}
use Rattle.program.specs.Scope.{recover_of}
use Rattle.program.specs.Trees.{Done, Program}
use Rattle.source_offers.proofs.Rests.{last_split}
use Rattle.program.specs.declared.kinds.Role.TheVariants.{Recover}
use Rattle.meaning.specs.Processes.{Frame, Caller, Process, Before, begins, goes_on, goes_on_by, hands_over}
use Rattle.meaning.specs.Processes.{with_result, opening_frame, recovers, recovers_by, callers_monitors}
use Rattle.meaning.specs.Processes.{monitor_of_role}
use Rattle.source_offers.specs.declared.frame.Frame.{Frame as FrameOf}
use Rattle.source_offers.specs.Frames.{frame_of, caller_of, callers_from, callers_of}

-- a caller more
pub callers-more : (fs : List FrameOf) (f : FrameOf) (callers : List Caller)
    → callers_from (fs ++ f ∷ []) callers ≡ caller_of f ∷ callers_from fs callers
callers-more [] f callers = refl
callers-more (g ∷ gs) f callers = callers-more gs f (caller_of g ∷ callers)

-- a RECOVER part that is done leads back
pub goes_back : (entered : Option ℕ) (f : Frame) (m : ℕ) (fs gs : List FrameOf) (c : FrameOf)
    → f.role ≡ Recover m → f.rest ≡ Done
    → fs ≡ gs ++ c ∷ [] → Before entered (frame_of c) (callers_of gs) ≡ goes_on entered f (callers_of fs)
goes_back entered f m fs gs c r d e =
    sym ((λ i. goes_on_by (r i) (d i) entered f
    (callers_of (e i))) ∙ ap (goes_on_by (Recover m) Done entered f) (callers-more gs c []))

pub hands : (x : Process) (z : ℤ) (g : Frame) (fs gs : List FrameOf) (c : FrameOf)
    → x ≡ goes_on None g (callers_of gs)
    → g ≡ with_result c.into z (frame_of c) → fs ≡ gs ++ c ∷ [] → x ≡ hands_over z (callers_of fs)
hands x z g fs gs c is put e =
    is ∙ ap (λ h. goes_on None h (callers_of gs)) put
    ∙ sym (ap (hands_over z) (ap callers_of e ∙ callers-more gs c []))

zeros-suc : (ts : List ValueType) (k : ℕ) → k < length ts → zeros (take (suc k) ts) ≡ zeros (take k ts) ++ pos 0 ∷ []
zeros-suc [] k l = absurd (omega (arith, l))
zeros-suc (t ∷ ts) zero l = refl
zeros-suc (t ∷ ts) (suc k) l = ap (λ zs. pos 0 ∷ zs) (zeros-suc ts k (omega (arith, l)))

-- a local more
pub zeros-more : (before after arguments : List ℤ) (ts : List ValueType) (k : ℕ)
    → before ≡ arguments ++ zeros (take k ts)
    → after ≡ before ++ pos 0 ∷ [] → k < length ts → after ≡ arguments ++ zeros (take (k + 1) ts)
zeros-more before after arguments ts k b a l =
    a ∙ ap (λ zs. zs ++ pos 0 ∷ []) b ∙ append_assoc arguments (zeros (take k ts)) (pos 0 ∷ [])
    ∙ ap (λ zs. arguments ++ zs) (sym (zeros-suc ts k l) ∙ ap (λ n. zeros (take n ts)) (sym (add-one k)))

-- the monitors of procedures are those of the last one and of the others
pub monitors_last : (old added all : List ℕ) (fs : List FrameOf) (top : FrameOf) → 1 ≤ length fs
    → top ≡ get_or fs (length fs - 1) top
    → ((more : List ℕ) → added ++ more ≡ old ++ monitor_of_role top.role more)
    → all ≡ added ++ callers_monitors (callers_of (take (length fs - 1) fs))
    → all ≡ old ++ callers_monitors (callers_of fs)
monitors_last old added all fs top l e add is =
    is ∙ add (callers_monitors (callers_of (take (length fs - 1) fs)))
    ∙ ap (λ cs. old ++ callers_monitors cs)
    (sym (ap callers_of (last_split fs top l e) ∙ callers-more (take (length fs - 1) fs) top []))

-- the RECOVER part comes before what is left
pub recovering : (p : Program) (m part : ℕ) (x : Process) (f f' g : FrameOf) (fs gs : List FrameOf)
    (arguments : List ℤ)
    → recover_of p m ≡ Some part → x ≡ goes_on (Some m) (frame_of g) (callers_of gs)
    → frame_of g ≡ opening_frame p part arguments → arguments ≡ [] → f' ≡ f
    → gs ≡ fs ++ record f' { into = None } ∷ []
    → x ≡ recovers p m (frame_of f) (callers_of fs)
recovering p m part x f f' g fs gs arguments rec is opens none same pushed =
    is
    ∙ (λ i. goes_on (Some m) (opened i) (called i))
    ∙ sym (ap (λ r. recovers_by p r m (frame_of f) (callers_of fs)) rec)
  where
    opened : frame_of g ≡ opening_frame p part []
    opened = opens ∙ ap (opening_frame p part) none

    called : callers_of gs ≡ record { into = None; frame = frame_of f } ∷ callers_of fs
    called = ap callers_of pushed ∙ callers-more fs (record f' { into = None }) []
        ∙ ap (λ (h : FrameOf). record { into = None; frame = frame_of h } ∷ callers_of fs) same

-- a procedure is called
pub calling : (x : Process) (g called f f' : FrameOf) (fs gs : List FrameOf) (into : Option ℕ)
    → x ≡ begins (frame_of called) (callers_of gs) → called ≡ g → f' ≡ f → gs ≡ fs ++ record f' { into = into } ∷ []
    → x ≡ begins (frame_of g) (record { into = into; frame = frame_of f } ∷ callers_of fs)
calling x g called f f' fs gs into is new same pushed =
    is
    ∙ (λ i. begins (frame_of (new i)) (waiting i))
  where
    waiting : callers_of gs ≡ record { into = into; frame = frame_of f } ∷ callers_of fs
    waiting = ap callers_of pushed ∙ callers-more fs (record f' { into = into }) []
        ∙ ap (λ (h : FrameOf). record { into = into; frame = frame_of h } ∷ callers_of fs) same
