-- The version of a program says how many processes there can be, and nothing else of what it does depends on it.
use Rattle.std.proofs.Common.{◌≡◌, ℕ, ℤ, List, [], ◌∷◌, Option, Some, None, refl, sym, inl, inr, subst}
use Rattle.words.specs.declared.version.ImageVersion.{ImageVersion}
use Rattle.program.specs.Trees.{Expression, Constant, Truth, Local, Member, Element, Unary, Both, Target, ToLocal}
use Rattle.program.specs.Trees.{ToMember, ToElement, Statement, Assign, If, While, Call, Fork, Join, Return, Wait, Notify}
use Rattle.program.specs.Trees.{Broadcast, Print, Abort, Block, Done, Then, Program, as_version}
use Rattle.meaning.specs.Values.{Variables, evaluate, evaluate_all}
use Rattle.meaning.specs.Labels.{Action}
use Rattle.meaning.specs.Processes.{Frame, Caller, Process, Entering, Before, Suspended, Joining, Returning, Failing}
use Rattle.meaning.specs.Processes.{Dying, Leaving, Over}
use Rattle.meaning.specs.Offers.{Offer, TakesUp, assigns, return_value, statement_offer, rest_offer, offer}
use Rattle.meaning.specs.States.{SourceState}
use Rattle.meaning.specs.Runs.{IsAction, IsKill, IsLeft, IsNotifying, IsStep, Leads}

module _ (n : ImageVersion) (p : Program) (v : Variables) where
  value : (locals : List ℤ) (e : Expression) → evaluate (as_version n p) v locals e ≡ evaluate p v locals e
  value locals (Constant k) = refl
  value locals (Truth b) = refl
  value locals (Local slot) = refl
  value locals (Member m) = refl
  value locals (Element a e) = rw (value locals e) refl
  value locals (Unary op e) = rw (value locals e) refl
  value locals (Both op l r) = rw (value locals l, value locals r) refl

  values : (locals : List ℤ) (es : List Expression) → evaluate_all (as_version n p) v locals es ≡ evaluate_all p v locals es
  values locals [] = refl
  values locals (e ∷ es) = rw (value locals e, values locals es) refl

  assigned : (f : Frame) (cs : List Caller) (t : Target) (e : Expression)
      → assigns (as_version n p) v f cs t e ≡ assigns p v f cs t e
  assigned f cs (ToLocal slot) e = rw (value f.locals e) refl
  assigned f cs (ToMember m) e = rw (value f.locals e) refl
  assigned f cs (ToElement a i) e = rw (value f.locals i, value f.locals e) refl

  returned : (f : Frame) (e : Option Expression) → return_value (as_version n p) v f e ≡ return_value p v f e
  returned f None = refl
  returned f (Some e) = value f.locals e

  statement : (f : Frame) (cs : List Caller) (s : Statement)
      → statement_offer (as_version n p) v f cs s ≡ statement_offer p v f cs s
  statement f cs (Assign target e) = assigned f cs target e
  statement f cs (If e b part) = rw (value f.locals e) refl
  statement f cs (While e b) = rw (value f.locals e) refl
  statement f cs (Call q es into) = rw (values f.locals es) refl
  statement f cs (Fork q es into) = rw (values f.locals es) refl
  statement f cs (Join e into part) = rw (value f.locals e) refl
  statement f cs (Return e) = rw (returned f e) refl
  statement f cs (Wait c) = refl
  statement f cs (Notify c) = refl
  statement f cs (Broadcast c) = refl
  statement f cs (Print e) = rw (value f.locals e) refl
  statement f cs Abort = refl

  rest : (f : Frame) (cs : List Caller) (b : Block) → rest_offer (as_version n p) v f cs b ≡ rest_offer p v f cs b
  rest f cs Done = refl
  rest f cs (Then s later) = statement (record f { rest = later }) cs s

  pub offered : (q : Process) → offer (as_version n p) v q ≡ offer p v q
  offered (Entering m f cs) = refl
  offered (Before entered f cs) = rest f cs f.rest
  offered (Suspended c f cs) = refl
  offered (Joining child into part f cs) = refl
  offered (Returning z cs) = refl
  offered (Failing fault entered f cs) = refl
  offered (Dying cause []) = refl
  offered (Dying cause (m ∷ ms)) = refl
  offered (Leaving z) = refl
  offered (Over end) = refl

module _ (n : ImageVersion) (p : Program) where
  action : (s s' : SourceState) (a : Action) → IsAction p s a s' → IsAction (as_version n p) s a s'
  action s s' a x = record {
    before = x.before;
    after = x.after;
    label = x.label;
    effect = x.effect;
    stands = x.stands;
    acts = subst (λ (o : Offer). TakesUp o x.label x.effect x.after) (sym (offered n p s.variable x.before)) x.acts;
    named = x.named;
    allows = x.allows;
    variables = x.variables;
    printed = x.printed;
    processes = x.processes;
  }

  left : (v : Variables) (q : Process) (last : Option ℕ) (ms : List ℕ) → IsLeft p v q last ms
      → IsLeft (as_version n p) v q last ms
  left v q None ms x = x
  left v q (Some m) ms x = rw (offered n p v q) x

  killed : (s s' : SourceState) (q : ℕ) (resumed : List ℕ) (last : Option ℕ) → IsKill p s q resumed last s'
      → IsKill (as_version n p) s q resumed last s'
  killed s s' q resumed last x = record {
    before = x.before;
    monitors = x.monitors;
    notified = x.notified;
    stands = x.stands;
    killable = x.killable;
    notifies = subst (λ (o : Offer). IsNotifying o x.notified) (sym (offered n p s.variable x.before)) x.notifies;
    left = left s.variable x.before last x.monitors x.left;
    allows = x.allows;
    variables = x.variables;
    printed = x.printed;
    processes = x.processes;
  }

  -- a step of a program is one of the same program in the other version
  pub step_as : (s s' : SourceState) (a : Action) → IsStep p s a s' → IsStep (as_version n p) s a s'
  step_as s s' a (inl x) = inl (action s s' a x)
  step_as s s' a (inr (inl x)) = inr (inl x)
  step_as s s' a (inr (inr (resumed, last, e, x))) = inr (inr (resumed, last, e, killed s s' a.process resumed last x))

  pub leads_as : (actions : List Action) (s s' : SourceState) → Leads p s actions s' → Leads (as_version n p) s actions s'
  leads_as [] s s' x = x
  leads_as (a ∷ later) s s' (mid, x, y) = (mid, step_as s mid a x, leads_as later mid s' y)

-- and back
pub step_of : (n : ImageVersion) (p : Program) (s s' : SourceState) (a : Action) → IsStep (as_version n p) s a s'
    → IsStep p s a s'
step_of n p s s' a x = step_as p.version (as_version n p) s s' a x
