-- What a process offers that a thread stands for depends on the variables of its own monitor alone.
use Rattle.std.proofs.Common.{◌≡◌, ℕ, List, [], ◌∷◌, Option, Some, None, refl, ap, sym, ◌∙◌, subst, ℤ}
use Rattle.program.specs.declared.kinds.ValueType.{ValueType}
use Rattle.program.specs.declared.kinds.ValueType.TheVariants.{Integer, Boolean, Process as Handle}
use Rattle.program.specs.declared.kinds.Role.{Role}
use Rattle.program.specs.declared.kinds.Role.TheVariants.{Entry, Internal, Recover, External, Main}
use Rattle.program.specs.Trees.{Expression, Constant, Truth, Local, Member, Element, Unary, Both, Target, ToLocal}
use Rattle.program.specs.Trees.{ToMember, ToElement, Statement, Assign, If, While, Call, Fork, Join, Return, Wait}
use Rattle.program.specs.Trees.{Notify, Broadcast, Print, Abort, Block, Done, Then, Procedure}
use Rattle.program.specs.Scope.{Scope, scope_of, own_monitor, array_size}
use Rattle.program.specs.Typing.{HasType, TargetHasType, ArgumentsFit, ReturnFits, Fits, MayCall, unary_type}
use Rattle.locals.specs.declared.frame.Locals.{Locals}
use Rattle.locals.specs.declared.frame.Frame.{Frame as MachineFrame}
use Rattle.meaning.specs.Values.{Variables, Evaluated, Value, Fails, EvaluatedAll, and_then, evaluate, evaluate_all}
use Rattle.meaning.specs.Values.{at_index, index_in, put_first, unary, both}
use Rattle.meaning.specs.Processes.{Frame, Caller, Process, goes_on, goes_on_by}
use Rattle.meaning.specs.Offers.{Offer, offer, with_value, with_values, with_index, statement_offer, rest_offer}
use Rattle.proof_thread.specs.Variables.{SameIn}
use Rattle.proof_thread.specs.Following.{Build, AreSound, IsFrame, CallersStand, is_called, is_recovery, Running}
use Rattle.proof_thread.specs.Following.{own_of}
use Rattle.proof_thread.specs.Following.{runs, enters, returns, fails}
use Rattle.proof_thread.specs.Builds.{IsBuild, IsSettled}

-- the same evaluation, with the same to be done with each value
and_then_same : (a b : Evaluated) (k k' : ℤ → Evaluated) → a ≡ b → ((z : ℤ) → k z ≡ k' z) → and_then a k ≡ and_then b k'
and_then_same a b k k' e h = subst (λ (c : Evaluated). and_then a k ≡ and_then c k') e (one a)
  where
    one : (a : Evaluated) → and_then a k ≡ and_then a k'
    one (Value z) = h z
    one (Fails fault) = refl

at_index_same : (o : Option ℕ) (k k' : ℕ → Evaluated) → ((i : ℕ) → k i ≡ k' i) → at_index o k ≡ at_index o k'
at_index_same None k k' h = refl
at_index_same (Some i) k k' h = h i

with_value_same : (a b : Evaluated) (f : Frame) (cs : List Caller) (k k' : ℤ → Offer) → a ≡ b
    → ((z : ℤ) → k z ≡ k' z) → with_value a f cs k ≡ with_value b f cs k'
with_value_same a b f cs k k' e h = subst (λ (c : Evaluated). with_value a f cs k ≡ with_value c f cs k') e (one a)
  where
    one : (a : Evaluated) → with_value a f cs k ≡ with_value a f cs k'
    one (Value z) = h z
    one (Fails fault) = refl

with_index_same : (o : Option ℕ) (f : Frame) (cs : List Caller) (k k' : ℕ → Offer) → ((i : ℕ) → k i ≡ k' i)
    → with_index o f cs k ≡ with_index o f cs k'
with_index_same None f cs k k' h = refl
with_index_same (Some i) f cs k k' h = h i

module _ (s : Scope) (v v' : Variables) (same : SameIn (own_monitor s.role) v v') (values : List ℤ) where
  pub evaluate_same : (e : Expression) (u : ValueType) → HasType s e u
      → evaluate s.program v values e ≡ evaluate s.program v' values e
  evaluate_same (Constant n) u h = refl
  evaluate_same (Truth b) u h = refl
  evaluate_same (Local slot) u h = refl
  evaluate_same (Member m) u h = ap Value (same m.monitor h.0 m.number 0)
  evaluate_same (Element a e) u h =
      and_then_same (evaluate s.program v values e) (evaluate s.program v' values e) _ _ (evaluate_same e Integer h.1)
      (λ z. at_index_same (index_in (array_size s.program a) z) _ _
      (λ i. ap Value (same a.monitor h.0.0 a.number i)))
  evaluate_same (Unary op e) u h =
      ap (λ (a : Evaluated). and_then a (unary op)) (evaluate_same e (unary_type op) h.0)
  evaluate_same (Both op l r) u h =
      and_then_same (evaluate s.program v values l) (evaluate s.program v' values l) _ _ (evaluate_same l h.0 h.2)
      (λ a. ap (λ (k : Evaluated). and_then k (both op a)) (evaluate_same r h.0 h.3))

  pub evaluate_all_same : (es : List Expression) (ts : List ValueType) → ArgumentsFit s es ts
      → evaluate_all s.program v values es ≡ evaluate_all s.program v' values es
  evaluate_all_same [] ts h = refl
  evaluate_all_same (e ∷ es) [] h = absurd h
  evaluate_all_same (e ∷ es) (t ∷ ts) h =
      ap (λ (a : Evaluated). put_first a (evaluate_all s.program v values es)) (evaluate_same e t h.0)
      ∙ ap (λ (later : EvaluatedAll). put_first (evaluate s.program v' values e) later) (evaluate_all_same es ts h.1)

module _ (s : Scope) (v v' : Variables) (same : SameIn (own_monitor s.role) v v') (f : Frame) (cs : List Caller) where
  abbrev IsSame : Statement → Type 0
  IsSame x = statement_offer s.program v f cs x ≡ statement_offer s.program v' f cs x

  by_value : (e : Expression) (u : ValueType) (go : ℤ → Offer) → HasType s e u
      → with_value (evaluate s.program v f.locals e) f cs go ≡ with_value (evaluate s.program v' f.locals e) f cs go
  by_value e u go h =
      ap (λ (a : Evaluated). with_value a f cs go) (evaluate_same s v v' same f.locals e u h)

  by_values : (es : List Expression) (ts : List ValueType) (go : List ℤ → Offer) → ArgumentsFit s es ts
      → with_values (evaluate_all s.program v f.locals es) f cs go
      ≡ with_values (evaluate_all s.program v' f.locals es) f cs go
  by_values es ts go h =
      ap (λ (a : EvaluatedAll). with_values a f cs go) (evaluate_all_same s v v' same f.locals es ts h)

  assigns_same : (target : Target) (e : Expression) (u : ValueType) → TargetHasType s target u → HasType s e u
      → IsSame (Assign target e)
  assigns_same (ToLocal slot) e u t h = by_value e u _ h
  assigns_same (ToMember m) e u t h = by_value e u _ h
  assigns_same (ToElement a i) e u t h =
      with_value_same (evaluate s.program v f.locals i) (evaluate s.program v' f.locals i) f cs _ _
      (evaluate_same s v v' same f.locals i Integer t.1)
      (λ n. with_index_same (index_in (array_size s.program a) n) f cs _ _ (λ k. by_value e u _ h))

  returns_same : (value : Option Expression) → ReturnFits s s.result value → IsSame (Return value)
  returns_same None h = refl
  returns_same (Some e) h = by_result s.result h
    where
      by_result : (r : Option ValueType) → ReturnFits s r (Some e) → IsSame (Return (Some e))
      by_result None h = absurd h
      by_result (Some u) h = by_value e u _ h

  pub statement_same : (x : Statement) → Fits s x → IsSame x
  statement_same (Assign target e) h = assigns_same target e h.0 h.1 h.2
  statement_same (If e b part) h = by_value e Boolean _ h.0
  statement_same (While e b) h = by_value e Boolean _ h.0
  statement_same (Call q es into) h = by_values es h.1.parameters _ h.4
  statement_same (Fork q es into) h = by_values es h.1.parameters _ h.4
  statement_same (Join e into part) h = by_value e Handle _ h.1
  statement_same (Return value) h = returns_same value h.1
  statement_same (Wait c) h = refl
  statement_same (Notify c) h = refl
  statement_same (Broadcast c) h = refl
  statement_same (Print e) h = by_value e Integer _ h
  statement_same Abort h = refl

module _ (b : Build) (v v' : Variables) where
  -- what is left of a procedure's body
  frame_same : (number : ℕ) (q : Procedure) (f : Frame) (l : Locals) (cs : List Caller)
      → IsFrame b.program b.height b.made b.width number q f l → SameIn (own_monitor f.role) v v'
      → rest_offer b.program v f cs f.rest ≡ rest_offer b.program v' f cs f.rest
  frame_same number q f l cs h same = by_rest f.rest h.body
    where
      same_there : SameIn (own_monitor q.role) v v'
      same_there = subst (λ (r : Role). SameIn (own_monitor r) v v') h.role same

      by_rest : (rest : Block) → AreSound b.height b.width number (scope_of b.program q) rest
          → rest_offer b.program v f cs rest ≡ rest_offer b.program v' f cs rest
      by_rest Done sound = refl
      by_rest (Then s rest) sound =
          statement_same (scope_of b.program q) v v' same_there (record f { rest = rest }) cs s sound.0.fits

  -- a procedure that interrupted itself for a RECOVER part
  recovered_same : (number : ℕ) (q : Procedure) (fs : List MachineFrame) (c : Caller) (cs : List Caller) (m : ℕ)
      → q.role ≡ Recover m → CallersStand b number q fs (c ∷ cs) → SameIn (own_monitor c.frame.role) v v'
      → rest_offer b.program v c.frame cs c.frame.rest ≡ rest_offer b.program v' c.frame cs c.frame.rest
  recovered_same number q [] c cs m e h same = elim h [ ]
  recovered_same number q (f ∷ fs) c cs m e (is_called k caller calls may lower fits behind below) same =
      absurd (subst (MayCall caller.role) e may)
  recovered_same number q (f ∷ fs) c cs m e
      (is_recovery k caller monitor role none into own calls behind below) same =
      frame_same k caller c.frame f.locals cs behind.frame same

  pub running_same : (entered : Option ℕ) (place : ℕ) (l : Locals) (fs : List MachineFrame) (f : Frame)
      (cs : List Caller) → Running b place l fs f cs → SameIn (own_of (goes_on entered f cs)) v v'
      → offer b.program v (goes_on entered f cs) ≡ offer b.program v' (goes_on entered f cs)
  running_same entered place l fs f cs h same = by_role f.role f.rest cs (sym h.frame.role) h.callers same
    where
      before : (cs : List Caller) → SameIn (own_monitor f.role) v v'
          → rest_offer b.program v f cs f.rest ≡ rest_offer b.program v' f cs f.rest
      before cs same = frame_same h.number h.procedure f l cs h.frame same

      by_role : (role : Role) (rest : Block) (cs : List Caller) → h.procedure.role ≡ role
          → CallersStand b h.number h.procedure fs cs → SameIn (own_of (goes_on_by role rest entered f cs)) v v'
          → offer b.program v (goes_on_by role rest entered f cs)
          ≡ offer b.program v' (goes_on_by role rest entered f cs)
      by_role (Entry m) rest cs e below same = before cs same
      by_role (Internal m) rest cs e below same = before cs same
      by_role (Recover m) Done [] e below same = refl
      by_role (Recover m) Done (c ∷ cs) e below same = recovered_same h.number h.procedure fs c cs m e below same
      by_role (Recover m) (Then s rest) cs e below same = before cs same
      by_role External rest cs e below same = before cs same
      by_role Main Done cs e below same = refl
      by_role Main (Then (Return value) rest) cs e below same = refl
      by_role Main (Then (Assign target e) rest) cs e' below same = before cs same
      by_role Main (Then (If e x y) rest) cs e' below same = before cs same
      by_role Main (Then (While e x) rest) cs e' below same = before cs same
      by_role Main (Then (Call q es into) rest) cs e' below same = before cs same
      by_role Main (Then (Fork q es into) rest) cs e' below same = before cs same
      by_role Main (Then (Join e into y) rest) cs e' below same = before cs same
      by_role Main (Then (Wait c) rest) cs e' below same = before cs same
      by_role Main (Then (Notify c) rest) cs e' below same = before cs same
      by_role Main (Then (Broadcast c) rest) cs e' below same = before cs same
      by_role Main (Then (Print e) rest) cs e' below same = before cs same
      by_role Main (Then Abort rest) cs e' below same = before cs same

  -- what a process offers, given as another
  pub offers_same : (q r : Process) → q ≡ r → SameIn (own_of q) v v'
      → (SameIn (own_of r) v v' → offer b.program v r ≡ offer b.program v' r)
      → offer b.program v q ≡ offer b.program v' q
  offers_same q r e same h =
      subst (λ (p : Process). offer b.program v p ≡ offer b.program v' p) (sym e)
      (h (subst (λ (p : Process). SameIn (own_of p) v v') e same))

pub settled : (b : Build) → IsBuild b → IsSettled b
settled b is t v v' x q (runs entered f cs place l fs walk running e) same =
    offers_same b v v' q _ e same (running_same b v v' entered place l fs f cs running)
settled b is t v v' x q (enters m f cs place l fs walk entering e) same = offers_same b v v' q _ e same (λ s. refl)
settled b is t v v' x q (returns z cs place shown l fs walk returning e) same =
    offers_same b v v' q _ e same (λ s. refl)
settled b is t v v' x q (fails m f cs walk e) same = offers_same b v v' q _ e same (λ s. refl)
