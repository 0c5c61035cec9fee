-- What holds of each offer of a process.
use Rattle.std.proofs.Common.{◌≡◌, ◌⊎◌, ℕ, zero, suc, ℤ, pos, negsuc, Bool, List, [], ◌∷◌, Option, Some, None, refl}
use Rattle.std.proofs.Common.{inl, inr, subst, sym}
use Rattle.std.specs.Prelude.{⊤}
use Rattle.program.specs.declared.kinds.Role.{Role}
use Rattle.program.specs.declared.kinds.Role.TheVariants.{Entry, Internal, Recover, External, Main}
use Rattle.program.specs.Scope.{array_size}
use Rattle.program.specs.Trees.{Expression, Target, ToLocal, ToMember, ToElement, Statement, Assign, If, While, Call}
use Rattle.program.specs.Trees.{Fork, Join, Return, Wait, Notify, Broadcast, Print, Abort, Block, Done, Then, Part}
use Rattle.program.specs.Trees.{Program}
use Rattle.meaning.specs.Values.{Variables, Evaluated, Value, Fails, EvaluatedAll, Values, FailsAll, evaluate}
use Rattle.meaning.specs.Values.{evaluate_all, index_in}
use Rattle.meaning.specs.Labels.{Kind, Stray, Kill, Label, Enters, Resumes, kind_of}
use Rattle.meaning.specs.Processes.{Frame, Caller, Process, Entering, Before, Suspended, Joining, Returning, Failing}
use Rattle.meaning.specs.Processes.{Dying, Leaving, Over}
use Rattle.meaning.specs.Offers.{Effect, Makes, Offer, Rests, Does, Takes, MakesOne, ClaimsOne, JoinsOne}
use Rattle.meaning.specs.Offers.{NotifiesSome, NotifiesAll, with_value, with_values, with_index, answers, claims}
use Rattle.meaning.specs.Offers.{assigns, return_value, statement_offer, rest_offer, offer, TakesUp}

-- an action of a process's own is no stray wake-up and no kill
abbrev pub IsOwn : Kind → Type 0
IsOwn (Stray c) = ⊥
IsOwn (Kill resumed last) = ⊥
IsOwn other = ⊤

abbrev pub IsQuiet : Effect → Type 0
IsQuiet (Makes child q) = ⊥
IsQuiet other = ⊤

abbrev pub IsPlain : Offer → Type 0
IsPlain (Does label effect after) = IsOwn (kind_of label) × IsQuiet effect
IsPlain (Takes label free abandoned) = (m : ℕ) × ((label ≡ Enters m) ⊎ (label ≡ Resumes m))
IsPlain other = ⊤

plain_value : (e : Evaluated) (f : Frame) (callers : List Caller) (go : ℤ → Offer) → ((z : ℤ) → IsPlain (go z))
    → IsPlain (with_value e f callers go)
plain_value (Value z) f callers go each = each z
plain_value (Fails fault) f callers go each = (tt, tt)

plain_values : (e : EvaluatedAll) (f : Frame) (callers : List Caller) (go : List ℤ → Offer)
    → ((zs : List ℤ) → IsPlain (go zs)) → IsPlain (with_values e f callers go)
plain_values (Values zs) f callers go each = each zs
plain_values (FailsAll fault) f callers go each = (tt, tt)

plain_index : (i : Option ℕ) (f : Frame) (callers : List Caller) (go : ℕ → Offer) → ((k : ℕ) → IsPlain (go k))
    → IsPlain (with_index i f callers go)
plain_index None f callers go each = (tt, tt)
plain_index (Some k) f callers go each = each k

plain_answers : (r : Role) (z : ℤ) (callers : List Caller) → IsPlain (answers r z callers)
plain_answers (Entry m) z callers = (tt, tt)
plain_answers (Internal m) z callers = (tt, tt)
plain_answers (Recover m) z callers = tt
plain_answers External z callers = (tt, tt)
plain_answers Main z callers = tt

plain_claims : (z : ℤ) (into : Option ℕ) (part : Part) (f : Frame) (callers : List Caller)
    → IsPlain (claims z into part f callers)
plain_claims (pos zero) into part f callers = (tt, tt)
plain_claims (pos (suc n)) into part f callers = tt
plain_claims (negsuc n) into part f callers = (tt, tt)

plain_assigns : (p : Program) (v : Variables) (f : Frame) (callers : List Caller) (target : Target)
    (e : Expression) → IsPlain (assigns p v f callers target e)
plain_assigns p v f callers (ToLocal slot) e = plain_value (evaluate p v f.locals e) f callers _ (λ z. (tt, tt))
plain_assigns p v f callers (ToMember m) e = plain_value (evaluate p v f.locals e) f callers _ (λ z. (tt, tt))
plain_assigns p v f callers (ToElement a i) e =
    plain_value (evaluate p v f.locals i) f callers _ (λ n.
    plain_index (index_in (array_size p a) n) f callers _ (λ k.
    plain_value (evaluate p v f.locals e) f callers _ (λ z. (tt, tt))))

plain_statement : (p : Program) (v : Variables) (f : Frame) (callers : List Caller) (s : Statement)
    → IsPlain (statement_offer p v f callers s)
plain_statement p v f callers (Assign target e) = plain_assigns p v f callers target e
plain_statement p v f callers (If e b part) = plain_value (evaluate p v f.locals e) f callers _ (λ z. (tt, tt))
plain_statement p v f callers (While e b) = plain_value (evaluate p v f.locals e) f callers _ (λ z. (tt, tt))
plain_statement p v f callers (Call q es into) =
    plain_values (evaluate_all p v f.locals es) f callers _ (λ zs. (tt, tt))
plain_statement p v f callers (Fork q es into) = plain_values (evaluate_all p v f.locals es) f callers _ (λ zs. tt)
plain_statement p v f callers (Join e into part) =
    plain_value (evaluate p v f.locals e) f callers _ (λ z. plain_claims z into part f callers)
plain_statement p v f callers (Return value) =
    plain_value (return_value p v f value) f callers _ (λ z. plain_answers f.role z callers)
plain_statement p v f callers (Wait c) = (tt, tt)
plain_statement p v f callers (Notify c) = tt
plain_statement p v f callers (Broadcast c) = tt
plain_statement p v f callers (Print e) = plain_value (evaluate p v f.locals e) f callers _ (λ z. (tt, tt))
plain_statement p v f callers Abort = (tt, tt)

plain_rest : (p : Program) (v : Variables) (f : Frame) (callers : List Caller) (b : Block)
    → IsPlain (rest_offer p v f callers b)
plain_rest p v f callers Done = plain_answers f.role (pos 0) callers
plain_rest p v f callers (Then s rest) = plain_statement p v (record f { rest = rest }) callers s

pub plain : (p : Program) (v : Variables) (q : Process) → IsPlain (offer p v q)
plain p v (Entering m f callers) = (m, inl refl)
plain p v (Before entered f callers) = plain_rest p v f callers f.rest
plain p v (Suspended c f callers) = (c.monitor, inr refl)
plain p v (Joining child into part f callers) = tt
plain p v (Returning z callers) = (tt, tt)
plain p v (Failing fault entered f callers) = (tt, tt)
plain p v (Dying cause []) = (tt, tt)
plain p v (Dying cause (m ∷ ms)) = (tt, tt)
plain p v (Leaving z) = (tt, tt)
plain p v (Over end) = tt

taken_kind : (l : Bool → Label) (m : ℕ) (b : Bool) → (l ≡ Enters m) ⊎ (l ≡ Resumes m) → IsOwn (kind_of (l b))
taken_kind l m b (inl e) = subst (λ (k : Bool → Label). IsOwn (kind_of (k b))) (sym e) tt
taken_kind l m b (inr e) = subst (λ (k : Bool → Label). IsOwn (kind_of (k b))) (sym e) tt

-- what is taken up is an action of the process's own
pub own_kind : (o : Offer) (l : Label) (e : Effect) (q : Process) → IsPlain o → TakesUp o l e q → IsOwn (kind_of l)
own_kind Rests l e q is t = absurd t
own_kind (Does k f r) l e q is t = subst (λ x. IsOwn (kind_of x)) (sym t.0) is.0
own_kind (Takes k f r) l e q is t = subst (λ x. IsOwn (kind_of x)) (sym t.1) (taken_kind k is.0 t.0 is.1)
own_kind (MakesOne c k r) l e q is (inl t) = subst (λ x. IsOwn (kind_of x)) (sym t.1) tt
own_kind (MakesOne c k r) l e q is (inr t) = subst (λ x. IsOwn (kind_of x)) (sym t.0) tt
own_kind (ClaimsOne c k r) l e q is (inl t) = subst (λ x. IsOwn (kind_of x)) (sym t.0) tt
own_kind (ClaimsOne c k r) l e q is (inr t) = subst (λ x. IsOwn (kind_of x)) (sym t.0) tt
own_kind (JoinsOne c k) l e q is t = subst (λ x. IsOwn (kind_of x)) (sym t.1) tt
own_kind (NotifiesSome c k) l e q is t = subst (λ x. IsOwn (kind_of x)) (sym t.1) tt
own_kind (NotifiesAll c k) l e q is t = subst (λ x. IsOwn (kind_of x)) (sym t.1) tt
