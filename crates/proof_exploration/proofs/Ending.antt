-- A process that ends is over, and the table knows who is over.
use Rattle.std.proofs.Common.{◌≡◌, ◌⊎◌, ℕ, zero, suc, ℤ, pos, negsuc, Bool, List, [], ◌∷◌, ◌++◌, Option, Some, None}
use Rattle.std.proofs.Common.{refl}
use Rattle.std.proofs.Common.{inl, inr, subst, sym, ap, ◌∙◌}
use Rattle.std.specs.Prelude.{⊤}
use Rattle.std.proofs.lemmas.Bool.{cases_eq}
use Rattle.words.specs.Updates.{put}
use Rattle.program.specs.declared.kinds.Role.{Role}
use Rattle.program.specs.declared.kinds.Role.TheVariants.{Entry, Internal, Recover, External, Main}
use Rattle.program.specs.Scope.{array_size}
use Rattle.program.specs.Trees.{Expression, Target, ToLocal, ToMember, ToElement, Statement, Assign, If, While, Call}
use Rattle.program.specs.Trees.{Fork, Join, Return, Wait, Notify, Broadcast, Print, Abort, Block, Done, Then, Part}
use Rattle.program.specs.Trees.{Program}
use Rattle.meaning.specs.Values.{Variables, Evaluated, Value, Fails, EvaluatedAll, Values, FailsAll, evaluate}
use Rattle.meaning.specs.Values.{evaluate_all, index_in}
use Rattle.meaning.specs.Labels.{End, Label, Ends, Enters, Resumes, Action, Notifies, Broadcasts}
use Rattle.meaning.specs.Table.{Table}
use Rattle.meaning.specs.Processes.{Frame, Caller, Process, Entering, Before, Suspended, Joining, Returning, Failing}
use Rattle.meaning.specs.Processes.{Dying, Leaving, Over}
use Rattle.meaning.specs.States.{SourceState, opening, processes_after}
use Rattle.meaning.specs.Runs.{IsAction, IsStep, Leads}
use Rattle.meaning.specs.Offers.{Effect, Offer, Rests, Does, Takes, MakesOne, ClaimsOne, JoinsOne}
use Rattle.meaning.specs.Offers.{NotifiesSome, NotifiesAll, with_value, with_values, with_index, answers, claims}
use Rattle.meaning.specs.Offers.{assigns, return_value, statement_offer, rest_offer, offer, TakesUp}
use Rattle.meaning.proofs.Offered.{IsPlain, plain}
use Rattle.meaning.proofs.Led.{leads_more}
use Rattle.meaning.proofs.Ends.{over_in_runs}
use Rattle.words.proofs.Updates.{at_put, put_same}
use Rattle.proof_exploration.proofs.Tables.{end_of, over_after, split}

-- a process that ends is over then, and a notify or broadcast is offered with any list
abbrev pub EndsWell : Offer → Type 0
EndsWell (Does (Ends end) effect after) = after ≡ Over end
EndsWell (Does (Notifies c qs) effect after) = ⊥
EndsWell (Does (Broadcasts c qs) effect after) = ⊥
EndsWell other = ⊤

ends_value : (e : Evaluated) (f : Frame) (callers : List Caller) (go : ℤ → Offer) → ((z : ℤ) → EndsWell (go z))
    → EndsWell (with_value e f callers go)
ends_value (Value z) f callers go each = each z
ends_value (Fails fault) f callers go each = tt

ends_values : (e : EvaluatedAll) (f : Frame) (callers : List Caller) (go : List ℤ → Offer)
    → ((zs : List ℤ) → EndsWell (go zs)) → EndsWell (with_values e f callers go)
ends_values (Values zs) f callers go each = each zs
ends_values (FailsAll fault) f callers go each = tt

ends_index : (i : Option ℕ) (f : Frame) (callers : List Caller) (go : ℕ → Offer) → ((k : ℕ) → EndsWell (go k))
    → EndsWell (with_index i f callers go)
ends_index None f callers go each = tt
ends_index (Some k) f callers go each = each k

ends_answers : (r : Role) (z : ℤ) (callers : List Caller) → EndsWell (answers r z callers)
ends_answers (Entry m) z callers = tt
ends_answers (Internal m) z callers = tt
ends_answers (Recover m) z callers = tt
ends_answers External z callers = tt
ends_answers Main z callers = tt

ends_claims : (z : ℤ) (into : Option ℕ) (part : Part) (f : Frame) (callers : List Caller)
    → EndsWell (claims z into part f callers)
ends_claims (pos zero) into part f callers = tt
ends_claims (pos (suc n)) into part f callers = tt
ends_claims (negsuc n) into part f callers = tt

ends_assigns : (p : Program) (v : Variables) (f : Frame) (callers : List Caller) (target : Target)
    (e : Expression) → EndsWell (assigns p v f callers target e)
ends_assigns p v f callers (ToLocal slot) e = ends_value (evaluate p v f.locals e) f callers _ (λ z. tt)
ends_assigns p v f callers (ToMember m) e = ends_value (evaluate p v f.locals e) f callers _ (λ z. tt)
ends_assigns p v f callers (ToElement a i) e =
    ends_value (evaluate p v f.locals i) f callers _ (λ n.
    ends_index (index_in (array_size p a) n) f callers _ (λ k.
    ends_value (evaluate p v f.locals e) f callers _ (λ z. tt)))

ends_statement : (p : Program) (v : Variables) (f : Frame) (callers : List Caller) (s : Statement)
    → EndsWell (statement_offer p v f callers s)
ends_statement p v f callers (Assign target e) = ends_assigns p v f callers target e
ends_statement p v f callers (If e b part) = ends_value (evaluate p v f.locals e) f callers _ (λ z. tt)
ends_statement p v f callers (While e b) = ends_value (evaluate p v f.locals e) f callers _ (λ z. tt)
ends_statement p v f callers (Call q es into) =
    ends_values (evaluate_all p v f.locals es) f callers _ (λ zs. tt)
ends_statement p v f callers (Fork q es into) = ends_values (evaluate_all p v f.locals es) f callers _ (λ zs. tt)
ends_statement p v f callers (Join e into part) =
    ends_value (evaluate p v f.locals e) f callers _ (λ z. ends_claims z into part f callers)
ends_statement p v f callers (Return value) =
    ends_value (return_value p v f value) f callers _ (λ z. ends_answers f.role z callers)
ends_statement p v f callers (Wait c) = tt
ends_statement p v f callers (Notify c) = tt
ends_statement p v f callers (Broadcast c) = tt
ends_statement p v f callers (Print e) = ends_value (evaluate p v f.locals e) f callers _ (λ z. tt)
ends_statement p v f callers Abort = tt

ends_rest : (p : Program) (v : Variables) (f : Frame) (callers : List Caller) (b : Block)
    → EndsWell (rest_offer p v f callers b)
ends_rest p v f callers Done = ends_answers f.role (pos 0) callers
ends_rest p v f callers (Then s rest) = ends_statement p v (record f { rest = rest }) callers s

pub ends_well : (p : Program) (v : Variables) (q : Process) → EndsWell (offer p v q)
ends_well p v (Entering m f callers) = tt
ends_well p v (Before entered f callers) = ends_rest p v f callers f.rest
ends_well p v (Suspended c f callers) = tt
ends_well p v (Joining child into part f callers) = tt
ends_well p v (Returning z callers) = tt
ends_well p v (Failing fault entered f callers) = tt
ends_well p v (Dying cause []) = refl
ends_well p v (Dying cause (m ∷ ms)) = tt
ends_well p v (Leaving z) = refl
ends_well p v (Over end) = tt

-- who takes up an end is over
pub ended : (o : Offer) (end : End) (e : Effect) (r : Process) → IsPlain o → EndsWell o → TakesUp o (Ends end) e r
    → r ≡ Over end
ended Rests end e r is well t = absurd t
ended (Does l f q) end e r is well t =
    t.2 ∙ subst (λ k. EndsWell (Does k f q)) (sym t.0) well
ended (Takes l free abandoned) end e r is well t = absurd (taken l is.0 t.0 is.1 t.1)
  where
    taken : (l : Bool → Label) (m : ℕ) (w : Bool) → (l ≡ Enters m) ⊎ (l ≡ Resumes m) → Ends end ≡ l w → ⊥
    taken l m w (inl x) y = let z : Ends end ≡ Enters m w = y ∙ ap (λ k. k w) x in absurd (cc)
    taken l m w (inr x) y = let z : Ends end ≡ Resumes m w = y ∙ ap (λ k. k w) x in absurd (cc)
ended (MakesOne c q full) end e r is well (inl t) = absurd (let x = t.1 in cc)
ended (MakesOne c q full) end e r is well (inr t) = absurd (let x = t.0 in cc)
ended (ClaimsOne c q refused) end e r is well (inl t) = absurd (let x = t.0 in cc)
ended (ClaimsOne c q refused) end e r is well (inr t) = absurd (let x = t.0 in cc)
ended (JoinsOne c q) end e r is well t = absurd (let x = t.1 in cc)
ended (NotifiesSome c q) end e r is well t = absurd (let x = t.1 in cc)
ended (NotifiesAll c q) end e r is well t = absurd (let x = t.1 in cc)

-- who is over by the table is over
abbrev pub KnowsOver : SourceState → Type 0
KnowsOver s = (q : ℕ) (end : End) → s.table.over q ≡ Some end → s.process q ≡ Some (Over end)

module _ (p : Program) (done : List Action) (s : SourceState) (a : Action) (s' : SourceState)
    (run : Leads p (opening p) done s) (step : IsStep p s a s') (known : KnowsOver s) where
  still : (q : ℕ) (end : End) → s.table.over q ≡ Some end → s'.process q ≡ Some (Over end)
  still q end is = over_in_runs p done a s s' q end run step (known q end is)

  acts : (x : IsAction p s a s') (q : ℕ) (end : End) → s'.table.over q ≡ Some end → s'.process q ≡ Some (Over end)
  acts x q end is = by_end (end_of x.label) refl
      (ap (λ (T : Table). T.over q) (sym (split a.process x.label s.table s'.table x.allows).1) ∙ is)
    where
      label_of : (l : Label) (f : End) → end_of l ≡ Some f → l ≡ Ends f
      label_of (Ends g) f e = let same : g ≡ f = cc in ap Ends same
      label_of other f e = absurd (cc)

      by_end : (o : Option End) → end_of x.label ≡ o → over_after a.process o s.table.over q ≡ Some end
          → s'.process q ≡ Some (Over end)
      by_end None e is = still q end is
      by_end (Some f) e is = elim (cases_eq q a.process) [
        | inl here ↦ (let same : Some f ≡ Some end = sym (put_same s.table.over a.process (Some f))
            ∙ ap (put s.table.over a.process (Some f)) (sym here) ∙ is in
            let f_is : f ≡ end = cc in
            let over : x.after ≡ Over f = ended (offer p s.variable x.before) f x.effect x.after
            (plain p s.variable x.before) (ends_well p s.variable x.before)
            (subst (λ l. TakesUp (offer p s.variable x.before) l x.effect x.after) (label_of x.label f e) x.acts) in
            ap (λ g. g q) x.processes ∙ ap (put (processes_after x.effect s.process) a.process (Some x.after)) here
            ∙ put_same (processes_after x.effect s.process) a.process (Some x.after) ∙ ap Some (over ∙ ap Over f_is))
        | inr other ↦ still q end (sym (other_put other) ∙ is)
      ]
        where
          other_put : (q ≡ a.process → ⊥) → put s.table.over a.process (Some f) q ≡ s.table.over q
          other_put other = at_put s.table.over a.process (Some f) q (λ y. y ≡ s.table.over q)
              (λ h. absurd (other h)) (λ h. refl)

  knows_step : KnowsOver s'
  knows_step q end is = elim step [
    | inl x ↦ acts x q end is
    | inr (inl x) ↦ still q end (ap (λ (T : Table). T.over q) (sym x.2.allows.1) ∙ is)
    | inr (inr x) ↦ still q end (ap (λ (T : Table). T.over q) (sym x.3.allows.1) ∙ is)
  ]

knows_led : (p : Program) (done : List Action) (s s' : SourceState) (actions : List Action)
    → Leads p (opening p) done s → Leads p s actions s' → KnowsOver s → KnowsOver s'
knows_led p done s s' [] run led known = subst KnowsOver led known
knows_led p done s s' (a ∷ actions) run led known =
    knows_led p (done ++ a ∷ []) led.0 s' actions
    (leads_more p (opening p) s led.0 done a run led.1) led.2
    (knows_step p done s a led.0 run led.1 known)

pub knows_over : (p : Program) (actions : List Action) (s : SourceState) → Leads p (opening p) actions s → KnowsOver s
knows_over p actions s led = knows_led p [] (opening p) s actions refl led (λ q end is. absurd (cc))
