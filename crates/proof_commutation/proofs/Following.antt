-- Each step of a run is possible in the state behind, where nothing is deferred of its process.
use Rattle.std.proofs.Common.{◌≡◌, ◌≢◌, ℕ, ◌+◌, List, [], ◌∷◌, ◌++◌, Option, Some, None, refl, sym}
use Rattle.std.proofs.Common.{ap, ◌∙◌, subst, arith, inl, inr, ◌⊎◌, Contains}
use Rattle.std.proofs.lemmas.Bool.{cases_eq}
use Rattle.words.specs.Updates.{put}
use Rattle.program.specs.Trees.{Program}
use Rattle.program.specs.declared.kinds.Member.{Member}
use Rattle.program.specs.WellFormed.{WellFormed}
use Rattle.meaning.specs.Values.{Variables}
use Rattle.meaning.specs.Labels.{Action, Kind, Killed, Stray, Kill}
use Rattle.meaning.specs.Table.{Table, HeldBy, AllowsKill, AllowsStray}
use Rattle.meaning.specs.Processes.{Process, Dying, holds}
use Rattle.meaning.specs.Offers.{Effect, Nothing, Puts, Writes, Makes, offer, TakesUp}
use Rattle.meaning.specs.States.{SourceState, opening, processes_after}
use Rattle.meaning.specs.Runs.{IsStray, IsKill, IsStep, IsLeft, IsNotifying, Leads}
use Rattle.meaning.proofs.Offered.{plain}
use Rattle.meaning.proofs.Ends.{numbered}
use Rattle.meaning.proofs.Led.{leads_more}
use Rattle.meaning.proofs.Holders.{held, holder, changes}
use Rattle.proof_commutation.specs.Deferring.{LeadsDeferredAt, IsBehind}
use Rattle.words.proofs.Updates.{at_put2, put_other}
use Rattle.proof_commutation.proofs.Deferred.{at_same}
use Rattle.proof_commutation.proofs.Keeping.{Stays, same_grows, at_still}
use Rattle.proof_commutation.proofs.Behind.{act, made_next, goes_on}

effect_keeps : (e : Effect) (f : ℕ → Option Process) (u n : ℕ)
    → ((child : ℕ) (q : Process) → e ≡ Makes child q → child ≡ n) → u ≢ n → processes_after e f u ≡ f u
effect_keeps Nothing f u n made o = refl
effect_keeps (Puts m k i z) f u n made o = refl
effect_keeps (Writes z) f u n made o = refl
effect_keeps (Makes child q) f u n made o = put_other f child (Some q) u (λ e. o (e ∙ made child q refl))

some_none : (q : Process) → Some q ≡ None → ⊥
some_none q e = absurd (cc)

-- a step leaves all other processes where they stand, but for one that it makes
pub step_keeps : (p : Program) (c c' : SourceState) (t : ℕ) (k : Kind) (u : ℕ) → IsStep p c (act t k) c' → u ≢ t
    → u ≢ c.table.made + 1 → c'.process u ≡ c.process u
step_keeps p c c' t k u (inl x) o past =
    ap (λ f. f u) x.processes ∙ put_other (processes_after x.effect c.process) t (Some x.after) u o
    ∙ effect_keeps x.effect c.process u (c.table.made + 1)
    (λ child q e. made_next t (offer p c.variable x.before) x.label child q x.after c.table c'.table
    (plain p c.variable x.before)
    (subst (λ y. TakesUp (offer p c.variable x.before) x.label y x.after) e x.acts) x.allows) past
step_keeps p c c' t k u (inr (inl x)) o past = ap (λ f. f u) x.2.processes
step_keeps p c c' t k u (inr (inr x)) o past =
    ap (λ f. f u) x.3.processes ∙ put_other c.process t (Some (Dying Killed x.3.monitors)) u o

-- the process that acts was made
acts_made : (p : Program) (c c' : SourceState) (t : ℕ) (k : Kind) → IsStep p c (act t k) c' → c.process t ≡ None
    → c'.process t ≡ None
acts_made p c c' t k (inl x) none = absurd (some_none x.before (sym x.stands ∙ none))
acts_made p c c' t k (inr (inl x)) none = ap (λ f. f t) x.2.processes ∙ none
acts_made p c c' t k (inr (inr x)) none = absurd (some_none x.3.before (sym x.3.stands ∙ none))

-- no process has the number 0
zero_led : (p : Program) (s s' : SourceState) (actions : List Action) → Leads p s actions s' → s.process 0 ≡ None
    → s'.process 0 ≡ None
zero_led p s s' [] led is = subst (λ x. x.process 0 ≡ None) led is
zero_led p s s' (a ∷ actions) led is = zero_led p led.0 s' actions led.2 (by_number (cases_eq 0 a.process))
  where
    by_number : (0 ≡ a.process) ⊎ (0 ≢ a.process) → led.0.process 0 ≡ None
    by_number (inl e) = ap led.0.process e
        ∙ acts_made p s led.0 a.process a.kind led.1 (sym (ap s.process e) ∙ is)
    by_number (inr o) =
        step_keeps p s led.0 a.process a.kind 0 led.1 o (λ e. omega (arith, e)) ∙ is

pub no_zero : (p : Program) (s : SourceState) (actions : List Action) → Leads p (opening p) actions s
    → s.process 0 ≡ None
no_zero p s actions led = zero_led p (opening p) s actions led refl

stays_same : (u : ℕ) (v v' : Variables) (T T' : Table) → v' ≡ v → T'.hold ≡ T.hold → T'.most ≡ T.most
    → T'.made ≡ T.made → T'.claimed ≡ T.claimed → Stays u v v' T T'
stays_same u v v' T T' variables hold most made claimed = record {
  grows = same_grows T T' most made claimed;
  held = λ m h. subst (λ f. f m ≡ HeldBy u) (sym hold) h;
  same = λ m h n i. ap (λ x. x m n i) (sym variables);
}

module _ (p : Program) (wf : WellFormed p) (actions : List Action) (c : SourceState)
    (led : Leads p (opening p) actions c) (deferred : ℕ → List Kind) (a c' : SourceState) (t : ℕ) (k : Kind)
    (b : IsBehind p deferred a c) (empty : deferred t ≡ []) where
  unmade : c.process (c.table.made + 1) ≡ None
  unmade = numbered p c actions led (c.table.made + 1) (omega arith)

  holders : IsStep p c (act t k) c' → (u m : ℕ) → u ≢ t → c.table.hold m ≡ HeldBy u → c'.table.hold m ≡ HeldBy u
  holders step u m o is =
      let h : (q : Process) × (c.process u ≡ Some q) × Contains (holds q) m = holder p wf actions c led u m is in
      let past : u ≢ c.table.made + 1 = λ e. some_none h.0 (sym h.1 ∙ ap c.process e ∙ unmade) in
      held p wf (actions ++ act t k ∷ []) c' (leads_more p (opening p) c c' actions (act t k) led step) u m h.0
      (step_keeps p c c' t k u step o past ∙ h.1) h.2

  stands : (q : Process) → c.process t ≡ Some q → a.process t ≡ Some q
  stands q is = at_same p t c.variable c.table (a.process t) q
      (subst (λ y. LeadsDeferredAt p t c.variable c.table [] (a.process t) y) is
      (subst (λ l. LeadsDeferredAt p t c.variable c.table l (a.process t) (c.process t)) empty (b.processes t)))

  abbrev Next : Type 0
  Next = (a' : SourceState) × IsStep p a (act t k) a' × IsBehind p deferred a' c'

  stray : (d : Member) → k ≡ Stray d → IsStray c t d c' → Next
  stray d is x = (
    record c' { process = a.process },
    inr (inl (
      d,
      is,
      record {
        allows = subst (λ T. AllowsStray t d T c'.table) (sym b.table) x.allows;
        variables = x.variables ∙ sym b.variables;
        printed = x.printed ∙ sym b.printed;
        processes = refl;
      },
    )),
    record {
      table = refl;
      variables = refl;
      printed = refl;
      processes = λ u. subst (λ f. LeadsDeferredAt p u c'.variable c'.table (deferred u) (a.process u) (f u))
          (sym x.processes)
          (at_still p u c.variable c'.variable c.table c'.table
          (stays_same u c.variable c'.variable c.table c'.table x.variables
          (ap (λ T. T.hold) x.allows.1) (ap (λ T. T.most) x.allows.1) (ap (λ T. T.made) x.allows.1)
          (ap (λ T. T.claimed) x.allows.1))
          (deferred u) (a.process u) (c.process u) (b.processes u));
    },
  )

  kill : (resumed : List ℕ) (last : Option ℕ) → k ≡ Kill resumed last → IsKill p c t resumed last c' → Next
  kill resumed last is x = (
    a',
    inr (inr (
      resumed,
      last,
      is,
      record {
        before = x.before;
        monitors = x.monitors;
        notified = x.notified;
        stands = stands x.before x.stands;
        killable = x.killable;
        notifies = subst (λ v. IsNotifying (offer p v x.before) x.notified) (sym b.variables) x.notifies;
        left = subst (λ v. IsLeft p v x.before last x.monitors) (sym b.variables) x.left;
        allows = subst (λ T. AllowsKill t x.notified resumed T c'.table) (sym b.table) x.allows;
        variables = x.variables ∙ sym b.variables;
        printed = x.printed ∙ sym b.printed;
        processes = refl;
      },
    )),
    record {
      table = refl;
      variables = refl;
      printed = refl;
      processes = λ u. subst (λ f. LeadsDeferredAt p u c'.variable c'.table (deferred u) (a'.process u) (f u))
          (sym x.processes)
          (at_put2 a.process c.process t dying dying u
          (λ y z. LeadsDeferredAt p u c'.variable c'.table (deferred u) y z)
          (λ e. subst (λ l. LeadsDeferredAt p u c'.variable c'.table l dying dying) (sym (ap deferred e ∙ empty)) refl)
          (λ o. at_still p u c.variable c'.variable c.table c'.table
          (stays_same u c.variable c'.variable c.table c'.table x.variables
          (ap (λ T. T.hold) x.allows.1) (ap (λ T. T.most) x.allows.1) (ap (λ T. T.made) x.allows.1)
          (ap (λ T. T.claimed) x.allows.1))
          (deferred u) (a.process u) (c.process u) (b.processes u)));
    },
  )
    where
      dying : Option Process
      dying = Some (Dying Killed x.monitors)

      a' : SourceState
      a' = record c' { process = put a.process t dying }

  -- a step of whose process nothing is deferred is possible behind
  pub follows : IsStep p c (act t k) c' → Next
  follows (inl x) =
      goes_on p deferred a c c' t k b empty x
      (λ m n i apart. changes p wf actions c led (act t k) c' m n i (inl x) apart) (holders (inl x)) unmade
  follows (inr (inl x)) = stray x.0 x.1 x.2
  follows (inr (inr x)) = kill x.0 x.1 x.2 x.3
