-- An action leads to at most one state.
use Rattle.std.proofs.Common.{◌≡◌, ◌⊎◌, if◌then◌else◌, ℕ, Bool, true, false, List, Option, Some, None, refl, sym, ap}
use Rattle.std.proofs.Common.{◌∙◌, inl, inr, subst}
use Rattle.words.specs.Updates.{put}
use Rattle.words.specs.declared.outcome.Fault.TheVariants.{HandleNotJoinable, ProcessTableFull}
use Rattle.program.specs.declared.kinds.Member.{Member}
use Rattle.program.specs.Trees.{Program}
use Rattle.meaning.specs.Values.{Variables}
use Rattle.meaning.specs.Labels.{Killed, Label, Alone, Stores, Forks, FindsFull, Claims, FindsClaimed, Joins, Enters}
use Rattle.meaning.specs.Labels.{Resumes, Exits, Waits, Notifies, Broadcasts, Abandons, Ends, Stray, Kill, Fork}
use Rattle.meaning.specs.Labels.{Claim, Notify, Broadcast, Fails, kind_of, Action}
use Rattle.meaning.specs.Table.{Table, Allows, enterable}
use Rattle.meaning.specs.Processes.{Process, Dying}
use Rattle.meaning.specs.Offers.{Effect, Makes, Offer, Rests, Does, Takes, MakesOne, ClaimsOne, JoinsOne}
use Rattle.meaning.specs.Offers.{NotifiesSome, NotifiesAll, offer, TakesUp}
use Rattle.meaning.specs.States.{SourceState, variables_after, printed_after, processes_after}
use Rattle.meaning.specs.Runs.{IsAction, IsStray, IsKill, IsStep, IsLeft}
use Rattle.meaning.proofs.Offered.{IsOwn, IsPlain, plain, own_kind}

allows_once : (p : ℕ) (l : Label) (t left right : Table) → Allows p l t left → Allows p l t right → left ≡ right
allows_once p (Alone kind) t left right a b = a ∙ sym b
allows_once p (Stores m) t left right a b = a ∙ sym b
allows_once p (Forks child) t left right a b = a.2 ∙ sym b.2
allows_once p FindsFull t left right a b = a.1 ∙ sym b.1
allows_once p (Claims child) t left right a b = a.1 ∙ sym b.1
allows_once p (FindsClaimed child) t left right a b = a.1 ∙ sym b.1
allows_once p (Joins child end) t left right a b = a.1 ∙ sym b.1
allows_once p (Enters m w) t left right a b = a.1 ∙ sym b.1
allows_once p (Resumes m w) t left right a b = a.2 ∙ sym b.2
allows_once p (Exits m) t left right a b = a ∙ sym b
allows_once p (Waits c) t left right a b = a ∙ sym b
allows_once p (Notifies c resumed) t left right a b = a.1 ∙ sym b.1
allows_once p (Broadcasts c resumed) t left right a b = a.1 ∙ sym b.1
allows_once p (Abandons m) t left right a b = a ∙ sym b
allows_once p (Ends end) t left right a b = a ∙ sym b

-- what an action does is one thing
record Same (l k : Label) (e f : Effect) (q r : Process) : Type 0 where
  label : l ≡ k
  effect : e ≡ f
  after : q ≡ r

enterable_once : (a b : Bool) → enterable a ≡ enterable b → a ≡ b
enterable_once true true e = refl
enterable_once false false e = refl
enterable_once true false e = absurd (cc)
enterable_once false true e = absurd (cc)

was_abandoned_once : (p : ℕ) (k : Bool → Label) (m : ℕ) (a b : Bool) (t left right : Table)
    → (k ≡ Enters m) ⊎ (k ≡ Resumes m)
    → Allows p (k a) t left → Allows p (k b) t right → a ≡ b
was_abandoned_once p k m a b t left right (inl e) x y =
    let x' : Allows p (Enters m a) t left = subst (λ (j : Bool → Label). Allows p (j a) t left) e x in
    let y' : Allows p (Enters m b) t right = subst (λ (j : Bool → Label). Allows p (j b) t right) e y in
    enterable_once a b (sym x'.0 ∙ y'.0)
was_abandoned_once p k m a b t left right (inr e) x y =
    let x' : Allows p (Resumes m a) t left = subst (λ (j : Bool → Label). Allows p (j a) t left) e x in
    let y' : Allows p (Resumes m b) t right = subst (λ (j : Bool → Label). Allows p (j b) t right) e y in
    enterable_once a b (sym x'.1 ∙ y'.1)

taken_once : (p : ℕ) (o : Offer) (l k : Label) (e f : Effect) (q r : Process) (t left right : Table) → IsPlain o
    → TakesUp o l e q → TakesUp o k f r → kind_of l ≡ kind_of k → Allows p l t left → Allows p k t right
    → Same l k e f q r
taken_once p Rests l k e f q r t left right is x y same a b = absurd x
taken_once p (Does j g after) l k e f q r t left right is x y same a b =
    record { label = x.0 ∙ sym y.0; effect = x.1 ∙ sym y.1; after = x.2 ∙ sym y.2 }
taken_once p (Takes j free abandoned) l k e f q r t left right is x y same a b =
    let w : x.0 ≡ y.0 = was_abandoned_once p j is.0 x.0 y.0 t left right is.1
    (subst (λ i. Allows p i t left) x.1 a) (subst (λ i. Allows p i t right) y.1 b) in
    record {
      label = x.1 ∙ ap j w ∙ sym y.1;
      effect = x.2 ∙ sym y.2;
      after = x.3 ∙ ap
          (λ v. if v then abandoned else free) w ∙ sym y.3;
    }
taken_once p (MakesOne c g full) l k e f q r t left right is (inl x) (inl y) same a b =
    let forks : Fork x.0 ≡ Fork y.0 = sym (ap kind_of x.1) ∙ same ∙ ap kind_of y.1 in
    let n : x.0 ≡ y.0 = cc in
    record {
      label = x.1 ∙ ap Forks n ∙ sym y.1;
      effect = x.2 ∙ ap (λ i. Makes i c) n ∙ sym y.2;
      after = x.3 ∙ ap
          g n ∙ sym y.3;
    }
taken_once p (MakesOne c g full) l k e f q r t left right is (inl x) (inr y) same a b =
    absurd (let differ : Fork x.0 ≡ Fails ProcessTableFull = sym (ap kind_of x.1) ∙ same ∙ ap kind_of y.0 in cc)
taken_once p (MakesOne c g full) l k e f q r t left right is (inr x) (inl y) same a b =
    absurd (let differ : Fails ProcessTableFull ≡ Fork y.0 = sym (ap kind_of x.0) ∙ same ∙ ap kind_of y.1 in cc)
taken_once p (MakesOne c g full) l k e f q r t left right is (inr x) (inr y) same a b =
    record { label = x.0 ∙ sym y.0; effect = x.1 ∙ sym y.1; after = x.2 ∙ sym y.2 }
taken_once p (ClaimsOne c g refused) l k e f q r t left right is (inl x) (inl y) same a b =
    record { label = x.0 ∙ sym y.0; effect = x.1 ∙ sym y.1; after = x.2 ∙ sym y.2 }
taken_once p (ClaimsOne c g refused) l k e f q r t left right is (inl x) (inr y) same a b =
    absurd (let differ : Claim c ≡ Fails HandleNotJoinable = sym (ap kind_of x.0) ∙ same ∙ ap kind_of y.0 in cc)
taken_once p (ClaimsOne c g refused) l k e f q r t left right is (inr x) (inl y) same a b =
    absurd (let differ : Fails HandleNotJoinable ≡ Claim c = sym (ap kind_of x.0) ∙ same ∙ ap kind_of y.0 in cc)
taken_once p (ClaimsOne c g refused) l k e f q r t left right is (inr x) (inr y) same a b =
    record { label = x.0 ∙ sym y.0; effect = x.1 ∙ sym y.1; after = x.2 ∙ sym y.2 }
taken_once p (JoinsOne c g) l k e f q r t left right is x y same a b =
    let x' : Allows p (Joins c x.0) t left = subst (λ i. Allows p i t left) x.1 a in
    let y' : Allows p (Joins c y.0) t right = subst (λ i. Allows p i t right) y.1 b in
    let ends : Some x.0 ≡ Some y.0 = sym x'.0 ∙ y'.0 in
    let end : x.0 ≡ y.0 = cc in
    record { label = x.1 ∙ ap (Joins c) end ∙ sym y.1; effect = x.2 ∙ sym y.2; after = x.3 ∙ ap g end ∙ sym y.3 }
taken_once p (NotifiesSome c g) l k e f q r t left right is x y same a b =
    let kinds : Notify c x.0 ≡ Notify c y.0 = sym (ap kind_of x.1) ∙ same ∙ ap kind_of y.1 in
    let resumed : x.0 ≡ y.0 = cc in
    record { label = x.1 ∙ ap (Notifies c) resumed ∙ sym y.1; effect = x.2 ∙ sym y.2; after = x.3 ∙ sym y.3 }
taken_once p (NotifiesAll c g) l k e f q r t left right is x y same a b =
    let kinds : Broadcast c x.0 ≡ Broadcast c y.0 = sym (ap kind_of x.1) ∙ same ∙ ap kind_of y.1 in
    let resumed : x.0 ≡ y.0 = cc in
    record { label = x.1 ∙ ap (Broadcasts c) resumed ∙ sym y.1; effect = x.2 ∙ sym y.2; after = x.3 ∙ sym y.3 }

-- states that agree in all are one
same_state : (s t : SourceState) → s.table ≡ t.table → s.variable ≡ t.variable → s.process ≡ t.process
    → s.printed ≡ t.printed → s ≡ t
same_state s t a b c d = λ i. record { table = a i; variable = b i; process = c i; printed = d i }

some_once : {A : Type 0} (x y : A) → Some x ≡ Some y → x ≡ y
some_once x y e = cc

action_once : (p : Program) (s : SourceState) (a : Action) (left right : SourceState) → IsAction p s a left
    → IsAction p s a right → left ≡ right
action_once p s a left right x y =
    let before : x.before ≡ y.before = some_once _ _ (sym x.stands ∙ y.stands) in
    let acts : TakesUp (offer p s.variable y.before) x.label x.effect x.after =
    subst (λ b. TakesUp (offer p s.variable b) x.label x.effect x.after) before x.acts in
    let same : Same x.label y.label x.effect y.effect x.after y.after =
    taken_once a.process (offer p s.variable y.before) x.label y.label x.effect y.effect x.after y.after
    s.table left.table right.table
    (plain p s.variable y.before) acts y.acts (sym x.named ∙ y.named) x.allows y.allows in
    same_state left right
    (allows_once a.process y.label s.table left.table right.table
    (subst (λ l. Allows a.process l s.table left.table) same.label x.allows) y.allows)
    (x.variables ∙ ap (λ e. variables_after e s.variable) same.effect ∙ sym y.variables)
    (x.processes ∙ (λ i. put (processes_after (same.effect i) s.process) a.process (Some (same.after i)))
    ∙ sym y.processes)
    (x.printed ∙ ap (λ e. printed_after e s.printed) same.effect ∙ sym y.printed)

stray_once : (s : SourceState) (q : ℕ) (c d : Member) (left right : SourceState) → IsStray s q c left
    → IsStray s q d right → left ≡ right
stray_once s q c d left right x y =
    same_state left right (x.allows.1 ∙ sym y.allows.1) (x.variables ∙ sym y.variables)
    (x.processes ∙ sym y.processes) (x.printed ∙ sym y.printed)

left_once : (p : Program) (v : Variables) (q : Process) (last : Option ℕ) (ms ns : List ℕ) → IsLeft p v q last ms
    → IsLeft p v q last ns → ms ≡ ns
left_once p v q None ms ns a b = a ∙ sym b
left_once p v q (Some m) ms ns a b = a.2 ∙ sym b.2

kill_once : (p : Program) (s : SourceState) (q : ℕ) (resumed : List ℕ) (last : Option ℕ) (left right : SourceState)
    → IsKill p s q resumed last left → IsKill p s q resumed last right → left ≡ right
kill_once p s q resumed last left right x y =
    let before : x.before ≡ y.before = some_once _ _ (sym x.stands ∙ y.stands) in
    let monitors : x.monitors ≡ y.monitors = left_once p s.variable y.before last x.monitors y.monitors
    (subst (λ b. IsLeft p s.variable b last x.monitors) before x.left) y.left in
    same_state left right (x.allows.1 ∙ sym y.allows.1) (x.variables ∙ sym y.variables)
    (x.processes ∙ ap (λ ms. put s.process q (Some (Dying Killed ms))) monitors ∙ sym y.processes)
    (x.printed ∙ sym y.printed)

no_stray : (p : Program) (s : SourceState) (a : Action) (s' : SourceState) (c : Member) → IsAction p s a s'
    → a.kind ≡ Stray c → ⊥
no_stray p s a s' c x e =
    subst IsOwn (sym x.named ∙ e)
    (own_kind (offer p s.variable x.before) x.label x.effect x.after (plain p s.variable x.before) x.acts)

no_kill : (p : Program) (s : SourceState) (a : Action) (s' : SourceState) (resumed : List ℕ) (last : Option ℕ)
    → IsAction p s a s' → a.kind ≡ Kill resumed last → ⊥
no_kill p s a s' resumed last x e =
    subst IsOwn (sym x.named ∙ e)
    (own_kind (offer p s.variable x.before) x.label x.effect x.after (plain p s.variable x.before) x.acts)

pub step_once : (p : Program) (a : Action) (s left right : SourceState) → IsStep p s a left → IsStep p s a right
    → left ≡ right
step_once p a s left right (inl x) (inl y) = action_once p s a left right x y
step_once p a s left right (inl x) (inr (inl y)) = absurd (no_stray p s a left y.0 x y.1)
step_once p a s left right (inl x) (inr (inr y)) = absurd (no_kill p s a left y.0 y.1 x y.2)
step_once p a s left right (inr (inl x)) (inl y) = absurd (no_stray p s a right x.0 y x.1)
step_once p a s left right (inr (inl x)) (inr (inl y)) = stray_once s a.process x.0 y.0 left right x.2 y.2
step_once p a s left right (inr (inl x)) (inr (inr y)) =
    absurd (let differ : Stray x.0 ≡ Kill y.0 y.1 = sym x.1 ∙ y.2 in cc)
step_once p a s left right (inr (inr x)) (inl y) = absurd (no_kill p s a right x.0 x.1 y x.2)
step_once p a s left right (inr (inr x)) (inr (inl y)) =
    absurd (let differ : Stray y.0 ≡ Kill x.0 x.1 = sym y.1 ∙ x.2 in cc)
step_once p a s left right (inr (inr x)) (inr (inr y)) =
    let kills : Kill x.0 x.1 ≡ Kill y.0 y.1 = sym x.2 ∙ y.2 in
    let resumed : x.0 ≡ y.0 = cc in
    let last : x.1 ≡ y.1 = cc in
    kill_once p s a.process y.0 y.1 left right
    (subst (λ l. IsKill p s a.process y.0 l left) last (subst (λ r. IsKill p s a.process r x.1 left) resumed x.3)) y.3
