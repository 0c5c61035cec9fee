-- In each state of a run the table has each process as the holder of just the monitors that it holds.
use Rattle.std.proofs.Common.{◌≡◌, ◌⊎◌, ℕ, ◌+◌, ◌-◌, Bool, true, false, List, [], ◌∷◌, length, Option, Some, None}
use Rattle.std.proofs.Common.{if◌then◌else◌, refl, sym, ap, ◌∙◌, inl, inr, subst, arith}
use Rattle.std.proofs.lemmas.Bool.{cases_eq, eq-eqb, ne_eqb}
use Rattle.words.specs.Updates.{put}
use Rattle.words.specs.Versions.{most_of}
use Rattle.program.specs.declared.kinds.Member.{Member}
use Rattle.program.specs.Trees.{Program}
use Rattle.program.specs.WellFormed.{WellFormed}
use Rattle.meaning.specs.Values.{Variables}
use Rattle.meaning.specs.Labels.{Killed, Label, Forks, Enters, Resumes, Action}
use Rattle.meaning.specs.Labels as L
use Rattle.meaning.specs.Offers as O
use Rattle.meaning.specs.Table.{Hold, HeldBy, Table, enterable, Allows, without_waiters, first_table}
use Rattle.meaning.specs.Processes.{Process, Entering, Before, Suspended, Joining, Returning, Failing, Dying, Leaving}
use Rattle.meaning.specs.Processes.{Over, holds, without_monitor, all_monitors, opening_frame}
use Rattle.meaning.specs.Offers.{Effect, Makes, Offer, Rests, Does, Takes, MakesOne, ClaimsOne, JoinsOne}
use Rattle.meaning.specs.Offers.{NotifiesSome, NotifiesAll, offer, TakesUp}
use Rattle.meaning.specs.States.{SourceState, opening, main_process, processes_after}
use Rattle.meaning.specs.Runs.{IsAction, IsStray, IsKill, IsStep, IsLeft, Leads}
use Rattle.meaning.proofs.Offered.{plain}
use Rattle.meaning.proofs.Ends.{IsNumbered, MakesOnlyForking, made_by, numbered_step, numbered_opening, quiet_processes}
use Rattle.meaning.proofs.Waits.{still_waits}
use Rattle.meaning.proofs.Members.{IsIn, IsDistinct, in_without, in_with, distinct_without, in_behind, behind_in}
use Rattle.meaning.proofs.Members.{distinct_behind, in_contained}
use Rattle.meaning.proofs.Discipline.{StandsOn, ProcessFits, Keeps, Change, Same, Taken, change_of, Moves, Opens}
use Rattle.meaning.proofs.Discipline.{EffectFits, WaitsAt, LabelFits, ActFits, TakesFits, OfferFits}
use Rattle.meaning.proofs.Offering.{fitting, begun, opened}
use Rattle.meaning.proofs.Keeping.{OptionWaits, Stands, enterable_held, Changes, changes, Waited, waited, new_held}
use Rattle.meaning.proofs.Keeping.{new_holder, others_hold, others_held}

act_of : (p : Program) (hs : List ℕ) (k l : Label) (d e : Effect) (a b : Process) → l ≡ k → e ≡ d → b ≡ a
    → ActFits p hs k d a → ActFits p hs l e b
act_of p hs k l d e a b x y z fits = rw (x, y, z) fits

plainly : (p : Program) (hs : List ℕ) (l : Label) (e : Effect) (b : Process) → change_of l ≡ Same
    → EffectFits p hs e → LabelFits hs l b → Keeps p hs b → ActFits p hs l e b
plainly p hs l e b same effect label keeps = record {
  fits = keeps.0;
  moves = subst (λ (c : Change). Moves c hs (holds b)) (sym same) keeps.1;
  effect = effect;
  label = label;
}

taking : (p : Program) (hs : List ℕ) (k : Bool → Label) (l : Label) (e : Effect) (free abandoned b : Process) (m : ℕ)
    (w : Bool) → (k ≡ Enters m) ⊎ (k ≡ Resumes m) → l ≡ k w → e ≡ O.Nothing
    → b ≡ (if w then abandoned else free) → TakesFits p hs m free × TakesFits p hs m abandoned → ActFits p hs l e b
taking p hs k l e free abandoned b m w which x y z fits = rw (x, y, z) (by_name which (chosen w))
  where
    chosen : (v : Bool) → TakesFits p hs m (if v then abandoned else free)
    chosen true = fits.1
    chosen false = fits.0

    by_name : (k ≡ Enters m) ⊎ (k ≡ Resumes m) → TakesFits p hs m (if w then abandoned else free)
        → ActFits p hs (k w) O.Nothing (if w then abandoned else free)
    by_name (inl is) t =
        rw is (record { fits = t.0; moves = t.1; effect = tt; label = tt })
    by_name (inr is) t =
        rw is (record { fits = t.0; moves = t.1; effect = tt; label = tt })

-- who takes a monitor didn't hold it
abbrev IsNew : List ℕ → Label → Type 0
IsNew hs l = (m : ℕ) → change_of l ≡ Taken m → IsIn hs m → ⊥

new_by : (hs : List ℕ) (k : Bool → Label) (l : Label) (m : ℕ) (w : Bool) → (k ≡ Enters m) ⊎ (k ≡ Resumes m) → l ≡ k w
    → IsNew hs l → IsIn hs m → ⊥
new_by hs k l m w (inl is) x new = new m (rw (x, is) refl)
new_by hs k l m w (inr is) x new = new m (rw (x, is) refl)

-- what is taken up of an offer that keeps to the rules keeps to them
taken_up : (p : Program) (hs : List ℕ) (o : Offer) (l : Label) (e : Effect) (b : Process) → OfferFits p hs o
    → TakesUp o l e b → IsNew hs l → ActFits p hs l e b
taken_up p hs Rests l e b is t new = absurd t
taken_up p hs (Does k d a) l e b is t new = act_of p hs k l d e a b t.0 t.1 t.2 is
taken_up p hs (Takes k free abandoned) l e b is t new =
    taking p hs k l e free abandoned b is.0 t.0 is.1 t.1 t.2 t.3 (is.2 (new_by hs k l is.0 t.0 is.1 t.1 new))
taken_up p hs (MakesOne child a full) l e b is (inl t) new =
    act_of p hs (Forks t.0) l (Makes t.0 child) e (a t.0) b t.1 t.2 t.3
    (plainly p hs (Forks t.0) (Makes t.0 child) (a t.0) refl is.0 tt (is.1 t.0))
taken_up p hs (MakesOne child a full) l e b is (inr t) new =
    act_of p hs L.FindsFull l O.Nothing e full b t.0 t.1 t.2 (plainly p hs L.FindsFull O.Nothing full refl tt tt is.2)
taken_up p hs (ClaimsOne child a refused) l e b is (inl t) new =
    act_of p hs (L.Claims child) l O.Nothing e a b t.0 t.1 t.2
    (plainly p hs (L.Claims child) O.Nothing a refl tt tt is.0)
taken_up p hs (ClaimsOne child a refused) l e b is (inr t) new =
    act_of p hs (L.FindsClaimed child) l O.Nothing e refused b t.0 t.1 t.2
    (plainly p hs (L.FindsClaimed child) O.Nothing refused refl tt tt is.1)
taken_up p hs (JoinsOne child a) l e b is t new =
    act_of p hs (L.Joins child t.0) l O.Nothing e (a t.0) b t.1 t.2 t.3
    (plainly p hs (L.Joins child t.0) O.Nothing (a t.0) refl tt tt (is t.0))
taken_up p hs (NotifiesSome c a) l e b is t new =
    act_of p hs (L.Notifies c t.0) l O.Nothing e a b t.1 t.2 t.3
    (plainly p hs (L.Notifies c t.0) O.Nothing a refl tt is.0 is.1)
taken_up p hs (NotifiesAll c a) l e b is t new =
    act_of p hs (L.Broadcasts c t.0) l O.Nothing e a b t.1 t.2 t.3
    (plainly p hs (L.Broadcasts c t.0) O.Nothing a refl tt is.0 is.1)

-- who waits can only resume
pub resumes_only : (p : Program) (v : Variables) (b : Process) (c : Member) (l : Label) (e : Effect) (a : Process)
    → WaitsAt c b → TakesUp (offer p v b) l e a → (m : ℕ) × (w : Bool) × (l ≡ Resumes m w)
resumes_only p v (Suspended d f cs) c l e a is t = (d.monitor, t.0, t.1)
resumes_only p v (Entering m f cs) c l e a is t = absurd is
resumes_only p v (Before entered f cs) c l e a is t = absurd is
resumes_only p v (Joining child into part f cs) c l e a is t = absurd is
resumes_only p v (Returning z cs) c l e a is t = absurd is
resumes_only p v (Failing fault entered f cs) c l e a is t = absurd is
resumes_only p v (Dying cause ms) c l e a is t = absurd is
resumes_only p v (Leaving z) c l e a is t = absurd is
resumes_only p v (Over end) c l e a is t = absurd is

opened_new : (q : ℕ) (l : Label) (hold : ℕ → Hold) (hs : List ℕ) → Opens (change_of l) hold
    → ((m : ℕ) → IsIn hs m → hold m ≡ HeldBy q) → IsNew hs l
opened_new q l hold hs opens held m is within =
    let o : (w : Bool) × (hold m ≡ enterable w) = subst (λ (c : Change). Opens c hold) is opens in
    enterable_held o.0 q (sym o.1 ∙ held m within)

-- what an action of a process in such a state is
pub acted : (p : Program) → WellFormed p → (s : SourceState) (a : Action) (s' : SourceState) (x : IsAction p s a s')
    → Stands p s.table a.process (Some x.before) → ActFits p (holds x.before) x.label x.effect x.after
acted p wf s a s' x stands =
    taken_up p (holds x.before) (offer p s.variable x.before) x.label x.effect x.after
    (fitting p wf s.variable x.before stands.fits) x.acts
    (opened_new a.process x.label s.table.hold (holds x.before)
    (changes a.process x.label s.table s'.table x.allows).0 stands.held)

actor : (p : Program) → WellFormed p → (s : SourceState) (a : Action) (s' : SourceState) (x : IsAction p s a s')
    → Stands p s.table a.process (Some x.before) → Stands p s'.table a.process (Some x.after)
actor p wf s a s' x stands =
    let act : ActFits p (holds x.before) x.label x.effect x.after = acted p wf s a s' x stands in
    let changed : Changes a.process x.label s.table s'.table =
    changes a.process x.label s.table s'.table x.allows in
    record {
      fits = act.fits;
      held = λ m is. ap (λ (h : ℕ → Hold). h m) changed.1
          ∙ new_held a.process s.table.hold (holds x.before) (holds x.after) stands.held (change_of x.label) act.moves
          m is;
      holder = λ m is. new_holder a.process s.table.hold (holds x.before) (holds x.after) stands.held
          (change_of x.label) act.moves stands.holder m (ap (λ (h : ℕ → Hold). h m) (sym changed.1) ∙ is);
      waits = λ c w. waiting c act.label
          (waited a.process x.label s.table s'.table a.process c x.allows w);
    }
  where
    waiting : (c : Member) → LabelFits (holds x.before) x.label x.after → Waited a.process x.label s.table a.process c
        → WaitsAt c x.after
    waiting c fits (inl w) =
        let r : (m : ℕ) × (b : Bool) × (x.label ≡ Resumes m b) =
        resumes_only p s.variable x.before c x.label x.effect x.after (stands.waits c w) x.acts in
        let allows : Allows a.process (Resumes r.0 r.1) s.table s'.table =
        subst (λ (l : Label). Allows a.process l s.table s'.table) r.2 x.allows in
        let none : None ≡ Some c = sym allows.0 ∙ w in absurd (cc)
    waiting c fits (inr w) = subst (λ (l : Label). LabelFits (holds x.before) l x.after) w.1 fits

-- another process
other : (p : Program) → WellFormed p → (s : SourceState) (a : Action) (s' : SourceState) (x : IsAction p s a s')
    → Stands p s.table a.process (Some x.before) → (q : ℕ) (b : Option Process) → (q ≡ a.process → ⊥)
    → Stands p s.table q b → Stands p s'.table q b
other p wf s a s' x stands q b ne is =
    let act : ActFits p (holds x.before) x.label x.effect x.after = acted p wf s a s' x stands in
    let changed : Changes a.process x.label s.table s'.table =
    changes a.process x.label s.table s'.table x.allows in
    record {
      fits = is.fits;
      held = λ m i. ap (λ (h : ℕ → Hold). h m) changed.1
          ∙ others_hold a.process s.table.hold (holds x.before) (holds x.after) stands.held (change_of x.label)
          changed.0 act.moves q ne m (is.held m i);
      holder = λ m i. is.holder m (others_held a.process s.table.hold (holds x.before) (holds x.after) stands.held
          (change_of x.label) q ne m (ap (λ (h : ℕ → Hold). h m) (sym changed.1) ∙ i));
      waits = λ c w. waiting c (waited a.process x.label s.table s'.table q c x.allows w);
    }
  where
    waiting : (c : Member) → Waited a.process x.label s.table q c → OptionWaits c b
    waiting c (inl w) = is.waits c w
    waiting c (inr w) = absurd (ne w.0)

-- a process that is made holds nothing
made_one : (p : Program) (t : Table) (q : ℕ) (b : Process) → Keeps p [] b → Stands p t q None → Stands p t q (Some b)
made_one p t q b keeps is = record {
  fits = keeps.0;
  held = λ m i. absurd (subst (λ (ms : List ℕ). IsIn ms m) keeps.1 i);
  holder = λ m i. absurd (is.holder m i);
  waits = λ c w. absurd (is.waits c w);
}

-- all processes of a state
abbrev pub AllStand : Program → SourceState → Type 0
AllStand p s = (q : ℕ) → Stands p s.table q (s.process q)

put_here : (f : ℕ → Option Process) (i j : ℕ) (o : Option Process) → j ≡ i → put f i o j ≡ o
put_here f i j o e = rw (eq-eqb j i e) refl

put_there : (f : ℕ → Option Process) (i j : ℕ) (o : Option Process) → (j ≡ i → ⊥) → put f i o j ≡ f j
put_there f i j o ne = rw (ne_eqb j i ne) refl

pub acting : (p : Program) (s : SourceState) (a : Action) (s' : SourceState) (x : IsAction p s a s') → AllStand p s
    → Stands p s.table a.process (Some x.before)
acting p s a s' x all = subst (λ (b : Option Process). Stands p s.table a.process b) x.stands (all a.process)

action_keeps : (p : Program) → WellFormed p → (s : SourceState) (a : Action) (s' : SourceState) → IsAction p s a s'
    → IsNumbered s → AllStand p s → AllStand p s'
action_keeps p wf s a s' x numbered all q = elim (cases_eq q a.process) [
  | inl e ↦ subst (λ (b : Option Process). Stands p s'.table q b)
      (sym (ap (λ (f : ℕ → Option Process). f q) x.processes
      ∙ put_here (processes_after x.effect s.process) a.process q (Some x.after) e))
      (subst (λ (i : ℕ). Stands p s'.table i (Some x.after)) (sym e) (actor p wf s a s' x (acting p s a s' x all)))
  | inr ne ↦ subst (λ (b : Option Process). Stands p s'.table q b)
      (sym (ap (λ (f : ℕ → Option Process). f q) x.processes
      ∙ put_there (processes_after x.effect s.process) a.process q (Some x.after) ne))
      (rest ne (made_by (offer p s.variable x.before) x.label x.effect x.after (plain p s.variable x.before) x.acts))
]
  where
    still : (q ≡ a.process → ⊥) → (b : Option Process) → Stands p s.table q b → Stands p s'.table q b
    still ne b is = other p wf s a s' x (acting p s a s' x all) q b ne is

    forked : (q ≡ a.process → ⊥) → (n : ℕ) (c : Process) → x.label ≡ Forks n → x.effect ≡ Makes n c
        → Stands p s'.table q (put s.process n (Some c) q)
    forked ne n c is makes = elim (cases_eq q n) [
      | inl e ↦ subst (λ (b : Option Process). Stands p s'.table q b) (sym (put_here s.process n q (Some c) e))
          (made_one p s'.table q c (child makes) (still ne None (empty is e)))
      | inr apart ↦ subst (λ (b : Option Process). Stands p s'.table q b) (sym (put_there s.process n q (Some c) apart))
          (still ne (s.process q) (all q))
    ]
      where
        child : x.effect ≡ Makes n c → Keeps p [] c
        child makes = subst (λ (e : Effect). EffectFits p (holds x.before) e) makes
            (acted p wf s a s' x (acting p s a s' x all)).effect

        empty : x.label ≡ Forks n → q ≡ n → Stands p s.table q None
        empty is e =
            let forks : Allows a.process (Forks n) s.table s'.table =
            subst (λ (l : Label). Allows a.process l s.table s'.table) is x.allows in
            let number : n ≡ s.table.made + 1 = forks.1 in
            let none : s.process q ≡ None = numbered q (omega (arith, e, number)) in
            subst (λ (b : Option Process). Stands p s.table q b) none (all q)

    rest : (q ≡ a.process → ⊥) → MakesOnlyForking x.label x.effect
        → Stands p s'.table q (processes_after x.effect s.process q)
    rest ne (inl quiet) = subst (λ (f : ℕ → Option Process). Stands p s'.table q (f q))
        (sym (quiet_processes x.effect s.process quiet)) (still ne (s.process q) (all q))
    rest ne (inr f) = subst (λ (e : Effect). Stands p s'.table q (processes_after e s.process q)) (sym f.3)
        (forked ne f.0 f.1 f.2 f.3)

-- where the holders are the same, and nobody begins to wait
unmoved : (p : Program) (t t' : Table) (q : ℕ) (b : Option Process) → t'.hold ≡ t.hold
    → ((c : Member) → t'.waits q ≡ Some c → t.waits q ≡ Some c) → Stands p t q b → Stands p t' q b
unmoved p t t' q b same fewer is = record {
  fits = is.fits;
  held = λ m i. ap (λ (h : ℕ → Hold). h m) same ∙ is.held m i;
  holder = λ m i. is.holder m (ap (λ (h : ℕ → Hold). h m) (sym same) ∙ i);
  waits = λ c w. is.waits c (fewer c w);
}

fewer_put : (waits : ℕ → Option Member) (i q : ℕ) (c : Member) → put waits i None q ≡ Some c → waits q ≡ Some c
fewer_put waits i q c w = elim (cases_eq q i) [
  | inl e ↦ absurd (let none : None ≡ Some c = rw (eq-eqb q i e) at w in cc)
  | inr ne ↦ rw (ne_eqb q i ne) at w
]

stray_keeps : (p : Program) (s : SourceState) (i : ℕ) (c : Member) (s' : SourceState) → IsStray s i c s'
    → AllStand p s → AllStand p s'
stray_keeps p s i c s' x all q =
    subst (λ (f : ℕ → Option Process). Stands p s'.table q (f q)) (sym x.processes)
    (unmoved p s.table s'.table q (s.process q) (ap (λ (t : Table). t.hold) x.allows.1)
    (λ d w. fewer_put s.table.waits i q d (ap (λ (t : Table). t.waits q) (sym x.allows.1) ∙ w)) (all q))

-- what a process holds is distinct
distinct_holds : (p : Program) (b : Process) → ProcessFits p b → IsDistinct (holds b)
distinct_holds p (Entering m f cs) is = is.2
distinct_holds p (Before entered f cs) is = is.1
distinct_holds p (Suspended c f cs) is = distinct_without c.monitor (all_monitors f cs) is.2
distinct_holds p (Joining child into part f cs) is = is.2
distinct_holds p (Returning z cs) is = is.1
distinct_holds p (Failing fault entered f cs) is = is
distinct_holds p (Dying cause ms) is = is
distinct_holds p (Leaving z) is = tt
distinct_holds p (Over end) is = tt

-- what a killed process abandons is what it held
record Left (hs ms : List ℕ) : Type 0 where
  distinct : IsDistinct ms
  within : (m : ℕ) → IsIn ms m → IsIn hs m
  all : (m : ℕ) → IsIn hs m → IsIn ms m

left : (p : Program) (v : Variables) (b : Process) (last : Option ℕ) (ms : List ℕ) → IsDistinct (holds b)
    → IsLeft p v b last ms → Left (holds b) ms
left p v b None ms distinct is = rw is (record { distinct = distinct; within = λ m i. i; all = λ m i. i })
left p v b (Some n) ms distinct is = rw is.2 (record {
  distinct = distinct_behind (without_monitor n (holds b)) n (distinct_without n (holds b) distinct)
      (λ i. (in_with n (holds b) n i).0 refl);
  within = λ m i. back m (in_behind (without_monitor n (holds b)) n m i);
  all = λ m i. behind_in (without_monitor n (holds b)) n m (apart m i);
})
  where
    back : (m : ℕ) → (m ≡ n) ⊎ IsIn (without_monitor n (holds b)) m → IsIn (holds b) m
    back m (inl e) = subst (λ (k : ℕ). IsIn (holds b) k) (sym e) (in_contained (holds b) n is.0)
    back m (inr i) = (in_with n (holds b) m i).1

    apart : (m : ℕ) → IsIn (holds b) m → (m ≡ n) ⊎ IsIn (without_monitor n (holds b)) m
    apart m i = elim (cases_eq m n) [ inl e ↦ inl e | inr ne ↦ inr (in_without n (holds b) m i ne) ]

kill_keeps : (p : Program) (s : SourceState) (i : ℕ) (resumed : List ℕ) (last : Option ℕ) (s' : SourceState)
    → IsKill p s i resumed last s' → AllStand p s → AllStand p s'
kill_keeps p s i resumed last s' x all q = elim (cases_eq q i) [
  | inl e ↦ subst (λ (b : Option Process). Stands p s'.table q b)
      (sym (ap (λ (f : ℕ → Option Process). f q) x.processes
      ∙ put_here s.process i q (Some (Dying Killed x.monitors)) e)) (killed e)
  | inr ne ↦ subst (λ (b : Option Process). Stands p s'.table q b)
      (sym (ap (λ (f : ℕ → Option Process). f q) x.processes
      ∙ put_there s.process i q (Some (Dying Killed x.monitors)) ne))
      (unmoved p s.table s'.table q (s.process q) same fewer (all q))
]
  where
    same : s'.table.hold ≡ s.table.hold
    same = ap (λ (t : Table). t.hold) x.allows.1

    gone : (c : Member) → s'.table.waits q ≡ Some c → put (without_waiters resumed s.table.waits) i None q ≡ Some c
    gone c w = ap (λ (t : Table). t.waits q) (sym x.allows.1) ∙ w

    fewer : (c : Member) → s'.table.waits q ≡ Some c → s.table.waits q ≡ Some c
    fewer c w = still_waits resumed s.table.waits q c
        (fewer_put (without_waiters resumed s.table.waits) i q c (gone c w))

    stood : q ≡ i → Stands p s.table q (Some x.before)
    stood e = subst (λ (b : Option Process). Stands p s.table q b) (ap s.process e ∙ x.stands) (all q)

    killed : q ≡ i → Stands p s'.table q (Some (Dying Killed x.monitors))
    killed e =
        let is : Stands p s.table q (Some x.before) = stood e in
        let l : Left (holds x.before) x.monitors =
        left p s.variable x.before last x.monitors (distinct_holds p x.before is.fits) x.left in
        record {
          fits = l.distinct;
          held = λ m n. ap (λ (h : ℕ → Hold). h m) same ∙ is.held m (l.within m n);
          holder = λ m n. l.all m (is.holder m (ap (λ (h : ℕ → Hold). h m) (sym same) ∙ n));
          waits = λ c w. absurd (none e c (gone c w));
        }
      where
        none : q ≡ i → (c : Member) → put (without_waiters resumed s.table.waits) i None q ≡ Some c → ⊥
        none e c w = let n : None ≡ Some c = rw (eq-eqb q i e) at w in absurd (cc)

step_keeps : (p : Program) → WellFormed p → (s : SourceState) (a : Action) (s' : SourceState) → IsStep p s a s'
    → IsNumbered s → AllStand p s → AllStand p s'
step_keeps p wf s a s' (inl x) numbered all = action_keeps p wf s a s' x numbered all
step_keeps p wf s a s' (inr (inl x)) numbered all = stray_keeps p s a.process x.0 s' x.2 all
step_keeps p wf s a s' (inr (inr x)) numbered all = kill_keeps p s a.process x.0 x.1 s' x.3 all

led_keeps : (p : Program) → WellFormed p → (s s' : SourceState) (actions : List Action) → Leads p s actions s'
    → IsNumbered s → AllStand p s → AllStand p s'
led_keeps p wf s s' [] led numbered all = subst (λ (t : SourceState). AllStand p t) led all
led_keeps p wf s s' (a ∷ actions) led numbered all =
    led_keeps p wf led.0 s' actions led.2 (numbered_step p s a led.0 led.1 numbered)
    (step_keeps p wf s a led.0 led.1 numbered all)

-- nobody holds anything at the beginning
fresh : (p : Program) (q : ℕ) → Stands p (first_table (most_of p.version)) q None
fresh p q = record {
  fits = tt;
  held = λ m i. absurd i;
  holder = λ m i. absurd (cc);
  waits = λ c w. absurd (cc);
}

opening_stands : (p : Program) → WellFormed p → AllStand p (opening p)
opening_stands p wf q = elim (cases_eq q 1) [
  | inl e ↦ rw (eq-eqb q 1 e) (made_one p (first_table (most_of p.version)) q (main_process p) main (fresh p q))
  | inr ne ↦ rw (ne_eqb q 1 ne) (fresh p q)
]
  where
    stands : StandsOn (wf.main).role []
    stands = rw wf.is_main refl

    main : Keeps p [] (main_process p)
    main = begun p (opening_frame p (length p.procedures - 1) []) []
        (opened p wf (length p.procedures - 1) wf.main [] [] wf.is_last stands tt) tt

pub all_stand : (p : Program) → WellFormed p → (actions : List Action) (s : SourceState) → Leads p (opening p) actions s
    → AllStand p s
all_stand p wf actions s led =
    led_keeps p wf (opening p) s actions led (numbered_opening p) (opening_stands p wf)
