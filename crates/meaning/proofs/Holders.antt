-- Who holds a monitor, who changes its variables, and who waits on its conditions.
use Rattle.std.proofs.Common.{◌≡◌, ℕ, List, Option, Some, None, Contains, refl, sym, ap, ◌∙◌, inl, inr, subst}
use Rattle.std.proofs.lemmas.Bool.{ne_eqb}
use Rattle.program.specs.declared.kinds.Member.{Member}
use Rattle.program.specs.Trees.{Program}
use Rattle.program.specs.WellFormed.{WellFormed}
use Rattle.meaning.specs.Values.{Variables}
use Rattle.meaning.specs.Labels.{Kind, Notify, Broadcast, kind_of, Label, Alone, Stores, Forks, FindsFull, Claims}
use Rattle.meaning.specs.Labels.{FindsClaimed, Joins, Enters, Resumes, Exits, Waits, Notifies, Broadcasts, Abandons}
use Rattle.meaning.specs.Labels.{Ends, Action}
use Rattle.meaning.specs.Table.{HeldBy}
use Rattle.meaning.specs.Processes.{Process, Entering, Before, Suspended, Joining, Returning, Failing, Dying, Leaving}
use Rattle.meaning.specs.Processes.{Over, holds, all_monitors}
use Rattle.meaning.specs.Offers.{Effect, Nothing, Puts, Writes, Makes}
use Rattle.meaning.specs.States.{SourceState, opening, variables_after}
use Rattle.meaning.specs.Runs.{IsAction, IsStep, Leads}
use Rattle.meaning.proofs.Members.{IsIn, in_contained, contained_in, in_with}
use Rattle.meaning.proofs.Discipline.{WaitsAt, EffectFits, IsSilent, LabelFits}
use Rattle.meaning.proofs.Keeping.{Stands}
use Rattle.meaning.proofs.Holding.{acted, acting, all_stand}

module _ (p : Program) (wf : WellFormed p) (actions : List Action) (s : SourceState)
    (led : Leads p (opening p) actions s) where
  at_hand : (q : ℕ) (b : Process) → s.process q ≡ Some b → Stands p s.table q (Some b)
  at_hand q b is = subst (λ (o : Option Process). Stands p s.table q o) is (all_stand p wf actions s led q)

  pub held : (q m : ℕ) (b : Process) → s.process q ≡ Some b → Contains (holds b) m → s.table.hold m ≡ HeldBy q
  held q m b is within = (at_hand q b is).held m (in_contained (holds b) m within)

  pub holder : (q m : ℕ) → s.table.hold m ≡ HeldBy q → (b : Process) × (s.process q ≡ Some b) × Contains (holds b) m
  holder q m is = found (s.process q) refl (all_stand p wf actions s led q)
    where
      found : (o : Option Process) → s.process q ≡ o → Stands p s.table q o
          → (b : Process) × (s.process q ≡ Some b) × Contains (holds b) m
      found None e stands = absurd (stands.holder m is)
      found (Some b) e stands = (b, e, contained_in (holds b) m (stands.holder m is))

  pub one : (q r m : ℕ) (b d : Process) → s.process q ≡ Some b → s.process r ≡ Some d → Contains (holds b) m
      → Contains (holds d) m → q ≡ r
  one q r m b d is also x y =
      let two : HeldBy q ≡ HeldBy r = sym (held q m b is x) ∙ held r m d also y in
      cc

  waits_apart : (c : Member) (b : Process) → WaitsAt c b → IsIn (holds b) c.monitor → ⊥
  waits_apart c (Suspended d f cs) is i =
      (in_with d.monitor (all_monitors f cs) c.monitor i).0 (ap (λ (k : Member). k.monitor) (sym is))
  waits_apart c (Entering m f cs) is i = absurd is
  waits_apart c (Before entered f cs) is i = absurd is
  waits_apart c (Joining child into part f cs) is i = absurd is
  waits_apart c (Returning z cs) is i = absurd is
  waits_apart c (Failing fault entered f cs) is i = absurd is
  waits_apart c (Dying cause ms) is i = absurd is
  waits_apart c (Leaving z) is i = absurd is
  waits_apart c (Over end) is i = absurd is

  pub waits : (q : ℕ) (c : Member) → s.table.waits q ≡ Some c → s.table.hold c.monitor ≡ HeldBy q → ⊥
  waits q c w h = apart (s.process q) (all_stand p wf actions s led q)
    where
      apart : (o : Option Process) → Stands p s.table q o → ⊥
      apart None stands = absurd (stands.waits c w)
      apart (Some b) stands = waits_apart c b (stands.waits c w) (stands.holder c.monitor h)

  pub changes : (a : Action) (s' : SourceState) (m n i : ℕ) → IsStep p s a s' → (s.table.hold m ≡ HeldBy a.process → ⊥)
      → s'.variable m n i ≡ s.variable m n i
  changes a s' m n i (inl x) apart =
      let stands : Stands p s.table a.process (Some x.before) =
      acting p s a s' x (all_stand p wf actions s led) in
      ap (λ (v : Variables). v m n i) x.variables
      ∙ effect x.effect (acted p wf s a s' x stands).effect stands.held
    where
      effect : (e : Effect) → EffectFits p (holds x.before) e
          → ((k : ℕ) → IsIn (holds x.before) k → s.table.hold k ≡ HeldBy a.process)
          → variables_after e s.variable m n i ≡ s.variable m n i
      effect Nothing fits own = refl
      effect (Writes z) fits own = refl
      effect (Makes c q) fits own = refl
      effect (Puts k member index z) fits own =
          let ne : m ≡ k → ⊥ = λ e. apart (ap s.table.hold e ∙ own k fits) in
          rw (ne_eqb m k ne) refl
  changes a s' m n i (inr (inl x)) apart = ap (λ (v : Variables). v m n i) x.2.variables
  changes a s' m n i (inr (inr x)) apart = ap (λ (v : Variables). v m n i) x.3.variables

  -- the label of an action that is named so
  notify_label : (hs : List ℕ) (l : Label) (b : Process) (c : Member) (resumed : List ℕ) → Notify c resumed ≡ kind_of l
      → LabelFits hs l b → IsIn hs c.monitor
  notify_label hs (Notifies d others) b c resumed e fits =
      let same : d ≡ c = cc in subst (λ (k : Member). IsIn hs k.monitor) same fits
  notify_label hs (Alone kind) b c resumed e fits = absurd (subst (λ (k : Kind). IsSilent k) (sym e) fits)
  notify_label hs (Stores m) b c resumed e fits = absurd (cc)
  notify_label hs (Forks child) b c resumed e fits = absurd (cc)
  notify_label hs FindsFull b c resumed e fits = absurd (cc)
  notify_label hs (Claims child) b c resumed e fits = absurd (cc)
  notify_label hs (FindsClaimed child) b c resumed e fits = absurd (cc)
  notify_label hs (Joins child end) b c resumed e fits = absurd (cc)
  notify_label hs (Enters m w) b c resumed e fits = absurd (cc)
  notify_label hs (Resumes m w) b c resumed e fits = absurd (cc)
  notify_label hs (Exits m) b c resumed e fits = absurd (cc)
  notify_label hs (Waits d) b c resumed e fits = absurd (cc)
  notify_label hs (Broadcasts d others) b c resumed e fits = absurd (cc)
  notify_label hs (Abandons m) b c resumed e fits = absurd (cc)
  notify_label hs (Ends end) b c resumed e fits = absurd (cc)

  broadcast_label : (hs : List ℕ) (l : Label) (b : Process) (c : Member) (resumed : List ℕ)
      → Broadcast c resumed ≡ kind_of l → LabelFits hs l b → IsIn hs c.monitor
  broadcast_label hs (Broadcasts d others) b c resumed e fits =
      let same : d ≡ c = cc in subst (λ (k : Member). IsIn hs k.monitor) same fits
  broadcast_label hs (Alone kind) b c resumed e fits = absurd (subst (λ (k : Kind). IsSilent k) (sym e) fits)
  broadcast_label hs (Stores m) b c resumed e fits = absurd (cc)
  broadcast_label hs (Forks child) b c resumed e fits = absurd (cc)
  broadcast_label hs FindsFull b c resumed e fits = absurd (cc)
  broadcast_label hs (Claims child) b c resumed e fits = absurd (cc)
  broadcast_label hs (FindsClaimed child) b c resumed e fits = absurd (cc)
  broadcast_label hs (Joins child end) b c resumed e fits = absurd (cc)
  broadcast_label hs (Enters m w) b c resumed e fits = absurd (cc)
  broadcast_label hs (Resumes m w) b c resumed e fits = absurd (cc)
  broadcast_label hs (Exits m) b c resumed e fits = absurd (cc)
  broadcast_label hs (Waits d) b c resumed e fits = absurd (cc)
  broadcast_label hs (Notifies d others) b c resumed e fits = absurd (cc)
  broadcast_label hs (Abandons m) b c resumed e fits = absurd (cc)
  broadcast_label hs (Ends end) b c resumed e fits = absurd (cc)

  pub notifies : (q : ℕ) (c : Member) (resumed : List ℕ) (s' : SourceState)
      → IsAction p s (record { process = q; kind = Notify c resumed }) s' → s.table.hold c.monitor ≡ HeldBy q
  notifies q c resumed s' x =
      let a : Action = record { process = q; kind = Notify c resumed } in
      let stands : Stands p s.table q (Some x.before) = acting p s a s' x (all_stand p wf actions s led) in
      stands.held c.monitor
      (notify_label (holds x.before) x.label x.after c resumed x.named (acted p wf s a s' x stands).label)

  pub broadcasts : (q : ℕ) (c : Member) (resumed : List ℕ) (s' : SourceState)
      → IsAction p s (record { process = q; kind = Broadcast c resumed }) s' → s.table.hold c.monitor ≡ HeldBy q
  broadcasts q c resumed s' x =
      let a : Action = record { process = q; kind = Broadcast c resumed } in
      let stands : Stands p s.table q (Some x.before) = acting p s a s' x (all_stand p wf actions s led) in
      stands.held c.monitor
      (broadcast_label (holds x.before) x.label x.after c resumed x.named (acted p wf s a s' x stands).label)
