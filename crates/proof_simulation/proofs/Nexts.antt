-- What a process does next is a function of the state, where it is known whether others learn of it.
use Rattle.std.proofs.Common.{◌≡◌, ℕ, Bool, true, false, List, [], ◌∷◌, Option, Some, refl, ap, sym, ◌∙◌, subst}
use Rattle.std.proofs.Common.{inl, inr, ◌⊎◌}
use Rattle.std.proofs.lemmas.Bool.{false≢true}
use Rattle.std.specs.Prelude.{if◌then◌else◌}
use Rattle.words.specs.Updates.{put}
use Rattle.machine.specs.States.{State}
use Rattle.program.specs.Trees.{Program}
use Rattle.meaning.specs.Labels.{Label, Alone, Stores, Forks, FindsFull, Claims, FindsClaimed, Joins, Enters}
use Rattle.meaning.specs.Labels.{Resumes, Exits, Waits, Notifies, Broadcasts, Abandons, Ends, Kind, kind_of}
use Rattle.meaning.specs.Table.{Table, Allows, enterable}
use Rattle.meaning.specs.Processes.{Process}
use Rattle.meaning.specs.Offers.{Effect, Nothing, Makes, Offer, Rests, Does, Takes, MakesOne, ClaimsOne, JoinsOne}
use Rattle.meaning.specs.Offers.{NotifiesSome, NotifiesAll, offer, TakesUp}
use Rattle.meaning.specs.States.{SourceState}
use Rattle.meaning.specs.Runs.{IsStep, Leads}
use Rattle.meaning.specs.Values.{Variables}
use Rattle.meaning.proofs.Offered.{IsPlain, plain}
use Rattle.meaning.proofs.Unique.{step_once}
use Rattle.proof_commutation.specs.Deferring.{is_internal, IsBehind, LeadsDeferredAt}
use Rattle.proof_commutation.specs.Placed.{actions_of}
use Rattle.proof_commutation.proofs.Deferred.{First, at_first}
use Rattle.proof_commutation.proofs.Behind as D
use Rattle.words.proofs.Updates.{put_same}
use Rattle.proof_simulation.specs.Next.{NextAction, internal_next, visible_next, is_abandoned, entered_monitor}
use Rattle.proof_simulation.specs.Next.{joins_next}
use Rattle.proof_simulation.specs.Next.{table_after, after_next, offer_of_process, next_visible, take_deferred}
use Rattle.proof_simulation.specs.Ordering.{act, state_after, awake_waiters, Resumes as Resumes'}
use Rattle.proof_simulation.specs.Tracking.{CanTake}
use Rattle.proof_simulation.proofs.Local.{put_again}
use Rattle.proof_simulation.proofs.Sourcing.{action}
use Rattle.proof_simulation.proofs.Worlds.{put_put}

-- a label that is quiet is none that isn't
not_both : {A : Type 0} (label other : Label) → label ≡ other → is_internal label ≡ true → is_internal other ≡ false → A
not_both label other same internal visible = absurd (false≢true (sym visible ∙ ap is_internal (sym same) ∙ internal))

deed : Label → Effect → Process → Option NextAction
deed l e q = Some (record { label = l; effect = e; after = q })

same_deed : (l l' : Label) (e e' : Effect) (q q' : Process) → l ≡ l' → e ≡ e' → q ≡ q' → deed l' e' q' ≡ deed l e q
unfolding deed
same_deed l l' e e' q q' a b c = cc

not_internal : (k : Bool → Label) (m : ℕ) (b : Bool) → (k ≡ Enters m) ⊎ (k ≡ Resumes m) → is_internal (k b) ≡ false
not_internal k m b (inl e) = ap (λ (l : Bool → Label). is_internal (l b)) e
not_internal k m b (inr e) = ap (λ (l : Bool → Label). is_internal (l b)) e

internal_taken : (o : Offer) (l : Label) (e : Effect) (q : Process) → IsPlain o → TakesUp o l e q → is_internal l ≡ true
    → internal_next o ≡ Some (record { label = l; effect = e; after = q })
unfolding deed
internal_taken Rests l e q is t internal = absurd t
internal_taken (Does k f r) l e q is t internal = same_deed l k e f q r t.0 t.1 t.2
internal_taken (Takes k f r) l e q is t internal = not_both l (k t.0) t.1 internal (not_internal k is.0 t.0 is.1)
internal_taken (MakesOne c k r) l e q is (inl t) internal = not_both l (Forks t.0) t.1 internal refl
internal_taken (MakesOne c k r) l e q is (inr t) internal = same_deed l FindsFull e Nothing q r t.0 t.1 t.2
internal_taken (ClaimsOne c k r) l e q is (inl t) internal = not_both l (Claims c) t.0 internal refl
internal_taken (ClaimsOne c k r) l e q is (inr t) internal = same_deed l (FindsClaimed c) e Nothing q r t.0 t.1 t.2
internal_taken (JoinsOne c k) l e q is t internal = not_both l (Joins c t.0) t.1 internal refl
internal_taken (NotifiesSome c k) l e q is t internal = not_both l (Notifies c t.0) t.1 internal refl
internal_taken (NotifiesAll c k) l e q is t internal = not_both l (Broadcasts c t.0) t.1 internal refl

abandoned_so : (b : Bool) → is_abandoned (enterable b) ≡ b
abandoned_so true = refl
abandoned_so false = refl

-- the monitor is entered as the table has it
taken_so : (t : ℕ) (k : Bool → Label) (m : ℕ) (b : Bool) (T T' : Table) → (k ≡ Enters m) ⊎ (k ≡ Resumes m)
    → Allows t (k b) T T' → is_abandoned (T.hold (entered_monitor (k false))) ≡ b
taken_so t k m b T T' (inl e) allows =
    let h = subst (λ (l : Bool → Label). Allows t (l b) T T') e allows in
    ap (λ (l : Bool → Label). is_abandoned (T.hold (entered_monitor (l false)))) e ∙ ap is_abandoned h.0
    ∙ abandoned_so b
taken_so t k m b T T' (inr e) allows =
    let h = subst (λ (l : Bool → Label). Allows t (l b) T T') e allows in
    ap (λ (l : Bool → Label). is_abandoned (T.hold (entered_monitor (l false)))) e ∙ ap is_abandoned h.1
    ∙ abandoned_so b

module _ (p : Program) (s : State) (t : ℕ) (T T' : Table) where
  visible_taken : (o : Offer) (l : Label) (e : Effect) (q : Process) → IsPlain o → TakesUp o l e q → Allows t l T T'
      → is_internal l ≡ false → Resumes' p s T l → visible_next p s T o
      ≡ Some (record { label = l; effect = e; after = q })
  unfolding deed
  visible_taken Rests l e q is h allows visible who = absurd h
  visible_taken (Does k f r) l e q is h allows visible who = same_deed l k e f q r h.0 h.1 h.2
  visible_taken (Takes k free abandoned) l e q is h allows visible who =
      let b = taken_so t k is.0 h.0 T T' is.1 (subst (λ i. Allows t i T T') h.1 allows) in
      ap (λ (w : Bool). deed (k w) Nothing (if w then abandoned else free)) b
      ∙ same_deed l (k h.0) e Nothing q (if h.0 then abandoned else free) h.1 h.2 h.3
  visible_taken (MakesOne c k r) l e q is (inl h) allows visible who =
      let here = subst (λ i. Allows t i T T') h.1 allows in
      ap (λ n. deed (Forks n) (Makes n c) (k n)) (sym here.1)
      ∙ same_deed l (Forks h.0) e (Makes h.0 c) q (k h.0) h.1 h.2 h.3
  visible_taken (MakesOne c k r) l e q is (inr h) allows visible who =
      absurd (false≢true (sym visible ∙ ap is_internal h.0))
  visible_taken (ClaimsOne c k r) l e q is (inl h) allows visible who = same_deed l (Claims c) e Nothing q k h.0 h.1 h.2
  visible_taken (ClaimsOne c k r) l e q is (inr h) allows visible who =
      absurd (false≢true (sym visible ∙ ap is_internal h.0))
  visible_taken (JoinsOne c k) l e q is h allows visible who =
      let here = subst (λ i. Allows t i T T') h.1 allows in
      ap (joins_next c k) here.0 ∙ same_deed l (Joins c h.0) e Nothing q (k h.0) h.1 h.2 h.3
  visible_taken (NotifiesSome c k) l e q is h allows visible who =
      let here : h.0 ≡ awake_waiters p s T c = subst (λ i. Resumes' p s T i) h.1 who in
      ap (λ r. deed (Notifies c r) Nothing k) (sym here) ∙ same_deed l (Notifies c h.0) e Nothing q k h.1 h.2 h.3
  visible_taken (NotifiesAll c k) l e q is h allows visible who =
      let here : h.0 ≡ awake_waiters p s T c = subst (λ i. Resumes' p s T i) h.1 who in
      ap (λ r. deed (Broadcasts c r) Nothing k) (sym here) ∙ same_deed l (Broadcasts c h.0) e Nothing q k h.1 h.2 h.3

-- the table behind an action is determined
table_so : (t : ℕ) (l : Label) (T T' : Table) → Allows t l T T' → T' ≡ table_after t l T
table_so t (Alone kind) T T' h = h
table_so t (Stores m) T T' h = h
table_so t (Forks child) T T' h = h.2
table_so t FindsFull T T' h = h.1
table_so t (Claims child) T T' h = h.1
table_so t (FindsClaimed child) T T' h = h.1
table_so t (Joins child end) T T' h = h.1
table_so t (Enters m b) T T' h = h.1
table_so t (Resumes m b) T T' h = h.2
table_so t (Exits m) T T' h = h
table_so t (Waits c) T T' h = h
table_so t (Notifies c resumed) T T' h = h.1
table_so t (Broadcasts c resumed) T T' h = h.1
table_so t (Abandons m) T T' h = h
table_so t (Ends end) T T' h = h

module _ (p : Program) (a : SourceState) (t : ℕ) (label : Label) (can : CanTake p a t label) where
  offered_so : offer_of_process p a.variable (a.process t) ≡ offer p a.variable can.before
  offered_so = ap (offer_of_process p a.variable) can.stands

  abbrev next : NextAction
  next = record { label = label; effect = can.effect; after = can.after }

  leads_so : after_next t (Some next) a ≡ state_after a t can.effect can.after can.table
  leads_so = ap (state_after a t can.effect can.after) (sym (table_so t label a.table can.table can.allows))

  -- a quiet action that is possible is the next quiet one, and leads there
  pub internal_so : is_internal label ≡ true
      → after_next t (internal_next (offer_of_process p a.variable (a.process t))) a ≡ state_after a t can.effect
      can.after can.table
  internal_so internal = ap (λ o. after_next t o a) (ap internal_next offered_so
      ∙ internal_taken (offer p a.variable can.before) label can.effect can.after
      (plain p a.variable can.before) can.takes
      internal) ∙ leads_so

  module _ (s : State) (visible : is_internal label ≡ false) (who : Resumes' p s a.table label) where
    -- and one that others learn of is the next of them
    pub visible_is : next_visible p s t a ≡ Some next
    visible_is = ap (visible_next p s a.table) offered_so
        ∙ visible_taken p s t a.table can.table (offer p a.variable can.before) label can.effect can.after
        (plain p a.variable can.before) can.takes can.allows visible who

    pub visible_so : after_next t (next_visible p s t a) a ≡ state_after a t can.effect can.after can.table
    visible_so = ap (λ o. after_next t o a) visible_is ∙ leads_so

module _ (p : Program) (t : ℕ) where
  -- the first action that waits is the next quiet one, and waits no longer behind it
  pub catches_up_behind : (deferred : ℕ → List Kind) (a c : SourceState) (k : Kind) (ks : List Kind)
      → IsBehind p deferred a c
      → deferred t ≡ k ∷ ks
      → (label : Label) × (k ≡ kind_of label) × (is_internal label ≡ true) × CanTake p a t label
      × IsStep p a (act t k) (after_next t (internal_next (offer_of_process p a.variable (a.process t))) a)
      × IsBehind p (put deferred t ks) (after_next t (internal_next (offer_of_process p a.variable (a.process t))) a) c
  catches_up_behind deferred a c k ks behind mine =
      let f : First p t c.variable c.table k ks (a.process t) (c.process t) =
      at_first p t c.variable c.table k ks (a.process t) (c.process t)
      (subst (λ l. LeadsDeferredAt p t c.variable c.table l (a.process t) (c.process t)) mine (behind.processes t)) in
      let can : CanTake p a t f.label = record {
        before = f.before;
        after = f.mid;
        effect = Nothing;
        table = a.table;
        stands = f.stands;
        takes = f.may.takes a.variable (λ m h n i. ap (λ (v : Variables). v m n i) (sym behind.variables));
        allows = subst (λ (T : Table). Allows t f.label T T) (sym behind.table) f.may.allows;
      } in
      let there = state_after a t Nothing f.mid a.table in
      let step : IsStep p a (act t k) there =
      subst (λ (i : Kind). IsStep p a (act t i) there) (sym f.named)
      (action p a t f.before f.mid f.label Nothing a.table can.stands can.takes can.allows) in
      let taken = D.takes p deferred a c t k ks behind mine in
      let is : after_next t (internal_next (offer_of_process p a.variable (a.process t))) a ≡ there =
      internal_so p a t f.label can f.may.internal in
      let same : there ≡ taken.0 = step_once p (act t k) a there taken.0 step taken.1 in (
        f.label,
        f.named,
        f.may.internal,
        can,
        subst (λ (x : SourceState). IsStep p a (act t k) x) (sym is) step,
        subst (λ (x : SourceState). IsBehind p (put deferred t ks) x c) (sym (is ∙ same)) taken.2,
      )

  -- and so with all that waits
  pub caught_up_behind : (deferred : ℕ → List Kind) (a c : SourceState) (ks : List Kind) → IsBehind p deferred a c
      → deferred t ≡ ks
      → Leads p a (actions_of t ks) (take_deferred p t ks a) × IsBehind p (put deferred t []) (take_deferred p t ks a) c
  caught_up_behind deferred a c [] behind mine =
      (refl, subst (λ (f : ℕ → List Kind). IsBehind p f a c) (put_again deferred t [] mine) behind)
  caught_up_behind deferred a c (k ∷ ks) behind mine =
      let first = catches_up_behind deferred a c k ks behind mine in
      let there = after_next t (internal_next (offer_of_process p a.variable (a.process t))) a in
      let more = caught_up_behind (put deferred t ks) there c ks first.5 (put_same deferred t ks) in (
        (there, first.4, more.0),
        subst (λ (f : ℕ → List Kind). IsBehind p f (take_deferred p t ks there) c) (put_put deferred t ks []) more.1,
      )
