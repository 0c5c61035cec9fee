-- What a process does behind an action of another, where its next action was calm, it may as well do before it.
use Rattle.std.proofs.Common.{◌≡◌, ◌≢◌, ◌⊎◌, ℕ, Bool, List, Some, refl, sym, ap, ◌∙◌}
use Rattle.std.proofs.Common.{subst, inl, inr}
use Rattle.program.specs.declared.kinds.Member.{Member}
use Rattle.program.specs.Trees.{Program}
use Rattle.program.specs.WellFormed.{WellFormed}
use Rattle.words.specs.Updates.{put}
use Rattle.meaning.specs.Labels.{Action, End, Kind, Label, Joins, Enters, Resumes, Notifies, Broadcasts}
use Rattle.meaning.specs.Table.{Table}
use Rattle.meaning.specs.Processes.{Process}
use Rattle.meaning.specs.Offers.{Effect, Offer, Rests, Does, Takes, MakesOne, ClaimsOne}
use Rattle.meaning.specs.Offers.{JoinsOne, NotifiesSome, NotifiesAll, offer, TakesUp}
use Rattle.meaning.specs.States.{SourceState, opening, variables_after, printed_after, processes_after}
use Rattle.meaning.specs.Runs.{IsAction, Leads}
use Rattle.meaning.proofs.Offered.{IsPlain, plain}
use Rattle.proof_commutation.proofs.Behind.{act}
use Rattle.proof_exploration.specs.Exploring.{IsCalm}
use Rattle.proof_exploration.proofs.Tables.{table_after, Guard, Fit, split, allowed, over_kept, end_of, end_fits}
use Rattle.proof_exploration.proofs.Tables.{notified_back, broadcast_back}
use Rattle.proof_exploration.proofs.Commuting.{fit, stands_still, offers_still}

-- two labels with which one offer can be taken up
pub data Twins : Label → Label → Type 0 where
  Same : (l : Label) → Twins l l
  JoinsBoth : (child : ℕ) (end end' : End) → Twins (Joins child end) (Joins child end')
  NotifiesBoth : (c : Member) (qs rs : List ℕ) → Twins (Notifies c qs) (Notifies c rs)
  BroadcastsBoth : (c : Member) (qs rs : List ℕ) → Twins (Broadcasts c qs) (Broadcasts c rs)

twins_of : (l k l' k' : Label) → l ≡ l' → k ≡ k' → Twins l' k' → Twins l k
twins_of l k l' k' e f is = subst (λ x. Twins x k) (sym e) (subst (λ x. Twins l' x) (sym f) is)

taken_calm : (j : Bool → Label) (m : ℕ) (w : Bool) (l : Label) → (j ≡ Enters m) ⊎ (j ≡ Resumes m) → l ≡ j w
    → IsCalm l → ⊥
taken_calm j m w l (inl e) f calm = subst IsCalm (f ∙ ap (λ g. g w) e) calm
taken_calm j m w l (inr e) f calm = subst IsCalm (f ∙ ap (λ g. g w) e) calm

twins : (o : Offer) (l k : Label) (e f : Effect) (q r : Process) → IsPlain o → IsCalm l → TakesUp o l e q
    → TakesUp o k f r → Twins l k
twins Rests l k e f q r is calm a b = absurd a
twins (Does j g s) l k e f q r is calm a b = twins_of l k j j a.0 b.0 (Same j)
twins (Takes j free abandoned) l k e f q r is calm a b = absurd (taken_calm j is.0 a.0 l is.1 a.1 calm)
twins (MakesOne c s full) l k e f q r is calm (inl a) b = absurd (subst IsCalm a.1 calm)
twins (MakesOne c s full) l k e f q r is calm (inr a) b = absurd (subst IsCalm a.0 calm)
twins (ClaimsOne c s refused) l k e f q r is calm (inl a) b = absurd (subst IsCalm a.0 calm)
twins (ClaimsOne c s refused) l k e f q r is calm (inr a) b = absurd (subst IsCalm a.0 calm)
twins (JoinsOne c s) l k e f q r is calm a b =
    twins_of l k (Joins c a.0) (Joins c b.0) a.1 b.1 (JoinsBoth c a.0 b.0)
twins (NotifiesSome c s) l k e f q r is calm a b =
    twins_of l k (Notifies c a.0) (Notifies c b.0) a.1 b.1 (NotifiesBoth c a.0 b.0)
twins (NotifiesAll c s) l k e f q r is calm a b =
    twins_of l k (Broadcasts c a.0) (Broadcasts c b.0) a.1 b.1 (BroadcastsBoth c a.0 b.0)

calm_twins : (l k : Label) → Twins l k → IsCalm l → IsCalm k
calm_twins l k (Same j) calm = calm
calm_twins l k (JoinsBoth child end end') calm = tt
calm_twins l k (NotifiesBoth c qs rs) calm = tt
calm_twins l k (BroadcastsBoth c qs rs) calm = tt

-- what the second label needs it has before the other's action too
guard_back : (t u : ℕ) (l k j : Label) (T : Table) → Twins l k → t ≢ u → Guard t l T → Fit t l T → Guard u j T
    → Fit u j T → Guard t k (table_after u j T) → Guard t k T
guard_back t u l k j T (Same i) o g f h e is = g
guard_back t u l k j T (JoinsBoth child end end') o g f h e is =
    g ∙ sym (over_kept u child (end_of j) T.over end (end_fits u j T e) g) ∙ is
guard_back t u l k j T (NotifiesBoth c qs rs) o g f h e is = notified_back t u c rs j T o f h e is
guard_back t u l k j T (BroadcastsBoth c qs rs) o g f h e is = broadcast_back t u c rs j T o f h e is

module _ (p : Program) (wf : WellFormed p) (done : List Action) (s : SourceState)
    (run : Leads p (opening p) done s) (t u : ℕ) (k k' j : Kind) (s1 s2 s3 : SourceState)
    (x : IsAction p s (act t k) s1) (y : IsAction p s (act u j) s2) (z : IsAction p s2 (act t k') s3)
    (o : t ≢ u) (calm : IsCalm x.label) where
  pub before : x.before ≡ z.before
  before = let e : Some x.before ≡ Some z.before =
      sym (stands_still p wf done s run t u k j s1 s2 x y o) ∙ z.stands in cc

  pub acts : TakesUp (offer p s.variable x.before) z.label z.effect z.after
  acts = subst (λ f. TakesUp f z.label z.effect z.after)
      (sym (offers_still p wf done s run t u k j s1 s2 x y o))
      (subst (λ b. TakesUp (offer p s2.variable b) z.label z.effect z.after) (sym before) z.acts)

  pub both : Twins x.label z.label
  both = twins (offer p s.variable x.before) x.label z.label x.effect z.effect x.after z.after
      (plain p s.variable x.before) calm x.acts acts

  pub calm_too : IsCalm z.label
  calm_too = calm_twins x.label z.label both calm

  abbrev pub sooner : SourceState
  sooner = record {
    table = table_after t z.label s.table;
    variable = variables_after z.effect s.variable;
    process = put (processes_after z.effect s.process) t (Some z.after);
    printed = printed_after z.effect s.printed;
  }

  pub guard : Guard t z.label s.table
  guard = guard_back t u x.label z.label y.label s.table both o
      (split t x.label s.table s1.table x.allows).0 (fit p wf done s run (act t k) s1 x)
      (split u y.label s.table s2.table y.allows).0 (fit p wf done s run (act u j) s2 y)
      (subst (λ T. Guard t z.label T) (split u y.label s.table s2.table y.allows).1
      (split t z.label s2.table s3.table z.allows).0)

  unfoldable pub goes_sooner : IsAction p s (act t k') sooner
  goes_sooner = record {
    before = x.before;
    after = z.after;
    label = z.label;
    effect = z.effect;
    stands = x.stands;
    acts = acts;
    named = z.named;
    allows = allowed t z.label s.table guard;
    variables = refl;
    printed = refl;
    processes = refl;
  }

-- where one next action of a process is calm, each is
pub calm_both : (p : Program) (s : SourceState) (t : ℕ) (k k' : Kind) (s1 s2 : SourceState)
    (x : IsAction p s (act t k) s1) (y : IsAction p s (act t k') s2) → IsCalm x.label → IsCalm y.label
calm_both p s t k k' s1 s2 x y calm =
    let same : Some x.before ≡ Some y.before = sym x.stands ∙ y.stands in
    let before : x.before ≡ y.before = cc in
    calm_twins x.label y.label
    (twins (offer p s.variable x.before) x.label y.label x.effect y.effect x.after y.after
    (plain p s.variable x.before) calm x.acts
    (subst (λ b. TakesUp (offer p s.variable b) y.label y.effect y.after) (sym before) y.acts)) calm
