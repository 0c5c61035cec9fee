-- A calm action of a process and an action of another commute, but for what they print.
use Rattle.std.proofs.Common.{◌≡◌, ◌≢◌, ℕ, ◌+◌, ℤ, Bool, List, Option, Some}
use Rattle.std.proofs.Common.{None, refl, sym, ap, ◌∙◌, subst, inl, inr, arith}
use Rattle.std.proofs.lemmas.Bool.{cases_eq, ne_eqb}
use Rattle.words.specs.Updates.{put}
use Rattle.program.specs.declared.kinds.Member.{Member}
use Rattle.program.specs.Trees.{Program}
use Rattle.program.specs.WellFormed.{WellFormed}
use Rattle.meaning.specs.Values.{Variables, with_variable}
use Rattle.meaning.specs.Labels.{Action, End, Kind, Label, Alone, Stores, Forks, FindsFull, Claims, FindsClaimed, Joins}
use Rattle.meaning.specs.Labels.{Enters, Resumes, Exits, Waits, Notifies, Broadcasts, Abandons, Ends}
use Rattle.meaning.specs.Table.{Table, HeldBy}
use Rattle.meaning.specs.Processes.{Process}
use Rattle.meaning.specs.Processes.{Over, holds}
use Rattle.meaning.specs.Offers.{Effect, Nothing, Puts, Writes, Makes}
use Rattle.meaning.specs.Offers.{offer, TakesUp}
use Rattle.meaning.specs.States.{SourceState, opening, variables_after, printed_after, processes_after}
use Rattle.meaning.specs.Runs.{IsAction, Leads}
use Rattle.meaning.proofs.Offered.{plain}
use Rattle.meaning.proofs.Ends.{numbered, MakesOnlyForking, made_by, quiet_processes}
use Rattle.meaning.proofs.Members.{IsIn}
use Rattle.meaning.proofs.Discipline.{Moves, change_of, LabelFits, EffectFits, ActFits}
use Rattle.meaning.proofs.Keeping.{Stands}
use Rattle.meaning.proofs.Holding.{resumes_only, acted, acting, all_stand}
use Rattle.meaning.proofs.Holders.{changes}
use Rattle.proof_commutation.proofs.Behind.{act, made_next}
use Rattle.proof_commutation.proofs.Following.{step_keeps}
use Rattle.proof_exploration.specs.Exploring.{IsLike, IsCalm}
use Rattle.proof_exploration.proofs.Tables.{table_after, Guard, Fit, split, allowed, put_swap, table_swap}
use Rattle.proof_exploration.proofs.Tables.{calm_stays, stays_calm}
use Rattle.proof_exploration.proofs.Locality.{offer_same}
use Rattle.proof_exploration.proofs.Ending.{knows_over}

fit_of : (q : ℕ) (hs ks : List ℕ) (l : Label) (b : Process) (T : Table)
    → ((m : ℕ) → IsIn hs m → T.hold m ≡ HeldBy q)
    → Moves (change_of l) hs ks → LabelFits hs l b
    → ((c : Member) → l ≡ Waits c → T.waits q ≡ None)
    → ((end : End) → l ≡ Ends end → T.over q ≡ None) → Fit q l T
fit_of q hs ks (Exits m) b T held moves fits none ends = held m moves.0
fit_of q hs ks (Waits c) b T held moves fits none ends = (held c.monitor moves.0, none c refl)
fit_of q hs ks (Notifies c resumed) b T held moves fits none ends = held c.monitor fits
fit_of q hs ks (Broadcasts c resumed) b T held moves fits none ends = held c.monitor fits
fit_of q hs ks (Abandons m) b T held moves fits none ends = held m moves.0
fit_of q hs ks (Ends end) b T held moves fits none ends = ends end refl
fit_of q hs ks (Alone kind) b T held moves fits none ends = tt
fit_of q hs ks (Stores m) b T held moves fits none ends = tt
fit_of q hs ks (Forks child) b T held moves fits none ends = tt
fit_of q hs ks FindsFull b T held moves fits none ends = tt
fit_of q hs ks (Claims child) b T held moves fits none ends = tt
fit_of q hs ks (FindsClaimed child) b T held moves fits none ends = tt
fit_of q hs ks (Joins child end) b T held moves fits none ends = tt
fit_of q hs ks (Enters m w) b T held moves fits none ends = tt
fit_of q hs ks (Resumes m w) b T held moves fits none ends = tt

-- variables of two monitors are written in either order
with_swap : (v : Variables) (m n i : ℕ) (z : ℤ) (m' n' i' : ℕ) (z' : ℤ) (a b c : ℕ) → m ≢ m'
    → with_variable (with_variable v m n i z) m' n' i' z' a b c
    ≡ with_variable (with_variable v m' n' i' z') m n i z a b c
with_swap v m n i z m' n' i' z' a b c o = elim (cases_eq a m) [
  | inl e ↦ rw (ne_eqb a m' (λ x. o (sym e ∙ x))) refl
  | inr other ↦ rw (ne_eqb a m other) refl
]

variables_swap : (e f : Effect) (v : Variables)
    → ((m m' n n' i i' : ℕ) (z z' : ℤ) → e ≡ Puts m n i z → f ≡ Puts m' n' i' z' → m ≢ m')
    → variables_after f (variables_after e v) ≡ variables_after e (variables_after f v)
variables_swap (Puts m n i z) (Puts m' n' i' z') v o =
    λ j a b c. with_swap v m n i z m' n' i' z' a b c (o m m' n n' i i' z z' refl refl) j
variables_swap (Puts m n i z) Nothing v o = refl
variables_swap (Puts m n i z) (Writes y) v o = refl
variables_swap (Puts m n i z) (Makes c q) v o = refl
variables_swap Nothing f v o = refl
variables_swap (Writes y) f v o = refl
variables_swap (Makes c q) f v o = refl

-- a process that is made is another one
processes_swap : (f : Effect) (P : ℕ → Option Process) (t : ℕ) (b : Option Process)
    → ((child : ℕ) (q : Process) → f ≡ Makes child q → t ≢ child) → (k : ℕ)
    → processes_after f (put P t b) k ≡ put (processes_after f P) t b k
processes_swap Nothing P t b o k = refl
processes_swap (Puts m n i z) P t b o k = refl
processes_swap (Writes y) P t b o k = refl
processes_swap (Makes child q) P t b o k = put_swap P t child b (Some q) k (o child q refl)

calm_forks : (l : Label) (n : ℕ) → IsCalm l → l ≡ Forks n → ⊥
calm_forks l n calm e = subst IsCalm e calm

some_none : (q : Process) → Some q ≡ None → ⊥
some_none q e = absurd (cc)

module _ (p : Program) (wf : WellFormed p) (done : List Action) (s : SourceState)
    (run : Leads p (opening p) done s) where
  stand : (a : Action) (s' : SourceState) (x : IsAction p s a s') → Stands p s.table a.process (Some x.before)
  stand a s' x = acting p s a s' x (all_stand p wf done s run)

  pub fits : (a : Action) (s' : SourceState) (x : IsAction p s a s')
      → ActFits p (holds x.before) x.label x.effect x.after
  fits a s' x = acted p wf s a s' x (stand a s' x)

  pub fit : (a : Action) (s' : SourceState) (x : IsAction p s a s') → Fit a.process x.label s.table
  fit a s' x = fit_of a.process (holds x.before) (holds x.after) x.label x.after s.table (stand a s' x).held
      (fits a s' x).moves (fits a s' x).label
      (λ c e. unwaiting c e (s.table.waits a.process) refl)
      (λ end e. unended end e (s.table.over a.process) refl)
    where
      unwaiting : (c : Member) → x.label ≡ Waits c → (o : Option Member) → s.table.waits a.process ≡ o
          → s.table.waits a.process ≡ None
      unwaiting c e None is = is
      unwaiting c e (Some d) is =
          let r : (m : ℕ) × (w : Bool) × (x.label ≡ Resumes m w) =
          resumes_only p s.variable x.before d x.label x.effect x.after ((stand a s' x).waits d is) x.acts in
          absurd (let differ : Waits c ≡ Resumes r.0 r.1 = sym e ∙ r.2 in cc)

      unended : (end : End) → x.label ≡ Ends end → (o : Option End) → s.table.over a.process ≡ o
          → s.table.over a.process ≡ None
      unended end e None is = is
      unended end e (Some f) is =
          let over : Some x.before ≡ Some (Over f) = sym x.stands ∙ knows_over p done s run a.process f is in
          let b : x.before ≡ Over f = cc in
          absurd (subst (λ q. TakesUp (offer p s.variable q) x.label x.effect x.after) b x.acts)

  -- a process stands and offers the same behind an action of another
  module _ (t u : ℕ) (k j : Kind) (s1 s2 : SourceState) (x : IsAction p s (act t k) s1) (y : IsAction p s (act u j) s2)
      (o : t ≢ u) where
    made : t ≢ s.table.made + 1
    made e = some_none x.before (sym x.stands ∙ ap s.process e
        ∙ numbered p s done run (s.table.made + 1) (omega arith))

    pub stands_still : s2.process t ≡ Some x.before
    stands_still = step_keeps p s s2 u j t (inl y) o made ∙ x.stands

    pub offers_still : offer p s.variable x.before ≡ offer p s2.variable x.before
    offers_still = offer_same p s.variable s2.variable x.before (stand (act t k) s1 x).fits
        (λ m within n i. sym (changes p wf done s run (act u j) s2 m n i (inl y)
        (λ held. apart m ((stand (act t k) s1 x).held m within) held)))
      where
        apart : (m : ℕ) → s.table.hold m ≡ HeldBy t → s.table.hold m ≡ HeldBy u → ⊥
        apart m a b = let e : HeldBy t ≡ HeldBy u = sym a ∙ b in let same : t ≡ u = cc in o same

    -- the same action, behind the other
    abbrev pub behind : SourceState
    behind = record {
      table = table_after t x.label s2.table;
      variable = variables_after x.effect s2.variable;
      process = put (processes_after x.effect s2.process) t (Some x.after);
      printed = printed_after x.effect s2.printed;
    }

    unfoldable pub carried : Guard t x.label s2.table → IsAction p s2 (act t k) behind
    carried g = record {
      before = x.before;
      after = x.after;
      label = x.label;
      effect = x.effect;
      stands = stands_still;
      acts = subst (λ f. TakesUp f x.label x.effect x.after) offers_still x.acts;
      named = x.named;
      allows = allowed t x.label s2.table g;
      variables = refl;
      printed = refl;
      processes = refl;
    }

  -- the two orders lead to states that are alike
  module _ (t u : ℕ) (k j : Kind) (s1 s2 : SourceState) (x : IsAction p s (act t k) s1) (y : IsAction p s (act u j) s2)
      (o : t ≢ u) (calm : IsCalm x.label) where
    pub first : Guard t x.label s.table × (s1.table ≡ table_after t x.label s.table)
    first = split t x.label s.table s1.table x.allows

    pub second : Guard u y.label s.table × (s2.table ≡ table_after u y.label s.table)
    second = split u y.label s.table s2.table y.allows

    pub fx : Fit t x.label s.table
    fx = fit (act t k) s1 x

    pub fy : Fit u y.label s.table
    fy = fit (act u j) s2 y

    unfoldable pub goes_after : IsAction p s2 (act t k) (behind t u k j s1 s2 x y o)
    goes_after = carried t u k j s1 s2 x y o (subst (λ T. Guard t x.label T) (sym second.1)
        (calm_stays t u x.label y.label s.table o calm first.0 fx second.0 fy))

    unfoldable pub other_after : IsAction p s1 (act u j) (behind u t j k s2 s1 y x (λ e. o (sym e)))
    other_after = carried u t j k s2 s1 y x (λ e. o (sym e)) (subst (λ T. Guard u y.label T) (sym first.1)
        (stays_calm t u x.label y.label s.table o calm first.0 fx second.0 fy))

    internal : (P : ℕ → Option Process) → processes_after x.effect P ≡ P
    internal P = by_label (made_by (offer p s.variable x.before) x.label x.effect x.after
        (plain p s.variable x.before) x.acts)
      where
        by_label : MakesOnlyForking x.label x.effect → processes_after x.effect P ≡ P
        by_label (inl q) = quiet_processes x.effect P q
        by_label (inr f) = absurd (calm_forks x.label f.0 calm f.2)

    child_apart : (child : ℕ) (q : Process) → y.effect ≡ Makes child q → t ≢ child
    child_apart child q e same =
        made t u k j s1 s2 x y o (same ∙ made_next u (offer p s.variable y.before) y.label child q y.after s.table
        s2.table (plain p s.variable y.before)
        (subst (λ f. TakesUp (offer p s.variable y.before) y.label f y.after) e y.acts) y.allows)

    monitors_apart : (m m' n n' i i' : ℕ) (z z' : ℤ) → x.effect ≡ Puts m n i z → y.effect ≡ Puts m' n' i' z' → m ≢ m'
    monitors_apart m m' n n' i i' z z' e f same =
        let a : s.table.hold m ≡ HeldBy t = (stand (act t k) s1 x).held m
        (subst (λ g. EffectFits p (holds x.before) g) e (fits (act t k) s1 x).effect) in
        let b : s.table.hold m' ≡ HeldBy u = (stand (act u j) s2 y).held m'
        (subst (λ g. EffectFits p (holds y.before) g) f (fits (act u j) s2 y).effect) in
        let both : HeldBy t ≡ HeldBy u = sym a ∙ ap s.table.hold same ∙ b in
        let one : t ≡ u = cc in
        o one

    pub alike : IsLike (behind u t j k s2 s1 y x (λ e. o (sym e))) (behind t u k j s1 s2 x y o)
    alike = record {
      table = ap (table_after u y.label) first.1
          ∙ table_swap t u x.label y.label s.table o calm first.0 fx second.0 fy
          ∙ sym (ap (table_after t x.label) second.1);
      variable = ap (variables_after y.effect) x.variables
          ∙ variables_swap x.effect y.effect s.variable monitors_apart
          ∙ sym (ap (variables_after x.effect) y.variables);
      process = λ i q. at q i;
    }
      where
        X : Option Process
        X = Some x.after

        Y : Option Process
        Y = Some y.after

        left : s1.process ≡ put s.process t X
        left = x.processes ∙ ap (λ P. put P t X) (internal s.process)

        right : processes_after x.effect s2.process ≡ put (processes_after y.effect s.process) u Y
        right = internal s2.process ∙ y.processes

        inner : processes_after y.effect (put s.process t X) ≡ put (processes_after y.effect s.process) t X
        inner = λ i q. processes_swap y.effect s.process t X child_apart q i

        at : (q : ℕ) → put (processes_after y.effect s1.process) u Y q ≡ put (processes_after x.effect s2.process) t X q
        at q = ap (λ P. put (processes_after y.effect P) u Y q) left
            ∙ ap (λ P. put P u Y q) inner
            ∙ put_swap (processes_after y.effect s.process) t u X Y q o
            ∙ sym (ap (λ P. put P t X q) right)
