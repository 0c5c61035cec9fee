-- It is enough to know what comes next after one of the states that are alike, and a search may go on to keep states.
use Rattle.std.proofs.Common.{ℕ, zero, suc, Bool, List, [], ◌∷◌, Contains, sym, subst, inl, inr}
use Rattle.program.specs.Trees.{Program}
use Rattle.meaning.specs.Labels.{Action, Kind, kind_of, Label, Alone, Stores, Forks, FindsFull, Claims}
use Rattle.meaning.specs.Labels.{FindsClaimed, Joins, Enters, Resumes, Exits, Waits, Notifies, Broadcasts, Abandons}
use Rattle.meaning.specs.Labels.{Ends}
use Rattle.meaning.specs.States.{SourceState}
use Rattle.meaning.specs.Runs.{IsAction, IsStep, Leads}
use Rattle.proof_commutation.proofs.Behind.{act}
use Rattle.proof_exploration.specs.Exploring.{IsLike, MovesCalmly, LeadsAlone, IsFromOutside, AreOwn, IsCalm}
use Rattle.proof_exploration.specs.Exploring.{awake}
use Rattle.proof_exploration.specs.Exploring.{IsCalmKind}
use Rattle.proof_exploration.specs.Searching.{IsKept, IsCovered, IsExpandedBy}
use Rattle.proof_exploration.proofs.Alike.{like_awake, like_back, like_trans, printing, like_action, like_after}

module _ (p : Program) (kept : List SourceState) where
  pub like_kept : (s r : SourceState) → IsLike s r → IsKept kept s → IsKept kept r
  like_kept s r like is = (is.0, is.1, like_trans is.0 s r is.2 like)

  like_calm : (s r : SourceState) (t : ℕ) → IsLike s r → MovesCalmly p s t → MovesCalmly p r t
  unfolding like_action
  like_calm s r t like calm = record {
    kind = calm.kind;
    after = printing p s r like (act t calm.kind) calm.after calm.moves;
    moves = like_action p s r like (act t calm.kind) calm.after calm.moves;
    calm = calm.calm;
  }

  pub like_covered : (n : ℕ) (s r : SourceState) → IsLike s r → IsCovered p kept n s → IsCovered p kept n r
  like_covered zero s r like is = like_kept s r like is
  like_covered (suc n) s r like (inl is) = inl (like_kept s r like is)
  like_covered (suc n) s r like (inr (t, calm, all)) = inr (
    t,
    like_calm s r t like calm,
    λ kind after x.
        like_covered n (printing p r s (like_back s r like) (act t kind) after x) after
        (like_back after (printing p r s (like_back s r like) (act t kind) after x)
        (like_after p r s (like_back s r like) (act t kind) after x))
        (all kind (printing p r s (like_back s r like) (act t kind) after x)
        (like_action p r s (like_back s r like) (act t kind) after x)),
  )

  pub kept_next : (strays : Bool) → ((s : SourceState) → Contains kept s → IsExpandedBy p strays kept s)
      → (s : SourceState) → IsKept kept s → IsExpandedBy p strays kept s
  kept_next strays expanded s (r, is, like) a s' x =
      let back : IsLike (awake strays a.process s) (awake strays a.process r) =
      like_awake strays a.process s r (like_back r s like) in
      let mid : SourceState = printing p (awake strays a.process s) (awake strays a.process r) back a s' x in
      let next : (n : ℕ) × IsCovered p kept n mid =
      expanded r is a mid (like_action p (awake strays a.process s) (awake strays a.process r) back a s' x) in (
        next.0,
        like_covered next.0 mid s'
            (like_back s' mid
            (like_after p (awake strays a.process s) (awake strays a.process r) back a s' x)) next.1,
      )

-- what is covered stays so when more is kept
pub grown : (p : Program) (kept more : List SourceState) → ((s : SourceState) → Contains kept s → Contains more s)
    → (n : ℕ) (s : SourceState) → IsCovered p kept n s → IsCovered p more n s
grown p kept more all zero s is = (is.0, all is.0 is.1, is.2)
grown p kept more all (suc n) s (inl is) = inl (is.0, all is.0 is.1, is.2)
grown p kept more all (suc n) s (inr (t, calm, each)) =
    inr (t, calm, λ kind after x. grown p kept more all n after (each kind after x))

-- a run in which nothing comes from outside
pub own_leads : (p : Program) (s s' : SourceState) (actions : List Action) → Leads p s actions s' → AreOwn actions
    → LeadsAlone p s actions s'
own_leads p s s' [] led own = led
own_leads p s s' (a ∷ actions) led own = (led.0, one led.1, own_leads p led.0 s' actions led.2 own.1)
  where
    one : IsStep p s a led.0 → IsAction p s a led.0
    one (inl x) = x
    one (inr (inl x)) = absurd (own.0 (subst IsFromOutside (sym x.1) tt))
    one (inr (inr x)) = absurd (own.0 (subst IsFromOutside (sym x.2) tt))

-- an action with such a name is calm
pub calm_by_kind : (l : Label) → IsCalmKind (kind_of l) → IsCalm l
calm_by_kind (Enters m w) is = absurd is
calm_by_kind (Resumes m w) is = absurd is
calm_by_kind (Forks child) is = absurd is
calm_by_kind FindsFull is = absurd is
calm_by_kind (Claims child) is = absurd is
calm_by_kind (FindsClaimed child) is = absurd is
calm_by_kind (Alone kind) is = tt
calm_by_kind (Stores m) is = tt
calm_by_kind (Joins child end) is = tt
calm_by_kind (Exits m) is = tt
calm_by_kind (Waits d) is = tt
calm_by_kind (Notifies c qs) is = tt
calm_by_kind (Broadcasts c qs) is = tt
calm_by_kind (Abandons m) is = tt
calm_by_kind (Ends end) is = tt

pub calm_named : (p : Program) (s : SourceState) (t : ℕ) (k : Kind) (s' : SourceState)
    → IsAction p s (act t k) s' → IsCalmKind k → MovesCalmly p s t
calm_named p s t k s' x is = record {
  kind = k;
  after = s';
  moves = x;
  calm = calm_by_kind x.label (subst IsCalmKind x.named is);
}
