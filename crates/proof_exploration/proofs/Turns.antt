-- A turn of a process and a calm action of another commute, also where the turn begins with a stray wake-up: who wakes
-- so takes a monitor again that the other doesn't hold, so the other notifies nobody there.
use Rattle.std.proofs.Common.{◌≡◌, ◌≢◌, ℕ, Bool, true, false, List, [], ◌∷◌, ◌++◌, Option, Some, None}
use Rattle.std.proofs.Common.{refl, sym, ap, ◌∙◌, subst, inl, inr}
use Rattle.words.specs.Updates.{put}
use Rattle.words.proofs.Updates.{at_put}
use Rattle.program.specs.declared.kinds.Member.{Member}
use Rattle.program.specs.Trees.{Program}
use Rattle.program.specs.WellFormed.{WellFormed}
use Rattle.meaning.specs.Labels.{Action, Kind, Label, Alone, Stores, Forks, FindsFull, Claims, FindsClaimed, Joins}
use Rattle.meaning.specs.Labels.{Enters, Resumes, Exits, Waits, Notifies, Broadcasts, Abandons, Ends, Stray}
use Rattle.meaning.specs.Table.{Table, Allows, HeldBy, enterable}
use Rattle.meaning.specs.Processes.{Process, Entering, Before, Suspended, Joining, Returning, Failing, Dying, Leaving}
use Rattle.meaning.specs.Processes.{Over}
use Rattle.meaning.specs.Offers.{offer, TakesUp}
use Rattle.meaning.specs.States.{SourceState, opening}
use Rattle.meaning.specs.Runs.{IsAction, Leads}
use Rattle.meaning.proofs.Discipline.{WaitsAt}
use Rattle.meaning.proofs.Holding.{all_stand, resumes_only}
use Rattle.meaning.proofs.Keeping.{OptionWaits, enterable_held}
use Rattle.meaning.proofs.Led.{leads_more}
use Rattle.proof_commutation.proofs.Behind.{act}
use Rattle.proof_exploration.specs.Exploring.{IsCalm, IsLike, IsTurn, LeadsBy, awake}
use Rattle.proof_exploration.proofs.Tables.{Fit, Guard, WaitChange, Keeps, Begins, Clears, allowed}
use Rattle.proof_exploration.proofs.Tables.{put_swap, split, table_after, wait_change}
use Rattle.proof_exploration.proofs.Tables.{waits_after, without_one}
use Rattle.proof_exploration.proofs.Commuting.{alike, behind, carried, fit, goes_after, other_after}
use Rattle.proof_exploration.proofs.Back.{calm_too, goes_sooner, sooner as sooner_state}

-- a table in which the process waits no longer
abbrev pub awake_in : ℕ → Table → Table
awake_in u T = record T { waits = put T.waits u None }

put_none : (w : ℕ → Option Member) (u q : ℕ) → w u ≡ None → put w u None q ≡ w q
put_none w u q is = at_put w u None q (λ x. x ≡ w q) (λ e. sym is ∙ ap w (sym e)) (λ o. refl)

-- who doesn't wait is awake already
pub awake_none : (u : ℕ) (s : SourceState) → s.table.waits u ≡ None → awake true u s ≡ s
awake_none u s is = λ i. record s { table = record s.table { waits = λ q. put_none s.table.waits u q is i } }

-- a run leads there
pub woken_run : (p : Program) → WellFormed p → (strays : Bool) (done : List Action) (s : SourceState) (u : ℕ)
    → Leads p (opening p) done s → (more : List Action) × Leads p (opening p) more (awake strays u s)
woken_run p wf false done s u run = (done, run)
woken_run p wf true done s u run = by (s.table.waits u) refl
  where
    by : (o : Option Member) → s.table.waits u ≡ o
        → (more : List Action) × Leads p (opening p) more (awake true u s)
    by None is = (done, subst (Leads p (opening p) done) (sym (awake_none u s is)) run)
    by (Some c) is = (
      done ++ act u (Stray c) ∷ [],
      leads_more p (opening p) s (awake true u s) done (act u (Stray c)) run
          (inr (inl (c, refl, record { allows = (is, refl); variables = refl; printed = refl; processes = refl }))),
    )

-- and to what turns lead to
pub turn_run : (p : Program) → WellFormed p → (strays : Bool) (done : List Action) (s : SourceState)
    → Leads p (opening p) done s → (a : Action) (s' : SourceState) → IsTurn p strays s a s'
    → (more : List Action) × Leads p (opening p) more s'
turn_run p wf strays done s run a s' turn =
    let woken : (more : List Action) × Leads p (opening p) more (awake strays a.process s) =
    woken_run p wf strays done s a.process run in (
      woken.0 ++ a ∷ [],
      leads_more p (opening p) (awake strays a.process s) s' woken.0 a woken.1 (inl turn),
    )

pub turns_run : (p : Program) → WellFormed p → (strays : Bool) (actions done : List Action) (s s' : SourceState)
    → Leads p (opening p) done s → LeadsBy p strays s actions s' → (more : List Action) × Leads p (opening p) more s'
turns_run p wf strays [] done s s' run led = (done, subst (Leads p (opening p) done) led run)
turns_run p wf strays (a ∷ actions) done s s' run led =
    let on : (more : List Action) × Leads p (opening p) more led.0 =
    turn_run p wf strays done s run a led.0 led.1 in
    turns_run p wf strays actions on.0 led.0 s' on.1 led.2

-- what one that waits on a condition takes again isn't held
abbrev pub IsApart : ℕ → ℕ → Table → Type 0
IsApart t u T = (c : Member) → T.waits u ≡ Some c → T.hold c.monitor ≡ HeldBy t → ⊥

takes_free : (p : Program) (s : SourceState) (u : ℕ) (j : Kind) (s2 : SourceState) (y : IsAction p (awake true u s) (act u j) s2)
    (c : Member) (b : Process) → y.before ≡ b → WaitsAt c b → (w : Bool) × (s.table.hold c.monitor ≡ enterable w)
takes_free p s u j s2 y c (Suspended d f callers) e is =
    let acts : TakesUp (offer p s.variable (Suspended d f callers)) y.label y.effect y.after =
    subst (λ q. TakesUp (offer p s.variable q) y.label y.effect y.after) e y.acts in
    let free : Allows u (Resumes d.monitor acts.0) (awake_in u s.table) s2.table =
    subst (λ l. Allows u l (awake_in u s.table) s2.table) acts.1 y.allows in
    (acts.0, subst (λ (m : Member). s.table.hold m.monitor ≡ enterable acts.0) is free.1)
takes_free p s u j s2 y c (Entering m f callers) e is = absurd is
takes_free p s u j s2 y c (Before entered f callers) e is = absurd is
takes_free p s u j s2 y c (Joining child into part f callers) e is = absurd is
takes_free p s u j s2 y c (Returning z callers) e is = absurd is
takes_free p s u j s2 y c (Failing fault entered f callers) e is = absurd is
takes_free p s u j s2 y c (Dying cause ms) e is = absurd is
takes_free p s u j s2 y c (Leaving z) e is = absurd is
takes_free p s u j s2 y c (Over end) e is = absurd is

turn_apart : (p : Program) → WellFormed p → (done : List Action) (s : SourceState) → Leads p (opening p) done s
    → (t u : ℕ) (j : Kind) (s2 : SourceState) → IsAction p (awake true u s) (act u j) s2 → IsApart t u s.table
turn_apart p wf done s run t u j s2 y c waits held =
    let at : WaitsAt c y.before =
    subst (OptionWaits c) y.stands ((all_stand p wf done s run u).waits c waits) in
    let free : (w : Bool) × (s.table.hold c.monitor ≡ enterable w) = takes_free p s u j s2 y c y.before refl at in
    enterable_held free.0 t (sym free.1 ∙ held)

-- who waits, with one less before or after
wake_swap : (t u : ℕ) (d : WaitChange) (w : ℕ → Option Member) (q : ℕ) → t ≢ u
    → waits_after t d (put w u None) q ≡ put (waits_after t d w) u None q
wake_swap t u Keeps w q o = refl
wake_swap t u (Begins c) w q o = put_swap w u t None (Some c) q (λ e. o (sym e))
wake_swap t u (Clears c qs) w q o = without_one qs w u q

table_awake : (t u : ℕ) (l : Label) (T : Table) → t ≢ u
    → table_after t l (awake_in u T) ≡ awake_in u (table_after t l T)
table_awake t u l T o = λ i. record (table_after t l T) {
  waits = λ q. wake_swap t u (wait_change l) T.waits q o i;
}

some_none : (c : Member) (x : Option Member) → x ≡ None → x ≡ Some c → ⊥
some_none c x a b = let e : None ≡ Some c = sym a ∙ b in absurd (cc)

waited : (w : ℕ → Option Member) (u q : ℕ) (c : Member) → put w u None q ≡ Some c → w q ≡ Some c
waited w u q c = at_put w u None q (λ x. x ≡ Some c → w q ≡ Some c) (λ e is. absurd (some_none c None refl is))
    (λ o is. is)

waits_still : (t u : ℕ) (T : Table) (c : Member) (q : ℕ) → IsApart t u T → T.hold c.monitor ≡ HeldBy t
    → T.waits q ≡ Some c → put T.waits u None q ≡ Some c
waits_still t u T c q apart held is = at_put T.waits u None q (λ x. x ≡ Some c)
    (λ e. absurd (apart c (ap T.waits (sym e) ∙ is) held)) (λ o. is)

-- a calm action needs the same of both tables
guard_awake : (t u : ℕ) (l : Label) (T : Table) → IsCalm l → Fit t l T → IsApart t u T → Guard t l T
    → Guard t l (awake_in u T)
guard_awake t u (Notifies c qs) T calm held apart g = record {
  rising = g.rising;
  wait = λ q i. waits_still t u T c q apart held (g.wait q i);
  some = λ q w. g.some q (waited T.waits u q c w);
}
guard_awake t u (Broadcasts c qs) T calm held apart g = record {
  rising = g.rising;
  wait = λ q i. waits_still t u T c q apart held (g.wait q i);
  all = λ q w. g.all q (waited T.waits u q c w);
}
guard_awake t u (Resumes m w) T calm held apart g = absurd calm
guard_awake t u (Enters m w) T calm held apart g = g
guard_awake t u (Forks child) T calm held apart g = g
guard_awake t u FindsFull T calm held apart g = g
guard_awake t u (Claims child) T calm held apart g = g
guard_awake t u (FindsClaimed child) T calm held apart g = g
guard_awake t u (Joins child end) T calm held apart g = g
guard_awake t u (Exits m) T calm held apart g = tt
guard_awake t u (Waits d) T calm held apart g = tt
guard_awake t u (Abandons m) T calm held apart g = tt
guard_awake t u (Alone kind) T calm held apart g = tt
guard_awake t u (Stores m) T calm held apart g = tt
guard_awake t u (Ends end) T calm held apart g = tt

guard_asleep : (t u : ℕ) (l : Label) (T : Table) → IsCalm l → Fit t l (awake_in u T) → IsApart t u T
    → Guard t l (awake_in u T) → Guard t l T
guard_asleep t u (Notifies c qs) T calm held apart g = record {
  rising = g.rising;
  wait = λ q i. waited T.waits u q c (g.wait q i);
  some = λ q w. g.some q (waits_still t u T c q apart held w);
}
guard_asleep t u (Broadcasts c qs) T calm held apart g = record {
  rising = g.rising;
  wait = λ q i. waited T.waits u q c (g.wait q i);
  all = λ q w. g.all q (waits_still t u T c q apart held w);
}
guard_asleep t u (Resumes m w) T calm held apart g = absurd calm
guard_asleep t u (Enters m w) T calm held apart g = g
guard_asleep t u (Forks child) T calm held apart g = g
guard_asleep t u FindsFull T calm held apart g = g
guard_asleep t u (Claims child) T calm held apart g = g
guard_asleep t u (FindsClaimed child) T calm held apart g = g
guard_asleep t u (Joins child end) T calm held apart g = g
guard_asleep t u (Exits m) T calm held apart g = tt
guard_asleep t u (Waits d) T calm held apart g = tt
guard_asleep t u (Abandons m) T calm held apart g = tt
guard_asleep t u (Alone kind) T calm held apart g = tt
guard_asleep t u (Stores m) T calm held apart g = tt
guard_asleep t u (Ends end) T calm held apart g = tt

-- an action of this name is possible, and it is calm
pub record Calmly (p : Program) (s : SourceState) (t : ℕ) (k : Kind) (s' : SourceState) : Type 0 where
  pub moves : IsAction p s (act t k) s'
  pub calm : IsCalm moves.label

-- a calm action of a process comes before another's stray wake-up, or behind it
forth : (p : Program) (wf : WellFormed p) (strays : Bool) (done : List Action) (s : SourceState)
    (run : Leads p (opening p) done s) (t u : ℕ) (k j : Kind) (s1 s2 : SourceState) (x : IsAction p s (act t k) s1)
    → IsCalm x.label → IsAction p (awake strays u s) (act u j) s2 → t ≢ u
    → Calmly p (awake strays u s) t k (awake strays u s1)
forth p wf false done s run t u k j s1 s2 x calm y o = record { moves = x; calm = calm }
forth p wf true done s run t u k j s1 s2 x calm y o = record {
  moves = record {
    before = x.before;
    after = x.after;
    label = x.label;
    effect = x.effect;
    stands = x.stands;
    acts = x.acts;
    named = x.named;
    allows = subst (Allows t x.label (awake_in u s.table))
        (table_awake t u x.label s.table o ∙ ap (awake_in u) (sym first.1))
        (allowed t x.label (awake_in u s.table)
        (guard_awake t u x.label s.table calm (fit p wf done s run (act t k) s1 x)
        (turn_apart p wf done s run t u j s2 y) first.0));
    variables = x.variables;
    printed = x.printed;
    processes = x.processes;
  };
  calm = calm;
}
  where
    first : Guard t x.label s.table × (s1.table ≡ table_after t x.label s.table)
    first = split t x.label s.table s1.table x.allows

-- it is possible in a state
pub record Sooner (p : Program) (t : ℕ) (k : Kind) (s : SourceState) : Type 0 where
  pub before : SourceState
  pub moves : IsAction p s (act t k) before
  pub calm : IsCalm moves.label

back : (p : Program) (wf : WellFormed p) (strays : Bool) (done : List Action) (s : SourceState)
    (run : Leads p (opening p) done s) (t u : ℕ) (k j : Kind) (r s2 : SourceState)
    → (z : IsAction p (awake strays u s) (act t k) r) → IsCalm z.label → IsAction p (awake strays u s) (act u j) s2
    → t ≢ u → Sooner p t k s
back p wf false done s run t u k j r s2 z calm y o = record { before = r; moves = z; calm = calm }
back p wf true done s run t u k j r s2 z calm y o = record {
  before = record r { table = table_after t z.label s.table };
  moves = record {
    before = z.before;
    after = z.after;
    label = z.label;
    effect = z.effect;
    stands = z.stands;
    acts = z.acts;
    named = z.named;
    allows = allowed t z.label s.table
        (guard_asleep t u z.label s.table calm (fit p wf woken.0 (awake true u s) woken.1 (act t k) r z)
        (turn_apart p wf done s run t u j s2 y)
        (split t z.label (awake_in u s.table) r.table z.allows).0);
    variables = z.variables;
    printed = z.printed;
    processes = z.processes;
  };
  calm = calm;
}
  where
    woken : (more : List Action) × Leads p (opening p) more (awake true u s)
    woken = woken_run p wf true done s u run

-- a calm action is possible behind a turn of another, and the turn behind it, and both orders lead to states that are alike
pub record Crossed (p : Program) (strays : Bool) (t : ℕ) (k : Kind) (s1 : SourceState) (b : Action)
    (mid : SourceState) : Type 0 where
  pub right : SourceState
  pub left : SourceState
  pub goes : IsAction p mid (act t k) right
  pub calm : IsCalm goes.label
  pub turns : IsTurn p strays s1 b left
  pub like : IsLike left right

module _ (p : Program) (wf : WellFormed p) (strays : Bool) (done : List Action) (s : SourceState)
    (run : Leads p (opening p) done s) (t : ℕ) (k : Kind) (s1 : SourceState) (x : IsAction p s (act t k) s1)
    (calm : IsCalm x.label) (b : Action) (mid : SourceState) (y : IsTurn p strays s b mid) (o : t ≢ b.process) where
  abbrev u : ℕ
  u = b.process

  abbrev ws : SourceState
  ws = awake strays u s

  woken : (more : List Action) × Leads p (opening p) more ws
  woken = woken_run p wf strays done s u run

  moved : Calmly p ws t k (awake strays u s1)
  moved = forth p wf strays done s run t u k b.kind s1 mid x calm y o

  pub crossed : Crossed p strays t k s1 b mid
  unfolding goes_after carried
  crossed = record {
    right = behind p wf woken.0 ws woken.1 t u k b.kind (awake strays u s1) mid moved.moves y o;
    left = behind p wf woken.0 ws woken.1 u t b.kind k mid (awake strays u s1) y moved.moves (λ e. o (sym e));
    goes = goes_after p wf woken.0 ws woken.1 t u k b.kind (awake strays u s1) mid moved.moves y o moved.calm;
    calm = moved.calm;
    turns = other_after p wf woken.0 ws woken.1 t u k b.kind (awake strays u s1) mid moved.moves y o moved.calm;
    like = alike p wf woken.0 ws woken.1 t u k b.kind (awake strays u s1) mid moved.moves y o moved.calm;
  }

  -- what the process does behind the turn it may as well do before it
  pub sooner : (k' : Kind) (s3 : SourceState) → IsAction p mid (act t k') s3 → Sooner p t k' s
  unfolding goes_sooner
  sooner k' s3 z = back p wf strays done s run t u k' b.kind
      (sooner_state p wf woken.0 ws woken.1 t u k k' b.kind (awake strays u s1) mid s3 moved.moves y z o moved.calm) mid
      (goes_sooner p wf woken.0 ws woken.1 t u k k' b.kind (awake strays u s1) mid s3 moved.moves y z o moved.calm)
      (calm_too p wf woken.0 ws woken.1 t u k k' b.kind (awake strays u s1) mid s3 moved.moves y z o moved.calm) y o

-- a process whose next action is calm doesn't wait, so its turn is an action of its own
pub calm_turn : (p : Program) → WellFormed p → (strays : Bool) (done : List Action) (s : SourceState)
    → Leads p (opening p) done s → (t : ℕ) (k : Kind) (s1 : SourceState) (x : IsAction p s (act t k) s1)
    → IsCalm x.label → (k' : Kind) (s2 : SourceState) → IsTurn p strays s (act t k') s2 → IsAction p s (act t k') s2
calm_turn p wf false done s run t k s1 x calm k' s2 y = y
calm_turn p wf true done s run t k s1 x calm k' s2 y =
    subst (λ r. IsAction p r (act t k') s2) (awake_none t s (unwaiting (s.table.waits t) refl)) y
  where
    unwaiting : (w : Option Member) → s.table.waits t ≡ w → s.table.waits t ≡ None
    unwaiting None is = is
    unwaiting (Some c) is =
        let at : WaitsAt c x.before = subst (OptionWaits c) x.stands ((all_stand p wf done s run t).waits c is) in
        let r : (m : ℕ) × (w : Bool) × (x.label ≡ Resumes m w) =
        resumes_only p s.variable x.before c x.label x.effect x.after at x.acts in
        absurd (subst IsCalm r.2 calm)
