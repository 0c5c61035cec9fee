-- Of a run from a state in which a process's next action is calm: the first action of the process is moved to the
-- front, or it is possible at the end still.
use Rattle.std.proofs.Common.{◌≡◌, ◌≢◌, ◌⊎◌, ℕ, suc, Bool, List, [], ◌∷◌, length, refl, sym, ap, subst, inl, inr}
use Rattle.std.proofs.lemmas.Bool.{cases_eq}
use Rattle.program.specs.Trees.{Program}
use Rattle.program.specs.WellFormed.{WellFormed}
use Rattle.meaning.specs.Labels.{Action, Kind}
use Rattle.meaning.specs.States.{SourceState, opening}
use Rattle.meaning.specs.Runs.{IsAction, Leads}
use Rattle.meaning.proofs.Unique.{step_once}
use Rattle.proof_commutation.proofs.Behind.{act}
use Rattle.proof_exploration.specs.Exploring.{IsLike, IsCalm, IsTurn, LeadsBy}
use Rattle.proof_exploration.proofs.Back.{calm_both}
use Rattle.proof_exploration.proofs.Turns.{Crossed, Sooner, calm_turn, crossed, sooner, turn_run}
use Rattle.proof_exploration.proofs.Alike.{Alike, like_self, like_back, like_same, like_trans, like_run}

-- the process doesn't act: its action is possible at the end, and the others' turns are possible behind it
pub record Idle (p : Program) (strays : Bool) (t : ℕ) (k : Kind) (s1 : SourceState) (actions : List Action)
    (e : SourceState) : Type 0 where
  pub after : SourceState
  pub moves : IsAction p e (act t k) after
  pub calm : IsCalm moves.label
  pub later : Alike p strays s1 actions after

-- the process acts: a calm action of it comes first, and the run is as long
pub record Busy (p : Program) (strays : Bool) (t : ℕ) (s : SourceState) (actions : List Action)
    (e : SourceState) : Type 0 where
  pub kind : Kind
  pub next : SourceState
  pub moves : IsAction p s (act t kind) next
  pub calm : IsCalm moves.label
  pub rest : List Action
  pub shorter : length actions ≡ suc (length rest)
  pub later : Alike p strays next rest e

module _ (p : Program) (wf : WellFormed p) (strays : Bool) where
  -- one more turn of another process before these
  module _ (done : List Action) (s : SourceState) (run : Leads p (opening p) done s) (t : ℕ) (k : Kind)
      (s1 : SourceState) (x : IsAction p s (act t k) s1) (calm : IsCalm x.label) (b : Action) (mid : SourceState)
      (y : IsTurn p strays s b mid) (o : t ≢ b.process) (actions : List Action) (e : SourceState) where
    idle_before : (c : Crossed p strays t k s1 b mid) → Idle p strays t k c.right actions e
        → Idle p strays t k s1 (b ∷ actions) e
    idle_before c idle =
        let moved : Alike p strays c.left actions (idle.later).0 =
        like_run p strays actions c.right c.left (idle.later).0 (like_back c.left c.right c.like) (idle.later).1 in
        record {
          after = idle.after;
          moves = idle.moves;
          calm = idle.calm;
          later = (
            moved.0,
            (c.left, c.turns, moved.1),
            like_trans moved.0 (idle.later).0 idle.after moved.2 (idle.later).2,
          );
        }

    busy_before : Busy p strays t mid actions e → Busy p strays t s (b ∷ actions) e
    busy_before busy = record {
      kind = busy.kind;
      next = z.before;
      moves = z.moves;
      calm = z.calm;
      rest = b ∷ busy.rest;
      shorter = ap suc busy.shorter;
      later = (
        moved.0,
        (c.left, c.turns, moved.1),
        like_trans moved.0 (busy.later).0 e moved.2 (busy.later).2,
      );
    }
      where
        z : Sooner p t busy.kind s
        z = sooner p wf strays done s run t k s1 x calm b mid y o busy.kind busy.next busy.moves

        c : Crossed p strays t busy.kind z.before b mid
        c = crossed p wf strays done s run t busy.kind z.before z.moves z.calm b mid y o

        same : c.right ≡ busy.next
        same = step_once p (act t busy.kind) mid c.right busy.next (inl c.goes) (inl busy.moves)

        like : IsLike c.left busy.next
        like = like_same c.left c.right busy.next c.like same

        moved : Alike p strays c.left busy.rest (busy.later).0
        moved = like_run p strays busy.rest busy.next c.left (busy.later).0 (like_back c.left busy.next like)
            (busy.later).1

  pub front : (actions done : List Action) (s : SourceState) (t : ℕ) (k : Kind) (s1 e : SourceState)
      → Leads p (opening p) done s → (x : IsAction p s (act t k) s1) → IsCalm x.label → LeadsBy p strays s actions e
      → Idle p strays t k s1 actions e ⊎ Busy p strays t s actions e
  front [] done s t k s1 e run x calm led =
      let here : (y : IsAction p e (act t k) s1) × IsCalm y.label =
      subst (λ r. (y : IsAction p r (act t k) s1) × IsCalm y.label) led (x, calm) in
      inl (record { after = s1; moves = here.0; calm = here.1; later = (s1, refl, like_self s1) })
  front (b ∷ actions) done s t k s1 e run x calm led = elim (cases_eq b.process t) [
    | inl same ↦ inr (record {
      kind = b.kind;
      next = led.0;
      moves = own same;
      calm = calm_both p s t k b.kind s1 led.0 x (own same) calm;
      rest = actions;
      shorter = refl;
      later = (e, led.2, like_self e);
    })
    | inr other ↦ pass (λ i. other (sym i)) (λ more right on goes calm'.
        front actions more led.0 t k right e on goes calm' led.2)
  ]
    where
      own : b.process ≡ t → IsAction p s (act t b.kind) led.0
      own same = calm_turn p wf strays done s run t k s1 x calm b.kind led.0
          (subst (λ q. IsTurn p strays s (act q b.kind) led.0) same led.1)

      pass : t ≢ b.process
          → ((more : List Action) (right : SourceState) → Leads p (opening p) more led.0
          → (x' : IsAction p led.0 (act t k) right) → IsCalm x'.label
          → Idle p strays t k right actions e ⊎ Busy p strays t led.0 actions e)
          → Idle p strays t k s1 (b ∷ actions) e ⊎ Busy p strays t s (b ∷ actions) e
      pass o behind =
          let c : Crossed p strays t k s1 b led.0 = crossed p wf strays done s run t k s1 x calm b led.0 led.1 o in
          let on : (more : List Action) × Leads p (opening p) more led.0 =
          turn_run p wf strays done s run b led.0 led.1 in
          elim (behind on.0 c.right on.1 c.goes c.calm) [
            | inl idle ↦ inl (idle_before done s run t k s1 x calm b led.0 led.1 o actions e c idle)
            | inr busy ↦ inr (busy_before done s run t k s1 x calm b led.0 led.1 o actions e busy)
          ]
