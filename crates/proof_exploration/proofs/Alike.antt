-- States that are the same but for what was printed have the same runs.
use Rattle.std.proofs.Common.{◌≡◌, ℕ, Bool, true, false, List, [], ◌∷◌, Option, Some, None, refl, sym, ap, ◌∙◌, subst}
use Rattle.program.specs.Trees.{Program}
use Rattle.meaning.specs.Labels.{Action}
use Rattle.meaning.specs.Table.{Allows, Table}
use Rattle.meaning.specs.Processes.{Process}
use Rattle.meaning.specs.Offers.{offer, TakesUp}
use Rattle.meaning.specs.States.{SourceState, variables_after, printed_after, processes_after}
use Rattle.words.specs.Updates.{put}
use Rattle.meaning.specs.Runs.{CanMove, IsAction}
use Rattle.proof_exploration.specs.Exploring.{IsLike, IsStuck, HasAborted, LeadsBy, awake}

pub like_self : (s : SourceState) → IsLike s s
like_self s = record { table = refl; variable = refl; process = refl }

pub like_back : (s r : SourceState) → IsLike s r → IsLike r s
like_back s r e = record { table = sym e.table; variable = sym e.variable; process = sym e.process }

pub like_trans : (s r q : SourceState) → IsLike s r → IsLike r q → IsLike s q
like_trans s r q e f = record {
  table = e.table ∙ f.table;
  variable = e.variable ∙ f.variable;
  process = e.process ∙ f.process;
}

pub like_same : (s r q : SourceState) → IsLike s r → r ≡ q → IsLike s q
like_same s r q e f = subst (λ x. IsLike s x) f e

module _ (p : Program) (s r : SourceState) (like : IsLike s r) (a : Action) (s' : SourceState) where
  abbrev pub printing : IsAction p s a s' → SourceState
  printing x = record s' { printed = printed_after x.effect r.printed }

  -- an action is possible in a state that is alike, and leads to one that is alike
  unfoldable pub like_action : (x : IsAction p s a s') → IsAction p r a (printing x)
  like_action x = record {
    before = x.before;
    after = x.after;
    label = x.label;
    effect = x.effect;
    stands = ap (λ (f : ℕ → Option Process). f a.process) (sym like.process) ∙ x.stands;
    acts = subst (λ v. TakesUp (offer p v x.before) x.label x.effect x.after) like.variable x.acts;
    named = x.named;
    allows = subst (λ T. Allows a.process x.label T s'.table) like.table x.allows;
    variables = x.variables ∙ ap (variables_after x.effect) like.variable;
    printed = refl;
    processes = x.processes ∙ ap (λ f. put (processes_after x.effect f) a.process (Some x.after)) like.process;
  }

  pub like_after : (x : IsAction p s a s') → IsLike s' (printing x)
  like_after x = record { table = refl; variable = refl; process = refl }

-- states that are alike stay so where a process wakes
pub like_awake : (strays : Bool) (t : ℕ) (s r : SourceState) → IsLike s r
    → IsLike (awake strays t s) (awake strays t r)
like_awake false t s r like = like
like_awake true t s r like = record {
  table = ap (λ (T : Table). record T { waits = put T.waits t None }) like.table;
  variable = like.variable;
  process = like.process;
}

abbrev pub Alike : Program → Bool → SourceState → List Action → SourceState → Type 0
Alike p strays r actions e = (e' : SourceState) × LeadsBy p strays r actions e' × IsLike e' e

pub like_run : (p : Program) (strays : Bool) (actions : List Action) (s r e : SourceState) → IsLike s r
    → LeadsBy p strays s actions e → Alike p strays r actions e
like_run p strays [] s r e like led = (r, refl, like_back e r (subst (λ x. IsLike x r) led like))
like_run p strays (a ∷ actions) s r e like led =
    let like' : IsLike (awake strays a.process s) (awake strays a.process r) =
    like_awake strays a.process s r like in
    let mid : SourceState =
    printing p (awake strays a.process s) (awake strays a.process r) like' a led.0 led.1 in
    let next : Alike p strays mid actions e =
    like_run p strays actions led.0 mid e
    (like_after p (awake strays a.process s) (awake strays a.process r) like' a led.0 led.1) led.2 in (
      next.0,
      (mid, like_action p (awake strays a.process s) (awake strays a.process r) like' a led.0 led.1, next.1),
      next.2,
    )

pub like_moves : (p : Program) (s r : SourceState) (t : ℕ) → IsLike s r → CanMove p s t → CanMove p r t
like_moves p s r t like can = record {
  kind = can.kind;
  after = printing p s r like (record { process = t; kind = can.kind }) can.after can.moves;
  moves = like_action p s r like (record { process = t; kind = can.kind }) can.after can.moves;
}

pub like_stuck : (p : Program) (s r : SourceState) → IsLike s r → IsStuck p s → IsStuck p r
like_stuck p s r like stuck = record {
  rests = λ t can. stuck.rests t (like_moves p r s t (like_back s r like) can);
  process = stuck.process;
  at = stuck.at;
  stands = ap (λ (f : ℕ → Option Process). f stuck.process) (sym like.process) ∙ stuck.stands;
  goes_on = stuck.goes_on;
}

pub like_aborted : (s r : SourceState) → IsLike s r → HasAborted s → HasAborted r
like_aborted s r like is = (is.0, is.1, ap (λ (f : ℕ → Option Process). f is.0) (sym like.process) ∙ is.2)
