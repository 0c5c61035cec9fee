-- Actions of a process's own, by the offer that they take up.
use Rattle.std.proofs.Common.{◌≡◌, ◌==◌, ℕ, Bool, true, false, cond, Option, Some, refl, ap, sym, ◌∙◌, subst}
use Rattle.words.specs.Updates.{put}
use Rattle.words.proofs.Updates.{put_same}
use Rattle.program.specs.Trees.{Program}
use Rattle.meaning.specs.Labels.{Action, Kind, Label}
use Rattle.meaning.specs.Offers.{Does, Effect, Nothing, Puts, Writes, Makes, Offer, TakesUp, offer}
use Rattle.meaning.specs.Processes.{Process}
use Rattle.meaning.specs.Runs.{IsAction}
use Rattle.meaning.specs.States.{SourceState, processes_after}
use Rattle.source_states.specs.Done.{IsDone}
use Rattle.source_states.specs.Taken.{IsAnswer, IsTakenUp}

put_over : {X : Type 0} (b : Bool) (v w x : X) → cond b v (cond b w x) ≡ cond b v x
put_over true v w x = refl
put_over false v w x = refl

put_over_two : {X : Type 0} (a b : Bool) (v q w x : X) → cond a v (cond b q (cond a w x)) ≡ cond a v (cond b q x)
put_over_two true b v q w x = refl
put_over_two false b v q w x = refl

-- what a process was before doesn't matter where it stands elsewhere after
overwritten : (e : Effect) (f : ℕ → Option Process) (n : ℕ) (w v : Option Process)
    → put (processes_after e (put f n w)) n v ≡ put (processes_after e f) n v
overwritten Nothing f n w v = λ i j. put_over (j == n) v w (f j) i
overwritten (Puts m k l z) f n w v = λ i j. put_over (j == n) v w (f j) i
overwritten (Writes z) f n w v = λ i j. put_over (j == n) v w (f j) i
overwritten (Makes child q) f n w v = λ i j. put_over_two (j == n) (j == child) v (Some q) w (f j) i

pub done_without : (n : ℕ) (l : Label) (e : Effect) (q : Process) (w : Option Process) (s u : SourceState)
    → IsDone n l e q (record s { process = put s.process n w }) u → IsDone n l e q s u
done_without n l e q w s u d = record {
  allows = d.allows;
  variables = d.variables;
  printed = d.printed;
  processes = d.processes ∙ overwritten e s.process n w (Some q);
}

done_with : (n : ℕ) (l : Label) (e : Effect) (q : Process) (w : Option Process) (s u : SourceState)
    → IsDone n l e q s u → IsDone n l e q (record s { process = put s.process n w }) u
done_with n l e q w s u d = record {
  allows = d.allows;
  variables = d.variables;
  printed = d.printed;
  processes = d.processes ∙ sym (overwritten e s.process n w (Some q));
}

pub some_once : {A : Type 0} (x y : A) → Some x ≡ Some y → x ≡ y
some_once x y e = cc

-- a process that another stands for in the state takes up its offer: that is its action
pub taken_out : (p : Program) (s : SourceState) (a : Action) (before : Process) (w : Option Process) (b : Bool)
    (u : SourceState) → s.process a.process ≡ Some before
    → IsAnswer b (IsTakenUp a.process a.kind (offer p s.variable before)
    (record s { process = put s.process a.process w })) u
    → IsAnswer b (IsAction p s a) u
taken_out p s a before w true u stands r = record {
  before = before;
  after = r.after;
  label = r.label;
  effect = r.effect;
  stands = stands;
  acts = r.takes;
  named = r.named;
  allows = r.done.allows;
  variables = r.done.variables;
  printed = r.done.printed;
  processes = (done_without a.process r.label r.effect r.after w s u r.done).processes;
}
taken_out p s a before w false u stands never = λ t x. never t (record {
  label = x.label;
  effect = x.effect;
  after = x.after;
  takes = subst (λ q. TakesUp (offer p s.variable q) x.label x.effect x.after)
      (some_once x.before before (sym x.stands ∙ stands)) x.acts;
  named = x.named;
  done = done_with a.process x.label x.effect x.after w s t (record {
    allows = x.allows;
    variables = x.variables;
    printed = x.printed;
    processes = x.processes;
  });
})

-- the same of the offer and of the processes that the code finds
pub answered : (p : Program) (s : SourceState) (a : Action) (before : Process) (w : Option Process) (o : Offer)
    (b : Bool) (u : SourceState) (f : ℕ → Option Process) → s.process a.process ≡ Some before
    → o ≡ offer p s.variable before → f ≡ put s.process a.process w
    → IsAnswer b (IsTakenUp a.process a.kind o (record s { process = f })) u
    → IsAnswer b (IsAction p s a) u
answered p s a before w o b u f stands offers is h =
    taken_out p s a before w b u stands
    (subst (λ g. IsAnswer b (IsTakenUp a.process a.kind (offer p s.variable before) (record s { process = g })) u) is
    (subst (λ x. IsAnswer b (IsTakenUp a.process a.kind x (record s { process = f })) u) offers h))

-- a process that another stands for in the state takes up its offer, as it would there
pub elsewhere : (n : ℕ) (k : Kind) (o : Offer) (s : SourceState) (w : Option Process) (f : ℕ → Option Process)
    (b : Bool) (u : SourceState) → f ≡ put s.process n w
    → IsAnswer b (IsTakenUp n k o (record s { process = f })) u → IsAnswer b (IsTakenUp n k o s) u
elsewhere n k o s w f true u is r = record {
  label = r.label;
  effect = r.effect;
  after = r.after;
  takes = r.takes;
  named = r.named;
  done = done_without n r.label r.effect r.after w s u
      (subst (λ g. IsDone n r.label r.effect r.after (record s { process = g }) u) is r.done);
}
elsewhere n k o s w f false u is never = λ t x. never t (record {
  label = x.label;
  effect = x.effect;
  after = x.after;
  takes = x.takes;
  named = x.named;
  done = subst (λ g. IsDone n x.label x.effect x.after (record s { process = g }) t) (sym is)
      (done_with n x.label x.effect x.after w s t x.done);
})

-- a process is put where it stands after an action, and does it there
pub done_there : (n : ℕ) (k : Kind) (label : Label) (effect : Effect) (q : Process) (s t u : SourceState) (b : Bool)
    → t ≡ record s { process = put s.process n (Some q) }
    → ((after : Process) → t.process n ≡ Some after → IsAnswer b (IsTakenUp n k (Does label effect after) t) u)
    → IsAnswer b (IsTakenUp n k (Does label effect q) s) u
done_there n k label effect q s t u b is h =
    elsewhere n k (Does label effect q) s (Some q) (put s.process n (Some q)) b u refl
    (subst (λ x. IsAnswer b (IsTakenUp n k (Does label effect q) x) u) is
    (h q (ap (λ (x : SourceState). x.process n) is ∙ put_same s.process n (Some q))))
