use Rattle.std.proofs.Common.{◌≡◌, ap, sym, ◌∙◌, subst, Bool, List, [], ◌∷◌, ◌++◌, ℕ}
use Rattle.std.proofs.lemmas.Bool.{false≢true}
use Rattle.log_simulation.specs.Shown.{shown}
use Rattle.meaning.specs.Labels.{Kill}
use Rattle.meaning.specs.Runs.{IsStep}
use Rattle.meaning.specs.States.{SourceState}
use Rattle.program.specs.Trees.{Program}
use Rattle.lowering.specs.Layout.{layout_of}
use Rattle.proof_simulation.specs.Kills.{after_kill, killed_resumed}
use Rattle.proof_simulation.specs.Next.{offer_of_process}
use Rattle.proof_simulation.specs.Ordering.{act}
use Rattle.proof_simulation.specs.Progress.{progress_caught_up}
use Rattle.source_states.specs.States.{state_of}
use Rattle.log_simulation.specs.Going.{Takes, followed, resumed_by}
use Rattle.log_simulation.proofs.Versions.{same_followed}
use Rattle.log_simulation.proofs.CatchingUp.{if_ok}
use Rattle.log_simulation.proofs.follower.Follower.follow_kill.Goals as goal

pub returns-then-not-branch-clause-follows : goal.returns-then-not-branch-clause-follows
returns-then-not-branch-clause-follows c = λ g layout matches all bit due.
    let caught_up = c.in_ok-catch_up.ensures.catches_up g due.ahead matches due.behind all in
    absurd (false≢true (sym c.if-not-branch.true ∙ caught_up.0))

pub returns-clause-follows : goal.returns-clause-follows
returns-clause-follows c =
    let p = followed c.args.self.now in
    let f = c.catch_up.new.self in
    let t = c.args.t in
    let m = c.args.last in
    let s = shown c.args.machine.now in
    let items = c.in_ok-resumed.resumed.items in
    let same = same_followed f c.args.self.now c.in_ok-catch_up.ensures.kept.0 c.in_ok-catch_up.ensures.kept.1 in
    if_ok (λ b. Takes f (act t (Kill items m)) b c.take.new.self) _ c.take.result
    (λ b takes g layout matches all bit due.
    let caught_up = progress_caught_up p t g in
    let here = (c.in_ok-catch_up.ensures.catches_up g due.ahead matches due.behind all).1 in
    let resumed = resumed_by p s t (g.raised t) g in
    let found : items ≡ resumed =
    c.in_ok-resumed.ensures (c.in_ok-catch_up.ensures.kept.1 ∙ layout ∙ ap layout_of (sym same))
    ∙ ap (λ (q : Program). killed_resumed q s (state_of f.state).table c.args.raised
    (offer_of_process q (state_of f.state).variable ((state_of f.state).process t))) same
    ∙ ap (λ (a : SourceState). killed_resumed p s a.table c.args.raised
    (offer_of_process p a.variable (a.process t))) here.source
    ∙ ap (λ (i : Bool). resumed_by p s t i g) (sym bit) in
    let after = after_kill t resumed m caught_up.source in
    let took = takes caught_up after here
    (subst (λ q. IsStep q caught_up.source (act t (Kill items m)) after) (sym same)
    (subst (λ (l : List ℕ). IsStep p caught_up.source (act t (Kill l m)) after) (sym found) due.step)) in (
      took.0,
      record {
        actions = took.1.actions ∙ ap (λ (l : List ℕ). caught_up.actions ++ act t (Kill l m) ∷ []) found;
        source = took.1.source;
      },
    )) c.take.ensures.takes
