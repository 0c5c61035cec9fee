use Rattle.std.proofs.Common.{sym, ◌∙◌, subst, Some}
use Rattle.std.proofs.lemmas.Bool.{false≢true}
use Rattle.meaning.specs.Labels.{Stray}
use Rattle.meaning.specs.Runs.{IsStep}
use Rattle.proof_simulation.specs.Ordering.{act}
use Rattle.proof_simulation.specs.Progress.{progress_caught_up}
use Rattle.proof_simulation.specs.Strays.{after_stray}
use Rattle.log_simulation.specs.Going.{Takes, followed}
use Rattle.log_simulation.proofs.Versions.{same_followed}
use Rattle.log_simulation.proofs.CatchingUp.{if_ok}
use Rattle.log_simulation.proofs.follower.Follower.follow_stray.Goals as goal

pub returns-then-not-branch-clause-follows : goal.returns-then-not-branch-clause-follows
returns-then-not-branch-clause-follows c = λ g matches all due.
    let caught_up = c.in_ok-catch_up.ensures.catches_up g due.ahead matches due.behind all in
    absurd (false≢true (sym c.if-not-branch.true ∙ caught_up.0))

pub returns-clause-follows : goal.returns-clause-follows
returns-clause-follows c =
    let p = followed c.args.self.now in
    let f = c.catch_up.new.self in
    let t = c.args.t in
    let member = c.args.condition in
    let same = same_followed f c.args.self.now c.in_ok-catch_up.ensures.kept.0 c.in_ok-catch_up.ensures.kept.1 in
    if_ok (λ b. Takes f (act t (Stray member)) b c.take.new.self) _ c.take.result
    (λ b takes g matches all due.
    let caught_up = progress_caught_up p t g in
    let here = (c.in_ok-catch_up.ensures.catches_up g due.ahead matches due.behind all).1 in
    let after = after_stray t (Some member) caught_up.source in
    let took = takes caught_up after here
    (subst (λ q. IsStep q caught_up.source (act t (Stray member)) after) (sym same) due.step) in
    (took.0, record { actions = took.1.actions; source = took.1.source })) c.take.ensures.takes
