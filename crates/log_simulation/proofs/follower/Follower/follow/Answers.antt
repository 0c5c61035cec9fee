use Rattle.std.proofs.Common.{ap, sym, ◌∙◌, option_map}
use Rattle.std.proofs.lemmas.Bool.{false≢true}
use Rattle.log_simulation.specs.Shown.{shown}
use Rattle.lowering.specs.Layout.{layout_of}
use Rattle.source_states.specs.Actions.{kind_of}
use Rattle.proof_simulation.specs.Ordering.{act}
use Rattle.proof_simulation.specs.Progress.{progress_caught_up}
use Rattle.meaning.specs.Labels.{kind_of as name_of}
use Rattle.log_simulation.specs.Going.{Takes, followed}
use Rattle.log_simulation.proofs.Versions.{same_followed}
use Rattle.log_simulation.proofs.CatchingUp.{found_so, follows_so, none_some, if_ok}
use Rattle.log_simulation.proofs.follower.Follower.follow.Goals as goal

pub returns-then-not-branch-clause-follows : goal.returns-then-not-branch-clause-follows
returns-then-not-branch-clause-follows c = λ g ahead label layout matches behind all can visible who.
    let caught_up = c.in_ok-catch_up.ensures.catches_up g ahead matches behind all in
    absurd (false≢true (sym c.if-not-branch.true ∙ caught_up.0))

pub returns-in-Some-clause-follows : goal.returns-in-Some-clause-follows
returns-in-Some-clause-follows c =
    let p = followed c.args.self.now in
    let f = c.catch_up.new.self in
    let same = same_followed f c.args.self.now c.in_ok-catch_up.ensures.kept.0 c.in_ok-catch_up.ensures.kept.1 in
    let s = shown c.args.machine.now in
    let k = kind_of c.in-Some.kind in
    if_ok (λ b. Takes f (act c.args.t k) b c.take.new.self) _ c.take.result
    (λ b takes g ahead label layout matches behind all can visible who.
    let caught_up = progress_caught_up p c.args.t g in
    let here = (c.in_ok-catch_up.ensures.catches_up g ahead matches behind all).1 in
    let found = found_so p s c.args.t caught_up label can visible who f same here
    (option_map kind_of c.in_ok-kind.field-0)
    (λ l. c.in_ok-kind.ensures l (c.in_ok-catch_up.ensures.kept.1 ∙ layout ∙ ap layout_of (sym same))) in
    follows_so p s c.args.t caught_up label can visible who f same here k
    (sym (ap (option_map kind_of) c.in-Some.is) ∙ found) b c.take.new.self takes) c.take.ensures.takes

pub returns-in-None-clause-follows : goal.returns-in-None-clause-follows
returns-in-None-clause-follows c = λ g ahead label layout matches behind all can visible who.
    let p = followed c.args.self.now in
    let f = c.catch_up.new.self in
    let same = same_followed f c.args.self.now c.in_ok-catch_up.ensures.kept.0 c.in_ok-catch_up.ensures.kept.1 in
    let s = shown c.args.machine.now in
    let caught_up = progress_caught_up p c.args.t g in
    let here = (c.in_ok-catch_up.ensures.catches_up g ahead matches behind all).1 in
    let found = found_so p s c.args.t caught_up label can visible who f same here
    (option_map kind_of c.in_ok-kind.field-0)
    (λ l. c.in_ok-kind.ensures l (c.in_ok-catch_up.ensures.kept.1 ∙ layout ∙ ap layout_of (sym same))) in
    none_some (name_of label) (sym found ∙ ap (option_map kind_of) c.in-None.is)
