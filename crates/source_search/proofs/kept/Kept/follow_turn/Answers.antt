use Rattle.std.proofs.Common.{subst, suc, sym}
use Rattle.std.specs.Prelude.{IfOk, IfSome}
use Rattle.program.specs.Views.{program_of}
use Rattle.proof_exploration.specs.Exploring.{awake}
use Rattle.source_search.specs.Covered.{IsFollowedOwn}
use Rattle.source_search.specs.Kept.{states_of}
use Rattle.source_search.specs.Packed.{unpacked}
use Rattle.source_search.proofs.Woken.{awake_already}
use Rattle.source_search.proofs.kept.Kept.follow_turn.Goals as goal

pub returns-then-not-is_woken-clause-followed : goal.returns-then-not-is_woken-clause-followed
returns-then-not-is_woken-clause-followed c =
    let parts = c.args.self.now.parts in
    let x = c.args.packed.now in
    subst (λ s. IfOk c.follow_spot.result (λ o. IfSome o (λ moves. IsFollowedOwn (program_of c.args.checked.now.tree)
    (states_of c.follow_spot.new.self) s (suc c.args.place))))
    (sym (awake_already parts x c.args.place c.in-Some.spot c.args.strays c.in-Some.ensures
    (c.is_woken.ensures.awake c.if-not-is_woken.true))) c.follow_spot.ensures.followed

pub returns-clause-followed : goal.returns-clause-followed
returns-clause-followed c =
    subst (λ b. IsFollowedOwn (program_of c.args.checked.now.tree) (states_of c.follow_woken.new.self)
    (awake b (suc c.args.place) (unpacked c.args.self.now.parts c.args.packed.now)) (suc c.args.place))
    (sym (c.is_woken.ensures.strays c.if-not-is_woken.false)) (c.in_ok-follow_woken.ensures.followed c.if-not-branch.false)
