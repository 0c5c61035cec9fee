use Rattle.std.proofs.Common.{subst, suc}
use Rattle.image_search.specs.Living.{IsThere}
use Rattle.image_search.proofs.Slept.{sleeps_in}
use Rattle.image_search.proofs.sleeping.sleeps_for_good.Goals as goal

pub returns-clause-sleeps : goal.returns-clause-sleeps
returns-clause-sleeps c = λ e same.
    let p = c.args.image.now in
    let kept = c.is_closed.new.kept in
    sleeps_in p (suc c.args.k) kept c.args.flags.now c.args.place c.args.last.now same c.machine.ensures.fit
    (c.holds_none.ensures c.if-not-holds_none.false) (c.is_flagged.ensures.is c.if-not-is_flagged.false)
    (c.in_ok-is_closed.ensures.closed c.if-not-branch.false)
    (subst (λ v. IsThere p kept c.args.place v) c.machine.ensures.shows (c.is_there-is.ensures e))
