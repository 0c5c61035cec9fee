use Rattle.std.proofs.Common.{Contains, subst, sym, ℕ}
use Rattle.piece_machine.specs.PieceViews.{pieces}
use Rattle.proof_image_liveness.specs.Sleeping.{SleepsForGood}
use Rattle.image_search.proofs.Flagging.{still_none}
use Rattle.image_search.proofs.Slept.{all_more}
use Rattle.image_search.proofs.sleeping.add_sleeper.Goals as goal

pub returns-in_default-clause-still : goal.returns-in_default-clause-still
returns-in_default-clause-still c = still_none c.args.kept.now

pub returns-clause-sleep : goal.returns-clause-sleep
returns-clause-sleep c = λ same.
    let p = c.args.image.now in
    let s = pieces c.args.last.now in
    subst (λ ts. (u : ℕ) → Contains ts u → SleepsForGood p s u) (sym c.in_ok-push.ensures.items)
    (all_more p s c.args.threads.now.items c.in-Some.t (c.requires.sleep same)
    (subst (SleepsForGood p s) (sym c.in-Some.ensures.some)
    (c.in_ok-is_sleeper.ensures.sleeps c.if-not-branch.false same)))
