use Rattle.std.proofs.Common.{◌≡◌, ◌∙◌, ap, set, subst}
use Rattle.sparse_memory.specs.Spread.{put_yet, spread}
use Rattle.sparse_memory.proofs.Spreading.{put_twice, spread_push}
use Rattle.sparse_memory.proofs.memory.push_last.Goals as goal

pub returns-in_ok-push : goal.returns-in_ok-push
returns-in_ok-push c = λ empty before was.
    let old = c.args.entries.now.items in
    let none : spread empty old ≡ set before c.args.a 0 =
    subst (λ b. spread empty old ≡ set before c.args.a (put_yet b c.args.v)) c.if-not-put.true was in
    ap (spread empty) c.in_ok-push.ensures.items ∙ spread_push empty old (c.args.a, c.args.v)
    ∙ put_twice before (spread empty old) c.args.a 0 c.args.v none
