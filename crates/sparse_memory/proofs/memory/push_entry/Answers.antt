use Rattle.std.proofs.Common.{◌≡◌, ◌∙◌, ap, set, subst}
use Rattle.sparse_memory.specs.Spread.{put_yet, spread}
use Rattle.sparse_memory.proofs.Spreading.{put_beside, put_twice, spread_push}
use Rattle.sparse_memory.proofs.memory.push_entry.Goals as goal

pub returns-then-put : goal.returns-then-put
returns-then-put c = λ empty before was.
    ap (spread empty) c.in_ok-push.ensures.items
    ∙ spread_push empty c.args.entries.now.items c.args.entry
    ∙ put_beside before (spread empty c.args.entries.now.items) c.args.a (put_yet c.args.put c.args.v) c.args.entry.0
    c.args.entry.1 c.if-entry-a.false was

pub returns : goal.returns
returns c = λ empty before was.
    let old = c.args.entries.now.items in
    let none : spread empty old ≡ set before c.args.a 0 =
    subst (λ b. spread empty old ≡ set before c.args.a (put_yet b c.args.v)) c.if-put.false was in
    let put : spread empty c.push-2.new.self.items ≡ set before c.args.a c.args.v =
    ap (spread empty) c.in_ok-push-2.ensures.items ∙ spread_push empty old (c.args.a, c.args.v)
    ∙ put_twice before (spread empty old) c.args.a 0 c.args.v none in
    ap (spread empty) c.in_ok-push-3.ensures.items
    ∙ spread_push empty c.push-2.new.self.items c.args.entry
    ∙ put_beside before (spread empty c.push-2.new.self.items) c.args.a c.args.v c.args.entry.0 c.args.entry.1
    c.if-entry-a.false put
