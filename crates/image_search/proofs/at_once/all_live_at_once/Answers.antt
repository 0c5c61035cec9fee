use Rattle.std.proofs.Common.{◌≡◌, ◌≤◌, All, arith, length, subst, true}
use Rattle.image_search.proofs.Flagging.{all_wakened, known_none}
use Rattle.image_search.proofs.at_once.all_live_at_once.Goals as goal

pub mark_often-requires-clause-known : goal.mark_often-requires-clause-known
mark_often-requires-clause-known c = λ t.
    known_none c.args.image.now t c.args.kept.now c.in_ok-flags.flags.items c.in_ok-flags.ensures

pub returns-clause-wakened : goal.returns-clause-wakened
returns-clause-wakened c = λ e t.
    let kept = c.mark_often.new.kept in
    let flags = c.mark_often.new.flags in
    let long : length kept.states.items ≤ length flags.items =
    omega (arith, c.if-len.false, c.len-2.ensures, c.len-3.ensures, flags.ok.0, kept.states.ok.0) in
    all_wakened c.args.image.now t kept flags.items (c.in_ok-mark_often.ensures.known t) long
    (subst (All (λ flag. flag ≡ true)) c.as_slice.ensures.value (c.are_all-all.ensures e))
