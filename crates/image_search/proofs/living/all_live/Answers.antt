use Rattle.std.proofs.Common.{◌≡◌, ◌≤◌, All, arith, length, subst, suc, true}
use Rattle.image_search.proofs.Flagging.{all_wakened, known_none}
use Rattle.image_search.proofs.living.all_live.Goals as goal

pub mark_on-requires-clause-known : goal.mark_on-requires-clause-known
mark_on-requires-clause-known c =
    known_none c.args.image.now (suc c.args.k) c.args.kept.now c.in_ok-flags.flags.items c.in_ok-flags.ensures

pub returns-clause-wakened : goal.returns-clause-wakened
returns-clause-wakened c = λ e.
    let kept = c.mark_on.new.kept in
    let flags = c.mark_on.new.flags in
    let long : length kept.states.items ≤ length flags.items =
    omega (arith, c.if-len.false, c.len-2.ensures, c.len-3.ensures, flags.ok.0, kept.states.ok.0) in
    all_wakened c.args.image.now (suc c.args.k) kept flags.items c.in_ok-mark_on.ensures.known long
    (subst (All (λ flag. flag ≡ true)) c.as_slice-2.ensures.value (c.are_all-all.ensures e))
