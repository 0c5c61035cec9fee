-- The thread of this number is the one that was looked at.
use Rattle.std.proofs.Common.{◌≡◌, ◌≤◌, length, Some, sym, ap, ◌∙◌, arith}
use Rattle.locals.specs.Threads.{Thread}
use Rattle.locals.specs.Looks.{look}
use Rattle.locals.specs.Requests.{call_in, next_step_of}
use Rattle.machine.specs.States.{thread_of}
use Rattle.machine.specs.Views.{View, concrete}
use Rattle.machine.proofs.Whole.{stands_at}
use Rattle.machine.proofs.machine.Machine.call_ahead.Goals as goal

one_thread : (x y : Thread) → Some x ≡ Some y → x ≡ y
one_thread x y h = cc

pub returns : goal.returns
returns c = λ x at.
    let y = c.index.result.now in
    let threads = c.self.inside.threads.items in
    let many : length threads ≡ length c.args.self.now.threads = ap (λ (v : View). length v.threads) c.self.view_is in
    let few : c.args.t ≤ length threads = omega (arith, many, c.requires.1) in
    let stands : thread_of (concrete c.args.self.now) c.args.t ≡ Some y =
    ap (λ (v : View). thread_of (concrete v) c.args.t) (sym c.self.view_is)
    ∙ stands_at threads c.args.t y y c.requires.0 few c.index.ensures in
    c.call_ahead.ensures c.args.t
    ∙ ap (λ (z : Thread). call_in (next_step_of (look c.self.inside.image c.args.t z))) (one_thread y x (sym stands ∙ at))
    ∙ ap (λ (v : View). call_in (next_step_of (look v.program c.args.t x))) c.self.view_is
