use Rattle.std.proofs.Common.{◌≡◌, Some, ap, ◌∙◌, sym, refl, length, slice_get, arith}
use Rattle.std.proofs.lemmas.Option.{slice_get_read}
use Rattle.program.specs.Scope.{own_monitor}
use Rattle.callees.proofs.Few.{own_within}
use Rattle.callees.proofs.callees.Callees.own.Goals as goal

pub returns-in_err-names : goal.returns-in_err-names
returns-in_err-names c = λ s h p e.
    let m = c.in_ok-monitor.monitor in
    let lt = own_within s.unit s.piece m p (ap own_monitor e ∙ sym c.in_ok-monitor.ensures) in
    let l = c.in_err-names.ensures.lookup in
    let f = ap length c.deref.ensures.value in
    absurd (omega (arith, l.3))

pub returns : goal.returns
returns c = λ s h p e.
    let xs = c.deref.result.now in
    let m = c.in_ok-monitor.monitor in
    let n = c.in_ok-names.names.now in
    let l = c.in_ok-names.ensures.lookup in
    let at : slice_get c.args.self.now.inner.items m ≡ Some n =
    sym (ap (λ ys. slice_get ys m) c.deref.ensures.value) ∙ slice_get_read xs (length xs) m n refl l.3.0 l.1 in
    let k = h.inner m n at in
    (ap own_monitor e ∙ sym c.in_ok-monitor.ensures, k.0, k.1, k.2.0)
