use Rattle.std.proofs.Common.{◌≡◌, Some, ap, ◌∙◌, sym, refl, length, slice_get}
use Rattle.std.proofs.lemmas.Option.{slice_get_read}
use Rattle.syntax.specs.View.{name_of}
use Rattle.callees.proofs.Found.{inner_found}
use Rattle.callees.proofs.callees.Callees.inner_procedure.Goals as goal

pub returns : goal.returns
returns c = λ u h.
    let xs = c.deref.result.now in
    let n = c.in_ok-names.names.now in
    let l = c.in_ok-names.ensures.lookup in
    let e : slice_get c.args.self.now.inner.items c.args.monitor ≡ Some n =
    sym (ap (λ ys. slice_get ys c.args.monitor) c.deref.ensures.value)
    ∙ slice_get_read xs (length xs) c.args.monitor n refl l.3.0 l.1 in
    let k = h.inner c.args.monitor n e in
    inner_found u c.args.monitor k.0 (name_of c.args.name) n.first_piece c.in_ok-number.number c.checked_add.result
    h.few k.1 k.3 (c.in_ok-number.ensures k.0 k.2) c.checked_add.ensures
