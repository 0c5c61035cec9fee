use Rattle.std.proofs.Common.{◌∙◌, sym}
use Rattle.syntax.specs.View.{name_of}
use Rattle.types.proofs.Numbers.{none_there}
use Rattle.callees.proofs.Found.{external_found}
use Rattle.callees.proofs.callees.Callees.external_procedure.Goals as goal

pub returns : goal.returns
returns c = λ u h.
    let name = name_of c.args.name in
    external_found u name c.args.self.now.first_external c.in_ok-number.number c.checked_add.result h.few h.first
    (sym (c.find.ensures _ h.monitors) ∙ none_there _ (sym c.is_some.ensures ∙ c.if-is_some.false))
    (sym (c.in_ok-number.ensures _ h.externals))
    c.checked_add.ensures
