use Rattle.std.proofs.Common.{◌∙◌, ap, sym, map}
use Rattle.syntax.specs.View.{name_of}
use Rattle.types.specs.declared.table.TheConstants.{MOST_COMPARED}
use Rattle.std.proofs.Common.{take}
use Rattle.types.proofs.Compared.{few_listed, number_listed, number_of_few, number_hashed}
use Rattle.types.proofs.table.Table.find.Goals.{then-is_some-via-then-is_some}
use Rattle.types.proofs.table.Table.find.Goals.{then-is_some-via-else-is_some+then-self-le-MOST_COMPARED}
use Rattle.types.proofs.table.Table.find.Goals as goal

pub returns-then-is_some : goal.returns-then-is_some
returns-then-is_some c names h =
    let at = c.position-compared.ensures (take MOST_COMPARED names)
    (ap (map (λ x. x.now)) c.deref.ensures.value ∙ h.1) (few_listed names) in
    elim c.then-is_some.branch [
      | then-is_some-via-then-is_some w ↦ number_listed names c.args.self.now (name_of c.args.name) _ h at
          (sym c.is_some.ensures ∙ w.if-is_some.true)
      | then-is_some-via-else-is_some+then-self-le-MOST_COMPARED w ↦
          number_of_few names c.args.self.now (name_of c.args.name) _ h at w.if-self-le-MOST_COMPARED.true
    ]

pub returns : goal.returns
returns c names h =
    let at = c.position-compared.ensures (take MOST_COMPARED names)
    (ap (map (λ x. x.now)) c.deref.ensures.value ∙ h.1) (few_listed names) in
    c.copied.ensures ∙ c.get.ensures.value
    ∙ number_hashed names c.args.self.now (name_of c.args.name) _ h at (sym c.is_some.ensures ∙ c.if-is_some.false)
