use Rattle.std.proofs.Common.{◌∙◌, ◌==◌, ap, sym}
use Rattle.machine.specs.Views.{address_of}
use Rattle.image_states.specs.Crowds.{counted}
use Rattle.image_search.proofs.Crowding.{counted_by, few_by}
use Rattle.image_search.proofs.crowds.counted.Goals as goal

pub returns-in_default-clause-is : goal.returns-in_default-clause-is
returns-in_default-clause-is c = ap (λ o. counted (address_of o) c.args.a.0) (sym c.in_default.is)

pub returns-clause-is : goal.returns-clause-is
returns-clause-is c =
    counted_by (c.in-Some.other.0 == c.args.a.0) c.one_if.result c.one_if.ensures.yes c.one_if.ensures.no
    ∙ ap (λ o. counted (address_of o) c.args.a.0) (sym c.in-Some.is)

pub returns-clause-few : goal.returns-clause-few
returns-clause-few c =
    few_by (c.in-Some.other.0 == c.args.a.0) c.one_if.result c.one_if.ensures.yes c.one_if.ensures.no
