use Rattle.std.proofs.Common.{map, ap, ◌∙◌, take, length}
use Rattle.scanner.specs.declared.refusal.RefusalKind.TheVariants.{Redeclared, Limit}
use Rattle.syntax.specs.View.{parameter_of, local_of}
use Rattle.types.specs.Judgement.{IsRepeated, IsPast}
use Rattle.types.specs.Limits.{most_parameters, most_locals}
use Rattle.types.specs.Names.{parameter_names, body_scope}
use Rattle.unit_faults.specs.Collected.{OfKind}
use Rattle.unit_faults.proofs.Collecting.{collects_sum}
use Rattle.unit_faults.proofs.Uses.{repeated_of, past_of}
use Rattle.unit_faults.proofs.Views.{body_names, first_names}
use Rattle.unit_faults.proofs.declared.body.Goals as goal

pub returns : goal.returns
returns c =
    let ps = c.args.parameters.now in
    let ls = c.args.locals.now in
    let scope = body_scope (map parameter_of ps) (map local_of ls) in
    collects_sum _ (OfKind Limit (IsPast most_parameters (parameter_names (map parameter_of ps)))) c.args.least
    c.past-within.result c.past.result
    (collects_sum (OfKind Redeclared (IsRepeated scope)) (OfKind Limit
    (IsPast most_locals scope)) c.args.least c.in_ok-distinct.distinct
    c.past-within.result
    (repeated_of _ _ scope c.args.least c.in_ok-distinct.distinct (c.deref.ensures.value
    ∙ c.in_ok-names.ensures) (body_names ps ls)
    c.in_ok-distinct.ensures)
    (past_of most_locals _ _ scope c.in_ok-distinct.distinct c.past-within.result (c.deref-2.ensures.value
    ∙ c.in_ok-names.ensures)
    (body_names ps ls) c.past-within.ensures))
    (past_of most_parameters _ _ (parameter_names (map parameter_of ps)) c.past-within.result c.past.result
    (ap (take (length ps)) (c.deref-3.ensures.value ∙ c.in_ok-names.ensures)) (first_names ps ls) c.past.ensures)
