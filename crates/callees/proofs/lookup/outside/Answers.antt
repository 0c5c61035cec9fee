use Rattle.std.proofs.Common.{IfOk, map, sym, subst}
use Rattle.syntax.specs.View.{name_of, procedure_of}
use Rattle.types.specs.Tables.{IsTable}
use Rattle.callees.proofs.Growing.{map_twice, on_ok}
use Rattle.callees.proofs.lookup.outside.Goals as goal

pub returns-clause-pieces : goal.returns-clause-pieces
returns-clause-pieces c = on_ok c.external_names.result _ c.in_ok-push_rest.ensures

pub returns-clause-names : goal.returns-clause-names
returns-clause-names c =
    let r = c.external_names.result in
    subst (λ ns. IfOk r (λ t. IsTable ns t))
    (sym (map_twice (λ q. q.name) procedure_of c.args.unit.now.procedures.items))
    (subst (λ xs. IfOk r (λ t. IsTable (map (λ q. name_of q.name) xs) t)) c.deref.ensures.value
    c.external_names.ensures)
