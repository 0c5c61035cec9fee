use Rattle.std.proofs.Common.{◌≡◌, ◌∙◌, length, map, take, arith, sym, subst}
use Rattle.std.proofs.lemmas.List.{length-map, length-take-le}
use Rattle.syntax.specs.View.{name_of}
use Rattle.types.specs.Tables.{IsTable}
use Rattle.callees.proofs.Growing.{map_more}
use Rattle.callees.proofs.monitor_names.external_names.Goals as goal

pub declare-requires : goal.declare-requires
declare-requires c =
    let qs = c.args.procedures.now in
    let i = c.loop-procedure.procedure-index in
    let f : length (map (λ q. name_of q.name) (take i qs)) ≡ i =
    length-map (take i qs) (λ q. name_of q.name)
    ∙ length-take-le i qs c.loop-procedure.auto.procedure-index-end in
    let g = c.loop-procedure.invariant.0 in
    omega arith

pub loop-procedure-preserved : goal.loop-procedure-preserved
loop-procedure-preserved c = subst (λ ns. IsTable ns c.declare.new.self)
    (sym (map_more (λ q. name_of q.name) c.args.procedures.now c.loop-procedure.procedure-index c.procedure-item.result
    c.loop-procedure-test.true c.procedure-item.is)) (c.in_ok-declare.ensures.declared _ c.loop-procedure.invariant)
