use Rattle.types.proofs.InSight.{names_step, kinds_step, parameter_names_step, parameter_kinds_step}
use Rattle.types.proofs.InSight.{parameters_in_scope, parameters_have_kinds}
use Rattle.types.proofs.standing.NameScope.new.Goals as goal

pub loop-parameter-preserved : goal.loop-parameter-preserved
loop-parameter-preserved c = record {
  names = parameter_names_step c.args.parameters.now c.loop-parameter.parameter-index _ c.declare.new.self
      c.loop-parameter-test.true (c.in_ok-declare.ensures.declared _ c.loop-parameter.invariant.names);
  kinds = parameter_kinds_step c.args.parameters.now c.loop-parameter.parameter-index _ _ _ _
      c.loop-parameter-test.true c.in_ok-push.ensures.items c.local_kind.ensures c.loop-parameter.invariant.kinds;
}

pub loop-local-init : goal.loop-local-init
loop-local-init c = record {
  names = parameters_in_scope c.args.parameters.now c.loop-parameter.parameter-index c.loop-parameter.table
      c.loop-parameter-test.false
      c.loop-parameter.invariant.names;
  kinds = parameters_have_kinds c.args.parameters.now c.loop-parameter.parameter-index _ c.loop-parameter-test.false
      c.loop-parameter.invariant.kinds;
}

pub loop-local-preserved : goal.loop-local-preserved
loop-local-preserved c = record {
  names = names_step _ c.args.locals.now c.loop-local.local-index _ c.declare-in-loop-local.new.self
      c.loop-local-test.true
      (c.in_ok-declare-2.ensures.declared _ c.loop-local.invariant.names);
  kinds = kinds_step _ c.args.locals.now c.loop-local.local-index _ _ _ _ c.loop-local-test.true
      c.in_ok-push-2.ensures.items c.local_kind-in-loop-local.ensures c.loop-local.invariant.kinds;
}
