use Rattle.std.proofs.Common.{◌++◌, Some}
use Rattle.program.specs.declared.kinds.ValueType.TheVariants.{Process, Integer}
use Rattle.syntax.specs.View.{expression_of, option_name}
use Rattle.types.specs.CallFaults.{recover_faults}
use Rattle.types.specs.StatementFaults.{typed_faults, into_faults}
use Rattle.types.proofs.Gathered.{gathers_both}
use Rattle.body_faults.proofs.simple.join.Goals as goal

pub returns : goal.returns
returns c = λ s h r.
    let e = expression_of c.args.process.now in
    gathers_both (recover_faults s c.args.place ++ typed_faults s Process e)
    (into_faults s (Some Integer) (option_name c.args.name)) c.args.least c.typed-second.result c.into.result
    (gathers_both (recover_faults s c.args.place) (typed_faults s Process e) c.args.least c.recover-first.result
    c.typed-second.result (c.recover-first.ensures s r) (c.typed-second.ensures s h)) (c.into.ensures s h)
