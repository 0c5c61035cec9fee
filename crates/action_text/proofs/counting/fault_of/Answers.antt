use Rattle.std.proofs.Common.{codes}
use Rattle.action_text.proofs.Numbers.{fault_there}
use Rattle.action_text.proofs.counting.fault_of.Goals as goal

pub returns : goal.returns
returns c =
    fault_there c.args.text.now (codes "fault ") c.in-Some.value c.fault_numbered-fault.result c.in-Some.ensures.0
    c.in-Some.ensures.1 c.fault_numbered-fault.ensures
