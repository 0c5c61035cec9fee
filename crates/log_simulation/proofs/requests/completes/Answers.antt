use Rattle.log_simulation.proofs.Visible.{taken}
use Rattle.log_simulation.proofs.requests.completes.Goals as goal

pub returns-then-value-expected : goal.returns-then-value-expected
returns-then-value-expected c = λ p version layout monitors. taken p c.args.request c.in-CompareSwap.address
    c.in-CompareSwap.expected c.in-CompareSwap.new c.args.value c.tid.result c.if-value-expected.true c.tid.ensures
    c.in-CompareSwap.is
