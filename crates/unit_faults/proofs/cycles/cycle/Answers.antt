use Rattle.std.proofs.Common.{◌≡◌}
use Rattle.std.specs.Prelude.{IsTrue}
use Rattle.scanner.specs.declared.refusal.RefusalKind.TheVariants.{Recursion}
use Rattle.callgraph.specs.Calls.{Leads}
use Rattle.types.specs.Faults.{fault}
use Rattle.unit_faults.proofs.Collecting.{collects_same, collects_fewer}
use Rattle.unit_faults.proofs.cycles.cycle.Goals as goal

pub returns-then-is_behind : goal.returns-then-is_behind
returns-then-is_behind c calls g =
    collects_fewer (λ e. Leads calls c.args.number c.args.number × (e ≡ fault Recursion c.args.place))
    (λ e. e ≡ fault Recursion c.args.place) c.args.least (λ e w. w.1) (c.is_behind.ensures c.if-is_behind.true)

pub returns : goal.returns
returns c calls g =
    let n = c.args.number in
    collects_same (λ e. IsTrue c.in_ok-itself.itself × (e ≡ fault Recursion c.args.place))
    (λ e. Leads calls n n × (e ≡ fault Recursion c.args.place)) c.args.least c.note_where.result
    (λ e w. (c.in_ok-itself.ensures.sound calls g w.0, w.1))
    (λ e w. (c.in_ok-itself.ensures.complete calls g w.0, w.1)) c.note_where.ensures
