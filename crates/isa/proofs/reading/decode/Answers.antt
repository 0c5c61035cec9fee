use Rattle.std.proofs.Common.{arith}
use Rattle.isa.proofs.ProgramLaws.{is_found, is_only}
use Rattle.isa.proofs.reading.decode.Goals as goal

pub returns-clause-found : goal.returns-clause-found
returns-clause-found c = is_found c.args.bytes.now c.image.result (λ i. omega (arith, c.type_inv.bytes i))
    c.image.ensures

pub returns-clause-only : goal.returns-clause-only
returns-clause-only c = is_only c.args.bytes.now c.image.result c.image.ensures
