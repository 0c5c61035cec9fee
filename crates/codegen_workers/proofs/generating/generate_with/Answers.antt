use Rattle.std.proofs.Common.{◌≡◌, ◌<◌, arith, map, subst}
use Rattle.std.specs.Prelude.{IfOk, IfErr}
use Rattle.program.specs.Trees.{as_version}
use Rattle.program.specs.Views.{program_of}
use Rattle.codegen.specs.Generated.{piece_of, unlinked_pieces, RefusesPieces}
use Rattle.codegen_workers.proofs.Handing.{memory_alone, whole_made}
use Rattle.codegen_workers.proofs.generating.generate_with.Goals as goal

pub returns-clause-made : goal.returns-clause-made
returns-clause-made g c =
    let v = c.args.layout.now.version in
    let some = c.requires.workers.0 in
    let there : 0 < c.args.workers = omega (arith, some) in
    subst (λ t. IfOk c.finish.result
    (λ pieces. map piece_of pieces.items ≡ unlinked_pieces (as_version v (program_of t))))
    c.program-program.ensures.is
    (whole_made (as_version v (program_of c.program-program.result.now)) c.args.workers
    c.in_ok-collector.collector there c.in_ok-collector.ensures.all c.finish.result
    c.finish.ensures.whole)

pub returns-clause-refusal : goal.returns-clause-refusal
returns-clause-refusal g c =
    let v = c.args.layout.now.version in
    let some = c.requires.workers.0 in
    let there : 0 < c.args.workers = omega (arith, some) in
    subst (λ t. IfErr c.finish.result (λ e. RefusesPieces (as_version v (program_of t)) e))
    c.program-program.ensures.is
    (memory_alone (as_version v (program_of c.program-program.result.now)) c.args.workers
    c.in_ok-collector.collector there c.in_ok-collector.ensures.all c.finish.result
    c.finish.ensures.no_gap)
