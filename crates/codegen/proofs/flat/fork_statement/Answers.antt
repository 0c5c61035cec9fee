use Rattle.std.proofs.Common.{length, map, arith, length-append}
use Rattle.program.specs.Views.{expression_of}
use Rattle.lowering.specs.Expressions.{arguments_code}
use Rattle.lowering.specs.Processes.{fork_code}
use Rattle.codegen.specs.Sites.{said_at}
use Rattle.codegen.proofs.Arguments.{arguments_length}
use Rattle.codegen.proofs.Failing.{failed}
use Rattle.codegen.proofs.flat.fork_statement.Goals as goal

pub returns-in_err-count : goal.returns-in_err-count
returns-in_err-count c =
    let p = said_at c.args.site.now in
    let es = map expression_of c.args.es.now in
    let few = arguments_length p c.args.es.now in
    let both = length-append (arguments_code p es) (fork_code c.args.procedure (length es) c.args.into) in
    failed c.from_residual.result c.in_err-count.field-0.0 _ _ _ c.from_residual.ensures c.in_err-count.ensures
    (omega arith)
