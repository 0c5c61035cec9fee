use Rattle.std.proofs.Common.{◌≡◌, subst, true}
use Rattle.std.specs.Prelude.{IfOk}
use Rattle.program.specs.Views.{program_of}
use Rattle.source_search.specs.Found.{interleaves}
use Rattle.source_search.specs.Kept.{IsSeen, states_of}
use Rattle.source_search.proofs.runs.keep_opening.Goals as goal

pub returns-clause-seen : goal.returns-clause-seen
returns-clause-seen c =
    subst (λ s. IfOk c.open.result (λ opens. opens ≡ true → IsSeen (program_of c.args.checked.now.tree)
    (interleaves c.args.outside) (states_of c.open.new.self) s)) c.in_ok-opening.ensures c.open.ensures.seen
