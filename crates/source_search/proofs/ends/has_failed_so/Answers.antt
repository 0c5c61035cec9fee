use Rattle.std.proofs.Common.{◌∙◌, ap}
use Rattle.meaning.specs.Processes.{Over}
use Rattle.source_offers.specs.Frames.{callers_of, frame_of}
use Rattle.source_offers.specs.Stages.{end_of, process_of, standing}
use Rattle.source_search.proofs.Endings.{failed_so}
use Rattle.source_search.proofs.ends.has_failed_so.Goals as goal

pub returns-in-Aborted : goal.returns-in-Aborted
returns-in-Aborted c =
    failed_so (process_of c.args.process.now) c.in-Aborted.cause c.args.outside c.is_counted.result
    (ap (λ stage. standing stage (frame_of c.args.process.now.frame) (callers_of c.args.process.now.callers.items))
    c.in-Over.is ∙ ap (λ end. Over (end_of end)) c.in-Aborted.is)
    c.is_counted.ensures
