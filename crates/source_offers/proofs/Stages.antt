-- What comes of a JOIN.
use Rattle.std.proofs.Common.{◌≡◌, Bor, ℕ, List, Option, Some, None, ap, sym, ◌∙◌}
use Rattle.program.specs.declared.statement.Statement.{Statement as StatementOf}
use Rattle.program.specs.Trees.{Block}
use Rattle.program.specs.Views.{block_before}
use Rattle.meaning.specs.Processes.{Caller, Process, goes_on}
use Rattle.meaning.specs.Offers.{after_join}
use Rattle.words.specs.declared.outcome.Cause.{Cause}
use Rattle.source_offers.specs.declared.process.End.{End as EndOf}
use Rattle.source_offers.specs.declared.process.End.TheVariants.{Aborted as Aborted'}
use Rattle.source_offers.specs.declared.frame.Frame.{Frame as FrameOf}
use Rattle.source_offers.specs.Frames.{frame_of}
use Rattle.source_offers.specs.Rests.{rest_in}
use Rattle.source_offers.specs.Stages.{part_at, end_of}
use Rattle.source_offers.proofs.Rests.{followed_by-block}

-- the ABORTED part comes before what is left
pub joining : (x : Process) (into : Option ℕ) (end : EndOf) (cause : Cause)
    (aborted : Option (Bor (List StatementOf)))
    (block : Bor (List StatementOf)) (f : FrameOf) (rest : Block) (callers : List Caller)
    → end ≡ Aborted' cause → aborted ≡ Some block → x ≡ goes_on None (record (frame_of f) { rest = rest }) callers
    → rest ≡ block_before block.now (rest_in f.rest.items)
    → x ≡ after_join into (part_at aborted) (frame_of f) callers (end_of end)
joining x into end cause aborted block f rest callers over part is pushed =
    is
    ∙ ap (λ b. goes_on None (record (frame_of f) { rest = b }) callers)
    (pushed ∙ sym (followed_by-block block.now (rest_in f.rest.items)))
    ∙ sym (λ i. after_join into (part_at (part i)) (frame_of f) callers (end_of (over i)))
