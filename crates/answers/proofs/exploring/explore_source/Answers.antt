use Rattle.program.specs.Names.{said_by}
use Rattle.program.specs.Trees.{as_version}
use Rattle.commandline.specs.CommandLine.{version_by}
use Rattle.answers.proofs.Explored.{as_many, holds_of_image, never_failed_as, never_stuck_as, refines_own}
use Rattle.answers.proofs.exploring.explore_source.Goals as goal

pub returns : goal.returns
returns g c =
    let read = c.in_ok-checked.ensures.compiled in
    let p = said_by c.in_ok-checked.checked in
    let found = c.in_ok-exploration.ensures in
    let v = version_by c.args.exits in
    let same = as_many c.args.exits c.in_ok-checked.checked in
    record {
      accepts = read.accepts;
      found = found;
      image = holds_of_image c.image_laws.ensures.never_hangs c.image_laws.ensures.never_aborts
          c.image_laws.ensures.pieces_never_hang c.image_laws.ensures.pieces_never_abort (as_version v p) c.args.outside
          c.in_ok-exploration.exploration
          (refines_own v c.args.text.now _ p (λ q r. c.text_laws.ensures.one_program c.args.text.now q r) read.accepts
          read.compiled)
          (λ complete none. never_stuck_as v p same c.args.outside (found.never_stuck complete none))
          (λ complete none. never_failed_as v p same c.args.outside (found.never_aborted complete none));
    }
