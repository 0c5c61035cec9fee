use Rattle.std.proofs.Common.{[], refl, arith}
use Rattle.std.proofs.lemmas.Option.{slice_get-get_or}
use Rattle.runner.proofs.Shutting.{entered_sound}
use Rattle.runner.proofs.passing_over.Waiting.enter.Goals as goal

pub returns-clause-sound : goal.returns-clause-sound
returns-clause-sound c =
    entered_sound c.args.self.now _ c.args.t c.args.bucket _ c.put.new.self c.requires.sound c.requires.none c.requires.bucket
    (slice_get-get_or c.args.self.now.wanting c.args.bucket (record { words = [] }) (omega arith)) refl refl refl refl c.put.ensures.here
    c.put.ensures.others
