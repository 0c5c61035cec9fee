use Rattle.std.proofs.Common.{[], refl, arith}
use Rattle.std.proofs.lemmas.Option.{slice_get-get_or}
use Rattle.runner.proofs.Shutting.{left_sound}
use Rattle.runner.proofs.passing_over.Waiting.leave_set.Goals as goal

pub returns-clause-sound : goal.returns-clause-sound
returns-clause-sound c =
    left_sound c.args.self.now _ c.args.t c.args.bucket _ c.put.new.self c.requires.sound c.requires.noted
    (slice_get-get_or c.args.self.now.wanting c.args.bucket (record { words = [] })
    (omega (arith, c.requires.sound.few c.args.t c.args.bucket c.requires.noted))) refl refl refl c.put.ensures.here
    c.put.ensures.others c.put-2.ensures.here c.put-2.ensures.others
