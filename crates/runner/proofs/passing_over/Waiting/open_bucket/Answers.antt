use Rattle.std.proofs.Common.{[], refl, arith}
use Rattle.std.proofs.lemmas.Option.{slice_get-get_or}
use Rattle.runner.proofs.Noting.{bit_cleared, clear_bit}
use Rattle.runner.proofs.Shutting.{opened_sound}
use Rattle.runner.proofs.passing_over.Waiting.open_bucket.Goals as goal

pub returns-clause-opened : goal.returns-clause-opened
returns-clause-opened c = bit_cleared c.args.self.now.shut c.args.bucket c.requires.bucket

pub returns-clause-others : goal.returns-clause-others
returns-clause-others c = λ b inside other. clear_bit c.args.self.now.shut c.args.bucket b c.requires.bucket inside other

pub returns-clause-sound : goal.returns-clause-sound
returns-clause-sound c =
    opened_sound c.args.self.now _ c.args.bucket _ c.requires.sound
    (slice_get-get_or c.args.self.now.wanting c.args.bucket (record { words = [] }) (omega arith)) refl refl (returns-clause-others c)
    c.put_all.ensures
