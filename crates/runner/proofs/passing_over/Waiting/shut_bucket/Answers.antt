use Rattle.std.proofs.Common.{[], refl, arith}
use Rattle.std.proofs.lemmas.Option.{slice_get-get_or}
use Rattle.piece_machine.specs.PieceViews.{parts}
use Rattle.runner.proofs.Noting.{bit_put, held_some, inside_here, put_bit}
use Rattle.runner.proofs.Shutting.{shut_held, shut_sound}
use Rattle.runner.proofs.passing_over.Waiting.shut_bucket.Goals as goal

pub holder-requires : goal.holder-requires
holder-requires c =
    inside_here c.args.machine.now c.machine.result.now c.args.bucket c.machine.ensures.shows c.requires.buckets
    c.requires.bucket

pub returns-clause-sound : goal.returns-clause-sound
returns-clause-sound c =
    shut_sound c.args.self.now _ c.args.bucket _ c.requires.sound
    (slice_get-get_or c.args.self.now.wanting c.args.bucket (record { words = [] }) (omega arith)) refl refl
    (bit_put c.args.self.now.shut c.args.bucket c.requires.bucket)
    (λ b inside other. put_bit c.args.self.now.shut c.args.bucket b c.requires.bucket other) c.take_all.ensures

pub returns-clause-held : goal.returns-clause-held
returns-clause-held c =
    let h = held_some c.args.machine.now c.machine.result.now c.args.bucket c.holder.result c.is_none.result
    c.machine.ensures.shows c.holder.ensures c.is_none.ensures c.if-is_none.false in
    shut_held (parts c.args.machine.now) c.args.self.now.shut _ c.args.bucket h.0 c.requires.held h.1
    (λ b inside other. put_bit c.args.self.now.shut c.args.bucket b c.requires.bucket other)
