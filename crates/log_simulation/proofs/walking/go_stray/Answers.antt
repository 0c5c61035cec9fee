-- The wake is one that is due, or none.
use Rattle.std.proofs.Common.{length}
use Rattle.piece_machine.specs.PieceViews.{parts}
use Rattle.log_simulation.specs.Entries.{progress_strayed}
use Rattle.log_simulation.proofs.Keeping.{keeps_outside, sleeps_within}
use Rattle.log_simulation.proofs.Progressing.{one_stray, stray_due}
use Rattle.log_simulation.proofs.Records.{when_true}
use Rattle.log_simulation.proofs.walking.go_stray.Goals as goal

pub returns-clause-told : goal.returns-clause-told
returns-clause-told c = λ _ p own w events along.
    let t = c.args.t in
    let k = parts c.args.machine.now in
    let new = parts c.take_stray.new.machine in
    let event = c.args.event.now in
    let g = along.source in
    let gives = when_true _ _ c.take_stray.result c.take_stray.ensures.gives c.if-not-take_stray.false in
    let told = c.in_ok-take_stray.ensures p (length events) g along.of_program
    (sleeps_within p events k new g t event along.comes gives) along.told
    (λ short member is. stray_due p w events k new t event g along.comes gives short member is) in
    keeps_outside p events k new t event (progress_strayed p t event.value g) c.args.recorder.now
    c.take_stray-2.new.self along told.0 (one_stray p events k new t event g along.comes gives) told.1
