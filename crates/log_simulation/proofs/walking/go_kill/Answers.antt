-- The kill is one that is due, or of a thread that is dying.
use Rattle.std.proofs.Common.{◌≡◌, ◌+◌, ◌∙◌, ℕ, Ok, Option, ap, length, subst, sym}
use Rattle.std.proofs.lemmas.Bool.{eq-eqb, ne_eqb}
use Rattle.std.specs.Prelude.{◌<◌, ◌^◌, true, false}
use Rattle.isa.specs.Programs.{Program as Image}
use Rattle.machine.specs.States.{State, state_of as machine_state}
use Rattle.machine.specs.Views.{View, concrete}
use Rattle.piece_machine.specs.PieceConcrete.{kill_piece}
use Rattle.piece_machine.specs.PieceViews.{parts, pieces}
use Rattle.proof_explaining.specs.Events.{whole_of}
use Rattle.proof_pieces.specs.Whole.{whole}
use Rattle.proof_simulation.specs.Kills.{killed_last}
use Rattle.proof_simulation.specs.Progress.{progress_kill}
use Rattle.log_simulation.specs.Going.{IsKillDue, progress_left}
use Rattle.log_simulation.specs.Recording.{RecordsUnlessLong}
use Rattle.log_simulation.specs.Shown.{shown}
use Rattle.log_simulation.proofs.Keeping.{few_words, keeps_outside, made_killed, some_thread, within_most}
use Rattle.log_simulation.proofs.Progressing.{kill_due_so, one_kill}
use Rattle.log_simulation.proofs.Records.{when_true}
use Rattle.log_simulation.proofs.walking.go_kill.Goals as goal

pub returns-in_ok-take_kill-clause-told : goal.returns-in_ok-take_kill-clause-told
returns-in_ok-take_kill-clause-told c = λ _ p own w events along.
    let t = c.args.t in
    let k = parts c.args.machine.now in
    let new = parts c.take_kill.new.machine in
    let s = whole_of p new in
    let word = (machine_state k.concrete).word in
    let event = c.args.event.now in
    let g = along.source in
    let begins = c.if-event-eq1.true in
    let gives = subst (λ (i : Image). kill_piece i k t ≡ Ok (new, event)) own
    (when_true _ _ c.take_kill.result c.take_kill.ensures.gives c.if-not-take_kill.false) in
    let made = made_killed p events k new g t event along.comes gives in
    let less = within_most p events k g t made.0 along.comes made.1 in
    let last = c.killed_last-last.ensures p along.of_program (some_thread k t made.0 made.1) less
    (subst (λ (v : View). length v.words < 2 ^ 32) (sym c.machine.ensures.shows) (few_words p events k g w along.comes))
    ∙ ap (λ (v : View). killed_last p (machine_state (concrete v)).word t) c.machine.ensures.shows in
    let same : shown c.take_kill.new.machine ≡ s =
    ap (λ (i : Image). whole i (pieces c.take_kill.new.machine)) (c.take_kill.ensures.program ∙ own) in
    let told = c.in_ok-take_kill.ensures p (length events) g along.of_program less along.told
    (λ short. subst (λ (z : State). IsKillDue p z t c.killed_last-last.result g) (sym same)
    (subst (λ (m : Option ℕ). IsKillDue p s t m g) (sym last)
    (kill_due_so p w events k new t event g along.comes gives short begins))) in
    keeps_outside p events k new t event (progress_kill p word s t g) c.args.recorder.now
    c.take_kill-then-event-eq1.new.self along told.0
    (one_kill p events k new t event true g along.comes gives (eq-eqb event.value 1 begins))
    (subst (λ (m : Option ℕ). RecordsUnlessLong (length events + 1) (progress_left p s t m g)
    c.take_kill-then-event-eq1.new.self) last
    (subst (λ (z : State). RecordsUnlessLong (length events + 1) (progress_left p z t c.killed_last-last.result g)
    c.take_kill-then-event-eq1.new.self) same told.1))

pub returns-else-event-eq1-clause-told : goal.returns-else-event-eq1-clause-told
returns-else-event-eq1-clause-told c = λ _ p own w events along.
    let t = c.args.t in
    let k = parts c.args.machine.now in
    let new = parts c.take_kill.new.machine in
    let event = c.args.event.now in
    let g = along.source in
    let gives = subst (λ (i : Image). kill_piece i k t ≡ Ok (new, event)) own
    (when_true _ _ c.take_kill.result c.take_kill.ensures.gives c.if-not-take_kill.false) in
    let told = c.take_nothing.ensures p (length events) g along.of_program along.told in
    keeps_outside p events k new t event g c.args.recorder.now c.take_nothing.new.self along told.0
    (one_kill p events k new t event false g along.comes gives (ne_eqb event.value 1 c.if-event-eq1.false)) told.1
