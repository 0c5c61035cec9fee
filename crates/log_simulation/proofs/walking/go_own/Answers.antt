-- The entry is taken where its local steps are all there, and its shared step is the one behind them.
use Rattle.std.proofs.Common.{rules, refl, ap, ◌+◌, ◌<◌, ◌^◌, ◌∙◌, ◌≡◌, subst, sym, length, None, Some}
use Rattle.lowering.specs.Pieces.{code_of}
use Rattle.isa.specs.Programs.{Program as Image}
use Rattle.locals.specs.Steps.{local_after}
use Rattle.machine.specs.States.{State, state_of as machine_state, thread_of}
use Rattle.machine.specs.Views.{View, concrete}
use Rattle.piece_machine.specs.PieceConcrete.{PieceConcrete, with_local}
use Rattle.piece_machine.specs.PieceViews.{parts, pieces}
use Rattle.proof_explaining.specs.Events.{whole_of}
use Rattle.proof_pieces.specs.Whole.{whole}
use Rattle.proof_simulation.specs.Explaining.{IsDue}
use Rattle.locals.specs.Looks.{look}
use Rattle.locals.specs.Requests.{next_step_of}
use Rattle.std.specs.Prelude.{if◌then◌else◌}
use Rattle.log_simulation.specs.Entries.{is_visible, progress_locally, progress_shared}
use Rattle.log_simulation.specs.Recording.{RecordsUnlessLong}
use Rattle.log_simulation.specs.Shown.{shown}
use Rattle.runner.proofs.Once.{still_made}
use Rattle.log_simulation.proofs.Entering.{enters_locally, enters_shared, never_shared, put_there}
use Rattle.log_simulation.proofs.Keeping.{due_at, few_words, keeps_locally, keeps_shared, some_thread, within_most}
use Rattle.log_simulation.proofs.Records.{when_true, when_false}
use Rattle.log_simulation.proofs.walking.go_own.Goals as goal

pub returns-in_default-clause-told : goal.returns-in_default-clause-told
returns-in_default-clause-told c = λ _ p own w events along.
    let t = c.args.entry.now.thread in
    let o = c.copy_mover.new.here in
    let here = c.take_steps.new.here in
    let k = parts c.args.machine.now in
    let k' = parts c.copy_local.new.self in
    let alone : c.args.entry.now.event ≡ None = search rules in
    let goes = subst (λ (i : Image). local_after i t c.args.entry.now.local o ≡ Some here) own
    c.if-not-take_steps.ensures.goes in
    let there = ap parts c.copy_local.ensures ∙ ap (λ x. with_local x t here) c.in_ok-make_room.ensures.parts in
    let enters = enters_locally (code_of p) k k' c.args.entry.now c.args.entry.now.local o here alone
    c.if-not-copy_mover.ensures.0 c.if-not-copy_mover.ensures.1 refl goes there in
    let told = c.take_steps.ensures.told c.if-not-take_steps.false p (length events) along.source own along.of_program
    along.told in
    keeps_locally p events k k' c.args.entry.now o here enters c.if-not-copy_mover.ensures.1 goes c.args.recorder.now
    c.take_steps.new.self along alone told.0 told.1

pub take_shared-requires-clause-thread : goal.take_shared-requires-clause-thread
take_shared-requires-clause-thread c =
    still_made c.make_room.new.self.view.threads c.copy_local.new.self.view.threads c.args.entry.now.thread
    c.copy_mover.new.here c.take_steps.new.here
    (ap (λ (x : PieceConcrete). thread_of x.concrete c.args.entry.now.thread) c.in_ok-make_room.ensures.parts
    ∙ c.if-not-copy_mover.ensures.1) (ap (λ m. m.view.threads) c.copy_local.ensures)

pub copy_local-requires-clause-goes : goal.copy_local-requires-clause-goes
copy_local-requires-clause-goes c = record {
  origin = c.copy_mover.new.here;
  count = c.args.entry.now.local;
  stands = ap (λ (x : PieceConcrete). thread_of x.concrete c.args.entry.now.thread) c.in_ok-make_room.ensures.parts
      ∙ c.if-not-copy_mover.ensures.1;
  goes = subst (λ (i : Image). local_after i c.args.entry.now.thread c.args.entry.now.local c.copy_mover.new.here
      ≡ Some c.take_steps.new.here) (sym (c.in_ok-make_room.ensures.same.0 ∙ c.requires.program))
      c.if-not-take_steps.ensures.goes;
}

pub returns-then-not-take_shared-clause-enters : goal.returns-then-not-take_shared-clause-enters
returns-then-not-take_shared-clause-enters c =
    let t = c.args.entry.now.thread in
    let here = c.take_steps.new.here in
    let k = parts c.args.machine.now in
    let mid = parts c.copy_local.new.self in
    let there = ap parts c.copy_local.ensures ∙ ap (λ x. with_local x t here) c.in_ok-make_room.ensures.parts in
    let stands = put_there k mid t c.copy_mover.new.here here c.if-not-copy_mover.ensures.1 there in
    never_shared c.args.image.now c.copy_local.new.self.view.program k mid c.args.entry.now c.in-Some.event
    c.args.entry.now.local c.copy_mover.new.here here c.in-Some.is c.if-not-copy_mover.ensures.1 refl
    c.if-not-take_steps.ensures.goes there
    (ap (λ m. m.view.program) c.copy_local.ensures ∙ c.in_ok-make_room.ensures.same.0 ∙ c.requires.program)
    (when_false _ _ c.take_shared.result (c.take_shared.ensures.ends here stands) c.if-not-take_shared.true)

pub returns-then-is_piece-clause-enters : goal.returns-then-is_piece-clause-enters
returns-then-is_piece-clause-enters c =
    let t = c.args.entry.now.thread in
    let here = c.take_steps.new.here in
    let k = parts c.args.machine.now in
    let mid = parts c.copy_local.new.self in
    let there = ap parts c.copy_local.ensures ∙ ap (λ x. with_local x t here) c.in_ok-make_room.ensures.parts in
    let stands = put_there k mid t c.copy_mover.new.here here c.if-not-copy_mover.ensures.1 there in
    enters_shared c.args.image.now c.copy_local.new.self.view.program k mid (parts c.take_shared.new.machine)
    c.args.entry.now c.in-Some.event c.args.entry.now.local c.copy_mover.new.here here c.in-Some.is
    c.if-not-copy_mover.ensures.0 c.if-not-copy_mover.ensures.1 refl c.if-not-take_steps.ensures.goes there
    (ap (λ m. m.view.program) c.copy_local.ensures ∙ c.in_ok-make_room.ensures.same.0 ∙ c.requires.program)
    (when_true _ _ c.take_shared.result (c.take_shared.ensures.ends here stands) c.if-not-take_shared.false)

pub returns-clause-enters : goal.returns-clause-enters
returns-clause-enters c =
    let t = c.args.entry.now.thread in
    let here = c.take_steps.new.here in
    let k = parts c.args.machine.now in
    let mid = parts c.copy_local.new.self in
    let there = ap parts c.copy_local.ensures ∙ ap (λ x. with_local x t here) c.in_ok-make_room.ensures.parts in
    let stands = put_there k mid t c.copy_mover.new.here here c.if-not-copy_mover.ensures.1 there in
    enters_shared c.args.image.now c.copy_local.new.self.view.program k mid (parts c.take_shared.new.machine)
    c.args.entry.now c.in-Some.event c.args.entry.now.local c.copy_mover.new.here here c.in-Some.is
    c.if-not-copy_mover.ensures.0 c.if-not-copy_mover.ensures.1 refl c.if-not-take_steps.ensures.goes there
    (ap (λ m. m.view.program) c.copy_local.ensures ∙ c.in_ok-make_room.ensures.same.0 ∙ c.requires.program)
    (when_true _ _ c.take_shared.result (c.take_shared.ensures.ends here stands) c.if-not-take_shared.false)

pub returns-then-is_piece-clause-told : goal.returns-then-is_piece-clause-told
returns-then-is_piece-clause-told c = λ _ p own w events along.
    let t = c.args.entry.now.thread in
    let o = c.copy_mover.new.here in
    let here = c.take_steps.new.here in
    let k = parts c.args.machine.now in
    let mid = parts c.copy_local.new.self in
    let new = parts c.take_shared.new.machine in
    let stood = c.if-not-copy_mover.ensures.1 in
    let there = ap parts c.copy_local.ensures ∙ ap (λ x. with_local x t here) c.in_ok-make_room.ensures.parts in
    let stands = put_there k mid t o here stood there in
    let goes = subst (λ (i : Image). local_after i t c.args.entry.now.local o ≡ Some here) own
    c.if-not-take_steps.ensures.goes in
    let enters = enters_shared (code_of p) c.copy_local.new.self.view.program k mid new c.args.entry.now c.in-Some.event
    c.args.entry.now.local o here c.in-Some.is c.if-not-copy_mover.ensures.0 stood refl goes there
    (ap (λ m. m.view.program) c.copy_local.ensures ∙ c.in_ok-make_room.ensures.same.0 ∙ c.requires.program ∙ own)
    (when_true _ _ c.take_shared.result (c.take_shared.ensures.ends here stands) c.if-not-take_shared.false) in
    let event = c.in-Some.event in
    let g = along.source in
    let told = c.take_steps.ensures.told c.if-not-take_steps.false p (length events) g own along.of_program
    along.told in
    let piece = sym c.is_piece.ensures ∙ c.if-is_piece.true in
    let local = progress_locally p t c.args.entry.now.local o g in
    let nothing = c.take_nothing.ensures p (length events + c.args.entry.now.local) local told.0 told.1 in
    keeps_shared p events k new c.args.entry.now o here enters stood goes c.args.recorder.now
    c.take_nothing.new.self along event c.in-Some.is nothing.0
    (subst (λ b. RecordsUnlessLong (length events + c.args.entry.now.local + 1)
    (if b then local else progress_shared p t here (machine_state k.concrete).word event.value (whole_of p new) local)
    c.take_nothing.new.self) (sym piece) nothing.1)

pub returns-clause-told : goal.returns-clause-told
returns-clause-told c = λ _ p own w events along.
    let t = c.args.entry.now.thread in
    let o = c.copy_mover.new.here in
    let here = c.take_steps.new.here in
    let k = parts c.args.machine.now in
    let mid = parts c.copy_local.new.self in
    let new = parts c.take_shared.new.machine in
    let stood = c.if-not-copy_mover.ensures.1 in
    let there = ap parts c.copy_local.ensures ∙ ap (λ x. with_local x t here) c.in_ok-make_room.ensures.parts in
    let stands = put_there k mid t o here stood there in
    let goes = subst (λ (i : Image). local_after i t c.args.entry.now.local o ≡ Some here) own
    c.if-not-take_steps.ensures.goes in
    let enters = enters_shared (code_of p) c.copy_local.new.self.view.program k mid new c.args.entry.now c.in-Some.event
    c.args.entry.now.local o here c.in-Some.is c.if-not-copy_mover.ensures.0 stood refl goes there
    (ap (λ m. m.view.program) c.copy_local.ensures ∙ c.in_ok-make_room.ensures.same.0 ∙ c.requires.program ∙ own)
    (when_true _ _ c.take_shared.result (c.take_shared.ensures.ends here stands) c.if-not-take_shared.false) in
    let event = c.in-Some.event in
    let g = along.source in
    let told = c.take_steps.ensures.told c.if-not-take_steps.false p (length events) g own along.of_program
    along.told in
    let is = c.next_step-step.ensures ∙ ap (λ (i : Image). next_step_of (look i t here)) own in
    let less = within_most p events k g t o along.comes stood in
    let few = subst (λ n. n < 2 ^ 32) (sym (ap (λ (v : View). length v.words) c.machine.ensures.shows
    ∙ ap (λ (m : PieceConcrete). length m.concrete.common.words) there))
    (few_words p events k g w along.comes) in
    let is_shown = c.is_visible-visible.ensures p here told.0 (some_thread k t o stood) less few is
    ∙ ap (λ (v : View). is_visible p (machine_state (concrete v)).word t (look (code_of p) t here) event.value)
    c.machine.ensures.shows
    ∙ ap (λ (m : PieceConcrete). is_visible p (machine_state m.concrete).word t (look (code_of p) t here) event.value) there in
    let heard = sym c.is_piece.ensures ∙ c.if-is_piece.false in
    let same : shown c.take_shared.new.machine ≡ whole_of p new =
    ap (λ (i : Image). whole i (pieces c.take_shared.new.machine)) (c.take_shared.ensures.program
    ∙ ap (λ m. m.view.program) c.copy_local.ensures ∙ c.in_ok-make_room.ensures.same.0 ∙ c.requires.program ∙ own) in
    let local = progress_locally p t c.args.entry.now.local o g in
    let visible = c.in_ok-take_shared_step.ensures p (length events + c.args.entry.now.local) (machine_state k.concrete).word
    local is is_shown told.0 less told.1
    (λ is short. subst (λ (z : State). IsDue p z t local) (sym same)
    (due_at p events k new c.args.entry.now o here enters stood goes g along.comes w
    event c.in-Some.is heard is short)) in
    keeps_shared p events k new c.args.entry.now o here enters stood goes c.args.recorder.now
    c.take_shared_step.new.self along event c.in-Some.is visible.0
    (subst (λ b. RecordsUnlessLong (length events + c.args.entry.now.local + 1)
    (if b then local else progress_shared p t here (machine_state k.concrete).word event.value (whole_of p new) local)
    c.take_shared_step.new.self) (sym heard)
    (subst (λ (z : State). RecordsUnlessLong (length events + c.args.entry.now.local + 1)
    (progress_shared p t here (machine_state k.concrete).word event.value z local) c.take_shared_step.new.self) same
    visible.1))
