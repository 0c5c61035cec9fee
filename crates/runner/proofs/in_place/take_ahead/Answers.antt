-- It goes on ahead of the machine first.
use Rattle.std.proofs.Common.{◌∙◌, ◌≡◌, ap, arith, subst, sym}
use Rattle.std.proofs.lemmas.Result.{on_ok_weaker}
use Rattle.isa.specs.Programs.{Program}
use Rattle.locals.specs.Looks.{look}
use Rattle.locals.specs.Requests.{next_step_of}
use Rattle.machine.specs.Accessing.{told_access}
use Rattle.machine.specs.Views.{View}
use Rattle.piece_machine.specs.PieceViews.{PieceView as MachineView, parts}
use Rattle.runner.specs.Attempts.{WantsIf}
use Rattle.runner.specs.Entries.{BreaksAfter, entry_end, taken_entry, taken_event}
use Rattle.runner.specs.Logs.{EntersOwn}
use Rattle.runner.specs.Reports.{IsHeldUp, IsNextEntry}
use Rattle.runner.proofs.Noting.{wants_if}
use Rattle.runner.proofs.Walking.{ahead_of, ahead_still, free_ahead, from_enters, goes_to, held_ahead, if_err}
use Rattle.runner.proofs.Walking.{moves_still, own_next, put_awake, put_made, put_next, walked_as, walked_put}
use Rattle.runner.proofs.Wanting.{wants_so}
use Rattle.runner.proofs.in_place.take_ahead.Goals as goal

pub access_from-requires-clause-goes : goal.access_from-requires-clause-goes
access_from-requires-clause-goes c =
    let m = c.args.machine.now in
    let t = c.args.t in
    let n = c.run_ahead-local.result in
    let here = c.run_ahead-local.new.ahead in
    let a = ahead_of m.view c.machine.result.now t n here c.machine.ensures.shows c.requires.thread c.run_ahead-local.ensures in
    goes_to m.view t n here a

pub returns-in-Some-clause-enters : goal.returns-in-Some-clause-enters
returns-in-Some-clause-enters c =
    let m = c.args.machine.now in
    let t = c.args.t in
    let n = c.run_ahead-local.result in
    let here = c.run_ahead-local.new.ahead in
    let a = ahead_of m.view c.machine.result.now t n here c.machine.ensures.shows c.requires.thread c.run_ahead-local.ensures in
    from_enters m c.access_from.new.self t n here c.access_from.new.local c.in-Some.access c.requires.thread a
    c.in-Some.ensures.made

pub returns-in-Some-clause-turn : goal.returns-in-Some-clause-turn
returns-in-Some-clause-turn c =
    let m = c.args.machine.now in
    let t = c.args.t in
    let n = c.run_ahead-local.result in
    let here = c.run_ahead-local.new.ahead in
    let a = ahead_of m.view c.machine.result.now t n here c.machine.ensures.shows c.requires.thread c.run_ahead-local.ensures in
    a.turns.turn

pub returns-in-Some-clause-next : goal.returns-in-Some-clause-next
returns-in-Some-clause-next c =
    let m = c.args.machine.now in
    let t = c.args.t in
    let n = c.run_ahead-local.result in
    let here = c.run_ahead-local.new.ahead in
    let a = ahead_of m.view c.machine.result.now t n here c.machine.ensures.shows c.requires.thread c.run_ahead-local.ensures in
    own_next m.view.program (parts m) (parts c.access_from.new.self) t n (told_access c.in-Some.access)
    (from_enters m c.access_from.new.self t n here c.access_from.new.local c.in-Some.access c.requires.thread a
    c.in-Some.ensures.made) a.turns.turn

pub returns-then-waits_for_bucket-clause-held : goal.returns-then-waits_for_bucket-clause-held
returns-then-waits_for_bucket-clause-held c =
    let m = c.args.machine.now in
    let t = c.args.t in
    let n = c.run_ahead-local.result in
    let here = c.run_ahead-local.new.ahead in
    let a = ahead_of m.view c.machine.result.now t n here c.machine.ensures.shows c.requires.thread c.run_ahead-local.ensures in
    let mid = c.access_from.new.self in
    let there = c.access_from.new.local in
    let still = c.in_default.ensures.made in
    let b = ahead_still m mid t n here there still.0 still.1 a in
    let moves = moves_still m mid t still.0 c.requires.thread in
    let next_is = subst (λ (v : View). c.next_step_at-next.result ≡ next_step_of (look v.program t there)) c.machine-2.ensures.shows
    c.next_step_at-next.ensures in (
      ap (λ (v : MachineView). parts v) still.0,
      subst (λ (v : MachineView). IsHeldUp v.view.program (parts v) t) still.0
          (held_ahead mid.view.program (parts mid) t n b.origin there b.stands moves b.turns
          (c.if-waits_for_bucket.ensures there (goes_to mid.view t n there b) next_is)),
    )

pub returns-then-waits_for_bucket-clause-wants : goal.returns-then-waits_for_bucket-clause-wants
returns-then-waits_for_bucket-clause-wants c =
    let m = c.args.machine.now in
    let t = c.args.t in
    let n = c.run_ahead-local.result in
    let here = c.run_ahead-local.new.ahead in
    let a = ahead_of m.view c.machine.result.now t n here c.machine.ensures.shows c.requires.thread c.run_ahead-local.ensures in
    let mid = c.access_from.new.self in
    let there = c.access_from.new.local in
    let still = c.in_default.ensures.made in
    let b = ahead_still m mid t n here there still.0 still.1 a in
    let moves = moves_still m mid t still.0 c.requires.thread in
    let next_is = subst (λ (v : View). c.next_step_at-next.result ≡ next_step_of (look v.program t there)) c.machine-2.ensures.shows
    c.next_step_at-next.ensures in
    subst (λ (v : MachineView). WantsIf v.view.program (parts v) t c.obstacle_of.result) still.0
    (wants_if mid.view.program (parts mid) t c.obstacle_of.result
    (λ bucket is. wants_so mid.view.program (parts mid) t bucket n b.origin there b.stands moves b.turns
    (c.if-waits_for_bucket.ensures there (goes_to mid.view t n there b) next_is)
    (c.obstacle_of.ensures bucket there is (goes_to mid.view t n there b) next_is)))

pub copy_local-requires-clause-can_move : goal.copy_local-requires-clause-can_move
copy_local-requires-clause-can_move c =
    let m = c.args.machine.now in
    let t = c.args.t in
    let n = c.run_ahead-local.result in
    let here = c.run_ahead-local.new.ahead in
    let a = ahead_of m.view c.machine.result.now t n here c.machine.ensures.shows c.requires.thread c.run_ahead-local.ensures in
    let mid = c.access_from.new.self in
    let there = c.access_from.new.local in
    let still = c.in_default.ensures.made in
    let b = ahead_still m mid t n here there still.0 still.1 a in
    let moves = moves_still m mid t still.0 c.requires.thread in
    moves

pub copy_local-requires-clause-goes : goal.copy_local-requires-clause-goes
copy_local-requires-clause-goes c =
    let m = c.args.machine.now in
    let t = c.args.t in
    let n = c.run_ahead-local.result in
    let here = c.run_ahead-local.new.ahead in
    let a = ahead_of m.view c.machine.result.now t n here c.machine.ensures.shows c.requires.thread c.run_ahead-local.ensures in
    let mid = c.access_from.new.self in
    let there = c.access_from.new.local in
    let still = c.in_default.ensures.made in
    let b = ahead_still m mid t n here there still.0 still.1 a in
    let moves = moves_still m mid t still.0 c.requires.thread in
    goes_to mid.view t n there b

pub end_entry-requires-clause-thread : goal.end_entry-requires-clause-thread
end_entry-requires-clause-thread c =
    let m = c.args.machine.now in
    let t = c.args.t in
    let n = c.run_ahead-local.result in
    let here = c.run_ahead-local.new.ahead in
    let a = ahead_of m.view c.machine.result.now t n here c.machine.ensures.shows c.requires.thread c.run_ahead-local.ensures in
    let mid = c.access_from.new.self in
    let there = c.access_from.new.local in
    let still = c.in_default.ensures.made in
    let b = ahead_still m mid t n here there still.0 still.1 a in
    let moves = moves_still m mid t still.0 c.requires.thread in
    put_made mid c.copy_local.new.self t b.origin there b.stands c.copy_local.ensures

pub end_entry-requires-clause-awake : goal.end_entry-requires-clause-awake
end_entry-requires-clause-awake c =
    let m = c.args.machine.now in
    let t = c.args.t in
    let n = c.run_ahead-local.result in
    let here = c.run_ahead-local.new.ahead in
    let a = ahead_of m.view c.machine.result.now t n here c.machine.ensures.shows c.requires.thread c.run_ahead-local.ensures in
    let mid = c.access_from.new.self in
    let there = c.access_from.new.local in
    let still = c.in_default.ensures.made in
    let b = ahead_still m mid t n here there still.0 still.1 a in
    let moves = moves_still m mid t still.0 c.requires.thread in
    put_awake mid c.copy_local.new.self t there moves c.copy_local.ensures

pub end_entry-requires-clause-next : goal.end_entry-requires-clause-next
end_entry-requires-clause-next c =
    let m = c.args.machine.now in
    let t = c.args.t in
    let n = c.run_ahead-local.result in
    let here = c.run_ahead-local.new.ahead in
    let a = ahead_of m.view c.machine.result.now t n here c.machine.ensures.shows c.requires.thread c.run_ahead-local.ensures in
    let mid = c.access_from.new.self in
    let there = c.access_from.new.local in
    let still = c.in_default.ensures.made in
    let b = ahead_still m mid t n here there still.0 still.1 a in
    let moves = moves_still m mid t still.0 c.requires.thread in
    let next_is = subst (λ (v : View). c.next_step_at-next.result ≡ next_step_of (look v.program t there)) c.machine-2.ensures.shows
    c.next_step_at-next.ensures in
    λ x at. put_next mid c.copy_local.new.self t b.origin there x c.next_step_at-next.result b.stands c.copy_local.ensures next_is at

pub end_entry-requires-clause-room : goal.end_entry-requires-clause-room
end_entry-requires-clause-room c =
    let m = c.args.machine.now in
    let t = c.args.t in
    let n = c.run_ahead-local.result in
    let here = c.run_ahead-local.new.ahead in
    let a = ahead_of m.view c.machine.result.now t n here c.machine.ensures.shows c.requires.thread c.run_ahead-local.ensures in
    let mid = c.access_from.new.self in
    let there = c.access_from.new.local in
    let still = c.in_default.ensures.made in
    let b = ahead_still m mid t n here there still.0 still.1 a in
    let moves = moves_still m mid t still.0 c.requires.thread in
    omega (
      arith,
      c.requires.room,
      ap (λ (v : MachineView). v.view.room) still.0,
      ap (λ (v : MachineView). v.view.room) c.copy_local.ensures,
    )

pub returns-clause-enters : goal.returns-clause-enters
returns-clause-enters c =
    let m = c.args.machine.now in
    let t = c.args.t in
    let n = c.run_ahead-local.result in
    let here = c.run_ahead-local.new.ahead in
    let a = ahead_of m.view c.machine.result.now t n here c.machine.ensures.shows c.requires.thread c.run_ahead-local.ensures in
    let mid = c.access_from.new.self in
    let there = c.access_from.new.local in
    let still = c.in_default.ensures.made in
    let b = ahead_still m mid t n here there still.0 still.1 a in
    let moves = moves_still m mid t still.0 c.requires.thread in
    let new = c.copy_local.new.self in
    let same = ap (λ (v : MachineView). v.view.program) c.copy_local.ensures in
    let w = walked_as mid.view.program new.view.program (parts mid) (parts new) t n same
    (walked_put mid new t n there moves b c.copy_local.ensures) in
    subst (λ (v : MachineView). EntersOwn v.view.program (parts v) (taken_entry t c.end_entry.result.0 c.end_entry.new.event)
    (parts c.end_entry.new.machine)) still.0
    (subst (λ (q : Program). EntersOwn q (parts mid) (taken_entry t c.end_entry.result.0 c.end_entry.new.event)
    (parts c.end_entry.new.machine)) same (c.end_entry.ensures.enters (parts mid) w))

pub returns-clause-next : goal.returns-clause-next
returns-clause-next c =
    let m = c.args.machine.now in
    let t = c.args.t in
    let n = c.run_ahead-local.result in
    let here = c.run_ahead-local.new.ahead in
    let a = ahead_of m.view c.machine.result.now t n here c.machine.ensures.shows c.requires.thread c.run_ahead-local.ensures in
    let mid = c.access_from.new.self in
    let there = c.access_from.new.local in
    let still = c.in_default.ensures.made in
    let b = ahead_still m mid t n here there still.0 still.1 a in
    let moves = moves_still m mid t still.0 c.requires.thread in
    let new = c.copy_local.new.self in
    let same = ap (λ (v : MachineView). v.view.program) c.copy_local.ensures in
    let w = walked_as mid.view.program new.view.program (parts mid) (parts new) t n same
    (walked_put mid new t n there moves b c.copy_local.ensures) in
    let event = taken_event c.end_entry.result.0.behind c.end_entry.new.event in
    on_ok_weaker c.end_entry.result.1
    (λ next. subst (λ (v : MachineView). IsNextEntry v.view.program (parts v) t c.end_entry.result.0.local event) still.0
    (subst (λ (q : Program). IsNextEntry q (parts mid) t c.end_entry.result.0.local event) same next))
    (c.end_entry.ensures.next (parts mid) w)

pub returns-clause-breaks : goal.returns-clause-breaks
returns-clause-breaks c =
    let m = c.args.machine.now in
    let t = c.args.t in
    let n = c.run_ahead-local.result in
    let here = c.run_ahead-local.new.ahead in
    let a = ahead_of m.view c.machine.result.now t n here c.machine.ensures.shows c.requires.thread c.run_ahead-local.ensures in
    let mid = c.access_from.new.self in
    let there = c.access_from.new.local in
    let still = c.in_default.ensures.made in
    let b = ahead_still m mid t n here there still.0 still.1 a in
    let moves = moves_still m mid t still.0 c.requires.thread in
    let next_is = subst (λ (v : View). c.next_step_at-next.result ≡ next_step_of (look v.program t there)) c.machine-2.ensures.shows
    c.next_step_at-next.ensures in
    let new = c.copy_local.new.self in
    let same = ap (λ (v : MachineView). v.view.program) c.copy_local.ensures in
    let w = walked_as mid.view.program new.view.program (parts mid) (parts new) t n same
    (walked_put mid new t n there moves b c.copy_local.ensures) in
    let free = c.if-waits_for_bucket.ensures there (goes_to mid.view t n there b) next_is in
    if_err _ _ c.end_entry.result.1
    (λ fault h.
    let r = h (parts mid) w (λ waits. free_ahead mid.view.program (parts mid) t there free
    (ap (λ (q : Program). entry_end q (parts mid) t there) (sym same) ∙ waits)) in (
      r.0,
      subst (λ (v : MachineView). BreaksAfter v.view.program (parts v) t c.end_entry.result.0.local) still.0
          (subst (λ (q : Program). BreaksAfter q (parts mid) t c.end_entry.result.0.local) same r.1),
    ))
    c.end_entry.ensures.breaks

pub returns-clause-turn : goal.returns-clause-turn
returns-clause-turn c =
    let m = c.args.machine.now in
    let t = c.args.t in
    let n = c.run_ahead-local.result in
    let here = c.run_ahead-local.new.ahead in
    let a = ahead_of m.view c.machine.result.now t n here c.machine.ensures.shows c.requires.thread c.run_ahead-local.ensures in
    omega (arith, c.end_entry.ensures.count, a.turns.turn)

pub returns-clause-program : goal.returns-clause-program
returns-clause-program c =
    let m = c.args.machine.now in
    let t = c.args.t in
    let n = c.run_ahead-local.result in
    let here = c.run_ahead-local.new.ahead in
    let a = ahead_of m.view c.machine.result.now t n here c.machine.ensures.shows c.requires.thread c.run_ahead-local.ensures in
    let mid = c.access_from.new.self in
    let there = c.access_from.new.local in
    let still = c.in_default.ensures.made in
    let b = ahead_still m mid t n here there still.0 still.1 a in
    let moves = moves_still m mid t still.0 c.requires.thread in
    c.end_entry.ensures.program ∙ ap (λ (v : MachineView). v.view.program) c.copy_local.ensures
    ∙ ap (λ (v : MachineView). v.view.program) still.0
