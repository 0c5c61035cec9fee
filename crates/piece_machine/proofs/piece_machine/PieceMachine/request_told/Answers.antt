-- A wait and a wake are calls that the thread makes.
use Rattle.std.proofs.Common.{rules, ◌≡◌, ℕ, Some, None, ap, refl, sym, ◌∙◌}
use Rattle.words.specs.declared.mem.Addr.{Addr}
use Rattle.locals.specs.declared.request.NextStep.TheVariants as next
use Rattle.locals.specs.declared.request.Request.{Request}
use Rattle.locals.specs.declared.request.Request.TheVariants as request
use Rattle.locals.specs.Requests.{short_call}
use Rattle.futexcalls.specs.declared.pieces.FutexCall.TheVariants.{Wait, Wake}
use Rattle.machine.specs.PieceStates.{call_of}
use Rattle.machine.specs.RequestMeanings.{asked_of}
use Rattle.machine.specs.Views.{concrete}
use Rattle.piece_machine.proofs.Blocked.{never_none}
use Rattle.piece_machine.proofs.OwnCalls.{makes_call}
use Rattle.piece_machine.proofs.piece_machine.PieceMachine.request_told.Goals as goal

is_wait : (a : Addr) (expected : ℕ) → Some (Wait a expected) ≡ call_of (asked_of (request.Wait a expected))
is_wait a expected = search rules

is_wake : (a : Addr) (count : ℕ) → Some (Wake a count) ≡ call_of (asked_of (request.Wake a count))
is_wake a count = search rules

pub wait_step-requires-clause-makes : goal.wait_step-requires-clause-makes
wait_step-requires-clause-makes c =
    let v = c.args.self.now.view in
    let made = never_none (concrete v) c.args.t c.requires.thread.0 c.requires.thread.1 in
    let is : next.Shared c.args.request ≡ next.Shared (request.Wait c.in-Wait.address c.in-Wait.expected) =
    ap next.Shared c.in-Wait.is in
    makes_call v c.args.t _ _ made (λ x at. sym is ∙ c.requires.next x at)
    (is_wait c.in-Wait.address c.in-Wait.expected)

pub wake_step-requires-clause-makes : goal.wake_step-requires-clause-makes
wake_step-requires-clause-makes c =
    let v = c.args.self.now.view in
    let made = never_none (concrete v) c.args.t c.requires.thread.0 c.requires.thread.1 in
    let is : next.Shared c.args.request ≡ next.Shared (request.Wake c.in-Wake.address c.in-Wake.count) =
    ap next.Shared c.in-Wake.is in
    makes_call v c.args.t _ _ made (λ x at. sym is ∙ c.requires.next x at)
    (is_wake c.in-Wake.address c.in-Wake.count)

-- a request that is neither is no short call
none_short : (r : Request) → ((a : Addr) (expected : ℕ) → r ≡ request.Wait a expected → ⊥)
    → ((a : Addr) (count : ℕ) → r ≡ request.Wake a count → ⊥) → short_call r ≡ None
none_short (request.Wait a expected) not_wait not_wake = absurd (not_wait a expected refl)
none_short (request.Wake a count) not_wait not_wake = absurd (not_wake a count refl)
none_short r not_wait not_wake = refl

pub other_step-requires-clause-room : goal.other_step-requires-clause-room
other_step-requires-clause-room c =
    c.requires.room (none_short c.args.request c.in_default.not-Wait c.in_default.not-Wake)
