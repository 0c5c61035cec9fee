use Rattle.std.proofs.Common.{◌≡◌, All, Some, slice_get, subst, ◌<◌, arith, length, sym}
use Rattle.image_states.specs.Nexts.{OwnDone}
use Rattle.image_states.specs.declared.packed.Packed.{Packed as PackedOf}
use Rattle.image_states.proofs.Listing.{is_none}
use Rattle.image_states.specs.declared.next.Next.{Next as NextOf}
use Rattle.image_search.specs.Living.{HoldsAt, IsFlagged, OwnLeads}
use Rattle.image_search.proofs.Flagging.{own_leads, sound_parts, still_none, still_parts}
use Rattle.image_search.proofs.flagged.own_flagged.Goals as goal

pub returns-in_default-clause-still : goal.returns-in_default-clause-still
returns-in_default-clause-still c = still_none c.args.kept.now

pub returns-then-is_some-clause-sound : goal.returns-then-is_some-clause-sound
returns-then-is_some-clause-sound c =
    sound_parts c.args.kept.now c.own_nexts_at.new.parts c.in_ok-why.ensures.grown c.requires.sound

pub returns-then-is_some-clause-still : goal.returns-then-is_some-clause-still
returns-then-is_some-clause-still c = still_parts c.args.kept.now c.own_nexts_at.new.parts c.in_ok-why.ensures.grown

pub returns-clause-sound : goal.returns-clause-sound
returns-clause-sound c =
    sound_parts c.args.kept.now c.own_nexts_at.new.parts c.in_ok-why.ensures.grown c.requires.sound

pub returns-clause-still : goal.returns-clause-still
returns-clause-still c = still_parts c.args.kept.now c.own_nexts_at.new.parts c.in_ok-why.ensures.grown

pub returns-clause-leads : goal.returns-clause-leads
returns-clause-leads c = λ e.
    let p = c.args.image.now in
    let mid = c.own_nexts_at.new.parts in
    let found = c.own_nexts_at.new.found.items in
    let kept' = record c.args.kept.now { parts = mid } in
    let at : (x : PackedOf) × (slice_get c.args.kept.now.states.items c.args.place ≡ Some x) × OwnDone p mid x found c.in-Some.t =
    subst (λ xs. (x : PackedOf) × (slice_get xs c.args.place ≡ Some x) × OwnDone p mid x found c.in-Some.t)
    c.as_slice.ensures.value
    (c.in_ok-why.ensures.done (is_none c.in_ok-why.why c.is_some.result c.is_some.ensures c.if-is_some.false)) in
    subst (λ u. HoldsAt p kept' c.args.place (OwnLeads p kept' c.args.flags.now u)) c.in-Some.ensures.some
    (own_leads p kept' c.args.flags.now c.args.place c.in-Some.t at.0 found at.1 at.2
    (subst (All (λ (next : NextOf). IsFlagged kept' c.args.flags.now next.state)) c.as_slice-2.ensures.value
    (c.has_all_flagged-all.ensures e)))

pub returns-then-place-len-clause-still : goal.returns-then-place-len-clause-still
returns-then-place-len-clause-still c = still_none c.args.kept.now

pub own_nexts_at-requires-clause-place : goal.own_nexts_at-requires-clause-place
own_nexts_at-requires-clause-place c =
    subst (λ xs. c.args.place < length xs) (sym c.as_slice.ensures.value)
    (omega (arith, c.if-place-len.false, c.len.ensures, c.args.kept.now.states.ok.0))
