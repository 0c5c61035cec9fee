use Rattle.std.proofs.Common.{◌<◌, ℕ, All, MatchBool, ap, arith, get_or, length, subst}
use Rattle.std.proofs.lemmas.List.Elements.{Contains-get_or}
use Rattle.program.specs.Views.{program_of}
use Rattle.source_states.specs.States.{state_of}
use Rattle.source_search.specs.Found.{GoesOn}
use Rattle.source_search.proofs.Endings.{stuck_decided}
use Rattle.source_search.proofs.ends.is_stuck.Goals as goal

pub returns-then-moving-gt0 : goal.returns-then-moving-gt0
returns-then-moving-gt0 c = λ stuck.
    let some : 0 < length c.in_ok-able.able.items =
    omega (arith, c.if-moving-gt0.true, ap length c.as_slice-moving.ensures.value) in
    stuck.rests (get_or c.in_ok-able.able.items 0 0)
    ((c.in_ok-able.ensures.all (get_or c.in_ok-able.able.items 0 0)).0 (Contains-get_or c.in_ok-able.able.items 0 0 some))

pub returns : goal.returns
returns c =
    stuck_decided (state_of c.args.state.now) c.in_ok-all.all.items c.in_ok-all.ensures.all
    (program_of c.args.checked.now.tree) c.goes_on-stuck.result
    (λ t can.
    let mover = (c.in_ok-able.ensures.all t).1 can in
    let less : mover.0 < length c.in_ok-able.able.items = mover.1 in
    absurd (omega (arith, less, c.if-moving-gt0.false, ap length c.as_slice-moving.ensures.value)))
    (subst (λ ns. MatchBool c.goes_on-stuck.result ((q : ℕ) × GoesOn (state_of c.args.state.now) q)
    (All (λ q. GoesOn (state_of c.args.state.now) q → ⊥) ns))
    c.as_slice.ensures.value c.goes_on-stuck.ensures)
