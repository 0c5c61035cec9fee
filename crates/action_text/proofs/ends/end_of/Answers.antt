use Rattle.std.proofs.Common.{◌<◌, ℕ, All, MatchBool, ap, arith, get_or, length, subst, sym}
use Rattle.std.proofs.lemmas.List.Elements.{Contains-get_or}
use Rattle.program.specs.Views.{program_of}
use Rattle.source_states.specs.States.{state_of}
use Rattle.action_text.specs.Following.{EndsSo, GoesOn}
use Rattle.action_text.proofs.Ending.{end_decided}
use Rattle.action_text.proofs.ends.end_of.Goals as goal

pub returns-then-moving-gt0 : goal.returns-then-moving-gt0
returns-then-moving-gt0 c =
    let some : 0 < length c.in_ok-able.able.items =
    omega (arith, c.if-moving-gt0.true, ap length c.as_slice-moving.ensures.value) in (
      get_or c.in_ok-able.able.items 0 0,
      (c.in_ok-able.ensures.all (get_or c.in_ok-able.able.items 0 0)).0 (Contains-get_or c.in_ok-able.able.items 0 0 some),
    )

pub returns : goal.returns
returns c =
    subst (λ e. EndsSo e (program_of c.args.checked.now.tree) (state_of c.args.state.now)) (sym c.end_by-end.ensures)
    (end_decided (state_of c.args.state.now) c.in_ok-all.all.items c.in_ok-all.ensures.all
    (program_of c.args.checked.now.tree) c.some_goes_on.result
    (λ t can.
    let mover = (c.in_ok-able.ensures.all t).1 can in
    let less : mover.0 < length c.in_ok-able.able.items = mover.1 in
    absurd (omega (arith, less, c.if-moving-gt0.false, ap length c.as_slice-moving.ensures.value)))
    (subst (λ ns. MatchBool c.some_goes_on.result ((q : ℕ) × GoesOn (state_of c.args.state.now) q)
    (All (λ q. GoesOn (state_of c.args.state.now) q → ⊥) ns))
    c.as_slice.ensures.value c.some_goes_on.ensures))
