use Rattle.std.proofs.Common.{All, arith, subst, sym}
use Rattle.std.proofs.lemmas.Result.{IfOk-weaker}
use Rattle.program.specs.Views.{program_of}
use Rattle.proof_exploration.specs.Blocking.{IsBlocked}
use Rattle.source_states.specs.States.{state_of}
use Rattle.source_search.specs.Kept.{states_of}
use Rattle.source_search.proofs.Lively.{closed_like, held_blocked}
use Rattle.source_search.proofs.holding.held_from.Goals as goal

pub returns-then-not-branch : goal.returns-then-not-branch
returns-then-not-branch c = λ actions run.
    subst (All (IsBlocked (program_of c.args.checked.now.tree) (state_of c.args.state.now))) (sym c.new.ensures.items)
    (λ k d l. absurd (omega (arith, l)))

pub returns : goal.returns
returns c =
    let p = program_of c.args.checked.now.tree in
    let s = state_of c.args.state.now in
    IfOk-weaker c.held_of.result _ _ (λ v all.
    held_blocked p c.program-program.ensures.well_formed (states_of c.search_from.new.kept) s
    (closed_like p (states_of c.search_from.new.kept) (state_of c.in_ok-copied.copied) s c.in_ok-copied.ensures
    (c.in_ok-search_from.ensures c.if-not-branch.false)) v.items (all p))
    c.held_of.ensures
