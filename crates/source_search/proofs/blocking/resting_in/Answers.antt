use Rattle.std.proofs.Common.{◌∙◌, subst}
use Rattle.std.specs.Prelude.{IfOk}
use Rattle.program.specs.Views.{program_of}
use Rattle.source_search.specs.Kept.{states_in}
use Rattle.source_search.specs.Living.{IsLookedFor}
use Rattle.source_search.proofs.Lively.{items_of}
use Rattle.source_search.proofs.Remembered.{fit_known, nothing_known}
use Rattle.source_search.proofs.blocking.resting_in.Goals as goal

pub look_for_resting-found-requires-clause-known : goal.look_for_resting-found-requires-clause-known
look_for_resting-found-requires-clause-known c =
    let p = program_of c.args.checked.now.tree in
    fit_known p c.args.kept.now.parts c.new-memo.result
    (nothing_known p c.args.kept.now.parts c.new-memo.result c.new-memo.ensures) c.fit.new.self c.in_ok-fit.ensures

pub returns : goal.returns
returns c =
    subst (λ xs. IfOk c.look_for_resting-found.result
    (IsLookedFor (program_of c.args.checked.now.tree) (states_in c.args.kept.now.parts xs)))
    (c.as_slice.ensures.value ∙ items_of c.replace-states.result c.args.kept.now c.replace-states.ensures.value)
    c.look_for_resting-found.ensures.found
