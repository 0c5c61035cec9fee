use Rattle.std.proofs.Common.{◌≡◌, subst}
use Rattle.program.specs.Views.{program_of}
use Rattle.meaning.specs.Runs.{CanMove}
use Rattle.source_states.specs.States.{state_of}
use Rattle.source_search.specs.Spots.{IsAlone}
use Rattle.source_search.proofs.Lively.{told_true}
use Rattle.source_search.proofs.parts.Parts.can_move.Goals as goal

pub returns : goal.returns
returns c = λ e.
    let p = program_of c.args.checked.now.tree in
    let single : IsAlone c.args.self.now c.args.spot (state_of c.in-Some.small) = rw c.in-Some.is at c.in_ok-small.ensures in
    let number : c.from.result ≡ c.args.spot.process = c.from.ensures in
    subst (λ r. CanMove p r c.args.spot.process) single.same
    (subst (CanMove p (state_of c.in-Some.small)) number (told_true c.can_move.result _ _ c.can_move.ensures e))
