use Rattle.std.proofs.Common.{◌≡◌, subst}
use Rattle.std.proofs.lemmas.Option.{IfSome_then}
use Rattle.std.proofs.lemmas.Result.{IfOk-weaker}
use Rattle.program.specs.Views.{program_of}
use Rattle.source_reaching.specs.Among.{IsAheadAmong}
use Rattle.source_states.specs.States.{state_of}
use Rattle.source_search.proofs.Coverage.{ahead_merged}
use Rattle.source_search.proofs.parts.Parts.follow_from.Goals as goal

pub returns-clause-ahead : goal.returns-clause-ahead
returns-clause-ahead g c = λ within.
    let p = program_of c.args.checked.now.tree in
    let parts = c.args.self.now in
    let spot = c.args.spot in
    let s = state_of c.args.small.now in
    let s' = state_of c.follow_own.new.state in
    let number : c.from.result ≡ spot.process = c.from.ensures in
    let alone : IsAheadAmong p c.from.result s s' =
    c.is_lost.ensures.ahead c.if-is_lost.false p c.from.result s s' c.in_ok-followed.ensures in
    let ahead : IsAheadAmong p spot.process s s' = subst (λ t. IsAheadAmong p t s s') number alone in
    IfOk-weaker c.merge.result _ _ (λ o h. IfSome_then o h (λ y merged.
    ahead_merged p parts c.merge.new.self c.args.packed.now y c.args.place spot s s' c.requires.spot c.requires.alone ahead
    merged)) (c.merge.ensures.merged within)
