use Rattle.machine.specs.States.{opening_state}
use Rattle.image_states.specs.Nexts.{Covers}
use Rattle.image_states.specs.Packed.{IsWithin}
use Rattle.image_states.specs.declared.parts.Parts.{Parts as PartsOf}
use Rattle.std.proofs.Common.{◌∙◌, ap}
use Rattle.image_search.proofs.Searched.{match_none, opened}
use Rattle.image_search.proofs.explore.keep_opening.Goals as goal

pub returns-clause-opens : goal.returns-clause-opens
returns-clause-opens c =
    match_none _ _ _ c.in_ok-bound.bound (λ has.
    let p = c.args.image.now in
    let covers : Covers p c.opening.new.self c.in-Some.packed (opening_state p) 0 =
    rw c.in-Some.is at c.in_ok-packed.ensures.covers in
    let within : IsWithin c.opening.new.self c.in-Some.packed = rw c.in-Some.is at c.in_ok-packed.ensures.within in
    opened p c.keep_state.new.self c.opening.new.self c.in-Some.packed covers c.in_ok-bound.ensures.more.parts (has within))
    c.in_ok-bound.ensures.kept

pub returns-in_default-clause-opens : goal.returns-in_default-clause-opens
returns-in_default-clause-opens c = rw c.in_default.is at c.in_ok-packed.ensures.full

pub returns-in_default-clause-alone : goal.returns-in_default-clause-alone
returns-in_default-clause-alone c = (c.in_ok-packed.ensures.grown).alone

pub returns-clause-alone : goal.returns-clause-alone
returns-clause-alone c =
    ap (λ (parts : PartsOf). parts.alone) c.in_ok-bound.ensures.more.parts ∙ (c.in_ok-packed.ensures.grown).alone
