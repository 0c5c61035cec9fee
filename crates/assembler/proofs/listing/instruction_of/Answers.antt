use Rattle.std.proofs.Common.{◌∙◌, ap}
use Rattle.isa.specs.Instructions.{operands}
use Rattle.assembler.specs.Named.{called, first_of}
use Rattle.assembler.proofs.Rows.{few_operands, made_by, row_again}
use Rattle.assembler.proofs.Shown.{name_cut, none_some, read_of}
use Rattle.assembler.proofs.listing.instruction_of.Goals as goal

pub returns-in_err-kind : goal.returns-in_err-kind
returns-in_err-kind c = λ i shows is.
    let cut = c.cut-halves.ensures in
    let name = name_cut i _ _ _ cut.whole cut.front cut.rest is in
    absurd (none_some (first_of i) (c.in_err-kind.ensures ∙ ap called name.0 ∙ row_again i))

pub returns-in_err-pair : goal.returns-in_err-pair
returns-in_err-pair c = λ i shows is.
    let cut = c.cut-halves.ensures in
    let name = name_cut i _ _ _ cut.whole cut.front cut.rest is in
    absurd (none_some (read_of (operands i)) (c.in_err-pair.ensures (operands i) (few_operands i) shows.1 name.1))

pub returns : goal.returns
returns c = λ i shows is.
    let cut = c.cut-halves.ensures in
    let name = name_cut i _ _ _ cut.whole cut.front cut.rest is in
    made_by i c.in_ok-kind.kind c.in_ok-pair.pair _ shows.0 (c.in_ok-kind.ensures ∙ ap called name.0 ∙ row_again i)
    (c.in_ok-pair.ensures (operands i) (few_operands i) shows.1 name.1) c.made.ensures
