use Rattle.std.proofs.Common.{◌+◌, ◌∙◌, ap, drop, sym}
use Rattle.isa.specs.Lines.{lines}
use Rattle.assembler.proofs.Lines.{line_cut, shorter}
use Rattle.assembler.proofs.Shown.{none_some, some_is}
use Rattle.assembler.proofs.listing.next_line.Goals as goal

pub returns-in_err-instr-clause-reads : goal.returns-in_err-instr-clause-reads
returns-in_err-instr-clause-reads c = λ i is shows text.
    let cut = c.cut-halves.ensures in
    let p = line_cut c.args.place _ _ _ i is c.requires shows text cut.whole cut.front cut.rest in
    absurd (none_some i (c.in_err-instr.ensures i shows p.0))

pub returns-in_err-behind-clause-reads : goal.returns-in_err-behind-clause-reads
returns-in_err-behind-clause-reads c = λ i is shows text.
    let cut = c.cut-halves.ensures in
    let p = line_cut c.args.place _ _ _ i is c.requires shows text cut.whole cut.front cut.rest in
    absurd (c.in_err-behind.ensures (lines (c.args.place + 1) is) p.1)

pub returns-clause-reads : goal.returns-clause-reads
returns-clause-reads c = λ i is shows text.
    let cut = c.cut-halves.ensures in
    let p = line_cut c.args.place _ _ _ i is c.requires shows text cut.whole cut.front cut.rest in
    (some_is c.in_ok-instr.instr i (c.in_ok-instr.ensures i shows p.0), ap (drop 1) (sym c.in_ok-behind.ensures ∙ p.1))

pub returns-clause-shorter : goal.returns-clause-shorter
returns-clause-shorter c = shorter _ _ _ _ c.cut-halves.ensures.whole c.in_ok-behind.ensures
