use Rattle.std.proofs.Common.{sym, subst}
use Rattle.isa.specs.Programs.{Program as Image}
use Rattle.program.specs.Names.{said_by}
use Rattle.program.specs.Trees.{Program, as_version}
use Rattle.lowering.specs.Pieces.{code_of}
use Rattle.log_simulation.specs.Explanations.{ExplainsLog, IsExplained, StopsAt}
use Rattle.log_simulation.specs.declared.explained_log.LogExplanation.{LogExplanation}
use Rattle.simulation.proofs.Images.{by_layout, explains_entries}
use Rattle.simulation.proofs.explaining.explain_log_lowered.Goals as goal

pub returns-in-StopsAt : goal.returns-in-StopsAt
returns-in-StopsAt c =
    let said = said_by c.args.checked.now in
    let l = c.args.lowered.layout in
    let p = as_version c.args.lowered.image.version said in
    let told = subst (λ (t : LogExplanation). ExplainsLog (as_version l.version said) c.args.log t) c.in-StopsAt.is
    c.in_ok-number.ensures in
    subst (λ (i : Image). StopsAt i c.args.log c.in-StopsAt.number) (sym c.requires.image)
    (subst (λ (q : Program). StopsAt (code_of q) c.args.log c.in-StopsAt.number) (by_layout said p l c.requires.layout)
    told)

pub returns : goal.returns
returns c =
    let said = said_by c.args.checked.now in
    let l = c.args.lowered.layout in
    let p = as_version c.args.lowered.image.version said in
    let told = subst (λ (t : LogExplanation). ExplainsLog (as_version l.version said) c.args.log t) c.in-Explained.is
    c.in_ok-number.ensures in
    explains_entries p c.args.lowered.image c.args.log c.in-Explained.explained c.requires.image
    (subst (λ (q : Program). IsExplained q c.args.log c.in-Explained.explained) (by_layout said p l c.requires.layout)
    told)
