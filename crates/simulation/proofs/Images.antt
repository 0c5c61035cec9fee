-- An image that isn't the program's, since that has none; and one that is.
use Rattle.std.proofs.Common.{◌≡◌, ◌≢◌, ◌∙◌, inl, inr, length, List, ap, sym, subst, arith}
use Rattle.isa.specs.Programs.{Program as Image, IsProgram}
use Rattle.piece_machine.specs.PieceConcrete.{PieceConcrete}
use Rattle.piece_machine.specs.PieceViews.{parts}
use Rattle.machine.specs.declared.event.Entry.{Entry}
use Rattle.runner.specs.Reports.{IsVerdict}
use Rattle.scanner.specs.declared.refusal.Refusal.{Refusal}
use Rattle.scanner.specs.declared.refusal.RefusalKind.TheVariants.{Memory}
use Rattle.program.specs.Trees.{Program, as_version}
use Rattle.lowering.specs.Layout.{Layout, layout_of}
use Rattle.lowering.specs.Pieces.{code_of}
use Rattle.backend.specs.Refusals.{RefusesCode}
use Rattle.log_simulation.specs.Explanations.{IsExplained, LeadsTo}
use Rattle.log_simulation.specs.declared.explained_log.ExplainedLog.{ExplainedLog}
use Rattle.simulation.specs.ExplainedLog.{ExplainsEntries}

pub other_image : (p : Program) (i : Image) (e : Refusal) → IsProgram i → e.kind ≢ Memory → RefusesCode p e
    → i ≡ code_of p → ⊥
other_image p i e within other (inl memory) same = other (ap (λ (x : Refusal). x.kind) memory)
other_image p i e within other (inr (t, long)) same =
    let short = within.short in
    let lengths : length i.code ≡ length (code_of p).code = ap (λ (x : Image). length x.code) same in
    absurd (omega (arith, short, lengths, long))

-- a layout has the version of the program whose layout it is
pub by_layout : (p q : Program) (l : Layout) → l ≡ layout_of q → as_version l.version p ≡ as_version q.version p
by_layout p q l is = ap (λ (x : Layout). as_version x.version p) is

-- what explains a log of the program's code explains it of an image that is this code
pub explains_entries : (p : Program) (i : Image) (entries : List Entry) (e : ExplainedLog) → i ≡ code_of p
    → IsExplained p entries e → ExplainsEntries p i entries e
explains_entries p i entries e own h = record {
  explained = record { code = own; recorded = h.recorded };
  last = record {
    program = h.program ∙ sym own;
    leads = subst (λ (x : Image). LeadsTo x entries (parts e.last)) (sym own)
        (subst (λ (k : PieceConcrete). LeadsTo (code_of p) entries k) (sym h.last) h.recorded.legal);
  };
  says = λ verdict is. h.recorded.explained.says verdict
      (subst (λ (k : PieceConcrete). IsVerdict k.concrete verdict) h.last is);
}
