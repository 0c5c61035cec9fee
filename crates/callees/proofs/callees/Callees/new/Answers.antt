use Rattle.std.proofs.Common.{◌∙◌, ap, sym, length}
use Rattle.std.proofs.lemmas.List.{length-map}
use Rattle.syntax.specs.Whole.{unit_of}
use Rattle.callees.specs.Pieces.{piece_of}
use Rattle.callees.proofs.Few.{few_in_all}
use Rattle.callees.proofs.Growing.{all_pushed}
use Rattle.callees.proofs.callees.Callees.new.Goals as goal

pub invariant_of-result : goal.invariant_of-result
invariant_of-result c =
    let u = unit_of c.args.unit.now in
    let made = c.in_ok-declared in
    let all = c.outside.new.pieces.items in
    record {
      few = few_in_all u all c.requires
          (all_pushed u made.declared.pieces.items all made.ensures.pieces c.in-Ok.ensures.pieces);
    }

pub returns-in-Ok : goal.returns-in-Ok
returns-in-Ok c =
    let made = c.in_ok-declared in
    let ps = made.declared.pieces.items in
    record {
      few = c.requires;
      monitors = made.ensures.names;
      all = made.ensures.all;
      inner = made.ensures.inner;
      externals = c.in-Ok.ensures.names;
      first = c.len-first_external.ensures ∙ made.declared.pieces.ok.0 ∙ sym (length-map ps piece_of)
          ∙ ap length made.ensures.pieces;
      pieces = all_pushed (unit_of c.args.unit.now) ps c.outside.new.pieces.items made.ensures.pieces
          c.in-Ok.ensures.pieces;
    }
