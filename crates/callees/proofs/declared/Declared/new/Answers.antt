use Rattle.std.proofs.Common.{◌≡◌, ◌<◌, ◌^◌, ◌-◌, ◌+◌, ◌++◌, ◌∷◌, [], ◌∙◌, ap, sym, subst, arith, length, map, take}
use Rattle.std.proofs.Common.{slice_get, Some}
use Rattle.std.proofs.lemmas.List.{length-map, length-take-le, length-append, map-append}
use Rattle.syntax.specs.View.{monitor_of, member_of, monitor_procedure_of}
use Rattle.syntax.specs.Whole.{unit_of}
use Rattle.types.specs.Pieces.{monitor_pieces, pieces_from, first_piece}
use Rattle.types.specs.Tables.{IsTable}
use Rattle.callees.specs.Names.{IsNames}
use Rattle.callees.proofs.Few.{few_pieces, few_members, few_procedures}
use Rattle.callees.proofs.Growing.{each_more, map_more, monitor_here, pieces_before, pieces_more}
use Rattle.callees.proofs.declared.Declared.new.Goals as goal

pub push-requires-clause-pieces : goal.push-requires-clause-pieces
push-requires-clause-pieces c =
    let u = unit_of c.args.unit.now in
    let ms = c.deref-monitor-items.result.now in
    let i = c.loop-number.number in
    let f = pieces_before ms i c.loop-number.declared.pieces.items c.loop-number.invariant.pieces in
    let g : length (pieces_from 0 (take i u.monitors)) < 2 ^ 32 - 1 = few_pieces u i c.requires in
    let h : length (pieces_from 0 (take i (map monitor_of ms))) ≡ length (pieces_from 0 (take i u.monitors)) =
    ap (λ xs. length (pieces_from 0 (take i (map monitor_of xs)))) c.deref-monitor-items.ensures.value in
    omega arith

pub push-requires-clause-members : goal.push-requires-clause-members
push-requires-clause-members c =
    let u = unit_of c.args.unit.now in
    let d = c.monitor-item.result in
    let at : slice_get u.monitors c.loop-number.number ≡ Some (monitor_of d) =
    sym (ap (λ xs. slice_get (map monitor_of xs) c.loop-number.number) c.deref-monitor-items.ensures.value)
    ∙ monitor_here c.deref-monitor-items.result.now c.loop-number.number d c.loop-number-test.true c.monitor-item.is in
    let f = few_members u c.loop-number.number (monitor_of d) c.requires at in
    let g = length-map d.members.items member_of in
    omega arith

pub push-requires-clause-procedures : goal.push-requires-clause-procedures
push-requires-clause-procedures c =
    let u = unit_of c.args.unit.now in
    let d = c.monitor-item.result in
    let at : slice_get u.monitors c.loop-number.number ≡ Some (monitor_of d) =
    sym (ap (λ xs. slice_get (map monitor_of xs) c.loop-number.number) c.deref-monitor-items.ensures.value)
    ∙ monitor_here c.deref-monitor-items.result.now c.loop-number.number d c.loop-number-test.true c.monitor-item.is in
    let f = few_procedures u c.loop-number.number (monitor_of d) c.requires at in
    let g = length-map d.procedures.items monitor_procedure_of in
    omega arith

pub loop-number-preserved : goal.loop-number-preserved
loop-number-preserved c =
    let u = unit_of c.args.unit.now in
    let ms = c.deref-monitor-items.result.now in
    let i = c.loop-number.number in
    let d = c.monitor-item.result in
    let ts = map monitor_of (take i ms) in
    let old = c.loop-number.declared in
    let more = map_more monitor_of ms i d c.loop-number-test.true c.monitor-item.is in
    let pushed = c.in_ok-push.ensures.inner in
    let made = pushed.0 in
    let at : slice_get u.monitors i ≡ Some (monitor_of d) =
    sym (ap (λ xs. slice_get (map monitor_of xs) i) c.deref-monitor-items.ensures.value)
    ∙ monitor_here ms i d c.loop-number-test.true c.monitor-item.is in
    let first : made.first_piece ≡ first_piece u i = pushed.3
    ∙ pieces_before ms i old.pieces.items c.loop-number.invariant.pieces
    ∙ ap (λ xs. length (pieces_from 0 (take i (map monitor_of xs)))) c.deref-monitor-items.ensures.value in
    record {
      names = subst (λ xs. IsTable (map (λ m. m.name) xs) c.push.new.self.names) (sym more)
          (subst (λ ns. IsTable ns c.push.new.self.names) (sym (map-append (λ m. m.name) ts (monitor_of d ∷ [])))
          (c.in_ok-push.ensures.names _ c.loop-number.invariant.names));
      pieces = c.in_ok-push.ensures.pieces
          ∙ ap (λ xs. xs ++ monitor_pieces i (monitor_of d)) c.loop-number.invariant.pieces
          ∙ pieces_more ts i (monitor_of d) (length-map (take i ms) monitor_of ∙ length-take-le i ms
          c.loop-number.auto.number-end) ∙ ap (pieces_from 0) (sym more);
      all = ap length pushed.1 ∙ length-append old.inner.items _ ∙ ap (λ n. n + 1) c.loop-number.invariant.all;
      inner = λ m n e. each_more (IsNames u) old.inner.items made c.loop-number.invariant.inner
          (subst (λ k. IsNames u k made) (sym c.loop-number.invariant.all) (monitor_of d, at, pushed.2, first))
          m n (sym (ap (λ xs. slice_get xs m) pushed.1) ∙ e);
    }
