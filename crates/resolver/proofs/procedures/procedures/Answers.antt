use Rattle.std.proofs.Common.{◌<◌, ◌+◌, ◌&&◌, drop, refl, subst, ap, sym, ◌∙◌, map}
use Rattle.std.specs.List.{sum_by}
use Rattle.std.specs.Prelude.{flat_map}
use Rattle.program.specs.Views as p
use Rattle.types.specs.Resolved as r
use Rattle.callees.specs.Pieces.{piece_of}
use Rattle.resolver.specs.Clean.{is_clean}
use Rattle.resolver.specs.Sites.{slots, piece_faults}
use Rattle.resolver.proofs.CleanBodies.{clean_more, clean_end}
use Rattle.resolver.proofs.Pieces.{few_slots, piece_there}
use Rattle.resolver.proofs.BlockRows.{view_step, row_all}
use Rattle.resolver.proofs.procedures.procedures.Goals as goal

pub procedure-requires : goal.procedure-requires
procedure-requires c =
    few_slots c.deref-piece-items.result.now c.loop-piece.piece-index c.piece-item.result _ c.loop-piece-test.true
    c.piece-item.is
    (subst (λ ps. sum_by slots (map piece_of ps) < _) (sym c.deref-piece-items.ensures.value) c.requires)

pub loop-piece-preserved : goal.loop-piece-preserved
loop-piece-preserved c = λ u k.
    let ps = c.deref-piece-items.result.now in
    let i = c.loop-piece.piece-index in
    let q = c.piece-item.result in
    let lt = c.loop-piece-test.true in
    let made = c.in_ok-procedure in
    let there = piece_there ps i q _ lt c.piece-item.is (ap (map piece_of) c.deref-piece-items.ensures.value
    ∙ k.pieces) in (
      view_step p.procedure_of (r.procedure u) piece_of _ _ _ ps i q lt c.in_ok-push.ensures.items
          (made.ensures.procedure u k there ∙ ap (λ x. r.procedure u (piece_of x)) c.piece-item.is)
          (c.loop-piece.invariant u k).0,
      clean_more (λ xs. flat_map (piece_faults u) (map piece_of xs)) (λ x. piece_faults u (piece_of x)) (λ x xs. refl)
          ps i q c.loop-piece.all_clean made.is_clean _ lt c.piece-item.is (made.ensures.clean u k there)
          (c.loop-piece.invariant u k).1
          ∙ ap (λ b. b && is_clean (flat_map (piece_faults u) (map piece_of (drop (i + 1) ps))))
          (sym c.both-all_clean.ensures),
    )

pub returns-clause-procedures : goal.returns-clause-procedures
returns-clause-procedures c = λ u k.
    row_all (λ ps. map (r.procedure u) (map piece_of ps)) _ c.deref-piece-items.result.now c.loop-piece.piece-index
    c.loop-piece-test.false (c.loop-piece.invariant u k).0
    ∙ ap (λ ps. map (r.procedure u) (map piece_of ps)) c.deref-piece-items.ensures.value

pub returns-clause-clean : goal.returns-clause-clean
returns-clause-clean c = λ u k.
    clean_end (λ ps. flat_map (piece_faults u) (map piece_of ps)) refl c.deref-piece-items.result.now
    c.loop-piece.piece-index c.loop-piece.all_clean _ c.loop-piece-test.false (c.loop-piece.invariant u k).1
    ∙ ap (λ ps. is_clean (flat_map (piece_faults u) (map piece_of ps))) c.deref-piece-items.ensures.value
