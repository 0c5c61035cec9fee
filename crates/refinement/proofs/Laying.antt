-- The pieces of a program's code stand in its image where they begin.
use Rattle.std.proofs.Common.{◌≡◌, ℕ, ◌+◌, List, [], ◌∷◌, ◌++◌, length, map, Some, slice_get, refl, ap, sym, ◌∙◌, subst}
use Rattle.std.proofs.Common.{length-append, append_assoc, arith}
use Rattle.isa.specs.declared.instr.Instr.{Instr}
use Rattle.program.specs.Trees.{Procedure, Program}
use Rattle.lowering.specs.declared.mark.Mark.{Mark}
use Rattle.lowering.specs.declared.mark.Marked.{Marked}
use Rattle.lowering.specs.Marks.{instructions}
use Rattle.lowering.specs.Pieces.{piece_code, start_of, marked_code}
use Rattle.lowering.proofs.LengthLaws.{pieces_stand}
use Rattle.proof_thread.specs.Deferrals.{MarkedImage}
use Rattle.proof_thread.specs.Walks.{StandAt}
use Rattle.proof_thread.proofs.Walking.{front_stands, back_stands}
use Rattle.refinement.specs.Built.{marked_image}

-- what stands behind others
get_behind : {A : Type 0} (xs : List A) (y : A) (ys : List A) → slice_get (xs ++ y ∷ ys) (length xs) ≡ Some y
get_behind [] y ys = refl
get_behind (x ∷ xs) y ys = get_behind xs y ys

-- all instructions behind others stand behind them, with their marks
behind_stands : (image : MarkedImage) (before : List Instr) (passed : List Mark) (ms : List Marked)
    → image.image.code ≡ before ++ instructions ms → image.marks ≡ passed ++ map (λ i. i.mark) ms
    → length passed ≡ length before → StandAt image (length before) ms
behind_stands image before passed [] h k same = tt
behind_stands image before passed (m ∷ ms) h k same =
    let here : slice_get image.image.code (length before) ≡ Some m.instruction = ap
    (λ (is : List Instr). slice_get is (length before)) h ∙ get_behind before (m.instruction) (instructions ms) in
    let mark : slice_get image.marks (length before) ≡ Some m.mark =
    ap (λ n. slice_get image.marks n) (sym same) ∙ ap (λ (is : List Mark). slice_get is (length passed)) k
    ∙ get_behind passed (m.mark) (map (λ i. i.mark) ms) in
    let next : image.image.code ≡ (before ++ m.instruction ∷ []) ++ instructions ms = h ∙ sym
    (append_assoc before (m.instruction ∷ []) (instructions ms)) in
    let next_marks : image.marks ≡ (passed ++ m.mark ∷ []) ++ map (λ i. i.mark) ms = k ∙ sym
    (append_assoc passed (m.mark ∷ []) (map (λ i. i.mark) ms)) in
    let len : length (before ++ m.instruction ∷ []) ≡ length before + 1 = length-append before (m.instruction ∷ []) in
    let marks_len : length (passed ++ m.mark ∷ []) ≡ length passed + 1 = length-append passed (m.mark ∷ []) in (
      (here, mark),
      subst (λ n. StandAt image n ms) len (behind_stands image (before ++ m.instruction ∷ []) (passed ++ m.mark ∷ []) ms
          next next_marks (omega (arith, len, marks_len, same))),
    )

pub all_laid : (p : Program) (n : ℕ) (q : Procedure) → slice_get p.procedures n ≡ Some q → StandAt (marked_image p)
    (start_of p n) (piece_code p (start_of p) q (start_of p n))
all_laid p n q there =
    let piece = piece_code p (start_of p) q (start_of p n) in
    let s = pieces_stand p n q there in
    let whole : StandAt (marked_image p) 0 (s.front ++ (piece ++ s.back)) = subst
    (λ (xs : List Marked). StandAt (marked_image p) 0 xs)
    s.is (behind_stands (marked_image p) [] [] (marked_code p) refl refl refl) in
    let tail = back_stands (marked_image p) 0 s.front (piece ++ s.back) whole in
    let at : 0 + length s.front ≡ start_of p n = omega (arith, s.at) in
    subst (λ k. StandAt (marked_image p) k piece) at
    (front_stands (marked_image p) (0 + length s.front) piece s.back tail)
