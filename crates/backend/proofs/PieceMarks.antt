-- The marks of a program's pieces are those of its code.
use Rattle.std.proofs.Common.{◌≡◌, ◌≤◌, ◌+◌, ◌++◌, ℕ, List, [], ◌∷◌, refl, sym, ap, ◌∙◌, length, map, drop}
use Rattle.std.proofs.lemmas.List.{append-nil, at_drop_all, map-append}
use Rattle.program.specs.Trees.{Program, Procedure}
use Rattle.lowering.specs.declared.mark.Mark.{Mark}
use Rattle.lowering.specs.declared.mark.Marked.{Marked}
use Rattle.lowering.specs.Linking.{linked_code}
use Rattle.lowering.specs.Pieces.{unlinked_code, piece_code, pieces_code, start_of, marks_of}
use Rattle.lowering.proofs.Linking.{unlinked_moves}
use Rattle.codegen.specs.declared.code_piece.CodePiece.{CodePiece}
use Rattle.codegen.specs.Generated.{Piece, piece_of, unlinked_from, unlinked_pieces}

abbrev pub marks : List Marked → List Mark
marks is = map (λ i. i.mark) is

-- of pieces, one behind the other
abbrev pub marks_from : List Piece → List Mark
marks_from [] = []
marks_from (x ∷ xs) = marks x.code ++ marks_from xs

marks_linked : (f : ℕ → ℕ) (base : ℕ) (is : List Marked) → marks (linked_code f base is) ≡ marks is
marks_linked f base [] = refl
marks_linked f base (i ∷ is) = ap (λ l. i.mark ∷ l) (marks_linked f base is)

marks_same : (p : Program) (f : ℕ → ℕ) (n base : ℕ) (qs : List Procedure)
    → marks_from (unlinked_from p n qs) ≡ marks (pieces_code p f qs base)
marks_same p f n base [] = refl
marks_same p f n base (q ∷ qs) =
    let first = piece_code p f q base in
    let rest = pieces_code p f qs (base + length first) in
    let one : marks (unlinked_code p q) ≡ marks first =
    sym (marks_linked f base (unlinked_code p q)) ∙ ap marks (unlinked_moves p f q base) in
    ap (λ l. l ++ marks_from (unlinked_from p (n + 1) qs)) one
    ∙ ap (λ l. marks first ++ l) (marks_same p f (n + 1) (base + length first) qs)
    ∙ sym (map-append (λ (i : Marked). i.mark) first rest)

pub program_marks : (p : Program) → marks_from (unlinked_pieces p) ≡ marks_of p
program_marks p = marks_same p (start_of p) 0 0 p.procedures

-- where nothing is left, all is appended
pub all_appended : (made all : List Mark) (i : ℕ) (ps : List CodePiece) → length ps ≤ i
    → made ++ marks_from (map piece_of (drop i ps)) ≡ all → made ≡ all
all_appended made all i ps past e =
    sym (append-nil made) ∙ sym (at_drop_all (λ l. made ++ marks_from (map piece_of l)) ps i past) ∙ e
