-- What generating and linking refuse of a program's pieces.
use Rattle.std.proofs.Common.{◌≡◌, ◌+◌, ◌≤◌, ◌⊎◌, ℕ, true, false, Result, Ok, Err, List, [], ◌∷◌, refl, sym}
use Rattle.std.proofs.Common.{◌∙◌, subst, length}
use Rattle.std.proofs.Common.{length-append, map, inl, inr, arith}
use Rattle.std.specs.Prelude.{IsPermutation, nat_le, MatchResult, IsErr, IsErrAnd}
use Rattle.std.proofs.lemmas.List.Sorted.{IsPermutation-refl}
use Rattle.std.proofs.lemmas.Bool.Decides.{leb_tells}
use Rattle.isa.specs.Limits.{most_instructions}
use Rattle.isa.specs.Programs.{Program as Image, IsProgram}
use Rattle.scanner.specs.declared.refusal.Refusal.{Refusal}
use Rattle.program.specs.Trees.{Program, Procedure}
use Rattle.program.specs.WellFormed.{WellFormed}
use Rattle.lowering.specs.Layout.{layout_of}
use Rattle.lowering.specs.Pieces.{piece_code, pieces_code, start_of, marked_code, code_of}
use Rattle.lowering.proofs.LengthLaws.{piece_same}
use Rattle.codegen.specs.declared.code_piece.CodePiece.{CodePiece}
use Rattle.codegen.specs.Generated as generated
use Rattle.linker.specs.Failures as linked
use Rattle.linker.specs.Linked.{Links, image_of}
use Rattle.linker.proofs.Orders.{links_program}
use Rattle.linker.proofs.Rising.{program_known}
use Rattle.lowering_limits.proofs.Images.{within, length_instructions}
use Rattle.backend.specs.Refusals.{CodeFits, CodeIsTooLong, RefusesCode}

length_made : (p : Program) (f : ℕ → ℕ) (qs : List Procedure) (base : ℕ) → length (pieces_code p f qs base)
    ≡ generated.length_of p qs
length_made p f [] base = refl
length_made p f (q ∷ qs) base =
    let first = piece_code p f q base in
    let both = length-append first (pieces_code p f qs (base + length first)) in
    let same = piece_same p f (λ piece. piece) q base 0 in
    let rest = length_made p f qs (base + length first) in omega (arith, both, same, rest)

-- a program that isn't generated
pub of_generate : (p : Program) (e : Refusal) → generated.RefusesPieces p e → RefusesCode p e
of_generate p e (inl memory) = inl memory
of_generate p e (inr long) =
    let over = long.1 in
    let n = length_instructions (marked_code p) ∙ length_made p (start_of p) p.procedures 0 in
    inr (long.0, omega (arith, over, n))

-- what isn't within the limits of an image is too long
long : (p : Program) → WellFormed p → (IsProgram (code_of p) → ⊥) → CodeIsTooLong p
long p formed over = decided (leb_tells (length (code_of p).code) most_instructions)
  where
    decided : ((nat_le (length (code_of p).code) most_instructions ≡ true)
        × (length (code_of p).code ≤ most_instructions))
        ⊎ ((nat_le (length (code_of p).code) most_instructions ≡ false) × CodeIsTooLong p) → CodeIsTooLong p
    decided (inl short) = absurd (over (within p formed short.1))
    decided (inr long) = long.1

module _ (p : Program) (pieces : List CodePiece) (made : map generated.piece_of pieces ≡ generated.unlinked_pieces p)
  where
    -- they are the program's pieces
    pub same : IsPermutation (generated.unlinked_pieces p) (map generated.piece_of pieces)
    same = subst (λ l. IsPermutation l (map generated.piece_of pieces)) made
        (IsPermutation-refl (map generated.piece_of pieces))

    -- pieces that aren't linked
    pub of_link : WellFormed p → (e : Refusal) → linked.RefusesLinking (layout_of p) pieces e → RefusesCode p e
    of_link formed e (inl memory) = inl memory
    of_link formed e (inr (inl stray)) = absurd (program_known p pieces same stray.1)
    of_link formed e (inr (inr much)) =
        let h = much.1 in
        let is = links_program p pieces (image_of (layout_of p) (map generated.piece_of h.sorted)) same
        (record { sorted = h.sorted; order = h.order; is = refl }) in
        inr (much.0, long p formed (subst (λ i. IsProgram i → ⊥) is h.over))

-- an error passed on is the same error
pub passed : {T : Type 0} (r : Result T Refusal) (e : Refusal) (P : T → Type 0) (Q : Refusal → Type 0) → IsErr r
    × IsErrAnd r (λ x. x ≡ e) → Q e → MatchResult r P Q
passed (Ok t) e P Q h q = absurd h.1
passed (Err x) e P Q h q = subst Q (sym h.1) q

-- pieces that are linked
pub of_linked : (p : Program) (pieces : List CodePiece) (i : Image)
    → map generated.piece_of pieces ≡ generated.unlinked_pieces p → Links (layout_of p) pieces i → IsProgram i
    → (i ≡ code_of p) × CodeFits p
of_linked p pieces i made h within =
    let is = links_program p pieces i (same p pieces made) h in
    (is, (subst IsProgram is within).short)
