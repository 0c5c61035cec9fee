-- Pieces in the order of their numbers, and the program that they come from.
use Rattle.std.proofs.Common.{◌≡◌, ◌+◌, ◌-◌, ◌++◌, ℕ, suc, List, [], ◌∷◌, Result, Ok, Err, true, false, refl, sym, ap}
use Rattle.std.proofs.Common.{◌∙◌, subst, length, map, inl, inr, arith}
use Rattle.std.specs.Prelude.{MatchResult, cond, nat_eq, slice_index, get_or, zero, ◌<◌, IsPermutation}
use Rattle.std.proofs.lemmas.Bool.{eq-eqb, eqb-true}
use Rattle.std.proofs.lemmas.List.{ext_get_or}
use Rattle.std.proofs.lemmas.List.Elements.{All-get_or, All-from_get_or}
use Rattle.std.proofs.lemmas.List.Sorted.{All-permutation, IsPermutation-map, IsPermutation-trans, length_permutation}
use Rattle.std.specs.List.{All}
use Rattle.linker.proofs.Fitting.{both}
use Rattle.isa.specs.Programs.{Program as Image, IsProgram}
use Rattle.isa.specs.declared.instr.Instr.{Instr}
use Rattle.scanner.specs.declared.refusal.Refusal.{Refusal}
use Rattle.program.specs.Trees.{Program, Procedure, Monitor}
use Rattle.program.specs.WellFormed.{words_of}
use Rattle.lowering.specs.Marks.{instructions}
use Rattle.lowering.specs.Layout.{Layout, layout_of, monitors_from}
use Rattle.lowering.specs.Pieces.{unlinked_code, piece_code, pieces_code, starts_from, start_of, marked_code, code_of}
use Rattle.lowering.proofs.Linking.{unlinked_moves}
use Rattle.lowering.proofs.LengthLaws.{piece_same}
use Rattle.words.specs.Versions.{base_of}
use Rattle.codegen.specs.declared.code_piece.CodePiece.{CodePiece}
use Rattle.codegen.specs.Generated.{Piece, piece_of, unlinked_from, unlinked_pieces}
use Rattle.linker.specs.Failures.{FailsWhere, RefusesLinking}
use Rattle.linker.specs.Linked.{are_from, IsOrder, Links, places_from, begins, code_from, image_of}

-- what is said of pieces in their order, of them in any
pub of_sorted : (l : Layout) (pieces sorted slice : List CodePiece) (r : Result Image Refusal) → slice ≡ sorted
    → IsOrder l.pieces pieces sorted → MatchResult r (λ i. i ≡ image_of l (map piece_of slice))
    (λ e. FailsWhere (IsProgram (image_of l (map piece_of slice)) → ⊥) e)
    → MatchResult r (λ i. Links l pieces i) (λ e. RefusesLinking l pieces e)
of_sorted l pieces sorted slice (Ok i) same order h =
    record { sorted = sorted; order = order; is = h ∙ ap (λ s. image_of l (map piece_of s)) same }
of_sorted l pieces sorted slice (Err e) same order (inl h) = inl h
of_sorted l pieces sorted slice (Err e) same order (inr h) =
    inr (inr (
      h.0,
      record {
        sorted = sorted;
        order = order;
        over = subst
            (λ s. IsProgram (image_of l (map piece_of s)) → ⊥) same h.1;
      },
    ))

places_same : (p : Program) (n base : ℕ) (qs : List Procedure)
    → places_from base (unlinked_from p n qs) ≡ starts_from p base qs
places_same p n base [] = refl
places_same p n base (q ∷ qs) = ap (λ l. base ∷ l) (places_same p (n + 1) (base + length (unlinked_code p q)) qs)

code_same : (p : Program) (f : ℕ → ℕ) (n base : ℕ) (qs : List Procedure)
    → code_from f base (unlinked_from p n qs) ≡ pieces_code p f qs base
code_same p f n base [] = refl
code_same p f n base (q ∷ qs) =
    let same : length (piece_code p f q base) ≡ length (unlinked_code p q) =
    piece_same p f (λ piece. piece) q base 0 in
    ap (λ l. l ++ code_from f (base + length (unlinked_code p q)) (unlinked_from p (n + 1) qs))
    (unlinked_moves p f q base)
    ∙ ap (λ l. piece_code p f q base ++ l) (code_same p f (n + 1) (base + length (unlinked_code p q)) qs)
    ∙ ap (λ k. piece_code p f q base ++ pieces_code p f qs (base + k)) (sym same)

pub pieces_length : (p : Program) (n : ℕ) (qs : List Procedure) → length (unlinked_from p n qs) ≡ length qs
pieces_length p n [] = refl
pieces_length p n (q ∷ qs) = ap suc (pieces_length p (n + 1) qs)

words_same : (base : ℕ) (ms : List Monitor)
    → map (λ m. m.words) (monitors_from base ms) ≡ map (λ m. words_of m.members) ms
words_same base [] = refl
words_same base (m ∷ ms) = ap (λ l. words_of m.members ∷ l) (words_same (base + 2 + words_of m.members) ms)

-- the pieces of a program, linked, are its image
pub program_linked : (p : Program) → image_of (layout_of p) (unlinked_pieces p) ≡ code_of p
program_linked p =
    let places = places_same p 0 0 p.procedures in
    let ps = unlinked_pieces p in
    let f : List ℕ → ℕ → ℕ = λ l n. slice_index l n in
    let code : instructions (code_from (begins ps) 0 ps) ≡ instructions (marked_code p) =
    ap (λ l. instructions (code_from (f l) 0 ps)) places
    ∙ ap instructions (code_same p (start_of p) 0 0 p.procedures) in
    let begin : begins ps (length ps - 1) ≡ start_of p (length p.procedures - 1) =
    ap (λ l. slice_index l (length ps - 1)) places ∙ ap (λ n. start_of p (n - 1)) (pieces_length p 0 p.procedures) in
    let g : List ℕ → ℕ → List Instr → Image =
    λ m s is. record { version = p.version; monitors = m; start = s; code = is } in
    ap (λ m. g m (begins ps (length ps - 1)) (instructions (code_from (begins ps) 0 ps)))
    (words_same (base_of p.version) p.monitors)
    ∙ ap (λ s. g (code_of p).monitors s (instructions (code_from (begins ps) 0 ps))) begin
    ∙ ap (g (code_of p).monitors (code_of p).start) code

eq_same : (n : ℕ) → nat_eq n n ≡ true
eq_same n = eq-eqb n n refl

numbered_from : (p : Program) (n count : ℕ) (qs : List Procedure) → count ≡ n + length qs
    → are_from n count (unlinked_from p n qs) ≡ true
numbered_from p n count [] e = let same : count ≡ n = omega (arith, e) in ap (nat_eq n) same ∙ eq_same n
numbered_from p n count (q ∷ qs) e =
    ap (λ b. cond b (are_from (n + 1) count (unlinked_from p (n + 1) qs)) false) (eq_same n)
    ∙ numbered_from p (n + 1) count qs (omega (arith, e))

-- they have all numbers below their count, rising by one
pub program_numbered : (p : Program) → are_from 0 (length p.procedures) (unlinked_pieces p) ≡ true
program_numbered p = numbered_from p 0 (length p.procedures) p.procedures
    (let e : length p.procedures ≡ 0 + length p.procedures = omega arith in e)

pub nothing : Piece
nothing = record { number = 0; code = [] }

pub number_at : (n count : ℕ) (xs : List Piece) → are_from n count xs ≡ true → (i : ℕ) → i < length xs
    → (get_or xs i nothing).number ≡ i + n
number_at n count [] e i lt = absurd (omega (arith, lt))
number_at n count (x ∷ xs) e zero lt =
    let h = eqb-true x.number n ((both (nat_eq x.number n) (are_from (n + 1) count xs) e).0) in omega (arith, h)
number_at n count (x ∷ xs) e (suc i) lt =
    let h =
    number_at (n + 1) count xs ((both (nat_eq x.number n) (are_from (n + 1) count xs) e).1) i (omega (arith, lt))
    in omega (arith, h)

-- pieces have one order
pub one_order : (count : ℕ) (xs ys : List Piece) → IsPermutation xs ys → are_from 0 count xs ≡ true
    → are_from 0 count ys ≡ true → ys ≡ xs
one_order count xs ys s e h =
    let P : Piece → Type 0 = λ z. get_or xs z.number nothing ≡ z in
    let all : All P xs =
    All-from_get_or P xs nothing (λ i lt. ap (λ n. get_or xs n nothing)
    (let at = number_at 0 count xs e i lt in omega (arith, at))) in
    let also : All P ys = All-permutation P xs ys s all in
    ext_get_or nothing ys xs (length_permutation xs ys s)
    (λ i lt. sym (All-get_or P ys i nothing lt also)
    ∙ ap (λ n. get_or xs n nothing) (let at = number_at 0 count ys h i lt in omega (arith, at)))

-- the image that links a program's pieces is the program's
pub links_program : (p : Program) (pieces : List CodePiece) (image : Image)
    → IsPermutation (unlinked_pieces p) (map piece_of pieces) → Links (layout_of p) pieces image → image ≡ code_of p
links_program p pieces image s h =
    let order = h.order in
    let all =
    IsPermutation-trans (unlinked_pieces p) (map piece_of pieces) (map piece_of h.sorted) s
    (IsPermutation-map piece_of pieces h.sorted order.same) in
    let one =
    one_order (length p.procedures) (unlinked_pieces p) (map piece_of h.sorted) all (program_numbered p) order.numbered
    in
    h.is ∙ ap (image_of (layout_of p)) one ∙ program_linked p
