-- Pieces: how many parameters and locals they have, and what they are resolved to.
use Rattle.std.proofs.Common.{◌≡◌, ◌<◌, ◌≤◌, ◌+◌, ℕ, List, Option, length, map, take, get_or}
use Rattle.std.proofs.Common.{ap, ◌∙◌, sym, subst, arith, length-append}
use Rattle.std.specs.List.{Contains, sum_by}
use Rattle.std.proofs.lemmas.List.{take_more, length-map, get_or-map}
use Rattle.std.proofs.lemmas.List.Sums.{sum_by-take-le, sum_by_push}
use Rattle.program.specs.declared.kinds.Role.{Role}
use Rattle.program.specs.declared.kinds.ValueType.{ValueType}
use Rattle.program.specs.Trees.{Block, Procedure}
use Rattle.syntax.specs.View.{parameter_of, local_of}
use Rattle.types.specs.Names.{parameter_names}
use Rattle.types.specs.Pieces.{Piece}
use Rattle.callees.specs.declared.piece.Piece.{Piece as PieceOf}
use Rattle.callees.specs.Pieces.{piece_of}
use Rattle.resolver.specs.Sites.{slots}

-- an element is no larger than the sum of all
within_sum : {X : Type 0} (f : X → ℕ) (xs : List X) (i : ℕ) (d : X) → i < length xs → f (get_or xs i d) ≤ sum_by f xs
within_sum f xs i d lt =
    let e = sum_by-take-le f xs (i + 1) in
    let g : sum_by f (take (i + 1) xs) ≡ sum_by f (take i xs) + f (get_or xs i d) =
    ap (sum_by f) (take_more xs i d lt) ∙ sum_by_push f (take i xs) (get_or xs i d) in
    omega arith

-- so are the parameters and locals of a piece
pub few_slots : (ps : List PieceOf) (i : ℕ) (q : PieceOf) (n : ℕ) → i < length ps → q ≡ get_or ps i q
    → sum_by slots (map piece_of ps) < n → length q.parameters.now + length q.body.now.locals.items < n
few_slots ps i q n lt is few =
    let e = length-map ps piece_of in
    let f : slots (get_or (map piece_of ps) i (piece_of q)) ≤ sum_by slots (map piece_of ps) =
    within_sum slots (map piece_of ps) i (piece_of q) (omega arith) in
    let g : slots (get_or (map piece_of ps) i (piece_of q)) ≡ slots (piece_of q) =
    ap slots (get_or-map piece_of ps i q (piece_of q) lt ∙ ap piece_of (sym is)) in
    let names = parameter_names (map parameter_of q.parameters.now) in
    let h = length-append names (map (λ l. l.name) (map local_of q.body.now.locals.items)) in
    let j = length-map (map parameter_of q.parameters.now) (λ p. p.name) in
    let k = length-map q.parameters.now parameter_of in
    let l = length-map (map local_of q.body.now.locals.items) (λ x. x.name) in
    let m = length-map q.body.now.locals.items local_of in
    omega arith

-- a piece by its number is one of them
pub piece_there : (ps : List PieceOf) (i : ℕ) (q : PieceOf) (qs : List Piece) → i < length ps → q ≡ get_or ps i q
    → map piece_of ps ≡ qs → Contains qs (piece_of q)
piece_there ps i q qs lt is all =
    let e = length-map ps piece_of in
    subst (λ xs. Contains xs (piece_of q)) all (
      i,
      omega arith,
      get_or-map piece_of ps i q (piece_of q) lt ∙ ap piece_of (sym is),
    )

abbrev made : Role → List ValueType → List ValueType → Option ValueType → Block → Procedure
made role p l r b = record { role = role; parameters = p; locals = l; result = r; body = b }

-- procedures of the same parts
pub procedure_same : (role : Role) (p q l m : List ValueType) (r o : Option ValueType) (b c : Block) → p ≡ q → l ≡ m
    → r ≡ o → b ≡ c → made role p l r b ≡ made role q m o c
procedure_same role p q l m r o b c e f g h =
    ap (λ x. made role x l r b) e ∙ ap (λ x. made role q x r b) f ∙ ap (λ x. made role q m x b) g
    ∙ ap (λ x. made role q m o x) h
