-- The calls of statements and pieces, one after another.
use Rattle.std.proofs.Common.{◌≡◌, ℕ, ◌<◌, ◌≤◌, ◌+◌, List, [], ◌∷◌, ◌++◌, length, map, take, get_or, sym, ap, ◌∙◌}
use Rattle.std.proofs.Common.{append_assoc, append-nil, add-zero, arith, suc}
use Rattle.std.proofs.lemmas.List.{map-append, take_more, take_all, get_or-map, length-map}
use Rattle.callgraph.specs.declared.Call.{Call}
use Rattle.syntax.specs.declared.statement.Statement.{Statement}
use Rattle.syntax.specs.Tree.{UnitTree}
use Rattle.syntax.specs.View.{statement_of, statements_in}
use Rattle.callees.specs.declared.piece.Piece.{Piece as PieceOf}
use Rattle.callees.specs.Pieces.{piece_of}
use Rattle.types.specs.CallFaults.{calls, block_calls}
use Rattle.types.specs.Judgement.{calls_from}
use Rattle.types.specs.Pieces.{Piece}
use Rattle.types.specs.Scope.{Scope}
use Rattle.unit_faults.specs.Callers.{calls_at}

pub added : (n : ℕ) (a b c : List Call) (xs ys : List ℕ) → b ≡ a ++ calls_at n xs → c ≡ b ++ calls_at n ys
    → c ≡ a ++ calls_at n (xs ++ ys)
added n a b c xs ys e f = f ∙ ap (λ z. z ++ calls_at n ys) e ∙ append_assoc a (calls_at n xs) (calls_at n ys)
    ∙ ap (λ z. a ++ z) (sym (map-append (λ k. record { caller = n; callee = k }) xs ys))

block_push : (s : Scope) (ys : List Statement) (x : Statement)
    → block_calls s (statements_in (ys ++ x ∷ [])) ≡ block_calls s (statements_in ys) ++ calls s (statement_of x)
block_push s [] x = append-nil (calls s (statement_of x))
block_push s (y ∷ ys) x = ap (λ z. calls s (statement_of y) ++ z) (block_push s ys x)
    ∙ sym (append_assoc (calls s (statement_of y)) (block_calls s (statements_in ys)) (calls s (statement_of x)))

-- one statement more
pub block_more : (s : Scope) (n : ℕ) (xs : List Statement) (i : ℕ) (x : Statement) (a b c : List Call) → i < length xs
    → x ≡ get_or xs i x → b ≡ a ++ calls_at n (block_calls s (statements_in (take i xs)))
    → c ≡ b ++ calls_at n (calls s (statement_of x))
    → c ≡ a ++ calls_at n (block_calls s (statements_in (take (i + 1) xs)))
block_more s n xs i x a b c h is e f =
    added n a b c (block_calls s (statements_in (take i xs))) (calls s (statement_of x)) e f
    ∙ ap (λ ks. a ++ calls_at n ks) (sym (ap (λ ys. block_calls s (statements_in ys)) (take_more xs i x h
    ∙ ap (λ y. take i xs ++ y ∷ []) (sym is)) ∙ block_push s (take i xs) x))

-- all statements
pub block_all : (s : Scope) (n : ℕ) (xs : List Statement) (i : ℕ) (a b : List Call) → length xs ≤ i
    → b ≡ a ++ calls_at n (block_calls s (statements_in (take i xs)))
    → b ≡ a ++ calls_at n (block_calls s (statements_in xs))
block_all s n xs i a b h e = e ∙ ap (λ ys. a ++ calls_at n (block_calls s (statements_in ys))) (take_all i xs h)

-- the calls of a piece of this number
abbrev pub calls_of : UnitTree → ℕ → Piece → List Call
calls_of u n q = calls_at n (block_calls (record { unit = u; piece = q }) q.body.statements)

pieces_push : (u : UnitTree) (n : ℕ) (qs : List Piece) (q : Piece)
    → calls_from u n (qs ++ q ∷ []) ≡ calls_from u n qs ++ calls_of u (n + length qs) q
pieces_push u n [] q = append-nil (calls_of u n q) ∙ ap (λ m. calls_of u m q) (sym (add-zero n))
pieces_push u n (p ∷ ps) q =
    let e : n + 1 + length ps ≡ n + suc (length ps) = omega arith in
    ap (λ z. calls_of u n p ++ z) (pieces_push u (n + 1) ps q
    ∙ ap (λ m. calls_from u (n + 1) ps ++ calls_of u m q) e)
    ∙ sym (append_assoc (calls_of u n p) (calls_from u (n + 1) ps) (calls_of u (n + suc (length ps)) q))

-- one piece more
pub pieces_more : (u : UnitTree) (ps : List PieceOf) (i : ℕ) (p : PieceOf) (a b : List Call) → i < length ps
    → p ≡ get_or ps i p → length (take i (map piece_of ps)) ≡ i → a ≡ calls_from u 0 (take i (map piece_of ps))
    → b ≡ a ++ calls_of u i (piece_of p) → b ≡ calls_from u 0 (take (i + 1) (map piece_of ps))
pieces_more u ps i p a b h is l e f =
    let same : get_or (map piece_of ps) i (piece_of p) ≡ piece_of p = get_or-map piece_of ps i p (piece_of p) h
    ∙ ap piece_of (sym is) in
    let before = take i (map piece_of ps) in
    let k : 0 + length before ≡ i = omega (arith, l) in
    f ∙ ap (λ z. z ++ calls_of u i (piece_of p)) e
    ∙ ap (λ m. calls_from u 0 before ++ calls_of u m (piece_of p)) (sym k)
    ∙ sym (pieces_push u 0 before (piece_of p))
    ∙ ap (calls_from u 0) (sym (take_more (map piece_of ps) i (piece_of p) (omega (arith, h, length-map ps piece_of))
    ∙ ap (λ y. before ++ y ∷ []) same))
