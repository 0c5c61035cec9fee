-- The names and pieces of monitors, where one more is read.
use Rattle.std.proofs.Common.{◌≡◌, ℕ, ◌<◌, ◌≤◌, ◌+◌, zero, suc, List, [], ◌∷◌, ◌++◌, length, map, take, get_or}
use Rattle.std.proofs.Common.{Some, None, refl, ap, ◌∙◌, sym, subst, arith, append_assoc, append-nil, add-zero}
use Rattle.std.proofs.Common.{slice_get}
use Rattle.std.specs.Prelude.{option_map}
use Rattle.std.specs.List.{take-map}
use Rattle.std.proofs.lemmas.List.{take_all, take_more, map-append, length-map}
use Rattle.std.proofs.Common.{Result, Ok, Err, IfOk, OnOk}
use Rattle.std.specs.List.{Contains}
use Rattle.std.proofs.lemmas.Option.{slice_get-map, slice_get_read, slice_get-get_or, slice_get_within}
use Rattle.std.proofs.lemmas.Option.{get_or_from_slice_get}
use Rattle.syntax.specs.declared.declaration.Monitor.{Monitor}
use Rattle.program.specs.declared.kinds.Role.TheVariants.{External, Main}
use Rattle.syntax.specs.Tree.{MonitorTree, UnitTree}
use Rattle.syntax.specs.View.{monitor_of}
use Rattle.types.specs.Pieces.{Piece, monitor_pieces, pieces_from, part_of, pieces}
use Rattle.types.specs.Pieces as p
use Rattle.callees.specs.declared.piece.Piece.{Piece as PieceOf}
use Rattle.callees.specs.Pieces.{piece_of}

pub map_twice : {X Y Z : Type 0} (f : Y → Z) (g : X → Y) (xs : List X) → map f (map g xs) ≡ map (λ x. f (g x)) xs
map_twice f g [] = refl
map_twice f g (x ∷ xs) = ap (λ ys. f (g x) ∷ ys) (map_twice f g xs)

-- what holds of each element by its index, and of one more
pub each_more : {X : Type 0} (P : ℕ → X → Type 0) (xs : List X) (x : X)
    → ((i : ℕ) (y : X) → slice_get xs i ≡ Some y → P i y) → P (length xs) x → (i : ℕ) (y : X)
    → slice_get (xs ++ x ∷ []) i ≡ Some y → P i y
each_more P [] x h p zero y e = let same : x ≡ y = cc in subst (P 0) same p
each_more P [] x h p (suc i) y e = let w : None ≡ Some y = e in cc
each_more P (z ∷ xs) x h p zero y e = h 0 y e
each_more P (z ∷ xs) x h p (suc i) y e = each_more (λ j. P (suc j)) xs x (λ j. h (suc j)) p i y e

pub pieces_append : (m : ℕ) (ts us : List MonitorTree)
    → pieces_from m (ts ++ us) ≡ pieces_from m ts ++ pieces_from (m + length ts) us
pieces_append m [] us = ap (λ k. pieces_from k us) (sym (add-zero m))
pieces_append m (t ∷ ts) us =
    let e : m + 1 + length ts ≡ m + suc (length ts) = omega arith in
    ap (λ xs. monitor_pieces m t ++ xs) (pieces_append (m + 1) ts us
    ∙ ap (λ k. pieces_from (m + 1) ts ++ pieces_from k us) e)
    ∙ sym (append_assoc (monitor_pieces m t) (pieces_from (m + 1) ts) (pieces_from (m + suc (length ts)) us))

pub map_more : {X Y : Type 0} (f : X → Y) (xs : List X) (i : ℕ) (d : X) → i < length xs → d ≡ get_or xs i d
    → map f (take (i + 1) xs) ≡ map f (take i xs) ++ f d ∷ []
map_more f xs i d h e = ap (map f) (take_more xs i d h) ∙ map-append f (take i xs) (get_or xs i d ∷ [])
    ∙ ap (λ x. map f (take i xs) ++ f x ∷ []) (sym e)

pub pieces_more : (ts : List MonitorTree) (i : ℕ) (t : MonitorTree) → length ts ≡ i
    → pieces_from 0 ts ++ monitor_pieces i t ≡ pieces_from 0 (ts ++ t ∷ [])
pieces_more ts i t e =
    let f : i ≡ 0 + length ts = omega arith in
    sym (pieces_append 0 ts (t ∷ []) ∙ ap (λ xs. pieces_from 0 ts ++ xs) (append-nil _)
    ∙ ap (λ k. pieces_from 0 ts ++ monitor_pieces k t) (sym f))

pub monitor_here : (ms : List Monitor) (i : ℕ) (d : Monitor) → i < length ms → d ≡ get_or ms i d
    → slice_get (map monitor_of ms) i ≡ Some (monitor_of d)
monitor_here ms i d lt is = slice_get-map monitor_of ms i
    ∙ ap (option_map monitor_of) (slice_get_read ms (length ms) i d refl lt is)

-- as many pieces as the first monitors have
pub pieces_before : (ms : List Monitor) (i : ℕ) (ps : List PieceOf)
    → map piece_of ps ≡ pieces_from 0 (map monitor_of (take i ms))
    → length ps ≡ length (pieces_from 0 (take i (map monitor_of ms)))
pieces_before ms i ps made = sym (length-map ps piece_of) ∙ ap length made
    ∙ ap (λ xs. length (pieces_from 0 xs)) (sym (take-map monitor_of i ms))

pub both_ok : {X E : Type 0} (r : Result X E) (P Q R : X → Type 0) → ((x : X) → P x → Q x → R x) → IfOk r P
    → IfOk r Q → IfOk r R
both_ok (Ok x) P Q R f p q = f x p q
both_ok (Err e) P Q R f p q = tt

pub on_ok : {X E : Type 0} (r : Result X E) (P : Type 0) → P → OnOk r P
on_ok (Ok x) P p = p
on_ok (Err e) P p = tt

-- the piece of this number, as it stands in a `Vec`
pub piece_at : (ps : List PieceOf) (qs : List Piece) (i : ℕ) (d : PieceOf) (q : Piece) → map piece_of ps ≡ qs
    → i < length ps → slice_get qs i ≡ Some q → piece_of (get_or ps i d) ≡ q
piece_at ps qs i d q e lt at =
    let same : Some (piece_of (get_or ps i d)) ≡ Some q = sym (ap (option_map piece_of) (slice_get-get_or ps i d lt))
    ∙ sym (slice_get-map piece_of ps i) ∙ ap (λ xs. slice_get xs i) e ∙ at in
    cc

pub contains_at : {X : Type 0} (xs : List X) (i : ℕ) (x : X) → slice_get xs i ≡ Some x → Contains xs x
contains_at xs i x e = (i, slice_get_within xs i x e, get_or_from_slice_get xs i x x e)

-- the pieces of monitors, then those of external procedures, then MAIN
pub all_pushed : (u : UnitTree) (ps qs : List PieceOf) → map piece_of ps ≡ pieces_from 0 u.monitors
    → map piece_of qs ≡ map piece_of ps ++ map (p.piece_of External) u.procedures ++ part_of Main u.place u.body ∷ []
    → map piece_of qs ≡ pieces u
all_pushed u ps qs e f = f ∙ ap (λ xs. xs ++ map (p.piece_of External) u.procedures
    ++ part_of Main u.place u.body ∷ []) e

-- one more element is pushed, where each is what one of another list is seen as
pub pushed : {X V Y Z : Type 0} (f : Y → Z) (g : V → Z) (v : X → V) (xs : List X) (i : ℕ) (x : X) (ys new : List Y)
    (y : Y) (old : List Z) → i < length xs → x ≡ get_or xs i x → new ≡ ys ++ y ∷ [] → f y ≡ g (v x)
    → map f ys ≡ old ++ map g (map v (take i xs)) → map f new ≡ old ++ map g (map v (take (i + 1) xs))
pushed f g v xs i x ys new y old lt is made seen so_far =
    let next : take (i + 1) xs ≡ take i xs ++ x ∷ [] = take_more xs i x lt ∙ ap (λ z. take i xs ++ z ∷ []) (sym is) in
    let all : map g (map v (take (i + 1) xs)) ≡ map g (map v (take i xs)) ++ g (v x) ∷ [] =
    ap (λ l. map g (map v l)) next ∙ ap (map g) (map-append v (take i xs) (x ∷ []))
    ∙ map-append g (map v (take i xs)) (v x ∷ []) in
    ap (map f) made ∙ map-append f ys (y ∷ []) ∙ ap (λ l. l ++ f y ∷ []) so_far
    ∙ append_assoc old (map g (map v (take i xs))) (f y ∷ [])
    ∙ ap (λ z. old ++ (map g (map v (take i xs)) ++ z ∷ [])) seen ∙ sym (ap (λ l. old ++ l) all)

-- all are pushed
pub each_pushed : {X V Y Z : Type 0} (f : Y → Z) (g : V → Z) (v : X → V) (xs : List X) (i : ℕ) (ys : List Y)
    (old : List Z) → length xs ≤ i → map f ys ≡ old ++ map g (map v (take i xs)) → map f ys ≡ old ++ map g (map v xs)
each_pushed f g v xs i ys old h so_far = so_far ∙ ap (λ l. old ++ map g (map v l)) (take_all i xs h)
