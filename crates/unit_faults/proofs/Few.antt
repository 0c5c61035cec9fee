-- What a unit of few declarations has few of.
use Rattle.std.proofs.Common.{◌≡◌, ℕ, ◌<◌, ◌+◌, ◌-◌, ◌^◌, length, map, get_or, Some, sym, ap, ◌∙◌}
use Rattle.std.proofs.Common.{arith, length-append}
use Rattle.std.specs.Prelude.{slice_get, option_map, sum_by}
use Rattle.std.specs.List.{All}
use Rattle.std.proofs.lemmas.List.{length-map, get_or-map}
use Rattle.std.proofs.lemmas.List.Sums.{sum_by_more_le}
use Rattle.std.proofs.lemmas.Option.{slice_get-map, slice_get-get_or}
use Rattle.syntax.specs.declared.unit.Unit.{Unit}
use Rattle.syntax.specs.View.{monitor_of, procedure_of, member_of, monitor_procedure_of, parameter_of, local_of}
use Rattle.syntax.specs.Whole.{unit_of}
use Rattle.callees.specs.declared.callees.Callees.{Callees}
use Rattle.callees.specs.declared.piece.Piece.{Piece as PieceOf}
use Rattle.callees.specs.Names.{declarations, IsCallees}
use Rattle.callees.specs.Pieces.{piece_of}
use Rattle.syntax.specs.Tree.{UnitTree}
use Rattle.types.specs.Names.{body_scope}
use Rattle.types.specs.Pieces.{Piece, pieces}
use Rattle.callees.proofs.Few.{all_pieces}
use Rattle.unit_faults.proofs.Callable.{monitor_within}

pub few_outer : (x : Unit) → declarations (unit_of x) < 2 ^ 32 - 1
    → length x.monitors.items + length x.procedures.items < 2 ^ 32 - 1
few_outer x h =
    let f = length-map x.monitors.items monitor_of in
    let g = length-map x.procedures.items procedure_of in
    let k = all_pieces (unit_of x) in
    omega (arith, h, f, g, k)

pub few_inner : (x : Unit) → declarations (unit_of x) < 2 ^ 32 - 1
    → All (λ m. length m.members.items + length m.procedures.items < 2 ^ 32 - 1) x.monitors.items
few_inner x h i d l =
    let m = get_or x.monitors.items i d in
    let at : slice_get (map monitor_of x.monitors.items) i ≡ Some (monitor_of m) =
    slice_get-map monitor_of x.monitors.items i ∙ ap (option_map monitor_of)
    (slice_get-get_or x.monitors.items i d l) in
    let w = monitor_within (unit_of x) i (monitor_of m) at in
    let f = length-map m.members.items member_of in
    let g = length-map m.procedures.items monitor_procedure_of in
    omega (arith, h, w, f, g)

pub piece_count : (u : UnitTree) (c : Callees) → IsCallees u c → length c.pieces.items ≡ length (pieces u)
piece_count u c h = sym (length-map c.pieces.items piece_of) ∙ ap length h.pieces

pub few_pieces : (u : UnitTree) (c : Callees) → IsCallees u c → length c.pieces.items < 2 ^ 32
few_pieces u c h = let e = piece_count u c h in let f = h.few in omega (arith, e, f)

names_count : (p : PieceOf) → length (body_scope (piece_of p).parameters (piece_of p).body.locals)
    ≡ length p.parameters.now + length p.body.now.locals.items
names_count p =
    let f = length-append (map (λ x. x.name) (map parameter_of p.parameters.now))
    (map (λ l. l.name) (map local_of p.body.now.locals.items)) in
    let g = length-map (map parameter_of p.parameters.now) (λ x. x.name) in
    let h = length-map p.parameters.now parameter_of in
    let i = length-map (map local_of p.body.now.locals.items) (λ l. l.name) in
    let j = length-map p.body.now.locals.items local_of in
    omega (arith, f, g, h, i, j)

pub few_names : (u : UnitTree) (c : Callees) → IsCallees u c
    → All (λ p. length p.parameters.now + length p.body.now.locals.items < 2 ^ 32 - 1) c.pieces.items
few_names u c h i d l =
    let ps = c.pieces.items in
    let size : Piece → ℕ = λ q. length (body_scope q.parameters q.body.locals) in
    let p = get_or ps i d in
    let within = sum_by_more_le size (map piece_of ps) i (piece_of d) (omega (arith, l, length-map ps piece_of)) in
    let here : size (get_or (map piece_of ps) i (piece_of d)) ≡ size (piece_of p) = ap size (get_or-map piece_of ps i d
    (piece_of d) l) in
    let all : sum_by size (map piece_of ps) ≡ sum_by size (pieces u) = ap (sum_by size) h.pieces in
    let named = names_count p in
    let few = h.few in
    omega (arith, within, here, all, named, few)
