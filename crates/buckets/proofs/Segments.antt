-- Parts of chains: they are split and joined, stay where no node of theirs changes, and are led elsewhere at their ends.
use Rattle.std.proofs.Common.{◌≡◌, ℕ, zero, suc, ◌+◌, ◌-◌, ◌<◌, ◌≤◌, true, eqb, Option, Some, None, List, [], ◌∷◌, ◌++◌}
use Rattle.std.proofs.Common.{length, refl, sym, ap, ◌∙◌, subst, arith}
use Rattle.std.specs.Option.{IfSome, IsSome}
use Rattle.std.proofs.lemmas.Bool.{eq-eqb, or_left, or_right}
use Rattle.buckets.specs.declared.sleeper.Sleeper.{Sleeper}
use Rattle.buckets.specs.declared.node.NodeKey.{NodeKey}
use Rattle.buckets.specs.declared.node.Node.{Node}
use Rattle.buckets.specs.Lists.{among}
use Rattle.buckets.specs.Chains.{node_at, walk, Segment, last_of}

pub segment_kept : (at at' : ℕ → Option Node) (before first : Option NodeKey) (row : List Sleeper)
    (last stop : Option NodeKey) → Segment at before first row last stop
    → ((k : ℕ) (n : Node) → at k ≡ Some n → among n.sleeper.thread row ≡ true → at' k ≡ Some n)
    → Segment at' before first row last stop
segment_kept at at' before first [] last stop g kept = g
segment_kept at at' before None (s ∷ ss) last stop g kept = let none = g.1 in absurd cc
segment_kept at at' before (Some k) (s ∷ ss) last stop g kept = (
  g.0,
  kept k.0 _ g.1 (or_left (eqb s.thread s.thread) _ (eq-eqb s.thread s.thread refl)),
  segment_kept at at' (Some k) g.0 ss last stop g.2 (λ j n e h. kept j n e (or_right (eqb n.sleeper.thread s.thread) _ h)),
)

pub segment_joined : (at : ℕ → Option Node) (before first : Option NodeKey) (xs : List Sleeper)
    (mid here : Option NodeKey) (ys : List Sleeper) (last stop : Option NodeKey) → Segment at before first xs mid here
    → Segment at mid here ys last stop → Segment at before first (xs ++ ys) last stop
segment_joined at before first [] mid here ys last stop g h = rw (g.0, ← g.1) h
segment_joined at before first (x ∷ xs) mid here ys last stop g h = (
  g.0,
  g.1,
  segment_joined at first g.0 xs mid here ys last stop g.2 h,
)

pub segment_parts : (at : ℕ → Option Node) (before first : Option NodeKey) (xs ys : List Sleeper)
    (last stop : Option NodeKey) → Segment at before first (xs ++ ys) last stop → (mid : Option NodeKey)
    × (here : Option NodeKey) × Segment at before first xs mid here × Segment at mid here ys last stop
segment_parts at before first [] ys last stop g = (before, first, (refl, refl), g)
segment_parts at before first (x ∷ xs) ys last stop g =
    let r = segment_parts at first g.0 xs ys last stop g.2 in (r.0, r.1, (g.0, g.1, r.2), r.3)

-- a list that isn't empty has an end
pub ended : (x : Sleeper) (xs : List Sleeper) → (front : List Sleeper) × (s : Sleeper) × (x ∷ xs ≡ front ++ s ∷ [])
ended x [] = ([], x, refl)
ended x (y ∷ ys) = let r = ended y ys in (x ∷ r.0, r.1, ap (λ zs. x ∷ zs) r.2)

-- the last node is under the last key, and leads to where the part stops
pub segment_end : (at : ℕ → Option Node) (before first : Option NodeKey) (front : List Sleeper) (s : Sleeper)
    (last stop : Option NodeKey) → Segment at before first (front ++ s ∷ []) last stop → node_at at last ≡ Some
    (record { sleeper = s; next = stop })
segment_end at before first front s last stop g =
    let p = segment_parts at before first front (s ∷ []) last stop g in
    ap (node_at at) p.3.2.1 ∙ p.3.1 ∙ ap (λ x. Some (record { sleeper = s; next = x })) p.3.2.0

-- a part with no last key is empty
pub empty_part : (at : ℕ → Option Node) (first : Option NodeKey) (row : List Sleeper) (stop : Option NodeKey)
    → Segment at None first row None stop → row ≡ []
empty_part at first [] stop g = refl
empty_part at first (x ∷ xs) stop g =
    let e = ended x xs in
    let end : node_at at None ≡ Some (record { sleeper = e.1; next = stop }) = segment_end at None first e.0 e.1 None stop
    (subst (λ r. Segment at None first r None stop) e.2 g) in
    absurd cc

-- a last key has a node
pub last_there : (at : ℕ → Option Node) (first : Option NodeKey) (row : List Sleeper) (last stop : Option NodeKey)
    → Segment at None first row last stop → IfSome last (λ k. IsSome (at k.0))
last_there at first row None stop g = tt
last_there at first [] (Some l) stop g = let none = g.1 in absurd cc
last_there at first (x ∷ xs) (Some l) stop g =
    let e = ended x xs in
    let end : at l.0 ≡ Some (record { sleeper = e.1; next = stop }) = segment_end at None first e.0 e.1 (Some l) stop
    (subst (λ r. Segment at None first r (Some l) stop) e.2 g) in
    rw end refl

-- the last node leads elsewhere
pub segment_led : (at at' : ℕ → Option Node) (before first : Option NodeKey) (front : List Sleeper) (s : Sleeper)
    (last stop stop' : Option NodeKey) → Segment at before first (front ++ s ∷ []) last stop
    → ((k : ℕ) (n : Node) → at k ≡ Some n → among n.sleeper.thread front ≡ true → at' k ≡ Some n) → node_at at' last
    ≡ Some (record { sleeper = s; next = stop' }) → Segment at' before first (front ++ s ∷ []) last stop'
segment_led at at' before first front s last stop stop' g kept led =
    let p = segment_parts at before first front (s ∷ []) last stop g in
    segment_joined at' before first front p.0 p.1 (s ∷ []) last stop'
    (segment_kept at at' before first front p.0 p.1 p.2 kept) (stop', ap (node_at at') (sym p.3.2.1) ∙ led, (refl, p.3.2.1))

-- the rest of a chain after another node
pub segment_after : (at : ℕ → Option Node) (before before' first : Option NodeKey) (row : List Sleeper)
    (last : Option NodeKey) → Segment at before first row last None → Segment at before' first row
    (last_of first before' last) None
segment_after at before before' first [] last g = rw g.0 (refl, refl)
segment_after at before before' None (s ∷ ss) last g = let none = g.1 in absurd cc
segment_after at before before' (Some k) (s ∷ ss) last g = g

-- a walk finds the sleepers of a chain
pub walk_is : (at : ℕ → Option Node) (most : ℕ) (before first : Option NodeKey) (row : List Sleeper)
    (last : Option NodeKey) → Segment at before first row last None → length row ≤ most → walk at most
    (node_at at first) ≡ row
walk_is at zero before first [] last g l = refl
walk_is at (suc most) before first [] last g l = rw g.0 refl
walk_is at zero before first (s ∷ ss) last g l = absurd (omega (arith, l))
walk_is at (suc most) before first (s ∷ ss) last g l = rw g.1 (ap (λ x. s ∷ x)
    (walk_is at most first g.0 ss last g.2 (omega (arith, l))))

pub walk_short : (at : ℕ → Option Node) (most : ℕ) (node : Option Node) → length (walk at most node) ≤ most
walk_short at zero here = omega arith
walk_short at (suc most) None = omega arith
walk_short at (suc most) (Some node) = omega (arith, walk_short at most (node_at at node.next))

-- a walk by one node, and past its end
pub walk_step : (at : ℕ → Option Node) (most i : ℕ) (n : Node) → i < most → walk at (most - i) (Some n) ≡ n.sleeper ∷ walk
    at (most - (i + 1)) (node_at at n.next)
walk_step at most i n l = let e : most - i ≡ suc (most - (i + 1)) = omega (arith, l) in rw e refl

pub walk_none : (at : ℕ → Option Node) (most : ℕ) → walk at most None ≡ []
walk_none at zero = refl
walk_none at (suc most) = refl

pub walk_past : (at : ℕ → Option Node) (most i : ℕ) (here : Option Node) → most ≤ i → walk at (most - i) here ≡ []
walk_past at most i here l = let e : most - i ≡ 0 = omega (arith, l) in rw e refl
