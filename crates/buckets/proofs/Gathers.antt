-- The first threads of a chain that sleep on an address are gathered, node after node.
use Rattle.std.proofs.Common.{◌≡◌, ◌≢◌, ℕ, suc, ◌+◌, ◌-◌, ◌<◌, ◌≤◌, Option, Some, None, List, [], ◌∷◌, ◌++◌, length}
use Rattle.std.proofs.Common.{zero, take, refl, sym, ap, ◌∙◌, arith}
use Rattle.std.proofs.lemmas.List.{append-nil, append_assoc, length_push}
use Rattle.buckets.specs.declared.sleeper.Sleeper.{Sleeper}
use Rattle.buckets.specs.declared.node.Node.{Node}
use Rattle.buckets.specs.Chains.{node_at, walk}
use Rattle.buckets.proofs.Queues.{on, on-here, on-elsewhere}
use Rattle.buckets.proofs.Segments.{walk_step, walk_none, walk_past}

-- of the first n threads on the address these were gathered behind i nodes, before the node that comes now
pub record Gathered (at : ℕ → Option Node) (a most n : ℕ) (row : List Sleeper) (here : Option Node) (threads : List ℕ)
    (i : ℕ) : Type 0 where
  pub rest : threads ++ take (n - length threads) (on a (walk at (most - i) here)) ≡ take n (on a row)
  pub few : length threads ≤ n
  pub passed : length threads ≤ i

pub Gathered-none : (at : ℕ → Option Node) (a most n : ℕ) (here : Option Node) → Gathered at a most n
    (walk at most here) here [] 0
Gathered-none at a most n here =
    let most_is : most - 0 ≡ most = omega arith in
    let n_is : n - 0 ≡ n = omega arith in
    record { rest = rw (most_is, n_is) refl; few = omega arith; passed = omega arith }

-- nobody more is wanted, or comes
ended : (at : ℕ → Option Node) (a most n : ℕ) (row : List Sleeper) (here : Option Node) (threads : List ℕ) (i : ℕ)
    → Gathered at a most n row here threads i → take (n - length threads) (on a (walk at (most - i) here)) ≡ []
    → threads ≡ take n (on a row)
ended at a most n row here threads i g e = sym (append-nil threads) ∙ ap (λ xs. threads ++ xs) (sym e) ∙ g.rest

take_none : (n : ℕ) → take {A = ℕ} n [] ≡ []
take_none zero = refl
take_none (suc n) = refl

pub Gathered-full : (at : ℕ → Option Node) (a most n : ℕ) (row : List Sleeper) (here : Option Node) (threads : List ℕ)
    (i : ℕ) → Gathered at a most n row here threads i → length threads ≡ n → threads ≡ take n (on a row)
Gathered-full at a most n row here threads i g full =
    let none : n - length threads ≡ 0 = omega (arith, full) in
    ended at a most n row here threads i g (rw none refl)

pub Gathered-end : (at : ℕ → Option Node) (a most n : ℕ) (row : List Sleeper) (here : Option Node) (threads : List ℕ)
    (i : ℕ) → Gathered at a most n row here threads i → here ≡ None → threads ≡ take n (on a row)
Gathered-end at a most n row here threads i g e =
    ended at a most n row here threads i g (ap (λ h. take (n - length threads) (on a (walk at (most - i) h))) e
    ∙ ap (λ xs. take (n - length threads) (on a xs)) (walk_none at (most - i)) ∙ take_none (n - length threads))

pub Gathered-past : (at : ℕ → Option Node) (a most n : ℕ) (row : List Sleeper) (here : Option Node) (threads : List ℕ)
    (i : ℕ) → Gathered at a most n row here threads i → most ≤ i → threads ≡ take n (on a row)
Gathered-past at a most n row here threads i g l =
    ended at a most n row here threads i g
    (ap (λ xs. take (n - length threads) (on a xs)) (walk_past at most i here l) ∙ take_none (n - length threads))

-- a sleeper on the address
pub Gathered-here : (at : ℕ → Option Node) (a most n : ℕ) (row : List Sleeper) (here : Option Node) (threads : List ℕ)
    (i : ℕ) (node : Node) → Gathered at a most n row here threads i → i < most → length threads ≢ n → here ≡ Some node
    → node.sleeper.address.0 ≡ a → Gathered at a most n row (node_at at node.next) (threads ++ node.sleeper.thread ∷ [])
    (i + 1)
Gathered-here at a most n row here threads i node g l ne e is =
    let t = node.sleeper.thread in
    let behind = on a (walk at (most - (i + 1)) (node_at at node.next)) in
    let more : n - length threads ≡ suc (n - (length threads + 1)) = omega (arith, ne, g.few) in
    let long : length (threads ++ t ∷ []) ≡ length threads + 1 = length_push threads t in
    let step : on a (walk at (most - i) here) ≡ t ∷ behind = ap (λ h. on a (walk at (most - i) h)) e
    ∙ ap (on a) (walk_step at most i node l)
    ∙ on-here a node.sleeper (walk at (most - (i + 1)) (node_at at node.next)) is in
    let next : take (n - length threads) (on a (walk at (most - i) here)) ≡ t ∷ take (n - (length threads + 1)) behind
    = rw (step, more) refl in
    record {
      rest = rw long (append_assoc threads (t ∷ []) (take (n - (length threads + 1)) behind)
          ∙ ap (λ xs. threads ++ xs) (sym next) ∙ g.rest);
      few = omega (arith, long, ne, g.few);
      passed = omega (arith, long, g.passed);
    }

-- a sleeper on another
pub Gathered-elsewhere : (at : ℕ → Option Node) (a most n : ℕ) (row : List Sleeper) (here : Option Node)
    (threads : List ℕ) (i : ℕ) (node : Node) → Gathered at a most n row here threads i → i < most → here ≡ Some node
    → node.sleeper.address.0 ≢ a → Gathered at a most n row (node_at at node.next) threads (i + 1)
Gathered-elsewhere at a most n row here threads i node g l e ne =
    let step : on a (walk at (most - i) here) ≡ on a (walk at (most - (i + 1)) (node_at at node.next))
    = ap (λ h. on a (walk at (most - i) h)) e ∙ ap (on a) (walk_step at most i node l)
    ∙ on-elsewhere a node.sleeper (walk at (most - (i + 1)) (node_at at node.next)) ne in
    record {
      rest = ap (λ xs. threads ++ take (n - length threads) xs) (sym step) ∙ g.rest;
      few = g.few;
      passed = omega (arith, g.passed);
    }
