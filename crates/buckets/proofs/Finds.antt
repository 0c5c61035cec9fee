-- The search for a thread's node along a chain.
use Rattle.std.proofs.Common.{◌≡◌, ◌≢◌, ℕ, ◌+◌, ◌≤◌, false, eqb, Option, Some, None, List, [], ◌∷◌, ◌++◌}
use Rattle.std.proofs.Common.{length, refl, sym, ap, ◌∙◌, arith}
use Rattle.std.proofs.lemmas.Bool.{or_from, ne_eqb}
use Rattle.std.proofs.lemmas.List.{append-nil}
use Rattle.std.proofs.Math.Seq.{append_snoc}
use Rattle.std.proofs.lemmas.List.Folds.{list_any-append}
use Rattle.buckets.specs.declared.sleeper.Sleeper.{Sleeper}
use Rattle.buckets.specs.declared.node.NodeKey.{NodeKey}
use Rattle.buckets.specs.declared.node.Node.{Node}
use Rattle.buckets.specs.declared.node.Chain.{Chain}
use Rattle.buckets.specs.Lists.{among}
use Rattle.buckets.specs.Chains.{node_at, row_of, Segment, IsChain, IsFound}
use Rattle.buckets.proofs.Segments.{segment_joined, walk_short}

-- i nodes of a chain were passed, none of them the thread's
pub record Passed (at : ℕ → Option Node) (chain : Chain) (row : List Sleeper) (t most : ℕ) (before here : Option NodeKey)
    (i : ℕ) : Type 0 where
  pub passed : List Sleeper
  pub rest : List Sleeper
  pub row_is : row ≡ passed ++ rest
  pub apart : among t passed ≡ false
  pub ahead : Segment at None chain.first passed before here
  pub behind : Segment at before here rest chain.last None
  pub short : length rest + i ≤ most

pub Passed-none : (at : ℕ → Option Node) (chain : Chain) (most t : ℕ) → IsChain at most chain → Passed at chain
    (row_of at most chain) t most None chain.first 0
Passed-none at chain most t is = record {
  passed = [];
  rest = row_of at most chain;
  row_is = refl;
  apart = refl;
  ahead = (refl, refl);
  behind = is;
  short = omega (arith, walk_short at most (node_at at chain.first));
}

-- the chain ends here
pub Passed-end : (at : ℕ → Option Node) (chain : Chain) (row : List Sleeper) (t most : ℕ) (before here : Option NodeKey)
    (i : ℕ) → Passed at chain row t most before here i → node_at at here ≡ None → among t row ≡ false
Passed-end at chain row t most before here i p none = by p.rest p.row_is p.behind where
  by : (rest : List Sleeper) → row ≡ p.passed ++ rest → Segment at before here rest chain.last None → among t row ≡ false
  by [] e g = rw (e, append-nil p.passed) p.apart
  by (s ∷ ss) e g = let there = g.1 in absurd cc

-- all nodes were passed
pub Passed-all : (at : ℕ → Option Node) (chain : Chain) (row : List Sleeper) (t most : ℕ) (before here : Option NodeKey)
    (i : ℕ) → Passed at chain row t most before here i → most ≤ i → among t row ≡ false
Passed-all at chain row t most before here i p l = by p.rest p.row_is p.short where
  by : (rest : List Sleeper) → row ≡ p.passed ++ rest → length rest + i ≤ most → among t row ≡ false
  by [] e g = rw (e, append-nil p.passed) p.apart
  by (s ∷ ss) e g = absurd (omega (arith, g))

-- another thread's node
pub Passed-more : (at : ℕ → Option Node) (chain : Chain) (row : List Sleeper) (t most : ℕ) (before here : Option NodeKey)
    (i : ℕ) (n : Node) → Passed at chain row t most before here i → node_at at here ≡ Some n → n.sleeper.thread ≢ t
    → Passed at chain row t most here n.next (i + 1)
Passed-more at chain row t most before here i n p there ne = by p.rest p.row_is p.behind p.short where
  by : (rest : List Sleeper) → row ≡ p.passed ++ rest → Segment at before here rest chain.last None → length rest + i
      ≤ most → Passed at chain row t most here n.next (i + 1)
  by [] e g l = let no : node_at at here ≡ None = rw g.0 refl in absurd cc
  by (s ∷ ss) e g l =
      let same : record { sleeper = s; next = g.0 } ≡ n = (let is = g.1 in cc) in
      let sleeper : s ≡ n.sleeper = ap (λ (x : Node). x.sleeper) same in
      let next : g.0 ≡ n.next = ap (λ (x : Node). x.next) same in
      record {
        passed = p.passed ++ s ∷ [];
        rest = ss;
        row_is = e ∙ sym (append_snoc p.passed s ss);
        apart = list_any-append (λ y. eqb t y.thread) p.passed (s ∷ []) ∙ or_from _ _ p.apart
            (or_from (eqb t s.thread) false (ne_eqb t s.thread (λ q. ne (ap (λ (x : Sleeper). x.thread) (sym sleeper) ∙ sym q))) refl);
        ahead = segment_joined at None chain.first p.passed before here (s ∷ []) here n.next p.ahead
            (n.next, rw (← next) g.1, (refl, refl));
        behind = rw (← next) g.2;
        short = omega (arith, l);
      }

-- the thread's node
pub Passed-found : (at : ℕ → Option Node) (chain : Chain) (row : List Sleeper) (t most : ℕ) (before : Option NodeKey)
    (key : NodeKey) (i : ℕ) (n : Node) → Passed at chain row t most before (Some key) i → at key.0 ≡ Some n
    → n.sleeper.thread ≡ t → IsFound at chain row t (record { before = before; key = key; next = n.next })
Passed-found at chain row t most before key i n p there e = by p.rest p.row_is p.behind where
  by : (rest : List Sleeper) → row ≡ p.passed ++ rest → Segment at before (Some key) rest chain.last None → IsFound at
      chain row t (record { before = before; key = key; next = n.next })
  by [] r g = let no = g.0 in absurd cc
  by (s ∷ ss) r g =
      let same : record { sleeper = s; next = g.0 } ≡ n = (let is = g.1 in cc) in
      let sleeper : s ≡ n.sleeper = ap (λ (x : Node). x.sleeper) same in
      let next : g.0 ≡ n.next = ap (λ (x : Node). x.next) same in
      record {
        passed = p.passed;
        sleeper = s;
        back = ss;
        row_is = r;
        thread_is = ap (λ (x : Sleeper). x.thread) sleeper ∙ e;
        ahead = p.ahead;
        node_is = rw (← next) g.1;
        behind = rw (← next) g.2;
      }
