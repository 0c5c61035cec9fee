-- Chains of nodes in a slab: a chain has the key of its first node, and each node the key of the next. The slab is read
-- as a function from keys.
use Rattle.std.specs.Prelude.{◌≡◌, ℕ, ◌+◌, ◌-◌, ◌≤◌, false, zero, suc, Option, Some, None, is_some, List, []}
use Rattle.std.specs.Prelude.{◌∷◌, ◌++◌, length, map, count_by, ⊤}
use Rattle.std.specs.List.{All}
use Rattle.slab.specs.Slab.{Slab, get, slab_len}
use Rattle.words.specs.declared.mem.Addr.{Addr}
use Rattle.buckets.specs.declared.sleeper.Sleeper.{Sleeper}
use Rattle.buckets.specs.declared.node.NodeKey.{NodeKey}
use Rattle.buckets.specs.declared.node.Node.{Node}
use Rattle.buckets.specs.declared.node.Chain.{Chain}
use Rattle.buckets.specs.declared.node.Spot.{Spot}
use Rattle.buckets.specs.Lists.{among, IsConsistent}

-- the node under a key, where there is one
abbrev pub node_at : (ℕ → Option Node) → Option NodeKey → Option Node
node_at at None = None
node_at at (Some k) = at k.0

-- the sleepers from a node on, along the chain, so many at most
abbrev pub walk : (ℕ → Option Node) → ℕ → Option Node → List Sleeper
walk at zero here = []
walk at (suc most) None = []
walk at (suc most) (Some node) = node.sleeper ∷ walk at most (node_at at node.next)

-- the sleepers of a chain
abbrev pub row_of : (ℕ → Option Node) → ℕ → Chain → List Sleeper
row_of at most chain = walk at most (node_at at chain.first)

-- the sleepers of each chain
abbrev pub rows : (ℕ → Option Node) → ℕ → List Chain → List (List Sleeper)
rows at most chains = map (row_of at most) chains

-- a part of a chain: from the key `first` on the nodes of these sleepers, each after the other; the key `last` is that of
-- the last of them, or `before` where there is none; and `stop` is the next key
abbrev pub Segment : (ℕ → Option Node) → (before first : Option NodeKey) → List Sleeper → (last stop : Option NodeKey)
    → Type 0
Segment at before first [] last stop = (first ≡ stop) × (last ≡ before)
Segment at before first (s ∷ ss) last stop = (next : Option NodeKey)
    × (node_at at first ≡ Some (record { sleeper = s; next = next })) × Segment at first next ss last stop

-- a chain has these sleepers
abbrev pub Chained : (ℕ → Option Node) → Chain → List Sleeper → Type 0
Chained at chain row = Segment at None chain.first row chain.last None

-- a chain has the sleepers that a walk finds
abbrev pub IsChain : (ℕ → Option Node) → ℕ → Chain → Type 0
IsChain at most chain = Chained at chain (row_of at most chain)

-- the key of a chain's last node once a node is gone: that before it, where none came after it
abbrev pub last_of : (next before last : Option NodeKey) → Option NodeKey
last_of (Some key) before last = last
last_of None before last = before

-- nobody stands twice in a list
abbrev pub Once : List Sleeper → Type 0
Once [] = ⊤
Once (s ∷ ss) = (among s.thread ss ≡ false) × Once ss

-- a thread's node stands at this place in the chain
pub record IsFound (at : ℕ → Option Node) (chain : Chain) (row : List Sleeper) (t : ℕ) (spot : Spot) : Type 0 where
  pub passed : List Sleeper
  pub sleeper : Sleeper
  pub back : List Sleeper
  pub row_is : row ≡ passed ++ sleeper ∷ back
  pub thread_is : sleeper.thread ≡ t
  pub ahead : Segment at None chain.first passed spot.before (Some spot.key)
  pub node_is : at spot.key.0 ≡ Some (record { sleeper = sleeper; next = spot.next })
  pub behind : Segment at (Some spot.key) spot.next back chain.last None

-- a chain has other sleepers now, and each node of a thread that wasn't among them is as it was
pub record Rechained (old new : Slab Node) (row row' : List Sleeper) (chain : Chain) : Type 0 where
  pub chained : Chained (get new) chain row'
  pub others : (k : ℕ) (n : Node) → get old k ≡ Some n → among n.sleeper.thread row ≡ false → get new k ≡ Some n
  pub capacity : new.capacity ≡ old.capacity

-- each chain ends and has its last node; the lists along the chains and the table of places say the same; there is a node
-- for each sleeper, and room for all threads; and each chain's bucket has a holder or none
pub record IsStored (nodes : Slab Node) (chains : List Chain) (places : List (Option Addr)) (holders : List (Option ℕ))
    : Type 0 where
  pub consistent : IsConsistent places (rows (get nodes) (length places - 1) chains)
  pub chained : All (IsChain (get nodes) (length places - 1)) chains
  pub counted : slab_len nodes ≡ count_by is_some places
  pub room : length places ≤ nodes.capacity + 1
  pub held : length holders ≡ length chains
