-- The chains of the buckets, in one slab, keep the lists of the buckets.
use Rattle.std.proofs.Common.{◌≡◌, ◌≢◌, ℕ, zero, suc, ◌+◌, ◌-◌, ◌<◌, ◌≤◌, ◌%◌, true, false, not, eqb, Option, Some, None, is_some}
use Rattle.std.proofs.Common.{List, [], ◌∷◌, ◌++◌, length, get_or, set, replicate, cond, count_by, refl, sym, ap}
use Rattle.std.proofs.Common.{◌∙◌, arith, inl, inr}
use Rattle.std.specs.List.{All}
use Rattle.std.proofs.lemmas.Bool.{cases_eq, false_from_ne_true}
use Rattle.std.proofs.lemmas.List.{get_or-map, get_or-set_same, get_or-set_other, length-map, length-set, ext_get_or}
use Rattle.std.proofs.lemmas.List.{get_or_default, length_push, length-replicate}
use Rattle.std.proofs.lemmas.List.Elements.{All-replicate}
use Rattle.std.proofs.lemmas.List.Sums.{sum_by-set, count_by-le-length, length-filter}
use Rattle.slab.specs.Slab.{Slab, get, slab_len}
use Rattle.words.specs.declared.mem.Addr.{Addr}
use Rattle.buckets.specs.declared.sleeper.Sleeper.{Sleeper}
use Rattle.buckets.specs.declared.node.Chain.{Chain}
use Rattle.buckets.specs.declared.node.Node.{Node}
use Rattle.words.specs.Limits.{most_threads}
use Rattle.buckets.specs.Sleepers.{Sleepers, IsSound, queue, place_of, thread_count}
use Rattle.buckets.specs.Lists.{among, IsConsistent}
use Rattle.buckets.specs.Chains.{node_at, walk, row_of, rows, Chained, IsChain, Once, Rechained, IsStored}
use Rattle.buckets.proofs.Arrivals.{room_for as room_in}
use Rattle.buckets.proofs.Drops.{others}
use Rattle.buckets.proofs.Once.{home_of, once_of}
use Rattle.buckets.proofs.Outcomes.{shown, enqueued, dropped, opened, opens, nobody_at, no_holder, no_entry, on-bucket}
use Rattle.buckets.proofs.Outcomes.{Entered, Dropped, Opened}
use Rattle.buckets.proofs.Queues.{on, length-on}
use Rattle.buckets.proofs.Rows.{mod_lt, sound}
use Rattle.buckets.proofs.Segments.{segment_kept, walk_is, walk_short, walk_none}

-- the list of a chain among those of all
pub row_at : (at : ℕ → Option Node) (most : ℕ) (chains : List Chain) (k : ℕ) (c : Chain) → k < length chains → get_or
    (rows at most chains) k [] ≡ row_of at most (get_or chains k c)
row_at at most chains k c l = get_or-map (row_of at most) chains k c [] l

pub length-rows : (at : ℕ → Option Node) (most : ℕ) (chains : List Chain) → length (rows at most chains) ≡ length chains
length-rows at most chains = length-map chains (row_of at most)

-- nobody stands in the lists of two buckets
apart : (places : List (Option Addr)) (lists : List (List Sleeper)) (j k t : ℕ) → IsConsistent places lists
    → j < length lists → k < length lists → j ≢ k → among t (get_or lists j []) ≡ true → among t (get_or lists k [])
    ≡ false
apart places lists j k t i lj lk ne h = false_from_ne_true _ (λ g.
    let a = home_of places (length lists) j t _ (i.stand j lj) h in
    let b = home_of places (length lists) k t _ (i.stand k lk) g in
    let same : a.0 ≡ b.0 = (let x = a.1 in let y = b.1 in cc) in
    ne (sym a.2 ∙ ap (λ x. x.0 % length lists) same ∙ b.2))

-- one chain has other sleepers, and the other chains stay
pub rechained : (nodes nodes' : Slab Node) (most : ℕ) (chains : List Chain) (places : List (Option Addr)) (k : ℕ)
    (c : Chain) (row' : List Sleeper) → IsConsistent places (rows (get nodes) most chains)
    → All (IsChain (get nodes) most) chains → k < length chains
    → Rechained nodes nodes' (get_or (rows (get nodes) most chains) k []) row' c → length row' ≤ most
    → (rows (get nodes') most (set chains k c) ≡ set (rows (get nodes) most chains) k row')
    × All (IsChain (get nodes') most) (set chains k c)
rechained nodes nodes' most chains places k c row' i all l r short = (
  ext_get_or [] (rows (get nodes') most (set chains k c)) (set (rows (get nodes) most chains) k row')
      (length-rows (get nodes') most (set chains k c) ∙ length-set chains k c ∙ sym (length-rows (get nodes) most chains)
      ∙ sym (length-set (rows (get nodes) most chains) k row'))
      (λ j h. at_each j (omega (arith, h, length-rows (get nodes') most (set chains k c), length-set chains k c))),
  λ j d h. chained_each j d (omega (arith, h, length-set chains k c)),
) where
  lists : List (List Sleeper)
  lists = rows (get nodes) most chains

  long : length lists ≡ length chains
  long = length-rows (get nodes) most chains

  here : row_of (get nodes') most c ≡ row'
  here = walk_is (get nodes') most None c.first row' c.last r.chained short

  -- another chain
  there : (j : ℕ) (d : Chain) → j < length chains → j ≢ k → Chained (get nodes') (get_or chains j d)
      (row_of (get nodes) most (get_or chains j d))
  there j d h ne =
      let b = get_or chains j d in
      segment_kept (get nodes) (get nodes') None b.first (row_of (get nodes) most b) b.last None (all j d h)
      (λ x n e g. r.others x n e (apart places lists j k n.sleeper.thread i (omega (arith, long)) (omega (arith, long)) ne
      (rw (row_at (get nodes) most chains j d h) g)))

  same : (j : ℕ) (d : Chain) → j < length chains → j ≢ k → row_of (get nodes') most (get_or chains j d) ≡ row_of
      (get nodes) most (get_or chains j d)
  same j d h ne =
      let b = get_or chains j d in
      walk_is (get nodes') most None b.first (row_of (get nodes) most b) b.last (there j d h ne)
      (walk_short (get nodes) most (node_at (get nodes) b.first))

  at_each : (j : ℕ) → j < length chains → get_or (rows (get nodes') most (set chains k c)) j [] ≡ get_or
      (set lists k row') j []
  at_each j h =
      row_at (get nodes') most (set chains k c) j c (omega (arith, length-set chains k c)) ∙ elim (cases_eq j k) [
        | inl e ↦ rw (e, get_or-set_same chains k c c l, get_or-set_same lists k row' [] (omega (arith, long))) here
        | inr ne ↦ rw (get_or-set_other chains k j c c ne, get_or-set_other lists k j row' [] ne) (same j c h ne
            ∙ sym (row_at (get nodes) most chains j c h))
      ]

  chained_each : (j : ℕ) (d : Chain) → j < length chains → IsChain (get nodes') most (get_or (set chains k c) j d)
  chained_each j d h = elim (cases_eq j k) [
    | inl e ↦ rw (e, get_or-set_same chains k c d l, here) r.chained
    | inr ne ↦ rw (get_or-set_other chains k j c d ne, same j d h ne) (there j d h ne)
  ]

-- one more sleeps
pub count_in : (places : List (Option Addr)) (t : ℕ) (a : Addr) → t < length places → get_or places t None ≡ None
    → count_by is_some (set places t (Some a)) ≡ count_by is_some places + 1
count_in places t a l e =
    let s = sum_by-set (λ (o : Option Addr). cond (is_some o) 1 0) places t (Some a) None l in
    let s' = rw e at s in omega (arith, s')

-- one fewer sleeps
pub count_out : (places : List (Option Addr)) (t : ℕ) (a : Addr) → t < length places → get_or places t None ≡ Some a
    → count_by is_some (set places t None) + 1 ≡ count_by is_some places
count_out places t a l e =
    let s = sum_by-set (λ (o : Option Addr). cond (is_some o) 1 0) places t None None l in
    let s' = rw e at s in omega (arith, s')

-- where a thread is awake fewer sleep than threads are
pub room_for : (places : List (Option Addr)) (t : ℕ) (a : Addr) → 1 ≤ t → t < length places → get_or places 0 None ≡ None
    → get_or places t None ≡ None → count_by is_some places + 2 ≤ length places
room_for places t a p l none free =
    let free' : get_or (set places 0 (Some a)) t None ≡ None = get_or-set_other places 0 t (Some a) None
    (λ e. absurd (omega (arith, e, p))) ∙ free in
    omega (
      arith,
      count_in places 0 a (omega (arith, l)) none,
      count_in (set places 0 (Some a)) t a (omega (arith, l, length-set places 0 (Some a))) free',
      count_by-le-length is_some (set (set places 0 (Some a)) t (Some a)),
      length-set (set places 0 (Some a)) t (Some a),
      length-set places 0 (Some a),
    )

nobody_counted : (n : ℕ) → count_by is_some (replicate {A = Option Addr} n None) ≡ 0
nobody_counted zero = refl
nobody_counted (suc n) = nobody_counted n

-- what contracts see
abbrev pub seen : Slab Node → List Chain → List (Option Addr) → List (Option ℕ) → Sleepers
seen nodes chains places holders = shown places (rows (get nodes) (length places - 1) chains) holders

-- each bucket has its list and its holder, or none
pub held_rows : (nodes : Slab Node) (chains : List Chain) (places : List (Option Addr)) (holders : List (Option ℕ))
    → IsStored nodes chains places holders
    → length holders ≡ length (rows (get nodes) (length places - 1) chains)
held_rows nodes chains places holders i = i.held ∙ sym (length-rows (get nodes) (length places - 1) chains)

-- what callers learn
pub sound_in : (nodes : Slab Node) (chains : List Chain) (places : List (Option Addr)) (holders : List (Option ℕ))
    → IsStored nodes chains places holders → IsSound (seen nodes chains places holders)
sound_in nodes chains places holders i =
    sound places (rows (get nodes) (length places - 1) chains) holders i.consistent
    (held_rows nodes chains places holders i)

-- a chain and its list, among those of all
row_of_old : (nodes : Slab Node) (most k : ℕ) (chains : List Chain) (old : Chain) → k < length chains
    → old ≡ get_or chains k old → get_or (rows (get nodes) most chains) k [] ≡ row_of (get nodes) most old
row_of_old nodes most k chains old l e = row_at (get nodes) most chains k old l ∙ ap (row_of (get nodes) most) (sym e)

chained_old : (nodes : Slab Node) (most k : ℕ) (chains : List Chain) (old : Chain) → All (IsChain (get nodes) most) chains
    → k < length chains → old ≡ get_or chains k old → IsChain (get nodes) most old
chained_old nodes most k chains old all l e = rw (← e) at (all k old l)

-- a number that contracts allow lies in the table
pub in_places : (nodes : Slab Node) (chains : List Chain) (places : List (Option Addr)) (holders : List (Option ℕ))
    (t : ℕ) → IsStored nodes chains
    places holders → t ≤ thread_count (seen nodes chains places holders) → t < length places
unfolding thread_count
in_places nodes chains places holders t i h = omega (arith, h, i.consistent.threads)

-- a thread that contracts say is awake has no place in the table
pub free_in : (nodes : Slab Node) (chains : List Chain) (places : List (Option Addr)) (holders : List (Option ℕ))
    (t : ℕ) → place_of
    (seen nodes chains places holders) t ≡ None → get_or places t None ≡ None
unfolding place_of
free_in nodes chains places holders t h = no_entry (get_or places t None) h

-- what is known of the chain of an address's bucket
pub record Known (nodes : Slab Node) (chains : List Chain) (places : List (Option Addr)) (k : ℕ) (old : Chain) : Type 0
  where
    pub inside : k < length chains
    pub row_is : get_or (rows (get nodes) (length places - 1) chains) k [] ≡ row_of (get nodes) (length places - 1) old
    pub chain : IsChain (get nodes) (length places - 1) old
    pub once : Once (row_of (get nodes) (length places - 1) old)

pub known : (nodes : Slab Node) (chains : List Chain) (places : List (Option Addr)) (holders : List (Option ℕ))
    (a k : ℕ) (old : Chain)
    → IsStored nodes chains places holders → k ≡ a % length chains → old ≡ get_or chains k old → Known nodes chains
    places k old
known nodes chains places holders a k old i ek eo =
    let most = length places - 1 in
    let long = length-rows (get nodes) most chains in
    let l : k < length chains = omega (arith, ek, mod_lt a (length chains) (omega (arith, i.consistent.some, long))) in
    let row = row_of_old nodes most k chains old l eo in
    record {
      inside = l;
      row_is = row;
      chain = chained_old nodes most k chains old i.chained l eo;
      once = rw row at (once_of places (length (rows (get nodes) most chains)) k _ (i.consistent.stand k
          (omega (arith, l, long))));
    }

-- the threads of a chain that sleep on an address of its bucket are those that contracts see
pub queue_in : (nodes : Slab Node) (chains : List Chain) (places : List (Option Addr)) (holders : List (Option ℕ))
    (a k : ℕ) (old : Chain)
    → IsStored nodes chains places holders → k ≡ a % length chains → old ≡ get_or chains k old
    → on a (row_of (get nodes) (length places - 1) old) ≡ queue (seen nodes chains places holders) a
unfolding queue
queue_in nodes chains places holders a k old i ek eo =
    let kn = known nodes chains places holders a k old i ek eo in
    ap (on a) (sym kn.row_is) ∙ on-bucket places (rows (get nodes) (length places - 1) chains) i.consistent a k
    (rw (length-rows (get nodes) (length places - 1) chains) (sym ek))

no_key : {A : Type 0} (o : Option A) → is_some o ≡ false → o ≡ None
no_key None h = refl
no_key (Some x) h = absurd cc

-- nobody sleeps on an address whose bucket's chain has no node
pub none_in : (nodes : Slab Node) (chains : List Chain) (places : List (Option Addr)) (holders : List (Option ℕ))
    (a k : ℕ) (old : Chain)
    → IsStored nodes chains places holders → k ≡ a % length chains → old ≡ get_or chains k old
    → is_some old.first ≡ false → queue (seen nodes chains places holders) a ≡ []
none_in nodes chains places holders a k old i ek eo none =
    sym (queue_in nodes chains places holders a k old i ek eo)
    ∙ ap (λ first. on a (walk (get nodes) (length places - 1) (node_at (get nodes) first))) (no_key old.first none)
    ∙ ap (on a) (walk_none (get nodes) (length places - 1))

-- there is a bucket
pub some_chain : (nodes : Slab Node) (chains : List Chain) (places : List (Option Addr)) (holders : List (Option ℕ))
    → IsStored nodes chains places holders
    → 1 ≤ length chains
some_chain nodes chains places holders i = omega (
  arith,
  i.consistent.some,
  length-rows (get nodes) (length places - 1)
      chains,
)

-- a chain of nobody
abbrev pub nobody_in : Chain
nobody_in = record { first = None; last = None }

-- no more sleep on an address than threads are
pub few_in : (nodes : Slab Node) (chains : List Chain) (places : List (Option Addr)) (holders : List (Option ℕ))
    (a : ℕ) → IsStored nodes chains places holders → length (queue (seen nodes chains places holders) a)
    ≤ length places - 1
few_in nodes chains places holders a i =
    let k = a % length chains in
    let old = get_or chains k nobody_in in
    let inside : k < length chains = mod_lt a (length chains) (some_chain nodes chains places holders i) in
    let is = queue_in nodes chains places holders a k old i refl (get_or_default chains k nobody_in old inside) in
    omega (
      arith,
      ap length is,
      length-on a (row_of (get nodes) (length places - 1) old),
      walk_short (get nodes) (length places - 1) (node_at (get nodes) old.first),
    )

-- who sleeps on an address stands in the chain of its bucket
pub stands_in : (nodes : Slab Node) (chains : List Chain) (places : List (Option Addr)) (holders : List (Option ℕ))
    (t : ℕ) (a : Addr) (k : ℕ)
    (old : Chain) → IsStored nodes chains places holders → k ≡ a.0 % length chains → old ≡ get_or chains k old → get_or
    places t
    None ≡ Some a → among t (row_of (get nodes) (length places - 1) old) ≡ true
stands_in nodes chains places holders t a k old i ek eo at =
    let kn = known nodes chains places holders a.0 k old i ek eo in
    rw kn.row_is at (rw (length-rows (get nodes) (length places - 1) chains, ← ek) at (i.consistent.found t a at))

-- a thread comes to its bucket
pub entered : (nodes nodes' : Slab Node) (chains : List Chain) (places : List (Option Addr)) (holders : List (Option ℕ))
    (s : Sleeper) (k : ℕ)
    (old c : Chain) → IsStored nodes chains places holders → 1 ≤ s.thread → s.thread < length places → get_or places
    s.thread None
    ≡ None → k ≡ s.address.0 % length chains → old ≡ get_or chains k old
    → ((row : List Sleeper) → Chained (get nodes) old row → Once row → Rechained nodes nodes' row (row ++ s ∷ []) c)
    → slab_len nodes' ≡ slab_len nodes + 1 → IsStored nodes' (set chains k c) (set places s.thread (Some s.address))
    holders
    × Entered (seen nodes chains places holders) (seen nodes' (set chains k c) (set places s.thread (Some s.address))
    holders) s.thread
    s.address.0
entered nodes nodes' chains places holders s k old c i one inside free ek eo re len =
    let most = length places - 1 in
    let lists = rows (get nodes) most chains in
    let long : length lists ≡ length chains = length-rows (get nodes) most chains in
    let is : k ≡ s.address.0 % length lists = rw long ek in
    let kn = known nodes chains places holders s.address.0 k old i ek eo in
    let row = get_or lists k [] in
    let r : Rechained nodes nodes' row (row ++ s ∷ []) c = re row (rw kn.row_is kn.chain) (rw kn.row_is kn.once) in
    let short : length (row ++ s ∷ []) ≤ most = omega (
      arith,
      length_push row s,
      room_in places (length lists) k s.thread row (i.consistent.stand k (omega (arith, long, kn.inside))) one inside
          i.consistent.no_zero free,
    ) in
    let rc = rechained nodes nodes' most chains places k c (row ++ s ∷ []) i.consistent i.chained kn.inside r short in
    let en = enqueued places lists holders s k i.consistent (i.held ∙ sym long) one inside free is in
    let same : length (set places s.thread (Some s.address)) ≡ length places = length-set places s.thread
    (Some s.address) in (
      record {
        consistent = rw (same, rc.0) en.0;
        chained = rw same rc.1;
        counted = len ∙ ap (λ n. n + 1) i.counted ∙ sym (count_in places s.thread s.address inside free);
        room = omega (arith, same, i.room, r.capacity);
        held = i.held ∙ sym (length-set chains k c);
      },
      rw (same, rc.0) en.1,
    )

-- and leaves it
pub gone : (nodes nodes' : Slab Node) (chains : List Chain) (places : List (Option Addr)) (holders : List (Option ℕ))
    (t k : ℕ) (a : Addr)
    (old c : Chain) → IsStored nodes chains places holders → t < length places → get_or places t None ≡ Some a
    → k ≡ a.0 % length chains → old ≡ get_or chains k old
    → Rechained nodes nodes' (row_of (get nodes) (length places - 1) old)
    (others t (row_of (get nodes) (length places - 1) old)) c → slab_len nodes' + 1 ≡ slab_len nodes
    → IsStored nodes' (set chains k c) (set places t None) holders × Dropped (seen nodes chains places holders)
    (seen nodes' (set chains k c) (set places t None) holders) t
gone nodes nodes' chains places holders t k a old c i inside sleeps ek eo re len =
    let most = length places - 1 in
    let lists = rows (get nodes) most chains in
    let long : length lists ≡ length chains = length-rows (get nodes) most chains in
    let is : k ≡ a.0 % length lists = rw long ek in
    let kn = known nodes chains places holders a.0 k old i ek eo in
    let row = get_or lists k [] in
    let r : Rechained nodes nodes' row (others t row) c = rw kn.row_is re in
    let short : length (others t row) ≤ most = omega (
      arith,
      length-filter (λ (s : Sleeper). not (eqb s.thread t)) row,
      count_by-le-length (λ (s : Sleeper). not (eqb s.thread t)) row,
      ap length kn.row_is,
      walk_short (get nodes) most (node_at (get nodes) old.first),
    ) in
    let rc = rechained nodes nodes' most chains places k c (others t row) i.consistent i.chained kn.inside r short in
    let d = dropped places lists holders t k a i.consistent (i.held ∙ sym long) inside sleeps is in
    let same : length (set places t None) ≡ length places = length-set places t None in (
      record {
        consistent = rw (same, rc.0) d.0;
        chained = rw same rc.1;
        counted = omega (arith, len, i.counted, count_out places t a inside sleeps);
        room = omega (arith, same, i.room, r.capacity);
        held = i.held ∙ sym (length-set chains k c);
      },
      rw (same, rc.0) d.1,
    )

rows-nobody : (at : ℕ → Option Node) (most n : ℕ) → rows at most (replicate n nobody_in) ≡ replicate n []
rows-nobody at most zero = refl
rows-nobody at most (suc n) = rw (walk_none at most) (ap (λ x. [] ∷ x) (rows-nobody at most n))

pub made : (nodes : Slab Node) (chains : List Chain) (places : List (Option Addr)) (holders : List (Option ℕ))
    (n threads : ℕ) → nodes.slots ≡ []
    → chains ≡ replicate n nobody_in → places ≡ replicate (threads + 1) nobody_at
    → holders ≡ replicate n no_holder → threads ≤ nodes.capacity
    → threads ≤ most_threads → 1 ≤ n → IsStored nodes chains places holders × Opened (seen nodes chains places holders)
    threads n
made nodes chains places holders n threads es ec ep eh room few some =
    let none = rows-nobody (get nodes) (length places - 1) n in (
      record {
        consistent = rw (ec, none, ep) (opened threads n few some);
        chained = rw ec (All-replicate (IsChain (get nodes) (length places - 1)) n nobody_in (rw (walk_none (get nodes) (length places - 1)) (refl, refl)));
        counted = ap (count_by is_some) es ∙ sym (ap (count_by is_some) ep ∙ nobody_counted (threads + 1));
        room = omega (arith, ap length ep, length-replicate (threads + 1) nobody_at, room);
        held = ap length eh ∙ length-replicate n no_holder ∙ sym (ap length ec ∙ length-replicate n nobody_in);
      },
      rw (ec, none, ep, eh) (opens threads n few some),
    )
