-- A node comes to the end of a chain, or leaves it.
use Rattle.std.proofs.Common.{◌≡◌, ◌≢◌, ℕ, true, false, eqb, Option, Some, None, List, [], ◌∷◌, ◌++◌}
use Rattle.std.proofs.Common.{refl, sym, ap, ◌∙◌}
use Rattle.std.proofs.lemmas.Bool.{eq-eqb, or_left, or_parts, both_ways}
use Rattle.std.proofs.Math.Seq.{append_snoc}
use Rattle.slab.specs.Slab.{Slab, get, ContainsKey, Updates}
use Rattle.buckets.specs.declared.sleeper.Sleeper.{Sleeper}
use Rattle.buckets.specs.declared.node.NodeKey.{NodeKey}
use Rattle.buckets.specs.declared.node.Node.{Node}
use Rattle.buckets.specs.declared.node.Chain.{Chain}
use Rattle.buckets.specs.Lists.{among}
use Rattle.buckets.specs.Chains.{Segment, Chained, Once, IsFound, Rechained, last_of}
use Rattle.buckets.proofs.Drops.{others}
use Rattle.buckets.proofs.Once.{once_apart, once_front, once_back, others_parts, among_front, among_back}
use Rattle.buckets.proofs.Segments.{segment_kept, segment_joined, ended, segment_end, empty_part, segment_led}
use Rattle.buckets.proofs.Segments.{segment_after}

-- who heads a list stands in it
among_head : (s : Sleeper) (ss : List Sleeper) → among s.thread (s ∷ ss) ≡ true
among_head s ss = or_left (eqb s.thread s.thread) _ (eq-eqb s.thread s.thread refl)

-- a node in an empty chain
pub appended-first : (nodes nodes' : Slab Node) (first : Option NodeKey) (row : List Sleeper) (s : Sleeper) (k : ℕ)
    → Chained (get nodes) (record { first = first; last = None }) row → get nodes k ≡ None
    → Updates nodes nodes' k (Some (record { sleeper = s; next = None })) → nodes'.capacity ≡ nodes.capacity
    → Rechained nodes nodes' row (row ++ s ∷ []) (record { first = Some (record { 0 = k }); last = Some (record { 0 = k }) })
appended-first nodes nodes' first row s k g vacant u capacity =
    let none : row ≡ [] = empty_part (get nodes) first row None g in
    record {
      chained = rw none (None, u.changed, (refl, refl));
      others = λ j n e h. u.others j (λ q. let at : get nodes k ≡ Some n = rw q at e in cc) ∙ e;
      capacity = capacity;
    }

-- a node behind the last of a chain
appended-behind : (nodes nodes' nodes'' : Slab Node) (first : Option NodeKey) (l : NodeKey) (row : List Sleeper)
    (s : Sleeper) (k : ℕ) (front : List Sleeper) (p : Sleeper) → row ≡ front ++ p ∷ []
    → Chained (get nodes) (record { first = first; last = Some l }) row → Once row → get nodes k ≡ None
    → Updates nodes nodes' k (Some (record { sleeper = s; next = None })) → nodes'.capacity ≡ nodes.capacity
    → ((n : Node) → get nodes' l.0 ≡ Some n → Updates nodes' nodes'' l.0 (Some (record n { next = Some (record { 0 = k }) })))
    → nodes''.capacity ≡ nodes'.capacity
    → Rechained nodes nodes'' row (row ++ s ∷ []) (record { first = first; last = Some (record { 0 = k }) })
appended-behind nodes nodes' nodes'' first l row s k front p e g once vacant u c w c' =
    let key : Option NodeKey = Some (record { 0 = k }) in
    let g' : Segment (get nodes) None first (front ++ p ∷ []) (Some l) None = rw e at g in
    let o : Once (front ++ p ∷ []) = rw e at once in
    let end : get nodes l.0 ≡ Some (record { sleeper = p; next = None }) = segment_end (get nodes) None first front p
    (Some l) None g' in
    let named : among p.thread row ≡ true = rw e (among_back p.thread front (p ∷ []) (among_head p [])) in
    let apart : l.0 ≢ k = λ q. (let at : get nodes k ≡ Some (record { sleeper = p; next = None }) = rw q at end in cc) in
    let v = w _ (u.others l.0 apart ∙ end) in
    let kept : (j : ℕ) (n : Node) → get nodes j ≡ Some n → p.thread ≢ n.sleeper.thread → get nodes'' j ≡ Some n
    = λ j n at ne. v.others j (λ q.
    let same : get nodes l.0 ≡ Some n = rw q at at in
    let is : record { sleeper = p; next = None } ≡ n = cc in
    ne (ap (λ (x : Node). x.sleeper.thread) is)) ∙ u.others j
    (λ q. let no : get nodes k ≡ Some n = rw q at at in cc) ∙ at in
    let led : Segment (get nodes'') None first (front ++ p ∷ []) (Some l) key = segment_led (get nodes) (get nodes'')
    None first front p (Some l) None key g' (λ j n at h. kept j n at (λ q. both_ways (among p.thread front)
    (once_front front p [] o) (rw q h))) v.changed in
    let new : get nodes'' k ≡ Some (record { sleeper = s; next = None }) = v.others k (λ q. apart (sym q)) ∙ u.changed in
    record {
      chained = rw e (segment_joined (get nodes'') None first (front ++ p ∷ []) (Some l) key (s ∷ []) key None led
          (None, new, (refl, refl)));
      others = λ j n at h. kept j n at (λ q. both_ways (among p.thread row) (rw q h) named);
      capacity = c' ∙ c;
    }

pub appended-last : (nodes nodes' nodes'' : Slab Node) (first : Option NodeKey) (l : NodeKey) (row : List Sleeper)
    (s : Sleeper) (k : ℕ) → Chained (get nodes) (record { first = first; last = Some l }) row → Once row
    → get nodes k ≡ None → Updates nodes nodes' k (Some (record { sleeper = s; next = None }))
    → nodes'.capacity ≡ nodes.capacity
    → ((n : Node) → get nodes' l.0 ≡ Some n → Updates nodes' nodes'' l.0 (Some (record n { next = Some (record { 0 = k }) })))
    → nodes''.capacity ≡ nodes'.capacity
    → Rechained nodes nodes'' row (row ++ s ∷ []) (record { first = first; last = Some (record { 0 = k }) })
appended-last nodes nodes' nodes'' first l [] s k g once vacant u c w c' = let none = g.1 in absurd cc
appended-last nodes nodes' nodes'' first l (x ∷ xs) s k g once vacant u c w c' =
    let e = ended x xs in
    appended-behind nodes nodes' nodes'' first l (x ∷ xs) s k e.0 e.1 e.2 g once vacant u c w c'

-- a node leaves a chain: it was the first
pub unlinked-first : (nodes nodes' : Slab Node) (chain : Chain) (row : List Sleeper) (t : ℕ) (key : NodeKey)
    (next : Option NodeKey) → IsFound (get nodes) chain row t (record { before = None; key = key; next = next }) → Once row
    → Updates nodes nodes' key.0 None → nodes'.capacity ≡ nodes.capacity → Rechained nodes nodes' row (others t row)
    (record { first = next; last = last_of next None chain.last })
unlinked-first nodes nodes' chain row t key next f once u c =
    let none : f.passed ≡ [] = empty_part (get nodes) chain.first f.passed (Some key) f.ahead in
    let whole : row ≡ f.sleeper ∷ f.back = f.row_is ∙ ap (λ x. x ++ f.sleeper ∷ f.back) none in
    let o : Once (f.sleeper ∷ f.back) = rw whole at once in
    let kept : (j : ℕ) (n : Node) → get nodes j ≡ Some n → f.sleeper.thread ≢ n.sleeper.thread → get nodes' j ≡ Some n
    = λ j n at ne. u.others j (λ q. let same : get nodes key.0 ≡ Some n = rw q at at in
    let is : record { sleeper = f.sleeper; next = next } ≡ n = (let there = f.node_is in cc) in
    ne (ap (λ (x : Node). x.sleeper.thread) is)) ∙ at in
    let rest : others t row ≡ f.back = ap (others t) whole ∙ others_parts t [] f.sleeper f.back f.thread_is refl
    (rw f.thread_is at o.0) in
    record {
      chained = rw rest (segment_after (get nodes') (Some key) None next f.back chain.last (segment_kept (get nodes)
          (get nodes') (Some key) next f.back chain.last None f.behind (λ j n at h. kept j n at (λ e. both_ways
          (among f.sleeper.thread f.back) o.0 (rw e h)))));
      others = λ j n at h. kept j n at (λ e. both_ways (among f.sleeper.thread row) (rw e h)
          (rw whole (among_head f.sleeper f.back)));
      capacity = c;
    }

-- what stands under the key of the node before it
same_sleeper : (x y : Node) → Some x ≡ Some y → x.sleeper ≡ y.sleeper
same_sleeper x y e = let is : x ≡ y = cc in ap (λ (n : Node). n.sleeper) is

passed_end : (at : ℕ → Option Node) (chain : Chain) (row : List Sleeper) (t : ℕ) (key b : NodeKey)
    (next : Option NodeKey) (f : IsFound at chain row t (record { before = Some b; key = key; next = next }))
    → (front : List Sleeper) × (p : Sleeper) × (f.passed ≡ front ++ p ∷ [])
passed_end at chain row t key b next f = by f.passed f.ahead where
  by : (passed : List Sleeper) → Segment at None chain.first passed (Some b) (Some key) → (front : List Sleeper)
      × (p : Sleeper) × (passed ≡ front ++ p ∷ [])
  by [] g = let none = g.1 in absurd cc
  by (x ∷ xs) g = ended x xs

still : (nodes nodes' : Slab Node) (chain : Chain) (row : List Sleeper) (t : ℕ) (key b : NodeKey) (next : Option NodeKey)
    (f : IsFound (get nodes) chain row t (record { before = Some b; key = key; next = next })) → Once row
    → Updates nodes nodes' key.0 None → (front : List Sleeper) (p : Sleeper) → f.passed ≡ front ++ p ∷ []
    → (get nodes b.0 ≡ Some (record { sleeper = p; next = Some key })) × (b.0 ≢ key.0)
still nodes nodes' chain row t key b next f once u front p e =
    let g : Segment (get nodes) None chain.first (front ++ p ∷ []) (Some b) (Some key) = rw e at f.ahead in
    let whole : row ≡ (front ++ p ∷ []) ++ f.sleeper ∷ f.back = f.row_is ∙ ap (λ x. x ++ f.sleeper ∷ f.back) e in
    let o : Once ((front ++ p ∷ []) ++ f.sleeper ∷ f.back) = rw whole at once in
    let end : get nodes b.0 ≡ Some (record { sleeper = p; next = Some key }) = segment_end (get nodes) None chain.first
    front p (Some b) (Some key) g in (
      end,
      λ q. let at : get nodes key.0 ≡ Some (record { sleeper = p; next = Some key }) = rw q at end in
          let is : f.sleeper ≡ p = same_sleeper _ _ (sym f.node_is ∙ at) in
          both_ways (among p.thread (front ++ p ∷ [])) (rw is at (once_front (front ++ p ∷ []) f.sleeper f.back o))
          (among_back p.thread front (p ∷ []) (among_head p [])),
    )

-- the node before it is there when it is gone
pub before_there : (nodes nodes' : Slab Node) (chain : Chain) (row : List Sleeper) (t : ℕ) (key b : NodeKey)
    (next : Option NodeKey) → IsFound (get nodes) chain row t (record { before = Some b; key = key; next = next })
    → Once row → Updates nodes nodes' key.0 None → ContainsKey nodes' b.0
before_there nodes nodes' chain row t key b next f once u =
    let e = passed_end (get nodes) chain row t key b next f in
    let s = still nodes nodes' chain row t key b next f once u e.0 e.1 e.2 in
    rw (u.others b.0 s.1 ∙ s.0) refl

-- a node leaves a chain: there was one before it
pub unlinked-behind : (nodes nodes' nodes'' : Slab Node) (chain : Chain) (row : List Sleeper) (t : ℕ) (key b : NodeKey)
    (next : Option NodeKey) → IsFound (get nodes) chain row t (record { before = Some b; key = key; next = next })
    → Once row → Updates nodes nodes' key.0 None → nodes'.capacity ≡ nodes.capacity
    → ((n : Node) → get nodes' b.0 ≡ Some n → Updates nodes' nodes'' b.0 (Some (record n { next = next })))
    → nodes''.capacity ≡ nodes'.capacity → Rechained nodes nodes'' row (others t row)
    (record { first = chain.first; last = last_of next (Some b) chain.last })
unlinked-behind nodes nodes' nodes'' chain row t key b next f once u c w c' =
    let e = passed_end (get nodes) chain row t key b next f in behind e.0 e.1 e.2 where
      behind : (front : List Sleeper) (p : Sleeper) → f.passed ≡ front ++ p ∷ [] → Rechained nodes nodes'' row
          (others t row) (record { first = chain.first; last = last_of next (Some b) chain.last })
      behind front p e =
          let g : Segment (get nodes) None chain.first (front ++ p ∷ []) (Some b) (Some key) = rw e at f.ahead in
          let whole : row ≡ (front ++ p ∷ []) ++ f.sleeper ∷ f.back = f.row_is ∙ ap (λ x. x ++ f.sleeper ∷ f.back) e in
          let o : Once ((front ++ p ∷ []) ++ f.sleeper ∷ f.back) = rw whole at once in
          let s = still nodes nodes' chain row t key b next f once u front p e in
          let named_s : among f.sleeper.thread row ≡ true = rw whole (among_back f.sleeper.thread (front ++ p ∷ [])
          (f.sleeper ∷ f.back) (among_head f.sleeper f.back)) in
          let named_p : among p.thread (front ++ p ∷ []) ≡ true = among_back p.thread front (p ∷ []) (among_head p []) in
          let no_s : among f.sleeper.thread (front ++ p ∷ []) ≡ false = once_front (front ++ p ∷ []) f.sleeper f.back o in
          let no_p : among p.thread (f.sleeper ∷ f.back) ≡ false = once_apart p.thread (front ++ p ∷ [])
          (f.sleeper ∷ f.back) o named_p in
          let v = w _ (u.others b.0 s.1 ∙ s.0) in
          let kept : (j : ℕ) (n : Node) → get nodes j ≡ Some n → f.sleeper.thread ≢ n.sleeper.thread → p.thread
          ≢ n.sleeper.thread → get nodes'' j ≡ Some n = λ j n at ns np. v.others j (λ q.
          let same : get nodes b.0 ≡ Some n = rw q at at in
          np (ap (λ (x : Sleeper). x.thread) (same_sleeper _ _ (sym s.0 ∙ same)))) ∙ u.others j (λ q.
          let same : get nodes key.0 ≡ Some n = rw q at at in
          ns (ap (λ (x : Sleeper). x.thread) (same_sleeper _ _ (sym f.node_is ∙ same)))) ∙ at in
          let led : Segment (get nodes'') None chain.first (front ++ p ∷ []) (Some b) next = segment_led (get nodes)
          (get nodes'') None chain.first front p (Some b) (Some key) next g (λ j n at h. kept j n at
          (λ q. both_ways (among f.sleeper.thread (front ++ p ∷ [])) no_s (among_front f.sleeper.thread front (p ∷ [])
          (rw q h))) (λ q. both_ways (among p.thread front) (once_front front p (f.sleeper ∷ f.back)
          (rw (append_snoc front p (f.sleeper ∷ f.back)) at o)) (rw q h))) v.changed in
          let after : Segment (get nodes'') (Some key) next f.back chain.last None = segment_kept (get nodes)
          (get nodes'') (Some key) next f.back chain.last None f.behind (λ j n at h. kept j n at
          (λ q. both_ways (among f.sleeper.thread f.back) (once_back (front ++ p ∷ []) f.sleeper f.back o) (rw q h))
          (λ q. both_ways (among p.thread f.back) (or_parts (eqb p.thread f.sleeper.thread) (among p.thread f.back) no_p).1 (rw q h))) in
          let rest : others t row ≡ (front ++ p ∷ []) ++ f.back = ap (others t) whole ∙ others_parts t (front ++ p ∷ [])
          f.sleeper f.back f.thread_is (rw f.thread_is at no_s)
          (rw f.thread_is at (once_back (front ++ p ∷ []) f.sleeper f.back o)) in
          record {
            chained = rw rest (segment_joined (get nodes'') None chain.first (front ++ p ∷ []) (Some b) next f.back
                (last_of next (Some b) chain.last) None
                led (segment_after (get nodes'') (Some key) (Some b) next f.back chain.last after));
            others = λ j n at h. kept j n at (λ q. both_ways (among f.sleeper.thread row) (rw q h) named_s)
                (λ q. both_ways (among p.thread row) (rw q h) (rw whole (among_front p.thread (front ++ p ∷ [])
                (f.sleeper ∷ f.back) named_p)));
            capacity = c' ∙ c;
          }
