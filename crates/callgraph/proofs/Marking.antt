-- Marks of what calls lead to.
use Rattle.std.proofs.Common.{◌≡◌, ℕ, zero, suc, ◌<◌, ◌+◌, ◌-◌, List, [], ◌∷◌, ◌++◌, length, slice_index_or, Bool}
use Rattle.std.proofs.Common.{true, false}
use Rattle.std.proofs.Common.{◌⊎◌, inl, inr, refl, ap, ◌∙◌, sym, subst, arith, count_by, take, replicate, length-append}
use Rattle.std.specs.Prelude.{Contains}
use Rattle.std.proofs.lemmas.List.{take_more, length-replicate}
use Rattle.std.proofs.lemmas.List.Sums.{count_by-le-length}
use Rattle.std.proofs.Math.Seq.{take-append_seam}
use Rattle.std.proofs.lemmas.List.Elements.{Contains-push, Contains-push_cases, Contains-append_left}
use Rattle.callgraph.specs.declared.Call.{Call}
use Rattle.callgraph.specs.Calls.{IsCall, Leads, Directly, Through, Within}
use Rattle.callgraph.specs.Graphs.{callees_of}
use Rattle.callgraph.specs.Marks.{Marks}
use Rattle.callgraph.proofs.Rows.{is_listed, is_called}

pub marks_none : (old : List Bool) (before : List ℕ) → Marks [] old before old before
marks_none old before = record {
  len = refl;
  all = λ b k l. absurd (omega (arith, k.1));
  kept = λ b t. t;
  only = λ b t. inl t;
  added = λ b t. inl t;
  queued = λ b k. k;
  waiting = λ b k. inl k;
  counted = refl;
}

-- one procedure more
pub marks_more : (ps : List ℕ) (old : List Bool) (before : List ℕ) (i d : ℕ) (m : List Bool) (q : List ℕ)
    (n : List Bool) (r : List ℕ) → i < length ps → Marks (take i ps) old before m q → length n ≡ length m
    → (slice_index_or ps i d < length m → slice_index_or n (slice_index_or ps i d) false ≡ true)
    → ((b : ℕ) → slice_index_or m b false ≡ true → slice_index_or n b false ≡ true)
    → ((b : ℕ) → slice_index_or n b false ≡ true → (slice_index_or m b false ≡ true) ⊎ (b ≡ slice_index_or ps i d))
    → ((b : ℕ) → slice_index_or n b false ≡ true → (slice_index_or m b false ≡ true) ⊎ Contains r b)
    → ((b : ℕ) → Contains q b → Contains r b)
    → ((b : ℕ) → Contains r b → Contains q b ⊎ (slice_index_or n b false ≡ true))
    → count_by (λ x. x) n + length q ≡ count_by (λ x. x) m + length r
    → Marks (take (i + 1) ps) old before n r
marks_more ps old before i d m q n r h inv len marked kept only added queued waiting counted =
    let p : ℕ = slice_index_or ps i d in
    let e : take (i + 1) ps ≡ take i ps ++ p ∷ [] = take_more ps i d h in
    record {
      len = len ∙ inv.len;
      all = λ b k l. elim (Contains-push_cases (take i ps) p b (subst (λ xs. Contains xs b) e k)) [
        | inl j ↦ kept b (inv.all b j l)
        | inr s ↦ subst (λ x. slice_index_or n x false ≡ true) s (marked (omega (arith, s, l, inv.len)))
      ];
      kept = λ b t. kept b (inv.kept b t);
      only = λ b t. elim (only b t) [
        | inl u ↦ elim (inv.only b u) [
          | inl v ↦ inl v
          | inr k ↦ inr (subst (λ xs. Contains xs b) (sym e) (Contains-append_left _ _ b k))
        ]
        | inr s ↦ inr (subst (λ xs. Contains xs b) (sym e) (subst (λ x. Contains (take i ps ++ p ∷ []) x) (sym s)
            (Contains-push (take i ps) p)))
      ];
      added = λ b t. elim (added b t) [
        | inl u ↦ elim (inv.added b u) [ inl v ↦ inl v | inr k ↦ inr (queued b k) ]
        | inr k ↦ inr k
      ];
      queued = λ b k. queued b (inv.queued b k);
      waiting = λ b k. elim (waiting b k) [
        | inl j ↦ elim (inv.waiting b j) [ inl z ↦ inl z | inr t ↦ inr (kept b t) ]
        | inr t ↦ inr t
      ];
      counted = omega (arith, counted, inv.counted);
    }

-- what a walk has marked, with what is pending
pub record Walk (calls : List Call) (start : ℕ) (marks : List Bool) (pending : List ℕ) : Type 0 where
  pub sound : (b : ℕ) → slice_index_or marks b false ≡ true → Leads calls start b
  pub started : (b : ℕ) → IsCall calls start b → slice_index_or marks b false ≡ true
  pub closed : (a : ℕ) → slice_index_or marks a false ≡ true
      → Contains pending a ⊎ ((b : ℕ) → IsCall calls a b → slice_index_or marks b false ≡ true)
  pub waiting : (a : ℕ) → Contains pending a → slice_index_or marks a false ≡ true

unmarked : (n b : ℕ) → slice_index_or (replicate n false) b false ≡ true → ⊥
unmarked zero b h = cc
unmarked (suc n) zero h = cc
unmarked (suc n) (suc b) h = unmarked n b h

called_within : (calls : List Call) (count a b : ℕ) → Within calls count → IsCall calls a b → b < count
called_within calls count a b w h = let l = w h.0 (record { caller = a; callee = b }) h.1 in
    let e : (slice_index_or calls h.0 (record { caller = a; callee = b })).callee ≡ b = ap (λ c. c.callee) h.2 in
    omega (arith, l.1, e)

begun : (calls : List Call) (start count : ℕ) (marks : List Bool) (pending : List ℕ) → Within calls count
    → Marks (callees_of calls start) (replicate count false) [] marks pending → length (replicate count false) ≡ count
    → Walk calls start marks pending
begun calls start count marks pending w m len = record {
  sound = λ b t. elim (m.only b t) [
    | inl u ↦ absurd (unmarked count b u)
    | inr k ↦ Directly b (is_called calls start b k)
  ];
  started = λ b k. m.all b (is_listed calls start b k) (let l = called_within calls count start b w k in
      omega (arith, l, len));
  closed = λ a t. elim (m.added a t) [ inl u ↦ absurd (unmarked count a u) | inr k ↦ inl k ];
  waiting = λ a k. elim (m.waiting a k) [ inl j ↦ absurd (omega (arith, j.1)) | inr t ↦ t ];
}

pub walk_begun : (calls : List Call) (start count : ℕ) (row : List ℕ) (old : List Bool) (none : List ℕ)
    (marks : List Bool) (pending : List ℕ) → Within calls count → row ≡ callees_of calls start
    → old ≡ replicate count false → none ≡ [] → Marks row old none marks pending → Walk calls start marks pending
walk_begun calls start count row old none marks pending w e f g m =
    begun calls start count marks pending w (subst (λ r. Marks r (replicate count false) [] marks pending) e
    (subst (λ o. Marks row o [] marks pending) f (subst (λ z. Marks row old z marks pending) g m)))
    (length-replicate count false)

on : (calls : List Call) (start count x : ℕ) (marks new : List Bool) (all pending after : List ℕ)
    → Within calls count → length marks ≡ count → all ≡ pending ++ x ∷ [] → Walk calls start marks all
    → Marks (callees_of calls x) marks pending new after → Walk calls start new after
on calls start count x marks new all pending after w len e p m =
    let is_pending : Contains all x = subst (λ xs. Contains xs x) (sym e) (Contains-push pending x) in
    record {
      sound = λ b t. elim (m.only b t) [
        | inl u ↦ p.sound b u
        | inr k ↦ Through x b (p.sound x (p.waiting x is_pending)) (is_called calls x b k)
      ];
      started = λ b k. m.kept b (p.started b k);
      closed = λ a t. elim (m.added a t) [
        | inl u ↦ elim (p.closed a u) [
          | inl k ↦ elim (Contains-push_cases pending x a (subst (λ xs. Contains xs a) e k)) [
            | inl j ↦ inl (m.queued a j)
            | inr s ↦ inr (λ b c. m.all b (is_listed calls x b (subst (λ y. IsCall calls y b) (sym s) c))
                (let l = called_within calls count a b w c in omega (arith, l, len)))
          ]
          | inr f ↦ inr (λ b c. m.kept b (f b c))
        ]
        | inr k ↦ inl k
      ];
      waiting = λ a k. elim (m.waiting a k) [
        | inl j ↦ m.kept a (p.waiting a (subst (λ xs. Contains xs a) (sym e) (Contains-append_left _ _ a j)))
        | inr t ↦ t
      ];
    }

pub walk_on : (calls : List Call) (start count x : ℕ) (row : List ℕ) (marks old new : List Bool)
    (all pending after : List ℕ) → Within calls count → length marks ≡ count → all ≡ pending ++ x ∷ []
    → row ≡ callees_of calls x → old ≡ marks → Walk calls start marks all → Marks row old pending new after
    → Walk calls start new after
walk_on calls start count x row marks old new all pending after w len e f g p m =
    on calls start count x marks new all pending after w len e p
    (subst (λ r. Marks r marks pending new after) f (subst (λ o. Marks row o pending new after) g m))

pub falls : (x : ℕ) (row : List ℕ) (marks old new written : List Bool) (all pending after : List ℕ)
    → all ≡ pending ++ x ∷ [] → old ≡ marks → written ≡ new → Marks row old pending new after
    → (length written - count_by (λ m. m) written) + length after < (length marks - count_by (λ m. m) marks) + length
    all
falls x row marks old new written all pending after e g h m =
    let a : length all ≡ length pending + 1 = ap length e ∙ length-append pending (x ∷ []) in
    let l : length written ≡ length marks = ap length h ∙ m.len ∙ ap length g in
    let c : count_by (λ m. m) written ≡ count_by (λ m. m) new = ap (λ xs. count_by (λ m. m) xs) h in
    let d : count_by (λ m. m) old ≡ count_by (λ m. m) marks = ap (λ xs. count_by (λ m. m) xs) g in
    omega (arith, a, l, c, d, m.counted, count_by-le-length (λ (m : Bool). m) written)

-- marks that each call from the start and from a marked procedure leads to hold all that calls lead to
pub all_marked : (calls : List Call) (start : ℕ) (marks : List Bool) → Walk calls start marks [] → (b : ℕ)
    → Leads calls start b → slice_index_or marks b false ≡ true
all_marked calls start marks w _ (Directly b call) = w.started b call
all_marked calls start marks w _ (Through b c l call) = elim (w.closed b (all_marked calls start marks w b l)) [
  | inl k ↦ absurd (omega (arith, k.1))
  | inr f ↦ f c call
]

pub written_back : (n : ℕ) (new old : List Bool) → n ≡ length new → take n (new ++ old) ≡ new
written_back n new old e = ap (λ m. take m (new ++ old)) e ∙ take-append_seam new old
