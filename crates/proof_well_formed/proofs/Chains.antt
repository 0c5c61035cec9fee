-- Chains of calls where none is on a cycle.
use Rattle.std.proofs.Common.{◌≡◌, ℕ, zero, suc, ◌+◌, ◌<◌, ◌≤◌, List, [], ◌∷◌, length, refl, sym, ap, ◌∙◌, subst, arith}
use Rattle.std.proofs.Common.{Contains, Bool, true, false, cond, ◌&&◌, ◌||◌, nat_eq, slice_index_or, slice_set}
use Rattle.std.proofs.Common.{inl, inr}
use Rattle.std.proofs.Common.{◌⊎◌, eqb-true, eq-eqb, replicate}
use Rattle.std.proofs.lemmas.Bool.{and_parts}
use Rattle.std.specs.List.{list_any}
use Rattle.callgraph.specs.declared.Call.{Call}
use Rattle.callgraph.specs.Calls.{has_chain, Leads, Directly, Through, IsCall}
use Rattle.proof_well_formed.proofs.Lists.{within_or_past, first_in, later_in}
use Rattle.proof_well_formed.proofs.Free.{true_false}

-- an element that passes a test
found : {X : Type 0} (p : X → Bool) (xs : List X) → list_any p xs ≡ true → (x : X) × Contains xs x × (p x ≡ true)
found {X} p [] h = cc
found {X} p (x ∷ xs) h = elim (p x) as (λ b. p x ≡ b → (b || list_any p xs) ≡ true
    → (y : X) × Contains (x ∷ xs) y × (p y ≡ true)) [
      | true ↦ λ e _. (x, first_in x xs, e)
      | false ↦ λ e g. let r = found p xs g in (r.0, later_in x r.0 xs r.1, r.2)
    ] refl h

or_true : (b : Bool) → (b || true) ≡ true
or_true true = refl
or_true false = refl

passes : {X : Type 0} (p : X → Bool) (xs : List X) (k : ℕ) (x : X) → k < length xs → slice_index_or xs k x ≡ x
    → p x ≡ true → list_any p xs ≡ true
passes p [] k x l e h = absurd (omega (arith, l))
passes p (z ∷ xs) zero x l e h = ap (λ b. b || list_any p xs) (ap p e ∙ h)
passes p (z ∷ xs) (suc k) x l e h = ap (λ b. p z || b) (passes p xs k x (omega (arith, l)) e h) ∙ or_true (p z)

-- a chain of one more call
pub longer : (calls : List Call) (n a b : ℕ) → IsCall calls a b → has_chain calls n b ≡ true
    → has_chain calls (suc n) a ≡ true
longer calls n a b c h =
    passes (λ x. nat_eq x.caller a && has_chain calls n x.callee) calls c.0 (record { caller = a; callee = b }) c.1 c.2
    (ap (λ t. t && has_chain calls n b) (eq-eqb a a refl) ∙ h)

-- the first call of a chain
pub first_call : (calls : List Call) (n a : ℕ) → has_chain calls (suc n) a ≡ true
    → (b : ℕ) × IsCall calls a b × (has_chain calls n b ≡ true)
first_call calls n a h =
    let r = found (λ x. nat_eq x.caller a && has_chain calls n x.callee) calls h in
    let p = and_parts (nat_eq r.0.caller a) (has_chain calls n r.0.callee) r.2 in
    (r.0.callee, subst (λ x. IsCall calls x r.0.callee) (eqb-true r.0.caller a p.0) r.1, p.1)

pub starts : (calls : List Call) (a b : ℕ) → Leads calls a b → (x : ℕ) × IsCall calls a x
starts calls a _ (Directly b c) = (b, c)
starts calls a _ (Through b c l k) = starts calls a b l

set_true : (marks : List Bool) (k b : ℕ) → slice_index_or (slice_set marks k true) b false ≡ true
    → (b ≡ k) ⊎ (slice_index_or marks b false ≡ true)
set_true [] k b h = inr h
set_true (x ∷ xs) zero zero h = inl refl
set_true (x ∷ xs) zero (suc b) h = inr h
set_true (x ∷ xs) (suc k) zero h = inr h
set_true (x ∷ xs) (suc k) (suc b) h = elim (set_true xs k b h) [ inl e ↦ inl (ap suc e) | inr e ↦ inr e ]

-- how many are marked
abbrev pub marked : List Bool → ℕ
marked [] = 0
marked (b ∷ bs) = cond b 1 0 + marked bs

few_marked : (marks : List Bool) → marked marks ≤ length marks
few_marked [] = omega arith
few_marked (true ∷ bs) = let h : marked bs ≤ length bs = few_marked bs in omega (arith, h)
few_marked (false ∷ bs) = let h : marked bs ≤ length bs = few_marked bs in omega (arith, h)

one_more : (marks : List Bool) (k : ℕ) → k < length marks → slice_index_or marks k false ≡ false
    → marked (slice_set marks k true) ≡ 1 + marked marks
one_more [] k h e = absurd (omega (arith, h))
one_more (true ∷ bs) zero h e = absurd (true_false e)
one_more (false ∷ bs) zero h e = omega arith
one_more (b ∷ bs) (suc k) h e = let g : marked (slice_set bs k true) ≡ 1 + marked bs =
    one_more bs k (omega (arith, h)) e in omega (arith, g)

same_length : (marks : List Bool) (k : ℕ) → length (slice_set marks k true) ≡ length marks
same_length [] k = refl
same_length (b ∷ bs) zero = refl
same_length (b ∷ bs) (suc k) = ap suc (same_length bs k)

none_marked : (n b : ℕ) → slice_index_or (replicate n false) b false ≡ false
none_marked zero b = refl
none_marked (suc n) zero = refl
none_marked (suc n) (suc b) = none_marked n b

all_unmarked : (n : ℕ) → (marked (replicate n false) ≡ 0) × (length (replicate n false) ≡ n)
all_unmarked zero = (refl, refl)
all_unmarked (suc n) = let p = all_unmarked n in (
  let e : marked (replicate n false) ≡ 0 = p.0 in omega (arith, e),
  ap suc p.1,
)

module _ (calls : List Call) (count : ℕ) (few : (a b : ℕ) → IsCall calls a b → a < count)
    (none : (a : ℕ) → Leads calls a a → ⊥) where
  -- a chain visits no procedure twice
  visits : (k a : ℕ) (marks : List Bool) → length marks ≡ count → count < marked marks + k
      → ((v : ℕ) → slice_index_or marks v false ≡ true → Leads calls v a) → has_chain calls k a ≡ true → ⊥
  visits zero a marks l m h c = let g : marked marks ≤ length marks = few_marked marks in omega (arith, g, l, m)
  visits (suc k) a marks l m h c =
      let f = first_call calls k a c in
      let within : a < count = few a f.0 f.1 in
      elim (slice_index_or marks a false) as (λ b. slice_index_or marks a false ≡ b → ⊥) [
        | true ↦ λ e. none a (h a e)
        | false ↦ λ e.
            let more : marked (slice_set marks a true) ≡ 1 + marked marks =
            one_more marks a (omega (arith, within, l)) e in
            visits k f.0 (slice_set marks a true) (same_length marks a ∙ l) (omega (arith, more, m)) (λ v t.
            elim (set_true marks a v t) [
              | inl g ↦ subst (λ x. Leads calls x f.0) (sym g) (Directly f.0 f.1)
              | inr g ↦ Through a f.0 (h v g) f.1
            ]) f.2
      ] refl

  -- a chain has no more calls than there are procedures
  pub ended : (a : ℕ) → has_chain calls (suc count) a ≡ false
  ended a =
      let p = all_unmarked count in
      let z : marked (replicate count false) ≡ 0 = p.0 in
      elim (has_chain calls (suc count) a) as (λ b. has_chain calls (suc count) a ≡ b → b ≡ false) [
        | true ↦ λ e. absurd (visits (suc count) a (replicate count false) p.1 (omega (arith, z)) (λ v t.
            absurd (true_false (sym t ∙ none_marked count v))) e)
        | false ↦ λ e. refl
      ] refl

-- the longest chain of at most so many calls that begins at a procedure
abbrev pub highest : List Call → ℕ → ℕ → ℕ
highest calls a zero = 0
highest calls a (suc k) = cond (has_chain calls (suc k) a) (suc k) (highest calls a k)

pub highest_bound : (calls : List Call) (a k : ℕ) → highest calls a k ≤ k
highest_bound calls a zero = omega arith
highest_bound calls a (suc k) = elim (has_chain calls (suc k) a) as (λ b. cond b (suc k) (highest calls a k) ≤ suc k) [
  | true ↦ omega arith
  | false ↦ let h : highest calls a k ≤ k = highest_bound calls a k in omega (arith, h)
]

pub highest_chain : (calls : List Call) (a k : ℕ) → has_chain calls (highest calls a k) a ≡ true
highest_chain calls a zero = refl
highest_chain calls a (suc k) = elim (has_chain calls (suc k) a) as (λ b. has_chain calls (suc k) a ≡ b
    → has_chain calls (cond b (suc k) (highest calls a k)) a ≡ true) [
      | true ↦ λ e. e
      | false ↦ λ e. highest_chain calls a k
    ] refl

pub highest_of_all : (calls : List Call) (a k j : ℕ) → j ≤ k → has_chain calls j a ≡ true → j ≤ highest calls a k
highest_of_all calls a zero j h c = h
highest_of_all calls a (suc k) j h c = elim (has_chain calls (suc k) a) as (λ b. has_chain calls (suc k) a ≡ b
    → j ≤ cond b (suc k) (highest calls a k)) [
      | true ↦ λ e. h
      | false ↦ λ e. elim (within_or_past j k) [
        | inl g ↦ highest_of_all calls a k j g c
        | inr g ↦ let f : j ≡ suc k = omega (arith, h, g) in
            absurd (true_false (sym c ∙ ap (λ n. has_chain calls n a) f ∙ e))
      ]
    ] refl

-- a caller that no chain of 15 calls begins at is higher than what it calls
pub higher : (calls : List Call) (a b : ℕ) → IsCall calls a b → has_chain calls 15 a ≡ false
    → highest calls b 14 < highest calls a 14
higher calls a b c h =
    let j : ℕ = highest calls b 14 in
    let w : j ≤ 14 = highest_bound calls b 14 in
    let l : has_chain calls (suc j) a ≡ true = longer calls j a b c (highest_chain calls b 14) in
    elim (within_or_past (suc j) 14) [
      | inl g ↦ highest_of_all calls a 14 (suc j) g l
      | inr g ↦ let f : suc j ≡ 15 = omega (arith, w, g) in
          absurd (true_false (sym l ∙ ap (λ n. has_chain calls n a) f ∙ h))
    ]
