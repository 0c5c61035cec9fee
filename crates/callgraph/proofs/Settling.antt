-- Procedures whose chains of calls all end.
use Rattle.std.proofs.Common.{◌≡◌, ℕ, zero, suc, ◌<◌, ◌≤◌, ◌+◌, ◌-◌, List, [], ◌∷◌, length, slice_index_or, slice_set}
use Rattle.std.proofs.Common.{Bool}
use Rattle.std.proofs.Common.{true, false, ◌⊎◌, inl, inr, refl, ap, ◌∙◌, sym, subst, arith, count_by, ◌&&◌, ◌||◌}
use Rattle.std.proofs.Common.{nat_eq}
use Rattle.std.proofs.Common.{eqb-true, eq-eqb, replicate}
use Rattle.std.specs.Prelude.{Contains}
use Rattle.std.specs.List.{list_any}
use Rattle.std.proofs.lemmas.List.Folds.{list_any_at}
use Rattle.std.proofs.lemmas.List.{get_or-replicate}
use Rattle.callgraph.specs.declared.Call.{Call}
use Rattle.callgraph.specs.Calls.{IsCall, Within, has_chain}
use Rattle.callgraph.specs.Graphs.{callees_of}
use Rattle.callgraph.specs.Marks.{AreSettled}
use Rattle.callgraph.proofs.Fixed.{less, one_more, none_more}
use Rattle.callgraph.proofs.Rows.{later, is_listed}

-- a chain that there isn't is in no longer one
none_longer : (calls : List Call) (n m a : ℕ) → n ≤ m → has_chain calls n a ≡ false → has_chain calls m a ≡ false
none_longer calls n m a l h =
    let e : n + (m - n) ≡ m = omega (arith, l) in
    subst (λ k. has_chain calls k a ≡ false) e
    (elim (has_chain calls (n + (m - n)) a) as (λ b. (b ≡ true → has_chain calls n a ≡ true) → b ≡ false) [
      | true ↦ λ f. let w : true ≡ false = sym (f refl) ∙ h in cc
      | false ↦ λ f. refl
    ] (less calls n (m - n) a))

and_false : (b c : Bool) → c ≡ false → (b && c) ≡ false
and_false true c h = h
and_false false c h = refl

or_false : (b c : Bool) → b ≡ false → c ≡ false → (b || c) ≡ false
or_false true c h k = h
or_false false c h k = k

-- of one call
one_ends : (all : List Call) (c : Call) (a : ℕ) → (c.caller ≡ a → (n : ℕ) × (has_chain all n c.callee ≡ false))
    → (n : ℕ) × ((m : ℕ) → n ≤ m → (nat_eq c.caller a && has_chain all m c.callee) ≡ false)
one_ends all c a h = elim (nat_eq c.caller a) as (λ b. (b ≡ true → c.caller ≡ a)
    → (n : ℕ) × ((m : ℕ) → n ≤ m → (b && has_chain all m c.callee) ≡ false)) [
      | true ↦ λ f. ((h (f refl)).0, λ m l. none_longer all (h (f refl)).0 m c.callee l (h (f refl)).1)
      | false ↦ λ f. (0, λ m l. refl)
    ] (eqb-true c.caller a)

-- where the chains behind each call of a procedure end, its own end
all_end : (all calls : List Call) (a : ℕ) → ((c : Call) → Contains calls c → c.caller ≡ a
    → (n : ℕ) × (has_chain all n c.callee ≡ false))
    → (n : ℕ) × ((m : ℕ) → n ≤ m → list_any (λ c. nat_eq c.caller a && has_chain all m c.callee) calls ≡ false)
all_end all [] a h = (0, λ m l. refl)
all_end all (c ∷ cs) a h =
    let first : (n : ℕ) × ((m : ℕ) → n ≤ m → (nat_eq c.caller a && has_chain all m c.callee) ≡ false) =
    one_ends all c a (h c (0, omega arith, refl)) in
    let rest : (n : ℕ) × ((m : ℕ) → n ≤ m
    → list_any (λ x. nat_eq x.caller a && has_chain all m x.callee) cs ≡ false) =
    all_end all cs a (λ d k. h d (later c cs d k)) in
    (first.0 + rest.0, λ m l. or_false _ _ (first.1 m (omega (arith, l))) (rest.1 m (omega (arith, l))))

ends : (calls : List Call) (a : ℕ) → ((b : ℕ) → IsCall calls a b → (n : ℕ) × (has_chain calls n b ≡ false))
    → (n : ℕ) × (has_chain calls n a ≡ false)
ends calls a h =
    let r : (n : ℕ) × ((m : ℕ) → n ≤ m
    → list_any (λ c. nat_eq c.caller a && has_chain calls m c.callee) calls ≡ false) =
    all_end calls calls a (λ c k e. h c.callee (subst (λ x. IsCall calls x c.callee) e k)) in
    (suc r.0, r.1 r.0 (omega arith))

set_false : (marks : List Bool) (k b : ℕ) → slice_index_or (slice_set marks k false) b false ≡ false
    → (b ≡ k) ⊎ (slice_index_or marks b false ≡ false)
set_false [] k b h = inr h
set_false (x ∷ xs) zero zero h = inl refl
set_false (x ∷ xs) zero (suc b) h = inr h
set_false (x ∷ xs) (suc k) zero h = inr h
set_false (x ∷ xs) (suc k) (suc b) h = elim (set_false xs k b h) [ inl e ↦ inl (ap suc e) | inr e ↦ inr e ]

called_within : (calls : List Call) (count a b : ℕ) → Within calls count → IsCall calls a b → b < count
called_within calls count a b w h = let l = w h.0 (record { caller = a; callee = b }) h.1 in
    let e : (slice_index_or calls h.0 (record { caller = a; callee = b })).callee ≡ b = ap (λ c. c.callee) h.2 in
    omega (arith, l.1, e)

-- a procedure that calls no marked one is unmarked
pub settled_more : (calls : List Call) (marks : List Bool) (p : ℕ) → Within calls (length marks)
    → ((b : ℕ) → Contains (callees_of calls p) b → slice_index_or marks b false ≡ false) → AreSettled calls marks
    → length (slice_set marks p false) ≡ length marks → AreSettled calls (slice_set marks p false)
settled_more calls marks p within none settled len a l e = elim (set_false marks p a e) [
  | inl s ↦ subst (λ x. (n : ℕ) × (has_chain calls n x ≡ false)) (sym s)
      (ends calls p (λ b k. settled b (called_within calls (length marks) p b within k)
      (none b (is_listed calls p b k))))
  | inr h ↦ settled a (omega (arith, l, len)) h
]

pub counted_less : (marks : List Bool) (k : ℕ) → slice_index_or marks k false ≡ true
    → count_by (λ m. m) (slice_set marks k false) < count_by (λ m. m) marks
counted_less [] k h = cc
counted_less (true ∷ xs) zero h = omega (arith, one_more xs, none_more xs)
counted_less (false ∷ xs) zero h = cc
counted_less (true ∷ xs) (suc k) h = let r : count_by (λ m. m) (slice_set xs k false) < count_by (λ m. m) xs =
    counted_less xs k h in omega (arith, r, one_more xs, one_more (slice_set xs k false))
counted_less (false ∷ xs) (suc k) h = let r : count_by (λ m. m) (slice_set xs k false) < count_by (λ m. m) xs =
    counted_less xs k h in omega (arith, r, none_more xs, none_more (slice_set xs k false))

-- chains go on where each marked procedure calls one
pub goes_on : (calls : List Call) (marks : List Bool) → ((a : ℕ) → slice_index_or marks a false ≡ true
    → (b : ℕ) × IsCall calls a b × (slice_index_or marks b false ≡ true)) → (n a : ℕ)
    → slice_index_or marks a false ≡ true → has_chain calls n a ≡ true
goes_on calls marks closed zero a h = refl
goes_on calls marks closed (suc n) a h =
    let r : (b : ℕ) × IsCall calls a b × (slice_index_or marks b false ≡ true) = closed a h in
    let on : has_chain calls n r.0 ≡ true = goes_on calls marks closed n r.0 r.2 in
    let c : Call = record { caller = a; callee = r.0 } in
    list_any_at (λ x. nat_eq x.caller a && has_chain calls n x.callee) calls r.1.0 c r.1.1
    (ap (λ x. nat_eq x.caller a && has_chain calls n x.callee) r.1.2
    ∙ ap (λ b. b && has_chain calls n r.0) (eq-eqb a a refl) ∙ on)

-- where all are marked, nothing is to be shown
pub settled_all : (calls : List Call) (n : ℕ) (marks : List Bool) → marks ≡ replicate n true → length marks ≡ n
    → AreSettled calls marks
settled_all calls n marks e len a l h =
    let t : slice_index_or marks a false ≡ true = ap (λ xs. slice_index_or xs a false) e
    ∙ get_or-replicate n a true false (omega (arith, l, len)) in
    let w : true ≡ false = sym t ∙ h in cc

pub up_to : (i k : ℕ) → k < i + 1 → (k < i) ⊎ (k ≡ i)
up_to zero zero h = inr refl
up_to zero (suc k) h = absurd (omega (arith, h))
up_to (suc i) zero h = inl (omega arith)
up_to (suc i) (suc k) h = let g : k < i + 1 = omega (arith, h) in
    elim (up_to i k g) [ inl e ↦ inl (omega (arith, e)) | inr e ↦ inr (ap suc e) ]

pub no_more_marked : (swept : Bool) (marks old : List Bool)
    → (swept ≡ true → count_by (λ m. m) marks < count_by (λ m. m) old) → (swept ≡ false → marks ≡ old)
    → count_by (λ m. m) marks ≤ count_by (λ m. m) old
no_more_marked true marks old f g = let l : count_by (λ m. m) marks < count_by (λ m. m) old = f refl in omega (arith, l)
no_more_marked false marks old f g = let e : count_by (λ m. m) marks ≡ count_by (λ m. m) old =
    ap (λ xs. count_by (λ m. m) xs) (g refl) in omega (arith, e)
