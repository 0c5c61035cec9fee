-- A set is the set of its members.
use Rattle.std.proofs.Common.{◌≡◌, ◌≢◌, ◌<◌, ◌≤◌, ◌+◌, ◌||◌, ◌&&◌, ◌⊎◌, ℕ, zero, suc, List, [], ◌∷◌, ◌++◌, eqb, nat_eq}
use Rattle.std.proofs.Common.{Bool, true, false, if◌then◌else◌, Some, None, ◌-◌, refl, ap, sym, ◌∙◌, arith, inl, inr}
use Rattle.std.specs.List.{All}
use Rattle.std.proofs.lemmas.Bool.{cases_eq, cases_lt, eq-eqb, ne_eqb}
use Rattle.std.proofs.lemmas.List.{append-nil}
use Rattle.std.proofs.lemmas.List.Elements.{All-append, All-cons, All-nil}
use Rattle.std.proofs.lemmas.List.Folds.{list_any-append, list_any_none}
use Rattle.words.specs.Limits.{most_threads}
use Rattle.buckets.specs.Places.{names}
use Rattle.machine.proofs.Sets.{one_form, sets_so, threads_members}
use Rattle.machine.specs.ThreadSets.{has, IsLeastFrom, IsThread, set_of}
use Rattle.machine.specs.declared.thread_set.ThreadSet.{ThreadSet}
use Rattle.log_text.specs.Cuts.{IsThreadSet}
use Rattle.log_text.specs.LogLines.{members}

-- the members up to one number more
pub more : (set : ThreadSet) (n : ℕ) (b : Bool) → has set (suc n) ≡ b
    → members set (suc n) ≡ members set n ++ (if b then suc n ∷ [] else [])
more set n b is = ap (λ (h : Bool). members set n ++ (if h then suc n ∷ [] else [])) is

or_none : (a : Bool) → (a || false) ≡ a
or_none true = refl
or_none false = refl

and_none : (a : Bool) → (a && false) ≡ false
and_none true = refl
and_none false = refl

and_true : (a : Bool) → (a && true) ≡ a
and_true true = refl
and_true false = refl

last_named : (n t : ℕ) (b : Bool) → names (if b then suc n ∷ [] else []) t ≡ (b && eqb t (suc n))
last_named n t true = or_none (eqb t (suc n))
last_named n t false = refl

named_more : (set : ThreadSet) (n t : ℕ)
    → names (members set (suc n)) t ≡ (names (members set n) t || (has set (suc n) && eqb t (suc n)))
named_more set n t =
    list_any-append (nat_eq t) (members set n) (if has set (suc n) then suc n ∷ [] else [])
    ∙ ap (λ b. names (members set n) t || b) (last_named n t (has set (suc n)))

-- who isn't from 1 to a number isn't among the members up to it
not_named : (set : ThreadSet) (n t : ℕ) → (t ≡ 0) ⊎ (n < t) → names (members set n) t ≡ false
not_named set zero t out = refl
not_named set (suc n) t out =
    named_more set n t
    ∙ (λ i. not_named set n t (below out) i || (has set (suc n) && ne_eqb t (suc n) (other out) i))
    ∙ and_none (has set (suc n))
  where
    below : (t ≡ 0) ⊎ (suc n < t) → (t ≡ 0) ⊎ (n < t)
    below (inl e) = inl e
    below (inr far) = inr (omega (arith, far))

    other : (t ≡ 0) ⊎ (suc n < t) → t ≢ suc n
    other (inl e) same = absurd (omega (arith, e, same))
    other (inr far) same = absurd (omega (arith, far, same))

-- and who is is among them where the set has it
named : (set : ThreadSet) (n t : ℕ) → 1 ≤ t → t ≤ n → names (members set n) t ≡ has set t
named set zero t some few = absurd (omega (arith, some, few))
named set (suc n) t some few = named_more set n t ∙ elim (cases_eq t (suc n)) [
  | inl e ↦
      (λ i. not_named set n t (inr (omega (arith, e))) i || (has set (suc n) && eq-eqb t (suc n) e i))
      ∙ and_true (has set (suc n)) ∙ ap (has set) (sym e)
  | inr ne ↦
      ap (λ b. names (members set n) t || (has set (suc n) && b)) (ne_eqb t (suc n) ne)
      ∙ ap (λ b. names (members set n) t || b) (and_none (has set (suc n))) ∙ or_none (names (members set n) t)
      ∙ named set n t some (omega (arith, few, ne))
]

members_threads : (set : ThreadSet) (n : ℕ) → n ≤ most_threads → All IsThread (members set n)
members_threads set zero few = All-nil IsThread
members_threads set (suc n) few =
    All-append IsThread (members set n) (if has set (suc n) then suc n ∷ [] else [])
    (members_threads set n (omega (arith, few))) (last (has set (suc n)))
  where
    last : (b : Bool) → All IsThread (if b then suc n ∷ [] else [])
    last true = All-cons IsThread (suc n) [] (omega arith, few) (All-nil IsThread)
    last false = All-nil IsThread

pub all_members : (set : ThreadSet) → All IsThread (members set most_threads)
all_members set = members_threads set most_threads (omega arith)

-- no thread is named but from 1 on to the last
out_named : (ts : List ℕ) (t : ℕ) → All IsThread ts → (t ≡ 0) ⊎ (most_threads < t) → names ts t ≡ false
out_named ts t all out = list_any_none (nat_eq t) ts (λ i d l. ne_eqb t _ (other _ out (all i d l)))
  where
    other : (x : ℕ) → (t ≡ 0) ⊎ (most_threads < t) → IsThread x → t ≢ x
    other x (inl e) is same = absurd (omega (arith, e, same, is.0))
    other x (inr far) is same = absurd (omega (arith, far, same, is.1))

pub set_of_members : (set : ThreadSet) → IsThreadSet set → set_of (members set most_threads) ≡ set
set_of_members set is =
    let ts : List ℕ = is.0 in
    one_form (members set most_threads) ts (threads_members (members set most_threads) (all_members set))
    (threads_members ts is.1) same ∙ sym is.2
  where
    within : (t : ℕ) → 1 ≤ t → t ≤ most_threads → names (members set most_threads) t ≡ names is.0 t
    within t some few = named set most_threads t some few ∙ ap (λ (s : ThreadSet). has s t) is.2
        ∙ sets_so is.0 t (threads_members is.0 is.1) some

    outside : (t : ℕ) → (t ≡ 0) ⊎ (most_threads < t) → names (members set most_threads) t ≡ names is.0 t
    outside t out = not_named set most_threads t out ∙ sym (out_named is.0 t is.1 out)

    same : (t : ℕ) → names (members set most_threads) t ≡ names is.0 t
    same t = elim (cases_eq t 0) [
      | inl e ↦ outside t (inl e)
      | inr ne ↦ elim (cases_lt most_threads t) [
        | inl far ↦ outside t (inr far)
        | inr near ↦ within t (omega (arith, ne)) near
      ]
    ]

-- the members of the set of threads are these, whatever their order
pub same_named : (ts : List ℕ) → All IsThread ts → (t : ℕ) → names (members (set_of ts) most_threads) t ≡ names ts t
same_named ts all t = elim (cases_eq t 0) [
  | inl e ↦ not_named (set_of ts) most_threads t (inl e) ∙ sym (out_named ts t all (inl e))
  | inr ne ↦ elim (cases_lt most_threads t) [
    | inl far ↦ not_named (set_of ts) most_threads t (inr far) ∙ sym (out_named ts t all (inr far))
    | inr near ↦ named (set_of ts) most_threads t (omega (arith, ne)) near
        ∙ sets_so ts t (threads_members ts all) (omega (arith, ne))
  ]
]

-- nobody new is a member of a set up to a number where the set has nobody from another on
pub members_kept : (set : ThreadSet) (n k : ℕ) → n ≤ k → ((u : ℕ) → n < u → u ≤ k → has set u ≡ false)
    → members set k ≡ members set n
members_kept set n zero le none = let same : 0 ≡ n = omega (arith, le) in ap (members set) same
members_kept set n (suc k) le none = elim (cases_eq n (suc k)) [
  | inl e ↦ ap (members set) (sym e)
  | inr ne ↦ more set k false (none (suc k) (omega (arith, le, ne)) (omega arith)) ∙ append-nil (members set k)
      ∙ members_kept set n k (omega (arith, le, ne)) (λ u l h. none u l (omega (arith, h)))
]

-- up to the next thread of the set that thread alone is new
pub next_member : (set : ThreadSet) (from t : ℕ) → 1 ≤ from → IsLeastFrom (has set) from (Some t)
    → members set (t + 1 - 1) ≡ members set (from - 1) ++ t ∷ []
next_member set from zero one is = absurd (omega (arith, one, is.0))
next_member set from (suc k) one is =
    let same : suc k + 1 - 1 ≡ suc k = omega arith in
    ap (members set) same ∙ more set k true is.1
    ∙ ap (λ ms. ms ++ suc k ∷ []) (members_kept set (from - 1) k (omega (arith, is.0))
    (λ u l h. is.2 u (omega (arith, l)) (omega (arith, h))))

-- and there are no others where there is no next one, or the next is past the last number
pub members_end : (set : ThreadSet) (from n : ℕ) → 1 ≤ from → from ≤ n + 1 → IsLeastFrom (has set) from None
    → members set n ≡ members set (from - 1)
members_end set from n one le none =
    members_kept set (from - 1) n (omega (arith, le)) (λ u l h. none u (omega (arith, l)))

pub members_past : (set : ThreadSet) (from n t : ℕ) → 1 ≤ from → from ≤ n + 1 → IsLeastFrom (has set) from (Some t)
    → n < t → members set n ≡ members set (from - 1)
members_past set from n t one le is past =
    members_kept set (from - 1) n (omega (arith, le)) (λ u l h. is.2 u (omega (arith, l)) (omega (arith, h, past)))
