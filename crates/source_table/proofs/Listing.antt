-- The processes that wait on a condition, listed one by one.
use Rattle.std.proofs.Common.{◌≡◌, ◌↔◌, ◌⊎◌, ◌++◌, ℕ, zero, suc, List, [], ◌∷◌, Some, Contains, sym, ap, subst}
use Rattle.std.proofs.Common.{inl, inr, refl, get_or, ◌<◌, ◌+◌, arith}
use Rattle.std.proofs.lemmas.Cmp.{nat_cmp_total}
use Rattle.std.proofs.lemmas.List.Elements.{Contains-append_cases, Contains-append_left, Contains-append_right}
use Rattle.std.proofs.lemmas.List.{get_or_default}
use Rattle.std.proofs.lemmas.List.Elements.{Contains-get_or, Contains-push_cases}
use Rattle.std.proofs.lemmas.List.Quantifiers.{all_pairs_push}
use Rattle.std.proofs.lemmas.Map.Keys.{below_from_sorted, sorted_tail}
use Rattle.std.specs.List.{AllPairs}
use Rattle.std.specs.List.Sorted.{IsStrictlyIncreasing, IsStrictlySortedBy}
use Rattle.std.specs.Map.{keys_of}
use Rattle.std.proofs.lemmas.Map.Lookups.{exact_unsigned}
use Rattle.std.specs.Ordering.{nat_cmp}
use Rattle.sorted_map.specs.Maps.{IsOrdered}
use Rattle.sorted_map.proofs.Entries.{get_iff}
use Rattle.program.specs.declared.kinds.Member.{Member}
use Rattle.std.proofs.lemmas.Bool.Decides.{Decides-and, Decides-eqb, Decides-like}
use Rattle.std.specs.Bool.{Decides}
use Rattle.program.specs.contracts.kinds.MemberPartialEq as member
use Rattle.source_table.specs.Tables.{waits_in}

same_parts : (a b : Member) → (a.monitor ≡ b.monitor) × (a.number ≡ b.number) → a ≡ b
same_parts a b h = λ i. record { monitor = h.0 i; number = h.1 i }

pub decides_member : (a b : Member) → Decides (member.TheImpl.ghosts.eq a b) (a ≡ b)
decides_member a b =
    Decides-like _ (same_parts a b) (λ e. (ap (λ (m : Member). m.monitor) e, ap (λ (m : Member). m.number) e))
    (Decides-and _ _ (Decides-eqb a.monitor b.monitor) (Decides-eqb a.number b.number))

-- those found and those among these entries are all that wait on the condition, and rise
pub record IsListed (m : List (ℕ × Member)) (c : Member) (found : List ℕ) (es : List (ℕ × Member)) : Type 0 where
  pub rising : AllPairs (λ x y. x < y) found
  pub below : (q r : ℕ) → Contains found q → Contains (keys_of es) r → q < r
  pub sorted : IsStrictlySortedBy nat_cmp (keys_of es)
  pub found_wait : (q : ℕ) → Contains found q → waits_in m q ≡ Some c
  pub left_wait : (q : ℕ) → Contains es (q, c) → waits_in m q ≡ Some c
  pub all : (q : ℕ) → waits_in m q ≡ Some c → Contains found q ⊎ Contains es (q, c)

-- the entry is the one with this key, at the condition
abbrev IsEntry : ℕ → Member → ℕ → Member → Type 0
IsEntry p w q c = ◌≡◌ {A = ℕ × Member} (p, w) (q, c)

none : {X : Type 0} (q : X) → Contains [] q → ⊥
none q (k, l, e) = omega (arith, l)

pub listed-all : (m : List (ℕ × Member)) (c : Member) (found : List ℕ) → IsOrdered nat_cmp m → found ≡ []
    → IsListed m c found m
listed-all m c found o empty = record {
  rising = subst (AllPairs (λ x y. x < y)) (sym empty) (λ i j d l k. absurd (omega (arith, k)));
  below = λ q r h i. absurd (none q (subst (λ xs. Contains xs q) empty h));
  sorted = o;
  found_wait = λ q h. absurd (none q (subst (λ xs. Contains xs q) empty h));
  left_wait = λ q. (get_iff nat_cmp_total exact_unsigned m o q c).1;
  all = λ q w. inr ((get_iff nat_cmp_total exact_unsigned m o q c).0 w);
}

module _ (m : List (ℕ × Member)) (c w : Member) (found : List ℕ) (p : ℕ) (es later : List (ℕ × Member))
    (is : IsListed m c found es) (split : es ≡ (p, w) ∷ later) where
  later_waits : (q : ℕ) → Contains later (q, c) → waits_in m q ≡ Some c
  later_waits q (k, l, e) =
      is.left_wait q (subst (λ xs. Contains xs (q, c)) (sym split) (suc k, omega (arith, l), e))

  first_or : (q : ℕ) → Contains ((p, w) ∷ later) (q, c) → IsEntry p w q c ⊎ Contains later (q, c)
  first_or q (zero, l, e) = inl e
  first_or q (suc k, l, e) = inr (k, omega (arith, l), e)

  keys : IsStrictlySortedBy nat_cmp (p ∷ keys_of later)
  keys = subst (λ xs. IsStrictlySortedBy nat_cmp (keys_of xs)) split is.sorted

  found_below : (q r : ℕ) → Contains found q → Contains (p ∷ keys_of later) r → q < r
  found_below q r h i = is.below q r h (subst (λ xs. Contains (keys_of xs) r) (sym split) i)

  later_above : (r : ℕ) → Contains (keys_of later) r → p < r
  later_above r (k, l, e) =
      subst (λ x. p < x) e
      (subst (λ x. p < x) (get_or_default (keys_of later) k 0 r l)
      (below_from_sorted (p ∷ keys_of later) 0 (suc k) 0 keys (omega arith) (omega (arith, l))))

  later_below : (q r : ℕ) → Contains found q → Contains (keys_of later) r → q < r
  later_below q r h (k, l, e) = found_below q r h (suc k, omega (arith, l), e)

  one_below : (q r : ℕ) → Contains found q ⊎ (p ≡ q) → Contains (keys_of later) r → q < r
  one_below q r (inl h) i = later_below q r h i
  one_below q r (inr e) i = subst (λ x. x < r) e (later_above r i)

  one : w ≡ c → (q : ℕ) → Contains found q ⊎ Contains (p ∷ []) q → waits_in m q ≡ Some c
  one same q (inl h) = is.found_wait q h
  one same q (inr (zero, l, e)) =
      subst (λ r. waits_in m r ≡ Some c) e
      (is.left_wait p (subst (λ xs. Contains xs (p, c)) (sym split) (0, omega arith, λ i. (p, same i))))
  one same q (inr (suc k, l, e)) = absurd (omega (arith, l))

  still : (q : ℕ) → Contains found q ⊎ (IsEntry p w q c ⊎ Contains later (q, c))
      → Contains (found ++ p ∷ []) q ⊎ Contains later (q, c)
  still q (inl h) = inl (Contains-append_left found (p ∷ []) q h)
  still q (inr (inl e)) = inl (Contains-append_right found (p ∷ []) q (0, omega arith, ap (λ x. x.0) e))
  still q (inr (inr h)) = inr h

  passed : (w ≡ c → ⊥) → (q : ℕ) → Contains found q ⊎ (IsEntry p w q c ⊎ Contains later (q, c))
      → Contains found q ⊎ Contains later (q, c)
  passed other q (inl h) = inl h
  passed other q (inr (inl e)) = absurd (other (ap (λ x. x.1) e))
  passed other q (inr (inr h)) = inr h

  split_at : (q : ℕ) → Contains found q ⊎ Contains es (q, c)
      → Contains found q ⊎ (IsEntry p w q c ⊎ Contains later (q, c))
  split_at q (inl h) = inl h
  split_at q (inr h) = inr (first_or q (subst (λ xs. Contains xs (q, c)) split h))

  pub listed-one : w ≡ c → (more : List ℕ) → more ≡ found ++ p ∷ [] → IsListed m c more later
  listed-one same more is_more =
      subst (λ xs. IsListed m c xs later) (sym is_more)
      (record {
        rising = all_pairs_push (λ x y. x < y) found p is.rising
            (λ k d l. found_below (get_or found k d) p (Contains-get_or found k d l) (0, omega arith, refl));
        below = λ q r h i. one_below q r (Contains-push_cases found p q h) i;
        sorted = sorted_tail nat_cmp p (keys_of later) keys;
        found_wait = λ q h. one same q (Contains-append_cases found (p ∷ []) q h);
        left_wait = later_waits;
        all = λ q waits. still q (split_at q (is.all q waits));
      })

  pub listed-other : (w ≡ c → ⊥) → IsListed m c found later
  listed-other other = record {
    rising = is.rising;
    below = later_below;
    sorted = sorted_tail nat_cmp p (keys_of later) keys;
    found_wait = is.found_wait;
    left_wait = later_waits;
    all = λ q waits. passed other q (split_at q (is.all q waits));
  }

pub listed-end : (m : List (ℕ × Member)) (c : Member) (found : List ℕ) (es : List (ℕ × Member)) → IsListed m c found es
    → es ≡ [] → (q : ℕ) → Contains found q ↔ (waits_in m q ≡ Some c)
listed-end m c found es is empty q = (is.found_wait q, λ waits. only (is.all q waits))
  where
    only : Contains found q ⊎ Contains es (q, c) → Contains found q
    only (inl h) = h
    only (inr h) = absurd (none (q, c) (subst (λ xs. Contains xs (q, c)) empty h))

pub listed-rising : (m : List (ℕ × Member)) (c : Member) (found : List ℕ) (es : List (ℕ × Member)) → IsListed m c found es
    → IsStrictlyIncreasing found
listed-rising m c found es is k less = is.rising k (k + 1) 0 (omega arith) less
