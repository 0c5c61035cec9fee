-- Processes that wait, and wait no longer.
use Rattle.std.proofs.Common.{◌≡◌, ◌↔◌, ℕ, zero, suc, Bool, true, false, cond, ◌==◌, ◌+◌, drop, sym, Option, Some}
use Rattle.std.proofs.Common.{None, List, [], ◌∷◌, Contains, refl, ap, subst, ◌∙◌, arith}
use Rattle.std.proofs.lemmas.Cmp.{nat_cmp_total}
use Rattle.std.specs.Ordering.{nat_cmp}
use Rattle.std.proofs.lemmas.Map.Lookups.{exact_unsigned}
use Rattle.sorted_map.specs.Maps.{IsOrdered, Updates}
use Rattle.sorted_map.proofs.Entries.{get_iff}
use Rattle.words.specs.Updates.{put}
use Rattle.program.specs.declared.kinds.Member.{Member}
use Rattle.meaning.specs.Table.{Table, AllWait, without_waiters}
use Rattle.source_table.specs.Tables.{waits_in}
use Rattle.source_table.proofs.Tables.{put_in}

twice : {X : Type 0} (a b : Bool) (w x : X) → cond a w (cond b w x) ≡ cond b w (cond a w x)
twice true true w x = refl
twice true false w x = refl
twice false true w x = refl
twice false false w x = refl

put_twice : {X : Type 0} (f : ℕ → X) (a b : ℕ) (w : X) → put (put f a w) b w ≡ put (put f b w) a w
put_twice f a b w = λ i j. (twice (j == b) (j == a) w (f j)) i

-- the first of them first, or last
pub without_first : (qs : List ℕ) (waits : ℕ → Option Member) (q : ℕ)
    → without_waiters qs (put waits q None) ≡ put (without_waiters qs waits) q None
without_first [] waits q = refl
without_first (r ∷ rs) waits q =
    ap (λ f. put f r None) (without_first rs waits q) ∙ put_twice (without_waiters rs waits) q r None

-- one of them less is to wait no longer
pub let_go_one : (resumed : List ℕ) (i q : ℕ) (before after : List (ℕ × Member))
    → drop i resumed ≡ q ∷ drop (i + 1) resumed
    → Updates nat_cmp before after q None
    → without_waiters (drop (i + 1) resumed) (waits_in after) ≡ without_waiters (drop i resumed) (waits_in before)
let_go_one resumed i q before after split at =
    ap (without_waiters (drop (i + 1) resumed)) (put_in (λ o. o) before after q None at)
    ∙ without_first (drop (i + 1) resumed) (waits_in before) q
    ∙ sym (ap (λ qs. without_waiters qs (waits_in before)) split)

-- one of them waits, and the others are left
pub all_wait-on : (t : Table) (c : Member) (resumed : List ℕ) (i q : ℕ) → drop i resumed ≡ q ∷ drop (i + 1) resumed
    → t.waits q ≡ Some c → AllWait t c (drop i resumed) ↔ AllWait t c resumed
    → AllWait t c (drop (i + 1) resumed) ↔ AllWait t c resumed
all_wait-on t c resumed i q split w all = (
  (λ rest. all.0 (subst (AllWait t c) (sym split) (more rest))),
  λ whole r (k, l, e). subst (AllWait t c) split (all.1 whole) r (suc k, omega (arith, l), e),
)
  where
    more : AllWait t c (drop (i + 1) resumed) → AllWait t c (q ∷ drop (i + 1) resumed)
    more rest r (zero, l, e) = subst (λ x. t.waits x ≡ Some c) e w
    more rest r (suc k, l, e) = rest r (k, omega (arith, l), e)

-- one of them doesn't wait
pub not_all_wait : (t : Table) (c : Member) (resumed : List ℕ) (i q : ℕ) → drop i resumed ≡ q ∷ drop (i + 1) resumed
    → (t.waits q ≡ Some c → ⊥) → AllWait t c (drop i resumed) ↔ AllWait t c resumed → AllWait t c resumed → ⊥
not_all_wait t c resumed i q split n all whole =
    n (subst (AllWait t c) split (all.1 whole) q (0, omega arith, refl))

-- the entries that are left of all that wait: those of the condition among them wait on it, and if these are resumed
-- then all are
abbrev pub IsRest : List (ℕ × Member) → Member → List ℕ → List (ℕ × Member) → Type 0
IsRest m c resumed es = ((q : ℕ) → Contains es (q, c) → waits_in m q ≡ Some c)
    × ((q : ℕ) → waits_in m q ≡ Some c → (Contains es (q, c) → Contains resumed q) → Contains resumed q)

pub rest-all : (m : List (ℕ × Member)) (c : Member) (resumed : List ℕ) → IsOrdered nat_cmp m
    → IsRest m c resumed m
rest-all m c resumed o = (
  (λ q. (get_iff nat_cmp_total exact_unsigned m o q c).1),
  λ q w named. named ((get_iff nat_cmp_total exact_unsigned m o q c).0 w),
)

pub rest-more : (m : List (ℕ × Member)) (c w : Member) (resumed : List ℕ) (p : ℕ) (es later : List (ℕ × Member))
    → IsRest m c resumed es → es ≡ (p, w) ∷ later → (w ≡ c → Contains resumed p) → IsRest m c resumed later
rest-more m c w resumed p es later rest split named = (
  (λ q (k, l, e). rest.0 q (subst (λ xs. Contains xs (q, c)) (sym split) (suc k, omega (arith, l), e))),
  λ q waits others. rest.1 q waits (λ h. this q others (subst (λ xs. Contains xs (q, c)) split h)),
)
  where
    this : (q : ℕ) → (Contains later (q, c) → Contains resumed q) → Contains ((p, w) ∷ later) (q, c)
        → Contains resumed q
    this q others (zero, l, e) = subst (Contains resumed) (ap (λ x. x.0) e) (named (ap (λ x. x.1) e))
    this q others (suc k, l, e) = others (k, omega (arith, l), e)

pub rest-not : (m : List (ℕ × Member)) (c w : Member) (resumed : List ℕ) (p : ℕ) (es later : List (ℕ × Member))
    → IsRest m c resumed es → es ≡ (p, w) ∷ later → w ≡ c → (Contains resumed p → ⊥)
    → ((q : ℕ) → waits_in m q ≡ Some c → Contains resumed q) → ⊥
rest-not m c w resumed p es later rest split same n all =
    n (all p (rest.0 p (subst (λ xs. Contains xs (p, c)) (sym split) (0, omega arith, λ i. (p, same i)))))

pub rest-end : (m : List (ℕ × Member)) (c : Member) (resumed : List ℕ) (es : List (ℕ × Member)) → IsRest m c resumed es
    → es ≡ [] → (q : ℕ) → waits_in m q ≡ Some c → Contains resumed q
rest-end m c resumed es rest empty q waits =
    rest.1 q waits (λ h. none (subst (λ xs. Contains xs (q, c)) empty h))
  where
    none : Contains {X = ℕ × Member} [] (q, c) → Contains resumed q
    none (k, l, e) = absurd (omega (arith, l))
