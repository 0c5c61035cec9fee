-- No two words of a program have one address.
use Rattle.std.proofs.Common.{◌≡◌, ◌<◌, ◌≤◌, ◌+◌, ◌⊎◌, inl, inr, ℕ, zero, suc, Some, refl, sym, ap, ◌∙◌, subst, arith}
use Rattle.std.specs.Prelude.{slice_get, slice_index}
use Rattle.words.specs.declared.process.ProcessWord.{ProcessWord}
use Rattle.words.specs.declared.process.ProcessWord.TheVariants.{Head, Pending, Id, Claim, Result, Outcome}
use Rattle.words.specs.Process.{number_of}
use Rattle.words.specs.Versions.{base_of}
use Rattle.program.specs.declared.kinds.Member.{Member}
use Rattle.program.specs.Trees.{Monitor, Program}
use Rattle.program.specs.WellFormed.{words_of}
use Rattle.lowering.specs.Layout.{addresses_from, address_in, link_word, member_address}
use Rattle.lowering.specs.Cells.{Cell, OfProcess, Link, Lock, OfMember, address, IsCell}
use Rattle.lowering.proofs.Spans.{there, link_above, links_apart, member_above, member_below, members_apart}

number_below : (w : ProcessWord) → number_of w < 6
number_below Head = omega arith
number_below Pending = omega arith
number_below Id = omega arith
number_below Claim = omega arith
number_below Result = omega arith
number_below Outcome = omega arith

-- a member's address by its monitor's link word
member_at : (p : Program) (m : Member) (x : Monitor) → slice_get p.monitors m.monitor ≡ Some x
    → member_address p m ≡ slice_index (addresses_from (link_word p m.monitor + 2) x.members) m.number
member_at p m x e = ap (λ l. address_in l m.number) (there (base_of p.version) p.monitors m.monitor x e)

-- the words of a monitor, in its span
data Inside (p : Program) : Cell → ℕ → Type 0 where
  inside : {c : Cell} (m : ℕ) (x : Monitor) → slice_get p.monitors m ≡ Some x → link_word p m ≤ address p c
      → address p c < link_word p m + 2 + words_of x.members → Inside p c m

link_inside : (p : Program) (m : ℕ) → IsCell p (Link m) → Inside p (Link m) m
link_inside p m h = inside m h.0 h.1 (omega arith) (omega arith)

lock_inside : (p : Program) (m : ℕ) → IsCell p (Lock m) → Inside p (Lock m) m
lock_inside p m h = inside m h.0 h.1 (omega arith) (omega arith)

member_bounds : (p : Program) (m : Member) (k : ℕ) (h : IsCell p (OfMember m k))
    → (link_word p m.monitor + 2 ≤ address p (OfMember m k))
    × (address p (OfMember m k) < link_word p m.monitor + 2 + words_of h.0.members)
member_bounds p m k h =
    let at = member_at p m h.0 h.2 in
    let low = member_above (link_word p m.monitor + 2) h.0.members m.number h.1 h.3 in
    let high = member_below (link_word p m.monitor + 2) h.0.members m.number h.1 h.3 in
    let few = h.4 in (omega (arith, at, low), omega (arith, at, high, few))

member_inside : (p : Program) (m : Member) (k : ℕ) → IsCell p (OfMember m k) → Inside p (OfMember m k) m.monitor
member_inside p m k h = let b = member_bounds p m k h in inside m.monitor h.0 h.2 (let low = b.0 in omega arith) b.1

lower_monitor : (p : Program) (c d : Cell) (m n : ℕ) → Inside p c m → Inside p d n → m < n → address p c ≡ address p d
    → ⊥
lower_monitor p c d m n (inside m' x ex lx hx) (inside n' y ey ly hy) lt e =
    let h = links_apart (base_of p.version) p.monitors m n x y ex ey lt in omega (arith, h, lx, hx, ly, hy, e)

compared : (m n : ℕ) → (m < n) ⊎ ((m ≡ n) ⊎ (n < m))
compared zero zero = inr (inl refl)
compared zero (suc n) = inl (omega arith)
compared (suc m) zero = inr (inr (omega arith))
compared (suc m) (suc n) =
    elim (compared m n) [
      | inl lt ↦ inl (omega arith)
      | inr r ↦ elim r
          [ inl e ↦ inr (inl (ap suc e)) | inr gt ↦ inr (inr (omega arith)) ]
    ]

same_monitor : (p : Program) (c d : Cell) (m n : ℕ) → Inside p c m → Inside p d n → address p c ≡ address p d → m ≡ n
same_monitor p c d m n hc hd e =
    elim (compared m n) [
      | inl lt ↦ absurd (lower_monitor p c d m n hc hd lt e)
      | inr r ↦ elim r
          [ inl same ↦ same | inr gt ↦ absurd (lower_monitor p d c n m hd hc gt (sym e)) ]
    ]

above : (p : Program) (c : Cell) (m : ℕ) → Inside p c m → base_of p.version ≤ address p c
above p c m (inside m' x ex low high) =
    let h = link_above (base_of p.version) p.monitors m x ex in omega (arith, h, low)

below : (p : Program) (t : ℕ) (w : ProcessWord) → IsCell p (OfProcess t w)
    → address p (OfProcess t w) < base_of p.version
below p t w h = let a = h.0 in let b = h.1 in let k = number_below w in omega arith

pub cell_above : (p : Program) (c : Cell) → IsCell p c → 0 < address p c
cell_above p (OfProcess t w) h = omega arith
cell_above p (Link m) h = let b = above p (Link m) m (link_inside p m h) in omega arith
cell_above p (Lock m) h = omega arith
cell_above p (OfMember m k) h = let b = above p (OfMember m k) m.monitor (member_inside p m k h) in omega arith

word_at : ℕ → ProcessWord
word_at zero = Head
word_at (suc zero) = Pending
word_at (suc (suc zero)) = Id
word_at (suc (suc (suc zero))) = Claim
word_at (suc (suc (suc (suc zero)))) = Result
word_at (suc (suc (suc (suc (suc n))))) = Outcome

word_at-number : (w : ProcessWord) → word_at (number_of w) ≡ w
unfolding word_at
word_at-number Head = refl
word_at-number Pending = refl
word_at-number Id = refl
word_at-number Claim = refl
word_at-number Result = refl
word_at-number Outcome = refl

processes_apart : (p : Program) (t u : ℕ) (w v : ProcessWord) → IsCell p (OfProcess t w) → IsCell p (OfProcess u v)
    → address p (OfProcess t w) ≡ address p (OfProcess u v) → OfProcess t w ≡ OfProcess u v
processes_apart p t u w v h g e =
    let a = h.0 in let b = g.0 in let k = number_below w in let j = number_below v in
    let same : t ≡ u = omega arith in
    let number : number_of w ≡ number_of v = omega arith in
    let word : w ≡ v = sym (word_at-number w) ∙ ap word_at number ∙ word_at-number v in
    ap (λ s. OfProcess s w) same ∙ ap (λ x. OfProcess u x) word

-- of two members of one monitor the first one's words come before the other's
members_below : (p : Program) (m n : Member) (k j : ℕ) → IsCell p (OfMember m k) → IsCell p (OfMember n j)
    → m.monitor ≡ n.monitor → m.number < n.number → address p (OfMember m k) < address p (OfMember n j)
members_below p m n k j h g same lt =
    let first : slice_get p.monitors n.monitor ≡ Some h.0 = subst (λ i. slice_get p.monitors i ≡ Some h.0) same h.2 in
    let one : g.0 ≡ h.0 = cc in
    let there : slice_get h.0.members n.number ≡ Some g.1 =
    subst (λ x. slice_get x.members n.number ≡ Some g.1) one g.3 in
    let am = member_at p m h.0 h.2 in
    let an = member_at p n h.0 first in
    let base : slice_index (addresses_from (link_word p m.monitor + 2) h.0.members) m.number
    ≡ slice_index (addresses_from (link_word p n.monitor + 2) h.0.members) m.number =
    ap (λ i. slice_index (addresses_from (link_word p i + 2) h.0.members) m.number) same in
    let order = members_apart (link_word p n.monitor + 2) h.0.members m.number n.number h.1 g.1 h.3 there lt in
    let few = h.4 in omega (arith, am, an, base, order, few)

members_same : (p : Program) (m n : Member) (k j : ℕ) → IsCell p (OfMember m k) → IsCell p (OfMember n j)
    → m.monitor ≡ n.monitor → address p (OfMember m k) ≡ address p (OfMember n j) → m.number ≡ n.number
members_same p m n k j h g same e =
    elim (compared m.number n.number) [
      | inl lt ↦ let b = members_below p m n k j h g same lt in absurd (omega (arith, b, e))
      | inr r ↦ elim r [
        | inl number ↦ number
        | inr gt ↦ let b = members_below p n m j k g h (sym same) gt in absurd (omega (arith, b, e))
      ]
    ]

of_members : (p : Program) (m n : Member) (k j : ℕ) → IsCell p (OfMember m k) → IsCell p (OfMember n j)
    → address p (OfMember m k) ≡ address p (OfMember n j) → OfMember m k ≡ OfMember n j
of_members p m n k j h g e =
    let monitor =
    same_monitor p (OfMember m k) (OfMember n j) m.monitor n.monitor (member_inside p m k h) (member_inside p n j g) e
    in
    let number = members_same p m n k j h g monitor e in
    let same : m ≡ n =
    ap (λ (a : ℕ). let r : Member = record { monitor = a; number = m.number } in r) monitor
    ∙ ap (λ (b : ℕ). let r : Member = record { monitor = n.monitor; number = b } in r) number in
    let at : member_address p m ≡ member_address p n = ap (member_address p) same in
    let offset : k ≡ j = omega arith in
    ap (λ x. OfMember x k) same ∙ ap (λ i. OfMember n i) offset

pub cells_apart : (p : Program) (c d : Cell) → IsCell p c → IsCell p d → address p c ≡ address p d → c ≡ d
cells_apart p (OfProcess t w) (OfProcess u v) h g e = processes_apart p t u w v h g e
cells_apart p (OfProcess t w) (Link n) h g e =
    let a = below p t w h in let b = above p (Link n) n (link_inside p n g) in absurd (omega arith)
cells_apart p (OfProcess t w) (Lock n) h g e =
    let a = below p t w h in let b = above p (Lock n) n (lock_inside p n g) in absurd (omega arith)
cells_apart p (OfProcess t w) (OfMember n j) h g e =
    let a = below p t w h in let b = above p (OfMember n j) n.monitor (member_inside p n j g) in absurd (omega arith)
cells_apart p (Link m) (OfProcess u v) h g e =
    let a = below p u v g in let b = above p (Link m) m (link_inside p m h) in absurd (omega arith)
cells_apart p (Link m) (Link n) h g e =
    ap Link (same_monitor p (Link m) (Link n) m n (link_inside p m h) (link_inside p n g) e)
cells_apart p (Link m) (Lock n) h g e =
    let s = ap (link_word p) (same_monitor p (Link m) (Lock n) m n (link_inside p m h) (lock_inside p n g) e) in
    absurd (omega (arith, s, e))
cells_apart p (Link m) (OfMember n j) h g e =
    let s =
    ap (link_word p) (same_monitor p (Link m) (OfMember n j) m n.monitor (link_inside p m h) (member_inside p n j g) e)
    in
    let b = (member_bounds p n j g).0 in absurd (omega (arith, s, e, b))
cells_apart p (Lock m) (OfProcess u v) h g e =
    let a = below p u v g in let b = above p (Lock m) m (lock_inside p m h) in absurd (omega arith)
cells_apart p (Lock m) (Link n) h g e =
    let s = ap (link_word p) (same_monitor p (Lock m) (Link n) m n (lock_inside p m h) (link_inside p n g) e) in
    absurd (omega (arith, s, e))
cells_apart p (Lock m) (Lock n) h g e =
    ap Lock (same_monitor p (Lock m) (Lock n) m n (lock_inside p m h) (lock_inside p n g) e)
cells_apart p (Lock m) (OfMember n j) h g e =
    let s =
    ap (link_word p) (same_monitor p (Lock m) (OfMember n j) m n.monitor (lock_inside p m h) (member_inside p n j g) e)
    in
    let b = (member_bounds p n j g).0 in absurd (omega (arith, s, e, b))
cells_apart p (OfMember m k) (OfProcess u v) h g e =
    let a = below p u v g in let b = above p (OfMember m k) m.monitor (member_inside p m k h) in absurd (omega arith)
cells_apart p (OfMember m k) (Link n) h g e =
    let s =
    ap (link_word p) (same_monitor p (OfMember m k) (Link n) m.monitor n (member_inside p m k h) (link_inside p n g) e)
    in
    let b = (member_bounds p m k h).0 in absurd (omega (arith, s, e, b))
cells_apart p (OfMember m k) (Lock n) h g e =
    let s =
    ap (link_word p) (same_monitor p (OfMember m k) (Lock n) m.monitor n (member_inside p m k h) (lock_inside p n g) e)
    in
    let b = (member_bounds p m k h).0 in absurd (omega (arith, s, e, b))
cells_apart p (OfMember m k) (OfMember n j) h g e = of_members p m n k j h g e
