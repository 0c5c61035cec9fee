-- The spans of monitors and of members don't overlap.
use Rattle.std.proofs.Common.{◌≡◌, ◌<◌, ◌≤◌, ◌+◌, ℕ, zero, suc, List, [], ◌∷◌, Some, ap, arith}
use Rattle.std.specs.Prelude.{slice_get, slice_index}
use Rattle.program.specs.declared.kinds.MemberType.{MemberType}
use Rattle.program.specs.Trees.{Monitor}
use Rattle.program.specs.WellFormed.{member_words, words_of}
use Rattle.lowering.specs.Layout.{monitor_layout, monitors_from, addresses_from, link_in}

abbrev pub link_from : ℕ → List Monitor → ℕ → ℕ
link_from base ms m = link_in (slice_get (monitors_from base ms) m)

some_inj : {A : Type 0} {x y : A} → Some x ≡ Some y → x ≡ y
some_inj e = cc

-- what stands in the layout for a monitor
pub there : (base : ℕ) (ms : List Monitor) (m : ℕ) (x : Monitor) → slice_get ms m ≡ Some x
    → slice_get (monitors_from base ms) m ≡ Some (monitor_layout (link_from base ms m) x)
there base [] m x e = cc
there base (y ∷ ms) zero x e = ap (λ z. Some (monitor_layout base z)) (some_inj e)
there base (y ∷ ms) (suc m) x e = there (base + 2 + words_of y.members) ms m x e

pub link_above : (base : ℕ) (ms : List Monitor) (m : ℕ) (x : Monitor) → slice_get ms m ≡ Some x
    → base ≤ link_from base ms m
link_above base [] m x e = cc
link_above base (y ∷ ms) zero x e = omega arith
link_above base (y ∷ ms) (suc m) x e = let h = link_above (base + 2 + words_of y.members) ms m x e in omega arith

pub links_apart : (base : ℕ) (ms : List Monitor) (m n : ℕ) (x y : Monitor) → slice_get ms m ≡ Some x
    → slice_get ms n ≡ Some y → m < n → link_from base ms m + 2 + words_of x.members ≤ link_from base ms n
links_apart base [] m n x y e f lt = cc
links_apart base (z ∷ ms) zero zero x y e f lt = absurd (omega arith)
links_apart base (z ∷ ms) zero (suc n) x y e f lt =
    let h = link_above (base + 2 + words_of z.members) ms n y f in
    let same : words_of z.members ≡ words_of x.members = ap (λ w. words_of w.members) (some_inj e) in omega arith
links_apart base (z ∷ ms) (suc m) zero x y e f lt = absurd (omega arith)
links_apart base (z ∷ ms) (suc m) (suc n) x y e f lt =
    links_apart (base + 2 + words_of z.members) ms m n x y e f (omega arith)

-- members of one monitor
pub member_above : (base : ℕ) (ts : List MemberType) (n : ℕ) (t : MemberType) → slice_get ts n ≡ Some t
    → base ≤ slice_index (addresses_from base ts) n
member_above base [] n t e = cc
member_above base (u ∷ ts) zero t e = omega arith
member_above base (u ∷ ts) (suc n) t e = let h = member_above (base + member_words u) ts n t e in omega arith

pub member_below : (base : ℕ) (ts : List MemberType) (n : ℕ) (t : MemberType) → slice_get ts n ≡ Some t
    → slice_index (addresses_from base ts) n + member_words t ≤ base + words_of ts
member_below base [] n t e = cc
member_below base (u ∷ ts) zero t e =
    let same : member_words u ≡ member_words t = ap member_words (some_inj e) in omega arith
member_below base (u ∷ ts) (suc n) t e = let h = member_below (base + member_words u) ts n t e in omega arith

pub members_apart : (base : ℕ) (ts : List MemberType) (n k : ℕ) (t u : MemberType) → slice_get ts n ≡ Some t
    → slice_get ts k ≡ Some u → n < k → slice_index (addresses_from base ts) n + member_words t ≤ slice_index
    (addresses_from base ts) k
members_apart base [] n k t u e f lt = cc
members_apart base (v ∷ ts) zero zero t u e f lt = absurd (omega arith)
members_apart base (v ∷ ts) zero (suc k) t u e f lt =
    let h = member_above (base + member_words v) ts k u f in
    let same : member_words v ≡ member_words t = ap member_words (some_inj e) in omega arith
members_apart base (v ∷ ts) (suc n) zero t u e f lt = absurd (omega arith)
members_apart base (v ∷ ts) (suc n) (suc k) t u e f lt =
    members_apart (base + member_words v) ts n k t u e f (omega arith)
