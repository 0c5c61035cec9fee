-- Each word of a program lies in the memory of its image.
use Rattle.std.proofs.Common.{◌≡◌, ◌+◌, ◌*◌, ◌<◌, ◌≤◌, ℕ, zero, suc, List, [], ◌∷◌, Some, ap}
use Rattle.std.proofs.Common.{length, arith}
use Rattle.std.specs.Prelude.{slice_get, slice_index}
use Rattle.words.specs.declared.process.ProcessWord.{ProcessWord}
use Rattle.words.specs.declared.process.ProcessWord.TheVariants.{Head, Pending, Id, Claim, Result, Outcome}
use Rattle.words.specs.Process.{number_of}
use Rattle.words.specs.Versions.{base_of}
use Rattle.isa.specs.Programs.{memory_size}
use Rattle.program.specs.Trees.{Monitor, Program}
use Rattle.program.specs.WellFormed.{words_of, all_words}
use Rattle.lowering.specs.Cells.{Cell, OfProcess, Link, Lock, OfMember, address, IsCell}
use Rattle.lowering.specs.Layout.{addresses_from, address_in, link_word, member_address}
use Rattle.lowering.specs.Pieces.{code_of}
use Rattle.lowering.proofs.Spans.{there, link_from, member_below}
use Rattle.lowering_limits.proofs.Images.{sum_words, length_monitors}

-- a monitor ends before the end of all
ends_before : (base : ℕ) (ms : List Monitor) (m : ℕ) (x : Monitor) → slice_get ms m ≡ Some x
    → link_from base ms m + 2 + words_of x.members ≤ base + 2 * length ms + all_words ms
ends_before base [] m x e = cc
ends_before base (y ∷ ms) zero x e =
    let same : words_of y.members ≡ words_of x.members = ap (λ w. words_of w.members) (some_inj e) in omega arith
  where
    some_inj : {A : Type 0} {x y : A} → Some x ≡ Some y → x ≡ y
    some_inj e = cc
ends_before base (y ∷ ms) (suc m) x e =
    let h = ends_before (base + 2 + words_of y.members) ms m x e in omega arith

number_below : (w : ProcessWord) → number_of w < 6
number_below Head = omega arith
number_below Pending = omega arith
number_below Id = omega arith
number_below Claim = omega arith
number_below Result = omega arith
number_below Outcome = omega arith

module _ (p : Program) where
  pub size : memory_size (code_of p) ≡ base_of p.version + 2 * length p.monitors + all_words p.monitors
  size =
      let n = length_monitors p.monitors in
      let s = sum_words p.monitors in omega (arith, n, s)

  monitor_ends : (m : ℕ) (x : Monitor) → slice_get p.monitors m ≡ Some x
      → link_word p m + 2 + words_of x.members ≤ memory_size (code_of p)
  monitor_ends m x e =
      let h = ends_before (base_of p.version) p.monitors m x e in
      let s = size in omega (arith, h, s)

  pub inside : (c : Cell) → IsCell p c → address p c < memory_size (code_of p)
  inside (OfProcess t w) h =
      let low = h.0 in
      let high = h.1 in
      let k = number_below w in
      let s = size in omega (arith, low, high, k, s)
  inside (Link m) h = let e = monitor_ends m h.0 h.1 in omega (arith, e)
  inside (Lock m) h = let e = monitor_ends m h.0 h.1 in omega (arith, e)
  inside (OfMember m k) h =
      let e = monitor_ends m.monitor h.0 h.2 in
      let at : member_address p m ≡ slice_index (addresses_from (link_word p m.monitor + 2) h.0.members) m.number =
      ap (λ l. address_in l m.number) (there (base_of p.version) p.monitors m.monitor h.0 h.2) in
      let high = member_below (link_word p m.monitor + 2) h.0.members m.number h.1 h.3 in
      let few = h.4 in omega (arith, e, at, high, few)
