-- Each thread of the set in turn: between two there is none.
use Rattle.std.proofs.Common.{◌≤◌, sym, subst, arith, inl, inr}
use Rattle.std.proofs.lemmas.Bool.{cases_eq, cases_lt, both_ways}
use Rattle.machine.specs.ThreadSets.{has, IsLeastFrom}
use Rattle.machine.specs.Views.{IsBitSo, parts_of}
use Rattle.machine.proofs.thread_bits.ThreadBits.refresh_some.Goals as goal

pub loop-from-preserved : goal.loop-from-preserved
loop-from-preserved c =
    let k = parts_of c.args.common.now c.args.threads.now in
    let t = c.in-Some.t in
    let most : t ≤ 1000 = omega (arith, c.if-t-gt-MOST_THREADS.false) in
    let least = subst (λ o. IsLeastFrom (has c.args.set.now) c.loop-from.from o) c.in-Some.is c.next_from.ensures in (
      omega arith,
      omega (arith, most),
      λ u le was. c.refresh-in-loop-from.ensures.kept u le (c.loop-from.invariant.2 u le was),
      λ u le less y. elim (cases_eq u t) [
        | inl e ↦ subst (λ n. IsBitSo c.refresh-in-loop-from.new.self.words k n) (sym e) c.refresh-in-loop-from.ensures.right
        | inr ne ↦ elim (cases_lt u c.loop-from.from) [
          | inl before ↦ c.refresh-in-loop-from.ensures.kept u le (c.loop-from.invariant.3 u le before y)
          | inr past ↦ absurd (both_ways (has c.args.set.now u) (least.2 u past (omega (arith, less, ne))) y)
        ]
      ],
    )
