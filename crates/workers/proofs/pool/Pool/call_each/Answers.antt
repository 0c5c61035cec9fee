use Rattle.std.proofs.Common.{◌≡◌, ◌∙◌, ℕ, true, ap, arith, inl, inr, subst, sym}
use Rattle.std.proofs.lemmas.Bool.{cases_eq}
use Rattle.machine.specs.ThreadSets.{IsThread, has}
use Rattle.runner.proofs.Passing.{all_from, up_to}
use Rattle.workers.specs.declared.parker.Called.{Called}
use Rattle.workers.specs.BucketWaiters.{IsWhole}
use Rattle.workers.specs.Calls.{was_called}
use Rattle.workers.proofs.Calling.{called_too, called_whole}
use Rattle.workers.proofs.pool.Pool.call_each.Goals as goal

pub loop-t-preserved : goal.loop-t-preserved
loop-t-preserved g c =
    let v = c.loop-t.invariant in
    let t = c.in-Some.t in
    let least = c.in-Some.ensures in
    let called = c.loop-t.called in
    let is : IsThread t = (omega (arith, least.0, v.from_one), omega (arith, c.if-t-gt-MOST_THREADS.false)) in
    record {
      from_one = omega arith;
      within = omega (arith, is.1);
      each = λ u below has_u is_u. ap (λ (d : Called). was_called d u) c.call.ensures ∙ elim (cases_eq u t) [
        | inl here ↦ called_too called t u v.whole is is_u.0 (inl here)
        | inr other ↦ called_too called t u v.whole is is_u.0 (inr (up_to (has c.args.threads.now) c.loop-t.from t
            (λ (w : ℕ). IsThread w → was_called called w ≡ true) v.each least u (omega (arith, below, other)) has_u is_u))
      ];
      whole = subst (λ (d : Called). IsWhole d.workers) (sym c.call.ensures) (called_whole called t v.whole);
      kept = λ u is_u was. ap (λ (d : Called). was_called d u) c.call.ensures
          ∙ called_too called t u v.whole is is_u.0 (inr (v.kept u is_u was));
      starter = ap (λ (d : Called). d.starter) c.call.ensures ∙ v.starter;
    }

pub returns-then-t-gt-MOST_THREADS : goal.returns-then-t-gt-MOST_THREADS
returns-then-t-gt-MOST_THREADS g c =
    let v = c.loop-t.invariant in
    record {
      each = λ u is has_u. up_to (has c.args.threads.now) c.loop-t.from c.in-Some.t
          (λ (w : ℕ). IsThread w → was_called c.loop-t.called w ≡ true) v.each c.in-Some.ensures u
          (omega (arith, is.1, c.if-t-gt-MOST_THREADS.true)) has_u is;
      kept = v.kept;
      whole = v.whole;
      starter = v.starter;
    }

pub returns : goal.returns
returns g c =
    let v = c.loop-t.invariant in
    record {
      each = λ u is has_u. all_from (has c.args.threads.now) c.loop-t.from
          (λ (w : ℕ). IsThread w → was_called c.loop-t.called w ≡ true) v.each c.in_default.ensures u has_u is;
      kept = v.kept;
      whole = v.whole;
      starter = v.starter;
    }
