-- What was made right stays so.
use Rattle.std.proofs.Common.{length, sym, subst, arith, inl, inr}
use Rattle.machine.specs.Views.{IsBitSo, parts_of}
use Rattle.machine.proofs.thread_bits.ThreadBits.refresh_after.Goals as goal

pub returns-clause-kept : goal.returns-clause-kept
returns-clause-kept c = λ u le was.
    c.refresh_all.ensures.kept u le (c.refresh_made.ensures.kept u le (c.refresh.ensures.kept u le was))

pub returns-clause-right : goal.returns-clause-right
returns-clause-right c = λ u is h.
    let k = parts_of c.args.common.now c.args.threads.now in
    elim h [
      | inl e ↦ subst (λ n. IsBitSo c.refresh_all.new.self.words k n) (sym e)
          (c.refresh_all.ensures.kept c.args.t c.requires.thread.0
          (c.refresh_made.ensures.kept c.args.t c.requires.thread.0 c.refresh.ensures.right))
      | inr other ↦ elim other [
        | inl last ↦ subst (λ n. IsBitSo c.refresh_all.new.self.words k n) (sym last.1)
            (c.refresh_all.ensures.kept (length c.args.threads.now) (omega (arith, last.0))
            (c.refresh_made.ensures.right last.0))
        | inr woken ↦ c.refresh_all.ensures.right u is woken
      ]
    ]
