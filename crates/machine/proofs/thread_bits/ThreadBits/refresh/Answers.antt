-- The bits of others are as they were.
use Rattle.std.proofs.Common.{◌∙◌, sym, subst, inl, inr}
use Rattle.std.proofs.lemmas.Bool.{cases_eq}
use Rattle.machine.specs.Views.{IsBitSo, parts_of}
use Rattle.machine.proofs.thread_bits.ThreadBits.refresh.Goals as goal

pub returns-clause-right : goal.returns-clause-right
returns-clause-right c = c.put.ensures.here ∙ c.is_able.ensures

pub returns-clause-kept : goal.returns-clause-kept
returns-clause-kept c = λ u le was. elim (cases_eq u c.args.t) [
  | inl e ↦ subst (λ n. IsBitSo c.put.new.self.words (parts_of c.args.common.now c.args.threads.now) n) (sym e)
      (returns-clause-right c)
  | inr ne ↦ c.put.ensures.others u le ne ∙ was
]
