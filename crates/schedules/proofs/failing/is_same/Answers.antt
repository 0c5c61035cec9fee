use Rattle.std.proofs.Common.{rules, sym, ◌∙◌}
use denote.Enum.Bare.{same_false, same_true}
use Rattle.words.specs.contracts.outcome.Fault.{the_type}
use Rattle.schedules.proofs.failing.is_same.Goals as goal

pub returns-clause-same : goal.returns-clause-same
returns-clause-same c = λ e. same_true the_type (search rules) _ _ (sym c.eq.ensures ∙ e)

pub returns-clause-other : goal.returns-clause-other
returns-clause-other c = λ e. same_false the_type _ _ (sym c.eq.ensures ∙ e)
