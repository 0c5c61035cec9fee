use Rattle.std.proofs.Common.{Contains, subst, sym}
use Rattle.source_search.proofs.growth.used_variables.Goals as goal

pub returns : goal.returns
returns c = record {
  all = λ n is. c.numbers_once.ensures.all n (subst (λ ns. Contains ns n) (sym c.in_ok-numbers.ensures) is);
  only = λ n is. subst (λ ns. Contains ns n) c.in_ok-numbers.ensures (c.numbers_once.ensures.only n is);
}
