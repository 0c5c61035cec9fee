use Rattle.std.proofs.Common.{◌∙◌, ap, arith, sym}
use Rattle.std.proofs.lemmas.Bool.Decides.{nat_tests}
use Rattle.meaning.specs.Table.{Table}
use Rattle.source_search.proofs.bounds.waits_in_crowd.Goals as goal

pub returns : goal.returns
returns c = λ above. record {
  condition = c.in-Some.condition;
  waiting = c.in_ok-waiting.waiting.items;
  rising = c.in_ok-waiting.ensures.rising;
  all = λ q there. ap (λ (t : Table). t.waits q) (sym c.table.ensures) ∙ (c.in_ok-waiting.ensures.all q).0 there;
  many = grind (arith, nat_tests, above);
}
