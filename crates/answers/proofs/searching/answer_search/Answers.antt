use Rattle.answers.proofs.Refusing.{left_as}
use Rattle.answers.proofs.Told.{no_memory, ok_so}
use Rattle.answers.proofs.searching.answer_search.Goals as goal

pub returns-in_err-formed-clause-left : goal.returns-in_err-formed-clause-left
returns-in_err-formed-clause-left g c = left_as _ _ _ c.from_residual.ensures c.in_err-formed.ensures.left

pub returns-clause-done : goal.returns-clause-done
returns-clause-done g c =
    ok_so c.search_formed.result _ _
    (λ a searches. record {
      image = c.in_ok-formed.formed.image;
      is = c.in_ok-formed.ensures.image;
      searches = searches;
    }) c.search_formed.ensures.done

pub returns-clause-left : goal.returns-clause-left
returns-clause-left g c = no_memory c.search_formed.result _ _ _ c.search_formed.ensures.failed
