use Rattle.answers.proofs.SearchesImages.{says_never}
use Rattle.answers.proofs.Told.{ok_so}
use Rattle.answers.proofs.searching.search_formed.Goals as goal

pub returns-clause-done : goal.returns-clause-done
returns-clause-done g c =
    ok_so c.found_answer.result _ _
    (λ a tells. record {
      exploration = c.in_ok-found.found;
      searched = c.in_ok-found.ensures.searched;
      never = says_never c.args.formed.now.image c.args.outside c.in_ok-found.found.ending
          c.in_ok-found.ensures.never_stuck c.in_ok-found.ensures.never_fails c.in_ok-found.ensures.never_breaks;
      slept = c.in_ok-found.ensures.sleeping;
      tells = tells;
    }) c.found_answer.ensures.told
