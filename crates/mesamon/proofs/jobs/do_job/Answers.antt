use Rattle.std.proofs.Common.{inr}
use Rattle.mesamon.proofs.Answered.{passed_on, unread}
use Rattle.mesamon.proofs.ReadFiles.{are_read}
use Rattle.answers.proofs.Told.{lefts_so, ok_so}
use Rattle.mesamon.proofs.jobs.do_job.Goals as goal

pub returns-in_err-bytes-clause-left : goal.returns-in_err-bytes-clause-left
returns-in_err-bytes-clause-left g c =
    passed_on _ _ _ c.from_residual.ensures (λ n gives. unread _ _ _ _ n _ gives c.in_err-bytes.ensures.failed)

pub returns-in_err-second-clause-left : goal.returns-in_err-second-clause-left
returns-in_err-second-clause-left g c =
    passed_on _ _ _ c.from_residual-in_err-second.ensures
    (λ n gives. unread _ _ _ _ n _ gives c.in_err-second.ensures.failed)

pub returns-clause-done : goal.returns-clause-done
returns-clause-done g c =
    ok_so c.answer_job.result _ _
    (λ a done. record {
      bytes = c.as_slice.result.now;
      second = c.as_slice-2.result.now;
      read = are_read _ _ _ _ _ _ _ c.as_slice.ensures.value c.as_slice-2.ensures.value c.second_of.ensures
          c.in_ok-bytes.ensures.read c.in_ok-second.ensures.read;
      done = done;
    }) c.answer_job.ensures.done

pub returns-clause-left : goal.returns-clause-left
returns-clause-left g c =
    let read = are_read _ _ _ _ _ _ _ c.as_slice.ensures.value c.as_slice-2.ensures.value c.second_of.ensures
    c.in_ok-bytes.ensures.read c.in_ok-second.ensures.read in
    lefts_so c.answer_job.result _ _ _ _ _ _
    (λ e refuses. record {
      bytes = c.as_slice.result.now;
      second = c.as_slice-2.result.now;
      read = read;
      refuses = refuses;
    })
    (λ e refuses. record {
      bytes = c.as_slice.result.now;
      second = c.as_slice-2.result.now;
      read = read;
      refuses = refuses;
    })
    (λ f fails. inr (record {
      bytes = c.as_slice.result.now;
      second = c.as_slice-2.result.now;
      read = read;
      fails = fails;
    })) c.answer_job.ensures.left
