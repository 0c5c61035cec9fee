use Rattle.std.proofs.Common.{◌≡◌, ◌++◌, [], rules, take, sym, ap, subst, ◌∙◌, append-nil, drop_of_length-le, arith}
use Rattle.std.specs.Io.KnownBytes.{Appends}
use Rattle.devices.proofs.Fronts.{appended, appended_kept, moves_front, on_err, on_err_so, on_ok}
use Rattle.devices.proofs.Failing.{fails_behind}
use Rattle.devices.proofs.writing.write_bytes.Goals as goal

pub returns-in_err-count-clause-err : goal.returns-in_err-count-clause-err
returns-in_err-count-clause-err g c =
    let (done, split, wrote, before) = c.loop-rest.invariant in
    on_err _ _ (fails_behind _ _ _ _ _ done _ before split wrote c.in_err-count.ensures.err
    c.in_err-count.ensures.failed)

pub loop-rest-preserved : goal.loop-rest-preserved
loop-rest-preserved g c =
    let (done, split, wrote, before) = c.loop-rest.invariant in
    let rest = c.loop-rest.rest.now in
    let n = c.in_ok-count.count in
    let more = c.in_ok-count.ensures.counted in (
      done ++ take n rest,
      moves_front _ done rest n split,
      appended _ _ _ _ _ wrote c.in_ok-count.ensures.ok,
      omega arith,
    )

pub returns-clause-ok : goal.returns-clause-ok
returns-clause-ok g c =
    let (done, split, wrote, before) = c.loop-rest.invariant in
    let rest = c.loop-rest.rest.now in
    let empty : rest ≡ [] = drop_of_length-le rest {i = 0} (search rules) in
    on_ok _ _ (subst (Appends _ _) (sym (split ∙ ap (λ l. done ++ l) empty ∙ append-nil done))
    (appended_kept _ _ _ done wrote c.flush.ensures.kept))

pub returns-clause-err : goal.returns-clause-err
returns-clause-err g c =
    let (done, split, wrote, before) = c.loop-rest.invariant in
    on_err_so _ _ _ (fails_behind _ _ _ _ _ done _ before split wrote c.flush.ensures.kept) c.flush.ensures.failed
