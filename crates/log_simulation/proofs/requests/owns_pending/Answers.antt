use Rattle.std.proofs.Common.{◌∙◌, ap}
use Rattle.std.specs.Prelude.{slice_index}
use Rattle.words.specs.LockWord.{owner_of}
use Rattle.log_simulation.proofs.Pending.{Owns, none_pending, owns_so, past_pending}
use Rattle.log_simulation.proofs.requests.owns_pending.Goals.{then-pending-eq0-via-then-pending-eq0}
use Rattle.log_simulation.proofs.requests.owns_pending.Goals.{then-pending-eq0-via-else-pending-eq0+then-pending}
use Rattle.log_simulation.proofs.requests.owns_pending.Goals as goal

pub returns-then-pending-eq0 : goal.returns-then-pending-eq0
returns-then-pending-eq0 c = λ some less few.
    let words = c.args.machine.now.words in
    let t = c.args.t in
    let e = c.pending_word-pending.result in
    let same = ap (Owns (slice_index words) t) (c.pending_word-pending.ensures some less) in
    elim c.then-pending-eq0.branch [
      | then-pending-eq0-via-then-pending-eq0 w ↦
          none_pending (slice_index words) t e w.if-pending-eq0.true ∙ same
      | then-pending-eq0-via-else-pending-eq0+then-pending w ↦
          past_pending words t e w.if-pending.true few some ∙ same
    ]

pub returns : goal.returns
returns c = λ some less few.
    let words = c.args.machine.now.words in
    owns_so (slice_index words) c.args.t c.pending_word-pending.result c.tid.result c.if-pending-eq0.false
    (c.tid.ensures ∙ ap owner_of c.word_at.ensures)
    ∙ ap (Owns (slice_index words) c.args.t) (c.pending_word-pending.ensures some less)
