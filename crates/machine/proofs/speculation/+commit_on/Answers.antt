-- The accesses are made in parts, one behind the other, or taken back.
use Rattle.std.proofs.Common.{◌∙◌, ℕ, List, ap, length}
use Rattle.machine.proofs.Committing.{as_long, made_both, none_behind, none_first, noted}
use Rattle.machine.proofs.speculation.+commit_on.Goals as goal
use Rattle.machine.proofs.speculation.+commit_on.Goals.{else-make_all-via-then-make_all+else-commit_on, else-make_all-via-else-make_all}

pub returns-then-commit_on-clause-made : goal.returns-then-commit_on-clause-made
returns-then-commit_on-clause-made t c =
    made_both c.min.result c.args.accesses.now c.split_at.result.0.now c.split_at.result.1.now c.args.words.now
    c.make_all.new.words c.commit_on.new.words c.split_at.ensures.front c.split_at.ensures.back c.if-make_all.ensures.whole
    c.if-commit_on.ensures.made

pub returns-then-commit_on-clause-long : goal.returns-then-commit_on-clause-long
returns-then-commit_on-clause-long t c =
    c.commit_on.ensures.long
    ∙ (ap (λ (w : List ℕ). length w) c.if-make_all.ensures.whole.1 ∙ as_long c.split_at.result.0.now c.args.words.now)

pub returns-clause-made : goal.returns-clause-made
returns-clause-made t c =
    let all = c.args.accesses.now in
    let xs = c.split_at.result.0.now in
    let ys = c.split_at.result.1.now in
    let words = c.args.words.now in
    let front = c.split_at.ensures.front in
    let back = c.split_at.ensures.back in
    let made = c.make_all.ensures.made in
    let mid = c.make_all.new.words in
    let leads = noted xs c.as_slice.result.now c.new-before.result.items made.0 words mid c.else-make_all.words
    (c.as_slice.ensures.value ∙ made.1) c.new-before.ensures made.2 in
    elim c.else-make_all.branch [
      | else-make_all-via-then-make_all+else-commit_on w ↦ (
        none_behind c.min.result all xs ys words mid front back w.if-make_all.ensures.whole.1 w.if-commit_on.ensures.made.0,
        c.take_back.ensures words (leads (w.words-is ∙ w.if-commit_on.ensures.made.1)),
      )
      | else-make_all-via-else-make_all w ↦ (
        none_first c.min.result all xs ys words front back w.if-make_all.ensures.whole,
        c.take_back.ensures words (leads w.words-is),
      )
    ]
