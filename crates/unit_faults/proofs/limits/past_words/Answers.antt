use Rattle.std.proofs.Common.{map, ◌∙◌}
use Rattle.syntax.specs.View.{member_of}
use Rattle.unit_faults.proofs.Collecting.{collects_same}
use Rattle.unit_faults.proofs.Along.{along_end}
use Rattle.unit_faults.proofs.Relations.{WordsAt, words_to, words_from}
use Rattle.unit_faults.proofs.Steps.{words_left, words_step}
use Rattle.unit_faults.proofs.limits.past_words.Goals as goal

pub loop-member-preserved : goal.loop-member-preserved
loop-member-preserved c = record {
  left = c.saturating_sub-left.ensures
      ∙ words_left c.args.members.now c.loop-member.member-index _ c.loop-member.left c.kind_words-words.result
      c.loop-member-test.true c.loop-member.invariant.left c.kind_words-words.ensures.words;
  collects = words_step c.args.members.now c.loop-member.member-index _ c.loop-member.left c.kind_words-words.result
      c.args.least c.loop-member.least c.note_where-least.result c.loop-member-test.true
      c.kind_words-words.ensures.positive
      c.loop-member.invariant.left c.kind_words-words.ensures.words c.loop-member.invariant.collects
      c.note_where-least.ensures;
}

pub returns : goal.returns
returns c =
    collects_same _ _ c.args.least c.loop-member.least (words_to (map member_of c.args.members.now))
    (words_from (map member_of c.args.members.now))
    (along_end member_of WordsAt c.args.members.now c.loop-member.member-index c.args.least c.loop-member.least
    c.loop-member-test.false c.loop-member.invariant.collects)
