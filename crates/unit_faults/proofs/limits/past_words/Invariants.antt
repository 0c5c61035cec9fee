use Rattle.std.proofs.Common.{◌≡◌, ◌-◌, map, take}
use Rattle.std.specs.Prelude.{sum_by}
use Rattle.syntax.specs.View.{member_of}
use Rattle.types.specs.Judgement.{kind_words}
use Rattle.types.specs.Limits.{most_member_words}
use Rattle.unit_faults.specs.Collected.{Collects}
use Rattle.unit_faults.proofs.Along.{Along}
use Rattle.unit_faults.proofs.Relations.{WordsAt}
use Rattle.unit_faults.proofs.limits.past_words.Given as goal

abbrev pub invariant-loop-member : goal.invariant-loop-member
invariant-loop-member l = record {
  left : l.left ≡ most_member_words - sum_by (λ y. kind_words y.kind) (take l.member-index (map member_of l.members));
  collects : Collects (Along WordsAt (take l.member-index (map member_of l.members))) l.fn.least l.least;
}
