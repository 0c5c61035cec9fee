use Rattle.std.proofs.Common.{◌≡◌, map, take}
use Rattle.syntax.specs.View.{member_of}
use Rattle.types.specs.Kinds.{member_kinds}
use Rattle.types.specs.Names.{names_of_members}
use Rattle.types.specs.Tables.{IsTable}
use Rattle.types.proofs.standing.Members.new.Given as goal

abbrev pub invariant-loop-member : goal.invariant-loop-member
invariant-loop-member l = record {
  names : IsTable (names_of_members (map member_of (take l.member-index l.members))) l.names;
  kinds : l.kinds.items ≡ member_kinds (map member_of (take l.member-index l.members));
}
