use Rattle.std.proofs.Common.{◌≡◌, map, take}
use Rattle.syntax.specs.View.{member_of}
use Rattle.resolver.proofs.name_lists.member_names.Given as goal

abbrev pub invariant-loop-member : goal.invariant-loop-member
invariant-loop-member l = map (λ n. n.now) l.names.items
    ≡ map (λ m. m.name.text) (map member_of (take l.member-index l.members))
