use Rattle.std.proofs.Common.{◌≡◌, All}
use Rattle.source_search.specs.declared.memo.Known.{Known}
use Rattle.source_search.proofs.memo.room.Given as goal

abbrev pub invariant-loop : goal.invariant-loop
invariant-loop l = All (λ (k : Known). k.spot.process ≡ 0) l.known.items
