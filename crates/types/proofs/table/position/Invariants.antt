use Rattle.std.proofs.Common.{◌≡◌, List, None, map, take}
use Rattle.syntax.specs.Lexeme.{NameTree}
use Rattle.types.specs.Names.{text_number}
use Rattle.types.proofs.table.position.Given as goal

abbrev pub invariant-loop-number : goal.invariant-loop-number
invariant-loop-number l = (names : List NameTree) → map (λ x. x.now) l.texts ≡ map (λ n. n.text) names
    → text_number (take l.number names) l.text ≡ None
