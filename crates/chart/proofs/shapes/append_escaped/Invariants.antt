use Rattle.std.proofs.Common.{◌≡◌, ◌++◌, IfSome, IsSomeAnd, drop}
use Rattle.std.specs.List.{flat_map}
use Rattle.chart.specs.Texts.{escape}
use Rattle.chart.proofs.shapes.append_escaped.Given as goal

abbrev pub invariant-loop-byte : goal.invariant-loop-byte
invariant-loop-byte l = IfSome l.out (λ text. IsSomeAnd l.fn.out (λ before.
    text ++ flat_map escape (drop l.byte-index l.text) ≡ before ++ flat_map escape l.text))
