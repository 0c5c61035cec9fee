use Rattle.std.proofs.Common.{◌≡◌, ◌++◌, ◌∷◌, IfSome, IsSomeAnd, drop}
use Rattle.std.specs.List.{flat_map}
use Rattle.page.specs.Json.{json_sign}
use Rattle.page.proofs.json.write_bytes.Given as goal

abbrev pub invariant-loop-byte : goal.invariant-loop-byte
invariant-loop-byte l = IfSome l.out (λ text. IsSomeAnd l.fn.out (λ before.
    text ++ flat_map json_sign (drop l.byte-index l.bytes) ≡ before ++ 34 ∷ flat_map json_sign l.bytes))
