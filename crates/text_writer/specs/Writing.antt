-- What was written, or that memory ran out.
use Rattle.std.specs.Prelude.{◌≡◌, ℕ, List, [], ◌∷◌, ◌++◌, ◌&&◌, Option, decimal, encode_utf8, nat_eq, nat_le, IfSome, IsSomeAnd, if◌then◌else◌}

-- these bytes were written behind what stood there; where there is no text, memory ran out, then or before
abbrev pub IsWritten : Option (List ℕ) → Option (List ℕ) → List ℕ → Type 0
IsWritten old new more = IfSome new (λ text. IsSomeAnd old (λ before. text ≡ before ++ more))

-- the same of what another text has
abbrev pub IsJoined : Option (List ℕ) → Option (List ℕ) → Option (List ℕ) → Type 0
IsJoined old new other = IfSome new (λ text. IsSomeAnd old (λ before. IsSomeAnd other (λ more. text ≡ before ++ more)))

-- how a byte is shown: as itself, or where no terminal shows it as one sign as a question mark
abbrev pub shown : ℕ → ℕ
shown b = if nat_le 32 b && nat_le b 126 then b else 63

-- a form of ASCII, with the next of the numbers in place of each dollar sign, as long as there is one
abbrev pub filled : List ℕ → List ℕ → List ℕ
filled [] ns = []
filled (b ∷ bs) [] = encode_utf8 b ++ filled bs []
filled (b ∷ bs) (n ∷ ns) = if nat_eq b 36 then decimal n ++ filled bs ns else encode_utf8 b ++ filled bs (n ∷ ns)

-- what is written for a byte of a form: whatever follows in the form, the whole of it goes on with the numbers left
abbrev pub Fills : Option (List ℕ) → Option (List ℕ) → ℕ → List ℕ → List ℕ → Type 0
Fills old new byte left rest = IfSome new (λ text. IsSomeAnd old (λ before.
    (more : List ℕ) → text ++ filled more rest ≡ before ++ filled (byte ∷ more) left))
