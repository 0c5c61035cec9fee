-- The number of a thread, taken as a negative number.
use Rattle.std.proofs.Common.{◌≡◌, ℕ, zero, suc, ◌+◌, ◌-◌, ◌<◌, ◌≤◌, List, ◌∷◌, ap, ◌∙◌, arith, rules, ℤ, pos}
use Rattle.std.proofs.Common.{negsuc}
use Rattle.std.specs.Prelude.{neg_ℤ}
use Rattle.std.proofs.lemmas.Bool.{lt-ltb}
use Rattle.words.specs.Signed.{signed_of, word_of}
use Rattle.words.specs.declared.outcome.Fault.TheVariants.{ResultOutOfRange}
use Rattle.words.specs.declared.version.ImageVersion.{ImageVersion}
use Rattle.words.specs.declared.version.ImageVersion.TheVariants.{One, Two, Linux}
use Rattle.words.specs.Versions.{most_of}
use Rattle.isa.specs.declared.instr.Instr.TheVariants.{Negate}
use Rattle.locals.specs.declared.frame.Locals.{Locals}
use Rattle.locals.specs.declared.frame.Frame.{Frame}
use Rattle.locals.specs.Threads.{Runs as Runs'}
use Rattle.locals.specs.Looks.{Goes, at_place, effect, or_dies}
use Rattle.locals.specs.InstructionEffects.{in_range}

pub most_few : (v : ImageVersion) → most_of v ≤ 1000
most_few One = omega arith
most_few Two = omega arith
most_few Linux = omega arith

signed_small : (n : ℕ) → n < 2147483648 → signed_of n ≡ pos n
signed_small n h = search rules

word_negative : (n : ℕ) → n < 2147483648 → word_of (negsuc n) ≡ 4294967296 - suc n
word_negative n h = search rules

pub negated : (most t place : ℕ) (rest : List ℕ) (l : Locals) (fs : List Frame) → 0 < t → t ≤ 1000
    → at_place place l fs (effect most t Negate (t ∷ rest) l) ≡ Goes (Runs' (place + 1) ((4294967296 - t) ∷ rest) l fs)
negated most zero place rest l fs some few = absurd (omega (arith, some))
negated most (suc n) place rest l fs some few =
    ap (λ (x : ℤ). or_dies (in_range (neg_ℤ x)) ResultOutOfRange (Goes (Runs' (place + 1) (word_of (neg_ℤ x) ∷ rest) l
    fs))) (signed_small (suc n) (omega (arith, few)))
    ∙ ap (λ b. or_dies b ResultOutOfRange (Goes (Runs' (place + 1) (word_of (negsuc n) ∷ rest) l fs)))
    (lt-ltb n 2147483648 (omega (arith, few)))
    ∙ ap (λ w. Goes (Runs' (place + 1) (w ∷ rest) l fs)) (word_negative n (omega (arith, few)))
