-- What is read of some bytes stands when more follow, but for a byte that is missing.
use Rattle.std.proofs.Common.{◌≡◌, ◌≢◌, ℕ, zero, suc, ◌+◌, ◌-◌, ◌*◌, Bool, true, false, cond, ltb, eqb, List, [], ◌∷◌}
use Rattle.std.proofs.Common.{◌++◌, Option, Some, None, Result, Ok, Err, refl}
use Rattle.words.specs.declared.version.ImageVersion.{ImageVersion}
use Rattle.words.specs.declared.version.ImageVersion.TheVariants.{One, Two}
use Rattle.isa.specs.Limits.{most_monitors, most_member_words, most_instructions}
use Rattle.isa.specs.declared.fault.DecodeFault.{DecodeFault}
use Rattle.isa.specs.declared.fault.DecodeFault.TheVariants.{BadMagic, Version, Short, BadInstr, Limit}
use Rattle.isa.specs.declared.instr.Instr.{Instr}
use Rattle.isa.specs.Opcodes.{Form, with_one, with_two, plain_opcodes, operand_opcodes, row_of}
use Rattle.isa.specs.Programs.{Program}
use Rattle.isa.specs.Spelling.{magic}
use Rattle.isa.specs.Reading.{◌>>=◌, fixed_at, version_at, groups_at, number_at, limited_at, numbers_at, monitors_at}
use Rattle.isa.specs.Reading.{made_at, operands_at, behind_opcode, instruction_at, instructions_at, code_at, image_at}

-- of one answer, and the answer with more bytes behind
abbrev pub StandsAt : {A : Type 0} → Result (A × List ℕ) DecodeFault → Result (A × List ℕ) DecodeFault → List ℕ → Type 0
StandsAt (Ok x) longer more = longer ≡ Ok (x.0, x.1 ++ more)
StandsAt (Err e) longer more = e ≢ Short → longer ≡ Err e

abbrev pub Stands : {A : Type 0} → (List ℕ → Result (A × List ℕ) DecodeFault) → Type 0
Stands read = (bytes more : List ℕ) → StandsAt (read bytes) (read (bytes ++ more)) more

then-stands : {A B : Type 0} (r longer : Result (A × List ℕ) DecodeFault) (more : List ℕ) (next : A → List ℕ → Result
    (B × List ℕ) DecodeFault) → StandsAt r longer more → ((x : A) → Stands (next x))
    → StandsAt (r >>= λ x. next x.0 x.1) (longer >>= λ x. next x.0 x.1) more
then-stands (Ok x) longer more next first each = rw first (each x.0 x.1 more)
then-stands (Err e) longer more next first each = λ other. rw (first other) refl

cond-stands : {A : Type 0} (b : Bool) (x longer_x y longer_y : Result (A × List ℕ) DecodeFault) (more : List ℕ)
    → StandsAt x longer_x more → StandsAt y longer_y more → StandsAt (cond b x y) (cond b longer_x longer_y) more
cond-stands true x longer_x y longer_y more first second = first
cond-stands false x longer_x y longer_y more first second = second

fixed-stands : {A : Type 0} (wanted : List ℕ) (fault : DecodeFault) (bytes more : List ℕ)
    (next : List ℕ → Result (A × List ℕ) DecodeFault) → Stands next → StandsAt (fixed_at wanted fault bytes >>= next)
    (fixed_at wanted fault (bytes ++ more) >>= next) more
unfolding fixed_at
fixed-stands [] fault bytes more next each = each bytes more
fixed-stands (b ∷ wanted) fault [] more next each = λ other. absurd (other refl)
fixed-stands (b ∷ wanted) fault (c ∷ bytes) more next each =
    test-stands (eqb c b) (fixed_at wanted fault bytes) (fixed_at wanted fault (bytes ++ more))
    (fixed-stands wanted fault bytes more next each)
  where
    test-stands : (test : Bool) (x longer : Result (List ℕ) DecodeFault) → StandsAt (x >>= next) (longer >>= next)
        more → StandsAt (cond test x (Err fault) >>= next) (cond test longer (Err fault) >>= next) more
    test-stands true x longer first = first
    test-stands false x longer first = λ other. refl

version-stands : Stands version_at
unfolding version_at
version-stands [] more = λ other. absurd (other refl)
version-stands (b ∷ bytes) more = cond-stands (eqb b 1) (Ok (One, bytes)) (Ok (One, bytes ++ more))
    (cond (eqb b 2) (Ok (Two, bytes)) (Err Version)) (cond (eqb b 2) (Ok (Two, bytes ++ more)) (Err Version)) more
    refl (cond-stands (eqb b 2) (Ok (Two, bytes)) (Ok (Two, bytes ++ more)) (Err Version) (Err Version) more refl
    (λ other. refl))

groups-stand : (left : ℕ) → Stands (groups_at left)
unfolding groups_at
groups-stand zero [] more = λ other. absurd (other refl)
groups-stand (suc left) [] more = λ other. absurd (other refl)
groups-stand zero (b ∷ bytes) more = cond-stands (ltb 15 b) (Err Limit) (Err Limit) (Ok (b, bytes))
    (Ok (b, bytes ++ more)) more (λ other. refl) refl
groups-stand (suc left) (b ∷ bytes) more =
    let next : ℕ → List ℕ → Result (ℕ × List ℕ) DecodeFault = λ high rest. cond (eqb high 0) (Err BadInstr)
    (Ok (b - 128 + 128 * high, rest)) in
    let each : (high : ℕ) → Stands (next high) = λ high rest after. cond-stands (eqb high 0) (Err BadInstr)
    (Err BadInstr) (Ok (b - 128 + 128 * high, rest)) (Ok (b - 128 + 128 * high, rest ++ after)) after
    (λ other. refl) refl in
    cond-stands (ltb b 128) (Ok (b, bytes)) (Ok (b, bytes ++ more)) (groups_at left bytes >>= λ x. next x.0 x.1)
    (groups_at left (bytes ++ more) >>= λ x. next x.0 x.1) more refl
    (then-stands (groups_at left bytes) (groups_at left (bytes ++ more)) more next (groups-stand left bytes more) each)

number-stands : Stands number_at
number-stands bytes more = groups-stand 4 bytes more

limited-stands : (limit : ℕ) → Stands (limited_at limit)
unfolding limited_at
limited-stands limit bytes more =
    then-stands (number_at bytes) (number_at (bytes ++ more)) more (λ n rest. cond (ltb limit n) (Err Limit)
    (Ok (n, rest))) (number-stands bytes more)
    (λ n rest after. cond-stands (ltb limit n) (Err Limit) (Err Limit) (Ok (n, rest)) (Ok (n, rest ++ after)) after
    (λ other. refl) refl)

numbers-stand : (count limit : ℕ) → Stands (numbers_at count limit)
unfolding numbers_at
numbers-stand zero limit bytes more = refl
numbers-stand (suc count) limit bytes more =
    then-stands (limited_at limit bytes) (limited_at limit (bytes ++ more)) more (λ n rest. numbers_at count
    (limit - n) rest >>= λ others. Ok (n ∷ others.0, others.1)) (limited-stands limit bytes more)
    (λ n rest after. then-stands (numbers_at count (limit - n) rest) (numbers_at count (limit - n) (rest ++ after))
    after (λ others left. Ok (n ∷ others, left)) (numbers-stand count (limit - n) rest after)
    (λ others left behind. refl))

monitors-stand : Stands monitors_at
unfolding monitors_at
monitors-stand bytes more = then-stands (limited_at most_monitors bytes) (limited_at most_monitors (bytes ++ more))
    more (λ count rest. numbers_at count most_member_words rest) (limited-stands most_monitors bytes more)
    (λ count. numbers-stand count most_member_words)

made-stands : (made : Option Instr) → Stands (made_at made)
made-stands None bytes more = λ other. refl
made-stands (Some i) bytes more = refl

operands-stand : (form : Option Form) → Stands (operands_at form)
unfolding operands_at
operands-stand None bytes more = λ other. refl
operands-stand (Some (with_one make)) bytes more = then-stands (number_at bytes) (number_at (bytes ++ more)) more
    (λ n rest. made_at (make n) rest) (number-stands bytes more) (λ n. made-stands (make n))
operands-stand (Some (with_two make)) bytes more =
    then-stands (number_at bytes) (number_at (bytes ++ more)) more (λ n rest. number_at rest >>= λ m. made_at
    (make n m.0) m.1) (number-stands bytes more)
    (λ n rest after. then-stands (number_at rest) (number_at (rest ++ after)) after (λ m left. made_at (make n m)
    left) (number-stands rest after) (λ m. made-stands (make n m)))

behind-stands : (plain : Option Instr) (form : Option Form) → Stands (behind_opcode plain form)
unfolding behind_opcode
behind-stands None form bytes more = operands-stand form bytes more
behind-stands (Some i) form bytes more = refl

instruction-stands : Stands instruction_at
unfolding instruction_at
instruction-stands [] more = λ other. absurd (other refl)
instruction-stands (b ∷ bytes) more = behind-stands (row_of plain_opcodes b) (row_of operand_opcodes b) bytes more

instructions-stand : (count : ℕ) → Stands (instructions_at count)
unfolding instructions_at
instructions-stand zero bytes more = refl
instructions-stand (suc count) bytes more =
    then-stands (instruction_at bytes) (instruction_at (bytes ++ more)) more (λ i rest. instructions_at count rest
    >>= λ others. Ok (i ∷ others.0, others.1)) (instruction-stands bytes more)
    (λ i rest after. then-stands (instructions_at count rest) (instructions_at count (rest ++ after)) after
    (λ others left. Ok (i ∷ others, left)) (instructions-stand count rest after) (λ others left behind. refl))

code-stands : Stands code_at
unfolding code_at
code-stands bytes more = then-stands (limited_at most_instructions bytes) (limited_at most_instructions
    (bytes ++ more)) more (λ count rest. instructions_at count rest) (limited-stands most_instructions bytes more)
    (λ count. instructions-stand count)

pub image-stands : Stands image_at
unfolding image_at
image-stands bytes more =
    fixed-stands {A = Program} magic BadMagic bytes more (λ marked. version_at marked >>= λ versioned. monitors_at
    versioned.1 >>= λ monitors. number_at monitors.1 >>= λ start. code_at start.1 >>= λ code. Ok
    (record { version = versioned.0; monitors = monitors.0; start = start.0; code = code.0 }, code.1))
    (λ marked after. then-stands {B = Program} (version_at marked) (version_at (marked ++ after)) after
    (λ version left. monitors_at left >>= λ monitors. number_at monitors.1 >>= λ start. code_at start.1 >>= λ code. Ok
    (record { version = version; monitors = monitors.0; start = start.0; code = code.0 }, code.1))
    (version-stands marked after) behind-version)
  where
    behind-start : (version : ImageVersion) (monitors : List ℕ) (start : ℕ) → Stands {A = Program} (λ rest. code_at
        rest >>= λ code. Ok (record { version = version; monitors = monitors; start = start; code = code.0 }, code.1))
    behind-start version monitors start rest after = then-stands {B = Program} (code_at rest) (code_at
        (rest ++ after)) after (λ code left. Ok
        (record { version = version; monitors = monitors; start = start; code = code }, left)) (code-stands rest after)
        (λ code left behind. refl)

    behind-monitors : (version : ImageVersion) (monitors : List ℕ) → Stands {A = Program} (λ rest. number_at rest >>=
        λ start. code_at start.1 >>= λ code. Ok
        (record { version = version; monitors = monitors; start = start.0; code = code.0 }, code.1))
    behind-monitors version monitors rest after = then-stands {B = Program} (number_at rest) (number_at
        (rest ++ after)) after (λ start left. code_at left >>= λ code. Ok
        (record { version = version; monitors = monitors; start = start; code = code.0 }, code.1))
        (number-stands rest after) (behind-start version monitors)

    behind-version : (version : ImageVersion) → Stands {A = Program} (λ rest. monitors_at rest >>= λ monitors.
        number_at monitors.1 >>= λ start. code_at start.1 >>= λ code. Ok
        (record { version = version; monitors = monitors.0; start = start.0; code = code.0 }, code.1))
    behind-version version rest after = then-stands {B = Program} (monitors_at rest) (monitors_at (rest ++ after))
        after (λ monitors left. number_at left >>= λ start. code_at start.1 >>= λ code. Ok
        (record { version = version; monitors = monitors; start = start.0; code = code.0 }, code.1))
        (monitors-stand rest after) (behind-monitors version)
