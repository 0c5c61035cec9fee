use Rattle.std.proofs.Common.{◌≡◌, ◌≤◌, ◌+◌, ◌*◌, Ok, get_or, ap, ◌∙◌, arith}
use Rattle.isa.proofs.NumberLoop.{goes_on, is_last, is_long, is_past, is_short, rest_of}
use Rattle.isa.proofs.reading.number.Goals as goal
use Rattle.isa.proofs.reading.number.Goals.{else-place-eq4-via-then-place-eq4+else-byte-gt15}
use Rattle.isa.proofs.reading.number.Goals.{else-place-eq4-via-else-place-eq4}
use Rattle.isa.proofs.reading.number.Goals.{else-byte-eq0-via-then-byte-eq0+else-place-gt0}
use Rattle.isa.proofs.reading.number.Goals.{else-byte-eq0-via-else-byte-eq0}

pub returns-then-byte-gt15 : goal.returns-then-byte-gt15
returns-then-byte-gt15 c = λ _. is_past c.args.bytes.now c.loop-place.place c.loop-place.value c.loop-place.weight
    c.loop-place.invariant c.loop-place-test.true c.if-place-eq4.true c.if-byte-gt15.true

pub returns-then-place-gt0 : goal.returns-then-place-gt0
returns-then-place-gt0 c = λ _. is_long c.args.bytes.now c.loop-place.place c.loop-place.value c.loop-place.weight
    c.loop-place.invariant c.loop-place-test.true c.if-byte-eq0.true c.if-place-gt0.true

pub returns-then-byte-lt128 : goal.returns-then-byte-lt128
returns-then-byte-lt128 c =
    let last : c.loop-place.place ≡ 4 → get_or c.args.bytes.now c.loop-place.place 0 ≤ 15 = λ e. elim
    c.else-place-eq4.branch [
      | else-place-eq4-via-then-place-eq4+else-byte-gt15 w ↦ omega arith
      | else-place-eq4-via-else-place-eq4 w ↦ omega arith
    ] in
    let some : get_or c.args.bytes.now c.loop-place.place 0 ≡ 0 → c.loop-place.place ≡ 0 = λ e. elim
    c.else-byte-eq0.branch [
      | else-byte-eq0-via-then-byte-eq0+else-place-gt0 w ↦ omega arith
      | else-byte-eq0-via-else-byte-eq0 w ↦ omega arith
    ] in
    is_last c.args.bytes.now c.loop-place.place c.loop-place.value c.loop-place.weight c.from.result
    c.loop-place.invariant c.loop-place-test.true last c.if-byte-lt128.true some c.from.ensures
    ∙ ap (λ rest. Ok (c.loop-place.value + c.from.result * c.loop-place.weight, rest)) (rest_of c.args.bytes.now
    (c.loop-place.place + 1))

pub loop-place-preserved : goal.loop-place-preserved
loop-place-preserved c =
    let last : c.loop-place.place ≡ 4 → get_or c.args.bytes.now c.loop-place.place 0 ≤ 15 = λ e. elim
    c.else-place-eq4.branch [
      | else-place-eq4-via-then-place-eq4+else-byte-gt15 w ↦ omega arith
      | else-place-eq4-via-else-place-eq4 w ↦ omega arith
    ] in
    goes_on c.args.bytes.now c.loop-place.place c.loop-place.value c.loop-place.weight c.from.result
    c.loop-place.invariant c.loop-place-test.true last c.if-byte-lt128.false
    (omega (arith, c.type_inv.bytes c.loop-place.place)) c.from.ensures

pub returns : goal.returns
returns c = λ _. is_short c.args.bytes.now c.loop-place.place c.loop-place.value c.loop-place.weight
    c.loop-place.invariant c.loop-place-test.false
