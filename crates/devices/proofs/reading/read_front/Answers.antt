use Rattle.std.proofs.Common.{◌≡◌, ◌≤◌, inl, inr, length, arith, rules}
use Rattle.devices.proofs.Counts.{calls_after, risen_since}
use Rattle.devices.proofs.Fronts.{consumed_kept, consumed_none, front_read, piece_read}
use Rattle.devices.proofs.reading.read_front.Goals.{in-Ok+in_ok-extend_from_slice-in-Ok, in-Err+else-ne}
use Rattle.devices.proofs.reading.read_front.Goals as goal

pub returns-then-most-eq0 : goal.returns-then-most-eq0
returns-then-most-eq0 g c =
    let few = c.loop.invariant.few in
    let many : length c.loop.bytes.items ≡ c.args.wanted = omega (arith, few, c.if-most-eq0.true, c.min-most.ensures, c.len.ensures) in
    front_read _ _ _ _ c.loop.invariant.read few (inr many)

pub returns-in-Ok-eq0 : goal.returns-in-Ok-eq0
returns-in-Ok-eq0 g c =
    let told = c.in-Ok-eq0.ensures in
    let none = c.in-Ok-eq0.field-0-test in
    let room : 1 ≤ length c.read.new.buf = search rules in
    front_read _ _ c.loop.bytes.items _ (consumed_none _ _ _ _ c.read.new.buf _ none c.loop.invariant.read told.bytes.0)
    c.loop.invariant.few (inl (told.bytes.1 none room))

pub loop-preserved : goal.loop-preserved
loop-preserved g c =
    let before = c.loop.invariant in
    elim c.match-read.branch [
      | in-Ok+in_ok-extend_from_slice-in-Ok w ↦
          let told = w.in-Ok.ensures in
          let n = w.in-Ok.count in
          let grown = piece_read _ _ _ c.loop.bytes.items c.read.new.buf _ w.extend_from_slice.new.self.items n before.read
          told.bound.0 told.bytes.0 w.in_ok-extend_from_slice-in-Ok.ensures.items in
          let long = grown.1 in
          let fits : n ≤ c.min-most.result = search rules in
          let some : 1 ≤ n = omega (arith, w.in-Ok.count-test) in
          let counted = told.counted in
          record {
            read = rw w.bytes-is grown.0;
            few = rw w.bytes-is (omega (arith, long, fits, c.min-most.ensures, c.len.ensures, before.few));
            counted = rw counted before.counted;
            calls = rw w.bytes-is (calls_after _ _ _ _ _ _ n counted long some before.calls);
          }
      | in-Err+else-ne w ↦ record {
        read = rw w.bytes-is (consumed_kept _ _ _ c.loop.bytes.items before.read w.in-Err.ensures.bytes);
        few = rw w.bytes-is before.few;
        counted = (risen_since _ _ _ before.counted w.in-Err.ensures.counted).from;
        calls = inl (risen_since _ _ _ before.counted w.in-Err.ensures.counted);
      }
    ]
