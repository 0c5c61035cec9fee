use Rattle.std.proofs.Common.{◌≢◌, ℕ, arith}
use Rattle.std.proofs.lemmas.List.{length-map}
use Rattle.program.specs.Names.{monitor_naming_of, naming_of}
use Rattle.actionlines.specs.Lines.{monitor_name}
use Rattle.action_text.proofs.Called.{found_at, up_to}
use Rattle.action_text.proofs.monitors.monitor_named.Goals as goal

pub loop-place-preserved : goal.loop-place-preserved
loop-place-preserved c =
    up_to (λ (m : ℕ). c.args.name.now ≢ monitor_name (naming_of c.args.names.now) m) c.loop-place.place
    c.loop-place.invariant c.if-is_named.ensures

pub returns-then-is_named : goal.returns-then-is_named
returns-then-is_named c =
    found_at (naming_of c.args.names.now) c.args.name.now c.monitor_at.result c.loop-place.place c.monitor_at.ensures
    (omega (arith, c.loop-place-test.true, length-map c.args.names.now.monitors.items monitor_naming_of))
    c.if-is_named.ensures c.loop-place.invariant

pub returns : goal.returns
returns c = λ m has same.
    let below = has.0 in
    c.loop-place.invariant m
    (omega (arith, below, c.loop-place-test.false, length-map c.args.names.now.monitors.items monitor_naming_of)) same
