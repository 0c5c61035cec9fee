use Rattle.std.proofs.Common.{◌∙◌, ◌<◌, ◌≤◌, ap, arith, length, refl}
use Rattle.std.proofs.lemmas.List.{length-map}
use Rattle.program.specs.Views.{program_of}
use Rattle.source_search.specs.Kept.{states_of}
use Rattle.source_search.specs.Packed.{unpacked}
use Rattle.source_search.proofs.Remembered.{nothing_known}
use Rattle.source_search.proofs.Searched.{all_expanded, at_first, goes_on, none_aborted, none_stuck}
use Rattle.source_search.proofs.search.search.Goals as goal

pub loop-place-init : goal.loop-place-init
loop-place-init g c = record {
  sound = c.requires.sound;
  so_far = at_first (program_of c.args.checked.now.tree) c.args.outside (states_of c.args.kept.now);
  goes_on = refl;
  known = λ none. nothing_known (program_of c.args.checked.now.tree) c.args.kept.now.parts c.new-memo.result
      c.new-memo.ensures;
}

pub loop-place-preserved : goal.loop-place-preserved
loop-place-preserved g c = record {
  sound = c.in_ok-look_at.ensures.sound;
  so_far = goes_on (program_of c.args.checked.now.tree) c.args.outside (states_of c.args.kept.now)
      (states_of c.loop-place.kept) (states_of c.look_at.new.kept) c.loop-place.place c.loop-place.findings
      c.look_at.new.self c.loop-place.invariant.so_far c.in_ok-look_at.ensures.longer
      (c.in_ok-look_at.ensures.looked c.if-not-branch.false);
  goes_on = c.in_ok-look_at.ensures.complete ∙ c.loop-place.invariant.goes_on;
  known = c.in_ok-look_at.ensures.known;
}

pub returns-then-place-known-clause-expanded : goal.returns-then-place-known-clause-expanded
returns-then-place-known-clause-expanded g c = λ e.
    let end : length (states_of c.loop-place.kept) ≤ c.loop-place.place =
    omega (
      arith,
      ap length c.as_slice-known.ensures.value,
      length-map c.loop-place.kept.states.items (unpacked c.loop-place.kept.parts),
    ) in
    all_expanded (program_of c.args.checked.now.tree) c.args.outside (states_of c.args.kept.now)
    (states_of c.loop-place.kept) c.loop-place.place c.loop-place.findings.stuck
    c.loop-place.findings.aborted c.loop-place.invariant.so_far end

pub returns-then-place-known-clause-stuck : goal.returns-then-place-known-clause-stuck
returns-then-place-known-clause-stuck g c = λ e.
    let end : length (states_of c.loop-place.kept) ≤ c.loop-place.place =
    omega (
      arith,
      ap length c.as_slice-known.ensures.value,
      length-map c.loop-place.kept.states.items (unpacked c.loop-place.kept.parts),
    ) in
    none_stuck (program_of c.args.checked.now.tree) c.args.outside (states_of c.args.kept.now)
    (states_of c.loop-place.kept) c.loop-place.place c.loop-place.findings.stuck
    c.loop-place.findings.aborted c.loop-place.invariant.so_far end

pub returns-then-place-known-clause-aborted : goal.returns-then-place-known-clause-aborted
returns-then-place-known-clause-aborted g c = λ e.
    let end : length (states_of c.loop-place.kept) ≤ c.loop-place.place =
    omega (
      arith,
      ap length c.as_slice-known.ensures.value,
      length-map c.loop-place.kept.states.items (unpacked c.loop-place.kept.parts),
    ) in
    none_aborted (program_of c.args.checked.now.tree) c.args.outside (states_of c.args.kept.now)
    (states_of c.loop-place.kept) c.loop-place.place c.loop-place.findings.stuck
    c.loop-place.findings.aborted c.loop-place.invariant.so_far end

pub returns-clause-expanded : goal.returns-clause-expanded
returns-clause-expanded g c = λ e.
    let few : length c.as_slice-all.result.now ≤ c.args.most = grind (arith, c.are_all_looked_at.ensures.all e) in
    let end : length (states_of c.loop-place.kept) ≤ c.loop-place.place =
    omega (
      arith,
      few,
      c.loop-place-test.false,
      ap length c.as_slice-all.ensures.value,
      length-map c.loop-place.kept.states.items (unpacked c.loop-place.kept.parts),
    ) in
    all_expanded (program_of c.args.checked.now.tree) c.args.outside (states_of c.args.kept.now)
    (states_of c.loop-place.kept) c.loop-place.place c.loop-place.findings.stuck
    c.loop-place.findings.aborted c.loop-place.invariant.so_far end

pub returns-clause-stuck : goal.returns-clause-stuck
returns-clause-stuck g c = λ e.
    let few : length c.as_slice-all.result.now ≤ c.args.most = grind (arith, c.are_all_looked_at.ensures.all e) in
    let end : length (states_of c.loop-place.kept) ≤ c.loop-place.place =
    omega (
      arith,
      few,
      c.loop-place-test.false,
      ap length c.as_slice-all.ensures.value,
      length-map c.loop-place.kept.states.items (unpacked c.loop-place.kept.parts),
    ) in
    none_stuck (program_of c.args.checked.now.tree) c.args.outside (states_of c.args.kept.now)
    (states_of c.loop-place.kept) c.loop-place.place c.loop-place.findings.stuck
    c.loop-place.findings.aborted c.loop-place.invariant.so_far end

pub returns-clause-aborted : goal.returns-clause-aborted
returns-clause-aborted g c = λ e.
    let few : length c.as_slice-all.result.now ≤ c.args.most = grind (arith, c.are_all_looked_at.ensures.all e) in
    let end : length (states_of c.loop-place.kept) ≤ c.loop-place.place =
    omega (
      arith,
      few,
      c.loop-place-test.false,
      ap length c.as_slice-all.ensures.value,
      length-map c.loop-place.kept.states.items (unpacked c.loop-place.kept.parts),
    ) in
    none_aborted (program_of c.args.checked.now.tree) c.args.outside (states_of c.args.kept.now)
    (states_of c.loop-place.kept) c.loop-place.place c.loop-place.findings.stuck
    c.loop-place.findings.aborted c.loop-place.invariant.so_far end

pub returns-clause-bound : goal.returns-clause-bound
returns-clause-bound g c = λ e.
    let many : c.args.most < length c.as_slice-all.result.now = grind (arith, c.are_all_looked_at.ensures.some e) in
    let met : c.args.most ≤ length (states_of c.loop-place.kept) =
    omega (
      arith,
      many,
      ap length c.as_slice-all.ensures.value,
      length-map c.loop-place.kept.states.items (unpacked c.loop-place.kept.parts),
    ) in
    met
