-- Those taken sleep nowhere, and come one by one to the end of the other list.
use Rattle.std.proofs.Common.{◌≤◌, length, get_or, refl, sym, ◌∙◌}
use Rattle.std.proofs.lemmas.Bool.{eq-eqb, ne_eqb, cond-true, cond-false}
use Rattle.std.proofs.lemmas.List.{append-nil, get_or_default}
use Rattle.buckets.proofs.Moves.{Moved-none, Moved-more, Moved-next, Moved-all}
use Rattle.buckets.proofs.buckets.Buckets.shift.Goals as goal

pub loop-t-init : goal.loop-t-init
loop-t-init c = Moved-none _ _ _ c.take.ensures.sound.1

pub enqueue-requires : goal.enqueue-requires
enqueue-requires c =
    let t = c.take.ensures in
    let n = Moved-next c.args.self.now c.take.new.self c.loop-t.self c.as_slice-t-items.result.now c.args.a.0
    c.args.b.0 c.args.n c.loop-t.t-index _ t.sound.0 (c.as_slice-t-items.ensures ∙ t.taken)
    (rw c.as_slice-t-items.ensures t.places) t.threads c.loop-t.invariant c.loop-t-test.true
    (get_or_default c.as_slice-t-items.result.now c.loop-t.t-index 0 _ c.loop-t-test.true) in
    record { in_range = n.0; awake = n.1 }

pub loop-t-preserved : goal.loop-t-preserved
loop-t-preserved c =
    let e = c.enqueue.ensures in
    Moved-more c.take.new.self c.loop-t.self c.enqueue.new.self c.as_slice-t-items.result.now c.args.b.0
    c.loop-t.t-index (get_or c.as_slice-t-items.result.now c.loop-t.t-index 0) c.loop-t.invariant
    c.loop-t-test.true (get_or_default c.as_slice-t-items.result.now c.loop-t.t-index 0 _ c.loop-t-test.true)
    e.last e.others e.places e.holders e.threads e.sound.1

pub returns : goal.returns
returns c =
    let t = c.take.ensures in
    let m = rw c.as_slice-t-items.ensures at c.loop-t.invariant in
    let l : length c.take.new.taken ≤ c.loop-t.t-index = rw c.as_slice-t-items.ensures at c.loop-t-test.false in
    let w = Moved-all c.args.self.now c.take.new.self c.loop-t.self c.take.new.taken c.args.a.0 c.args.b.0
    c.args.n c.loop-t.t-index c.if-a-b.false (record {
      taken = t.taken;
      rest = t.rest;
      others = t.others;
      places = t.places;
      holders = t.holders;
      threads = t.threads;
      sound = t.sound;
    }) m l in
    record {
      moved = t.taken ∙ sym (cond-false _ _ _ (ne_eqb c.args.a.0 c.args.b.0 c.if-a-b.false));
      rest = w.rest;
      last = w.last;
      others = w.others;
      places = w.places;
      same = λ e. absurd (c.if-a-b.false e);
      holders = w.holders;
      threads = w.threads;
      sound = (t.sound.0, c.loop-t.invariant.sound);
    }

pub returns-then-a-b : goal.returns-then-a-b
returns-then-a-b c =
    rw c.nobody.ensures.none (record {
      moved = sym (cond-true _ _ _ (eq-eqb c.args.a.0 c.args.b.0 c.if-a-b.true));
      rest = refl;
      last = sym (append-nil _);
      others = λ d na nb. refl;
      places = refl;
      same = λ e. refl;
      holders = refl;
      threads = refl;
      sound = (c.nobody.ensures.sound, c.nobody.ensures.sound);
    })
