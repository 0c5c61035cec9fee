use Rattle.std.proofs.Common.{◌≡◌, ◌∙◌, ◌++◌, arith, sym, subst, ap, length, length-append, refl, rules, [], ◌∷◌, List, ℕ}
use Rattle.std.specs.List.{All}
use Rattle.machine.specs.ThreadSets.{IsMember, set_of}
use Rattle.machine.proofs.Sets.{threads_members}
use Rattle.log_text.specs.Cuts.{Rises}
use Rattle.log_text.specs.LogLines.{numbers_text}
use Rattle.log_text.proofs.Rising.{Ends, ReadsOn, ends_more, numbers_more, reads_all, reads_more, reads_none}
use Rattle.log_text.proofs.Rising.{reads_not, rises_more, rising_threads, shorter, some_threads}
use Rattle.log_text.proofs.sets.threads_of.Goals as goal

pub walk-init : goal.walk-init
walk-init c =
    let none = c.new-threads.ensures in
    record {
      rises = subst (Rises 0) (sym none) tt;
      ends = subst (λ (ts : List ℕ). Ends 0 ts 0) (sym none) refl;
      few = let l : length c.new-threads.result.items ≡ 0 = ap length none in omega (arith, l);
      last = omega arith;
      whole = ap (λ (ts : List ℕ). numbers_text ts ++ c.args.text.now) (sym none);
      on = subst (λ (ts : List ℕ). ReadsOn c.args.text.now ts 0 c.args.text.now) (sym none) (reads_none c.args.text.now);
    }

pub returns-then-not-rises-clause-reads : goal.returns-then-not-rises-clause-reads
returns-then-not-rises-clause-reads c = λ ts rest rises some none is.
    let v = c.walk.invariant in
    let e = c.in-Some.ensures in
    reads_not c.args.text.now c.walk.threads.items c.walk.rest.now c.in-Some.after.now c.walk.last c.in-Some.thread e.reads
    (search rules) e.read c.if-not-rises.ensures v.on ts rest rises none is

pub push-requires : goal.push-requires
push-requires c =
    let v = c.walk.invariant in
    let up = c.if-not-rises.ensures in
    omega (arith, v.few, up.0, up.1)

pub walk-preserved : goal.walk-preserved
walk-preserved c =
    let v = c.walk.invariant in
    let e = c.in-Some.ensures in
    let up = c.if-not-rises.ensures in
    let grows = c.push.ensures.items in
    record {
      rises = subst (Rises 0) (sym grows)
          (rises_more 0 c.walk.last c.in-Some.thread c.walk.threads.items v.rises v.ends up.0 up.1);
      ends = subst (λ (ts : List ℕ). Ends 0 ts c.in-Some.thread) (sym grows)
          (ends_more 0 c.in-Some.thread c.walk.threads.items);
      few = omega (arith, v.few, up.0, ap length grows, length-append c.walk.threads.items (c.in-Some.thread ∷ []));
      last = up.1;
      whole = numbers_more c.args.text.now c.walk.threads.items c.push.new.self.items c.walk.rest.now c.in-Some.after.now
          c.in-Some.thread v.whole e.read grows;
      on = subst (λ (ts : List ℕ). ReadsOn c.args.text.now ts c.in-Some.thread c.in-Some.after.now) (sym grows)
          (reads_more c.args.text.now c.walk.threads.items c.walk.rest.now c.in-Some.after.now c.walk.last c.in-Some.thread
          e.reads (search rules) e.read v.on);
    }

pub walk-smaller : goal.walk-smaller
walk-smaller c = shorter c.walk.rest.now c.in-Some.after.now c.in-Some.thread c.in-Some.ensures.read

pub returns-then-last-eq0-clause-reads : goal.returns-then-last-eq0-clause-reads
returns-then-last-eq0-clause-reads c = λ ts rest rises some none is.
    let v = c.walk.invariant in
    let all = reads_all c.args.text.now c.walk.threads.items c.walk.rest.now c.walk.last c.in_default.ensures.reads v.on ts
    rest rises none is in
    let read : length ts ≡ length c.walk.threads.items = ap length all.0 in
    absurd (omega (arith, read, some, v.few, c.if-last-eq0.true))

pub of-requires : goal.of-requires
of-requires c =
    subst (All IsMember) (sym c.as_slice.ensures.value)
    (threads_members c.walk.threads.items (rising_threads 0 c.walk.threads.items c.walk.invariant.rises))

pub returns-clause-read : goal.returns-clause-read
returns-clause-read c =
    let v = c.walk.invariant in
    record {
      threads = c.walk.threads.items;
      rises = v.rises;
      some = some_threads c.walk.threads.items c.walk.last v.ends c.if-last-eq0.false;
      made = c.of.ensures ∙ ap set_of c.as_slice.ensures.value;
      whole = v.whole;
    }

pub returns-clause-reads : goal.returns-clause-reads
returns-clause-reads c = λ ts rest rises some none is.
    let v = c.walk.invariant in
    let all = reads_all c.args.text.now c.walk.threads.items c.walk.rest.now c.walk.last c.in_default.ensures.reads v.on ts
    rest rises none is in
    (c.of.ensures ∙ ap set_of c.as_slice.ensures.value ∙ ap set_of (sym all.0), all.1)
