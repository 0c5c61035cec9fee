-- Between two threads of the set there is no other.
use Rattle.std.proofs.Common.{string_bytes, arith}
use Rattle.log_text.proofs.Lines.{Listed-all, Listed-end, Listed-more, Listed-past}
use Rattle.log_text.proofs.writing.append_members.Goals as goal

pub loop-before-preserved : goal.loop-before-preserved
loop-before-preserved c =
    Listed-more (string_bytes c.args.text.now) c.args.word.now (string_bytes c.loop-before.text)
    (string_bytes c.append_member.new.text) c.args.set.now c.loop-before.from c.loop-before.before c.in-Some.thread
    c.loop-before.invariant c.in-Some.ensures (omega (arith, c.if-thread-gt-MOST_THREADS.false))
    c.in_ok-append_member.ensures

pub returns : goal.returns
returns c =
    Listed-all (string_bytes c.args.text.now) c.args.word.now (string_bytes c.loop-before.text) c.args.set.now
    c.loop-before.from c.loop-before.before c.loop-before.invariant (omega (arith, c.loop-before-test.false))

pub returns-in_default : goal.returns-in_default
returns-in_default c =
    Listed-end (string_bytes c.args.text.now) c.args.word.now (string_bytes c.loop-before.text) c.args.set.now
    c.loop-before.from c.loop-before.before c.loop-before.invariant c.in_default.ensures

pub returns-then-thread-gt-MOST_THREADS : goal.returns-then-thread-gt-MOST_THREADS
returns-then-thread-gt-MOST_THREADS c =
    Listed-past (string_bytes c.args.text.now) c.args.word.now (string_bytes c.loop-before.text) c.args.set.now
    c.loop-before.from c.loop-before.before c.in-Some.thread c.loop-before.invariant c.in-Some.ensures
    (omega (arith, c.if-thread-gt-MOST_THREADS.true))
