use Rattle.std.proofs.Common.{arith, below_more, suc}
use Rattle.image_search.specs.Living.{AllWakened}
use Rattle.image_search.proofs.Flagging.{still_none, still_twice, wakened_still}
use Rattle.image_search.proofs.living.all_live_for.Goals as goal

pub loop-k-init : goal.loop-k-init
loop-k-init c = record {
  sound = c.requires.sound;
  still = still_none c.args.kept.now;
  wakened = λ j less. absurd (omega (arith, less));
}

pub all_live-requires : goal.all_live-requires
all_live-requires c = record { sound = c.loop-k.invariant.sound }

pub returns-then-not-branch-clause-still : goal.returns-then-not-branch-clause-still
returns-then-not-branch-clause-still c =
    still_twice c.args.kept.now c.loop-k.kept c.all_live.new.kept c.loop-k.invariant.still c.in_ok-all_live.ensures.still

pub loop-k-preserved : goal.loop-k-preserved
loop-k-preserved c =
    let p = c.args.image.now in
    let kept = c.all_live.new.kept in
    record {
      sound = c.in_ok-all_live.ensures.sound;
      still = still_twice c.args.kept.now c.loop-k.kept kept c.loop-k.invariant.still c.in_ok-all_live.ensures.still;
      wakened = below_more (λ j. AllWakened p (suc j) kept) c.loop-k.k
          (λ j less. wakened_still p c.loop-k.kept kept (suc j) c.loop-k.invariant.sound
          c.in_ok-all_live.ensures.still (c.loop-k.invariant.wakened j less))
          (c.in_ok-all_live.ensures.wakened c.if-not-branch.false);
    }

pub returns-clause-sound : goal.returns-clause-sound
returns-clause-sound c = c.loop-k.invariant.sound

pub returns-clause-still : goal.returns-clause-still
returns-clause-still c = c.loop-k.invariant.still

pub returns-clause-wakened : goal.returns-clause-wakened
returns-clause-wakened c = λ e k less. c.loop-k.invariant.wakened k (omega (arith, less, c.loop-k-test.false))
