use Rattle.std.proofs.Common.{arith, below_more, suc}
use Rattle.image_search.specs.Living.{HoldsAt, OwnLeads}
use Rattle.image_search.proofs.Flagging.{leads_still, still_none, still_twice}
use Rattle.image_search.proofs.closing.all_flagged.Goals as goal

pub loop-u-init : goal.loop-u-init
loop-u-init c = record {
  sound = c.requires.sound;
  still = still_none c.args.kept.now;
  leads = λ j less. absurd (omega (arith, less));
}

pub own_flagged-requires : goal.own_flagged-requires
own_flagged-requires c = record { sound = c.loop-u.invariant.sound }

pub returns-then-not-branch-clause-still : goal.returns-then-not-branch-clause-still
returns-then-not-branch-clause-still c = still_twice c.args.kept.now c.loop-u.kept c.own_flagged.new.kept
    c.loop-u.invariant.still c.in_ok-own_flagged.ensures.still

pub loop-u-preserved : goal.loop-u-preserved
loop-u-preserved c =
    let p = c.args.image.now in
    let kept = c.own_flagged.new.kept in
    record {
      sound = c.in_ok-own_flagged.ensures.sound;
      still = still_twice c.args.kept.now c.loop-u.kept kept c.loop-u.invariant.still c.in_ok-own_flagged.ensures.still;
      leads = below_more (λ j. HoldsAt p kept c.args.place (OwnLeads p kept c.args.flags.now (suc j))) c.loop-u.u
          (λ j less. leads_still p c.loop-u.kept kept c.args.flags.now c.args.place (suc j) c.loop-u.invariant.sound
          c.in_ok-own_flagged.ensures.still (c.loop-u.invariant.leads j less))
          (c.in_ok-own_flagged.ensures.leads c.if-not-branch.false);
    }

pub returns-clause-sound : goal.returns-clause-sound
returns-clause-sound c = c.loop-u.invariant.sound

pub returns-clause-still : goal.returns-clause-still
returns-clause-still c = c.loop-u.invariant.still

pub returns-clause-leads : goal.returns-clause-leads
returns-clause-leads c = λ e u less. c.loop-u.invariant.leads u (omega (arith, less, c.loop-u-test.false))
