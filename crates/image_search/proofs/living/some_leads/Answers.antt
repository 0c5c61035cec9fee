use Rattle.image_search.proofs.Flagging.{still_none, still_twice}
use Rattle.image_search.proofs.living.some_leads.Goals as goal

pub loop-number-init : goal.loop-number-init
loop-number-init c = record { sound = c.requires.sound; still = still_none c.args.kept.now }

pub leads_by-requires : goal.leads_by-requires
leads_by-requires c = record { sound = c.loop-number.invariant.sound }

pub returns-then-branch-clause-still : goal.returns-then-branch-clause-still
returns-then-branch-clause-still c = still_twice c.args.kept.now c.loop-number.kept c.leads_by.new.kept
    c.loop-number.invariant.still c.in_ok-leads_by.ensures.still

pub loop-number-preserved : goal.loop-number-preserved
loop-number-preserved c = record {
  sound = c.in_ok-leads_by.ensures.sound;
  still = still_twice c.args.kept.now c.loop-number.kept c.leads_by.new.kept c.loop-number.invariant.still
      c.in_ok-leads_by.ensures.still;
}

pub returns-clause-sound : goal.returns-clause-sound
returns-clause-sound c = c.loop-number.invariant.sound

pub returns-clause-still : goal.returns-clause-still
returns-clause-still c = c.loop-number.invariant.still
