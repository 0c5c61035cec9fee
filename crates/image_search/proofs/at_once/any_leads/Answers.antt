use Rattle.image_search.proofs.Flagging.{still_none, still_twice}
use Rattle.image_search.proofs.at_once.any_leads.Goals as goal

pub loop-k-init : goal.loop-k-init
loop-k-init c = record { sound = c.requires.sound; still = still_none c.args.kept.now }

pub thread_leads-requires : goal.thread_leads-requires
thread_leads-requires c = record { sound = c.loop-k.invariant.sound }

pub returns-then-branch-clause-still : goal.returns-then-branch-clause-still
returns-then-branch-clause-still c = still_twice c.args.kept.now c.loop-k.kept c.thread_leads.new.kept
    c.loop-k.invariant.still c.in_ok-thread_leads.ensures.still

pub loop-k-preserved : goal.loop-k-preserved
loop-k-preserved c = record {
  sound = c.in_ok-thread_leads.ensures.sound;
  still = still_twice c.args.kept.now c.loop-k.kept c.thread_leads.new.kept c.loop-k.invariant.still
      c.in_ok-thread_leads.ensures.still;
}

pub returns-clause-sound : goal.returns-clause-sound
returns-clause-sound c = c.loop-k.invariant.sound

pub returns-clause-still : goal.returns-clause-still
returns-clause-still c = c.loop-k.invariant.still
