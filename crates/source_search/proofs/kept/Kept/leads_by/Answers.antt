use Rattle.program.specs.Views.{program_of}
use Rattle.source_search.specs.Kept.{states_of}
use Rattle.source_search.proofs.Lively.{comes_still, items_same, items_twice, sound_same, states_same}
use Rattle.source_search.proofs.Packing.{grown_twice}
use Rattle.source_search.proofs.kept.Kept.leads_by.Goals as goal

pub is_led-requires : goal.is_led-requires
is_led-requires c = record {
  sound = sound_same c.args.self.now.parts c.way_by.new.self.parts c.in_ok-way_by.ensures.grown
      c.args.self.now.states.items c.way_by.new.self.states.items
      (items_same c.args.self.now c.way_by.new.self c.in_ok-way_by.ensures.states) c.requires.sound;
}

pub returns-in-None-clause-sound : goal.returns-in-None-clause-sound
returns-in-None-clause-sound c =
    sound_same c.args.self.now.parts c.way_by.new.self.parts c.in_ok-way_by.ensures.grown c.args.self.now.states.items
    c.way_by.new.self.states.items (items_same c.args.self.now c.way_by.new.self c.in_ok-way_by.ensures.states)
    c.requires.sound

pub returns-in-None-clause-same : goal.returns-in-None-clause-same
returns-in-None-clause-same c =
    states_same c.args.self.now.parts c.way_by.new.self.parts c.in_ok-way_by.ensures.grown c.args.self.now.states.items
    c.way_by.new.self.states.items (items_same c.args.self.now c.way_by.new.self c.in_ok-way_by.ensures.states)
    c.requires.sound

pub returns-in_ok-led-in-Some-clause-sound : goal.returns-in_ok-led-in-Some-clause-sound
returns-in_ok-led-in-Some-clause-sound c =
    sound_same c.args.self.now.parts c.is_led.new.self.parts
    (grown_twice c.args.self.now.parts c.way_by.new.self.parts c.is_led.new.self.parts c.in_ok-way_by.ensures.grown
    c.in_ok-led-in-Some.ensures.grown) c.args.self.now.states.items c.is_led.new.self.states.items
    (items_twice c.args.self.now c.way_by.new.self c.is_led.new.self c.in_ok-way_by.ensures.states
    c.in_ok-led-in-Some.ensures.states) c.requires.sound

pub returns-in_ok-led-in-Some-clause-grown : goal.returns-in_ok-led-in-Some-clause-grown
returns-in_ok-led-in-Some-clause-grown c =
    grown_twice c.args.self.now.parts c.way_by.new.self.parts c.is_led.new.self.parts c.in_ok-way_by.ensures.grown
    c.in_ok-led-in-Some.ensures.grown

pub returns-in_ok-led-in-Some-clause-same : goal.returns-in_ok-led-in-Some-clause-same
returns-in_ok-led-in-Some-clause-same c =
    states_same c.args.self.now.parts c.is_led.new.self.parts
    (grown_twice c.args.self.now.parts c.way_by.new.self.parts c.is_led.new.self.parts c.in_ok-way_by.ensures.grown
    c.in_ok-led-in-Some.ensures.grown) c.args.self.now.states.items c.is_led.new.self.states.items
    (items_twice c.args.self.now c.way_by.new.self c.is_led.new.self c.in_ok-way_by.ensures.states
    c.in_ok-led-in-Some.ensures.states) c.requires.sound

pub returns-in_ok-led-in-Some-clause-comes : goal.returns-in_ok-led-in-Some-clause-comes
returns-in_ok-led-in-Some-clause-comes c = λ e.
    comes_still (program_of c.args.checked.now.tree) c.args.self.now.parts c.way_by.new.self.parts
    c.in_ok-way_by.ensures.grown c.args.packed.now c.requires.within (states_of c.args.self.now)
    (states_of c.way_by.new.self)
    (states_same c.args.self.now.parts c.way_by.new.self.parts c.in_ok-way_by.ensures.grown
    c.args.self.now.states.items c.way_by.new.self.states.items
    (items_same c.args.self.now c.way_by.new.self c.in_ok-way_by.ensures.states) c.requires.sound)
    (c.in_ok-led-in-Some.ensures.comes e)
