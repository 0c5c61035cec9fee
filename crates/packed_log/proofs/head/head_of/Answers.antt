use Rattle.std.proofs.Common.{option_copied, rules}
use Rattle.packed_log.proofs.Fields.{step_head}
use Rattle.packed_log.proofs.head.head_of.Goals as goal

pub returns-in-Some : goal.returns-in-Some
returns-in-Some c =
    step_head (record { thread = c.args.thread; local = c.args.local; event = option_copied c.args.event })
    c.in-Some.event.now _ _ c.number_of.result _ _ _
    (record {
      step = search rules;
      fits = c.requires;
      kind = c.number_of.ensures.name;
      small = c.number_of.ensures.small;
      value = search rules;
      woken = c.form_of.ensures.whole;
      moved = c.form_of-in-Some.ensures.whole;
    })
    c.from.ensures c.from-2.ensures c.form_of.ensures.form c.form_of-in-Some.ensures.form c.from-in-Some.ensures
