use Rattle.program.specs.Names.{naming_of}
use Rattle.std.proofs.Common.{◌++◌}
use Rattle.actionlines.specs.Lines.{condition_name}
use Rattle.action_text.specs.ActionText.{numbers_text}
use Rattle.action_text.proofs.Members.{conditions_behind}
use Rattle.action_text.proofs.kinds.condition_after.Goals as goal

pub returns-in-Some : goal.returns-in-Some
returns-in-Some c =
    conditions_behind (naming_of c.args.names.now) c.args.word.now c.args.text.now c.in-Some.behind.now c.args.alone
    c.in-Some.ensures c.condition_named.result (λ n. n.condition) (λ n. n.resumed.items) c.condition_named.ensures

pub returns-in-None : goal.returns-in-None
returns-in-None c = λ k ns h.
    c.in-None.ensures (condition_name (naming_of c.args.names.now) k ++ numbers_text ns) h.3
