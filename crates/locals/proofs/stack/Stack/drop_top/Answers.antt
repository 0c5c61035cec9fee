use Rattle.std.proofs.Common.{◌≡◌, ◌≤◌, ◌∙◌, ◌-◌, ap, drop, take, length, reverse, arith}
use Rattle.std.proofs.lemmas.List.{length-reverse}
use Rattle.locals.proofs.Reverses.{reverse_take}
use Rattle.locals.proofs.stack.Stack.drop_top.Goals as goal

pub returns-clause-value : goal.returns-clause-value
returns-clause-value g c =
    let xs = c.self.inside.items.items in
    let fits : c.args.count ≤ length xs = omega (arith, length-reverse xs, c.requires, ap length c.self.view_is) in
    let cut : c.truncate.new.self.items ≡ take (length xs - c.args.count) xs = cc in
    ap reverse cut ∙ reverse_take c.args.count xs fits ∙ ap (drop c.args.count) c.self.view_is
