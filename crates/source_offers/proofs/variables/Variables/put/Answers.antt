use Rattle.std.proofs.Common.{◌≡◌, None, Some, pos, rules, subst, sym}
use Rattle.meaning.specs.Values.{with_variable}
use Rattle.source_offers.specs.Stores.{variables_in}
use Rattle.source_offers.proofs.variables.Variables.put.Goals as goal
use Rattle.source_offers.proofs.Stores.{put_variable}

pub returns-then-value-eq0-clause-ok : goal.returns-then-value-eq0-clause-ok
returns-then-value-eq0-clause-ok c =
    let place = c.args.place in
    subst (λ z. variables_in c.remove.new.self
    ≡ with_variable (variables_in c.args.self.now.values) place.monitor place.member place.index z)
    (let zero : c.args.value ≡ pos 0 = search rules in sym zero)
    (put_variable c.args.self.now.values c.remove.new.self place None c.remove.ensures)

pub returns-clause-ok : goal.returns-clause-ok
returns-clause-ok c =
    search (rules, put_variable c.args.self.now.values c.insert.new.self c.args.place (Some c.args.value))
