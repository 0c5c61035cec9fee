use Rattle.std.proofs.Common.{◌≡◌, ◌++◌, ◌∷◌, [], Contains, rules, subst, sym}
use Rattle.std.proofs.lemmas.List.Elements.{Contains-push}
use Rattle.image_states.specs.declared.next.Next.{Next as NextOf}
use Rattle.image_states.proofs.next.push_next.Goals as goal

pub returns-clause-there : goal.returns-clause-there
returns-clause-there c =
    let next : NextOf = record { state = c.args.state; thread = c.args.thread; doing = c.args.doing } in
    let e : c.push.new.self.items ≡ c.args.found.now.items ++ next ∷ [] = search rules in
    subst (λ l. Contains l next) (sym e) (Contains-push c.args.found.now.items next)
