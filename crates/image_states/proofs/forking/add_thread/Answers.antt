use Rattle.std.proofs.Common.{◌≡◌, ◌++◌, ◌∷◌, ◌∙◌, [], ap, length, refl}
use Rattle.std.proofs.Common.{rules}
use Rattle.image_states.specs.Packed.{asleep_at}
use Rattle.image_states.proofs.Sleeping.{asleep_more, length_more}
use Rattle.image_states.proofs.forking.add_thread.Goals as goal

pub returns : goal.returns
returns c =
    let e : c.push-2.new.self.items ≡ c.args.state.now.places.items ++ 0 ∷ [] = search rules in
    record {
      memory = refl;
      killed = refl;
      parts = search rules;
      places = ap asleep_at e ∙ asleep_more c.args.state.now.places.items;
      count = ap length e ∙ length_more c.args.state.now.places.items 0;
    }
