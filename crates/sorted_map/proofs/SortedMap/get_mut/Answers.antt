use Rattle.std.proofs.Common.{refl, ap, sym, ◌∙◌, is_some}
use Rattle.std.proofs.lemmas.Map.{lookup-none}
use Rattle.sorted_map.proofs.Changing.{value_updates}
use Rattle.sorted_map.proofs.Finding.{found_value, found_within, none_in_gap}
use Rattle.sorted_map.proofs.SortedMap.get_mut.Goals as goal

pub value_mut-requires : goal.value_mut-requires
value_mut-requires g c =
    found_within g.met.K.Ord.total c.args.key c.args.self.now c.in-Ok.place c.in-Ok.ensures.place

pub returns-in-Ok : goal.returns-in-Ok
returns-in-Ok g c = (
  (
    refl,
    λ w some. value_updates g.met.K.Ord.total c.args.key w c.args.self.now c.in-Ok.place c.in-Ok.ensures.place,
    refl,
  ),
  record {
    writes_back = tt;
    value = sym (found_value g.met.K.Ord.total c.args.key c.args.self.now c.in-Ok.place c.in-Ok.ensures.place
        ∙ c.value_mut.ensures.value);
  },
)

pub returns-in-Err : goal.returns-in-Err
returns-in-Err g c =
    let none = lookup-none _ c.args.self.now (none_in_gap g.met.K.Ord.total c.args.key c.args.self.now c.in-Err.field-0
    c.find.ensures.ordered c.in-Err.ensures.place) in (
      (refl, λ w some. absurd (let s = sym some ∙ ap is_some none in cc), refl),
      record { writes_back = tt; value = sym none },
    )
