use Rattle.std.proofs.Common.{refl, ap, sym, ◌∙◌, ◌<◌, arith, length, slice_get}
use Rattle.std.specs.Map.{values_of}
use Rattle.sorted_map.specs.Maps.{with_value_at}
use Rattle.sorted_map.proofs.Changing.{stays_ordered, value_written}
use Rattle.sorted_map.proofs.Finding.{value_at}
use Rattle.sorted_map.proofs.SortedMap.value_mut.Goals as goal

pub invariant_of-self-lent : goal.invariant_of-self-lent
invariant_of-self-lent g c w =
    rw (value_written w c.self.inside.entries.items c.args.place c.index_mut.result.now
    (omega (arith, c.requires, ap length c.self.view_is)) c.index_mut.ensures.value)
    (stays_ordered _ w c.self.inside.entries.items c.args.place c.self.invariant)

pub returns : goal.returns
returns g c =
    let within : c.args.place < length c.self.inside.entries.items = omega (arith, c.requires, ap length c.self.view_is) in (
      (
        refl,
        λ w. value_written w c.self.inside.entries.items c.args.place c.index_mut.result.now within c.index_mut.ensures.value
            ∙ ap (λ es. with_value_at es c.args.place w) c.self.view_is,
      ),
      record {
        writes_back = tt;
        value = ap (λ es. slice_get (values_of es) c.args.place) (sym c.self.view_is)
            ∙ value_at c.self.inside.entries.items c.args.place c.index_mut.result.now within c.index_mut.ensures.value;
      },
    )
