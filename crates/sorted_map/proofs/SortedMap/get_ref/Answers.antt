use Rattle.std.proofs.Common.{◌∙◌, sym, rules}
use Rattle.std.proofs.lemmas.Map.{lookup-none}
use Rattle.sorted_map.proofs.Finding.{found_value, found_within, none_in_gap, value_at}
use Rattle.sorted_map.proofs.SortedMap.get_ref.Goals as goal

pub index-requires : goal.index-requires
index-requires g c =
    let within = found_within g.met.K.Ord.total c.args.key c.self.inside.entries.items c.in-Ok.place (rw c.self.view_is c.in-Ok.ensures.place) in
    search rules

pub returns-in-Ok : goal.returns-in-Ok
returns-in-Ok g c =
    sym (found_value g.met.K.Ord.total c.args.key c.args.self.now c.in-Ok.place c.in-Ok.ensures.place
    ∙ value_at c.args.self.now c.in-Ok.place c.index.result.now
    (found_within g.met.K.Ord.total c.args.key c.args.self.now c.in-Ok.place c.in-Ok.ensures.place)
    (rw c.self.view_is at c.index.ensures))

pub returns-in-Err : goal.returns-in-Err
returns-in-Err g c =
    sym (lookup-none _ c.args.self.now
    (none_in_gap g.met.K.Ord.total c.args.key c.args.self.now c.in-Err.field-0 c.find.ensures.ordered c.in-Err.ensures.place))
