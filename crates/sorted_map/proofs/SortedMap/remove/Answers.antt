use Rattle.std.proofs.Common.{rules}
use Rattle.sorted_map.proofs.Finding.{found_within}
use Rattle.sorted_map.proofs.Changing.{nothing_removed, remove_ordered, remove_updates}
use Rattle.sorted_map.proofs.SortedMap.remove.Goals as goal

pub remove-entry-requires : goal.remove-entry-requires
remove-entry-requires g c =
    let within = found_within g.met.K.Ord.total c.args.key c.self.inside.entries.items c.in-Ok.place (rw c.self.view_is c.in-Ok.ensures.place) in
    search rules

pub invariant_of-self : goal.invariant_of-self
invariant_of-self g c =
    rw c.remove-entry.ensures.items
    (remove_ordered g.met.K.Ord.total c.args.key c.self.inside.entries.items c.in-Ok.place c.self.invariant)

pub returns-in-Ok : goal.returns-in-Ok
returns-in-Ok g c =
    rw (c.remove-entry.ensures.items, c.self.view_is)
    (remove_updates g.met.K.Ord.total c.args.key c.args.self.now c.in-Ok.place c.find.ensures.ordered c.in-Ok.ensures.place)

pub returns-in_default : goal.returns-in_default
returns-in_default g c =
    nothing_removed g.met.K.Ord.total c.args.key c.args.self.now c.in_default.field-0 c.find.ensures.ordered
    c.in_default.ensures.place
