use Rattle.std.proofs.Common.{rules}
use Rattle.sorted_map.proofs.Finding.{found_within, gap_within}
use Rattle.sorted_map.proofs.Changing.{insert_ordered, insert_updates, stays_ordered, value_updates, value_written}
use Rattle.sorted_map.proofs.SortedMap.insert.Goals as goal

pub index_mut-requires : goal.index_mut-requires
index_mut-requires g c =
    let within = found_within g.met.K.Ord.total c.args.key c.self.inside.entries.items c.in-Ok.place (rw c.self.view_is c.in-Ok.ensures.place) in
    search rules

pub invariant_of-self : goal.invariant_of-self
invariant_of-self g c =
    rw (value_written c.args.value c.self.inside.entries.items c.in-Ok.place c.index_mut.result.now
    (found_within g.met.K.Ord.total c.args.key c.self.inside.entries.items c.in-Ok.place (rw c.self.view_is c.in-Ok.ensures.place))
    c.index_mut.ensures.value)
    (stays_ordered _ c.args.value c.self.inside.entries.items c.in-Ok.place c.self.invariant)

pub returns-in-Ok-clause-ok : goal.returns-in-Ok-clause-ok
returns-in-Ok-clause-ok g c =
    rw (
      value_written c.args.value c.self.inside.entries.items c.in-Ok.place c.index_mut.result.now
          (found_within g.met.K.Ord.total c.args.key c.self.inside.entries.items c.in-Ok.place (rw c.self.view_is c.in-Ok.ensures.place))
          c.index_mut.ensures.value,
      c.self.view_is,
    )
    (value_updates g.met.K.Ord.total c.args.key c.args.value c.args.self.now c.in-Ok.place c.in-Ok.ensures.place)

pub insert-requires : goal.insert-requires
insert-requires g c =
    let within = gap_within g.met.K.Ord.total c.args.key c.self.inside.entries.items c.in-Err.place (rw c.self.view_is c.in-Err.ensures.place) in
    search rules

pub invariant_of-self-in-Err : goal.invariant_of-self-in-Err
invariant_of-self-in-Err g c =
    rw c.in_ok-insert-in-Err.ensures.items
    (insert_ordered g.met.K.Ord.total c.args.key c.args.value c.self.inside.entries.items c.in-Err.place c.self.invariant
    (rw c.self.view_is c.in-Err.ensures.place))

pub returns-in_ok-insert-in-Err-clause-ok : goal.returns-in_ok-insert-in-Err-clause-ok
returns-in_ok-insert-in-Err-clause-ok g c =
    rw (c.in_ok-insert-in-Err.ensures.items, c.self.view_is)
    (insert_updates g.met.K.Ord.total c.args.key c.args.value c.args.self.now c.in-Err.place c.find.ensures.ordered
    c.in-Err.ensures.place)
