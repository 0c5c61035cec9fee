use Rattle.std.proofs.Common.{◌≡◌, ◌++◌, ◌∷◌, [], Some, ap, sym, ◌∙◌, arith}
use Rattle.std.proofs.lemmas.Bool.{eqb-true}
use Rattle.std.proofs.lemmas.List.{nil_from_length}
use Rattle.machine.specs.ConcreteServing.{plain}
use Rattle.machine.specs.declared.event.Entry.{Entry}
use Rattle.packed_log.specs.Packing.{entries_of, heads_of}
use Rattle.packed_log.specs.Views.{IsPacked, PackedView}
use Rattle.packed_log.proofs.Entries.{pushed_head, pushed_plain, pushed_wide}
use Rattle.packed_log.proofs.packed_log.PackedLog.push_small.Goals as goal

pub invariant_of-self : goal.invariant_of-self
invariant_of-self c =
    let s = c.self.inside in
    let count = eqb-true _ 0 (sym c.if-is_empty.ensures) in
    let none : s.wide.items ≡ [] = nil_from_length s.wide.items (omega (arith, count, s.wide.ok.0)) in (
      rw c.push_reserved.ensures.items
          (pushed_plain c.args.thread c.args.local c.args.name c.args.value (heads_of s.heads.items s.wide.items) s.sets.items _
          (pushed_head _ s.heads.items s.wide.items s.sets.items c.plain_head.result none c.plain_head.ensures c.self.invariant.0)).1,
      omega (arith, c.self.invariant.1, c.push_reserved.ensures.len, c.push_reserved.ensures.capacity),
    )

pub invariant_of-self-else-is_empty : goal.invariant_of-self-else-is_empty
invariant_of-self-else-is_empty c =
    let s = c.self.inside in
    let packed : IsPacked (heads_of s.heads.items c.push_reserved-else-is_empty.new.self.items) s.sets.items =
    rw c.push_reserved-else-is_empty.ensures.items
    (pushed_plain c.args.thread c.args.local c.args.name c.args.value (heads_of s.heads.items s.wide.items) s.sets.items _
    (pushed_wide _ s.heads.items s.wide.items s.sets.items c.wide_plain_head.result c.wide_plain_head.ensures
    c.self.invariant.0)).1 in
    (packed, omega (arith, c.self.invariant.1, c.push_reserved-else-is_empty.ensures.len, c.push_reserved-else-is_empty.ensures.capacity))

pub returns-then-is_empty-clause-entries : goal.returns-then-is_empty-clause-entries
returns-then-is_empty-clause-entries c =
    let s = c.self.inside in
    let entry : Entry = record { thread = c.args.thread; local = c.args.local; event = Some (plain c.args.name c.args.value) } in
    let count = eqb-true _ 0 (sym c.if-is_empty.ensures) in
    let none : s.wide.items ≡ [] = nil_from_length s.wide.items (omega (arith, count, s.wide.ok.0)) in
    let more : entries_of (heads_of c.push_reserved.new.self.items s.wide.items) s.sets.items
    ≡ entries_of (heads_of s.heads.items s.wide.items) s.sets.items ++ entry ∷ [] =
    rw c.push_reserved.ensures.items
    (pushed_plain c.args.thread c.args.local c.args.name c.args.value (heads_of s.heads.items s.wide.items) s.sets.items _
    (pushed_head _ s.heads.items s.wide.items s.sets.items c.plain_head.result none c.plain_head.ensures c.self.invariant.0)).0 in
    more ∙ ap (λ (v : PackedView). v.items ++ entry ∷ []) c.self.view_is

pub returns-else-is_empty-clause-entries : goal.returns-else-is_empty-clause-entries
returns-else-is_empty-clause-entries c =
    let s = c.self.inside in
    let entry : Entry = record { thread = c.args.thread; local = c.args.local; event = Some (plain c.args.name c.args.value) } in
    let more : entries_of (heads_of s.heads.items c.push_reserved-else-is_empty.new.self.items) s.sets.items
    ≡ entries_of (heads_of s.heads.items s.wide.items) s.sets.items ++ entry ∷ [] =
    rw c.push_reserved-else-is_empty.ensures.items
    (pushed_plain c.args.thread c.args.local c.args.name c.args.value (heads_of s.heads.items s.wide.items) s.sets.items _
    (pushed_wide _ s.heads.items s.wide.items s.sets.items c.wide_plain_head.result c.wide_plain_head.ensures
    c.self.invariant.0)).0 in
    more ∙ ap (λ (v : PackedView). v.items ++ entry ∷ []) c.self.view_is
