use Rattle.std.proofs.Common.{ℕ, ◌≡◌, ◌-◌, length, drop, take, None, refl, sym, ap, subst, ◌∙◌, arith}
use Rattle.std.proofs.lemmas.List.{length-drop, length-take, take_all}
use Rattle.packed_log.specs.Packing.{event_of, heads_of, kind_in, name_of}
use Rattle.packed_log.specs.Views.{Woke, step_of}
use Rattle.packed_log.proofs.Entries.{last_of, none_of}
use Rattle.packed_log.proofs.packed_log.last_woken_packed.Goals as goal

pub overflow_sub-before : goal.overflow_sub-before
overflow_sub-before c =
    rw c.sets_beside.ensures
    (last_of (heads_of c.args.heads.now c.args.wide.now) c.args.sets.now c.in-Some.head c.requires
    (sym c.in-Some.is ∙ c.last_head.ensures)).0

pub woken_at-requires : goal.woken_at-requires
woken_at-requires c =
    let sets = c.args.sets.now in
    let before : ℕ = length sets - c.sets_beside.result in
    omega (
      arith,
      length-take (length sets - before) (drop before sets),
      length-drop before sets,
      c.sets_beside.ensures,
      (last_of (heads_of c.args.heads.now c.args.wide.now) sets c.in-Some.head c.requires
          (sym c.in-Some.is ∙ c.last_head.ensures)).0,
    )

pub returns : goal.returns
returns c =
    let head = c.in-Some.head in
    let sets = c.args.sets.now in
    let before : ℕ = length sets - c.sets_beside.result in
    let all : take (length sets - before) (drop before sets) ≡ drop before sets =
    take_all (length sets - before) (drop before sets) (omega (arith, length-drop before sets)) in
    subst (λ o. Woke (step_of o) c.woken_at.result c.woken_at.new.woken)
    (sym (last_of (heads_of c.args.heads.now c.args.wide.now) sets head c.requires
    (sym c.in-Some.is ∙ c.last_head.ensures)).1)
    (subst
    (λ rest. Woke (event_of (name_of (kind_in head.head)) head.head rest) c.woken_at.result c.woken_at.new.woken)
    (all ∙ ap (λ n. drop (length sets - n) sets) c.sets_beside.ensures) c.woken_at.ensures)

pub returns-in_default : goal.returns-in_default
returns-in_default c =
    subst (λ o. Woke (step_of o) None c.clear.new.self)
    (none_of (heads_of c.args.heads.now c.args.wide.now) c.args.sets.now c.in_default.ensures)
    (refl, c.clear.ensures)
