use Rattle.std.proofs.Common.{ℕ, ◌≡◌, ◌-◌, length, drop, take, Some, sym, ap, ◌∙◌, arith}
use Rattle.std.proofs.lemmas.List.{length-drop, length-take, take_all}
use Rattle.packed_log.specs.Packing.{entry_of, heads_of}
use Rattle.packed_log.proofs.Entries.{last_of, none_of}
use Rattle.packed_log.proofs.packed_log.last_packed.Goals as goal

pub overflow_sub-before : goal.overflow_sub-before
overflow_sub-before c =
    rw c.sets_beside.ensures
    (last_of (heads_of c.args.heads.now c.args.wide.now) c.args.sets.now c.in_ok-head.head c.requires
    c.in_ok-head.ensures).0

pub entry_at-requires : goal.entry_at-requires
entry_at-requires c =
    let sets = c.args.sets.now in
    let before : ℕ = length sets - c.sets_beside.result in
    omega (
      arith,
      length-take (length sets - before) (drop before sets),
      length-drop before sets,
      c.sets_beside.ensures,
      (last_of (heads_of c.args.heads.now c.args.wide.now) sets c.in_ok-head.head c.requires c.in_ok-head.ensures).0,
    )

pub returns : goal.returns
returns c =
    let heads = heads_of c.args.heads.now c.args.wide.now in
    let head = c.in_ok-head.head in
    let sets = c.args.sets.now in
    let before : ℕ = length sets - c.sets_beside.result in
    let all : take (length sets - before) (drop before sets) ≡ drop before sets =
    take_all (length sets - before) (drop before sets) (omega (arith, length-drop before sets)) in
    ap Some c.entry_at.ensures ∙ ap (λ rest. Some (entry_of head rest)) all
    ∙ ap (λ n. Some (entry_of head (drop (length sets - n) sets))) c.sets_beside.ensures
    ∙ sym (last_of heads sets head c.requires c.in_ok-head.ensures).1

pub returns-in_err-head : goal.returns-in_err-head
returns-in_err-head c =
    c.from_residual.ensures ∙ none_of (heads_of c.args.heads.now c.args.wide.now) c.args.sets.now c.in_err-head.ensures
