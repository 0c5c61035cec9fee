use Rattle.std.proofs.Common.{◌≡◌, ◌<◌, ◌≤◌, All, arith, length, subst, sym}
use Rattle.image_states.proofs.Results.{match_both}
use Rattle.image_states.proofs.parts.Parts.is_within.Goals as goal

pub returns-then-len-count : goal.returns-then-len-count
returns-then-len-count c = λ within.
    let x = c.args.packed.now in
    let places : length x.places.items ≡ length x.parts.items = within.places in
    c.if-len-count.true (omega (arith, places, c.len.ensures, c.len-count.ensures, x.places.ok.0, x.parts.ok.0))

pub returns-then-count-most : goal.returns-then-count-most
returns-then-count-most c = λ within.
    let x = c.args.packed.now in
    let few : length x.parts.items ≤ c.args.self.now.most = within.few in
    absurd (omega (arith, c.if-count-most.true, few, c.most_threads-most.ensures, c.len-count.ensures, x.parts.ok.0))

pub returns-then-not-has_memory_number : goal.returns-then-not-has_memory_number
returns-then-not-has_memory_number c = λ within.
    (rw c.if-not-has_memory_number.true at c.has_memory_number.ensures) within.memory

pub returns : goal.returns
returns c =
    let parts = c.args.self.now in
    let x = c.args.packed.now in
    let memory : x.memory < length parts.memories.items =
    rw c.if-not-has_memory_number.false at c.has_memory_number.ensures in
    let few : length x.parts.items ≤ parts.most =
    omega (arith, c.if-count-most.false, c.most_threads-most.ensures, c.len-count.ensures, x.parts.ok.0) in
    let places : length x.places.items ≡ length x.parts.items =
    omega (arith, c.if-len-count.false, c.len.ensures, c.len-count.ensures, x.places.ok.0, x.parts.ok.0) in
    let count : c.local_count.result ≡ length parts.locals.items = c.local_count.ensures in
    let list = c.as_slice.ensures.value in
    match_both c.are_less.result _ _ _ _ c.are_less.ensures
    (λ all. record {
      memory = memory;
      locals = subst (λ n. All (λ m. m < n) x.parts.items) count (subst (All (λ m. m < c.local_count.result)) list all);
      places = places;
      few = few;
    })
    (λ not within. not (subst (All (λ m. m < c.local_count.result)) (sym list)
    (subst (λ n. All (λ m. m < n) x.parts.items) (sym count) within.locals)))
