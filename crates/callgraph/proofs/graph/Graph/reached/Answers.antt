use Rattle.std.proofs.Common.{◌≡◌, ◌∙◌, refl, sym, subst, length, replicate, List, ℕ, false, arith}
use Rattle.std.proofs.Common.{◌∷◌, []}
use Rattle.std.proofs.lemmas.Grind.{common_steps}
use Rattle.callgraph.specs.Calls.{Within}
use Rattle.callgraph.proofs.Marking.{Walk, written_back, walk_begun, walk_on, falls, all_marked}
use Rattle.callgraph.proofs.graph.Graph.reached.Goals as goal

pub walk-init : goal.walk-init
walk-init c =
    let new = c.mark_all.new.marks in
    let rows = c.args.self.now.rows in
    let count : c.count.result ≡ length rows.items = grind arith in
    let written = written_back c.in_ok-marks.marks.len new _ (grind arith) in
    let clean : c.in_ok-marks.marks.items ≡ replicate c.count.result false = grind (arith, common_steps) in
    record {
      len = grind (arith, common_steps);
      walk = λ calls g. subst (λ xs. Walk calls c.args.start xs c.mark_all.new.pending.items) (sym written)
          (walk_begun calls c.args.start c.count.result c.callees.result.now c.deref_mut.result.now
          c.new-pending.result.items new c.mark_all.new.pending.items (subst (λ n. Within calls n) (sym count) g.within)
          (c.callees.ensures ∙ g.rows c.args.start) (c.deref_mut.ensures.value ∙ clean)
          c.new-pending.ensures.items c.in_ok-mark_all.ensures);
    }

pub walk-preserved : goal.walk-preserved
walk-preserved c =
    let new = c.mark_all-in-Some.new.marks in
    let written = written_back c.walk.marks.len new _ (grind arith) in
    record {
      len = grind (arith, common_steps);
      walk = λ calls g. subst (λ xs. Walk calls c.args.start xs c.mark_all-in-Some.new.pending.items) (sym written)
          (walk_on calls c.args.start (length c.args.self.now.rows.items) c.in-Some.procedure
          c.callees-in-Some.result.now c.walk.marks.items c.deref_mut-in-Some.result.now new c.walk.pending.items
          c.pop.new.self.items c.mark_all-in-Some.new.pending.items g.within c.walk.invariant.len
          c.in-Some.ensures.items (c.callees-in-Some.ensures ∙ g.rows c.in-Some.procedure)
          c.deref_mut-in-Some.ensures.value (c.walk.invariant.walk calls g) c.in_ok-mark_all-2.ensures);
    }

pub walk-smaller : goal.walk-smaller
walk-smaller c =
    let new = c.mark_all-in-Some.new.marks in
    falls c.in-Some.procedure c.callees-in-Some.result.now c.walk.marks.items c.deref_mut-in-Some.result.now new _
    c.walk.pending.items c.pop.new.self.items c.mark_all-in-Some.new.pending.items c.in-Some.ensures.items
    c.deref_mut-in-Some.ensures.value (written_back c.walk.marks.len new _ (grind arith)) c.in_ok-mark_all-2.ensures

none : {X : Type 0} (xs : List X) → length xs ≡ 0 → xs ≡ []
none [] e = refl
none (x ∷ xs) e = absurd (omega (arith, e))

pub returns-clause-sound : goal.returns-clause-sound
returns-clause-sound c calls g = (c.walk.invariant.walk calls g).sound

pub returns-clause-complete : goal.returns-clause-complete
returns-clause-complete c calls g =
    let empty : c.walk.pending.items ≡ [] = none c.walk.pending.items (grind arith) in
    all_marked calls c.args.start c.walk.marks.items (subst (λ (q : List ℕ). Walk calls c.args.start
    c.walk.marks.items q)
    empty (c.walk.invariant.walk calls g))
