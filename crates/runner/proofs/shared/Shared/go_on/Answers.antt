-- The log has one entry more.
use Rattle.std.proofs.Common.{◌≡◌, true, ◌≤◌, ◌<◌, ◌+◌, ◌-◌, [], ◌∷◌, ◌++◌, ℕ, length, length-append, Some, ap, refl, sym, subst, ◌∙◌}
use Rattle.std.proofs.Common.{IfOk, List, arith}
use Rattle.std.proofs.lemmas.Result.{IfOk-weaker, on_ok_weaker}
use Rattle.isa.specs.Programs.{Program}
use Rattle.locals.specs.declared.access.Access.{Access}
use Rattle.machine.specs.Accessing.{told_access}
use Rattle.machine.specs.ConcreteServing.{plain}
use Rattle.machine.specs.ConcreteSteps.{can_move}
use Rattle.machine.specs.declared.event.Entry.{Entry}
use Rattle.piece_machine.specs.PieceViews.{parts}
use Rattle.runner.specs.Attempts.{TriedSo, is_made}
use Rattle.runner.specs.Legal.{IsLegal}
use Rattle.runner.specs.Logs.{EntersOwn, cost, event_cost}
use Rattle.runner.specs.Orders.{HasMade}
use Rattle.runner.specs.Reports.{IsHeldUp, IsNextEntry}
use Rattle.runner.specs.Views.{LogState, SharedView, log_state}
use Rattle.runner.specs.Walks.{EndsWalk, FailsAfter}
use Rattle.runner.specs.declared.attempt.Attempt.{Attempt}
use Rattle.runner.specs.declared.fault.RunFault.{RunFault}
use Rattle.runner.proofs.Growing.{cost_more, cost_small, entry, event_byte, fails_can, keeps_entry}
use Rattle.runner.proofs.Noting.{made_so}
use Rattle.runner.proofs.Ordering.{next_costs}
use Rattle.runner.proofs.Passing.{mover_number}
use Rattle.runner.proofs.Unrolling.{holds}
use Rattle.runner.proofs.Walking.{if_err, none_so, own_next, some_so, walked_as}
use Rattle.runner.proofs.shared.Shared.go_on.Goals as goal

-- threads have small numbers, and turns few steps
pub push_small-requires-clause-head : goal.push_small-requires-clause-head
push_small-requires-clause-head g c =
    let s = c.self.inside in
    let t = c.args.t in
    let moves = subst (λ (x : SharedView). can_move (log_state x).concrete.concrete t ≡ true) (sym c.self.view_is)
    c.requires.thread in
    let number = mover_number g.J.RunName.program (parts s.machine) t
    (holds g.J.RunName.program s.log.items (parts s.machine) c.self.invariant.0.legal) moves in
    record { thread = omega (arith, number.1); local = omega (arith, c.walk-local.ensures.turn) }

pub invariant_of-self-in-Some : goal.invariant_of-self-in-Some
invariant_of-self-in-Some g c =
    let s = c.self.inside in
    let m = c.make_room in
    let w = c.walk-local in
    let q = s.machine.view.program in
    let k = parts s.machine in
    let t = c.args.t in
    let n = w.result.0 in
    let told = c.in-Some.access in
    let limit = g.J.RunName.limit in
    let room = subst (λ (x : SharedView). cost x.log + 257 ≤ limit) (sym c.self.view_is) c.requires.room in
    let counted = c.self.invariant.1 in
    let e : Entry = entry t n (Some (told_access told)) in
    let enters = some_so (λ (a : Access). EntersOwn q k (entry t n (Some (told_access a))) (parts w.new.machine)) w.result.1
    told c.in-Some.is w.ensures.accessed in
    let grows = c.push_small.ensures.entries
    ∙ ap (λ kind. m.new.self.items ++ entry t n (Some (plain kind told.value)) ∷ []) c.access_name-name.ensures in (
      keeps_entry g.J.RunName.program g.J.RunName.outside q q w.new.machine.view.program limit k k (parts w.new.machine)
          s.log.items m.new.self.items c.push_small.new.self.items e s.left s.limit s.kills 1 c.self.invariant.0 room refl
          refl m.ensures.same w.ensures.program enters w.ensures.turn grows refl,
      record {
        total = omega (
          arith,
          c.count_one.ensures.total,
          counted.total,
          ap length grows,
          ap length m.ensures.same,
          length-append m.new.self.items (e ∷ []),
        );
        whole = counted.whole;
        unused = counted.unused;
        parts = counted.parts;
      },
    )

-- an entry that ends otherwise
pub invariant_of-self-2 : goal.invariant_of-self-2
invariant_of-self-2 g c =
    let s = c.self.inside in
    let m = c.make_room in
    let w = c.walk-local in
    let e = c.end_walk in
    let p = g.J.RunName.program in
    let may = g.J.RunName.outside in
    let q = s.machine.view.program in
    let q' = w.new.machine.view.program in
    let k = parts s.machine in
    let new = parts e.new.machine in
    let limit = g.J.RunName.limit in
    let room = subst (λ (x : SharedView). cost x.log + 257 ≤ limit) (sym c.self.view_is) c.requires.room in
    let counted = c.self.invariant.1 in
    let walked = (none_so w.result.1 w.ensures.walked c.in_default.not-Some).0 in
    let ended : EndsWalk q' k c.args.t w.result.0 m.new.self.items new e.new.log.items e.result e.new.told =
    e.ensures.ends k (walked_as q q' k (parts w.new.machine) c.args.t w.result.0 w.ensures.program walked) in
    let one : Entry = ended.entry in
    let enters = subst (λ (x : Program). EntersOwn x k one new) w.ensures.program ended.enters in
    let grows = ap length ended.grows in (
      subst (λ (n : ℕ). IsLegal p may limit e.new.machine.view.program new e.new.log.items (s.left - n) s.limit s.kills)
          (sym ended.costs)
          (keeps_entry p may q q e.new.machine.view.program limit k k new s.log.items m.new.self.items e.new.log.items one
          s.left s.limit s.kills (event_cost one.event) c.self.invariant.0 room refl refl m.ensures.same
          (e.ensures.program ∙ w.ensures.program) enters (omega (arith, ended.local, w.ensures.turn)) ended.grows
          (event_byte one.event)),
      record {
        total = omega (
          arith,
          c.count_one-2.ensures.total,
          counted.total,
          grows,
          ap length m.ensures.same,
          length-append m.new.self.items (one ∷ []),
        );
        whole = counted.whole;
        unused = counted.unused;
        parts = counted.parts;
      },
    )

pub returns-clause-err : goal.returns-clause-err
returns-clause-err g c =
    let p = g.J.RunName.program in
    let s = c.self.inside in
    let m = c.make_room in
    let w = c.walk-local in
    let e = c.end_walk in
    let t = c.args.t in
    let n = w.result.0 in
    let q = s.machine.view.program in
    let q' = w.new.machine.view.program in
    let k = parts s.machine in
    let moves = subst (λ (x : SharedView). can_move (log_state x).concrete.concrete t ≡ true) (sym c.self.view_is)
    c.requires.thread in
    let free = subst (λ (x : SharedView). IsHeldUp p (log_state x).concrete t → ⊥) (sym c.self.view_is) c.requires.free in
    let walked = (none_so w.result.1 w.ensures.walked c.in_default.not-Some).0 in
    let ended : EndsWalk q' k t n m.new.self.items (parts e.new.machine) e.new.log.items e.result e.new.told =
    e.ensures.ends k (walked_as q q' k (parts w.new.machine) t n w.ensures.program walked) in
    fails_can p g.J.RunName.outside q g.J.RunName.limit k s.log.items s.left s.limit s.kills t n e.new.told
    c.self.invariant.0 moves w.ensures.turn
    (if_err _ (λ (f : RunFault). FailsAfter q k t n f) e.new.told
    (λ f h. subst (λ (x : Program). FailsAfter x k t n f) w.ensures.program
    (h (λ waits. free (subst (λ (x : Program). IsHeldUp x k t) (w.ensures.program ∙ c.self.invariant.0.program) waits))))
    ended.fails)

pub returns-clause-ok : goal.returns-clause-ok
returns-clause-ok g c =
    let s = c.self.inside in
    let m = c.make_room in
    let w = c.walk-local in
    let e = c.end_walk in
    let k = parts s.machine in
    let walked = (none_so w.result.1 w.ensures.walked c.in_default.not-Some).0 in
    let ended : EndsWalk w.new.machine.view.program k c.args.t w.result.0 m.new.self.items (parts e.new.machine)
    e.new.log.items e.result e.new.told =
    e.ensures.ends k (walked_as s.machine.view.program w.new.machine.view.program k (parts w.new.machine) c.args.t
    w.result.0 w.ensures.program walked) in
    let one : Entry = ended.entry in
    let costs : cost e.new.log.items ≡ cost m.new.self.items + (one.local + event_cost one.event) =
    ap cost ended.grows ∙ cost_more m.new.self.items one.thread one.local one.event in
    let before : cost m.new.self.items ≡ cost c.args.self.now.log =
    ap cost m.ensures.same ∙ ap (λ (v : SharedView). cost v.log) c.self.view_is in
    on_ok_weaker {Q = cost c.args.self.now.log < cost e.new.log.items} e.new.told
    (λ next. omega (arith, next_costs w.new.machine.view.program k c.args.t one.local one.event next, costs, before)) ended.next

pub returns-in-Some-clause-entry : goal.returns-in-Some-clause-entry
returns-in-Some-clause-entry g c =
    let p = g.J.RunName.program in
    let s = c.self.inside in
    let m = c.make_room in
    let w = c.walk-local in
    let t = c.args.t in
    let n = w.result.0 in
    let told = c.in-Some.access in
    let q = s.machine.view.program in
    let k = parts s.machine in
    let new : LogState = record { log = c.push_small.new.self.items; concrete = parts w.new.machine } in
    let e : Entry = entry t n (Some (told_access told)) in
    let enters = some_so (λ (a : Access). EntersOwn q k (entry t n (Some (told_access a))) (parts w.new.machine)) w.result.1
    told c.in-Some.is w.ensures.accessed in
    let next = subst (λ (x : Program). IsNextEntry x k t n (Some (told_access told))) c.self.invariant.0.program
    (own_next q k (parts w.new.machine) t n (told_access told) enters w.ensures.turn) in
    let grows : new.log ≡ m.new.self.items ++ e ∷ [] = c.push_small.ensures.entries
    ∙ ap (λ kind. m.new.self.items ++ entry t n (Some (plain kind told.value)) ∷ []) c.access_name-name.ensures in
    let moves = subst (λ (x : SharedView). can_move (log_state x).concrete.concrete t ≡ true) (sym c.self.view_is)
    c.requires.thread in
    subst (λ (x : SharedView). HasMade p t (log_state x) new) c.self.view_is
    (e, refl, moves, next, grows ∙ ap (λ (l : List Entry). l ++ e ∷ []) m.ensures.same)

pub returns-clause-entry : goal.returns-clause-entry
returns-clause-entry g c =
    let p = g.J.RunName.program in
    let s = c.self.inside in
    let m = c.make_room in
    let w = c.walk-local in
    let e = c.end_walk in
    let t = c.args.t in
    let k = parts s.machine in
    let q' = w.new.machine.view.program in
    let new : LogState = record { log = e.new.log.items; concrete = parts e.new.machine } in
    let walked = (none_so w.result.1 w.ensures.walked c.in_default.not-Some).0 in
    let ended : EndsWalk q' k t w.result.0 m.new.self.items (parts e.new.machine) e.new.log.items e.result e.new.told =
    e.ensures.ends k (walked_as s.machine.view.program q' k (parts w.new.machine) t w.result.0 w.ensures.program walked) in
    let one : Entry = ended.entry in
    let moves = subst (λ (x : SharedView). can_move (log_state x).concrete.concrete t ≡ true) (sym c.self.view_is)
    c.requires.thread in
    on_ok_weaker {P = IsNextEntry q' k t one.local one.event} {Q = HasMade p t (log_state c.args.self.now) new} e.new.told
    (λ next. subst (λ (x : SharedView). HasMade p t (log_state x) new) c.self.view_is (
      one,
      ended.own,
      moves,
      subst (λ (x : Program). IsNextEntry x k t one.local one.event) (w.ensures.program ∙ c.self.invariant.0.program) next,
      ended.grows ∙ ap (λ (l : List Entry). l ++ one ∷ []) m.ensures.same,
    )) ended.next

pub returns-clause-made : goal.returns-clause-made
returns-clause-made g c =
    let s = c.self.inside in
    let w = c.walk-local in
    let walked = (none_so w.result.1 w.ensures.walked c.in_default.not-Some).0 in
    let ended = c.end_walk.ensures.ends (parts s.machine) (walked_as s.machine.view.program w.new.machine.view.program
    (parts s.machine) (parts w.new.machine) c.args.t w.result.0 w.ensures.program walked) in
    IfOk-weaker c.end_walk.new.told _ (λ (a : Attempt). is_made a ≡ true) (λ a h. h.0) ended.made

pub returns-clause-tried : goal.returns-clause-tried
returns-clause-tried g c =
    let p = g.J.RunName.program in
    let s = c.self.inside in
    let w = c.walk-local in
    let e = c.end_walk in
    let t = c.args.t in
    let q = s.machine.view.program in
    let q' = w.new.machine.view.program in
    let k = parts s.machine in
    let new = parts e.new.machine in
    let walked = (none_so w.result.1 w.ensures.walked c.in_default.not-Some).0 in
    let ended : EndsWalk q' k t w.result.0 c.make_room.new.self.items new e.new.log.items e.result e.new.told =
    e.ensures.ends k (walked_as q q' k (parts w.new.machine) t w.result.0 w.ensures.program walked) in
    let enters = subst (λ (x : Program). EntersOwn x k ended.entry new) (w.ensures.program ∙ c.self.invariant.0.program)
    ended.enters in
    subst (λ (x : SharedView). IfOk e.new.told (λ (a : Attempt). TriedSo p (log_state x).concrete t a new)) c.self.view_is
    (IfOk-weaker e.new.told _ (λ (a : Attempt). TriedSo p k t a new)
    (λ a h. made_so p k new t a h.0 h.1 (ended.entry, ended.own, enters)) ended.made)

pub returns-clause-within : goal.returns-clause-within
returns-clause-within g c =
    let s = c.self.inside in
    let m = c.make_room in
    let w = c.walk-local in
    let e = c.end_walk in
    let k = parts s.machine in
    let walked = (none_so w.result.1 w.ensures.walked c.in_default.not-Some).0 in
    let ended : EndsWalk w.new.machine.view.program k c.args.t w.result.0 m.new.self.items (parts e.new.machine)
    e.new.log.items e.result e.new.told =
    e.ensures.ends k (walked_as s.machine.view.program w.new.machine.view.program k (parts w.new.machine) c.args.t
    w.result.0 w.ensures.program walked) in
    let one : Entry = ended.entry in
    let costs : cost e.new.log.items ≡ cost m.new.self.items + (one.local + event_cost one.event) =
    ap cost ended.grows ∙ cost_more m.new.self.items one.thread one.local one.event in
    let before : cost m.new.self.items ≡ cost c.args.self.now.log =
    ap cost m.ensures.same ∙ ap (λ (v : SharedView). cost v.log) c.self.view_is in
    omega (arith, costs, before, ended.local, w.ensures.turn, cost_small one.event, c.requires.room)
