use Rattle.std.proofs.Common.{◌≡◌, ◌∙◌, All, subst, suc, sym, true}
use Rattle.std.proofs.lemmas.List.Elements.{All-take}
use Rattle.program.specs.Views.{program_of}
use Rattle.meaning.specs.Runs.{CanMove}
use Rattle.source_search.specs.Covered.{IsFollowedOwn}
use Rattle.source_search.specs.Kept.{states_of}
use Rattle.source_search.specs.Living.{ComesToOne}
use Rattle.source_search.specs.Packed.{IsWithin, unpacked}
use Rattle.source_search.proofs.Lively.{comes_on, cut_back, same_count}
use Rattle.source_search.proofs.kept.Kept.leads_on.Goals as goal

pub returns-then-len-before-clause-sound : goal.returns-then-len-before-clause-sound
returns-then-len-before-clause-sound c =
    subst (All (IsWithin c.follow_spot.new.self.parts)) (sym c.truncate.ensures.items)
    (All-take (IsWithin c.follow_spot.new.self.parts) c.len-before.result c.follow_spot.new.self.states.items
    c.in_ok-moves.ensures.sound)

pub returns-then-len-before-clause-same : goal.returns-then-len-before-clause-same
returns-then-len-before-clause-same c =
    cut_back c.args.self.now.parts c.follow_spot.new.self.parts c.args.self.now.states.items
    c.follow_spot.new.self.states.items c.in_ok-moves.ensures.longer c.truncate.new.self.items c.len-before.result
    (c.len-before.ensures ∙ c.args.self.now.states.ok.0) c.truncate.ensures.items

pub returns-in-None-clause-same : goal.returns-in-None-clause-same
returns-in-None-clause-same c =
    same_count c.args.self.now.parts c.follow_spot.new.self.parts c.args.self.now.states.items
    c.follow_spot.new.self.states.items c.in_ok-moves.ensures.longer
    (sym c.follow_spot.new.self.states.ok.0 ∙ sym c.len.ensures ∙ c.if-len-before.false ∙ c.len-before.ensures
    ∙ c.args.self.now.states.ok.0)

pub returns-in-Some-clause-same : goal.returns-in-Some-clause-same
returns-in-Some-clause-same c =
    same_count c.args.self.now.parts c.follow_spot.new.self.parts c.args.self.now.states.items
    c.follow_spot.new.self.states.items c.in_ok-moves.ensures.longer
    (sym c.follow_spot.new.self.states.ok.0 ∙ sym c.len.ensures ∙ c.if-len-before.false ∙ c.len-before.ensures
    ∙ c.args.self.now.states.ok.0)

pub returns-in-Some-clause-comes : goal.returns-in-Some-clause-comes
returns-in-Some-clause-comes c = λ e.
    let p = program_of c.args.checked.now.tree in
    let s = unpacked c.args.self.now.parts c.args.packed.now in
    let can : c.in-Some.able ≡ true → CanMove p s (suc c.args.place) = rw c.in-Some.is at c.in_ok-moves.ensures.moves in
    let own : IsFollowedOwn p (states_of c.follow_spot.new.self) s (suc c.args.place) =
    rw c.in-Some.is at c.in_ok-moves.ensures.followed in
    subst (λ kept. ComesToOne p kept s)
    (same_count c.args.self.now.parts c.follow_spot.new.self.parts c.args.self.now.states.items
    c.follow_spot.new.self.states.items c.in_ok-moves.ensures.longer
    (sym c.follow_spot.new.self.states.ok.0 ∙ sym c.len.ensures ∙ c.if-len-before.false ∙ c.len-before.ensures
    ∙ c.args.self.now.states.ok.0))
    (comes_on p (states_of c.follow_spot.new.self) s (suc c.args.place) (can e) own)
