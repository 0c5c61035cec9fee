-- The accesses are made on the machine one after the other; what always holds is kept, and the bits are right.
use Rattle.std.proofs.Common.{◌≡◌, ◌-◌, slice_set, true, Some, ap, sym, ◌∙◌, subst}
use Rattle.locals.specs.Threads.{Thread}
use Rattle.machine.specs.ConcreteSteps.{can_move}
use Rattle.machine.specs.Speculation.{Commits, SpeculatesAll, words_after}
use Rattle.machine.specs.States.{ConcreteState, thread_of}
use Rattle.machine.specs.Views.{CommonView, View, IsWellFormed, ShowsAble, concrete, parts_of}
use Rattle.machine.proofs.Ables.{mover_made}
use Rattle.machine.proofs.Accessing.{after_view}
use Rattle.machine.proofs.Committing.{commit_keeps, commits}
use Rattle.machine.proofs.Whole.{stands_at}
use Rattle.machine.proofs.machine.Machine.commit.Goals as goal

pub invariant_of-self-2 : goal.invariant_of-self-2
invariant_of-self-2 c =
    let s = c.self.inside in
    let p = s.image in
    let t = c.args.t in
    let k : ConcreteState = parts_of s.common s.threads.items in
    let moves : can_move k t ≡ true = ap (λ (q : View). can_move (concrete q) t) c.self.view_is ∙ c.requires.moves in
    let made = mover_made p k t c.self.invariant.0 moves in
    let x = c.index_mut.result.now in
    let stands : thread_of k t ≡ Some x = stands_at k.threads t x x made.0 made.1 c.index_mut.ensures.value in
    let stands' : thread_of (concrete c.args.self.now) t ≡ Some x =
    ap (λ (q : View). thread_of (concrete q) t) (sym c.self.view_is) ∙ stands in
    let all : SpeculatesAll p t x c.args.accesses.now c.args.there.now =
    subst (λ (q : View). SpeculatesAll q.program t x c.args.accesses.now c.args.there.now) (sym c.self.view_is)
    (c.requires.speculates x stands') in
    let r = commit_keeps p s.common k.threads t x c.args.there.now c.args.accesses.now s.able.words made.0 stands moves
    c.self.invariant.0 c.self.invariant.2 all in
    let after : CommonView = record s.common { words = words_after c.args.accesses.now s.common.words } in
    let is : after ≡ c.commit_accesses.new.shared = sym (c.if-not-commit_accesses.ensures).1 in
    let same : c.args.there.now ≡ c.copy_from.new.self = sym c.copy_from.ensures in (
      subst (λ (q : CommonView). IsWellFormed p (parts_of q (slice_set k.threads (t - 1) c.copy_from.new.self))) is
          (subst (λ (y : Thread). IsWellFormed p (parts_of after (slice_set k.threads (t - 1) y))) same r.0),
      c.self.invariant.1,
      subst (λ (q : CommonView). ShowsAble s.able.words (parts_of q (slice_set k.threads (t - 1) c.copy_from.new.self))) is
          (subst (λ (y : Thread). ShowsAble s.able.words (parts_of after (slice_set k.threads (t - 1) y))) same r.1),
    )

pub returns-clause-made : goal.returns-clause-made
returns-clause-made c = λ came.
    let s = c.self.inside in
    let p = s.image in
    let t = c.args.t in
    let k : ConcreteState = parts_of s.common s.threads.items in
    let moves : can_move k t ≡ true = ap (λ (q : View). can_move (concrete q) t) c.self.view_is ∙ c.requires.moves in
    let made = mover_made p k t c.self.invariant.0 moves in
    let x = c.index_mut.result.now in
    let stands : thread_of k t ≡ Some x = stands_at k.threads t x x made.0 made.1 c.index_mut.ensures.value in
    let stands' : thread_of (concrete c.args.self.now) t ≡ Some x =
    ap (λ (q : View). thread_of (concrete q) t) (sym c.self.view_is) ∙ stands in
    let all : SpeculatesAll p t x c.args.accesses.now c.args.there.now =
    subst (λ (q : View). SpeculatesAll q.program t x c.args.accesses.now c.args.there.now) (sym c.self.view_is)
    (c.requires.speculates x stands') in
    let did = c.if-not-commit_accesses.ensures in
    let after : CommonView = record s.common { words = words_after c.args.accesses.now s.common.words } in
    let chain = commits p s.common k.threads t x c.args.there.now c.args.accesses.now made.0 stands moves all did.0 in
    let chain' : Commits c.args.self.now t x c.args.accesses.now
    (after_view p c.commit_accesses.new.shared (slice_set k.threads (t - 1) c.copy_from.new.self)) c.args.there.now =
    subst (λ (q : View). Commits q t x c.args.accesses.now
    (after_view p c.commit_accesses.new.shared (slice_set k.threads (t - 1) c.copy_from.new.self)) c.args.there.now)
    c.self.view_is
    (subst (λ (q : CommonView). Commits (after_view p s.common k.threads) t x c.args.accesses.now
    (after_view p q (slice_set k.threads (t - 1) c.copy_from.new.self)) c.args.there.now) (sym did.1)
    (subst (λ (y : Thread). Commits (after_view p s.common k.threads) t x c.args.accesses.now
    (after_view p after (slice_set k.threads (t - 1) y)) c.args.there.now) (sym c.copy_from.ensures) chain)) in
    record { origin = x; stands = stands'; commits = chain' }
