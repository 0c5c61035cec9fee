use Rattle.std.proofs.Common.{List, refl, subst, ℕ}
use Rattle.locals.specs.declared.taking.Behind.{Behind}
use Rattle.locals.specs.Sequences.{LeadsTo}
use Rattle.locals.specs.Views.{running}
use Rattle.locals.specs.Walks.{WalkedTo}
use Rattle.locals.proofs.activation.Activation.walk.Goals as goal

pub returns-in-Made-clause-walks : goal.returns-in-Made-clause-walks
returns-in-Made-clause-walks c =
    let took = c.take_sequences-count in
    subst (λ (r : Behind). LeadsTo r c.args.image.now c.args.t (running c.args.self.now) c.args.words.now took.new.words
    took.result.0 took.new.self) c.in-Made.is (took.ensures.takes (running c.args.self.now) refl)

pub returns-in-Stands-clause-walks : goal.returns-in-Stands-clause-walks
returns-in-Stands-clause-walks c =
    let took = c.take_sequences-count in
    let h = subst (λ (r : Behind). LeadsTo r c.args.image.now c.args.t (running c.args.self.now) c.args.words.now took.new.words
    took.result.0 took.new.self) c.in-Stands.is (took.ensures.takes (running c.args.self.now) refl) in
    (h.0, λ less. h.1, h.2, h.3)

pub returns-in-Open-clause-walks : goal.returns-in-Open-clause-walks
returns-in-Open-clause-walks c =
    let start = running c.args.self.now in
    let took = c.take_sequences-count in
    let rest = c.walk_rest in
    let h = subst (λ (r : Behind). LeadsTo r c.args.image.now c.args.t start c.args.words.now took.new.words
    took.result.0 took.new.self) c.in-Open.is (took.ensures.takes start refl) in
    subst (λ (w : List ℕ). WalkedTo rest.result.1 c.args.image.now c.args.t c.args.budget start w rest.new.words rest.result.0
    rest.new.self) h.1 (rest.ensures.walks start h.0)
