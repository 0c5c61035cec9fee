-- Accesses made ahead are steps in pieces, one after the other, and what is kept is kept.
use Rattle.std.proofs.Common.{◌≡◌, Bool, true, false, Some, ap, refl, sym, subst, ◌∙◌}
use Rattle.machine.specs.ConcreteSteps.{can_move}
use Rattle.machine.specs.States.{thread_of}
use Rattle.machine.specs.Views.{View, concrete}
use Rattle.piece_machine.specs.PieceViews.{PieceView, IsKept}
use Rattle.piece_machine.specs.Speculated.{CommitsFrom}
use Rattle.piece_machine.proofs.Speculated.{commits_from, commits_kept, commits_program}
use Rattle.piece_machine.proofs.piece_machine.PieceMachine.commit.Goals as goal

pub invariant_of-self : goal.invariant_of-self
invariant_of-self c = by c.commit.result refl
  where
    by : (b : Bool) → c.commit.result ≡ b → IsKept c.commit.new.self c.self.inside.phases
    by true is =
        let did = c.commit.ensures.made is in
        let can = subst (λ (q : PieceView). can_move (concrete q.view) c.args.t ≡ true) (sym c.self.view_is)
        c.requires.moves in
        commits_kept c.self.inside.machine c.commit.new.self c.self.inside.phases c.args.t did.origin c.args.there.now
        c.args.accesses.now c.self.invariant can did.stands did.commits
    by false is = subst (λ (q : View). IsKept q c.self.inside.phases) (sym (c.commit.ensures.none is).0) c.self.invariant

pub returns-clause-made : goal.returns-clause-made
returns-clause-made c = λ is.
    let did = c.commit.ensures.made is in
    let v' : PieceView = record { view = c.commit.new.self; phases = c.self.inside.phases } in
    record {
      origin = did.origin;
      stands = subst (λ (q : PieceView). thread_of (concrete q.view) c.args.t ≡ Some did.origin) c.self.view_is did.stands;
      commits = subst (λ (q : PieceView). CommitsFrom q c.args.t did.origin c.args.accesses.now v' c.args.there.now)
          c.self.view_is
          (commits_from c.self.inside.machine c.commit.new.self c.self.inside.phases c.args.t did.origin c.args.there.now
          c.args.accesses.now did.stands did.commits);
    }

pub returns-clause-program : goal.returns-clause-program
returns-clause-program c = by c.commit.result refl ∙ ap (λ (q : PieceView). q.view.program) c.self.view_is
  where
    by : (b : Bool) → c.commit.result ≡ b → c.commit.new.self.program ≡ c.self.inside.machine.program
    by true is =
        let did = c.commit.ensures.made is in
        commits_program c.self.inside.machine c.commit.new.self c.args.t did.origin c.args.there.now c.args.accesses.now
        did.commits
    by false is = ap (λ (q : View). q.program) (c.commit.ensures.none is).0
