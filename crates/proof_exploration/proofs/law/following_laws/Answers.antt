use Rattle.std.proofs.Common.{[], refl, sym}
use Rattle.meaning.specs.States.{opening}
use Rattle.std.proofs.Common.{length}
use Rattle.proof_exploration.proofs.Commuting.{behind, goes_after, other_after, alike}
use Rattle.proof_exploration.proofs.Searching.{alone_leads}
use Rattle.proof_exploration.proofs.Following.{Followed, followed}
use Rattle.proof_exploration.proofs.law.following_laws.Goals as goal

pub returns-clause-commute : goal.returns-clause-commute
returns-clause-commute c = λ p done s s1 s2 t u k j x wf led calm y o. (
  behind p wf done s (alone_leads p (opening p) s done led) u t j k s2 s1 y x (λ e. o (sym e)),
  behind p wf done s (alone_leads p (opening p) s done led) t u k j s1 s2 x y o,
  other_after p wf done s (alone_leads p (opening p) s done led) t u k j s1 s2 x y o calm,
  goes_after p wf done s (alone_leads p (opening p) s done led) t u k j s1 s2 x y o calm,
  alike p wf done s (alone_leads p (opening p) s done led) t u k j s1 s2 x y o calm,
)

pub returns-clause-follows : goal.returns-clause-follows
returns-clause-follows c = λ p pick actions s wf picks led stuck.
    let f : Followed p pick (opening p) (length actions) s =
    followed p wf pick picks (length actions) actions [] (opening p) s refl refl led stuck in
    (f.actions, f.end, f.follows, f.like, f.long)
