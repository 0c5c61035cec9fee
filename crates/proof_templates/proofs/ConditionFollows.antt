-- A thread that notifies on a condition follows the protocol, and its process notifies with it.
use Rattle.std.proofs.Common.{inl, inr, ◌≡◌, ◌≢◌, ℕ, List, refl, sym, ◌∙◌, subst}
use Rattle.program.specs.declared.kinds.Member.{Member}
use Rattle.locals.specs.declared.frame.Locals.{Locals}
use Rattle.locals.specs.declared.frame.Frame.{Frame as MachineFrame}
use Rattle.locals.specs.Threads.{Thread}
use Rattle.meaning.specs.Labels as L
use Rattle.meaning.specs.Values.{Variables}
use Rattle.meaning.specs.Processes.{Process}
use Rattle.meaning.specs.Offers.{Offer, TakesUp, Nothing}
use Rattle.protocol.specs.Carries.{resumed_by}
use Rattle.protocol.specs.Points.{Point, Runs}
use Rattle.proof_thread.specs.Following.{Build, Stands}
use Rattle.proof_templates.specs.Asking.{AsksSo}
use Rattle.proof_templates.specs.Notifying.{NotifiesAt, BroadcastsAt}
use Rattle.proof_templates.specs.Notifying as N
use Rattle.proof_templates.specs.Inside.{Template, Notifies, Broadcasts, NotifyFits, BroadcastFits}
use Rattle.proof_templates.specs.Templates.{Follows}
use Rattle.proof_templates.proofs.Notifying.{notifies_follow, broadcasts_follow}
use Rattle.proof_templates.proofs.Taken.{follows_by}
use Rattle.protocol.specs.Rules.{release_of}

module _ (b : Build) (vs : Variables) (t : ℕ) (c : Member) (base : ℕ) (l : Locals) (fs : List MachineFrame)
    (before after : Process) (ms : List ℕ) where
  module _ (fits : NotifyFits b vs t c base l fs before after ms) where
    abbrev notify : Template
    notify = Notifies c base l fs before after ms

    asks : (pt : Point) (x : Thread) → (pt ≡ Runs → ⊥) → NotifiesAt b.program c base l fs pt x
        → AsksSo (release_of b.program.version) b.program b.code t (NotifiesAt b.program c base l fs) pt x
    asks = notifies_follow (release_of b.program.version) b.program b.code t base c l fs fits.code

    behind : (y : Thread) → NotifiesAt b.program c base l fs Runs y → Stands b t y after
    behind y N.NotifiesAt.goes = fits.goes

    pub notifies_go : (pt : Point) (x : Thread) → pt ≢ Runs → NotifiesAt b.program c base l fs pt x
        → Follows b vs t notify pt x
    notifies_go pt x inside N.NotifiesAt.adds = follows_by b vs t notify pt x (asks pt x inside N.NotifiesAt.adds)
        (λ w tb e r w' y may z. (before, refl, inl ((λ n. absurd cc), z, refl, refl)))
    notifies_go pt x inside N.NotifiesAt.wakes = follows_by b vs t notify pt x (asks pt x inside N.NotifiesAt.wakes)
        (λ w tb e r w' y may z. (
          after,
          (
            refl,
            subst (λ (o : Offer). TakesUp o (L.Notifies c (resumed_by w tb c w'.asleep)) Nothing after)
                (sym fits.offers) (resumed_by w tb c w'.asleep, refl, refl, refl),
          ),
          inr (refl, behind y z, sym (fits.keeps ∙ fits.held)),
        ))
    notifies_go pt x inside N.NotifiesAt.goes = absurd (inside refl)

  module _ (fits : BroadcastFits b vs t c base l fs before after ms) where
    abbrev broadcast : Template
    broadcast = Broadcasts c base l fs before after ms

    abbrev In : Point → Thread → Type 0
    In = BroadcastsAt b.program c base l fs

    asks_all : (pt : Point) (x : Thread) → (pt ≡ Runs → ⊥) → In pt x
        → AsksSo (release_of b.program.version) b.program b.code t In pt x
    asks_all = broadcasts_follow (release_of b.program.version) b.program b.code t base c l fs fits.code

    behind_all : (y : Thread) → In Runs y → Stands b t y after
    behind_all y N.BroadcastsAt.goes = fits.goes

    pub broadcasts_go : (pt : Point) (x : Thread) → pt ≢ Runs → In pt x → Follows b vs t broadcast pt x
    broadcasts_go pt x inside N.BroadcastsAt.adds =
        follows_by b vs t broadcast pt x (asks_all pt x inside N.BroadcastsAt.adds)
        (λ w tb e r w' y may z. (before, refl, inl ((λ n. absurd cc), z, refl, refl)))
    broadcasts_go pt x inside N.BroadcastsAt.marks =
        follows_by b vs t broadcast pt x (asks_all pt x inside N.BroadcastsAt.marks)
        (λ w tb e r w' y may z. (before, refl, inl ((λ n. absurd cc), z, refl, refl)))
    broadcasts_go pt x inside N.BroadcastsAt.reads =
        follows_by b vs t broadcast pt x (asks_all pt x inside N.BroadcastsAt.reads)
        (λ w tb e r w' y may z. (before, refl, inl ((λ n. absurd cc), z, refl, refl)))
    broadcasts_go pt x inside (N.BroadcastsAt.moves s) =
        follows_by b vs t broadcast pt x (asks_all pt x inside (N.BroadcastsAt.moves s))
        (λ w tb e r w' y may z. (
          after,
          (
            refl,
            subst (λ (o : Offer). TakesUp o (L.Broadcasts c (resumed_by w tb c w'.asleep)) Nothing after)
                (sym fits.offers) (resumed_by w tb c w'.asleep, refl, refl, refl),
          ),
          inr (refl, behind_all y z, sym (fits.keeps ∙ fits.held)),
        ))
    broadcasts_go pt x inside N.BroadcastsAt.goes = absurd (inside refl)
