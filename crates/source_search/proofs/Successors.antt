-- Where actions lead to from states that are alike.
use Rattle.std.proofs.Common.{◌≡◌, ◌<◌, ℕ, List, Option, Some, refl, sym, ap, ◌∙◌, inl}
use Rattle.std.proofs.Common.{inr}
use Rattle.std.proofs.Common.{subst}
use Rattle.std.specs.Prelude.{IsSome}
use Rattle.words.specs.Updates.{put}
use Rattle.program.specs.Trees.{Program}
use Rattle.meaning.specs.Labels.{Action, Kill, Killed, Kind, Stray}
use Rattle.meaning.specs.Offers.{offer}
use Rattle.meaning.specs.Processes.{Dying, Process}
use Rattle.meaning.specs.Runs.{IsKill, IsLeft, IsNotifying, IsStep}
use Rattle.meaning.specs.States.{SourceState}
use Rattle.meaning.specs.Table.{AllowsKill, AllowsStray, Table}
use Rattle.proof_exploration.specs.Exploring.{IsLike}
use Rattle.proof_exploration.proofs.Alike.{like_action, like_after, like_back, printing}
use Rattle.source_search.specs.Found.{IsFrom, killed_in, killed_to}
use Rattle.source_search.specs.declared.outside.Outside.{Outside}
use Rattle.source_search.specs.Kept.{IsInterleaved}
use Rattle.source_search.proofs.Keeping.{kept_like}

-- an action leads to a state that is alike
abbrev pub LeadsAlike : Program → SourceState → Action → SourceState → Type 0
LeadsAlike p r a s' = (u : SourceState) × IsStep p r a u × IsLike s' u

module _ (p : Program) (s r : SourceState) (like : IsLike s r) (a : Action) (s' : SourceState) where
  kill_alike : (resumed : List ℕ) (last : Option ℕ) → IsKill p s a.process resumed last s'
      → IsKill p r a.process resumed last (record s' { printed = r.printed })
  kill_alike resumed last x = record {
    before = x.before;
    monitors = x.monitors;
    notified = x.notified;
    stands = ap (λ (f : ℕ → Option Process). f a.process) (sym like.process) ∙ x.stands;
    killable = x.killable;
    notifies = subst (λ v. IsNotifying (offer p v x.before) x.notified) like.variable x.notifies;
    left = subst (λ v. IsLeft p v x.before last x.monitors) like.variable x.left;
    allows = subst (λ T. AllowsKill a.process x.notified resumed T s'.table) like.table x.allows;
    variables = x.variables ∙ like.variable;
    printed = refl;
    processes = x.processes ∙ ap (λ f. put f a.process (Some (Dying Killed x.monitors))) like.process;
  }

  -- what is possible in a state is so in one that is alike
  pub step_alike : IsStep p s a s' → LeadsAlike p r a s'
  step_alike (inl x) =
      (printing p s r like a s' x, inl (like_action p s r like a s' x), like_after p s r like a s' x)
  step_alike (inr (inl x)) = (
    record s' { printed = r.printed },
    inr (inl (
      x.0,
      x.1,
      record {
        allows = subst (λ T. AllowsStray a.process x.0 T s'.table) like.table x.2.allows;
        variables = x.2.variables ∙ like.variable;
        printed = refl;
        processes = x.2.processes ∙ like.process;
      },
    )),
    record { table = refl; variable = refl; process = refl },
  )
  step_alike (inr (inr x)) = (
    record s' { printed = r.printed },
    inr (inr (x.0, x.1, x.2, kill_alike x.0 x.1 x.3)),
    record { table = refl; variable = refl; process = refl },
  )

-- states that are alike have as many killed
killed_alike : (s c : SourceState) → IsLike s c → killed_in s ≡ killed_in c
killed_alike s c like =
    ap (λ (f : ℕ → Option Process). killed_to f s.table.made) like.process
    ∙ ap (λ (t : Table). killed_to c.process t.made) like.table

from_alike : (may : Outside) (s c : SourceState) (kind : Kind) → IsLike s c → IsFrom may s kind → IsFrom may c kind
from_alike may s c (Stray m) like from = from
from_alike may s c (Kill resumed last) like from = subst (λ (n : ℕ). n < may.kills) (killed_alike s c like) from
from_alike may s c kind like from = tt

-- where all that follows the one is kept, all that follows the other is
pub interleaved_like : (p : Program) (may : Outside) (kept : List SourceState) (s c : SourceState) → IsLike s c
    → IsInterleaved p may kept c → IsInterleaved p may kept s
interleaved_like p may kept s c like expanded a there from s' x =
    let led : LeadsAlike p c a s' = step_alike p s c like a s' x in
    kept_like kept led.0 s'
    (expanded a (subst (λ (f : ℕ → Option Process). IsSome (f a.process)) like.process there)
    (from_alike may s c a.kind like from) led.0 led.1)
    (like_back s' led.0 led.2)
