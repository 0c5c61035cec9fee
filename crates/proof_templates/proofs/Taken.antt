-- A process that has taken a monitor's lock holds the monitors of its ENTRY procedures; and what follows from asking as
-- a point asks.
use Rattle.std.proofs.Common.{◌≡◌, ◌≢◌, ℕ, suc, ◌==◌, Bool, true, false, List, [], ◌∷◌, length, Option, Some, None}
use Rattle.std.proofs.Common.{refl, ap, sym, ◌∙◌, arith}
use Rattle.std.specs.Prelude.{if◌then◌else◌, not}
use Rattle.std.proofs.lemmas.Bool.{ne_eqb}
use Rattle.program.specs.declared.kinds.Role.{Role}
use Rattle.program.specs.declared.kinds.Role.TheVariants.{Recover, Main}
use Rattle.program.specs.Scope.{own_monitor, recover_of}
use Rattle.locals.specs.Threads.{Thread}
use Rattle.meaning.specs.Labels.{End}
use Rattle.meaning.specs.Table.{Table}
use Rattle.meaning.specs.Values.{Variables}
use Rattle.meaning.specs.Processes.{Frame, Caller, Process, goes_on, recovers, recovers_by, frame_of, opening_frame}
use Rattle.meaning.specs.Processes.{all_monitors, callers_monitors, monitor_of_role, holds}
use Rattle.protocol.specs.Word.{owner_died_bit}
use Rattle.protocol.specs.Points.{Point}
use Rattle.protocol.specs.World.{World}
use Rattle.protocol.specs.Answers.{next, next_list}
use Rattle.protocol.specs.Served.{MayAnswer, source_event}
use Rattle.proof_thread.specs.Following.{Build}
use Rattle.proof_thread.specs.Builds.{IsBuild}
use Rattle.proof_thread.proofs.Holding.{goes_on_holds}
use Rattle.proof_templates.specs.Asking.{AsksSo}
use Rattle.proof_templates.specs.Inside.{Template, lock_taker, process_at, list_at, StandsIn}
use Rattle.proof_templates.specs.Templates.{ActsSo, StandsOn, Follows}
use Rattle.protocol.specs.Rules.{release_of}

-- a procedure that belongs to a monitor isn't the main part
pub owned_alone : (m : ℕ) (f : Frame) (cs : List Caller) → own_monitor f.role ≡ Some m → f.role ≡ Main → cs ≡ []
owned_alone m f cs own main = let none = ap own_monitor (sym main) ∙ own in absurd cc

-- nor is one that has a monitor more than its callers
pub entry_alone : (m : ℕ) (f : Frame) (cs : List Caller) → all_monitors f cs ≡ m ∷ callers_monitors cs
    → f.role ≡ Main → cs ≡ []
entry_alone m f cs held main =
    let same : callers_monitors cs ≡ m ∷ callers_monitors cs =
    ap (λ (r : Role). monitor_of_role r (callers_monitors cs)) (sym main) ∙ held in
    let long : length (callers_monitors cs) ≡ suc (length (callers_monitors cs)) = ap length same in
    absurd (omega (arith, long))

-- a monitor that was not abandoned, and one that was
pub taken_free : (b : Build) (m : ℕ) (f : Frame) (cs : List Caller) (seen : ℕ) → owner_died_bit seen ≡ 0
    → lock_taker b.program m f cs seen ≡ goes_on (Some m) f cs
taken_free b m f cs seen e =
    ap (λ n. if not (n == 0) then recovers b.program m f cs else goes_on (Some m) f cs) e

pub taken_abandoned : (b : Build) (m : ℕ) (f : Frame) (cs : List Caller) (seen : ℕ) → owner_died_bit seen ≢ 0
    → lock_taker b.program m f cs seen ≡ recovers b.program m f cs
taken_abandoned b m f cs seen ne =
    ap (λ x. if not x then recovers b.program m f cs else goes_on (Some m) f cs) (ne_eqb (owner_died_bit seen) 0 ne)

module _ (b : Build) (is : IsBuild b) (m : ℕ) (f : Frame) (cs : List Caller) where
  abbrev behind : List Caller
  behind = record { into = None; frame = f } ∷ cs

  recovers_holds : holds (recovers b.program m f cs) ≡ all_monitors f cs
  recovers_holds = by_part (recover_of b.program m) refl
    where
      by_part : (o : Option ℕ) → recover_of b.program m ≡ o
          → holds (recovers_by b.program o m f cs) ≡ all_monitors f cs
      by_part None e = refl
      by_part (Some r) e =
          let q = is.recovers m r e in
          let role : (opening_frame b.program r []).role ≡ Recover m =
          ap (λ o. (frame_of o []).role) q.1 ∙ q.2 in
          goes_on_holds b (Some m) (opening_frame b.program r []) behind
          (λ main. let clash = sym role ∙ main in absurd cc)
          ∙ ap (λ (x : Role). monitor_of_role x (callers_monitors behind)) role

  pub taken_holds : (seen : ℕ) → (f.role ≡ Main → cs ≡ [])
      → holds (lock_taker b.program m f cs seen) ≡ all_monitors f cs
  taken_holds seen alone = by_test (not (owner_died_bit seen == 0))
    where
      by_test : (x : Bool)
          → holds (if x then recovers b.program m f cs else goes_on (Some m) f cs) ≡ all_monitors f cs
      by_test true = recovers_holds
      by_test false = goes_on_holds b (Some m) f cs alone

-- what the process does with a step, and where thread and process stand after it
abbrev pub Moves : Build → Variables → ℕ → Template → Point → World → Table → End → ℕ → World → Thread → Type 0
Moves b vs t k pt w T e r w' y = (q : Process)
    × ActsSo b.program vs t (source_event w T t pt r w' e) (process_at b.program k pt) q
    × StandsOn b t k (next w e pt r) (next_list pt (list_at k pt)) y q

pub follows_by : (b : Build) (vs : Variables) (t : ℕ) (k : Template) (pt : Point) (x : Thread)
    → AsksSo (release_of b.program.version) b.program b.code t (StandsIn b.program t k) pt x
    → ((w : World) (T : Table) (e : End) (r : ℕ) (w' : World) (y : Thread) → MayAnswer pt r
    → StandsIn b.program t k (next w e pt r) y → Moves b vs t k pt w T e r w' y) → Follows b vs t k pt x
follows_by b vs t k pt x a moves = record {
  asks = a.asks;
  go = a.go;
  same = a.same;
  look = a.look;
  goes = λ w T e r w' may.
      let g = a.goes w e r may in
      let n = moves w T e r w' g.0 may g.2 in
      record { thread = g.0; walk = g.1; process = n.0; acts = n.1; stands = n.2 };
}
