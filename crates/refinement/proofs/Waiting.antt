-- What it says of the source that threads have ended, or that none can move.
use Rattle.std.proofs.Common.{◌≡◌, ◌⊎◌, ℕ, true, false, is_some, Option, Some, None, List, refl, sym, ap, ◌∙◌, subst, inl}
use Rattle.std.proofs.Common.{inr}
use Rattle.words.specs.declared.outcome.Outcome.{Outcome}
use Rattle.words.specs.Process.{process_word}
use Rattle.words.specs.Updates.{put}
use Rattle.isa.specs.Programs.{Program as Image}
use Rattle.locals.specs.Threads.{Thread, Runs, Dies, Exits}
use Rattle.robustexit.specs.declared.phase.ExitPhase.TheVariants.{Entry, Pending, ClearId, LastWake, Ended as Ended'}
use Rattle.machine.specs.PieceStates.{PieceState}
use Rattle.machine.specs.Runs.{Step, CanStep, has_ended}
use Rattle.machine.specs.States.{State}
use Rattle.program.specs.declared.kinds.Member.{Member}
use Rattle.program.specs.Trees.{Part, Program}
use Rattle.meaning.specs.Labels.{End, Label, Enters, Resumes, Joins, kind_of}
use Rattle.meaning.specs.Table.{Hold, Free, Abandoned, HeldBy, Allows, Table}
use Rattle.meaning.specs.Processes.{Frame, Caller, Process, Entering, Suspended, Joining, Over, goes_on, recovers}
use Rattle.meaning.specs.Offers.{Nothing, offer, TakesUp, after_join}
use Rattle.meaning.specs.Runs.{CanMove}
use Rattle.meaning.specs.States.{SourceState}
use Rattle.proof_exploration.specs.Exploring.{IsOver, IsStuck}
use Rattle.refinement.specs.Seen.{end_by, machine_end, process_end, source_end}
use Rattle.refinement.specs.Monitors.{SleepsFor, StandsAsleep}
use Rattle.refinement.specs.Monitors as M
use Rattle.refinement.specs.Refines.{Explained, Sleeps, HasEnded}
use Rattle.refinement.specs.Pieces.{ExplainedInPieces, RestsInPieces}
use Rattle.refinement.specs.Resting.{HaveEnded, AreStill, AreOver, IsHeld, WaitsFor, IsHung}

-- a thread that has ended has an end
ended_end : (word : ℕ) (o : Option Thread) → has_ended o ≡ true → (x : Outcome) × (end_by word o ≡ Some x)
ended_end word (Some (Exits Ended')) h = (_, refl)
ended_end word (Some (Exits (Entry e n))) h = absurd cc
ended_end word (Some (Exits Pending)) h = absurd cc
ended_end word (Some (Exits ClearId)) h = absurd cc
ended_end word (Some (Exits LastWake)) h = absurd cc
ended_end word (Some (Runs place operands locals callers)) h = absurd cc
ended_end word (Some (Dies cause)) h = absurd cc
ended_end word None h = absurd cc

-- a process that has an end is over
end_over : (at : Process) (x : Outcome) → process_end (Some at) ≡ Some x → IsOver at
end_over (Over end) x h = tt
end_over at x h = absurd cc

same_process : {x y : Process} → Some y ≡ Some x → y ≡ x
same_process e = cc

there : {A : Type 0} (o : Option A) → is_some o ≡ true → (x : A) × (o ≡ Some x)
there None h = absurd cc
there (Some x) h = (x, refl)

is_there : {A : Type 0} (o : Option A) (x : A) → o ≡ Some x → is_some o ≡ true
is_there o x e = ap is_some e

module _ (p : Program) (c : SourceState) (q : ℕ) (rests : CanMove p c q → ⊥) where
  -- an action of process q that takes no effect is not allowed
  cannot : (before after : Process) (label : Label) (table : Table) → c.process q ≡ Some before
      → TakesUp (offer p c.variable before) label Nothing after → Allows q label c.table table → ⊥
  cannot before after label table stands takes allows = rests (record {
    kind = kind_of label;
    after = record c { table = table; process = put c.process q (Some after) };
    moves = record {
      before = before;
      after = after;
      label = label;
      effect = Nothing;
      stands = stands;
      acts = takes;
      named = refl;
      allows = allows;
      variables = refl;
      printed = refl;
      processes = refl;
    };
  })

  enters_held : (m : ℕ) (f : Frame) (cs : List Caller) → c.process q ≡ Some (Entering m f cs) → (h : Hold)
      → c.table.hold m ≡ h → IsHeld c m
  enters_held m f cs stands Free h =
      absurd (cannot _ _ (Enters m false) _ stands (false, refl, refl, refl) (h, refl))
  enters_held m f cs stands Abandoned h =
      absurd (cannot _ _ (Enters m true) _ stands (true, refl, refl, refl) (h, refl))
  enters_held m f cs stands (HeldBy u) h = (u, h)

  resumes_held : (d : Member) (f : Frame) (cs : List Caller) → c.process q ≡ Some (Suspended d f cs)
      → c.table.waits q ≡ None → (h : Hold) → c.table.hold d.monitor ≡ h → IsHeld c d.monitor
  resumes_held d f cs stands none Free h =
      absurd (cannot _ _ (Resumes d.monitor false) _ stands (false, refl, refl, refl) (none, h, refl))
  resumes_held d f cs stands none Abandoned h =
      absurd (cannot _ _ (Resumes d.monitor true) _ stands (true, refl, refl, refl) (none, h, refl))
  resumes_held d f cs stands none (HeldBy u) h = (u, h)

  joins_going : (child : ℕ) (into : Option ℕ) (part : Part) (f : Frame) (cs : List Caller)
      → c.process q ≡ Some (Joining child into part f cs) → (o : Option End) → c.table.over child ≡ o → o ≡ None
  joins_going child into part f cs stands None h = refl
  joins_going child into part f cs stands (Some end) h =
      absurd (cannot _ _ (Joins child end) _ stands (end, refl, refl, refl) (h, refl))

  -- what sleeps waits
  waits_for : (a : ℕ) (at : Process) → c.process q ≡ Some at → SleepsFor p c q a at → WaitsFor c q at
  waits_for a at stands (M.to_enter {m = m} {f = f} {cs = cs}) = enters_held m f cs stands (c.table.hold m) refl
  waits_for a at stands (M.to_resume (inl waits)) = inl waits
  waits_for a at stands (M.to_resume {c = d} {f = f} {cs = cs} (inr none)) =
      inr (none, resumes_held d f cs stands none (c.table.hold d.monitor) refl)
  waits_for a at stands (M.to_be_notified waits) = inl waits
  waits_for a at stands (M.to_join {child = child} {into = into} {part = part} {f = f} {cs = cs}) =
      joins_going child into part f cs stands (c.table.over child) refl

-- what sleeps isn't over
asleep_going : (p : Program) (c : SourceState) (q a : ℕ) (at : Process) → SleepsFor p c q a at → IsOver at → ⊥
asleep_going p c q a at M.to_enter h = h
asleep_going p c q a at (M.to_resume w) h = h
asleep_going p c q a at (M.to_be_notified w) h = h
asleep_going p c q a at M.to_join h = h

module _ (p : Program) (s : State) (c : SourceState) (ends : (q : ℕ) → machine_end s q ≡ source_end c q)
    (made : (q : ℕ) → is_some (s.thread q) ≡ is_some (c.process q))
    (asleep : (q a : ℕ) → s.asleep q ≡ Some a → StandsAsleep p c q a) where
  -- where a thread has ended, its process is over
  over_so : (q : ℕ) (at : Process) → c.process q ≡ Some at → HasEnded s q → IsOver at
  over_so q at stands ended =
      let x = ended_end (s.word (process_word q 5)) (s.thread q) ended in
      end_over at x.0 (ap process_end (sym stands) ∙ sym (ends q) ∙ x.1)

  thread_there : (q : ℕ) (at : Process) → c.process q ≡ Some at → (x : Thread) × (s.thread q ≡ Some x)
  thread_there q at stands = there (s.thread q) (made q ∙ ap is_some stands)

  pub all_over : HaveEnded s → AreOver c
  all_over ended q at stands = let x = thread_there q at stands in over_so q at stands (ended q x.0 x.1)

  waits_so : ((q : ℕ) → CanMove p c q → ⊥) → AreStill s → (q : ℕ) (at : Process) → c.process q ≡ Some at
      → IsOver at ⊎ WaitsFor c q at
  waits_so rests still q at stands =
      let x = thread_there q at stands in
      elim (still q x.0 x.1) [
        | inl sleeps ↦
            let w = asleep q sleeps.0 sleeps.1 in
            let same : w.process ≡ at = same_process (sym w.stands ∙ stands) in
            inr (waits_for p c q (rests q) sleeps.0 at stands
            (subst (λ y. SleepsFor p c q sleeps.0 y) same w.sleeps_for))
        | inr ended ↦ inl (over_so q at stands ended)
      ]

  pub hung : ((q : ℕ) → CanMove p c q → ⊥) → AreStill s → (t : ℕ) (x : Thread) → s.thread t ≡ Some x
      → (HasEnded s t → ⊥) → IsHung p c
  hung rests still t x stands goes = elim (still t x stands) [
    | inl sleeps ↦
        let w = asleep t sleeps.0 sleeps.1 in
        record {
          stuck = record {
            rests = rests;
            process = t;
            at = w.process;
            stands = w.stands;
            goes_on = asleep_going p c t sleeps.0 w.process w.sleeps_for;
          };
          waits = waits_so rests still;
        }
    | inr ended ↦ absurd (goes ended)
  ]

  -- where each process is over, and each thread sleeps or has ended, each has ended
  pub all_ended : AreStill s → AreOver c → HaveEnded s
  all_ended still over t x stands = elim (still t x stands) [
    | inl sleeps ↦
        let w = asleep t sleeps.0 sleeps.1 in
        absurd (asleep_going p c t sleeps.0 w.process w.sleeps_for (over t w.process w.stands))
    | inr ended ↦ ended
  ]

-- whoever can't move sleeps or has ended
pub still_so : (s : State) → ((t : ℕ) → CanStep s t → ⊥) → AreStill s
still_so s rests t x stands = by_place (s.asleep t) refl (has_ended (s.thread t)) refl
  where
    by_place : (o : Option ℕ) → s.asleep t ≡ o → (b : _) → has_ended (s.thread t) ≡ b → Sleeps s t ⊎ HasEnded s t
    by_place (Some a) e b h = inl (a, e)
    by_place None e true h = inr h
    by_place None e false h = absurd (rests t (record {
      thread = x;
      stands = stands;
      awake = e;
      goes_on = ap has_ended (sym stands) ∙ h;
    }))

pub done_so : (p : Program) (image : Image) (steps : List Step) (s : State) (e : Explained p image steps s)
    → HaveEnded s → AreOver e.source
done_so p image steps s e = all_over p s e.source e.ends e.made e.asleep

pub stuck_so : (p : Program) (image : Image) (steps : List Step) (s : State) (e : Explained p image steps s)
    → ((t : ℕ) → CanStep s t → ⊥) → (t : ℕ) (x : Thread) → s.thread t ≡ Some x → (HasEnded s t → ⊥)
    → IsHung p e.source
stuck_so p image steps s e rests =
    hung p s e.source e.ends e.made e.asleep (e.at_rest rests) (still_so s rests)

pub ended_so : (p : Program) (image : Image) (steps : List Step) (s : State) (e : Explained p image steps s)
    → ((t : ℕ) → CanStep s t → ⊥) → AreOver e.source → HaveEnded s
ended_so p image steps s e rests = all_ended p s e.source e.ends e.made e.asleep (still_so s rests)

pub done_in_pieces : (p : Program) (image : Image) (steps : List Step) (s : PieceState)
    (e : ExplainedInPieces p image steps s) → HaveEnded s.base → AreOver e.source
done_in_pieces p image steps s e = all_over p s.base e.source e.ends e.made e.asleep

pub stuck_in_pieces : (p : Program) (image : Image) (steps : List Step) (s : PieceState)
    (e : ExplainedInPieces p image steps s) → RestsInPieces image s → (t : ℕ) (x : Thread)
    → s.base.thread t ≡ Some x → (HasEnded s.base t → ⊥) → IsHung p e.source
stuck_in_pieces p image steps s e rests =
    hung p s.base e.source e.ends e.made e.asleep (e.at_rest rests) (e.still rests)

pub ended_in_pieces : (p : Program) (image : Image) (steps : List Step) (s : PieceState)
    (e : ExplainedInPieces p image steps s) → RestsInPieces image s → AreOver e.source → HaveEnded s.base
ended_in_pieces p image steps s e rests = all_ended p s.base e.source e.ends e.made e.asleep (e.still rests)
