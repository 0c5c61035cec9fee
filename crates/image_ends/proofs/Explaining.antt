-- A run that explains a run of the machine has stray wake-ups only where that has, and has its ends.
use Rattle.std.proofs.Common.{◌≡◌, ◌⊎◌, ◌<◌, ◌^◌, ℕ, Bool, true, false, cond, List, [], ◌∷◌, filter, length, map, is_some}
use Rattle.std.specs.Prelude.{if◌then◌else◌}
use Rattle.std.proofs.Common.{Option, ap, arith, subst}
use Rattle.std.proofs.Common.{Some, None, refl, sym, ◌∙◌, inl, inr}
use Rattle.words.specs.declared.outcome.Outcome.TheVariants as outcome
use Rattle.isa.specs.Programs.{Program as Image}
use Rattle.machine.specs.PieceStates.{PieceState}
use Rattle.machine.specs.PieceSteps.{PieceRun}
use Rattle.machine.specs.Runs.{CanStep, MachineRun, Step}
use Rattle.machine.specs.States.{State}
use Rattle.program.specs.Trees.{Program}
use Rattle.words.specs.declared.outcome.Cause.{Cause}
use Rattle.meaning.specs.Labels.{Aborted, Action, Ended, Kill, Kind, Stray}
use Rattle.meaning.specs.Processes.{Over, Process}
use Rattle.meaning.specs.Runs.{CanMove, IsRun}
use Rattle.meaning.specs.States.{SourceState}
use Rattle.proof_exploration.specs.Exploring.{IsOver, IsStuck}
use Rattle.refinement.specs.Refines.{Explained, Refines, is_kill_kind, is_stray_kind, processes_of}
use Rattle.refinement.specs.Outside.{killed_threads, stray_threads}
use Rattle.refinement.specs.Pieces.{ExplainedInPieces, RefinesInPieces, RestsInPieces}
use Rattle.refinement.specs.Resting.{AreOver, HaveEnded}
use Rattle.refinement.specs.Seen.{machine_end, process_end, source_end}
use Rattle.refinement.proofs.Waiting.{ended_so, ended_in_pieces}
use Rattle.source_search.specs.Found.{AreFrom, AreNamed, HasFailed, IsCounted, IsNamed, LeadsNowhere, kills_of, one_kill}
use Rattle.source_search.specs.declared.outside.Outside.{Outside}
use Rattle.image_ends.specs.Ending.{AllOver, IsSearched}

is_named : (may : Outside) (k : Kind) → (may.strays ≡ false → is_stray_kind k ≡ false) → IsNamed may k
is_named may (Stray c) none = searched may.strays none
  where
    searched : (strays : Bool) → (strays ≡ false → true ≡ false) → strays ≡ true
    searched true none = refl
    searched false none = absurd (let no : true ≡ false = none refl in cc)
is_named may other none = tt

-- where none of these kinds is among actions, the first is none
none_first : (test : Kind → Bool) (x : Action) (xs : List Action) → processes_of test (x ∷ xs) ≡ []
    → (test x.kind ≡ false) × (processes_of test xs ≡ [])
none_first test x xs e = at (test x.kind) refl e
  where
    at : (b : Bool) → test x.kind ≡ b
        → map (λ (a : Action). a.process) (cond b (x ∷ filter (λ a. test a.kind) xs) (filter (λ a. test a.kind) xs)) ≡ []
        → (test x.kind ≡ false) × (processes_of test xs ≡ [])
    at true is e = absurd (cc)
    at false is e = (is, e)

are_named : (may : Outside) (actions : List Action) → (may.strays ≡ false → processes_of is_stray_kind actions ≡ [])
    → AreNamed may actions
are_named may [] none = tt
are_named may (x ∷ xs) none = (
  is_named may x.kind (λ e. (none_first is_stray_kind x xs (none e)).0),
  are_named may xs (λ e. (none_first is_stray_kind x xs (none e)).1),
)

-- as many kills as processes that are killed
one_of : (k : Kind) → one_kill k ≡ (if is_kill_kind k then 1 else 0)
one_of (Kill resumed last) = refl
one_of other = refl

kills_are : (actions : List Action) → kills_of actions ≡ length (processes_of is_kill_kind actions)
kills_are [] = refl
kills_are (x ∷ xs) = at (kills_are xs) (is_kill_kind x.kind) refl
  where
    rest : List Action
    rest = filter (λ a. is_kill_kind a.kind) xs

    at : kills_of xs ≡ length (processes_of is_kill_kind xs) → (b : Bool) → is_kill_kind x.kind ≡ b
        → kills_of (x ∷ xs) ≡ length (map (λ (a : Action). a.process) (cond b (x ∷ rest) rest))
    at more true is =
        let here : one_kill x.kind ≡ 1 = one_of x.kind ∙ ap (λ (c : Bool). if c then 1 else 0) is in
        omega (arith, here, more)
    at more false is =
        let here : one_kill x.kind ≡ 0 = one_of x.kind ∙ ap (λ (c : Bool). if c then 1 else 0) is in
        omega (arith, here, more)

is_over : (at : Process) → IsOver at ⊎ (IsOver at → ⊥)
is_over (Over end) = inl tt
is_over other = inr (λ h. h)

same_cause : (c cause : Cause) → process_end (Some (Over (Aborted c))) ≡ Some (outcome.Aborted cause) → c ≡ cause
same_cause c cause e = cc

has_failed : (may : Outside) (s : SourceState) (q : ℕ) (cause : Cause) (x : Option Process) → s.process q ≡ x
    → process_end x ≡ Some (outcome.Aborted cause) → IsCounted may cause → HasFailed may s
has_failed may s q cause None is e counted = absurd (cc)
has_failed may s q cause (Some (Over (Aborted c))) is e counted =
    (q, (c, is, subst (IsCounted may) (sym (same_cause c cause e)) counted))
has_failed may s q cause (Some (Over (Ended z))) is e counted = absurd (cc)
has_failed may s q cause (Some other) is e counted = absurd (cc)

-- a run of the program that explains a run of its image, by what came from outside in both
module _ (p : Program) (may : Outside) (steps : List Step) (actions : List Action) (source : SourceState)
    (is_run : IsRun p actions source) (strays : processes_of is_stray_kind actions ≡ stray_threads p steps)
    (kills : processes_of is_kill_kind actions ≡ killed_threads steps) (calm : IsSearched p may steps) where
  from : AreFrom may actions
  from = (
    are_named may actions (λ e. strays ∙ calm.called_for e),
    omega (arith, kills_are actions, ap length kills, calm.killed),
  )

  over_at : LeadsNowhere p may (IsStuck p) → ((q : ℕ) → CanMove p source q → ⊥) → (q : ℕ) (at : Process)
      → source.process q ≡ Some at → IsOver at ⊎ (IsOver at → ⊥) → IsOver at
  over_at nowhere rests q at stands (inl is) = is
  over_at nowhere rests q at stands (inr not) =
      absurd (nowhere actions source is_run from
      (record { rests = rests; process = q; at = at; stands = stands; goes_on = not }))

  -- where no run gets stuck, and no process can move, each is over, and so has each thread ended
  pub each_over : (s : State) → s.output ≡ source.printed → ((q : ℕ) → machine_end s q ≡ source_end source q)
      → ((q : ℕ) → is_some (s.thread q) ≡ is_some (source.process q)) → (AreOver source → HaveEnded s)
      → LeadsNowhere p may (IsStuck p) → ((q : ℕ) → CanMove p source q → ⊥) → AllOver p s
  each_over s output ends made ended nowhere rests =
      let over : AreOver source = λ q at stands. over_at nowhere rests q at stands (is_over at) in
      record {
        actions = actions;
        source = source;
        run = is_run;
        output = output;
        ends = ends;
        over = over;
        made = made;
        ended = ended over;
      }

  -- where none aborts in any run, none has
  pub nobody_aborted : LeadsNowhere p may (HasFailed may) → (q : ℕ) (cause : Cause)
      → source_end source q ≡ Some (outcome.Aborted cause) → IsCounted may cause → ⊥
  nobody_aborted nowhere q cause e counted =
      nowhere actions source is_run from (has_failed may source q cause (source.process q) refl e counted)

module _ (p : Program) (image : Image) (may : Outside) (steps : List Step) (s : State) (refines : Refines p image)
    (run : MachineRun image steps s) (few : length steps < 2 ^ 32)
    (calm : IsSearched p may steps) where
  explained : Explained p image steps s
  explained = refines.follows steps s run few

  pub all_over : LeadsNowhere p may (IsStuck p) → ((t : ℕ) → CanStep s t → ⊥) → AllOver p s
  all_over nowhere rests =
      each_over p may steps explained.actions explained.source explained.run explained.strays explained.kills calm s
      explained.output explained.ends explained.made (ended_so p image steps s explained rests) nowhere
      (explained.at_rest rests)

  pub none_aborted : LeadsNowhere p may (HasFailed may) → (q : ℕ) (cause : Cause)
      → machine_end s q ≡ Some (outcome.Aborted cause) → IsCounted may cause → ⊥
  none_aborted nowhere q cause e counted =
      nobody_aborted p may steps explained.actions explained.source explained.run explained.strays explained.kills calm
      nowhere q cause (sym (explained.ends q) ∙ e) counted

-- the same of a run in pieces
module _ (p : Program) (image : Image) (may : Outside) (buckets : ℕ) (steps : List Step) (s : PieceState)
    (refines : RefinesInPieces p image) (some : 0 < buckets) (run : PieceRun image buckets steps s)
    (few : length steps < 2 ^ 32) (calm : IsSearched p may steps) where
  explained_in_pieces : ExplainedInPieces p image steps s
  explained_in_pieces = refines.follows buckets steps s some run few

  pub all_over_in_pieces : LeadsNowhere p may (IsStuck p) → RestsInPieces image s → AllOver p s.base
  all_over_in_pieces nowhere rests =
      let e = explained_in_pieces in
      each_over p may steps e.actions e.source e.run e.strays e.kills calm s.base e.output e.ends e.made
      (ended_in_pieces p image steps s e rests) nowhere (e.at_rest rests)

  pub none_aborted_in_pieces : LeadsNowhere p may (HasFailed may) → (q : ℕ) (cause : Cause)
      → machine_end s.base q ≡ Some (outcome.Aborted cause) → IsCounted may cause → ⊥
  none_aborted_in_pieces nowhere q cause is counted =
      let e = explained_in_pieces in
      nobody_aborted p may steps e.actions e.source e.run e.strays e.kills calm nowhere q cause (sym (e.ends q) ∙ is)
      counted
