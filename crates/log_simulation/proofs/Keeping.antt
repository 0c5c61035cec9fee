-- A recorder keeps up with the entries of a log.
use Rattle.std.proofs.Common.{◌≡◌, ◌+◌, ◌<◌, ◌≤◌, ℕ, zero, suc, List, [], ◌∷◌, length, Option, Some, None, Ok, true, false}
use Rattle.std.proofs.Common.{ap, sym, ◌∙◌, arith, subst, length-append}
use Rattle.std.specs.Prelude.{◌^◌, ◌++◌, replicate}
use Rattle.std.proofs.lemmas.List.{length-replicate}
use Rattle.words.specs.Limits.{most_threads}
use Rattle.locals.specs.Threads.{Thread}
use Rattle.locals.specs.Looks.{look}
use Rattle.locals.specs.Steps.{local_after}
use Rattle.machine.specs.FrontRuns.{EventStep}
use Rattle.machine.specs.States.{state_of as machine_state, thread_of}
use Rattle.machine.specs.ConcretePieces.{is_piece}
use Rattle.piece_machine.specs.PieceConcrete.{PieceConcrete, kill_piece, stray_piece}
use Rattle.piece_machine.proofs.Beyond.{piece_kills_so, piece_strays_so}
use Rattle.machine.proofs.Outside.{is_sleeper}
use Rattle.machine.specs.declared.event.Entry.{Entry}
use Rattle.machine.specs.declared.event.Event.{Event}
use Rattle.runner.specs.LogRuns.{local_step_of, shared_step_of, steps_of}
use Rattle.runner.specs.Logs.{EntersOwn, Runs, cost, opening}
use Rattle.runner.proofs.Unrolling.{runs_so}
use Rattle.lowering.specs.Pieces.{code_of}
use Rattle.program.specs.Trees.{Program}
use Rattle.program.specs.WellFormed.{WellFormed}
use Rattle.words.proofs.Versions.{most_few}
use Rattle.lowering_limits.proofs.Memory.{size}
use Rattle.proof_simulation.specs.Explaining.{IsDue}
use Rattle.proof_simulation.specs.Progress.{Progress}
use Rattle.log_simulation.specs.Entries.{ComesTo, entry_steps, is_visible, progress_end, progress_entry}
use Rattle.log_simulation.specs.Entries.{progress_locally}
use Rattle.proof_explaining.specs.Events.{progress_told, whole_of}
use Rattle.proof_explaining.proofs.Told.{as_many}
use Rattle.log_simulation.proofs.Progressing.{due_so, enters_so}
use Rattle.log_simulation.specs.declared.recorder.Recorder.{Recorder}
use Rattle.log_simulation.specs.Recording.{IsAlong, IsAlongStep, IsOf, KeepsUp, RecordsUnlessLong}
use Rattle.runner.proofs.Once.{here_once, within_made}

-- a thread stands at one place
origin_once : (k : PieceConcrete) (t : ℕ) (a b : Thread) → thread_of k.concrete t ≡ Some a → thread_of k.concrete t ≡ Some b → a ≡ b
origin_once k t a b x y = let e : Some a ≡ Some b = sym x ∙ y in cc

module _ (p : Program) (events : List EventStep) (k k' : PieceConcrete) (e : Entry) (o here : Thread)
    (enters : EntersOwn (code_of p) k e k') (stands : thread_of k.concrete e.thread ≡ Some o)
    (goes : local_after (code_of p) e.thread e.local o ≡ Some here) where
  same_origin : enters.origin ≡ o
  same_origin = origin_once k e.thread enters.origin o enters.stands stands

  same_here : enters.here ≡ here
  same_here = here_once (code_of p) k e.thread e.local enters.origin enters.here o here enters.stands enters.goes stands
      goes

  comes_at : (g : Progress) → ComesTo p events k g
      → ComesTo p (events ++ entry_steps e) k' (progress_entry p e o here (machine_state k.concrete).word k' g)
  comes_at g comes =
      subst (λ (x : Thread). ComesTo p (events ++ entry_steps e) k' (progress_entry p e x here (machine_state k.concrete).word k' g)) same_origin
      (subst (λ (x : Thread). ComesTo p (events ++ entry_steps e) k'
      (progress_entry p e enters.origin x (machine_state k.concrete).word k' g)) same_here
      (enters_so p events k k' e g comes enters))

  -- what is due of a shared step
  pub due_at : (g : Progress) → ComesTo p events k g → WellFormed p → (event : Event) → e.event ≡ Some event
      → is_piece event.name ≡ false
      → is_visible p (machine_state k.concrete).word e.thread (look (code_of p) e.thread here) event.value ≡ true
      → length events + e.local + 1 < 2 ^ 32
      → IsDue p (whole_of p k') e.thread (progress_locally p e.thread e.local o g)
  due_at g comes w event is whole visible short =
      subst (λ (x : Thread). IsDue p (whole_of p k') e.thread (progress_locally p e.thread e.local x g)) same_origin
      (due_so p events k k' e g comes enters w event is whole
      (ap (λ (x : Thread). is_visible p (machine_state k.concrete).word e.thread (look (code_of p) e.thread x) event.value) same_here ∙ visible) short)

  shared_many : (event : Option Event) → length (events ++ (replicate e.local (local_step_of e.thread)
      ++ shared_step_of e.thread event))
      ≡ length events + e.local + length (shared_step_of e.thread event)
  shared_many event =
      let first = length-append events (replicate e.local (local_step_of e.thread) ++ shared_step_of e.thread event) in
      let second = length-append (replicate e.local (local_step_of e.thread)) (shared_step_of e.thread event) in
      let locals = length-replicate e.local (local_step_of e.thread) in
      omega (arith, first, second, locals)

  -- by local steps alone
  pub keeps_locally : (r r' : Recorder) (along : IsAlong p events k r) → e.event ≡ None → IsOf p r'
      → RecordsUnlessLong (length events + e.local) (progress_locally p e.thread e.local o along.source) r'
      → IsAlong p (events ++ entry_steps e) k' r'
  keeps_locally r r' along alone of tells =
      let g = progress_locally p e.thread e.local o along.source in
      let many = shared_many None in
      let count : length events + e.local ≡ length (events ++ (replicate e.local (local_step_of e.thread) ++ [])) =
      omega (arith, many) in
      record {
        of_program = of;
        source = progress_entry p e o here (machine_state k.concrete).word k' along.source;
        comes = comes_at along.source along.comes;
        told = subst (λ (x : Option Event). RecordsUnlessLong
            (length (events ++ (replicate e.local (local_step_of e.thread)
            ++ shared_step_of e.thread x))) (progress_end p e.thread here (machine_state k.concrete).word x k' g) r') (sym alone)
            (subst (λ n. RecordsUnlessLong n g r') count tells);
      }

  -- and a shared one behind them
  pub keeps_shared : (r r' : Recorder) (along : IsAlong p events k r) (event : Event) → e.event ≡ Some event → IsOf p r'
      → RecordsUnlessLong (length events + e.local + 1)
      (progress_told p e.thread here (machine_state k.concrete).word event (whole_of p k')
      (progress_locally p e.thread e.local o along.source)) r'
      → IsAlong p (events ++ entry_steps e) k' r'
  keeps_shared r r' along event is of tells =
      let g = progress_locally p e.thread e.local o along.source in
      let many = shared_many (Some event) in
      record {
        of_program = of;
        source = progress_entry p e o here (machine_state k.concrete).word k' along.source;
        comes = comes_at along.source along.comes;
        told = subst (λ (x : Option Event). RecordsUnlessLong
            (length (events ++ (replicate e.local (local_step_of e.thread)
            ++ shared_step_of e.thread x))) (progress_end p e.thread here (machine_state k.concrete).word x k' g) r') (sym is)
            (subst (λ n. RecordsUnlessLong n
            (progress_told p e.thread here (machine_state k.concrete).word event (whole_of p k') g) r') (sym many) tells);
      }

-- by a step from outside
pub keeps_outside : (p : Program) (events : List EventStep) (k k' : PieceConcrete) (t : ℕ) (event : Event)
    (g : Progress) (r r' : Recorder) → IsAlong p events k r → IsOf p r'
    → ComesTo p (events ++ record { thread = t; event = event } ∷ []) k' g
    → RecordsUnlessLong (length events + 1) g r'
    → IsAlong p (events ++ record { thread = t; event = event } ∷ []) k' r'
keeps_outside p events k k' t event g r r' along of comes tells =
    let step : EventStep = record { thread = t; event = event } in
    let long = length-append events (step ∷ []) in
    let count : length events + 1 ≡ length (events ++ step ∷ []) = omega (arith, long) in
    record {
      of_program = of;
      source = g;
      comes = comes;
      told = subst (λ n. RecordsUnlessLong n g r') count tells;
    }

-- the entry of such a step
pub keeps_entry : (p : Program) (k k' : PieceConcrete) (e : Entry) (event : Event) (r r' : Recorder)
    → e.local ≡ 0 → e.event ≡ Some event → IsAlongStep p k r e.thread event k' r' → KeepsUp p k r e k' r'
keeps_entry p k k' e event r r' alone is told w events along =
    subst (λ j. IsAlong p (events ++ (replicate j (local_step_of e.thread) ++ shared_step_of e.thread e.event)) k' r')
    (sym alone)
    (subst (λ (o : Option Event). IsAlong p (events ++ shared_step_of e.thread o) k' r') (sym is) (told w events along))

-- there are fewer words than numbers of words
pub few_words : (p : Program) (events : List EventStep) (k : PieceConcrete) (g : Progress) → WellFormed p
    → ComesTo p events k g → length k.concrete.common.words < 2 ^ 32
few_words p events k g w comes =
    let sized = comes.fit.well.sized in
    let s = size p in
    let most = most_few p.version in
    let few = w.monitors in
    let words = w.words in omega (arith, sized, s, most, few, words)

-- a thread that is killed was made
pub made_killed : (p : Program) (events : List EventStep) (k k' : PieceConcrete) (g : Progress) (t : ℕ)
    (event : Event) → ComesTo p events k g → kill_piece (code_of p) k t ≡ Ok (k', event)
    → (x : Thread) × (thread_of k.concrete t ≡ Some x)
made_killed p events k k' g t event comes gives =
    let step = (piece_kills_so (code_of p) k k' t event comes.fit gives).0.step.kills in (step.thread, step.stands)

-- a thread that sleeps has a number that threads have
pub sleeps_within : (p : Program) (events : List EventStep) (k k' : PieceConcrete) (g : Progress) (t : ℕ)
    (event : Event) → ComesTo p events k g → stray_piece k t ≡ Ok (k', event) → t ≤ most_threads
sleeps_within p events k k' g t event comes gives =
    let sleeps = (piece_strays_so (code_of p) k k' t event comes.fit gives).0.step.strays.sleeps in
    (is_sleeper (code_of p) k.concrete t event.value comes.fit.well sleeps).1

-- a thread that stands somewhere has a number that threads have
pub within_most : (p : Program) (events : List EventStep) (k : PieceConcrete) (g : Progress) (t : ℕ) (o : Thread)
    → ComesTo p events k g → thread_of k.concrete t ≡ Some o → t ≤ most_threads
within_most p events k g t o comes stands =
    let made = within_made k.concrete.threads t o stands in
    let few = comes.fit.well.few in
    let fits = comes.fit.well.fits in
    omega (arith, made, few, fits)

pub some_thread : (k : PieceConcrete) (t : ℕ) (o : Thread) → thread_of k.concrete t ≡ Some o → 0 < t
some_thread k zero o stands = absurd cc
some_thread k (suc t) o stands = omega arith

-- a log has as many steps as it costs
pub cost_steps : (p : Program) (log : List Entry) (k : PieceConcrete) → Runs (code_of p) (opening (code_of p)) log k
    → cost log ≡ length (steps_of log)
cost_steps p log k runs =
    let r = runs_so (code_of p) log k runs in
    let many = as_many r.0 (steps_of log) r.3 in
    let count = r.2 in
    omega (arith, many, count)
