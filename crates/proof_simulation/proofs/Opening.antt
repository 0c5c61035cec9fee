-- The opening states belong together.
use Rattle.std.proofs.Common.{◌≡◌, ℕ, ◌-◌, ◌==◌, Bool, true, false, List, [], ◌++◌, length, Option, Some, None, refl}
use Rattle.std.proofs.Common.{ap, sym, ◌∙◌, subst, arith, cond, inl, ℤ, pos}
use Rattle.std.proofs.lemmas.Bool.{eqb-true, false≢true}
use Rattle.words.specs.Updates.{put}
use Rattle.words.specs.Process.{process_word}
use Rattle.words.specs.Signed.{word_of}
use Rattle.words.specs.Versions.{most_of}
use Rattle.words.proofs.Versions.{most_some}
use Rattle.locals.specs.Threads.{Thread, opening_thread}
use Rattle.machine.specs.States.{opening_state}
use Rattle.program.specs.declared.kinds.Member.{Member}
use Rattle.program.specs.declared.kinds.MemberType.{MemberType}
use Rattle.program.specs.declared.kinds.MemberType.TheVariants.{Variable, Condition, Array}
use Rattle.program.specs.declared.kinds.ValueType.TheVariants.{Integer}
use Rattle.program.specs.declared.kinds.Role.{Role}
use Rattle.program.specs.declared.kinds.Role.TheVariants.{Main}
use Rattle.program.specs.Scope.{member_type}
use Rattle.program.specs.Trees.{Block, Done, Then, Return, Procedure, Program}
use Rattle.program.specs.WellFormed.{WellFormed, RoleFits}
use Rattle.lowering.specs.Pieces.{code_of, start_of}
use Rattle.meaning.specs.Values.{Variables}
use Rattle.meaning.specs.Processes.{Frame, Process, goes_on, goes_on_by, begins, frame_of, zeros, holds}
use Rattle.meaning.specs.Processes.{monitor_of_role}
use Rattle.meaning.specs.States.{opening, main_process}
use Rattle.protocol.specs.Points.{Unmade, Runs, Thread as Place, thread_at}
use Rattle.protocol.specs.World.{opening_world, mem, opening_thread as opening_place}
use Rattle.protocol.specs.Cells.{Cell, LockOf, LinkOf, HeadOf, PendingOf, IdOf, ClaimOf, ResultOf, OutcomeOf}
use Rattle.protocol.specs.Cells.{SequenceOf, cell}
use Rattle.protocol.specs.Memory.{stored_value}
use Rattle.words.proofs.Updates.{at_put}
use Rattle.proof_thread.specs.Typed.{HaveValues}
use Rattle.proof_thread.specs.Variables.{HasIndex, IsVariable, variable_address, ValueFits, VariablesFit}
use Rattle.proof_thread.specs.Walks.{stays}
use Rattle.proof_thread.specs.Following.{Stands, is_first}
use Rattle.proof_thread.proofs.Beginning.{begins_at}
use Rattle.proof_thread.proofs.Putting.{zero_value}
use Rattle.refinement.specs.Built.{build_of}
use Rattle.refinement.proofs.Building.{is_build}
use Rattle.proof_templates.specs.Layout.{place, valid}
use Rattle.proof_templates.proofs.Layouts.{apart, number_is}
use Rattle.proof_templates.proofs.Addresses.{variable_apart}
use Rattle.proof_simulation.specs.Standing.{StandsAt, unmade}
use Rattle.proof_simulation.specs.Corresponding.{Corresponds}
use Rattle.proof_simulation.proofs.Templating.{works_on}
use Rattle.proof_simulation.specs.Deferred.{stages, stage_of}
use Rattle.proof_simulation.specs.Deferred as W
use Rattle.proof_simulation.specs.Deferred.{notified_at, raised_at}
use Rattle.std.specs.Prelude.{is_some}

begins_main : (values : List ℤ) (q : Procedure) → q.role ≡ Main → begins
    (record { role = q.role; locals = values; rest = q.body }) [] ≡ goes_on None
    (record { role = q.role; locals = values; rest = q.body }) []
begins_main values q e = rw e refl

-- the main part is outside all monitors
main_free : (rest : Block) (f : Frame) → f.role ≡ Main → holds (goes_on_by Main rest None f []) ≡ []
main_free Done f e = refl
main_free (Then (Return v) rest) f e = refl
main_free (Then s rest) f e = ap (λ (r : Role). monitor_of_role r []) e

-- where a thread is at first, by whether it is the main thread
abbrev first_place : Bool → Place
first_place b = cond b (thread_at Runs []) (thread_at Unmade [])

-- all variables begin with values that fit every type
abbrev nothing : Variables
nothing = λ m n i. pos 0

zero_fits : (most made : ℕ) (o : Option MemberType) (i : ℕ) → HasIndex o i → ValueFits most made o (pos 0)
zero_fits most made None i h = h
zero_fits most made (Some (Variable t)) i h = zero_value most made t
zero_fits most made (Some Condition) i h = h
zero_fits most made (Some (Array n)) i h = zero_value most made Integer

opening_fit : (p : Program) (made m : ℕ) → VariablesFit made p m nothing
opening_fit p made m d i same is = zero_fits (most_of p.version) made (member_type p d) i is

module _ (p : Program) (w : WellFormed p) where
  abbrev number : ℕ
  number = length p.procedures - 1

  fits : RoleFits p number w.main Main
  fits = subst (RoleFits p number w.main) w.is_main (w.procedures number w.main w.is_last).role

  abbrev first_thread : Thread
  first_thread = opening_thread (start_of p number) []

  abbrev first_frame : Frame
  first_frame = record { role = w.main.role; locals = [] ++ zeros w.main.locals; rest = w.main.body }

  opens_main : main_process p ≡ goes_on None first_frame []
  opens_main = ap (λ (o : Option Procedure). begins (frame_of o []) []) w.is_last
      ∙ begins_main ([] ++ zeros w.main.locals) w.main w.is_main

  main_stands : Stands (build_of p w 1) 1 first_thread (main_process p)
  main_stands =
      let stands = begins_at (build_of p w 1) (is_build p w 1) 1 number w.main [] [] [] w.is_last
      (subst (λ ts. HaveValues (most_of p.version) 1 ts []) (sym fits.1) tt) (is_first (inl (w.is_main, fits.2))) in
      let opens = opens_main ∙ sym (begins_main ([] ++ zeros w.main.locals) w.main w.is_main) in
      subst (λ (q : Process). Stands (build_of p w 1) 1 first_thread q) (sym opens) stands

  holds_none : holds (main_process p) ≡ []
  holds_none = ap holds opens_main
      ∙ ap (λ (r : Role). holds (goes_on_by r w.main.body None first_frame [])) w.is_main
      ∙ main_free w.main.body first_frame w.is_main

  main_works : StandsAt (build_of p w 1) nothing 1 (Some first_thread) (Some (main_process p)) Runs []
  main_works =
      subst (λ (l : List ℕ). StandsAt (build_of p w 1) nothing 1 (Some first_thread) (Some (main_process p)) Runs l)
      holds_none
      (works_on p w 1 nothing 1 first_thread first_thread (main_process p) (λ m. opening_fit p 1 m)
      (record { count = 0; few = omega arith; walk = stays }) main_stands).0

  first_process : valid p (IdOf 1) ≡ true
  first_process = number_is p 1 (omega arith) (omega (arith, most_some p.version))

  -- all words are 0, but the main process's id
  first_word : (a : Cell) → valid p a ≡ true
      → put (λ x. 0) (process_word 1 2) 1 (place p a) ≡ stored_value (place p) a (cell (opening_world p.version) a)
  first_word a ok = at_put (λ x. 0) (process_word 1 2) 1 (place p a)
      (λ v. v ≡ stored_value (place p) a (cell (opening_world p.version) a))
      (λ e. same a (apart p a (IdOf 1) ok first_process e))
      (λ o. other a o)
    where
      same : (a : Cell) → a ≡ IdOf 1 → 1 ≡ stored_value (place p) a (cell (opening_world p.version) a)
      same a e = subst (λ (b : Cell). 1 ≡ stored_value (place p) b (cell (opening_world p.version) b)) (sym e) refl

      other : (a : Cell) → (place p a ≡ process_word 1 2 → ⊥)
          → 0 ≡ stored_value (place p) a (cell (opening_world p.version) a)
      other (LockOf m) o = refl
      other (LinkOf m) o = refl
      other (HeadOf t) o = refl
      other (PendingOf t) o = refl
      other (IdOf t) o = by_test (t == 1) refl
        where
          by_test : (b : Bool) → (t == 1) ≡ b → ◌≡◌ {A = ℕ} 0 (cond b 1 0)
          by_test true e = absurd (o (ap (λ u. process_word u 2) (eqb-true t 1 e)))
          by_test false e = refl
      other (ClaimOf t) o = refl
      other (ResultOf t) o = refl
      other (OutcomeOf t) o = refl
      other (SequenceOf c) o = refl

  first_variable : (m : Member) (i : ℕ) → IsVariable p m i
      → put (λ x. 0) (process_word 1 2) 1 (variable_address p m i) ≡ word_of (pos 0)
  first_variable m i is = at_put (λ x. 0) (process_word 1 2) 1 (variable_address p m i) (λ v. v ≡ word_of (pos 0))
      (λ e. absurd (variable_apart p m i (IdOf 1) is first_process e)) (λ o. refl)

  pub opens : Corresponds p w 0 (opening_state (code_of p)) (opening p)
  opens = record {
    world = opening_world p.version;
    reached = record { moves = []; led = refl; table = refl };
    shares = record {
      words = record { word = first_word };
      sleeps = λ u. refl;
      spots = λ u x e. absurd cc;
    };
    size = refl;
    most = refl;
    made = refl;
    output = refl;
    variables = first_variable;
    fit = λ m. opening_fit p 1 m;
    threads = thread;
    lists = λ u m h. absurd (listed u m h);
    words = λ u. omega arith;
    blank = λ u h. refl;
    numbers = λ d. omega arith;
  }
    where
      thread : (u : ℕ) → StandsAt (build_of p w 1) nothing u ((opening_state (code_of p)).thread u)
          ((opening p).process u) (opening_place u).point (opening_place u).list
      thread u = by_test (u == 1) refl
        where
          by_test : (b : Bool) → (u == 1) ≡ b → StandsAt (build_of p w 1) nothing u (cond b (Some first_thread) None)
              (cond b (Some (main_process p)) None) (first_place b).point (first_place b).list
          by_test true e = subst (λ v. StandsAt (build_of p w 1) nothing v (Some first_thread) (Some (main_process p))
              Runs []) (sym (eqb-true u 1 e)) main_works
          by_test false e = unmade

      listed : (u m : ℕ) → mem m (opening_place u).list ≡ true → ⊥
      listed u m h = by_test (u == 1) h
        where
          by_test : (b : Bool) → mem m (first_place b).list ≡ true → ⊥
          by_test true g = false≢true g
          by_test false g = false≢true g

-- no thread has raised a number at first
pub opens_quiet : (p : Program) (w : WellFormed p) (u : ℕ) → raised_at (opens p w).world u ≡ false
unfolding opens
opens_quiet p w u = by_test (u == 1)
  where
    by_test : (b : Bool) → is_some (notified_at (first_place b).point) ≡ false
    by_test true = refl
    by_test false = refl

-- each thread works at first
pub opens_calm : (p : Program) (w : WellFormed p) (u : ℕ) → stages (opens p w).world u ≡ W.Works
unfolding opens
opens_calm p w u = by_test (u == 1)
  where
    by_test : (b : Bool) → stage_of (first_place b).point ≡ W.Works
    by_test true = refl
    by_test false = refl
