-- From a statement to the next: prints, assignments, tests and the ABORT statement.
use Rattle.std.proofs.Common.{◌≡◌, ℕ, ◌+◌, ◌*◌, ◌≤◌, List, [], ◌∷◌, ◌++◌, length, Option, None, refl, ap, sym, ◌∙◌}
use Rattle.std.proofs.Common.{subst, arith, length-append, ℤ}
use Rattle.std.specs.Prelude.{slice_set}
use Rattle.words.specs.declared.outcome.Fault.TheVariants.{AbortStatement}
use Rattle.words.specs.Signed.{word_of}
use Rattle.isa.specs.declared.instr.Instr.TheVariants.{Print as Print', SetLocal, Raise}
use Rattle.isa.specs.declared.slot.Slot.TheVariants.{Local as Slot'}
use Rattle.program.specs.declared.kinds.ValueType.TheVariants.{Integer}
use Rattle.program.specs.Trees.{Expression, ToLocal, Statement, Assign, Print, Abort, Block, Then, Procedure, slots}
use Rattle.program.specs.Tokens.{expression_tokens, statement_tokens}
use Rattle.lowering.specs.Expressions.{expression_code}
use Rattle.lowering.specs.Marks.{with_mark}
use Rattle.lowering.specs.declared.mark.Mark.TheVariants as M
use Rattle.lowering.specs.Pieces.{setting_of}
use Rattle.locals.specs.declared.frame.Locals.{Locals}
use Rattle.locals.specs.declared.frame.Frame.{Frame as MachineFrame}
use Rattle.locals.specs.Threads.{Thread, Runs, Dies, with_local}
use Rattle.meaning.specs.Values.{Variables, Value, evaluate}
use Rattle.meaning.specs.Labels.{Faulted, Alone}
use Rattle.meaning.specs.Labels as L
use Rattle.meaning.specs.Processes.{Caller, Process, Before, goes_on}
use Rattle.meaning.specs.Offers.{Does, Writes}
use Rattle.proof_thread.specs.Evaluation.{OfType}
use Rattle.proof_thread.specs.Deferrals.{deferred_by_mark}
use Rattle.proof_thread.specs.Walks.{stays}
use Rattle.proof_thread.specs.Following.{Build, most_made, Implements, Stands}
use Rattle.proof_thread.specs.Completing.{Completes, Proceeds}
use Rattle.proof_thread.specs.Completing as F
use Rattle.proof_thread.proofs.Operators.{back}
use Rattle.proof_thread.proofs.Walking.{front_stands, back_stands, one_step, look_here}
use Rattle.proof_thread.proofs.Putting.{slot_below, put_typed, put_holds, put_length}
use Rattle.proof_thread.proofs.Contexts.{Context, frame_at, view_at, IsNoReturn, proceeds_on, proceeds_wider}
use Rattle.proof_thread.proofs.Contexts.{with_evaluation, is_before, stands_on}

-- the bound of a statement's steps
abbrev pub steps_of : Statement → ℕ
steps_of s = 2 * statement_tokens s

module _ (b : Build) (t : ℕ) (v : Variables) (place : ℕ) (l : Locals) (fs : List MachineFrame)
    (values : List ℤ) (rest : Block) (procedure : Procedure) (cs : List Caller) (entered : Option ℕ) where
  abbrev x : Thread
  x = Runs place [] l fs

  abbrev q : Statement → Process
  q s = Before entered (frame_at procedure values (Then s rest)) cs

  -- the same of the process as the source has it
  pub as_it_stands : (s : Statement) → Context b t v place l fs values s rest procedure cs → IsNoReturn s → (n : ℕ)
      → n ≤ steps_of s → Proceeds b t v n x (q s) → Proceeds b t v (steps_of s) x
      (goes_on entered (frame_at procedure values (Then s rest)) cs)
  as_it_stands s c k n le h =
      proceeds_wider b t v n (steps_of s) x _ le
      (subst (λ (r : Process). Proceeds b t v n x r)
      (sym (is_before b t v place l fs values s rest procedure cs c k entered)) h)

  -- the thread is where its process's action is completed
  pub at_once : (y : Thread) (r : Process) → Completes b t v y r → Proceeds b t v 0 y r
  at_once y r h = record { last = y; walk = record { count = 0; few = omega arith; walk = stays }; completes = h }

  pub print_proceeds : (e : Expression) → Context b t v place l fs values (Print e) rest procedure cs
      → Proceeds b t v (steps_of (Print e)) x (goes_on entered
      (frame_at procedure values (Then (Print e) rest)) cs)
  print_proceeds e c =
      let s = Print e in
      let p = b.program in
      let code = expression_code p e in
      let fits = c.sound.fits in
      let ev = c.evaluates in
      let here = front_stands b.code place code _ c.head.here in
      let last = back_stands b.code place code _ c.head.here in
      let end = place + length code in
      let give = ev.gives e Integer place [] fs fits here (omega (arith, c.sound.room)) in
      let len : place + length (code ++ with_mark M.Print Print' ∷ []) ≡ end + 1 = omega
      (arith, length-append code (with_mark M.Print Print' ∷ [])) in
      let after : Stands b t (Runs (end + 1) [] l fs) (goes_on None (frame_at procedure values rest) cs) =
      stands_on b t v place l fs values s rest procedure cs c l values rest
      (end + 1) c.head.jumps c.typed c.holds c.words c.later (omega (arith, c.head.few, c.head.deep))
      (subst
      (λ n. Implements b.code (setting_of p b.starts procedure) b.most c.head.jumps n rest) len c.head.more) in
      as_it_stands s c tt (2 * expression_tokens e + 0) (omega arith)
      (with_evaluation b t v (2 * expression_tokens e) 0 x (evaluate p v values e) end [] l fs
      (frame_at procedure values rest) cs _ (q s) refl
      refl give
      (λ z same o.
      let typed : OfType (most_made b) b.made Integer (Value z) =
      subst (OfType (most_made b) b.made Integer) same (ev.type e Integer fits) in
      let signed = back z typed in
      at_once (Runs end (word_of z ∷ []) l fs) (q s)
      (F.prints (word_of z) (λ a. Runs (end + 1) [] l fs) (look_here b.code t (view_at b procedure v) end Print'
      (word_of z ∷ []) l fs last.0)
      (o ∙ ap (λ (k : ℤ). Does (Alone (L.Print k)) (Writes k) (goes_on None (frame_at procedure values rest) cs))
      (sym signed)) (λ a. after))))

  pub abort_proceeds : Context b t v place l fs values Abort rest procedure cs → Proceeds b t v (steps_of Abort) x
      (goes_on entered (frame_at procedure values (Then Abort rest)) cs)
  abort_proceeds c =
      let step = one_step b.code t (view_at b procedure v) x (Dies (Faulted AbortStatement))
      (look_here b.code t (view_at b procedure v) place (Raise AbortStatement) [] l fs c.head.here.0)
      (ap deferred_by_mark c.head.here.0.1) in
      as_it_stands Abort c tt (1 + 0) (omega arith)
      (proceeds_on b t v 1 0 x (Dies (Faulted AbortStatement)) (q Abort) step
      (at_once (Dies (Faulted AbortStatement)) (q Abort)
      (F.faults AbortStatement refl refl)))

  -- a value goes into a local
  pub assign_proceeds : (slot : ℕ) (e : Expression) → Context b t v place l fs values
      (Assign (ToLocal slot) e) rest procedure cs → Proceeds b t v (steps_of (Assign (ToLocal slot) e)) x
      (goes_on entered (frame_at procedure values (Then (Assign (ToLocal slot) e) rest)) cs)
  assign_proceeds slot e c =
      let s = Assign (ToLocal slot) e in
      let p = b.program in
      let code = expression_code p e in
      let u = c.sound.fits.0 in
      let is_local = c.sound.fits.1 in
      let fits = c.sound.fits.2 in
      let ev = c.evaluates in
      let here = front_stands b.code place code _ c.head.here in
      let last = back_stands b.code place code _ c.head.here in
      let end = place + length code in
      let give = ev.gives e u place [] fs fits here (omega (arith, c.sound.room)) in
      let len : place + length (code ++ with_mark M.AssignLocal (SetLocal (Slot' slot)) ∷ []) ≡ end + 1 = omega
      (arith, length-append code (with_mark M.AssignLocal (SetLocal (Slot' slot)) ∷ [])) in
      as_it_stands s c tt (2 * expression_tokens e + 0) (omega arith)
      (with_evaluation b t v (2 * expression_tokens e) 0 x (evaluate p v values e) end [] l fs
      (frame_at procedure values rest) cs _ (q s) refl
      refl give
      (λ z same o.
      let typed : OfType (most_made b) b.made u (Value z) =
      subst (OfType (most_made b) b.made u) same (ev.type e u fits) in
      let within = slot_below (slots procedure) slot u is_local in
      let after : Stands b t (Runs (end + 1) [] (with_local l (Slot' slot) (word_of z)) fs)
      (goes_on None (frame_at procedure (slice_set values slot z) rest) cs) =
      stands_on b t v place l fs values s rest procedure cs c (with_local l (Slot' slot) (word_of z))
      (slice_set values slot z) rest (end + 1) c.head.jumps
      (put_typed (most_made b) b.made (slots procedure) values slot u z c.typed is_local typed)
      (put_holds l.values values slot z c.holds (omega (arith, within, c.few, c.words)))
      (put_length l.values slot (word_of z) ∙ c.words) c.later
      (omega (arith, c.head.few, c.head.deep)) (subst (λ n. Implements b.code
      (setting_of p b.starts procedure) b.most c.head.jumps n rest) len c.head.more) in
      at_once (Runs end (word_of z ∷ []) l fs) (q s)
      (F.acts L.Assign tt (look_here b.code t (view_at b procedure v) end (SetLocal (Slot' slot))
      (word_of z ∷ []) l fs last.0) (ap deferred_by_mark last.0.1) o after)))
