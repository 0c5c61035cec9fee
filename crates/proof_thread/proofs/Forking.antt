-- A FORK, from its arguments to the beginning of the process that it makes.
use Rattle.std.proofs.Common.{◌≡◌, ℕ, suc, ◌+◌, ◌*◌, ◌≤◌, List, [], ◌∷◌, ◌++◌, length, Option, None}
use Rattle.std.proofs.Common.{refl, ap, ◌∙◌, subst, arith, length-append, ℤ, pos, true, inr}
use Rattle.std.specs.Prelude.{slice_set}
use Rattle.std.proofs.Math.Seq.{take-length, drop-length}
use Rattle.std.proofs.lemmas.Bool.{le-leb}
use Rattle.words.specs.declared.outcome.Fault.TheVariants.{ProcessTableFull}
use Rattle.isa.specs.declared.instr.Instr.TheVariants.{Fork as Fork', SetLocal}
use Rattle.isa.specs.declared.slot.Slot.TheVariants.{Local as Slot'}
use Rattle.program.specs.declared.kinds.ValueType.{ValueType}
use Rattle.program.specs.Trees.{Expression, Fork, Block, Then, Procedure, slots}
use Rattle.program.specs.Scope.{scope_of, Scope}
use Rattle.program.specs.Typing.{ArgumentsFit}
use Rattle.program.specs.Tokens.{arguments_tokens}
use Rattle.lowering.specs.Expressions.{arguments_code}
use Rattle.lowering.specs.Processes.{fork_code}
use Rattle.lowering.specs.Pieces.{setting_of}
use Rattle.lowering.specs.Marks.{with_mark}
use Rattle.lowering.specs.declared.mark.Mark.TheVariants as M
use Rattle.locals.specs.declared.frame.Locals.{Locals}
use Rattle.locals.specs.declared.frame.Frame.{Frame as MachineFrame}
use Rattle.locals.specs.Threads.{Thread, Runs, Dies, with_local}
use Rattle.locals.specs.Looks.{Asks, AskFork, look, thread_after_try}
use Rattle.meaning.specs.Values.{Variables, EvaluatedAll, Values, FailsAll, evaluate_all}
use Rattle.meaning.specs.Processes.{Caller, Process, Before, goes_on, begins, opening_frame, frame_of, zeros}
use Rattle.meaning.specs.Processes as P
use Rattle.meaning.specs.Offers.{MakesOne, offer, with_values, dies}
use Rattle.proof_thread.specs.Typed.{HaveValues}
use Rattle.proof_thread.specs.Walks.{StandAt, WalksWithin, empty_view}
use Rattle.proof_thread.specs.Following.{Build, most_made, with_made, is_first, Stands, Implements}
use Rattle.proof_thread.specs.Completing.{Proceeds}
use Rattle.proof_thread.specs.Completing as F
use Rattle.proof_thread.specs.Builds.{IsBuild}
use Rattle.proof_thread.proofs.Holding.{first_holds}
use Rattle.proof_thread.proofs.Walking.{front_stands, back_stands, one_step, look_here, wider}
use Rattle.proof_thread.proofs.Contexts.{Context, frame_at, view_at, proceeds_on, stands_by}
use Rattle.proof_thread.proofs.Stepping.{steps_of, as_it_stands, at_once}
use Rattle.proof_thread.proofs.Putting.{slot_below, put_typed, put_holds, put_length}
use Rattle.proof_thread.proofs.Arguments.{stacked, arguments_typed, arguments_give, GivesAll, HaveAll, values_length}
use Rattle.proof_thread.proofs.Beginning.{begins_at}
use Rattle.proof_thread.proofs.Growing.{values_grow, build_grows, callers_grow}
use Rattle.words.specs.Signed.{word_of}
use Rattle.words.specs.declared.outcome.Cause.TheVariants.{Faulted}
use Rattle.proof_thread.specs.Deferrals.{IsAt, deferred_by_mark}

stacked_length : (zs : List ℤ) (operands : List ℕ) → length (stacked zs operands) ≡ length zs + length operands
stacked_length [] operands = omega arith
stacked_length (z ∷ zs) operands = let r = stacked_length zs (word_of z ∷ operands) in omega (arith, r)

fit_length : (s : Scope) (es : List Expression) (ts : List ValueType) → ArgumentsFit s es ts → length es ≡ length ts
fit_length s [] [] h = refl
fit_length s [] (t ∷ ts) h = absurd h
fit_length s (e ∷ es) [] h = absurd h
fit_length s (e ∷ es) (t ∷ ts) h = ap suc (fit_length s es ts h.1)

module _ (b : Build) (is : IsBuild b) (t : ℕ) (v : Variables) (place : ℕ) (l : Locals)
    (fs : List MachineFrame) (values : List ℤ) (rest : Block) (procedure : Procedure) (cs : List Caller)
    (entered : Option ℕ) where
  -- the look at a FORK that takes all operands
  fork_look : (at entry : ℕ) (operands : List ℕ) → IsAt b.code at (with_mark M.Fork (Fork' entry (length operands)))
      → look b.code.image t (Runs at operands l fs) ≡ Asks (AskFork entry operands true)
      (λ n. thread_after_try ProcessTableFull n (Runs (at + 1) (n ∷ []) l fs))
  fork_look at entry operands h =
      look_here b.code t (view_at b procedure v) at (Fork' entry (length operands)) operands l fs h
      ∙ rw (take-length operands, drop-length operands, le-leb (length operands) (length operands) (omega arith)) refl

  pub fork_proceeds : (qn : ℕ) (es : List Expression) (into : ℕ) → Context b t v place l fs values
      (Fork qn es into) rest procedure cs → Proceeds b t v (steps_of (Fork qn es into)) (Runs place [] l fs)
      (goes_on entered (frame_at procedure values (Then (Fork qn es into) rest)) cs)
  fork_proceeds qn es into c =
      let s = Fork qn es into in
      let p = b.program in
      let args = arguments_code p es in
      let ev = c.evaluates in
      let fits = c.sound.fits in
      let here = front_stands b.code place args _ c.head.here in
      let give = arguments_give b.code b.made t
      (scope_of p procedure) v values l ev es fits.1.parameters place [] fs fits.4 here
      (omega (arith, c.sound.room)) in
      as_it_stands b t v place l fs values rest procedure cs entered s c tt (2 * arguments_tokens es + 0)
      (omega arith)
      (by_values (evaluate_all p v values es) refl give (arguments_typed b.code b.made t
      (scope_of p procedure) v values l ev es fits.1.parameters fits.4))
    where
      x : Thread
      x = Runs place [] l fs

      end : ℕ
      end = place + length (arguments_code b.program es)

      pending : Process
      pending = Before entered (frame_at procedure values (Then (Fork qn es into) rest)) cs

      callee : Procedure
      callee = c.sound.fits.1

      behind : StandAt b.code end (fork_code (b.starts qn) (length es) into)
      behind = back_stands b.code place (arguments_code b.program es) _ c.head.here

      after : ℕ → Process
      after child = goes_on None (P.with_local (frame_at procedure values rest) into (pos child)) cs

      go : ℕ → Thread
      go n = thread_after_try ProcessTableFull n (Runs (end + 1) (n ∷ []) l fs)

      len : place + length (arguments_code b.program es ++ fork_code (b.starts qn) (length es) into) ≡ end + 1 + 1
      len = omega (arith, length-append (arguments_code b.program es) (fork_code (b.starts qn) (length es) into))

      -- with the number of the child in its local
      mine : (n : ℕ) → b.made ≤ suc n → suc n ≤ most_made b
          → Stands (with_made b (suc n)) t (go (suc n)) (after (suc n))
      mine n more few =
          let made = suc n in
          let within = slot_below (slots procedure) into _ c.sound.fits.5 in
          let l' = with_local l (Slot' into) made in
          stands_by (with_made b made) t fs procedure cs c.number c.is_there c.few
          (callers_grow b made more c.number procedure fs cs c.callers) (go made) l' (slice_set values into (pos made))
          rest (end + 1 + 1) c.head.jumps
          (put_typed (most_made b) made (slots procedure) values into _ (pos made)
          (values_grow (most_made b) b.made made more (slots procedure) values c.typed) c.sound.fits.5
          (made, refl, omega arith, few))
          (put_holds l.values values into (pos made) c.holds (omega (arith, within, c.few, c.words)))
          (put_length l.values into made ∙ c.words) c.later (omega (arith, c.head.few, c.head.deep))
          (subst (λ k. Implements b.code (setting_of b.program b.starts procedure) b.most c.head.jumps k rest) len
          c.head.more)
          (wider b.code t (empty_view b.program) 1 16 _ _ (omega arith)
          (one_step b.code t (empty_view b.program) (go made) _
          (look_here b.code t (empty_view b.program) (end + 1) (SetLocal (Slot' into)) (made ∷ []) l fs behind.1.0)
          (ap deferred_by_mark behind.1.0.1)))

      by_values : (zs : EvaluatedAll) → evaluate_all b.program v values es ≡ zs → GivesAll b.code t
          (view_at b procedure v)
          (2 * arguments_tokens es) x (evaluate_all b.program v values es) end [] l fs
          → HaveAll (most_made b) b.made callee.parameters
          (evaluate_all b.program v values es)
          → Proceeds b t v (2 * arguments_tokens es + 0) x pending
      by_values (Values zs) same g typed =
          let walk : WalksWithin b.code t (view_at b procedure v) (2 * arguments_tokens es) x
          (Runs end (stacked zs []) l fs) =
          subst (λ (k : EvaluatedAll). GivesAll b.code t (view_at b procedure v)
          (2 * arguments_tokens es) x k end [] l fs) same g in
          let have : HaveValues (most_made b) b.made callee.parameters zs =
          subst (HaveAll (most_made b) b.made callee.parameters) same typed in
          let child = begins (frame_at callee (zs ++ zeros callee.locals) callee.body) [] in
          let opened : begins (opening_frame b.program qn zs) [] ≡ child =
          ap (λ (k : Option Procedure). begins (frame_of k zs) []) c.sound.fits.2 in
          let count : length es ≡ length (stacked zs []) =
          let fit = fit_length (scope_of b.program procedure) es callee.parameters c.sound.fits.4 in
          let filled = values_length (most_made b) b.made callee.parameters zs have in
          omega (arith, fit, filled, stacked_length zs []) in
          let full = dies ProcessTableFull (frame_at procedure values rest) cs in
          let o : offer b.program v pending ≡ MakesOne child after full =
          ap (λ (k : EvaluatedAll). with_values k (frame_at procedure values rest) cs
          (λ ys. MakesOne (begins (opening_frame b.program qn ys) []) after full)) same
          ∙ ap (λ (k : Process). MakesOne k after full) opened in
          let look = fork_look end (b.starts qn) (stacked zs [])
          (subst (λ k. IsAt b.code end (with_mark M.Fork (Fork' (b.starts qn) k))) count behind.0) in
          proceeds_on b t v (2 * arguments_tokens es) 0 x _ pending walk
          (at_once b t v place l fs values rest procedure cs entered (Runs end (stacked zs []) l fs) pending
          (F.forks (b.starts qn) (stacked zs []) go look refl o mine
          (λ n u more. begins_at (with_made b n) (build_grows b n is) u qn callee zs [] [] c.sound.fits.2
          (values_grow (most_made b) b.made n more callee.parameters zs have) (is_first (inr c.sound.fits.3)))
          (first_holds b _)))
      by_values (FailsAll fault) same g typed =
          let walk : WalksWithin b.code t (view_at b procedure v) (2 * arguments_tokens es) x (Dies (Faulted fault)) = subst
          (λ (k : EvaluatedAll). GivesAll b.code t (view_at b procedure v) (2 * arguments_tokens es) x k end [] l fs)
          same g in
          let o = ap (λ (k : EvaluatedAll). with_values k (frame_at procedure values rest) cs
          (λ ys. MakesOne (begins (opening_frame b.program qn ys) []) after
          (dies ProcessTableFull (frame_at procedure values rest) cs))) same in
          proceeds_on b t v (2 * arguments_tokens es) 0 x (Dies (Faulted fault)) pending walk
          (at_once b t v place l fs values rest procedure cs entered (Dies (Faulted fault)) pending
          (F.faults fault refl o))
