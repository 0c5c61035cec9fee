-- A value goes into a variable of the own monitor.
use Rattle.std.proofs.Common.{◌≡◌, ℕ, ◌+◌, ◌*◌, ◌<◌, ◌≤◌, List, [], ◌∷◌, ◌++◌, length, Option, Some, None, refl, ap}
use Rattle.std.proofs.Common.{sym, ◌∙◌, subst, arith, length-append, ℤ}
use Rattle.words.specs.declared.outcome.Fault.TheVariants.{IndexOutOfRange}
use Rattle.words.specs.Signed.{word_of}
use Rattle.isa.specs.declared.instr.Instr.TheVariants.{Push, Store}
use Rattle.program.specs.declared.kinds.Member.{Member}
use Rattle.program.specs.declared.kinds.MemberType.{MemberType}
use Rattle.program.specs.declared.kinds.MemberType.TheVariants.{Array}
use Rattle.program.specs.declared.kinds.ValueType.{ValueType}
use Rattle.program.specs.declared.kinds.ValueType.TheVariants.{Integer}
use Rattle.program.specs.Trees.{Expression, ToMember, ToElement, Statement, Assign, Block, Then, Procedure}
use Rattle.program.specs.Scope.{scope_of, own_monitor, member_type, array_size, size_in}
use Rattle.program.specs.Typing.{HasType}
use Rattle.program.specs.Measures.{room}
use Rattle.program.specs.Tokens.{expression_tokens}
use Rattle.lowering.specs.Expressions.{expression_code, index_code}
use Rattle.lowering.specs.Layout.{member_address}
use Rattle.lowering.specs.Marks.{with_mark, plain}
use Rattle.lowering.specs.declared.mark.Mark.TheVariants as M
use Rattle.lowering.specs.declared.mark.Marked.{Marked}
use Rattle.lowering.specs.Pieces.{setting_of}
use Rattle.locals.specs.declared.frame.Locals.{Locals}
use Rattle.locals.specs.declared.frame.Frame.{Frame as MachineFrame}
use Rattle.locals.specs.Threads.{Thread, Runs, Dies}
use Rattle.locals.specs.Looks.{Asks, AskStore}
use Rattle.meaning.specs.Values.{Variables, Value, evaluate, index_in}
use Rattle.meaning.specs.Labels.{Faulted, Stores}
use Rattle.meaning.specs.Processes.{Frame, Caller, Process, Before, goes_on}
use Rattle.meaning.specs.Offers.{Offer, Does, Puts, offer, with_value, with_index}
use Rattle.proof_thread.specs.Typed.{HasValue}
use Rattle.proof_thread.specs.Variables.{IsVariable, variable_address, ValueFits}
use Rattle.proof_thread.specs.Evaluation.{OfType}
use Rattle.proof_thread.specs.Deferrals.{deferred_by_mark}
use Rattle.proof_thread.specs.Walks.{StandAt}
use Rattle.proof_thread.specs.Following.{Build, most_made, Implements, Stands}
use Rattle.proof_thread.specs.Completing.{Proceeds}
use Rattle.proof_thread.specs.Completing as F
use Rattle.proof_thread.proofs.Walking.{front_stands, back_stands, one_step, look_here, push_step, wider}
use Rattle.proof_thread.proofs.Evaluating.{single_variable, element_variable, Indexes, index_steps}
use Rattle.proof_thread.proofs.Holding.{own_first_by}
use Rattle.proof_thread.proofs.Contexts.{Context, frame_at, view_at, proceeds_on, with_evaluation, stands_on}
use Rattle.proof_thread.proofs.Stepping.{steps_of, as_it_stands, at_once}

-- the store behind the code of the value
abbrev pub store_code : List Marked
store_code = with_mark M.AssignMember Store ∷ []

module _ (b : Build) (t : ℕ) (v : Variables) (place : ℕ) (l : Locals) (fs : List MachineFrame)
    (values : List ℤ) (rest : Block) (procedure : Procedure) (cs : List Caller) (entered : Option ℕ) where
  abbrev x : Thread
  x = Runs place [] l fs

  abbrev f : Frame
  f = frame_at procedure values rest

  abbrev process : Statement → Process
  process s = Before entered (frame_at procedure values (Then s rest)) cs

  -- what is offered of an assignment to a variable, once its place is known
  abbrev put : Member → ℕ → ℤ → Offer
  put m i z = Does (Stores m.monitor) (Puts m.monitor m.number i z) (goes_on None f cs)

  -- with a variable's address on the operands, over the code of the value and the store
  stores_value : (s : Statement) → Context b t v place l fs values s rest procedure cs → (m : Member) (i a : ℕ)
      (u : ValueType) (e : Expression) (start jumps : ℕ) → a ≡ variable_address b.program m i
      → own_monitor procedure.role ≡ Some m.monitor → IsVariable b.program m i
      → ((z : ℤ) → HasValue (most_made b) b.made u z → ValueFits (most_made b) b.made (member_type b.program m) z)
      → HasType (scope_of b.program procedure) e u
      → StandAt b.code start (expression_code b.program e ++ store_code)
      → room e + 1 ≤ 512 → jumps ≤ b.most
      → Implements b.code (setting_of b.program b.starts procedure) b.most jumps
      (start + length (expression_code b.program e) + 1) rest
      → offer b.program v (process s) ≡ with_value (evaluate b.program v values e) f cs (put m i)
      → Proceeds b t v (2 * expression_tokens e + 0) (Runs start (a ∷ []) l fs) (process s)
  stores_value s c m i a u e start jumps address own variable fits typed code space few more o =
      let p = b.program in
      let end = start + length (expression_code p e) in
      let last = back_stands b.code start (expression_code p e) store_code code in
      let give = c.evaluates.gives e u start (a ∷ []) fs typed
      (front_stands b.code start (expression_code p e) store_code code) (omega (arith, space)) in
      let after : Stands b t (Runs (end + 1) [] l fs) (goes_on None f cs) =
      stands_on b t v place l fs values s rest procedure cs c l values rest (end + 1) jumps c.typed c.holds c.words
      c.later few more in
      with_evaluation b t v (2 * expression_tokens e) 0 (Runs start (a ∷ []) l fs) (evaluate p v values e) end (a ∷ [])
      l fs f cs (put m i) (process s) o refl give
      (λ z same o'.
      let value : OfType (most_made b) b.made u (Value z) =
      subst (OfType (most_made b) b.made u) same (c.evaluates.type e u typed) in
      let seen = look_here b.code t (view_at b procedure v) end Store (word_of z ∷ a ∷ []) l fs last.0 in
      at_once b t v place l fs values rest procedure cs entered (Runs end (word_of z ∷ a ∷ []) l fs) (process s)
      (F.stores m i z (λ answer. Runs (end + 1) [] l fs) own
      (own_first_by b m.monitor procedure.role c.number procedure fs cs refl c.callers own) variable (fits z value)
      (seen ∙ ap (λ (k : ℕ). Asks (AskStore k (word_of z)) (λ answer. Runs (end + 1) [] l fs)) address) o'
      (λ answer. after)))

  pub member_proceeds : (m : Member) (e : Expression)
      → Context b t v place l fs values (Assign (ToMember m) e) rest procedure cs
      → Proceeds b t v (steps_of (Assign (ToMember m) e)) x
      (goes_on entered (frame_at procedure values (Then (Assign (ToMember m) e) rest)) cs)
  member_proceeds m e c =
      let s = Assign (ToMember m) e in
      let p = b.program in
      let u = c.sound.fits.0 in
      let own = c.sound.fits.1.0 in
      let is_member = c.sound.fits.1.1 in
      let a = member_address p m in
      let len : place + length (plain (Push a) ∷ (expression_code p e ++ store_code))
      ≡ place + 1 + length (expression_code p e) + 1 = omega (arith, length-append (expression_code p e) store_code) in
      let more = subst (λ (n : ℕ). Implements b.code (setting_of p b.starts procedure) b.most c.head.jumps n rest) len
      c.head.more in
      let seen = look_here b.code t (view_at b procedure v) place (Push a) [] l fs c.head.here.0 in
      let step = one_step b.code t (view_at b procedure v) x (Runs (place + 1) (a ∷ []) l fs)
      (push_step b.code t (view_at b procedure v) place a [] l fs seen (omega arith))
      (ap deferred_by_mark c.head.here.0.1) in
      as_it_stands b t v place l fs values rest procedure cs entered s c tt (1 + (2 * expression_tokens e + 0))
      (omega arith)
      (proceeds_on b t v 1 (2 * expression_tokens e + 0) x (Runs (place + 1) (a ∷ []) l fs) (process s) step
      (stores_value s c m 0 a u e (place + 1) c.head.jumps (omega arith) own (single_variable p m u is_member)
      (λ z h. subst (λ (o : Option MemberType). ValueFits (most_made b) b.made o z) (sym is_member) h)
      c.sound.fits.2 c.head.here.1 (omega (arith, c.sound.room)) (omega (arith, c.head.few, c.head.deep)) more refl))

  -- where the index leads: to the element's address, or to the fault
  element_stores : (s : Statement) → (c : Context b t v place l fs values s rest procedure cs) → (a : Member) (n : ℕ)
      (u : ValueType) (e : Expression) (end : ℕ) → member_type b.program a ≡ Some (Array n)
      → own_monitor procedure.role ≡ Some a.monitor → u ≡ Integer → HasType (scope_of b.program procedure) e u
      → StandAt b.code (end + 1) (expression_code b.program e ++ store_code) → room e + 1 ≤ 512
      → Implements b.code (setting_of b.program b.starts procedure) b.most c.head.jumps
      (end + 1 + length (expression_code b.program e) + 1) rest → (o : Option ℕ) (y : Thread)
      → Indexes b.code t (view_at b procedure v) (member_address b.program a) (array_size b.program a) y o end [] l fs
      → offer b.program v (process s)
      ≡ with_index o f cs (λ k. with_value (evaluate b.program v values e) f cs (put a k))
      → Proceeds b t v (1 + (2 * expression_tokens e + 0)) y (process s)
  element_stores s c a n u e end is_array own integer typed code space more None y step offered = record {
    last = Dies (Faulted IndexOutOfRange);
    walk = wider b.code t (view_at b procedure v) 1 (1 + (2 * expression_tokens e + 0)) y (Dies (Faulted IndexOutOfRange))
        (omega arith) step;
    completes = F.faults IndexOutOfRange refl offered;
  }
  element_stores s c a n u e end is_array own integer typed code space more (Some k) y step offered =
      let below : k < n = subst (λ (m : ℕ). k < m) (ap size_in is_array) step.0 in
      proceeds_on b t v 1 (2 * expression_tokens e + 0) y (Runs (end + 1) ((member_address b.program a + k) ∷ []) l fs)
      (process s) step.1
      (stores_value s c a k (member_address b.program a + k) u e (end + 1) c.head.jumps refl own
      (element_variable b.program a n k is_array below)
      (λ z h. subst (λ (o : Option MemberType). ValueFits (most_made b) b.made o z) (sym is_array)
      (subst (λ (w : ValueType). HasValue (most_made b) b.made w z) integer h))
      typed code space (omega (arith, c.head.few, c.head.deep)) more offered)

  pub element_proceeds : (a : Member) (i e : Expression)
      → Context b t v place l fs values (Assign (ToElement a i) e) rest procedure cs
      → Proceeds b t v (steps_of (Assign (ToElement a i) e)) x
      (goes_on entered (frame_at procedure values (Then (Assign (ToElement a i) e) rest)) cs)
  element_proceeds a i e c =
      let s = Assign (ToElement a i) e in
      let p = b.program in
      let u = c.sound.fits.0 in
      let own = c.sound.fits.1.0.0 in
      let n = c.sound.fits.1.0.1 in
      let is_array = c.sound.fits.1.0.2 in
      let is_index = c.sound.fits.1.1 in
      let integer = c.sound.fits.1.2 in
      let fits = c.sound.fits.2 in
      let size = array_size p a in
      let same_size : size ≡ n = ap size_in is_array in
      let base = member_address p a in
      let array = c.low a n is_array in
      let ci = expression_code p i in
      let ce = expression_code p e in
      let end = place + length ci in
      let tail = back_stands b.code place ci (plain (index_code p a) ∷ (ce ++ store_code)) c.head.here in
      let give = c.evaluates.gives i Integer place [] fs is_index
      (front_stands b.code place ci (plain (index_code p a) ∷ (ce ++ store_code)) c.head.here)
      (omega (arith, c.sound.room)) in
      let len : place + length (ci ++ (plain (index_code p a) ∷ (ce ++ store_code))) ≡ end + 1 + length ce + 1 = omega
      (arith, length-append ci (plain (index_code p a) ∷ (ce ++ store_code)), length-append ce store_code) in
      let more = subst (λ (k : ℕ). Implements b.code (setting_of p b.starts procedure) b.most c.head.jumps k rest) len
      c.head.more in
      as_it_stands b t v place l fs values rest procedure cs entered s c tt
      (2 * expression_tokens i + (1 + (2 * expression_tokens e + 0))) (omega arith)
      (with_evaluation b t v (2 * expression_tokens i) (1 + (2 * expression_tokens e + 0)) x (evaluate p v values i) end
      [] l fs f cs _ (process s) refl refl give
      (λ z same o.
      let value : OfType (most_made b) b.made Integer (Value z) =
      subst (OfType (most_made b) b.made Integer) same (c.evaluates.type i Integer is_index) in
      element_stores s c a n u e end is_array own integer fits tail.1 (omega (arith, c.sound.room)) more
      (index_in size z) (Runs end (word_of z ∷ []) l fs)
      (index_steps b.code t (view_at b procedure v) base size (omega (arith, same_size, array.0))
      (omega (arith, same_size, array.1)) z end [] l fs value tail.0) o))
