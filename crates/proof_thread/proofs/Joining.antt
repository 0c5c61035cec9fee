-- A JOIN: from its handle to the claim, and what comes of the child's end.
use Rattle.std.proofs.Common.{◌≡◌, ℕ, zero, suc, ◌+◌, ◌*◌, ◌<◌, ◌≤◌, List, [], ◌∷◌, ◌++◌, length, Option, Some, None}
use Rattle.std.proofs.Common.{refl, ap, sym, ◌∙◌, subst, arith, length-append, ℤ, pos, Contains, slice_get}
use Rattle.std.specs.Prelude.{slice_set, ◌^◌}
use Rattle.words.specs.declared.outcome.Fault.TheVariants.{HandleNotJoinable, JoinedAborted}
use Rattle.words.specs.Process.{process_word}
use Rattle.words.specs.Signed.{signed_of, word_of}
use Rattle.isa.specs.declared.instr.Instr.TheVariants.{SetLocal, Pop, Raise, Jump}
use Rattle.isa.specs.declared.slot.Slot.TheVariants.{Local as Slot', Template}
use Rattle.program.specs.declared.kinds.ValueType.TheVariants.{Integer, Process as Handle}
use Rattle.program.specs.Trees.{Expression, Join, Block, Then, Part, NoPart, SomePart, Procedure, slots, followed_by}
use Rattle.program.specs.Scope.{scope_of}
use Rattle.program.specs.Typing.{ResultFits, PartFits}
use Rattle.program.specs.Tokens.{expression_tokens, statement_tokens, part_tokens}
use Rattle.lowering.specs.Expressions.{expression_code}
use Rattle.lowering.specs.Marks.{plain, rebase_all, rebase}
use Rattle.lowering.specs.Processes.{join_code, into_code}
use Rattle.lowering.specs.Statements.{aborted_code}
use Rattle.lowering.specs.Pieces.{setting_of}
use Rattle.lowering.specs.declared.mark.Marked.{Marked}
use Rattle.locals.specs.declared.frame.Locals.{Locals}
use Rattle.locals.specs.declared.frame.Frame.{Frame as MachineFrame}
use Rattle.locals.specs.Threads.{Thread, Runs, Dies, with_local}
use Rattle.locals.specs.Looks.{Goes, look, Request, Asks, at_place, effect}
use Rattle.meaning.specs.Values.{Variables, Value, evaluate}
use Rattle.meaning.specs.Processes.{Frame, Caller, Process, Before, goes_on, with_result}
use Rattle.meaning.specs.Offers.{offer, claims}
use Rattle.proof_thread.specs.Evaluation.{OfType}
use Rattle.proof_thread.specs.Walks.{StandAt, WalksWithin, empty_view}
use Rattle.proof_thread.specs.Following.{Build, most_made, Implements, follows, Stands, part_nesting}
use Rattle.proof_thread.specs.Completing.{GoesAborted, Awaits, Proceeds, join_steps}
use Rattle.proof_thread.specs.Completing as F
use Rattle.proof_thread.proofs.Words.{signed_fits}
use Rattle.proof_thread.proofs.Walking.{front_stands, back_stands, one_step, look_here, wider, within_on}
use Rattle.proof_thread.proofs.Bodies.{block_implements, are_sound-followed, block_sound}
use Rattle.proof_thread.proofs.Contexts.{Context, frame_at, view_at, proceeds_on, proceeds_wider, with_evaluation}
use Rattle.proof_thread.proofs.Contexts.{is_before, stands_by}
use Rattle.proof_thread.proofs.Stepping.{at_once}
use Rattle.proof_thread.proofs.Putting.{slot_below, put_typed, put_holds, put_length}
use Rattle.proof_thread.proofs.Awaiting as J
use Rattle.std.proofs.lemmas.Int.{of_z-to_z}
use Rattle.std.specs.Int.{w32}
use Rattle.words.specs.declared.outcome.Cause.TheVariants.{Faulted}
use Rattle.words.specs.Versions.{most_of}
use Rattle.program.specs.Measures.{part_calls, part_room, most_room}
use Rattle.proof_thread.specs.Deferrals.{IsAt, deferred_by_mark}

unmoved : (base : ℕ) (into : Option ℕ) → rebase base (into_code into) ≡ into_code into
unmoved base (Some slot) = refl
unmoved base None = refl

module _ (b : Build) (t : ℕ) (v : Variables) (place : ℕ) (l : Locals)
    (fs : List MachineFrame) (values : List ℤ) (rest : Block) (procedure : Procedure) (cs : List Caller)
    (entered : Option ℕ) (e : Expression) (into : Option ℕ) (part : Part)
    (c : Context b t v place l fs values (Join e into part) rest procedure cs) where
  abbrev f : Frame
  f = frame_at procedure values rest

  abbrev base : ℕ
  base = place + length (expression_code b.program e)

  abbrev aborts : ℕ
  aborts = base + 30

  abbrev after_code : List Marked
  after_code = aborted_code (setting_of b.program b.starts procedure) part aborts

  abbrev end : ℕ
  end = aborts + length after_code

  abbrev all : List Marked
  all = rebase_all base (join_code into) ++ (plain (Jump end) ∷ after_code)

  abbrev kept : ℕ → Locals
  kept child = with_local l Template child

  all_there : StandAt b.code base all
  all_there = back_stands b.code place (expression_code b.program e) all c.head.here

  template : StandAt b.code base (rebase_all base (join_code into))
  template = front_stands b.code base (rebase_all base (join_code into)) (plain (Jump end) ∷ after_code) all_there

  behind : StandAt b.code (base + 29) (plain (Jump end) ∷ after_code)
  behind = back_stands b.code base (rebase_all base (join_code into)) (plain (Jump end) ∷ after_code) all_there

  -- the code of what comes after the join stands at its end
  more : Implements b.code (setting_of b.program b.starts procedure) b.most c.head.jumps end rest
  more =
      let len : place + length (expression_code b.program e ++ all) ≡ end = omega (
        arith,
        length-append (expression_code b.program e) all,
        length-append (rebase_all base (join_code into)) (plain (Jump end) ∷ after_code),
      ) in
      subst (λ n. Implements b.code (setting_of b.program b.starts procedure) b.most c.head.jumps n rest) len
      c.head.more

  -- the jump past what is done after an abort
  jumped : Implements b.code (setting_of b.program b.starts procedure) b.most (suc c.head.jumps) (base + 29) rest
  jumped = follows end behind.0 more

  -- the result is taken
  taken : (child w : ℕ) → w < 2 ^ 32 → Stands b t (Runs (base + 28) (w ∷ []) (kept child) fs)
      (goes_on None (with_result into (signed_of w) f) cs)
  taken child w lt = by_into into c.sound.fits.2
      (subst (λ i. IsAt b.code (base + 28) (plain i)) (unmoved base into)
      (J.stand_index b.code base (rebase_all base (join_code into)) 28 (base + 28) _ template refl refl))
    where
      few : suc c.head.jumps ≤ b.most
      few = omega (arith, c.head.few, c.head.deep)

      place_same : base + 28 + 1 ≡ base + 29
      place_same = omega arith

      by_into : (i : Option ℕ) → ResultFits (scope_of b.program procedure) i (Some Integer)
          → IsAt b.code (base + 28) (plain (into_code i))
          → Stands b t (Runs (base + 28) (w ∷ []) (kept child) fs)
          (goes_on None (with_result i (signed_of w) f) cs)
      by_into None fit here =
          stands_by b t fs procedure cs c.number c.is_there c.few c.callers _ (kept child) values rest
          (base + 29) (suc c.head.jumps) c.typed c.holds c.words c.later few jumped
          (wider b.code t (empty_view b.program) 1 16 _ _ (omega arith) (one_step b.code t (empty_view b.program) _ _
          (look_here b.code t (empty_view b.program) (base + 28) Pop (w ∷ []) (kept child) fs here
          ∙ ap (λ k. Goes (Runs k [] (kept child) fs)) place_same) (ap deferred_by_mark here.1)))
      by_into (Some slot) fit here =
          let within = slot_below (slots procedure) slot Integer fit in
          let word : w ≡ word_of (signed_of w) = sym (of_z-to_z w32 w lt) in
          let l' = with_local (kept child) (Slot' slot) (word_of (signed_of w)) in
          stands_by b t fs procedure cs c.number c.is_there c.few c.callers _ l'
          (slice_set values slot (signed_of w)) rest (base + 29) (suc c.head.jumps)
          (put_typed (most_made b) b.made (slots procedure) values slot Integer (signed_of w) c.typed fit
          (signed_fits w lt))
          (put_holds l.values values slot (signed_of w) c.holds (omega (arith, within, c.few, c.words)))
          (put_length l.values slot (word_of (signed_of w)) ∙ c.words) c.later few jumped
          (wider b.code t (empty_view b.program) 1 16 _ _ (omega arith) (one_step b.code t (empty_view b.program) _ _
          (look_here b.code t (empty_view b.program) (base + 28) (SetLocal (Slot' slot)) (w ∷ []) (kept child) fs here
          ∙ ap (λ k. Goes (Runs (base + 28 + 1) [] (with_local (kept child) (Slot' slot) k) fs)) word
          ∙ ap (λ k. Goes (Runs k [] l' fs)) place_same) (ap deferred_by_mark here.1)))

  -- what is done after an abort
  after_abort : (y : Part) (child : ℕ) (x : Thread)
      → StandAt b.code aborts (aborted_code (setting_of b.program b.starts procedure) y aborts)
      → Implements b.code (setting_of b.program b.starts procedure) b.most c.head.jumps
      (aborts + length (aborted_code (setting_of b.program b.starts procedure) y aborts)) rest
      → PartFits (scope_of b.program procedure) y
      → ((callee : ℕ) → Contains (part_calls y) callee → b.height callee < b.height c.number)
      → part_room y ≤ most_room → part_tokens y ≤ b.width → c.head.depth + (1 + part_nesting y) ≤ b.most
      → WalksWithin b.code t (empty_view b.program) 3 x (Runs aborts [] (kept child) fs) → GoesAborted b t x y f cs
  after_abort NoPart child x code later fits lower room tokens deep walk =
      wider b.code t (empty_view b.program) (3 + 1) join_steps x _ (omega arith)
      (within_on b.code t (empty_view b.program) 3 1 x _ _ walk (one_step b.code t (empty_view b.program) _ _
      (look_here b.code t (empty_view b.program) aborts (Raise JoinedAborted) [] (kept child) fs code.0)
      (ap deferred_by_mark code.0.1)))
  after_abort (SomePart body) child x code later fits lower room tokens deep walk =
      let setting = setting_of b.program b.starts procedure in
      let inner = block_implements b.code setting b.most body c.head.depth c.head.jumps aborts rest code c.head.few
      (omega (arith, deep)) later in
      let sound = block_sound b.height b.width c.number (scope_of b.program procedure) body fits lower room
      (omega (arith, tokens)) in
      stands_by b t fs procedure cs c.number c.is_there c.few c.callers x (kept child) values
      (followed_by body rest) aborts inner.0 c.typed c.holds c.words
      (are_sound-followed b.height b.width c.number (scope_of b.program procedure) body rest sound c.later)
      (omega (arith, inner.1, deep)) inner.2 (wider b.code t (empty_view b.program) 3 16 _ _ (omega arith) walk)

  -- a request of the template
  asks : (child n m : ℕ) (i : Marked) (operands : List ℕ) (request : Request)
      → slice_get (rebase_all base (join_code into)) n ≡ Some i
      → at_place (base + n) (kept child) fs (effect (most_of b.code.image.version) t i.instruction operands
      (kept child))
      ≡ Asks request (λ k. Runs (base + n + 1) (k ∷ []) (kept child) fs) → base + n + 1 ≡ base + m
      → look b.code.image t (Runs (base + n) operands (kept child) fs)
      ≡ Asks request (λ k. Runs (base + m) (k ∷ []) (kept child) fs)
  asks child n m i operands request is h same =
      look_here b.code t (empty_view b.program) (base + n) i.instruction operands (kept child) fs
      (J.stand_index b.code base (rebase_all base (join_code into)) n (base + n) i template is refl)
      ∙ h ∙ ap (λ p. Asks request (λ k. Runs p (k ∷ []) (kept child) fs)) same

  -- the handle is kept
  keeps : (n : ℕ) (z : ℤ) → z ≡ pos n → WalksWithin b.code t (view_at b procedure v) 1
      (Runs base (word_of z ∷ []) l fs)
      (Runs (base + 1) [] (kept n) fs)
  keeps n z is =
      let here = J.stand_index b.code base (rebase_all base (join_code into)) 0 base _ template refl (omega arith) in
      one_step b.code t (view_at b procedure v) _ _
      (look_here b.code t (view_at b procedure v) base (SetLocal Template) (word_of z ∷ []) l fs here
      ∙ ap (λ (k : ℤ). Goes (Runs (base + 1) [] (kept (word_of k)) fs)) is) (ap deferred_by_mark here.1)

  awaits : (child : ℕ) → 0 < child → child ≤ most_of b.code.image.version → Awaits b t child into part f cs
  awaits child some few =
      let code : StandAt b.code aborts after_code =
      let at : base + 29 + 1 ≡ aborts = omega arith in subst (λ n. StandAt b.code n after_code) at behind.1 in
      record {
        reads = Runs (base + 11) (process_word child 2 ∷ []) (kept child) fs;
        sleeps = Runs (base + 16) (child ∷ process_word child 2 ∷ []) (kept child) fs;
        learns = Runs (base + 21) (process_word child 5 ∷ []) (kept child) fs;
        takes = Runs (base + 27) (process_word child 4 ∷ []) (kept child) fs;
        after_read = λ n. Runs (base + 12) (n ∷ []) (kept child) fs;
        after_sleep = λ n. Runs (base + 17) (n ∷ []) (kept child) fs;
        after_outcome = λ n. Runs (base + 22) (n ∷ []) (kept child) fs;
        after_result = λ n. Runs (base + 28) (n ∷ []) (kept child) fs;
        read = asks child 11 12 _ (process_word child 2 ∷ []) _ refl refl (omega arith);
        sleep = asks child 16 17 _ (child ∷ process_word child 2 ∷ []) _ refl refl (omega arith);
        outcome = asks child 21 22 _ (process_word child 5 ∷ []) _ refl refl (omega arith);
        result = asks child 27 28 _ (process_word child 4 ∷ []) _ refl refl (omega arith);
        there = λ n. eight 4 _ _ (omega arith) (J.there b.code t (empty_view b.program) base into template
            (kept child) fs some
            few n);
        gone = eight 3 _ _ (omega arith) (J.gone b.code t (empty_view b.program) base into template (kept child) fs
            some few);
        again = λ n. eight 4 _ _ (omega arith) (J.again b.code t (empty_view b.program) base into template
            (kept child) fs some
            few n);
        ended = eight 5 _ _ (omega arith) (J.ended b.code t (empty_view b.program) base into template (kept child) fs
            some few);
        aborted = λ n ne. after_abort part child _ code more c.sound.fits.3 c.sound.lower (omega (arith, c.sound.room))
            (omega (arith, c.sound.tokens)) (omega (arith, c.head.deep))
            (J.aborted b.code t (empty_view b.program) base into template (kept child) fs some few n ne);
        taken = taken child;
      }
    where
      eight : (n : ℕ) (x y : Thread) → n ≤ 8 → WalksWithin b.code t (empty_view b.program) n x y
          → WalksWithin b.code t (empty_view b.program) join_steps x y
      eight n x y le w = wider b.code t (empty_view b.program) n join_steps x y le w

  abbrev pending : Process
  pending = Before entered (frame_at procedure values (Then (Join e into part) rest)) cs

  -- from the handle on
  by_handle : (n : ℕ) (z : ℤ) → z ≡ pos n → n ≤ b.made → n ≤ most_made b
      → offer b.program v pending ≡ claims z into part f cs
      → Proceeds b t v 6 (Runs base (word_of z ∷ []) l fs) pending
  unfolding awaits
  by_handle zero z is made few o =
      let last = J.stand_index b.code base (rebase_all base (join_code into)) 8 (base + 8) _ template refl refl in
      let walk : WalksWithin b.code t (view_at b procedure v) 4 (Runs base (word_of z ∷ []) l fs)
      (Dies (Faulted HandleNotJoinable)) =
      J.next b.code t (view_at b procedure v) base into template (kept 0) fs 3 _ _ _ (keeps 0 z is)
      (J.next b.code t (view_at b procedure v) base into template (kept 0) fs 2 _ _ _
      (J.step b.code t (view_at b procedure v) base into template (kept 0) fs 1 2 _ _ [] (0 ∷ []) refl refl
      (omega arith))
      (J.next b.code t (view_at b procedure v) base into template (kept 0) fs 1 _ _ _
      (J.step b.code t (view_at b procedure v) base into template (kept 0) fs 2 8 _ _ (0 ∷ []) [] refl refl refl)
      (one_step b.code t (view_at b procedure v) _ _ (look_here b.code t (view_at b procedure v) (base + 8)
      (Raise HandleNotJoinable) []
      (kept 0) fs last) (ap deferred_by_mark last.1)))) in
      proceeds_wider b t v (4 + 0) 6 _ _ (omega arith)
      (proceeds_on b t v 4 0 _ _ pending walk
      (at_once b t v place l fs values rest procedure cs entered (Dies (Faulted HandleNotJoinable)) pending
      (F.faults HandleNotJoinable refl (o ∙ ap (λ (k : ℤ). claims k into part f cs) is))))
  by_handle (suc n) z is made few o =
      let child = suc n in
      let some : 0 < child = omega arith in
      let below : child ≤ most_of b.code.image.version =
      subst (λ version. child ≤ most_of version) (sym c.version) few in
      let walk : WalksWithin b.code t (view_at b procedure v) 6 (Runs base (word_of z ∷ []) l fs)
      (Runs (base + 6) (1 ∷ process_word child 3 ∷ []) (kept child) fs) =
      J.next b.code t (view_at b procedure v) base into template (kept child) fs 5 _ _ _ (keeps child z is)
      (J.next b.code t (view_at b procedure v) base into template (kept child) fs 4 _ _ _
      (J.step b.code t (view_at b procedure v) base into template (kept child) fs 1 2 _ _ [] (child ∷ []) refl refl
      (omega arith))
      (J.next b.code t (view_at b procedure v) base into template (kept child) fs 3 _ _ _
      (J.step b.code t (view_at b procedure v) base into template (kept child) fs 2 3 _ _ (child ∷ []) [] refl refl
      (omega arith))
      (J.to_claim b.code t (view_at b procedure v) base into template (kept child) fs some below))) in
      proceeds_on b t v 6 0 _ _ pending walk
      (at_once b t v place l fs values rest procedure cs entered _ pending
      (F.claims child (λ k. Runs (base + 7) (k ∷ []) (kept child) fs) some made few
      (asks child 6 7 _ (1 ∷ process_word child 3 ∷ []) _ refl refl (omega arith))
      (o ∙ ap (λ (k : ℤ). claims k into part f cs) is)
      (awaits child some below)
      (wider b.code t (empty_view b.program) 3 join_steps _ _ (omega arith)
      (J.claimed b.code t (empty_view b.program) base into template (kept child) fs some below))
      (λ k. wider b.code t (empty_view b.program) 2 join_steps _ _ (omega arith)
      (J.refused b.code t (empty_view b.program) base into template (kept child) fs some below k))))

  pub join_proceeds : Proceeds b t v (2 * statement_tokens (Join e into part) + 2) (Runs place [] l fs)
      (goes_on entered (frame_at procedure values (Then (Join e into part) rest)) cs)
  join_proceeds =
      let s = Join e into part in
      let ev = c.evaluates in
      let here = front_stands b.code place (expression_code b.program e) all c.head.here in
      let give = ev.gives e Handle place [] fs c.sound.fits.1 here (omega (arith, c.sound.room)) in
      subst (λ (r : Process). Proceeds b t v (2 * statement_tokens s + 2) (Runs place [] l fs) r)
      (sym (is_before b t v place l fs values s rest procedure cs c tt entered))
      (proceeds_wider b t v (2 * expression_tokens e + 6) (2 * statement_tokens s + 2) _ pending (omega
      arith)
      (with_evaluation b t v (2 * expression_tokens e) 6 (Runs place [] l fs)
      (evaluate b.program v values e) base [] l fs f cs _ pending refl
      refl give
      (λ z same o.
      let typed : OfType (most_made b) b.made Handle (Value z) =
      subst (OfType (most_made b) b.made Handle) same (ev.type e Handle
      c.sound.fits.1) in
      by_handle typed.0 z typed.1 typed.2 typed.3 o)))
