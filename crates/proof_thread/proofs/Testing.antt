-- From a test to what it chooses: IF and WHILE.
use Rattle.std.proofs.Common.{inl, inr, ◌≡◌, ℕ, suc, ◌+◌, ◌*◌, ◌≤◌, List, [], ◌∷◌, ◌++◌, length, Option, Some, None}
use Rattle.std.proofs.Common.{refl, ap, ◌∙◌, subst, arith, length-append, ℤ, Bool, true, false, slice_get}
use Rattle.std.proofs.lemmas.List.Elements.{Contains-append_left, Contains-append_right}
use Rattle.words.specs.Signed.{word_of}
use Rattle.isa.specs.declared.instr.Instr.TheVariants.{JumpIfZero, Jump}
use Rattle.program.specs.declared.kinds.ValueType.TheVariants.{Boolean}
use Rattle.program.specs.Trees.{Expression, Statement, If, While, Block, Done, Then, NoPart, SomePart, Procedure}
use Rattle.program.specs.Trees.{followed_by}
use Rattle.program.specs.Scope.{scope_of}
use Rattle.program.specs.Typing.{HasType}
use Rattle.program.specs.Measures.{room, most_room, block_calls}
use Rattle.program.specs.Tokens.{expression_tokens}
use Rattle.lowering.specs.Expressions.{expression_code}
use Rattle.lowering.specs.Marks.{plain, with_mark}
use Rattle.lowering.specs.declared.mark.Marked.{Marked}
use Rattle.lowering.specs.declared.mark.Mark.TheVariants as M
use Rattle.lowering.specs.Statements.{block_code}
use Rattle.lowering.specs.Pieces.{setting_of}
use Rattle.locals.specs.declared.frame.Locals.{Locals}
use Rattle.locals.specs.declared.frame.Frame.{Frame as MachineFrame}
use Rattle.locals.specs.Threads.{Thread, Runs}
use Rattle.locals.specs.Looks.{Goes, look, place_after_test}
use Rattle.meaning.specs.Values.{Variables, Value, evaluate, is_true}
use Rattle.meaning.specs.Labels.{Alone}
use Rattle.meaning.specs.Labels as L
use Rattle.meaning.specs.Processes.{Caller, Process, Before, goes_on}
use Rattle.meaning.specs.Offers.{Does, Nothing, offer, with_value, chosen_block}
use Rattle.proof_thread.specs.Typed.{HasValue}
use Rattle.proof_thread.specs.Evaluation.{OfType}
use Rattle.proof_thread.specs.Deferrals.{deferred_by_mark}
use Rattle.proof_thread.specs.Walks.{StandAt}
use Rattle.proof_thread.specs.Following.{Build, most_made, Implements, states, follows, Stands}
use Rattle.proof_thread.specs.Completing.{Completes, Proceeds}
use Rattle.proof_thread.specs.Completing as F
use Rattle.proof_thread.proofs.Walking.{front_stands, back_stands, look_here}
use Rattle.proof_thread.proofs.Bodies.{block_implements, are_sound-followed, block_sound}
use Rattle.proof_thread.proofs.Contexts.{Context, frame_at, view_at, IsNoReturn, with_evaluation, stands_on}
use Rattle.proof_thread.proofs.Stepping.{steps_of, as_it_stands, at_once}

module _ (b : Build) (t : ℕ) (v : Variables) (place : ℕ) (l : Locals) (fs : List MachineFrame)
    (values : List ℤ) (rest : Block) (procedure : Procedure) (cs : List Caller) (entered : Option ℕ) where
  abbrev x : Thread
  x = Runs place [] l fs

  abbrev at_rest : Block → Process
  at_rest body = goes_on None (frame_at procedure values body) cs

  abbrev pending : Statement → Process
  pending s = Before entered (frame_at procedure values (Then s rest)) cs

  -- a test, and where it leads
  test_proceeds : (s : Statement) → IsNoReturn s → (c : Context b t v place l fs values s rest procedure cs)
      (e : Expression)
      (go : Bool → Block) (target : ℕ) (tail : List Marked)
      → HasType (scope_of b.program procedure) e Boolean → room e ≤ most_room → 2 * expression_tokens e ≤ steps_of s
      → StandAt b.code place (expression_code b.program e ++ with_mark M.Test (JumpIfZero target) ∷ tail)
      → offer b.program v (pending s) ≡ with_value (evaluate b.program v values e) (frame_at procedure values rest) cs
      (λ z. Does (Alone L.Test) Nothing (at_rest (go (is_true z))))
      → Stands b t (Runs (place + length (expression_code b.program e) + 1) [] l fs) (at_rest (go true))
      → Stands b t (Runs target [] l fs) (at_rest (go false))
      → Proceeds b t v (steps_of s) x (goes_on entered (frame_at procedure values (Then s rest)) cs)
  test_proceeds s k c e go target tail fits fit small stand o when_true when_false =
      let p = b.program in
      let code = expression_code p e in
      let ev = c.evaluates in
      let here = front_stands b.code place code _ stand in
      let last = back_stands b.code place code _ stand in
      let end = place + length code in
      let give = ev.gives e Boolean place [] fs fits here (omega (arith, fit)) in
      as_it_stands b t v place l fs values rest procedure cs entered s c k (2 * expression_tokens e + 0)
      (omega (arith, small))
      (with_evaluation b t v (2 * expression_tokens e) 0 x (evaluate p v values e) end [] l fs
      (frame_at procedure values rest) cs _ (pending s) o
      refl give
      (λ z same o'.
      let typed : OfType (most_made b) b.made Boolean (Value z) =
      subst (OfType (most_made b) b.made Boolean) same (ev.type e Boolean fits) in
      at_once b t v place l fs values rest procedure cs entered (Runs end (word_of z ∷ []) l fs) (pending s)
      (by_value z (look_here b.code t (view_at b procedure v) end (JumpIfZero target) (word_of z ∷ []) l fs last.0)
      (ap deferred_by_mark last.0.1) o'
      typed)))
    where
      by_value : (z : ℤ) → look b.code.image t (Runs (place + length (expression_code b.program e))
          (word_of z ∷ []) l fs) ≡ Goes (Runs (place_after_test (word_of z) target
          (place + length (expression_code b.program e) + 1)) [] l fs)
          → deferred_by_mark (slice_get b.code.marks (place + length (expression_code b.program e))) ≡ Some L.Test
          → offer b.program v (pending s) ≡ Does (Alone L.Test) Nothing (at_rest (go (is_true z)))
          → HasValue (most_made b) b.made Boolean z
          → Completes b t v (Runs (place + length (expression_code b.program e)) (word_of z ∷ []) l fs)
          (pending s)
      by_value z h m k (inl is_zero) = F.acts L.Test tt
          (h ∙ ap (λ (y : ℤ). Goes (Runs (place_after_test (word_of y) target
          (place + length (expression_code b.program e) + 1)) [] l fs)) is_zero) m
          (k ∙ ap (λ (y : ℤ). Does (Alone L.Test) Nothing (at_rest (go (is_true y)))) is_zero) when_false
      by_value z h m k (inr is_one) = F.acts L.Test tt
          (h ∙ ap (λ (y : ℤ). Goes (Runs (place_after_test (word_of y) target
          (place + length (expression_code b.program e) + 1)) [] l fs)) is_one) m
          (k ∙ ap (λ (y : ℤ). Does (Alone L.Test) Nothing (at_rest (go (is_true y)))) is_one) when_true

  pub if_proceeds : (e : Expression) (then_part : Block) (c : Context b t v place l fs values
      (If e then_part NoPart) rest procedure cs) → Proceeds b t v (steps_of (If e then_part NoPart)) x
      (goes_on entered (frame_at procedure values (Then (If e then_part NoPart) rest)) cs)
  if_proceeds e then_part c =
      let s = If e then_part NoPart in
      let p = b.program in
      let setting = setting_of p b.starts procedure in
      let scope = scope_of p procedure in
      let test = expression_code p e in
      let then_start = place + length test + 1 in
      let body = block_code setting then_part then_start in
      let end = then_start + length body in
      let d = c.head.depth in
      let tail = back_stands b.code place test _ c.head.here in
      let len : place + length (test ++ with_mark M.Test (JumpIfZero end) ∷ body) ≡ end = omega
      (arith, length-append test (with_mark M.Test (JumpIfZero end) ∷ body)) in
      let more = subst (λ n. Implements b.code setting b.most c.head.jumps n rest) len c.head.more in
      let inner = block_implements b.code setting b.most then_part d c.head.jumps then_start rest tail.1 c.head.few
      (omega (arith, c.head.deep)) more in
      let sound = block_sound b.height b.width c.number scope then_part c.sound.fits.1
      (λ n h. c.sound.lower n (Contains-append_left (block_calls then_part) [] n h)) (omega (arith, c.sound.room))
      (omega (arith, c.sound.tokens)) in
      test_proceeds s tt c e (λ k. followed_by (chosen_block k then_part Done) rest) end body c.sound.fits.0
      (omega (arith, c.sound.room)) (omega arith) c.head.here refl
      (stands_on b t v place l fs values s rest procedure cs c l values
      (followed_by then_part rest) then_start inner.0 c.typed c.holds c.words
      (are_sound-followed b.height b.width c.number scope then_part rest sound c.later)
      (omega (arith, inner.1, c.head.deep)) inner.2)
      (stands_on b t v place l fs values s rest procedure cs c l values rest end c.head.jumps c.typed c.holds
      c.words c.later (omega (arith, c.head.few, c.head.deep)) more)

  pub if_else_proceeds : (e : Expression) (then_part else_part : Block)
      (c : Context b t v place l fs values (If e then_part (SomePart else_part)) rest procedure cs)
      → Proceeds b t v (steps_of (If e then_part (SomePart else_part))) x
      (goes_on entered (frame_at procedure values (Then (If e then_part (SomePart else_part)) rest)) cs)
  if_else_proceeds e then_part else_part c =
      let s = If e then_part (SomePart else_part) in
      let p = b.program in
      let setting = setting_of p b.starts procedure in
      let scope = scope_of p procedure in
      let test = expression_code p e in
      let then_start = place + length test + 1 in
      let body = block_code setting then_part then_start in
      let else_start = then_start + length body + 1 in
      let other = block_code setting else_part else_start in
      let end = else_start + length other in
      let d = c.head.depth in
      let behind = plain (Jump end) ∷ other in
      let tail = back_stands b.code place test _ c.head.here in
      let jump = back_stands b.code then_start body behind tail.1 in
      let len : place + length (test ++ with_mark M.Test (JumpIfZero else_start) ∷ (body ++ behind)) ≡ end =
      omega (
        arith,
        length-append test (with_mark M.Test (JumpIfZero else_start) ∷ (body ++ behind)),
        length-append body behind,
      ) in
      let more = subst (λ n. Implements b.code setting b.most c.head.jumps n rest) len c.head.more in
      let inner = block_implements b.code setting b.most then_part (d + 1) (suc c.head.jumps) then_start rest
      (front_stands b.code then_start body behind tail.1) (omega (arith, c.head.few))
      (omega (arith, c.head.deep)) (follows end jump.0 more) in
      let outer = block_implements b.code setting b.most else_part d c.head.jumps else_start rest jump.1 c.head.few
      (omega (arith, c.head.deep)) more in
      let first = block_sound b.height b.width c.number scope then_part c.sound.fits.1
      (λ n h. c.sound.lower n (Contains-append_left (block_calls then_part) (block_calls else_part) n h))
      (omega (arith, c.sound.room)) (omega (arith, c.sound.tokens)) in
      let second = block_sound b.height b.width c.number scope else_part c.sound.fits.2
      (λ n h. c.sound.lower n (Contains-append_right (block_calls then_part) (block_calls else_part) n h))
      (omega (arith, c.sound.room)) (omega (arith, c.sound.tokens)) in
      test_proceeds s tt c e (λ k. followed_by (chosen_block k then_part else_part) rest) else_start
      (body ++ behind) c.sound.fits.0 (omega (arith, c.sound.room)) (omega arith) c.head.here refl
      (stands_on b t v place l fs values s rest procedure cs c l values
      (followed_by then_part rest) then_start inner.0 c.typed c.holds c.words
      (are_sound-followed b.height b.width c.number scope then_part rest first c.later)
      (omega (arith, inner.1, c.head.deep)) inner.2)
      (stands_on b t v place l fs values s rest procedure cs c l values
      (followed_by else_part rest) else_start outer.0 c.typed c.holds c.words
      (are_sound-followed b.height b.width c.number scope else_part rest second c.later)
      (omega (arith, outer.1, c.head.deep)) outer.2)

  pub while_proceeds : (e : Expression) (body : Block) (c : Context b t v place l fs values (While e body) rest
      procedure cs)
      → Proceeds b t v (steps_of (While e body)) x
      (goes_on entered (frame_at procedure values (Then (While e body) rest)) cs)
  while_proceeds e body c =
      let s = While e body in
      let p = b.program in
      let setting = setting_of p b.starts procedure in
      let scope = scope_of p procedure in
      let test = expression_code p e in
      let body_start = place + length test + 1 in
      let inside = block_code setting body body_start in
      let end = body_start + length inside + 1 in
      let d = c.head.depth in
      let behind = plain (Jump place) ∷ [] in
      let tail = back_stands b.code place test _ c.head.here in
      let jump = back_stands b.code body_start inside behind tail.1 in
      let len : place + length (test ++ with_mark M.Test (JumpIfZero end) ∷ (inside ++ behind)) ≡ end =
      omega (
        arith,
        length-append test (with_mark M.Test (JumpIfZero end) ∷ (inside ++ behind)),
        length-append inside behind,
      ) in
      let more = subst (λ n. Implements b.code setting b.most c.head.jumps n rest) len c.head.more in
      let again = states c.head.depth c.head.jumps c.head.here c.head.few c.head.deep c.head.more in
      let inner = block_implements b.code setting b.most body (d + 1) 1 body_start (Then s rest)
      (front_stands b.code body_start inside behind tail.1) (omega arith) (omega (arith, c.head.deep))
      (follows place jump.0 again) in
      let sound = block_sound b.height b.width c.number scope body c.sound.fits.1 c.sound.lower
      (omega (arith, c.sound.room)) (omega (arith, c.sound.tokens)) in
      test_proceeds s tt c e (λ k. chosen_block k (followed_by body (Then s rest)) rest) end
      (inside ++ behind) c.sound.fits.0 (omega (arith, c.sound.room)) (omega arith) c.head.here refl
      (stands_on b t v place l fs values s rest procedure cs c l values
      (followed_by body (Then s rest)) body_start inner.0 c.typed c.holds c.words
      (are_sound-followed b.height b.width c.number scope body (Then s rest) sound (c.sound, c.later))
      (omega (arith, inner.1, c.head.deep)) inner.2)
      (stands_on b t v place l fs values s rest procedure cs c l values rest end c.head.jumps c.typed c.holds
      c.words c.later (omega (arith, c.head.few, c.head.deep)) more)
