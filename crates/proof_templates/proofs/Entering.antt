-- The template that enters a monitor goes through its points.
use Rattle.std.proofs.Common.{◌≡◌, ◌≢◌, ℕ, zero, suc, ◌+◌, ◌<◌, ◌≤◌, ◌==◌, Bool, List, [], ◌∷◌, ◌++◌, Some, slice_get}
use Rattle.std.proofs.Common.{refl, ap, sym, ◌∙◌, subst, arith}
use Rattle.std.specs.Prelude.{if◌then◌else◌}
use Rattle.std.proofs.lemmas.Bool.{ne_eqb}
use Rattle.words.specs.declared.process.ProcessWord.TheVariants.{Pending}
use Rattle.words.specs.Process.{process_word}
use Rattle.words.specs.Versions.{most_of}
use Rattle.isa.specs.declared.instr.Instr.{Instr}
use Rattle.proof_thread.specs.Deferrals.{deferred_by_mark, MarkedImage}
use Rattle.locals.specs.declared.frame.Locals.{Locals}
use Rattle.locals.specs.declared.frame.Frame.{Frame}
use Rattle.locals.specs.Threads.{Thread, Runs as Runs'}
use Rattle.locals.specs.Looks.{Request, Goes, Asks, AskStore, AskCompareSwap, look, at_place, effect}
use Rattle.program.specs.Trees.{Program}
use Rattle.lowering.specs.declared.mark.Mark.TheVariants.{Enter}
use Rattle.lowering.specs.declared.mark.Marked.{Marked}
use Rattle.lowering.specs.Marks.{plain, rebase_all}
use Rattle.lowering.specs.Layout.{link_word, lock_word_address}
use Rattle.lowering.specs.Locks.{try_code, take_at, got_at, enter_code}
use Rattle.protocol.specs.Points.{ToEnter, ToReenter, Point, Runs, GotReads, TakeReads}
use Rattle.proof_thread.specs.Walks.{empty_view, StandAt, WalksWithin}
use Rattle.proof_thread.proofs.Walking.{front_stands, back_stands, within_on, wider, one_step, look_here}
use Rattle.proof_thread.proofs.Awaiting.{stand_index}
use Rattle.proof_templates.specs.Asking.{AsksSo, template_steps}
use Rattle.proof_templates.specs.Locking.{reads, heads, EntersAt, pends, tries, takes, pends_again, tries_again}
use Rattle.proof_templates.specs.Locking.{takes_again}
use Rattle.proof_templates.specs.Locking.{template_locals}
use Rattle.proof_templates.proofs.Locking.{takes_follow, to_list, again, address_step}
use Rattle.protocol.specs.Rules.{ReleaseRule}

module _ (u : ReleaseRule) (p : Program) (image : MarkedImage) (t m base : ℕ) (recover : Instr) (l : Locals) (fs :
    List Frame)
    (code : StandAt image base (rebase_all base (enter_code m (link_word p m) recover))) (some : 0 < t)
    (few : t ≤ most_of image.image.version) where
  abbrev link : ℕ
  link = link_word p m

  abbrev lock : ℕ
  lock = lock_word_address p m

  abbrev first_part : List Marked
  first_part = rebase_all base (try_code m (link_word p m))

  abbrev later_part : List Marked
  later_part = rebase_all base (take_at (Enter m) (link_word p m) 11 ++ got_at (link_word p m) recover (11 + 32))

  trying : StandAt image base first_part
  trying = front_stands image base first_part later_part code

  pub taking : StandAt image (base + 11) later_part
  taking = back_stands image base first_part later_part code

  abbrev Go : ℕ → Thread → Thread → Type 0
  Go n x y = WalksWithin image t (empty_view p) n x y

  abbrev at : ℕ → List ℕ → Locals → Thread
  at i operands k = Runs' (base + i) operands k fs

  step : (i j place : ℕ) (x : Instr) (operands operands' : List ℕ) (k k' : Locals)
      → slice_get first_part i ≡ Some (plain x)
      → at_place (base + i) k fs (effect (most_of image.image.version) t x operands k) ≡ Goes
      (Runs' place operands' k' fs)
      → place ≡ base + j → Go 1 (at i operands k) (at j operands' k')
  step i j place x operands operands' k k' e h same =
      let here = stand_index image base first_part i (base + i) (plain x) trying e refl in
      one_step image t (empty_view p) _ _ (look_here image t (empty_view p) (base + i) x operands k fs here
      ∙ h ∙ ap (λ n. Goes (Runs' n operands' k' fs)) same) (ap deferred_by_mark here.1)

  then_go : (n : ℕ) (x y z : Thread) → Go 1 x y → Go n y z → Go (suc n) x z
  then_go n x y z v w = wider image t (empty_view p) (1 + n) (suc n) x z (omega arith)
      (within_on image t (empty_view p) 1 n
      x y z v w)

  asks : (i j : ℕ) (x : Marked) (operands : List ℕ) (after : ℕ → List ℕ) (request : Request)
      → slice_get first_part i ≡ Some x
      → at_place (base + i) l fs (effect (most_of image.image.version) t x.instruction operands l) ≡ Asks request
      (λ r. Runs' (base + i + 1) (after r) l fs)
      → base + i + 1 ≡ base + j → look image.image t (at i operands l) ≡ Asks request (λ r. at j (after r) l)
  asks i j x operands after request e h same =
      look_here image t (empty_view p) (base + i) x.instruction operands l fs
      (stand_index image base first_part i (base + i) x trying e refl)
      ∙ h ∙ ap (λ n. Asks request (λ r. Runs' n (after r) l fs)) same

  abbrev In : Point → Thread → Type 0
  In = EntersAt p t m base l fs

  -- after a failed first compare-and-swap: to the taking of the lock
  to_take : (n : ℕ) → Go template_steps (at 8 (suc n ∷ []) l)
      (Runs' (base + 11 + 1) (lock ∷ []) (template_locals l.values (suc n)) fs)
  to_take n =
      wider image t (empty_view p) 4 template_steps _ _ (omega arith)
      (then_go 3 _ _ _ (step 8 9 _ _ (suc n ∷ []) [] l (template_locals l.values (suc n)) refl refl (omega arith))
      (then_go 2 _ _ _ (step 9 10 _ _ [] (suc n ∷ []) (template_locals l.values (suc n))
      (template_locals l.values (suc n)) refl refl
      (omega arith))
      (then_go 1 _ _ _ (step 10 11 _ _ (suc n ∷ []) [] (template_locals l.values (suc n))
      (template_locals l.values (suc n)) refl refl
      (omega arith))
      (subst (λ k. Go 1 (Runs' k [] (template_locals l.values (suc n)) fs)
      (Runs' (base + 11 + 1) (lock ∷ []) (template_locals l.values
      (suc n)) fs))
      (omega arith) (again u p image t m ToEnter (Enter m) recover base 11 l.values fs taking some few (suc n))))))

  -- after the first compare-and-swap: with the lock, or to the taking of it
  after_try : (r : ℕ) → (y : Thread) × Go template_steps (at 8 (r ∷ []) l) y
      × In (if r == 0 then GotReads m 0 else TakeReads m ToEnter) y
  after_try zero = (
    Runs' (base + 11 + 35) (process_word t 0 ∷ link ∷ []) (template_locals l.values 0) fs,
    wider image t (empty_view p) 6 template_steps _ _ (omega arith)
        (then_go 5 _ _ _ (step 8 9 _ _ (0 ∷ []) [] l (template_locals l.values 0) refl refl (omega arith))
        (then_go 4 _ _ _ (step 9 10 _ _ [] (0 ∷ []) (template_locals l.values 0) (template_locals l.values 0) refl refl
        (omega arith))
        (then_go 3 _ _ _ (step 10 43 _ _ (0 ∷ []) [] (template_locals l.values 0)
        (template_locals l.values 0) refl refl refl)
        (subst (λ n. Go 3 (Runs' n [] (template_locals l.values 0) fs)
        (Runs' (base + 11 + 35) (process_word t 0 ∷ link ∷ [])
        (template_locals l.values 0) fs)) (omega arith)
        (to_list u p image t m ToEnter (Enter m) recover base 11 l.values fs taking some few 0))))),
    takes (heads 0),
  )
  after_try (suc n) = (
    Runs' (base + 11 + 1) (lock ∷ []) (template_locals l.values (suc n)) fs,
    to_take n,
    subst (λ (b : Bool). In (if b then GotReads m 0 else TakeReads m ToEnter)
        (Runs' (base + 11 + 1) (lock ∷ []) (template_locals l.values (suc n)) fs))
        (sym (ne_eqb (suc n) 0 (λ z. omega (arith, z)))) (takes (reads (suc n))),
  )

  -- the same of a monitor that the thread holds: its lock word isn't 0
  after_try_again : (r : ℕ) → r ≢ 0 → (y : Thread) × Go template_steps (at 8 (r ∷ []) l) y
      × In (if r == 0 then GotReads m 0 else TakeReads m ToReenter) y
  after_try_again zero ne = absurd (ne refl)
  after_try_again (suc n) ne = (
    Runs' (base + 11 + 1) (lock ∷ []) (template_locals l.values (suc n)) fs,
    to_take n,
    subst (λ (b : Bool). In (if b then GotReads m 0 else TakeReads m ToReenter)
        (Runs' (base + 11 + 1) (lock ∷ []) (template_locals l.values (suc n)) fs))
        (sym (ne_eqb (suc n) 0 (λ z. omega (arith, z)))) (takes_again (reads (suc n))),
  )

  pended_look : look image.image t (at 3 (link ∷ process_word t 1 ∷ []) l) ≡ Asks (AskStore (process_word t 1) link)
      (λ r. at 4 [] l)
  pended_look = asks 3 4 _ (link ∷ process_word t 1 ∷ []) (λ r. []) _ refl refl (omega arith)

  tried_look : look image.image t (at 7 (t ∷ 0 ∷ lock ∷ []) l) ≡ Asks (AskCompareSwap lock 0 t) (λ r. at 8 (r ∷ []) l)
  tried_look = asks 7 8 _ (t ∷ 0 ∷ lock ∷ []) (λ r. r ∷ []) _ refl refl (omega arith)

  to_try : Go template_steps (at 4 [] l) (at 7 (t ∷ 0 ∷ lock ∷ []) l)
  to_try =
      wider image t (empty_view p) 3 template_steps _ _ (omega arith)
      (then_go 2 _ _ _ (step 4 5 _ _ [] (lock ∷ []) l l refl refl (omega arith))
      (then_go 1 _ _ _ (step 5 6 _ _ (lock ∷ []) (0 ∷ lock ∷ []) l l refl refl (omega arith))
      (step 6 7 _ _ (0 ∷ lock ∷ []) _ l l refl refl (omega arith))))

  pub enters_follow : (pt : Point) (x : Thread) → (pt ≡ Runs → ⊥) → In pt x → AsksSo u p image t In pt x
  enters_follow pt x inside pends =
      record { asks = _; go = _; same = refl; look = pended_look; goes = λ w e r may. (_, to_try, tries) }
  enters_follow pt x inside tries =
      record { asks = _; go = _; same = refl; look = tried_look; goes = λ w e r may. after_try r }
  enters_follow pt x inside (takes h) =
      let k = takes_follow u p image t m ToEnter (Enter m) recover base 11 l.values fs taking some few pt x inside h in
      record {
        asks = k.asks;
        go = k.go;
        same = k.same;
        look = k.look;
        goes = λ w e r may. let g = k.goes w e r may in (g.0, g.1, takes g.2);
      }
  enters_follow pt x inside pends_again =
      record { asks = _; go = _; same = refl; look = pended_look; goes = λ w e r may. (_, to_try, tries_again) }
  enters_follow pt x inside tries_again =
      record { asks = _; go = _; same = refl; look = tried_look; goes = λ w e r may. after_try_again r may }
  enters_follow pt x inside (takes_again h) =
      let k = takes_follow u p image t m ToReenter (Enter m) recover base 11 l.values fs taking some few pt x inside h
      in
      record {
        asks = k.asks;
        go = k.go;
        same = k.same;
        look = k.look;
        goes = λ w e r may. let g = k.goes w e r may in (g.0, g.1, takes_again g.2);
      }

  -- from before the template to its first request
  pub enters_begin : Go template_steps (Runs' base [] l fs) (at 3 (link ∷ process_word t 1 ∷ []) l)
  enters_begin =
      subst (λ n. Go template_steps (Runs' n [] l fs) (at 3 (link ∷ process_word t 1 ∷ []) l)) (omega arith)
      (wider image t (empty_view p) 3 template_steps _ _ (omega arith)
      (then_go 2 _ _ _ (step 0 1 _ _ [] (t ∷ []) l l refl refl (omega arith))
      (then_go 1 _ _ _ (step 1 2 _ _ (t ∷ []) (process_word t 1 ∷ []) l l refl
      (address_step (most_of image.image.version) t (base + 1) t Pending [] l.values l.scratch fs some few)
      (omega arith))
      (step 2 3 _ _ (process_word t 1 ∷ []) _ l l refl refl (omega arith)))))
