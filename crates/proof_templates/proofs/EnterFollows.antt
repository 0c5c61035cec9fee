-- A thread that enters a monitor follows the protocol, and its process enters with it.
use Rattle.std.proofs.Common.{inl, inr, ◌≡◌, ◌≢◌, ℕ, zero, suc, ◌+◌, ◌<◌, ◌≤◌, ◌==◌, Bool, true, false, List, []}
use Rattle.std.proofs.Common.{Option, Some, None, refl, sym, ◌∙◌, subst, arith}
use Rattle.std.specs.Prelude.{if◌then◌else◌}
use Rattle.std.proofs.lemmas.Bool.{ne_eqb}
use Rattle.words.specs.Process.{process_word}
use Rattle.words.specs.Versions.{most_of}
use Rattle.locals.specs.declared.frame.Locals.{Locals}
use Rattle.locals.specs.declared.frame.Frame.{Frame as MachineFrame}
use Rattle.locals.specs.Threads.{Thread, Runs as Runs'}
use Rattle.locals.specs.Looks.{AskStore}
use Rattle.lowering.specs.declared.mark.Mark.TheVariants.{Enter}
use Rattle.meaning.specs.Labels.{End}
use Rattle.meaning.specs.Labels as L
use Rattle.meaning.specs.Table.{Table}
use Rattle.meaning.specs.Values.{Variables}
use Rattle.meaning.specs.Processes.{Frame, Caller, Process, Entering, goes_on, recovers as recovers', callers_monitors}
use Rattle.protocol.specs.Word.{owner, owner_died_bit, with_waiters}
use Rattle.protocol.specs.Carries.{Event, Acts, has_died, taking_label}
use Rattle.protocol.specs.Points.{Purpose, ToEnter, ToReenter, Point, Runs, GotReads, GotUnpends, TakeReads, TakeMarks}
use Rattle.protocol.specs.Points.{TakeSleeps, TakeTries}
use Rattle.protocol.specs.World.{World}
use Rattle.proof_thread.specs.Following.{Build, recovery_in, Stands}
use Rattle.proof_thread.specs.Builds.{IsBuild}
use Rattle.proof_templates.specs.Asking.{AsksSo}
use Rattle.proof_templates.specs.Locking.{Takes, reads, marks, sleeps, tries, heads, links, lists, unpends, enters}
use Rattle.proof_templates.specs.Locking.{recovers}
use Rattle.proof_templates.specs.Locking.{EntersAt, template_locals}
use Rattle.proof_templates.specs.Locking as T
use Rattle.proof_templates.specs.Inside.{Template, Enters, lock_taker, EnterFits}
use Rattle.proof_templates.specs.Templates.{ActsSo, StandsOn, Comes, Follows}
use Rattle.proof_templates.proofs.Locking.{to_enter, to_recover, unpends_look}
use Rattle.proof_templates.proofs.Entering.{enters_follow, taking}
use Rattle.proof_templates.proofs.Taken.{entry_alone, taken_free, taken_abandoned, taken_holds, follows_by}
use Rattle.protocol.specs.Rules.{release_of}

module _ (b : Build) (vs : Variables) (t m base : ℕ) (l : Locals) (fs : List MachineFrame) (f : Frame)
    (cs : List Caller) (is : IsBuild b) (some : 0 < t) (few : t ≤ most_of b.code.image.version)
    (fits : EnterFits b t m base l fs f cs) where
  abbrev k : Template
  k = Enters m base l fs f cs

  abbrev In : Point → Thread → Type 0
  In = EntersAt b.program t m base l fs

  abbrev at : ℕ → ℕ → Thread
  at i word = Runs' (base + 11 + i) [] (template_locals l.values word) fs

  -- the process does what a step carries, and the thread stands at the next point
  abbrev On : Option Event → Process → Point → List ℕ → Thread → Type 0
  On event q pt ms y = (q' : Process) × ActsSo b.program vs t event q q' × StandsOn b t k pt ms y q'

  asks : (pt : Point) (x : Thread) → (pt ≡ Runs → ⊥) → In pt x
      → AsksSo (release_of b.program.version) b.program b.code t In pt x
  asks = enters_follow (release_of b.program.version) b.program b.code t m base (recovery_in b m) l fs fits.code some
      few

  nobody : owner_died_bit 0 ≡ 0
  unfolding owner_died_bit
  nobody = refl

  tried : (x : Bool) (K : Purpose) (y : Thread) → In (if x then GotReads m 0 else TakeReads m K) y
      → On (if x then Some (Acts t (L.Enters m false)) else None) (Entering m f cs)
      (if x then GotReads m 0 else TakeReads m K) (callers_monitors cs) y
  tried true K y s = (
    lock_taker b.program m f cs 0,
    (refl, (false, refl, refl, taken_free b m f cs 0 nobody)),
    inl ((λ n. absurd cc), s, refl, refl),
  )
  tried false K y s = (Entering m f cs, refl, inl ((λ n. absurd cc), s, refl, refl))

  tried_again : (r : ℕ) → r ≢ 0 → (y : Thread) → In (if r == 0 then GotReads m 0 else TakeReads m ToReenter) y
      → On None (Entering m f cs) (if r == 0 then GotReads m 0 else TakeReads m ToReenter) (callers_monitors cs) y
  tried_again r ne y =
      subst (λ (x : Bool). In (if x then GotReads m 0 else TakeReads m ToReenter) y
      → On None (Entering m f cs) (if x then GotReads m 0 else TakeReads m ToReenter) (callers_monitors cs) y)
      (sym (ne_eqb r 0 ne)) (λ s. (Entering m f cs, refl, inl ((λ n. absurd cc), s, refl, refl)))

  -- in the taking of the lock
  module _ (K : Purpose) (label : (x : Bool) → taking_label K m x ≡ L.Enters m x) where
    after_read : (x : Bool) (r : ℕ) (y : Thread) → In (if x then TakeTries m r K else TakeMarks m r K) y
        → On None (Entering m f cs) (if x then TakeTries m r K else TakeMarks m r K) (callers_monitors cs) y
    after_read true r y s = (Entering m f cs, refl, inl ((λ n. absurd cc), s, refl, refl))
    after_read false r y s = (Entering m f cs, refl, inl ((λ n. absurd cc), s, refl, refl))

    after_mark : (x : Bool) (v : ℕ) (y : Thread) → In (if x then TakeSleeps m v K else TakeReads m K) y
        → On None (Entering m f cs) (if x then TakeSleeps m v K else TakeReads m K) (callers_monitors cs) y
    after_mark true v y s = (Entering m f cs, refl, inl ((λ n. absurd cc), s, refl, refl))
    after_mark false v y s = (Entering m f cs, refl, inl ((λ n. absurd cc), s, refl, refl))

    after_try : (x : Bool) (v : ℕ) (y : Thread) → In (if x then GotReads m v else TakeReads m K) y
        → On (if x then Some (Acts t (taking_label K m (has_died v))) else None) (Entering m f cs)
        (if x then GotReads m v else TakeReads m K) (callers_monitors cs) y
    after_try true v y s = (
      lock_taker b.program m f cs v,
      (refl, (has_died v, label (has_died v), refl, refl)),
      inl ((λ n. absurd cc), s, refl, refl),
    )
    after_try false v y s = (Entering m f cs, refl, inl ((λ n. absurd cc), s, refl, refl))

    -- with nothing pending any more
    module _ (w : World) (table : Table) (e : End) (r : ℕ) (w' : World) where
      got : (v n : ℕ) → owner_died_bit v ≡ n → Comes b vs t k (GotUnpends m v) w table e r w' (at 45 v)
      got v zero free = record {
        thread = at 50 v;
        walk = to_enter (release_of b.program.version) b.program b.code t m K (Enter m) (recovery_in b m) base 11
            l.values fs
            (taking (release_of b.program.version) b.program b.code t m base (recovery_in b m) l fs fits.code some
            few) some few v free;
        process = lock_taker b.program m f cs v;
        acts = refl;
        stands = inr (
          refl,
          subst (λ (q : Process). Stands b t (at 50 v) q) (sym (taken_free b m f cs v free))
              (subst (λ n. Stands b t (Runs' n [] (template_locals l.values v) fs) (goes_on (Some m) f cs))
              (omega arith)
              (fits.after.enters v)),
          sym (taken_holds b is m f cs v (entry_alone m f cs fits.held) ∙ fits.held),
        );
      }
      got v (suc n) dead = got_abandoned v (λ z. omega (arith, dead, z))
        where
          got_abandoned : (v : ℕ) → owner_died_bit v ≢ 0 → Comes b vs t k (GotUnpends m v) w table e r w' (at 45 v)
          got_abandoned v ne = record {
            thread = at 49 v;
            walk = to_recover (release_of b.program.version) b.program b.code t m K (Enter m) (recovery_in b m) base
                11 l.values fs
                (taking (release_of b.program.version) b.program b.code t m base (recovery_in b m) l fs fits.code some
                few) some few v ne;
            process = lock_taker b.program m f cs v;
            acts = refl;
            stands = inr (
              refl,
              subst (λ (q : Process). Stands b t (at 49 v) q) (sym (taken_abandoned b m f cs v ne))
                  (subst (λ n. Stands b t (Runs' n [] (template_locals l.values v) fs) (recovers' b.program m f cs))
                  (omega arith)
                  (fits.after.recovers v)),
              sym (taken_holds b is m f cs v (entry_alone m f cs fits.held) ∙ fits.held),
            );
          }

    takes_go : (pt : Point) (x : Thread) → pt ≢ Runs → In pt x → Takes b.program t m K (base + 11) l.values fs pt x
        → Follows b vs t k pt x
    takes_go pt x inside s (reads word) = follows_by b vs t k pt x (asks pt x inside s)
        (λ w tb e r w' y may z. after_read (owner r == 0) r y z)
    takes_go pt x inside s (marks v) = follows_by b vs t k pt x (asks pt x inside s)
        (λ w tb e r w' y may z. after_mark (r == v) (with_waiters v) y z)
    takes_go pt x inside s (sleeps v) = follows_by b vs t k pt x (asks pt x inside s)
        (λ w tb e r w' y may z. (Entering m f cs, refl, inl ((λ n. absurd cc), z, refl, refl)))
    takes_go pt x inside s (tries v) = follows_by b vs t k pt x (asks pt x inside s)
        (λ w tb e r w' y may z. after_try (r == v) v y z)
    takes_go pt x inside s (heads v) = follows_by b vs t k pt x (asks pt x inside s)
        (λ w tb e r w' y may z. (lock_taker b.program m f cs v, refl, inl ((λ n. absurd cc), z, refl, refl)))
    takes_go pt x inside s (links v h) = follows_by b vs t k pt x (asks pt x inside s)
        (λ w tb e r w' y may z. (lock_taker b.program m f cs v, refl, inl ((λ n. absurd cc), z, refl, refl)))
    takes_go pt x inside s (lists v) = follows_by b vs t k pt x (asks pt x inside s)
        (λ w tb e r w' y may z. (lock_taker b.program m f cs v, refl, inl ((λ n. absurd cc), z, refl, refl)))
    takes_go pt x inside s (unpends v) = record {
      asks = AskStore (process_word t 1) 0;
      go = λ r. at 45 v;
      same = refl;
      look = unpends_look (release_of b.program.version) b.program b.code t m K (Enter m) (recovery_in b m) base 11
          l.values fs
          (taking (release_of b.program.version) b.program b.code t m base (recovery_in b m) l fs fits.code some few)
          some few v;
      goes = λ w tb e r w' may. got w tb e r w' v (owner_died_bit v) refl;
    }
    takes_go pt x inside s (enters v e) = absurd (inside refl)
    takes_go pt x inside s (recovers v e) = absurd (inside refl)

  pub enters_go : (pt : Point) (x : Thread) → pt ≢ Runs → In pt x → Follows b vs t k pt x
  enters_go pt x inside T.EntersAt.pends = follows_by b vs t k pt x (asks pt x inside T.EntersAt.pends)
      (λ w tb e r w' y may z. (Entering m f cs, refl, inl ((λ n. absurd cc), z, refl, refl)))
  enters_go pt x inside T.EntersAt.tries = follows_by b vs t k pt x (asks pt x inside T.EntersAt.tries)
      (λ w tb e r w' y may z. tried (r == 0) ToEnter y z)
  enters_go pt x inside (T.EntersAt.takes h) = takes_go ToEnter (λ z. refl) pt x inside (T.EntersAt.takes h) h
  enters_go pt x inside T.pends_again = follows_by b vs t k pt x (asks pt x inside T.pends_again)
      (λ w tb e r w' y may z. (Entering m f cs, refl, inl ((λ n. absurd cc), z, refl, refl)))
  enters_go pt x inside T.tries_again = follows_by b vs t k pt x (asks pt x inside T.tries_again)
      (λ w tb e r w' y may z. tried_again r may y z)
  enters_go pt x inside (T.takes_again h) = takes_go ToReenter (λ z. refl) pt x inside (T.takes_again h) h
