-- The template that takes a lock goes through its points.
use Rattle.std.proofs.Common.{◌≡◌, ◌≢◌, ℕ, zero, suc, ◌+◌, ◌<◌, ◌≤◌, ◌==◌, Bool, true, false, List, [], ◌∷◌, ◌++◌, Some}
use Rattle.std.proofs.Common.{slice_get, refl, ap, sym, ◌∙◌, subst, arith, le-leb}
use Rattle.std.specs.Prelude.{◌&&◌, nat_le, if◌then◌else◌}
use Rattle.std.specs.Int.Bits.{bit_and}
use Rattle.std.proofs.lemmas.Bool.{ne_eqb}
use Rattle.words.specs.declared.process.ProcessWord.{ProcessWord}
use Rattle.words.specs.declared.process.ProcessWord.TheVariants.{Head, Pending}
use Rattle.words.specs.Process.{process_word, number_of}
use Rattle.words.specs.Versions.{most_of}
use Rattle.isa.specs.declared.instr.Instr.{Instr}
use Rattle.isa.specs.declared.instr.Instr.TheVariants.{ProcessAddress}
use Rattle.proof_thread.specs.Deferrals.{deferred_by_mark, MarkedImage}
use Rattle.locals.specs.declared.frame.Frame.{Frame}
use Rattle.locals.specs.Threads.{Thread, Runs as Runs'}
use Rattle.locals.specs.Looks.{Request, Goes, Asks, AskStore, look, at_place, effect, if_so, truth, place_after_test}
use Rattle.program.specs.Trees.{Program}
use Rattle.lowering.specs.declared.mark.Mark.{Mark}
use Rattle.lowering.specs.declared.mark.Marked.{Marked}
use Rattle.lowering.specs.Marks.{plain, rebase_all}
use Rattle.lowering.specs.Layout.{link_word, lock_word_address}
use Rattle.lowering.specs.Locks.{take_at, got_at}
use Rattle.protocol.specs.Word.{owner, owner_died_bit, with_waiters}
use Rattle.protocol.specs.Points.{Purpose, Point, Runs, TakeReads, TakeMarks, TakeSleeps, TakeTries, GotReads}
use Rattle.protocol.specs.Answers.{next}
use Rattle.proof_thread.specs.Walks.{empty_view, StandAt, WalksWithin, stays}
use Rattle.proof_thread.proofs.Walking.{within_on, wider, one_step, look_here}
use Rattle.proof_thread.proofs.Awaiting.{stand_index}
use Rattle.proof_templates.specs.Layout.{place}
use Rattle.proof_templates.specs.Asking.{AsksSo, template_steps}
use Rattle.proof_templates.specs.Locking.{Takes, reads, marks, sleeps, tries, heads, links, lists, unpends, enters}
use Rattle.proof_templates.specs.Locking.{recovers}
use Rattle.proof_templates.specs.Locking.{template_locals}
use Rattle.protocol.specs.Memory.{entry_address}
use Rattle.protocol.specs.Rules.{ReleaseRule}

pub address_step : (most t place h : ℕ) (word : ProcessWord) (rest : List ℕ) (values : List ℕ) (s : ℕ) (fs : List Frame)
    → 0 < h
    → h ≤ most → at_place place (template_locals values s) fs
    (effect most t (ProcessAddress word) (h ∷ rest) (template_locals values s))
    ≡ Goes (Runs' (place + 1) (process_word h (number_of word) ∷ rest) (template_locals values s) fs)
address_step most t place h word rest values s fs some few =
    ap (λ k. if_so (k && nat_le h most)
    (Goes (Runs' (place + 1) (process_word h (number_of word) ∷ rest) (template_locals values
    s) fs)))
    (le-leb 1 h (omega (arith, some)))
    ∙ ap (λ k. if_so k (Goes (Runs' (place + 1) (process_word h (number_of word) ∷ rest)
    (template_locals values s) fs)))
    (le-leb h most few)

module _ (u : ReleaseRule) (p : Program) (image : MarkedImage) (t m : ℕ) (k : Purpose) (mark : Mark) (recover : Instr)
    (base a : ℕ)
    (values : List ℕ) (fs : List Frame)
    (code : StandAt image (base + a) (rebase_all base (take_at mark (link_word p m) a ++ got_at (link_word p m) recover
    (a + 32))))
    (some : 0 < t) (few : t ≤ most_of image.image.version) where
  abbrev first : ℕ
  first = base + a

  abbrev lock : ℕ
  lock = lock_word_address p m

  abbrev link : ℕ
  link = link_word p m

  abbrev segment : List Marked
  segment = rebase_all base (take_at mark (link_word p m) a ++ got_at (link_word p m) recover (a + 32))

  abbrev at : ℕ → List ℕ → ℕ → Thread
  at i operands word = Runs' (first + i) operands (template_locals values word) fs

  abbrev Go : ℕ → Thread → Thread → Type 0
  Go n x y = WalksWithin image t (empty_view p) n x y

  step : (i j : ℕ) (x : Instr) (operands operands' : List ℕ) (s s' place : ℕ) → slice_get segment i ≡ Some (plain x)
      → at_place (first + i) (template_locals values s) fs (effect (most_of image.image.version) t x operands
      (template_locals values s))
      ≡ Goes (Runs' place operands' (template_locals values s') fs) → place ≡ first + j
      → Go 1 (at i operands s) (at j operands' s')
  step i j x operands operands' s s' place e h same =
      let here = stand_index image first segment i (first + i) (plain x) code e refl in
      one_step image t (empty_view p) _ _
      (look_here image t (empty_view p) (first + i) x operands (template_locals values s) fs here
      ∙ h ∙ ap (λ n. Goes (Runs' n operands' (template_locals values s') fs)) same) (ap deferred_by_mark here.1)

  address : (i j : ℕ) (x : Instr) (word : ProcessWord) (rest : List ℕ) (s : ℕ) → slice_get segment i ≡ Some (plain x)
      → x ≡ ProcessAddress word → first + i + 1 ≡ first + j
      → Go 1 (at i (t ∷ rest) s) (at j (process_word t (number_of word) ∷ rest) s)
  address i j x word rest s e is same = step i j x (t ∷ rest) _ s s (first + i + 1) e
      (ap (λ (n : Instr). at_place (first + i) (template_locals values s) fs
      (effect (most_of image.image.version) t n (t ∷ rest) (template_locals values s))) is
      ∙ address_step (most_of image.image.version) t (first + i) t word rest values s fs some few) same

  then_go : (n : ℕ) (x y z : Thread) → Go 1 x y → Go n y z → Go (suc n) x z
  then_go n x y z v w = wider image t (empty_view p) (1 + n) (suc n) x z (omega arith)
      (within_on image t (empty_view p) 1 n
      x y z v w)

  enough : (n : ℕ) (x y : Thread) → n ≤ 12 → Go n x y → Go template_steps x y
  enough n x y le w = wider image t (empty_view p) n template_steps x y le w

  asks : (i j : ℕ) (x : Marked) (operands : List ℕ) (s : ℕ) (after : ℕ → List ℕ) (request : Request)
      → slice_get segment i ≡ Some x
      → at_place (first + i) (template_locals values s) fs (effect
      (most_of image.image.version) t x.instruction operands (template_locals values s))
      ≡ Asks request (λ r. Runs' (first + i + 1) (after r) (template_locals values s) fs) → first + i + 1 ≡ first + j
      → look image.image t (at i operands s) ≡ Asks request (λ r. at j (after r) s)
  asks i j x operands s after request e h same =
      look_here image t (empty_view p) (first + i) x.instruction operands (template_locals values s) fs
      (stand_index image first segment i (first + i) x code e refl)
      ∙ h ∙ ap (λ n. Asks request (λ r. Runs' n (after r) (template_locals values s) fs)) same

  tested : (n place next : ℕ) → n ≢ 0 → place_after_test n place next ≡ next
  tested zero place next ne = absurd (ne refl)
  tested (suc n) place next ne = refl

  abbrev In : Point → Thread → Type 0
  In = Takes p t m k first values fs

  abbrev Comes : Thread → Point → Type 0
  Comes x pt = (y : Thread) × Go template_steps x y × In pt y

  -- after the lock word is read: to the marking of an owned one, or to the taking of a free one
  seen : (r word : ℕ) → Go 4 (at 2 (r ∷ []) word) (at 6 (bit_and r 1073741823 ∷ []) r)
  seen r word = then_go 3 _ _ _ (step 2 3 _ (r ∷ []) [] word r _ refl refl (omega arith))
      (then_go 2 _ _ _ (step 3 4 _ [] (r ∷ []) r r _ refl refl (omega arith))
      (then_go 1 _ _ _ (step 4 5 _ (r ∷ []) (1073741823 ∷ r ∷ []) r r _ refl refl (omega arith))
      (step 5 6 _ (1073741823 ∷ r ∷ []) _ r r _ refl refl (omega arith))))

  to_mark : (r : ℕ) → Go 5 (at 7 [] r) (at 12 (with_waiters r ∷ r ∷ lock ∷ []) r)
  unfolding with_waiters
  to_mark r = then_go 4 _ _ _ (step 7 8 _ [] (lock ∷ []) r r _ refl refl (omega arith))
      (then_go 3 _ _ _ (step 8 9 _ (lock ∷ []) (r ∷ lock ∷ []) r r _ refl refl (omega arith))
      (then_go 2 _ _ _ (step 9 10 _ (r ∷ lock ∷ []) (r ∷ r ∷ lock ∷ []) r r _ refl refl (omega arith))
      (then_go 1 _ _ _ (step 10 11 _ (r ∷ r ∷ lock ∷ []) (2147483648 ∷ r ∷ r ∷ lock ∷ []) r r _ refl refl (omega arith))
      (step 11 12 _ (2147483648 ∷ r ∷ r ∷ lock ∷ []) _ r r _ refl refl (omega arith)))))

  to_try : (r : ℕ) → Go 5 (at 23 [] r) (at 28 (with_waiters t ∷ r ∷ lock ∷ []) r)
  unfolding with_waiters
  to_try r = then_go 4 _ _ _ (step 23 24 _ [] (lock ∷ []) r r _ refl refl (omega arith))
      (then_go 3 _ _ _ (step 24 25 _ (lock ∷ []) (r ∷ lock ∷ []) r r _ refl refl (omega arith))
      (then_go 2 _ _ _ (step 25 26 _ (r ∷ lock ∷ []) (t ∷ r ∷ lock ∷ []) r r _ refl refl (omega arith))
      (then_go 1 _ _ _ (step 26 27 _ (t ∷ r ∷ lock ∷ []) (2147483648 ∷ t ∷ r ∷ lock ∷ []) r r _ refl refl (omega arith))
      (step 27 28 _ (2147483648 ∷ t ∷ r ∷ lock ∷ []) _ r r _ refl refl (omega arith)))))

  after_seen : (r word n : ℕ) → owner r ≡ n → Comes (at 2 (r ∷ []) word) (if n == 0 then TakeTries m r k else
      TakeMarks m r k)
  unfolding owner
  after_seen r word zero e = (
    at 28 (with_waiters t ∷ r ∷ lock ∷ []) r,
    enough 10 _ _ (omega arith) (within_on image t (empty_view p) 4 6 _ _ _ (seen r word) (then_go 5 _ _ _
        (step 6 23 _ (bit_and r 1073741823 ∷ []) [] r r _ refl
        (ap (λ v. Goes (Runs' (place_after_test v (base + (a + 23)) (first + 6 + 1)) []
        (template_locals values r) fs)) e)
        (omega arith))
        (to_try r))),
    tries r,
  )
  after_seen r word (suc n) e =
      let other : bit_and r 1073741823 ≢ 0 = λ z. omega (arith, e, z) in
      let point : (suc n == 0) ≡ false = ne_eqb (suc n) 0 (λ z. omega (arith, z)) in (
        at 12 (with_waiters r ∷ r ∷ lock ∷ []) r,
        enough 10 _ _ (omega arith) (within_on image t (empty_view p) 4 6 _ _ _ (seen r word) (then_go 5 _ _ _
            (step 6 7 _ (bit_and r 1073741823 ∷ []) [] r r _ refl
            (ap (λ v. Goes (Runs' v [] (template_locals values r) fs))
            (tested (bit_and r 1073741823) (base + (a + 23)) (first +
            6 + 1) other))
            (omega arith)) (to_mark r))),
        subst (λ (b : Bool). In (if b then TakeTries m r k else TakeMarks m r k) (at 12 (with_waiters r ∷ r ∷ lock ∷
            []) r))
            (sym point) (marks r),
      )

  -- back to the reading of the lock word
  pub again : (word : ℕ) → Go 1 (at 0 [] word) (at 1 (lock ∷ []) word)
  again word = step 0 1 _ [] (lock ∷ []) word word _ refl refl (omega arith)

  -- with the lock: to the first step on the list
  pub to_list : (v : ℕ) → Go 3 (at 32 [] v) (at 35 (process_word t 0 ∷ link ∷ []) v)
  to_list v = then_go 2 _ _ _ (step 32 33 _ [] (link ∷ []) v v _ refl refl (omega arith))
      (then_go 1 _ _ _ (step 33 34 _ (link ∷ []) (t ∷ link ∷ []) v v _ refl refl (omega arith))
      (address 34 35 _ Head (link ∷ []) v refl refl (omega arith)))

  -- after the marking of an owned lock word
  after_mark : (r v : ℕ) (b : Bool) → (r == v) ≡ b
      → Comes (at 13 (r ∷ []) v) (if b then TakeSleeps m (with_waiters v) k else TakeReads m k)
  unfolding with_waiters
  after_mark r v true e = (
    at 20 (with_waiters v ∷ lock ∷ []) v,
    enough 7 _ _ (omega arith) (then_go 6 _ _ _ (step 13 14 _ (r ∷ []) (v ∷ r ∷ []) v v _ refl refl (omega arith))
        (then_go 5 _ _ _ (step 14 15 _ (v ∷ r ∷ []) (1 ∷ []) v v _ refl
        (ap (λ c. Goes (Runs' (first + 14 + 1) (truth c ∷ []) (template_locals values v) fs)) e) (omega arith))
        (then_go 4 _ _ _ (step 15 16 _ (1 ∷ []) [] v v _ refl refl (omega arith))
        (then_go 3 _ _ _ (step 16 17 _ [] (lock ∷ []) v v _ refl refl (omega arith))
        (then_go 2 _ _ _ (step 17 18 _ (lock ∷ []) (v ∷ lock ∷ []) v v _ refl refl (omega arith))
        (then_go 1 _ _ _ (step 18 19 _ (v ∷ lock ∷ []) (2147483648 ∷ v ∷ lock ∷ []) v v _ refl refl (omega arith))
        (step 19 20 _ (2147483648 ∷ v ∷ lock ∷ []) _ v v _ refl refl (omega arith)))))))),
    sleeps v,
  )
  after_mark r v false e = (
    at 1 (lock ∷ []) v,
    enough 4 _ _ (omega arith) (then_go 3 _ _ _ (step 13 14 _ (r ∷ []) (v ∷ r ∷ []) v v _ refl refl (omega arith))
        (then_go 2 _ _ _ (step 14 15 _ (v ∷ r ∷ []) (0 ∷ []) v v _ refl
        (ap (λ c. Goes (Runs' (first + 14 + 1) (truth c ∷ []) (template_locals values v) fs)) e) (omega arith))
        (then_go 1 _ _ _ (step 15 0 _ (0 ∷ []) [] v v _ refl refl (omega arith)) (again v)))),
    reads v,
  )

  -- after the taking of a free one
  after_try : (r v : ℕ) (b : Bool) → (r == v) ≡ b → Comes (at 29 (r ∷ []) v) (if b then GotReads m v else TakeReads m k)
  after_try r v true e = (
    at 35 (process_word t 0 ∷ link ∷ []) v,
    enough 6 _ _ (omega arith) (then_go 5 _ _ _ (step 29 30 _ (r ∷ []) (v ∷ r ∷ []) v v _ refl refl (omega arith))
        (then_go 4 _ _ _ (step 30 31 _ (v ∷ r ∷ []) (1 ∷ []) v v _ refl
        (ap (λ c. Goes (Runs' (first + 30 + 1) (truth c ∷ []) (template_locals values v) fs)) e) (omega arith))
        (then_go 3 _ _ _ (step 31 32 _ (1 ∷ []) [] v v _ refl refl (omega arith)) (to_list v)))),
    heads v,
  )
  after_try r v false e = (
    at 1 (lock ∷ []) v,
    enough 4 _ _ (omega arith) (then_go 3 _ _ _ (step 29 30 _ (r ∷ []) (v ∷ r ∷ []) v v _ refl refl (omega arith))
        (then_go 2 _ _ _ (step 30 31 _ (v ∷ r ∷ []) (0 ∷ []) v v _ refl
        (ap (λ c. Goes (Runs' (first + 30 + 1) (truth c ∷ []) (template_locals values v) fs)) e) (omega arith))
        (then_go 1 _ _ _ (step 31 0 _ (0 ∷ []) [] v v _ refl refl (omega arith)) (again v)))),
    reads v,
  )

  -- after the clearing of the pending word: on in the monitor, or to its recovery
  pub to_enter : (v : ℕ) → owner_died_bit v ≡ 0 → Go template_steps (at 45 [] v) (at 50 [] v)
  unfolding owner_died_bit
  to_enter v e =
      enough 4 _ _ (omega arith) (then_go 3 _ _ _ (step 45 46 _ [] (v ∷ []) v v _ refl refl (omega arith))
      (then_go 2 _ _ _ (step 46 47 _ (v ∷ []) (1073741824 ∷ v ∷ []) v v _ refl refl (omega arith))
      (then_go 1 _ _ _ (step 47 48 _ (1073741824 ∷ v ∷ []) (bit_and v 1073741824 ∷ []) v v _ refl refl (omega arith))
      (step 48 50 _ (bit_and v 1073741824 ∷ []) [] v v _ refl
      (ap (λ z. Goes (Runs' (place_after_test z (base + (a + 32 + 18)) (first + 48 + 1)) []
      (template_locals values v) fs)) e)
      (omega arith)))))

  pub to_recover : (v : ℕ) → owner_died_bit v ≢ 0 → Go template_steps (at 45 [] v) (at 49 [] v)
  unfolding owner_died_bit
  to_recover v other =
      enough 4 _ _ (omega arith) (then_go 3 _ _ _ (step 45 46 _ [] (v ∷ []) v v _ refl refl (omega arith))
      (then_go 2 _ _ _ (step 46 47 _ (v ∷ []) (1073741824 ∷ v ∷ []) v v _ refl refl (omega arith))
      (then_go 1 _ _ _ (step 47 48 _ (1073741824 ∷ v ∷ []) (bit_and v 1073741824 ∷ []) v v _ refl refl (omega arith))
      (step 48 49 _ (bit_and v 1073741824 ∷ []) [] v v _ refl
      (ap (λ z. Goes (Runs' z [] (template_locals values v) fs))
      (tested (bit_and v 1073741824) (base + (a + 32 + 18)) (first + 48 + 1) other)) (omega arith)))))

  after_unpend : (v n : ℕ) → owner_died_bit v ≡ n → Comes (at 45 [] v) Runs
  after_unpend v zero e = (at 50 [] v, to_enter v e, enters v e)
  after_unpend v (suc n) e =
      let other : owner_died_bit v ≢ 0 = λ z. omega (arith, e, z) in (at 49 [] v, to_recover v other, recovers v other)

  pub unpends_look : (v : ℕ)
      → look image.image t (at 44 (0 ∷ process_word t 1 ∷ []) v) ≡ Asks (AskStore (process_word t 1) 0)
      (λ r. at 45 [] v)
  unpends_look v = asks 44 45 _ (0 ∷ process_word t 1 ∷ []) v (λ r. []) _ refl refl (omega arith)

  stay : (x : Thread) → Go template_steps x x
  stay x = record { count = 0; few = omega arith; walk = stays }

  -- a thread at a point of the template asks what the point asks, and goes on as the point does
  pub takes_follow : (pt : Point) (x : Thread) → (pt ≡ Runs → ⊥) → In pt x → AsksSo u p image t In pt x
  takes_follow pt x inside (reads word) = record {
    asks = _;
    go = λ r. at 2 (r ∷ []) word;
    same = refl;
    look = asks 1 2 _ (lock ∷ []) word (λ r. r ∷ []) _ refl refl (omega arith);
    goes = λ w e r may. after_seen r word (owner r) refl;
  }
  takes_follow pt x inside (marks v) = record {
    asks = _;
    go = λ r. at 13 (r ∷ []) v;
    same = refl;
    look = asks 12 13 _ (with_waiters v ∷ v ∷ lock ∷ []) v (λ r. r ∷ []) _ refl refl (omega arith);
    goes = λ w e r may. after_mark r v (r == v) refl;
  }
  takes_follow pt x inside (sleeps v) = record {
    asks = _;
    go = λ r. at 21 (r ∷ []) v;
    same = refl;
    look = asks 20 21 _ (with_waiters v ∷ lock ∷ []) v (λ r. r ∷ []) _ refl refl (omega arith);
    goes = λ w e r may. (
      at 1 (lock ∷ []) v,
      enough 3 _ _ (omega arith) (then_go 2 _ _ _ (step 21 22 _ (r ∷ []) [] v v _ refl refl (omega arith))
          (then_go 1 _ _ _ (step 22 0 _ [] [] v v _ refl refl (omega arith)) (again v))),
      reads v,
    );
  }
  takes_follow pt x inside (tries v) = record {
    asks = _;
    go = λ r. at 29 (r ∷ []) v;
    same = refl;
    look = asks 28 29 _ (with_waiters t ∷ v ∷ lock ∷ []) v (λ r. r ∷ []) _ refl refl (omega arith);
    goes = λ w e r may. after_try r v (r == v) refl;
  }
  takes_follow pt x inside (heads v) = record {
    asks = _;
    go = λ r. at 36 (r ∷ link ∷ []) v;
    same = refl;
    look = asks 35 36 _ (process_word t 0 ∷ link ∷ []) v (λ r. r ∷ link ∷ []) _ refl refl (omega arith);
    goes = λ w e r may. (at 36 (entry_address (place p) r ∷ link ∷ []) v, stay _, links v r);
  }
  takes_follow pt x inside (links v h) = record {
    asks = _;
    go = λ r. at 37 [] v;
    same = refl;
    look = asks 36 37 _ (entry_address (place p) h ∷ link ∷ []) v (λ r. []) _ refl refl (omega arith);
    goes = λ w e r may. (
      at 40 (link ∷ process_word t 0 ∷ []) v,
      enough 3 _ _ (omega arith) (then_go 2 _ _ _ (step 37 38 _ [] (t ∷ []) v v _ refl refl (omega arith))
          (then_go 1 _ _ _ (address 38 39 _ Head [] v refl refl (omega arith))
          (step 39 40 _ (process_word t 0 ∷ []) _ v v _ refl refl (omega arith)))),
      lists v,
    );
  }
  takes_follow pt x inside (lists v) = record {
    asks = _;
    go = λ r. at 41 [] v;
    same = refl;
    look = asks 40 41 _ (link ∷ process_word t 0 ∷ []) v (λ r. []) _ refl refl (omega arith);
    goes = λ w e r may. (
      at 44 (0 ∷ process_word t 1 ∷ []) v,
      enough 3 _ _ (omega arith) (then_go 2 _ _ _ (step 41 42 _ [] (t ∷ []) v v _ refl refl (omega arith))
          (then_go 1 _ _ _ (address 42 43 _ Pending [] v refl refl (omega arith))
          (step 43 44 _ (process_word t 1 ∷ []) _ v v _ refl refl (omega arith)))),
      unpends v,
    );
  }
  takes_follow pt x inside (unpends v) = record {
    asks = _;
    go = λ r. at 45 [] v;
    same = refl;
    look = unpends_look v;
    goes = λ w e r may. after_unpend v (owner_died_bit v) refl;
  }
  takes_follow pt x inside (enters v e) = absurd (inside refl)
  takes_follow pt x inside (recovers v e) = absurd (inside refl)
