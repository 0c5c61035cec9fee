-- The template of WAIT goes through its points, where the lock word is swapped for 0.
use Rattle.std.proofs.Common.{◌≡◌, ◌≢◌, ℕ, zero, suc, ◌+◌, ◌<◌, ◌≤◌, ◌==◌, Bool, List, [], ◌∷◌, Some, slice_get, refl}
use Rattle.std.proofs.Common.{ap, sym, ◌∙◌, subst, arith, le-leb, ◌++◌}
use Rattle.std.specs.Prelude.{if◌then◌else◌, ◌&&◌, nat_le}
use Rattle.std.specs.Int.Bits.{bit_and}
use Rattle.std.proofs.lemmas.Bool.{ne_eqb}
use Rattle.words.specs.declared.process.ProcessWord.{ProcessWord}
use Rattle.words.specs.declared.process.ProcessWord.TheVariants.{Head, Pending}
use Rattle.words.specs.Process.{process_word, number_of}
use Rattle.words.specs.Versions.{most_of}
use Rattle.isa.specs.declared.instr.Instr.{Instr}
use Rattle.isa.specs.declared.instr.Instr.TheVariants.{ProcessAddress}
use Rattle.proof_thread.specs.Deferrals.{deferred_by_mark, MarkedImage}
use Rattle.locals.specs.declared.frame.Locals.{Locals}
use Rattle.locals.specs.declared.frame.Frame.{Frame}
use Rattle.locals.specs.Threads.{Thread, Runs as Runs'}
use Rattle.locals.specs.Looks.{Request, Goes, Asks, look, at_place, effect, if_so, place_after_test}
use Rattle.program.specs.Trees.{Program}
use Rattle.lowering.specs.declared.mark.Marked.{Marked}
use Rattle.lowering.specs.Marks.{plain, rebase_all}
use Rattle.lowering.specs.Layout.{link_word, lock_word_address, member_address}
use Rattle.lowering.specs.Locks.{take_at, got_at}
use Rattle.lowering.specs.Conditions.{sleep_code, wait_code}
use Rattle.lowering.specs.declared.mark.Mark.TheVariants.{Resume}
use Rattle.program.specs.declared.kinds.Member.{Member}
use Rattle.protocol.specs.Word.{waiters}
use Rattle.protocol.specs.Points.{ToWait, ToResume, Point, Runs, LeaveWakes, HasLeft}
use Rattle.protocol.specs.Memory.{entry_address}
use Rattle.proof_thread.specs.Walks.{empty_view, StandAt, WalksWithin, stays}
use Rattle.proof_thread.proofs.Walking.{front_stands, back_stands, within_on, wider, one_step, look_here}
use Rattle.proof_thread.proofs.Awaiting.{stand_index}
use Rattle.proof_templates.specs.Layout.{place}
use Rattle.proof_templates.specs.Asking.{AsksSo, template_steps}
use Rattle.proof_templates.specs.Locking.{WaitsAt, template_locals}
use Rattle.proof_templates.specs.Locking.WaitsAt.{numbers, pends, reads, cuts, swaps, wakes, sleeps, takes}
use Rattle.proof_templates.specs.Locking as L
use Rattle.proof_templates.proofs.Locking as T
use Rattle.words.specs.declared.version.ImageVersion.TheVariants.{One}
use Rattle.protocol.specs.Rules.{ClearsWord}

module _ (p : Program) (image : MarkedImage) (t base : ℕ) (c : Member) (recover : Instr) (l : Locals) (fs : List Frame)
    (code : StandAt image base (rebase_all base (wait_code One c (link_word p c.monitor) (member_address p c) recover)))
    (some : 0 < t) (few : t ≤ most_of image.image.version) where
  abbrev link : ℕ
  link = link_word p c.monitor

  abbrev lock : ℕ
  lock = lock_word_address p c.monitor

  abbrev number : ℕ
  number = member_address p c

  abbrev segment : List Marked
  segment = rebase_all base (sleep_code One c (link_word p c.monitor) (member_address p c))

  abbrev later : List Marked
  later = rebase_all base (take_at (Resume c.monitor) (link_word p c.monitor) 24 ++ got_at (link_word p c.monitor)
      recover (24 + 32))

  sleeping : StandAt image base segment
  sleeping = front_stands image base segment later code

  pub taking : StandAt image (base + 24) later
  taking = back_stands image base segment later code

  abbrev Go : ℕ → Thread → Thread → Type 0
  Go n x y = WalksWithin image t (empty_view p) n x y

  abbrev at : ℕ → List ℕ → Thread
  at i operands = Runs' (base + i) operands l fs

  step : (i j place : ℕ) (x : Instr) (operands operands' : List ℕ) → slice_get segment i ≡ Some (plain x)
      → at_place (base + i) l fs (effect (most_of image.image.version) t x operands l) ≡ Goes
      (Runs' place operands' l fs)
      → place ≡ base + j → Go 1 (at i operands) (at j operands')
  step i j place x operands operands' e h same =
      let here = stand_index image base segment i (base + i) (plain x) sleeping e refl in
      one_step image t (empty_view p) _ _ (look_here image t (empty_view p) (base + i) x operands l fs here
      ∙ h ∙ ap (λ n. Goes (Runs' n operands' l fs)) same) (ap deferred_by_mark here.1)

  -- the address of a word of the thread's own
  address : (i j : ℕ) (x : Instr) (word : ProcessWord) (rest : List ℕ) → slice_get segment i ≡ Some (plain x)
      → x ≡ ProcessAddress word → base + i + 1 ≡ base + j
      → Go 1 (at i (t ∷ rest)) (at j (process_word t (number_of word) ∷ rest))
  address i j x word rest e is same = step i j (base + i + 1) x (t ∷ rest) _ e
      (ap (λ (n : Instr). at_place (base + i) l fs (effect (most_of image.image.version) t n (t ∷ rest) l)) is
      ∙ ap (λ k. if_so (k && nat_le t (most_of image.image.version)) (Goes (Runs' (base + i + 1) (process_word t
      (number_of word) ∷ rest) l fs)))
      (le-leb 1 t (omega (arith, some)))
      ∙ ap (λ k. if_so k (Goes (Runs' (base + i + 1) (process_word t (number_of word) ∷ rest) l fs))) (le-leb t
      (most_of image.image.version) few)) same

  then_go : (n : ℕ) (x y z : Thread) → Go 1 x y → Go n y z → Go (suc n) x z
  then_go n x y z v w = wider image t (empty_view p) (1 + n) (suc n) x z (omega arith)
      (within_on image t (empty_view p) 1 n x y z v w)

  enough : (n : ℕ) (x y : Thread) → n ≤ 12 → Go n x y → Go template_steps x y
  enough n x y le w = wider image t (empty_view p) n template_steps x y le w

  asks : (i j : ℕ) (x : Marked) (operands : List ℕ) (after : ℕ → List ℕ) (request : Request)
      → slice_get segment i ≡ Some x
      → at_place (base + i) l fs (effect (most_of image.image.version) t x.instruction operands l)
      ≡ Asks request (λ r. Runs' (base + i + 1) (after r) l fs)
      → base + i + 1 ≡ base + j → look image.image t (at i operands) ≡ Asks request (λ r. at j (after r))
  asks i j x operands after request e h same =
      look_here image t (empty_view p) (base + i) x.instruction operands l fs
      (stand_index image base segment i (base + i) x sleeping e refl)
      ∙ h ∙ ap (λ n. Asks request (λ r. Runs' n (after r) l fs)) same

  abbrev In : Point → Thread → Type 0
  In = WaitsAt 19 ClearsWord p t c base l fs

  abbrev Comes : Thread → Point → Type 0
  Comes x pt = (y : Thread) × Go template_steps x y × In pt y

  tested : (n place next : ℕ) → n ≢ 0 → place_after_test n place next ≡ next
  tested zero place next ne = absurd (ne refl)
  tested (suc n) place next ne = refl

  after_swap : (v o n : ℕ) → waiters o ≡ n → Comes (at 15 (o ∷ v ∷ number ∷ []))
      (if n == 0 then HasLeft c.monitor (ToWait c v) else LeaveWakes c.monitor (ToWait c v))
  unfolding waiters
  after_swap v o zero e = (
    at 22 (v ∷ number ∷ []),
    enough 3 _ _ (omega arith) (then_go 2 _ _ _ (step 15 16 _ _ (o ∷ v ∷ number ∷ []) (2147483648 ∷ o ∷ v ∷ number ∷ [])
        refl refl (omega arith))
        (then_go 1 _ _ _ (step 16 17 _ _ (2147483648 ∷ o ∷ v ∷ number ∷ []) (bit_and o 2147483648 ∷ v ∷ number ∷ [])
        refl
        refl (omega arith))
        (step 17 22 _ _ (bit_and o 2147483648 ∷ v ∷ number ∷ []) (v ∷ number ∷ []) refl
        (ap (λ z. Goes (Runs' (place_after_test z (base + (3 + 19)) (base + 17 + 1)) (v ∷ number ∷ []) l fs)) e)
        (omega arith)))),
    sleeps v,
  )
  after_swap v o (suc n) e =
      let other : bit_and o 2147483648 ≢ 0 = λ z. omega (arith, e, z) in (
        at 20 (1 ∷ lock ∷ v ∷ number ∷ []),
        enough 5 _ _ (omega arith) (then_go 4 _ _ _ (step 15 16 _ _ (o ∷ v ∷ number ∷ [])
            (2147483648 ∷ o ∷ v ∷ number ∷ []) refl refl (omega arith))
            (then_go 3 _ _ _ (step 16 17 _ _ (2147483648 ∷ o ∷ v ∷ number ∷ []) (bit_and o 2147483648 ∷ v ∷ number ∷ [])
            refl refl (omega arith))
            (then_go 2 _ _ _ (step 17 18 _ _ (bit_and o 2147483648 ∷ v ∷ number ∷ []) (v ∷ number ∷ []) refl
            (ap (λ z. Goes (Runs' z (v ∷ number ∷ []) l fs))
            (tested (bit_and o 2147483648) (base + (3 + 19)) (base + 17 + 1) other)) (omega arith))
            (then_go 1 _ _ _ (step 18 19 _ _ (v ∷ number ∷ []) (lock ∷ v ∷ number ∷ []) refl refl (omega arith))
            (step 19 20 _ _ (lock ∷ v ∷ number ∷ []) _ refl refl (omega arith)))))),
        subst (λ (b : Bool). In (if b then HasLeft c.monitor (ToWait c v) else LeaveWakes c.monitor (ToWait c v))
            (at 20 (1 ∷ lock ∷ v ∷ number ∷ [])))
            (sym (ne_eqb (suc n) 0 (λ z. omega (arith, z)))) (wakes v),
      )

  pub waits_follow : (pt : Point) (x : Thread) → (pt ≡ Runs → ⊥) → In pt x → AsksSo ClearsWord p image t In pt x
  waits_follow pt x inside numbers = record {
    asks = _;
    go = λ v. at 3 (v ∷ number ∷ []);
    same = refl;
    look = asks 2 3 _ (number ∷ number ∷ []) (λ v. v ∷ number ∷ []) _ refl refl (omega arith);
    goes = λ w e v may. (
      at 6 (link ∷ process_word t 1 ∷ v ∷ number ∷ []),
      enough 3 _ _ (omega arith) (then_go 2 _ _ _ (step 3 4 _ _ (v ∷ number ∷ []) (t ∷ v ∷ number ∷ []) refl refl
          (omega arith))
          (then_go 1 _ _ _ (address 4 5 _ Pending (v ∷ number ∷ []) refl refl (omega arith))
          (step 5 6 _ _ (process_word t 1 ∷ v ∷ number ∷ []) _ refl refl (omega arith)))),
      pends v,
    );
  }
  waits_follow pt x inside (pends v) = record {
    asks = _;
    go = λ r. at 7 (v ∷ number ∷ []);
    same = refl;
    look = asks 6 7 _ (link ∷ process_word t 1 ∷ v ∷ number ∷ []) (λ r. v ∷ number ∷ []) _ refl refl (omega arith);
    goes = λ w e r may. (
      at 10 (link ∷ process_word t 0 ∷ v ∷ number ∷ []),
      enough 3 _ _ (omega arith) (then_go 2 _ _ _ (step 7 8 _ _ (v ∷ number ∷ []) (t ∷ v ∷ number ∷ []) refl refl
          (omega arith))
          (then_go 1 _ _ _ (address 8 9 _ Head (v ∷ number ∷ []) refl refl (omega arith))
          (step 9 10 _ _ (process_word t 0 ∷ v ∷ number ∷ []) _ refl refl (omega arith)))),
      reads v,
    );
  }
  waits_follow pt x inside (reads v) = record {
    asks = _;
    go = λ r. at 11 (r ∷ process_word t 0 ∷ v ∷ number ∷ []);
    same = refl;
    look = asks 10 11 _ (link ∷ process_word t 0 ∷ v ∷ number ∷ []) (λ r. r ∷ process_word t 0 ∷ v ∷ number ∷ []) _ refl
        refl (omega arith);
    goes = λ w e r may. (
      at 11 (entry_address (place p) r ∷ process_word t 0 ∷ v ∷ number ∷ []),
      record { count = 0; few = omega arith; walk = stays },
      cuts v r,
    );
  }
  waits_follow pt x inside (cuts v h) = record {
    asks = _;
    go = λ r. at 12 (v ∷ number ∷ []);
    same = refl;
    look = asks 11 12 _ (entry_address (place p) h ∷ process_word t 0 ∷ v ∷ number ∷ [])
        (λ r. v ∷ number ∷ []) _ refl refl
        (omega arith);
    goes = λ w e r may. (
      at 14 (0 ∷ lock ∷ v ∷ number ∷ []),
      enough 2 _ _ (omega arith) (then_go 1 _ _ _ (step 12 13 _ _ (v ∷ number ∷ []) (lock ∷ v ∷ number ∷ []) refl refl
          (omega arith))
          (step 13 14 _ _ (lock ∷ v ∷ number ∷ []) _ refl refl (omega arith))),
      swaps v,
    );
  }
  waits_follow pt x inside (swaps v) = record {
    asks = _;
    go = λ r. at 15 (r ∷ v ∷ number ∷ []);
    same = refl;
    look = asks 14 15 _ (0 ∷ lock ∷ v ∷ number ∷ []) (λ r. r ∷ v ∷ number ∷ []) _ refl refl (omega arith);
    goes = λ w e r may. after_swap v r (waiters r) refl;
  }
  waits_follow pt x inside (wakes v) = record {
    asks = _;
    go = λ r. at 21 (r ∷ v ∷ number ∷ []);
    same = refl;
    look = asks 20 21 _ (1 ∷ lock ∷ v ∷ number ∷ []) (λ r. r ∷ v ∷ number ∷ []) _ refl refl (omega arith);
    goes = λ w e r may. (
      at 22 (v ∷ number ∷ []),
      enough 1 _ _ (omega arith) (step 21 22 _ _ (r ∷ v ∷ number ∷ []) _ refl refl (omega arith)),
      sleeps v,
    );
  }
  waits_follow pt x inside (sleeps v) = record {
    asks = _;
    go = λ r. at 23 (r ∷ []);
    same = refl;
    look = asks 22 23 _ (v ∷ number ∷ []) (λ r. r ∷ []) _ refl refl (omega arith);
    goes = λ w e r may. (
      Runs' (base + 24 + 1) (lock ∷ []) (template_locals l.values l.scratch) fs,
      enough 2 _ _ (omega arith) (then_go 1 _ _ _ (step 23 24 _ _ (r ∷ []) [] refl refl (omega arith))
          (subst (λ n. Go 1 (Runs' n [] l fs) (Runs' (base + 24 + 1) (lock ∷ []) l fs)) (omega arith)
          (T.again ClearsWord p image t c.monitor (ToResume c) (Resume c.monitor) recover base 24 l.values fs taking
          some few
          l.scratch))),
      takes (L.Takes.reads l.scratch),
    );
  }
  waits_follow pt x inside (takes h) =
      let k = T.takes_follow ClearsWord p image t c.monitor (ToResume c) (Resume c.monitor) recover base 24 l.values
      fs taking
      some few pt
      x inside h in
      record {
        asks = k.asks;
        go = k.go;
        same = k.same;
        look = k.look;
        goes = λ w e r may. let g = k.goes w e r may in (g.0, g.1, takes g.2);
      }

  -- from before the template to its first request
  pub waits_begin : Go template_steps (Runs' base [] l fs) (at 2 (number ∷ number ∷ []))
  waits_begin =
      subst (λ n. Go template_steps (Runs' n [] l fs) (at 2 (number ∷ number ∷ []))) (omega arith)
      (enough 2 _ _ (omega arith) (then_go 1 _ _ _ (step 0 1 _ _ [] (number ∷ []) refl refl (omega arith))
      (step 1 2 _ _ (number ∷ []) _ refl refl (omega arith))))
