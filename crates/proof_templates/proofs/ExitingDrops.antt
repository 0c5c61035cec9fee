-- The template that leaves a monitor goes through its points, where the number of the owner is taken off the lock word.
use Rattle.std.proofs.Common.{◌≡◌, ◌≢◌, ℕ, zero, suc, ◌+◌, ◌-◌, ◌<◌, ◌≤◌, ◌==◌, Bool, List, ◌∷◌, length, Option, Some}
use Rattle.std.proofs.Common.{None}
use Rattle.std.proofs.Common.{slice_get, refl, ap, sym, ◌∙◌, subst, arith, le-leb}
use Rattle.std.specs.Prelude.{if◌then◌else◌, ◌&&◌, nat_le}
use Rattle.std.specs.Int.Bits.{bit_and}
use Rattle.std.proofs.lemmas.Bool.{ne_eqb}
use Rattle.words.specs.declared.process.ProcessWord.{ProcessWord}
use Rattle.words.specs.declared.process.ProcessWord.TheVariants.{Head, Pending}
use Rattle.words.specs.Process.{process_word, number_of}
use Rattle.words.specs.Versions.{most_of}
use Rattle.isa.specs.declared.instr.Instr.{Instr}
use Rattle.isa.specs.declared.instr.Instr.TheVariants.{ProcessAddress}
use Rattle.proof_thread.specs.Deferrals.{deferred_by_mark, MarkedImage}
use Rattle.locals.specs.declared.frame.Locals.{Locals}
use Rattle.locals.specs.declared.frame.Frame.{Frame}
use Rattle.locals.specs.Threads.{Thread, Runs as Runs'}
use Rattle.locals.specs.Looks.{Request, Goes, Asks, look, at_place, effect, push_effect, if_so, place_after_test}
use Rattle.program.specs.Trees.{Program}
use Rattle.lowering.specs.declared.mark.Marked.{Marked}
use Rattle.lowering.specs.Marks.{plain, rebase_all}
use Rattle.lowering.specs.Layout.{link_word, lock_word_address}
use Rattle.lowering.specs.Locks.{exit_code}
use Rattle.protocol.specs.Word.{waiters}
use Rattle.protocol.specs.Points.{ToExit, Point, Runs, LeaveWakes, HasLeft}
use Rattle.protocol.specs.Memory.{entry_address}
use Rattle.proof_thread.specs.Walks.{empty_view, StandAt, WalksWithin, stays}
use Rattle.proof_thread.specs.Following.{result_operands}
use Rattle.proof_thread.proofs.Walking.{within_on, wider, one_step, look_here, push_step}
use Rattle.proof_thread.proofs.Awaiting.{stand_index}
use Rattle.proof_templates.specs.Layout.{place}
use Rattle.proof_templates.specs.Asking.{AsksSo, template_steps}
use Rattle.proof_templates.specs.Locking.{ExitsAt, pends, reads, cuts, swaps, wakes, unpends, goes}
use Rattle.words.specs.declared.version.ImageVersion.TheVariants.{Linux}
use Rattle.protocol.specs.Rules.{DropsOwner}
use Rattle.proof_templates.proofs.Negated.{negated, most_few}

-- a result leaves room for all that the template pushes
room_beneath : (shown : Option ℕ) → length (result_operands shown) ≤ 1
room_beneath None = omega arith
room_beneath (Some w) = omega arith

module _ (p : Program) (image : MarkedImage) (t m base : ℕ) (shown : Option ℕ) (l : Locals) (fs : List Frame)
    (code : StandAt image base (rebase_all base (exit_code Linux m (link_word p m)))) (some : 0 < t)
    (few : t ≤ most_of image.image.version) where
  abbrev link : ℕ
  link = link_word p m

  abbrev lock : ℕ
  lock = lock_word_address p m

  abbrev rest : List ℕ
  rest = result_operands shown

  abbrev segment : List Marked
  segment = rebase_all base (exit_code Linux m (link_word p m))

  abbrev Go : ℕ → Thread → Thread → Type 0
  Go n x y = WalksWithin image t (empty_view p) n x y

  abbrev at : ℕ → List ℕ → Thread
  at i operands = Runs' (base + i) operands l fs

  looks : (i : ℕ) (x : Marked) (operands : List ℕ) → slice_get segment i ≡ Some x
      → look image.image t (at i operands) ≡ at_place (base + i) l fs (effect
      (most_of image.image.version) t x.instruction operands l)
  looks i x operands e =
      look_here image t (empty_view p) (base + i) x.instruction operands l fs
      (stand_index image base segment i (base + i) x code e refl)

  internal : (i : ℕ) (x : Instr) → slice_get segment i ≡ Some (plain x)
      → deferred_by_mark (slice_get image.marks (base + i)) ≡ None
  internal i x e = ap deferred_by_mark (stand_index image base segment i (base + i) (plain x) code e refl).1

  step : (i j place : ℕ) (x : Instr) (operands operands' : List ℕ) → slice_get segment i ≡ Some (plain x)
      → at_place (base + i) l fs (effect (most_of image.image.version) t x operands l) ≡ Goes
      (Runs' place operands' l fs)
      → place ≡ base + j → Go 1 (at i operands) (at j operands')
  step i j place x operands operands' e h same =
      one_step image t (empty_view p) _ _
      (looks i (plain x) operands e ∙ h ∙ ap (λ n. Goes (Runs' n operands' l fs)) same) (internal i x e)

  -- a word is pushed: there is room for it
  push : (i j word : ℕ) (x : Instr) (operands : List ℕ) → slice_get segment i ≡ Some (plain x)
      → effect (most_of image.image.version) t x operands l ≡ push_effect word operands → length operands < 512
      → base + i + 1 ≡ base + j
      → Go 1 (at i operands) (at j (word ∷ operands))
  push i j word x operands e is room same =
      one_step image t (empty_view p) _ _
      (push_step image t (empty_view p) (base + i) word operands l fs
      (looks i (plain x) operands e ∙ ap (at_place (base + i) l fs) is) room
      ∙ ap (λ n. Goes (Runs' n (word ∷ operands) l fs)) same) (internal i x e)

  -- the address of a word of the thread's own
  address : (i j : ℕ) (x : Instr) (word : ProcessWord) → slice_get segment i ≡ Some (plain x)
      → x ≡ ProcessAddress word → base + i + 1 ≡ base + j
      → Go 1 (at i (t ∷ rest)) (at j (process_word t (number_of word) ∷ rest))
  address i j x word e is same = step i j (base + i + 1) x (t ∷ rest) _ e
      (ap (λ (n : Instr). at_place (base + i) l fs (effect (most_of image.image.version) t n (t ∷ rest) l)) is
      ∙ ap (λ k. if_so (k && nat_le t (most_of image.image.version)) (Goes (Runs' (base + i + 1) (process_word t
      (number_of word) ∷ rest) l fs)))
      (le-leb 1 t (omega (arith, some)))
      ∙ ap (λ k. if_so k (Goes (Runs' (base + i + 1) (process_word t (number_of word) ∷ rest) l fs))) (le-leb t
      (most_of image.image.version) few)) same

  then_go : (n : ℕ) (x y z : Thread) → Go 1 x y → Go n y z → Go (suc n) x z
  then_go n x y z v w = wider image t (empty_view p) (1 + n) (suc n) x z (omega arith)
      (within_on image t (empty_view p) 1 n x y z v w)

  enough : (n : ℕ) (x y : Thread) → n ≤ 12 → Go n x y → Go template_steps x y
  enough n x y le w = wider image t (empty_view p) n template_steps x y le w

  asks : (i j : ℕ) (x : Marked) (operands : List ℕ) (after : ℕ → List ℕ) (request : Request)
      → slice_get segment i ≡ Some x
      → at_place (base + i) l fs (effect (most_of image.image.version) t x.instruction operands l)
      ≡ Asks request (λ r. Runs' (base + i + 1) (after r) l fs)
      → base + i + 1 ≡ base + j → look image.image t (at i operands) ≡ Asks request (λ r. at j (after r))
  asks i j x operands after request e h same =
      looks i x operands e ∙ h ∙ ap (λ n. Asks request (λ r. Runs' n (after r) l fs)) same

  abbrev In : Point → Thread → Type 0
  In = ExitsAt 20 DropsOwner p t m base shown l fs

  abbrev Comes : Thread → Point → Type 0
  Comes x pt = (y : Thread) × Go template_steps x y × In pt y

  few_enough : t ≤ 1000
  few_enough = let h = most_few image.image.version in omega (arith, few, h)

  -- room for a word, and for one more upon one more
  room : length rest < 512
  room = let h = room_beneath shown in omega (arith, h)

  room_above : (v : ℕ) → length (v ∷ rest) < 512
  room_above v = let h = room_beneath shown in omega (arith, h)

  -- with the lock given up: to the clearing of the pending word
  to_unpend : Go 3 (at 20 rest) (at 23 (0 ∷ process_word t 1 ∷ rest))
  to_unpend = then_go 2 _ _ _ (push 20 21 t _ rest refl refl room (omega arith))
      (then_go 1 _ _ _ (address 21 22 _ Pending refl refl (omega arith))
      (push 22 23 0 _ (process_word t 1 ∷ rest) refl refl (room_above (process_word t 1)) (omega arith)))

  tested : (n place next : ℕ) → n ≢ 0 → place_after_test n place next ≡ next
  tested zero place next ne = absurd (ne refl)
  tested (suc n) place next ne = refl

  after_swap : (v n : ℕ) → waiters v ≡ n → Comes (at 13 (v ∷ rest)) (if n == 0 then HasLeft m ToExit else LeaveWakes m
      ToExit)
  unfolding waiters
  after_swap v zero e = (
    at 23 (0 ∷ process_word t 1 ∷ rest),
    enough 6 _ _ (omega arith) (then_go 5 _ _ _ (push 13 14 2147483648 _ (v ∷ rest) refl refl (room_above v)
        (omega arith))
        (then_go 4 _ _ _ (step 14 15 _ _ (2147483648 ∷ v ∷ rest) (bit_and v 2147483648 ∷ rest) refl refl (omega arith))
        (then_go 3 _ _ _ (step 15 20 _ _ (bit_and v 2147483648 ∷ rest) rest refl
        (ap (λ z. Goes (Runs' (place_after_test z (base + 20) (base + 15 + 1)) rest l fs)) e) refl) to_unpend))),
    unpends,
  )
  after_swap v (suc n) e =
      let other : bit_and v 2147483648 ≢ 0 = λ z. omega (arith, e, z) in (
        at 18 (1 ∷ lock ∷ rest),
        enough 5 _ _ (omega arith)
            (then_go 4 _ _ _ (push 13 14 2147483648 _ (v ∷ rest) refl refl (room_above v) (omega arith))
            (then_go 3 _ _ _ (step 14 15 _ _ (2147483648 ∷ v ∷ rest) (bit_and v 2147483648 ∷ rest) refl refl
            (omega arith))
            (then_go 2 _ _ _ (step 15 16 _ _ (bit_and v 2147483648 ∷ rest) rest refl
            (ap (λ z. Goes (Runs' z rest l fs)) (tested (bit_and v 2147483648) (base + 20) (base + 15 + 1) other))
            (omega arith))
            (then_go 1 _ _ _ (push 16 17 lock _ rest refl refl room (omega arith))
            (push 17 18 1 _ (lock ∷ rest) refl refl (room_above lock) (omega arith)))))),
        subst (λ (b : Bool). In (if b then HasLeft m ToExit else LeaveWakes m ToExit) (at 18 (1 ∷ lock ∷ rest)))
            (sym (ne_eqb (suc n) 0 (λ z. omega (arith, z)))) wakes,
      )

  pub exits_follow : (pt : Point) (x : Thread) → (pt ≡ Runs → ⊥) → In pt x → AsksSo DropsOwner p image t In pt x
  exits_follow pt x inside pends = record {
    asks = _;
    go = λ r. at 4 rest;
    same = refl;
    look = asks 3 4 _ (link ∷ process_word t 1 ∷ rest) (λ r. rest) _ refl refl (omega arith);
    goes = λ w e r may. (
      at 7 (link ∷ process_word t 0 ∷ rest),
      enough 3 _ _ (omega arith) (then_go 2 _ _ _ (push 4 5 t _ rest refl refl room (omega arith))
          (then_go 1 _ _ _ (address 5 6 _ Head refl refl (omega arith))
          (push 6 7 link _ (process_word t 0 ∷ rest) refl refl (room_above (process_word t 0)) (omega arith)))),
      reads,
    );
  }
  exits_follow pt x inside reads = record {
    asks = _;
    go = λ r. at 8 (r ∷ process_word t 0 ∷ rest);
    same = refl;
    look = asks 7 8 _ (link ∷ process_word t 0 ∷ rest) (λ r. r ∷ process_word t 0 ∷ rest) _ refl refl (omega arith);
    goes = λ w e r may. (
      at 8 (entry_address (place p) r ∷ process_word t 0 ∷ rest),
      record { count = 0; few = omega arith; walk = stays },
      cuts r,
    );
  }
  exits_follow pt x inside (cuts h) = record {
    asks = _;
    go = λ r. at 9 rest;
    same = refl;
    look = asks 8 9 _ (entry_address (place p) h ∷ process_word t 0 ∷ rest) (λ r. rest) _ refl refl (omega arith);
    goes = λ w e r may. (
      at 12 ((4294967296 - t) ∷ lock ∷ rest),
      enough 3 _ _ (omega arith) (then_go 2 _ _ _ (push 9 10 lock _ rest refl refl room (omega arith))
          (then_go 1 _ _ _ (push 10 11 t _ (lock ∷ rest) refl refl (room_above lock) (omega arith))
          (step 11 12 (base + 11 + 1) _ (t ∷ lock ∷ rest) ((4294967296 - t) ∷ lock ∷ rest) refl
          (negated (most_of image.image.version) t (base + 11) (lock ∷ rest) l fs some few_enough) (omega arith)))),
      swaps,
    );
  }
  exits_follow pt x inside swaps = record {
    asks = _;
    go = λ r. at 13 (r ∷ rest);
    same = refl;
    look = asks 12 13 _ ((4294967296 - t) ∷ lock ∷ rest) (λ r. r ∷ rest) _ refl refl (omega arith);
    goes = λ w e r may. after_swap r (waiters r) refl;
  }
  exits_follow pt x inside wakes = record {
    asks = _;
    go = λ r. at 19 (r ∷ rest);
    same = refl;
    look = asks 18 19 _ (1 ∷ lock ∷ rest) (λ r. r ∷ rest) _ refl refl (omega arith);
    goes = λ w e r may. (
      at 23 (0 ∷ process_word t 1 ∷ rest),
      enough 4 _ _ (omega arith) (then_go 3 _ _ _ (step 19 20 _ _ (r ∷ rest) rest refl refl (omega arith)) to_unpend),
      unpends,
    );
  }
  exits_follow pt x inside unpends = record {
    asks = _;
    go = λ r. at 24 rest;
    same = refl;
    look = asks 23 24 _ (0 ∷ process_word t 1 ∷ rest) (λ r. rest) _ refl refl (omega arith);
    goes = λ w e r may. (at 24 rest, record { count = 0; few = omega arith; walk = stays }, goes);
  }
  exits_follow pt x inside goes = absurd (inside refl)

  -- from before the template to its first request
  pub exits_begin : Go template_steps (Runs' base (result_operands shown) l fs)
      (at 3 (link ∷ process_word t 1 ∷ rest))
  exits_begin =
      subst (λ n. Go template_steps (Runs' n rest l fs) (at 3 (link ∷ process_word t 1 ∷ rest))) (omega arith)
      (enough 3 _ _ (omega arith) (then_go 2 _ _ _ (push 0 1 t _ rest refl refl room (omega arith))
      (then_go 1 _ _ _ (address 1 2 _ Pending refl refl (omega arith))
      (push 2 3 link _ (process_word t 1 ∷ rest) refl refl (room_above (process_word t 1)) (omega arith)))))
