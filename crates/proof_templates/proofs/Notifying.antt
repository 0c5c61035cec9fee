-- The templates of NOTIFY and BROADCAST go through their points.
use Rattle.std.proofs.Common.{◌≡◌, ℕ, suc, ◌+◌, ◌≤◌, List, [], ◌∷◌, Some, slice_get, refl, ap, ◌∙◌, subst, arith}
use Rattle.words.specs.Versions.{most_of}
use Rattle.proof_thread.specs.Deferrals.{deferred_by_mark, MarkedImage}
use Rattle.locals.specs.declared.frame.Locals.{Locals}
use Rattle.locals.specs.declared.frame.Frame.{Frame}
use Rattle.locals.specs.Threads.{Thread, Runs as Runs'}
use Rattle.locals.specs.Looks.{Request, Goes, Asks, look, at_place, effect}
use Rattle.program.specs.declared.kinds.Member.{Member}
use Rattle.program.specs.Trees.{Program}
use Rattle.lowering.specs.declared.mark.Marked.{Marked}
use Rattle.lowering.specs.Layout.{link_word, lock_word_address, member_address}
use Rattle.lowering.specs.Locks.{waiters}
use Rattle.lowering.specs.Conditions.{everyone, notify_code, broadcast_code}
use Rattle.protocol.specs.Points.{Point, Runs}
use Rattle.proof_thread.specs.Walks.{empty_view, StandAt, WalksWithin, stays}
use Rattle.proof_thread.proofs.Walking.{within_on, wider, one_step, look_here}
use Rattle.proof_thread.proofs.Awaiting.{stand_index}
use Rattle.proof_templates.specs.Asking.{AsksSo, template_steps}
use Rattle.proof_templates.specs.Notifying.{NotifiesAt, BroadcastsAt}
use Rattle.proof_templates.specs.Notifying as T
use Rattle.lowering.specs.Marks.{plain}
use Rattle.isa.specs.declared.instr.Instr.{Instr}
use Rattle.protocol.specs.Rules.{ReleaseRule}

module _ (p : Program) (image : MarkedImage) (t base : ℕ) (l : Locals) (fs : List Frame) (segment : List Marked)
    (code : StandAt image base segment) where
  abbrev Go : ℕ → Thread → Thread → Type 0
  Go n x y = WalksWithin image t (empty_view p) n x y

  step : (i j place : ℕ) (x : Instr) (operands operands' : List ℕ) → slice_get segment i ≡ Some (plain x)
      → at_place (base + i) l fs (effect (most_of image.image.version) t x operands l) ≡ Goes
      (Runs' place operands' l fs)
      → place ≡ base + j → Go 1 (Runs' (base + i) operands l fs) (Runs' (base + j) operands' l fs)
  step i j place x operands operands' e h same =
      let here = stand_index image base segment i (base + i) (plain x) code e refl in
      one_step image t (empty_view p) _ _ (look_here image t (empty_view p) (base + i) x operands l fs here
      ∙ h ∙ ap (λ n. Goes (Runs' n operands' l fs)) same) (ap deferred_by_mark here.1)

  then_go : (n : ℕ) (x y z : Thread) → Go 1 x y → Go n y z → Go (suc n) x z
  then_go n x y z v w = wider image t (empty_view p) (1 + n) (suc n) x z (omega arith)
      (within_on image t (empty_view p) 1 n x y z v w)

  enough : (n : ℕ) (x y : Thread) → n ≤ 12 → Go n x y → Go template_steps x y
  enough n x y le w = wider image t (empty_view p) n template_steps x y le w

  asks : (i j : ℕ) (x : Marked) (operands : List ℕ) (after : ℕ → List ℕ) (request : Request)
      → slice_get segment i ≡ Some x
      → at_place (base + i) l fs (effect (most_of image.image.version) t x.instruction operands l)
      ≡ Asks request (λ r. Runs' (base + i + 1) (after r) l fs) → base + i + 1 ≡ base + j
      → look image.image t (Runs' (base + i) operands l fs) ≡ Asks request (λ r. Runs' (base + j) (after r) l fs)
  asks i j x operands after request e h same =
      look_here image t (empty_view p) (base + i) x.instruction operands l fs
      (stand_index image base segment i (base + i) x code e refl)
      ∙ h ∙ ap (λ n. Asks request (λ r. Runs' n (after r) l fs)) same

module _ (u : ReleaseRule) (p : Program) (image : MarkedImage) (t base : ℕ) (c : Member) (l : Locals) (fs : List
    Frame) where
  abbrev s : ℕ
  s = member_address p c

  abbrev lock : ℕ
  lock = lock_word_address p c.monitor

  abbrev notify : List Marked
  notify = notify_code c (member_address p c)

  abbrev broadcast : List Marked
  broadcast = broadcast_code c (link_word p c.monitor) (member_address p c)

  abbrev at : ℕ → List ℕ → Thread
  at i operands = Runs' (base + i) operands l fs

  pub notifies_follow : StandAt image base (notify_code c (member_address p c)) → (pt : Point) (x : Thread)
      → (pt ≡ Runs → ⊥) → NotifiesAt p c base l fs pt x → AsksSo u p image t (NotifiesAt p c base l fs) pt x
  notifies_follow code pt x inside T.NotifiesAt.adds = record {
    asks = _;
    go = λ r. at 3 (r ∷ []);
    same = refl;
    look = asks p image t base l fs notify code 2 3 _ (1 ∷ s ∷ []) (λ r. r ∷ []) _ refl refl (omega arith);
    goes = λ w e r may. (
      at 6 (1 ∷ s ∷ []),
      enough p image t base l fs notify code 3 _ _ (omega arith) (then_go p image t base l fs notify code 2 _ _ _
          (step p image t base l fs notify code 3 4 _ _ (r ∷ []) [] refl refl (omega arith))
          (then_go p image t base l fs notify code 1 _ _ _
          (step p image t base l fs notify code 4 5 _ _ [] (s ∷ []) refl refl (omega arith))
          (step p image t base l fs notify code 5 6 _ _ (s ∷ []) _ refl refl (omega arith)))),
      T.NotifiesAt.wakes,
    );
  }
  notifies_follow code pt x inside T.NotifiesAt.wakes = record {
    asks = _;
    go = λ r. at 7 (r ∷ []);
    same = refl;
    look = asks p image t base l fs notify code 6 7 _ (1 ∷ s ∷ []) (λ r. r ∷ []) _ refl refl (omega arith);
    goes = λ w e r may. (
      at 8 [],
      enough p image t base l fs notify code 1 _ _ (omega arith)
          (step p image t base l fs notify code 7 8 _ _ (r ∷ []) [] refl refl (omega arith)),
      T.NotifiesAt.goes,
    );
  }
  notifies_follow code pt x inside T.NotifiesAt.goes = absurd (inside refl)

  pub broadcasts_follow : StandAt image base (broadcast_code c (link_word p c.monitor) (member_address p c))
      → (pt : Point) (x : Thread) → (pt ≡ Runs → ⊥) → BroadcastsAt p c base l fs pt x
      → AsksSo u p image t (BroadcastsAt p c base l fs) pt x
  broadcasts_follow code pt x inside T.BroadcastsAt.adds = record {
    asks = _;
    go = λ r. at 3 (r ∷ []);
    same = refl;
    look = asks p image t base l fs broadcast code 2 3 _ (1 ∷ s ∷ []) (λ r. r ∷ []) _ refl refl (omega arith);
    goes = λ w e r may. (
      at 6 (waiters ∷ lock ∷ []),
      enough p image t base l fs broadcast code 3 _ _ (omega arith) (then_go p image t base l fs broadcast code 2 _ _ _
          (step p image t base l fs broadcast code 3 4 _ _ (r ∷ []) [] refl refl (omega arith))
          (then_go p image t base l fs broadcast code 1 _ _ _
          (step p image t base l fs broadcast code 4 5 _ _ [] (lock ∷ []) refl refl (omega arith))
          (step p image t base l fs broadcast code 5 6 _ _ (lock ∷ []) _ refl refl (omega arith)))),
      T.BroadcastsAt.marks,
    );
  }
  broadcasts_follow code pt x inside T.BroadcastsAt.marks = record {
    asks = _;
    go = λ r. at 7 (r ∷ []);
    same = refl;
    look = asks p image t base l fs broadcast code 6 7 _ (waiters ∷ lock ∷ []) (λ r. r ∷ []) _ refl refl (omega arith);
    goes = λ w e r may. (
      at 13 (s ∷ everyone ∷ 0 ∷ lock ∷ s ∷ []),
      enough p image t base l fs broadcast code 6 _ _ (omega arith) (then_go p image t base l fs broadcast code 5 _ _ _
          (step p image t base l fs broadcast code 7 8 _ _ (r ∷ []) [] refl refl (omega arith))
          (then_go p image t base l fs broadcast code 4 _ _ _
          (step p image t base l fs broadcast code 8 9 _ _ [] (s ∷ []) refl refl (omega arith))
          (then_go p image t base l fs broadcast code 3 _ _ _
          (step p image t base l fs broadcast code 9 10 _ _ (s ∷ []) (lock ∷ s ∷ []) refl refl (omega arith))
          (then_go p image t base l fs broadcast code 2 _ _ _
          (step p image t base l fs broadcast code 10 11 _ _ (lock ∷ s ∷ []) (0 ∷ lock ∷ s ∷ []) refl refl
          (omega arith))
          (then_go p image t base l fs broadcast code 1 _ _ _
          (step p image t base l fs broadcast code 11 12 _ _ (0 ∷ lock ∷ s ∷ []) (everyone ∷ 0 ∷ lock ∷ s ∷ []) refl
          refl
          (omega arith))
          (step p image t base l fs broadcast code 12 13 _ _ (everyone ∷ 0 ∷ lock ∷ s ∷ []) _ refl refl (omega
          arith))))))),
      T.BroadcastsAt.reads,
    );
  }
  broadcasts_follow code pt x inside T.BroadcastsAt.reads = record {
    asks = _;
    go = λ r. at 14 (r ∷ everyone ∷ 0 ∷ lock ∷ s ∷ []);
    same = refl;
    look = asks p image t base l fs broadcast code 13 14 _ (s ∷ everyone ∷ 0 ∷ lock ∷ s ∷ [])
        (λ r. r ∷ everyone ∷ 0 ∷ lock ∷ s ∷ []) _ refl refl (omega arith);
    goes = λ w e r may. (
      at 14 (r ∷ everyone ∷ 0 ∷ lock ∷ s ∷ []),
      record { count = 0; few = omega arith; walk = stays },
      T.BroadcastsAt.moves r,
    );
  }
  broadcasts_follow code pt x inside (T.BroadcastsAt.moves v) = record {
    asks = _;
    go = λ r. at 15 (r ∷ []);
    same = refl;
    look = asks p image t base l fs broadcast code 14 15 _ (v ∷ everyone ∷ 0 ∷ lock ∷ s ∷ []) (λ r. r ∷ []) _ refl refl
        (omega arith);
    goes = λ w e r may. (
      at 16 [],
      enough p image t base l fs broadcast code 1 _ _ (omega arith)
          (step p image t base l fs broadcast code 15 16 _ _ (r ∷ []) [] refl refl (omega arith)),
      T.BroadcastsAt.goes,
    );
  }
  broadcasts_follow code pt x inside T.BroadcastsAt.goes = absurd (inside refl)

  -- from before each template to its first request
  pub notifies_begin : StandAt image base (notify_code c (member_address p c))
      → WalksWithin image t (empty_view p) template_steps (Runs' base [] l fs) (at 2 (1 ∷ s ∷ []))
  notifies_begin code =
      subst (λ n. WalksWithin image t (empty_view p) template_steps (Runs' n [] l fs) (at 2 (1 ∷ s ∷ []))) (omega arith)
      (enough p image t base l fs notify code 2 _ _ (omega arith) (then_go p image t base l fs notify code 1 _ _ _
      (step p image t base l fs notify code 0 1 _ _ [] (s ∷ []) refl refl (omega arith))
      (step p image t base l fs notify code 1 2 _ _ (s ∷ []) _ refl refl (omega arith))))

  pub broadcasts_begin : StandAt image base (broadcast_code c (link_word p c.monitor) (member_address p c))
      → WalksWithin image t (empty_view p) template_steps (Runs' base [] l fs) (at 2 (1 ∷ s ∷ []))
  broadcasts_begin code =
      subst (λ n. WalksWithin image t (empty_view p) template_steps (Runs' n [] l fs) (at 2 (1 ∷ s ∷ []))) (omega arith)
      (enough p image t base l fs broadcast code 2 _ _ (omega arith) (then_go p image t base l fs broadcast code 1 _ _ _
      (step p image t base l fs broadcast code 0 1 _ _ [] (s ∷ []) refl refl (omega arith))
      (step p image t base l fs broadcast code 1 2 _ _ (s ∷ []) _ refl refl (omega arith))))
