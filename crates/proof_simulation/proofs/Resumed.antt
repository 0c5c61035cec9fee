-- Who is resumed by a notify or a broadcast, as the machine's sleepers tell it.
use Rattle.std.proofs.Common.{◌≡◌, ℕ, zero, suc, ◌==◌, ◌&&◌, Bool, true, false, Option, Some, None, refl, ap, sym, ◌∙◌}
use Rattle.std.proofs.Common.{subst}
use Rattle.std.proofs.Common.{if◌then◌else◌}
use Rattle.std.specs.Prelude.{not}
use Rattle.std.proofs.lemmas.Bool.{eq-eqb, ne_eqb}
use Rattle.machine.specs.States.{State}
use Rattle.program.specs.declared.kinds.Member.{Member}
use Rattle.program.specs.Trees.{Program}
use Rattle.lowering.specs.Layout.{member_address}
use Rattle.meaning.specs.Labels.{End, Label, Abandons}
use Rattle.meaning.specs.Table.{Table}
use Rattle.protocol.specs.Points.{Purpose, ToEnter, ToReenter, ToResume, ToExit, ToWait, Entry, NoEntry, Owned, Unowned}
use Rattle.protocol.specs.Points.{Spot, OnLock, OnSequence, OnId, Point, EnterTries, TakeTries, LeaveSwaps, NotifyWakes}
use Rattle.protocol.specs.Points.{BroadcastMoves, JoinReads, Walks, ClearsId}
use Rattle.protocol.specs.World.{World, same_member}
use Rattle.protocol.specs.Cells.{LockOf, IdOf, SequenceOf, cell_of}
use Rattle.protocol.specs.Carries.{Acts, has_died, taking_label, on_sequence, is_resumed, waits_on, chosen_from}
use Rattle.protocol.specs.Carries.{resumed_by}
use Rattle.protocol.specs.Exits.{sleep_address}
use Rattle.protocol.specs.Requests.{request}
use Rattle.protocol.specs.Served.{source_event, is_pending, pending_event}
use Rattle.protocol.proofs.Sleeps.{same-true, same-same}
use Rattle.proof_templates.specs.Layout.{place, valid}
use Rattle.proof_templates.proofs.Layouts.{apart}
use Rattle.proof_simulation.specs.Ordering.{Resumes, sleeps_on, awake_waiters}
use Rattle.proof_simulation.specs.Serving.{IsAskable}
use Rattle.protocol.specs.Rules.{release_of}

module _ (p : Program) (s : State) (w : World) (T : Table) where
  -- no label of another kind resumes
  as_is : (u t : ℕ) (l label : Label) → Resumes p s T l → Some (Acts t l) ≡ Some (Acts u label) → Resumes p s T label
  as_is u t l label own e = let same : l ≡ label = cc in subst (λ (k : Label). Resumes p s T k) same own

  if_so : (b : Bool) (u t : ℕ) (l label : Label) → Resumes p s T l → (if b then Some (Acts t l) else None)
      ≡ Some (Acts u label) → Resumes p s T label
  if_so true u t l label own e = as_is u t l label own e
  if_so false u t l label own e = absurd cc

  taking : (k : Purpose) (m : ℕ) (b : Bool) → Resumes p s T (taking_label k m b)
  taking ToEnter m b = tt
  taking ToReenter m b = tt
  taking (ToResume c) m b = tt

  -- who sleeps on the word of a condition, by the place of its word
  by_place : (c : Member) → valid p (SequenceOf c) ≡ true → (x : Option Spot) (a : Option ℕ)
      → ((y : Spot) → x ≡ Some y → valid p (cell_of y) ≡ true) → a ≡ sleep_address (place p) x
      → on_sequence c x ≡ sleeps_on p c a
  by_place c ok None a spots e = sym (ap (sleeps_on p c) e)
  by_place c ok (Some (OnLock m)) a spots e =
      sym (ap (sleeps_on p c) e ∙ ne_eqb (place p (LockOf m)) (member_address p c)
      (λ h. absurd (other (apart p (LockOf m) (SequenceOf c) (spots (OnLock m) refl) ok h))))
    where
      other : LockOf m ≡ SequenceOf c → ⊥
      other h = cc
  by_place c ok (Some (OnId q)) a spots e =
      sym (ap (sleeps_on p c) e ∙ ne_eqb (place p (IdOf q)) (member_address p c)
      (λ h. absurd (other (apart p (IdOf q) (SequenceOf c) (spots (OnId q) refl) ok h))))
    where
      other : IdOf q ≡ SequenceOf c → ⊥
      other h = cc
  by_place c ok (Some (OnSequence d)) a spots e =
      by_same (same_member d c) refl ∙ sym (ap (sleeps_on p c) e)
    where
      to_member : SequenceOf d ≡ SequenceOf c → d ≡ c
      to_member h = cc

      by_same : (b : Bool) → same_member d c ≡ b → same_member d c ≡ (place p (SequenceOf d) == member_address p c)
      by_same true h = h ∙ sym (eq-eqb (place p (SequenceOf d)) (member_address p c)
          (ap (member_address p) (same-true d c h)))
      by_same false h = h ∙ sym (ne_eqb (place p (SequenceOf d)) (member_address p c)
          (λ i. differs h (to_member (apart p (SequenceOf d) (SequenceOf c) (spots (OnSequence d) refl) ok i))))
        where
          differs : same_member d c ≡ false → d ≡ c → ⊥
          differs apart' is = let yes = same-same c in
              let here = subst (λ (i : Member). same_member i c ≡ false) is apart' in absurd (cc (yes, here))

  -- of those who wait on a condition, those are resumed who don't sleep on its word
  pub waiters : (c : Member) (asleep : ℕ → Option Spot) → s.made ≡ w.made → valid p (SequenceOf c) ≡ true
      → ((u : ℕ) → s.asleep u ≡ sleep_address (place p) (asleep u))
      → ((u : ℕ) (x : Spot) → asleep u ≡ Some x → valid p (cell_of x) ≡ true)
      → resumed_by w T c asleep ≡ awake_waiters p s T c
  waiters c asleep made ok sleeps spots =
      ap (λ (f : ℕ → Bool). chosen_from f w.made 1) (λ i u. each u i)
      ∙ ap (λ n. chosen_from (λ u. waits_on c (T.waits u) && not (sleeps_on p c (s.asleep u))) n 1) (sym made)
    where
      each : (u : ℕ) → is_resumed c asleep T.waits u ≡ (waits_on c (T.waits u) && not (sleeps_on p c (s.asleep u)))
      each u = ap (λ b. waits_on c (T.waits u) && not b) (by_place c ok (asleep u) (s.asleep u) (spots u) (sleeps u))

  pub who_resumes : (t : ℕ) (pt : Point) (r : ℕ) (w' : World) (e : End) (u : ℕ) (label : Label) → s.made ≡ w.made
      → ((u : ℕ) → s.asleep u ≡ sleep_address (place p) (w'.asleep u))
      → ((u : ℕ) (x : Spot) → w'.asleep u ≡ Some x → valid p (cell_of x) ≡ true)
      → IsAskable p (request (release_of p.version) t pt)
      → source_event w T t pt r w' e ≡ Some (Acts u label) → Resumes p s T label
  who_resumes t (EnterTries m) r w' e u label made sleeps spots ok h = if_so (r == 0) u t _ label tt h
  who_resumes t (TakeTries m v k) r w' e u label made sleeps spots ok h =
      if_so (r == v) u t _ label (taking k m (has_died v)) h
  who_resumes t (LeaveSwaps m ToExit) r w' e u label made sleeps spots ok h = as_is u t _ label tt h
  who_resumes t (LeaveSwaps m (ToWait c n)) r w' e u label made sleeps spots ok h = as_is u t _ label tt h
  who_resumes t (NotifyWakes c) r w' e u label made sleeps spots ok h =
      as_is u t _ label (waiters c w'.asleep made ok sleeps spots) h
  who_resumes t (BroadcastMoves c n) r w' e u label made sleeps spots ok h =
      as_is u t _ label (waiters c w'.asleep made ok.0 sleeps spots) h
  who_resumes t (JoinReads q) r w' e u label made sleeps spots ok h = if_so (r == 0) u t _ label tt h
  who_resumes t (Walks zero x end) r w' e u label made sleeps spots ok h = pending x h
    where
      pending : (x : Entry) → pending_event t x ≡ Some (Acts u label) → Resumes p s T label
      pending NoEntry h = absurd cc
      pending (Owned m) h = as_is u t _ label tt h
      pending (Unowned m) h = absurd cc
  who_resumes t (Walks (suc m) x end) r w' e u label made sleeps spots ok h = walked (is_pending x m) h
    where
      walked : (b : Bool) → (if b then None else Some (Acts t (Abandons m))) ≡ Some (Acts u label)
          → Resumes p s T label
      walked true h = absurd cc
      walked false h = as_is u t _ label tt h
  who_resumes t (ClearsId end) r w' e u label made sleeps spots ok h = as_is u t _ label tt h
  who_resumes t pt r w' e u label made sleeps spots ok h = absurd cc
