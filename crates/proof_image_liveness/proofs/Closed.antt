-- Who sleeps in each state of a closed set sleeps for good.
use Rattle.std.proofs.Common.{◌≡◌, ◌≢◌, ◌∙◌, ℕ, Bool, Option, Some, None, List, [], ◌∷◌, Contains}
use Rattle.std.proofs.Common.{inl, inr, refl, sym, ap, subst}
use Rattle.words.proofs.Updates.{put_other}
use Rattle.isa.specs.Programs.{Program}
use Rattle.futexcalls.specs.declared.pieces.FutexPhase.TheVariants.{First, Act}
use Rattle.futexcalls.specs.Pieces.{after_lock}
use Rattle.locals.specs.Threads.{Thread}
use Rattle.machine.specs.States.{State}
use Rattle.machine.specs.Runs.{Own, Step}
use Rattle.machine.specs.PieceStates.{PieceState, IsHeldRight, called, committed_at}
use Rattle.machine.specs.PieceSteps.{GoesByPieces, IsAct, IsAgain, IsEqual, IsExit, IsLocal, IsLock, IsOwnPiece, IsPieceDone}
use Rattle.machine.specs.PieceSteps.{IsPieceStep, IsPlain, Piece}
use Rattle.proof_pieces.specs.Whole.{either, whole}
use Rattle.proof_pieces.specs.WholeCalls.{IsWholeDone}
use Rattle.proof_pieces.proofs.Runs.{held_kept, reduces}
use Rattle.proof_image_search.specs.Searching.{IsCovered, Kept}
use Rattle.proof_image_search.proofs.Ahead.{itself}
use Rattle.proof_image_search.proofs.Further.{further, itself_further}
use Rattle.proof_image_search.proofs.Closing.{Reached, covered}
use Rattle.proof_image_search.proofs.Simulating.{Simulated, done_so}
use Rattle.proof_image_liveness.specs.Sleeping.{AreAsleep, AreOwn, SleepsForGood}

-- a piece changes no phase but that of its thread
phase_there : (p : Program) (s s' : PieceState) (u : ℕ) (x : Thread) (woken : List ℕ) → Piece p s u x woken s' → (v : ℕ)
    → v ≢ u → s'.phase v ≡ s.phase v
phase_there p s s' u x woken (IsLocal y looks first nobody e) v ne =
    ap (λ (z : PieceState). z.phase v) e ∙ put_other s.phase u First v ne
phase_there p s s' u x woken (IsPlain request go answer mid looks isnt first serves e) v ne =
    ap (λ (z : PieceState). z.phase v) e ∙ put_other s.phase u First v ne
phase_there p s s' u x woken (IsExit phase after next looks first step free e) v ne =
    ap (λ (z : PieceState). z.phase v) e ∙ put_other s.phase u First v ne
phase_there p s s' u x woken (IsLock call go b looks lies takes free nobody e) v ne =
    ap (λ (z : PieceState). z.phase v) e ∙ put_other s.phase u (after_lock s.buckets (s.phase u) call) v ne
phase_there p s s' u x woken (IsEqual call go a w looks compares at equal nobody e) v ne =
    ap (λ (z : PieceState). z.phase v) e ∙ put_other s.phase u Act v ne
phase_there p s s' u x woken (IsAgain call go a w looks compares at differs nobody e) v ne =
    ap (λ (z : PieceState). z.phase v) e ∙ put_other s.phase u First v ne
phase_there p s s' u x woken (IsAct call go moved after looks at acts e) v ne =
    ap (λ (z : PieceState). z.phase v) e ∙ put_other s.phase u First v ne

module _ (p : Program) (alone : Bool) (t : ℕ) (dead : List Kept) (h : AreAsleep p alone t dead) where
  next : (s s' : PieceState) (step : Step) (n : ℕ) → step.doing ≡ Own → IsHeldRight p s → IsPieceStep p s step s'
      → Reached p alone dead (whole p s) n → Reached p alone dead (whole p s') n
  next s s' step n own right goes r = elim (reduces p s s' step right goes) [
    | inl silent ↦ subst (λ (q : State). Reached p alone dead q n) (sym silent.2) r
    | inr done ↦ by_side
        (done_so p alone (whole p s) r.here r.words r.output r.all (λ f. h.apart f _ r.is) Own step (whole p s')
        (subst (IsWholeDone p (whole p s) step (whole p s')) own done))
  ]
    where
      by_side : Simulated p alone (whole p s) r.here r.words r.output Own
          (λ r'. IsWholeDone p (further (whole p s) r.here r.words r.output) step r' Own) (whole p s')
          → Reached p alone dead (whole p s') n
      by_side side = elim side.is [
        | inl same ↦ record {
          here = side.there;
          words = side.words_there;
          output = side.printed;
          all = side.all;
          is = subst (λ (q : State). Contains dead (record { state = q; killed = n })) (sym same.1) r.is;
        }
        | inr does ↦
            let c = h.closed _ r.is step.thread step.woken
            (further (whole p s') side.there side.words_there side.printed) does in
            covered p alone dead c.0 (whole p s') n side.there side.words_there side.printed side.all c.1
      ]

  stays : (s s' : PieceState) (step : Step) (n a : ℕ) → IsHeldRight p s → IsOwnPiece p s step s'
      → s.base.asleep t ≡ Some a → Reached p alone dead (whole p s') n → (a' : ℕ) × (s'.base.asleep t ≡ Some a')
  stays s s' step n a right own slept r = by_place (s'.base.asleep t) refl
    where
      other : t ≢ step.thread
      other e = let no' : None ≡ Some a = sym own.awake ∙ ap s.base.asleep (sym e) ∙ slept in absurd cc

      first : s.phase t ≡ First
      first = elim (right.apart t) [
        | inl at ↦ at
        | inr w ↦ absurd (let no' : None ≡ Some a = sym w.awake ∙ slept in cc)
      ]

      first_then : s'.phase t ≡ First
      first_then = phase_there p s s' step.thread own.thread step.woken own.piece t other ∙ first

      by_place : (o : Option ℕ) → s'.base.asleep t ≡ o → (a' : ℕ) × (s'.base.asleep t ≡ Some a')
      by_place (Some a') e = (a', e)
      by_place None e =
          let sleeps = h.sleeps _ r.is in
          absurd (let no' : None ≡ Some sleeps.0 =
          sym (ap (λ f. committed_at f (called p t (s'.base.thread t))) first_then)
          ∙ sym (ap (λ o. either o (committed_at (s'.phase t) (called p t (s'.base.thread t)))) e) ∙ sleeps.1 in cc)

  never : (steps : List Step) (s s' : PieceState) (n a : ℕ) → GoesByPieces p s steps s' → AreOwn steps → IsHeldRight p s
      → Reached p alone dead (whole p s) n → s.base.asleep t ≡ Some a → s'.base.asleep t ≡ None → ⊥
  never [] s s' n a same own right r slept awake =
      let no' : Some a ≡ None = sym slept ∙ ap (λ (z : PieceState). z.base.asleep t) same ∙ awake in absurd cc
  never (step ∷ steps) s s' n a run own right r slept awake =
      let piece : IsOwnPiece p s step run.0 = subst (λ d. IsPieceDone p s step run.0 d) own.0 run.1 in
      let there = next s run.0 step n own.0 right run.1 r in
      let sleeps = stays s run.0 step n a right piece slept there in
      never steps run.0 s' n sleeps.0 run.2 own.1 (held_kept p s run.0 step right run.1) there sleeps.1 awake

  -- of a state of which one of them is further on
  pub for_good_behind : (s : PieceState) → IsHeldRight p s → (n a : ℕ) → Reached p alone dead (whole p s) n
      → s.base.asleep t ≡ Some a → SleepsForGood p s t
  for_good_behind s right n a is slept = record {
    place = a;
    sleeps = slept;
    never = λ woken. never woken.steps s woken.after n a woken.goes woken.own right is slept woken.awake;
  }

  pub for_good : (s : PieceState) → IsHeldRight p s → (m n : ℕ) → IsCovered p alone dead m (whole p s) n → (a : ℕ)
      → s.base.asleep t ≡ Some a → SleepsForGood p s t
  for_good s right m n is a slept = for_good_behind s right n a
      (covered p alone dead m (whole p s) n (whole p s).thread (whole p s).word (whole p s).output
      (itself_further p alone (whole p s) (whole p s).thread (λ u. itself p u ((whole p s).thread u))) is)
      slept
