-- A local step of a thread: it goes on towards where it stands, and nothing else changes.
use Rattle.std.proofs.Common.{Option, ◌≡◌, ℕ, suc, ◌<◌, ◌≤◌, Bool, true, List, [], Some, None, refl, ap, sym, ◌∙◌}
use Rattle.std.proofs.Common.{subst, arith, inl}
use Rattle.std.proofs.Common.{inr, ◌⊎◌}
use Rattle.words.specs.Updates.{put}
use Rattle.proof_thread.specs.Deferrals.{MarkedImage, mark_of, deferred_by_mark}
use Rattle.locals.specs.Threads.{Thread}
use Rattle.locals.specs.Looks.{Look, Goes, look}
use Rattle.machine.specs.States.{State, with_thread}
use Rattle.program.specs.Trees.{Program}
use Rattle.program.specs.WellFormed.{WellFormed}
use Rattle.lowering.specs.Pieces.{marks_of, code_of}
use Rattle.meaning.specs.Processes.{Process}
use Rattle.meaning.specs.States.{SourceState}
use Rattle.protocol.specs.Points.{Point, Thread as Place, thread_at}
use Rattle.protocol.specs.World.{mem}
use Rattle.words.proofs.Updates.{at_put}
use Rattle.proof_thread.specs.Walks.{Walks, WalksWithin, stays, goes, loads, empty_view}
use Rattle.refinement.specs.Built.{build_of}
use Rattle.proof_simulation.specs.Ordering.{StepsWhole, nothing}
use Rattle.proof_simulation.specs.Standing.{StandsAt}
use Rattle.proof_simulation.specs.Ranks.{steps_left}
use Rattle.proof_simulation.specs.Corresponding.{Corresponds, IsBefore}
use Rattle.proof_simulation.proofs.Moving.{Next, put_puts, same_puts, moved, raised_still}
use Rattle.proof_simulation.specs.Deferred.{stages, stage_of, notified_at, raised_at}
use Rattle.std.specs.Prelude.{is_some}
use Rattle.meaning.specs.Labels.{Kind}

-- a change that changes nothing
pub put_again : {A : Type 0} (f : ℕ → A) (t : ℕ) (v : A) → f t ≡ v → f ≡ put f t v
put_again f t v h = λ i u. same u i
  where
    same : (u : ℕ) → f u ≡ put f t v u
    same u = at_put f t v u (λ x. f u ≡ x) (λ e. ap f e ∙ h) (λ o. refl)

-- a thread is where it goes, or takes a local step towards it
pub first_step : (source : Program) (image : MarkedImage) (t n : ℕ) (x z : Thread)
    → WalksWithin image t (empty_view source) n x z → (x ≡ z)
    ⊎ ((y : Thread) × (m : ℕ) × (look image.image t x ≡ Goes y) × (deferred_by_mark (mark_of image.marks x) ≡ None) ×
    (suc m ≤ n) × WalksWithin image t (empty_view source) m y z)
first_step source image t n x z walk = by_walk walk.few walk.walk
  where
    by_walk : {k : ℕ} {x z : Thread} → k ≤ n → Walks image t (empty_view source) k x z → (x ≡ z)
        ⊎ ((y : Thread) × (m : ℕ) × (look image.image t x ≡ Goes y)
        × (deferred_by_mark (mark_of image.marks x) ≡ None) ×
        (suc m ≤ n)
        × WalksWithin image t (empty_view source) m y z)
    by_walk few stays = inl refl
    by_walk few (goes {n = m} {y = y} h plain more) =
        inr (y, m, h, plain, omega (arith, few), record { count = m; few = omega arith; walk = more })
    by_walk few (loads h r more) = let none = r.mine in absurd cc

module _ (p : Program) (w : WellFormed p) (steps : ℕ) (s : State) (c : SourceState) (k : Corresponds p w steps s c)
    (t : ℕ) (woken : List ℕ) (done raises : Bool) (deferral : Option Kind) (pauses : Bool) (s' : State) (n : ℕ) where
  -- the thread stands for the same at another place of its code, with fewer steps left
  pub goes_local : (x y : Thread) (q : Process) (pt : Point) (l : List ℕ) → c.process t ≡ Some q
      → (k.world.at t).point ≡ pt → (k.world.at t).list ≡ l
      → (stand : StandsAt (build_of p w k.world.made) c.variable t (Some y) (Some q) pt l)
      → steps_left (build_of p w k.world.made) c.variable t k.world stand < n
      → look (code_of p) t x ≡ Goes y → deferred_by_mark (mark_of (marks_of p) x) ≡ None
      → StepsWhole p done raises deferral (mark_of (marks_of p) x) s t woken (look (code_of p) t x) s'
      → Next p w steps s' t done raises deferral pauses n c (stages k.world) (raised_at k.world)
  goes_local x y q pt l proc point list stand less h plain moves =
      let g : StepsWhole p done raises deferral (mark_of (marks_of p) x) s t woken (Goes y) s' =
      subst (λ (i : Look). StepsWhole p done raises deferral (mark_of (marks_of p) x) s t woken i s') h moves in
      let at : k.world.at ≡ put k.world.at t (thread_at pt l) =
      put_again k.world.at t (thread_at pt l) (ap (λ (i : Point). thread_at i (k.world.at t).list) point
      ∙ ap (thread_at pt) list) in
      let m = moved p w steps s c k t (with_thread s t y) c y q pt l k.world (record {
        reached = k.reached;
        shares = k.shares;
        size = refl;
        most = refl;
        made = k.made;
        more = omega arith;
        output = k.output;
        variables = k.variables;
        fit = k.fit;
        same = λ u m other has n i. refl;
        threads = put_puts s.thread t (Some y);
        processes = same_puts c.process t _ proc;
        at = at;
        stands = stand;
        listed = λ m h. k.lists t m (subst (λ (i : List ℕ). mem m i ≡ true) (sym list) h);
        words = k.words;
        blank = λ u h. k.blank u (subst (λ (f : ℕ → Place). IsBefore (f u).point) (sym at) h);
        numbers = λ d. let few = k.numbers d in omega (arith, few);
      }) in
      subst (λ (x : State). Next p w steps x t done raises deferral pauses n c (stages k.world) (raised_at k.world))
      (sym g.1) (record {
        after = c;
        ties = m.ties;
        kinds = [];
        own = tt;
        leads = refl;
        stage = stage_of pt;
        staged = m.staged;
        raised = λ u. m.raised u ∙ ap (λ b. put (raised_at k.world) t b u)
            (ap (λ (i : Point). is_some (notified_at i)) (sym point) ∙ raised_still done raises (raised_at k.world t)
            g.2 g.4);
        places = nothing g.2 (g.3 ∙ plain) (inl (ap stage_of (sym point))) refl;
        paced = λ z. inr (subst (λ i. i < n) (sym m.is) less);
      })
