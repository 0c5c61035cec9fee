-- From states that belong together to the next, by a step of a thread.
use Rattle.std.proofs.Common.{ap, ◌≡◌, ◌≢◌, ℕ, suc, ◌+◌, ◌<◌, ◌≤◌, Bool, true, false, List, length, Some, refl, sym}
use Rattle.std.proofs.Common.{◌∙◌, subst, inl, inr, ◌⊎◌}
use Rattle.std.specs.Prelude.{◌^◌, [], ◌∷◌, map, Option}
use Rattle.std.proofs.lemmas.Bool.{cases_eq}
use Rattle.words.specs.Updates.{put}
use Rattle.words.specs.Signed.{word_of}
use Rattle.locals.specs.Threads.{Thread}
use Rattle.locals.specs.Looks.{Request, Look, Asks}
use Rattle.machine.specs.States.{State}
use Rattle.machine.specs.AbstractServing.{shared_of}
use Rattle.program.specs.declared.kinds.Member.{Member}
use Rattle.program.specs.Trees.{Program}
use Rattle.program.specs.WellFormed.{WellFormed}
use Rattle.meaning.specs.Labels.{Kind}
use Rattle.meaning.specs.Processes.{Process}
use Rattle.meaning.specs.States.{SourceState}
use Rattle.meaning.specs.Runs.{Leads}
use Rattle.protocol.specs.Points.{Point, Owned, Thread as Place, thread_at, entry_at}
use Rattle.protocol.specs.World.{World, mem}
use Rattle.protocol.specs.Exits.{Shares}
use Rattle.words.proofs.Updates.{put_same, put_other, at_put}
pub use Rattle.proof_simulation.specs.Deferred.{AreOwn}
use Rattle.proof_thread.specs.Variables.{IsVariable, variable_address, VariablesFit}
use Rattle.refinement.specs.Built.{build_of}
use Rattle.proof_templates.specs.Layout.{place, valid}
use Rattle.proof_simulation.specs.Ordering.{Places}
use Rattle.proof_simulation.specs.Standing.{StandsAt}
use Rattle.proof_simulation.specs.Ranks.{steps_left}
use Rattle.proof_simulation.specs.Corresponding.{Reached, IsBefore, Corresponds}
use Rattle.proof_simulation.proofs.Sourcing.{act}
use Rattle.proof_simulation.proofs.Standings.{stand_moves}
use Rattle.proof_simulation.specs.Deferred.{Stage, stages, stage_of, notified_at, raised_at, raised_then}
use Rattle.std.proofs.lemmas.Bool.{false≢true}
use Rattle.std.specs.Prelude.{if◌then◌else◌, ◌==◌, is_some}

-- a function with a value at a place, and the rest as before
pub record Puts {A : Type 0} (f f' : ℕ → A) (t : ℕ) (v : A) : Type 0 where
  pub here : f' t ≡ v
  pub other : (u : ℕ) → u ≢ t → f' u ≡ f u

pub put_puts : {A : Type 0} (f : ℕ → A) (t : ℕ) (v : A) → Puts f (put f t v) t v
put_puts f t v = record { here = put_same f t v; other = λ u o. put_other f t v u o }

pub same_puts : {A : Type 0} (f : ℕ → A) (t : ℕ) (v : A) → f t ≡ v → Puts f f t v
same_puts f t v h = record { here = h; other = λ u o. refl }

-- where a thread asks for something, no sequence number is about to wrap
abbrev pub IsLow : (Member → ℕ) → Look → Type 0
IsLow numbers l = (request : Request) (go : ℕ → Thread) → l ≡ Asks request go
    → (d : Member) → numbers d + 1 < 4294967296

abbrev pub IsSome : List Kind → Type 0
IsSome [] = ⊥
IsSome (k ∷ ks) = Unit {0}

-- a thread has the monitor: on its list, or as its entry
abbrev pub HasNow : World → ℕ → ℕ → Type 0
HasNow w u m = (mem m (w.at u).list ≡ true) ⊎ (entry_at (w.at u).point ≡ Owned m)

-- whether threads have raised a number, where one is at another point
pub put_raised : (at : ℕ → Place) (t : ℕ) (pt : Point) (l : List ℕ) (u : ℕ)
    → is_some (notified_at (put at t (thread_at pt l) u).point)
    ≡ put (λ v. is_some (notified_at (at v).point)) t (is_some (notified_at pt)) u
put_raised at t pt l u = by_test (u == t)
  where
    by_test : (b : Bool) → is_some (notified_at (if b then thread_at pt l else at u).point)
        ≡ (if b then is_some (notified_at pt) else is_some (notified_at (at u).point))
    by_test true = refl
    by_test false = refl

-- a step that is neither visible nor raises a number
pub raised_still : (done raises had : Bool) → done ≡ false → raises ≡ false → had ≡ raised_then done raises had
raised_still true raises had e h = absurd (false≢true (sym e))
raised_still false true had e h = absurd (false≢true (sym h))
raised_still false false had e h = refl

-- one that raises none, of a thread that hadn't
pub raised_none : (done raises had : Bool) → raises ≡ false → had ≡ false → false ≡ raised_then done raises had
raised_none true raises had e h = refl
raised_none false true had e h = absurd (false≢true (sym e))
raised_none false false had e h = sym h

-- how far threads are, where one is at another point
pub put_stage : (at : ℕ → Place) (t : ℕ) (pt : Point) (l : List ℕ) (u : ℕ)
    → stage_of (put at t (thread_at pt l) u).point ≡ put (λ v. stage_of (at v).point) t (stage_of pt) u
put_stage at t pt l u = by_test (u == t)
  where
    by_test : (b : Bool) → stage_of (if b then thread_at pt l else at u).point
        ≡ (if b then stage_of pt else stage_of (at u).point)
    by_test true = refl
    by_test false = refl

module _ (p : Program) (w : WellFormed p) where
  -- how many steps a thread has left
  abbrev pub left_of : {steps : ℕ} {s : State} {c : SourceState} → Corresponds p w steps s c → ℕ → ℕ
  left_of {c = c} k u = steps_left (build_of p w k.world.made) c.variable u k.world (k.threads u)

  -- what belongs to the machine's state after a step of thread t: with the actions of its process, one at least where
  -- it doesn't pause and no fewer steps are left
  pub record Next (steps : ℕ) (s' : State) (t : ℕ) (done raises : Bool) (deferral : Option Kind) (pauses : Bool) (n : ℕ)
      (c : SourceState) (was : ℕ → Stage) (had : ℕ → Bool) : Type 0 where
    pub after : SourceState
    pub ties : Corresponds p w (suc steps) s' after
    pub kinds : List Kind
    pub own : AreOwn kinds
    pub leads : Leads p c (map (act t) kinds) after
    -- how far each thread is then
    pub stage : Stage
    pub staged : (u : ℕ) → stages ties.world u ≡ put was t stage u
    -- and whether it has raised a number
    pub raised : (u : ℕ) → raised_at ties.world u ≡ put had t (raised_then done raises (had t)) u
    pub places : Places p s' t c after done deferral (was t) stage kinds
    pub paced : pauses ≡ false → IsSome kinds ⊎ (left_of ties t < n)

  -- states that belong together, with how many steps thread t has left
  pub record Tied (steps : ℕ) (s : State) (c : SourceState) (t n : ℕ) (now : ℕ → Stage) (has : ℕ → Bool) : Type 0 where
    pub ties : Corresponds p w steps s c
    pub is : left_of ties t ≡ n
    pub staged : (u : ℕ) → stages ties.world u ≡ now u
    pub raised : (u : ℕ) → raised_at ties.world u ≡ has u

  -- what is to be shown for the next states to belong together, where thread t has stepped from a point to another
  pub record Follow (steps : ℕ) (s : State) (c : SourceState) (k : Corresponds p w steps s c) (t : ℕ) (s' : State)
      (c' : SourceState) (y : Thread) (q : Process) (pt : Point) (l : List ℕ) (w' : World) : Type 0 where
    pub reached : Reached p.version w' c'.table
    pub shares : Shares (place p) (valid p) (shared_of s') w'
    pub size : s'.size ≡ s.size
    pub most : s'.most ≡ s.most
    pub made : s'.made ≡ w'.made
    pub more : k.world.made ≤ w'.made
    pub output : s'.output ≡ c'.printed
    pub variables : (m : Member) (i : ℕ) → IsVariable p m i
        → s'.word (variable_address p m i) ≡ word_of (c'.variable m.monitor m.number i)
    pub fit : (m : ℕ) → VariablesFit w'.made p m c'.variable
    -- no variable changes in a monitor that another thread has
    pub same : (u m : ℕ) → u ≢ t → HasNow k.world u m → (n i : ℕ) → c.variable m n i ≡ c'.variable m n i
    pub threads : Puts s.thread s'.thread t (Some y)
    pub processes : Puts c.process c'.process t (Some q)
    pub at : w'.at ≡ put k.world.at t (thread_at pt l)
    pub stands : StandsAt (build_of p w w'.made) c'.variable t (Some y) (Some q) pt l
    pub listed : (m : ℕ) → mem m l ≡ true → m < length p.monitors
    pub words : (u : ℕ) → w'.result u < 2 ^ 32
    pub blank : (u : ℕ) → IsBefore (put k.world.at t (thread_at pt l) u).point → w'.result u ≡ 0
    pub numbers : (d : Member) → w'.sequence d ≤ suc steps

  module _ (steps : ℕ) (s : State) (c : SourceState) (k : Corresponds p w steps s c) (t : ℕ) (s' : State)
      (c' : SourceState) (y : Thread) (q : Process) (pt : Point) (l : List ℕ) (w' : World)
      (f : Follow steps s c k t s' c' y q pt l w') where
    abbrev now : ℕ
    now = steps_left (build_of p w w'.made) c'.variable t w' f.stands

    -- where each thread stands, and how many steps the one that stepped has left
    abbrev Here : ℕ → Option Thread → Option Process → Place → Type 0
    Here u x r z = (stand : StandsAt (build_of p w w'.made) c'.variable u x r z.point z.list)
        × (u ≡ t → steps_left (build_of p w w'.made) c'.variable u w' stand ≡ now)

    abbrev moved_at : ℕ → Place
    moved_at = put k.world.at t (thread_at pt l)

    mine : (u : ℕ) → u ≡ t → Here u (s'.thread u) (c'.process u) (moved_at u)
    mine u e =
        subst (λ v. Here v (s'.thread v) (c'.process v) (moved_at v)) (sym e)
        (subst (λ (x : Option Thread). Here t x (c'.process t) (moved_at t)) (sym f.threads.here)
        (subst (λ (r : Option Process). Here t (Some y) r (moved_at t)) (sym f.processes.here)
        (subst (λ (z : Place). Here t (Some y) (Some q) z) (sym (put_same k.world.at t (thread_at pt l)))
        (f.stands, λ i. refl))))

    other : (u : ℕ) → u ≢ t → Here u (s'.thread u) (c'.process u) (moved_at u)
    other u o =
        subst (λ (x : Option Thread). Here u x (c'.process u) (moved_at u)) (sym (f.threads.other u o))
        (subst (λ (r : Option Process). Here u (s.thread u) r (moved_at u)) (sym (f.processes.other u o))
        (subst (λ (z : Place). Here u (s.thread u) (c.process u) z)
        (sym (put_other k.world.at t (thread_at pt l) u o)) (
          stand_moves (build_of p w k.world.made) w'.made f.more c.variable c'.variable u (s.thread u) (c.process u)
              (k.world.at u).point (k.world.at u).list (λ m h n i. f.same u m o h n i) (k.threads u),
          λ e. absurd (o e),
        )))

    here : (u : ℕ) → Here u (s'.thread u) (c'.process u) (w'.at u)
    here u = subst (λ (g : ℕ → Place). Here u (s'.thread u) (c'.process u) (g u)) (sym f.at)
        (elim (cases_eq u t) [ inl e ↦ mine u e | inr o ↦ other u o ])

    pub moved : Tied (suc steps) s' c' t now (put (stages k.world) t (stage_of pt))
        (put (raised_at k.world) t (is_some (notified_at pt)))
    moved = record {
      ties = record {
        world = w';
        reached = f.reached;
        shares = f.shares;
        size = f.size ∙ k.size;
        most = f.most ∙ k.most;
        made = f.made;
        output = f.output;
        variables = f.variables;
        fit = f.fit;
        threads = λ u. (here u).0;
        lists = λ u m h. at_put k.world.at t (thread_at pt l) u
            (λ (z : Place). mem m z.list ≡ true → m < length p.monitors) (λ e i. f.listed m i) (λ o i. k.lists u m i)
            (subst (λ (g : ℕ → Place). mem m (g u).list ≡ true) f.at h);
        words = f.words;
        blank = λ u h. f.blank u (subst (λ (g : ℕ → Place). IsBefore (g u).point) f.at h);
        numbers = f.numbers;
      };
      is = (here t).1 refl;
      staged = λ u. ap (λ (g : ℕ → Place). stage_of (g u).point) f.at ∙ put_stage k.world.at t pt l u;
      raised = λ u. ap (λ (g : ℕ → Place). is_some (notified_at (g u).point)) f.at ∙ put_raised k.world.at t pt l u;
    }

    -- so that it is told of the thread that stepped
    pub moved_raised : (had : Bool) → is_some (notified_at pt) ≡ had → (u : ℕ)
        → raised_at moved.ties.world u ≡ put (raised_at k.world) t had u
    moved_raised had e u = moved.raised u ∙ ap (λ b. put (raised_at k.world) t b u) e
