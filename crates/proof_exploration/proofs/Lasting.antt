-- Which processes are blocked for good, and which may do something still.
use Rattle.std.proofs.Common.{false, ◌≡◌, ◌≢◌, ℕ, zero, suc, ◌+◌, List, Contains, [], ◌∷◌, ◌++◌, Option, Some, None}
use Rattle.std.specs.Prelude.{⊤}
use Rattle.std.proofs.Common.{refl, sym, ap, ◌∙◌, subst, inl, inr, arith}
use Rattle.std.proofs.lemmas.Bool.{cases_eq}
use Rattle.words.specs.Updates.{put}
use Rattle.program.specs.Trees.{Program, Part}
use Rattle.program.specs.WellFormed.{WellFormed}
use Rattle.meaning.specs.Labels.{Action, End, Enters, Joins, Join, Resumes}
use Rattle.meaning.specs.Processes.{Caller, Entering, Frame, Joining, Process, Suspended, Before}
use Rattle.meaning.specs.Processes.{Returning, Failing, Dying, Leaving, Over}
use Rattle.meaning.specs.Offers.{Nothing, TakesUp, after_join, offer}
use Rattle.meaning.specs.Table.{Allows, Table}
use Rattle.meaning.specs.States.{SourceState, opening}
use Rattle.meaning.specs.Runs.{CanMove, IsAction, IsRun, Leads}
use Rattle.meaning.proofs.Ends.{numbered}
use Rattle.meaning.proofs.Led.{leads_more, leads_on}
use Rattle.proof_commutation.proofs.Following.{step_keeps}
use Rattle.proof_exploration.specs.Exploring.{IsCalm, IsLike, IsOver, IsStuck, LeadsAlone}
use Rattle.proof_exploration.specs.Searching.{IsComplete, IsCovered, IsExpanded}
use Rattle.proof_exploration.specs.Blocking.{ComesTo, GoesOn, IsBlocked, IsHeldUp, IsLive, MayAct, MayWait}
use Rattle.proof_exploration.proofs.Alike.{Alike, like_back, like_moves, like_run, like_trans}
use Rattle.proof_exploration.proofs.Arriving.{Arrives, LeadsCalmly, arrives, calm_alone}
use Rattle.proof_exploration.proofs.Commuting.{behind, fit, other_after}
use Rattle.proof_exploration.proofs.Searching.{alone_leads, alone_more}
use Rattle.proof_exploration.proofs.Tables.{end_fits, end_of, over_kept, split}

some_none : (q : Process) → Some q ≡ None → ⊥
some_none q e = absurd (cc)

some_once : (o : Option Process) (q r : Process) → o ≡ Some q → o ≡ Some r → q ≡ r
some_once o q r a b = let e : Some q ≡ Some r = sym a ∙ b in cc

at_like : (s r : SourceState) (q : ℕ) (o : Option Process) → IsLike s r → s.process q ≡ o → r.process q ≡ o
at_like s r q o like is = ap (λ (f : ℕ → Option Process). f q) (sym like.process) ∙ is

pub on_like : (s r : SourceState) (q : ℕ) → IsLike s r → GoesOn s q → GoesOn r q
on_like s r q like on = (on.0, at_like s r q (Some on.0) like on.1, on.2)

module _ (p : Program) where
  -- an action of another leaves a process as it is
  keeps : (done : List Action) (s : SourceState) (a : Action) (s' : SourceState) (q : ℕ) (at : Process)
      → Leads p (opening p) done s → IsAction p s a s' → s.process q ≡ Some at → q ≢ a.process
      → s'.process q ≡ Some at
  keeps done s a s' q at run x is o =
      step_keeps p s s' a.process a.kind q (inl x) o
      (λ e. some_none at (sym is ∙ ap s.process e ∙ numbered p s done run (s.table.made + 1) (omega arith))) ∙ is

  -- who may act behind actions may act before them
  pub carry : (more done : List Action) (s r : SourceState) (q : ℕ) → Leads p (opening p) done s
      → LeadsAlone p s more r → (GoesOn r q → MayAct p r q) → GoesOn s q → MayAct p s q
  carry [] done s r q run led acts on =
      subst (λ x. MayAct p x q) (sym led) (acts (subst (λ x. GoesOn x q) led on))
  carry (a ∷ more) done s r q run led acts on = elim (cases_eq q a.process) [
    | inl same ↦ (
      [],
      s,
      refl,
      record {
        kind = a.kind;
        after = led.0;
        moves = subst (λ (u : ℕ). IsAction p s (record { process = u; kind = a.kind }) led.0) (sym same) led.1;
      },
    )
    | inr other ↦ (let rest : MayAct p led.0 q =
        carry more (done ++ a ∷ []) led.0 r q (leads_more p (opening p) s led.0 done a run (inl led.1)) led.2 acts
        (on.0, keeps done s a led.0 q on.0 run led.1 on.1 other, on.2) in
        (a ∷ rest.0, rest.1, (led.0, led.1, rest.2), rest.3))
  ]

  pub live_moves : (s : SourceState) (q : ℕ) → CanMove p s q → IsLive p s q
  live_moves s q can actions e run like on = ([], e, refl, like_moves p s e q (like_back e s like) can)

  pub live_over : (s : SourceState) (q : ℕ) → (GoesOn s q → ⊥) → IsLive p s q
  live_over s q over actions e run like on = absurd (over (on_like e s q like on))

  pub live_back : (s r : SourceState) (q : ℕ) → ComesTo p s r → IsLive p r q → IsLive p s q
  live_back s r q comes live actions e run like on =
      let moved : Alike p false e comes.0 comes.1 = like_run p false comes.0 s e comes.1 (like_back e s like) comes.2 in
      carry comes.0 actions e moved.0 q run moved.1
      (live (actions ++ comes.0) moved.0
      (leads_on p (opening p) e moved.0 actions comes.0 run (alone_leads p e moved.0 comes.0 moved.1))
      (like_trans moved.0 comes.1 r moved.2 comes.3)) on

  pub covered_comes : (kept : List SourceState) (n : ℕ) (s : SourceState) → IsCovered p kept n s
      → (r : SourceState) × Contains kept r × ComesTo p s r
  covered_comes kept zero s is = (is.0, is.1, ([], s, refl, like_back is.0 s is.2))
  covered_comes kept (suc n) s (inl is) = (is.0, is.1, ([], s, refl, like_back is.0 s is.2))
  covered_comes kept (suc n) s (inr (t, calm, all)) =
      let next : (r : SourceState) × Contains kept r × ComesTo p calm.after r =
      covered_comes kept n calm.after (all calm.kind calm.after calm.moves) in (
        next.0,
        next.1,
        (
          record { process = t; kind = calm.kind } ∷ next.2.0,
          next.2.1,
          (calm.after, calm.moves, next.2.2),
          next.2.3,
        ),
      )

  the_one : (r s : SourceState) → Contains (r ∷ []) s → s ≡ r
  the_one r s (zero, l, e) = sym e
  the_one r s (suc k, l, e) = absurd (omega (arith, l))

  pub one_comes : (n : ℕ) (s r : SourceState) → IsCovered p (r ∷ []) n s → ComesTo p s r
  one_comes n s r is =
      let found : (e : SourceState) × Contains (r ∷ []) e × ComesTo p s e = covered_comes (r ∷ []) n s is in
      subst (ComesTo p s) (the_one r found.0 found.1) found.2

  pub comes_self : (s r : SourceState) → IsLike s r → ComesTo p s r
  comes_self s r like = ([], s, refl, like)

  leads_then : (a mid b : SourceState) (xs ys : List Action) → LeadsAlone p a xs mid → LeadsAlone p mid ys b
      → LeadsAlone p a (xs ++ ys) b
  leads_then a mid b [] ys x y = subst (λ s. LeadsAlone p s ys b) (sym x) y
  leads_then a mid b (z ∷ xs) ys x y = (x.0, x.1, leads_then x.0 mid b xs ys x.2 y)

  pub comes_then : (s r q : SourceState) → ComesTo p s r → ComesTo p r q → ComesTo p s q
  comes_then s r q first second =
      let moved : Alike p false first.1 second.0 second.1 =
      like_run p false second.0 r first.1 second.1 (like_back first.1 r first.3) second.2 in (
        first.0 ++ second.0,
        moved.0,
        leads_then s first.1 moved.0 first.0 second.0 first.2 moved.1,
        like_trans moved.0 second.1 q moved.2 second.3,
      )

  pub stuck_blocked : (s : SourceState) (stuck : IsStuck p s) → IsBlocked p s stuck.process
  stuck_blocked s stuck = record {
    goes_on = (stuck.at, stuck.stands, stuck.goes_on);
    rests = λ may. never may.0 may.1 may.2 may.3;
  }
    where
      never : (actions : List Action) (s' : SourceState) → LeadsAlone p s actions s' → CanMove p s' stuck.process → ⊥
      never [] s' led can = stuck.rests stuck.process (subst (λ x. CanMove p x stuck.process) (sym led) can)
      never (a ∷ actions) s' led can =
          stuck.rests a.process (record { kind = a.kind; after = led.0; moves = led.1 })

  pub blocked_like : (s r : SourceState) (q : ℕ) → IsLike s r → IsBlocked p s q → IsBlocked p r q
  blocked_like s r q like is = record {
    goes_on = on_like s r q like is.goes_on;
    rests = λ may.
        let moved : Alike p false s may.0 may.1 = like_run p false may.0 r s may.1 (like_back s r like) may.2 in
        is.rests (
          may.0,
          moved.0,
          moved.1,
          like_moves p may.1 moved.0 q (like_back moved.0 may.1 moved.2) may.3,
        );
  }

-- where each process may act in each kept state, none is blocked in any run
pub never_blocked : (p : Program) (kept : List SourceState) → WellFormed p → IsComplete p false kept
    → ((r : SourceState) → Contains kept r → (q : ℕ) → IsLive p r q)
    → (actions : List Action) (s : SourceState) (q : ℕ) → LeadsAlone p (opening p) actions s → IsBlocked p s q → ⊥
never_blocked p kept wf complete live actions s q led blocked =
    let run : Leads p (opening p) actions s = alone_leads p (opening p) s actions led in
    let is : Arrives p kept s = arrives p wf kept complete.expanded actions [] (opening p) s refl complete.opens led in
    blocked.rests (carry p is.0 actions s is.1 q run (calm_alone p s is.1 is.0 is.2)
    (live is.3.0 is.3.1 q (actions ++ is.0) is.1
    (leads_on p (opening p) s is.1 actions is.0 run (alone_leads p s is.1 is.0 (calm_alone p s is.1 is.0 is.2)))
    (like_back is.3.0 is.1 is.3.2)) blocked.goes_on)

-- a process stands where its next action isn't calm
abbrev IsRacing : Process → Type 0
IsRacing (Entering m f callers) = ⊤
IsRacing (Suspended c f callers) = ⊤
IsRacing other = ⊥

-- what a process that stands here does next
acts_at : (p : Program) (s : SourceState) (a : Action) (s' : SourceState) (at : Process)
    → s.process a.process ≡ Some at → (x : IsAction p s a s')
    → TakesUp (offer p s.variable at) x.label x.effect x.after
acts_at p s a s' at stands x =
    subst (λ b. TakesUp (offer p s.variable b) x.label x.effect x.after)
    (some_once (s.process a.process) x.before at x.stands stands) x.acts

racing : (p : Program) (s : SourceState) (a : Action) (s' : SourceState) (at : Process) → IsRacing at
    → s.process a.process ≡ Some at → (x : IsAction p s a s') → IsCalm x.label → ⊥
racing p s a s' (Entering m f callers) is stands x calm =
    let acts = acts_at p s a s' (Entering m f callers) stands x in
    let no : IsCalm (Enters m acts.0) = subst IsCalm acts.1 calm in no
racing p s a s' (Suspended c f callers) is stands x calm =
    let acts = acts_at p s a s' (Suspended c f callers) stands x in
    let no : IsCalm (Resumes c.monitor acts.0) = subst IsCalm acts.1 calm in no
racing p s a s' (Before entered f callers) is stands x calm = absurd is
racing p s a s' (Joining child into part f callers) is stands x calm = absurd is
racing p s a s' (Returning z callers) is stands x calm = absurd is
racing p s a s' (Failing fault entered f callers) is stands x calm = absurd is
racing p s a s' (Dying cause ms) is stands x calm = absurd is
racing p s a s' (Leaving z) is stands x calm = absurd is
racing p s a s' (Over end) is stands x calm = absurd is

module _ (p : Program) (wf : WellFormed p) where
  -- who can move can behind calm actions of others
  through : (more done : List Action) (s r : SourceState) (q : ℕ) (at : Process) → IsRacing at
      → Leads p (opening p) done s → LeadsCalmly p s more r → s.process q ≡ Some at → CanMove p s q → CanMove p r q
  through [] done s r q at is run led stands can = subst (λ x. CanMove p x q) led can
  through (a ∷ more) done s r q at is run led stands can = elim (cases_eq q a.process) [
    | inl same ↦ absurd (racing p s a led.0 at is (ap s.process (sym same) ∙ stands) led.1 led.2)
    | inr other ↦ through more (done ++ a ∷ []) led.0 r q at is
        (leads_more p (opening p) s led.0 done a run (inl led.1)) led.3
        (keeps p done s a led.0 q at run led.1 stands other) (record {
          kind = can.kind;
          after = behind p wf done s run q a.process can.kind a.kind can.after led.0 can.moves led.1 other;
          moves = other_after p wf done s run a.process q a.kind can.kind led.0 can.after led.1 can.moves
              (λ e. other (sym e)) led.2;
        })
  ]

  -- who is over by the table stays so
  over_on : (more done : List Action) (s r : SourceState) (child : ℕ) (end : End) → Leads p (opening p) done s
      → LeadsAlone p s more r → s.table.over child ≡ Some end → r.table.over child ≡ Some end
  over_on [] done s r child end run led is = subst (λ x. x.table.over child ≡ Some end) led is
  over_on (a ∷ more) done s r child end run led is =
      over_on more (done ++ a ∷ []) led.0 r child end (leads_more p (opening p) s led.0 done a run (inl led.1)) led.2
      (ap (λ (T : Table). T.over child) (split a.process led.1.label s.table led.0.table led.1.allows).1
      ∙ over_kept a.process child (end_of led.1.label) s.table.over end
      (end_fits a.process led.1.label s.table (fit p wf done s run a led.0 led.1)) is)

-- who joins a process that is over can move
joins : (p : Program) (s : SourceState) (q child : ℕ) (end : End) (into : Option ℕ) (part : Part) (f : Frame)
    (callers : List Caller) → s.process q ≡ Some (Joining child into part f callers)
    → s.table.over child ≡ Some end → CanMove p s q
joins p s q child end into part f callers stands is = record {
  kind = Join child;
  after = record s { process = put s.process q (Some (after_join into part f callers end)) };
  moves = record {
    before = Joining child into part f callers;
    after = after_join into part f callers end;
    label = Joins child end;
    effect = Nothing;
    stands = stands;
    acts = (end, refl, refl, refl);
    named = refl;
    allows = (is, refl);
    variables = refl;
    printed = refl;
    processes = refl;
  };
}

-- where a process is held up in each state that is kept, no run from there frees it
module _ (p : Program) (wf : WellFormed p) (kept : List SourceState)
    (expanded : (r : SourceState) → Contains kept r → IsExpanded p kept r) (done : List Action) (s : SourceState)
    (run : IsRun p done s) (covered : (n : ℕ) × IsCovered p kept n s) (q : ℕ) where
  -- it can't move where it still stands there
  no_move : (at : Process) → MayWait at → ((r : SourceState) → Contains kept r → IsHeldUp p r q at)
      → (actions : List Action) (e : SourceState) → LeadsAlone p s actions e → e.process q ≡ Some at → CanMove p e q → ⊥
  no_move at waits held actions e led stands can =
      let on : Leads p (opening p) (done ++ actions) e =
      leads_on p (opening p) s e done actions run (alone_leads p s e actions led) in
      let is : Arrives p kept e = arrives p wf kept expanded actions done s e run covered led in
      let there : IsHeldUp p is.3.0 q at = held is.3.0 is.3.1 in
      there.rests (like_moves p is.1 is.3.0 q (like_back is.3.0 is.1 is.3.2)
      (behind_all at waits (done ++ actions) e is.0 is.1 on is.2 stands can
      (at_like is.3.0 is.1 q (Some at) is.3.2 there.stands)))
    where
      behind_all : (at : Process) → MayWait at → (done : List Action) (e : SourceState) (more : List Action)
          (r : SourceState) → Leads p (opening p) done e → LeadsCalmly p e more r → e.process q ≡ Some at
          → CanMove p e q → r.process q ≡ Some at → CanMove p r q
      behind_all (Entering m f callers) waits done e more r on calm stands can still =
          through p wf more done e r q (Entering m f callers) tt on calm stands can
      behind_all (Suspended c f callers) waits done e more r on calm stands can still =
          through p wf more done e r q (Suspended c f callers) tt on calm stands can
      behind_all (Joining child into part f callers) waits done e more r on calm stands can still =
          let a : Action = record { process = q; kind = can.kind } in
          let acts = acts_at p e a can.after (Joining child into part f callers) stands can.moves in
          let free : Allows q (Joins child acts.0) e.table can.after.table =
          subst (λ l. Allows q l e.table can.after.table) acts.1 can.moves.allows in
          joins p r q child acts.0 into part f callers still
          (over_on p wf more done e r child acts.0 on (calm_alone p e r more calm) free.0)
      behind_all (Before entered f callers) waits done e more r on calm stands can still = absurd waits
      behind_all (Returning z callers) waits done e more r on calm stands can still = absurd waits
      behind_all (Failing fault entered f callers) waits done e more r on calm stands can still = absurd waits
      behind_all (Dying cause ms) waits done e more r on calm stands can still = absurd waits
      behind_all (Leaving z) waits done e more r on calm stands can still = absurd waits
      behind_all (Over end) waits done e more r on calm stands can still = absurd waits

  module _ (at : Process) (waits : MayWait at) (held : (r : SourceState) → Contains kept r → IsHeldUp p r q at) where
    never : (actions before : List Action) (e s' : SourceState) → LeadsAlone p s before e → e.process q ≡ Some at
        → LeadsAlone p e actions s' → CanMove p s' q → ⊥
    never [] before e s' led stands on can =
        no_move at waits held before e led stands (subst (λ x. CanMove p x q) (sym on) can)
    never (a ∷ actions) before e s' led stands on can = elim (cases_eq q a.process) [
      | inl same ↦ no_move at waits held before e led stands (record {
        kind = a.kind;
        after = on.0;
        moves = subst (λ (u : ℕ). IsAction p e (record { process = u; kind = a.kind }) on.0) (sym same) on.1;
      })
      | inr other ↦ never actions (before ++ a ∷ []) on.0 s' (alone_more p s e on.0 before a led on.1)
          (keeps p (done ++ before) e a on.0 q at
          (leads_on p (opening p) s e done before run (alone_leads p s e before led)) on.1 stands other)
          on.2 can
    ]

    pub blocked_here : s.process q ≡ Some at → IsBlocked p s q
    blocked_here stands = record {
      goes_on = (at, stands, goes_on at waits);
      rests = λ may. never may.0 [] s may.1 refl stands may.2 may.3;
    }
      where
        goes_on : (at : Process) → MayWait at → IsOver at → ⊥
        goes_on (Over end) waits over = absurd waits
        goes_on (Entering m f callers) waits over = over
        goes_on (Suspended c f callers) waits over = over
        goes_on (Joining child into part f callers) waits over = over
        goes_on (Before entered f callers) waits over = over
        goes_on (Returning z callers) waits over = over
        goes_on (Failing fault entered f callers) waits over = over
        goes_on (Dying cause ms) waits over = over
        goes_on (Leaving z) waits over = over
