-- Processes that are made, and processes that are over.
use Rattle.std.proofs.Common.{◌≡◌, ◌⊎◌, ℕ, ◌+◌, ◌<◌, ◌≤◌, ℤ, List, [], ◌∷◌, ◌++◌, Option, Some, None, refl, sym, ap}
use Rattle.std.proofs.Common.{◌∙◌, inl, inr, subst, arith, append-nil}
use Rattle.std.proofs.lemmas.Bool.{cases_eq, cases_lt, ne_eqb}
use Rattle.words.proofs.Updates.{put_other}
use Rattle.program.specs.Trees.{Program}
use Rattle.meaning.specs.Labels.{End, Label, Alone, Stores, Forks, FindsFull, Claims, FindsClaimed, Joins, Enters}
use Rattle.meaning.specs.Labels.{Resumes, Exits, Waits, Notifies, Broadcasts, Abandons, Ends, Action}
use Rattle.meaning.specs.Table.{Table, Allows}
use Rattle.meaning.specs.Processes.{Process, Over}
use Rattle.meaning.specs.Offers.{Effect, Nothing, Puts, Writes, Makes, Offer, Rests, Does, Takes, MakesOne, ClaimsOne}
use Rattle.meaning.specs.Offers.{JoinsOne, NotifiesSome, NotifiesAll, offer, TakesUp}
use Rattle.meaning.specs.States.{SourceState, opening, printed_after, processes_after}
use Rattle.meaning.specs.Runs.{IsAction, IsKillable, IsStep, Leads}
use Rattle.meaning.proofs.Offered.{IsQuiet, IsPlain, plain}

pub some_none : {A : Type 0} (x : A) → Some x ≡ None → ⊥
some_none x e = absurd (cc)

-- processes have the numbers up to that of those made
abbrev pub IsNumbered : SourceState → Type 0
IsNumbered s = (q : ℕ) → s.table.made < q → s.process q ≡ None

made_stays : (p : ℕ) (l : Label) (t t' : Table) → Allows p l t t' → t.made ≤ t'.made
made_stays p (Alone kind) t t' a = let e : t'.made ≡ t.made = ap (λ (x : Table). x.made) a in omega (arith, e)
made_stays p (Stores m) t t' a = let e : t'.made ≡ t.made = ap (λ (x : Table). x.made) a in omega (arith, e)
made_stays p (Forks child) t t' a = let e : t'.made ≡ t.made + 1 = ap (λ (x : Table). x.made) a.2 in omega (arith, e)
made_stays p FindsFull t t' a = let e : t'.made ≡ t.made = ap (λ (x : Table). x.made) a.1 in omega (arith, e)
made_stays p (Claims child) t t' a = let e : t'.made ≡ t.made = ap (λ (x : Table). x.made) a.1 in omega (arith, e)
made_stays p (FindsClaimed child) t t' a = let e : t'.made ≡ t.made =
    ap (λ (x : Table). x.made) a.1 in omega (arith, e)
made_stays p (Joins child end) t t' a = let e : t'.made ≡ t.made = ap (λ (x : Table). x.made) a.1 in omega (arith, e)
made_stays p (Enters m w) t t' a = let e : t'.made ≡ t.made = ap (λ (x : Table). x.made) a.1 in omega (arith, e)
made_stays p (Resumes m w) t t' a = let e : t'.made ≡ t.made = ap (λ (x : Table). x.made) a.2 in omega (arith, e)
made_stays p (Exits m) t t' a = let e : t'.made ≡ t.made = ap (λ (x : Table). x.made) a in omega (arith, e)
made_stays p (Waits c) t t' a = let e : t'.made ≡ t.made = ap (λ (x : Table). x.made) a in omega (arith, e)
made_stays p (Notifies c resumed) t t' a = let e : t'.made ≡ t.made =
    ap (λ (x : Table). x.made) a.1 in omega (arith, e)
made_stays p (Broadcasts c resumed) t t' a = let e : t'.made ≡ t.made =
    ap (λ (x : Table). x.made) a.1 in omega (arith, e)
made_stays p (Abandons m) t t' a = let e : t'.made ≡ t.made = ap (λ (x : Table). x.made) a in omega (arith, e)
made_stays p (Ends end) t t' a = let e : t'.made ≡ t.made = ap (λ (x : Table). x.made) a in omega (arith, e)

-- a process is made by a fork alone
abbrev pub MakesOnlyForking : Label → Effect → Type 0
MakesOnlyForking l e = IsQuiet e ⊎ ((n : ℕ) × (c : Process) × (l ≡ Forks n) × (e ≡ Makes n c))

quiet : (l : Label) (e : Effect) → e ≡ Nothing → MakesOnlyForking l e
quiet l e is = inl (subst IsQuiet (sym is) tt)

pub made_by : (o : Offer) (l : Label) (e : Effect) (q : Process) → IsPlain o → TakesUp o l e q → MakesOnlyForking l e
made_by Rests l e q is t = absurd t
made_by (Does k f r) l e q is t = inl (subst IsQuiet (sym t.1) is.1)
made_by (Takes k f r) l e q is t = quiet l e t.2
made_by (MakesOne c k r) l e q is (inl t) = inr (t.0, c, t.1, t.2)
made_by (MakesOne c k r) l e q is (inr t) = quiet l e t.1
made_by (ClaimsOne c k r) l e q is (inl t) = quiet l e t.1
made_by (ClaimsOne c k r) l e q is (inr t) = quiet l e t.1
made_by (JoinsOne c k) l e q is t = quiet l e t.2
made_by (NotifiesSome c k) l e q is t = quiet l e t.2
made_by (NotifiesAll c k) l e q is t = quiet l e t.2

pub quiet_processes : (e : Effect) (f : ℕ → Option Process) → IsQuiet e → processes_after e f ≡ f
quiet_processes Nothing f is = refl
quiet_processes (Puts m n i z) f is = refl
quiet_processes (Writes z) f is = refl
quiet_processes (Makes c q) f is = absurd is

-- an action leaves each other process that was made as it is, and makes none past those that it counts
other_process : (p : Program) (s : SourceState) (a : Action) (s' : SourceState) (q : ℕ) → IsAction p s a s'
    → (q ≡ a.process → ⊥)
    → (q ≤ s.table.made) ⊎ (s'.table.made < q) → s'.process q ≡ s.process q
other_process p s a s' q x ne place =
    ap (λ (f : ℕ → Option Process). f q) x.processes
    ∙ put_other (processes_after x.effect s.process) a.process (Some x.after) q ne
    ∙ rest (made_by (offer p s.variable x.before) x.label x.effect x.after (plain p s.variable x.before) x.acts)
  where
    rest : MakesOnlyForking x.label x.effect → processes_after x.effect s.process q ≡ s.process q
    rest (inl is) = ap (λ (f : ℕ → Option Process). f q) (quiet_processes x.effect s.process is)
    rest (inr f) =
        let forks : Allows a.process (Forks f.0) s.table s'.table =
        subst (λ l. Allows a.process l s.table s'.table) f.2 x.allows in
        let made : s'.table.made ≡ s.table.made + 1 = ap (λ (t : Table). t.made) forks.2 in
        let number : f.0 ≡ s.table.made + 1 = forks.1 in
        let apart : q ≡ f.0 → ⊥ = λ e. elim place [
          | inl le ↦ omega (arith, e, number, le)
          | inr gt ↦ omega (arith, e, number, made, gt)
        ] in
        ap (λ (g : Effect). processes_after g s.process q) f.3 ∙ put_other s.process f.0 (Some f.1) q apart

pub numbered_step : (p : Program) (s : SourceState) (a : Action) (s' : SourceState) → IsStep p s a s' → IsNumbered s
    → IsNumbered s'
numbered_step p s a s' (inl x) is q past =
    let le : s.table.made ≤ s'.table.made = made_stays a.process x.label s.table s'.table x.allows in
    let none : s.process q ≡ None = is q (omega (arith, le, past)) in
    let ne : q ≡ a.process → ⊥ = λ e. some_none x.before (sym x.stands ∙ sym (ap s.process e) ∙ none) in
    other_process p s a s' q x ne (inr past) ∙ none
numbered_step p s a s' (inr (inl x)) is q past =
    let made : s'.table.made ≡ s.table.made = ap (λ (t : Table). t.made) x.2.allows.1 in
    ap (λ (f : ℕ → Option Process). f q) x.2.processes ∙ is q (omega (arith, made, past))
numbered_step p s a s' (inr (inr x)) is q past =
    let made : s'.table.made ≡ s.table.made = ap (λ (t : Table). t.made) x.3.allows.1 in
    let none : s.process q ≡ None = is q (omega (arith, made, past)) in
    let ne : q ≡ a.process → ⊥ = λ e. some_none x.3.before (sym x.3.stands ∙ sym (ap s.process e) ∙ none) in
    ap (λ (f : ℕ → Option Process). f q) x.3.processes ∙ put_other s.process a.process _ q ne ∙ none

numbered_led : (p : Program) (s s' : SourceState) (actions : List Action) → Leads p s actions s' → IsNumbered s
    → IsNumbered s'
numbered_led p s s' [] led is = subst IsNumbered led is
numbered_led p s s' (a ∷ actions) led is = numbered_led p led.0 s' actions led.2 (numbered_step p s a led.0 led.1 is)

pub numbered_opening : (p : Program) → IsNumbered (opening p)
numbered_opening p q past = rw (ne_eqb q 1 (λ e. omega (arith, e, past))) refl

pub numbered : (p : Program) (s : SourceState) (actions : List Action) → Leads p (opening p) actions s → IsNumbered s
numbered p s actions led = numbered_led p (opening p) s actions led (numbered_opening p)

rests : (p : Program) (s : SourceState) (b : Process) (l : Label) (e : Effect) (r : Process) (end : End)
    → b ≡ Over end → TakesUp (offer p s.variable b) l e r → ⊥
rests p s b l e r end is t = subst (λ x. TakesUp (offer p s.variable x) l e r) is t

over_stays : (p : Program) (s : SourceState) (a : Action) (s' : SourceState) (q : ℕ) (end : End)
    → IsNumbered s → IsStep p s a s' → s.process q ≡ Some (Over end) → s'.process q ≡ Some (Over end)
over_stays p s a s' q end is (inl x) over = elim (cases_eq q a.process) [
  | inl e ↦ absurd (let b : Some x.before ≡ Some (Over end) = sym x.stands ∙ sym (ap s.process e) ∙ over in
      rests p s x.before x.label x.effect x.after end (cc) x.acts)
  | inr ne ↦ other_process p s a s' q x ne (inl (le_made q over)) ∙ over
]
  where
    le_made : (r : ℕ) → s.process r ≡ Some (Over end) → r ≤ s.table.made
    le_made r o = elim (cases_lt s.table.made r) [
      | inl gt ↦ absurd (some_none (Over end) (sym o ∙ is r gt))
      | inr le ↦ le
    ]
over_stays p s a s' q end is (inr (inl x)) over = ap (λ (f : ℕ → Option Process). f q) x.2.processes ∙ over
over_stays p s a s' q end is (inr (inr x)) over = elim (cases_eq q a.process) [
  | inl e ↦ absurd (let b : Some x.3.before ≡ Some (Over end) = sym x.3.stands ∙ sym (ap s.process e) ∙ over in
      let same : x.3.before ≡ Over end = cc in subst IsKillable same x.3.killable)
  | inr ne ↦ ap (λ (f : ℕ → Option Process). f q) x.3.processes ∙ put_other s.process a.process _ q ne ∙ over
]

pub over_in_runs : (p : Program) (actions : List Action) (a : Action) (s s' : SourceState) (q : ℕ) (end : End)
    → Leads p (opening p) actions s → IsStep p s a s' → s.process q ≡ Some (Over end) → s'.process q ≡ Some (Over end)
over_in_runs p actions a s s' q end led step over = over_stays p s a s' q end (numbered p s actions led) step over

printed_more : (e : Effect) (zs : List ℤ) → (more : List ℤ) × (printed_after e zs ≡ zs ++ more)
printed_more Nothing zs = ([], sym (append-nil zs))
printed_more (Puts m n i z) zs = ([], sym (append-nil zs))
printed_more (Writes z) zs = (z ∷ [], refl)
printed_more (Makes c q) zs = ([], sym (append-nil zs))

pub printed_grows : (p : Program) (a : Action) (s s' : SourceState) → IsStep p s a s'
    → (more : List ℤ) × (s'.printed ≡ s.printed ++ more)
printed_grows p a s s' (inl x) =
    let w : (more : List ℤ) × (printed_after x.effect s.printed ≡ s.printed ++ more) =
    printed_more x.effect s.printed in
    (w.0, x.printed ∙ w.1)
printed_grows p a s s' (inr (inl x)) = ([], x.2.printed ∙ sym (append-nil s.printed))
printed_grows p a s s' (inr (inr x)) = ([], x.3.printed ∙ sym (append-nil s.printed))
