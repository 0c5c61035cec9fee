-- What an action changes of the table, what it needs of it, and that actions of two processes commute on it where one
-- is calm.
use Rattle.std.proofs.Common.{◌≡◌, ◌≢◌, ℕ, ◌+◌, ◌≤◌, ◌<◌, Bool, true, false, List, [], ◌∷◌, Option, Some, None}
use Rattle.std.proofs.Common.{Contains}
use Rattle.std.proofs.Common.{refl, sym, ap, ◌∙◌, subst, arith, inl, inr, suc, length}
use Rattle.std.specs.Prelude.{⊤}
use Rattle.std.proofs.lemmas.Bool.{cases_eq}
use Rattle.words.specs.Updates.{put}
use Rattle.program.specs.declared.kinds.Member.{Member}
use Rattle.meaning.specs.Labels.{End, Label, Alone, Stores, Forks, FindsFull, Claims, FindsClaimed, Joins, Enters}
use Rattle.meaning.specs.Labels.{Resumes, Exits, Waits, Notifies, Broadcasts, Abandons, Ends}
use Rattle.meaning.specs.Table.{Table, Hold, HeldBy, enterable, Allows, IsNotified, IsBroadcast, AllWait}
use Rattle.meaning.specs.Table.{without_waiters}
use Rattle.meaning.proofs.Discipline.{Change, Same, Taken, Given, change_of, hold_after}
use Rattle.meaning.proofs.Keeping.{enterable_held}
use Rattle.meaning.proofs.Waits.{still_waits}
use Rattle.words.proofs.Updates.{at_put, at_put2, put_same, put_other}
use Rattle.proof_exploration.specs.Exploring.{IsCalm}

-- what an action changes of who waits
pub data WaitChange : Type 0 where
  Keeps : WaitChange
  Begins : (condition : Member) → WaitChange
  Clears : (condition : Member) (resumed : List ℕ) → WaitChange

abbrev pub wait_change : Label → WaitChange
wait_change (Waits c) = Begins c
wait_change (Notifies c resumed) = Clears c resumed
wait_change (Broadcasts c resumed) = Clears c resumed
wait_change other = Keeps

abbrev pub waits_after : ℕ → WaitChange → (ℕ → Option Member) → ℕ → Option Member
waits_after t Keeps w = w
waits_after t (Begins c) w = put w t (Some c)
waits_after t (Clears c resumed) w = without_waiters resumed w

abbrev pub claimed_after : Label → (ℕ → Bool) → ℕ → Bool
claimed_after (Claims child) c = put c child true
claimed_after other c = c

abbrev pub made_after : Label → ℕ → ℕ
made_after (Forks child) n = n + 1
made_after other n = n

abbrev pub end_of : Label → Option End
end_of (Ends end) = Some end
end_of other = None

abbrev pub over_after : ℕ → Option End → (ℕ → Option End) → ℕ → Option End
over_after t None o = o
over_after t (Some end) o = put o t (Some end)

abbrev pub table_after : ℕ → Label → Table → Table
table_after t l T = record {
  most = T.most;
  hold = hold_after t (change_of l) T.hold;
  waits = waits_after t (wait_change l) T.waits;
  claimed = claimed_after l T.claimed;
  made = made_after l T.made;
  over = over_after t (end_of l) T.over;
}

-- what an action needs of the table
abbrev pub Guard : ℕ → Label → Table → Type 0
Guard p (Forks child) t = (t.made < t.most) × (child ≡ t.made + 1)
Guard p FindsFull t = t.most ≤ t.made
Guard p (Claims child) t = t.claimed child ≡ false
Guard p (FindsClaimed child) t = t.claimed child ≡ true
Guard p (Joins child end) t = t.over child ≡ Some end
Guard p (Enters m was_abandoned) t = t.hold m ≡ enterable was_abandoned
Guard p (Resumes m was_abandoned) t = (t.waits p ≡ None) × (t.hold m ≡ enterable was_abandoned)
Guard p (Notifies c resumed) t = IsNotified t c resumed
Guard p (Broadcasts c resumed) t = IsBroadcast t c resumed
Guard p other t = ⊤

pub split : (p : ℕ) (l : Label) (t t' : Table) → Allows p l t t' → Guard p l t × (t' ≡ table_after p l t)
split p (Alone kind) t t' a = (tt, a)
split p (Stores m) t t' a = (tt, a)
split p (Forks child) t t' a = ((a.0, a.1), a.2)
split p FindsFull t t' a = (a.0, a.1)
split p (Claims child) t t' a = (a.0, a.1)
split p (FindsClaimed child) t t' a = (a.0, a.1)
split p (Joins child end) t t' a = (a.0, a.1)
split p (Enters m w) t t' a = (a.0, a.1)
split p (Resumes m w) t t' a = ((a.0, a.1), a.2)
split p (Exits m) t t' a = (tt, a)
split p (Waits c) t t' a = (tt, a)
split p (Notifies c resumed) t t' a = (a.0, a.1)
split p (Broadcasts c resumed) t t' a = (a.0, a.1)
split p (Abandons m) t t' a = (tt, a)
split p (Ends end) t t' a = (tt, a)

pub allowed : (p : ℕ) (l : Label) (t : Table) → Guard p l t → Allows p l t (table_after p l t)
allowed p (Alone kind) t g = refl
allowed p (Stores m) t g = refl
allowed p (Forks child) t g = (g.0, g.1, refl)
allowed p FindsFull t g = (g, refl)
allowed p (Claims child) t g = (g, refl)
allowed p (FindsClaimed child) t g = (g, refl)
allowed p (Joins child end) t g = (g, refl)
allowed p (Enters m w) t g = (g, refl)
allowed p (Resumes m w) t g = (g.0, g.1, refl)
allowed p (Exits m) t g = refl
allowed p (Waits c) t g = refl
allowed p (Notifies c resumed) t g = (g, refl)
allowed p (Broadcasts c resumed) t g = (g, refl)
allowed p (Abandons m) t g = refl
allowed p (Ends end) t g = refl

-- what holds of an action of a process in a reachable state
abbrev pub Fit : ℕ → Label → Table → Type 0
Fit p (Exits m) t = t.hold m ≡ HeldBy p
Fit p (Waits c) t = (t.hold c.monitor ≡ HeldBy p) × (t.waits p ≡ None)
Fit p (Notifies c resumed) t = t.hold c.monitor ≡ HeldBy p
Fit p (Broadcasts c resumed) t = t.hold c.monitor ≡ HeldBy p
Fit p (Abandons m) t = t.hold m ≡ HeldBy p
Fit p (Ends end) t = t.over p ≡ None
Fit p other t = ⊤

-- the same, by what it changes
abbrev pub ChangeFits : ℕ → Change → (ℕ → Hold) → Type 0
ChangeFits p Same hold = ⊤
ChangeFits p (Taken m) hold = (w : Bool) × (hold m ≡ enterable w)
ChangeFits p (Given m w) hold = hold m ≡ HeldBy p

change_fits : (p : ℕ) (l : Label) (t : Table) → Guard p l t → Fit p l t → ChangeFits p (change_of l) t.hold
change_fits p (Enters m w) t g f = (w, g)
change_fits p (Resumes m w) t g f = (w, g.1)
change_fits p (Exits m) t g f = f
change_fits p (Waits c) t g f = f.0
change_fits p (Abandons m) t g f = f
change_fits p (Alone kind) t g f = tt
change_fits p (Stores m) t g f = tt
change_fits p (Forks child) t g f = tt
change_fits p FindsFull t g f = tt
change_fits p (Claims child) t g f = tt
change_fits p (FindsClaimed child) t g f = tt
change_fits p (Joins child end) t g f = tt
change_fits p (Notifies c resumed) t g f = tt
change_fits p (Broadcasts c resumed) t g f = tt
change_fits p (Ends end) t g f = tt

abbrev pub WaitFits : ℕ → WaitChange → Table → Type 0
WaitFits p Keeps t = ⊤
WaitFits p (Begins c) t = (t.hold c.monitor ≡ HeldBy p) × (t.waits p ≡ None)
WaitFits p (Clears c resumed) t = (t.hold c.monitor ≡ HeldBy p) × AllWait t c resumed

wait_fits : (p : ℕ) (l : Label) (t : Table) → Guard p l t → Fit p l t → WaitFits p (wait_change l) t
wait_fits p (Waits c) t g f = f
wait_fits p (Notifies c resumed) t g f = (f, g.wait)
wait_fits p (Broadcasts c resumed) t g f = (f, g.wait)
wait_fits p (Enters m w) t g f = tt
wait_fits p (Resumes m w) t g f = tt
wait_fits p (Exits m) t g f = tt
wait_fits p (Abandons m) t g f = tt
wait_fits p (Alone kind) t g f = tt
wait_fits p (Stores m) t g f = tt
wait_fits p (Forks child) t g f = tt
wait_fits p FindsFull t g f = tt
wait_fits p (Claims child) t g f = tt
wait_fits p (FindsClaimed child) t g f = tt
wait_fits p (Joins child end) t g f = tt
wait_fits p (Ends end) t g f = tt

abbrev pub EndFits : ℕ → Option End → (ℕ → Option End) → Type 0
EndFits p None over = ⊤
EndFits p (Some end) over = over p ≡ None

pub end_fits : (p : ℕ) (l : Label) (t : Table) → Fit p l t → EndFits p (end_of l) t.over
end_fits p (Ends end) t f = f
end_fits p (Waits c) t f = tt
end_fits p (Notifies c resumed) t f = tt
end_fits p (Broadcasts c resumed) t f = tt
end_fits p (Enters m w) t f = tt
end_fits p (Resumes m w) t f = tt
end_fits p (Exits m) t f = tt
end_fits p (Abandons m) t f = tt
end_fits p (Alone kind) t f = tt
end_fits p (Stores m) t f = tt
end_fits p (Forks child) t f = tt
end_fits p FindsFull t f = tt
end_fits p (Claims child) t f = tt
end_fits p (FindsClaimed child) t f = tt
end_fits p (Joins child end) t f = tt

-- a monitor that one process holds is another's neither, nor free
held_apart : (t u : ℕ) (h : Hold) → t ≢ u → h ≡ HeldBy t → h ≡ HeldBy u → ⊥
held_apart t u h o x y =
    let e : HeldBy t ≡ HeldBy u = sym x ∙ y in
    let same : t ≡ u = cc in
    o same

held_free : (t : ℕ) (w : Bool) (h : Hold) → h ≡ HeldBy t → h ≡ enterable w → ⊥
held_free t w h x y = enterable_held w t (sym y ∙ x)

-- a process keeps the monitors that it holds
pub hold_kept : (t u m : ℕ) (c : Change) (hold : ℕ → Hold) → t ≢ u → ChangeFits u c hold → hold m ≡ HeldBy t
    → hold_after u c hold m ≡ HeldBy t
hold_kept t u m Same hold o fits is = is
hold_kept t u m (Taken n) hold o fits is = at_put hold n (HeldBy u) m (λ h. h ≡ HeldBy t)
    (λ e. absurd (held_free t fits.0 (hold n) (ap hold (sym e) ∙ is) fits.1)) (λ n. is)
hold_kept t u m (Given n w) hold o fits is = at_put hold n (enterable w) m (λ h. h ≡ HeldBy t)
    (λ e. absurd (held_apart t u (hold n) o (ap hold (sym e) ∙ is) fits)) (λ n. is)

abbrev IsUntaken : Change → Type 0
IsUntaken (Taken m) = ⊥
IsUntaken other = ⊤

calm_untaken : (l : Label) → IsCalm l → IsUntaken (change_of l)
calm_untaken (Enters m w) calm = absurd calm
calm_untaken (Resumes m w) calm = absurd calm
calm_untaken (Exits m) calm = tt
calm_untaken (Waits c) calm = tt
calm_untaken (Abandons m) calm = tt
calm_untaken (Alone kind) calm = tt
calm_untaken (Stores m) calm = tt
calm_untaken (Forks child) calm = tt
calm_untaken FindsFull calm = tt
calm_untaken (Claims child) calm = tt
calm_untaken (FindsClaimed child) calm = tt
calm_untaken (Joins child end) calm = tt
calm_untaken (Notifies c resumed) calm = tt
calm_untaken (Broadcasts c resumed) calm = tt
calm_untaken (Ends end) calm = tt

-- a monitor that can be entered stays so, where none is taken
free_kept : (t m : ℕ) (w : Bool) (c : Change) (hold : ℕ → Hold) → IsUntaken c → ChangeFits t c hold
    → hold m ≡ enterable w → hold_after t c hold m ≡ enterable w
free_kept t m w Same hold calm fits is = is
free_kept t m w (Taken n) hold calm fits is = absurd calm
free_kept t m w (Given n v) hold calm fits is = at_put hold n (enterable v) m (λ h. h ≡ enterable w)
    (λ e. absurd (held_free t w (hold n) fits (ap hold (sym e) ∙ is))) (λ n. is)

pub put_swap : {A : Type 0} (f : ℕ → A) (i j : ℕ) (v w : A) (k : ℕ) → i ≢ j
    → put (put f i v) j w k ≡ put (put f j w) i v k
put_swap f i j v w k o = elim (cases_eq k j) [
  | inl e ↦ subst (λ n. put (put f i v) j w n ≡ put (put f j w) i v n) (sym e)
      (put_same (put f i v) j w ∙ sym (put_other (put f j w) i v j (λ x. o (sym x)) ∙ put_same f j w))
  | inr other ↦ put_other (put f i v) j w k other
      ∙ at_put2 f (put f j w) i v v k (λ x y. x ≡ y) (λ e. refl) (λ n. sym (put_other f j w k other))
]

hold_swap : (t u : ℕ) (c d : Change) (hold : ℕ → Hold) (m : ℕ) → t ≢ u → IsUntaken c → ChangeFits t c hold
    → ChangeFits u d hold → hold_after u d (hold_after t c hold) m ≡ hold_after t c (hold_after u d hold) m
hold_swap t u Same d hold m o calm fc fd = refl
hold_swap t u (Taken i) d hold m o calm fc fd = absurd calm
hold_swap t u (Given i w) Same hold m o calm fc fd = refl
hold_swap t u (Given i w) (Taken j) hold m o calm fc fd =
    put_swap hold i j (enterable w) (HeldBy u) m
    (λ e. held_free t fd.0 (hold j) (ap hold (sym e) ∙ fc) fd.1)
hold_swap t u (Given i w) (Given j v) hold m o calm fc fd =
    put_swap hold i j (enterable w) (enterable v) m
    (λ e. held_apart t u (hold j) o (ap hold (sym e) ∙ fc) fd)

-- who waits
pub without_out : (qs : List ℕ) (w : ℕ → Option Member) (q : ℕ) → (Contains qs q → ⊥) → without_waiters qs w q ≡ w q
without_out [] w q out = refl
without_out (r ∷ qs) w q out =
    put_other (without_waiters qs w) r None q (λ e. out (0, omega arith, sym e))
    ∙ without_out qs w q (λ c. out (suc c.0, (let less : c.0 < length qs = c.1 in omega (arith, less)), c.2))

pub without_none : (qs : List ℕ) (w : ℕ → Option Member) (q : ℕ) → w q ≡ None → without_waiters qs w q ≡ None
without_none [] w q is = is
without_none (r ∷ qs) w q is =
    at_put (without_waiters qs w) r None q (λ x. x ≡ None) (λ e. refl) (λ o. without_none qs w q is)

without_put : (qs : List ℕ) (w : ℕ → Option Member) (t : ℕ) (v : Option Member) (q : ℕ) → (Contains qs t → ⊥)
    → without_waiters qs (put w t v) q ≡ put (without_waiters qs w) t v q
without_put [] w t v q out = refl
without_put (r ∷ qs) w t v q out =
    let inner : without_waiters qs (put w t v) ≡ put (without_waiters qs w) t v =
    λ i k. without_put qs w t v k
    (λ c. out (suc c.0, (let less : c.0 < length qs = c.1 in omega (arith, less)), c.2)) i in
    ap (λ f. put f r None q) inner
    ∙ put_swap (without_waiters qs w) t r v None q (λ e. out (0, omega arith, sym e))

none_twice : (f : ℕ → Option Member) (i j k : ℕ) → put (put f i None) j None k ≡ put (put f j None) i None k
none_twice f i j k = elim (cases_eq i j) [
  | inl e ↦ subst (λ n. put (put f i None) n None k ≡ put (put f n None) i None k) e refl
  | inr o ↦ put_swap f i j None None k o
]

pub without_one : (qs : List ℕ) (w : ℕ → Option Member) (r q : ℕ)
    → without_waiters qs (put w r None) q ≡ put (without_waiters qs w) r None q
without_one [] w r q = refl
without_one (x ∷ qs) w r q =
    let inner : without_waiters qs (put w r None) ≡ put (without_waiters qs w) r None =
    λ i k. without_one qs w r k i in
    ap (λ f. put f x None q) inner ∙ none_twice (without_waiters qs w) r x q

without_swap : (qs rs : List ℕ) (w : ℕ → Option Member) (q : ℕ)
    → without_waiters qs (without_waiters rs w) q ≡ without_waiters rs (without_waiters qs w) q
without_swap [] rs w q = refl
without_swap (x ∷ qs) rs w q =
    let inner : without_waiters qs (without_waiters rs w) ≡ without_waiters rs (without_waiters qs w) =
    λ i k. without_swap qs rs w k i in
    ap (λ f. put f x None q) inner ∙ sym (without_one rs (without_waiters qs w) x q)

none_some : (c : Member) (x : Option Member) → x ≡ None → x ≡ Some c → ⊥
none_some c x a b = let e : None ≡ Some c = sym a ∙ b in absurd (cc)

waits_swap : (t u : ℕ) (c d : WaitChange) (T : Table) (q : ℕ) → t ≢ u → WaitFits t c T → WaitFits u d T
    → waits_after u d (waits_after t c T.waits) q ≡ waits_after t c (waits_after u d T.waits) q
waits_swap t u Keeps d T q o fc fd = refl
waits_swap t u (Begins c) Keeps T q o fc fd = refl
waits_swap t u (Begins c) (Begins d) T q o fc fd = put_swap T.waits t u (Some c) (Some d) q o
waits_swap t u (Begins c) (Clears d rs) T q o fc fd =
    without_put rs T.waits t (Some c) q (λ is. none_some d (T.waits t) fc.1 (fd.1 t is))
waits_swap t u (Clears c qs) Keeps T q o fc fd = refl
waits_swap t u (Clears c qs) (Begins d) T q o fc fd =
    sym (without_put qs T.waits u (Some d) q (λ is. none_some c (T.waits u) fd.1 (fc.1 u is)))
waits_swap t u (Clears c qs) (Clears d rs) T q o fc fd = without_swap rs qs T.waits q

some_once : (c d : Member) (x : Option Member) → x ≡ Some c → x ≡ Some d → c ≡ d
some_once c d x a b = let e : Some c ≡ Some d = sym a ∙ b in cc

apart_conditions : (t u : ℕ) (c d : Member) (T : Table) → t ≢ u → T.hold c.monitor ≡ HeldBy t
    → T.hold d.monitor ≡ HeldBy u → c ≡ d → ⊥
apart_conditions t u c d T o x y e =
    held_apart t u (T.hold d.monitor) o (subst (λ (k : Member). T.hold k.monitor ≡ HeldBy t) e x) y

-- who waits on a condition of a monitor that t holds does so still after an action of u
pub waits_kept : (t u : ℕ) (c : Member) (d : WaitChange) (T : Table) (q : ℕ) → t ≢ u → T.hold c.monitor ≡ HeldBy t
    → WaitFits u d T → T.waits q ≡ Some c → waits_after u d T.waits q ≡ Some c
waits_kept t u c Keeps T q o held fits is = is
waits_kept t u c (Begins d) T q o held fits is =
    put_other T.waits u (Some d) q (λ e. none_some c (T.waits u) fits.1 (ap T.waits (sym e) ∙ is)) ∙ is
waits_kept t u c (Clears d rs) T q o held fits is =
    without_out rs T.waits q (λ in_rs. apart_conditions t u c d T o held fits.0
    (some_once c d (T.waits q) is (fits.1 q in_rs))) ∙ is

pub waits_back : (t u : ℕ) (c : Member) (d : WaitChange) (T : Table) (q : ℕ) → t ≢ u → T.hold c.monitor ≡ HeldBy t
    → WaitFits u d T → waits_after u d T.waits q ≡ Some c → T.waits q ≡ Some c
waits_back t u c Keeps T q o held fits is = is
waits_back t u c (Begins d) T q o held fits is = elim (cases_eq q u) [
  | inl e ↦ absurd (apart_conditions t u c d T o held fits.0
      (some_once c d (put T.waits u (Some d) u) (ap (put T.waits u (Some d)) (sym e) ∙ is)
      (put_same T.waits u (Some d))))
  | inr other ↦ sym (put_other T.waits u (Some d) q other) ∙ is
]
waits_back t u c (Clears d rs) T q o held fits is = still_waits rs T.waits q c is

none_kept : (t u : ℕ) (d : WaitChange) (w : ℕ → Option Member) → t ≢ u → w t ≡ None → waits_after u d w t ≡ None
none_kept t u Keeps w o is = is
none_kept t u (Begins d) w o is = put_other w u (Some d) t o ∙ is
none_kept t u (Clears d rs) w o is = without_none rs w t is

-- who is over
pub over_kept : (u child : ℕ) (d : Option End) (over : ℕ → Option End) (end : End) → EndFits u d over
    → over child ≡ Some end → over_after u d over child ≡ Some end
over_kept u child None over end fits is = is
over_kept u child (Some f) over end fits is = put_other over u (Some f) child (λ e. differ e) ∙ is
  where
    differ : child ≡ u → ⊥
    differ e = let x : None ≡ Some end = sym fits ∙ ap over (sym e) ∙ is in absurd (cc)

over_swap : (t u : ℕ) (c d : Option End) (over : ℕ → Option End) (q : ℕ) → t ≢ u
    → over_after u d (over_after t c over) q ≡ over_after t c (over_after u d over) q
over_swap t u None d over q o = refl
over_swap t u (Some c) None over q o = refl
over_swap t u (Some c) (Some d) over q o = put_swap over t u (Some c) (Some d) q o

calm_claimed : (l : Label) (c : ℕ → Bool) → IsCalm l → claimed_after l c ≡ c
calm_claimed (Claims child) c calm = absurd calm
calm_claimed (Enters m w) c calm = refl
calm_claimed (Resumes m w) c calm = refl
calm_claimed (Exits m) c calm = refl
calm_claimed (Waits d) c calm = refl
calm_claimed (Abandons m) c calm = refl
calm_claimed (Alone kind) c calm = refl
calm_claimed (Stores m) c calm = refl
calm_claimed (Forks child) c calm = refl
calm_claimed FindsFull c calm = refl
calm_claimed (FindsClaimed child) c calm = refl
calm_claimed (Joins child end) c calm = refl
calm_claimed (Notifies d resumed) c calm = refl
calm_claimed (Broadcasts d resumed) c calm = refl
calm_claimed (Ends end) c calm = refl

calm_made : (l : Label) (n : ℕ) → IsCalm l → made_after l n ≡ n
calm_made (Forks child) n calm = absurd calm
calm_made (Claims child) n calm = refl
calm_made (Enters m w) n calm = refl
calm_made (Resumes m w) n calm = refl
calm_made (Exits m) n calm = refl
calm_made (Waits d) n calm = refl
calm_made (Abandons m) n calm = refl
calm_made (Alone kind) n calm = refl
calm_made (Stores m) n calm = refl
calm_made FindsFull n calm = refl
calm_made (FindsClaimed child) n calm = refl
calm_made (Joins child end) n calm = refl
calm_made (Notifies d resumed) n calm = refl
calm_made (Broadcasts d resumed) n calm = refl
calm_made (Ends end) n calm = refl

module _ (t u : ℕ) (l k : Label) (T : Table) (o : t ≢ u) (calm : IsCalm l) (g : Guard t l T) (f : Fit t l T)
    (h : Guard u k T) (e : Fit u k T) where
  -- both orders lead to one table
  pub table_swap : table_after u k (table_after t l T) ≡ table_after t l (table_after u k T)
  table_swap = λ i. record {
    most = T.most;
    hold = λ m. hold_swap t u (change_of l) (change_of k) T.hold m o (calm_untaken l calm) (change_fits t l T g f)
        (change_fits u k T h e) i;
    waits = λ q. waits_swap t u (wait_change l) (wait_change k) T q o (wait_fits t l T g f) (wait_fits u k T h e) i;
    claimed = (ap (claimed_after k) (calm_claimed l T.claimed calm)
        ∙ sym (calm_claimed l (claimed_after k T.claimed) calm)) i;
    made = (ap (made_after k) (calm_made l T.made calm) ∙ sym (calm_made l (made_after k T.made) calm)) i;
    over = λ q. over_swap t u (end_of l) (end_of k) T.over q o i;
  }

o_sym : (t u : ℕ) → t ≢ u → u ≢ t
o_sym t u o e = o (sym e)

-- who notifies still may, after an action of another
notified_kept : (t u : ℕ) (c : Member) (qs : List ℕ) (k : Label) (T : Table) → t ≢ u → T.hold c.monitor ≡ HeldBy t
    → Guard u k T → Fit u k T → IsNotified T c qs → IsNotified (table_after u k T) c qs
notified_kept t u c qs k T o held h e is = record {
  rising = is.rising;
  wait = λ q i. waits_kept t u c (wait_change k) T q o held (wait_fits u k T h e) (is.wait q i);
  some = λ q w. is.some q (waits_back t u c (wait_change k) T q o held (wait_fits u k T h e) w);
}

pub notified_back : (t u : ℕ) (c : Member) (qs : List ℕ) (k : Label) (T : Table) → t ≢ u → T.hold c.monitor ≡ HeldBy t
    → Guard u k T → Fit u k T → IsNotified (table_after u k T) c qs → IsNotified T c qs
notified_back t u c qs k T o held h e is = record {
  rising = is.rising;
  wait = λ q i. waits_back t u c (wait_change k) T q o held (wait_fits u k T h e) (is.wait q i);
  some = λ q w. is.some q (waits_kept t u c (wait_change k) T q o held (wait_fits u k T h e) w);
}

broadcast_kept : (t u : ℕ) (c : Member) (qs : List ℕ) (k : Label) (T : Table) → t ≢ u → T.hold c.monitor ≡ HeldBy t
    → Guard u k T → Fit u k T → IsBroadcast T c qs → IsBroadcast (table_after u k T) c qs
broadcast_kept t u c qs k T o held h e is = record {
  rising = is.rising;
  wait = λ q i. waits_kept t u c (wait_change k) T q o held (wait_fits u k T h e) (is.wait q i);
  all = λ q w. is.all q (waits_back t u c (wait_change k) T q o held (wait_fits u k T h e) w);
}

pub broadcast_back : (t u : ℕ) (c : Member) (qs : List ℕ) (k : Label) (T : Table) → t ≢ u → T.hold c.monitor ≡ HeldBy t
    → Guard u k T → Fit u k T → IsBroadcast (table_after u k T) c qs → IsBroadcast T c qs
broadcast_back t u c qs k T o held h e is = record {
  rising = is.rising;
  wait = λ q i. waits_back t u c (wait_change k) T q o held (wait_fits u k T h e) (is.wait q i);
  all = λ q w. is.all q (waits_kept t u c (wait_change k) T q o held (wait_fits u k T h e) w);
}

-- a calm action stays possible behind an action of another
pub calm_stays : (t u : ℕ) (l k : Label) (T : Table) → t ≢ u → IsCalm l → Guard t l T → Fit t l T → Guard u k T
    → Fit u k T → Guard t l (table_after u k T)
calm_stays t u (Joins child end) k T o calm g f h e =
    over_kept u child (end_of k) T.over end (end_fits u k T e) g
calm_stays t u (Notifies c qs) k T o calm g f h e = notified_kept t u c qs k T o f h e g
calm_stays t u (Broadcasts c qs) k T o calm g f h e = broadcast_kept t u c qs k T o f h e g
calm_stays t u (Forks child) k T o calm g f h e = absurd calm
calm_stays t u FindsFull k T o calm g f h e = absurd calm
calm_stays t u (Claims child) k T o calm g f h e = absurd calm
calm_stays t u (FindsClaimed child) k T o calm g f h e = absurd calm
calm_stays t u (Enters m w) k T o calm g f h e = absurd calm
calm_stays t u (Resumes m w) k T o calm g f h e = absurd calm
calm_stays t u (Exits m) k T o calm g f h e = tt
calm_stays t u (Waits d) k T o calm g f h e = tt
calm_stays t u (Abandons m) k T o calm g f h e = tt
calm_stays t u (Alone kind) k T o calm g f h e = tt
calm_stays t u (Stores m) k T o calm g f h e = tt
calm_stays t u (Ends end) k T o calm g f h e = tt

-- an action stays possible behind a calm action of another
pub stays_calm : (t u : ℕ) (l k : Label) (T : Table) → t ≢ u → IsCalm l → Guard t l T → Fit t l T → Guard u k T
    → Fit u k T → Guard u k (table_after t l T)
stays_calm t u l (Joins child end) T o calm g f h e =
    over_kept t child (end_of l) T.over end (end_fits t l T f) h
stays_calm t u l (Notifies c qs) T o calm g f h e = notified_kept u t c qs l T (o_sym t u o) e g f h
stays_calm t u l (Broadcasts c qs) T o calm g f h e = broadcast_kept u t c qs l T (o_sym t u o) e g f h
stays_calm t u l (Forks child) T o calm g f h e =
    let made : made_after l T.made ≡ T.made = calm_made l T.made calm in
    (subst (λ n. n < T.most) (sym made) h.0, subst (λ n. child ≡ n + 1) (sym made) h.1)
stays_calm t u l FindsFull T o calm g f h e = subst (λ n. T.most ≤ n) (sym (calm_made l T.made calm)) h
stays_calm t u l (Claims child) T o calm g f h e = ap (λ c. c child) (calm_claimed l T.claimed calm) ∙ h
stays_calm t u l (FindsClaimed child) T o calm g f h e = ap (λ c. c child) (calm_claimed l T.claimed calm) ∙ h
stays_calm t u l (Enters m w) T o calm g f h e =
    free_kept t m w (change_of l) T.hold (calm_untaken l calm) (change_fits t l T g f) h
stays_calm t u l (Resumes m w) T o calm g f h e = (
  none_kept u t (wait_change l) T.waits (o_sym t u o) h.0,
  free_kept t m w (change_of l) T.hold (calm_untaken l calm) (change_fits t l T g f) h.1,
)
stays_calm t u l (Exits m) T o calm g f h e = tt
stays_calm t u l (Waits d) T o calm g f h e = tt
stays_calm t u l (Abandons m) T o calm g f h e = tt
stays_calm t u l (Alone kind) T o calm g f h e = tt
stays_calm t u l (Stores m) T o calm g f h e = tt
stays_calm t u l (Ends end) T o calm g f h e = tt
