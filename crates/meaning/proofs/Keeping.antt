-- Each step keeps the processes to the rules of monitors, and the table to what they hold.
use Rattle.std.proofs.Common.{◌≡◌, ◌⊎◌, ℕ, Bool, true, false, List, [], Option, Some, None, sym, ap, ◌∙◌, inl}
use Rattle.std.proofs.Common.{inr, subst}
use Rattle.std.specs.Prelude.{⊤}
use Rattle.std.proofs.lemmas.Bool.{cases_eq, eq-eqb, ne_eqb}
use Rattle.words.specs.Updates.{put}
use Rattle.words.proofs.Updates.{put_at, put_other}
use Rattle.program.specs.declared.kinds.Member.{Member}
use Rattle.program.specs.Trees.{Program}
use Rattle.meaning.specs.Labels.{Label, Alone, Stores, Forks, FindsFull, Claims, FindsClaimed, Joins, Enters, Resumes}
use Rattle.meaning.specs.Labels.{Exits, Waits, Notifies, Broadcasts, Abandons, Ends}
use Rattle.meaning.specs.Table.{Hold, HeldBy, Table, enterable, Allows}
use Rattle.meaning.specs.Processes.{Process, holds}
use Rattle.meaning.proofs.Waits.{still_waits}
use Rattle.meaning.proofs.Members.{IsIn}
use Rattle.meaning.proofs.Discipline.{ProcessFits, Change, Same, Taken, Given, change_of, hold_after, Moves, Opens}
use Rattle.meaning.proofs.Discipline.{WaitsAt}

abbrev pub OptionFits : Program → Option Process → Type 0
OptionFits p None = ⊤
OptionFits p (Some b) = ProcessFits p b

abbrev pub held_by : Option Process → List ℕ
held_by None = []
held_by (Some b) = holds b

abbrev pub OptionWaits : Member → Option Process → Type 0
OptionWaits c None = ⊥
OptionWaits c (Some b) = WaitsAt c b

-- a process keeps to the rules, the table has it as the holder of what it holds, and it waits where the table says so
pub record Stands (p : Program) (t : Table) (q : ℕ) (b : Option Process) : Type 0 where
  pub fits : OptionFits p b
  pub held : (m : ℕ) → IsIn (held_by b) m → t.hold m ≡ HeldBy q
  pub holder : (m : ℕ) → t.hold m ≡ HeldBy q → IsIn (held_by b) m
  pub waits : (c : Member) → t.waits q ≡ Some c → OptionWaits c b

pub enterable_held : (w : Bool) (q : ℕ) → enterable w ≡ HeldBy q → ⊥
enterable_held true q e = absurd (cc)
enterable_held false q e = absurd (cc)

-- what an action of a process changes of the table
abbrev pub Changes : ℕ → Label → Table → Table → Type 0
Changes q l t t' = Opens (change_of l) t.hold × (t'.hold ≡ hold_after q (change_of l) t.hold)

pub changes : (q : ℕ) (l : Label) (t t' : Table) → Allows q l t t' → Changes q l t t'
changes q (Alone kind) t t' a = (tt, ap (λ (x : Table). x.hold) a)
changes q (Stores m) t t' a = (tt, ap (λ (x : Table). x.hold) a)
changes q (Forks child) t t' a = (tt, ap (λ (x : Table). x.hold) a.2)
changes q FindsFull t t' a = (tt, ap (λ (x : Table). x.hold) a.1)
changes q (Claims child) t t' a = (tt, ap (λ (x : Table). x.hold) a.1)
changes q (FindsClaimed child) t t' a = (tt, ap (λ (x : Table). x.hold) a.1)
changes q (Joins child end) t t' a = (tt, ap (λ (x : Table). x.hold) a.1)
changes q (Enters m w) t t' a = ((w, a.0), ap (λ (x : Table). x.hold) a.1)
changes q (Resumes m w) t t' a = ((w, a.1), ap (λ (x : Table). x.hold) a.2)
changes q (Exits m) t t' a = (tt, ap (λ (x : Table). x.hold) a)
changes q (Waits c) t t' a = (tt, ap (λ (x : Table). x.hold) a)
changes q (Notifies c resumed) t t' a = (tt, ap (λ (x : Table). x.hold) a.1)
changes q (Broadcasts c resumed) t t' a = (tt, ap (λ (x : Table). x.hold) a.1)
changes q (Abandons m) t t' a = (tt, ap (λ (x : Table). x.hold) a)
changes q (Ends end) t t' a = (tt, ap (λ (x : Table). x.hold) a)

-- who waits after an action waited before it, or it was the one that began to wait
abbrev pub Waited : ℕ → Label → Table → ℕ → Member → Type 0
Waited p l t q c = (t.waits q ≡ Some c) ⊎ ((q ≡ p) × (l ≡ Waits c))

same_waits : (p : ℕ) (l : Label) (t t' : Table) (q : ℕ) (c : Member) → t'.waits ≡ t.waits → t'.waits q ≡ Some c
    → Waited p l t q c
same_waits p l t t' q c e w = inl (ap (λ (f : ℕ → Option Member). f q) (sym e) ∙ w)

pub waited : (p : ℕ) (l : Label) (t t' : Table) (q : ℕ) (c : Member) → Allows p l t t' → t'.waits q ≡ Some c
    → Waited p l t q c
waited p (Alone kind) t t' q c a w = same_waits p _ t t' q c (ap (λ (x : Table). x.waits) a) w
waited p (Stores m) t t' q c a w = same_waits p _ t t' q c (ap (λ (x : Table). x.waits) a) w
waited p (Forks child) t t' q c a w = same_waits p _ t t' q c (ap (λ (x : Table). x.waits) a.2) w
waited p FindsFull t t' q c a w = same_waits p _ t t' q c (ap (λ (x : Table). x.waits) a.1) w
waited p (Claims child) t t' q c a w = same_waits p _ t t' q c (ap (λ (x : Table). x.waits) a.1) w
waited p (FindsClaimed child) t t' q c a w = same_waits p _ t t' q c (ap (λ (x : Table). x.waits) a.1) w
waited p (Joins child end) t t' q c a w = same_waits p _ t t' q c (ap (λ (x : Table). x.waits) a.1) w
waited p (Enters m b) t t' q c a w = same_waits p _ t t' q c (ap (λ (x : Table). x.waits) a.1) w
waited p (Resumes m b) t t' q c a w = same_waits p _ t t' q c (ap (λ (x : Table). x.waits) a.2) w
waited p (Exits m) t t' q c a w = same_waits p _ t t' q c (ap (λ (x : Table). x.waits) a) w
waited p (Abandons m) t t' q c a w = same_waits p _ t t' q c (ap (λ (x : Table). x.waits) a) w
waited p (Ends end) t t' q c a w = same_waits p _ t t' q c (ap (λ (x : Table). x.waits) a) w
waited p (Notifies d resumed) t t' q c a w =
    inl (still_waits resumed t.waits q c (ap (λ (x : Table). x.waits q) (sym a.1) ∙ w))
waited p (Broadcasts d resumed) t t' q c a w =
    inl (still_waits resumed t.waits q c (ap (λ (x : Table). x.waits q) (sym a.1) ∙ w))
waited p (Waits d) t t' q c a w =
    let now : put t.waits p (Some d) q ≡ Some c = ap (λ (x : Table). x.waits q) (sym a) ∙ w in
    elim (cases_eq q p) [
      | inl e ↦ inr (e, ap Waits (begun e now))
      | inr ne ↦ inl (other ne now)
    ]
  where
    begun : q ≡ p → put t.waits p (Some d) q ≡ Some c → d ≡ c
    begun e now = let s : Some d ≡ Some c = rw (eq-eqb q p e) at now in cc

    other : (q ≡ p → ⊥) → put t.waits p (Some d) q ≡ Some c → t.waits q ≡ Some c
    other ne now = rw (ne_eqb q p ne) at now

-- of the acting process
module _ (q : ℕ) (hold : ℕ → Hold) (hs ks : List ℕ) (held : (m : ℕ) → IsIn hs m → hold m ≡ HeldBy q) where
  pub new_held : (c : Change) → Moves c hs ks → (m : ℕ) → IsIn ks m → hold_after q c hold m ≡ HeldBy q
  new_held Same moves m is = held m (subst (λ (ns : List ℕ). IsIn ns m) moves is)
  new_held (Taken n) moves m is = elim (cases_eq m n) [
    | inl e ↦ put_at hold n (HeldBy q) m e
    | inr ne ↦ put_other hold n (HeldBy q) m ne ∙ held m (was ne ((moves m).0 is))
  ]
    where
      was : (m ≡ n → ⊥) → (m ≡ n) ⊎ IsIn hs m → IsIn hs m
      was ne (inl e) = absurd (ne e)
      was ne (inr i) = i
  new_held (Given n w) moves m is =
      let kept : (m ≡ n → ⊥) × IsIn hs m = (moves.1 m).0 is in
      put_other hold n (enterable w) m kept.0 ∙ held m kept.1

  pub new_holder : (c : Change) → Moves c hs ks → ((m : ℕ) → hold m ≡ HeldBy q → IsIn hs m) → (m : ℕ)
      → hold_after q c hold m ≡ HeldBy q → IsIn ks m
  new_holder Same moves holder m is = subst (λ (ns : List ℕ). IsIn ns m) (sym moves) (holder m is)
  new_holder (Taken n) moves holder m is = elim (cases_eq m n) [
    | inl e ↦ (moves m).1 (inl e)
    | inr ne ↦ (moves m).1 (inr (holder m (sym (put_other hold n (HeldBy q) m ne) ∙ is)))
  ]
  new_holder (Given n w) moves holder m is = elim (cases_eq m n) [
    | inl e ↦ absurd (enterable_held w q (sym (put_at hold n (enterable w) m e) ∙ is))
    | inr ne ↦ (moves.1 m).1 (ne, holder m (sym (put_other hold n (enterable w) m ne) ∙ is))
  ]

  -- of another process
  pub others_hold : (c : Change) → Opens c hold → Moves c hs ks → (r : ℕ) → (r ≡ q → ⊥) → (m : ℕ) → hold m ≡ HeldBy r
      → hold_after q c hold m ≡ HeldBy r
  others_hold Same opens moves r ne m is = is
  others_hold (Taken n) opens moves r ne m is = elim (cases_eq m n) [
    | inl e ↦ absurd (enterable_held opens.0 r (sym opens.1 ∙ ap hold (sym e) ∙ is))
    | inr apart ↦ put_other hold n (HeldBy q) m apart ∙ is
  ]
  others_hold (Given n w) opens moves r ne m is = elim (cases_eq m n) [
    | inl e ↦ absurd (let two : HeldBy q ≡ HeldBy r = sym (held n moves.0) ∙ ap hold (sym e) ∙ is in
        let one : q ≡ r = cc in ne (sym one))
    | inr apart ↦ put_other hold n (enterable w) m apart ∙ is
  ]

  pub others_held : (c : Change) → (r : ℕ) → (r ≡ q → ⊥) → (m : ℕ) → hold_after q c hold m ≡ HeldBy r → hold m
      ≡ HeldBy r
  others_held Same r ne m is = is
  others_held (Taken n) r ne m is = elim (cases_eq m n) [
    | inl e ↦ absurd (let two : HeldBy q ≡ HeldBy r = sym (put_at hold n (HeldBy q) m e) ∙ is in
        let one : q ≡ r = cc in ne (sym one))
    | inr apart ↦ sym (put_other hold n (HeldBy q) m apart) ∙ is
  ]
  others_held (Given n w) r ne m is = elim (cases_eq m n) [
    | inl e ↦ absurd (enterable_held w r (sym (put_at hold n (enterable w) m e) ∙ is))
    | inr apart ↦ sym (put_other hold n (enterable w) m apart) ∙ is
  ]
