-- What a thread ahead of the machine keeps.
use Rattle.std.proofs.Common.{◌≡◌, ◌≢◌, ◌<◌, ◌+◌, ◌∙◌, ℕ, List, [], ◌∷◌, ◌++◌, length, length-append, Option, Some, None, ap, refl, sym, subst, arith}
use Rattle.std.specs.Prelude.{IfSome}
use Rattle.std.proofs.lemmas.List.Sums.{sum_by-append}
use Rattle.robustexit.specs.declared.phase.ExitPhase.TheVariants.{Ended}
use Rattle.isa.specs.Programs.{Program}
use Rattle.locals.specs.declared.access.Access.{Access}
use Rattle.locals.specs.Accesses.{accessing}
use Rattle.locals.specs.Looks.{look}
use Rattle.locals.specs.Steps.{local_after}
use Rattle.locals.specs.Threads.{Thread, Exits}
use Rattle.locals.specs.Walks.{Walks}
use Rattle.machine.specs.declared.speculation.SpeculativeAccess.{SpeculativeAccess}
use Rattle.machine.specs.Speculation.{Speculates, SpeculatesAll}
use Rattle.runner.specs.Speculations.{HasCome, IsAccess, IsPriced, access_cost, most_accesses}
use Rattle.runner.proofs.Going.{after_sum}

-- it begins anew
pub begun : (p : Program) (t : ℕ) (x y : Thread) (made : List SpeculativeAccess) → made ≡ [] → y ≡ x
    → HasCome p t x made 0 y × IsPriced made 0 0
begun p t x y made none same = (
  record {
    last = x;
    all = subst (λ (m : List SpeculativeAccess). SpeculatesAll p t x m x) (sym none) refl;
    goes = ap (λ (z : Thread). Some z) (sym same);
  },
  record {
    cost_is = sym (ap access_cost none);
    turn = omega arith;
    few = omega (arith, ap length none);
    bound = omega arith;
  },
)

-- it takes local steps
pub ran : (p : Program) (t m n : ℕ) (o x y : Thread) (made : List SpeculativeAccess) → HasCome p t o made m x
    → local_after p t n x ≡ Some y → HasCome p t o made (m + n) y
ran p t m n o x y made h goes =
    let e : n + m ≡ m + n = omega arith in
    record {
      last = h.last;
      all = h.all;
      goes = ap (λ k. local_after p t k h.last) (sym e) ∙ (after_sum p t m n h.last x h.goes ∙ goes);
    }

all_more : (p : Program) (t : ℕ) (made : List SpeculativeAccess) (o last y : Thread) (a : SpeculativeAccess)
    → SpeculatesAll p t o made last → Speculates p t last a y → SpeculatesAll p t o (made ++ a ∷ []) y
all_more p t [] o last y a all one = (y, subst (λ (z : Thread). Speculates p t z a y) (sym all) one, refl)
all_more p t (b ∷ rest) o last y a all one = (all.0, all.1, all_more p t rest all.0 last y a all.2 one)

-- it makes an access
pub accessed : (p : Program) (t n : ℕ) (o x y : Thread) (made : List SpeculativeAccess) (a : SpeculativeAccess)
    → HasCome p t o made n x → a.local ≡ n → IsAccess (look p t x) a y → y ≢ Exits Ended
    → HasCome p t o (made ++ a ∷ []) 0 y
accessed p t n o x y made a h local is lives =
    let one : Speculates p t h.last a y = record {
      here = x;
      goes = ap (λ k. local_after p t k h.last) local ∙ h.goes;
      makes = is;
      lives = lives;
    } in
    record { last = y; all = all_more p t made o h.last y a h.all one; goes = refl }

pub priced : (made : List SpeculativeAccess) (a : SpeculativeAccess) (n cost : ℕ) → IsPriced made n cost → a.local ≡ n
    → length made < most_accesses → IsPriced (made ++ a ∷ []) 0 (cost + (n + 1))
priced made a n cost h local few =
    let long : length (made ++ a ∷ []) ≡ length made + 1 = length-append made (a ∷ []) in
    record {
      cost_is = omega (
        arith,
        h.cost_is,
        local,
        sum_by-append (λ (b : SpeculativeAccess). b.local + 1) made (a ∷ []),
      );
      turn = omega arith;
      few = omega (arith, long, few);
      bound = omega (arith, long, h.bound, h.turn);
    }

-- it walks: to an access, or to where none comes
pub walked : (p : Program) (t budget count : ℕ) (ws ws' : List ℕ) (old new : Thread) (made : Option Access) (told : Access)
    → Walks p t budget ws ws' old new count made → made ≡ Some told
    → (here : Thread) × (local_after p t count old ≡ Some here)
    × (accessing (look p t here) ws ≡ Some (record { told = told; words = ws'; thread = new }))
walked p t budget count ws ws' old new (Some x) told w is =
    let same : x ≡ told = cc in
    (w.here, w.goes, w.ends ∙ (λ i. Some (record { told = same i; words = ws'; thread = new })))
walked p t budget count ws ws' old new None told w is = absurd cc

pub stayed : (p : Program) (t budget count : ℕ) (ws ws' : List ℕ) (old new : Thread) (made : Option Access)
    → Walks p t budget ws ws' old new count made → made ≡ None → local_after p t count old ≡ Some new
stayed p t budget count ws ws' old new None w is = w.goes ∙ ap (λ (z : Thread). Some z) (sym w.ends.1)
stayed p t budget count ws ws' old new (Some x) w is = absurd cc

pub alive : {P : Type 0} → (made : Option Access) (told : Access) → made ≡ Some told → IfSome made (λ x. P) → P
alive (Some x) told is h = h
alive None told is h = absurd cc
