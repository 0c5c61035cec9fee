-- Accesses that come in together are entries of the log, one after the other.
use Rattle.std.proofs.Common.{◌≡◌, ◌≤◌, ◌+◌, ◌-◌, ◌∙◌, ℕ, List, [], ◌∷◌, ◌++◌, length, true, Some, Ok, ap, refl, sym, subst, arith}
use Rattle.std.proofs.lemmas.List.Sums.{sum_by-append}
use Rattle.isa.specs.Programs.{Program}
use Rattle.locals.specs.Threads.{Thread}
use Rattle.locals.specs.Steps.{local_after}
use Rattle.machine.specs.declared.event.Entry.{Entry}
use Rattle.machine.specs.declared.speculation.SpeculativeAccess.{SpeculativeAccess}
use Rattle.machine.specs.Accessing.{told_access}
use Rattle.machine.specs.ConcreteSteps.{can_move}
use Rattle.machine.specs.States.{thread_of}
use Rattle.machine.specs.Views.{concrete}
use Rattle.piece_machine.specs.PieceViews.{PieceView as MachineView, parts}
use Rattle.piece_machine.specs.Speculated.{CommitsFrom}
use Rattle.runner.specs.Entries.{EntersAccess, Takes, entry_end}
use Rattle.runner.specs.Legal.{IsLegal}
use Rattle.runner.specs.Logs.{Outside, cost}
use Rattle.runner.specs.Speculations.{TakesAll, access_cost, access_entries, access_entry}
use Rattle.runner.specs.Views.{LogState, PieceView}
use Rattle.runner.proofs.Growing.{cost_more, keeps_access}
use Rattle.runner.proofs.Handing.{step_end}

append_nil : (es : List Entry) → es ++ [] ≡ es
append_nil [] = refl
append_nil (e ∷ es) = ap (λ ds. e ∷ ds) (append_nil es)

append_more : (es : List Entry) (e : Entry) (ds : List Entry) → (es ++ e ∷ []) ++ ds ≡ es ++ e ∷ ds
append_more [] e ds = refl
append_more (d ∷ es) e ds = ap (λ cs. d ∷ cs) (append_more es e ds)

-- how many entries they are
pub entries_count : (t : ℕ) (made : List SpeculativeAccess) → length (access_entries t made) ≡ length made
entries_count t [] = refl
entries_count t (a ∷ rest) = omega (arith, entries_count t rest)

-- where they led, the log is legal, each came in as a piece, and the thread goes on
pub record CameIn (p : Program) (may : Outside) (limit t : ℕ) (v v' : MachineView) (y : Thread)
    (made : List SpeculativeAccess) (log : List Entry) (left limited killed : ℕ) : Type 0 where
  pub legal : IsLegal p may limit v'.view.program (parts v') (log ++ access_entries t made) (left - access_cost made)
      limited killed
  pub takes : TakesAll p limit (record { log = log; concrete = parts v }) t made
      (record { log = log ++ access_entries t made; concrete = parts v' })
  pub stands : thread_of (concrete v'.view) t ≡ Some y
  pub moves : can_move (concrete v'.view) t ≡ true

pub came_in : (p : Program) (may : Outside) (limit t : ℕ) (v v' : MachineView) (x y : Thread)
    (made : List SpeculativeAccess) (log : List Entry) (left limited killed : ℕ)
    → thread_of (concrete v.view) t ≡ Some x → can_move (concrete v.view) t ≡ true → CommitsFrom v t x made v' y
    → IsLegal p may limit v.view.program (parts v) log left limited killed → cost log + access_cost made ≤ limit
    → CameIn p may limit t v v' y made log left limited killed
came_in p may limit t v v' x y [] log left limited killed stands can c legal within =
    let same : v ≡ v' = sym c.0 in
    let none : log ≡ log ++ [] = sym (append_nil log) in
    let all : left ≡ left - 0 = omega arith in
    record {
      legal = subst (λ (w : MachineView). IsLegal p may limit w.view.program (parts w) (log ++ []) (left - 0) limited
          killed) same
          (subst (λ (es : List Entry). IsLegal p may limit v.view.program (parts v) es (left - 0) limited killed) none
          (subst (λ n. IsLegal p may limit v.view.program (parts v) log n limited killed) all legal));
      takes = λ i. record { log = append_nil log i; concrete = parts (c.0 i) };
      stands = subst (λ (w : MachineView). thread_of (concrete w.view) t ≡ Some y) same (stands ∙ ap (λ (z : Thread). Some z)
          (sym c.1));
      moves = subst (λ (w : MachineView). can_move (concrete w.view) t ≡ true) same can;
    }
came_in p may limit t v v' x y (a ∷ rest) log left limited killed stands can (here, mid, z, goes, done, same, others) legal
    within =
    let piece : PieceView = record { thread = t; origin = x; here = here; count = a.local } in
    let h : LogState = record { log = log; concrete = parts v } in
    let grown : List Entry = log ++ access_entry t a ∷ [] in
    let goes' : local_after p t a.local x ≡ Some here =
    ap (λ (q : Program). local_after q t a.local x) (sym legal.program) ∙ goes in
    let gives : entry_end v.view.program (parts v) t here ≡ Ok (parts mid, Some (told_access a.access)) =
    step_end v.view.program (parts v) t here (parts mid) (told_access a.access) (sym done.shared) done.gives in
    let enters : EntersAccess v.view.program (parts v) t here a.local log (parts mid) grown = record {
      event = told_access a.access;
      gives = gives;
      grows = refl;
    } in
    let sum : access_cost (a ∷ rest) ≡ a.local + 1 + access_cost rest =
    (let more = sum_by-append (λ (b : SpeculativeAccess). b.local + 1) (a ∷ []) rest in omega (arith, more)) in
    let room : cost log + (a.local + 1) ≤ limit = omega (arith, within, sum) in
    let legal' = keeps_access p may v.view.program v.view.program mid.view.program limit h (parts v) log grown (parts mid)
    piece t left limited killed refl refl refl same legal goes' (refl, stands) can room enters in
    let more : cost grown ≡ cost log + (a.local + 1) = cost_more log t a.local (Some (told_access a.access)) in
    let rest_in = came_in p may limit t mid v' z y rest grown (left - (a.local + 1)) limited killed done.stands done.moves
    others legal' (omega (arith, within, more, sum)) in
    let whole : grown ++ access_entries t rest ≡ log ++ access_entry t a ∷ access_entries t rest =
    append_more log (access_entry t a) (access_entries t rest) in
    let less : (left - (a.local + 1)) - access_cost rest ≡ left - access_cost (a ∷ rest) = omega (arith, sum) in
    let takes : Takes p limit h t piece (record { log = grown; concrete = parts mid }) = record {
      stands = (refl, stands);
      moves = can;
      event = Some (told_access a.access);
      gives = ap (λ (q : Program). entry_end q (parts v) t here) (sym legal.program) ∙ gives;
      log = refl;
      within = omega (arith, more, room);
    } in
    record {
      legal = subst (λ (es : List Entry). IsLegal p may limit v'.view.program (parts v') es
          (left - access_cost (a ∷ rest)) limited killed) whole
          (subst (λ n. IsLegal p may limit v'.view.program (parts v') (grown ++ access_entries t rest) n limited killed) less
          rest_in.legal);
      takes = (
        piece,
        record { log = grown; concrete = parts mid },
        refl,
        takes,
        subst (λ (es : List Entry). TakesAll p limit (record { log = grown; concrete = parts mid }) t rest
            (record { log = es; concrete = parts v' })) whole rest_in.takes,
      );
      stands = rest_in.stands;
      moves = rest_in.moves;
    }
