-- The image of a checked program is within the limits of an image.
use Rattle.std.proofs.Common.{◌≡◌, ◌+◌, ◌-◌, ◌<◌, ◌≤◌, ◌++◌, ℕ, zero, suc, List, [], ◌∷◌, Option, Some, None, refl}
use Rattle.std.proofs.Common.{sym, ap, ◌∙◌, subst}
use Rattle.std.proofs.Common.{length, map, length-append, arith}
use Rattle.std.specs.Prelude.{slice_get, sum}
use Rattle.std.specs.List.{AllByRecursion}
use Rattle.std.proofs.lemmas.List.Sums.{sum_by-cons}
use Rattle.program.specs.declared.kinds.ValueType.{ValueType}
use Rattle.program.specs.declared.kinds.Role.{Role}
use Rattle.program.specs.declared.kinds.Role.TheVariants.{Entry, Internal, Recover, External, Main}
use Rattle.program.specs.Trees.{Program, Procedure, Monitor}
use Rattle.program.specs.WellFormed.{WellFormed, IsProper, words_of, all_words}
use Rattle.isa.specs.Instructions.{LeadsBelow}
use Rattle.isa.specs.Limits.{most_instructions}
use Rattle.isa.specs.Programs.{IsProgram}
use Rattle.lowering.specs.declared.mark.Marked.{Marked}
use Rattle.lowering.specs.Marks.{instructions, sequence, Code}
use Rattle.lowering.specs.Layout.{link_word}
use Rattle.lowering.specs.Locks.{enter_code}
use Rattle.lowering.specs.Processes.{return_code}
use Rattle.lowering.specs.Statements.{recovery_of, start_in, block_code, ending_code, leaving_code}
use Rattle.lowering.specs.Pieces.{parameters_code, entering_code, default_code, setting_of, piece_code, pieces_code}
use Rattle.lowering.specs.Pieces.{start_of, marked_code, code_of}
use Rattle.lowering.proofs.LengthLaws.{length-placed, pieces_stand}
use Rattle.program.specs.Scope.{recover_of}
use Rattle.lowering_limits.proofs.Fine.{AreFine, HasRoom, Ends, fine_append, placed_fine, all_instructions, all_lead}
use Rattle.lowering_limits.proofs.Templates.{enter_fits, recovery_fits}
use Rattle.lowering_limits.proofs.Bodies.{BeginBelow, recovery_below, ending_fine, block_fine}

parameters_fine : (total n : ℕ) → n ≤ 64 → AreFine total (parameters_code n)
parameters_fine total zero few = tt
parameters_fine total (suc n) few = ((omega (arith, few), tt), parameters_fine total n (omega (arith, few)))

default_fine : (total : ℕ) (t : Option ValueType) → AreFine total (default_code t)
default_fine total None = tt
default_fine total (Some t) = ((tt, tt), tt)

-- what is followed by some code has room
followed : (total : ℕ) (f g : Code) → ((a : ℕ) → 0 < length (g a)) → HasRoom total f → Ends total g
    → Ends total (sequence f g)
followed total f g some h k a room =
    let n = length-append (f a) (g (a + length (f a))) in
    let more = some (a + length (f a)) in
    fine_append total (f a) _ (h a (omega (arith, room, n, more))) (k (a + length (f a)) (omega (arith, room, n)))

behind : (f g : Code) → ((a : ℕ) → 0 < length (g a)) → (a : ℕ) → 0 < length (sequence f g a)
behind f g some a =
    let n = length-append (f a) (g (a + length (f a))) in
    let more = some (a + length (f a)) in omega (arith, n, more)

module _ (p : Program) (starts : ℕ → ℕ) where
  ends_some : (q : Procedure) (a : ℕ) → 0 < length (ending_code (setting_of p starts q) a)
  ends_some q a = let n = length-append (leaving_code p q.role a) (return_code q.role q.result ∷ []) in omega
      (arith, n)

  abbrev parameters : Procedure → Code
  parameters q = λ _. parameters_code (length q.parameters)

  abbrev entering : Procedure → Code
  entering q = entering_code (setting_of p starts q) q.role

  abbrev body : Procedure → Code
  body q = block_code (setting_of p starts q) q.body

  abbrev default : Procedure → Code
  default q = λ _. default_code q.result

  abbrev ending : Procedure → Code
  ending q = ending_code (setting_of p starts q)

  default_some : (q : Procedure) (a : ℕ) → 0 < length (sequence (default q) (ending q) a)
  default_some q = behind (default q) (ending q) (ends_some q)

  body_some : (q : Procedure) (a : ℕ) → 0 < length (sequence (body q) (sequence (default q) (ending q)) a)
  body_some q = behind (body q) (sequence (default q) (ending q)) (default_some q)

  entering_some : (q : Procedure) (a : ℕ)
      → 0 < length (sequence (entering q) (sequence (body q) (sequence (default q) (ending q))) a)
  entering_some q = behind (entering q) (sequence (body q) (sequence (default q) (ending q))) (body_some q)

  -- a piece has code
  pub piece_some : (q : Procedure) (a : ℕ) → 0 < length (piece_code p starts q a)
  piece_some q = behind (parameters q) (sequence (entering q) (sequence (body q) (sequence (default q) (ending q))))
      (entering_some q)

  module _ (total : ℕ) (begun : BeginBelow p starts total) (formed : WellFormed p) where
    entering_fine : (q : Procedure) (r : Role) → HasRoom total (entering_code (setting_of p starts q) r)
    entering_fine q (Entry m) a room =
        let e = link_word p m in
        let r = recovery_of (setting_of p starts q) m in
        let n = length-placed a (enter_code m e r) in
        placed_fine total 61 a (omega (arith, room, n)) (enter_code m e r)
        (enter_fits total m e r (recovery_fits total 61 (start_in starts (recover_of p m))
        (recovery_below p starts total begun formed m)))
    entering_fine q (Internal m) a room = tt
    entering_fine q (Recover m) a room = tt
    entering_fine q External a room = tt
    entering_fine q Main a room = tt

    piece_fine : (n : ℕ) (q : Procedure) → IsProper p n q → Ends total (piece_code p starts q)
    piece_fine n q proper =
        let few_parameters = proper.parameters in
        followed total (parameters q) _ (entering_some q)
        (λ a room. parameters_fine total (length q.parameters) (omega (arith, few_parameters)))
        (followed total (entering q) _ (body_some q) (entering_fine q q.role)
        (followed total (body q) _ (default_some q)
        (block_fine p starts total begun formed q proper.locals q.body proper.body)
        (followed total (default q) (ending q) (ends_some q) (λ a room. default_fine total q.result)
        (ending_fine p starts total begun formed q proper.locals))))

    pieces_fine : (qs : List Procedure)
        → ((n : ℕ) (q : Procedure) → slice_get qs n ≡ Some q → Ends total (piece_code p starts q))
        → Ends total (pieces_code p starts qs)
    pieces_fine [] h a room = tt
    pieces_fine (q ∷ qs) h a room =
        let f = piece_code p starts q a in
        let n = length-append f (pieces_code p starts qs (a + length f)) in
        fine_append total f _ (h 0 q refl a (omega (arith, room, n)))
        (pieces_fine qs (λ m. h (suc m)) (a + length f) (omega (arith, room, n)))

    pub all_fine : Ends total (pieces_code p starts p.procedures)
    all_fine = pieces_fine p.procedures (λ n q e. piece_fine n q (formed.procedures n q e))

-- each piece begins in the code
begins : (p : Program) → BeginBelow p (start_of p) (length (marked_code p))
begins p n q e =
    let h = pieces_stand p n q e in
    let part = piece_code p (start_of p) q (start_of p n) in
    let whole = ap length h.is in
    let front = length-append h.front (part ++ h.back) in
    let back = length-append part h.back in
    let at = h.at in
    let some = piece_some p (start_of p) q (start_of p n) in omega (arith, whole, front, back, at, some)

pub length_instructions : (is : List Marked) → length (instructions is) ≡ length is
length_instructions [] = refl
length_instructions (i ∷ is) = ap suc (length_instructions is)

pub length_monitors : (ms : List Monitor) → length (map (λ (m : Monitor). words_of m.members) ms) ≡ length ms
length_monitors [] = refl
length_monitors (m ∷ ms) = ap suc (length_monitors ms)

pub sum_words : (ms : List Monitor) → sum (map (λ (m : Monitor). words_of m.members) ms) ≡ all_words ms
sum_words [] = refl
sum_words (m ∷ ms) =
    sum_by-cons (λ n. n) (words_of m.members) (map (λ (m : Monitor). words_of m.members) ms)
    ∙ ap (λ n. words_of m.members + n) (sum_words ms)

pub within : (p : Program) → WellFormed p → length (code_of p).code ≤ most_instructions → IsProgram (code_of p)
within p formed short =
    let total = length (marked_code p) in
    let count = length_instructions (marked_code p) in
    let fine = all_fine p (start_of p) total (begins p) formed 0 (let e : 0 + total ≤ total = omega arith in e) in
    let begin = begins p (length p.procedures - 1) formed.main formed.is_last in
    let few_monitors = formed.monitors in
    let monitors = length_monitors p.monitors in
    let few_words = formed.words in
    let words = sum_words p.monitors in
    record {
      few_monitors = omega (arith, few_monitors, monitors);
      few_members = omega (arith, few_words, words);
      short = short;
      starts = omega (arith, begin, count);
      instructions = all_instructions total (marked_code p) fine;
      targets = subst (λ n. AllByRecursion (LeadsBelow n) (instructions (marked_code p))) (sym count)
          (all_lead total (marked_code p) fine);
    }
