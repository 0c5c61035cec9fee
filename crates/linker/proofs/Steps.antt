-- One piece is linked, and then the others.
use Rattle.std.proofs.Common.{◌≡◌, ◌<◌, ◌+◌, ◌++◌, ℕ, suc, List, ◌∷◌, Result, Ok, Err, true, false, sym, ap, ◌∙◌}
use Rattle.std.proofs.Common.{length, map, drop, drop-cons, get_or, append_assoc, inl, inr, arith}
use Rattle.std.specs.Prelude.{MatchResult, IsErr, IsErrAnd}
use Rattle.scanner.specs.declared.refusal.Refusal.{Refusal}
use Rattle.isa.specs.declared.instr.Instr.{Instr}
use Rattle.lowering.specs.declared.mark.Marked.{Marked}
use Rattle.lowering.specs.Marks.{instructions}
use Rattle.lowering.specs.Linking.{linked_code}
use Rattle.codegen.specs.declared.code_piece.CodePiece.{CodePiece}
use Rattle.codegen.specs.Generated.{piece_of}
use Rattle.linker.specs.Failures.{FailsWhere}
use Rattle.linker.specs.Linked.{all_fit, code_from, length_of}
use Rattle.linker.proofs.Fitting.{instructions-append, fit_front, fit_stop}

-- an error passed on is the same error, where its cause is a cause of the whole
pub failed : {T : Type 0} (r : Result T Refusal) (e : Refusal) (P : T → Type 0) (A B : Type 0)
    → IsErr r × IsErrAnd r (λ x. x ≡ e) → FailsWhere A e → (A → B) → MatchResult r P (λ x. FailsWhere B x)
failed (Ok t) e P A B h f g = absurd h.1
failed (Err x) e P A B h (inl memory) g = inl (h.1 ∙ memory)
failed (Err x) e P A B h (inr long) g = inr (h.1 ∙ long.0, g long.1)

module _ (f : ℕ → ℕ) (base i : ℕ) (ps : List CodePiece) (x : CodePiece) (code : List Marked) (lt : i < length ps)
    (is : x ≡ get_or ps i x) (same : code ≡ x.code.items) where
  abbrev first : List Instr
  first = instructions (linked_code f base code)

  abbrev left : List Instr
  left = instructions (code_from f base (map piece_of (drop i ps)))

  abbrev others : List Instr
  others = instructions (code_from f (base + length code) (map piece_of (drop (i + 1) ps)))

  cut : drop i ps ≡ x ∷ drop (i + 1) ps
  cut =
      let next : suc i ≡ i + 1 = omega arith in
      drop-cons ps i x lt ∙ ap (λ y. y ∷ drop (suc i) ps) (sym is) ∙ ap (λ n. x ∷ drop n ps) next

  parted : left ≡ first ++ others
  parted =
      ap (λ l. instructions (code_from f base (map piece_of l))) cut
      ∙ ap (λ c. instructions (linked_code f base c ++ code_from f (base + length c) (map piece_of (drop (i + 1) ps))))
      (sym same)
      ∙ instructions-append (linked_code f base code)
      (code_from f (base + length code) (map piece_of (drop (i + 1) ps)))

  pub made_step : (image next all : List Instr) → next ≡ image ++ first → image ++ left ≡ all → next ++ others ≡ all
  made_step image next all e h =
      ap (λ l. l ++ others) e ∙ append_assoc image first others ∙ ap (λ l. image ++ l) (sym parted) ∙ h

  pub fit_step : (t : ℕ) (all : List Instr) → all_fit t first ≡ true → all_fit t left ≡ all_fit t all
      → all_fit t others ≡ all_fit t all
  fit_step t all e h = sym (fit_front t first others e) ∙ sym (ap (all_fit t) parted) ∙ h

  pub fit_end : (t : ℕ) (all : List Instr) → all_fit t left ≡ all_fit t all → all_fit t first ≡ false
      → all_fit t all ≡ false
  fit_end t all h e = sym h ∙ ap (all_fit t) parted ∙ fit_stop t first others e

  pub sum_step : (n : ℕ) → base + length_of (map piece_of (drop i ps)) ≡ n
      → base + length code + length_of (map piece_of (drop (i + 1) ps)) ≡ n
  sum_step n h =
      let a = ap (λ l. length_of (map piece_of l)) cut in
      let b = ap length same in omega (arith, a, b, h)
