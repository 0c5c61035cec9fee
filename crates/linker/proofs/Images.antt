-- Which pieces have an image within the limits.
use Rattle.std.proofs.Common.{◌≡◌, ◌<◌, ◌≤◌, ◌+◌, ◌-◌, ℕ, suc, List, [], ◌∷◌, true, false, refl, sym, ap, ◌∙◌, subst}
use Rattle.std.proofs.Common.{length, arith}
use Rattle.std.specs.Prelude.{nat_le, ◌&&◌, slice_index, sum}
use Rattle.std.specs.List.{AllByRecursion}
use Rattle.std.proofs.lemmas.Bool.{and_parts, leb-true}
use Rattle.words.specs.declared.version.ImageVersion.{ImageVersion}
use Rattle.isa.specs.Instructions.{LeadsBelow}
use Rattle.isa.specs.Limits.{most_monitors, most_member_words, most_instructions}
use Rattle.isa.specs.Programs.{IsProgram}
use Rattle.isa.specs.declared.instr.Instr.{Instr}
use Rattle.lowering.specs.Marks.{instructions}
use Rattle.lowering.specs.Layout.{Layout}
use Rattle.codegen.specs.Generated.{Piece}
use Rattle.linker.specs.Linked.{all_fit, code_from, length_of, places_from, begins, image_of}
use Rattle.linker.proofs.Tests.{all_instructions, all_lead, fit_where, code_length}

places_length : (n : ℕ) (ps : List Piece) → length (places_from n ps) ≡ length ps
places_length n [] = refl
places_length n (x ∷ xs) = ap suc (places_length (n + length x.code) xs)

-- where the image begins
pub begins_at : (ps : List Piece) (starts : List ℕ) (s : ℕ) → starts ≡ places_from 0 ps
    → s ≡ slice_index starts (length starts - 1) → s ≡ begins ps (length ps - 1)
begins_at ps starts s e h =
    h ∙ ap (λ l. slice_index l (length l - 1)) e
    ∙ ap (λ n. slice_index (places_from 0 ps) (n - 1)) (places_length 0 ps)

-- its code
pub linked_by : (ps : List Piece) (starts : List ℕ) → starts ≡ places_from 0 ps
    → instructions (code_from (slice_index starts) 0 ps) ≡ instructions (code_from (begins ps) 0 ps)
linked_by ps starts e = ap (λ l. instructions (code_from (slice_index l) 0 ps)) e

module _ (l : Layout) (ps : List Piece) where
  pub not_long : most_instructions < length_of ps → IsProgram (image_of l ps) → ⊥
  not_long over h =
      let short = h.short in
      let n = code_length (begins ps) 0 ps in omega (arith, short, n, over)

  pub not_begun : (t s : ℕ) → t ≡ length_of ps → t ≤ s → s ≡ begins ps (length ps - 1) → IsProgram (image_of l ps) → ⊥
  not_begun t s e over is h =
      let within = h.starts in
      let n = code_length (begins ps) 0 ps in omega (arith, within, n, over, e, is)

  pub not_fit : (t : ℕ) (code : List Instr) → t ≡ length_of ps → code ≡ instructions (code_from (begins ps) 0 ps)
      → all_fit t code ≡ false → IsProgram (image_of l ps) → ⊥
  not_fit t code e is un h =
      let all = instructions (code_from (begins ps) 0 ps) in
      let n : length all ≡ t = code_length (begins ps) 0 ps ∙ sym e in
      let lead = subst (λ m. AllByRecursion (LeadsBelow m) all) n h.targets in
      let fit : all_fit t all ≡ true = fit_where t all h.instructions lead in
      no (sym un ∙ ap (all_fit t) is ∙ fit)
    where
      no : false ≡ true → ⊥
      no e = cc

-- what is within the limits
pub is_program : (v : ImageVersion) (ms : List ℕ) (s t : ℕ) (code : List Instr)
    → (nat_le (length ms) most_monitors && nat_le (sum ms) most_member_words) ≡ true → t ≤ most_instructions
    → t ≡ length code → s < t → all_fit t code ≡ true → IsProgram
    (record { version = v; monitors = ms; start = s; code = code })
is_program v ms s t code few short e within fit =
    let h = and_parts (nat_le (length ms) most_monitors) (nat_le (sum ms) most_member_words) few in record {
      few_monitors = leb-true (length ms) most_monitors h.0;
      few_members = leb-true (sum ms) most_member_words h.1;
      short = omega (arith, short, e);
      starts = omega (arith, within, e);
      instructions = all_instructions t code fit;
      targets = subst (λ m. AllByRecursion (LeadsBelow m) code) e (all_lead t code fit);
    }
