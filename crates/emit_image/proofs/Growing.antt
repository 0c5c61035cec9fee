-- Texts that grow.
use Rattle.std.proofs.Common.{◌≡◌, ◌∙◌, ◌≤◌, ℕ, List, ◌++◌, codes, drop, length, sym, ap}
use Rattle.std.specs.Fmt.{decimal}
use Rattle.std.proofs.lemmas.List.{append_assoc, drop_all}
use Rattle.emit_image.specs.Texts.{monitors_text}

-- behind the last monitor stands the address behind all
pub monitors_end : (i address first : ℕ) (ms t0 t1 t2 : List ℕ) → length ms ≤ i
    → t1 ++ monitors_text address (drop i ms) ≡ t0 ++ monitors_text first ms
    → t2 ≡ t1 ++ (codes "\n#define MESA_PAST " ++ decimal address) → t2 ≡ t0 ++ monitors_text first ms
monitors_end i address first ms t0 t1 t2 past written more =
    more ∙ ap (λ (rest : List ℕ). t1 ++ monitors_text address rest) (sym (drop_all i ms past)) ∙ written

-- five parts are written one after the other
pub five_parts : (t0 t1 t2 t3 t4 t5 a b c d e : List ℕ) → t1 ≡ t0 ++ a → t2 ≡ t1 ++ b → t3 ≡ t2 ++ c → t4 ≡ t3 ++ d
    → t5 ≡ t4 ++ e → t5 ≡ t0 ++ ((((a ++ b) ++ c) ++ d) ++ e)
five_parts t0 t1 t2 t3 t4 t5 a b c d e p q r s t =
    let two : t2 ≡ t0 ++ (a ++ b) = q ∙ ap (λ (z : List ℕ). z ++ b) p ∙ append_assoc t0 a b in
    let three : t3 ≡ t0 ++ ((a ++ b) ++ c) = r ∙ ap (λ (z : List ℕ). z ++ c) two ∙ append_assoc t0 (a ++ b) c in
    let four : t4 ≡ t0 ++ (((a ++ b) ++ c) ++ d) =
    s ∙ ap (λ (z : List ℕ). z ++ d) three ∙ append_assoc t0 ((a ++ b) ++ c) d in
    t ∙ ap (λ (z : List ℕ). z ++ e) four ∙ append_assoc t0 (((a ++ b) ++ c) ++ d) e
