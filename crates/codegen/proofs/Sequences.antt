-- Code that is made part by part.
use Rattle.std.proofs.Common.{◌≡◌, ◌+◌, ℕ, List, [], ◌++◌, length, ap, ◌∙◌, arith, append_assoc, length-append}
use Rattle.lowering.specs.declared.mark.Marked.{Marked}
use Rattle.lowering.specs.Marks.{Code, sequence}

pub sequenced : (f g : Code) (o m n : List Marked) → m ≡ o ++ f (length o) → n ≡ m ++ g (length m)
    → n ≡ o ++ sequence f g (length o)
sequenced f g o m n e h =
    let l : length m ≡ length o + length (f (length o)) = ap length e ∙ length-append o (f (length o)) in
    h ∙ ap (λ k. m ++ g k) l ∙ ap (λ x. x ++ g (length o + length (f (length o)))) e ∙ append_assoc o (f (length o)) _

pub sequence-assoc : (f g k : Code) (place : ℕ) → sequence (sequence f g) k place ≡ sequence f (sequence g k) place
sequence-assoc f g k place =
    let a = f place in
    let b = g (place + length a) in
    append_assoc a b _ ∙ ap (λ n. a ++ (b ++ k n)) (let h = length-append a b in omega arith)

pub length-sequence : (f g : Code) (place : ℕ)
    → length (sequence f g place) ≡ length (f place) + length (g (place + length (f place)))
length-sequence f g place = length-append (f place) (g (place + length (f place)))

-- three parts, from nothing
pub whole : (f g k : Code) (o m n r : List Marked) → o ≡ [] → m ≡ o ++ f (length o) → n ≡ m ++ g (length m)
    → r ≡ n ++ k (length n) → r ≡ sequence f (sequence g k) 0
whole f g k o m n r e0 e1 e2 e3 =
    sequenced f (sequence g k) o m r e1 (sequenced g k m n r e2 e3)
    ∙ ap (λ x. x ++ sequence f (sequence g k) (length x)) e0
