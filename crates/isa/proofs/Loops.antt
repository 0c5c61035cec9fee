-- Reading one field after the other, as a loop does.
use Rattle.std.proofs.Common.{◌≡◌, ◌≢◌, ℕ, suc, ◌-◌, ◌+◌, ◌≤◌, ◌<◌, List, [], ◌∷◌, ◌++◌, length, get_or, drop, Result}
use Rattle.std.proofs.Common.{Ok, Err, refl, sym, ap, ◌∙◌, append_assoc, arith}
use Rattle.std.proofs.Math.ListN.{drop_of_length-le}
use Rattle.std.proofs.lemmas.Bool.{eq-eqb, ne_eqb}
use Rattle.std.proofs.lemmas.List.{append-nil}
use Rattle.isa.proofs.Parts.{opened}
use Rattle.isa.specs.declared.fault.DecodeFault.{DecodeFault}
use Rattle.isa.specs.declared.fault.DecodeFault.TheVariants.{Short}
use Rattle.isa.specs.declared.instr.Instr.{Instr}
use Rattle.isa.specs.Reading.{◌>>=◌, fixed_at, limited_at, numbers_at, instruction_at, instructions_at}

-- ---- fixed bytes

pub fixed_next : (wanted : List ℕ) (i : ℕ) (fault : DecodeFault) (bytes : List ℕ) (c : ℕ) (rest : List ℕ)
    (total : Result (List ℕ) DecodeFault) → i < length wanted → bytes ≡ c ∷ rest → c ≡ get_or wanted i 0
    → fixed_at (drop i wanted) fault bytes ≡ total → fixed_at (drop (i + 1) wanted) fault rest ≡ total
unfolding fixed_at
fixed_next wanted i fault bytes c rest total lt is same so_far =
    let opens : fixed_at (drop i wanted) fault bytes ≡ fixed_at (drop (i + 1) wanted) fault rest = rw
    (opened wanted i lt, is) (rw (eq-eqb c (get_or wanted i 0) same) refl) in
    sym opens ∙ so_far

pub fixed_other : (wanted : List ℕ) (i : ℕ) (fault : DecodeFault) (bytes : List ℕ) (c : ℕ) (rest : List ℕ)
    (total : Result (List ℕ) DecodeFault) → i < length wanted → bytes ≡ c ∷ rest → c ≢ get_or wanted i 0
    → fixed_at (drop i wanted) fault bytes ≡ total → total ≡ Err fault
unfolding fixed_at
fixed_other wanted i fault bytes c rest total lt is other so_far =
    let opens : fixed_at (drop i wanted) fault bytes ≡ Err fault = rw (opened wanted i lt, is)
    (rw (ne_eqb c (get_or wanted i 0) other) refl) in
    sym so_far ∙ opens

pub fixed_short : (wanted : List ℕ) (i : ℕ) (fault : DecodeFault) (bytes : List ℕ)
    (total : Result (List ℕ) DecodeFault) → i < length wanted → bytes ≡ [] → fixed_at (drop i wanted) fault bytes
    ≡ total → total ≡ Err Short
unfolding fixed_at
fixed_short wanted i fault bytes total lt none so_far =
    let opens : fixed_at (drop i wanted) fault bytes ≡ Err Short = rw (opened wanted i lt, none) refl in
    sym so_far ∙ opens

pub fixed_done : (wanted : List ℕ) (i : ℕ) (fault : DecodeFault) (bytes : List ℕ)
    (total : Result (List ℕ) DecodeFault) → length wanted ≤ i → fixed_at (drop i wanted) fault bytes ≡ total → total
    ≡ Ok bytes
unfolding fixed_at
fixed_done wanted i fault bytes total le so_far =
    let ends : fixed_at (drop i wanted) fault bytes ≡ Ok bytes = rw (drop_of_length-le wanted le) refl in
    sym so_far ∙ ends

-- ---- what was read before, and what is still read

abbrev pub with_front : {A : Type 0} → List A → Result (List A × List ℕ) DecodeFault → Result (List A × List ℕ)
    DecodeFault
with_front front read = read >>= λ x. Ok (front ++ x.0, x.1)

pub begins : {A : Type 0} (read : Result (List A × List ℕ) DecodeFault) → with_front [] read ≡ read
begins (Ok x) = refl
begins (Err e) = refl

regroup : {A : Type 0} (front : List A) (x : A) (read : Result (List A × List ℕ) DecodeFault) → with_front front
    (read >>= λ y. Ok (x ∷ y.0, y.1)) ≡ with_front (front ++ x ∷ []) read
regroup front x (Ok y) = ap (λ xs. Ok (xs, y.1)) (sym (append_assoc front (x ∷ []) y.0))
regroup front x (Err e) = refl

-- ---- numbers up to a sum

pub numbers_next : (front : List ℕ) (count i limit : ℕ) (bytes : List ℕ) (n : ℕ) (after : List ℕ)
    (total : Result (List ℕ × List ℕ) DecodeFault) → i < count → limited_at limit bytes ≡ Ok (n, after)
    → with_front front (numbers_at (count - i) limit bytes) ≡ total → with_front (front ++ n ∷ [])
    (numbers_at (count - (i + 1)) (limit - n) after) ≡ total
unfolding numbers_at
numbers_next front count i limit bytes n after total lt h so_far =
    let k : count - i ≡ suc (count - (i + 1)) = omega arith in
    let one : with_front front (numbers_at (count - i) limit bytes) ≡ with_front (front ++ n ∷ [])
    (numbers_at (count - (i + 1)) (limit - n) after) = rw (k, h)
    (regroup front n (numbers_at (count - (i + 1)) (limit - n) after)) in
    sym one ∙ so_far

pub numbers_end : (e : DecodeFault) (front : List ℕ) (count i limit : ℕ) (bytes : List ℕ)
    (total : Result (List ℕ × List ℕ) DecodeFault) → i < count → limited_at limit bytes ≡ Err e
    → with_front front (numbers_at (count - i) limit bytes) ≡ total → total ≡ Err e
unfolding numbers_at
numbers_end e front count i limit bytes total lt h so_far =
    let k : count - i ≡ suc (count - (i + 1)) = omega arith in
    let one : with_front front (numbers_at (count - i) limit bytes) ≡ Err e = rw (k, h) refl in
    sym so_far ∙ one

pub numbers_done : (front : List ℕ) (count i limit : ℕ) (bytes : List ℕ) (total : Result (List ℕ × List ℕ)
    DecodeFault) → count ≤ i → with_front front (numbers_at (count - i) limit bytes) ≡ total → total
    ≡ Ok (front, bytes)
unfolding numbers_at
numbers_done front count i limit bytes total le so_far =
    let k : count - i ≡ 0 = omega arith in
    let one : with_front front (numbers_at (count - i) limit bytes) ≡ Ok (front, bytes) = rw k
    (ap (λ (ns : List ℕ). Ok (ns, bytes)) (append-nil front)) in
    sym so_far ∙ one

-- ---- instructions

pub instructions_next : (front : List Instr) (count i : ℕ) (bytes : List ℕ) (n : Instr) (after : List ℕ)
    (total : Result (List Instr × List ℕ) DecodeFault) → i < count → instruction_at bytes ≡ Ok (n, after)
    → with_front front (instructions_at (count - i) bytes) ≡ total → with_front (front ++ n ∷ [])
    (instructions_at (count - (i + 1)) after) ≡ total
unfolding instructions_at
instructions_next front count i bytes n after total lt h so_far =
    let k : count - i ≡ suc (count - (i + 1)) = omega arith in
    let one : with_front front (instructions_at (count - i) bytes) ≡ with_front (front ++ n ∷ [])
    (instructions_at (count - (i + 1)) after) = rw (k, h) (regroup front n (instructions_at (count - (i + 1))
    after)) in
    sym one ∙ so_far

pub instructions_end : (e : DecodeFault) (front : List Instr) (count i : ℕ) (bytes : List ℕ)
    (total : Result (List Instr × List ℕ) DecodeFault) → i < count → instruction_at bytes ≡ Err e
    → with_front front (instructions_at (count - i) bytes) ≡ total → total ≡ Err e
unfolding instructions_at
instructions_end e front count i bytes total lt h so_far =
    let k : count - i ≡ suc (count - (i + 1)) = omega arith in
    let one : with_front front (instructions_at (count - i) bytes) ≡ Err e = rw (k, h) refl in
    sym so_far ∙ one

pub instructions_done : (front : List Instr) (count i : ℕ) (bytes : List ℕ) (total : Result (List Instr × List ℕ)
    DecodeFault) → count ≤ i → with_front front (instructions_at (count - i) bytes) ≡ total → total
    ≡ Ok (front, bytes)
unfolding instructions_at
instructions_done front count i bytes total le so_far =
    let k : count - i ≡ 0 = omega arith in
    let one : with_front front (instructions_at (count - i) bytes) ≡ Ok (front, bytes) = rw k
    (ap (λ (is : List Instr). Ok (is, bytes)) (append-nil front)) in
    sym so_far ∙ one
