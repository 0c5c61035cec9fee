-- A jump is written once the place that it leads to is known.
use Rattle.std.proofs.Common.{◌≡◌, ◌<◌, ◌≤◌, Result, ℕ, ◌+◌, List, [], ◌∷◌, ◌++◌, length, ap, ◌∙◌, arith, append_assoc}
use Rattle.std.proofs.Common.{length-append}
use Rattle.std.specs.Prelude.{slice_set, MatchResult, Ok, Err}
use Rattle.scanner.specs.declared.refusal.Refusal.{Refusal}
use Rattle.codegen.specs.Failures.{Fails}
use Rattle.codegen.specs.Halves.{then_code}
use Rattle.codegen.proofs.Failing.{fails_more}
use Rattle.std.proofs.Math.Seq.{set-append_seam}
use Rattle.std.proofs.lemmas.List.{set-append_left}
use Rattle.isa.specs.declared.instr.Instr.TheVariants.{Jump, JumpIfZero}
use Rattle.lowering.specs.declared.mark.Marked.{Marked}
use Rattle.lowering.specs.declared.mark.Mark.TheVariants.{Test}
use Rattle.lowering.specs.Marks.{with_mark, plain, Code}
use Rattle.lowering.specs.Statements.{if_code, if_else_code, while_code}

set_at : (a b : List Marked) (x i : Marked) (n : ℕ) → n ≡ length a → slice_set (a ++ x ∷ b) n i ≡ a ++ i ∷ b
set_at a b x i n e = ap (λ m. slice_set (a ++ x ∷ b) m i) e ∙ set-append_seam a x b i

pub patch_if : (base tc : List Marked) (fa : Code) (c1 c2 c3 : List Marked) (x : Marked) (n1 n2 : ℕ) → c1 ≡ base ++ tc
    → n1 ≡ length c1 → c2 ≡ c1 ++ x ∷ [] → c3 ≡ c2 ++ fa (length c2) → n2 ≡ length c3
    → slice_set c3 n1 (with_mark Test (JumpIfZero n2)) ≡ base ++ if_code tc fa (length base)
patch_if base tc fa c1 c2 c3 x n1 n2 e1 m1 e2 e3 m2 =
    let s = length base + length tc + 1 in
    let ca = fa s in
    let i = with_mark Test (JumpIfZero n2) in
    let l1 : length c1 ≡ length base + length tc = ap length e1 ∙ length-append base tc in
    let l2 : length c2 ≡ s = omega (arith, ap length e2 ∙ length-append c1 (x ∷ [])) in
    let f3 : c3 ≡ c2 ++ ca = e3 ∙ ap (λ n. c2 ++ fa n) l2 in
    let z2 : n2 ≡ s + length ca = omega (arith, ap length f3 ∙ length-append c2 ca) in
    let all : c3 ≡ (c1 ++ x ∷ []) ++ ca = cc in
    let flat : (c1 ++ x ∷ []) ++ ca ≡ c1 ++ x ∷ ca = simp append_assoc in
    ap (λ l. slice_set l n1 i) (all ∙ flat)
    ∙ set_at c1 ca x i n1 m1
    ∙ ap (λ l. l ++ i ∷ ca) e1
    ∙ append_assoc base tc _
    ∙ ap (λ n. base ++ (tc ++ with_mark Test (JumpIfZero n) ∷ ca)) z2

pub patch_while : (base tc : List Marked) (fb : Code) (c1 c2 c3 c4 : List Marked) (x : Marked) (n0 n1 n2 : ℕ)
    → n0 ≡ length base → c1 ≡ base ++ tc → n1 ≡ length c1 → c2 ≡ c1 ++ x ∷ [] → c3 ≡ c2 ++ fb (length c2)
    → c4 ≡ c3 ++ plain (Jump n0) ∷ [] → n2 ≡ length c4
    → slice_set c4 n1 (with_mark Test (JumpIfZero n2)) ≡ base ++ while_code tc fb (length base)
patch_while base tc fb c1 c2 c3 c4 x n0 n1 n2 m0 e1 m1 e2 e3 e4 m2 =
    let s = length base + length tc + 1 in
    let cb = fb s in
    let z = s + length cb + 1 in
    let l1 : length c1 ≡ length base + length tc = ap length e1 ∙ length-append base tc in
    let l2 : length c2 ≡ s = omega (arith, ap length e2 ∙ length-append c1 (x ∷ [])) in
    let f3 : c3 ≡ c2 ++ cb = e3 ∙ ap (λ n. c2 ++ fb n) l2 in
    let j = plain (Jump n0) in
    let i = with_mark Test (JumpIfZero n2) in
    let z2 : n2 ≡ z = omega (arith, ap length e4 ∙ length-append c3 (j ∷ []), ap length f3 ∙ length-append c2 cb) in
    let all : c4 ≡ ((c1 ++ x ∷ []) ++ cb) ++ j ∷ [] = cc in
    let flat : ((c1 ++ x ∷ []) ++ cb) ++ j ∷ [] ≡ c1 ++ x ∷ (cb ++ j ∷ []) = simp append_assoc in
    ap (λ l. slice_set l n1 i) (all ∙ flat)
    ∙ set_at c1 (cb ++ j ∷ []) x i n1 m1
    ∙ ap (λ l. l ++ i ∷ (cb ++ j ∷ [])) e1
    ∙ append_assoc base tc _
    ∙ ap (λ n. base ++ (tc ++ with_mark Test (JumpIfZero n) ∷ (cb ++ j ∷ []))) z2
    ∙ ap (λ n. base ++ (tc ++ with_mark Test (JumpIfZero z) ∷ (cb ++ plain (Jump n) ∷ []))) m0

pub patch_then : (base tc : List Marked) (fa : Code) (c1 c2 c3 c4 : List Marked) (x : Marked) (n1 n3 : ℕ)
    → c1 ≡ base ++ tc → n1 ≡ length c1 → c2 ≡ c1 ++ x ∷ [] → c3 ≡ c2 ++ fa (length c2) → c4 ≡ c3 ++ plain (Jump 0) ∷ []
    → n3 ≡ length c4 → slice_set c4 n1 (with_mark Test (JumpIfZero n3)) ≡ base ++ then_code tc fa (length base)
patch_then base tc fa c1 c2 c3 c4 x n1 n3 e1 m1 e2 e3 e4 m3 =
    let y = plain (Jump 0) in
    let ts = length base + length tc + 1 in
    let ca = fa ts in
    let es = ts + length ca + 1 in
    let i = with_mark Test (JumpIfZero n3) in
    let l1 : length c1 ≡ length base + length tc = ap length e1 ∙ length-append base tc in
    let l2 : length c2 ≡ ts = omega (arith, ap length e2 ∙ length-append c1 (x ∷ [])) in
    let f3 : c3 ≡ c2 ++ ca = e3 ∙ ap (λ n. c2 ++ fa n) l2 in
    let l3 : length c3 ≡ ts + length ca = omega (arith, ap length f3 ∙ length-append c2 ca) in
    let z3 : n3 ≡ es = omega (arith, ap length e4 ∙ length-append c3 (y ∷ [])) in
    let all : c4 ≡ ((c1 ++ x ∷ []) ++ ca) ++ y ∷ [] = cc in
    let flat : ((c1 ++ x ∷ []) ++ ca) ++ y ∷ [] ≡ c1 ++ x ∷ (ca ++ y ∷ []) = simp append_assoc in
    ap (λ l. slice_set l n1 i) (all ∙ flat)
    ∙ set_at c1 (ca ++ y ∷ []) x i n1 m1
    ∙ ap (λ l. l ++ i ∷ (ca ++ y ∷ [])) e1
    ∙ append_assoc base tc _
    ∙ ap (λ n. base ++ (tc ++ with_mark Test (JumpIfZero n) ∷ (ca ++ y ∷ []))) z3

pub patch_join : (base tc jc : List Marked) (fb : Code) (c1 c2 c3 : List Marked) (y : Marked) (n1 n2 s : ℕ)
    → s ≡ length base + length tc + 30 → length jc ≡ 29 → c1 ≡ base ++ (tc ++ jc) → n1 ≡ length c1 → c2 ≡ c1 ++ y ∷ []
    → c3 ≡ c2 ++ fb (length c2) → n2 ≡ length c3
    → slice_set c3 n1 (plain (Jump n2)) ≡ base ++ (tc ++ (jc ++ (plain (Jump (s + length (fb s))) ∷ fb s)))
patch_join base tc jc fb c1 c2 c3 y n1 n2 s es ej e1 m1 e2 e3 m2 =
    let cb = fb s in
    let j = plain (Jump n2) in
    let l1 : length c1 ≡ length base + length tc + 29 =
    omega (arith, ap length e1 ∙ length-append base (tc ++ jc), length-append tc jc) in
    let l2 : length c2 ≡ s = omega (arith, ap length e2 ∙ length-append c1 (y ∷ [])) in
    let f3 : c3 ≡ c2 ++ cb = e3 ∙ ap (λ n. c2 ++ fb n) l2 in
    let z2 : n2 ≡ s + length cb = omega (arith, ap length f3 ∙ length-append c2 cb) in
    let all : c3 ≡ (c1 ++ y ∷ []) ++ cb = cc in
    let flat : (c1 ++ y ∷ []) ++ cb ≡ c1 ++ y ∷ cb = simp append_assoc in
    let end : (base ++ (tc ++ jc)) ++ j ∷ cb ≡ base ++ (tc ++ (jc ++ j ∷ cb)) = simp append_assoc in
    ap (λ l. slice_set l n1 j) (all ∙ flat)
    ∙ set_at c1 cb y j n1 m1
    ∙ ap (λ l. l ++ j ∷ cb) e1
    ∙ end
    ∙ ap (λ n. base ++ (tc ++ (jc ++ plain (Jump n) ∷ cb))) z2

-- the length of code with a test, one instruction, and a part behind it
part_length : (base tc : List Marked) (fa : Code) (c1 c2 : List Marked) (x : Marked) → c1 ≡ base ++ tc
    → c2 ≡ c1 ++ x ∷ []
    → length c2 + length (fa (length c2)) ≡ length base + (length tc + 1 + length (fa (length base + length tc + 1)))
part_length base tc fa c1 c2 x e1 e2 =
    let l1 : length c1 ≡ length base + length tc = ap length e1 ∙ length-append base tc in
    let l2 : length c2 ≡ length base + length tc + 1 = omega (arith, ap length e2 ∙ length-append c1 (x ∷ [])) in
    let same = ap (λ n. length (fa n)) l2 in
    omega (arith, l2, same)

if_length : (tc : List Marked) (fa : Code) (s : ℕ)
    → length (if_code tc fa s) ≡ length tc + 1 + length (fa (s + length tc + 1))
if_length tc fa s =
    let ca = fa (s + length tc + 1) in
    omega (arith, length-append tc (with_mark Test (JumpIfZero (s + length tc + 1 + length ca)) ∷ ca))

while_length : (tc : List Marked) (fb : Code) (s : ℕ)
    → length (while_code tc fb s) ≡ length tc + 1 + length (fb (s + length tc + 1)) + 1
while_length tc fb s =
    let cb = fb (s + length tc + 1) in
    omega (
      arith,
      length-append tc (with_mark Test (JumpIfZero (s + length tc + 1 + length cb + 1)) ∷ (cb ++ plain (Jump s) ∷ [])),
      length-append cb (plain (Jump s) ∷ []),
    )

-- code that is made so far isn't longer than all of it: of an IF, up to its part and with it
pub if_block_fits : (base tc : List Marked) (fa : Code) (c1 c2 : List Marked) (x : Marked) → c1 ≡ base ++ tc
    → c2 ≡ c1 ++ x ∷ [] → length c2 + length (fa (length c2)) ≤ length base + length (if_code tc fa (length base))
if_block_fits base tc fa c1 c2 x e1 e2 =
    omega (arith, part_length base tc fa c1 c2 x e1 e2, if_length tc fa (length base))

pub if_end_fits : (base tc : List Marked) (fa : Code) (c1 c2 c3 : List Marked) (x : Marked) (n : ℕ) → c1 ≡ base ++ tc
    → c2 ≡ c1 ++ x ∷ [] → c3 ≡ c2 ++ fa (length c2) → n ≡ length c3
    → n ≤ length base + length (if_code tc fa (length base))
if_end_fits base tc fa c1 c2 c3 x n e1 e2 e3 m =
    let h = if_block_fits base tc fa c1 c2 x e1 e2 in
    omega (arith, h, m, ap length e3 ∙ length-append c2 (fa (length c2)))

-- of a loop
pub while_block_fits : (base tc : List Marked) (fb : Code) (c1 c2 : List Marked) (x : Marked) → c1 ≡ base ++ tc
    → c2 ≡ c1 ++ x ∷ [] → length c2 + length (fb (length c2)) ≤ length base + length (while_code tc fb (length base))
while_block_fits base tc fb c1 c2 x e1 e2 =
    omega (arith, part_length base tc fb c1 c2 x e1 e2, while_length tc fb (length base))

pub while_end_fits : (base tc : List Marked) (fb : Code) (c1 c2 c3 c4 : List Marked) (x y : Marked) (n : ℕ)
    → c1 ≡ base ++ tc → c2 ≡ c1 ++ x ∷ [] → c3 ≡ c2 ++ fb (length c2) → c4 ≡ c3 ++ y ∷ [] → n ≡ length c4
    → n ≤ length base + length (while_code tc fb (length base))
while_end_fits base tc fb c1 c2 c3 c4 x y n e1 e2 e3 e4 m =
    let h = part_length base tc fb c1 c2 x e1 e2 in
    let l3 = ap length e3 ∙ length-append c2 (fb (length c2)) in
    omega (arith, h, while_length tc fb (length base), m, l3, ap length e4 ∙ length-append c3 (y ∷ []))

-- of a JOIN with an ABORTED part
pub join_first_fits : (base tc jc : List Marked) (rest : List Marked)
    → length base + length (tc ++ jc) ≤ length base + length (tc ++ (jc ++ rest))
join_first_fits base tc jc rest =
    omega (arith, length-append tc jc, length-append tc (jc ++ rest), length-append jc rest)

pub join_block_fits : (base tc jc : List Marked) (fb : Code) (c1 c2 : List Marked) (x y : Marked) (s : ℕ)
    → s ≡ length base + length tc + 30 → length jc ≡ 29 → c1 ≡ base ++ (tc ++ jc) → c2 ≡ c1 ++ x ∷ []
    → length c2 + length (fb (length c2)) ≤ length base + length (tc ++ (jc ++ (y ∷ fb s)))
join_block_fits base tc jc fb c1 c2 x y s es ej e1 e2 =
    let l1 = ap length e1 ∙ length-append base (tc ++ jc) in
    let l2 : length c2 ≡ s = omega (arith, l1, length-append tc jc, ap length e2 ∙ length-append c1 (x ∷ [])) in
    let same = ap (λ n. length (fb n)) l2 in
    omega (arith, same, length-append tc (jc ++ (y ∷ fb s)), length-append jc (y ∷ fb s))

pub join_end_fits : (base tc jc : List Marked) (fb : Code) (c1 c2 c3 : List Marked) (x y : Marked) (s n : ℕ)
    → s ≡ length base + length tc + 30 → length jc ≡ 29 → c1 ≡ base ++ (tc ++ jc) → c2 ≡ c1 ++ x ∷ []
    → c3 ≡ c2 ++ fb (length c2) → n ≡ length c3 → n ≤ length base + length (tc ++ (jc ++ (y ∷ fb s)))
join_end_fits base tc jc fb c1 c2 c3 x y s n es ej e1 e2 e3 m =
    let h = join_block_fits base tc jc fb c1 c2 x y s es ej e1 e2 in
    omega (arith, h, m, ap length e3 ∙ length-append c2 (fb (length c2)))

-- the length of the first half
then_length : (tc : List Marked) (fa : Code) (s : ℕ)
    → length (then_code tc fa s) ≡ length tc + 1 + length (fa (s + length tc + 1)) + 1
then_length tc fa s =
    let ca = fa (s + length tc + 1) in
    omega (
      arith,
      length-append tc (with_mark Test
          (JumpIfZero (s + length tc + 1 + length ca + 1)) ∷ (ca ++ plain (Jump 0) ∷ [])),
      length-append ca (plain
          (Jump 0) ∷ []),
    )

-- of the first half of an IF with an ELSE
pub then_block_fits : (base tc : List Marked) (fa : Code) (c1 c2 : List Marked) (x : Marked) → c1 ≡ base ++ tc
    → c2 ≡ c1 ++ x ∷ [] → length c2 + length (fa (length c2)) ≤ length base + length (then_code tc fa (length base))
then_block_fits base tc fa c1 c2 x e1 e2 =
    omega (arith, part_length base tc fa c1 c2 x e1 e2, then_length tc fa (length base))

pub then_end_fits : (base tc : List Marked) (fa : Code) (c1 c2 c3 c4 : List Marked) (x y : Marked) (n : ℕ)
    → c1 ≡ base ++ tc → c2 ≡ c1 ++ x ∷ [] → c3 ≡ c2 ++ fa (length c2) → c4 ≡ c3 ++ y ∷ [] → n ≡ length c4
    → n ≤ length base + length (then_code tc fa (length base))
then_end_fits base tc fa c1 c2 c3 c4 x y n e1 e2 e3 e4 m =
    let h = part_length base tc fa c1 c2 x e1 e2 in
    let l3 = ap length e3 ∙ length-append c2 (fa (length c2)) in
    omega (arith, h, then_length tc fa (length base), m, l3, ap length e4 ∙ length-append c3 (y ∷ []))

-- the place of the jump that isn't written yet
pub then_place : (base tc : List Marked) (fa : Code) (c1 c2 c3 : List Marked) (x : Marked) (n2 : ℕ) → c1 ≡ base ++ tc
    → c2 ≡ c1 ++ x ∷ [] → c3 ≡ c2 ++ fa (length c2) → n2 ≡ length c3
    → n2 + 1 ≡ length base + length (then_code tc fa (length base))
then_place base tc fa c1 c2 c3 x n2 e1 e2 e3 m2 =
    let ts = length base + length tc + 1 in
    let l1 : length c1 ≡ length base + length tc = ap length e1 ∙ length-append base tc in
    let l2 : length c2 ≡ ts = omega (arith, ap length e2 ∙ length-append c1 (x ∷ [])) in
    let l3 : length c3 ≡ ts + length (fa ts) =
    ap length e3 ∙ ap (λ n. length (c2 ++ fa n)) l2 ∙ length-append c2 (fa ts) ∙ ap (λ n. n + length (fa ts)) l2 in
    let h = then_length tc fa (length base) in omega (arith, h, l3, m2)

-- the length of all
if_else_length : (tc : List Marked) (fa fb : Code) (s : ℕ)
    → length (if_else_code tc fa fb s) ≡ length (then_code tc fa s) + length (fb (s + length (then_code tc fa s)))
if_else_length tc fa fb s =
    let ts = s + length tc + 1 in
    let ca = fa ts in
    let es = ts + length ca + 1 in
    let cb = fb es in
    let j = plain (Jump (es + length cb)) in
    let h = then_length tc fa s in
    let same : length (fb (s + length (then_code tc fa s))) ≡ length cb = ap (λ n. length (fb n)) (omega arith) in
    omega (
      arith,
      length-append tc (with_mark Test (JumpIfZero es) ∷ (ca ++ j ∷ cb)),
      length-append ca (j ∷ cb),
      same,
      h,
    )

pub then_less : (tc : List Marked) (fa fb : Code) (s : ℕ)
    → length (then_code tc fa s) ≤ length (if_else_code tc fa fb s)
then_less tc fa fb s = let h = if_else_length tc fa fb s in omega arith

else_joined : (base tc : List Marked) (fa fb : Code) (m new : List Marked) (passed : ℕ)
    → m ≡ base ++ then_code tc fa (length base) → passed + 1 ≡ length base + length (then_code tc fa (length base))
    → new ≡ slice_set m passed (plain (Jump (length m + length (fb (length m))))) ++ fb (length m)
    → new ≡ base ++ if_else_code tc fa fb (length base)
else_joined base tc fa fb m new passed e1 p e2 =
    let ts = length base + length tc + 1 in
    let ca = fa ts in
    let es = ts + length ca + 1 in
    let i = with_mark Test (JumpIfZero es) in
    let y = plain (Jump 0) in
    let cb = fb es in
    let j = plain (Jump (es + length cb)) in
    let h = then_length tc fa (length base) in
    let lm : length m ≡ es = omega (arith, ap length e1 ∙ length-append base (then_code tc fa (length base))) in
    let front = base ++ (tc ++ (i ∷ ca)) in
    let seam : base ++ (tc ++ (i ∷ (ca ++ y ∷ []))) ≡ front ++ y ∷ [] = simp append_assoc in
    let at : passed ≡ length front = omega (arith, length-append base (tc ++ (i ∷ ca)), length-append tc (i ∷ ca)) in
    let end : (front ++ j ∷ []) ++ cb ≡ base ++ (tc ++ (i ∷ (ca ++ j ∷ cb))) = simp append_assoc in
    e2
    ∙ ap (λ n. slice_set m passed (plain (Jump (n + length (fb n)))) ++ fb n) lm
    ∙ ap (λ l. slice_set l passed j ++ cb) (e1 ∙ seam)
    ∙ ap (λ l. l ++ cb) (set_at front [] y j passed at)
    ∙ end

-- the second half behind the first is all, or fails for its cause
pub else_made : {T : Type 0} (r : Result T Refusal) (base tc : List Marked) (fa fb : Code) (m new : List Marked)
    (passed : ℕ) → m ≡ base ++ then_code tc fa (length base)
    → passed + 1 ≡ length base + length (then_code tc fa (length base)) →
    MatchResult r (λ _. new ≡ slice_set m passed (plain (Jump (length m + length (fb (length m))))) ++ fb (length m))
    (λ e. Fails e (length m + length (fb (length m)))) →
    MatchResult r (λ _. new ≡ base ++ if_else_code tc fa fb (length base))
    (λ e. Fails e (length base + length (if_else_code tc fa fb (length base))))
else_made (Ok u) base tc fa fb m new passed e1 p e2 = else_joined base tc fa fb m new passed e1 p e2
else_made (Err e) base tc fa fb m new passed e1 p f =
    let lm : length m ≡ length base + length (then_code tc fa (length base)) =
    ap length e1 ∙ length-append base (then_code tc fa (length base)) in
    let same : length (fb (length m)) ≡ length (fb (length base + length (then_code tc fa (length base)))) =
    ap (λ n. length (fb n)) lm in
    fails_more e _ _ (let h = if_else_length tc fa fb (length base) in omega (arith, h, same, lm)) f

-- a jump is written before what follows it
pub patch_else : (old cb c1 : List Marked) (passed n : ℕ) → passed < length old → c1 ≡ old ++ cb → n ≡ length c1
    → slice_set c1 passed (plain (Jump n)) ≡ slice_set old passed (plain (Jump (length old + length cb))) ++ cb
patch_else old cb c1 passed n lt e1 m =
    let z : n ≡ length old + length cb = m ∙ ap length e1 ∙ length-append old cb in
    ap (λ l. slice_set l passed (plain (Jump n))) e1
    ∙ set-append_left old cb passed (plain (Jump n)) lt
    ∙ ap (λ k. slice_set old passed (plain (Jump k)) ++ cb) z
