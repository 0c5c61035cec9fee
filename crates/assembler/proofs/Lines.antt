-- The lines of instructions, one after another.
use Rattle.std.proofs.Common.{◌≡◌, ◌==◌, ◌<◌, ◌≤◌, ◌+◌, ◌∙◌, ℕ, true, false, List, [], ◌∷◌, ◌++◌, length, length-append}
use Rattle.std.proofs.Common.{ap, arith, refl, sym, subst}
use Rattle.std.specs.List.{AllByRecursion}
use Rattle.std.proofs.lemmas.List.{append_assoc, append-nil}
use Rattle.isa.specs.Instructions.{IsInstruction, operands}
use Rattle.isa.specs.Lines.{line, lines, place_text}
use Rattle.isa.specs.Spelling.{AreWords}
use Rattle.isa.specs.Texts.{instruction_text}
use Rattle.isa.specs.declared.instr.Instr.{Instr}
use Rattle.assembler.specs.Cuts.{AtByte, NoByte}
use Rattle.assembler.specs.Listings.{IsShown}
use Rattle.assembler.proofs.Cutting.{cut_once}
use Rattle.assembler.proofs.Shown.{none_shown, not_none, shown}

-- a line, and what follows it
line_parts : (place : ℕ) (i : Instr) (rest : List ℕ) → line place i ++ rest ≡ shown place i ++ (10 ∷ rest)
line_parts place i rest =
    append_assoc (place_text place ++ (32 ∷ []) ++ instruction_text i) (10 ∷ []) rest
    ∙ ap (λ (z : List ℕ). z ++ (10 ∷ rest)) (append_assoc (place_text place) (32 ∷ []) (instruction_text i))

-- an instruction behind others is one of all
shown_behind : (code : List Instr) (i : Instr) (is : List Instr) → AllByRecursion IsShown (code ++ i ∷ is) → IsShown i
shown_behind [] i is all = all.0
shown_behind (x ∷ code) i is all = shown_behind code i is all.1

-- where the next line is cut at its line feed
pub line_cut : (place : ℕ) (rest front back : List ℕ) (i : Instr) (is : List Instr) → place < 65536 → IsShown i
    → rest ≡ lines place (i ∷ is) → rest ≡ front ++ back → NoByte 10 front → AtByte 10 back
    → (front ≡ shown place i) × (back ≡ 10 ∷ lines (place + 1) is)
line_cut place rest front back i is small shows text whole none at =
    cut_once 10 front (shown place i) back (10 ∷ lines (place + 1) is) none
    (none_shown place i (omega (arith, small)) shows.1) at refl
    (sym whole ∙ text ∙ line_parts place i (lines (place + 1) is))

never : (xs ys : List ℕ) → [] ≡ xs ++ (10 ∷ ys) → ⊥
never [] ys e = absurd cc
never (x ∷ xs) ys e = absurd cc

-- where nothing is left of the text, nothing is left of the instructions
pub no_lines : (place : ℕ) (more : List Instr) → [] ≡ lines place more → more ≡ []
no_lines place [] is = refl
no_lines place (i ∷ is) text =
    let e = text ∙ line_parts place i (lines (place + 1) is) in
    absurd (never (shown place i) (lines (place + 1) is) e)

pub shown_all : (code : List Instr) → AllByRecursion IsInstruction code → AllByRecursion (λ i. AreWords (operands i)) code
    → AllByRecursion IsShown code
shown_all [] limits words = tt
shown_all (i ∷ is) limits words = ((limits.0, words.0), shown_all is limits.1 words.1)

pub not_empty : (rest : List ℕ) → false ≡ (length rest == 0) → rest ≡ [] → ⊥
not_empty [] e is = absurd cc
not_empty (x ∷ rest) e is = absurd cc

-- no image has so many instructions
pub too_many : (place : ℕ) (rest : List ℕ) (c code more : List Instr) → place ≡ length code → c ≡ code ++ more
    → rest ≡ lines place more → (rest ≡ [] → ⊥) → length c ≤ 65536 → 65536 ≤ place → ⊥
too_many place rest c code [] at whole text some few past = some text
too_many place rest c code (i ∷ is) at whole text some few past =
    let l : length c ≡ length (code ++ i ∷ is) = ap length whole in
    let s = length-append code (i ∷ is) in
    absurd (omega (arith, l, s, at, few, past))

-- all instructions are read where nothing is left of the text
pub all_read : (place : ℕ) (rest : List ℕ) (c code more : List Instr) → true ≡ (length rest == 0) → c ≡ code ++ more
    → rest ≡ lines place more → code ≡ c
all_read place [] c code more e whole text =
    let none = no_lines place more text in
    sym (whole ∙ ap (λ (z : List Instr). code ++ z) none ∙ append-nil code)
all_read place (x ∷ rest) c code more e whole text = absurd (not_none x rest e)

-- another line is left
pub some_next : (place : ℕ) (rest : List ℕ) (c code more : List Instr) → AllByRecursion IsShown c → c ≡ code ++ more
    → rest ≡ lines place more → (rest ≡ [] → ⊥)
    → ((i : Instr) (is : List Instr) → IsShown i → rest ≡ lines place (i ∷ is) → ⊥) → ⊥
some_next place rest c code [] all whole text some none = some text
some_next place rest c code (i ∷ is) all whole text some none =
    none i is (shown_behind code i is (subst (AllByRecursion IsShown) whole all)) text

-- and is read
pub next_left : (place : ℕ) (rest behind : List ℕ) (c code new more : List Instr) (instr : Instr)
    → AllByRecursion IsShown c → c ≡ code ++ more → rest ≡ lines place more → (rest ≡ [] → ⊥) → new ≡ code ++ instr ∷ []
    → ((i : Instr) (is : List Instr) → IsShown i → rest ≡ lines place (i ∷ is)
    → (instr ≡ i) × (behind ≡ lines (place + 1) is)) → (left : List Instr) × (c ≡ new ++ left)
    × (behind ≡ lines (place + 1) left)
next_left place rest behind c code new [] instr all whole text some grown reads = absurd (some text)
next_left place rest behind c code new (i ∷ is) instr all whole text some grown reads =
    let r = reads i is (shown_behind code i is (subst (AllByRecursion IsShown) whole all)) text in
    let more : code ++ i ∷ is ≡ (code ++ i ∷ []) ++ is = sym (append_assoc code (i ∷ []) is) in
    let same : code ++ i ∷ [] ≡ new = ap (λ (x : Instr). code ++ x ∷ []) (sym r.0) ∙ sym grown in
    (is, whole ∙ more ∙ ap (λ (z : List Instr). z ++ is) same, r.1)

pub shorter : (rest front back : List ℕ) (behind : List ℕ) → rest ≡ front ++ back → back ≡ 10 ∷ behind
    → length behind < length rest
shorter rest front back behind whole is =
    let l : length rest ≡ length (front ++ back) = ap length whole in
    let m : length back ≡ length (10 ∷ behind) = ap length is in
    omega (arith, l, m, length-append front back)
