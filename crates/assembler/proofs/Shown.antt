-- The text of an instruction, in its words.
use Rattle.std.proofs.Common.{◌≡◌, ◌<◌, ◌≤◌, ◌+◌, ◌/◌, ◌%◌, ◌^◌, ◌∙◌, ℕ, List, [], ◌∷◌, ◌++◌, Option, Some, None, length}
use Rattle.std.proofs.Common.{◌==◌, true, false, ap, arith, get_or, refl, sym}
use Rattle.std.specs.Fmt.{decimal}
use Rattle.std.proofs.lemmas.Bool.{eqb-true}
use Rattle.std.proofs.lemmas.Fmt.{decimal_by_steps, decimal_digit}
use Rattle.std.proofs.lemmas.List.{append_cancel_left, append-nil}
use Rattle.isa.specs.Instructions.{operands}
use Rattle.isa.specs.Lines.{line, place_text}
use Rattle.isa.specs.Spelling.{AreWords}
use Rattle.isa.specs.Texts.{instruction_text, mnemonic}
use Rattle.isa.specs.declared.instr.Instr.{Instr}
use Rattle.assembler.specs.Cuts.{AtByte, NoByte}
use Rattle.assembler.specs.Listings.{spaced}
use Rattle.assembler.proofs.Cutting.{Plain, cut_once, none_append, none_of_plain, plain_append}
use Rattle.assembler.proofs.Mnemonics.{plain_mnemonic}

one_digit : (n : ℕ) → n < 10 → Plain ((48 + n) ∷ [])
one_digit n less = (omega arith, tt)

digit_more : (n : ℕ) (ds : List ℕ) → 10 ≤ n → Plain ds → Plain (ds ++ ((48 + n % 10) ∷ []))
digit_more n ds big is = plain_append ds ((48 + n % 10) ∷ []) is (omega arith, tt)

pub plain_decimal : (n : ℕ) → n < 2 ^ 64 → Plain (decimal n)
plain_decimal n small = decimal_by_steps (λ n ds. Plain ds) one_digit digit_more n small

-- behind a word a space comes, or nothing
pub at_space : (ns : List ℕ) → AtByte 32 (spaced ns)
at_space [] = tt
at_space (n ∷ ns) = refl

-- the name and what follows it, where a text is cut at a space
pub name_cut : (i : Instr) (text front rest : List ℕ) → text ≡ front ++ rest → NoByte 32 front → AtByte 32 rest
    → text ≡ instruction_text i → (front ≡ mnemonic i) × (rest ≡ spaced (operands i))
name_cut i text front rest whole none at is =
    cut_once 32 front (mnemonic i) rest (spaced (operands i)) none
    (none_of_plain 32 (mnemonic i) (omega arith) (plain_mnemonic i)) at (at_space (operands i)) (sym whole ∙ is)

-- the first number and what follows it, where the text behind the first space is cut at a space
pub number_cut : (n : ℕ) (ns : List ℕ) (text words front rest : List ℕ) → n < 2 ^ 32 → text ≡ 32 ∷ words
    → words ≡ front ++ rest → NoByte 32 front → AtByte 32 rest → text ≡ spaced (n ∷ ns)
    → (front ≡ decimal n) × (rest ≡ spaced ns)
number_cut n ns text words front rest small behind whole none at is =
    let same : 32 ∷ words ≡ 32 ∷ (decimal n ++ spaced ns) = sym behind ∙ is in
    let e : words ≡ decimal n ++ spaced ns = cc in
    cut_once 32 front (decimal n) rest (spaced ns) none
    (none_of_plain 32 (decimal n) (omega arith) (plain_decimal n (omega (arith, small)))) at (at_space ns) (sym whole ∙ e)

-- two numbers, or 0 for one that isn't there
abbrev pub read_of : List ℕ → ℕ × ℕ
read_of ns = (get_or ns 0 0, get_or ns 1 0)

-- a text that is no empty one
pub not_none : {A : Type 0} (x : A) (xs : List A) → true ≡ (length (x ∷ xs) == 0) → ⊥
not_none x xs e =
    let none : length (x ∷ xs) ≡ 0 = eqb-true (length (x ∷ xs)) 0 (sym e) in
    absurd (omega (arith, none))

pub at_empty : (ns text : List ℕ) → true ≡ (length text == 0) → text ≡ spaced ns → Some (0, 0) ≡ Some (read_of ns)
at_empty [] text e is = refl
at_empty (n ∷ ns) [] e is = absurd cc
at_empty (n ∷ ns) (x ∷ text) e is = absurd (not_none x text e)

pub no_space : (ns text : List ℕ) → false ≡ (length text == 0) → ((rest : List ℕ) → text ≡ 32 ∷ rest → ⊥)
    → text ≡ spaced ns → ⊥
no_space [] [] e none is = absurd cc
no_space [] (x ∷ text) e none is = absurd cc
no_space (n ∷ ns) text e none is = none (decimal n ++ spaced ns) is

pub none_some : {A : Type 0} (x : A) → None ≡ Some x → ⊥
none_some x e = absurd cc

-- the first number, and those behind it
pub record IsFirst (ns rest : List ℕ) (r : Option ℕ) : Type 0 where
  pub n : ℕ
  pub ms : List ℕ
  pub all : ns ≡ n ∷ ms
  pub read : r ≡ Some n
  pub behind : rest ≡ spaced ms
  pub words : AreWords ms

pub first_is : (ns text words front rest : List ℕ) (r : Option ℕ) → false ≡ (length text == 0) → text ≡ 32 ∷ words
    → words ≡ front ++ rest → NoByte 32 front → AtByte 32 rest → AreWords ns → text ≡ spaced ns
    → ((n : ℕ) → n < 2 ^ 32 → front ≡ decimal n → r ≡ Some n) → IsFirst ns rest r
first_is [] [] words front rest r e behind whole none at small is reads = absurd cc
first_is [] (x ∷ text) words front rest r e behind whole none at small is reads = absurd cc
first_is (n ∷ ns) text words front rest r e behind whole none at small is reads =
    let parts = number_cut n ns text words front rest small.0 behind whole none at is in
    record { n = n; ms = ns; all = refl; read = reads n small.0 parts.0; behind = parts.1; words = small.1 }

pub some_is : {A : Type 0} (x y : A) → Some x ≡ Some y → x ≡ y
some_is x y e = cc

one : (ns ms rest : List ℕ) (first n : ℕ) → true ≡ (length rest == 0) → ns ≡ n ∷ ms → Some first ≡ Some n
    → rest ≡ spaced ms → Some (first, 0) ≡ Some (read_of ns)
one ns [] rest first n e all read is =
    let a : first ≡ n = some_is first n read in
    (λ j. Some (a j, 0)) ∙ ap (λ (z : List ℕ). Some (read_of z)) (sym all)
one ns (m ∷ ms) [] first n e all read is = absurd cc
one ns (m ∷ ms) (x ∷ rest) first n e all read is = absurd (not_none x rest e)

last : (ns ms rest more : List ℕ) (n : ℕ) (q : Option ℕ) → length ns ≤ 2 → ns ≡ n ∷ ms → AreWords ms → rest ≡ spaced ms
    → rest ≡ 32 ∷ more → ((n : ℕ) → n < 2 ^ 32 → more ≡ decimal n → q ≡ Some n) → (m : ℕ) × (q ≡ Some m) × (ms ≡ m ∷ [])
last ns [] rest more n q few all words is behind reads = absurd cc
last ns (m ∷ []) rest more n q few all words is behind reads =
    let same : 32 ∷ more ≡ 32 ∷ (decimal m ++ []) = sym behind ∙ is in
    let e : more ≡ decimal m ++ [] = cc in
    (m, reads m words.0 (e ∙ append-nil (decimal m)), refl)
last ns (m ∷ x ∷ ms) rest more n q few all words is behind reads =
    let l : length ns ≡ length (n ∷ m ∷ x ∷ ms) = ap length all in
    absurd (omega (arith, l, few))

-- where nothing follows it, it is the only one
pub only_one : (ns rest : List ℕ) (first : ℕ) → true ≡ (length rest == 0) → IsFirst ns rest (Some first)
    → Some (first, 0) ≡ Some (read_of ns)
only_one ns rest first e f = one ns f.ms rest first f.n e f.all f.read f.behind

-- the second number is the last
pub last_is : (ns rest more : List ℕ) (r q : Option ℕ) (f : IsFirst ns rest r) → length ns ≤ 2 → rest ≡ 32 ∷ more
    → ((n : ℕ) → n < 2 ^ 32 → more ≡ decimal n → q ≡ Some n) → (m : ℕ) × (q ≡ Some m) × (f.ms ≡ m ∷ [])
last_is ns rest more r q f few behind reads = last ns f.ms rest more f.n q few f.all f.words f.behind behind reads

pub both_are : (ns rest : List ℕ) (first second m : ℕ) (f : IsFirst ns rest (Some first)) → Some second ≡ Some m
    → f.ms ≡ m ∷ [] → Some (first, second) ≡ Some (read_of ns)
both_are ns rest first second m f read is =
    let a : first ≡ f.n = some_is first f.n f.read in
    let b : second ≡ m = some_is second m read in
    let whole : ns ≡ f.n ∷ m ∷ [] = f.all ∙ ap (λ (z : List ℕ). f.n ∷ z) is in
    (λ j. Some (a j, b j)) ∙ ap (λ (z : List ℕ). Some (read_of z)) (sym whole)

-- behind the digits of a place
pub behind_place : (place : ℕ) (digits line behind : List ℕ) (i : Instr) → digits ≡ place_text place
    → line ≡ digits ++ behind → line ≡ place_text place ++ (32 ∷ instruction_text i) → behind ≡ 32 ∷ instruction_text i
behind_place place digits line behind i digits_are cut is =
    append_cancel_left (place_text place) behind (32 ∷ instruction_text i)
    (ap (λ (z : List ℕ). z ++ behind) (sym digits_are) ∙ sym cut ∙ is)

-- what a line shows
abbrev pub shown : ℕ → Instr → List ℕ
shown place i = place_text place ++ (32 ∷ instruction_text i)

none_spaced : (ns : List ℕ) → AreWords ns → NoByte 10 (spaced ns)
none_spaced [] words = tt
none_spaced (n ∷ ns) words =
    none_append 10 (32 ∷ decimal n) (spaced ns)
    ((λ e. absurd cc), none_of_plain 10 (decimal n) (omega arith) (plain_decimal n (omega (arith, words.0))))
    (none_spaced ns words.1)

pub plain_place : (n : ℕ) → n < 100000 → Plain (place_text n)
plain_place n small =
    plain_append (decimal (n / 10000) ++ decimal (n / 1000 % 10) ++ decimal (n / 100 % 10) ++ decimal (n / 10 % 10))
    (decimal (n % 10))
    (plain_append (decimal (n / 10000) ++ decimal (n / 1000 % 10) ++ decimal (n / 100 % 10)) (decimal (n / 10 % 10))
    (plain_append (decimal (n / 10000) ++ decimal (n / 1000 % 10)) (decimal (n / 100 % 10))
    (plain_append (decimal (n / 10000)) (decimal (n / 1000 % 10)) (plain_decimal (n / 10000) (omega (arith, small)))
    (plain_decimal (n / 1000 % 10) (omega arith))) (plain_decimal (n / 100 % 10) (omega arith)))
    (plain_decimal (n / 10 % 10) (omega arith))) (plain_decimal (n % 10) (omega arith))

pub none_shown : (place : ℕ) (i : Instr) → place < 100000 → AreWords (operands i) → NoByte 10 (shown place i)
none_shown place i small words =
    none_append 10 (place_text place) (32 ∷ instruction_text i)
    (none_of_plain 10 (place_text place) (omega arith) (plain_place place small)) (
      (λ e. absurd cc),
      none_append 10 (mnemonic i) (spaced (operands i))
          (none_of_plain 10 (mnemonic i) (omega arith) (plain_mnemonic i)) (none_spaced (operands i) words),
    )

-- a place's digits
pub digits_are : (n : ℕ) → n < 100000
    → (48 + n / 10000) ∷ (48 + n / 1000 % 10) ∷ (48 + n / 100 % 10) ∷ (48 + n / 10 % 10) ∷ (48 + n % 10) ∷ []
    ≡ place_text n
digits_are n small =
    rw (
      decimal_digit (n / 10000) (omega (arith, small)),
      decimal_digit (n / 1000 % 10) (omega arith),
      decimal_digit (n / 100 % 10) (omega arith),
      decimal_digit (n / 10 % 10) (omega arith),
      decimal_digit (n % 10) (omega arith),
    ) refl
