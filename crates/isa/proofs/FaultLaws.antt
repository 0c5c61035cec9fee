-- The first fault of bytes that are no image, and the proper beginnings of an image.
use Rattle.std.proofs.Common.{◌≡◌, ◌≢◌, ℕ, zero, suc, ◌≤◌, false, cond, eqb, ◌⊎◌, inl, inr, List, [], ◌∷◌, ◌++◌}
use Rattle.std.proofs.Common.{length, take, drop, Result, Ok, Err, refl, sym, ap, subst, ◌∙◌, add-one, arith}
use Rattle.std.proofs.Common.{length-append}
use Rattle.std.proofs.Math.Seq.{take-length}
use Rattle.std.proofs.lemmas.Bool.{cases_eq, ne_eqb}
use Rattle.std.proofs.lemmas.List.{append-nil, take-append-drop}
use Rattle.isa.specs.declared.fault.DecodeFault.{DecodeFault}
use Rattle.isa.specs.declared.fault.DecodeFault.TheVariants.{BadMagic, Version, Short, BadInstr, BadTarget, Trailing}
use Rattle.isa.specs.declared.fault.DecodeFault.TheVariants.{Limit, Memory}
use Rattle.isa.specs.FirstFault.{IsOfAByte, IsFirstFault}
use Rattle.isa.specs.Programs.{Program}
use Rattle.isa.specs.Spelling.{HasByte, IsSpelled, spelling}
use Rattle.isa.specs.Reading.{◌>>=◌, fixed_at, image_at, stays_inside, at_end, program_of}
use Rattle.isa.proofs.Parts.{chosen}
use Rattle.isa.proofs.ProgramLaws.{program_again}
use Rattle.isa.proofs.Stands.{StandsAt, image-stands}

abbrev whole : Result (Program × List ℕ) DecodeFault → Result Program DecodeFault
whole read = read >>= λ image. at_end image.0 image.1

-- bytes behind an image
behind : (p : Program) (rest : List ℕ) (b : ℕ) (more : List ℕ) → at_end p (rest ++ b ∷ more) ≡ Err Trailing
behind p rest b more =
    let some : eqb (length (rest ++ b ∷ more)) 0 ≡ false = ne_eqb (length (rest ++ b ∷ more)) 0
    (λ e. omega (arith, e, length-append rest (b ∷ more))) in
    rw some refl

-- a fault that isn't that bytes are missing stays, but where an image was read to its last instruction
later : (read longer : Result (Program × List ℕ) DecodeFault) (b : ℕ) (more : List ℕ) → StandsAt read longer (b ∷ more)
    → (whole read ≡ Err Short) ⊎ ((d : DecodeFault) × (whole longer ≡ Err d) × (IsOfAByte d → whole read ≡ Err d))
later (Ok x) longer b more stands = inr (Trailing, rw stands (behind x.0 x.1 b more), λ never. absurd never)
later (Err Short) longer b more stands = inl refl
later (Err BadMagic) longer b more stands = inr (BadMagic, rw (stands (λ e. absurd cc)) refl, λ _. refl)
later (Err Version) longer b more stands = inr (Version, rw (stands (λ e. absurd cc)) refl, λ _. refl)
later (Err BadInstr) longer b more stands = inr (BadInstr, rw (stands (λ e. absurd cc)) refl, λ _. refl)
later (Err BadTarget) longer b more stands = inr (BadTarget, rw (stands (λ e. absurd cc)) refl, λ _. refl)
later (Err Trailing) longer b more stands = inr (Trailing, rw (stands (λ e. absurd cc)) refl, λ _. refl)
later (Err Limit) longer b more stands = inr (Limit, rw (stands (λ e. absurd cc)) refl, λ _. refl)
later (Err Memory) longer b more stands = inr (Memory, rw (stands (λ e. absurd cc)) refl, λ _. refl)

program-later : (a : List ℕ) (b : ℕ) (more : List ℕ)
    → (program_of a ≡ Err Short) ⊎ ((d : DecodeFault) × (program_of (a ++ b ∷ more) ≡ Err d)
    × (IsOfAByte d → program_of a ≡ Err d))
unfolding program_of
program-later a b more = later (image_at a) (image_at (a ++ b ∷ more)) b more (image-stands a (b ∷ more))

-- the other way: a fault of a byte is there whatever follows
stays : (read longer : Result (Program × List ℕ) DecodeFault) (more : List ℕ) (e : DecodeFault) → StandsAt read
    longer more → IsOfAByte e → whole read ≡ Err e → whole longer ≡ Err e
stays (Err d) longer more e stands byte is =
    let same : d ≡ e = cc in
    let other : d ≢ Short = λ short. subst (λ (f : DecodeFault). IsOfAByte f) (sym same ∙ short) byte in
    rw (stands other) (ap (λ (f : DecodeFault). Err f) same)
stays (Ok x) longer more e stands byte is =
    elim (chosen (eqb (length x.1) 0) (cond (stays_inside x.0) (Ok x.0) (Err BadTarget)) (Err Trailing) (Err e) is) [
      | inl w ↦ elim (chosen (stays_inside x.0) (Ok x.0) (Err BadTarget) (Err e) w.1) [
        | inl v ↦ absurd (cc (v.1))
        | inr v ↦ let same : e ≡ BadTarget = cc in absurd (subst (λ (f : DecodeFault). IsOfAByte f) same byte)
      ]
      | inr w ↦ let same : e ≡ Trailing = cc in absurd (subst (λ (f : DecodeFault). IsOfAByte f) same byte)
    ]

program-stays : (a more : List ℕ) (e : DecodeFault) → IsOfAByte e → program_of a ≡ Err e → program_of (a ++ more)
    ≡ Err e
unfolding program_of
program-stays a more e byte is = stays (image_at a) (image_at (a ++ more)) more e (image-stands a more) byte is

pub short_beginning : (p : Program) (front : List ℕ) (b : ℕ) (behind : List ℕ) → HasByte p.version → IsSpelled p
    → spelling p ≡ front ++ b ∷ behind → program_of front ≡ Err Short
short_beginning p front b behind has is parts =
    elim (program-later front b behind) [
      | inl short ↦ short
      | inr w ↦ let both : Ok p ≡ Err w.0 = sym (program_again p has is) ∙ ap program_of parts ∙ w.1 in absurd cc
    ]

-- where these are the first bytes of what has a fault of a byte
beginning : (a b : List ℕ) (e : DecodeFault) → IsOfAByte e → program_of (a ++ b) ≡ Err e → (program_of a ≡ Err Short)
    ⊎ (program_of a ≡ Err e)
beginning a [] e byte is = inr (ap program_of (sym (append-nil a)) ∙ is)
beginning a (c ∷ b) e byte is =
    elim (program-later a c b) [
      | inl short ↦ inl short
      | inr w ↦
          let both : Err w.0 ≡ Err e = sym w.1 ∙ is in
          let same : e ≡ w.0 = cc in
          let there : program_of a ≡ Err w.0 = w.2 (subst (λ (f : DecodeFault). IsOfAByte f) same byte) in
          inr (there ∙ ap (λ (f : DecodeFault). Err f) (sym same))
    ]

nothing_short : program_of [] ≡ Err Short
unfolding program_of image_at fixed_at
nothing_short = refl

-- up to a place nothing but bytes is missing, or the first fault stands before it
sought : (bytes : List ℕ) (e : DecodeFault) → IsOfAByte e → program_of bytes ≡ Err e → (n : ℕ) → n ≤ length bytes
    → ((k : ℕ) → k ≤ n → program_of (take k bytes) ≡ Err Short) ⊎ ((place : ℕ) × IsFirstFault bytes e place)
sought bytes e byte is zero le = inl (λ k small. let none : k ≡ 0 = omega arith in rw none nothing_short)
sought bytes e byte is (suc n) le =
    elim (sought bytes e byte is n (omega arith)) [
      | inr found ↦ inr found
      | inl before ↦
          elim (beginning (take (suc n) bytes) (drop (suc n) bytes) e byte
          (ap program_of (take-append-drop (suc n) bytes) ∙ is)) [
            | inl short ↦ inl (λ k small. elim (cases_eq k (suc n)) [
              | inl last ↦ rw last short
              | inr ne ↦ before k
                  (omega (arith, ne))
            ])
            | inr there ↦ inr (
              n,
              record {
                within = le;
                before = before;
                from = λ rest. rw add-one
                    (program-stays (take (suc n) bytes) rest e byte there);
              },
            )
          ]
    ]

pub first_fault : (bytes : List ℕ) (e : DecodeFault) → IsOfAByte e → program_of bytes ≡ Err e → (place : ℕ)
    × IsFirstFault bytes e place
first_fault bytes e byte is =
    elim (sought bytes e byte is (length bytes) (omega arith)) [
      | inl short ↦
          let all : program_of bytes ≡ Err Short = ap program_of (sym (take-length bytes)) ∙ short (length bytes)
          (omega arith) in
          let both : Err e ≡ Err Short = sym is ∙ all in
          let same : e ≡ Short = cc in
          absurd (subst (λ (f : DecodeFault). IsOfAByte f) same byte)
      | inr found ↦ found
    ]
