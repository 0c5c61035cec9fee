-- The laws of whole images: what is read is spelled so, and what is spelled so is read.
use Rattle.std.proofs.Common.{◌≡◌, ℕ, ◌≤◌, true, cond, eqb, inl, inr, List, [], ◌++◌, length, sum, Result, Ok, Err}
use Rattle.std.proofs.Common.{refl, sym, ap, subst, ◌∙◌, append_assoc, arith}
use Rattle.std.specs.List.{AllByRecursion}
use Rattle.std.specs.Prelude.{IfOk, MatchResult}
use Rattle.std.proofs.lemmas.Bool.{eqb-true}
use Rattle.std.proofs.lemmas.List.{append-nil, nil_from_length}
use Rattle.isa.specs.Limits.{most_monitors, most_member_words, most_instructions}
use Rattle.isa.specs.declared.fault.DecodeFault.{DecodeFault}
use Rattle.isa.specs.declared.fault.DecodeFault.TheVariants.{BadMagic, Version, Short, BadInstr, BadTarget, Trailing}
use Rattle.isa.specs.declared.fault.DecodeFault.TheVariants.{Limit, Memory}
use Rattle.words.specs.declared.version.ImageVersion.{ImageVersion}
use Rattle.words.specs.declared.version.ImageVersion.TheVariants.{One, Two, Linux}
use Rattle.isa.specs.Numbers.{number}
use Rattle.isa.specs.Instructions.{operands, IsInstruction}
use Rattle.isa.specs.Programs.{Program, IsProgram}
use Rattle.isa.specs.Spelling.{AreWords, HasByte, magic, version, monitor_table, code_table, spelling}
use Rattle.isa.specs.Spelling.{IsSpelled}
use Rattle.isa.specs.Reading.{◌>>=◌, Gives, fixed_at, version_at, number_at, monitors_at, code_at, image_at, stays_inside}
use Rattle.isa.specs.Reading.{at_end, program_of}
use Rattle.isa.proofs.FieldLaws.{number_takes, number_again, fixed_takes, fixed_again, version_takes, version_written}
use Rattle.isa.proofs.FieldLaws.{version_again}
use Rattle.isa.proofs.FieldLaws.{monitors_take, monitors_bound, monitors_again, code_takes, code_bound, code_limit}
use Rattle.isa.proofs.FieldLaws.{code_again}
use Rattle.isa.proofs.TargetLaws.{lies, lies_again}
use Rattle.isa.proofs.Parts.{bind_ok, chosen, done, ok_is, IsBytes, Takes, Takes-then}

-- what stands behind an image that was read
at_end_ok : (rest : List ℕ) (p q : Program) → at_end p rest ≡ Ok q → (rest ≡ []) × (stays_inside p ≡ true) × (p ≡ q)
at_end_ok rest p q e =
    elim (chosen (eqb (length rest) 0) (cond (stays_inside p) (Ok p) (Err BadTarget)) (Err Trailing) (Ok q) e) [
      | inl w ↦ elim (chosen (stays_inside p) (Ok p) (Err BadTarget) (Ok q) w.1) [
        | inl v ↦ (nil_from_length rest (eqb-true (length rest) 0 w.0), v.0, ok_is p q v.1)
        | inr v ↦ absurd (cc (v.1))
      ]
      | inr w ↦ absurd (cc (w.1))
    ]

nothing_left : (bytes text rest : List ℕ) → bytes ≡ text ++ rest → rest ≡ [] → text ≡ bytes
nothing_left bytes text rest parts none = sym (parts ∙ ap (λ (left : List ℕ). text ++ left) none ∙ append-nil text)

-- what was read, but for the start and the targets
record IsShort (p : Program) : Type 0 where
  written : HasByte p.version
  few_monitors : length p.monitors ≤ most_monitors
  few_members : sum p.monitors ≤ most_member_words
  short : length p.code ≤ most_instructions
  instructions : AllByRecursion IsInstruction p.code
  words : AllByRecursion (λ i. AreWords (operands i)) p.code

image_takes : (bytes : List ℕ) (x : Program × List ℕ) → IsBytes bytes → image_at bytes ≡ Ok x → Takes bytes
    (spelling x.0) x.1 × IsShort x.0
unfolding image_at
image_takes bytes x fits e =
    let a = bind_ok (fixed_at magic BadMagic bytes) (λ marked. version_at marked >>= λ versioned. monitors_at
    versioned.1 >>= λ monitors. number_at monitors.1 >>= λ start. code_at start.1 >>= λ code. Ok
    (record { version = versioned.0; monitors = monitors.0; start = start.0; code = code.0 }, code.1)) x e in
    let b = bind_ok (version_at a.0) (λ versioned. monitors_at versioned.1 >>= λ monitors. number_at monitors.1 >>=
    λ start. code_at start.1 >>= λ code. Ok
    (record { version = versioned.0; monitors = monitors.0; start = start.0; code = code.0 }, code.1)) x a.2 in
    let m = bind_ok (monitors_at b.0.1) (λ monitors. number_at monitors.1 >>= λ start. code_at start.1 >>= λ code. Ok
    (record { version = b.0.0; monitors = monitors.0; start = start.0; code = code.0 }, code.1)) x b.2 in
    let s = bind_ok (number_at m.0.1) (λ start. code_at start.1 >>= λ code. Ok
    (record { version = b.0.0; monitors = m.0.0; start = start.0; code = code.0 }, code.1)) x m.2 in
    let i = bind_ok (code_at s.0.1) (λ code. Ok
    (record { version = b.0.0; monitors = m.0.0; start = s.0.0; code = code.0 }, code.1)) x s.2 in
    let t0 = fixed_takes magic BadMagic bytes a.0 fits a.1 in
    let t1 = version_takes a.0 b.0 t0.rest_fits b.1 in
    let t2 = monitors_take b.0.1 m.0 t1.rest_fits m.1 in
    let t3 = number_takes m.0.1 s.0 t2.rest_fits s.1 in
    let t4 = code_takes s.0.1 i.0 t3.0.rest_fits i.1 in
    let v = version b.0.0 in
    let to1 = Takes-then bytes magic a.0 v b.0.1 t0 t1 in
    let to2 = Takes-then bytes (magic ++ v) b.0.1 (monitor_table m.0.0) m.0.1 to1 t2 in
    let to3 = Takes-then bytes (magic ++ v ++ monitor_table m.0.0) m.0.1 (number s.0.0) s.0.1 to2 t3.0 in
    let to4 = Takes-then bytes (magic ++ v ++ monitor_table m.0.0 ++ number s.0.0) s.0.1 (code_table i.0.0) i.0.1 to3
    t4.0 in
    let few = monitors_bound b.0.1 m.0 m.1 in
    is_read bytes (record { version = b.0.0; monitors = m.0.0; start = s.0.0; code = i.0.0 }, i.0.1) x i.2 to4
    (record {
      written = version_written a.0 b.0 b.1;
      few_monitors = few.0;
      few_members = few.1;
      short = code_bound s.0.1 i.0 i.1;
      instructions = code_limit s.0.1 i.0 i.1;
      words = t4.1;
    })
  where
    is_read : (bytes : List ℕ) (made x : Program × List ℕ) → done made ≡ Ok x → Takes bytes (spelling made.0) made.1
        → IsShort made.0 → Takes bytes (spelling x.0) x.1 × IsShort x.0
    is_read bytes made x same taken short = subst (λ (y : Program × List ℕ). Takes bytes (spelling y.0) y.1 × IsShort
        y.0) (ok_is made x same) (taken, short)

pub program_takes : (bytes : List ℕ) (p : Program) → IsBytes bytes → program_of bytes ≡ Ok p
    → HasByte p.version × IsSpelled p × (spelling p ≡ bytes)
unfolding program_of
program_takes bytes p fits e =
    let a = bind_ok (image_at bytes) (λ image. at_end image.0 image.1) p e in
    let last = at_end_ok a.0.1 a.0.0 p a.2 in
    let t = image_takes bytes a.0 fits a.1 in
    let whole : spelling a.0.0 ≡ bytes = nothing_left bytes (spelling a.0.0) a.0.1 t.0.parts last.0 in
    let inside = lies a.0.0 last.1 in
    let within : IsProgram a.0.0 = record {
      few_monitors = t.1.few_monitors;
      few_members = t.1.few_members;
      short = t.1.short;
      starts = inside.0;
      instructions = t.1.instructions;
      targets = inside.1;
    } in
    subst (λ (q : Program). HasByte q.version × IsSpelled q × (spelling q ≡ bytes)) last.2
    (t.1.written, record { within = within; words = t.1.words }, whole)

regrouped : (v m s c rest : List ℕ) → magic ++ v ++ m ++ s ++ c ++ rest ≡ magic ++ (v ++ (m ++ (s ++ (c ++ rest))))
regrouped v m s c rest = simp append_assoc

pub image_again : (p : Program) (rest : List ℕ) → HasByte p.version → IsSpelled p → image_at (spelling p ++ rest) ≡ Ok (p, rest)
unfolding image_at
image_again p rest has is =
    let code : code_at (code_table p.code ++ rest) ≡ Ok (p.code, rest) = code_again p.code rest is.within.short
    is.words is.within.instructions in
    let start : number_at (number p.start ++ (code_table p.code ++ rest)) ≡ Ok (
      p.start,
      code_table p.code ++
          rest,
    ) = number_again p.start (code_table p.code ++ rest) (omega (arith, is.within.starts, is.within.short)) in
    let monitors : monitors_at (monitor_table p.monitors ++ (number p.start ++ (code_table p.code ++ rest)))
    ≡ Ok (p.monitors, number p.start ++ (code_table p.code ++ rest)) = monitors_again p.monitors
    (number p.start ++ (code_table p.code ++ rest)) is.within.few_monitors is.within.few_members in
    let behind : List ℕ = monitor_table p.monitors ++ (number p.start ++ (code_table p.code ++ rest)) in
    let apart : spelling p ++ rest ≡ magic ++ (version p.version ++ behind) = regrouped
    (version p.version) (monitor_table p.monitors) (number p.start) (code_table p.code) rest in
    ap image_at apart ∙ rw (
      fixed_again magic BadMagic (version p.version ++ behind),
      version_again p.version behind has,
      monitors,
      start,
      code,
    ) refl

pub program_again : (p : Program) → HasByte p.version → IsSpelled p → program_of (spelling p) ≡ Ok p
unfolding program_of
program_again p has is =
    let read : image_at (spelling p) ≡ Ok (p, []) = ap image_at (sym (append-nil (spelling p))) ∙ image_again p [] has is in
    rw read (rw (lies_again p is.within) refl)

-- ---- what decoding answers

pub is_found : (bytes : List ℕ) (r : Result Program DecodeFault) → IsBytes bytes → Gives (λ p. p) r
    (program_of bytes) → IfOk r (λ p. HasByte p.version × IsSpelled p × (spelling p ≡ bytes))
is_found bytes (Ok p) fits given = program_takes bytes p fits given
is_found bytes (Err e) fits given = tt

is_memory : (e : DecodeFault) → ((e ≡ Memory → ⊥) → ⊥) → e ≡ Memory
is_memory BadMagic h = absurd (h (λ e. absurd cc))
is_memory Version h = absurd (h (λ e. absurd cc))
is_memory Short h = absurd (h (λ e. absurd cc))
is_memory BadInstr h = absurd (h (λ e. absurd cc))
is_memory BadTarget h = absurd (h (λ e. absurd cc))
is_memory Trailing h = absurd (h (λ e. absurd cc))
is_memory Limit h = absurd (h (λ e. absurd cc))
is_memory Memory h = refl

pub is_only : (bytes : List ℕ) (r : Result Program DecodeFault) → Gives (λ p. p) r (program_of bytes) → (p : Program)
    → HasByte p.version → IsSpelled p → spelling p ≡ bytes → MatchResult r (λ i. i ≡ p) (λ e. e ≡ Memory)
is_only bytes (Ok i) given p has is same = ok_is i p (sym given ∙ ap program_of (sym same) ∙ program_again p has is)
is_only bytes (Err e) given p has is same = is_memory e (λ other. let both : Err e ≡ Ok p = sym (given other)
    ∙ ap program_of (sym same) ∙ program_again p has is in absurd cc)

-- an image has one spelling
pub one_program : (p q : Program) → HasByte p.version → HasByte q.version → IsSpelled p → IsSpelled q
    → spelling p ≡ spelling q → p ≡ q
one_program p q has too is also same =
    ok_is p q (sym (program_again p has is) ∙ ap program_of same ∙ program_again q too also)

-- the same program as one of version two, which has as many limits, and the bytes of the layout without a byte
as_two : Program → Program
as_two p = record p { version = Two }

spelled_two : (p : Program) → IsSpelled p → IsSpelled (as_two p)
unfolding as_two
spelled_two p is = record {
  within = record {
    few_monitors = is.within.few_monitors;
    few_members = is.within.few_members;
    short = is.within.short;
    starts = is.within.starts;
    instructions = is.within.instructions;
    targets = is.within.targets;
  };
  words = is.words;
}

bytes_two : (p : Program) → p.version ≡ Linux → spelling (as_two p) ≡ spelling p
unfolding as_two
bytes_two p linux = ap (λ (v : ImageVersion). magic ++ version v ++ monitor_table p.monitors ++ number p.start
    ++ code_table p.code) (sym linux)

-- an image of any version has bytes that no other of that version has
pub same_program : (p q : Program) → p.version ≡ q.version → IsSpelled p → IsSpelled q → spelling p ≡ spelling q
    → p ≡ q
unfolding as_two
same_program p q versions is also same = of_version p.version refl
  where
    of_version : (v : ImageVersion) → p.version ≡ v → p ≡ q
    of_version One so = one_program p q (subst HasByte (sym so) tt) (subst HasByte (sym (sym versions ∙ so)) tt) is
        also same
    of_version Two so = one_program p q (subst HasByte (sym so) tt) (subst HasByte (sym (sym versions ∙ so)) tt) is
        also same
    of_version Linux so =
        let e : as_two p ≡ as_two q = one_program (as_two p) (as_two q) tt tt (spelled_two p is) (spelled_two q also)
        (bytes_two p so ∙ same ∙ sym (bytes_two q (sym versions ∙ so))) in
        λ i. record {
          version = versions i;
          monitors = ap (λ (r : Program). r.monitors) e i;
          start = ap (λ (r : Program). r.start) e i;
          code = ap (λ (r : Program). r.code) e i;
        }
