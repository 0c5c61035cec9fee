-- A field that is read is the field that was spelled, and a field that is spelled is read.
use Rattle.std.proofs.Common.{◌≡◌, ℕ, zero, suc, ◌+◌, ◌-◌, ◌<◌, ◌≤◌, ◌^◌, cond, ltb, eqb, inl, inr, List, [], ◌∷◌}
use Rattle.std.proofs.Common.{◌++◌, length, sum, Option, Some, None, Ok, Err, refl, sym, ap, subst, ◌∙◌, append_assoc}
use Rattle.std.proofs.Common.{arith}
use Rattle.std.specs.List.{AllByRecursion}
use Rattle.std.specs.Prelude.{option_map}
use Rattle.std.proofs.lemmas.Bool.{ltb-true, ltb-false, lt-ltb, le-ltb, eqb-true, eq-eqb}
use Rattle.std.proofs.lemmas.List.{append-nil}
use Rattle.std.proofs.lemmas.List.Concat.{flat_map-cons}
use Rattle.std.proofs.lemmas.List.Sums.{sum_by-cons}
use Rattle.isa.specs.Limits.{most_monitors, most_member_words, most_instructions, most_locals}
use Rattle.isa.specs.declared.fault.DecodeFault.{DecodeFault}
use Rattle.isa.specs.declared.fault.DecodeFault.TheVariants.{Version, Limit}
use Rattle.isa.specs.declared.instr.Instr.{Instr}
use Rattle.isa.specs.declared.instr.Instr.TheVariants.{Push, GetLocal, SetLocal, Pop, Operate, Negate, Not, Jump}
use Rattle.isa.specs.declared.instr.Instr.TheVariants.{JumpIfZero, Call, Ret, RetValue, Index, OwnNumber}
use Rattle.isa.specs.declared.instr.Instr.TheVariants.{ProcessAddress, Raise, Load, Store, Swap, CompareSwap, FetchOr}
use Rattle.isa.specs.declared.instr.Instr.TheVariants.{FetchAdd, Fork, Print, FutexWait, FutexWake, FutexRequeue}
use Rattle.isa.specs.declared.operator.Operator.TheVariants.{Add, Sub, Mul, Div, Mod, Eq, Ne, Lt, Le, Gt, Ge, BitAnd}
use Rattle.isa.specs.declared.operator.Operator.TheVariants.{BitOr}
use Rattle.isa.specs.declared.slot.Slot.{Slot}
use Rattle.isa.specs.declared.slot.Slot.TheVariants.{Local, Template}
use Rattle.isa.specs.Instructions.{slot_number, operands, IsSlot, IsInstruction}
use Rattle.isa.specs.Numbers.{number}
use Rattle.isa.specs.Opcodes.{row_of, process_words, faults, slot_of, plain_opcodes, Form, with_one, with_two}
use Rattle.isa.specs.Opcodes.{place_opcodes, operand_opcodes, opcode}
use Rattle.words.specs.declared.version.ImageVersion.{ImageVersion}
use Rattle.words.specs.declared.version.ImageVersion.TheVariants.{One, Two, Linux}
use Rattle.words.specs.declared.outcome.Fault.{Fault}
use Rattle.words.specs.declared.outcome.Fault.TheVariants.{ResultOutOfRange, DivisionByZero, IndexOutOfRange}
use Rattle.words.specs.declared.outcome.Fault.TheVariants.{HandleNotJoinable, ProcessTableFull, AbortStatement}
use Rattle.words.specs.declared.outcome.Fault.TheVariants.{AbandonedMonitor, JoinedAborted}
use Rattle.words.specs.declared.process.ProcessWord.{ProcessWord}
use Rattle.words.specs.declared.process.ProcessWord.TheVariants.{Head, Pending, Id, Claim, Result, Outcome}
use Rattle.words.specs.Outcomes.{fault_number}
use Rattle.words.specs.Process.{number_of}
use Rattle.isa.specs.Spelling.{HasByte, version, numbers, instruction, instructions, monitor_table, code_table, AreWords}
use Rattle.isa.specs.Reading.{◌>>=◌, fixed_at, version_at, number_at, limited_at, numbers_at, monitors_at, made_at}
use Rattle.isa.specs.Reading.{operands_at, behind_opcode, instruction_at, instructions_at, code_at}
use Rattle.isa.proofs.NumberLaws.{groups_take, groups_again}
use Rattle.isa.proofs.Parts.{bind_ok, guard_ok, chosen, done, ok_is, IsBytes, IsBytes-rest, Takes, Takes-nothing}
use Rattle.isa.proofs.Parts.{Takes-then}

pub number_takes : (bytes : List ℕ) (x : ℕ × List ℕ) → IsBytes bytes → number_at bytes ≡ Ok x → Takes bytes
    (number x.0) x.1 × (x.0 < 2 ^ 32)
number_takes bytes x fits e = groups_take 4 bytes x fits e

pub number_again : (n : ℕ) (rest : List ℕ) → n < 2 ^ 32 → number_at (number n ++ rest) ≡ Ok (n, rest)
number_again n rest lt = groups_again 4 n rest lt

-- ---- fixed bytes

pub fixed_takes : (wanted : List ℕ) (fault : DecodeFault) (bytes rest : List ℕ) → IsBytes bytes → fixed_at wanted
    fault bytes ≡ Ok rest → Takes bytes wanted rest
unfolding fixed_at
fixed_takes [] fault bytes rest fits e = subst (λ (y : List ℕ). Takes bytes [] y) (ok_is bytes rest e)
    (Takes-nothing bytes fits)
fixed_takes (b ∷ wanted) fault [] rest fits e = absurd cc
fixed_takes (b ∷ wanted) fault (c ∷ bytes) rest fits e =
    elim (chosen (eqb c b) (fixed_at wanted fault bytes) (Err fault) (Ok rest) e) [
      | inl w ↦
          let above = fixed_takes wanted fault bytes rest (IsBytes-rest c bytes fits) w.1 in
          let same : c ≡ b = eqb-true c b w.0 in
          record { parts = rw (same, above.parts) refl; rest_fits = above.rest_fits }
      | inr w ↦ absurd (cc (w.1))
    ]

pub fixed_again : (wanted : List ℕ) (fault : DecodeFault) (rest : List ℕ) → fixed_at wanted fault (wanted ++ rest)
    ≡ Ok rest
unfolding fixed_at
fixed_again [] fault rest = refl
fixed_again (b ∷ wanted) fault rest = rw (eq-eqb b b refl) (fixed_again wanted fault rest)

-- ---- the version

pub version_takes : (bytes : List ℕ) (x : ImageVersion × List ℕ) → IsBytes bytes → version_at bytes ≡ Ok x → Takes
    bytes (version x.0) x.1
unfolding version_at
version_takes [] x fits e = absurd cc
version_takes (b ∷ bytes) x fits e =
    elim (chosen (eqb b 1) (Ok (One, bytes)) (cond (eqb b 2) (Ok (Two, bytes)) (Err Version)) (Ok x) e) [
      | inl w ↦ is_version One (ap (λ (n : ℕ). n ∷ []) (eqb-true b 1 w.0)) w.1
      | inr w ↦ elim (chosen (eqb b 2) (Ok (Two, bytes)) (Err Version) (Ok x) w.1) [
        | inl v ↦ is_version Two (ap (λ (n : ℕ). n ∷ []) (eqb-true b 2 v.0)) v.1
        | inr v ↦ absurd (cc (v.1))
      ]
    ]
  where
    is_version : (v : ImageVersion) → b ∷ [] ≡ version v → done (v, bytes) ≡ Ok x → Takes (b ∷ bytes) (version x.0) x.1
    is_version v byte same = subst (λ (y : ImageVersion × List ℕ). Takes (b ∷ bytes) (version y.0) y.1)
        (ok_is (v, bytes) x same) (record {
          parts = ap (λ (text : List ℕ). text ++ bytes) byte;
          rest_fits = IsBytes-rest b bytes fits;
        })

-- a version that was read has a byte
pub version_written : (bytes : List ℕ) (x : ImageVersion × List ℕ) → version_at bytes ≡ Ok x → HasByte x.0
unfolding version_at
version_written [] x e = absurd cc
version_written (b ∷ bytes) x e =
    elim (chosen (eqb b 1) (Ok (One, bytes)) (cond (eqb b 2) (Ok (Two, bytes)) (Err Version)) (Ok x) e) [
      | inl w ↦ subst (λ (y : ImageVersion × List ℕ). HasByte y.0) (ok_is (One, bytes) x w.1) tt
      | inr w ↦ elim (chosen (eqb b 2) (Ok (Two, bytes)) (Err Version) (Ok x) w.1) [
        | inl v ↦ subst (λ (y : ImageVersion × List ℕ). HasByte y.0) (ok_is (Two, bytes) x v.1) tt
        | inr v ↦ absurd (cc (v.1))
      ]
    ]

pub version_again : (v : ImageVersion) (rest : List ℕ) → HasByte v → version_at (version v ++ rest) ≡ Ok (v, rest)
unfolding version_at
version_again One rest has = refl
version_again Two rest has = refl
version_again Linux rest has = absurd has

-- ---- a number up to a limit

pub limited_is : (limit : ℕ) (bytes : List ℕ) (x : ℕ × List ℕ) → limited_at limit bytes ≡ Ok x
    → (number_at bytes ≡ Ok x) × (x.0 ≤ limit)
unfolding limited_at
limited_is limit bytes x e =
    let a = bind_ok (number_at bytes) (λ n. cond (ltb limit n.0) (Err Limit) (Ok n)) x e in
    let g = guard_ok (ltb limit a.0.0) Limit a.0 x a.2 in
    subst (λ (y : ℕ × List ℕ). (number_at bytes ≡ Ok y) × (y.0 ≤ limit)) g.1 (a.1, ltb-false limit a.0.0 g.0)

limited_again : (limit n : ℕ) (rest : List ℕ) → n ≤ limit → limit < 2 ^ 32 → limited_at limit (number n ++ rest)
    ≡ Ok (n, rest)
unfolding limited_at
limited_again limit n rest le lt = rw (number_again n rest (omega arith)) (rw (le-ltb limit n le) refl)

-- ---- numbers up to a sum

numbers_take : (count limit : ℕ) (bytes : List ℕ) (x : List ℕ × List ℕ) → IsBytes bytes → numbers_at count limit
    bytes ≡ Ok x → Takes bytes (numbers x.0) x.1
unfolding numbers_at
numbers_take zero limit bytes x fits e = subst (λ (y : List ℕ × List ℕ). Takes bytes (numbers y.0) y.1)
    (ok_is ([], bytes) x e) (Takes-nothing bytes fits)
numbers_take (suc count) limit bytes x fits e =
    let a = bind_ok (limited_at limit bytes) (λ first. numbers_at count (limit - first.0) first.1 >>= λ others. Ok
    (first.0 ∷ others.0, others.1)) x e in
    let b = bind_ok (numbers_at count (limit - a.0.0) a.0.1) (λ others. Ok (a.0.0 ∷ others.0, others.1)) x a.2 in
    let first = number_takes bytes a.0 fits (limited_is limit bytes a.0 a.1).0 in
    let second = numbers_take count (limit - a.0.0) a.0.1 b.0 first.0.rest_fits b.1 in
    let both = Takes-then bytes (number a.0.0) a.0.1 (numbers b.0.0) b.0.1 first.0 second in
    let made : List ℕ × List ℕ = (a.0.0 ∷ b.0.0, b.0.1) in
    subst (λ (y : List ℕ × List ℕ). Takes bytes (numbers y.0) y.1) (ok_is made x b.2) (rw flat_map-cons both)

numbers_bound : (count limit : ℕ) (bytes : List ℕ) (x : List ℕ × List ℕ) → numbers_at count limit bytes ≡ Ok x
    → (length x.0 ≡ count) × (sum x.0 ≤ limit)
unfolding numbers_at
numbers_bound zero limit bytes x e = subst (λ (y : List ℕ × List ℕ). (length y.0 ≡ 0) × (sum y.0 ≤ limit))
    (ok_is ([], bytes) x e) (refl, omega arith)
numbers_bound (suc count) limit bytes x e =
    let a = bind_ok (limited_at limit bytes) (λ first. numbers_at count (limit - first.0) first.1 >>= λ others. Ok
    (first.0 ∷ others.0, others.1)) x e in
    let b = bind_ok (numbers_at count (limit - a.0.0) a.0.1) (λ others. Ok (a.0.0 ∷ others.0, others.1)) x a.2 in
    let within = (limited_is limit bytes a.0 a.1).1 in
    let others = numbers_bound count (limit - a.0.0) a.0.1 b.0 b.1 in
    let made : List ℕ × List ℕ = (a.0.0 ∷ b.0.0, b.0.1) in
    subst (λ (y : List ℕ × List ℕ). (length y.0 ≡ suc count) × (sum y.0 ≤ limit)) (ok_is made x b.2)
    (ap suc others.0, omega (arith, within, others.1, sum_by-cons (λ (n : ℕ). n) a.0.0 b.0.0))

numbers_again : (ns : List ℕ) (limit : ℕ) (rest : List ℕ) → sum ns ≤ limit → limit < 2 ^ 32 → numbers_at (length ns)
    limit (numbers ns ++ rest) ≡ Ok (ns, rest)
unfolding numbers_at
numbers_again [] limit rest le lt = refl
numbers_again (n ∷ ns) limit rest le lt =
    let total : sum (n ∷ ns) ≡ n + sum ns = sum_by-cons (λ (m : ℕ). m) n ns in
    let regrouped : numbers (n ∷ ns) ++ rest ≡ number n ++ (numbers ns ++ rest) = ap (λ (x : List ℕ). x ++ rest)
    (flat_map-cons number n ns) ∙ append_assoc (number n) (numbers ns) rest in
    ap (numbers_at (suc (length ns)) limit) regrouped ∙ rw (
      limited_again limit n (numbers ns ++ rest)
          (omega (arith, total, le)) lt,
      numbers_again ns (limit - n) rest (omega (arith, total, le)) (omega arith),
    )
    refl

-- ---- the table of monitors

pub monitors_take : (bytes : List ℕ) (x : List ℕ × List ℕ) → IsBytes bytes → monitors_at bytes ≡ Ok x → Takes bytes
    (monitor_table x.0) x.1
unfolding monitors_at
monitors_take bytes x fits e =
    let a = bind_ok (limited_at most_monitors bytes) (λ count. numbers_at count.0 most_member_words count.1) x e in
    let first = number_takes bytes a.0 fits (limited_is most_monitors bytes a.0 a.1).0 in
    let second = numbers_take a.0.0 most_member_words a.0.1 x first.0.rest_fits a.2 in
    rw (numbers_bound a.0.0 most_member_words a.0.1 x a.2).0 (Takes-then bytes (number a.0.0) a.0.1 (numbers x.0) x.1
    first.0 second)

pub monitors_bound : (bytes : List ℕ) (x : List ℕ × List ℕ) → monitors_at bytes ≡ Ok x → (length x.0 ≤ most_monitors)
    × (sum x.0 ≤ most_member_words)
unfolding monitors_at
monitors_bound bytes x e =
    let a = bind_ok (limited_at most_monitors bytes) (λ count. numbers_at count.0 most_member_words count.1) x e in
    let within = (limited_is most_monitors bytes a.0 a.1).1 in
    let b = numbers_bound a.0.0 most_member_words a.0.1 x a.2 in
    (omega (arith, b.0, within), b.1)

pub monitors_again : (ns rest : List ℕ) → length ns ≤ most_monitors → sum ns ≤ most_member_words → monitors_at
    (monitor_table ns ++ rest) ≡ Ok (ns, rest)
unfolding monitors_at
monitors_again ns rest few small =
    ap monitors_at (append_assoc (number (length ns)) (numbers ns) rest) ∙ rw (limited_again most_monitors
    (length ns) (numbers ns ++ rest) few (omega arith)) (numbers_again ns most_member_words rest small
    (omega arith))

-- ---- a row of a table

row_is : {A : Type 0} (P : ℕ → A → Type 0) (table : List (ℕ × A)) (n : ℕ) (x : A) → AllByRecursion
    (λ row. P row.0 row.1) table → row_of table n ≡ Some x → P n x
row_is P [] n x each e = absurd cc
row_is P (row ∷ table) n x each e =
    elim (chosen (eqb n row.0) (Some row.1) (row_of table n) (Some x) e) [
      | inl w ↦
          let same : n ≡ row.0 = eqb-true n row.0 w.0 in
          let this : row.1 ≡ x = cc in
          rw (same, ← this) each.0
      | inr w ↦ row_is P table n x each.1 w.1
    ]

some_is : {A : Type 0} (x y : A) → Some x ≡ Some y → x ≡ y
some_is x y e = cc

mapped : {A : Type 0} (make : A → Instr) (o : Option A) (i : Instr) → option_map make o ≡ Some i → (x : A)
    × (o ≡ Some x) × (make x ≡ i)
mapped make None i e = absurd cc
mapped make (Some x) i e = (x, refl, some_is (make x) i e)

-- ---- locals, words of processes and faults by their numbers

slot_is : (n : ℕ) (s : Slot) → slot_of n ≡ Some s → (slot_number s ≡ n) × IsSlot s
slot_is n s e =
    elim (chosen (ltb n most_locals) (Some (Local n)) (cond (eqb n most_locals) (Some Template) None) (Some s) e) [
      | inl w ↦ subst (λ (t : Slot). (slot_number t ≡ n) × IsSlot t) (some_is (Local n) s w.1)
          (refl, ltb-true n most_locals w.0)
      | inr w ↦ elim (chosen (eqb n most_locals) (Some Template) None (Some s) w.1) [
        | inl v ↦ subst (λ (t : Slot). (slot_number t ≡ n) × IsSlot t) (some_is Template s v.1)
            (sym (eqb-true n most_locals v.0), tt)
        | inr v ↦ absurd (cc (v.1))
      ]
    ]

slot_again : (s : Slot) → IsSlot s → slot_of (slot_number s) ≡ Some s
slot_again (Local n) lt = rw (lt-ltb n most_locals lt) refl
slot_again Template is = refl

word_is : (k : ℕ) (w : ProcessWord) → row_of process_words k ≡ Some w → number_of w ≡ k
word_is k w e = row_is (λ n v. number_of v ≡ n) process_words k w (refl, (refl, (refl, (refl, (refl, (refl, tt)))))) e

word_again : (w : ProcessWord) → row_of process_words (number_of w) ≡ Some w
word_again Head = refl
word_again Pending = refl
word_again Id = refl
word_again Claim = refl
word_again Result = refl
word_again Outcome = refl

fault_is : (k : ℕ) (f : Fault) → row_of faults k ≡ Some f → fault_number f ≡ k
fault_is k f e = row_is (λ n g. fault_number g ≡ n) faults k f
    (refl, (refl, (refl, (refl, (refl, (refl, (refl, (refl, tt)))))))) e

fault_again : (f : Fault) → row_of faults (fault_number f) ≡ Some f
fault_again ResultOutOfRange = refl
fault_again DivisionByZero = refl
fault_again IndexOutOfRange = refl
fault_again HandleNotJoinable = refl
fault_again ProcessTableFull = refl
fault_again AbortStatement = refl
fault_again AbandonedMonitor = refl
fault_again JoinedAborted = refl

-- ---- an instruction

-- an instruction with this opcode and these operands, within its limits
abbrev IsMade : ℕ → List ℕ → Instr → Type 0
IsMade op ns i = (opcode i ≡ op) × (operands i ≡ ns) × IsInstruction i

abbrev IsRow : ℕ → Form → Type 0
IsRow op (with_one make) = (n : ℕ) (i : Instr) → make n ≡ Some i → IsMade op (n ∷ []) i
IsRow op (with_two make) = (n m : ℕ) (i : Instr) → make n m ≡ Some i → IsMade op (n ∷ m ∷ []) i

is_made : (op : ℕ) (ns : List ℕ) (j i : Instr) → j ≡ i → IsMade op ns j → IsMade op ns i
is_made op ns j i same made = subst (λ (k : Instr). IsMade op ns k) same made

-- the two readings of the tables agree
plain_rows : AllByRecursion (λ row. IsMade row.0 [] row.1) plain_opcodes
plain_rows = (
  (refl, refl, tt),
  (
    (refl, refl, tt),
    (
      (refl, refl, tt),
      (
        (refl, refl, tt),
        (
          (refl, refl, tt),
          (
            (refl, refl, tt),
            (
              (refl, refl, tt),
              (
                (refl, refl, tt),
                (
                  (refl, refl, tt),
                  (
                    (refl, refl, tt),
                    (
                      (refl, refl, tt),
                      (
                        (refl, refl, tt),
                        (
                          (refl, refl, tt),
                          (
                            (refl, refl, tt),
                            (
                              (refl, refl, tt),
                              (
                                (refl, refl, tt),
                                (
                                  (refl, refl, tt),
                                  (
                                    (refl, refl, tt),
                                    (
                                      (refl, refl, tt),
                                      (
                                        (refl, refl, tt),
                                        (
                                          (refl, refl, tt),
                                          (
                                            (refl, refl, tt),
                                            (
                                              (refl, refl, tt),
                                              (
                                                (refl, refl, tt),
                                                (
                                                  (refl, refl, tt),
                                                  (
                                                    (refl, refl, tt),
                                                    ((refl, refl, tt), ((refl, refl, tt), ((refl, refl, tt), tt))),
                                                  ),
                                                ),
                                              ),
                                            ),
                                          ),
                                        ),
                                      ),
                                    ),
                                  ),
                                ),
                              ),
                            ),
                          ),
                        ),
                      ),
                    ),
                  ),
                ),
              ),
            ),
          ),
        ),
      ),
    ),
  ),
)

place_rows : AllByRecursion (λ row. IsRow row.0 row.1) place_opcodes
place_rows = (
  (λ n i e. is_made 0x14 (n ∷ []) (Jump n) i (some_is (Jump n) i e) (refl, refl, tt)),
  (
    (λ n i e. is_made 0x15 (n ∷ []) (JumpIfZero n) i (some_is (JumpIfZero n) i e) (refl, refl, tt)),
    (
      (λ n i e. is_made 0x16 (n ∷ []) (Call n) i (some_is (Call n) i e) (refl, refl, tt)),
      (
        (λ n m i e. fork n m i e),
        tt,
      ),
    ),
  ),
)
  where
    fork : (n m : ℕ) (i : Instr) → cond (ltb 16 m) None (Some (Fork n m)) ≡ Some i → IsMade 0x26 (n ∷ m ∷ []) i
    fork n m i e =
        elim (chosen (ltb 16 m) None (Some (Fork n m)) (Some i) e) [
          | inl w ↦ absurd (cc (w.1))
          | inr w ↦ is_made 0x26 (n ∷ m ∷ []) (Fork n m) i (some_is (Fork n m) i w.1) (refl, refl, ltb-false 16 m w.0)
        ]

rows : AllByRecursion (λ row. IsRow row.0 row.1) operand_opcodes
rows = (
  (λ n i e. is_made 0x01 (n ∷ []) (Push n) i (some_is (Push n) i e) (refl, refl, tt)),
  (
    (λ n i e.
        let a = mapped (λ slot. GetLocal slot) (slot_of n) i e in
        let s = slot_is n a.0 a.1 in
        is_made 0x02 (n ∷ []) (GetLocal a.0) i a.2 (refl, ap (λ (k : ℕ). k ∷ []) s.0, s.1)),
    (
      (λ n i e.
          let a = mapped (λ slot. SetLocal slot) (slot_of n) i e in
          let s = slot_is n a.0 a.1 in
          is_made 0x03 (n ∷ []) (SetLocal a.0) i a.2 (refl, ap (λ (k : ℕ). k ∷ []) s.0, s.1)),
      (
        (λ n m i e. is_made 0x19 (n ∷ m ∷ []) (Index n m) i (some_is (Index n m) i e) (refl, refl, tt)),
        (
          (λ n i e.
              let a = mapped (λ word. ProcessAddress word) (row_of process_words n) i e in
              is_made 0x1b (n ∷ []) (ProcessAddress a.0) i a.2 (refl, ap (λ (k : ℕ). k ∷ []) (word_is n a.0 a.1), tt)),
          (
            (λ n i e.
                let a = mapped (λ fault. Raise fault) (row_of faults n) i e in
                is_made 0x1c (n ∷ []) (Raise a.0) i a.2 (refl, ap (λ (k : ℕ). k ∷ []) (fault_is n a.0 a.1), tt)),
            place_rows,
          ),
        ),
      ),
    ),
  ),
)

made_ok : (o : Option Instr) (rest : List ℕ) (x : Instr × List ℕ) → made_at o rest ≡ Ok x → (o ≡ Some x.0)
    × (rest ≡ x.1)
made_ok None rest x e = absurd cc
made_ok (Some i) rest x e = let same : (i, rest) ≡ x = ok_is (i, rest) x e in (
  ap (λ (y : Instr × List ℕ). Some y.0)
      same,
  ap (λ (y : Instr × List ℕ). y.1) same,
)

taken : (op : ℕ) (ns bytes rest : List ℕ) (x : Instr × List ℕ) → IsMade op ns x.0 → rest ≡ x.1 → Takes bytes
    (numbers ns) rest → AreWords ns
    → Takes bytes (numbers (operands x.0)) x.1 × (opcode x.0 ≡ op) × AreWords (operands x.0)
taken op ns bytes rest x made same whole words = rw (made.1, ← same) (whole, made.0, words)

operands_take : (op : ℕ) (form : Option Form) (bytes : List ℕ) (x : Instr × List ℕ) → row_of operand_opcodes op
    ≡ form → IsBytes bytes → operands_at form bytes ≡ Ok x
    → Takes bytes (numbers (operands x.0)) x.1 × (opcode x.0 ≡ op) × AreWords (operands x.0)
unfolding operands_at
operands_take op None bytes x is fits e = absurd cc
operands_take op (Some (with_one make)) bytes x is fits e =
    let a = bind_ok (number_at bytes) (λ n. made_at (make n.0) n.1) x e in
    let m = made_ok (make a.0.0) a.0.1 x a.2 in
    let row : IsMade op (a.0.0 ∷ []) x.0 = row_is IsRow operand_opcodes op (with_one make) rows is a.0.0 x.0 m.0 in
    let first = number_takes bytes a.0 fits a.1 in
    let whole : Takes bytes (numbers (a.0.0 ∷ [])) a.0.1 = Takes-then bytes (number a.0.0) a.0.1 [] a.0.1 first.0
    (Takes-nothing a.0.1 first.0.rest_fits) in
    taken op (a.0.0 ∷ []) bytes a.0.1 x row m.1 whole (first.1, tt)
operands_take op (Some (with_two make)) bytes x is fits e =
    let a = bind_ok (number_at bytes) (λ n. number_at n.1 >>= λ m. made_at (make n.0 m.0) m.1) x e in
    let b = bind_ok (number_at a.0.1) (λ m. made_at (make a.0.0 m.0) m.1) x a.2 in
    let m = made_ok (make a.0.0 b.0.0) b.0.1 x b.2 in
    let row : IsMade op (a.0.0 ∷ b.0.0 ∷ []) x.0 = row_is IsRow operand_opcodes op (with_two make) rows is a.0.0
    b.0.0 x.0 m.0 in
    let first = number_takes bytes a.0 fits a.1 in
    let second = number_takes a.0.1 b.0 first.0.rest_fits b.1 in
    let last : Takes a.0.1 (numbers (b.0.0 ∷ [])) b.0.1 = Takes-then a.0.1 (number b.0.0) b.0.1 [] b.0.1 second.0
    (Takes-nothing b.0.1 second.0.rest_fits) in
    let whole : Takes bytes (numbers (a.0.0 ∷ b.0.0 ∷ [])) b.0.1 = Takes-then bytes (number a.0.0) a.0.1
    (numbers (b.0.0 ∷ [])) b.0.1 first.0 last in
    taken op (a.0.0 ∷ b.0.0 ∷ []) bytes b.0.1 x row m.1 whole (first.1, (second.1, tt))

behind_takes : (op : ℕ) (plain : Option Instr) (bytes : List ℕ) (x : Instr × List ℕ) → row_of plain_opcodes op
    ≡ plain → IsBytes bytes → behind_opcode plain (row_of operand_opcodes op) bytes ≡ Ok x
    → Takes bytes (numbers (operands x.0)) x.1 × (opcode x.0 ≡ op) × AreWords (operands x.0)
unfolding behind_opcode
behind_takes op None bytes x is fits e = operands_take op (row_of operand_opcodes op) bytes x refl fits e
behind_takes op (Some i) bytes x is fits e =
    let row : IsMade op [] i = row_is (λ n j. IsMade n [] j) plain_opcodes op i plain_rows is in
    let taken : Takes bytes (numbers (operands i)) bytes × (opcode i ≡ op) × AreWords (operands i) = rw row.1
    (Takes-nothing bytes fits, row.0, tt) in
    subst (λ (y : Instr × List ℕ). Takes bytes (numbers (operands y.0)) y.1 × (opcode y.0 ≡ op) × AreWords
    (operands y.0)) (ok_is (i, bytes) x e) taken

instruction_takes : (bytes : List ℕ) (x : Instr × List ℕ) → IsBytes bytes → instruction_at bytes ≡ Ok x → Takes bytes
    (instruction x.0) x.1 × AreWords (operands x.0)
unfolding instruction_at
instruction_takes [] x fits e = absurd cc
instruction_takes (b ∷ bytes) x fits e =
    let t = behind_takes b (row_of plain_opcodes b) bytes x refl (IsBytes-rest b bytes fits) e in
    (record { parts = rw (t.1) (ap (λ (text : List ℕ). b ∷ text) t.0.parts); rest_fits = t.0.rest_fits }, t.2)

-- what was read is within its limits
operands_limit : (op : ℕ) (form : Option Form) (bytes : List ℕ) (x : Instr × List ℕ) → row_of operand_opcodes op
    ≡ form → operands_at form bytes ≡ Ok x → IsInstruction x.0
unfolding operands_at
operands_limit op None bytes x is e = absurd cc
operands_limit op (Some (with_one make)) bytes x is e =
    let a = bind_ok (number_at bytes) (λ n. made_at (make n.0) n.1) x e in
    (row_is IsRow operand_opcodes op (with_one make) rows is a.0.0 x.0 (made_ok (make a.0.0) a.0.1 x a.2).0).2
operands_limit op (Some (with_two make)) bytes x is e =
    let a = bind_ok (number_at bytes) (λ n. number_at n.1 >>= λ m. made_at (make n.0 m.0) m.1) x e in
    let b = bind_ok (number_at a.0.1) (λ m. made_at (make a.0.0 m.0) m.1) x a.2 in
    (row_is IsRow operand_opcodes op (with_two make) rows is a.0.0 b.0.0 x.0 (made_ok (make a.0.0 b.0.0) b.0.1 x
    b.2).0).2

behind_limit : (op : ℕ) (plain : Option Instr) (bytes : List ℕ) (x : Instr × List ℕ) → row_of plain_opcodes op
    ≡ plain → behind_opcode plain (row_of operand_opcodes op) bytes ≡ Ok x → IsInstruction x.0
unfolding behind_opcode
behind_limit op None bytes x is e = operands_limit op (row_of operand_opcodes op) bytes x refl e
behind_limit op (Some i) bytes x is e =
    subst (λ (y : Instr × List ℕ). IsInstruction y.0) (ok_is (i, bytes) x e) (row_is (λ n j. IsMade n [] j)
    plain_opcodes op i plain_rows is).2

instruction_limit : (bytes : List ℕ) (x : Instr × List ℕ) → instruction_at bytes ≡ Ok x → IsInstruction x.0
unfolding instruction_at
instruction_limit [] x e = absurd cc
instruction_limit (b ∷ bytes) x e = behind_limit b (row_of plain_opcodes b) bytes x refl e

-- the operands of a row with one number, and of one with two
one_again : (make : ℕ → Option Instr) (n : ℕ) (i : Instr) (rest : List ℕ) → n < 2 ^ 32 → make n ≡ Some i
    → operands_at (Some (with_one make)) (numbers (n ∷ []) ++ rest) ≡ Ok (i, rest)
unfolding operands_at
one_again make n i rest lt made =
    let regrouped : numbers (n ∷ []) ++ rest ≡ number n ++ rest = ap (λ (text : List ℕ). text ++ rest)
    (append-nil (number n)) in
    ap (operands_at (Some (with_one make))) regrouped ∙ rw (number_again n rest lt) (rw made refl)

two_again : (make : ℕ → ℕ → Option Instr) (n m : ℕ) (i : Instr) (rest : List ℕ) → n < 2 ^ 32 → m < 2 ^ 32 → make n m
    ≡ Some i → operands_at (Some (with_two make)) (numbers (n ∷ m ∷ []) ++ rest) ≡ Ok (i, rest)
unfolding operands_at
two_again make n m i rest lt also made =
    let regrouped : numbers (n ∷ m ∷ []) ++ rest ≡ number n ++ (number m ++ rest) = append_assoc (number n)
    (number m ++ []) rest ∙ ap (λ (text : List ℕ). number n ++ (text ++ rest)) (append-nil (number m)) in
    ap (operands_at (Some (with_two make))) regrouped ∙ rw (number_again n (number m ++ rest) lt)
    (rw (number_again m rest also) (rw made refl))

instruction_again : (i : Instr) (rest : List ℕ) → AreWords (operands i) → IsInstruction i → instruction_at
    (instruction i ++ rest) ≡ Ok (i, rest)
unfolding instruction_at behind_opcode
instruction_again (Push n) rest words is = one_again (λ k. Some (Push k)) n (Push n) rest words.0 refl
instruction_again (GetLocal slot) rest words is = one_again (λ n. option_map (λ s. GetLocal s) (slot_of n))
    (slot_number slot) (GetLocal slot) rest words.0 (rw (slot_again slot is) refl)
instruction_again (SetLocal slot) rest words is = one_again (λ n. option_map (λ s. SetLocal s) (slot_of n))
    (slot_number slot) (SetLocal slot) rest words.0 (rw (slot_again slot is) refl)
instruction_again (Jump place) rest words is = one_again (λ k. Some (Jump k)) place (Jump place) rest words.0 refl
instruction_again (JumpIfZero place) rest words is = one_again (λ k. Some (JumpIfZero k)) place (JumpIfZero place)
    rest words.0 refl
instruction_again (Call place) rest words is = one_again (λ k. Some (Call k)) place (Call place) rest words.0 refl
instruction_again (Index base size) rest words is = two_again (λ n m. Some (Index n m)) base size (Index base size)
    rest words.0 words.1.0 refl
instruction_again (ProcessAddress word) rest words is = one_again (λ k. option_map (λ w. ProcessAddress w)
    (row_of process_words k)) (number_of word) (ProcessAddress word) rest words.0 (rw (word_again word) refl)
instruction_again (Raise fault) rest words is = one_again (λ k. option_map (λ f. Raise f) (row_of faults k))
    (fault_number fault) (Raise fault) rest words.0 (rw (fault_again fault) refl)
instruction_again (Fork place arguments) rest words is = two_again (λ n m. cond (ltb 16 m) None (Some (Fork n m)))
    place arguments (Fork place arguments) rest words.0 words.1.0 (rw (le-ltb 16 arguments is) refl)
instruction_again Pop rest words is = refl
instruction_again (Operate Add) rest words is = refl
instruction_again (Operate Sub) rest words is = refl
instruction_again (Operate Mul) rest words is = refl
instruction_again (Operate Div) rest words is = refl
instruction_again (Operate Mod) rest words is = refl
instruction_again Negate rest words is = refl
instruction_again (Operate Eq) rest words is = refl
instruction_again (Operate Ne) rest words is = refl
instruction_again (Operate Lt) rest words is = refl
instruction_again (Operate Le) rest words is = refl
instruction_again (Operate Gt) rest words is = refl
instruction_again (Operate Ge) rest words is = refl
instruction_again (Operate BitAnd) rest words is = refl
instruction_again (Operate BitOr) rest words is = refl
instruction_again Not rest words is = refl
instruction_again Ret rest words is = refl
instruction_again RetValue rest words is = refl
instruction_again OwnNumber rest words is = refl
instruction_again Load rest words is = refl
instruction_again Store rest words is = refl
instruction_again Swap rest words is = refl
instruction_again CompareSwap rest words is = refl
instruction_again FetchOr rest words is = refl
instruction_again FetchAdd rest words is = refl
instruction_again Print rest words is = refl
instruction_again FutexWait rest words is = refl
instruction_again FutexWake rest words is = refl
instruction_again FutexRequeue rest words is = refl

-- ---- the code

instructions_take : (count : ℕ) (bytes : List ℕ) (x : List Instr × List ℕ) → IsBytes bytes → instructions_at count
    bytes ≡ Ok x
    → Takes bytes (instructions x.0) x.1 × (length x.0 ≡ count) × AllByRecursion (λ i. AreWords (operands i)) x.0
unfolding instructions_at
instructions_take zero bytes x fits e =
    subst (λ (y : List Instr × List ℕ). Takes bytes (instructions y.0) y.1 × (length y.0 ≡ 0) × AllByRecursion
    (λ i. AreWords (operands i)) y.0) (ok_is ([], bytes) x e) (Takes-nothing bytes fits, refl, tt)
instructions_take (suc count) bytes x fits e =
    let a = bind_ok (instruction_at bytes) (λ first. instructions_at count first.1 >>= λ others. Ok
    (first.0 ∷ others.0, others.1)) x e in
    let b = bind_ok (instructions_at count a.0.1) (λ others. Ok (a.0.0 ∷ others.0, others.1)) x a.2 in
    let first = instruction_takes bytes a.0 fits a.1 in
    let second = instructions_take count a.0.1 b.0 first.0.rest_fits b.1 in
    let both = Takes-then bytes (instruction a.0.0) a.0.1 (instructions b.0.0) b.0.1 first.0 second.0 in
    let made : List Instr × List ℕ = (a.0.0 ∷ b.0.0, b.0.1) in
    subst (λ (y : List Instr × List ℕ). Takes bytes (instructions y.0) y.1 × (length y.0 ≡ suc count)
    × AllByRecursion (λ i. AreWords (operands i)) y.0) (ok_is made x b.2) (
      rw flat_map-cons both,
      ap suc
          second.1,
      (first.1, second.2),
    )

instructions_count : (count : ℕ) (bytes : List ℕ) (x : List Instr × List ℕ) → instructions_at count bytes ≡ Ok x
    → length x.0 ≡ count
unfolding instructions_at
instructions_count zero bytes x e = subst (λ (y : List Instr × List ℕ). length y.0 ≡ 0) (ok_is ([], bytes) x e) refl
instructions_count (suc count) bytes x e =
    let a = bind_ok (instruction_at bytes) (λ first. instructions_at count first.1 >>= λ others. Ok
    (first.0 ∷ others.0, others.1)) x e in
    let b = bind_ok (instructions_at count a.0.1) (λ others. Ok (a.0.0 ∷ others.0, others.1)) x a.2 in
    let made : List Instr × List ℕ = (a.0.0 ∷ b.0.0, b.0.1) in
    subst (λ (y : List Instr × List ℕ). length y.0 ≡ suc count) (ok_is made x b.2)
    (ap suc (instructions_count count a.0.1 b.0 b.1))

instructions_limit : (count : ℕ) (bytes : List ℕ) (x : List Instr × List ℕ) → instructions_at count bytes ≡ Ok x
    → AllByRecursion IsInstruction x.0
unfolding instructions_at
instructions_limit zero bytes x e = subst (λ (y : List Instr × List ℕ). AllByRecursion IsInstruction y.0)
    (ok_is ([], bytes) x e) tt
instructions_limit (suc count) bytes x e =
    let a = bind_ok (instruction_at bytes) (λ first. instructions_at count first.1 >>= λ others. Ok
    (first.0 ∷ others.0, others.1)) x e in
    let b = bind_ok (instructions_at count a.0.1) (λ others. Ok (a.0.0 ∷ others.0, others.1)) x a.2 in
    let made : List Instr × List ℕ = (a.0.0 ∷ b.0.0, b.0.1) in
    subst (λ (y : List Instr × List ℕ). AllByRecursion IsInstruction y.0) (ok_is made x b.2)
    (instruction_limit bytes a.0 a.1, instructions_limit count a.0.1 b.0 b.1)

instructions_again : (is : List Instr) (rest : List ℕ) → AllByRecursion (λ i. AreWords (operands i)) is
    → AllByRecursion IsInstruction is → instructions_at (length is) (instructions is ++ rest) ≡ Ok (is, rest)
unfolding instructions_at
instructions_again [] rest words limits = refl
instructions_again (i ∷ is) rest words limits =
    let regrouped : instructions (i ∷ is) ++ rest ≡ instruction i ++ (instructions is ++ rest) = ap
    (λ (x : List ℕ). x ++ rest) (flat_map-cons instruction i is) ∙ append_assoc (instruction i) (instructions is)
    rest in
    ap (instructions_at (suc (length is))) regrouped ∙ rw (
      instruction_again i (instructions is ++ rest) words.0
          limits.0,
      instructions_again is rest words.1 limits.1,
    ) refl

pub code_takes : (bytes : List ℕ) (x : List Instr × List ℕ) → IsBytes bytes → code_at bytes ≡ Ok x → Takes bytes
    (code_table x.0) x.1 × AllByRecursion (λ i. AreWords (operands i)) x.0
unfolding code_at
code_takes bytes x fits e =
    let a = bind_ok (limited_at most_instructions bytes) (λ count. instructions_at count.0 count.1) x e in
    let first = number_takes bytes a.0 fits (limited_is most_instructions bytes a.0 a.1).0 in
    let second = instructions_take a.0.0 a.0.1 x first.0.rest_fits a.2 in
    (rw (second.1) (Takes-then bytes (number a.0.0) a.0.1 (instructions x.0) x.1 first.0 second.0), second.2)

pub code_bound : (bytes : List ℕ) (x : List Instr × List ℕ) → code_at bytes ≡ Ok x → length x.0 ≤ most_instructions
unfolding code_at
code_bound bytes x e =
    let a = bind_ok (limited_at most_instructions bytes) (λ count. instructions_at count.0 count.1) x e in
    rw (instructions_count a.0.0 a.0.1 x a.2) (limited_is most_instructions bytes a.0 a.1).1

pub code_limit : (bytes : List ℕ) (x : List Instr × List ℕ) → code_at bytes ≡ Ok x → AllByRecursion IsInstruction x.0
unfolding code_at
code_limit bytes x e =
    let a = bind_ok (limited_at most_instructions bytes) (λ count. instructions_at count.0 count.1) x e in
    instructions_limit a.0.0 a.0.1 x a.2

pub code_again : (is : List Instr) (rest : List ℕ) → length is ≤ most_instructions → AllByRecursion
    (λ i. AreWords (operands i)) is → AllByRecursion IsInstruction is → code_at (code_table is ++ rest)
    ≡ Ok (is, rest)
unfolding code_at
code_again is rest short words limits =
    ap code_at (append_assoc (number (length is)) (instructions is) rest) ∙ rw (limited_again most_instructions
    (length is) (instructions is ++ rest) short (omega arith)) (instructions_again is rest words limits)
