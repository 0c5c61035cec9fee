-- The words of the protocol have places of their own in a program's memory.
use Rattle.std.proofs.Common.{◌≡◌, ℕ, zero, suc, ◌<◌, ◌≤◌, ◌^◌, Bool, true, false, List, [], ◌∷◌, length, Option, Some}
use Rattle.std.proofs.Common.{None, slice_get, refl, ap, sym, ◌∙◌, subst, arith, lt-ltb, le-leb}
use Rattle.std.specs.Prelude.{◌&&◌, is_some, nat_le}
use Rattle.words.specs.declared.process.ProcessWord.TheVariants.{Head, Pending, Id, Claim, Result, Outcome}
use Rattle.words.specs.Process.{process_word}
use Rattle.words.specs.Versions.{most_of}
use Rattle.words.proofs.Versions.{most_few}
use Rattle.isa.specs.Programs.{memory_size}
use Rattle.program.specs.declared.kinds.MemberType.{MemberType}
use Rattle.program.specs.declared.kinds.MemberType.TheVariants.{Variable, Condition, Array}
use Rattle.program.specs.Trees.{Monitor, Program}
use Rattle.program.specs.declared.kinds.Member.{Member}
use Rattle.program.specs.Scope.{member_in, member_type}
use Rattle.proof_thread.specs.Variables.{is_condition}
use Rattle.program.specs.WellFormed.{WellFormed}
use Rattle.lowering.specs.Cells.{Cell as CodeCell, OfProcess, Link, Lock, OfMember, address, IsCell}
use Rattle.lowering.specs.Pieces.{code_of}
use Rattle.lowering.proofs.CellLaws.{cells_apart, cell_above}
use Rattle.lowering_limits.proofs.Memory.{size, inside}
use Rattle.protocol.specs.Cells.{Cell, LockOf, LinkOf, HeadOf, PendingOf, IdOf, ClaimOf, ResultOf, OutcomeOf}
use Rattle.protocol.specs.Cells.{SequenceOf}
use Rattle.protocol.specs.Memory.{IsApart}
use Rattle.protocol.specs.Exits.{IsLayout}
use Rattle.proof_templates.specs.Layout.{place, valid, is_process, is_monitor}
use Rattle.std.proofs.lemmas.Bool.{ltb-true, leb-true}

-- a word of the protocol as a word of the program, and back
abbrev pub in_code : Cell → CodeCell
in_code (LockOf m) = Lock m
in_code (LinkOf m) = Link m
in_code (HeadOf t) = OfProcess t Head
in_code (PendingOf t) = OfProcess t Pending
in_code (IdOf t) = OfProcess t Id
in_code (ClaimOf t) = OfProcess t Claim
in_code (ResultOf t) = OfProcess t Result
in_code (OutcomeOf t) = OfProcess t Outcome
in_code (SequenceOf c) = OfMember c 0

abbrev pub in_protocol : CodeCell → Cell
in_protocol (Lock m) = LockOf m
in_protocol (Link m) = LinkOf m
in_protocol (OfProcess t Head) = HeadOf t
in_protocol (OfProcess t Pending) = PendingOf t
in_protocol (OfProcess t Id) = IdOf t
in_protocol (OfProcess t Claim) = ClaimOf t
in_protocol (OfProcess t Result) = ResultOf t
in_protocol (OfProcess t Outcome) = OutcomeOf t
in_protocol (OfMember c k) = SequenceOf c

there_and_back : (a : Cell) → in_protocol (in_code a) ≡ a
there_and_back (LockOf m) = refl
there_and_back (LinkOf m) = refl
there_and_back (HeadOf t) = refl
there_and_back (PendingOf t) = refl
there_and_back (IdOf t) = refl
there_and_back (ClaimOf t) = refl
there_and_back (ResultOf t) = refl
there_and_back (OutcomeOf t) = refl
there_and_back (SequenceOf c) = refl

pub same_place : (p : Program) (a : Cell) → address p (in_code a) ≡ place p a
same_place p (LockOf m) = refl
same_place p (LinkOf m) = refl
same_place p (HeadOf t) = refl
same_place p (PendingOf t) = refl
same_place p (IdOf t) = refl
same_place p (ClaimOf t) = refl
same_place p (ResultOf t) = refl
same_place p (OutcomeOf t) = refl
same_place p (SequenceOf c) = omega arith

-- the number of a process
pub is_number : (p : Program) (u : ℕ) → is_process p u ≡ true → (0 < u) × (u ≤ most_of p.version)
is_number p u h = (ltb-true 0 u (first_holds _ _ h), leb-true u (most_of p.version) (second_holds _ _ h))
  where
    first_holds : (a b : Bool) → (a && b) ≡ true → a ≡ true
    first_holds true b h = refl
    first_holds false b h = absurd cc

    second_holds : (a b : Bool) → (a && b) ≡ true → b ≡ true
    second_holds true b h = h
    second_holds false b h = absurd cc

pub number_is : (p : Program) (u : ℕ) → 0 < u → u ≤ most_of p.version → is_process p u ≡ true
number_is p u some few =
    ap (λ b. b && nat_le u (most_of p.version)) (lt-ltb 0 u some) ∙ le-leb u (most_of p.version) few

monitor_there : (o : Option Monitor) → is_some o ≡ true → (x : Monitor) × (o ≡ Some x)
monitor_there None h = absurd cc
monitor_there (Some x) h = (x, refl)

pub condition_there : (o : Option Monitor) (n : ℕ) → is_condition (member_in o n) ≡ true
    → (x : Monitor) × (o ≡ Some x) × (slice_get x.members n ≡ Some Condition)
condition_there None n h = absurd cc
condition_there (Some x) n h = (x, refl, by_type (slice_get x.members n) h)
  where
    by_type : (o : Option MemberType) → is_condition o ≡ true → o ≡ Some Condition
    by_type None h = absurd cc
    by_type (Some (Variable t)) h = absurd cc
    by_type (Some Condition) h = refl
    by_type (Some (Array n)) h = absurd cc

pub is_cell : (p : Program) (a : Cell) → valid p a ≡ true → IsCell p (in_code a)
is_cell p (LockOf m) h = monitor_there (slice_get p.monitors m) h
is_cell p (LinkOf m) h = monitor_there (slice_get p.monitors m) h
is_cell p (HeadOf t) h = is_number p t h
is_cell p (PendingOf t) h = is_number p t h
is_cell p (IdOf t) h = is_number p t h
is_cell p (ClaimOf t) h = is_number p t h
is_cell p (ResultOf t) h = is_number p t h
is_cell p (OutcomeOf t) h = is_number p t h
is_cell p (SequenceOf c) h =
    let x = condition_there (slice_get p.monitors c.monitor) c.number h in (x.0, Condition, x.1, x.2, omega arith)

-- no two words of the protocol have one address
pub apart : (p : Program) → IsApart (place p) (valid p)
apart p a b ha hb e =
    let same = cells_apart p (in_code a) (in_code b) (is_cell p a ha) (is_cell p b hb)
    (same_place p a ∙ e ∙ sym (same_place p b)) in
    sym (there_and_back a) ∙ ap in_protocol same ∙ there_and_back b

-- the words of processes lie in the memory
pub word_lies : (p : Program) (u k : ℕ) → 0 < u → u ≤ most_of p.version → k ≤ 5
    → process_word u k < memory_size (code_of p)
word_lies p u k some few less = let s = size p in omega (arith, some, few, less, s)

-- which words there are
pub monitor_valid : (p : Program) (m : ℕ) → m < length p.monitors → is_monitor p m ≡ true
monitor_valid p m less = by_list p.monitors m less
  where
    by_list : (xs : List Monitor) (m : ℕ) → m < length xs → is_some (slice_get xs m) ≡ true
    by_list [] m less = absurd (omega (arith, less))
    by_list (x ∷ xs) zero less = refl
    by_list (x ∷ xs) (suc m) less = by_list xs m (omega (arith, less))

pub monitor_below : (p : Program) (m : ℕ) → is_monitor p m ≡ true → m < length p.monitors
monitor_below p m h = by_list p.monitors m h
  where
    by_list : (xs : List Monitor) (m : ℕ) → is_some (slice_get xs m) ≡ true → m < length xs
    by_list [] m h = absurd cc
    by_list (x ∷ xs) zero h = omega arith
    by_list (x ∷ xs) (suc m) h = let less = by_list xs m h in omega (arith, less)

pub sequence_valid : (p : Program) (c : Member) → member_type p c ≡ Some Condition → valid p (SequenceOf c) ≡ true
sequence_valid p c e = ap is_condition e

-- every word lies in the memory
pub valid_lies : (p : Program) (a : Cell) → valid p a ≡ true → place p a < memory_size (code_of p)
valid_lies p a h = subst (λ n. n < memory_size (code_of p)) (same_place p a) (inside p (in_code a) (is_cell p a h))

memory_small : (p : Program) → WellFormed p → memory_size (code_of p) < 2 ^ 32
memory_small p w =
    let s = size p in
    let most = most_few p.version in
    let few = w.monitors in
    let words = w.words in omega (arith, s, most, few, words)

-- the places are those of a layout
pub is_layout : (p : Program) → WellFormed p → IsLayout (place p) (valid p) (memory_size (code_of p))
is_layout p w = record {
  apart = apart p;
  entry = λ m h.
      let above = cell_above p (Link m) (is_cell p (LinkOf m) h) in
      let lies = valid_lies p (LockOf m) h in
      let small = memory_small p w in
      (above, omega (arith, lies), omega (arith, lies, small));
  lock = λ m h. (refl, h);
  pending = λ t h. refl;
  id = λ t h. refl;
}
