-- What is kept of the threads that are passed over agrees behind each change.
use Rattle.std.proofs.Common.{◌≡◌, ◌≢◌, ◌⊎◌, ℕ, zero, suc, ◌<◌, ◌≤◌, true, false, List, [], ◌∷◌, Option}
use Rattle.std.proofs.Common.{Some, None, slice_get, slice_set, inl, inr, refl, sym, ap, ◌∙◌, subst, arith}
use Rattle.std.specs.Int.{bit_at}
use Rattle.std.proofs.lemmas.Bool.{both_ways, cases_eq}
use Rattle.words.specs.Limits.{run_buckets}
use Rattle.machine.specs.ThreadSets.{has_bit, IsMember}
use Rattle.machine.proofs.Placing.{get_set_other}
use Rattle.piece_machine.specs.PieceConcrete.{PieceConcrete}
use Rattle.runner.specs.declared.passing_over.Waiting.{Waiting}
use Rattle.runner.specs.declared.thread_bits.ThreadBits.{ThreadBits}
use Rattle.runner.specs.Waits.{AllHeld, IsHeldIf, IsPassed, IsSound}

-- what stands where it was written
got_same : {A : Type 0} → (xs : List A) (i : ℕ) (y z : A) → slice_get (slice_set xs i y) i ≡ Some z → y ≡ z
got_same [] i y z h = absurd cc
got_same (x ∷ xs) zero y z h = cc
got_same (x ∷ xs) (suc i) y z h = got_same xs i y z h

got_there : {A : Type 0} → (xs : List A) (i : ℕ) (x y : A) → slice_get xs i ≡ Some x → slice_get (slice_set xs i y) i ≡ Some y
got_there [] i x y h = absurd cc
got_there (z ∷ zs) zero x y h = refl
got_there (z ∷ zs) (suc i) x y h = got_there zs i x y h

one_set : (a b : ThreadBits) → (let x : Option ThreadBits = Some a in x) ≡ (let y : Option ThreadBits = Some b in y) → a ≡ b
one_set a b h = cc

one_bucket : (a b : ℕ) → (let x : Option (Option ℕ) = Some (Some a) in x) ≡ (let y : Option (Option ℕ) = Some (Some b) in y)
    → a ≡ b
one_bucket a b h = cc

no_bucket : (a : ℕ) → (let x : Option (Option ℕ) = Some None in x) ≡ (let y : Option (Option ℕ) = Some (Some a) in y) → ⊥
no_bucket a h = cc

zero_one : (n : ℕ) → n ≡ 0 → n ≡ 1 → ⊥
zero_one n a b = absurd (omega (arith, a, b))

passed_inside : (w : Waiting) (t : ℕ) → IsSound w → IsMember t → (q : IsPassed w t) → q.bucket < run_buckets
passed_inside w t sound is q = sound.few t q.bucket (sound.named q.bucket t q.set q.at is.0 q.has)

-- a thread leaves the set of its bucket
pub left_sound : (w w' : Waiting) (t b : ℕ) (set new : ThreadBits) → IsSound w → slice_get w.wants t ≡ Some (Some b)
    → slice_get w.wanting b ≡ Some set → w'.wants ≡ slice_set w.wants t None → w'.wanting ≡ slice_set w.wanting b new
    → w'.shut ≡ w.shut → has_bit new.words t ≡ false
    → ((u : ℕ) → 1 ≤ u → u ≢ t → has_bit new.words u ≡ has_bit set.words u) → has_bit w'.ready.words t ≡ true
    → ((u : ℕ) → 1 ≤ u → u ≢ t → has_bit w'.ready.words u ≡ has_bit w.ready.words u) → IsSound w'
left_sound w w' t b set new sound wanted at wants wanting shut out same ready others = record {
  named = λ c u s there some is. elim (cases_eq c b) [
    | inl e ↦
        let one : new ≡ s = got_same w.wanting b new s
        (sym (ap (λ (xs : List ThreadBits). slice_get xs b) wanting)
        ∙ ap (slice_get w'.wanting) (sym e) ∙ there) in
        let has : has_bit new.words u ≡ true = ap (λ (z : ThreadBits). has_bit z.words u) one ∙ is in
        let other : u ≢ t = λ same_u. both_ways (has_bit new.words t) out
        (ap (has_bit new.words) (sym same_u) ∙ has) in
        noted u c other (sound.named b u set at some (sym (same u some other) ∙ has) ∙ ap (λ (n : ℕ). Some (Some n)) (sym e))
    | inr apart ↦
        let old : slice_get w.wanting c ≡ Some s = sym (get_set_other w.wanting b c new apart)
        ∙ sym (ap (λ (xs : List ThreadBits). slice_get xs c) wanting) ∙ there in
        let was = sound.named c u s old some is in
        noted u c (λ same_u. apart (one_bucket c b (sym was ∙ ap (slice_get w.wants) same_u ∙ wanted))) was
  ];
  passed = λ u is shut_out.
      let other : u ≢ t = λ same_u. both_ways (has_bit w'.ready.words t)
      (ap (has_bit w'.ready.words) (sym same_u) ∙ shut_out) ready in
      let q = sound.passed u is (sym (others u is.0 other) ∙ shut_out) in
      elim (cases_eq q.bucket b) [
        | inl e ↦
            let one : q.set ≡ set = one_set q.set set (sym q.at ∙ ap (slice_get w.wanting) e ∙ at) in
            record {
              bucket = b;
              set = new;
              at = ap (λ (xs : List ThreadBits). slice_get xs b) wanting ∙ got_there w.wanting b set new at;
              has = same u is.0 other ∙ ap (λ (z : ThreadBits). has_bit z.words u) (sym one) ∙ q.has;
              shut = ap (λ (n : ℕ). bit_at n b) shut ∙ ap (bit_at w.shut) (sym e) ∙ q.shut;
            }
        | inr apart ↦ record {
          bucket = q.bucket;
          set = q.set;
          at = ap (λ (xs : List ThreadBits). slice_get xs q.bucket) wanting ∙ get_set_other w.wanting b q.bucket new apart
              ∙ q.at;
          has = q.has;
          shut = ap (λ (n : ℕ). bit_at n q.bucket) shut ∙ q.shut;
        }
      ];
  few = λ u c is. elim (cases_eq u t) [
    | inl e ↦ absurd (no_bucket c (sym (got_there w.wants t (Some b) None wanted)
        ∙ sym (ap (λ (xs : List (Option ℕ)). slice_get xs t) wants) ∙ ap (slice_get w'.wants) (sym e) ∙ is))
    | inr other ↦ sound.few u c (sym (get_set_other w.wants t u None other)
        ∙ sym (ap (λ (xs : List (Option ℕ)). slice_get xs u) wants) ∙ is)
  ];
}
  where
    noted : (u c : ℕ) → u ≢ t → slice_get w.wants u ≡ Some (Some c) → slice_get w'.wants u ≡ Some (Some c)
    noted u c other is = ap (λ (xs : List (Option ℕ)). slice_get xs u) wants ∙ get_set_other w.wants t u None other ∙ is

-- a thread that stands in none comes into the set of a bucket
pub entered_sound : (w w' : Waiting) (t b : ℕ) (set new : ThreadBits) → IsSound w → slice_get w.wants t ≡ Some None
    → b < run_buckets → slice_get w.wanting b ≡ Some set → w'.wants ≡ slice_set w.wants t (Some b)
    → w'.wanting ≡ slice_set w.wanting b new → w'.shut ≡ w.shut → w'.ready ≡ w.ready → has_bit new.words t ≡ true
    → ((u : ℕ) → 1 ≤ u → u ≢ t → has_bit new.words u ≡ has_bit set.words u) → IsSound w'
entered_sound w w' t b set new sound none inside at wants wanting shut ready here same = record {
  named = λ c u s there some is. elim (cases_eq c b) [
    | inl e ↦
        let one : new ≡ s = got_same w.wanting b new s
        (sym (ap (λ (xs : List ThreadBits). slice_get xs b) wanting)
        ∙ ap (slice_get w'.wanting) (sym e) ∙ there) in
        let has : has_bit new.words u ≡ true = ap (λ (z : ThreadBits). has_bit z.words u) one ∙ is in
        elim (cases_eq u t) [
          | inl same_u ↦
              ap (slice_get w'.wants) same_u ∙ ap (λ (xs : List (Option ℕ)). slice_get xs t) wants
              ∙ got_there w.wants t None (Some b) none ∙ ap (λ (n : ℕ). Some (Some n)) (sym e)
          | inr other ↦
              noted u c other (sound.named b u set at some (sym (same u some other) ∙ has)
              ∙ ap (λ (n : ℕ). Some (Some n)) (sym e))
        ]
    | inr apart ↦
        let old : slice_get w.wanting c ≡ Some s = sym (get_set_other w.wanting b c new apart)
        ∙ sym (ap (λ (xs : List ThreadBits). slice_get xs c) wanting) ∙ there in
        let was = sound.named c u s old some is in
        noted u c (λ same_u. no_bucket c (sym none ∙ ap (slice_get w.wants) (sym same_u) ∙ was)) was
  ];
  passed = λ u is shut_out.
      let q = sound.passed u is (ap (λ (z : ThreadBits). has_bit z.words u) (sym ready) ∙ shut_out) in
      elim (cases_eq q.bucket b) [
        | inl e ↦
            let one : q.set ≡ set = one_set q.set set (sym q.at ∙ ap (slice_get w.wanting) e ∙ at) in
            record {
              bucket = b;
              set = new;
              at = ap (λ (xs : List ThreadBits). slice_get xs b) wanting ∙ got_there w.wanting b set new at;
              has = elim (cases_eq u t) [
                | inl same_u ↦ ap (has_bit new.words) same_u ∙ here
                | inr other ↦ same u is.0 other ∙ ap (λ (z : ThreadBits). has_bit z.words u) (sym one) ∙ q.has
              ];
              shut = ap (λ (n : ℕ). bit_at n b) shut ∙ ap (bit_at w.shut) (sym e) ∙ q.shut;
            }
        | inr apart ↦ record {
          bucket = q.bucket;
          set = q.set;
          at = ap (λ (xs : List ThreadBits). slice_get xs q.bucket) wanting ∙ get_set_other w.wanting b q.bucket new apart
              ∙ q.at;
          has = q.has;
          shut = ap (λ (n : ℕ). bit_at n q.bucket) shut ∙ q.shut;
        }
      ];
  few = λ u c is. elim (cases_eq u t) [
    | inl e ↦
        let one : b ≡ c = one_bucket b c (sym (got_there w.wants t None (Some b) none)
        ∙ sym (ap (λ (xs : List (Option ℕ)). slice_get xs t) wants) ∙ ap (slice_get w'.wants) (sym e) ∙ is) in
        subst (λ (n : ℕ). n < run_buckets) one inside
    | inr other ↦ sound.few u c (sym (get_set_other w.wants t u (Some b) other)
        ∙ sym (ap (λ (xs : List (Option ℕ)). slice_get xs u) wants) ∙ is)
  ];
}
  where
    noted : (u c : ℕ) → u ≢ t → slice_get w.wants u ≡ Some (Some c) → slice_get w'.wants u ≡ Some (Some c)
    noted u c other is = ap (λ (xs : List (Option ℕ)). slice_get xs u) wants ∙ get_set_other w.wants t u (Some b) other ∙ is

-- a bucket is opened
pub opened_sound : (w w' : Waiting) (b : ℕ) (set : ThreadBits) → IsSound w → slice_get w.wanting b ≡ Some set
    → w'.wants ≡ w.wants → w'.wanting ≡ w.wanting
    → ((c : ℕ) → c < run_buckets → c ≢ b → bit_at w'.shut c ≡ bit_at w.shut c)
    → ((u : ℕ) → has_bit w'.ready.words u ≡ false → (has_bit w.ready.words u ≡ false) × (has_bit set.words u ≡ false))
    → IsSound w'
opened_sound w w' b set sound at wants wanting shut ready = record {
  named = λ c u s there some is.
      ap (λ (xs : List (Option ℕ)). slice_get xs u) wants
      ∙ sound.named c u s (sym (ap (λ (xs : List ThreadBits). slice_get xs c) wanting) ∙ there) some is;
  passed = λ u is shut_out.
      let o = ready u shut_out in
      let q = sound.passed u is o.0 in
      let apart : q.bucket ≢ b = λ e. both_ways (has_bit set.words u) o.1
      (ap (λ (z : ThreadBits). has_bit z.words u) (one_set set q.set (sym at ∙ ap (slice_get w.wanting) (sym e) ∙ q.at))
      ∙ q.has) in
      record {
        bucket = q.bucket;
        set = q.set;
        at = ap (λ (xs : List ThreadBits). slice_get xs q.bucket) wanting ∙ q.at;
        has = q.has;
        shut = shut q.bucket (passed_inside w u sound is q) apart ∙ q.shut;
      };
  few = λ u c is. sound.few u c (sym (ap (λ (xs : List (Option ℕ)). slice_get xs u) wants) ∙ is);
}

-- a bucket is shut
pub shut_sound : (w w' : Waiting) (b : ℕ) (set : ThreadBits) → IsSound w → slice_get w.wanting b ≡ Some set
    → w'.wants ≡ w.wants → w'.wanting ≡ w.wanting → bit_at w'.shut b ≡ 1
    → ((c : ℕ) → c < run_buckets → c ≢ b → bit_at w'.shut c ≡ bit_at w.shut c)
    → ((u : ℕ) → has_bit w'.ready.words u ≡ false → (has_bit w.ready.words u ≡ false) ⊎ (has_bit set.words u ≡ true))
    → IsSound w'
shut_sound w w' b set sound at wants wanting one shut ready = record {
  named = λ c u s there some is.
      ap (λ (xs : List (Option ℕ)). slice_get xs u) wants
      ∙ sound.named c u s (sym (ap (λ (xs : List ThreadBits). slice_get xs c) wanting) ∙ there) some is;
  passed = λ u is shut_out. elim (ready u shut_out) [
    | inl out ↦
        let q = sound.passed u is out in
        record {
          bucket = q.bucket;
          set = q.set;
          at = ap (λ (xs : List ThreadBits). slice_get xs q.bucket) wanting ∙ q.at;
          has = q.has;
          shut = elim (cases_eq q.bucket b) [
            | inl e ↦ ap (bit_at w'.shut) e ∙ one
            | inr apart ↦ shut q.bucket (passed_inside w u sound is q) apart ∙ q.shut
          ];
        }
    | inr wants_it ↦ record {
      bucket = b;
      set = set;
      at = ap (λ (xs : List ThreadBits). slice_get xs b) wanting ∙ at;
      has = wants_it;
      shut = one;
    }
  ];
  few = λ u c is. sound.few u c (sym (ap (λ (xs : List (Option ℕ)). slice_get xs u) wants) ∙ is);
}

pub shut_held : (k : PieceConcrete) (shut shut' b v : ℕ) → ((c : ℕ) → c < run_buckets → IsHeldIf k shut c)
    → k.holder b ≡ Some v → ((c : ℕ) → c < run_buckets → c ≢ b → bit_at shut' c ≡ bit_at shut c)
    → (c : ℕ) → c < run_buckets → IsHeldIf k shut' c
shut_held k shut shut' b v held holds same c inside is = elim (cases_eq c b) [
  | inl e ↦ (v, ap k.holder e ∙ holds)
  | inr apart ↦ held c inside (sym (same c inside apart) ∙ is)
]

pub open_held : (k : PieceConcrete) (shut b : ℕ) → bit_at shut b ≡ 0 → IsHeldIf k shut b
open_held k shut b none some = absurd (zero_one (bit_at shut b) none some)

pub same_held : (k : PieceConcrete) (w w' : Waiting) → w'.shut ≡ w.shut → AllHeld k w → AllHeld k w'
same_held k w w' same held b inside is = held b inside (sym (ap (λ (n : ℕ). bit_at n b) same) ∙ is)
