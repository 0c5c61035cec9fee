-- The head of an entry is read as the entry.
use Rattle.std.proofs.Common.{ℕ, ◌≡◌, ◌<◌, ◌+◌, ◌*◌, ◌/◌, ◌%◌, ◌^◌, List, ◌++◌, length, take, get_or}
use Rattle.std.proofs.Common.{Some, refl, ap, sym, ◌∙◌, arith, append_assoc, inl, inr}
use Rattle.std.proofs.lemmas.Bool.{cases_eq, ne_eqb}
use Rattle.std.proofs.lemmas.List.{get_or-append-add, length-append}
use Rattle.std.proofs.Math.Seq.{drop-append_seam, take-append_seam}
use Rattle.machine.specs.declared.event.Entry.{Entry}
use Rattle.machine.specs.declared.event.Event.{Event}
use Rattle.machine.specs.declared.thread_set.ThreadSet.{ThreadSet}
use Rattle.machine.specs.declared.thread_set.ThreadSet.TheVariants.{Nobody, Single, Several}
use Rattle.packed_log.specs.Packing.{event_of, form_of, name_of, sets_of, kept, set_at, kind_in, thread_in, local_in}
use Rattle.packed_log.specs.Packing.{wakes_in, moves_in, value_in, widened, words_of}
use Rattle.packed_log.specs.Views.{IsHeadOf, IsWhole, HasHead}

-- the head of these parts
abbrev pub of_parts : ℕ → ℕ → ℕ → ℕ → ℕ → ℕ → ℕ
of_parts t l k a b v = t + l * 1024 + k * 524288 + a * 16777216 + b * 67108864 + v * 268435456

thread_of_parts : (t l k a b v : ℕ) → t < 1024 → of_parts t l k a b v % 1024 ≡ t
thread_of_parts t l k a b v h = omega (arith, h)

local_of_parts : (t l k a b v : ℕ) → t < 1024 → l < 512 → of_parts t l k a b v / 1024 % 512 ≡ l
local_of_parts t l k a b v h i = omega (arith, h, i)

kind_of_parts : (t l k a b v : ℕ) → t < 1024 → l < 512 → k < 32 → of_parts t l k a b v / 524288 % 32 ≡ k
kind_of_parts t l k a b v h i j = omega (arith, h, i, j)

woken_of_parts : (t l k a b v : ℕ) → t < 1024 → l < 512 → k < 32 → a < 4 → of_parts t l k a b v / 16777216 % 4 ≡ a
woken_of_parts t l k a b v h i j m = omega (arith, h, i, j, m)

moved_of_parts : (t l k a b v : ℕ) → t < 1024 → l < 512 → k < 32 → a < 4 → b < 4
    → of_parts t l k a b v / 67108864 % 4 ≡ b
moved_of_parts t l k a b v h i j m n = omega (arith, h, i, j, m, n)

value_of_parts : (t l k a b v : ℕ) → t < 1024 → l < 512 → k < 32 → a < 4 → b < 4 → v < 4294967296
    → of_parts t l k a b v / 268435456 % 4294967296 ≡ v
value_of_parts t l k a b v h i j m n o = omega (arith, h, i, j, m, n, o)

few : (set : ThreadSet) → form_of set < 4
few Nobody = omega arith
few (Single t) = omega arith
few (Several words) = omega arith

kept_length : (set : ThreadSet) → IsWhole set → length (kept set) ≡ words_of (form_of set)
kept_length Nobody whole = refl
kept_length (Single t) whole = refl
kept_length (Several words) whole = whole

first_set : (set : ThreadSet) (more : List ℕ) → IsWhole set → set_at (form_of set) (kept set ++ more) 0 ≡ set
first_set Nobody more whole = refl
first_set (Single t) more whole = ap Single (omega (arith, whole))
first_set (Several words) more whole =
    ap Several (ap (λ n. take n (words ++ more)) (sym whole) ∙ take-append_seam words more)

-- the set behind other words
behind : (form : ℕ) (words more : List ℕ) → set_at form (words ++ more) (length words) ≡ set_at form more 0
behind form words more = elim (cases_eq form 1) [
  | inl e ↦ rw e (ap (λ t. Single (t % 2 ^ 32)) (ap (λ n. get_or (words ++ more) n 0) (omega arith)
      ∙ get_or-append-add words more 0 0))
  | inr ne ↦ elim (cases_eq form 2) [
    | inl e ↦ rw e (ap (λ ws. Several (take 16 ws)) (drop-append_seam words more))
    | inr ne' ↦ rw (ne_eqb form 1 ne, ne_eqb form 2 ne') refl
  ]
]

second_set : (first second : ThreadSet) (more : List ℕ) → IsWhole first → IsWhole second
    → set_at (form_of second) ((kept first ++ kept second) ++ more) (words_of (form_of first)) ≡ second
second_set first second more whole whole' =
    ap (λ ws. set_at (form_of second) ws (words_of (form_of first))) (append_assoc (kept first) (kept second) more)
    ∙ ap (set_at (form_of second) (kept first ++ (kept second ++ more))) (sym (kept_length first whole))
    ∙ behind (form_of second) (kept first) (kept second ++ more) ∙ first_set second more whole'

-- the parts of a step's head
pub record Parts (entry : Entry) (event : Event) (k : ℕ) : Type 0 where
  pub step : entry.event ≡ Some event
  pub fits : HasHead entry.thread entry.local
  pub kind : name_of k ≡ Some event.name
  pub small : k < 32
  pub value : event.value < 4294967296
  pub woken : IsWhole event.woken
  pub moved : IsWhole event.moved

step_head_is : (entry : Entry) (event : Event) (k : ℕ) → Parts entry event k
    → IsHeadOf entry
    (widened (of_parts entry.thread entry.local k (form_of event.woken) (form_of event.moved) event.value))
step_head_is entry event k is =
    let t = entry.thread in
    let l = entry.local in
    let a = form_of event.woken in
    let b = form_of event.moved in
    let v = event.value in
    let head : ℕ = of_parts t l k a b v in
    let a_is : wakes_in head ≡ a = woken_of_parts t l k a b v is.fits.thread is.fits.local is.small (few event.woken) in
    let b_is : moves_in head ≡ b =
    moved_of_parts t l k a b v is.fits.thread is.fits.local is.small (few event.woken) (few event.moved) in
    let v_is : value_in head ≡ v =
    value_of_parts t l k a b v is.fits.thread is.fits.local is.small (few event.woken) (few event.moved) is.value in
    let name : name_of (kind_in head) ≡ Some event.name =
    ap name_of (kind_of_parts t l k a b v is.fits.thread is.fits.local is.small) ∙ is.kind in
    record {
      reads = λ more.
          let sets : List ℕ = (kept event.woken ++ kept event.moved) ++ more in
          let first : set_at (wakes_in head) sets 0 ≡ event.woken =
          ap (λ n. set_at n sets 0) a_is ∙ ap (λ s. set_at a s 0) (append_assoc (kept event.woken) (kept event.moved) more)
          ∙ first_set event.woken (kept event.moved ++ more) is.woken in
          let second : set_at (moves_in head) sets (words_of (wakes_in head)) ≡ event.moved =
          ap (λ n. set_at n sets (words_of (wakes_in head))) b_is ∙ ap (λ n. set_at b sets (words_of n)) a_is
          ∙ second_set event.woken event.moved more is.woken is.moved in
          let told : event_of (Some event.name) head sets ≡ Some event =
          λ i. Some (record { name = event.name; value = v_is i; woken = first i; moved = second i }) in
          let behind : sets_of entry.event ++ more ≡ sets = ap (λ e. sets_of e ++ more) is.step in
          let whole : event_of (name_of (kind_in head)) head (sets_of entry.event ++ more) ≡ entry.event =
          ap (λ n. event_of n head (sets_of entry.event ++ more)) name ∙ ap (event_of (Some event.name) head) behind
          ∙ told ∙ sym is.step in
          let thread : thread_in head ≡ t = thread_of_parts t l k a b v is.fits.thread in
          let local : local_in head ≡ l = local_of_parts t l k a b v is.fits.thread is.fits.local in
          λ i. record { thread = thread i; local = local i; event = whole i };
      beside = (λ i. words_of (a_is i) + words_of (b_is i))
          ∙ sym (ap (λ e. length (sets_of e)) is.step ∙ length-append (kept event.woken) (kept event.moved)
          ∙ (λ i. kept_length event.woken is.woken i + kept_length event.moved is.moved i));
    }

-- the same of numbers that are these parts
pub step_head : (entry : Entry) (event : Event) (t l k a b v : ℕ) → Parts entry event k
    → t ≡ entry.thread → l ≡ entry.local → a ≡ form_of event.woken → b ≡ form_of event.moved → v ≡ event.value
    → IsHeadOf entry (widened (of_parts t l k a b v))
step_head entry event t l k a b v is ti li ai bi vi = rw (ti, li, ai, bi, vi) (step_head_is entry event k is)

-- a head whose thread and local steps stand beside it
pub wide_head : (entry : Entry) (head : ℕ) → IsHeadOf (record entry { thread = 0; local = 0 }) (widened head)
    → IsHeadOf entry (record { thread = entry.thread; local = entry.local; head = head })
wide_head entry head is = record {
  reads = λ more i. record { thread = entry.thread; local = entry.local; event = (is.reads more i).event };
  beside = is.beside;
}
