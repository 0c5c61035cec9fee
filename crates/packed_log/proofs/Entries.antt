-- The entries of heads, one entry more at the end.
use Rattle.std.proofs.Common.{ℕ, suc, ◌≡◌, ◌≤◌, ◌<◌, ◌+◌, ◌-◌, ◌%◌, ◌^◌, List, [], ◌∷◌, ◌++◌, length, map, drop, take, slice_get}
use Rattle.std.proofs.Common.{get_or, Option, Some, None, refl, ap, sym, subst, ◌∙◌, append-nil, append_assoc, arith, inl, inr}
use Rattle.std.proofs.lemmas.Bool.{cases_eq, ne_eqb}
use Rattle.std.proofs.lemmas.List.{drop-append-le, get_or_append_left, length-append, length-drop, length-take, nil_from_length, take-append-le}
use Rattle.std.proofs.lemmas.List.{get_or-append-add, length-map, map-append, take-append-drop, take_all, take_more}
use Rattle.std.proofs.lemmas.Option.{get_or_from_slice_get, slice_get-get_or, slice_get-map, slice_get_within}
use Rattle.std.specs.Prelude.{option_map}
use Rattle.std.proofs.Math.Seq.{get_or-append_seam}
use Rattle.machine.specs.ConcreteServing.{plain}
use Rattle.machine.specs.declared.event.Entry.{Entry}
use Rattle.machine.specs.declared.event.EventName.{EventName}
use Rattle.machine.specs.declared.thread_set.ThreadSet.TheVariants.{Single, Several}
use Rattle.packed_log.specs.Packing.{entries_of, entry_of, event_of, heads_of, set_at, sets_in, sets_of, sets_of_heads}
use Rattle.packed_log.specs.Packing.{kind_in, value_in, wakes_in, moves_in, name_of, widened, words_of}
use Rattle.packed_log.specs.declared.wide_head.WideHead.{WideHead}
use Rattle.packed_log.specs.Views.{IsHeadOf, IsPacked}

-- how many entries there are
pub entries_length : (heads : List WideHead) (sets : List ℕ) → length (entries_of heads sets) ≡ length heads
entries_length [] sets = refl
entries_length (h ∷ hs) sets = ap suc (entries_length hs _)

pub items_length : (heads : List ℕ) (wide : List WideHead) (sets : List ℕ)
    → length (entries_of (heads_of heads wide) sets) ≡ length heads + length wide
items_length heads wide sets =
    entries_length (heads_of heads wide) sets
    ∙ omega (arith, length-append (map widened heads) wide, length-map heads widened)

pub left_length : (heads : List ℕ) (wide : List WideHead) (sets : List ℕ) (whole : List Entry)
    → length (entries_of (heads_of heads wide) sets ++ whole) ≡ length heads + length wide + length whole
left_length heads wide sets whole =
    length-append (entries_of (heads_of heads wide) sets) whole ∙ omega (arith, items_length heads wide sets)

-- what stands behind an entry's sets doesn't change how it is read
set_front : (form place : ℕ) (sets more : List ℕ) → place + words_of form ≤ length sets
    → set_at form (sets ++ more) place ≡ set_at form sets place
set_front form place sets more le = elim (cases_eq form 1) [
  | inl e ↦ single e
  | inr ne ↦ elim (cases_eq form 2) [ inl e ↦ several e | inr ne' ↦ rw (ne_eqb form 1 ne, ne_eqb form 2 ne') refl ]
]
  where
    single : form ≡ 1 → set_at form (sets ++ more) place ≡ set_at form sets place
    single e =
        let inside : place < length sets = (let l = rw e at le in omega (arith, l)) in
        rw e (ap (λ t. Single (t % 2 ^ 32)) (get_or_append_left sets more 0 place inside))

    several : form ≡ 2 → set_at form (sets ++ more) place ≡ set_at form sets place
    several e =
        let inside : place + 16 ≤ length sets = (let l = rw e at le in omega (arith, l)) in
        rw e (ap Several (ap (take 16) (drop-append-le place sets more (omega (arith, inside)))
        ∙ take-append-le 16 (drop place sets) more (omega (arith, inside, length-drop place sets))))

event_front : (kind : Option EventName) (head : ℕ) (sets more : List ℕ) → sets_in head ≤ length sets
    → event_of kind head (sets ++ more) ≡ event_of kind head sets
event_front None head sets more le = refl
event_front (Some kind) head sets more le = λ i. Some (record {
  name = kind;
  value = value_in head;
  woken = set_front (wakes_in head) 0 sets more (omega arith) i;
  moved = set_front (moves_in head) (words_of (wakes_in head)) sets more (omega arith) i;
})

entry_front : (wide : WideHead) (sets more : List ℕ) → sets_in wide.head ≤ length sets
    → entry_of wide (sets ++ more) ≡ entry_of wide sets
entry_front wide sets more le = λ i. record {
  thread = wide.thread;
  local = wide.local;
  event = event_front (name_of (kind_in wide.head)) wide.head sets more le i;
}

entries_more : (heads : List WideHead) (sets : List ℕ) (wide : WideHead) (more : List ℕ) → IsPacked heads sets
    → entries_of (heads ++ wide ∷ []) (sets ++ more) ≡ entries_of heads sets ++ entry_of wide more ∷ []
entries_more [] sets wide more packed = rw (nil_from_length sets packed) refl
entries_more (h ∷ hs) sets wide more packed =
    let le : sets_in h.head ≤ length sets = omega arith in
    let rest : length (drop (sets_in h.head) sets) ≡ sets_of_heads hs = length-drop (sets_in h.head) sets ∙ omega arith in
    let tail = ap (entries_of (hs ++ wide ∷ [])) (drop-append-le (sets_in h.head) sets more le)
    ∙ entries_more hs (drop (sets_in h.head) sets) wide more rest in
    λ i. entry_front h sets more le i ∷ tail i

sets_more : (heads : List WideHead) (wide : WideHead)
    → sets_of_heads (heads ++ wide ∷ []) ≡ sets_of_heads heads + sets_in wide.head
sets_more [] wide = omega arith
sets_more (h ∷ hs) wide = omega (arith, sets_more hs wide)

-- an entry more, by its head and its sets
pushed : (entry : Entry) (heads : List WideHead) (sets : List ℕ) (wide : WideHead) → IsHeadOf entry wide
    → IsPacked heads sets
    → entries_of (heads ++ wide ∷ []) (sets ++ sets_of entry.event) ≡ entries_of heads sets ++ entry ∷ []
pushed entry heads sets wide is packed = entries_more heads sets wide (sets_of entry.event) packed
    ∙ ap (λ e. entries_of heads sets ++ e ∷ [])
    (ap (entry_of wide) (sym (append-nil (sets_of entry.event))) ∙ is.reads [])

pushed_packed : (entry : Entry) (heads : List WideHead) (sets : List ℕ) (wide : WideHead) → IsHeadOf entry wide
    → IsPacked heads sets → IsPacked (heads ++ wide ∷ []) (sets ++ sets_of entry.event)
pushed_packed entry heads sets wide is packed = length-append sets (sets_of entry.event)
    ∙ omega (arith, packed, is.beside) ∙ sym (sets_more heads wide)

-- what is asked of the heads behind it
abbrev pub Pushed : Entry → List WideHead → List ℕ → List WideHead → Type 0
Pushed entry heads sets heads' =
    (entries_of heads' (sets ++ sets_of entry.event) ≡ entries_of heads sets ++ entry ∷ [])
    × IsPacked heads' (sets ++ sets_of entry.event)

one_more : (entry : Entry) (heads : List WideHead) (sets : List ℕ) (wide : WideHead) (heads' : List WideHead)
    → IsHeadOf entry wide → IsPacked heads sets → heads' ≡ heads ++ wide ∷ [] → Pushed entry heads sets heads'
one_more entry heads sets wide heads' is packed same =
    subst (Pushed entry heads sets) (sym same) (pushed entry heads sets wide is packed, pushed_packed entry heads sets wide is packed)

-- by one in which its thread and local steps have room, where none is wide
pub pushed_head : (entry : Entry) (heads : List ℕ) (wide : List WideHead) (sets : List ℕ) (head : ℕ) → wide ≡ []
    → IsHeadOf entry (widened head) → IsPacked (heads_of heads wide) sets
    → Pushed entry (heads_of heads wide) sets (heads_of (heads ++ head ∷ []) wide)
pushed_head entry heads wide sets head none is packed =
    one_more entry (heads_of heads wide) sets (widened head) (heads_of (heads ++ head ∷ []) wide) is packed
    (rw none (append-nil (map widened (heads ++ head ∷ [])) ∙ map-append widened heads (head ∷ [])
    ∙ ap (λ hs. hs ++ widened head ∷ []) (sym (append-nil (map widened heads)))))

-- and by a wide one
pub pushed_wide : (entry : Entry) (heads : List ℕ) (wide : List WideHead) (sets : List ℕ) (head : WideHead)
    → IsHeadOf entry head → IsPacked (heads_of heads wide) sets
    → Pushed entry (heads_of heads wide) sets (heads_of heads (wide ++ head ∷ []))
pushed_wide entry heads wide sets head is packed =
    one_more entry (heads_of heads wide) sets head (heads_of heads (wide ++ head ∷ [])) is packed
    (sym (append_assoc (map widened heads) wide (head ∷ [])))

-- behind a step that woke and moved nobody the sets are as before
pub pushed_plain : (t l : ℕ) (name : EventName) (value : ℕ) (heads : List WideHead) (sets : List ℕ)
    (heads' : List WideHead)
    → Pushed (record { thread = t; local = l; event = Some (plain name value) }) heads sets heads'
    → (entries_of heads' sets ≡ entries_of heads sets ++ record { thread = t; local = l; event = Some (plain name value) } ∷ [])
    × IsPacked heads' sets
pushed_plain t l name value heads sets heads' h =
    let entry : Entry = record { thread = t; local = l; event = Some (plain name value) } in
    subst (λ (s : List ℕ). (entries_of heads' s ≡ entries_of heads sets ++ entry ∷ []) × IsPacked heads' s)
    (append-nil sets) h

-- the last of a list
slice_get_last : (xs : List Entry) (x : Entry) → slice_get (xs ++ x ∷ []) (length (xs ++ x ∷ []) - 1) ≡ Some x
slice_get_last xs x =
    let n : length (xs ++ x ∷ []) - 1 ≡ length xs = ap (λ m. m - 1) (length-append xs (x ∷ [])) ∙ omega arith in
    ap (slice_get (xs ++ x ∷ [])) n
    ∙ slice_get-get_or (xs ++ x ∷ []) (length xs) x (omega (arith, length-append xs (x ∷ [])))
    ∙ ap Some (get_or-append_seam xs x [] x)

-- the last entry of heads, by the last head and the last sets
pub last_of : (heads : List WideHead) (sets : List ℕ) (wide : WideHead) → IsPacked heads sets
    → Some wide ≡ slice_get heads (length heads - 1)
    → (sets_in wide.head ≤ length sets) × (slice_get (entries_of heads sets) (length (entries_of heads sets) - 1)
    ≡ Some (entry_of wide (drop (length sets - sets_in wide.head) sets)))
last_of heads sets wide packed is =
    let n : ℕ = length heads - 1 in
    let within : n < length heads = slice_get_within heads n wide (sym is) in
    let front : List WideHead = take n heads in
    let parted : heads ≡ front ++ wide ∷ [] =
    sym (take_all (n + 1) heads (omega (arith, within))) ∙ take_more heads n wide within
    ∙ ap (λ h. front ++ h ∷ []) (get_or_from_slice_get heads n wide wide (sym is)) in
    let sums : length sets ≡ sets_of_heads front + sets_in wide.head = packed ∙ ap sets_of_heads parted ∙ sets_more front wide in
    let before : ℕ = length sets - sets_in wide.head in
    let fronts : length (take before sets) ≡ sets_of_heads front = length-take before sets ∙ omega (arith, sums) in
    let whole : entries_of heads sets ≡ entries_of front (take before sets) ++ entry_of wide (drop before sets) ∷ [] =
    ap (λ hs. entries_of hs sets) parted
    ∙ ap (entries_of (front ++ wide ∷ [])) (sym (take-append-drop before sets))
    ∙ entries_more front (take before sets) wide (drop before sets) fronts in
    (omega (arith, sums), ap (λ es. slice_get es (length es - 1)) whole ∙ slice_get_last (entries_of front (take before sets)) _)

-- a list without a last one has none
pub empty_last : (heads : List WideHead) → None ≡ slice_get heads (length heads - 1) → heads ≡ []
empty_last [] is = refl
empty_last (h ∷ hs) is =
    let there : None ≡ Some (get_or (h ∷ hs) (length (h ∷ hs) - 1) h) =
    is ∙ slice_get-get_or (h ∷ hs) (length (h ∷ hs) - 1) h (omega arith) in
    absurd cc

-- and where there is no head there is no entry
pub none_of : (heads : List WideHead) (sets : List ℕ) → None ≡ slice_get heads (length heads - 1)
    → None ≡ slice_get (entries_of heads sets) (length (entries_of heads sets) - 1)
none_of heads sets is = rw (empty_last heads is) refl

-- the last of a list that has others before it
last_behind : (xs ys : List WideHead) (y : WideHead) → Some y ≡ slice_get ys (length ys - 1)
    → slice_get (xs ++ ys) (length (xs ++ ys) - 1) ≡ Some y
last_behind xs ys y is =
    let n : ℕ = length ys - 1 in
    let within : n < length ys = slice_get_within ys n y (sym is) in
    let place : length (xs ++ ys) - 1 ≡ length xs + n = ap (λ m. m - 1) (length-append xs ys) ∙ omega (arith, within) in
    ap (slice_get (xs ++ ys)) place
    ∙ slice_get-get_or (xs ++ ys) (length xs + n) y (omega (arith, length-append xs ys, within))
    ∙ ap Some (get_or-append-add xs ys n y ∙ get_or_from_slice_get ys n y y (sym is))

-- the last head is a wide one, where there is one
pub last_wide : (heads : List ℕ) (wide : List WideHead) (head : WideHead) → Some head ≡ slice_get wide (length wide - 1)
    → Some head ≡ slice_get (heads_of heads wide) (length (heads_of heads wide) - 1)
last_wide heads wide head is = sym (last_behind (map widened heads) wide head is)

-- else the last of the others
pub last_head : (heads : List ℕ) (wide : List WideHead) (o : Option ℕ) → wide ≡ []
    → o ≡ slice_get heads (length heads - 1)
    → option_map widened o ≡ slice_get (heads_of heads wide) (length (heads_of heads wide) - 1)
last_head heads wide o none is = rw none
    (ap (option_map widened) is ∙ sym (slice_get-map widened heads (length heads - 1))
    ∙ ap (slice_get (map widened heads)) (ap (λ n. n - 1) (sym (length-map heads widened)))
    ∙ sym (ap (λ hs. slice_get hs (length hs - 1)) (append-nil (map widened heads))))
