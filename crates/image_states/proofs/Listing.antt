-- Lists of sleepers, as loops over them go on.
use Rattle.std.proofs.Common.{◌≡◌, ◌<◌, ◌+◌, ◌++◌, ◌∙◌, ℕ, zero, suc, List, [], ◌∷◌, Option, Some, None, Bool, true, false, Contains}
use Rattle.std.proofs.Common.{inl, inr, ap, arith, get_or, length, refl, subst, sym, take}
use Rattle.std.specs.Prelude.{All, is_some, Vec}
use Rattle.std.specs.Global.{Global}
use Rattle.std.proofs.lemmas.List.{map_more}
use Rattle.std.proofs.lemmas.List.Elements.{Contains-append_cases}
use Rattle.image_states.specs.declared.next.Next.{Next as NextOf}
use Rattle.image_states.specs.declared.packed.Packed.{Packed as PackedOf}
use Rattle.image_states.specs.Choosing.{lists_in, AddsPlaced, HasPlaced, IsPlacedSome}
use Rattle.image_states.specs.Packed.{IsPrefix}
use Rattle.image_states.specs.Room.{AreThreads}
use Rattle.image_states.proofs.Growing.{prefix_contains}

pub is_none : {X : Type 0} (o : Option X) (b : Bool) → b ≡ is_some o → b ≡ false → o ≡ None
is_none None b e f = refl
is_none (Some x) b e f = absurd (let differ : true ≡ false = sym e ∙ f in cc)

pub none_in : {X : Type 0} (x : X) → Contains [] x → ⊥
none_in x (k, l, e) = omega (arith, l)

pub none_listed : (lists : List (Vec ℕ Global)) (chosen : List ℕ) → Contains (lists_in (take 0 lists)) chosen → ⊥
none_listed [] chosen has = none_in chosen has
none_listed (l ∷ ls) chosen has = none_in chosen has

only : {X : Type 0} (x y : X) → Contains (x ∷ []) y → x ≡ y
only x y (zero, l, e) = e
only x y (suc k, l, e) = absurd (omega (arith, l))

-- of each of these and of one behind them
pub all_and_one : {X : Type 0} (P : X → Type 0) (xs ys : List X) (one : X) → ys ≡ xs ++ one ∷ []
    → ((x : X) → Contains xs x → P x) → P one → (x : X) → Contains ys x → P x
all_and_one P xs ys one last all this x has =
    elim (Contains-append_cases xs (one ∷ []) x (subst (λ l. Contains l x) last has)) [
      | inl c ↦ all x c
      | inr c ↦ subst P (only one x c) this
    ]

pub one_more_list : (P : List ℕ → Type 0) (lists : List (Vec ℕ Global)) (i : ℕ) (list : Vec ℕ Global) → i < length lists
    → list ≡ get_or lists i list → ((x : List ℕ) → Contains (lists_in (take i lists)) x → P x) → P list.items
    → (x : List ℕ) → Contains (lists_in (take (i + 1) lists)) x → P x
one_more_list P lists i list less is =
    all_and_one P (lists_in (take i lists)) (lists_in (take (i + 1) lists)) list.items last
  where
    last : lists_in (take (i + 1) lists) ≡ lists_in (take i lists) ++ list.items ∷ []
    last = map_more (λ (l : Vec ℕ Global). l.items) lists i list less
        ∙ ap (λ (l : Vec ℕ Global). lists_in (take i lists) ++ l.items ∷ []) (sym is)

pub placed_still : (x : PackedOf) (xs ys : List NextOf) (asleep : ℕ → Option ℕ) → IsPrefix xs ys → HasPlaced x xs asleep
    → HasPlaced x ys asleep
placed_still x xs ys asleep longer has = record {
  next = has.next;
  found = prefix_contains xs ys has.next longer has.found;
  placed = has.placed;
  killed = has.killed;
}

-- each of these but for those that were there, where one more is so
pub adds_one : (x : PackedOf) (place : ℕ) (xs ys : List NextOf) (one : NextOf) → ys ≡ xs ++ one ∷ []
    → IsPlacedSome x place one.state → AddsPlaced x place xs ys
adds_one x place xs ys one last is next has =
    elim (Contains-append_cases xs (one ∷ []) next (subst (λ l. Contains l next) last has)) [
      | inl was ↦ inl was
      | inr new ↦ inr (subst (λ (n : NextOf). IsPlacedSome x place n.state) (only one next new) is)
    ]

pub adds_none : (x : PackedOf) (place : ℕ) (xs : List NextOf) → AddsPlaced x place xs xs
adds_none x place xs next has = inl has

pub adds_twice : (x : PackedOf) (place : ℕ) (xs ys zs : List NextOf) → AddsPlaced x place xs ys → AddsPlaced x place ys zs
    → AddsPlaced x place xs zs
adds_twice x place xs ys zs f g next has = elim (g next has) [
  | inl was ↦ f next was
  | inr is ↦ inr is
]

-- a list of threads, of those that are
pub threads_at : (many : ℕ) (lists : List (Vec ℕ Global)) (i : ℕ) (list : Vec ℕ Global) → i < length lists
    → list ≡ get_or lists i list → All (AreThreads many) (lists_in lists) → AreThreads many list.items
threads_at many [] i list less is all = absurd (omega (arith, less))
threads_at many (l ∷ ls) zero list less is all =
    subst (λ (v : Vec ℕ Global). AreThreads many v.items) (sym is) (all 0 [] (omega arith))
threads_at many (l ∷ ls) (suc i) list less is all =
    threads_at many ls i list (omega (arith, less)) is (λ j d f. all (suc j) d (omega (arith, f)))
