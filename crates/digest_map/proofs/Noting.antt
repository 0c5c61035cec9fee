-- What a map has after a number was noted.
use Rattle.std.proofs.Common.{ℕ, ◌≡◌, ◌∙◌, ◌⊎◌, ◌<◌, List, Contains, ap, get_or, inl, inr, length, subst, sym}
use Rattle.std.proofs.lemmas.List.Elements.{Contains-get_or}
use Rattle.digest_map.specs.declared.map.Slot.{Slot}
use Rattle.digest_map.specs.Noted.{Has, HasAdded, HasKept, HasNoted, IsOf, free}

-- after room was made and a slot was put
pub noted : (before middle after : List Slot) (added : Slot) → HasKept before middle → HasAdded middle added after
    → HasNoted before added.number after
noted before middle after added kept put n (slot, is, same) = from (put slot is) where
  was : (slot.number ≡ free) ⊎ Contains before slot → (n ≡ free) ⊎ (n ≡ added.number) ⊎ Has before n
  was (inl none) = inl (sym same ∙ none)
  was (inr there) = inr (inr (slot, there, same))

  from : IsOf middle added slot → (n ≡ free) ⊎ (n ≡ added.number) ⊎ Has before n
  from (inl none) = inl (sym same ∙ none)
  from (inr (inl there)) = was (kept slot there)
  from (inr (inr this)) = inr (inl (sym same ∙ ap (λ s. s.number) this))

-- what was kept of a map, and one more slot of it
pub kept_on : (before middle after : List Slot) (added : Slot) → HasKept before middle → HasAdded middle added after
    → Contains before added → HasKept before after
kept_on before middle after added kept put there slot is = from (put slot is) where
  from : IsOf middle added slot → (slot.number ≡ free) ⊎ Contains before slot
  from (inl none) = inl none
  from (inr (inl was)) = kept slot was
  from (inr (inr this)) = inr (subst (Contains before) (sym this) there)

-- the same of the slot at a place of the map
pub kept_next : (before lent middle after : List Slot) (i : ℕ) (d : Slot) → lent ≡ before → i < length lent
    → HasKept before middle → HasAdded middle (get_or lent i d) after → HasKept before after
kept_next before lent middle after i d is less kept put =
    kept_on before middle after (get_or lent i d) kept put
    (subst (λ slots. Contains slots (get_or lent i d)) is (Contains-get_or lent i d less))
