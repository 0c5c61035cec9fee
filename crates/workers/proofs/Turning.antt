-- One turn more is taken.
use Rattle.std.proofs.Common.{◌≡◌, ◌∙◌, ℕ, zero, suc, ◌<◌, ◌++◌, ◌⊎◌, inl, inr, List, [], ◌∷◌, length, Some, slice_get}
use Rattle.std.proofs.Common.{slice_set, refl, ap, sym, subst, arith, ◌-◌}
use Rattle.std.proofs.lemmas.Bool.{cases_eq}
use Rattle.std.proofs.lemmas.Option.{slice_get_within}
use Rattle.words.specs.Limits.{most_local_steps}
use Rattle.isa.specs.Programs.{Program}
use Rattle.machine.proofs.Placing.{get_set_other}
use Rattle.runner.specs.Views.{PieceView}
use Rattle.workers.specs.Taken.{AreTurns, IsTurn, IsGrown, Follows, StartsAt, idle}

set_there : (xs : List PieceView) (i : ℕ) (x y : PieceView) → slice_get xs i ≡ Some x
    → slice_get (slice_set xs i y) i ≡ Some y
set_there [] i x y h = absurd cc
set_there (z ∷ zs) zero x y h = refl
set_there (z ∷ zs) (suc i) x y h = set_there zs i x y h

append_before : (xs : List PieceView) (y : PieceView) (k : ℕ) → k < length xs
    → slice_get (xs ++ y ∷ []) k ≡ slice_get xs k
append_before [] y k h = absurd (omega arith)
append_before (x ∷ xs) y zero h = refl
append_before (x ∷ xs) y (suc k) h = append_before xs y k (omega arith)

grown_before : (t : ℕ) (xs ys : List PieceView) (k : ℕ) → IsGrown t xs ys → k < length xs
    → slice_get ys k ≡ slice_get xs k
grown_before t xs ys k (inl same) h = ap (λ (zs : List PieceView). slice_get zs k) same
grown_before t xs ys k (inr more) h =
    ap (λ (zs : List PieceView). slice_get zs k) more ∙ append_before xs (idle t) k h

-- the same before the last one, which is a turn and goes on where a whole turn has come
more : (p : Program) (old xs ws : List PieceView) (m : ℕ) (a y : PieceView) → AreTurns p old xs (suc m)
    → slice_get xs m ≡ Some a → a.count ≡ most_local_steps
    → ((k : ℕ) → k < suc m → slice_get ws k ≡ slice_get xs k) → slice_get ws (suc m) ≡ Some y
    → y.thread ≡ a.thread → y.origin ≡ a.here → IsTurn p y → AreTurns p old ws (suc (suc m))
more p old xs ws m a y h at whole same there thread origin turn =
    let w = slice_get_within ws (suc m) y there in
    record {
      some = omega arith;
      within = omega arith;
      first = λ u v hu hv. h.first u v hu (sym (same 0 (omega arith)) ∙ hv);
      turns = λ k u lt hu. turn_at k u lt hu (cases_eq k (suc m));
      chain = λ k u v lt hu hv. chain_at k u v lt hu hv (cases_eq k m);
    } where
      turn_at : (k : ℕ) (u : PieceView) → k < suc (suc m) → slice_get ws k ≡ Some u
          → (k ≡ suc m) ⊎ (k ≡ suc m → ⊥) → IsTurn p u
      turn_at k u lt hu (inl e) =
          let same_piece : u ≡ y = cc in subst (λ (q : PieceView). IsTurn p q) (sym same_piece) turn
      turn_at k u lt hu (inr ne) =
          let before : k < suc m = omega arith in h.turns k u before (sym (same k before) ∙ hu)

      chain_at : (k : ℕ) (u v : PieceView) → suc k < suc (suc m) → slice_get ws k ≡ Some u
          → slice_get ws (suc k) ≡ Some v → (k ≡ m) ⊎ (k ≡ m → ⊥) → Follows u v
      chain_at k u v lt hu hv (inl e) =
          let is_a : u ≡ a = cc (same m (omega arith)) in
          let is_y : v ≡ y = cc in
          record {
            whole = ap (λ (q : PieceView). q.count) is_a ∙ whole;
            thread = ap (λ (q : PieceView). q.thread) is_y ∙ (thread ∙ sym (ap (λ (q : PieceView). q.thread) is_a));
            origin = ap (λ (q : PieceView). q.origin) is_y ∙ (origin ∙ sym (ap (λ (q : PieceView). q.here) is_a));
          }
      chain_at k u v lt hu hv (inr ne) =
          let before : suc k < suc m = omega arith in
          h.chain k u v before (sym (same k (omega arith)) ∙ hu) (sym (same (suc k) before) ∙ hv)

-- the piece after the last turn began where that has come, and went on
pub one_more_turn : (p : Program) (t : ℕ) (old xs ys zs : List PieceView) (n : ℕ) (a b y : PieceView)
    → AreTurns p old xs n → slice_get xs (n - 1) ≡ Some a → a.count ≡ most_local_steps → IsGrown t xs ys
    → StartsAt n ys zs → slice_get zs n ≡ Some b → (y.thread ≡ b.thread) × (y.origin ≡ b.origin) → IsTurn p y
    → AreTurns p old (slice_set zs n y) (suc n)
one_more_turn p t old xs ys zs zero a b y h at whole grown starts there same turn = absurd (omega (arith, h.some))
one_more_turn p t old xs ys zs (suc m) a b y h at whole grown starts there same turn =
    let here : suc m - 1 ≡ m = omega arith in
    let at' : slice_get xs m ≡ Some a = rw here at at in
    let kept : (k : ℕ) → k < suc m → slice_get ys k ≡ slice_get xs k
    = λ k lt. grown_before t xs ys k grown (omega (arith, h.within)) in
    let begun = starts.begins m a refl (kept m (omega arith) ∙ at') in
    more p old xs (slice_set zs (suc m) y) m a y h at' whole
    (λ k lt. get_set_other zs (suc m) k y (λ e. omega arith) ∙ (starts.others k lt ∙ kept k lt))
    (set_there zs (suc m) b y there) (same.0 ∙ cc) (same.1 ∙ cc) turn
