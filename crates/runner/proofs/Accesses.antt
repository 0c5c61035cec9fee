-- An access that was made on some words is the same on all that have its word.
use Rattle.std.proofs.Common.{◌≡◌, ◌∙◌, ◌+◌, ◌%◌, ◌==◌, ◌<◌, ◌⊎◌, ℕ, zero, suc, Bool, true, false, List, [], ◌∷◌, length, length-set}
use Rattle.std.proofs.Common.{Option, Some, None, slice_get, slice_set, inl, inr, refl, ap, sym, subst, arith, nat_lt}
use Rattle.std.specs.Prelude.{if◌then◌else◌, slice_index}
use Rattle.std.specs.Int.Bits.{bit_or}
use Rattle.std.proofs.lemmas.Option.{get_or_from_slice_get}
use Rattle.locals.specs.declared.access.Access.{Access}
use Rattle.locals.specs.declared.access.AccessKind.{AccessKind}
use Rattle.locals.specs.declared.access.AccessKind.TheVariants as kind
use Rattle.locals.specs.Accesses.{Accessing, Found, accessing, exchanged, found, goes_on}
use Rattle.locals.specs.Threads.{Thread}
use Rattle.locals.specs.Looks.{Request, AskLoad, AskStore, AskSwap, AskCompareSwap, AskOr, AskAdd, AskFork, AskPrint}
use Rattle.locals.specs.Looks.{AskWait, AskWake, AskRequeue, AskReturn, AskReturnValue, AskFault, Look, Goes, Asks}
use Rattle.locals.specs.Looks.{Leaves, Breaks, Rests}

set_self : (xs : List ℕ) (i : ℕ) → slice_set xs i (slice_index xs i) ≡ xs
set_self [] i = refl
set_self (x ∷ xs) zero = refl
set_self (x ∷ xs) (suc i) = ap (λ ys. x ∷ ys) (set_self xs i)

get_put : (xs : List ℕ) (i x : ℕ) → i < length xs → slice_get (slice_set xs i x) i ≡ Some x
get_put [] i x h = absurd (omega (arith, h))
get_put (z ∷ zs) zero x h = refl
get_put (z ∷ zs) (suc i) x h = get_put zs i x (omega (arith, h))

-- an access that answers the word, and leaves another by it
abbrev told_at : AccessKind → ℕ → ℕ → Access
told_at k b x = record { kind = k; address = record { 0 = b }; value = x }

abbrev trade : AccessKind → (ℕ → ℕ) → List ℕ → ℕ → Option Found
trade k g ws b = exchanged ws b k (slice_set ws b (g (slice_index ws b)))

abbrev traded : AccessKind → ℕ → ℕ → List ℕ → Found
traded k b x ws = record { told = told_at k b x; answer = x; words = ws }

opened : (b : Bool) (r f : Found) → (if b then Some r else None) ≡ Some f → (f ≡ r) × (b ≡ true)
opened true r f h = (cc, refl)
opened false r f h = absurd cc

one : (x y : ℕ) → Some x ≡ Some y → x ≡ y
one x y h = cc

-- a request that was served on some words is served so on all that have its word
pub record ServedAlike (r : Request) (ws : List ℕ) (f : Found) : Type 0 where
  pub inside : f.told.address.0 < length ws
  pub long : length f.words ≡ length ws
  pub alike : (rs : List ℕ) (after : ℕ) → slice_get f.words f.told.address.0 ≡ Some after
      → f.told.address.0 < length rs → (f.told.kind ≡ kind.Store) ⊎ (slice_get rs f.told.address.0 ≡ Some f.told.value)
      → found r rs ≡ Some (record { told = f.told; answer = f.answer; words = slice_set rs f.told.address.0 after })

by_trade : (r : Request) (k : AccessKind) (g : ℕ → ℕ) (b : ℕ) (ws : List ℕ) (f : Found)
    → ((xs : List ℕ) → found r xs ≡ trade k g xs b) → ((k ≡ kind.Store) → ⊥) → found r ws ≡ Some f → ServedAlike r ws f
by_trade r k g b ws f is none finds =
    let x : ℕ = slice_index ws b in
    let o = opened (nat_lt b (length ws)) (traded k b x (slice_set ws b (g x))) f (sym (is ws) ∙ finds) in
    let within : b < length ws = grind (arith, o.1) in
    subst (λ (q : Found). ServedAlike r ws q) (sym o.0) (record {
      inside = within;
      long = length-set ws b (g x);
      alike = λ rs after left there any. for rs after left there any;
    })
  where
    for : (rs : List ℕ) (after : ℕ) → slice_get (slice_set ws b (g (slice_index ws b))) b ≡ Some after → b < length rs
        → (k ≡ kind.Store) ⊎ (slice_get rs b ≡ Some (slice_index ws b))
        → found r rs
        ≡ Some (record { told = told_at k b (slice_index ws b); answer = slice_index ws b; words = slice_set rs b after })
    for rs after left there (inl store) = absurd (none store)
    for rs after left there (inr at) =
        let x : ℕ = slice_index ws b in
        let within : b < length ws = grind (
          arith,
          (opened (nat_lt b (length ws)) (traded k b x (slice_set ws b (g x))) f
              (sym (is ws) ∙ finds)).1,
        ) in
        let j : slice_index rs b ≡ x = get_or_from_slice_get rs b x 0 at in
        let new : g x ≡ after = one (g x) after (sym (get_put ws b (g x) within) ∙ left) in
        let can : nat_lt b (length rs) ≡ true = grind (arith, there) in
        is rs
        ∙ (ap (λ c. if c then Some (traded k b (slice_index rs b) (slice_set rs b (g (slice_index rs b)))) else None) can
        ∙ ((λ i. Some (traded k b (j i) (slice_set rs b (g (j i)))))
        ∙ (λ i. Some (traded k b x (slice_set rs b (new i))))))

stored : (b v : ℕ) (ws : List ℕ) (f : Found) → found (AskStore b v) ws ≡ Some f → ServedAlike (AskStore b v) ws f
stored b v ws f finds =
    let o = opened (nat_lt b (length ws)) (record { told = told_at kind.Store b v; answer = 0; words = slice_set ws b v }) f
    finds in
    let within : b < length ws = grind (arith, o.1) in
    subst (λ (q : Found). ServedAlike (AskStore b v) ws q) (sym o.0) (record {
      inside = within;
      long = length-set ws b v;
      alike = λ rs after left there any.
          let new : v ≡ after = one v after (sym (get_put ws b v within) ∙ left) in
          let can : nat_lt b (length rs) ≡ true = grind (arith, there) in
          ap (λ c. if c
          then Some (record { told = told_at kind.Store b v; answer = 0; words = slice_set rs b v }) else None) can
          ∙ (λ i. Some (record { told = told_at kind.Store b v; answer = 0; words = slice_set rs b (new i) }));
    })

swapped : (b : Bool) (ws : List ℕ) (a x new : ℕ) → slice_set ws a x ≡ ws
    → (if b then slice_set ws a new else ws) ≡ slice_set ws a (if b then new else x)
swapped true ws a x new same = refl
swapped false ws a x new same = sym same

founds : (r : Request) (ws : List ℕ) (f : Found) → found r ws ≡ Some f → ServedAlike r ws f
founds (AskLoad b) ws f finds =
    by_trade (AskLoad b) kind.Load (λ x. x) b ws f
    (λ xs. ap (λ (ys : List ℕ). exchanged xs b kind.Load ys) (sym (set_self xs b))) (λ no. absurd cc) finds
founds (AskStore b v) ws f finds = stored b v ws f finds
founds (AskSwap b v) ws f finds =
    by_trade (AskSwap b v) kind.Swap (λ x. v) b ws f (λ xs. refl) (λ no. absurd cc) finds
founds (AskCompareSwap b expected new) ws f finds =
    by_trade (AskCompareSwap b expected new) kind.CompareSwap (λ x. if x == expected then new else x) b ws f
    (λ xs. ap (λ (ys : List ℕ). exchanged xs b kind.CompareSwap ys)
    (swapped (slice_index xs b == expected) xs b (slice_index xs b) new (set_self xs b))) (λ no. absurd cc) finds
founds (AskOr b v) ws f finds =
    by_trade (AskOr b v) kind.FetchOr (λ x. bit_or x v) b ws f (λ xs. refl) (λ no. absurd cc) finds
founds (AskAdd b v) ws f finds =
    by_trade (AskAdd b v) kind.FetchAdd (λ x. (x + v) % 4294967296) b ws f (λ xs. refl) (λ no. absurd cc) finds
founds (AskFork entry arguments has_room) ws f finds = absurd cc
founds (AskPrint number) ws f finds = absurd cc
founds (AskWait b expected) ws f finds = absurd cc
founds (AskWake b n) ws f finds = absurd cc
founds (AskRequeue b d n m expected) ws f finds = absurd cc
founds AskReturn ws f finds = absurd cc
founds (AskReturnValue v) ws f finds = absurd cc
founds (AskFault cause) ws f finds = absurd cc

-- the same of an access
pub record MadeAlike (l : Look) (ws : List ℕ) (made : Accessing) : Type 0 where
  pub inside : made.told.address.0 < length ws
  pub long : length made.words ≡ length ws
  pub alike : (rs : List ℕ) (after : ℕ) → slice_get made.words made.told.address.0 ≡ Some after
      → made.told.address.0 < length rs
      → (made.told.kind ≡ kind.Store) ⊎ (slice_get rs made.told.address.0 ≡ Some made.told.value)
      → accessing l rs
      ≡ Some (record { told = made.told; words = slice_set rs made.told.address.0 after; thread = made.thread })

goes_so : (r : Request) (go : ℕ → Thread) (ws : List ℕ) (made : Accessing) (o : Option Found) → found r ws ≡ o
    → goes_on go o ≡ Some made → MadeAlike (Asks r go) ws made
goes_so r go ws made None is goes = absurd cc
goes_so r go ws made (Some f) is goes =
    let was : (let m : Accessing = record { told = f.told; words = f.words; thread = go f.answer } in m) ≡ made = cc in
    let s = founds r ws f is in
    subst (λ (q : Accessing). MadeAlike (Asks r go) ws q) was (record {
      inside = s.inside;
      long = s.long;
      alike = λ rs after left there any. ap (goes_on go) (s.alike rs after left there any);
    })

pub made_alike : (l : Look) (ws : List ℕ) (made : Accessing) → accessing l ws ≡ Some made → MadeAlike l ws made
made_alike (Asks r go) ws made is = goes_so r go ws made (found r ws) refl is
made_alike (Goes x) ws made is = absurd cc
made_alike (Leaves phase) ws made is = absurd cc
made_alike Breaks ws made is = absurd cc
made_alike Rests ws made is = absurd cc
