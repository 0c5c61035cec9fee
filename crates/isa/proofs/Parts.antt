-- Readings put together, and what a reading took from the front.
use Rattle.std.proofs.Common.{◌≡◌, ℕ, suc, ◌<◌, ◌+◌, Bool, true, false, cond, ◌⊎◌, inl, inr, List, [], ◌∷◌, ◌++◌}
use Rattle.std.proofs.Common.{length, get_or, drop, add-one, Result, Ok, Err, refl, sym, ap, ◌∙◌, append_assoc}
use Rattle.std.proofs.Math.Seq.{drop-cons}
use Rattle.isa.specs.declared.fault.DecodeFault.{DecodeFault}
use Rattle.isa.specs.Reading.{◌>>=◌}

-- the value of a step that did not fail
pub bind_ok : {A B : Type 0} (r : Result A DecodeFault) (f : A → Result B DecodeFault) (y : B) → (r >>= f) ≡ Ok y
    → (x : A) × (r ≡ Ok x) × (f x ≡ Ok y)
bind_ok (Ok x) f y e = (x, refl, e)
bind_ok (Err d) f y e = absurd cc

-- a test that did not fail
pub guard_ok : {A : Type 0} (b : Bool) (d : DecodeFault) (x y : A) → cond b (Err d) (Ok x) ≡ Ok y → (b ≡ false)
    × (x ≡ y)
guard_ok true d x y e = absurd cc
guard_ok false d x y e = (refl, cc)

-- which way a test went
pub chosen : {A : Type 0} (b : Bool) (x y z : A) → cond b x y ≡ z → ((b ≡ true) × (x ≡ z)) ⊎ ((b ≡ false) × (y ≡ z))
chosen true x y z e = inl (refl, e)
chosen false x y z e = inr (refl, e)

abbrev pub done : {A : Type 0} → A → Result A DecodeFault
done x = Ok x

pub ok_is : {A : Type 0} (x y : A) → done x ≡ done y → x ≡ y
ok_is x y e = cc

-- what is left from a place on begins with what stands there
pub opened : (bytes : List ℕ) (place : ℕ) → place < length bytes → drop place bytes ≡ get_or bytes place 0 ∷ drop
    (place + 1) bytes
opened bytes place lt = rw (add-one, drop-cons bytes place 0 lt) refl

abbrev pub IsBytes : List ℕ → Type 0
IsBytes bytes = (i : ℕ) → get_or bytes i 0 < 256

pub IsBytes-rest : (b : ℕ) (bytes : List ℕ) → IsBytes (b ∷ bytes) → IsBytes bytes
IsBytes-rest b bytes h i = h (suc i)

-- what a reading took from the front
pub record Takes (bytes text rest : List ℕ) : Type 0 where
  pub parts : bytes ≡ text ++ rest
  pub rest_fits : IsBytes rest

pub Takes-nothing : (bytes : List ℕ) → IsBytes bytes → Takes bytes [] bytes
Takes-nothing bytes fits = record { parts = refl; rest_fits = fits }

pub Takes-then : (a x b y c : List ℕ) → Takes a x b → Takes b y c → Takes a (x ++ y) c
Takes-then a x b y c p q = record {
  parts = p.parts ∙ ap (λ (t : List ℕ). x ++ t) q.parts ∙ sym (append_assoc x y c);
  rest_fits = q.rest_fits;
}
