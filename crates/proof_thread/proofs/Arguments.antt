-- Arguments on the operands, and in the locals of the procedure that was called.
use Rattle.std.proofs.Common.{inl, inr, ◌≡◌, ◌⊎◌, ℕ, zero, suc, ◌+◌, ◌*◌, ◌<◌, ◌≤◌, List, [], ◌∷◌, ◌++◌, length, Option}
use Rattle.std.proofs.Common.{Some, slice_get, refl, ap, sym, ◌∙◌, subst, arith, length-append, ℤ, pos}
use Rattle.std.specs.Prelude.{slice_index, slice_set, replicate}
use Rattle.words.specs.Signed.{word_of}
use Rattle.words.specs.declared.outcome.Cause.TheVariants.{Faulted}
use Rattle.words.specs.Versions.{most_of}
use Rattle.isa.specs.declared.instr.Instr.TheVariants.{SetLocal}
use Rattle.isa.specs.declared.slot.Slot.TheVariants.{Local as Slot'}
use Rattle.proof_thread.specs.Deferrals.{MarkedImage, deferred_by_mark}
use Rattle.program.specs.declared.kinds.ValueType.{ValueType}
use Rattle.program.specs.Trees.{Expression}
use Rattle.program.specs.Scope.{Scope}
use Rattle.program.specs.Typing.{ArgumentsFit}
use Rattle.program.specs.Measures.{arguments_room}
use Rattle.program.specs.Tokens.{expression_tokens, arguments_tokens}
use Rattle.lowering.specs.Expressions.{expression_code, arguments_code}
use Rattle.lowering.specs.Pieces.{parameters_code}
use Rattle.locals.specs.declared.frame.Locals.{Locals}
use Rattle.locals.specs.declared.frame.Frame.{Frame as MachineFrame}
use Rattle.locals.specs.Threads.{Thread, Runs, Dies, with_local, fresh}
use Rattle.meaning.specs.Values.{Variables, Evaluated, Value, Fails, EvaluatedAll, Values, FailsAll, evaluate}
use Rattle.meaning.specs.Values.{evaluate_all, put_first, local_value, or_zero}
use Rattle.meaning.specs.Processes.{zeros}
use Rattle.proof_thread.specs.Typed.{HaveValues, HoldValues}
use Rattle.proof_thread.specs.Evaluation.{OfType, view_in, Evaluates}
use Rattle.proof_thread.specs.Walks.{View, StandAt, WalksWithin, Gives, stays}
use Rattle.proof_thread.proofs.Walking.{front_stands, back_stands, within_on, wider, one_step, look_here}
use Rattle.proof_thread.proofs.Putting.{put_length, set_same, set_other, zero_value}

-- the words of values, pushed one after another
abbrev pub stacked : List ℤ → List ℕ → List ℕ
stacked [] operands = operands
stacked (z ∷ zs) operands = stacked zs (word_of z ∷ operands)

-- the same by their numbers
abbrev pub stacked_by : ℕ → (ℕ → ℤ) → List ℕ → List ℕ
stacked_by zero g operands = operands
stacked_by (suc n) g operands = word_of (g n) ∷ stacked_by n g operands

-- where the evaluation of arguments leads
abbrev pub GivesAll : MarkedImage → ℕ → View → ℕ → Thread → EvaluatedAll → ℕ → List ℕ → Locals → List MachineFrame
    → Type 0
GivesAll p t view n x (Values zs) place operands l fs = WalksWithin p t view n x
    (Runs place (stacked zs operands) l fs)
GivesAll p t view n x (FailsAll fault) place operands l fs = WalksWithin p t view n x (Dies (Faulted fault))

abbrev pub HaveAll : ℕ → ℕ → List ValueType → EvaluatedAll → Type 0
HaveAll most made ts (Values zs) = HaveValues most made ts zs
HaveAll most made ts (FailsAll fault) = Unit {0}

module _ (image : MarkedImage) (made t : ℕ) (s : Scope) (v : Variables) (values : List ℤ) (l : Locals)
    (ev : Evaluates image made t s v values l) where
  -- how many processes there can be
  abbrev limit : ℕ
  limit = most_of s.program.version

  -- what is in view there
  abbrev view : View
  view = view_in s v

  pub arguments_typed : (es : List Expression) (ts : List ValueType) → ArgumentsFit s es ts → HaveAll limit made ts
      (evaluate_all s.program v values es)
  arguments_typed [] [] h = tt
  arguments_typed [] (u ∷ ts) h = absurd h
  arguments_typed (e ∷ es) [] h = absurd h
  arguments_typed (e ∷ es) (u ∷ ts) h = both (evaluate s.program v values e) (evaluate_all s.program v values es)
      (ev.type e u h.0) (arguments_typed es ts h.1)
    where
      both : (a : Evaluated) (as' : EvaluatedAll) → OfType limit made u a → HaveAll limit made ts as'
          → HaveAll limit made (u ∷ ts) (put_first a as')
      both (Value z) (Values zs) k m = (k, m)
      both (Value z) (FailsAll fault) k m = tt
      both (Fails fault) (Values zs) k m = tt
      both (Fails fault) (FailsAll fault') k m = tt

  pub arguments_give : (es : List Expression) (ts : List ValueType) (place : ℕ) (operands : List ℕ)
      (fs : List MachineFrame) → ArgumentsFit s es ts → StandAt image place (arguments_code s.program es)
      → arguments_room es + length operands ≤ 512
      → GivesAll image t view (2 * arguments_tokens es) (Runs place operands l fs)
      (evaluate_all s.program v values es) (place + length (arguments_code s.program es)) operands l fs
  arguments_give [] [] place operands fs h code fit = let e : place ≡ place + 0 = omega arith in subst
      (λ n. WalksWithin image t view 0 (Runs place operands l fs) (Runs n operands l fs)) e
      (record { count = 0; few = omega arith; walk = stays })
  arguments_give [] (u ∷ ts) place operands fs h code fit = absurd h
  arguments_give (e ∷ es) [] place operands fs h code fit = absurd h
  arguments_give (e ∷ es) (u ∷ ts) place operands fs h code fit =
      let p = s.program in
      let first = expression_code p e in
      let later = arguments_code p es in
      let next = place + length first in
      let len : next + length later ≡ place + length (first ++ later) = omega (arith, length-append first later) in
      both (evaluate p v values e) (evaluate_all p v values es) (next + length later)
      (place + length (first ++ later)) len
      (ev.gives e u place operands fs h.0 (front_stands image place first later code) (omega (arith, fit)))
      (λ z. arguments_give es ts next (word_of z ∷ operands) fs h.1 (back_stands image place first later code)
      (omega (arith, fit)))
    where
      both : (a : Evaluated) (as' : EvaluatedAll) (end end' : ℕ) → end ≡ end'
          → Gives image t view (2 * expression_tokens e) (Runs place operands l fs) a
          (place + length (expression_code s.program e)) operands l fs
          → ((z : ℤ) → GivesAll image t view (2 * arguments_tokens es)
          (Runs (place + length (expression_code s.program e)) (word_of z ∷ operands) l fs) as' end
          (word_of z ∷ operands) l fs)
          → GivesAll image t view (2 * arguments_tokens (e ∷ es)) (Runs place operands l fs)
          (put_first a as') end' operands l fs
      both (Value z) (Values zs) end end' same g k =
          let whole = within_on image t view (2 * expression_tokens e) (2 * arguments_tokens es) _ _ _ g (k z) in
          subst (λ n. WalksWithin image t view (2 * arguments_tokens (e ∷ es)) (Runs place operands l fs)
          (Runs n (stacked zs (word_of z ∷ operands)) l fs)) same
          (wider image t view (2 * expression_tokens e + 2 * arguments_tokens es)
          (2 * arguments_tokens (e ∷ es)) _ _ (omega arith) whole)
      both (Value z) (FailsAll fault) end end' same g k =
          wider image t view (2 * expression_tokens e + 2 * arguments_tokens es)
          (2 * arguments_tokens (e ∷ es)) _ _ (omega arith)
          (within_on image t view (2 * expression_tokens e) (2 * arguments_tokens es) _ _ _ g (k z))
      both (Fails fault) (Values zs) end end' same g k = wider image t view (2 * expression_tokens e)
          (2 * arguments_tokens (e ∷ es)) _ _ (omega arith) g
      both (Fails fault) (FailsAll fault') end end' same g k = wider image t view (2 * expression_tokens e)
          (2 * arguments_tokens (e ∷ es)) _ _ (omega arith) g

-- values by their numbers are the same as one after another
pub stacked_same : (zs : List ℤ) (k : ℕ) (g : ℕ → ℤ) (operands : List ℕ) →
    ((i : ℕ) (z : ℤ) → slice_get zs i ≡ Some z → g (k + i) ≡ z) → stacked zs (stacked_by k g operands) ≡ stacked_by
    (k + length zs) g operands
stacked_same [] k g operands h = let e : k ≡ k + 0 = omega arith in ap (λ n. stacked_by n g operands) e
stacked_same (z ∷ zs) k g operands h =
    let here : k + 0 ≡ k = omega arith in
    let first : word_of z ≡ word_of (g k) = ap word_of (sym (h 0 z refl) ∙ ap g here) in
    let len : suc k + length zs ≡ k + suc (length zs) = omega arith in
    ap (λ w. stacked zs (w ∷ stacked_by k g operands)) first
    ∙ stacked_same zs (suc k) g operands (λ i y e. let place : suc k + i ≡ k + suc i = omega arith in ap g place ∙ h
    (suc i) y e)
    ∙ ap (λ n. stacked_by n g operands) len

-- the locals with so many of them set
abbrev pub set_all : ℕ → (ℕ → ℤ) → Locals → Locals
set_all zero g l = l
set_all (suc n) g l = set_all n g (with_local l (Slot' n) (word_of (g n)))

-- the parameters go from the operands into the locals
pub parameters_walk : (image : MarkedImage) (t : ℕ) (view : View) (n : ℕ) (g : ℕ → ℤ) (place : ℕ)
    (operands : List ℕ) (l : Locals) (fs : List MachineFrame) → StandAt image place (parameters_code n)
    → WalksWithin image t view n (Runs place (stacked_by n g operands) l fs)
    (Runs (place + length (parameters_code n)) operands (set_all n g l) fs)
parameters_walk image t view zero g place operands l fs code = let e : place ≡ place + 0 = omega arith in subst
    (λ n. WalksWithin image t view 0 (Runs place operands l fs) (Runs n operands l fs)) e
    (record { count = 0; few = omega arith; walk = stays })
parameters_walk image t view (suc n) g place operands l fs code =
    let step = one_step image t view (Runs place (word_of (g n) ∷ stacked_by n g operands) l fs)
    (Runs (place + 1) (stacked_by n g operands) (with_local l (Slot' n) (word_of (g n))) fs)
    (look_here image t view place (SetLocal (Slot' n)) (word_of (g n) ∷ stacked_by n g operands) l fs code.0)
    (ap deferred_by_mark code.0.1) in
    let more = parameters_walk image t view n g (place + 1) operands
    (with_local l (Slot' n) (word_of (g n))) fs code.1 in
    let e : place + 1 + length (parameters_code n) ≡ place + suc (length (parameters_code n)) = omega arith in
    let one_more : 1 + n ≤ suc n = omega arith in
    subst (λ k. WalksWithin image t view (suc n) (Runs place (word_of (g n) ∷ stacked_by n g operands) l fs)
    (Runs k operands (set_all n g (with_local l (Slot' n) (word_of (g n)))) fs)) e
    (wider image t view (1 + n) (suc n) _ _ one_more (within_on image t view 1 n _ _ _ step more))

pub set_all_length : (n : ℕ) (g : ℕ → ℤ) (l : Locals) → length (set_all n g l).values ≡ length l.values
set_all_length zero g l = refl
set_all_length (suc n) g l = set_all_length n g (with_local l (Slot' n) (word_of (g n))) ∙ put_length l.values n
    (word_of (g n))

pub set_all_other : (n : ℕ) (g : ℕ → ℤ) (l : Locals) (i : ℕ) → n ≤ i → slice_index
    (set_all n g l).values i ≡ slice_index l.values i
set_all_other zero g l i h = refl
set_all_other (suc n) g l i h = set_all_other n g (with_local l (Slot' n) (word_of (g n))) i (omega (arith, h))
    ∙ set_other l.values n (word_of (g n)) i (λ e. absurd (omega (arith, h, e)))

below_or_same : (i n : ℕ) → i ≤ n → (i < n) ⊎ (i ≡ n)
below_or_same zero zero h = inr refl
below_or_same zero (suc n) h = inl (omega arith)
below_or_same (suc i) zero h = absurd (omega (arith, h))
below_or_same (suc i) (suc n) h = up (below_or_same i n (omega (arith, h)))
  where
    up : (i < n) ⊎ (i ≡ n) → (suc i < suc n) ⊎ (suc i ≡ suc n)
    up (inl a) = inl (omega (arith, a))
    up (inr a) = inr (ap suc a)

pub set_all_at : (n : ℕ) (g : ℕ → ℤ) (l : Locals) (i : ℕ) → i < n → n ≤ length l.values → slice_index
    (set_all n g l).values i ≡ word_of (g i)
set_all_at zero g l i h k = absurd (omega (arith, h))
set_all_at (suc n) g l i h k =
    by_place (below_or_same i n (omega (arith, h))) (λ lt. set_all_at n g
    (with_local l (Slot' n) (word_of (g n))) i lt (omega (arith, k, put_length l.values n (word_of (g n)))))
  where
    by_place : (i < n) ⊎ (i ≡ n) → (i < n → slice_index (set_all (suc n) g l).values i ≡ word_of (g i)) → slice_index
        (set_all (suc n) g l).values i ≡ word_of (g i)
    by_place (inl lt) earlier = earlier lt
    by_place (inr e) earlier =
        set_all_other n g (with_local l (Slot' n) (word_of (g n))) i (omega (arith, e))
        ∙ ap (slice_index (slice_set l.values n (word_of (g n)))) e ∙ set_same l.values n (word_of (g n))
        (omega (arith, k)) ∙ ap (λ j. word_of (g j)) (sym e)

fresh_zero : (n i : ℕ) → slice_index (replicate n 0) i ≡ 0
fresh_zero zero i = refl
fresh_zero (suc n) zero = refl
fresh_zero (suc n) (suc i) = fresh_zero n i

zeros_zero : (ts : List ValueType) (i : ℕ) (z : ℤ) → slice_get (zeros ts) i ≡ Some z → z ≡ pos 0
zeros_zero [] i z h = absurd cc
zeros_zero (t ∷ ts) zero z h = cc
zeros_zero (t ∷ ts) (suc i) z h = zeros_zero ts i z h

-- what stands at a place of two lists
pub get_cases : (zs ys : List ℤ) (i : ℕ) (z : ℤ) → slice_get (zs ++ ys) i ≡ Some z →
    ((i < length zs) × (slice_get zs i ≡ Some z)) ⊎ ((j : ℕ) × (i ≡ length zs + j) × (slice_get ys j ≡ Some z))
get_cases [] ys i z h = inr (i, omega arith, h)
get_cases (x ∷ zs) ys zero z h = inl (omega arith, h)
get_cases (x ∷ zs) ys (suc i) z h = up (get_cases zs ys i z h)
  where
    up : ((i < length zs) × (slice_get zs i ≡ Some z)) ⊎ ((j : ℕ) × (i ≡ length zs + j) × (slice_get ys j ≡ Some z)) →
        ((suc i < suc (length zs)) × (slice_get zs i ≡ Some z)) ⊎
        ((j : ℕ) × (suc i ≡ suc (length zs) + j) × (slice_get ys j ≡ Some z))
    up (inl (a, c)) = inl (omega (arith, a), c)
    up (inr (j, a, c)) = inr (j, omega (arith, a), c)

pub locals_typed : (most made : ℕ) → (ts us : List ValueType) (zs : List ℤ) → HaveValues most made ts zs
    → HaveValues most made (ts ++ us) (zs ++ zeros us)
locals_typed most made [] us [] h = all_zeros us
  where
    all_zeros : (us : List ValueType) → HaveValues most made us (zeros us)
    all_zeros [] = tt
    all_zeros (u ∷ us) = (zero_value most made u, all_zeros us)
locals_typed most made [] us (z ∷ zs) h = absurd h
locals_typed most made (t ∷ ts) us [] h = absurd h
locals_typed most made (t ∷ ts) us (z ∷ zs) h = (h.0, locals_typed most made ts us zs h.1)

pub values_length : (most made : ℕ) → (ts : List ValueType) (zs : List ℤ) → HaveValues most made ts zs
    → length zs ≡ length ts
values_length most made [] [] h = refl
values_length most made [] (z ∷ zs) h = absurd h
values_length most made (t ∷ ts) [] h = absurd h
values_length most made (t ∷ ts) (z ∷ zs) h = ap suc (values_length most made ts zs h.1)

-- the locals of a procedure that begins
pub opening_holds : (zs : List ℤ) (us : List ValueType) → length zs ≤ 64 → HoldValues
    (set_all (length zs) (local_value zs) fresh).values (zs ++ zeros us)
opening_holds zs us few i z h = by_place (get_cases zs (zeros us) i z h)
  where
    by_place : ((i < length zs) × (slice_get zs i ≡ Some z)) ⊎
        ((j : ℕ) × (i ≡ length zs + j) × (slice_get (zeros us) j ≡ Some z)) → slice_index
        (set_all (length zs) (local_value zs) fresh).values i ≡ word_of z
    by_place (inl (lt, e)) = set_all_at (length zs) (local_value zs) fresh i lt few ∙ ap
        (λ (o : Option ℤ). word_of (or_zero o)) e
    by_place (inr (j, place, e)) = set_all_other (length zs) (local_value zs) fresh i (omega (arith, place))
        ∙ fresh_zero 64 i ∙ ap word_of (sym (zeros_zero us j z e))
