-- The code of an expression leads to its value, or into its fault.
use Rattle.std.proofs.Common.{rules, ◌≡◌, ℕ, zero, suc, ◌+◌, ◌*◌, ◌<◌, ◌≤◌, ◌%◌, List, [], ◌∷◌, ◌++◌, length, Option}
use Rattle.std.proofs.Common.{Some, None, slice_get, refl, ap, sym, ◌∙◌, subst, arith, ℤ, pos, negsuc, Bool, true}
use Rattle.std.proofs.Common.{false, lt-ltb, length-append}
use Rattle.std.specs.Prelude.{slice_index, nat_lt, if◌then◌else◌, FitsSigned}
use Rattle.std.specs.Int.{w32}
use Rattle.std.proofs.lemmas.Bool.{ltb-true}
use Rattle.words.specs.declared.outcome.Fault.TheVariants.{IndexOutOfRange}
use Rattle.words.specs.Signed.{word_of}
use Rattle.words.specs.declared.outcome.Cause.TheVariants.{Faulted}
use Rattle.words.specs.Versions.{most_of}
use Rattle.isa.specs.declared.slot.Slot.TheVariants.{Local as Slot'}
use Rattle.isa.specs.declared.instr.Instr.TheVariants.{Push, GetLocal, Load, Operate, Index}
use Rattle.proof_thread.specs.Deferrals.{MarkedImage, IsAt, deferred_by_mark}
use Rattle.program.specs.declared.kinds.ValueType.{ValueType}
use Rattle.program.specs.declared.kinds.ValueType.TheVariants.{Integer}
use Rattle.program.specs.declared.kinds.Member.{Member as MemberOf}
use Rattle.program.specs.declared.kinds.MemberType.{MemberType}
use Rattle.program.specs.declared.kinds.MemberType.TheVariants.{Variable, Array}
use Rattle.program.specs.Trees.{Program, Expression, Constant, Truth, Local, Member, Element, Unary, Both}
use Rattle.program.specs.Scope.{Scope, own_monitor, member_type, array_size, size_in}
use Rattle.program.specs.Typing.{HasType, unary_type, result_type}
use Rattle.program.specs.Measures.{room}
use Rattle.program.specs.Tokens.{expression_tokens}
use Rattle.lowering.specs.Marks.{plain}
use Rattle.lowering.specs.Layout.{member_address}
use Rattle.lowering.specs.Expressions.{expression_code, operation, unary_code, index_code}
use Rattle.lowering.specs.Expressions as c
use Rattle.locals.specs.declared.frame.Locals.{Locals}
use Rattle.locals.specs.declared.frame.Frame.{Frame}
use Rattle.locals.specs.Threads.{Thread, Runs, Dies}
use Rattle.locals.specs.Looks.{Goes, look, Then, Checks, at_place, index_effect}
use Rattle.meaning.specs.Values.{Variables, Evaluated, Value, evaluate, local_value, or_zero, unary}
use Rattle.meaning.specs.Values.{both, at_index, index_in}
use Rattle.meaning.specs.Values as v
use Rattle.proof_thread.specs.Typed.{HasValue, HaveValues, HoldValues}
use Rattle.proof_thread.specs.Variables.{IsVariable, HasIndex, ValueFits, VariablesFit, ArraysAreLow}
use Rattle.proof_thread.specs.Evaluation.{OfType, view_in, IsEvaluated, Evaluates}
use Rattle.proof_thread.specs.Walks.{View, StandAt, Reads, WalksWithin, Gives}
use Rattle.proof_thread.proofs.Operators.{small_fits, word_injective, both_shown, both_typed, unary_shown, unary_typed}
use Rattle.proof_thread.proofs.Operators.{truth_typed}
use Rattle.proof_thread.proofs.Walking.{front_stands, back_stands, wider, one_step, one_load, wider_gives, walk_gives}
use Rattle.proof_thread.proofs.Walking.{and_gives, shown_gives, look_here, push_step, and_typed}

-- a local of a type has a value of it
pub local_typed : (most made : ℕ) → (ts : List ValueType) (zs : List ℤ) (slot : ℕ) (t : ValueType)
    → HaveValues most made ts zs
    → slice_get ts slot ≡ Some t → (z : ℤ) × (slice_get zs slot ≡ Some z) × HasValue most made t z
local_typed most made [] zs slot t h e = absurd cc
local_typed most made (u ∷ ts) [] slot t h e = absurd h
local_typed most made (u ∷ ts) (z ∷ zs) zero t h e = (
  z,
  refl,
  let same : u ≡ t = cc in subst
      (λ (k : ValueType). HasValue most made k z) same h.0,
)
local_typed most made (u ∷ ts) (z ∷ zs) (suc slot) t h e = local_typed most made ts zs slot t h.1 e

index_typed : (most made : ℕ) → (size : ℕ) (t : ValueType) (k : ℕ → Evaluated) (z : ℤ) → ((i : ℕ) → i < size
    → OfType most made t (k i))
    → OfType most made t (at_index (index_in size z) k)
index_typed most made size t k (negsuc n) h = tt
index_typed most made size t k (pos i) h = by_test (nat_lt i size) refl
  where
    by_test : (b : Bool) → nat_lt i size ≡ b → OfType most made t (at_index (if b then Some i else None) k)
    by_test true e = h i (ltb-true i size e)
    by_test false e = tt

small_word : (n : ℕ) → n < 2147483648 → word_of (pos n) ≡ n
small_word n h = search rules

in_index : (size : ℕ) (z : ℤ) (w : ℕ) → z ≡ pos w → w < size → index_in size z ≡ Some w
in_index size z w e h = rw e (ap (λ b. if b then Some w else None) (lt-ltb w size h))

out_index : (size : ℕ) (z : ℤ) → size ≤ 1024 → nat_lt (word_of z) size ≡ false → index_in size z ≡ None
out_index size (negsuc n) small h = refl
out_index size (pos i) small h = by_test (nat_lt i size) refl
  where
    by_test : (b : Bool) → nat_lt i size ≡ b → (if b then Some i else None) ≡ None
    by_test false e = refl
    by_test true e =
        let lt = ltb-true i size e in
        let w = small_word i (omega (arith, lt, small)) in
        absurd (grind (arith, w, h, lt-ltb (word_of (pos i)) size (omega (arith, w, lt))))

indexed_in : (base size w : ℕ) (rest : List ℕ) → w < size → size ≤ 1024 → base + size ≤ 4294967296
    → index_effect base size w rest ≡ Checks true IndexOutOfRange (Then ((base + w) ∷ rest))
indexed_in base size w rest lt small low =
    let sum : (base + w) % 4294967296 ≡ base + w = grind (arith, lt, low) in
    let first = lt-ltb w size lt in
    let second = lt-ltb w 2147483648 (omega (arith, lt, small)) in
    simp (first, second, sum) refl

indexed_out : (base size w : ℕ) (rest : List ℕ) → nat_lt w size ≡ false
    → index_effect base size w rest ≡ Checks false IndexOutOfRange (Then ((base + w) % 4294967296 ∷ rest))
indexed_out base size w rest h = rw h refl

-- where an index leads, by the address of the first element: to the address of that element, or to the fault
abbrev pub Indexes : MarkedImage → ℕ → View → ℕ → ℕ → Thread → Option ℕ → ℕ → List ℕ → Locals → List Frame → Type 0
Indexes p t view base size x None place operands l fs = WalksWithin p t view 1 x (Dies (Faulted IndexOutOfRange))
Indexes p t view base size x (Some i) place operands l fs =
    (i < size) × WalksWithin p t view 1 x (Runs (place + 1) ((base + i) ∷ operands) l fs)

module _ (p : MarkedImage) (t : ℕ) (view : View) (base size : ℕ) (small : size ≤ 1024)
    (low : base + size ≤ 4294967296) where
  pub index_steps : (z : ℤ) (place : ℕ) (operands : List ℕ) (l : Locals) (fs : List Frame)
      → FitsSigned w32 z → IsAt p place (plain (Index base size))
      → Indexes p t view base size (Runs place (word_of z ∷ operands) l fs) (index_in size z) place operands l fs
  index_steps z place operands l fs fits here = by_test (nat_lt (word_of z) size) refl
    where
      x : Thread
      x = Runs place (word_of z ∷ operands) l fs

      by_test : (b : Bool) → nat_lt (word_of z) size ≡ b
          → Indexes p t view base size x (index_in size z) place operands l fs
      by_test true e =
          let w = word_of z in
          let lt = ltb-true w size e in
          let same : z ≡ pos w = word_injective z (pos w) fits (small_fits w (omega (arith, lt, small)))
          (sym (small_word w (omega (arith, lt, small)))) in
          let h = look_here p t view place (Index base size) (w ∷ operands) l fs here in
          let step = one_step p t view x (Runs (place + 1) ((base + w) ∷ operands) l fs)
          (h ∙ ap (at_place place l fs) (indexed_in base size w operands lt small low)) (ap deferred_by_mark here.1) in
          subst (λ (o : Option ℕ). Indexes p t view base size x o place operands l fs)
          (sym (in_index size z w same lt)) (lt, step)
      by_test false e =
          let w = word_of z in
          let h = look_here p t view place (Index base size) (w ∷ operands) l fs here in
          let step = one_step p t view x (Dies (Faulted IndexOutOfRange))
          (h ∙ ap (at_place place l fs) (indexed_out base size w operands e)) (ap deferred_by_mark here.1) in
          subst (λ (o : Option ℕ). Indexes p t view base size x o place operands l fs)
          (sym (out_index size z small e)) step

  pub index_gives : (z : ℤ) (place : ℕ) (operands : List ℕ) (l : Locals) (fs : List Frame) (k : ℕ → Evaluated)
      (place' : ℕ)
      → FitsSigned w32 z → IsAt p place (plain (Index base size))
      → ((i : ℕ) → i < size → Gives p t view 1 (Runs (place + 1) ((base + i) ∷ operands) l fs)
      (k i) place' operands l fs)
      → Gives p t view 2 (Runs place (word_of z ∷ operands) l fs)
      (at_index (index_in size z) k) place' operands l fs
  index_gives z place operands l fs k place' fits here go =
      by_index (index_in size z) (index_steps z place operands l fs fits here)
    where
      x : Thread
      x = Runs place (word_of z ∷ operands) l fs

      by_index : (o : Option ℕ) → Indexes p t view base size x o place operands l fs
          → Gives p t view 2 x (at_index o k) place' operands l fs
      by_index None step = wider p t view 1 2 x _ (omega arith) step
      by_index (Some i) step = walk_gives p t view 1 1 x _ (k i) place' operands l fs step.1 (go i step.0)

code_truth : (b : Bool) → c.truth_word b ≡ word_of (v.truth b)
code_truth true = refl
code_truth false = refl

-- a member that is a variable has one, of its type; and an array one of each index
pub single_variable : (p : Program) (m : MemberOf) (u : ValueType) → member_type p m ≡ Some (Variable u)
    → IsVariable p m 0
single_variable p m u e = subst (λ (o : Option MemberType). HasIndex o 0) (sym e) refl

pub element_variable : (p : Program) (a : MemberOf) (n i : ℕ) → member_type p a ≡ Some (Array n) → i < n
    → IsVariable p a i
element_variable p a n i e lt = subst (λ (o : Option MemberType). HasIndex o i) (sym e) lt

module _ (image : MarkedImage) (made t : ℕ) (s : Scope) (vars : Variables) (values : List ℤ)
    (locals_typed : HaveValues (most_of s.program.version) made s.locals values)
    (fit : (m : ℕ) → own_monitor s.role ≡ Some m → VariablesFit made s.program m vars)
    (low : ArraysAreLow s.program) where
  -- how many processes there can be
  abbrev limit : ℕ
  limit = most_of s.program.version

  -- what is in view there
  abbrev view : View
  view = view_in s vars

  pub expression_typed : (e : Expression) (u : ValueType) → HasType s e u
      → OfType limit made u (evaluate s.program vars values e)
  expression_typed (Constant n) u h =
      subst (λ (k : ValueType). HasValue limit made k (pos n)) (sym h.1) (small_fits n h.0)
  expression_typed (Truth b) u h =
      subst (λ (k : ValueType). HasValue limit made k (v.truth b)) (sym h) (truth_typed limit made b)
  expression_typed (Local slot) u h = let x = local_typed limit made s.locals values slot u locals_typed h in subst
      (λ (o : Option ℤ). HasValue limit made u (or_zero o)) (sym x.1) x.2
  expression_typed (Member m) u h =
      subst (λ (o : Option MemberType). ValueFits limit made o (vars m.monitor m.number 0)) h.1
      (fit m.monitor h.0 m 0 refl (single_variable s.program m u h.1))
  expression_typed (Element a e) u h =
      subst (λ (k : ValueType). OfType limit made k (evaluate s.program vars values (Element a e))) (sym h.2)
      (and_typed limit made Integer Integer (evaluate s.program vars values e) _ (expression_typed e Integer h.1) (λ z k.
      index_typed limit made (array_size s.program a) Integer _ z (λ i lt.
      subst (λ (o : Option MemberType). ValueFits limit made o (vars a.monitor a.number i)) h.0.2
      (fit a.monitor h.0.0 a i refl
      (element_variable s.program a h.0.1 i h.0.2 (subst (λ n. i < n) (ap size_in h.0.2) lt))))))
  expression_typed (Unary op e) u h =
      subst (λ (k : ValueType). OfType limit made k (evaluate s.program vars values (Unary op e))) (sym h.1)
      (and_typed limit made (unary_type op) (unary_type op) (evaluate s.program vars values e) (unary op)
      (expression_typed e (unary_type op) h.0) (λ z k. unary_typed limit made op z))
  expression_typed (Both op l r) u h =
      subst (λ (k : ValueType). OfType limit made k (evaluate s.program vars values (Both op l r))) (sym h.4)
      (and_typed limit made h.0 (result_type op) (evaluate s.program vars values l) _ (expression_typed l h.0 h.2)
      (λ a ha.
      and_typed limit made h.0 (result_type op) (evaluate s.program vars values r) (both op a)
      (expression_typed r h.0 h.3)
      (λ b hb. both_typed s.program.version made op h.0 a b h.1 ha hb)))

  -- a word that holds a value is pushed
  pushes : (place : ℕ) (operands : List ℕ) (l : Locals) (fs : List Frame) (w : ℕ) (z : ℤ) → w ≡ word_of z
      → look image.image t (Runs place operands l fs) ≡ Goes (Runs (place + 1) (w ∷ operands) l fs)
      → deferred_by_mark (slice_get image.marks place) ≡ None
      → WalksWithin image t view 2 (Runs place operands l fs) (Runs (place + 1) (word_of z ∷ operands) l fs)
  pushes place operands l fs w z e h none =
      wider image t view 1 2 _ _ (omega arith)
      (subst (λ (k : ℕ). WalksWithin image t view 1 (Runs place operands l fs)
      (Runs (place + 1) (k ∷ operands) l fs)) e (one_step image t view _ _ h none))

  -- a word that holds a value is loaded
  load_gives : (place a : ℕ) (operands : List ℕ) (l : Locals) (fs : List Frame) (z : ℤ)
      → IsAt image place (plain Load) → Reads view a (word_of z) → WalksWithin image t view 1
      (Runs place (a ∷ operands) l fs) (Runs (place + 1) (word_of z ∷ operands) l fs)
  load_gives place a operands l fs z here reads =
      one_load image t view _ a (word_of z) (λ w. Runs (place + 1) (w ∷ operands) l fs)
      (look_here image t view place Load (a ∷ operands) l fs here) reads

  reads_single : (m : MemberOf) (u : ValueType) → own_monitor s.role ≡ Some m.monitor
      → member_type s.program m ≡ Some (Variable u)
      → Reads view (member_address s.program m) (word_of (vars m.monitor m.number 0))
  reads_single m u own e = record {
    member = m;
    index = 0;
    mine = own;
    variable = single_variable s.program m u e;
    there = omega arith;
    shown = refl;
  }

  reads_element : (a : MemberOf) (n i : ℕ) → own_monitor s.role ≡ Some a.monitor
      → member_type s.program a ≡ Some (Array n) → i < n
      → Reads view (member_address s.program a + i) (word_of (vars a.monitor a.number i))
  reads_element a n i own e lt = record {
    member = a;
    index = i;
    mine = own;
    variable = element_variable s.program a n i e lt;
    there = refl;
    shown = refl;
  }

  gives_at : (n : ℕ) (x : Thread) (place place' : ℕ) (operands : List ℕ) (l : Locals) (fs : List Frame)
      (e : Evaluated) → place ≡ place' → Gives image t view n x e place operands l fs
      → Gives image t view n x e place' operands l fs
  gives_at n x place place' operands l fs e h g = subst
      (λ (k : ℕ). Gives image t view n x e k operands l fs) h g

  -- from the code of an expression, within twice as many steps as it has tokens
  pub expression_gives : (e : Expression) (u : ValueType) (place : ℕ) (operands : List ℕ) (l : Locals) (fs : List Frame)
      → HasType s e u → HoldValues l.values values → StandAt image place (expression_code s.program e)
      → room e + length operands ≤ 512
      → Gives image t view (2 * expression_tokens e) (Runs place operands l fs)
      (evaluate s.program vars values e) (place + length (expression_code s.program e)) operands l fs
  expression_gives (Constant n) u place operands l fs h held code fits =
      let look = look_here image t view place (Push n) operands l fs code.0 in
      let step = push_step image t view place n operands l fs look (omega (arith, fits)) in
      let w = small_word n h.0 in
      wider image t view 1 2 _ _ (omega arith)
      (subst (λ (k : ℕ). WalksWithin image t view 1 (Runs place operands l fs)
      (Runs (place + 1) (k ∷ operands) l fs)) (sym w) (one_step image t view _ _ step (ap deferred_by_mark code.0.1)))
  expression_gives (Truth b) u place operands l fs h held code fits =
      let look = look_here image t view place (Push (c.truth_word b)) operands l fs code.0 in
      let step = push_step image t view place (c.truth_word b) operands l fs look (omega (arith, fits)) in
      pushes place operands l fs (c.truth_word b) (v.truth b) (code_truth b) step (ap deferred_by_mark code.0.1)
  expression_gives (Local slot) u place operands l fs h held code fits =
      let look = look_here image t view place (GetLocal (Slot' slot)) operands l fs code.0 in
      let step = push_step image t view place (slice_index l.values slot) operands l fs look
      (omega (arith, fits)) in
      let x = local_typed limit made s.locals values slot u locals_typed h in
      pushes place operands l fs (slice_index l.values slot) (local_value values slot)
      (held slot x.0 x.1 ∙ ap (λ (o : Option ℤ). word_of (or_zero o)) (sym x.1)) step (ap deferred_by_mark code.0.1)
  expression_gives (Member m) u place operands l fs h held code fits =
      let a = member_address s.program m in
      let look = look_here image t view place (Push a) operands l fs code.0 in
      let step = push_step image t view place a operands l fs look (omega (arith, fits)) in
      let load = load_gives (place + 1) a operands l fs (vars m.monitor m.number 0) code.1.0
      (reads_single m u h.0 h.1) in
      gives_at 2 (Runs place operands l fs) (place + 1 + 1) _ operands l fs (Value (vars m.monitor m.number 0))
      (omega arith)
      (walk_gives image t view 1 1 _ _ (Value (vars m.monitor m.number 0)) _ operands l fs
      (one_step image t view _ _ step (ap deferred_by_mark code.0.1)) load)
  expression_gives (Element a e) u place operands l fs h held code fits =
      let p = s.program in
      let ce = expression_code p e in
      let tail = back_stands image place ce _ code in
      let base = member_address p a in
      let size = array_size p a in
      let same : size ≡ h.0.1 = ap size_in h.0.2 in
      let array = low a h.0.1 h.0.2 in
      let len : place + length ce + 1 + 1 ≡ place + length (expression_code p (Element a e)) = omega
      (arith, length-append ce (plain (index_code p a) ∷ plain Load ∷ [])) in
      wider_gives image t view (2 * expression_tokens e + 2) (2 * expression_tokens (Element a e)) _
      (evaluate p vars values (Element a e)) _ operands l fs (omega arith)
      (gives_at (2 * expression_tokens e + 2) (Runs place operands l fs) (place + length ce + 1 + 1) _ operands l fs
      (evaluate p vars values (Element a e)) len
      (and_gives image t view limit made Integer (2 * expression_tokens e) 2 (Runs place operands l fs)
      (evaluate p vars values e) _ _ operands _ operands l fs
      (expression_gives e Integer place operands l fs h.1 held (front_stands image place ce _ code) fits)
      (expression_typed e Integer h.1)
      (λ z k. index_gives image t view base size (omega (arith, same, array.0))
      (omega (arith, same, array.1)) z (place + length ce) operands l fs _ _ k tail.0
      (λ i lt. load_gives (place + length ce + 1) (base + i) operands l fs (vars a.monitor a.number i) tail.1.0
      (reads_element a h.0.1 i h.0.0 h.0.2 (omega (arith, lt, same)))))))
  expression_gives (Unary op e) u place operands l fs h held code fits =
      let p = s.program in
      let ce = expression_code p e in
      let tail = back_stands image place ce _ code in
      let len : place + length ce + 1 ≡ place + length (expression_code p (Unary op e)) = omega
      (arith, length-append ce (plain (unary_code op) ∷ [])) in
      wider_gives image t view (2 * expression_tokens e + 1) (2 * expression_tokens (Unary op e)) _
      (evaluate p vars values (Unary op e)) _ operands l fs (omega arith)
      (gives_at (2 * expression_tokens e + 1) (Runs place operands l fs) (place + length ce + 1) _ operands l fs
      (evaluate p vars values (Unary op e)) len
      (and_gives image t view limit made (unary_type op) (2 * expression_tokens e) 1 (Runs place operands l fs)
      (evaluate p vars values e) (unary op) _ operands _ operands l fs
      (expression_gives e (unary_type op) place operands l fs h.0 held (front_stands image place ce _ code) fits)
      (expression_typed e (unary_type op) h.0)
      (λ z k. shown_gives image t view _ (unary op z) (place + length ce) operands l fs
      (look_here image t view (place + length ce) (unary_code op) (word_of z ∷ operands) l fs tail.0
      ∙ unary_shown s.program.version made (most_of image.image.version) t op z operands (place + length ce) l fs k)
      (ap deferred_by_mark tail.0.1))))
  expression_gives (Both op a b) u place operands l fs h held code fits =
      let p = s.program in
      let ca = expression_code p a in
      let cb = expression_code p b in
      let tail = back_stands image place ca _ code in
      let last = back_stands image (place + length ca) cb _ tail in
      let len : place + length ca + length cb + 1 ≡ place + length (expression_code p (Both op a b)) = omega (
        arith,
        length-append ca (cb ++ plain (Operate (operation op)) ∷ []),
        length-append cb
            (plain (Operate (operation op)) ∷ []),
      ) in
      wider_gives image t view (2 * expression_tokens a + (2 * expression_tokens b + 1))
      (2 * expression_tokens (Both op a b)) _ (evaluate p vars values (Both op a b)) _ operands l fs (omega arith)
      (gives_at (2 * expression_tokens a + (2 * expression_tokens b + 1)) (Runs place operands l fs)
      (place + length ca + length cb + 1) _ operands l fs (evaluate p vars values (Both op a b)) len
      (and_gives image t view limit made h.0 (2 * expression_tokens a) (2 * expression_tokens b + 1)
      (Runs place operands l fs) (evaluate p vars values a) _ _ operands _ operands l fs
      (expression_gives a h.0 place operands l fs h.2 held (front_stands image place ca _ code) (omega (arith, fits)))
      (expression_typed a h.0 h.2)
      (λ y k. and_gives image t view limit made h.0 (2 * expression_tokens b) 1
      (Runs (place + length ca) (word_of y ∷ operands) l fs) (evaluate p vars values b) (both op y) _
      (word_of y ∷ operands) _ operands l fs
      (expression_gives b h.0 (place + length ca) (word_of y ∷ operands) l fs h.3 held
      (front_stands image (place + length ca) cb _ tail) (omega (arith, fits)))
      (expression_typed b h.0 h.3)
      (λ z k'. shown_gives image t view _ (both op y z) (place + length ca + length cb) operands l fs
      (look_here image t view (place + length ca + length cb) (Operate (operation op))
      (word_of z ∷ word_of y ∷ operands) l fs last.0 ∙ both_shown s.program.version made op h.0 y z operands
      (place + length ca + length cb) l fs h.1 k k') (ap deferred_by_mark last.0.1)))))

pub expressions_evaluate : (image : MarkedImage) (made t : ℕ) (s : Scope) (v : Variables) (values : List ℤ) (l : Locals)
    → IsEvaluated made s v values l → Evaluates image made t s v values l
expressions_evaluate image made t s v values l h = record {
  gives = λ e u place operands callers fits code room.
      expression_gives image made t s v values h.typed h.fit h.low e u place operands l callers fits h.holds code room;
  type = λ e u fits. expression_typed image made t s v values h.typed h.fit h.low e u fits;
}
