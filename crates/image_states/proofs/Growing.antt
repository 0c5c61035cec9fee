-- Packed states, of parts that stay while there are more.
use Rattle.std.proofs.Common.{◌≡◌, ◌<◌, ◌≤◌, ◌+◌, ◌++◌, ℕ, zero, suc, List, [], ◌∷◌, Option, Some, None, All, Contains, length, slice_get}
use Rattle.std.proofs.Common.{Bool, inl, inr, refl, sym, ap, ◌∙◌, subst, arith, append_assoc}
use Rattle.std.specs.Prelude.{slice_index, slice_set}
use Rattle.std.proofs.lemmas.List.{append-nil, length-append, set-get_or}
use Rattle.std.proofs.lemmas.List.Elements.{All-weaker, Contains-append_left}
use Rattle.std.proofs.lemmas.Option.{get_or_from_slice_get, slice_get_within}
use Rattle.isa.specs.Programs.{Program}
use Rattle.locals.specs.Threads.{Thread}
use Rattle.machine.specs.States.{State}
use Rattle.proof_image_search.specs.Searching.{IsCovered, May, kills_by}
use Rattle.proof_pieces.specs.WholeCalls.{IsWholeDone, IsWholeStep}
use Rattle.machine.specs.Runs.{IsStrayStep}
use Rattle.image_states.specs.declared.next.Next.{Next as NextOf}
use Rattle.image_states.specs.declared.packed.Packed.{Packed as PackedOf}
use Rattle.image_states.specs.declared.parts.Parts.{Parts as PartsOf}
use Rattle.image_states.specs.Packed.{asleep_at, kept_of, local_in, some_words, thread_at, unpacked, words_in, IsGrown, IsPrefix, IsSameKey}
use Rattle.image_states.specs.Packed.{IsWithin}
use Rattle.image_states.specs.Nexts.{Covers, IsBase, IsDone, IsMore, OwnDone, Reaches, StrayDone}

pub slice_get_more : {X : Type 0} (xs more : List X) (i : ℕ) → i < length xs → slice_get (xs ++ more) i ≡ slice_get xs i
slice_get_more [] more i l = absurd (omega (arith, l))
slice_get_more (x ∷ xs) more zero l = refl
slice_get_more (x ∷ xs) more (suc i) l = slice_get_more xs more i (omega (arith, l))

pub slice_get_last : {X : Type 0} (xs : List X) (x : X) → slice_get (xs ++ x ∷ []) (length xs) ≡ Some x
slice_get_last [] x = refl
slice_get_last (y ∷ xs) x = slice_get_last xs x

pub prefix_none : {A : Type 0} (xs : List A) → IsPrefix xs xs
prefix_none xs = ([], sym (append-nil xs))

pub prefix_one : {A : Type 0} (xs ys : List A) (x : A) → ys ≡ xs ++ x ∷ [] → IsPrefix xs ys
prefix_one xs ys x e = (x ∷ [], e)

pub prefix_twice : {A : Type 0} (xs ys zs : List A) → IsPrefix xs ys → IsPrefix ys zs → IsPrefix xs zs
prefix_twice xs ys zs a b = (a.0 ++ b.0, b.1 ∙ ap (λ l. l ++ b.0) a.1 ∙ append_assoc xs a.0 b.0)

pub prefix_get : {A : Type 0} (xs ys : List A) (i : ℕ) → IsPrefix xs ys → i < length xs
    → slice_get ys i ≡ slice_get xs i
prefix_get xs ys i p l = ap (λ zs. slice_get zs i) p.1 ∙ slice_get_more xs p.0 i l

pub prefix_some : {A : Type 0} (xs ys : List A) (i : ℕ) (x : A) → IsPrefix xs ys → slice_get xs i ≡ Some x
    → slice_get ys i ≡ Some x
prefix_some xs ys i x p e = prefix_get xs ys i p (slice_get_within xs i x e) ∙ e

pub prefix_within : {A : Type 0} (xs ys : List A) (i : ℕ) → IsPrefix xs ys → i < length xs → i < length ys
prefix_within xs ys i p l =
    let e : length ys ≡ length xs + length p.0 = ap length p.1 ∙ length-append xs p.0 in omega (arith, l, e)

pub prefix_contains : {A : Type 0} (xs ys : List A) (x : A) → IsPrefix xs ys → Contains xs x → Contains ys x
prefix_contains xs ys x p c = subst (λ l. Contains l x) (sym p.1) (Contains-append_left xs p.0 x c)

pub grown_none : (a : PartsOf) → IsGrown a a
grown_none a = record { alone = refl; most = refl; locals = prefix_none a.locals.items; memories = prefix_none a.memories.items }

pub grown_twice : (a b c : PartsOf) → IsGrown a b → IsGrown b c → IsGrown a c
grown_twice a b c f g = record {
  alone = g.alone ∙ f.alone;
  most = g.most ∙ f.most;
  locals = prefix_twice a.locals.items b.locals.items c.locals.items f.locals g.locals;
  memories = prefix_twice a.memories.items b.memories.items c.memories.items f.memories g.memories;
}

-- with more parts, a state of those that there were is the same
module _ (xs ys : List Thread) (more : IsPrefix xs ys) where
  local_still : (ns : List ℕ) → All (λ n. n < length xs) ns → (q : ℕ) (o : Option ℕ) → slice_get ns q ≡ o
      → local_in ys o ≡ local_in xs o
  local_still ns all q None e = refl
  local_still ns all q (Some n) e =
      prefix_get xs ys n more (subst (λ m. m < length xs) (get_or_from_slice_get ns q n n e)
      (all q n (slice_get_within ns q n e)))

  pub threads_still : (ns : List ℕ) → All (λ n. n < length xs) ns → (q : ℕ) → thread_at ys ns q ≡ thread_at xs ns q
  threads_still ns all zero = refl
  threads_still ns all (suc q) = local_still ns all q (slice_get ns q) refl

module _ (a b : PartsOf) (g : IsGrown a b) where
  pub within_still : (x : PackedOf) → IsWithin a x → IsWithin b x
  within_still x is = record {
    memory = prefix_within a.memories.items b.memories.items x.memory g.memories is.memory;
    locals = All-weaker (λ n. n < length a.locals.items) (λ n. n < length b.locals.items)
        (λ n. prefix_within a.locals.items b.locals.items n g.locals) x.parts.items is.locals;
    places = is.places;
    few = subst (λ n. length x.parts.items ≤ n) (sym g.most) is.few;
  }

  pub words_still : (m : ℕ) → m < length a.memories.items → words_in b.memories.items m ≡ words_in a.memories.items m
  words_still m l = ap some_words (prefix_get a.memories.items b.memories.items m g.memories l)

  pub unpacked_still : (p : Program) (x : PackedOf) → IsWithin a x → unpacked p b x ≡ unpacked p a x
  unpacked_still p x is = λ i. record (unpacked p a x) {
    most = g.most i;
    word = λ k. slice_index (words_still x.memory is.memory i) k;
    size = length (words_still x.memory is.memory i);
    thread = λ q. threads_still a.locals.items b.locals.items g.locals x.parts.items is.locals q i;
  }

  pub kept_still : (p : Program) (x : PackedOf) → IsWithin a x → kept_of p b x ≡ kept_of p a x
  kept_still p x is = λ i. record { state = unpacked_still p x is i; killed = x.killed }

  pub covers_still : (p : Program) (y : PackedOf) → IsWithin a y → (s : State) (n : ℕ) → Covers p a y s n
      → Covers p b y s n
  covers_still p y is s n c kept has =
      subst (λ (alone : Bool). (m : ℕ) × IsCovered p alone kept m s n) (sym g.alone)
      (c kept (subst (Contains kept) (kept_still p y is) has))

-- the same numbers
pub same_key : (p : Program) (parts : PartsOf) (x y : PackedOf) → IsSameKey x y → kept_of p parts x ≡ kept_of p parts y
same_key p parts x y e = λ i. record {
  state = record (unpacked p parts x) {
    word = λ k. slice_index (words_in parts.memories.items (e.memory i)) k;
    size = length (words_in parts.memories.items (e.memory i));
    made = length (e.parts i);
    thread = thread_at parts.locals.items (e.parts i);
    asleep = asleep_at (e.places i);
  };
  killed = e.killed i;
}

pub within_same : (parts : PartsOf) (x y : PackedOf) → IsSameKey x y → IsWithin parts x → IsWithin parts y
within_same parts x y e is = record {
  memory = subst (λ m. m < length parts.memories.items) e.memory is.memory;
  locals = subst (All (λ n. n < length parts.locals.items)) e.parts is.locals;
  places = ap length (sym e.places) ∙ is.places ∙ ap length e.parts;
  few = subst (λ ns. length ns ≤ parts.most) e.parts is.few;
}

-- more parts, and more next states
pub more_none : (a : PartsOf) (xs : List NextOf) → IsMore a xs a xs
more_none a xs = record { parts = grown_none a; nexts = prefix_none xs }

pub more_twice : (a b c : PartsOf) (xs ys zs : List NextOf) → IsMore a xs b ys → IsMore b ys c zs → IsMore a xs c zs
more_twice a b c xs ys zs f g = record {
  parts = grown_twice a b c f.parts g.parts;
  nexts = prefix_twice xs ys zs f.nexts g.nexts;
}

pub more_parts : (a b c : PartsOf) (xs ys : List NextOf) → IsGrown a b → IsMore b xs c ys → IsMore a xs c ys
more_parts a b c xs ys f g = record { parts = grown_twice a b c f g.parts; nexts = g.nexts }

module _ (a b : PartsOf) (xs ys : List NextOf) (g : IsMore a xs b ys) where
  pub reaches_still : (p : Program) (s : State) (n : ℕ) → Reaches p a xs s n → Reaches p b ys s n
  reaches_still p s n r = record {
    next = r.next;
    found = prefix_contains xs ys r.next g.nexts r.found;
    within = within_still a b g.parts r.next.state r.within;
    covers = covers_still a b g.parts p r.next.state r.within s n r.covers;
  }

  pub done_still : (p : Program) (may : May) (x : PackedOf) (t : ℕ) → IsWithin a x → IsDone p may a x xs t
      → IsDone p may b x ys t
  done_still p may x t is done step s' of whole named few =
      elim (done step s' of (subst (λ s. IsWholeDone p s step s' step.doing) (unpacked_still a b g.parts p x is) whole)
      named few) [
        | inl c ↦ inl (covers_still a b g.parts p x is s' (x.killed + kills_by step.doing) c)
        | inr r ↦ inr (reaches_still p s' (x.killed + kills_by step.doing) r)
      ]

pub more_grown : (a b : PartsOf) (xs : List NextOf) → IsGrown a b → IsMore a xs b xs
more_grown a b xs g = record { parts = g; nexts = prefix_none xs }

pub more_longer : (a : PartsOf) (xs ys : List NextOf) → IsPrefix xs ys → IsMore a xs a ys
more_longer a xs ys p = record { parts = grown_none a; nexts = p }

-- a memory that is missing has no words
pub no_words : (memories : List (List ℕ)) (n a : ℕ) → slice_get memories n ≡ None → length (words_in memories n) ≤ a
no_words memories n a e = let none : length (words_in memories n) ≡ 0 = ap (λ o. length (some_words o)) e in omega (arith, none)

pub word_there : (memories : List (List ℕ)) (n a w : ℕ) (words : List ℕ) → slice_get memories n ≡ Some words
    → a < length words → slice_get words a ≡ Some w
    → (a < length (words_in memories n)) × (w ≡ slice_index (words_in memories n) a)
word_there memories n a w words e less is =
    let same : words_in memories n ≡ words = ap some_words e in (
      subst (λ l. a < length l) (sym same) less,
      sym (get_or_from_slice_get words a w 0 is) ∙ ap (λ l. slice_index l a) (sym same),
    )

-- a thread stands where it did
pub stands_still : (a b : PartsOf) → IsGrown a b → (x : PackedOf) → IsWithin a x → (t : ℕ)
    → thread_at b.locals.items x.parts.items t ≡ thread_at a.locals.items x.parts.items t
stands_still a b g x is t = threads_still a.locals.items b.locals.items g.locals x.parts.items is.locals t

module _ (p : Program) (a b : PartsOf) (x : PackedOf) (xs ys : List NextOf) (t : ℕ) (g : IsMore a xs b ys)
    (is : IsWithin a x) where
  pub own_still : OwnDone p a x xs t → OwnDone p b x ys t
  own_still done woken s' step =
      reaches_still a b xs ys g p s' x.killed (done woken s'
      (subst (λ s. IsWholeStep p s t woken s') (unpacked_still a b g.parts p x is) step))

  pub stray_still : StrayDone p a x xs t → StrayDone p b x ys t
  stray_still done at step s' thread stray =
      reaches_still a b xs ys g p s' x.killed (done at step s' thread
      (subst (λ s. IsStrayStep at s step s') (unpacked_still a b g.parts p x is) stray))

-- a word that is there already
pub same_stored : (memories : List (List ℕ)) (n a v : ℕ) → a < length (words_in memories n)
    → v ≡ slice_index (words_in memories n) a → slice_get memories n ≡ Some (slice_set (words_in memories n) a v)
same_stored memories n a v less is = by (slice_get memories n) refl
  where
    by : (o : Option (List ℕ)) → slice_get memories n ≡ o → o ≡ Some (slice_set (words_in memories n) a v)
    by None e = absurd (let none : length (words_in memories n) ≡ 0 = ap (λ q. length (some_words q)) e in
        omega (arith, less, none))
    by (Some ws) e =
        let same : words_in memories n ≡ ws = ap some_words e in
        ap (λ l. Some l) (sym (ap (slice_set (words_in memories n) a) is
        ∙ set-get_or (words_in memories n) a 0 ∙ same))

-- a thread that has gone on is a part still
pub base_still : (p : Program) (a b : PartsOf) → IsGrown a b → (x : PackedOf) (k memory : ℕ) (here : Thread) (y : PackedOf)
    → IsBase p a x k memory here y → IsBase p b x k memory here y
base_still p a b g x k memory here y base = record {
  part = base.part;
  count = base.count;
  there = base.there;
  moved = base.moved;
  is = prefix_some a.locals.items b.locals.items base.part base.there g.locals base.is;
  runs = base.runs;
}
