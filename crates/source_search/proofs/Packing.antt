-- Kept states, of parts that stay while there are more.
use Rattle.std.proofs.Common.{◌≡◌, ◌<◌, ◌+◌, ◌↔◌, ◌++◌, ℕ, zero, suc, List, [], ◌∷◌, Option, Some, None, All, Contains}
use Rattle.std.proofs.Common.{length, slice_get, take, get_or, refl, sym, ap, ◌∙◌, subst, arith, append_assoc}
use Rattle.std.specs.Prelude.{IsSome, is_some, option_map}
use Rattle.std.proofs.Common.{below_more, false, true}
use Rattle.std.proofs.lemmas.List.{append-nil, length-append}
use Rattle.std.proofs.lemmas.List.Elements.{All-push, All-weaker}
use Rattle.std.proofs.lemmas.Option.{get_or_from_slice_get, slice_get-get_or, slice_get_within}
use Rattle.words.specs.Updates.{put}
use Rattle.words.proofs.Updates.{at_put}
use Rattle.meaning.specs.Processes.{Process}
use Rattle.meaning.specs.States.{SourceState}
use Rattle.meaning.specs.Table.{Table}
use Rattle.meaning.specs.Values.{Variables}
use Rattle.source_offers.specs.Stages.{process_of}
use Rattle.source_offers.specs.Stores.{variables_of}
use Rattle.source_offers.specs.declared.process.Process.{Process as ProcessOf}
use Rattle.source_table.specs.Tables.{table_of}
use Rattle.source_states.specs.States.{unpeopled}
use Rattle.source_search.specs.Packed.{ArePacked, ArePackedTo, IsGrown, IsPackedOf, IsPrefix, IsSameKey, IsWithin}
use Rattle.source_search.specs.Packed.{process_in}
use Rattle.source_search.specs.Packed.{processes_at, some_process, some_table, some_variables, table_in, unpacked}
use Rattle.source_search.specs.Packed.{variables_in}
use Rattle.source_search.specs.Kept.{states_in}
use Rattle.source_search.specs.declared.packed.Packed.{Packed as PackedOf}
use Rattle.source_search.specs.declared.parts.Parts.{Parts as PartsOf}

pub slice_get_more : {X : Type 0} (xs more : List X) (i : ℕ) → i < length xs → slice_get (xs ++ more) i ≡ slice_get xs i
slice_get_more [] more i l = absurd (omega (arith, l))
slice_get_more (x ∷ xs) more zero l = refl
slice_get_more (x ∷ xs) more (suc i) l = slice_get_more xs more i (omega (arith, l))

pub slice_get_last : {X : Type 0} (xs : List X) (x : X) → slice_get (xs ++ x ∷ []) (length xs) ≡ Some x
slice_get_last [] x = refl
slice_get_last (y ∷ xs) x = slice_get_last xs x

pub some_within : {X : Type 0} {Y : Type 0} (v : X → Y) (xs : List X) (i : ℕ) (y : Y)
    → option_map v (slice_get xs i) ≡ Some y → i < length xs
some_within v [] i y e = absurd (let no : None ≡ Some y = e in cc)
some_within v (x ∷ xs) zero y e = omega arith
some_within v (x ∷ xs) (suc i) y e = let l : i < length xs = some_within v xs i y e in omega (arith, l)

pub prefix_none : {A : Type 0} (xs : List A) → IsPrefix xs xs
prefix_none xs = ([], sym (append-nil xs))

pub prefix_one : {A : Type 0} (xs ys : List A) (x : A) → ys ≡ xs ++ x ∷ [] → IsPrefix xs ys
prefix_one xs ys x e = (x ∷ [], e)

pub prefix_twice : {A : Type 0} (xs ys zs : List A) → IsPrefix xs ys → IsPrefix ys zs → IsPrefix xs zs
prefix_twice xs ys zs a b = (a.0 ++ b.0, b.1 ∙ ap (λ l. l ++ b.0) a.1 ∙ append_assoc xs a.0 b.0)

pub prefix_get : {A : Type 0} (xs ys : List A) (i : ℕ) → IsPrefix xs ys → i < length xs
    → slice_get ys i ≡ slice_get xs i
prefix_get xs ys i p l = ap (λ zs. slice_get zs i) p.1 ∙ slice_get_more xs p.0 i l

pub prefix_within : {A : Type 0} (xs ys : List A) (i : ℕ) → IsPrefix xs ys → i < length xs → i < length ys
prefix_within xs ys i p l =
    let e : length ys ≡ length xs + length p.0 = ap length p.1 ∙ length-append xs p.0 in omega (arith, l, e)

pub grown_none : (a : PartsOf) → IsGrown a a
grown_none a = record {
  tables = prefix_none a.tables.items;
  variables = prefix_none a.variables.items;
  processes = prefix_none a.processes.items;
}

pub grown_twice : (a b c : PartsOf) → IsGrown a b → IsGrown b c → IsGrown a c
grown_twice a b c f g = record {
  tables = prefix_twice a.tables.items b.tables.items c.tables.items f.tables g.tables;
  variables = prefix_twice a.variables.items b.variables.items c.variables.items f.variables g.variables;
  processes = prefix_twice a.processes.items b.processes.items c.processes.items f.processes g.processes;
}

-- with more parts, a state of those that there were is the same
module _ (xs ys : List ProcessOf) (more : IsPrefix xs ys) where
  some_still : (ns : List ℕ) → All (λ n. n < length xs) ns → (q : ℕ) (o : Option ℕ) → slice_get ns q ≡ o
      → some_process ys o ≡ some_process xs o
  some_still ns all q None e = refl
  some_still ns all q (Some n) e =
      ap (option_map process_of) (prefix_get xs ys n more (subst (λ m. m < length xs) (get_or_from_slice_get ns q n n e)
      (all q n (slice_get_within ns q n e))))

  pub at_still : (ns : List ℕ) → All (λ n. n < length xs) ns → (q : ℕ) → processes_at ys ns q ≡ processes_at xs ns q
  at_still ns all zero = refl
  at_still ns all (suc q) = some_still ns all q (slice_get ns q) refl

module _ (a b : PartsOf) (g : IsGrown a b) where
  pub within_still : (x : PackedOf) → IsWithin a x → IsWithin b x
  within_still x is = record {
    table = prefix_within a.tables.items b.tables.items x.table g.tables is.table;
    variables = prefix_within a.variables.items b.variables.items x.variables g.variables is.variables;
    processes = All-weaker (λ n. n < length a.processes.items) (λ n. n < length b.processes.items)
        (λ n. prefix_within a.processes.items b.processes.items n g.processes) x.processes.items is.processes;
  }

  pub unpacked_still : (x : PackedOf) → IsWithin a x → unpacked b x ≡ unpacked a x
  unpacked_still x is = λ i. record {
    table = ap (λ o. some_table (option_map table_of o))
        (prefix_get a.tables.items b.tables.items x.table g.tables is.table) i;
    variable = ap (λ o. some_variables (option_map variables_of o))
        (prefix_get a.variables.items b.variables.items x.variables g.variables is.variables) i;
    process = λ q. at_still a.processes.items b.processes.items g.processes x.processes.items is.processes q i;
    printed = [];
  }

  pub states_still : (xs : List PackedOf) → All (IsWithin a) xs → states_in b xs ≡ states_in a xs
  states_still [] all = refl
  states_still (x ∷ xs) all = λ i.
      unpacked_still x (all 0 x (omega arith)) i ∷ states_still xs (λ k d l. all (suc k) d (omega (arith, l))) i

  pub sound_still : (xs : List PackedOf) → All (IsWithin a) xs → All (IsWithin b) xs
  sound_still xs all = All-weaker (IsWithin a) (IsWithin b) within_still xs all

-- no process yet
pub packed_none : (parts : List ProcessOf) (numbers : List ℕ) (process : ℕ → Option Process)
    → ArePackedTo 0 parts [] numbers process
packed_none parts numbers process = record {
  count = refl;
  within = λ k d l. absurd (omega (arith, l));
  first = λ j l. absurd (omega (arith, l));
  same = λ j l. absurd (omega (arith, l));
}

-- one process more
module _ (xs ys : List ProcessOf) (more : IsPrefix xs ys) (ids ids' numbers : List ℕ) (k n : ℕ)
    (process : ℕ → Option Process) (q : Process) (so_far : ArePackedTo k xs ids numbers process)
    (push : ids' ≡ ids ++ n ∷ []) (there : process_in ys n ≡ Some q) (stands : process (suc k) ≡ Some q)
    (first : slice_get numbers k ≡ Some (suc k)) where
  here_last : slice_get ids' k ≡ Some n
  here_last = ap (λ l. slice_get l k) push ∙ subst (λ m. slice_get (ids ++ n ∷ []) m ≡ Some n) so_far.count (slice_get_last ids n)

  before : (j : ℕ) → j < k → processes_at ys ids' (suc j) ≡ process (suc j)
  before j l =
      let less : j < length ids = omega (arith, l, so_far.count) in
      ap (some_process ys) (ap (λ m. slice_get m j) push ∙ slice_get_more ids (n ∷ []) j less)
      ∙ at_still xs ys more ids so_far.within (suc j) ∙ so_far.same j l

  pub packed_more : ArePackedTo (k + 1) ys ids' numbers process
  packed_more = record {
    count = let e : length ids' ≡ length ids + 1 = ap length push ∙ length-append ids (n ∷ []) in
        omega (arith, e, so_far.count);
    within = subst (All (λ m. m < length ys)) (sym push) (All-push (λ m. m < length ys) ids n
        (All-weaker (λ m. m < length xs) (λ m. m < length ys) (λ m. prefix_within xs ys m more) ids so_far.within)
        (some_within process_of ys n q there));
    first = below_more (λ j. slice_get numbers j ≡ Some (suc j)) k so_far.first first;
    same = below_more (λ j. processes_at ys ids' (suc j) ≡ process (suc j)) k before
        (ap (some_process ys) here_last ∙ there ∙ sym stands);
  }

none_some : (o : Option Process) → o ≡ None → IsSome o → ⊥
none_some o e is = let no : false ≡ true = subst IsSome e is in cc

-- all of them
module _ (parts : List ProcessOf) (ids numbers : List ℕ) (process : ℕ → Option Process)
    (are : ArePacked parts ids numbers process) (all : (q : ℕ) → Contains numbers q ↔ IsSome (process q)) where
  among : (q : ℕ) → Contains numbers q → (j : ℕ) × (j < length numbers) × (q ≡ suc j)
  among q (j, l, e) =
      let one : Some (suc j) ≡ Some q = sym (are.first j l) ∙ slice_get-get_or numbers j q l ∙ ap Some e in
      (j, l, cc)

  none_else : (q : ℕ) → (Contains numbers q → ⊥) → (o : Option Process) → process q ≡ o → None ≡ o
  none_else q not None e = refl
  none_else q not (Some x) e = absurd (not ((all q).1 (ap is_some e)))

  at : (q : ℕ) → processes_at parts ids q ≡ process q
  at zero = none_else zero
      (λ c. let a : (j : ℕ) × (j < length numbers) × (zero ≡ suc j) = among zero c in omega (arith, a.2)) (process zero) refl
  at (suc j) = here (slice_get ids j) refl
    where
      here : (o : Option ℕ) → slice_get ids j ≡ o → processes_at parts ids (suc j) ≡ process (suc j)
      here (Some n) e =
          let l : j < length ids = slice_get_within ids j n e in are.same j (omega (arith, l, are.count))
      here None e = ap (some_process parts) e ∙ none_else (suc j) not (process (suc j)) refl
        where
          not : Contains numbers (suc j) → ⊥
          not c =
              let a : (k : ℕ) × (k < length numbers) × (suc j ≡ suc k) = among (suc j) c in
              let l : j < length ids = omega (arith, a.1, a.2, are.count) in
              let some : slice_get ids j ≡ Some (get_or ids j 0) = slice_get-get_or ids j 0 l in
              let no : None ≡ Some (get_or ids j 0) = sym e ∙ some in
              cc

  pub all_packed : processes_at parts ids ≡ process
  all_packed = λ i q. at q i

-- so many of the processes stand in a state again
take_more : (xs : List ℕ) (k j : ℕ) → (j ≡ k → ⊥) → slice_get (take (suc k) xs) j ≡ slice_get (take k xs) j
take_more [] zero j ne = refl
take_more [] (suc k) j ne = refl
take_more (x ∷ xs) zero zero ne = absurd (ne refl)
take_more (x ∷ xs) zero (suc j) ne = refl
take_more (x ∷ xs) (suc k) zero ne = refl
take_more (x ∷ xs) (suc k) (suc j) ne = take_more xs k j (λ e. ne (ap suc e))

take_here : (xs : List ℕ) (k : ℕ) → slice_get (take (suc k) xs) k ≡ slice_get xs k
take_here [] zero = refl
take_here [] (suc k) = refl
take_here (x ∷ xs) zero = refl
take_here (x ∷ xs) (suc k) = take_here xs k

module _ (parts : List ProcessOf) (ids : List ℕ) (k n : ℕ) (q : Process) (process : ℕ → Option Process)
    (so_far : process ≡ processes_at parts (take k ids)) (here : slice_get ids k ≡ Some n)
    (there : process_in parts n ≡ Some q) where
  other : (r : ℕ) → (r ≡ suc k → ⊥) → processes_at parts (take k ids) r ≡ processes_at parts (take (suc k) ids) r
  other zero not = refl
  other (suc j) not = ap (some_process parts) (sym (take_more ids k j (λ e. not (ap suc e))))

  at_next : (r : ℕ) → put process (suc k) (Some q) r ≡ processes_at parts (take (suc k) ids) r
  at_next r = at_put process (suc k) (Some q) r (λ o. o ≡ processes_at parts (take (suc k) ids) r)
      (λ e. subst (λ m. Some q ≡ processes_at parts (take (suc k) ids) m) (sym e)
      (sym (ap (some_process parts) (take_here ids k ∙ here) ∙ there)))
      (λ not. ap (λ (f : ℕ → Option Process). f r) so_far ∙ other r not)

  pub placed_next : put process (suc k) (Some q) ≡ processes_at parts (take (suc k) ids)
  placed_next = λ i r. at_next r i

-- no process stands in it yet
none_at : (parts : List ProcessOf) (ids : List ℕ) (q : ℕ) → None ≡ processes_at parts (take 0 ids) q
none_at parts ids zero = refl
none_at parts ids (suc q) = refl

pub placed_none : (s : SourceState) (parts : List ProcessOf) (ids : List ℕ) → ((q : ℕ) → s.process q ≡ None)
    → s ≡ record s { process = processes_at parts (take 0 ids) }
placed_none s parts ids none = λ i. record s { process = λ q. (none q ∙ none_at parts ids q) i }

-- one more does
pub placed_on : (s old new : SourceState) (parts : List ProcessOf) (ids : List ℕ) (k n : ℕ) (q : Process)
    → old ≡ record s { process = processes_at parts (take k ids) }
    → new ≡ record old { process = put old.process (k + 1) (Some q) } → slice_get ids k ≡ Some n
    → process_in parts n ≡ Some q → new ≡ record s { process = processes_at parts (take (k + 1) ids) }
placed_on s old new parts ids k n q so_far puts here there = λ i. record {
  table = (ap (λ (r : SourceState). r.table) puts ∙ ap (λ (r : SourceState). r.table) so_far) i;
  variable = (ap (λ (r : SourceState). r.variable) puts ∙ ap (λ (r : SourceState). r.variable) so_far) i;
  process = (ap (λ (r : SourceState). r.process) puts ∙ all) i;
  printed = (ap (λ (r : SourceState). r.printed) puts ∙ ap (λ (r : SourceState). r.printed) so_far) i;
}
  where
    next : k + 1 ≡ suc k
    next = omega arith

    all : put old.process (k + 1) (Some q) ≡ processes_at parts (take (k + 1) ids)
    all = subst (λ m. put old.process m (Some q) ≡ processes_at parts (take m ids)) (sym next)
        (placed_next parts ids k n q old.process (ap (λ (r : SourceState). r.process) so_far) here there)

-- states of the same parts
pub same_key : (parts : PartsOf) (x y : PackedOf) → IsSameKey x y → unpacked parts x ≡ unpacked parts y
same_key parts x y e = λ i. record {
  table = some_table (table_in parts.tables.items (e.table i));
  variable = some_variables (variables_in parts.variables.items (e.variables i));
  process = processes_at parts.processes.items (e.processes i);
  printed = [];
}

-- a state that was made of its parts
pub unpacked_of : (parts : PartsOf) (x : PackedOf) (s : SourceState) (t : Table) (v : Variables) (ids : List ℕ)
    → table_in parts.tables.items x.table ≡ Some t → variables_in parts.variables.items x.variables ≡ Some v
    → s ≡ record (unpeopled t v) { process = processes_at parts.processes.items ids } → ids ≡ x.processes.items
    → s ≡ unpacked parts x
unpacked_of parts x s t v ids is_table are_variables made same = made ∙ (λ i. record {
  table = sym (ap some_table is_table) i;
  variable = sym (ap some_variables are_variables) i;
  process = processes_at parts.processes.items (same i);
  printed = [];
})

-- one whose parts were noted
module _ (a b d : PartsOf) (g : IsGrown a b) (h : IsGrown b d) (x : PackedOf) (s : SourceState) (numbers : List ℕ)
    (are : ArePacked a.processes.items x.processes.items numbers s.process)
    (all : (q : ℕ) → Contains numbers q ↔ IsSome (s.process q))
    (t : table_in b.tables.items x.table ≡ Some s.table)
    (v : variables_in d.variables.items x.variables ≡ Some s.variable) where
  more : IsPrefix a.processes.items d.processes.items
  more = prefix_twice a.processes.items b.processes.items d.processes.items g.processes h.processes

  within_table : x.table < length b.tables.items
  within_table = some_within table_of b.tables.items x.table s.table t

  pub packed_all : IsPackedOf d x s
  packed_all = record {
    within = record {
      table = prefix_within b.tables.items d.tables.items x.table h.tables within_table;
      variables = some_within variables_of d.variables.items x.variables s.variable v;
      processes = All-weaker (λ n. n < length a.processes.items) (λ n. n < length d.processes.items)
          (λ n. prefix_within a.processes.items d.processes.items n more) x.processes.items are.within;
    };
    like = record {
      table = ap some_table (ap (option_map table_of)
          (prefix_get b.tables.items d.tables.items x.table h.tables within_table) ∙ t);
      variable = ap some_variables v;
      process = (λ i q. at_still a.processes.items d.processes.items more x.processes.items are.within q i)
          ∙ all_packed a.processes.items x.processes.items numbers s.process are all;
    };
  }
