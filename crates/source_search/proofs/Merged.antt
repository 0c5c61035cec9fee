-- Kept states with the processes of a state in place of their own.
use Rattle.std.proofs.Common.{◌≡◌, ◌<◌, ◌+◌, ◌↔◌, ◌++◌, ℕ, zero, suc, List, [], ◌∷◌, Option, Some, None, All, Contains}
use Rattle.std.proofs.Common.{below_more, length, slice_get, slice_set, take, get_or, refl, sym, ap, ◌∙◌, subst, arith, false, true}
use Rattle.std.specs.Prelude.{IsSome, is_some, option_map}
use Rattle.std.proofs.lemmas.List.{length-append, take_more}
use Rattle.std.proofs.lemmas.List.Elements.{All-push, All-set, All-weaker}
use Rattle.words.specs.Updates.{put}
use Rattle.words.proofs.Updates.{at_put, at_put2, put_other, put_same}
use Rattle.program.specs.Trees.{Program}
use Rattle.meaning.specs.Processes.{Process}
use Rattle.meaning.specs.Runs.{CanMove}
use Rattle.meaning.specs.States.{SourceState}
use Rattle.meaning.specs.Table.{Table}
use Rattle.meaning.specs.Values.{Variables}
use Rattle.source_offers.specs.Stages.{process_of}
use Rattle.source_offers.specs.Stores.{variables_of}
use Rattle.source_offers.specs.declared.process.Process.{Process as ProcessOf}
use Rattle.source_table.specs.Tables.{table_of}
use Rattle.source_states.specs.States.{unpeopled}
use Rattle.source_reaching.specs.Among.{among, or_else}
use Rattle.source_search.specs.Packed.{IsGrown, IsPrefix, process_in, processes_at, some_process, some_table}
use Rattle.source_search.specs.Packed.{some_variables, table_in, unpacked, variables_in}
use Rattle.source_search.specs.Spots.{IsAlone, IsMergedOf, IsMergedTo, IsPutAt, IsSpotOf, alone, over}
use Rattle.source_search.specs.Known.{EndSo, IsPutBehind, IsPutWith, with_child}
use Rattle.source_search.specs.declared.memo.Outcome.{Outcome as OutcomeOf}
use Rattle.source_search.specs.declared.packed.Packed.{Packed as PackedOf}
use Rattle.source_search.specs.declared.parts.Parts.{Parts as PartsOf}
use Rattle.source_search.specs.declared.spot.Spot.{Spot as SpotOf}
use Rattle.source_search.proofs.Packing.{at_still, prefix_get, prefix_twice, prefix_within, slice_get_last}
use Rattle.source_search.proofs.Packing.{slice_get_more, some_within}

-- the other elements of a list that has one more, or another one at a place
get_beside : {X : Type 0} (xs : List X) (x : X) (j : ℕ) → (j ≡ length xs → ⊥)
    → slice_get (xs ++ x ∷ []) j ≡ slice_get xs j
get_beside [] x zero ne = absurd (ne refl)
get_beside [] x (suc j) ne = refl
get_beside (y ∷ ys) x zero ne = refl
get_beside (y ∷ ys) x (suc j) ne = get_beside ys x j (λ e. ne (ap suc e))

pub get_set : {X : Type 0} (xs : List X) (i : ℕ) (x : X) → i < length xs → slice_get (slice_set xs i x) i ≡ Some x
get_set [] i x l = absurd (omega (arith, l))
get_set (y ∷ ys) zero x l = refl
get_set (y ∷ ys) (suc i) x l = get_set ys i x (omega (arith, l))

pub get_set_other : {X : Type 0} (xs : List X) (i j : ℕ) (x : X) → (j ≡ i → ⊥)
    → slice_get (slice_set xs i x) j ≡ slice_get xs j
get_set_other [] i j x ne = refl
get_set_other (y ∷ ys) zero zero x ne = absurd (ne refl)
get_set_other (y ∷ ys) zero (suc j) x ne = refl
get_set_other (y ∷ ys) (suc i) zero x ne = refl
get_set_other (y ∷ ys) (suc i) (suc j) x ne = get_set_other ys i j x (λ e. ne (ap suc e))

pub set_length : (xs : List ℕ) (i x : ℕ) → length (slice_set xs i x) ≡ length xs
set_length [] i x = refl
set_length (y ∷ ys) zero x = refl
set_length (y ∷ ys) (suc i) x = ap suc (set_length ys i x)

-- lists of one length with the same elements
pub same_list : (xs ys : List ℕ) → length xs ≡ length ys
    → ((j : ℕ) → j < length xs → slice_get xs j ≡ slice_get ys j) → xs ≡ ys
same_list [] [] e same = refl
same_list [] (y ∷ ys) e same = absurd (omega (arith, e))
same_list (x ∷ xs) [] e same = absurd (omega (arith, e))
same_list (x ∷ xs) (y ∷ ys) e same =
    let first : Some x ≡ Some y = same 0 (omega arith) in
    let one : x ≡ y = cc in
    let rest : xs ≡ ys = same_list xs ys (omega (arith, e)) (λ j l. same (suc j) (omega (arith, l))) in
    λ i. one i ∷ rest i

-- a process that is put at its place
module _ (ids ids' : List ℕ) (place part : ℕ) (here : slice_get ids' place ≡ Some part)
    (there : (j : ℕ) → (j ≡ place → ⊥) → slice_get ids' j ≡ slice_get ids j) where
  put_there : (parts : List ProcessOf) (q : ℕ)
      → processes_at parts ids' q ≡ put (processes_at parts ids) (suc place) (process_in parts part) q
  put_there parts q = at_put (processes_at parts ids) (suc place) (process_in parts part) q
      (λ o. processes_at parts ids' q ≡ o) (λ e. ap (processes_at parts ids') e ∙ ap (some_process parts) here)
      (λ ne. beside q ne)
    where
      beside : (r : ℕ) → (r ≡ suc place → ⊥) → processes_at parts ids' r ≡ processes_at parts ids r
      beside zero ne = refl
      beside (suc j) ne = ap (some_process parts) (there j (λ e. ne (ap suc e)))

pub put_last : (ids ids' : List ℕ) (n part : ℕ) → n ≡ suc (length ids) → ids' ≡ ids ++ part ∷ []
    → IsPutAt ids n part ids'
put_last ids ids' n part is e = subst (λ m. IsPutAt ids m part ids') (sym is) (record {
  at = put_there ids ids' (length ids) part (ap (λ l. slice_get l (length ids)) e ∙ slice_get_last ids part)
      (λ j ne. ap (λ l. slice_get l j) e ∙ get_beside ids part j ne);
  within = λ m l all. subst (All (λ k. k < m)) (sym e) (All-push (λ k. k < m) ids part all l);
})

pub put_within : (ids ids' : List ℕ) (n place part : ℕ) → n ≡ suc place → place < length ids
    → ids' ≡ slice_set ids place part → IsPutAt ids n part ids'
put_within ids ids' n place part is less e = subst (λ m. IsPutAt ids m part ids') (sym is) (record {
  at = put_there ids ids' place part (ap (λ l. slice_get l place) e ∙ get_set ids place part less)
      (λ j ne. ap (λ l. slice_get l j) e ∙ get_set_other ids place j part ne);
  within = λ m l all. subst (All (λ k. k < m)) (sym e) (All-set (λ k. k < m) ids place part l all);
})

-- and with another behind the last one
module _ (ids mid ids' : List ℕ) (place : ℕ) (o : OutcomeOf) (first : IsPutAt ids (suc place) o.part mid) where
  last : (n : ℕ) → n ≡ length mid → ids' ≡ mid ++ o.child ∷ [] → IsPutAt mid (suc n) o.child ids'
  last n is e = put_last mid ids' (suc n) o.child (ap suc is) e

  with_at : (n : ℕ) → IsPutBehind mid o.child ids' n → (parts : List ProcessOf) (q : ℕ) → processes_at parts ids' q
      ≡ with_child parts o.child (put (processes_at parts ids) (suc place) (process_in parts o.part)) n q
  with_at zero e parts q = ap (λ l. processes_at parts l q) e ∙ first.at parts q
  with_at (suc n) puts parts q = (last n puts.0 puts.1).at parts q
      ∙ at_put2 (processes_at parts mid) (put (processes_at parts ids) (suc place) (process_in parts o.part)) (suc n)
      (process_in parts o.child) (process_in parts o.child) q (λ u v. u ≡ v) (λ e. refl) (λ ne. first.at parts q)

  with_within : (n : ℕ) → IsPutBehind mid o.child ids' n → (m : ℕ) → o.child < m → All (λ k. k < m) mid
      → All (λ k. k < m) ids'
  with_within zero e m less all = subst (All (λ k. k < m)) (sym e) all
  with_within (suc n) puts m less all = (last n puts.0 puts.1).within m less all

  pub put_with : IsPutBehind mid o.child ids' o.made → IsPutWith ids (suc place) o ids'
  put_with puts = record {
    at = with_at o.made puts;
    within = λ m part child all. with_within o.made puts m child (first.within m part all);
  }

module _ (numbers others : List ℕ) (place : ℕ) (o : OutcomeOf) (less : place < length others)
    (begins : (k : ℕ) → k < length others → slice_get numbers k ≡ slice_get (slice_set others place o.part) k) where
  abbrev placed : List ℕ
  placed = slice_set others place o.part

  long : length placed ≡ length others
  long = set_length others place o.part

  put_behind : (n : ℕ) → EndSo numbers (length others) o.child n → IsPutBehind placed o.child numbers n
  put_behind zero e = same_list numbers placed (e ∙ sym long) (λ j l. begins j (omega (arith, l, e)))
  put_behind (suc m) ends =
      let count : length numbers ≡ suc (length others) = ends.1 in
      let more : length (placed ++ o.child ∷ []) ≡ length placed + 1 = length-append placed (o.child ∷ []) in (
        ends.0 ∙ sym long,
        same_list numbers (placed ++ o.child ∷ []) (omega (arith, count, more, long)) (λ j l.
            below_more (λ k. slice_get numbers k ≡ slice_get (placed ++ o.child ∷ []) k) (length others)
            (λ k lower. begins k lower ∙ sym (slice_get_more placed (o.child ∷ []) k (omega (arith, lower, long))))
            (ends.2 ∙ sym (subst (λ k. slice_get (placed ++ o.child ∷ []) k ≡ Some o.child) long
            (slice_get_last placed o.child))) j (omega (arith, l, count))),
      )

  pub put_so : EndSo numbers (length others) o.child o.made → IsPutWith others (suc place) o numbers
  put_so ends = put_with others placed numbers place o
      (put_within others placed (suc place) place o.part refl less refl) (put_behind o.made ends)

-- another's values at some numbers
over_push : (ns : List ℕ) (n : ℕ) (f g : ℕ → Option Process) (q : ℕ)
    → over (ns ++ n ∷ []) f g q ≡ put (over ns f g) n (f n) q
over_push [] n f g q = refl
over_push (m ∷ ns) n f g q = over_push ns n f (put g m (f m)) q

over_out : (ns : List ℕ) (f g : ℕ → Option Process) (q : ℕ) → (Contains ns q → ⊥) → over ns f g q ≡ g q
over_out [] f g q not = refl
over_out (n ∷ ns) f g q not =
    over_out ns f (put g n (f n)) q (λ c. let l : c.0 < length ns = c.1 in not (suc c.0, omega (arith, l), c.2))
    ∙ put_other g n (f n) q (λ e. not (zero, omega arith, sym e))

over_same : (ns : List ℕ) (f g : ℕ → Option Process) (q : ℕ) → g q ≡ f q → over ns f g q ≡ f q
over_same [] f g q e = e
over_same (n ∷ ns) f g q e =
    over_same ns f (put g n (f n)) q (at_put g n (f n) q (λ o. o ≡ f q) (λ h. ap f (sym h)) (λ ne. e))

over_in : (ns : List ℕ) (f g : ℕ → Option Process) (q : ℕ) → Contains ns q → over ns f g q ≡ f q
over_in [] f g q (k, l, e) = absurd (omega (arith, l))
over_in (n ∷ ns) f g q (zero, l, e) = over_same ns f (put g n (f n)) q
    (at_put g n (f n) q (λ o. o ≡ f q) (λ h. ap f (sym h)) (λ ne. absurd (ne (sym e))))
over_in (n ∷ ns) f g q (suc k, l, e) = over_in ns f (put g n (f n)) q (k, omega (arith, l), e)

-- at all that there are
module _ (ns : List ℕ) (f g : ℕ → Option Process) (all : (q : ℕ) → Contains ns q ↔ IsSome (f q)) (q : ℕ) where
  over_if : (o : Option Process) → f q ≡ o → over ns f g q ≡ or_else o (g q)
  over_if None e = over_out ns f g q
      (λ c. let no : false ≡ true = subst IsSome e ((all q).0 c) in cc)
  over_if (Some y) e = over_in ns f g q ((all q).1 (ap is_some e)) ∙ e

  pub over_all : over ns f g q ≡ or_else (f q) (g q)
  over_all = over_if (f q) refl

-- the processes of no number, and of one more
pub merged_none : (xs : List ProcessOf) (ids ids' : List ℕ) (f : ℕ → Option Process) (numbers : List ℕ)
    → All (λ n. n < length xs) ids → ids' ≡ ids → IsMergedTo xs xs ids f (take 0 numbers) ids'
merged_none xs ids ids' f numbers all e = subst (IsMergedTo xs xs ids f (take 0 numbers)) (sym e)
    (record { within = all; at = λ q. refl })

module _ (xs ys zs : List ProcessOf) (more : IsPrefix ys zs) (ids v v' : List ℕ) (f : ℕ → Option Process)
    (numbers : List ℕ) (i n part : ℕ) (q : Process) (so_far : IsMergedTo xs ys ids f (take i numbers) v)
    (puts : IsPutAt v n part v') (there : process_in zs part ≡ Some q) (stands : f n ≡ Some q) (less : i < length numbers)
    (is : n ≡ get_or numbers i 0) where
  over_next : (r : ℕ) → put (processes_at zs v) n (process_in zs part) r
      ≡ over (take (i + 1) numbers) f (processes_at xs ids) r
  over_next r =
      at_put2 (processes_at zs v) (over (take i numbers) f (processes_at xs ids)) n (process_in zs part) (f n) r
      (λ a b. a ≡ b) (λ e. there ∙ sym stands) (λ ne. at_still ys zs more v so_far.within r ∙ so_far.at r)
      ∙ sym (over_push (take i numbers) n f (processes_at xs ids) r)
      ∙ ap (λ l. over l f (processes_at xs ids) r)
      (ap (λ m. take i numbers ++ m ∷ []) is ∙ sym (take_more numbers i 0 less))

  pub merged_more : IsMergedTo xs zs ids f (take (i + 1) numbers) v'
  merged_more = record {
    within = puts.within (length zs) (some_within process_of zs part q there)
        (All-weaker (λ m. m < length ys) (λ m. m < length zs) (λ m. prefix_within ys zs m more) v so_far.within);
    at = λ r. puts.at zs r ∙ over_next r;
  }

-- all of them, with the table and the variables
module _ (o a b d : PartsOf) (g : IsGrown a b) (h : IsGrown b d) (x y : PackedOf) (s : SourceState)
    (numbers : List ℕ)
    (are : IsMergedTo o.processes.items a.processes.items x.processes.items s.process numbers y.processes.items)
    (all : (q : ℕ) → Contains numbers q ↔ IsSome (s.process q))
    (t : table_in b.tables.items y.table ≡ Some s.table)
    (v : variables_in d.variables.items y.variables ≡ Some s.variable) where
  more : IsPrefix a.processes.items d.processes.items
  more = prefix_twice a.processes.items b.processes.items d.processes.items g.processes h.processes

  within_table : y.table < length b.tables.items
  within_table = some_within table_of b.tables.items y.table s.table t

  pub merged_all : IsMergedOf o d x s y
  merged_all = record {
    within = record {
      table = prefix_within b.tables.items d.tables.items y.table h.tables within_table;
      variables = some_within variables_of d.variables.items y.variables s.variable v;
      processes = All-weaker (λ n. n < length a.processes.items) (λ n. n < length d.processes.items)
          (λ n. prefix_within a.processes.items d.processes.items n more) y.processes.items are.within;
    };
    like = record {
      table = ap some_table (ap (option_map table_of)
          (prefix_get b.tables.items d.tables.items y.table h.tables within_table) ∙ t);
      variable = ap some_variables v;
      process = λ i q. (at_still a.processes.items d.processes.items more y.processes.items are.within q
          ∙ are.at q ∙ over_all numbers s.process (processes_at o.processes.items x.processes.items) all q) i;
    };
  }

-- a state that was made of a spot
pub alone_of : (parts : PartsOf) (spot : SpotOf) (s : SourceState) (t : Table) (v : Variables) (q : Process)
    → table_in parts.tables.items spot.table ≡ Some t → variables_in parts.variables.items spot.variables ≡ Some v
    → process_in parts.processes.items spot.part ≡ Some q
    → s ≡ record (unpeopled t v) { process = put (λ r. None) spot.process (Some q) } → IsAlone parts spot s
alone_of parts spot s t v q is_table are_variables is_process made = record {
  same = made ∙ (λ i. record {
    table = sym (ap some_table is_table) i;
    variable = sym (ap some_variables are_variables) i;
    process = put (λ r. None) spot.process (sym is_process i);
    printed = [];
  });
  stands = ap is_some (ap (λ (r : SourceState). r.process spot.process) made ∙ put_same (λ r. None) spot.process (Some q));
}

-- what holds a process up by the table holds it up where it is alone
pub held_alone : (p : Program) (parts : PartsOf) (spot : SpotOf) (n : ℕ) (t : Table) (q : Process)
    → table_in parts.tables.items spot.table ≡ Some t → process_in parts.processes.items spot.part ≡ Some q
    → n ≡ spot.process → ((s : SourceState) → s.table ≡ t → s.process n ≡ Some q → CanMove p s n → ⊥)
    → CanMove p (alone parts spot) spot.process → ⊥
held_alone p parts spot n t q is_table is_process is held can =
    held (alone parts spot) (ap some_table is_table)
    (ap (λ m. (alone parts spot).process m) is
    ∙ put_same (λ r. None) spot.process (process_in parts.processes.items spot.part) ∙ is_process)
    (subst (λ m. CanMove p (alone parts spot) m) (sym is) can)

-- the process of a spot, with the others of the kept state beside it
module _ (parts : PartsOf) (x : PackedOf) (place : ℕ) (spot : SpotOf) (is : IsSpotOf x place spot) where
  twice : (o : Option Process) → or_else o o ≡ o
  twice None = refl
  twice (Some q) = refl

  standing : process_in parts.processes.items spot.part ≡ (unpacked parts x).process spot.process
  standing = sym (ap (processes_at parts.processes.items x.processes.items) is.process
      ∙ ap (some_process parts.processes.items) is.part)

  at : (q : ℕ) → or_else ((alone parts spot).process q) ((unpacked parts x).process q) ≡ (unpacked parts x).process q
  at q = at_put (λ r. None) spot.process (process_in parts.processes.items spot.part) q
      (λ o. or_else o ((unpacked parts x).process q) ≡ (unpacked parts x).process q)
      (λ e. ap (λ o. or_else o ((unpacked parts x).process q)) (standing ∙ ap (unpacked parts x).process (sym e))
      ∙ twice ((unpacked parts x).process q))
      (λ ne. refl)

  pub among_spot : among (unpacked parts x).process (alone parts spot) ≡ unpacked parts x
  among_spot = λ i. record {
    table = some_table (table_in parts.tables.items (is.table i));
    variable = some_variables (variables_in parts.variables.items (is.variables i));
    process = λ q. at q i;
    printed = [];
  }
