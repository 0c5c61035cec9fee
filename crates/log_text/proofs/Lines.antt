-- Texts that grow by the parts of a line.
use Rattle.std.proofs.Common.{◌≡◌, ℕ, Bool, true, false, List, [], ◌∷◌, ◌++◌, Result, Ok, Err, OnOk, codes, refl, ap, sym, ◌∙◌}
use Rattle.std.proofs.Common.{if◌then◌else◌, is_ok, eqb, not, Some, None, ◌<◌, ◌≤◌, ◌+◌, ◌-◌, arith}
use Rattle.std.specs.Fmt.{decimal}
use Rattle.std.proofs.lemmas.Bool.{ne_eqb}
use Rattle.std.proofs.lemmas.Grind.{flat_map-append}
use Rattle.std.proofs.lemmas.List.{append-nil, append_assoc}
use Rattle.words.specs.Limits.{most_threads}
use Rattle.machine.specs.ThreadSets.{has, IsLeastFrom, set_of}
use Rattle.machine.specs.declared.event.Entry.{Entry}
use Rattle.machine.specs.declared.event.Event.{Event}
use Rattle.machine.specs.declared.thread_set.ThreadSet.{ThreadSet}
use Rattle.log_text.specs.LogLines.{entry_line, event_text, list_text, members, name_text, numbers_text, set_text, step_text}
use Rattle.log_text.specs.LogLines.{value_text}
use Rattle.log_text.proofs.Entries.{none_written}
use Rattle.log_text.proofs.Members.{members_end, members_past, next_member}

abbrev pub has_some : List ℕ → Bool
has_some [] = false
has_some (n ∷ ns) = true

-- what is appended last
pub appended : {A E : Type 0} (r : Result A E) (old more new : List ℕ)
    → new ≡ (if is_ok r then old ++ more else old) → OnOk r (new ≡ old ++ more)
appended (Ok x) old more new is = is
appended (Err x) old more new is = tt

-- the line of a shared step, behind its local steps
pub event_more : {A E : Type 0} (r : Result A E) (e : Event)
    (old name space named spaced valued woken moved new : List ℕ) → name ≡ name_text e.name → space ≡ old ++ codes " "
    → named ≡ space ++ name → spaced ≡ named ++ codes " " → valued ≡ spaced ++ value_text e.name e.value
    → woken ≡ valued ++ set_text (codes " woke") e.woken → moved ≡ woken ++ set_text (codes " moved") e.moved
    → OnOk r (new ≡ moved ++ codes "\n") → OnOk r (new ≡ old ++ (codes " " ++ (event_text e ++ codes "\n")))
event_more (Ok x) e old name space named spaced valued woken moved new called first names second values wakes moves ends =
    let v = value_text e.name e.value in
    let w = set_text (codes " woke") e.woken in
    let m = set_text (codes " moved") e.moved in
    let n = name_text e.name in
    grown n v w m called first names second values wakes moves ends ∙ regrouped old n v w m
  where
    grown : (n v w m : List ℕ) → name ≡ n → space ≡ old ++ codes " " → named ≡ space ++ name → spaced ≡ named ++ codes " "
        → valued ≡ spaced ++ v → woken ≡ valued ++ w → moved ≡ woken ++ m → new ≡ moved ++ codes "\n"
        → new ≡ ((((((old ++ codes " ") ++ n) ++ codes " ") ++ v) ++ w) ++ m) ++ codes "\n"
    grown n v w m called first names second values wakes moves ends =
        rw (ends, moves, wakes, values, second, names, first, called) refl

    regrouped : (old n v w m : List ℕ) → ((((((old ++ codes " ") ++ n) ++ codes " ") ++ v) ++ w) ++ m) ++ codes "\n"
        ≡ old ++ (codes " " ++ (((((n ++ codes " ") ++ v) ++ w) ++ m) ++ codes "\n"))
    regrouped old n v w m = simp append_assoc
event_more (Err x) e old name space named spaced valued woken moved new called first names second values wakes moves ends =
    tt

-- the line of an entry, whose step is written behind its local steps
pub entry_more : {A E : Type 0} (r : Result A E) (e : Entry) (old threaded spaced counted step new : List ℕ)
    → threaded ≡ old ++ decimal e.thread → spaced ≡ threaded ++ codes " " → counted ≡ spaced ++ decimal e.local
    → step ≡ step_text e.event → OnOk r (new ≡ counted ++ (codes " " ++ (step ++ codes "\n")))
    → OnOk r (new ≡ old ++ entry_line e)
entry_more (Ok x) e old threaded spaced counted step new threads spaces counts is ends =
    let t = decimal e.thread in
    let l = decimal e.local in
    let s = step_text e.event in
    grown t l s threads spaces counts is ends ∙ regrouped old t l s
  where
    grown : (t l s : List ℕ) → threaded ≡ old ++ t → spaced ≡ threaded ++ codes " " → counted ≡ spaced ++ l → step ≡ s
        → new ≡ counted ++ (codes " " ++ (step ++ codes "\n"))
        → new ≡ (((old ++ t) ++ codes " ") ++ l) ++ (codes " " ++ (s ++ codes "\n"))
    grown t l s threads spaces counts is ends = rw (ends, counts, spaces, threads, is) refl

    regrouped : (old t l s : List ℕ) → (((old ++ t) ++ codes " ") ++ l) ++ (codes " " ++ (s ++ codes "\n"))
        ≡ old ++ (((((t ++ codes " ") ++ l) ++ codes " ") ++ s) ++ codes "\n")
    regrouped old t l s = simp append_assoc
entry_more (Err x) e old threaded spaced counted step new threads spaces counts is ends = tt

-- an empty set adds nothing
pub none_more : (word old : List ℕ) (set : ThreadSet) → set ≡ set_of [] → old ≡ old ++ set_text word set
none_more word old set is =
    sym (append-nil old) ∙ ap (λ (z : List ℕ). old ++ z) (sym (none_written word set is))

-- a thread more behind a word
pub list_more : (word ms : List ℕ) (t : ℕ) → list_text word (ms ++ t ∷ [])
    ≡ list_text word ms ++ ((if not (has_some ms) then word else []) ++ (codes " " ++ decimal t))
list_more word [] t = ap (λ z. word ++ z) (append-nil (codes " " ++ decimal t))
list_more word (m ∷ ms) t =
    ap (λ z. word ++ z) (flat_map-append (λ (n : ℕ). codes " " ++ decimal n) (m ∷ ms) (t ∷ [])
    ∙ ap (λ z. numbers_text (m ∷ ms) ++ z) (append-nil (codes " " ++ decimal t)))
    ∙ sym (append_assoc word (numbers_text (m ∷ ms)) (codes " " ++ decimal t))

pub some_more : (ms : List ℕ) (t : ℕ) → has_some (ms ++ t ∷ []) ≡ true
some_more [] t = refl
some_more (m ∷ ms) t = refl

-- a text with so many threads of a set behind a word: those below a number
pub record Listed (old word text : List ℕ) (set : ThreadSet) (from before : ℕ) : Type 0 where
  pub text_is : text ≡ old ++ list_text word (members set (from - 1))
  pub first : eqb before 0 ≡ not (has_some (members set (from - 1)))
  pub one : 1 ≤ from
  pub passed : before < from
  pub inside : from ≤ most_threads + 1

pub Listed-none : (old word : List ℕ) (set : ThreadSet) → Listed old word old set 1 0
Listed-none old word set = record {
  text_is = sym (append-nil old);
  first = refl;
  one = omega arith;
  passed = omega arith;
  inside = omega arith;
}

pub Listed-more : (old word text text' : List ℕ) (set : ThreadSet) (from before t : ℕ) → Listed old word text set from
    before → IsLeastFrom (has set) from (Some t) → t ≤ most_threads
    → text' ≡ text ++ ((if eqb before 0 then word else []) ++ (codes " " ++ decimal t))
    → Listed old word text' set (t + 1) (before + 1)
Listed-more old word text text' set from before t l is few grows =
    let ms : List ℕ = members set (from - 1) in
    let next : members set (t + 1 - 1) ≡ ms ++ t ∷ [] = next_member set from t l.one is in
    let tail : List ℕ = (if not (has_some ms) then word else []) ++ (codes " " ++ decimal t) in
    record {
      text_is = grows ∙ ap (λ b. text ++ ((if b then word else []) ++ (codes " " ++ decimal t))) l.first
          ∙ ap (λ z. z ++ tail) l.text_is ∙ append_assoc old (list_text word ms) tail
          ∙ ap (λ z. old ++ z) (sym (ap (list_text word) next ∙ list_more word ms t));
      first = ne_eqb (before + 1) 0 (λ e. omega (arith, e)) ∙ sym (ap not (ap has_some next ∙ some_more ms t));
      one = omega arith;
      passed = omega (arith, l.passed, is.0);
      inside = omega (arith, few);
    }

-- all are there where there is no next one
pub Listed-end : (old word text : List ℕ) (set : ThreadSet) (from before : ℕ) → Listed old word text set from before
    → IsLeastFrom (has set) from None → text ≡ old ++ set_text word set
Listed-end old word text set from before l none =
    l.text_is ∙ ap (λ ms. old ++ list_text word ms) (sym (members_end set from most_threads l.one l.inside none))

pub Listed-past : (old word text : List ℕ) (set : ThreadSet) (from before t : ℕ) → Listed old word text set from before
    → IsLeastFrom (has set) from (Some t) → most_threads < t → text ≡ old ++ set_text word set
Listed-past old word text set from before t l is past =
    l.text_is ∙ ap (λ ms. old ++ list_text word ms) (sym (members_past set from most_threads t l.one l.inside is past))

-- or where all numbers were passed
pub Listed-all : (old word text : List ℕ) (set : ThreadSet) (from before : ℕ) → Listed old word text set from before
    → most_threads ≤ before → text ≡ old ++ set_text word set
Listed-all old word text set from before l all =
    let last : from - 1 ≡ most_threads = omega (arith, l.passed, l.inside, all) in
    l.text_is ∙ ap (λ n. old ++ list_text word (members set n)) last
