-- Lines of entries, and texts that have none.
use Rattle.std.proofs.Common.{◌≡◌, ◌≢◌, ◌<◌, ◌≤◌, ◌+◌, ℕ, zero, suc, List, [], ◌∷◌, ◌++◌, length, drop, codes}
use Rattle.std.proofs.Common.{Bool, false, ◌==◌, if◌then◌else◌, Result, Ok, Err, is_ok, is_err}
use Rattle.std.proofs.Common.{Option, Some, None, refl, ap, sym, ◌∙◌, subst, arith, length-append}
use Rattle.std.specs.List.{All}
use Rattle.std.specs.Fmt.{decimal}
use Rattle.std.proofs.lemmas.List.{append-nil, append_assoc, length-drop}
use Rattle.std.proofs.lemmas.List.Elements.{All-append, All-cons, All-nil, All-head, All-tail}
use Rattle.std.proofs.lemmas.Grind.{flat_map-append}
use Rattle.words.specs.Limits.{most_threads}
use Rattle.machine.specs.ThreadSets.{IsThread}
use Rattle.machine.specs.declared.event.Entry.{Entry}
use Rattle.machine.specs.declared.event.Event.{Event}
use Rattle.log_text.specs.Cuts.{AtByte, NoByte}
use Rattle.log_text.specs.LogLines.{entry_line, entry_text, list_text, log_lines, members, name_text}
use Rattle.log_text.specs.LogLines.{numbers_text, set_text, step_text, value_text}
use Rattle.log_text.specs.Spelled.{IsLogText, IsSized, IsStep, LinesOnce, NoBadLine, NoLine}
use Rattle.log_text.proofs.Cutting.{cut_once, none_append, none_of_plain}
use Rattle.log_text.proofs.Entries.{entry_once}
use Rattle.log_text.proofs.Members.{all_members}
use Rattle.log_text.proofs.Names.{plain_name}
use Rattle.log_text.proofs.Numerals.{plain_decimal, plain_value}

space : NoByte 10 (codes " ")
space = ((λ (e : 32 ≡ 10). absurd (omega (arith, e))), tt)

numbers : (ns : List ℕ) → All IsThread ns → NoByte 10 (numbers_text ns)
numbers [] all = tt
numbers (n ∷ ns) all =
    let few = (All-head IsThread n ns all).1 in
    none_append 10 (32 ∷ decimal n) (numbers_text ns)
    (space.0, none_of_plain 10 (decimal n) (omega arith) (plain_decimal n (omega (arith, few))))
    (numbers ns (All-tail IsThread n ns all))

listed : (word ns : List ℕ) → NoByte 10 word → All IsThread ns → NoByte 10 (list_text word ns)
listed word [] none all = tt
listed word (n ∷ ns) none all = none_append 10 word (numbers_text (n ∷ ns)) none (numbers (n ∷ ns) all)

woke : NoByte 10 (codes " woke")
woke = (
  space.0,
  none_of_plain 10 (codes "woke") (omega arith)
      (omega arith, (omega arith, (omega arith, (omega arith, tt)))),
)

moved : NoByte 10 (codes " moved")
moved = (
  space.0,
  none_of_plain 10 (codes "moved") (omega arith)
      (omega arith, (omega arith, (omega arith, (omega arith, (omega arith, tt))))),
)

turn : NoByte 10 (codes "TURN 0")
turn = none_append 10 (codes "TURN") (codes " 0")
    (none_of_plain 10 (codes "TURN") (omega arith) (omega arith, (omega arith, (omega arith, (omega arith, tt)))))
    (space.0, ((λ (e : 48 ≡ 10). absurd (omega (arith, e))), tt))

stepped : (o : Option Event) → IsStep o → NoByte 10 (step_text o)
stepped None is = turn
stepped (Some e) is =
    none_append 10 (name_text e.name ++ codes " " ++ value_text e.name e.value ++ set_text (codes " woke") e.woken)
    (set_text (codes " moved") e.moved)
    (none_append 10 (name_text e.name ++ codes " " ++ value_text e.name e.value) (set_text (codes " woke") e.woken)
    (none_append 10 (name_text e.name ++ codes " ") (value_text e.name e.value)
    (none_append 10 (name_text e.name) (codes " ")
    (none_of_plain 10 (name_text e.name) (omega arith) (plain_name e.name)) space)
    (none_of_plain 10 (value_text e.name e.value) (omega arith) (plain_value e.name e.value is.value)))
    (listed (codes " woke") (members e.woken most_threads) woke (all_members e.woken)))
    (listed (codes " moved") (members e.moved most_threads) moved (all_members e.moved))

-- the line of an entry has no line feed but its end
lined : (e : Entry) → IsSized e → NoByte 10 (entry_text e)
lined e is =
    let t = is.thread in
    let l = is.local in
    none_append 10 (decimal e.thread ++ codes " " ++ decimal e.local ++ codes " ") (step_text e.event)
    (none_append 10 (decimal e.thread ++ codes " " ++ decimal e.local) (codes " ")
    (none_append 10 (decimal e.thread ++ codes " ") (decimal e.local)
    (none_append 10 (decimal e.thread) (codes " ")
    (none_of_plain 10 (decimal e.thread) (omega arith) (plain_decimal e.thread (omega (arith, t)))) space)
    (none_of_plain 10 (decimal e.local) (omega arith) (plain_decimal e.local (omega (arith, l)))))
    space)
    (stepped e.event is.step)

-- what is cut off at a line feed is the line of the entry that stands there
line_there : (rest front tail : List ℕ) (e : Entry) (later : List ℕ) → rest ≡ front ++ tail → NoByte 10 front
    → AtByte 10 tail → IsSized e → rest ≡ entry_line e ++ later → (front ≡ entry_text e) × (tail ≡ 10 ∷ later)
line_there rest front tail e later whole none at sized is =
    cut_once 10 front (entry_text e) tail (10 ∷ later) none (lined e sized) at refl
    (sym whole ∙ is ∙ append_assoc (entry_text e) (10 ∷ []) later)

pub no_end : (rest front tail : List ℕ) → rest ≡ front ++ tail → NoByte 10 front → AtByte 10 tail → length tail ≡ 0
    → NoLine rest
no_end rest front tail whole none at empty e later sized is =
    let there = line_there rest front tail e later whole none at sized is in
    let l : length tail ≡ length (10 ∷ later) = ap length there.1 in
    absurd (omega (arith, l, empty))

pub no_entry : (rest front tail : List ℕ) → rest ≡ front ++ tail → NoByte 10 front → AtByte 10 tail
    → ((e : Entry) → IsSized e → front ≢ entry_text e) → NoLine rest
no_entry rest front tail whole none at never e later sized is =
    never e sized (line_there rest front tail e later whole none at sized is).0

after_end : (tail : List ℕ) → AtByte 10 tail → 0 < length tail → tail ≡ 10 ∷ drop 1 tail
after_end [] at some = absurd (omega (arith, some))
after_end (x ∷ xs) at some = λ i. at i ∷ xs

-- one line more
pub line_more : (text : List ℕ) (log log' : List Entry) (rest front tail : List ℕ) (e : Entry)
    → text ≡ log_lines log ++ rest → rest ≡ front ++ tail → AtByte 10 tail → 0 < length tail → front ≡ entry_text e
    → log' ≡ log ++ e ∷ [] → text ≡ log_lines log' ++ drop 1 tail
line_more text log log' rest front tail e sum whole at some is grows =
    let more : log_lines log' ≡ log_lines log ++ entry_line e =
    ap log_lines grows ∙ flat_map-append entry_line log (e ∷ [])
    ∙ ap (λ xs. log_lines log ++ xs) (append-nil (entry_line e)) in
    let line : rest ≡ entry_line e ++ drop 1 tail =
    whole ∙ (λ i. is i ++ after_end tail at some i) ∙ sym (append_assoc (entry_text e) (10 ∷ []) (drop 1 tail)) in
    sum ∙ ap (λ xs. log_lines log ++ xs) line ∙ sym (append_assoc (log_lines log) (entry_line e) (drop 1 tail))
    ∙ ap (λ xs. xs ++ drop 1 tail) (sym more)

-- and at least a byte less is left
pub line_shorter : (rest front tail : List ℕ) → rest ≡ front ++ tail → 0 < length tail
    → length (drop 1 tail) + 1 ≤ length rest
line_shorter rest front tail whole some =
    let sum = ap length whole ∙ length-append front tail in
    let less = length-drop 1 tail in
    omega (arith, some, sum, less)

pub some_left : (n : ℕ) → false ≡ (n == 0) → 0 < n
some_left zero e = absurd cc
some_left (suc n) e = omega arith

-- an entry that was pushed stands at the end
pub pushed : {A E : Type 0} (r : Result A E) (b : Bool) (new old : List Entry) (e : Entry) → b ≡ is_err r → b ≡ false
    → new ≡ (if is_ok r then old ++ e ∷ [] else old) → new ≡ old ++ e ∷ []
pushed (Ok x) b new old e is ended items = items
pushed (Err x) b new old e is ended items = absurd cc

pub sized_more : (log log' : List Entry) (e : Entry) → All IsSized log → IsSized e → log' ≡ log ++ e ∷ []
    → All IsSized log'
sized_more log log' e all one grows =
    subst (All IsSized) (sym grows) (All-append IsSized log (e ∷ []) all (All-cons IsSized e [] one (All-nil IsSized)))

-- no text is the lines of two logs
no_lines : (e : Entry) (later : List ℕ) → [] ≡ entry_line e ++ later → ⊥
no_lines e later is =
    let l : 0 ≡ length ((entry_text e ++ (10 ∷ [])) ++ later) = ap length is in
    let sum = length-append (entry_text e ++ (10 ∷ [])) later in
    let end = length-append (entry_text e) (10 ∷ []) in
    absurd (omega (arith, l, sum, end))

first_line : (a b : Entry) (r s : List ℕ) → IsSized a → IsSized b → entry_line a ++ r ≡ entry_line b ++ s
    → (a ≡ b) × (r ≡ s)
first_line a b r s is is' e =
    let both = cut_once 10 (entry_text a) (entry_text b) (10 ∷ r) (10 ∷ s) (lined a is) (lined b is') refl refl
    (sym (append_assoc (entry_text a) (10 ∷ []) r) ∙ e ∙ append_assoc (entry_text b) (10 ∷ []) s) in
    (entry_once a b is is' both.0, ap (drop 1) both.1)

same_logs : (a b : List Entry) → All IsSized a → All IsSized b → log_lines a ≡ log_lines b → a ≡ b
same_logs [] [] all all' e = refl
same_logs [] (y ∷ ys) all all' e = absurd (no_lines y (log_lines ys) e)
same_logs (x ∷ xs) [] all all' e = absurd (no_lines x (log_lines xs) (sym e))
same_logs (x ∷ xs) (y ∷ ys) all all' e =
    let both = first_line x y (log_lines xs) (log_lines ys) (All-head IsSized x xs all) (All-head IsSized y ys all') e in
    let head : x ≡ y = both.0 in
    let tail : xs ≡ ys = same_logs xs ys (All-tail IsSized x xs all) (All-tail IsSized y ys all') both.1 in
    λ i. head i ∷ tail i

pub lines_once : LinesOnce
lines_once text a b is is' = same_logs a b is.sized is'.sized (is.lines ∙ sym is'.lines)

no_bad : (before log : List Entry) (rest : List ℕ) → All IsSized before → All IsSized log
    → log_lines before ++ rest ≡ log_lines log → 0 < length rest → NoLine rest → ⊥
no_bad [] [] rest all all' e more none =
    let l : length rest ≡ 0 = ap length e in
    absurd (omega (arith, l, more))
no_bad [] (y ∷ ys) rest all all' e more none = none y (log_lines ys) (All-head IsSized y ys all') e
no_bad (x ∷ xs) [] rest all all' e more none =
    no_lines x (log_lines xs ++ rest) (sym e ∙ append_assoc (entry_line x) (log_lines xs) rest)
no_bad (x ∷ xs) (y ∷ ys) rest all all' e more none =
    let both = first_line x y (log_lines xs ++ rest) (log_lines ys) (All-head IsSized x xs all) (All-head IsSized y ys all')
    (sym (append_assoc (entry_line x) (log_lines xs) rest) ∙ e) in
    no_bad xs ys rest (All-tail IsSized x xs all) (All-tail IsSized y ys all') both.1 more none

pub no_bad_line : NoBadLine
no_bad_line text log number is bad =
    no_bad bad.before log bad.rest bad.sized is.sized (sym bad.cut ∙ sym is.lines) bad.more bad.none

no_length : (xs : List ℕ) → length xs ≡ 0 → xs ≡ []
no_length [] is = refl
no_length (x ∷ xs) is = absurd (omega (arith, is))

-- a text that is read to its end
pub read_back : (text rest : List ℕ) (log other : List Entry) → text ≡ log_lines log ++ rest → length rest ≡ 0
    → All IsSized log → IsLogText text other → log ≡ other
read_back text rest log other whole none all is =
    let all_lines : log_lines log ≡ text =
    sym (append-nil (log_lines log)) ∙ ap (λ (z : List ℕ). log_lines log ++ z) (sym (no_length rest none)) ∙ sym whole in
    lines_once text log other (record { lines = all_lines; sized = all }) is
