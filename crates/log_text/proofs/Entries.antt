-- The parts of a line are those of the one entry that it is written of.
use Rattle.std.proofs.Common.{◌≡◌, ◌<◌, ◌⊎◌, ℕ, List, [], ◌∷◌, ◌++◌, length, drop, get_or, codes}
use Rattle.std.proofs.Common.{Option, Some, None, refl, ap, sym, ◌∙◌, arith, inl, inr}
use Rattle.std.specs.Prelude.{MatchOption}
use Rattle.std.specs.Fmt.{decimal}
use Rattle.std.proofs.lemmas.List.Elements.{All-nil}
use Rattle.std.proofs.lemmas.List.{append_assoc, append_cancel_left, append-nil}
use Rattle.words.specs.Limits.{most_threads}
use Rattle.machine.specs.ThreadSets.{IsThread, set_of}
use Rattle.machine.specs.declared.event.Entry.{Entry}
use Rattle.machine.specs.declared.event.Event.{Event}
use Rattle.machine.specs.declared.event.EventName.{EventName}
use Rattle.machine.specs.declared.event.EventName.TheVariants.{Local}
use Rattle.machine.specs.declared.thread_set.ThreadSet.{ThreadSet}
use Rattle.log_text.specs.Cuts.{AfterSet, AtByte, IsRow, IsThreadSet, NoByte, NoDigit, NoNumber, Rises}
use Rattle.log_text.specs.LogLines.{entry_text, event_text, list_text, members, name_text, numbers_text, set_text}
use Rattle.log_text.specs.LogLines.{step_text, value_text}
use Rattle.log_text.specs.Spelled.{EndsEvent, IsSharedEvent, IsSized, IsStep}
use Rattle.log_text.proofs.Cutting.{Plain, cut_once, none_of_plain}
use Rattle.log_text.proofs.Digits.{number_once}
use Rattle.log_text.proofs.Members.{set_of_members}
use Rattle.log_text.proofs.Names.{name_once, plain_name}
use Rattle.log_text.proofs.Numerals.{value_once}
use Rattle.log_text.proofs.Rising.{members_of, members_rise, no_digit_numbers, no_digit_space, not_there, rising_threads}

-- what is cut off is the word, and the rest follows
field : (text a r w s : List ℕ) → text ≡ a ++ r → NoByte 32 a → AtByte 32 r → Plain w → AtByte 32 s → text ≡ w ++ s
    → (a ≡ w) × (r ≡ s)
field text a r w s whole none at plain at' is =
    cut_once 32 a w r s none (none_of_plain 32 w (omega arith) plain) at at' (sym whole ∙ is)

-- the parts one behind another
pub entry_parts : (t l p : List ℕ) → t ++ codes " " ++ l ++ codes " " ++ p ≡ t ++ (32 ∷ (l ++ (32 ∷ p)))
entry_parts t l p =
    append_assoc ((t ++ codes " ") ++ l) (codes " ") p ∙ append_assoc (t ++ codes " ") l (32 ∷ p)
    ∙ append_assoc t (codes " ") (l ++ (32 ∷ p))

pub event_parts : (n v w m : List ℕ) → n ++ codes " " ++ v ++ w ++ m ≡ n ++ (32 ∷ (v ++ (w ++ m)))
event_parts n v w m =
    append_assoc ((n ++ codes " ") ++ v) w m ∙ append_assoc (n ++ codes " ") v (w ++ m)
    ∙ append_assoc n (codes " ") (v ++ (w ++ m))

pub line_parts : (e : Entry) (line : List ℕ) → line ≡ entry_text e
    → line ≡ decimal e.thread ++ (32 ∷ (decimal e.local ++ (32 ∷ step_text e.event)))
line_parts e line is = is ∙ entry_parts (decimal e.thread) (decimal e.local) (step_text e.event)

-- the sets of an event, which end its line
abbrev pub sets_text : Event → List ℕ
sets_text e = set_text (codes " woke") e.woken ++ set_text (codes " moved") e.moved

pub event_is : (e : Event) (text : List ℕ) → text ≡ event_text e
    → text ≡ name_text e.name ++ (32 ∷ (value_text e.name e.value ++ sets_text e))
event_is e text is = is
    ∙ event_parts (name_text e.name) (value_text e.name e.value) (set_text (codes " woke") e.woken)
    (set_text (codes " moved") e.moved)

-- a step's name, and what follows it
abbrev pub StepIs : Option Event → List ℕ → List ℕ → Type 0
StepIs None a r = (a ≡ name_text Local) × (r ≡ 32 ∷ codes "0")
StepIs (Some e) a r = (a ≡ name_text e.name) × (r ≡ 32 ∷ (value_text e.name e.value ++ sets_text e))

pub step_is : (o : Option Event) (text a r : List ℕ) → text ≡ a ++ r → NoByte 32 a → AtByte 32 r → text ≡ step_text o
    → StepIs o a r
step_is None text a r whole none at is =
    field text a r (name_text Local) (32 ∷ codes "0") whole none at (plain_name Local) refl is
step_is (Some e) text a r whole none at is =
    field text a r (name_text e.name) (32 ∷ (value_text e.name e.value ++ sets_text e)) whole none at (plain_name e.name)
    refl (event_is e text is)

-- a text by the name of no step, without a space behind the name, or by another rest than a turn's or an event's
pub no_name : (o : Option Event) (a r : List ℕ) → StepIs o a r → ((n : EventName) → a ≡ name_text n → ⊥) → ⊥
no_name None a r is never = never Local is.0
no_name (Some e) a r is never = never e.name is.0

pub no_space : (o : Option Event) (a r : List ℕ) → StepIs o a r → ((rest : List ℕ) → r ≡ 32 ∷ rest → ⊥) → ⊥
no_space None a r is never = never (codes "0") is.1
no_space (Some e) a r is never = never (value_text e.name e.value ++ sets_text e) is.1

pub no_turn : (o : Option Event) (a r value : List ℕ) (name : EventName) → StepIs o a r → IsStep o → a ≡ name_text name
    → name ≡ Local → r ≡ 32 ∷ value → (value ≡ codes "0" → ⊥) → ⊥
no_turn None a r value name is step called local behind never = never (ap (drop 1) (sym behind ∙ is.1))
no_turn (Some e) a r value name is step called local behind never =
    step.shared (name_once e.name name (sym is.0 ∙ called) ∙ local)

pub no_event : (o : Option Event) (a r value : List ℕ) (name : EventName) → StepIs o a r → IsStep o → a ≡ name_text name
    → (name ≡ Local → ⊥) → r ≡ 32 ∷ value → ((e : Event) → IsSharedEvent e → EndsEvent name value e → ⊥) → ⊥
no_event None a r value name is step called other behind never =
    other (name_once name Local (sym called ∙ is.0))
no_event (Some e) a r value name is step called other behind never =
    never e step (record {
      called = name_once e.name name (sym is.0 ∙ called);
      spelled = ap (drop 1) (sym behind ∙ is.1);
    })

pub turn_text : (text a r value : List ℕ) (name : EventName) → text ≡ a ++ r → a ≡ name_text name → name ≡ Local
    → r ≡ 32 ∷ value → value ≡ codes "0" → text ≡ codes "TURN 0"
turn_text text a r value name whole called local behind is =
    let word : a ≡ codes "TURN" = called ∙ ap name_text local in
    let rest : r ≡ 32 ∷ codes "0" = behind ∙ ap (λ (v : List ℕ). 32 ∷ v) is in
    whole ∙ (λ i. word i ++ rest i)

pub event_there : (text a r value : List ℕ) (name : EventName) (e : Event) → text ≡ a ++ r → a ≡ name_text name
    → r ≡ 32 ∷ value → EndsEvent name value e → text ≡ event_text e
event_there text a r value name e whole called behind ends =
    let word : a ≡ name_text e.name = called ∙ ap name_text (sym ends.called) in
    let rest : r ≡ 32 ∷ (value_text e.name e.value ++ sets_text e) =
    behind ∙ ap (λ (v : List ℕ). 32 ∷ v) ends.spelled in
    whole ∙ (λ i. word i ++ rest i)
    ∙ sym (event_parts (name_text e.name) (value_text e.name e.value) (set_text (codes " woke") e.woken)
    (set_text (codes " moved") e.moved))

-- behind a value come the sets, or nothing
pub no_digit_sets : (ms ns : List ℕ) → NoDigit (list_text (codes " woke") ms ++ list_text (codes " moved") ns)
no_digit_sets [] [] = tt
no_digit_sets [] (n ∷ ns) = no_digit_space (codes "moved" ++ numbers_text (n ∷ ns))
no_digit_sets (m ∷ ms) ns =
    no_digit_space (codes "woke" ++ numbers_text (m ∷ ms) ++ list_text (codes " moved") ns)

no_word : (x : ℕ) (word more : List ℕ) → [] ≡ (x ∷ word) ++ more → ⊥
no_word x word more e = let l : 0 ≡ length ((x ∷ word) ++ more) = ap length e in absurd (omega (arith, l))

pub after_last : AfterSet (codes " moved") []
after_last = record { number = tt; other = λ more e. no_word 32 (codes "moved") more e }

-- behind the woken threads come the moved ones, or nothing
pub after_woken : (ns : List ℕ) → AfterSet (codes " woke") (list_text (codes " moved") ns)
after_woken [] = record { number = tt; other = λ more e. no_word 32 (codes "woke") more e }
after_woken (n ∷ ns) = record {
  number = (no_digit_space (codes "moved" ++ numbers_text (n ∷ ns)), λ e d. let high = d.1 in absurd (omega (arith, high)));
  other = λ more e. let l : 109 ≡ 119 = ap (λ xs. get_or xs 1 0) e in absurd (omega (arith, l));
}

-- the word of a set is there, and its numbers behind it, or the set is empty
pub set_cases : (word text ms rest : List ℕ) → text ≡ list_text word ms ++ rest
    → ((ms ≡ []) × (text ≡ rest)) ⊎ ((0 < length ms) × (text ≡ word ++ (numbers_text ms ++ rest)))
set_cases word text [] rest is = inl (refl, is)
set_cases word text (m ∷ ms) rest is = inr (omega arith, is ∙ append_assoc word (numbers_text (m ∷ ms)) rest)

some_text : (word ts : List ℕ) → 0 < length ts → list_text word ts ≡ word ++ numbers_text ts
some_text word [] some = absurd (omega (arith, some))
some_text word (t ∷ ts) some = refl

pub row_text : (word text behind rest : List ℕ) (set : ThreadSet) → text ≡ word ++ behind → IsRow behind set rest
    → text ≡ set_text word set ++ rest
row_text word text behind rest set whole row =
    let own : members set most_threads ≡ row.threads =
    ap (λ (s : ThreadSet). members s most_threads) row.made ∙ members_of row.threads row.rises in
    let written : set_text word set ≡ word ++ numbers_text row.threads =
    ap (list_text word) own ∙ some_text word row.threads row.some in
    whole ∙ ap (λ (z : List ℕ). word ++ z) row.whole ∙ sym (append_assoc word (numbers_text row.threads) rest)
    ∙ ap (λ (z : List ℕ). z ++ rest) (sym written)

pub row_set : (text rest : List ℕ) (set : ThreadSet) → IsRow text set rest → IsThreadSet set
row_set text rest set row = (row.threads, rising_threads 0 row.threads row.rises, row.made)

pub none_set : (set : ThreadSet) → set ≡ set_of [] → IsThreadSet set
none_set set is = ([], All-nil IsThread, is)

pub empty_text : (word text : List ℕ) (set : ThreadSet) → set ≡ set_of [] → text ≡ set_text word set ++ text
empty_text word text set is =
    let none : members set most_threads ≡ [] = ap (λ (s : ThreadSet). members s most_threads) is ∙ members_of [] tt in
    ap (λ (ms : List ℕ). list_text word ms ++ text) (sym none)

pub none_written : (word : List ℕ) (set : ThreadSet) → set ≡ set_of [] → set_text word set ≡ []
none_written word set is =
    ap (list_text word) (ap (λ (s : ThreadSet). members s most_threads) is ∙ members_of [] tt)

-- no set is written in two ways
numbers_once : (low low' : ℕ) (ms ns r s : List ℕ) → Rises low ms → Rises low' ns → NoNumber r → NoNumber s
    → numbers_text ms ++ r ≡ numbers_text ns ++ s → (ms ≡ ns) × (r ≡ s)
numbers_once low low' [] [] r s p q non non' e = (refl, e)
numbers_once low low' [] (n ∷ ns) r s p q non non' e =
    let few = q.1 in
    absurd (not_there n r (numbers_text ns ++ s) (omega (arith, few))
    (e ∙ append_assoc (32 ∷ decimal n) (numbers_text ns) s) non)
numbers_once low low' (m ∷ ms) [] r s p q non non' e =
    let few = p.1 in
    absurd (not_there m s (numbers_text ms ++ r) (omega (arith, few))
    (sym e ∙ append_assoc (32 ∷ decimal m) (numbers_text ms) r) non')
numbers_once low low' (m ∷ ms) (n ∷ ns) r s p q non non' e =
    let few = p.1 in
    let few' = q.1 in
    let rest : decimal m ++ (numbers_text ms ++ r) ≡ decimal n ++ (numbers_text ns ++ s) =
    ap (drop 1) (sym (append_assoc (32 ∷ decimal m) (numbers_text ms) r) ∙ e
    ∙ append_assoc (32 ∷ decimal n) (numbers_text ns) s) in
    let both = number_once m n (numbers_text ms ++ r) (numbers_text ns ++ s) (omega (arith, few)) (omega (arith, few'))
    (no_digit_numbers ms r non) (no_digit_numbers ns s non') rest in
    let head = both.0 in
    let tail = numbers_once m n ms ns r s p.2 q.2 non non' both.1 in
    ((λ i. head i ∷ tail.0 i), tail.1)

lists_once : (word ms ns r s : List ℕ) → Rises 0 ms → Rises 0 ns → AfterSet word r → AfterSet word s
    → list_text word ms ++ r ≡ list_text word ns ++ s → (ms ≡ ns) × (r ≡ s)
lists_once word [] [] r s p q after after' e = (refl, e)
lists_once word [] (n ∷ ns) r s p q after after' e =
    absurd (after.other (numbers_text (n ∷ ns) ++ s) (e ∙ append_assoc word (numbers_text (n ∷ ns)) s))
lists_once word (m ∷ ms) [] r s p q after after' e =
    absurd (after'.other (numbers_text (m ∷ ms) ++ r) (sym e ∙ append_assoc word (numbers_text (m ∷ ms)) r))
lists_once word (m ∷ ms) (n ∷ ns) r s p q after after' e =
    numbers_once 0 0 (m ∷ ms) (n ∷ ns) r s p q after.number after'.number
    (append_cancel_left word (numbers_text (m ∷ ms) ++ r) (numbers_text (n ∷ ns) ++ s)
    (sym (append_assoc word (numbers_text (m ∷ ms)) r) ∙ e ∙ append_assoc word (numbers_text (n ∷ ns)) s))

sets_once : (word : List ℕ) (a b : ThreadSet) (r s : List ℕ) → IsThreadSet a → IsThreadSet b → AfterSet word r
    → AfterSet word s → set_text word a ++ r ≡ set_text word b ++ s → (a ≡ b) × (r ≡ s)
sets_once word a b r s small small' after after' e =
    let both = lists_once word (members a most_threads) (members b most_threads) r s (members_rise a) (members_rise b) after after' e in
    (sym (set_of_members a small) ∙ ap set_of both.0 ∙ set_of_members b small', both.1)

-- nor an event
ends_once : (name : EventName) (a b : Event) → IsSharedEvent a → IsSharedEvent b → a.name ≡ name → b.name ≡ name
    → value_text name a.value ++ sets_text a ≡ value_text name b.value ++ sets_text b → a ≡ b
ends_once name a b is is' own own' e =
    let v = value_once name a.value b.value (sets_text a) (sets_text b) is.value is'.value
    (no_digit_sets (members a.woken most_threads) (members a.moved most_threads)) (no_digit_sets (members b.woken most_threads) (members b.moved most_threads)) e in
    let w = sets_once (codes " woke") a.woken b.woken (set_text (codes " moved") a.moved)
    (set_text (codes " moved") b.moved) is.woken is'.woken (after_woken (members a.moved most_threads))
    (after_woken (members b.moved most_threads)) v.1 in
    let m = sets_once (codes " moved") a.moved b.moved [] [] is.moved is'.moved after_last after_last
    (append-nil (set_text (codes " moved") a.moved) ∙ w.1 ∙ sym (append-nil (set_text (codes " moved") b.moved))) in
    let n : a.name ≡ b.name = own ∙ sym own' in
    let vs : a.value ≡ b.value = v.0 in
    let ws : a.woken ≡ b.woken = w.0 in
    let ms : a.moved ≡ b.moved = m.0 in
    λ i. record { name = n i; value = vs i; woken = ws i; moved = ms i }

event_of_parts : (a b : Event) → IsSharedEvent a → IsSharedEvent b → StepIs (Some b) (name_text a.name)
    (32 ∷ (value_text a.name a.value ++ sets_text a)) → a ≡ b
event_of_parts a b is is' parts =
    let n : b.name ≡ a.name = name_once b.name a.name (sym parts.0) in
    ends_once a.name a b is is' refl n
    (ap (drop 1) parts.1 ∙ ap (λ (n : EventName). value_text n b.value ++ sets_text b) n)

-- nor a step
pub step_once : (o p : Option Event) → IsStep o → IsStep p → step_text o ≡ step_text p → o ≡ p
step_once None None is is' e = refl
step_once None (Some b) is is' e =
    let parts = step_is (Some b) (codes "TURN 0") (name_text Local) (32 ∷ codes "0") refl
    (none_of_plain 32 (name_text Local) (omega arith) (plain_name Local)) refl e in
    absurd (is'.shared (name_once b.name Local (sym parts.0)))
step_once (Some a) None is is' e =
    let parts = step_is None (event_text a) (name_text a.name) (32 ∷ (value_text a.name a.value ++ sets_text a))
    (event_is a (event_text a) refl) (none_of_plain 32 (name_text a.name) (omega arith) (plain_name a.name)) refl e in
    absurd (is.shared (name_once a.name Local parts.0))
step_once (Some a) (Some b) is is' e =
    let parts = step_is (Some b) (event_text a) (name_text a.name) (32 ∷ (value_text a.name a.value ++ sets_text a))
    (event_is a (event_text a) refl) (none_of_plain 32 (name_text a.name) (omega arith) (plain_name a.name)) refl e in
    let same : a ≡ b = event_of_parts a b is is' parts in
    λ i. Some (same i)

-- nor an entry
pub entry_once : (a b : Entry) → IsSized a → IsSized b → entry_text a ≡ entry_text b → a ≡ b
entry_once a b is is' e =
    let left = line_parts a (entry_text a) refl in
    let right = line_parts b (entry_text a) e in
    let t = number_once a.thread b.thread (32 ∷ (decimal a.local ++ (32 ∷ step_text a.event)))
    (32 ∷ (decimal b.local ++ (32 ∷ step_text b.event))) is.thread is'.thread
    (no_digit_space (decimal a.local ++ (32 ∷ step_text a.event)))
    (no_digit_space (decimal b.local ++ (32 ∷ step_text b.event))) (sym left ∙ right) in
    let l = number_once a.local b.local (32 ∷ step_text a.event) (32 ∷ step_text b.event) is.local is'.local
    (no_digit_space (step_text a.event)) (no_digit_space (step_text b.event)) (ap (drop 1) t.1) in
    let s : a.event ≡ b.event = step_once a.event b.event is.step is'.step (ap (drop 1) l.1) in
    let ts : a.thread ≡ b.thread = t.0 in
    let ls : a.local ≡ b.local = l.0 in
    λ i. record { thread = ts i; local = ls i; event = s i }

-- what is known of a value in a Some, where None can't be
pub still : {X : Type 0} (r : Option X) (P Q : X → Type 0) → MatchOption r ⊥ P → ((x : X) → P x → Q x)
    → MatchOption r ⊥ Q
still None P Q h on = h
still (Some x) P Q h on = on x h

-- what was read of a line is what is written of the entry
pub line_is : (line after_thread after_local step : List ℕ) (e : Entry) → line ≡ decimal e.thread ++ after_thread
    → after_thread ≡ 32 ∷ (decimal e.local ++ after_local) → after_local ≡ 32 ∷ step → step ≡ step_text e.event
    → line ≡ entry_text e
line_is line after_thread after_local step e t l s is =
    t ∙ ap (λ (z : List ℕ). decimal e.thread ++ z) l
    ∙ ap (λ (z : List ℕ). decimal e.thread ++ (32 ∷ (decimal e.local ++ z))) s
    ∙ ap (λ (z : List ℕ). decimal e.thread ++ (32 ∷ (decimal e.local ++ (32 ∷ z)))) is
    ∙ sym (entry_parts (decimal e.thread) (decimal e.local) (step_text e.event))

pub value_is : (name : EventName) (text : List ℕ) (e : Event) → EndsEvent name text e
    → text ≡ value_text name e.value ++ sets_text e
value_is name text e ends = ends.spelled ∙ ap (λ (n : EventName). value_text n e.value ++ sets_text e) ends.called

no_length : (xs : List ℕ) → length xs ≡ 0 → xs ≡ []
no_length [] is = refl
no_length (x ∷ xs) is = absurd (omega (arith, is))

pub ends_is : (text after_value after_woken after_moved : List ℕ) (e : Event)
    → text ≡ value_text e.name e.value ++ after_value → after_value ≡ set_text (codes " woke") e.woken ++ after_woken
    → after_woken ≡ set_text (codes " moved") e.moved ++ after_moved → length after_moved ≡ 0
    → text ≡ value_text e.name e.value ++ sets_text e
ends_is text after_value after_woken after_moved e v w m none =
    let v' = value_text e.name e.value in
    let w' = set_text (codes " woke") e.woken in
    let m' = set_text (codes " moved") e.moved in
    v ∙ ap (λ (z : List ℕ). v' ++ z) w ∙ ap (λ (z : List ℕ). v' ++ (w' ++ z)) m
    ∙ ap (λ (z : List ℕ). v' ++ (w' ++ (m' ++ z))) (no_length after_moved none)
    ∙ ap (λ (z : List ℕ). v' ++ (w' ++ z)) (append-nil m')
