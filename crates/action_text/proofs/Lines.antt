-- Lines of actions, and texts that have none.
use Rattle.std.proofs.Common.{◌≡◌, ◌<◌, ℕ, List, [], ◌∷◌, ◌++◌, length, drop}
use Rattle.std.proofs.Common.{refl, ap, sym, ◌∙◌, subst, arith, length-append}
use Rattle.std.proofs.Common.{Bool, false, Result, Ok, Err, is_ok, is_err, if◌then◌else◌, map}
use Rattle.std.proofs.lemmas.List.{map-append}
use Rattle.source_states.specs.Actions.{action_of}
use Rattle.source_states.specs.declared.action.Action.{Action as ActionOf}
use Rattle.std.specs.List.{All}
use Rattle.std.proofs.lemmas.List.{append-nil, append_assoc}
use Rattle.std.proofs.lemmas.List.Elements.{All-append, All-cons, All-nil, All-head, All-tail}
use Rattle.std.proofs.lemmas.Grind.{flat_map-append}
use Rattle.program.specs.Names.{Naming}
use Rattle.meaning.specs.Labels.{Action}
use Rattle.log_text.specs.Cuts.{AtByte, NoByte}
use Rattle.log_text.proofs.Cutting.{cut_once}
use Rattle.action_text.specs.ActionText.{action_line, action_text, run_lines}
use Rattle.action_text.specs.Reading.{IsActionsText, IsBadLine, IsNoText, NoLine}
use Rattle.action_text.specs.Sized.{IsReadable, IsSized}

module _ (names : Naming) where
  -- what is cut off at a line feed is the line of the action that stands there
  line_there : (rest front tail : List ℕ) (a : Action) (later : List ℕ) → rest ≡ front ++ tail → NoByte 10 front
      → AtByte 10 tail → IsReadable names a → rest ≡ action_line names a ++ later
      → (front ≡ action_text names a) × (tail ≡ 10 ∷ later)
  line_there rest front tail a later whole none at readable is =
      cut_once 10 front (action_text names a) tail (10 ∷ later) none readable.1 at refl
      (sym whole ∙ is ∙ append_assoc (action_text names a) (10 ∷ []) later)

  pub no_end : (rest front tail : List ℕ) → rest ≡ front ++ tail → NoByte 10 front → AtByte 10 tail → length tail ≡ 0
      → NoLine names rest
  no_end rest front tail whole none at empty a later readable is =
      let there = line_there rest front tail a later whole none at readable is in
      let l : length tail ≡ length (10 ∷ later) = ap length there.1 in
      absurd (omega (arith, l, empty))

  pub no_action : (rest front tail : List ℕ) → rest ≡ front ++ tail → NoByte 10 front → AtByte 10 tail
      → IsNoText names front → NoLine names rest
  no_action rest front tail whole none at never a later readable is =
      never a readable.0 (line_there rest front tail a later whole none at readable is).0

  after_end : (tail : List ℕ) → AtByte 10 tail → 0 < length tail → tail ≡ 10 ∷ drop 1 tail
  after_end [] at some = absurd (omega (arith, some))
  after_end (x ∷ xs) at some = λ i. at i ∷ xs

  -- one line more
  pub line_more : (text : List ℕ) (run run' : List Action) (rest front tail : List ℕ) (a : Action)
      → text ≡ run_lines names run ++ rest → rest ≡ front ++ tail → AtByte 10 tail → 0 < length tail
      → front ≡ action_text names a → run' ≡ run ++ a ∷ [] → text ≡ run_lines names run' ++ drop 1 tail
  line_more text run run' rest front tail a sum whole at some is grows =
      let more : run_lines names run' ≡ run_lines names run ++ action_line names a =
      ap (run_lines names) grows ∙ flat_map-append (action_line names) run (a ∷ [])
      ∙ ap (λ xs. run_lines names run ++ xs) (append-nil (action_line names a)) in
      let line : rest ≡ action_line names a ++ drop 1 tail =
      whole ∙ (λ i. is i ++ after_end tail at some i) ∙ sym (append_assoc (action_text names a) (10 ∷ []) (drop 1 tail)) in
      sum ∙ ap (λ xs. run_lines names run ++ xs) line
      ∙ sym (append_assoc (run_lines names run) (action_line names a) (drop 1 tail))
      ∙ ap (λ xs. xs ++ drop 1 tail) (sym more)

  pub readable_more : (run run' : List Action) (front : List ℕ) (a : Action) → All (IsReadable names) run
      → IsSized names a → NoByte 10 front → front ≡ action_text names a → run' ≡ run ++ a ∷ []
      → All (IsReadable names) run'
  readable_more run run' front a all sized none is grows =
      let one : IsReadable names a = (sized, subst (NoByte 10) is none) in
      subst (All (IsReadable names)) (sym grows)
      (All-append (IsReadable names) run (a ∷ []) all
      (All-cons (IsReadable names) a [] one (All-nil (IsReadable names))))

  no_lines : (a : Action) (later : List ℕ) → [] ≡ action_line names a ++ later → ⊥
  no_lines a later is =
      let l : 0 ≡ length ((action_text names a ++ (10 ∷ [])) ++ later) = ap length is in
      let sum = length-append (action_text names a ++ (10 ∷ [])) later in
      let end = length-append (action_text names a) (10 ∷ []) in
      absurd (omega (arith, l, sum, end))

  first_line : (a b : Action) (r s : List ℕ) → IsReadable names a → IsReadable names b
      → action_line names a ++ r ≡ action_line names b ++ s → r ≡ s
  first_line a b r s is is' e =
      let both = cut_once 10 (action_text names a) (action_text names b) (10 ∷ r) (10 ∷ s) is.1 is'.1 refl refl
      (sym (append_assoc (action_text names a) (10 ∷ []) r) ∙ e ∙ append_assoc (action_text names b) (10 ∷ []) s) in
      ap (drop 1) both.1

  no_bad : (before run : List Action) (rest : List ℕ) → All (IsReadable names) before → All (IsReadable names) run
      → run_lines names before ++ rest ≡ run_lines names run → 0 < length rest → NoLine names rest → ⊥
  no_bad [] [] rest all all' e more none =
      let l : length rest ≡ 0 = ap length e in
      absurd (omega (arith, l, more))
  no_bad [] (y ∷ ys) rest all all' e more none =
      none y (run_lines names ys) (All-head (IsReadable names) y ys all') e
  no_bad (x ∷ xs) [] rest all all' e more none =
      no_lines x (run_lines names xs ++ rest) (sym e ∙ append_assoc (action_line names x) (run_lines names xs) rest)
  no_bad (x ∷ xs) (y ∷ ys) rest all all' e more none =
      let left = first_line x y (run_lines names xs ++ rest) (run_lines names ys)
      (All-head (IsReadable names) x xs all) (All-head (IsReadable names) y ys all')
      (sym (append_assoc (action_line names x) (run_lines names xs) rest) ∙ e) in
      no_bad xs ys rest (All-tail (IsReadable names) x xs all) (All-tail (IsReadable names) y ys all') left more none

  -- lines of actions have no bad one
  pub no_bad_line : (text : List ℕ) (run : List Action) (number : ℕ) → IsActionsText names text run
      → IsBadLine names text number → ⊥
  no_bad_line text run number is bad =
      no_bad bad.before run bad.rest bad.readable is.readable (sym bad.cut ∙ sym is.lines) bad.more bad.none

  no_length : (xs : List ℕ) → length xs ≡ 0 → xs ≡ []
  no_length [] is = refl
  no_length (x ∷ xs) is = absurd (omega (arith, is))

  -- a text that is read to its end
  pub read_whole : (text rest : List ℕ) (run : List Action) → text ≡ run_lines names run ++ rest → length rest ≡ 0
      → run_lines names run ≡ text
  read_whole text rest run whole none =
      sym (append-nil (run_lines names run)) ∙ ap (λ (z : List ℕ). run_lines names run ++ z) (sym (no_length rest none))
      ∙ sym whole

-- an action that was pushed stands at the end
pub pushed : {X A E : Type 0} (r : Result A E) (b : Bool) (new old : List X) (x : X) → b ≡ is_err r → b ≡ false
    → new ≡ (if is_ok r then old ++ x ∷ [] else old) → new ≡ old ++ x ∷ []
pushed (Ok y) b new old x is ended items = items
pushed (Err y) b new old x is ended items = absurd cc

pub run_grows : (old new : List ActionOf) (a : ActionOf) → new ≡ old ++ a ∷ []
    → map action_of new ≡ map action_of old ++ action_of a ∷ []
run_grows old new a grows = ap (map action_of) grows ∙ map-append action_of old (a ∷ [])
