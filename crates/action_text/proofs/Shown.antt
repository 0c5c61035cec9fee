-- The lines of actions, as they are shown and as they are written.
use Rattle.std.proofs.Common.{◌≡◌, ◌∙◌, ℕ, List, [], ◌∷◌, ◌++◌, Some, None, OnOk, Result, Ok, Err, ap, codes, refl, sym}
use Rattle.std.proofs.lemmas.List.{append-nil, append_assoc}
use Rattle.std.specs.Fmt.{decimal}
use Rattle.program.specs.Names.{Naming}
use Rattle.meaning.specs.Labels.{Action, Kind, Assign, Test, Call, Return, Print, Fork, Claim, Join, Fails, Enter}
use Rattle.meaning.specs.Labels.{Exit, Wait, Resume, Notify, Broadcast, Abandon, Finish, Stray, Kill}
use Rattle.actionlines.specs.Lines.{details, line, monitor_name, word}
use Rattle.action_text.specs.ActionText.{action_line, kind_text, last_in, last_text, numbers_text}

pub shown_kind : (names : Naming) (k : Kind) → last_in k ≡ None → kind_text names k ≡ word k ++ details names k
shown_kind names Assign none = refl
shown_kind names Test none = refl
shown_kind names Call none = refl
shown_kind names Return none = refl
shown_kind names Finish none = refl
shown_kind names (Print z) none = refl
shown_kind names (Fork child) none = refl
shown_kind names (Claim child) none = refl
shown_kind names (Join child) none = refl
shown_kind names (Fails fault) none = refl
shown_kind names (Enter m) none = refl
shown_kind names (Exit m) none = refl
shown_kind names (Resume m) none = refl
shown_kind names (Abandon m) none = refl
shown_kind names (Wait c) none = refl
shown_kind names (Stray c) none = refl
shown_kind names (Notify c resumed) none = refl
shown_kind names (Broadcast c resumed) none = refl
shown_kind names (Kill resumed None) none = ap (λ (z : List ℕ). codes "kill" ++ z) (append-nil (numbers_text resumed))
shown_kind names (Kill resumed (Some m)) none = absurd cc

-- and where a monitor is abandoned last
pub last_kind : (names : Naming) (k : Kind) (m : ℕ) → last_in k ≡ Some m
    → kind_text names k ≡ (word k ++ details names k) ++ (codes " last " ++ monitor_name names m)
last_kind names (Kill resumed last) m is =
    ap (λ o. codes "kill" ++ (numbers_text resumed ++ last_text names o)) is
    ∙ sym (append_assoc (codes "kill") (numbers_text resumed) (codes " last " ++ monitor_name names m))
last_kind names other m is = absurd cc

regrouped : (d s w t n : List ℕ) → (d ++ (s ++ (w ++ t))) ++ n ≡ (((d ++ s) ++ w) ++ t) ++ n
regrouped d s w t n = simp append_assoc

-- the line of an action as it is shown
pub shown_line : (names : Naming) (a : Action) → last_in a.kind ≡ None → action_line names a ≡ line names a
shown_line names a none =
    ap (λ (z : List ℕ). (decimal a.process ++ (codes " " ++ z)) ++ codes "\n") (shown_kind names a.kind none)
    ∙ regrouped (decimal a.process) (codes " ") (word a.kind) (details names a.kind) (codes "\n")

-- the same without its end
abbrev pub shown : Naming → Action → List ℕ
shown names a = decimal a.process ++ (codes " " ++ (word a.kind ++ details names a.kind))

pub shown_end : (names : Naming) (a : Action) (old new : List ℕ) → new ≡ old ++ line names a
    → new ≡ (old ++ shown names a) ++ 10 ∷ []
shown_end names a old new is =
    is ∙ ap (λ (z : List ℕ). old ++ z)
    (sym (regrouped (decimal a.process) (codes " ") (word a.kind) (details names a.kind) (codes "\n")))
    ∙ sym (append_assoc old (shown names a) (codes "\n"))

apart : (o d s x l m n : List ℕ) → (((o ++ (d ++ (s ++ x))) ++ l) ++ m) ++ n ≡ o ++ ((d ++ (s ++ (x ++ (l ++ m)))) ++ n)
apart o d s x l m n = simp append_assoc

pub last_line : (names : Naming) (a : Action) (m : ℕ) (old : List ℕ) → last_in a.kind ≡ Some m
    → (((old ++ shown names a) ++ codes " last ") ++ monitor_name names m) ++ codes "\n" ≡ old ++ action_line names a
last_line names a m old is =
    apart old (decimal a.process) (codes " ") (word a.kind ++ details names a.kind) (codes " last ")
    (monitor_name names m) (codes "\n")
    ∙ ap (λ (z : List ℕ). old ++ ((decimal a.process ++ (codes " " ++ z)) ++ codes "\n"))
    (sym (last_kind names a.kind m is))

-- what holds where a call is Ok holds in other words
pub ok_so : {A E : Type 0} (r : Result A E) (P Q : Type 0) → (P → Q) → OnOk r P → OnOk r Q
ok_so (Ok x) P Q on h = on h
ok_so (Err e) P Q on h = tt
