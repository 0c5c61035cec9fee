-- Texts that are those of no action of a form.
use Rattle.std.proofs.Common.{◌≡◌, ◌≢◌, ◌∙◌, ℕ, ℤ, List, [], ◌++◌, true, false, ap, codes, refl, sym}
use Rattle.std.specs.Prelude.{⊤, FitsSigned}
use Rattle.std.specs.Fmt.{decimal, signed_decimal}
use Rattle.std.specs.Int.{w32}
use Rattle.std.proofs.lemmas.List.{append-nil}
use Rattle.std.proofs.lemmas.List.Elements.{All-nil}
use Rattle.words.specs.Outcomes.{fault_number}
use Rattle.words.specs.declared.outcome.Fault.{Fault}
use Rattle.program.specs.Names.{Naming}
use Rattle.program.specs.declared.kinds.Member.{Member}
use Rattle.meaning.specs.Labels.{Assign, Test, Call, Return, Print, Fork, Claim, Join, Fails, Enter}
use Rattle.meaning.specs.Labels.{Exit, Wait, Resume, Notify, Broadcast, Abandon, Finish, Stray, Kill}
use Rattle.actionlines.specs.Lines.{condition_name, monitor_name}
use Rattle.action_text.specs.ActionText.{numbers_text}
use Rattle.action_text.specs.Reading.{IsCondition, IsNoKind}
use Rattle.action_text.specs.Sized.{HasMonitor, HasNumber, IsNumber, IsOfCondition, IsOfKill, IsOfMonitor, IsPlain}

module _ (names : Naming) (text : List ℕ) where
  pub no_plain : text ≢ codes "assign" → text ≢ codes "test" → text ≢ codes "call" → text ≢ codes "return"
      → text ≢ codes "end" → IsNoKind IsPlain names text
  no_plain a t c r e Assign of small = a
  no_plain a t c r e Test of small = t
  no_plain a t c r e Call of small = c
  no_plain a t c r e Return of small = r
  no_plain a t c r e Finish of small = e
  no_plain a t c r e other of small = absurd of

  -- no number stands behind this word
  abbrev pub NoNumberAfter : List ℕ → Type 0
  NoNumberAfter word = (n : ℕ) → IsNumber n → text ≢ word ++ decimal n

  pub no_number : ((z : ℤ) → FitsSigned w32 z → text ≢ codes "print " ++ signed_decimal z)
      → ((fault : Fault) → text ≢ codes "fault " ++ decimal (fault_number fault)) → NoNumberAfter (codes "fork ")
      → NoNumberAfter (codes "claim ") → NoNumberAfter (codes "join ") → IsNoKind HasNumber names text
  no_number p f k c j (Print z) of small = p z small
  no_number p f k c j (Fails fault) of small = f fault
  no_number p f k c j (Fork child) of small = k child small
  no_number p f k c j (Claim child) of small = c child small
  no_number p f k c j (Join child) of small = j child small
  no_number p f k c j other of small = absurd of

  -- no monitor does
  abbrev pub NoMonitorAfter : List ℕ → Type 0
  NoMonitorAfter word = (m : ℕ) → HasMonitor names m → text ≢ word ++ monitor_name names m

  pub no_monitor : NoMonitorAfter (codes "enter ") → NoMonitorAfter (codes "exit ") → NoMonitorAfter (codes "resume ")
      → NoMonitorAfter (codes "abandon ") → IsNoKind IsOfMonitor names text
  no_monitor e x r a (Enter m) of small = e m small
  no_monitor e x r a (Exit m) of small = x m small
  no_monitor e x r a (Resume m) of small = r m small
  no_monitor e x r a (Abandon m) of small = a m small
  no_monitor e x r a other of small = absurd of

  -- the condition alone
  pub alone_so : (word : List ℕ) (c : Member) (ns : List ℕ) → IsCondition names word true text c ns
      → text ≡ word ++ condition_name names c
  alone_so word c ns h =
      h.3 ∙ ap (λ (xs : List ℕ). word ++ (condition_name names c ++ numbers_text xs)) (h.2 refl)
      ∙ ap (λ (z : List ℕ). word ++ z) (append-nil (condition_name names c))

  pub no_condition : ((c : Member) (ns : List ℕ) → IsCondition names (codes "wait ") true text c ns → ⊥)
      → ((c : Member) (ns : List ℕ) → IsCondition names (codes "stray ") true text c ns → ⊥)
      → ((c : Member) (ns : List ℕ) → IsCondition names (codes "notify ") false text c ns → ⊥)
      → ((c : Member) (ns : List ℕ) → IsCondition names (codes "broadcast ") false text c ns → ⊥)
      → IsNoKind IsOfCondition names text
  no_condition w s n b (Wait c) of small = λ is.
      w c []
      (small, All-nil IsNumber, (λ e. refl), is ∙ ap (λ (z : List ℕ). codes "wait " ++ z) (sym (append-nil (condition_name names c))))
  no_condition w s n b (Stray c) of small = λ is.
      s c []
      (small, All-nil IsNumber, (λ e. refl), is ∙ ap (λ (z : List ℕ). codes "stray " ++ z) (sym (append-nil (condition_name names c))))
  no_condition w s n b (Notify c resumed) of small = λ is. n c resumed (small.0, small.1, (λ e. absurd cc), is)
  no_condition w s n b (Broadcast c resumed) of small = λ is. b c resumed (small.0, small.1, (λ e. absurd cc), is)
  no_condition w s n b other of small = absurd of

  -- of each form there is none
  pub no_kind : IsNoKind IsPlain names text → IsNoKind HasNumber names text → IsNoKind IsOfMonitor names text
      → IsNoKind IsOfCondition names text → IsNoKind IsOfKill names text → IsNoKind (λ k. ⊤) names text
  no_kind p n m c k Assign of small = p Assign tt small
  no_kind p n m c k Test of small = p Test tt small
  no_kind p n m c k Call of small = p Call tt small
  no_kind p n m c k Return of small = p Return tt small
  no_kind p n m c k Finish of small = p Finish tt small
  no_kind p n m c k (Print z) of small = n (Print z) tt small
  no_kind p n m c k (Fork child) of small = n (Fork child) tt small
  no_kind p n m c k (Claim child) of small = n (Claim child) tt small
  no_kind p n m c k (Join child) of small = n (Join child) tt small
  no_kind p n m c k (Fails fault) of small = n (Fails fault) tt small
  no_kind p n m c k (Enter x) of small = m (Enter x) tt small
  no_kind p n m c k (Exit x) of small = m (Exit x) tt small
  no_kind p n m c k (Resume x) of small = m (Resume x) tt small
  no_kind p n m c k (Abandon x) of small = m (Abandon x) tt small
  no_kind p n m c k (Wait x) of small = c (Wait x) tt small
  no_kind p n m c k (Stray x) of small = c (Stray x) tt small
  no_kind p n m c k (Notify x resumed) of small = c (Notify x resumed) tt small
  no_kind p n m c k (Broadcast x resumed) of small = c (Broadcast x resumed) tt small
  no_kind p n m c k (Kill resumed last) of small = k (Kill resumed last) tt small
