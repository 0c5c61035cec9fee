use Rattle.std.proofs.Common.{◌≡◌, ◌≤◌, ◌<◌, ◌∙◌, ◌∷◌, [], ◌++◌, ◌+◌, ap, sym, subst, cond, take, map, Some, not}
use Rattle.std.proofs.Common.{is_some, refl}
use Rattle.std.proofs.Common.{length, length-append, bytes_eq, arith}
use Rattle.std.proofs.lemmas.List.{take-append-le}
use Rattle.std.proofs.lemmas.Map.Text.{hash_map_updates_str}
use Rattle.indexmap.specs.IndexMap.{get_by}
use Rattle.syntax.specs.View.{name_of}
use Rattle.types.specs.declared.table.Table.{Table}
use Rattle.types.specs.declared.table.TheConstants.{MOST_COMPARED}
use Rattle.types.specs.Names.{text_number}
use Rattle.types.specs.Scope.{first_found}
use Rattle.types.specs.Tables.{IsTable}
use Rattle.types.proofs.Compared.{texts_more, texts_same, listed, later}
use Rattle.types.proofs.Numbers.{alike, number_fresh, number_again, none_there}
use Rattle.types.proofs.table.Table.declare.Goals.{then-self-lt-MOST_COMPARED+in_ok-push}
use Rattle.types.proofs.table.Table.declare.Goals.{else-self-lt-MOST_COMPARED+then-fresh+in_ok-insert}
use Rattle.types.proofs.table.Table.declare.Goals.{else-self-lt-MOST_COMPARED+else-fresh}
use Rattle.types.proofs.table.Table.declare.Goals as goal

pub returns-clause-declared : goal.returns-clause-declared
returns-clause-declared c names h =
    let x = name_of c.args.name in
    let all = names ++ x ∷ [] in
    let old = c.args.self.now in
    let after : Table → Type 0 =
    λ t. IsTable all (record { first = t.first; numbers = t.numbers; count = t.count + 1 }) in
    let known : is_some (text_number names x.text) ≡ not c.is_none-fresh.result =
    ap is_some (sym (c.find.ensures names h)) ∙ c.is_none-fresh.ensures in
    elim c.if-self-lt-MOST_COMPARED.branch [
      | then-self-lt-MOST_COMPARED+in_ok-push w ↦
          let few : length names < MOST_COMPARED =
          subst (λ k. k < MOST_COMPARED) (sym h.0) w.if-self-lt-MOST_COMPARED.true in
          subst after (sym w.self-is) (
            grind (arith, length-append),
            ap (map (λ y. y.now)) w.in_ok-push.ensures.items
                ∙ texts_more names x old.first.items c.args.name.text MOST_COMPARED few refl h.1,
            λ n. listed names x n.text (get_by (λ k. bytes_eq n.text k.now) old.numbers) MOST_COMPARED few (h.2 n),
          )
      | else-self-lt-MOST_COMPARED+then-fresh+in_ok-insert w ↦
          let many : MOST_COMPARED ≤ length names =
          subst (λ k. MOST_COMPARED ≤ k) (sym h.0) w.if-self-lt-MOST_COMPARED.false in
          let absent = none_there (text_number names x.text) (known ∙ ap not w.if-fresh.true) in
          subst after (sym w.self-is) (
            grind (arith, length-append),
            texts_same names x old.first.items MOST_COMPARED many h.1,
            λ n.
                ap (λ ns. first_found (text_number ns n.text) (get_by (λ k. bytes_eq n.text k.now) w.insert.new.self))
                (take-append-le MOST_COMPARED names (x ∷ []) many)
                ∙ ap (first_found (text_number (take MOST_COMPARED names) n.text))
                (hash_map_updates_str x.text old.numbers w.insert.new.self _ w.in_ok-insert.ensures.updates n.text)
                ∙ later (bytes_eq x.text n.text) (text_number (take MOST_COMPARED names) n.text)
                (get_by (λ k. bytes_eq n.text k.now) old.numbers) old.count
                (λ e. h.2 n ∙ sym (alike names x.text n.text e) ∙ absent)
                ∙ ap (λ o. cond (bytes_eq x.text n.text) (Some old.count) o) (h.2 n)
                ∙ ap (λ k. cond (bytes_eq x.text n.text) (Some k) (text_number names n.text)) (sym h.0)
                ∙ number_fresh names x n.text absent,
          )
      | else-self-lt-MOST_COMPARED+else-fresh w ↦
          let many : MOST_COMPARED ≤ length names =
          subst (λ k. MOST_COMPARED ≤ k) (sym h.0) w.if-self-lt-MOST_COMPARED.false in
          subst after (sym w.self-is) (
            grind (arith, length-append),
            texts_same names x old.first.items MOST_COMPARED many h.1,
            λ n.
                ap (λ ns. first_found (text_number ns n.text) (get_by (λ k. bytes_eq n.text k.now) old.numbers))
                (take-append-le MOST_COMPARED names (x ∷ []) many)
                ∙ h.2 n ∙ number_again names x n.text (known ∙ ap not w.if-fresh.false),
          )
    ]
