use Rattle.std.proofs.Common.{◌≡◌, ap, sym, ◌∙◌}
use Rattle.std.proofs.lemmas.Bool.Decides.{Decides-and, Decides-eqb, Decides-int_eq, Decides-like}
use Rattle.sorted_map.proofs.Entries.{same_entries}
use Rattle.std.specs.Bool.{Decides}
use Rattle.std.specs.BTreeMap.{is_at}
use Rattle.std.specs.Map.{lookup}
use Rattle.meaning.specs.Values.{or_zero}
use Rattle.source_offers.specs.Stores.{place_cmp}
use Rattle.source_offers.specs.declared.variables.Place.{Place}
use Rattle.source_offers.specs.contracts.variables.PlacePartialEq as place
use Rattle.source_offers.proofs.variables.Variables.is_same.Goals as goal

same_parts : (a b : Place) → (a.monitor ≡ b.monitor) × ((a.member ≡ b.member) × (a.index ≡ b.index)) → a ≡ b
same_parts a b h = λ i. record { monitor = h.0 i; member = h.1.0 i; index = h.1.1 i }

same_place : (a b : Place) → Decides (place.TheImpl.ghosts.eq a b) (a ≡ b)
same_place a b =
    Decides-like _ (same_parts a b) (λ e. (ap (λ (p : Place). p.monitor) e, (ap (λ (p : Place). p.member) e, ap (λ (p : Place). p.index) e)))
    (Decides-and _ _ (Decides-eqb a.monitor b.monitor)
    (Decides-and _ _ (Decides-eqb a.member b.member) (Decides-eqb a.index b.index)))

pub returns : goal.returns
returns c = λ same.
    ap (λ es m n i. or_zero (lookup (is_at (place_cmp (record { monitor = m; member = n; index = i }))) es))
    (same_entries (λ a b. (same_place a b).0) (λ a b. (Decides-int_eq a b).0) c.args.self.now.values
    c.args.other.now.values (sym c.eq.ensures ∙ same))
