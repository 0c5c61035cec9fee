-- What `==` says of the parts of a table.
use Rattle.std.proofs.Common.{◌≡◌, ◌&&◌, ◌==◌, Bool, true, false, refl, ap, rules}
use Rattle.std.proofs.lemmas.Bool.Decides.{Decides-eqb, Decides-int_eq}
use Rattle.words.specs.declared.outcome.Fault.{Fault}
use Rattle.words.specs.contracts.outcome.FaultPartialEq as fault
use Rattle.words.specs.declared.outcome.Cause.{Cause}
use Rattle.words.specs.declared.outcome.Cause.TheVariants.{Faulted, Killed}
use Rattle.source_offers.specs.declared.process.End.{End}
use Rattle.source_offers.specs.declared.process.End.TheVariants.{Ended, Aborted}
use Rattle.words.specs.contracts.outcome.CausePartialEq as cause
use Rattle.words.specs.declared.version.ImageVersion.{ImageVersion}
use Rattle.words.specs.contracts.version.ImageVersionPartialEq as version
use Rattle.words.specs.Versions.{most_of}
use Rattle.source_offers.specs.contracts.process.EndPartialEq as end
use Rattle.sorted_map.proofs.Entries.{same_entries}
use Rattle.source_table.specs.declared.table.Hold.{Hold}
use Rattle.source_table.specs.declared.table.Hold.TheVariants.{Free, Abandoned, HeldBy}
use Rattle.source_table.specs.contracts.table.HoldPartialEq as hold
use Rattle.source_table.proofs.Listing.{decides_member}
use Rattle.source_table.specs.declared.table.Table.{Table as TableOf}
use Rattle.source_table.specs.contracts.table.TablePartialEq as table
use Rattle.source_table.specs.Tables.{table_of, or_free}
use Rattle.source_offers.specs.Stages.{end_of}
use Rattle.std.specs.BTreeMap.{is_at}
use Rattle.std.specs.Map.{lookup}
use Rattle.std.specs.Ordering.{nat_cmp}
use Rattle.std.specs.Prelude.{ℕ, is_some, option_map}

pub and_true : (a b : Bool) → (a && b) ≡ true → (a ≡ true) × (b ≡ true)
and_true true b e = (refl, e)
and_true false b e = absurd (cc)

pub same_fault : (a b : Fault) → fault.TheImpl.ghosts.eq a b ≡ true → a ≡ b
same_fault a b e = search rules

same_cause : (a b : Cause) → cause.TheImpl.ghosts.eq a b ≡ true → a ≡ b
same_cause (Faulted f) (Faulted g) e = ap Faulted (same_fault f g e)
same_cause (Faulted f) Killed e = absurd (cc)
same_cause Killed (Faulted g) e = absurd (cc)
same_cause Killed Killed e = refl

pub same_end : (a b : End) → end.TheImpl.ghosts.eq a b ≡ true → a ≡ b
same_end (Ended y) (Ended z) e = ap Ended ((Decides-int_eq y z).0 e)
same_end (Ended y) (Aborted z) e = absurd (cc)
same_end (Aborted y) (Ended z) e = absurd (cc)
same_end (Aborted y) (Aborted z) e = ap Aborted (same_cause y z e)

same_version : (a b : ImageVersion) → version.TheImpl.ghosts.eq a b ≡ true → a ≡ b
same_version a b e = search rules

pub same_hold : (a b : Hold) → hold.TheImpl.ghosts.eq a b ≡ true → a ≡ b
same_hold Free Free e = refl
same_hold Free Abandoned e = absurd (cc)
same_hold Free (HeldBy q) e = absurd (cc)
same_hold Abandoned Free e = absurd (cc)
same_hold Abandoned Abandoned e = refl
same_hold Abandoned (HeldBy q) e = absurd (cc)
same_hold (HeldBy p) Free e = absurd (cc)
same_hold (HeldBy p) Abandoned e = absurd (cc)
same_hold (HeldBy p) (HeldBy q) e = ap HeldBy ((Decides-eqb p q).0 e)

same_number : (a b : ℕ) → (a == b) ≡ true → a ≡ b
same_number a b = (Decides-eqb a b).0

pub same_table : (s t : TableOf) → table.TheImpl.ghosts.eq s t ≡ true → table_of s ≡ table_of t
same_table s t e =
    let v = and_true _ _ e in
    let h = and_true _ _ v.1 in
    let w = and_true _ _ h.1 in
    let l = and_true _ _ w.1 in
    let m = and_true _ _ l.1 in
    let version = same_version s.version t.version v.0 in
    let holds = same_entries same_number same_hold s.holds t.holds h.0 in
    let waits = same_entries same_number (λ a b. (decides_member a b).0) s.waits t.waits w.0 in
    let claimed = same_entries same_number (λ a b same. refl) s.claimed t.claimed l.0 in
    let made = same_number s.made t.made m.0 in
    let over = same_entries same_number same_end s.over t.over m.1 in
    λ i. record {
      most = most_of (version i);
      hold = λ n. or_free (lookup (is_at (nat_cmp n)) (holds i));
      waits = λ q. lookup (is_at (nat_cmp q)) (waits i);
      claimed = λ q. is_some (lookup (is_at (nat_cmp q)) (claimed i));
      made = made i;
      over = λ q. option_map end_of (lookup (is_at (nat_cmp q)) (over i));
    }
