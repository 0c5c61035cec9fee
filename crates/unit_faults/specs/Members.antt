-- The limits of members, by the list of the members of all monitors.
use Rattle.std.specs.Prelude.{ℕ, ◌+◌, ◌<◌, ◌≡◌, List, take, Some, slice_get, Contains, sum_by, IsFalse, map, filter}
use Rattle.std.specs.Prelude.{flat_map}
use Rattle.scanner.specs.declared.token.Place.{Place}
use Rattle.syntax.specs.declared.leaf.Number.{Number}
use Rattle.syntax.specs.declared.declaration.MemberType.{MemberType}
use Rattle.syntax.specs.declared.declaration.MemberType.TheVariants.{Array}
use Rattle.syntax.specs.Lexeme.{NameTree}
use Rattle.syntax.specs.Tree.{MemberTree, MonitorTree}
use Rattle.types.specs.Judgement.{is_condition, is_size, kind_words}
use Rattle.types.specs.Limits.{most_member_words}

-- the words up to the member of this name are past the limit
abbrev pub IsPastWordsOf : List MemberTree → Place → Type 0
IsPastWordsOf ms place = (i : ℕ) × (x : MemberTree) × (slice_get ms i ≡ Some x)
    × (most_member_words < sum_by (λ y. kind_words y.kind) (take (i + 1) ms)) × (x.name.place ≡ place)

-- the number of this type at this place is no size of an array
abbrev pub IsNoSizeIn : MemberType → Place → Type 0
IsNoSizeIn kind place = (n : Number) × (kind ≡ Array n) × IsFalse (is_size n.value) × (n.place ≡ place)

-- the number of a member's type at this place is no size of an array
abbrev pub IsNoSizeOf : List MemberTree → Place → Type 0
IsNoSizeOf ms place = (x : MemberTree) × Contains ms x × (n : Number) × (x.kind ≡ Array n)
    × IsFalse (is_size n.value) × (n.place ≡ place)

-- the members of monitors
abbrev pub members_of : List MonitorTree → List MemberTree
members_of ts = flat_map (λ t. t.members) ts

-- the names of conditions among members
abbrev pub condition_names_of : List MemberTree → List NameTree
condition_names_of ms = map (λ x. x.name) (filter (λ x. is_condition x.kind) ms)
