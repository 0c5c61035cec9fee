-- What a table of names says of the names of a scope.
use Rattle.std.specs.Prelude.{◌≡◌, List, length, map, take, bytes_eq}
use Rattle.indexmap.specs.IndexMap.{get_by}
use Rattle.syntax.specs.Lexeme.{NameTree}
use Rattle.types.specs.declared.table.Table.{Table}
use Rattle.types.specs.declared.table.TheConstants.{MOST_COMPARED}
use Rattle.types.specs.Names.{number_in, text_number}
use Rattle.types.specs.Scope.{first_found}

-- it counts them, lists the first ones, and gives of each name the number of the first one that is written so: by the
-- list, or else by its hash
abbrev pub IsTable : List NameTree → Table → Type 0
IsTable names t = (length names ≡ t.count)
    × (map (λ x. x.now) t.first.items ≡ map (λ n. n.text) (take MOST_COMPARED names))
    × ((name : NameTree) → first_found (text_number (take MOST_COMPARED names) name.text)
    (get_by (λ k. bytes_eq name.text k.now) t.numbers) ≡ number_in names name)
