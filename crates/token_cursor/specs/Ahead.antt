-- What a parser has before it.
use Rattle.std.specs.Prelude.{List}
use Rattle.grammar.specs.Machine.{Item, items_of}
use Rattle.token_cursor.specs.declared.parser.Parser.{Parser}

-- the items that are still to come
abbrev pub ahead : Parser → List Item
ahead p = items_of p.rest.now
