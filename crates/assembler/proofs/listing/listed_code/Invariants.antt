use Rattle.std.proofs.Common.{◌≡◌, ◌++◌, List, length}
use Rattle.std.specs.List.{AllByRecursion}
use Rattle.isa.specs.Lines.{lines}
use Rattle.isa.specs.declared.instr.Instr.{Instr}
use Rattle.assembler.specs.Listings.{IsShown}
use Rattle.assembler.proofs.listing.listed_code.Given as goal

abbrev pub invariant-lines : goal.invariant-lines
invariant-lines l = record {
  place : l.place ≡ length l.code.items;
  left : (c : List Instr) → AllByRecursion IsShown c → l.text ≡ lines 0 c
      → (more : List Instr) × (c ≡ l.code.items ++ more) × (l.rest ≡ lines l.place more);
}

abbrev pub decreases-lines : goal.decreases-lines
decreases-lines l = length l.rest
