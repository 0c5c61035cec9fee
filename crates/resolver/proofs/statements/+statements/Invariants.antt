use Rattle.std.proofs.Common.{◌≡◌, ◌&&◌, drop}
use Rattle.program.specs.Views as p
use Rattle.syntax.specs.View as v
use Rattle.types.specs.CallFaults.{block_faults}
use Rattle.types.specs.Scope.{Scope}
use Rattle.types.specs.Statements as st
use Rattle.resolver.specs.Clean.{is_clean}
use Rattle.resolver.specs.Sites.{IsSite}
use Rattle.resolver.proofs.statements.+statements.Given as goal

-- what was resolved, in front of what those that are left are resolved to, is the whole block; and the whole is clean
-- where they and what was resolved are
abbrev pub invariant-block-loop-tree : goal.invariant-block-loop-tree
invariant-block-loop-tree l = (s : Scope) → IsSite s l.site
    → (p.block_before l.statements.items (st.block s (v.statements_in (drop l.tree-index l.trees)))
    ≡ st.block s (v.statements_in l.trees))
    × (is_clean (block_faults s (v.statements_in l.trees))
    ≡ (l.is_clean && is_clean (block_faults s (v.statements_in (drop l.tree-index l.trees)))))
