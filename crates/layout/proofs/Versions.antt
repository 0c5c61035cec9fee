-- What is well formed is so for an image of each version.
use Rattle.std.proofs.Common.{ℕ, List, [], ◌∷◌, Option, Some, None}
use Rattle.words.specs.declared.version.ImageVersion.{ImageVersion}
use Rattle.program.specs.declared.kinds.ValueType.{ValueType}
use Rattle.program.specs.declared.kinds.ValueType.TheVariants.{Integer, Boolean, Process}
use Rattle.program.specs.declared.kinds.Role.{Role}
use Rattle.program.specs.declared.kinds.Role.TheVariants.{Entry, Internal, Recover, External, Main}
use Rattle.program.specs.Trees.{Expression, Constant, Truth, Local, Member, Element, Unary, Both, Target, ToLocal}
use Rattle.program.specs.Trees.{ToMember, ToElement, Statement, Assign, If, While, Call, Fork, Join, Return, Wait}
use Rattle.program.specs.Trees.{Notify, Broadcast, Print, Abort, Block, Done, Then, Part, NoPart, SomePart, Procedure}
use Rattle.program.specs.Trees.{Program, as_version}
use Rattle.program.specs.Scope.{Scope, scope_of}
use Rattle.program.specs.Typing.{unary_type, HasType, TargetHasType, ArgumentsFit, ResultFits, ReturnFits, Fits}
use Rattle.program.specs.Typing.{BlockFits, PartFits}
use Rattle.program.specs.WellFormed.{RoleFits, IsProper, WellFormed}

module _ (v : ImageVersion) (s : Scope) where
  -- the same place in the program for an image of this version
  abbrev there : Scope
  there = record s { program = as_version v s.program }

  type_there : (e : Expression) (t : ValueType) → HasType s e t → HasType there e t
  type_there (Constant n) t h = h
  type_there (Truth b) t h = h
  type_there (Local slot) t h = h
  type_there (Member m) t h = h
  type_there (Element a e) t h = (h.0, type_there e Integer h.1, h.2)
  type_there (Unary op e) t h = (type_there e (unary_type op) h.0, h.1)
  type_there (Both op l r) t h = (h.0, h.1, type_there l h.0 h.2, type_there r h.0 h.3, h.4)

  target_there : (g : Target) (t : ValueType) → TargetHasType s g t → TargetHasType there g t
  target_there (ToLocal slot) t h = h
  target_there (ToMember m) t h = h
  target_there (ToElement a e) t h = (h.0, type_there e Integer h.1, h.2)

  arguments_there : (es : List Expression) (ts : List ValueType) → ArgumentsFit s es ts → ArgumentsFit there es ts
  arguments_there [] [] h = h
  arguments_there [] (t ∷ ts) h = h
  arguments_there (e ∷ es) [] h = h
  arguments_there (e ∷ es) (t ∷ ts) h = (type_there e t h.0, arguments_there es ts h.1)

  result_there : (into : Option ℕ) (t : Option ValueType) → ResultFits s into t → ResultFits there into t
  result_there None t h = h
  result_there (Some slot) None h = h
  result_there (Some slot) (Some t) h = h

  return_there : (t : Option ValueType) (e : Option Expression) → ReturnFits s t e → ReturnFits there t e
  return_there None None h = h
  return_there None (Some e) h = h
  return_there (Some t) None h = h
  return_there (Some t) (Some e) h = type_there e t h

  mutual
    fits_there : (x : Statement) → Fits s x → Fits there x
    fits_there (Assign g e) h = (h.0, target_there g h.0 h.1, type_there e h.0 h.2)
    fits_there (If e b part) h = (type_there e Boolean h.0, block_there b h.1, part_there part h.2)
    fits_there (While e b) h = (type_there e Boolean h.0, block_there b h.1)
    fits_there (Call q es into) h =
        (h.0, h.1, h.2, h.3, arguments_there es h.1.parameters h.4, result_there into h.1.result h.5)
    fits_there (Fork q es into) h = (h.0, h.1, h.2, h.3, arguments_there es h.1.parameters h.4, h.5)
    fits_there (Join e into part) h =
        (h.0, type_there e Process h.1, result_there into (Some Integer) h.2, part_there part h.3)
    fits_there (Return value) h = (h.0, return_there s.result value h.1)
    fits_there (Wait c) h = h
    fits_there (Notify c) h = h
    fits_there (Broadcast c) h = h
    fits_there (Print e) h = type_there e Integer h
    fits_there Abort h = h

    block_there : (b : Block) → BlockFits s b → BlockFits there b
    block_there Done h = h
    block_there (Then x b) h = (fits_there x h.0, block_there b h.1)

    part_there : (part : Part) → PartFits s part → PartFits there part
    part_there NoPart h = h
    part_there (SomePart b) h = block_there b h

module _ (v : ImageVersion) (p : Program) where
  role_fits : (n : ℕ) (q : Procedure) (r : Role) → RoleFits p n q r → RoleFits (as_version v p) n q r
  role_fits n q (Entry m) h = h
  role_fits n q (Internal m) h = h
  role_fits n q (Recover m) h = h
  role_fits n q External h = h
  role_fits n q Main h = h

  is_proper : (n : ℕ) (q : Procedure) → IsProper p n q → IsProper (as_version v p) n q
  is_proper n q h = record {
    role = role_fits n q q.role h.role;
    parameters = h.parameters;
    locals = h.locals;
    result = h.result;
    body = block_there v (scope_of p q) q.body h.body;
    room = h.room;
  }

  pub well_formed_as : WellFormed p → WellFormed (as_version v p)
  well_formed_as w = record {
    monitors = w.monitors;
    words = w.words;
    arrays = w.arrays;
    pieces = w.pieces;
    main = w.main;
    is_last = w.is_last;
    is_main = w.is_main;
    recovers = w.recovers;
    procedures = λ n q e. is_proper n q (w.procedures n q e);
    acyclic = record { height = w.acyclic.height; falls = w.acyclic.falls; bounded = w.acyclic.bounded };
  }
