-- The threads of the workers behind the first.
use Rattle.std.specs.Prelude.{◌≡◌, ℕ, List, Result, Vec}
use Rattle.std.specs.Global.{Global}
use Rattle.std.specs.declared.thread.PromisedHandle.{PromisedHandle}
use Rattle.scanner.specs.declared.refusal.Refusal.{Refusal}
use Rattle.words.specs.declared.version.ImageVersion.{ImageVersion}
use Rattle.program.specs.declared.unit.Program.{Program}
use Rattle.codegen.specs.declared.code_piece.CodePiece.{CodePiece}
use Rattle.codegen_workers.specs.Shares.{EachFrom}
use Rattle.codegen_workers.specs.declared.share.ShareOf.{ShareOf}

-- the thread's promise is that of this worker
pub record IsHandleOf (program : Program) (version : ImageVersion) (workers worker : ℕ)
    (handle : PromisedHandle (Result (Vec CodePiece Global) Refusal) ShareOf) : Type 0 where
  pub program_is : handle.promise.program.now ≡ program
  pub version_is : handle.promise.layout.now.version ≡ version
  pub workers_are : handle.promise.workers ≡ workers
  pub worker_is : handle.promise.worker ≡ worker

-- the threads of the workers from this one on, one after the other
abbrev pub AreHandles : Program → ImageVersion → ℕ → ℕ
    → List (PromisedHandle (Result (Vec CodePiece Global) Refusal) ShareOf) → Type 0
AreHandles program version workers = EachFrom (IsHandleOf program version workers)
