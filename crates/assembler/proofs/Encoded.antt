-- Images that bytes can spell.
use Rattle.std.proofs.Common.{◌≡◌, ◌∙◌, List, ℕ, Option, Some, None, Result, Ok, Err, IfOk, IfSome, MatchResult, sym, subst}
use Rattle.isa.specs.declared.instr.Instr.{Instr}
use Rattle.isa.specs.Programs.{Program}
use Rattle.assembler.specs.Listings.{IsAssembled, IsEncoded, IsListing, plain}
use Rattle.assembler.specs.Refusals.{out_of_memory}
use Rattle.assembler.specs.declared.assembling.Assembled.{Assembled}
use Rattle.assembler.specs.declared.refusal.AssemblyRefusal.{AssemblyRefusal}
use Rattle.assembler.proofs.Shown.{none_some, some_is}

-- the same image
encoded_so : (o : Option Program) (image : Program) → IsEncoded image → IfSome o (λ i. i ≡ image) → IfSome o IsEncoded
encoded_so (Some i) image h is = subst IsEncoded (sym is) h
encoded_so None image h is = tt

pub encoded_again : {E : Type 0} (r : Result (Option Program) E) (image : Program) → IsEncoded image
    → IfOk r (λ o. IfSome o (λ i. i ≡ image)) → IfOk r (λ o. IfSome o IsEncoded)
encoded_again (Ok o) image h own = encoded_so o image h own
encoded_again (Err e) image h own = tt

-- that of a listing
pub listed_so : (r : Result Assembled AssemblyRefusal) (text : List ℕ) (found : Option Program) (image : Program)
    → found ≡ Some image → IfSome found IsEncoded
    → ((code : List Instr) → IsListing text code → found ≡ Some (plain code))
    → MatchResult r (λ a. a.image ≡ image) (λ e. e ≡ out_of_memory) → IfOk r (λ a. IsAssembled text a.image)
listed_so (Ok a) text found image is encoded listing same =
    subst (λ (i : Program). IsAssembled text i) (sym same)
    (record {
      encoded = subst (λ (o : Option Program). IfSome o IsEncoded) is encoded;
      listing = λ code shows. some_is image (plain code) (sym is ∙ listing code shows);
    })
listed_so (Err e) text found image is encoded listing same = tt

-- and that of another text
pub read_so : (r : Result Assembled AssemblyRefusal) (text : List ℕ) (found : Option Program) → found ≡ None
    → ((code : List Instr) → IsListing text code → found ≡ Some (plain code)) → IfOk r (λ a. IsEncoded a.image)
    → IfOk r (λ a. IsAssembled text a.image)
read_so (Ok a) text found is listing encoded = record {
  encoded = encoded;
  listing = λ code shows. absurd (none_some (plain code) (sym is ∙ listing code shows));
}
read_so (Err e) text found is listing encoded = tt
