-- Faults that a part hands on to the whole.
use Rattle.std.proofs.Common.{◌≡◌, ◌≢◌, Result, Ok, Err, IfErr, sym, subst}
use Rattle.std.specs.Prelude.{IsErrAnd}
use Rattle.vm_runner.specs.declared.fault.RunFault.{RunFault}
use Rattle.vm_runner.specs.declared.fault.RunFault.TheVariants.{Memory}

-- what is said of a fault, unless it is want of memory, is said of the answer that hands it on
pub handed_on : {X R : Type 0} (whole : Result R RunFault) (result : Result X RunFault) (fault : RunFault) → IsErrAnd result (λ e. e ≡ fault) → (fault ≢ Memory → whole ≡ Err fault) → IfErr result (λ f. f ≢ Memory → whole ≡ Err f)
handed_on whole (Ok x) fault ended told = absurd ended
handed_on whole (Err e) fault ended told = subst (λ f. f ≢ Memory → whole ≡ Err f) (sym ended) told
