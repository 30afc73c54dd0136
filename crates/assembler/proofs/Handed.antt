-- A fault that is handed on says what it said where it was found.
use Rattle.std.proofs.Common.{Result, Ok, Err, sym, subst}
use Rattle.std.specs.Prelude.{◌≡◌, IfErr, IsErrAnd}
use Rattle.assembler.specs.declared.fault.AsmFault.{AsmFault}

pub handed_on : {X : Type 0} (Tells : AsmFault → Type 0) (result : Result X AsmFault) (fault : AsmFault) → IsErrAnd result (λ e. e ≡ fault) → Tells fault → IfErr result Tells
handed_on Tells (Ok x) fault ended told = absurd ended
handed_on Tells (Err e) fault ended told = subst Tells (sym ended) told
