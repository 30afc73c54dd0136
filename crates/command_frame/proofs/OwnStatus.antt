-- The statuses that a command's own endings have.
use Rattle.std.proofs.Common.{◌≢◌}
use Rattle.command_frame.specs.declared.status.Status.{Status}
use Rattle.command_frame.specs.declared.status.Status.TheVariants.{Done, Refused, Run, Words, Missing, Limit, Store, Input as Unspelled}
use Rattle.command_frame.specs.declared.ending.Conclusion.{Conclusion}
use Rattle.command_frame.specs.declared.ending.Conclusion.TheVariants.{Done as IsDone, Refused as IsRefused, RunRefused as IsRunRefused}
use Rattle.command_frame.specs.Status.{IsDecided}
use Rattle.command_frame.specs.Parts.{status_of}

-- a status that is decided, and that no reading of an input is answered with
pub record IsOwn (status : Status) : Type 0 where
  pub decided : IsDecided status
  pub not_words : Words ≢ status
  pub not_missing : Missing ≢ status
  pub not_limit : Limit ≢ status
  pub not_unspelled : Unspelled ≢ status
  pub not_store : Store ≢ status

pub Done_is_own : IsOwn Done
Done_is_own = record { decided = tt; not_words = λ e. cc; not_missing = λ e. cc; not_limit = λ e. cc; not_unspelled = λ e. cc; not_store = λ e. cc }

pub Refused_is_own : IsOwn Refused
Refused_is_own = record { decided = tt; not_words = λ e. cc; not_missing = λ e. cc; not_limit = λ e. cc; not_unspelled = λ e. cc; not_store = λ e. cc }

pub Run_is_own : IsOwn Run
Run_is_own = record { decided = tt; not_words = λ e. cc; not_missing = λ e. cc; not_limit = λ e. cc; not_unspelled = λ e. cc; not_store = λ e. cc }

pub IsOwn-status_of : (conclusion : Conclusion) → IsOwn (status_of conclusion)
IsOwn-status_of IsDone = Done_is_own
IsOwn-status_of IsRefused = Refused_is_own
IsOwn-status_of IsRunRefused = Run_is_own
