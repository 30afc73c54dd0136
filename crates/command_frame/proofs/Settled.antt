-- What every answer keeps that a command reads its inputs for: its status is decided, and it writes its outputs where it
-- ends with `Done`, and else nothing.
use Rattle.std.proofs.Common.{◌≡◌, ◌≢◌, ℕ, Bool, true, false, cond, List, [], length, map, Option, Some, None, Result, Ok, Err, refl, nat_lt}
use Rattle.file_port.specs.Files.{Name, Files, file_at}
use Rattle.command_frame.specs.declared.status.Status.{Status}
use Rattle.command_frame.specs.declared.status.Status.TheVariants.{Done}
use Rattle.command_frame.specs.Status.{IsDecided}
use Rattle.command_frame.specs.Answer.{Answer, Input, says, missing, over_limit, unspelled}
use Rattle.command_frame.specs.Formats.{◌>>=◌, Unread, TooMuch, Faulty, Format, answered, within, spelled, input_at, read_as}

-- an answer that writes all of these names where it ends with `Done`, and else nothing
pub record IsSettled (names : List Name) (answer : Answer) : Type 0 where
  pub decided : IsDecided answer.status
  pub nothing : answer.status ≢ Done → answer.writes ≡ []
  pub all : answer.status ≡ Done → map (λ write. write.0) answer.writes ≡ names

-- an answer that is done
pub settled_done : (names : List Name) (answer : Answer) → answer.status ≡ Done → map (λ write. write.0) answer.writes ≡ names → IsSettled names answer
settled_done names answer done named = record {
  decided = rw done tt;
  nothing = λ other. absurd (other done);
  all = λ e. named;
}

-- an answer that refuses and writes nothing
pub settled_says : (names : List Name) (status : Status) (line : List ℕ) → IsDecided status → status ≢ Done → IsSettled names (says status line)
settled_says names status line decided other = record {
  decided = decided;
  nothing = λ e. refl;
  all = λ e. absurd (other e);
}

module _ {V : Type 0} (names : List Name) (input : Input) (use_it : V → Result Answer Answer) (settled : (value : V) → IsSettled names (answered (use_it value))) where
  settled_spelled : (found : Result V Unread) → IsSettled names (answered (spelled input found >>= use_it))
  settled_spelled (Ok value) = settled value
  settled_spelled (Err TooMuch) = settled_says names (over_limit input.position).status (over_limit input.position).line tt (λ e. cc)
  settled_spelled (Err (Faulty text)) = settled_says names (unspelled input.position text).status (unspelled input.position text).line tt (λ e. cc)

  settled_within : (reads : List ℕ → Result V Unread) (bytes : List ℕ) (over : Bool) → IsSettled names (answered ((cond over (Err (over_limit input.position)) (Ok bytes) >>= λ bs. spelled input (reads bs)) >>= use_it))
  settled_within reads bytes true = settled_says names (over_limit input.position).status (over_limit input.position).line tt (λ e. cc)
  settled_within reads bytes false = settled_spelled (reads bytes)

  settled_held : (reads : List ℕ → Result V Unread) (held : Option (List ℕ)) → IsSettled names (answered ((within input held >>= λ bytes. spelled input (reads bytes)) >>= use_it))
  settled_held reads None = settled_says names (missing input.position).status (missing input.position).line tt (λ e. cc)
  settled_held reads (Some bytes) = settled_within reads bytes (nat_lt input.limit (length bytes))

pub settled_read : {V : Type 0} (names : List Name) (format : Format V) (position : ℕ) (name : Name) (files : Files) (use_it : V → Result Answer Answer) → ((value : V) → IsSettled names (answered (use_it value))) → IsSettled names (answered (read_as format position name files >>= use_it))
settled_read names format position name files use_it settled =
    settled_held names (input_at format position name) use_it settled format.reading (file_at files name)
