-- What the reading of an input gives, and what ends by it.
use Rattle.std.proofs.Common.{◌≡◌, ℕ, ◌≤◌, Bool, true, false, cond, List, length, Option, Some, None, Result, Ok, Err, refl, sym, ap, ◌∙◌, nat_lt}
use Rattle.std.proofs.lemmas.Bool.{ltb-false, le-ltb}
use Rattle.file_port.specs.Files.{Name, Files, file_at}
use Rattle.command_frame.specs.declared.status.Status.{Status}
use Rattle.command_frame.specs.declared.formats.Unread.{Unread as CodeUnread}
use Rattle.command_frame.specs.declared.formats.Unread.TheVariants.{TooMuch as TooMuchRead, Faulty as FaultRead, OutOfMemory as NoMemoryRead}
use Rattle.command_frame.specs.Answer.{Answer, Input, over_limit}
use Rattle.command_frame.specs.Formats.{◌>>=◌, Unread, TooMuch, Faulty, Format, Holds, answered, within, told, spelled, input_at, read_as}
use Rattle.command_frame.specs.Parts.{ReadsAs, IsReason}
use Rattle.command_frame.proofs.OwnStatus.{IsOwn}

-- the file of this name is there, within the limit of its format, and its bytes are read as the value
pub record IsRead {V : Type 0} (format : Format V) (name : Name) (files : Files) (value : V) : Type 0 where
  pub bytes : List ℕ
  pub held : file_at files name ≡ Some bytes
  pub short : length bytes ≤ format.limit
  pub read : format.reading bytes ≡ Ok value

-- a value that a file holds is read of it, and one that is read is held
pub IsRead-held : {V : Type 0} (format : Format V) (Spells : List ℕ → V → Type 0) (name : Name) (files : Files) (held : Holds format Spells name files) → format.reading held.bytes ≡ Ok held.value → IsRead format name files held.value
IsRead-held format Spells name files held read = record { bytes = held.bytes; held = held.held; short = held.short; read = read }

abbrev pub Holds-read : {V : Type 0} (format : Format V) (Spells : List ℕ → V → Type 0) (name : Name) (files : Files) (value : V) (is : IsRead format name files value) → Spells is.bytes value → Holds format Spells name files
Holds-read format Spells name files value is spells = record {
  bytes = is.bytes;
  held = is.held;
  short = is.short;
  value = value;
  spelled = spells;
}

module _ {V : Type 0} (status : Status) (own : IsOwn status) (input : Input) (use_it : V → Result Answer Answer) where
  spelled_ended : (found : Result V Unread) → (answered (spelled input found >>= use_it)).status ≡ status → (value : V) × (found ≡ Ok value) × ((answered (use_it value)).status ≡ status)
  spelled_ended (Err TooMuch) ended = absurd (own.not_limit ended)
  spelled_ended (Err (Faulty text)) ended = absurd (own.not_unspelled ended)
  spelled_ended (Ok value) ended = (value, refl, ended)

  within_ended : (bytes : List ℕ) (over : Bool) (reads : List ℕ → Result V Unread) → (answered ((cond over (Err (over_limit input.position)) (Ok bytes) >>= λ bs. spelled input (reads bs)) >>= use_it)).status ≡ status → (over ≡ false) × ((answered (spelled input (reads bytes) >>= use_it)).status ≡ status)
  within_ended bytes true reads ended = absurd (own.not_limit ended)
  within_ended bytes false reads ended = (refl, ended)

module _ {V : Type 0} (status : Status) (own : IsOwn status) (format : Format V) (position : ℕ) (name : Name) (use_it : V → Result Answer Answer) where
  held_ended : (files : Files) (held : Option (List ℕ)) → file_at files name ≡ held → (answered ((within (input_at format position name) held >>= λ bytes. spelled (input_at format position name) (format.reading bytes)) >>= use_it)).status ≡ status → (value : V) × IsRead format name files value × ((answered (use_it value)).status ≡ status)
  held_ended files None is ended = absurd (own.not_missing ended)
  held_ended files (Some bytes) is ended =
      let input = input_at format position name in
      let kept = within_ended status own input use_it bytes (nat_lt format.limit (length bytes)) format.reading ended in
      let found = spelled_ended status own input use_it (format.reading bytes) kept.1 in (
        found.0,
        record {
          bytes = bytes;
          held = is;
          short = ltb-false format.limit (length bytes) kept.0;
          read = found.1;
        },
        found.2,
      )

  -- what ends with a status of a command's own has read its input
  pub read_ended : (files : Files) → (answered (read_as format position name files >>= use_it)).status ≡ status → (value : V) × IsRead format name files value × ((answered (use_it value)).status ≡ status)
  read_ended files ended = held_ended files (file_at files name) refl ended

-- what is answered once an input is read
pub then_read : {V : Type 0} (format : Format V) (position : ℕ) (name : Name) (files : Files) (value : V) → IsRead format name files value → (use_it : V → Result Answer Answer) → answered (read_as format position name files >>= use_it) ≡ answered (use_it value)
then_read format position name files value is use_it =
    rw (is.held, le-ltb format.limit (length is.bytes) is.short, is.read) refl

-- what a format reads, where it is a value
pub told_ok : {A F : Type 0} (why : F → Unread) (r : Result A F) (value : A) → told why r ≡ Ok value → r ≡ Ok value
told_ok why (Ok x) value e =
    let same : x ≡ value = cc in
    ap Ok same
told_ok why (Err fault) value e = cc

-- both steps of a reading, where it gives a value
pub then_ok : {A B E : Type 0} (r : Result A E) (f : A → Result B E) (b : B) → (r >>= f) ≡ Ok b → (a : A) × (r ≡ Ok a) × (f a ≡ Ok b)
then_ok (Ok a) f b e = (a, refl, e)
then_ok (Err why) f b e = cc

-- bytes are read as none for the code's reason
pub ReadsAs-reason : {X V : Type 0} (meaning : X → V) (why : Unread) (reading : Result V Unread) → reading ≡ Err why → (code : CodeUnread) → IsReason why code → ReadsAs meaning reading (Err code)
ReadsAs-reason meaning TooMuch reading is TooMuchRead says = is
ReadsAs-reason meaning (Faulty text) reading is (FaultRead fault) says = is ∙ ap (λ t. Err (Faulty t)) (sym says)
ReadsAs-reason meaning TooMuch reading is NoMemoryRead says = tt
ReadsAs-reason meaning (Faulty text) reading is NoMemoryRead says = tt
ReadsAs-reason meaning TooMuch reading is (FaultRead fault) says = absurd says
ReadsAs-reason meaning (Faulty text) reading is TooMuchRead says = absurd says
