-- A file that is read piece by piece.
use Rattle.std.proofs.Common.{◌≡◌, ℕ, ◌+◌, ◌-◌, ◌^◌, ◌≤◌, ◌<◌, min, List, [], ◌∷◌, length, length-append, inl, inr, Option, Some, None, Err, IfSome, Vec, Global, vec_len, nat_lt, true, refl, ap, arith}
use Rattle.std.specs.Option.{option_map}
use Rattle.std.proofs.lemmas.Bool.{lt-ltb}
use Rattle.std.specs.Io.KnownBytes.{Consumes}
use Rattle.file_port.specs.Seen.{Seen}
use Rattle.command_frame.specs.Answer.{Input, over_limit}
use Rattle.command_frame.specs.Status.{IsDecided}
use Rattle.command_frame.specs.Formats.{within}
use Rattle.command_frame.specs.declared.ending.Refusal.TheVariants.{OverLimit}
use Rattle.command_frame.specs.Evidence.{piece}
use Rattle.command_frame.specs.Parts.{ReadsInputs}

-- a taker has taken these bytes, so many of them, by way of a buffer of one piece
pub record HasRead {T : Type 0} (Took : List ℕ → T → Type 0) (before now : Seen) (buffer : Vec ℕ Global) (taker : T) (limit taken : ℕ) : Type 0 where
  pub room : vec_len buffer ≡ piece
  pub bytes : List ℕ
  pub took : Took bytes taker
  pub count : length bytes ≡ taken
  pub consumed : Consumes before.reading now.reading bytes
  pub nothing_else : now ≡ record before { reading = now.reading; given = now.given }
  pub later : before.given ≤ now.given
  pub at_least : min (before.given + taken) (2 ^ 64 - 1) ≤ now.given
  pub at_most : now.given ≤ before.given + taken
  pub short : taken ≤ limit + piece

-- an input of which more than its limit was taken is over its limit
pub over_limit-taken : (input : Input) (before now : Option (List ℕ)) (bytes : List ℕ) → input.limit < length bytes → Consumes before now bytes → IfSome (option_map Some before) (λ held. IsDecided (over_limit input.position).status → within input held ≡ Err (over_limit input.position))
over_limit-taken input None now bytes more consumed = tt
over_limit-taken input (Some xs) None bytes more consumed = absurd consumed
over_limit-taken input (Some xs) (Some rest) bytes more consumed = λ decided.
    let long : input.limit < length xs = omega (arith, ap length consumed, length-append bytes rest) in
    let over : nat_lt input.limit (length xs) ≡ true = lt-ltb input.limit (length xs) long in
    rw over refl

-- what is used of an input of which more than its limit was taken
pub over_limit-uses : {T X : Type 0} (Took : List ℕ → T → Type 0) (input : Input) (before now : Seen) (buffer : Vec ℕ Global) (taker : T) (taken : ℕ) → HasRead Took before now buffer taker input.limit taken → input.limit < taken → ReadsInputs {X = X} (input ∷ []) before now (Err (OverLimit input.position))
over_limit-uses Took input before now buffer taker taken read more =
    let faults : now.faults ≡ before.faults = ap (λ (s : Seen). s.faults) read.nothing_else in
    let absent : now.absent ≡ before.absent = ap (λ (s : Seen). s.absent) read.nothing_else in
    record {
      files = ap (λ (s : Seen). s.files) read.nothing_else;
      torn = ap (λ (s : Seen). s.torn) read.nothing_else;
      faults = record { later = omega arith; rose = λ is. absurd is; kept = λ never. faults };
      absent = record { later = omega arith; rose = λ is. absurd is; kept = λ never. absent };
      given = read.later;
      bounded = omega (arith, read.at_most, read.short);
      blames = inl (refl, inr (omega (arith, read.at_least)), omega (arith, read.at_most, read.short));
    }
