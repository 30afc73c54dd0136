-- How a real file is replaced. No public contract cites it. The whitepaper speaks of no files; all of this is own.
use Rattle.std.specs.Prelude.{◌≡◌, ℕ, None, Some}
use Rattle.std.specs.Fs.{permissions_mode}
use Rattle.file_port.specs.declared.replacing.Manner.{Manner}
use Rattle.file_port.specs.declared.replacing.Manner.TheVariants.{Beside, InPlace}

-- A new file takes the place of the one that is there, with these permissions. Own.
abbrev pub KeepsMode : ℕ → Manner → Type 0
KeepsMode mode (Beside None) = ⊥
KeepsMode mode (Beside (Some permissions)) = permissions_mode permissions ≡ mode
KeepsMode mode InPlace = ⊥
