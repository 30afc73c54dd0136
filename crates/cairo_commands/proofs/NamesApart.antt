-- Names of outputs that stand apart, one by one.
use Rattle.std.proofs.Common.{◌≡◌, true, false, not, ◌&&◌, List, [], ◌∷◌, refl}
use Rattle.std.specs.Str.{bytes_eq}
use Rattle.std.proofs.lemmas.Bool.{not-true, and_parts, or_parts}
use Rattle.file_port.specs.Files.{Name}
use Rattle.command_words.specs.Names.{is_among, stand_apart, are_names}
use Rattle.command_frame.proofs.WrittenFiles.{differ_either_way}

-- names that keep the rules of all commands stand apart
pub stand_apart-kept : (inputs outputs : List Name) → are_names inputs outputs ≡ true → stand_apart inputs outputs ≡ true
stand_apart-kept inputs outputs kept = (and_parts (not (is_among inputs []) && not (is_among outputs [])) (stand_apart inputs outputs) kept).1

-- what an output that stands apart differs from, and the outputs behind it
pub output_apart : (inputs : List Name) (output : Name) (later : List Name) → stand_apart inputs (output ∷ later) ≡ true → (is_among inputs output ≡ false) × (is_among later output ≡ false) × (stand_apart inputs later ≡ true)
output_apart inputs output later apart =
    let both = and_parts (not (is_among inputs output) && not (is_among later output)) (stand_apart inputs later) apart in
    let names = and_parts (not (is_among inputs output)) (not (is_among later output)) both.0 in
    (not-true (is_among inputs output) names.0, not-true (is_among later output) names.1, both.1)

-- no output has the name of the first input
pub input_apart : (input : Name) (inputs outputs : List Name) → stand_apart (input ∷ inputs) outputs ≡ true → is_among outputs input ≡ false
input_apart input inputs [] apart = refl
input_apart input inputs (output ∷ later) apart =
    let parts = output_apart (input ∷ inputs) output later apart in
    let first = or_parts (bytes_eq input output) (is_among inputs output) parts.0 in
    rw (differ_either_way input output first.0) (input_apart input inputs later parts.2)
