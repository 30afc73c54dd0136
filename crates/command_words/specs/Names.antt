-- The names among the words of a call, and the rules that those of each command keep. Own.
use Rattle.std.specs.Prelude.{Bool, true, not, ◌&&◌, List, [], ◌∷◌, map, String, string_bytes}
use Rattle.std.specs.declared.alloc.Global.{Global}
use Rattle.std.specs.List.{list_any}
use Rattle.std.specs.Str.{bytes_eq}
use Rattle.file_port.specs.Files.{Name}

-- The words as texts. Own.
abbrev pub texts : List (String Global) → List Name
texts words = map string_bytes words

-- One of the names is this one. Own.
abbrev pub is_among : List Name → Name → Bool
is_among names name = list_any (λ other. bytes_eq other name) names

-- No output has the name of an input or of another output. Own.
abbrev pub stand_apart : List Name → List Name → Bool
stand_apart inputs [] = true
stand_apart inputs (output ∷ later) = not (is_among inputs output) && not (is_among later output) && stand_apart inputs later

-- The names of inputs and outputs keep the rules of all commands: none is empty, and outputs stand apart. Own.
abbrev pub are_names : List Name → List Name → Bool
are_names inputs outputs = not (is_among inputs []) && not (is_among outputs []) && stand_apart inputs outputs
