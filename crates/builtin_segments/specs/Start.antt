-- The memory in which a run starts, and its first state.
use Rattle.std.specs.Prelude.{ℕ, zero, suc, ◌+◌, List, [], ◌∷◌, map}
use Rattle.segments.specs.declared.RelState.{RelState}
use Rattle.segments.specs.declared.Value.{Value}
use Rattle.segments.specs.declared.Value.TheVariants.{Ptr}
use Rattle.segments.specs.Values.{place, number}
use Rattle.segments.specs.Memory.{RunMemory, program_memory, with_segment, with_cell}
use Rattle.program_file.specs.declared.Builtins.{Builtins}
use Rattle.program_file.specs.Listing.{Listing}
use Rattle.builtin_segments.specs.Layout.{execution, frame_offset, builtin_count, builtin_segments}

-- What the execution segment holds at first: the pointer to its own third cell, the number 0, and a pointer to the first
-- cell of each builtin's segment. Own.
unfoldable pub start_stack : Builtins → List Value
start_stack b = Ptr (place execution frame_offset) ∷ number 0 ∷ map (λ seg. Ptr (place seg 0)) (builtin_segments b)

-- The memory with so many more segments, which are empty. Own.
unfoldable pub with_segments : ℕ → RunMemory → RunMemory
with_segments zero m = m
with_segments (suc more) m = with_segments more (with_segment m)

-- The memory with these values in the execution segment, one after another from an offset on. Own.
unfoldable pub with_stack : ℕ → List Value → RunMemory → RunMemory
with_stack off [] m = m
with_stack off (v ∷ values) m = with_stack (off + 1) values (with_cell m (place execution off) v)

-- The memory in which the program starts, with so many extra segments. Segment 0 holds its words, and the execution
-- segment the start stack; the builtins' segments and the extra ones are empty. Own.
unfoldable pub start_memory : Listing → ℕ → RunMemory
start_memory p extra =
    with_stack 0 (start_stack p.builtins) (with_segments (1 + builtin_count p.builtins + extra) (program_memory p.words))

-- The state in which the program starts: pc at its first instruction, and ap and fp at the third cell of the execution
-- segment. Own.
unfoldable pub first_state : Listing → RelState
first_state p = record { pc = place 0 p.start; ap = place execution frame_offset; fp = place execution frame_offset }
