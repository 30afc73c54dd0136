-- What words ask for reads and writes the words that the form has as inputs and outputs. So its names keep the rules: none
-- is empty, and no output has the name of an input or of another output.
use Rattle.std.proofs.Common.{◌≡◌, ℕ, zero, suc, ◌-◌, ◌<◌, true, List, [], ◌∷◌, length, map, Option, Some, None, IfSome, option_map, refl, sym, subst, arith}
use Rattle.std.specs.Prelude.{slice_index_or}
use Rattle.std.specs.List.{Contains}
use Rattle.file_port.specs.Files.{Name}
use Rattle.command_words.specs.Names.{are_names}
use Rattle.command_words.specs.Forms.{CommandForm, forms}
use Rattle.command_words.specs.Calls.{Call, inputs_among, outputs_among, KeepsForm, asked}
use Rattle.command_words.proofs.CallLaws.{AskFor-told}
use Rattle.command_frame.specs.Answer.{Input, Task}
use Rattle.cairo_commands.specs.Request.{Request, request_with, request_for}
use Rattle.cairo_commands.specs.Reply.{request_in, task, inputs_from, KeepsPlaces}

-- the names of its inputs and outputs keep the rules of all commands
unfoldable pub KeepsNames : Request → Type 0
KeepsNames request = are_names (map (λ (input : Input). input.name) (task request).inputs) (task request).outputs ≡ true

-- a task reads the inputs of a form among these arguments, by position and by name, and writes the outputs
record Reads (form : CommandForm) (arguments : List Name) (asked : Task) : Type 0 where
  placed : map (λ (input : Input). (input.position, input.name)) asked.inputs ≡ inputs_from 1 form.parts arguments
  named : map (λ (input : Input). input.name) asked.inputs ≡ inputs_among form.parts arguments
  written : asked.outputs ≡ outputs_among form.parts arguments

-- what is asked with so many arguments as a form has reads and writes the words of its inputs and outputs
abbrev Placed : CommandForm → Type 0
Placed form = (arguments : List Name) → length arguments ≡ length form.parts → Reads form arguments (task (request_with form.command (λ position. slice_index_or arguments (position - 1) [])))

-- one after another, as the forms stand in their table
module _ (other : CommandForm) where
  placed_walk : Placed (slice_index_or forms 0 other)
  unfolding task request_with forms
  placed_walk (trace ∷ memory ∷ []) count = record { placed = refl; named = refl; written = refl }
  placed_walk [] count = absurd (omega arith)
  placed_walk (a ∷ []) count = absurd (omega arith)
  placed_walk (a ∷ b ∷ c ∷ more) count = absurd (omega arith)

  placed_asm : Placed (slice_index_or forms 1 other)
  unfolding task request_with forms
  placed_asm (text ∷ program ∷ []) count = record { placed = refl; named = refl; written = refl }
  placed_asm [] count = absurd (omega arith)
  placed_asm (a ∷ []) count = absurd (omega arith)
  placed_asm (a ∷ b ∷ c ∷ more) count = absurd (omega arith)

  placed_dis : Placed (slice_index_or forms 2 other)
  unfolding task request_with forms
  placed_dis (program ∷ text ∷ []) count = record { placed = refl; named = refl; written = refl }
  placed_dis [] count = absurd (omega arith)
  placed_dis (a ∷ []) count = absurd (omega arith)
  placed_dis (a ∷ b ∷ c ∷ more) count = absurd (omega arith)

  placed_run : Placed (slice_index_or forms 3 other)
  unfolding task request_with forms
  placed_run (program ∷ hints ∷ trace ∷ memory ∷ public ∷ tables ∷ []) count = record { placed = refl; named = refl; written = refl }
  placed_run [] count = absurd (omega arith)
  placed_run (a ∷ []) count = absurd (omega arith)
  placed_run (a ∷ b ∷ []) count = absurd (omega arith)
  placed_run (a ∷ b ∷ c ∷ []) count = absurd (omega arith)
  placed_run (a ∷ b ∷ c ∷ d ∷ []) count = absurd (omega arith)
  placed_run (a ∷ b ∷ c ∷ d ∷ e ∷ []) count = absurd (omega arith)
  placed_run (a ∷ b ∷ c ∷ d ∷ e ∷ f ∷ g ∷ more) count = absurd (omega arith)

  placed_tables : Placed (slice_index_or forms 4 other)
  unfolding task request_with forms
  placed_tables (program ∷ public ∷ trace ∷ memory ∷ tables ∷ []) count = record { placed = refl; named = refl; written = refl }
  placed_tables [] count = absurd (omega arith)
  placed_tables (a ∷ []) count = absurd (omega arith)
  placed_tables (a ∷ b ∷ []) count = absurd (omega arith)
  placed_tables (a ∷ b ∷ c ∷ []) count = absurd (omega arith)
  placed_tables (a ∷ b ∷ c ∷ d ∷ []) count = absurd (omega arith)
  placed_tables (a ∷ b ∷ c ∷ d ∷ e ∷ f ∷ more) count = absurd (omega arith)

  placed_check : Placed (slice_index_or forms 5 other)
  unfolding task request_with forms
  placed_check (program ∷ public ∷ tables ∷ []) count = record { placed = refl; named = refl; written = refl }
  placed_check [] count = absurd (omega arith)
  placed_check (a ∷ []) count = absurd (omega arith)
  placed_check (a ∷ b ∷ []) count = absurd (omega arith)
  placed_check (a ∷ b ∷ c ∷ d ∷ more) count = absurd (omega arith)

-- of each form in the table
placed_row : (k : ℕ) (form : CommandForm) → k < length forms → slice_index_or forms k form ≡ form → Placed form
unfolding forms
placed_row zero form few is = subst Placed is (placed_walk form)
placed_row (suc zero) form few is = subst Placed is (placed_asm form)
placed_row (suc (suc zero)) form few is = subst Placed is (placed_dis form)
placed_row (suc (suc (suc zero))) form few is = subst Placed is (placed_run form)
placed_row (suc (suc (suc (suc zero)))) form few is = subst Placed is (placed_tables form)
placed_row (suc (suc (suc (suc (suc zero))))) form few is = subst Placed is (placed_check form)
placed_row (suc (suc (suc (suc (suc (suc more)))))) form few is = absurd (omega arith)

-- so of words that keep a form
pub KeepsPlaces-kept : (form : CommandForm) (words : List Name) (call : Call) → Contains forms form → KeepsForm form words call → KeepsPlaces form call
KeepsPlaces-kept form words call there kept =
    let reads = placed_row there.0 form there.1 there.2 kept.arguments kept.count in
    subst (KeepsPlaces form) (sym kept.asks) (record { inputs = reads.placed; outputs = reads.written })

-- and the names keep the rules
names_kept : (form : CommandForm) (words : List Name) (call : Call) → Contains forms form → KeepsForm form words call → KeepsNames (request_for call)
unfolding KeepsNames
names_kept form words call there kept =
    let reads = placed_row there.0 form there.1 there.2 kept.arguments kept.count in
    subst (λ (made : Call). are_names (map (λ (input : Input). input.name) (task (request_for made)).inputs) (task (request_for made)).outputs ≡ true) (sym kept.asks)
    (rw (reads.named, reads.written) kept.names)

-- of words that are told to ask for something, and of those that aren't
names_asked : (words : List Name) (found : Option Call) → asked words ≡ found → IfSome (option_map request_for found) KeepsNames
names_asked words None told = tt
names_asked words (Some call) told =
    let asks = AskFor-told words call told in
    names_kept asks.1 words call (asks.0, asks.2, asks.3) asks.4

pub KeepsNames-asked : (words : List Name) → IfSome (request_in words) KeepsNames
KeepsNames-asked words = names_asked words (asked words) refl
