-- The reply: what a call answers, writes and prints, as a function of its words and of the files. Own.
use Rattle.std.specs.Prelude.{◌≡◌, ℕ, ◌+◌, List, [], ◌∷◌, map, String, Option}
use Rattle.std.specs.declared.alloc.Global.{Global}
use Rattle.std.specs.Option.{option_map}
use Rattle.file_port.specs.Files.{Name, Files}
use Rattle.command_words.specs.Names.{texts}
use Rattle.command_words.specs.Forms.{Part, Input as IsInput, Output as IsOutput, Number as IsNumber, CommandForm}
use Rattle.command_words.specs.Calls.{Call, outputs_among, asked}
use Rattle.command_frame.specs.Answer.{Answer, Input, Task, reply_to}
use Rattle.cairo_commands.specs.Request.{Request, Walk, Asm, Dis, Run, Tables, Check, request_for}
use Rattle.cairo_commands.specs.Commands.Walk.{walk_task}
use Rattle.cairo_commands.specs.Commands.Asm.{asm_task}
use Rattle.cairo_commands.specs.Commands.Dis.{dis_task}
use Rattle.cairo_commands.specs.Commands.Run.{run_task}
use Rattle.cairo_commands.specs.Commands.Tables.{tables_task}
use Rattle.cairo_commands.specs.Commands.Check.{check_task}

-- What these texts ask of a command, if they keep the form of one. Own.
abbrev pub request_in : List Name → Option Request
request_in words = option_map request_for (asked words)

-- What a command is asked to do. Own.
unfoldable pub task : Request → Task
task (Walk trace memory) = walk_task trace memory
task (Asm text program) = asm_task text program
task (Dis program text) = dis_task program text
task (Run program hints trace memory public tables) = run_task program hints trace memory public tables
task (Tables program public trace memory tables) = tables_task program public trace memory tables
task (Check program public tables) = check_task program public tables

-- The command that the words are, if they are one. Own.
abbrev pub request_of : List (String Global) → Option Request
request_of words = request_in (texts words)

-- What the words ask for, if they are a command. Own.
abbrev pub task_of : List (String Global) → Option Task
task_of words = option_map task (request_of words)

-- The reply: what the words are answered with where the files are these, no call of the store or the sink
-- fails, and memory is there. Own.
abbrev pub reply : List (String Global) → Files → Answer
reply words files = reply_to (task_of words) files

-- ---- words that keep a form

-- The words that stand for inputs, each with its position. The first of these words has this one. Own.
abbrev pub inputs_from : ℕ → List Part → List Name → List (ℕ × Name)
inputs_from position [] words = []
inputs_from position (part ∷ parts) [] = []
inputs_from position (IsInput shown ∷ parts) (word ∷ words) = (position, word) ∷ inputs_from (position + 1) parts words
inputs_from position (IsOutput shown ∷ parts) (word ∷ words) = inputs_from (position + 1) parts words
inputs_from position (IsNumber shown least most ∷ parts) (word ∷ words) = inputs_from (position + 1) parts words

-- What is asked for reads the words that are inputs of this form, each by its position, and writes those that are
-- outputs, both in their order. Own.
pub record KeepsPlaces (form : CommandForm) (call : Call) : Type 0 where
  pub inputs : map (λ (input : Input). (input.position, input.name)) (task (request_for call)).inputs ≡ inputs_from 1 form.parts call.arguments
  pub outputs : (task (request_for call)).outputs ≡ outputs_among form.parts call.arguments
