-- What the words of a call ask for: a relation, and a function that finds it. Own.
use Rattle.std.specs.Prelude.{◌≡◌, ℕ, ◌-◌, Bool, true, ◌&&◌, nat_le, List, [], ◌∷◌, ◌++◌, length, take, drop, slice_index, slice_index_or, Option, Some, None, option_map, if◌then◌else◌, codes}
use Rattle.std.specs.List.{find, Any}
use Rattle.std.specs.Option.{option_and_then}
use Rattle.std.specs.Str.{bytes_eq}
use Rattle.file_port.specs.Files.{Name}
use Rattle.command_words.specs.declared.table.Command.{Command}
use Rattle.command_words.specs.declared.calls.Form.{Form}
use Rattle.command_words.specs.Forms.{Part, Input, Output, Number, CommandForm, forms}
use Rattle.command_words.specs.Names.{texts, are_names}
use Rattle.command_words.specs.Numbers.{IsNumber, number_in, worker_limit}

-- What words ask for: a command with the words that follow it, how many workers, and the first two numbers among the
-- words. A number that is not there is 0. Own.
pub record Call : Type 0 where
  pub command : Command
  pub arguments : List Name
  pub workers : ℕ
  pub first : ℕ
  pub second : ℕ

-- What the code says that words ask for. Own.
abbrev pub call_of : Form → Call
call_of form = record {
  command = form.command;
  arguments = texts form.arguments.now;
  workers = form.workers;
  first = form.first;
  second = form.second;
}

-- The word at this position among those that follow the command, which have the positions from 1 on. Own.
abbrev pub word_at : Call → ℕ → Name
word_at call position = slice_index_or call.arguments (position - 1) []

-- ---- the words of each kind

-- The words that stand for inputs. Own.
abbrev pub inputs_among : List Part → List Name → List Name
inputs_among [] words = []
inputs_among (part ∷ parts) [] = []
inputs_among (Input shown ∷ parts) (word ∷ words) = word ∷ inputs_among parts words
inputs_among (Output shown ∷ parts) (word ∷ words) = inputs_among parts words
inputs_among (Number shown least most ∷ parts) (word ∷ words) = inputs_among parts words

-- The words that stand for outputs. Own.
abbrev pub outputs_among : List Part → List Name → List Name
outputs_among [] words = []
outputs_among (part ∷ parts) [] = []
outputs_among (Input shown ∷ parts) (word ∷ words) = outputs_among parts words
outputs_among (Output shown ∷ parts) (word ∷ words) = word ∷ outputs_among parts words
outputs_among (Number shown least most ∷ parts) (word ∷ words) = outputs_among parts words

-- The words that stand for numbers are these numbers, each within its bounds. Own.
abbrev pub AreNumbers : List Part → List Name → List ℕ → Type 0
AreNumbers [] words numbers = numbers ≡ []
AreNumbers (part ∷ parts) [] numbers = numbers ≡ []
AreNumbers (Input shown ∷ parts) (word ∷ words) numbers = AreNumbers parts words numbers
AreNumbers (Output shown ∷ parts) (word ∷ words) numbers = AreNumbers parts words numbers
AreNumbers (Number shown least most ∷ parts) (word ∷ words) [] = ⊥
AreNumbers (Number shown least most ∷ parts) (word ∷ words) (number ∷ numbers) = IsNumber least most word number × AreNumbers parts words numbers

-- The numbers among the words, if each word that stands for one is one, within its bounds. Own.
abbrev pub numbers_among : List Part → List Name → Option (List ℕ)
numbers_among [] words = Some []
numbers_among (part ∷ parts) [] = Some []
numbers_among (Input shown ∷ parts) (word ∷ words) = numbers_among parts words
numbers_among (Output shown ∷ parts) (word ∷ words) = numbers_among parts words
numbers_among (Number shown least most ∷ parts) (word ∷ words) = option_and_then (λ number. option_map (λ numbers. number ∷ numbers) (numbers_among parts words)) (number_in least most word)

-- The first two of these numbers. One that is not there is 0. Own.
abbrev pub first_two : List ℕ → ℕ × ℕ
first_two numbers = (slice_index numbers 0, slice_index numbers 1)

-- ---- the form of a command is kept

-- The words that may stand last, after those of the form: there are none, for one worker, or there are two, which name
-- the number of workers. Own.
abbrev pub NameWorkers : CommandForm → List Name → ℕ → Type 0
NameWorkers form [] workers = workers ≡ 1
NameWorkers form (option ∷ number ∷ []) workers = (form.takes_workers ≡ true) × (option ≡ codes "--workers") × IsNumber 1 worker_limit number workers
NameWorkers form _ workers = ⊥

-- What these arguments ask for, with so many workers and these numbers. Own.
abbrev pub call_made : CommandForm → List Name → ℕ → List ℕ → Call
call_made form arguments workers numbers = record {
  command = form.command;
  arguments = arguments;
  workers = workers;
  first = (first_two numbers).0;
  second = (first_two numbers).1;
}

-- The words keep this form, and ask for this: the command's word stands first, then there is one word for each part,
-- and workers may be named last. The names of files keep the rules of names, and the numbers lie within their
-- bounds. Own.
pub record KeepsForm (form : CommandForm) (words : List Name) (call : Call) : Type 0 where
  pub arguments : List Name
  pub last : List Name
  pub numbers : List ℕ
  pub workers : ℕ
  pub written : words ≡ form.word ∷ (arguments ++ last)
  pub count : length arguments ≡ length form.parts
  pub names : are_names (inputs_among form.parts arguments) (outputs_among form.parts arguments) ≡ true
  pub are_numbers : AreNumbers form.parts arguments numbers
  pub are_workers : NameWorkers form last workers
  pub asks : call ≡ call_made form arguments workers numbers

-- The words keep the form of one of the commands, and ask for this. Own.
abbrev pub AskFor : List Name → Call → Type 0
AskFor words call = Any (λ form. KeepsForm form words call) forms

-- ---- what words ask for, as it is found

-- The number of workers that these words name, which stand last. Own.
abbrev pub workers_named : Bool → List Name → Option ℕ
workers_named takes_workers [] = Some 1
workers_named takes_workers (option ∷ number ∷ []) =
    if takes_workers && bytes_eq option (codes "--workers") then number_in 1 worker_limit number else None
workers_named takes_workers (option ∷ []) = None
workers_named takes_workers (option ∷ number ∷ other ∷ more) = None

-- The arguments, one for each part, and the number of workers, which the words after them may name. Own.
unfoldable pub split_workers : CommandForm → List Name → Option (List Name × ℕ)
split_workers form words =
    if nat_le (length form.parts) (length words)
    then option_map (λ workers. (take (length form.parts) words, workers)) (workers_named form.takes_workers (drop (length form.parts) words)) else None

-- What these arguments ask for, with so many workers, where they keep the form. Own.
abbrev pub call_with : CommandForm → List Name × ℕ → Option Call
call_with form split =
    if are_names (inputs_among form.parts split.0) (outputs_among form.parts split.0)
    then option_map (call_made form split.0 split.1) (numbers_among form.parts split.0) else None

-- What the words after a command ask for, where they keep its form. Own.
unfoldable pub call_after : CommandForm → List Name → Option Call
call_after form words = option_and_then (call_with form) (split_workers form words)

-- The form whose word this is. Own.
abbrev pub form_named : List CommandForm → Name → Option CommandForm
form_named rows word = find (λ form. bytes_eq form.word word) rows

-- What words ask for where these are the forms. Own.
unfoldable pub call_in : List CommandForm → List Name → Option Call
call_in rows [] = None
call_in rows (command ∷ words) = option_and_then (λ form. call_after form words) (form_named rows command)

-- What the words ask for, if they keep the form of a command. Own.
abbrev pub asked : List Name → Option Call
asked words = call_in forms words
