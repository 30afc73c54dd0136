-- Assembly texts and program files as what they are read as, and each as the other.
use Rattle.std.proofs.Common.{◌≡◌, ℕ, ◌<◌, ◌≤◌, inl, inr, Bool, true, false, nat_lt, List, ◌++◌, length, Result, Err, refl, sym, ap, ◌∙◌, subst, arith}
use Rattle.std.proofs.Math.Nat.{lt_of_not-le}
use Rattle.std.proofs.lemmas.Bool.{ltb-true, ltb-false}
use Rattle.goldilocks.specs.declared.Felt.{Felt}
use Rattle.casm_word.specs.Length.{program_word_limit}
use Rattle.casm_statements.specs.declared.Body.{Body}
use Rattle.casm_statements.specs.declared.Item.{Item}
use Rattle.casm_tokens.specs.declared.fault.ParseFault.{ParseFault}
use Rattle.casm_tokens.specs.declared.fault.ParseFault.TheVariants.{Syntax, Memory as NoMemory}
use Rattle.casm_text.specs.Meaning.{bodies, TellsText}
use Rattle.casm_text.proofs.TextReading.{text_reading-faulty}
use Rattle.assembler.specs.declared.fault.AsmFault.{AsmFault}
use Rattle.assembler.specs.declared.fault.AsmFault.TheVariants.{TooLong, StartOutside, EndOutside, Memory}
use Rattle.assembler.specs.Assembly.{words_of, labels_of, start_place, end_place, word_count}
use Rattle.assembler.specs.Faults.{HasNoFault, TellsFault}
use Rattle.assembler.specs.Assembling.{Assembly, assembly_of}
use Rattle.assembler.specs.Disassembly.{Disassembles, directives, on_lines}
use Rattle.assembler.proofs.AssemblyLemmas.{words_from-length}
use Rattle.assembler.proofs.Outcomes.{assembling-told}
use Rattle.assembler.specs.ShownBodies.{shown_bodies}
use Rattle.assembler.proofs.ShownFunction.{shown_bodies-shown}
use Rattle.assembler.proofs.ShownLemmas.{shown_as_one}
use Rattle.program_file.specs.declared.Builtins.{Builtins}
use Rattle.program_file.specs.Listing.{Listing, IsProgram}
use Rattle.command_frame.specs.declared.formats.Unread.{Unread}
use Rattle.command_frame.specs.declared.formats.Unread.TheVariants.{TooMuch, Faulty, OutOfMemory}
use Rattle.command_frame.specs.Formats.{◌>>=◌, Unread as ReadNothing, told}
use Rattle.cairo_commands.specs.Programs.{syntax_unread, parse_unread, assembly_unread, items_read, assembly_read, text_read, listing_of, items_of}
use Rattle.command_frame.specs.Parts.{ReadsAs, IsReason}
use Rattle.command_frame.proofs.Readings.{ReadsAs-reason}

not_below : (a b : ℕ) → (a < b → ⊥) → b ≤ a
not_below a b never = by_order (nat_lt a b) refl
  where
    by_order : (t : Bool) → nat_lt a b ≡ t → b ≤ a
    by_order true below = absurd (never (ltb-true a b below))
    by_order false above = ltb-false a b above

not_at_most : (a b : ℕ) → (a ≤ b → ⊥) → b < a
not_at_most a b never = lt_of_not-le {n = a} {m = b} never

-- what is assembled is a program
pub IsProgram-assembly : (items : List Item) → HasNoFault items → IsProgram (listing_of (assembly_of items))
unfolding assembly_of
IsProgram-assembly items none =
    let count : length (words_of (bodies items)) ≡ word_count (bodies items) = words_from-length (labels_of (bodies items)) 0 (bodies items) in
    let few : word_count (bodies items) ≤ program_word_limit = not_below program_word_limit (word_count (bodies items)) (none TooLong) in
    record {
      few_words = omega (arith, count, few);
      start_inside = omega (arith, count, not_at_most (word_count (bodies items)) (start_place (bodies items)) (none StartOutside));
      end_inside = omega (arith, count, not_at_most (word_count (bodies items)) (end_place (bodies items)) (none EndOutside));
    }

-- a refusal of the assembler is what the items are read as
pub assembly_refused : {X : Type 0} (meaning : X → Assembly) (items : List Item) (fault : AsmFault) (code : Unread) → TellsFault items fault → IsReason (assembly_unread fault) code → (fault ≡ Memory → code ≡ OutOfMemory) → ReadsAs meaning (assembly_read items) (Err code)
assembly_refused meaning items fault code tells says wants =
    elim (assembling-told items fault tells) [
      | inl memory ↦ subst (λ (c : Unread). ReadsAs meaning (assembly_read items) (Err c)) (sym (wants memory)) tt
      | inr is ↦ ReadsAs-reason meaning (assembly_unread fault) (assembly_read items) (ap (told assembly_unread) is) code says
    ]

-- a refusal of the parser is what the text is read as
pub text_refused : {X : Type 0} (meaning : X → List Item) (text : List ℕ) (fault : ParseFault) (code : Unread) → TellsText fault text → IsReason (parse_unread fault) code → (fault ≡ NoMemory → code ≡ OutOfMemory) → ReadsAs meaning (items_read text) (Err code)
text_refused meaning text (Syntax line column kind) code tells says wants =
    ReadsAs-reason meaning (parse_unread (Syntax line column kind)) (items_read text) (ap (told syntax_unread) (text_reading-faulty text (record { line = line; column = column; kind = kind }) tells)) code says
text_refused meaning text NoMemory code tells says wants =
    subst (λ (c : Unread). ReadsAs meaning (items_read text) (Err c)) (sym (wants refl)) tt

-- both steps of the reading of a text
pub text_read-err : {X Y : Type 0} (meaning : X → List Item) (other : Y → Assembly) (text : List ℕ) (code : Unread) → ReadsAs meaning (items_read text) (Err code) → ReadsAs other (text_read text) (Err code)
text_read-err meaning other text TooMuch told = ap (λ (r : Result (List Item) ReadNothing). r >>= assembly_read) told
text_read-err meaning other text (Faulty fault) told = ap (λ (r : Result (List Item) ReadNothing). r >>= assembly_read) told
text_read-err meaning other text OutOfMemory told = tt

-- a program is shown as the one list of items that it disassembles into
pub items_of-only : (p : Listing) (items : List Item) → Disassembles p.words p.start p.end p.builtins.output p.builtins.range items → items ≡ items_of p
unfolding items_of
items_of-only p items is =
    is.lines_are
    ∙ ap (λ (bs : List Body). on_lines 1 (directives p.start p.end p.builtins.output p.builtins.range ++ bs)) (shown_as_one p.words is.statements (shown_bodies p.words) is.shown (shown_bodies-shown p.words))

-- and it disassembles into them
pub Disassembles-items_of : (p : Listing) → Disassembles p.words p.start p.end p.builtins.output p.builtins.range (items_of p)
unfolding items_of
Disassembles-items_of p = record {
  statements = shown_bodies p.words;
  shown = shown_bodies-shown p.words;
  lines_are = refl;
}

-- the same by the parts of a program
pub items_shown : (p : Listing) (words : List Felt) (start end : ℕ) (builtins : Builtins) (items : List Item) → words ≡ p.words → start ≡ p.start → end ≡ p.end → builtins ≡ p.builtins → Disassembles words start end builtins.output builtins.range items → items ≡ items_of p
items_shown p words start end builtins items words_are start_is end_is builtins_are is =
    items_of-only p items
    (subst (λ (b : Builtins). Disassembles p.words p.start p.end b.output b.range items) builtins_are
    (subst (λ n. Disassembles p.words p.start n builtins.output builtins.range items) end_is
    (subst (λ n. Disassembles p.words n end builtins.output builtins.range items) start_is
    (subst (λ (w : List Felt). Disassembles w start end builtins.output builtins.range items) words_are is))))
