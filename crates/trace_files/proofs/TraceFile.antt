-- What the bytes of a trace file spell, and what is wrong with others.
use Rattle.std.proofs.Common.{◌≡◌, ◌≢◌, ◌⊎◌, inl, inr, ℕ, ◌+◌, ◌*◌, ◌<◌, ◌≤◌, ◌/◌, ◌%◌, Bool, nat_lt, cond, List, ◌∷◌, ◌++◌, length, take, drop, map, refl, sym, ap, ◌∙◌, append_assoc, arith, length-append, take-add, subst}
use Rattle.std.proofs.lemmas.List.{drop-drop, length-map}
use Rattle.std.proofs.lemmas.Simd.{map-map}
use Rattle.casm_word.specs.declared.State.{State}
use Rattle.casm_word.specs.Transition.{Registers, registers}
use Rattle.std.proofs.Common.{true, false, Some, None, Ok, Err, Option, Result, MatchOption, MatchResult, []}
use Rattle.std.proofs.Math.Seq.{take-length}
use Rattle.std.proofs.lemmas.Bool.{and_from, and_parts, ltb-true, ltb-false, lt-ltb, le-ltb, leb-true, le-leb, leb-false, eqb-true, eqb-false, eq-eqb, and_cases, false_from_ne_true}
use Rattle.std.specs.List.{flat_map, range_with_len, AllByRecursion}
use Rattle.std.proofs.lemmas.List.FromFn.{length-map-range_with_len}
use Rattle.goldilocks.specs.Field.{prime}
use Rattle.file_records.specs.Numbers.{number_bytes, number_at}
use Rattle.trace_files.specs.declared.fault.FileFault.{FileFault}
use Rattle.trace_files.specs.declared.fault.FileFault.TheVariants.{TooMany, Length, NotField, Order, Memory}
use Rattle.file_records.specs.Numbers.{AreNumbersBefore, IsFirstNotField, first_not_field}
use Rattle.trace_files.specs.TraceFile.{trace_limit, state_bytes, state_at, IsState, states_in, trace_bytes, state_limit, SpellsTrace, HasTraceLength, IsTraceFault, has_states, states_unless, trace_reading}
use Rattle.std.specs.Int.{w64, from_le_bytes}
use Rattle.file_records.specs.Numbers.{numbers_bytes}
use Rattle.file_records.specs.Records.{records_in, value_of_bytes, trace_state_values, trace_state_of_values, trace_state_of_bytes}
use Rattle.file_records.proofs.RecordLists.{flat_map-flat_map}
use Rattle.trace_files.proofs.Chunks.{low_number_in_chunk}
use Rattle.file_records.proofs.Layouts.{IsLayout, length-spelled, spelled_back, found_again, AllByRecursion-map_range, records_at, same_map_range}
use Rattle.file_records.proofs.FileNumbers.{number_finds, numbers_stand, first_not_field-told, first_not_field-none, first_not_field-some}

-- 24 bytes are three times eight
thirds : {X : Type 0} (p : ℕ) (bytes : List X) → take 24 (drop p bytes) ≡ take 8 (drop p bytes) ++ take 8 (drop (p + 8) bytes) ++ take 8 (drop (p + 16) bytes)
thirds p bytes =
    take-add 16 8 (drop p bytes) ∙ rw (take-add 8 8 (drop p bytes), drop-drop, drop-drop) refl

-- a state whose three numbers are of the field spells its bytes
state_reads : (bytes : List ℕ) → AreNumbersBefore bytes (length bytes) → (i : ℕ) → 24 * i + 24 ≤ length bytes → state_bytes (state_at bytes i) ≡ take 24 (drop (24 * i) bytes)
unfolding state_at
state_reads bytes numbers i fits =
    let ap_reads = sym (numbers (24 * i) (omega arith) (omega arith)).own in
    let fp_reads = sym (numbers (24 * i + 8) (omega arith) (omega arith)).own in
    let pc_reads = sym (numbers (24 * i + 16) (omega arith) (omega arith)).own in
    ap (λ x. x ++ number_bytes (number_at bytes (24 * i + 8)) ++ number_bytes (number_at bytes (24 * i + 16))) ap_reads
    ∙ ap (λ x. take 8 (drop (24 * i) bytes) ++ x ++ number_bytes (number_at bytes (24 * i + 16))) fp_reads
    ∙ ap (λ x. take 8 (drop (24 * i) bytes) ++ take 8 (drop (24 * i + 8) bytes) ++ x) pc_reads
    ∙ sym (thirds (24 * i) bytes)

state_fits : (bytes : List ℕ) → AreNumbersBefore bytes (length bytes) → (i : ℕ) → 24 * i + 24 ≤ length bytes → IsState (state_at bytes i)
unfolding state_at
state_fits bytes numbers i fits = record {
  pc = (numbers (24 * i + 16) (omega arith) (omega arith)).below;
  ap = (numbers (24 * i) (omega arith) (omega arith)).below;
  fp = (numbers (24 * i + 8) (omega arith) (omega arith)).below;
}

same_state : (s : Registers) (pc ap fp : ℕ) → pc ≡ s.pc → ap ≡ s.ap → fp ≡ s.fp → ◌≡◌ {A = Registers} (record { pc = pc; ap = ap; fp = fp }) s
same_state s pc ap fp p a f = λ i. record { pc = p i; ap = a i; fp = f i }

state_finds : (front : List ℕ) (s : Registers) (rest : List ℕ) (i : ℕ) → IsState s → length front ≡ 24 * i → state_at (front ++ (state_bytes s ++ rest)) i ≡ s
unfolding state_at
state_finds front s rest i fits at =
    let ap_is : number_at (front ++ (state_bytes s ++ rest)) (24 * i) ≡ s.ap = number_finds front s.ap (number_bytes s.fp ++ (number_bytes s.pc ++ rest)) (24 * i) (omega (arith, fits.ap)) at in
    let fp_is : number_at (front ++ (state_bytes s ++ rest)) (24 * i + 8) ≡ s.fp =
    ap (λ bytes. number_at bytes (24 * i + 8)) (sym (append_assoc front (number_bytes s.ap) (number_bytes s.fp ++ (number_bytes s.pc ++ rest))))
    ∙ number_finds (front ++ number_bytes s.ap) s.fp (number_bytes s.pc ++ rest) (24 * i + 8) (omega (arith, fits.fp)) (omega (arith, length-append front (number_bytes s.ap))) in
    let pc_is : number_at (front ++ (state_bytes s ++ rest)) (24 * i + 16) ≡ s.pc =
    ap (λ bytes. number_at bytes (24 * i + 16)) (sym (append_assoc front (number_bytes s.ap ++ number_bytes s.fp) (number_bytes s.pc ++ rest)))
    ∙ number_finds (front ++ (number_bytes s.ap ++ number_bytes s.fp)) s.pc rest (24 * i + 16) (omega (arith, fits.pc)) (omega (arith, length-append front (number_bytes s.ap ++ number_bytes s.fp))) in
    same_state s _ _ _ pc_is ap_is fp_is

state_layout : IsLayout 24 state_at state_bytes IsState
state_layout = record { width = λ s. refl; finds = state_finds }

-- as many states as the bytes have places
pub length-spelled_trace : (bytes : List ℕ) (states : List Registers) → SpellsTrace bytes states → length bytes ≡ 24 * length states
length-spelled_trace bytes states spells = ap length spells.parts ∙ length-spelled 24 state_bytes (λ s. refl) states

-- the states at their places are the ones that the bytes spell
states_in-spelled : (bytes : List ℕ) (states : List Registers) → SpellsTrace bytes states → states_in bytes ≡ states
unfolding states_in
states_in-spelled bytes states spells =
    let count : length bytes / 24 ≡ length states = omega (arith, length-spelled_trace bytes states spells) in
    rw count (ap (λ b. map (state_at b) (range_with_len 0 (length states))) spells.parts ∙ found_again 24 state_at state_bytes IsState state_layout [] 0 states spells.numbers refl)

-- bytes spell one trace at most
pub trace_is_unique : (bytes : List ℕ) (s t : List Registers) → SpellsTrace bytes s → SpellsTrace bytes t → s ≡ t
trace_is_unique bytes s t one other = sym (states_in-spelled bytes s one) ∙ states_in-spelled bytes t other

length-states_in : (bytes : List ℕ) → length (states_in bytes) ≡ length bytes / 24
unfolding states_in
length-states_in bytes = length-map-range_with_len (state_at bytes) 0 (length bytes / 24)

-- so many bytes, each eight of which are a number of the field, spell the states at their places
pub SpellsTrace-from_numbers : (bytes : List ℕ) → HasTraceLength bytes → AreNumbersBefore bytes (length bytes) → SpellsTrace bytes (states_in bytes)
unfolding states_in
SpellsTrace-from_numbers bytes size numbers = record {
  parts = sym (spelled_back 24 state_at state_bytes bytes (state_reads bytes numbers) 0 (length bytes / 24) (omega arith) ∙ (let all : 24 * (length bytes / 24) ≡ length bytes = omega (arith, size.whole) in rw all (take-length bytes)));
  least = omega (arith, length-states_in bytes, size.least);
  most = omega (arith, length-states_in bytes, size.most);
  numbers = AllByRecursion-map_range IsState (state_at bytes) 0 (length bytes / 24) (λ i from within. state_fits bytes numbers i (omega arith));
}

-- the numbers of states, in the order in which they are written
abbrev state_numbers : Registers → List ℕ
state_numbers s = s.ap ∷ s.fp ∷ s.pc ∷ []

state_numbers-fit : (states : List Registers) → AllByRecursion IsState states → AllByRecursion (λ n. n < prime) (flat_map state_numbers states)
state_numbers-fit [] fit = tt
state_numbers-fit (s ∷ rest) fit = (fit.0.ap, (fit.0.fp, (fit.0.pc, state_numbers-fit rest fit.1)))

-- the numbers of bytes that spell states are of the field
numbers_of_spelled : (bytes : List ℕ) (states : List Registers) → SpellsTrace bytes states → AreNumbersBefore bytes (length bytes)
numbers_of_spelled bytes states spells =
    subst (λ b. AreNumbersBefore b (length b)) (sym (spells.parts ∙ sym (flat_map-flat_map number_bytes state_numbers states)))
    (numbers_stand (flat_map state_numbers states) (state_numbers-fit states spells.numbers))

has_states-true : (size : ℕ) → size % 24 ≡ 0 → 48 ≤ size → has_states size ≡ true
has_states-true size whole least = and_from _ _ (eq-eqb _ _ whole) (le-leb _ _ least)

has_states-false : (size : ℕ) → (size % 24 ≢ 0) ⊎ (size < 48) → has_states size ≡ false
has_states-false size wrong = false_from_ne_true _ (λ (holds : has_states size ≡ true).
    let both = and_parts _ _ holds in
    elim wrong [
      | inl ragged ↦ ragged (eqb-true _ _ both.0)
      | inr few ↦ absurd (omega (arith, leb-true 48 size both.1))
    ])

-- bytes that spell states are read as these
pub trace_reading-spelled : (bytes : List ℕ) (states : List Registers) → SpellsTrace bytes states → trace_reading bytes ≡ Ok states
unfolding trace_reading
trace_reading-spelled bytes states spells =
    let size = length-spelled_trace bytes states spells in
    let short = le-ltb trace_limit (length bytes) (omega (arith, spells.most)) in
    let whole = has_states-true (length bytes) (omega arith) (omega (arith, spells.least)) in
    let numbers = first_not_field-none bytes (omega arith) (numbers_of_spelled bytes states spells) in
    rw (short, whole, numbers, states_in-spelled bytes states spells) refl

-- bytes with a fault are read as this fault
pub trace_reading-fault : (bytes : List ℕ) (fault : FileFault) → IsTraceFault bytes fault → trace_reading bytes ≡ Err fault
unfolding trace_reading
trace_reading-fault bytes TooMany is = rw (lt-ltb trace_limit (length bytes) is) refl
trace_reading-fault bytes Length is =
    rw (le-ltb trace_limit (length bytes) is.0, has_states-false (length bytes) is.1) refl
trace_reading-fault bytes (NotField place) is =
    let short = le-ltb trace_limit (length bytes) is.0.most in
    let whole = has_states-true (length bytes) is.0.whole is.0.least in
    let first = first_not_field-some bytes (omega (arith, is.0.whole)) place is.1 in
    rw (short, whole, first) refl
trace_reading-fault bytes (Order place) is = absurd is
trace_reading-fault bytes Memory is = absurd is

-- what the bytes are read as is what they spell, or their fault
abbrev TellsTrace : List ℕ → Result (List Registers) FileFault → Type 0
TellsTrace bytes reading = MatchResult reading (SpellsTrace bytes) (IsTraceFault bytes)

told_numbers : (bytes : List ℕ) → HasTraceLength bytes → (o : Option ℕ) → MatchOption o (AreNumbersBefore bytes (length bytes)) (IsFirstNotField bytes) → TellsTrace bytes (states_unless o (states_in bytes))
told_numbers bytes size None numbers = SpellsTrace-from_numbers bytes size numbers
told_numbers bytes size (Some place) first = (size, first)

ragged_or_few : (size : ℕ) → has_states size ≡ false → (size % 24 ≢ 0) ⊎ (size < 48)
ragged_or_few size fails =
    elim (and_cases _ _ fails) [
      | inl ragged ↦ inl (eqb-false _ _ ragged)
      | inr few ↦ inr (leb-false 48 size few)
    ]

told_length : (bytes : List ℕ) → length bytes ≤ trace_limit → (whole : Bool) → has_states (length bytes) ≡ whole → TellsTrace bytes (cond whole (states_unless (first_not_field bytes) (states_in bytes)) (Err Length))
told_length bytes short true is =
    let both = and_parts _ _ is in
    let size : HasTraceLength bytes = record { least = leb-true 48 (length bytes) both.1; most = short; whole = eqb-true _ _ both.0 } in
    told_numbers bytes size (first_not_field bytes) (first_not_field-told bytes (omega (arith, size.whole)))
told_length bytes short false is = (short, ragged_or_few (length bytes) is)

told_limit : (bytes : List ℕ) (over : Bool) → nat_lt trace_limit (length bytes) ≡ over → TellsTrace bytes (cond over (Err TooMany) (cond (has_states (length bytes)) (states_unless (first_not_field bytes) (states_in bytes)) (Err Length)))
told_limit bytes true is = ltb-true trace_limit (length bytes) is
told_limit bytes false is = told_length bytes (ltb-false trace_limit (length bytes) is) (has_states (length bytes)) refl

pub trace_reading-told : (bytes : List ℕ) → TellsTrace bytes (trace_reading bytes)
unfolding trace_reading
trace_reading-told bytes = told_limit bytes (nat_lt trace_limit (length bytes)) refl

pub SpellsTrace-from_reading : (bytes : List ℕ) (states : List Registers) → trace_reading bytes ≡ Ok states → SpellsTrace bytes states
SpellsTrace-from_reading bytes states read = subst (TellsTrace bytes) read (trace_reading-told bytes)

pub IsTraceFault-from_reading : (bytes : List ℕ) (fault : FileFault) → trace_reading bytes ≡ Err fault → IsTraceFault bytes fault
IsTraceFault-from_reading bytes fault read = subst (TellsTrace bytes) read (trace_reading-told bytes)

-- bytes that spell states have no fault
pub trace_has_no_fault : (bytes : List ℕ) (states : List Registers) (fault : FileFault) → SpellsTrace bytes states → IsTraceFault bytes fault → ⊥
trace_has_no_fault bytes states fault spells is =
    let both : ◌≡◌ {A = Result (List Registers) FileFault} (Ok states) (Err fault) = sym (trace_reading-spelled bytes states spells) ∙ trace_reading-fault bytes fault is in
    cc

-- where bytes spell states, a fault can only be want of memory
pub trace_fault_all : (bytes : List ℕ) (fault : FileFault) → IsTraceFault bytes fault → (states : List Registers) → SpellsTrace bytes states → fault ≡ Memory
trace_fault_all bytes fault told states spells = absurd (trace_has_no_fault bytes states fault spells told)

-- a number that is none of the field is the fault of the trace
pub trace_fault : (bytes : List ℕ) (place : ℕ) (fault : FileFault) → HasTraceLength bytes → fault ≡ NotField place → IsFirstNotField bytes place → IsTraceFault bytes fault
trace_fault bytes place fault size told first = subst (IsTraceFault bytes) (sym told) (size, first)

-- the numbers before the end are all of them
pub numbers_end : (bytes : List ℕ) (k : ℕ) → HasTraceLength bytes → length bytes / 8 ≤ k → AreNumbersBefore bytes (8 * k) → AreNumbersBefore bytes (length bytes)
numbers_end bytes k size end numbers = λ place lower eighth. numbers place (omega (arith, size.whole)) eighth

-- ---- the records of a trace file

state_there : (bytes : List ℕ) → AreNumbersBefore bytes (length bytes) → (i : ℕ) → 24 * i + 24 ≤ length bytes → registers (trace_state_of_bytes (take 24 (drop (24 * i) bytes))) ≡ state_at bytes i
unfolding registers trace_state_of_bytes trace_state_of_values records_in value_of_bytes state_at
state_there bytes numbers i fits =
    let chunk = take 24 (drop (24 * i) bytes) in
    let a : number_at chunk 0 % prime ≡ number_at bytes (24 * i) = low_number_in_chunk 24 (24 * i) 0 (24 * i) bytes (omega arith) (omega arith) (numbers (24 * i) (omega arith) (omega arith)).below in
    let f : number_at chunk 8 % prime ≡ number_at bytes (24 * i + 8) = low_number_in_chunk 24 (24 * i) 8 (24 * i + 8) bytes (omega arith) refl (numbers (24 * i + 8) (omega arith) (omega arith)).below in
    let c : number_at chunk 16 % prime ≡ number_at bytes (24 * i + 16) = low_number_in_chunk 24 (24 * i) 16 (24 * i + 16) bytes (omega arith) refl (numbers (24 * i + 16) (omega arith) (omega arith)).below in
    let third : from_le_bytes w64 (take 8 (drop 8 (drop 8 chunk))) % prime ≡ number_at chunk 16 % prime = ap (λ xs. from_le_bytes w64 (take 8 xs) % prime) (drop-drop 8 8 chunk) in
    same_state (record { pc = number_at bytes (24 * i + 16); ap = number_at bytes (24 * i); fp = number_at bytes (24 * i + 8) }) _ _ _ (third ∙ c) a f

-- the records that are read are the states at their places
pub states_are_read : (bytes : List ℕ) (n : ℕ) (states : List State) → AreNumbersBefore bytes (length bytes) → n ≡ length bytes / 24 → states ≡ records_in 24 trace_state_of_bytes n bytes → map registers states ≡ states_in bytes
unfolding states_in
states_are_read bytes n states numbers count same =
    let listed : map registers states ≡ map registers (map (λ i. trace_state_of_bytes (take 24 (drop (24 * i) bytes))) (range_with_len 0 n)) = ap (λ xs. map registers xs) (same ∙ records_at 24 trace_state_of_bytes n 0 bytes) in
    let placed : map (λ i. registers (trace_state_of_bytes (take 24 (drop (24 * i) bytes)))) (range_with_len 0 n) ≡ map (state_at bytes) (range_with_len 0 n) = same_map_range (λ i. registers (trace_state_of_bytes (take 24 (drop (24 * i) bytes)))) (state_at bytes) 0 n (λ i from within. state_there bytes numbers i (omega arith)) in
    listed ∙ (rw map-map (placed ∙ ap (λ m. map (state_at bytes) (range_with_len 0 m)) count))

pub SpellsTrace-read : (bytes : List ℕ) (n : ℕ) (states : List State) → AreNumbersBefore bytes (length bytes) → n ≡ length bytes / 24 → states ≡ records_in 24 trace_state_of_bytes n bytes → SpellsTrace bytes (states_in bytes) → SpellsTrace bytes (map registers states)
SpellsTrace-read bytes n states numbers count same spells =
    subst (SpellsTrace bytes) (sym (states_are_read bytes n states numbers count same)) spells

-- the registers of the code's states are numbers of the field
pub states_fit : (states : List State) → AllByRecursion IsState (map registers states)
unfolding registers
states_fit [] = tt
states_fit (s ∷ rest) = (record { pc = s.pc.in_field; ap = s.ap.in_field; fp = s.fp.in_field }, states_fit rest)

-- written states are spelled
pub SpellsTrace-written : (states : List Registers) → 2 ≤ length states → length states ≤ state_limit → AllByRecursion IsState states → SpellsTrace (trace_bytes states) states
SpellsTrace-written states least most fit = record { parts = refl; least = least; most = most; numbers = fit }

-- the records that are written are the states
pub trace_bytes-written : (states : List State) → flat_map (λ s. numbers_bytes (trace_state_values (registers s))) states ≡ trace_bytes (map registers states)
trace_bytes-written [] = refl
trace_bytes-written (s ∷ rest) = ap (λ bytes. numbers_bytes (trace_state_values (registers s)) ++ bytes) (trace_bytes-written rest)

pub SpellsTrace-of_states : (states : List State) (bytes : List ℕ) → bytes ≡ trace_bytes (map registers states) → 2 ≤ length states → length states ≤ state_limit → SpellsTrace bytes (map registers states)
SpellsTrace-of_states states bytes written least most =
    let size : length (map registers states) ≡ length states = simp (length-map) refl in
    subst (λ b. SpellsTrace b (map registers states)) (sym written)
    (SpellsTrace-written (map registers states) (omega arith) (omega arith) (states_fit states))
