-- The columns that the code sorts are those of the run.
use Rattle.std.proofs.Common.{◌≡◌, ℕ, ◌<◌, ◌≤◌, ◌∙◌, List, [], length, map, Some, None, sym, ap, ap₂, if◌then◌else◌, arith}
use Rattle.std.specs.Prelude.{IfSome}
use Rattle.std.proofs.lemmas.Bool.{lt-ltb, le-ltb}
use Rattle.std.proofs.lemmas.List.{length-map}
use Rattle.goldilocks.specs.declared.Felt.{Felt}
use Rattle.goldilocks.specs.declared.Pair.{Pair}
use Rattle.goldilocks.specs.Felts.{felt}
use Rattle.casm_word.specs.Transition.{Memory}
use Rattle.program_file.specs.Listing.{Listing}
use Rattle.public_input.specs.Statement.{Statement}
use Rattle.memory_columns.specs.Filling.{Spans, AreFillers, IsCause, unaccessed, numbers_of, filler_at, filler_limit}
use Rattle.memory_columns.specs.declared.fault.SortFault.{SortFault}
use Rattle.memory_columns.specs.declared.fault.SortFault.TheVariants as sorting
use Rattle.memory_columns.proofs.Fillings.{map-map}
use Rattle.cpu_rows.specs.declared.Row.{Row}
use Rattle.range_columns.specs.declared.RangeRow.{RangeRow}
use Rattle.goldilocks.specs.Cells.{cell, addresses}
use Rattle.table_builder.specs.Columns.{least_of, greatest_of, reads_of, cells_at, free_addresses}
use Rattle.table_builder.specs.Findings.{TooWide, finding_of, build_fault, width_finding}
use Rattle.table_builder.proofs.Kept.{felts_kept, cells_kept}
use Rattle.table_builder.proofs.Counts.{length-accesses}
use Rattle.table_builder.proofs.Spans.{spans_least, spans_greatest}

-- two numbers as a cell
abbrev as_pair : ℕ × ℕ → Pair
as_pair p = cell (felt p.0) (felt p.1)

cells_from_numbers : (m : Memory) (fill : List Pair) (free : List ℕ) → map numbers_of fill ≡ map (filler_at m) free → fill ≡ cells_at m free
unfolding cells_at
cells_from_numbers m fill free is = sym (cells_kept fill) ∙ (ap (map as_pair) is ∙ map-map as_pair (filler_at m) free)

free_between : (cells : List Pair) (low high : ℕ) → Spans cells low high → free_addresses cells ≡ unaccessed cells low high
unfolding free_addresses
free_between cells low high spans = ap₂ (λ l h. unaccessed cells l h) (spans_least cells low high spans) (spans_greatest cells low high spans)

module _ (m : Memory) (accessed fill : List Pair) (are : AreFillers m accessed fill) where
  pub fillers_built : fill ≡ cells_at m (free_addresses accessed)
  fillers_built = cells_from_numbers m fill (free_addresses accessed) (are.fillers ∙ ap (map (filler_at m)) (sym (free_between accessed are.least are.greatest are.spans)))

  pub not_too_wide : length fill ≤ filler_limit → width_finding accessed ≡ None
  unfolding width_finding cells_at
  not_too_wide few =
      let count : length fill ≡ length (free_addresses accessed) = ap length fillers_built ∙ length-map (free_addresses accessed) (λ a. as_pair (filler_at m a)) in
      ap (λ b. if b then Some (TooWide (least_of (addresses accessed)) (greatest_of (addresses accessed))) else None) (le-ltb filler_limit (length (free_addresses accessed)) (omega (arith, count)))

pub too_wide : (accessed : List Pair) (low high : ℕ) → Spans accessed low high → filler_limit < length (unaccessed accessed low high) → width_finding accessed ≡ Some (TooWide low high)
unfolding width_finding
too_wide accessed low high spans many =
    let more : filler_limit < length (free_addresses accessed) = omega (arith, ap length (free_between accessed low high spans)) in
    ap (λ b. if b then Some (TooWide (least_of (addresses accessed)) (greatest_of (addresses accessed))) else None) (lt-ltb filler_limit (length (free_addresses accessed)) more)
    ∙ ap₂ (λ l h. Some (TooWide l h)) (spans_least accessed low high spans) (spans_greatest accessed low high spans)

pub sorting_refuses : (accessed : List Pair) (fault : SortFault) → IsCause accessed fault → IfSome (finding_of (build_fault fault)) (λ told. width_finding accessed ≡ Some told)
unfolding IsCause finding_of
sorting_refuses accessed (sorting.TooWide low high) cause = too_wide accessed low.number high.number cause.0 cause.1
sorting_refuses accessed sorting.Memory cause = tt

pub absent_built : (fill : List Felt) (absent : List ℕ) → map (λ x. x.number) fill ≡ absent → fill ≡ map felt absent
absent_built fill absent is = sym (felts_kept fill) ∙ ap (map felt) is

-- a program has a word, so some cell is accessed
pub some_access : (program : Listing) (public : Statement) (rows : List Row) (range : List RangeRow) → program.start < length program.words → 0 < length (reads_of program public rows range)
some_access program public rows range inside =
    omega (arith, length-accesses (record { rows = rows; range_begin = public.range_begin.number; range_rows = range; words = program.words; public_cells = public.cells; fillers = [] }))
