use Rattle.std.proofs.Common.{◌≡◌, ◌∙◌, ap, sym}
use Rattle.program_file.specs.Listing.{listing}
use Rattle.public_input.specs.Statement.{statement}
use Rattle.table_file.specs.Tables.{contents}
use Rattle.memory_columns.specs.Equations.{first_memory_fault}
use Rattle.access_lists.specs.Accesses.{accesses as all_accesses}
use Rattle.constraint_checker.specs.Lists.{accesses}
use Rattle.constraint_checker.proofs.Groups.{of_list_fault, memory_by_fault}
use Rattle.constraint_checker.proofs.checking.verdict_on_memory.Goals as goal

pub returns-in-Some : goal.returns-in-Some
returns-in-Some c =
    let fault_is : c.in_ok-fault.field-0 ≡ first_memory_fault (accesses (listing c.args.program.now) (statement c.args.public.now) (contents c.args.tables.now)) c.args.tables.now.memory.sorted.items =
    c.in_ok-fault.ensures.fault
    ∙ (ap (λ xs. first_memory_fault xs c.deref.result.now) (c.in_ok-accesses.ensures ∙ ap all_accesses c.accessing.ensures)
    ∙ ap (first_memory_fault (accesses (listing c.args.program.now) (statement c.args.public.now) (contents c.args.tables.now))) c.deref.ensures.value) in
    c.refused.ensures ∙ sym (memory_by_fault (accesses (listing c.args.program.now) (statement c.args.public.now) (contents c.args.tables.now)) c.args.tables.now.memory.sorted.items ∙ ap of_list_fault (sym fault_is ∙ c.in-Some.is))

pub returns-in-None : goal.returns-in-None
returns-in-None c =
    let fault_is : c.in_ok-fault.field-0 ≡ first_memory_fault (accesses (listing c.args.program.now) (statement c.args.public.now) (contents c.args.tables.now)) c.args.tables.now.memory.sorted.items =
    c.in_ok-fault.ensures.fault
    ∙ (ap (λ xs. first_memory_fault xs c.deref.result.now) (c.in_ok-accesses.ensures ∙ ap all_accesses c.accessing.ensures)
    ∙ ap (first_memory_fault (accesses (listing c.args.program.now) (statement c.args.public.now) (contents c.args.tables.now))) c.deref.ensures.value) in
    sym (memory_by_fault (accesses (listing c.args.program.now) (statement c.args.public.now) (contents c.args.tables.now)) c.args.tables.now.memory.sorted.items ∙ ap of_list_fault (sym fault_is ∙ c.in-None.is))
