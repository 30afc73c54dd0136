-- What is at the names of files after some of them were written.
use Rattle.std.proofs.Common.{◌≡◌, ℕ, Bool, true, false, cond, List, [], ◌∷◌, map, Some, refl, sym, ap, ◌∙◌, true≢false}
use Rattle.std.specs.List.{list_any}
use Rattle.std.specs.Str.{bytes_eq}
use Rattle.std.specs.Cmp.Lexicographic.{nat_list_cmp_total}
use Rattle.std.specs.FinMap.{insert, get-insert}
use Rattle.std.proofs.lemmas.Bool.{or_parts}
use Rattle.std.proofs.lemmas.Cmp.{eq_by_cmp_equiv}
use Rattle.std.proofs.lemmas.Map.Text.{is_eq-slice_cmp}
use Rattle.std.proofs.lemmas.Slice.Eq.{bytes_eq-Decides}
use Rattle.file_port.specs.Files.{Name, Files, file_at}
use Rattle.command_frame.specs.Answer.{written}

-- the file that was written last has its bytes
pub held_last : (files : Files) (name : Name) (bytes : List ℕ) → file_at (insert files name bytes) name ≡ Some bytes
held_last files name bytes =
    get-insert nat_list_cmp_total files name bytes name
    ∙ ap (λ (b : Bool). cond b (Some bytes) (file_at files name)) ((eq_by_cmp_equiv nat_list_cmp_total).refl name)

-- a file of another name has those from before
pub held_apart : (files : Files) (name other : Name) (bytes : List ℕ) → bytes_eq other name ≡ false → file_at (insert files name bytes) other ≡ file_at files other
held_apart files name other bytes apart =
    get-insert nat_list_cmp_total files name bytes other
    ∙ ap (λ (b : Bool). cond b (Some bytes) (file_at files other)) (is_eq-slice_cmp other name ∙ apart)

-- names that differ one way differ the other way
pub differ_either_way : (one other : Name) → bytes_eq one other ≡ false → bytes_eq other one ≡ false
differ_either_way one other apart = by (bytes_eq other one) refl
  where
    by : (b : Bool) → bytes_eq other one ≡ b → bytes_eq other one ≡ false
    by false told = told
    by true told = absurd (true≢false (sym ((bytes_eq-Decides one other).1 (sym ((bytes_eq-Decides other one).0 told))) ∙ apart))

-- a file that has none of the names that are written is as before
pub held_after : (writes : List (Name × List ℕ)) (files : Files) (name : Name) → list_any (λ other. bytes_eq other name) (map (λ write. write.0) writes) ≡ false → file_at (written writes files) name ≡ file_at files name
held_after [] files name none = refl
held_after (write ∷ writes) files name none =
    let parts = or_parts (bytes_eq write.0 name) (list_any (λ other. bytes_eq other name) (map (λ later. later.0) writes)) none in
    held_after writes (insert files write.0 write.1) name parts.1
    ∙ held_apart files write.0 name write.1 (differ_either_way write.0 name parts.0)

-- a file that is written has its bytes, where no later one has its name
pub held_written : (name : Name) (bytes : List ℕ) (writes : List (Name × List ℕ)) (files : Files) → list_any (λ other. bytes_eq other name) (map (λ write. write.0) writes) ≡ false → file_at (written ((name, bytes) ∷ writes) files) name ≡ Some bytes
held_written name bytes writes files none = held_after writes (insert files name bytes) name none ∙ held_last files name bytes
