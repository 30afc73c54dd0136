-- The files of a list, name by name as a search from the front meets them.
use Rattle.std.proofs.Common.{◌≡◌, ℕ, ◌+◌, ◌<◌, List, [], ◌∷◌, length, get_or, ◌≤◌, take, true, false, cond, None, Some, IfSome, Option, String, Global, Vec, string_bytes, slice_get, refl, sym, ap, ◌∙◌, arith, nat_eq, subst}
use Rattle.std.proofs.lemmas.List.{take_more, take_all, length-map}
use Rattle.std.proofs.lemmas.List.Sums.{fold-append}
use Rattle.std.proofs.lemmas.Option.{slice_get_read, slice_get-map, get_or_from_slice_get}
use Rattle.std.specs.Option.{option_map}
use Rattle.std.specs.Ordering.{nat_cmp, eq_by_cmp}
use Rattle.std.specs.Cmp.Lexicographic.{slice_cmp, pointwise, texts_ties, nat_list_cmp_total, nat_list_eq_equiv}
use Rattle.std.specs.FinMap.{empty, insert, get-empty, get-insert}
use Rattle.file_port.specs.Files.{Name, Files, file_at, files_of, named_bytes}
use Rattle.file_port.specs.Kept.{rest_at}

-- an entry as it stands in the list of the specification
abbrev pub named : String Global × Vec ℕ Global → Name × List ℕ
named entry = (string_bytes entry.0, entry.1.items)

pub slice_get-named : (files : List (String Global × Vec ℕ Global)) (i : ℕ) (entry : String Global × Vec ℕ Global)
    → i < length files → entry ≡ get_or files i entry → slice_get (named_bytes files) i ≡ Some (named entry)
slice_get-named files i entry h is =
    slice_get-map named files i ∙ ap (option_map named) (slice_get_read files (length files) i entry refl h is)

one_more : (es : List (Name × List ℕ)) (i : ℕ) (d : Name × List ℕ) (q : Name) → i < length es
    → file_at (files_of (take (i + 1) es)) q
    ≡ cond (eq_by_cmp (slice_cmp nat_cmp) q (get_or es i d).0) (Some (get_or es i d).1) (file_at (files_of (take i es)) q)
one_more es i d q h =
    ap (λ xs. file_at (files_of xs) q) (take_more es i d h)
    ∙ ap (λ (m : Files). file_at m q) (fold-append (λ files entry. insert files entry.0 entry.1) empty (take i es) (get_or es i d ∷ []))
    ∙ get-insert nat_list_cmp_total (files_of (take i es)) (get_or es i d).0 (get_or es i d).1 q

alike : (q name : Name) → eq_by_cmp (slice_cmp nat_cmp) q name ≡ pointwise nat_eq name q
alike q name = sym (texts_ties q name) ∙ nat_list_eq_equiv.symm q name

-- one entry more: it counts where its name is the one that is sought
pub file_at-more : (files : List (String Global × Vec ℕ Global)) (i : ℕ) (entry : String Global × Vec ℕ Global) (q : Name)
    → i < length files → entry ≡ get_or files i entry
    → file_at (files_of (take (i + 1) (named_bytes files))) q
    ≡ cond (pointwise nat_eq (string_bytes entry.0) q) (Some entry.1.items) (file_at (files_of (take i (named_bytes files))) q)
file_at-more files i entry q h is =
    let es = named_bytes files in
    let at : get_or es i (named entry) ≡ named entry = get_or_from_slice_get es i (named entry) (named entry) (slice_get-named files i entry h is) in
    let inside : i < length es = subst (λ n. i < n) (sym (length-map files named)) h in
    one_more es i (named entry) q inside
    ∙ ap (λ (e : Name × List ℕ). cond (eq_by_cmp (slice_cmp nat_cmp) q e.0) (Some e.1) (file_at (files_of (take i es)) q)) at
    ∙ ap (λ b. cond b (Some entry.1.items) (file_at (files_of (take i es)) q)) (alike q (string_bytes entry.0))

-- the first i entries were searched, and the last of them with the name was found
pub record HeldSoFar (files : List (String Global × Vec ℕ Global)) (q : Name) (i : ℕ) (last : Option ℕ) : Type 0 where
  pub held : file_at (files_of (take i (named_bytes files))) q ≡ option_map (λ k. rest_at (slice_get (named_bytes files) k) 0) last
  pub within : IfSome last (λ k. k < i)

within_more : (last : Option ℕ) (i n : ℕ) → i ≤ n → IfSome last (λ k. k < i) → IfSome last (λ k. k < n)
within_more None i n h b = tt
within_more (Some k) i n h b = omega arith

pub held_none : (files : List (String Global × Vec ℕ Global)) (q : Name) → HeldSoFar files q 0 None
held_none files q = record { held = get-empty (slice_cmp nat_cmp) q; within = tt }

pub held_hit : (files : List (String Global × Vec ℕ Global)) (q : Name) (i : ℕ) (entry : String Global × Vec ℕ Global)
    → i < length files → entry ≡ get_or files i entry → pointwise nat_eq (string_bytes entry.0) q ≡ true → HeldSoFar files q (i + 1) (Some i)
held_hit files q i entry h is same = record {
  held =
      file_at-more files i entry q h is
      ∙ ap (λ b. cond b (Some entry.1.items) (file_at (files_of (take i (named_bytes files))) q)) same
      ∙ ap (λ found. Some (rest_at found 0)) (sym (slice_get-named files i entry h is));
  within = omega arith;
}

pub held_miss : (files : List (String Global × Vec ℕ Global)) (q : Name) (i : ℕ) (entry : String Global × Vec ℕ Global) (last : Option ℕ)
    → i < length files → entry ≡ get_or files i entry → pointwise nat_eq (string_bytes entry.0) q ≡ false → HeldSoFar files q i last → HeldSoFar files q (i + 1) last
held_miss files q i entry last h is other so_far = record {
  held =
      file_at-more files i entry q h is
      ∙ ap (λ b. cond b (Some entry.1.items) (file_at (files_of (take i (named_bytes files))) q)) other
      ∙ so_far.held;
  within = within_more last i (i + 1) (omega arith) so_far.within;
}

-- all entries were searched
pub held_all : (files : List (String Global × Vec ℕ Global)) (q : Name) (i : ℕ) (last : Option ℕ) → length files ≤ i → HeldSoFar files q i last
    → file_at (files_of (named_bytes files)) q ≡ option_map (λ k. rest_at (slice_get (named_bytes files) k) 0) last
held_all files q i last h so_far =
    let all : length (named_bytes files) ≤ i = subst (λ n. n ≤ i) (sym (length-map files named)) h in
    ap (λ es. file_at (files_of es) q) (sym (take_all i (named_bytes files) all)) ∙ so_far.held

pub held_within : (files : List (String Global × Vec ℕ Global)) (q : Name) (i : ℕ) (last : Option ℕ) → i ≤ length files → HeldSoFar files q i last
    → IfSome last (λ k. k < length files)
held_within files q i last h so_far = within_more last i (length files) h so_far.within
