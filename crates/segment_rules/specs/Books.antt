-- The laws that the rules of a run keep.
use Rattle.std.specs.Prelude.{ℕ, Bool, true, Option, Some, None, option_map}
use Rattle.segment_rules.specs.declared.Builtin.{Builtin}
use Rattle.segment_rules.specs.declared.Builtin.TheVariants.{Output, RangeCheck}
use Rattle.segment_rules.specs.declared.book.KeptRule.{KeptRule}
use Rattle.segment_rules.specs.declared.book.RuleBook.{RuleBook}
use Rattle.segment_rules.specs.Laws.{Law, law_of, allows}

-- The law of each builtin's segment, where it has one. Own.
pub record Laws : Type 0 where
  pub output : Option Law
  pub range : Option Law

-- No law for any segment. Own.
abbrev pub no_laws : Laws
no_laws = record { output = None; range = None }

-- The law of this builtin's segment. Own.
unfoldable pub law_for : Builtin → Laws → Option Law
law_for Output laws = laws.output
law_for RangeCheck laws = laws.range

-- The same laws, but with this one for this builtin's segment. Own.
unfoldable pub with_law : Builtin → Law → Laws → Laws
with_law Output law laws = record { output = Some law; range = laws.range }
with_law RangeCheck law laws = record { output = laws.output; range = Some law }

-- Whether the cells of a segment may hold the number: where it has no law, or its law allows it. Own.
unfoldable pub permits : Option Law → ℕ → Bool
permits None number = true
permits (Some law) number = allows law number

-- The law that the closure of a rule answers. Own.
abbrev pub kept_law : {T : _} {F : _} {g : _} → KeptRule T F g → Law
kept_law rule = law_of rule.law

-- The laws of the rules in a book. Own.
abbrev pub laws_of : {T : _} {F : _} {g : _} → RuleBook T F g → Laws
laws_of book = record { output = option_map kept_law book.output; range = option_map kept_law book.range }
