-- Which ids a set of texts holds.
use Rattle.std.specs.Prelude.{ℕ, List}
use Rattle.std.specs.BTreeSet as sorted
use Rattle.std.specs.BTreeSet.{BTreeSet}
use Rattle.std.specs.Cmp.Lexicographic.{slice_cmp}
use Rattle.std.specs.Ordering.{nat_cmp}
use denote.Ref.{Bor}
use Rattle.sm_merge.specs.Meaning.{Defined}
use Rattle.sm_merge.specs.declared.names.Names.{Names}

abbrev pub has_text : BTreeSet (Bor (List ℕ)) → Defined
has_text set id = sorted.contains_by (λ k. slice_cmp nat_cmp id k.now) set

abbrev pub known : Names → Defined
known names id = has_text names.ids id
