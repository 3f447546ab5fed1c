-- The mixins of a shape each once, where they stand first.
use Rattle.std.specs.Prelude.{◌==◌, ◌||◌, ℕ, Bool, false, List, [], ◌∷◌, if◌then◌else◌}
use Rattle.std.specs.BTreeSet as sorted
use Rattle.std.specs.BTreeSet.{BTreeSet}
use Rattle.std.specs.Ordering.{nat_cmp}
use Rattle.sm_merge.specs.declared.mixins.Contributing.{Contributing}

-- those whose numbers weren't seen, but none that a mixin before them has
abbrev pub unseen_mixins : (ℕ → Bool) → List Contributing → List Contributing
unseen_mixins seen [] = []
unseen_mixins seen (c ∷ cs) =
    if seen c.number then unseen_mixins seen cs else c ∷ unseen_mixins (λ n. seen n || (c.number == n)) cs

abbrev pub mixins_once : List Contributing → List Contributing
mixins_once cs = unseen_mixins (λ n. false) cs

-- in the code
abbrev pub has_number : BTreeSet ℕ → ℕ → Bool
has_number set n = sorted.contains_by (λ k. nat_cmp n k) set
