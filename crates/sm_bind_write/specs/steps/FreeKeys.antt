-- Keys of a map of queries, up to the first that something else names.
use Rattle.std.specs.Prelude.{◌++◌, ℕ, Bool, not, List, []}
use Rattle.std.specs.List.{prefix_len}
use Rattle.sm_tree.specs.declared.path.Step.{Step}
use Rattle.sm_tree.specs.declared.path.Step.TheVariants.{Key}
use Rattle.sm_shapes.specs.Places.{Place}
use Rattle.sm_shapes.specs.TableData.{TableData}
use Rattle.sm_shapes.specs.Values.{EntryVals, entry, no_entries}
use Rattle.sm_codec.specs.Written.{paths_under}
use Rattle.sm_part_texts.specs.CarriedTexts.{uncarried_query}

-- how many keys stand before the first that passes a test
abbrev pub keys_before : (List ℕ → Bool) → List (List ℕ) → ℕ
keys_before test keys = prefix_len (λ key. not (test key)) keys

-- what isn't carried under keys that nothing else names
abbrev pub free_failing : TableData → Place → EntryVals → List (List Step)
free_failing t p no_entries = []
free_failing t p (entry key v es) = paths_under (Key key) (uncarried_query t p v) ++ free_failing t p es
