-- Laws of compiling, each the contract of a function of the module `laws`.
use Rattle.std.specs.Prelude.{◌≡◌, ℕ, List, Some}
use Rattle.std.specs.FinMap as fin
use Rattle.sm_ids.specs.IdText.{IsIdText}
use Rattle.sm_tree.specs.Node.{Node}
use Rattle.sm_tree.specs.Json.{IsJson}
use Rattle.sm_model.specs.Graphs.{Entry, GraphMaps, shape_entry, member_entry}
use Rattle.sm_shapes.specs.Fitting.{Test}
use Rattle.sm_shapes.specs.TableData.{TableData}
use Rattle.sm_compile.specs.Answers.{IsTableSeen, StoreSeen, TableSeen}
use Rattle.sm_compile.specs.Sound.{IsValueShape, Sound}
use Rattle.sm_compile.specs.declared.compiled.Served.{Served}

-- a shape of a graph has one table over a store, one number in it, and is served or not
abbrev pub OneTable : Type 0
OneTable = (g : GraphMaps) (root : List ℕ) (test : Test) (before now later : StoreSeen) (one other : TableSeen)
    → IsTableSeen g root test before now one → IsTableSeen g root test before later other
    → Path TableData one.table other.table × (one.shape ≡ other.shape) × Path Served one.served other.served

-- the id of a member spells one, and the values of its traits are JSON
abbrev pub IsSpelledEntry : List ℕ → Entry → Type 0
IsSpelledEntry id (shape_entry s) = Unit {0}
IsSpelledEntry id (member_entry m) = IsIdText id × ((name : List ℕ) (n : Node) → fin.get m.traits name ≡ Some n → IsJson n)

-- what stands in every graph that statements of files come to
abbrev pub IsSpelledGraph : GraphMaps → Type 0
IsSpelledGraph g = (id : List ℕ) (e : Entry) → fin.get g.shapes id ≡ Some e → IsSpelledEntry id e

-- a shape of which a table can be made has one over each store: it can't be that it has none
abbrev pub SomeTable : Type 0
SomeTable = (g : GraphMaps) (root : List ℕ) (test : Test) (before : StoreSeen) → IsSpelledGraph g → IsValueShape g root → Sound g root
    → ((now : StoreSeen) (one : TableSeen) → IsTableSeen g root test before now one → ⊥) → ⊥
