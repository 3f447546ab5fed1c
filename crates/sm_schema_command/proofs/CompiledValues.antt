-- In the table of a shape that was loaded each member has the values of its target's enum.
use Rattle.std.proofs.Common.{◌≡◌, ℕ, zero, suc, ℤ, List, [], ◌∷◌, Some, refl, sym, ap, ◌∙◌, subst}
use Rattle.std.specs.Prelude.{slice_get}
use Rattle.std.proofs.lemmas.Option.{none-some, same_Some}
use Rattle.sm_model.specs.Graphs.{Entry, GraphMaps, member_entry, shape_entry}
use Rattle.sm_shapes.specs.Fitting.{Test}
use Rattle.sm_shapes.specs.TableData.{MemberData, ShapeData, shape_constraints_in}
use Rattle.sm_shapes.specs.TableView.{table_data}
use Rattle.sm_codec.specs.Codec.{Codec}
use Rattle.sm_codec.specs.Defaults.{filled, filled_members, node_codec}
use Rattle.sm_compile.specs.Answers.{StoreSeen, TableSeen, IsTableSeen}
use Rattle.sm_compile.specs.Compiled.{EachSays, Numbering, PatternRows, SaysMember, SaysShape}
use Rattle.sm_compile.specs.Said.{numbers_said, texts_said}
use Rattle.sm_schema.specs.Definitions.{EachHasValues, HasTargetsValues, HaveTargetsValues}
use Rattle.sm_asked_shape.specs.asked.Stages.{Told}
use Rattle.sm_asked_shape.specs.LoadsShape.{IsLoadedShape}
use Rattle.sm_asked_shape.specs.declared.shape.LoadedShape.{LoadedShape}

-- the values that a graph says of what stands under an id
abbrev texts_of_entry : GraphMaps → Entry → List (List ℕ)
texts_of_entry g (shape_entry s) = texts_said g s.kind s.members
texts_of_entry g (member_entry m) = []

abbrev numbers_of_entry : GraphMaps → Entry → List ℤ
numbers_of_entry g (shape_entry s) = numbers_said g s.kind s.members
numbers_of_entry g (member_entry m) = []

module _ (g : GraphMaps) (ps : PatternRows) (n : Numbering) where
  row_told : (ids : List (List ℕ)) (ds : List ShapeData) → EachSays (SaysShape g ps n) ids ds → (k : ℕ) (id : List ℕ)
      → slice_get ids k ≡ Some id → (d : ShapeData) × (slice_get ds k ≡ Some d) × SaysShape g ps n id d
  row_told [] ds h k id e = absurd (none-some id e)
  row_told (x ∷ ids) [] h k id e = absurd h
  row_told (x ∷ ids) (d ∷ ds) h zero id e = (d, refl, subst (λ y. SaysShape g ps n y d) (same_Some x id e) h.0)
  row_told (x ∷ ids) (d ∷ ds) h (suc k) id e = row_told ids ds h.1 k id e

  module _ (shapes : List ShapeData) (told : EachSays (SaysShape g ps n) n.shapes shapes) where
    member_values : (id : List ℕ) (d : MemberData) → SaysMember g ps n id d → HasTargetsValues shapes d
    member_values id d h =
        let row = row_told n.shapes shapes told d.target h.m.target h.target_number in
        let same = same_Some (shape_entry h.target) (shape_entry row.2.s) (sym h.target_there ∙ row.2.there) in
        record {
          texts = h.constraints.texts ∙ ap (texts_of_entry g) same ∙ sym row.2.constraints.texts
              ∙ ap (λ o. (shape_constraints_in o).texts) (sym row.1);
          numbers = h.constraints.numbers ∙ ap (numbers_of_entry g) same ∙ sym row.2.constraints.numbers
              ∙ ap (λ o. (shape_constraints_in o).numbers) (sym row.1);
        }

    members_values : (ids : List (List ℕ)) (ds : List MemberData) → EachSays (SaysMember g ps n) ids ds → EachHasValues shapes ds
    members_values ids [] h = tt
    members_values [] (d ∷ ds) h = absurd h
    members_values (id ∷ ids) (d ∷ ds) h = (member_values id d h.0, members_values ids ds h.1)

-- defaults change nothing of it
filled_values : (c : Codec) (shapes : List ShapeData) (k : ℕ) (ms : List MemberData) → EachHasValues shapes ms
    → EachHasValues shapes (filled_members c k ms)
filled_values c shapes k [] h = tt
filled_values c shapes k (m ∷ ms) h = (
  record { texts = h.0.texts; numbers = h.0.numbers },
  filled_values c shapes (suc k) ms h.1,
)

compiled_values : (g : GraphMaps) (shape : List ℕ) (test : Test) (before now : StoreSeen) (one : TableSeen)
    → IsTableSeen g shape test before now one → HaveTargetsValues (filled one.table test)
compiled_values g shape test before now one h =
    filled_values (node_codec one.table test) one.table.shapes 0 one.table.members
    (members_values g one.table.patterns h.numbering one.table.shapes h.compiled.says_shapes h.numbering.members one.table.members
    h.compiled.says_members)

pub loaded_values : (t : Told) (name shape : List ℕ) (one : LoadedShape) → IsLoadedShape t name shape one
    → HaveTargetsValues (table_data one.table)
loaded_values t name shape one h =
    subst HaveTargetsValues (sym h.table)
    (compiled_values h.served.table.there.loaded.graph shape t.test t.store h.served.table.now h.served.table.one h.served.table.compiled)
