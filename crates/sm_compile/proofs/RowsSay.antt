-- What a row of a table tells by numbers of a graph it says of the shape or member with that number's id.
use Rattle.std.proofs.Common.{◌≡◌, ℕ, List, [], map, get_or, Some, None, cond, sym, ap, ◌∙◌, subst}
use Rattle.std.specs.Prelude.{is_some}
use Rattle.std.specs.FinMap as fin
use Rattle.std.proofs.lemmas.Option.{same_Some}
use Rattle.sm_model.specs.Graphs.{shape_entry, GraphMaps, ShapeEntry}
use Rattle.sm_model.specs.GraphView.{maps_of}
use Rattle.sm_model.specs.Reaching.{id_of_number}
use Rattle.sm_model.specs.Relations.{HasEntry}
use Rattle.sm_model.specs.declared.graph.Graph.{Graph}
use Rattle.sm_model.specs.declared.kind.Kind.{Kind}
use Rattle.sm_shapes.specs.ConstraintView.{constraint_data}
use Rattle.sm_shapes.specs.TableView.{shape_data}
use Rattle.sm_shapes.specs.declared.constraints.Constraints.{Constraints}
use Rattle.sm_shapes.specs.declared.tables.TableShape.{TableShape}
use Rattle.sm_compile.specs.Compiled.{NamesText, Numbering, PatternRows, SayConstraints, SaysShape}
use Rattle.sm_compile.specs.Kinds.{has_length, is_text_kind, is_whole_kind, table_kind, value_members}
use Rattle.sm_compile.specs.Said.{bounds_seen, constraints_said, format_seen, pattern_seen}
use Rattle.sm_compile.specs.Sound.{trait_in, trait_of}
use Rattle.sm_compile.specs.TraitIds.{length_id, pattern_id, range_id, sparse_id, timestamp_format_id, unique_items_id}
use Rattle.sm_compile.specs.TraitNodes.{TraitsSeen, format_named, least_of, most_of, own_traits, text_of}
use Rattle.sm_compile.specs.steps.Looked.{kind_in, kind_under, listed_in}
use Rattle.sm_compile.specs.steps.Rows.{TellsShape}
use Rattle.sm_compile.specs.steps.Seeing.{TellConstraints, traits_seen}

-- traits that are the same under each id say the same
module _ (a b : TraitsSeen) (same : (name : List ℕ) → a name ≡ b name) where
  pub bounds_along : (kind : Kind) → bounds_seen kind a ≡ bounds_seen kind b
  bounds_along kind =
      ap (λ o. cond (has_length kind) o (cond (is_whole_kind kind) (a range_id) None)) (same length_id)
      ∙ ap (λ o. cond (has_length kind) (b length_id) (cond (is_whole_kind kind) o None)) (same range_id)

  pub format_along : format_seen a ≡ format_seen b
  format_along = ap (λ o. format_named (text_of o)) (same timestamp_format_id)

  pub pattern_along : (kind : Kind) → pattern_seen kind a ≡ pattern_seen kind b
  pattern_along kind = ap (λ o. cond (is_text_kind kind) (text_of o) None) (same pattern_id)

  pub says_constraints : (g : GraphMaps) (ps : PatternRows) (s : ShapeEntry) (c : Constraints) → TellConstraints g s.kind s.members a c
      → NamesText ps c.pattern (pattern_seen s.kind b) → SayConstraints ps (constraint_data c) (constraints_said g s b)
  says_constraints g ps s c told names = record {
    min = told.min ∙ ap least_of (bounds_along s.kind);
    max = told.max ∙ ap most_of (bounds_along s.kind);
    pattern = names;
    texts = told.texts;
    numbers = told.numbers;
  }

-- the row of a shape
pub says_shape : (g : Graph) (k : ℕ) (kind : Kind) (row : TableShape) (ps : PatternRows) (n : Numbering) (s : ShapeEntry)
    → HasEntry (maps_of g) (id_of_number g k) (shape_entry s) → kind_under (maps_of g) (id_of_number g k) ≡ Some kind
    → TellsShape g k kind row → map (λ j. get_or n.members j []) row.members ≡ value_members s
    → NamesText ps row.constraints.pattern (pattern_seen s.kind (own_traits s.traits))
    → SaysShape (maps_of g) ps n (id_of_number g k) (shape_data row)
says_shape g k kind row ps n s has is told members names =
    let m = maps_of g in
    let id = id_of_number g k in
    let same : kind ≡ s.kind = same_Some kind s.kind (sym is ∙ ap kind_in has) in
    let own : (name : List ℕ) → trait_of m id name ≡ own_traits s.traits name = λ name. ap (trait_in name) has in
    record {
      s = s;
      there = has;
      kind = told.its_kind ∙ ap table_kind same;
      members = members;
      constraints = says_constraints (traits_seen g k None) (own_traits s.traits) own m ps s row.constraints
          (subst (λ ids. TellConstraints m s.kind ids (traits_seen g k None) row.constraints) (ap listed_in has)
          (subst (λ x. TellConstraints m x (listed_in (fin.get m.shapes id)) (traits_seen g k None) row.constraints) same
          told.constraints)) names;
      unique = told.unique ∙ ap (λ o. is_some o) (own unique_items_id);
      sparse = told.sparse ∙ ap (λ o. is_some o) (own sparse_id);
      unit = told.unit;
      format = told.format ∙ format_along (traits_seen g k None) (own_traits s.traits) own;
    }
