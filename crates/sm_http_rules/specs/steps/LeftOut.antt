-- From where members and targets lead to values that aren't carried.
use Rattle.std.specs.Prelude.{◌≡◌, ◌↔◌, ℕ, Bool, true, false, List, Option, Some, None, cond, length}
use Rattle.sm_model.specs.Graphs.{GraphMaps}
use Rattle.sm_model.specs.GraphView.{IsShapeNumber, entries_of, maps_of}
use Rattle.sm_model.specs.Reaching.{AreMarks, id_of_number}
use Rattle.sm_model.specs.declared.graph.Graph.{Graph}
use Rattle.sm_model.specs.declared.kind.Kind.{Kind}
use Rattle.sm_model.specs.declared.kind.Kind.TheVariants.{Float, Double, BigInteger, BigDecimal, Document}
use Rattle.sm_model.specs.declared.link.Link.{Link}
use Rattle.sm_model.specs.declared.relation.Relation.{Relation}
use Rattle.sm_model.specs.declared.relation.Relation.TheVariants.{Member, Target}
use Rattle.sm_select.specs.Neighbors.{HasStep}
use Rattle.sm_compile.specs.Looked.{kind_under}
use Rattle.sm_compile.specs.Reached.{LeadsTo}
use Rattle.sm_rules.specs.Http.{ReachesLeftOutValue}

-- a type of values that aren't carried
abbrev pub is_left_out_kind : Kind → Bool
is_left_out_kind Float = true
is_left_out_kind Double = true
is_left_out_kind BigInteger = true
is_left_out_kind BigDecimal = true
is_left_out_kind Document = true
is_left_out_kind kind = false

abbrev pub is_left_out_where : Option Kind → Bool
is_left_out_where None = false
is_left_out_where (Some kind) = is_left_out_kind kind

abbrev pub has_left_out : GraphMaps → List ℕ → Bool
has_left_out g id = is_left_out_where (kind_under g id)

-- one step or more lead to such a shape
abbrev pub LeadsToLeftOut : GraphMaps → List ℕ → Type 0
LeadsToLeftOut g id = (next : List ℕ) × LeadsTo g id next × ReachesLeftOutValue g next

-- exactly the numbers of which this holds are marked
abbrev pub AreLeading : Graph → List Bool → Type 0
AreLeading g marks = AreMarks (length (entries_of g)) (λ k. LeadsToLeftOut (maps_of g) (id_of_number g k)) marks

-- links by which values have parts
abbrev pub is_of_values : Relation → Bool
is_of_values Member = true
is_of_values Target = true
is_of_values relation = false

abbrev pub value_link : Link → Option Link
value_link l = cond (is_of_values l.relation) (Some l) None

-- these lists are the steps against them
pub record AreValueSteps (g : Graph) (rows : List (List ℕ)) : Type 0 where
  pub whole : length rows ≡ length (entries_of g)
  pub steps : (a b : ℕ) → HasStep rows a b
      ↔ (IsShapeNumber g a × IsShapeNumber g b × LeadsTo (maps_of g) (id_of_number g b) (id_of_number g a))
