-- What the row of a member tells by numbers of a graph it says of the member with that number's id.
use Rattle.std.proofs.Common.{◌≡◌, ℕ, ◌<◌, Bool, List, [], ◌∷◌, length, get_or, Some, None, ◌||◌, cond, refl, sym, ap, ◌∙◌, subst}
use Rattle.std.specs.Prelude.{is_some, slice_get}
use Rattle.std.specs.FinMap as fin
use Rattle.std.specs.List.{list_any}
use Rattle.std.specs.Option.{option_map, option_or}
use Rattle.sm_model.specs.Graphs.{shape_entry, member_entry, GraphMaps, ShapeEntry, MemberEntry, member_id}
use Rattle.sm_model.specs.GraphView.{maps_of}
use Rattle.sm_model.specs.Reaching.{id_of_number}
use Rattle.sm_model.specs.Relations.{HasEntry}
use Rattle.sm_model.specs.declared.graph.Graph.{Graph}
use Rattle.sm_model.specs.declared.kind.Kind.{Kind}
use Rattle.sm_model.specs.declared.kind.Kind.TheVariants.{Blob, Boolean, Text, Enum, Byte, Short, Integer, IntEnum, Long, Float, Double}
use Rattle.sm_model.specs.declared.kind.Kind.TheVariants.{BigInteger, BigDecimal, Timestamp, Document, List as list_kind, Map, Structure}
use Rattle.sm_model.specs.declared.kind.Kind.TheVariants.{Union, Service, Operation, Resource}
use Rattle.sm_shapes.specs.TableView.{member_data}
use Rattle.sm_shapes.specs.ValueView.{val_of}
use Rattle.sm_shapes.specs.declared.tables.TableMember.{TableMember}
use Rattle.sm_compile.specs.Compiled.{NamesText, Numbering, PatternRows, SaysMember}
use Rattle.sm_compile.specs.Kinds.{table_kind}
use Rattle.sm_compile.specs.Said.{default_said, is_bound, node_where, pattern_seen}
use Rattle.sm_compile.specs.Sound.{trait_in, trait_of}
use Rattle.sm_compile.specs.TraitIds.{binding_ids, default_id, json_name_id, required_id}
use Rattle.sm_compile.specs.TraitNodes.{effective_traits, text_of}
use Rattle.sm_compile.specs.declared.rows.MemberPlace.{MemberPlace}
use Rattle.sm_compile.specs.steps.Looked.{listed_in}
use Rattle.sm_compile.specs.steps.Rows.{MemberPlaced, TellsMember}
use Rattle.sm_compile.specs.steps.Seeing.{TellConstraints, default_under, is_bound_under, traits_seen}
use Rattle.sm_compile.proofs.RowsSay.{format_along, says_constraints}

any_along : (f h : List ℕ → Bool) → ((x : List ℕ) → f x ≡ h x) → (xs : List (List ℕ)) → list_any f xs ≡ list_any h xs
any_along f h same [] = refl
any_along f h same (x ∷ xs) = ap (λ b. b || list_any f xs) (same x) ∙ ap (λ b. h x || b) (any_along f h same xs)

-- the node of a default
module _ (g : GraphMaps) (id : List ℕ) (m : MemberEntry) (has : HasEntry g id (member_entry m)) where
  own : (name : List ℕ) → trait_of g id name ≡ fin.get m.traits name
  own name = ap (trait_in name) has

  bound_along : is_bound_under g id ≡ is_bound m.traits
  bound_along =
      any_along (λ name. is_some (trait_of g id name)) (λ name. is_some (fin.get m.traits name))
      (λ name. ap (λ o. is_some o) (own name)) binding_ids

  pub default_along : (home target : Kind) → default_under g id home target ≡ default_said home m target
  default_along Structure target =
      ap (λ b. cond b None (node_where (table_kind target) (trait_of g id default_id))) bound_along
      ∙ ap (λ o. cond (is_bound m.traits) None (node_where (table_kind target) o)) (own default_id)
  default_along Blob target = refl
  default_along Boolean target = refl
  default_along Text target = refl
  default_along Enum target = refl
  default_along Byte target = refl
  default_along Short target = refl
  default_along Integer target = refl
  default_along IntEnum target = refl
  default_along Long target = refl
  default_along Float target = refl
  default_along Double target = refl
  default_along BigInteger target = refl
  default_along BigDecimal target = refl
  default_along Timestamp target = refl
  default_along Document target = refl
  default_along list_kind target = refl
  default_along Map target = refl
  default_along Union target = refl
  default_along Service target = refl
  default_along Operation target = refl
  default_along Resource target = refl

-- where a member stands, in the graph and in the table
pub record StandsIn (g : Graph) (n : Numbering) (place : MemberPlace) (name : List ℕ) (m : MemberEntry) (home target : ShapeEntry) : Type
    0 where
  pub there : HasEntry (maps_of g) (id_of_number g place.member) (member_entry m)
  pub home_there : HasEntry (maps_of g) (get_or n.shapes place.home_row []) (shape_entry home)
  pub home_kind : home.kind ≡ place.home_kind
  pub target_there : HasEntry (maps_of g) m.target (shape_entry target)
  pub target_id : id_of_number g place.target ≡ m.target
  pub target_kind : target.kind ≡ place.target_kind
  pub home_row : place.home_row < length n.shapes
  pub named : id_of_number g place.member ≡ member_id (get_or n.shapes place.home_row []) name
  pub target_row : slice_get n.shapes place.target_row ≡ Some m.target

pub says_member : (g : Graph) (place : MemberPlace) (row : TableMember) (ps : PatternRows) (n : Numbering) (m : MemberEntry)
    (home target : ShapeEntry) → StandsIn g n place row.name m home target → TellsMember g place row → MemberPlaced place row
    → NamesText ps row.constraints.pattern (pattern_seen target.kind (effective_traits m.traits target.traits))
    → SaysMember (maps_of g) ps n (id_of_number g place.member) (member_data row)
says_member g place row ps n m home target stands told placed names =
    let maps = maps_of g in
    let id = id_of_number g place.member in
    let own_is : (name : List ℕ) → trait_of maps id name ≡ fin.get m.traits name = λ name. ap (trait_in name) stands.there in
    let here : HasEntry maps (id_of_number g place.target) (shape_entry target) =
    subst (λ i. HasEntry maps i (shape_entry target)) (sym stands.target_id) stands.target_there in
    let seen : (name : List ℕ) → traits_seen g place.member (Some place.target) name ≡ effective_traits m.traits target.traits
    name = λ name.
    ap (λ o. option_or o (trait_of maps (id_of_number g place.target) name)) (own_is name)
    ∙ ap (λ o. option_or (fin.get m.traits name) o) (ap (trait_in name) here) in
    record {
      m = m;
      there = stands.there;
      home = home;
      home_there = subst (λ k. HasEntry maps (get_or n.shapes k []) (shape_entry home)) (sym placed.home) stands.home_there;
      target = target;
      target_there = stands.target_there;
      shape_number = subst (λ k. k < length n.shapes) (sym placed.home) stands.home_row;
      name = subst (λ k. id ≡ member_id (get_or n.shapes k []) row.name) (sym placed.home) stands.named;
      target_number = ap (slice_get n.shapes) placed.target ∙ stands.target_row;
      json_name = told.json_name ∙ ap text_of (own_is json_name_id);
      required = told.required ∙ ap (λ o. is_some o) (own_is required_id);
      constraints = says_constraints (traits_seen g place.member (Some place.target)) (effective_traits m.traits target.traits) seen maps
          ps target
          row.constraints
          (subst (λ ids. TellConstraints maps target.kind ids (traits_seen g place.member (Some place.target)) row.constraints)
          (ap listed_in here)
          (subst (λ k. TellConstraints maps k (listed_in (fin.get maps.shapes (id_of_number g place.target)))
          (traits_seen g place.member (Some place.target)) row.constraints) (sym stands.target_kind) told.constraints)) names;
      format = told.format ∙ format_along (traits_seen g place.member (Some place.target)) (effective_traits m.traits target.traits) seen;
      default_node = told.default_node ∙ default_along maps id m stands.there place.home_kind place.target_kind
          ∙ ap (λ k. default_said k m place.target_kind) (sym stands.home_kind) ∙ ap (default_said home.kind m) (sym stands.target_kind);
      no_default = ap (option_map val_of) told.no_default;
    }
