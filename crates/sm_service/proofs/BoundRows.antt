-- A table of a service with bindings and media types, from the one without: it says what the graph says, and is in order.
use Rattle.std.proofs.Common.{◌≡◌, ℕ, List, [], map, get_or, Option, Some, None, refl, sym, ap, ◌∙◌, subst}
use Rattle.std.specs.Prelude.{slice_get}
use Rattle.std.specs.List.{Contains}
use Rattle.std.specs.Option.{option_or}
use Rattle.std.proofs.lemmas.Option.{get_or_from_slice_get, none-some, slice_get_within}
use Rattle.sm_tree.specs.Node.{Node}
use Rattle.sm_model.specs.Graphs.{GraphMaps, MemberEntry, member_entry, shape_entry}
use Rattle.sm_model.specs.GraphView.{maps_of}
use Rattle.sm_model.specs.Relations.{HasEntry}
use Rattle.sm_model.specs.declared.graph.Graph.{Graph}
use Rattle.sm_shapes.specs.BindingPuts.{with_binding, with_bindings}
use Rattle.sm_shapes.specs.DefaultPuts.{HasNoDefault}
use Rattle.sm_shapes.specs.Fitting.{Test}
use Rattle.sm_shapes.specs.InOrder.{Shaped}
use Rattle.sm_shapes.specs.TableData.{BindingData, MemberData, ShapeData, TableData, binding_at, binding_in}
use Rattle.sm_shapes.specs.TableData.{default_node_at, default_node_in}
use Rattle.sm_compile.specs.Answers.{StoreSeen}
use Rattle.sm_compile.specs.Compiled.{EachSays, IdSet, IsCompiled, Numbering, PatternRows, SaysMember, SaysShape}
use Rattle.sm_compile.specs.Looked.{target_in}
use Rattle.sm_compile.specs.Sound.{trait_in, trait_of}
use Rattle.sm_compile.specs.TraitIds.{media_type_id}
use Rattle.sm_compile.specs.TraitNodes.{text_of}
use Rattle.sm_compile.specs.steps.Numbered.{numbering}
use Rattle.sm_compile.proofs.RowsAlike.{each_at}
use Rattle.sm_rules.specs.Ready.{IsOfService}
use Rattle.sm_service.specs.Bound.{Binds, BindsMember, BindsShape, SaysBinding}
use Rattle.sm_service.specs.steps.BindingsTold.{AreBindingTexts, TellsBinding, TellsMedia, TellsShapeMedia, table_bound, with_media}
use Rattle.sm_service.specs.steps.BindingsTold.{with_shape_media}
use Rattle.sm_service.specs.steps.ServiceTables.{IsBoundFrom, IsBoundTable, IsTableOfShapes}
use Rattle.sm_service.proofs.BindingsSaid.{binding_said, node_unbound, unbound_said}
use Rattle.sm_service.proofs.RowsTold.{each_along, put_members, put_says, put_unseen}
use Rattle.sm_service.proofs.StillShaped.{AreAlike, bare_member, bare_shape, still_built, still_no_default, still_shaped}

module _ (g : GraphMaps) (ps : PatternRows) (n : Numbering) where
  -- a row with a binding, and with a media type beside it
  pub record SaysBound (id : List ℕ) (d : MemberData) : Type 0 where
    pub says : SaysMember g ps n id d
    pub binding : (m : MemberEntry) → HasEntry g id (member_entry m) → SaysBinding m.traits d.binding

  pub record SaysWhole (id : List ℕ) (d : MemberData) : Type 0 where
    pub says : SaysMember g ps n id d
    pub binds : BindsMember g id d
    pub apart : (node : Node) → d.default_node ≡ Some node → d.binding ≡ None

  pub record SaysWholeShape (id : List ℕ) (d : ShapeData) : Type 0 where
    pub says : SaysShape g ps n id d
    pub binds : BindsShape g id d

  -- what a row says besides stands whatever its binding and its media type are
  put_beside : (id : List ℕ) (d : MemberData) (b : Option BindingData) (t : Option (List ℕ)) → SaysMember g ps n id d
      → SaysMember g ps n id (record d { binding = b; media_type = t })
  put_beside id d b t h = record {
    m = h.m;
    there = h.there;
    home = h.home;
    home_there = h.home_there;
    target = h.target;
    target_there = h.target_there;
    shape_number = h.shape_number;
    name = h.name;
    target_number = h.target_number;
    json_name = h.json_name;
    required = h.required;
    constraints = h.constraints;
    format = h.format;
    default_node = h.default_node;
    no_default = h.no_default;
  }

  row_bound : (id : List ℕ) (d : MemberData) (b : Option BindingData) → AreBindingTexts (trait_of g id) → SaysMember g ps n id d
      → TellsBinding g id b → SaysBound id (with_binding d b)
  row_bound id d b texts h tells = record {
    says = put_beside id d b d.media_type h;
    binding = λ m there. binding_said g id m there b (tells texts);
  }

  row_whole : (id : List ℕ) (d : MemberData) (t : Option (List ℕ)) → SaysBound id d → TellsMedia g id t → SaysWhole id (with_media d t)
  row_whole id d t bound tells = let h = bound.says in record {
    says = put_beside id d d.binding t h;
    binds = record {
      m = h.m;
      there = h.there;
      target = h.target;
      target_there = h.target_there;
      binding = bound.binding h.m h.there;
      media_type = tells h.m.target (ap target_in h.there) (shape_entry h.target, h.target_there)
          ∙ ap (λ (o : Option Node). text_of (option_or o (trait_of g h.m.target media_type_id))) (ap (trait_in media_type_id) h.there)
          ∙ ap (λ (o : Option Node). text_of (option_or (trait_in media_type_id (Some (member_entry h.m))) o))
          (ap (trait_in media_type_id) h.target_there);
    };
    apart = λ node is.
        unbound_said h.m.traits (node_unbound h.home.kind h.m h.target.kind node (sym h.default_node ∙ is)) d.binding
        (bound.binding h.m h.there);
  }

  row_of_shape : (id : List ℕ) (d : ShapeData) (t : Option (List ℕ)) → SaysShape g ps n id d → TellsShapeMedia g id t
      → SaysWholeShape id (with_shape_media d t)
  row_of_shape id d t h tells = record {
    says = record {
      s = h.s;
      there = h.there;
      kind = h.kind;
      members = h.members;
      constraints = h.constraints;
      unique = h.unique;
      sparse = h.sparse;
      unit = h.unit;
      format = h.format;
    };
    binds = record { s = h.s; there = h.there; media_type = tells ∙ ap text_of (ap (trait_in media_type_id) h.there) };
  }

  -- all rows
  module _ (t : TableData) (bindings : List (Option BindingData)) (media shape_media : List (Option (List ℕ)))
      (texts : (id : List ℕ) → Contains n.members id → AreBindingTexts (trait_of g id))
      (bindings_told : EachSays (TellsBinding g) n.members bindings) (media_told : EachSays (TellsMedia g) n.members media)
      (shapes_told : EachSays (TellsShapeMedia g) n.shapes shape_media) (says_members : EachSays (SaysMember g ps n) n.members t.members)
      (says_shapes : EachSays (SaysShape g ps n) n.shapes t.shapes) where
    abbrev u : TableData
    u = table_bound t bindings media shape_media

    pub each_member : EachSays SaysWhole n.members u.members
    each_member =
        put_says SaysBound SaysWhole (TellsMedia g) with_media n.members (λ id d x among says tells. row_whole id d x says tells)
        (with_bindings t.members bindings) media
        (subst (EachSays SaysBound n.members) (sym (put_members with_binding t.members bindings))
        (put_says (SaysMember g ps n) SaysBound (TellsBinding g) with_binding n.members
        (λ id d x among says tells. row_bound id d x (texts id among) says tells) t.members bindings says_members bindings_told))
        media_told

    pub each_shape : EachSays SaysWholeShape n.shapes u.shapes
    each_shape =
        put_says (SaysShape g ps n) SaysWholeShape (TellsShapeMedia g) with_shape_media n.shapes
        (λ id d x among says tells. row_of_shape id d x says tells) t.shapes shape_media says_shapes shapes_told

    pub unbound_at : (k : ℕ) (node : Node) → default_node_at u k ≡ Some node → binding_at u k ≡ None
    unbound_at k node is = by (slice_get u.members k) refl is
      where
        by : (o : Option MemberData) → slice_get u.members k ≡ o → default_node_in o ≡ Some node → binding_in o ≡ None
        by None at has = absurd (none-some node has)
        by (Some d) at has =
            let row = each_at SaysWhole n.members u.members each_member k d (slice_get_within u.members k d at) in
            (subst (SaysWhole (get_or n.members k [])) (get_or_from_slice_get u.members k d d at) row).apart node has

  pub alike : (t : TableData) (bindings : List (Option BindingData)) (media shape_media : List (Option (List ℕ)))
      → AreAlike t (table_bound t bindings media shape_media)
  alike t bindings media shape_media = record {
    members = put_unseen bare_member with_media (λ d x. refl) (with_bindings t.members bindings) media
        ∙ ap (map bare_member) (put_members with_binding t.members bindings)
        ∙ put_unseen bare_member with_binding (λ d x. refl) t.members bindings;
    shapes = put_unseen bare_shape with_shape_media (λ d x. refl) t.shapes shape_media;
    patterns = refl;
  }

-- the whole table
pub record BoundParts (g : GraphMaps) (In : IdSet) (n : Numbering) (u : TableData) : Type 0 where
  pub compiled : IsCompiled g In u n
  pub binds : Binds g n u
  pub shaped : Shaped u
  pub no_default : HasNoDefault u

module _ (g : GraphMaps) (In : IdSet) (n : Numbering) (t : TableData) (c : IsCompiled g In t n) (shaped : Shaped t) (none : HasNoDefault t)
    (texts : (id : List ℕ) → Contains n.members id → AreBindingTexts (trait_of g id)) where
  pub bound_parts : (bindings : List (Option BindingData)) (media shape_media : List (Option (List ℕ)))
      → EachSays (TellsBinding g) n.members bindings → EachSays (TellsMedia g) n.members media
      → EachSays (TellsShapeMedia g) n.shapes shape_media → BoundParts g In n (table_bound t bindings media shape_media)
  bound_parts bindings media shape_media bindings_told media_told shapes_told =
      let ps = t.patterns in
      let u = table_bound t bindings media shape_media in
      let members = each_member g ps n t bindings media shape_media texts bindings_told media_told shapes_told c.says_members
      c.says_shapes in
      let rows = each_shape g ps n t bindings media shape_media texts bindings_told media_told shapes_told c.says_members c.says_shapes in
      let same = alike g ps n t bindings media shape_media in
      record {
        compiled = record {
          shapes = c.shapes;
          members = c.members;
          shapes_rise = c.shapes_rise;
          members_follow = c.members_follow;
          shapes_once = c.shapes_once;
          members_once = c.members_once;
          says_shapes = each_along (SaysWholeShape g ps n) (SaysShape g ps n) n.shapes u.shapes (λ id d h. h.says) rows;
          says_members = each_along (SaysWhole g ps n) (SaysMember g ps n) n.members u.members (λ id d h. h.says) members;
          patterns = c.patterns;
        };
        binds = record {
          shapes = each_along (SaysWholeShape g ps n) (BindsShape g) n.shapes u.shapes (λ id d h. h.binds) rows;
          members = each_along (SaysWhole g ps n) (BindsMember g) n.members u.members (λ id d h. h.binds) members;
        };
        shaped = still_shaped t u same none
            (unbound_at g ps n t bindings media shape_media texts bindings_told media_told shapes_told c.says_members c.says_shapes) shaped;
        no_default = still_no_default t u same none;
      }

-- that of a graph
module _ (g : Graph) (service : List ℕ) (shapes : List ℕ) (test : Test) (before now : StoreSeen) (t : TableData)
    (plain : IsTableOfShapes g service shapes test before now t)
    (texts : (id : List ℕ) → Contains (numbering g shapes).members id → AreBindingTexts (trait_of (maps_of g) id)) where
  abbrev pub IsWhole : TableData → Type 0
  IsWhole u = IsBoundTable g service shapes test before now u

  abbrev n : Numbering
  n = numbering g shapes

  whole_bound : (bindings : List (Option BindingData)) (media shape_media : List (Option (List ℕ)))
      → EachSays (TellsBinding (maps_of g)) n.members bindings → EachSays (TellsMedia (maps_of g)) n.members media
      → EachSays (TellsShapeMedia (maps_of g)) n.shapes shape_media → IsWhole (table_bound t bindings media shape_media)
  whole_bound bindings media shape_media bindings_told media_told shapes_told =
      let m = maps_of g in
      let parts = bound_parts m (IsOfService m service) n t plain.compiled plain.shaped plain.no_default texts bindings media shape_media
      bindings_told media_told shapes_told in
      record {
        of_shapes = record {
          compiled = parts.compiled;
          numbered = plain.numbered;
          shaped = parts.shaped;
          built = still_built t (table_bound t bindings media shape_media) (alike m t.patterns n t bindings media shape_media)
              plain.no_default now.added test plain.built;
          no_default = parts.no_default;
          added = plain.added;
          refused = plain.refused;
          refusals = plain.refusals;
        };
        binds = parts.binds;
      }

  pub bound_whole : (u : TableData) → IsBoundFrom g shapes t u → IsWhole u
  bound_whole u h =
      subst IsWhole (sym h.is)
      (whole_bound h.bindings h.media h.shape_media h.bindings_told h.media_told h.shapes_told)
