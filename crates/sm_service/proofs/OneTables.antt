-- Tables that say the bindings and the media types of one set have the same ones, row by row, where no member has two bindings.
use Rattle.std.proofs.Common.{◌≡◌, ℕ, ◌<◌, List, Option, [], get_or, sym, ◌∙◌, subst}
use Rattle.std.specs.List.{Contains}
use Rattle.std.proofs.lemmas.Option.{slice_get-get_or}
use Rattle.sm_model.specs.Graphs.{GraphMaps, MemberEntry, member_entry, shape_entry}
use Rattle.sm_model.specs.Relations.{HasEntry}
use Rattle.sm_shapes.specs.TableData.{BindingData, MemberData, ShapeData, TableData, member_count}
use Rattle.sm_compile.specs.Compiled.{IdSet, IsTabledMember, Numbering}
use Rattle.sm_compile.specs.TraitIds.{media_type_id}
use Rattle.sm_compile.specs.TraitNodes.{effective_traits, own_traits, text_of}
use Rattle.sm_compile.proofs.OnePatterns.{same_member, same_shape}
use Rattle.sm_compile.proofs.OneTable.{AreBoundAlike}
use Rattle.sm_compile.proofs.RowsAlike.{each_at, each_length}
use Rattle.sm_service.specs.Bound.{Binds, BindsMember, BindsShape, SaysBinding}
use Rattle.sm_service.proofs.ServableRows.{contains_at}

-- one member of the set has one binding
abbrev pub OneBinding : GraphMaps → IdSet → Type 0
OneBinding g In = (id : List ℕ) (m : MemberEntry) (a b : Option BindingData) → IsTabledMember g In id → HasEntry g id (member_entry m)
    → SaysBinding m.traits a → SaysBinding m.traits b → Path (Option BindingData) a b

module _ (g : GraphMaps) (In : IdSet) (one : OneBinding g In) where
  -- rows of one member
  same_binding : (id : List ℕ) (d e : MemberData) → IsTabledMember g In id → BindsMember g id d → BindsMember g id e → d.binding ≡ e.binding
  same_binding id d e tabled p q =
      let m = same_member g id p.m q.m p.there q.there in
      one id q.m d.binding e.binding tabled q.there (subst (λ (x : MemberEntry). SaysBinding x.traits d.binding) m p.binding) q.binding

  same_media : (id : List ℕ) (d e : MemberData) → BindsMember g id d → BindsMember g id e → d.media_type ≡ e.media_type
  same_media id d e p q =
      let m = same_member g id p.m q.m p.there q.there in
      let target = same_shape g q.m.target p.target q.target
      (subst (λ (x : MemberEntry). HasEntry g x.target (shape_entry p.target)) m p.target_there) q.target_there in
      p.media_type ∙ (λ i. text_of (effective_traits (m i).traits (target i).traits media_type_id)) ∙ sym q.media_type

  -- and of one shape
  same_media_of_shape : (id : List ℕ) (d e : ShapeData) → BindsShape g id d → BindsShape g id e → d.media_type ≡ e.media_type
  same_media_of_shape id d e p q =
      let s = same_shape g id p.s q.s p.there q.there in
      p.media_type ∙ (λ i. text_of (own_traits (s i).traits media_type_id)) ∙ sym q.media_type

  module _ (n : Numbering) (tabled : (id : List ℕ) → Contains n.members id → IsTabledMember g In id) (t u : TableData) (h : Binds g n t)
      (k : Binds g n u) where
    tabled_here : (j : ℕ) → j < member_count t → IsTabledMember g In (get_or n.members j [])
    tabled_here j less =
        let many = each_length (BindsMember g) n.members t.members h.members in
        let id = get_or n.members j [] in
        tabled id (contains_at n.members j id (slice_get-get_or n.members j [] (subst (λ c. j < c) (sym many) less)))

    pub bound_alike : AreBoundAlike t u
    bound_alike = record {
      bindings = λ j d less also. same_binding (get_or n.members j []) (get_or t.members j d) (get_or u.members j d) (tabled_here j less)
          (each_at (BindsMember g) n.members t.members h.members j d less) (each_at (BindsMember g) n.members u.members k.members j d also);
      media = λ j d less also. same_media (get_or n.members j []) (get_or t.members j d) (get_or u.members j d)
          (each_at (BindsMember g) n.members t.members h.members j d less) (each_at (BindsMember g) n.members u.members k.members j d also);
      shapes = λ s d less also. same_media_of_shape (get_or n.shapes s []) (get_or t.shapes s d) (get_or u.shapes s d)
          (each_at (BindsShape g) n.shapes t.shapes h.shapes s d less) (each_at (BindsShape g) n.shapes u.shapes k.shapes s d also);
    }
