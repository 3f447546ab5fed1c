-- Of each row of the table of a service that is ready there is something to tell: the binding of a member, and the media types of values.
-- So its table without them has one with them.
use Rattle.std.proofs.Common.{◌≡◌, ℕ, Bool, true, false, ◌||◌, List, [], ◌∷◌, ◌++◌, length, Option, Some, None, refl, sym, ap, ◌∙◌}
use Rattle.std.specs.Prelude.{is_some}
use Rattle.std.specs.List.{Contains}
use Rattle.std.specs.Option.{option_or}
use Rattle.std.proofs.lemmas.Option.{none-some, same_Some}
use Rattle.sm_tree.specs.Node.{Node}
use Rattle.sm_model.specs.Graphs.{GraphMaps}
use Rattle.sm_model.proofs.OneRising.{contains_behind, contains_head}
use Rattle.sm_shapes.specs.DefaultPuts.{HasNoDefault}
use Rattle.sm_shapes.specs.Fitting.{Test}
use Rattle.sm_shapes.specs.InOrder.{Built, Shaped}
use Rattle.sm_shapes.specs.TableData.{BindingData, TableData, label, query, query_params, header, prefix_headers, payload, response_code}
use Rattle.sm_compile.specs.Compiled.{AreNumberedFrom, EachSays, IsCompiled, Numbering, texts_of}
use Rattle.sm_compile.specs.Looked.{target_under}
use Rattle.sm_compile.specs.Sound.{trait_of}
use Rattle.sm_compile.specs.TraitIds.{http_header_id, http_label_id, http_payload_id, http_prefix_headers_id, http_query_id}
use Rattle.sm_compile.specs.TraitIds.{http_query_params_id, http_response_code_id, media_type_id}
use Rattle.sm_compile.specs.TraitNodes.{TraitsSeen, is_text, text_of, where_there}
use Rattle.sm_compile.specs.steps.Numbered.{numbered_by}
use Rattle.sm_compile.proofs.SomeTable.{IsTableOfSet}
use Rattle.sm_rules.specs.Ready.{IsOfService, Ready}
use Rattle.sm_rules.specs.Words.{IsService}
use Rattle.sm_service.specs.Bound.{Binds}
use Rattle.sm_service.specs.steps.BindingsTold.{AreBindingTexts, SaysBindingBy, TellsBinding, TellsMedia, TellsShapeMedia, table_bound}
use Rattle.sm_service.proofs.BindingsRead.{binding_texts}
use Rattle.sm_service.proofs.BindingsSaid.{no_text}
use Rattle.sm_service.proofs.BoundRows.{alike, bound_parts}
use Rattle.sm_service.proofs.StillShaped.{still_built}

-- a row for each id, from what there is for each
pub told_each : {D : Type 0} (Says : List ℕ → D → Type 0) (ids : List (List ℕ)) → ((id : List ℕ) → Contains ids id → (d : D) × Says id d)
    → (ds : List D) × EachSays Says ids ds
told_each Says [] h = ([], tt)
told_each Says (id ∷ ids) h =
    let here = h id (contains_head id ids) in
    let rest = told_each Says ids (λ other there. h other (contains_behind id other ids there)) in
    (here.0 ∷ rest.0, (here.1, rest.1))

-- a trait that is there and reads names a part of a message
text_there : (o : Option Node) → is_some o ≡ true → where_there is_text o ≡ true → (t : List ℕ) × (text_of o ≡ Some t)
text_there o is reads = by (text_of o) refl
  where
    by : (p : Option (List ℕ)) → text_of o ≡ p → (t : List ℕ) × (text_of o ≡ Some t)
    by None none = absurd (no_text o is reads none)
    by (Some t) has = (t, has)

-- the binding that traits say: that of the first of them that is there
module _ (seen : TraitsSeen) (texts : AreBindingTexts seen) where
  abbrev has : List ℕ → Bool
  has id = is_some (seen id)

  by_traits : (a b c d e f k : Bool) → has http_label_id ≡ a → has http_query_id ≡ b → has http_query_params_id ≡ c
      → has http_header_id ≡ d → has http_prefix_headers_id ≡ e → has http_payload_id ≡ f → has http_response_code_id ≡ k
      → (x : Option BindingData) × SaysBindingBy seen x
  by_traits true b c d e f k l q p h r y z = (Some label, l)
  by_traits false true c d e f k l q p h r y z = let t = text_there (seen http_query_id) q texts.query in (Some (query t.0), t.1)
  by_traits false false true d e f k l q p h r y z = (Some query_params, p)
  by_traits false false false true e f k l q p h r y z =
      let t = text_there (seen http_header_id) h texts.header in (Some (header t.0), t.1)
  by_traits false false false false true f k l q p h r y z =
      let t = text_there (seen http_prefix_headers_id) r texts.prefix in (Some (prefix_headers t.0), t.1)
  by_traits false false false false false true k l q p h r y z = (Some payload, y)
  by_traits false false false false false false true l q p h r y z = (Some response_code, z)
  by_traits false false false false false false false l q p h r y z =
      (None, λ i. l i || (q i || (p i || (h i || (r i || (y i || (z i || false)))))))

  binding_there : (x : Option BindingData) × SaysBindingBy seen x
  binding_there =
      by_traits (has http_label_id) (has http_query_id) (has http_query_params_id) (has http_header_id) (has http_prefix_headers_id)
      (has http_payload_id) (has http_response_code_id) refl refl refl refl refl refl refl

module _ (g : GraphMaps) where
  binding_told : (id : List ℕ) → AreBindingTexts (trait_of g id) → (b : Option BindingData) × TellsBinding g id b
  binding_told id texts = let b = binding_there (trait_of g id) texts in (b.0, λ again. b.1)

  abbrev media_by : List ℕ → List ℕ → Option (List ℕ)
  media_by id target = text_of (option_or (trait_of g id media_type_id) (trait_of g target media_type_id))

  media_told : (id : List ℕ) → (t : Option (List ℕ)) × TellsMedia g id t
  media_told id = by (target_under g id) refl
    where
      by : (o : Option (List ℕ)) → target_under g id ≡ o → (t : Option (List ℕ)) × TellsMedia g id t
      by None none = (None, λ target is there. absurd (none-some target (sym none ∙ is)))
      by (Some to) has = (media_by id to, λ target is there. ap (media_by id) (same_Some to target (sym has ∙ is)))

  shape_media_told : (id : List ℕ) → (t : Option (List ℕ)) × TellsShapeMedia g id t
  shape_media_told id = (text_of (trait_of g id media_type_id), refl)

-- a table with its bindings, whose patterns are numbered behind those that a store has
pub record IsBoundTableOf (g : GraphMaps) (service : List ℕ) (added : List (List ℕ)) (n : Numbering) (u : TableData) : Type 0 where
  pub compiled : IsCompiled g (IsOfService g service) u n
  pub numbered : AreNumberedFrom (length added) u.patterns
  pub binds : Binds g n u
  pub shaped : Shaped u
  pub no_default : HasNoDefault u
  pub built : (test : Test) → Built u (added ++ texts_of u.patterns) test

module _ (g : GraphMaps) (service : List ℕ) (is : IsService g service) (ready : Ready g service) (added : List (List ℕ)) where
  pub bound_there : (ids : List (List ℕ)) (t : TableData) → IsTableOfSet g (IsOfService g service) added ids t
      → (u : TableData) × IsBoundTableOf g service added (numbered_by g ids) u
  bound_there ids t h =
      let n = numbered_by g ids in
      let c = h.compiled in
      let texts : (id : List ℕ) → Contains n.members id → AreBindingTexts (trait_of g id) = λ id among.
      binding_texts g service is ready id ((c.members id).0 among) in
      let bindings = told_each (TellsBinding g) n.members (λ id among. binding_told g id (texts id among)) in
      let media = told_each (TellsMedia g) n.members (λ id among. media_told g id) in
      let shape_media = told_each (TellsShapeMedia g) n.shapes (λ id among. shape_media_told g id) in
      let u = table_bound t bindings.0 media.0 shape_media.0 in
      let same = alike g t.patterns n t bindings.0 media.0 shape_media.0 in
      let parts = bound_parts g (IsOfService g service) n t c h.shaped h.no_default texts bindings.0 media.0 shape_media.0 bindings.1
      media.1 shape_media.1 in (
        u,
        record {
          compiled = parts.compiled;
          numbered = h.numbered;
          binds = parts.binds;
          shaped = parts.shaped;
          no_default = parts.no_default;
          built = λ test. still_built t u same h.no_default (added ++ texts_of t.patterns) test
              (record { stored = h.stored; defaults = λ k v has. absurd (none-some v (sym (h.no_default k) ∙ has)) });
        },
      )
