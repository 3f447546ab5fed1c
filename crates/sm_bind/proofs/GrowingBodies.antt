-- Bodies in a table that grows.
use Rattle.std.proofs.Common.{◌≡◌, inl, inr, ℕ, ◌<◌, ◌+◌, Bool, true, false, List, [], ◌∷◌, ◌++◌, map, length, sym, ap, subst, arith}
use Rattle.std.proofs.lemmas.Bool.{cases_lt}
use Rattle.std.proofs.lemmas.List.{length-append}
use Rattle.std.specs.Prelude.{None, Option, Some, slice_get}
use Rattle.std.specs.List.{AllByRecursion, filter, list_any}
use Rattle.sm_rules.specs.Bindings.{BoundSide}
use Rattle.sm_shapes.specs.Fitting.{Test}
use Rattle.sm_shapes.specs.InOrder.{Built, Shaped}
use Rattle.sm_shapes.specs.Names.{AllDiffer}
use Rattle.sm_shapes.specs.TableView.{table_data}
use Rattle.sm_shapes.specs.TableData.{TableData, json_name_at, kind_at, member_count, members_at, name_at, shape_count}
use Rattle.sm_shapes.specs.declared.kinds.ShapeKind.TheVariants.{Structure}
use Rattle.sm_excerpts.specs.Excerpts.{Extends, IsExcerpt}
use Rattle.sm_excerpts.proofs.Extending.{all_more, excerpt_below, excerpt_kept, extends_itself, extends_then, json_names_kept, members_there}
use Rattle.sm_excerpts.proofs.Extending.{names_kept, whole_excerpt}
use Rattle.sm_excerpts.proofs.RowPlaces.{get_end, get_left}
use Rattle.sm_bind.specs.BindingsView.{body_in}
use Rattle.sm_bind.specs.Documents.{IsBodyBy, IsBodyShape}
use Rattle.sm_bind.specs.Roles.{bound_on, document_members, has_document, is_unbound_on}
use Rattle.sm_bind.specs.declared.documents.Body.{Body}
use Rattle.sm_bind.specs.declared.documents.Growing.{Growing}
use Rattle.sm_bind.specs.steps.Growing.{AddsBody, AreBodies, Grows, HasBody, IsExcerptBody, IsGrown, payload_among}
use Rattle.sm_bind.proofs.Counted.{payload_same}
use Rattle.sm_bind.proofs.KeptNames.{all_kept, differ_kept, whole_kept}

-- a table is grown from itself
pub grown_itself : (t : TableData) → Shaped t → IsGrown t t
grown_itself t shaped = record { extends = extends_itself t; shaped = shaped; built = λ added test built. built }

pub grown_then : (t d e : TableData) → IsGrown t d → Extends e d → Shaped e
    → ((added : List (List ℕ)) (test : Test) → Built d added test → Built e added test) → IsGrown t e
grown_then t d e g h shaped built = record {
  extends = extends_then e d t h g.extends;
  shaped = shaped;
  built = λ added test b. built added test (g.built added test b);
}

module _ (t : TableData) (side : BoundSide) where
  -- a body stays one
  pub body_kept : (d e : TableData) → Extends e d → Shaped d → (s : ℕ) (body : Option ℕ) → IsBodyShape d (bound_on t side s) body
      → IsBodyShape e (bound_on t side s) body
  body_kept d e h shaped s body is = by (has_document (bound_on t side s)) body is
    where
      by : (b : Bool) (o : Option ℕ) → IsBodyBy b d (bound_on t side s) o → IsBodyBy b e (bound_on t side s) o
      by true None x = x
      by true (Some r) x = excerpt_kept e d t h shaped r (document_members (bound_on t side s)) x
      by false o x = x

  pub bodies_kept : (d e : TableData) → Extends e d → Shaped d → (bodies : List (Option ℕ)) → AreBodies t d side bodies
      → AreBodies t e side bodies
  bodies_kept d e h shaped bodies are s lt kind = body_kept d e h shaped s (body_in (slice_get bodies s)) (are s lt kind)

  -- one more
  pub bodies_more : (d e : TableData) → Extends e d → Shaped d → (bodies : List (Option ℕ)) (body : Option ℕ)
      → AreBodies t d side bodies → (kind_at t (length bodies) ≡ Structure → IsBodyShape e (bound_on t side (length bodies)) body)
      → AreBodies t e side (bodies ++ body ∷ [])
  bodies_more d e h shaped bodies body are is s lt kind = elim (cases_lt s (length bodies)) [
    | inl less ↦ subst (λ (o : Option (Option ℕ)). IsBodyShape e (bound_on t side s) (body_in o)) (sym (get_left bodies (body ∷ []) s less))
        (body_kept d e h shaped s (body_in (slice_get bodies s)) (are s less kind))
    | inr ge ↦
        let many = length-append bodies (body ∷ []) in
        let same : s ≡ length bodies = omega (arith, ge, lt, many) in
        subst (λ n. IsBodyShape e (bound_on t side n) (body_in (slice_get (bodies ++ body ∷ []) n))) (sym same)
        (subst (λ (o : Option (Option ℕ)). IsBodyShape e (bound_on t side (length bodies)) (body_in o)) (sym (get_end bodies body []))
        (is (subst (λ n. kind_at t n ≡ Structure) same kind)))
  ]

  -- no member stands in the document
  pub payload_body : (d : TableData) (s : ℕ) → list_any (is_unbound_on t side) (members_at t s) ≡ false
      → IsBodyShape d (bound_on t side s) (payload_among t (members_at t s))
  payload_body d s none =
      subst (λ b. IsBodyBy b d (bound_on t side s) (payload_among t (members_at t s))) (sym none) (payload_same t side s (members_at t s))

  -- all do
  pub whole_body : (d : TableData) → Extends d t → Shaped t → (s : ℕ) → s < shape_count t → kind_at t s ≡ Structure
      → list_any (is_unbound_on t side) (members_at t s) ≡ true
      → length (filter (is_unbound_on t side) (members_at t s)) ≡ length (members_at t s) → IsBodyShape d (bound_on t side s) (Some s)
  whole_body d h shaped s lt kind some many =
      let all = members_there t s (members_at t s) (shaped.members s lt) in
      subst (λ b. IsBodyBy b d (bound_on t side s) (Some s)) (sym some)
      (subst (IsExcerpt d t s) (sym (whole_kept (is_unbound_on t side) (members_at t s) many)) (whole_excerpt d t h s lt kind all))

  -- some do
  module _ (d : TableData) (h : Extends d t) (shaped : Shaped t) (s : ℕ) (lt : s < shape_count t) where
    abbrev kept : List ℕ
    kept = filter (is_unbound_on t side) (members_at t s)

    kept_there : AllByRecursion (λ k. k < member_count t) kept
    kept_there = all_kept (is_unbound_on t side) (λ k. k < member_count t) (members_at t s)
        (members_there t s (members_at t s) (shaped.members s lt))

    pub kept_within : AllByRecursion (λ k. k < member_count d) kept
    kept_within = all_more d t h kept kept_there

    pub kept_names : AllDiffer (map (name_at d) kept)
    kept_names = subst AllDiffer (sym (names_kept d t h kept kept_there))
        (differ_kept (is_unbound_on t side) (name_at t) (members_at t s) (shaped.names s lt))

    pub kept_json_names : AllDiffer (map (json_name_at d) kept)
    kept_json_names = subst AllDiffer (sym (json_names_kept d t h kept kept_there))
        (differ_kept (is_unbound_on t side) (json_name_at t) (members_at t s) (shaped.json_names s lt))

    pub excerpt_body : (e : TableData) (body : Option ℕ) → list_any (is_unbound_on t side) (members_at t s) ≡ true
        → IsExcerptBody e d body kept → IsBodyShape e (bound_on t side s) body
    excerpt_body e body some x = subst (λ b. IsBodyBy b e (bound_on t side s) body) (sym some) (by body x)
      where
        by : (o : Option ℕ) → IsExcerptBody e d o kept → IsBodyBy true e (bound_on t side s) o
        by None y = y
        by (Some r) y = excerpt_below e d t h r kept kept_there y

-- the steps of the code
module _ (t : TableData) (side : BoundSide) where
  -- none yet
  pub none_grown : (g : Growing) → IsGrown t (table_data g.table) → g.bodies.items ≡ [] → Grows t side (table_data g.table) 0 g
  none_grown g grown none = record {
    grown = grown;
    extends = extends_itself (table_data g.table);
    bodies = λ s lt kind. let many = ap length none in absurd (omega (arith, lt, many));
    long = ap length none;
  }

  pub grows_then : (d : TableData) (n m : ℕ) (g h : Growing) → Grows t side d n g → Grows t side (table_data g.table) m h
      → Grows t side d m h
  grows_then d n m g h one more = record {
    grown = more.grown;
    extends = extends_then (table_data h.table) (table_data g.table) d more.extends one.extends;
    bodies = more.bodies;
    long = more.long;
  }

  -- a body more
  pub grows_more : (d : TableData) (s : ℕ) (old g : Growing) (b : Body) → Grows t side d s old
      → HasBody t side (table_data old.table) s b → (g.table ≡ b.table) × (g.bodies.items ≡ old.bodies.items ++ b.body ∷ [])
      → Grows t side (table_data old.table) (s + 1) g
  grows_more d s old g b so_far has is =
      let old_shaped = so_far.grown.shaped in
      let bodies = bodies_more t side (table_data old.table) (table_data b.table) has.extends old_shaped old.bodies.items b.body so_far.bodies
      (subst (λ n. kind_at t n ≡ Structure → IsBodyShape (table_data b.table) (bound_on t side n) b.body) (sym so_far.long) has.body) in
      let made : Grows t side (table_data old.table) (s + 1) (record { table = b.table; bodies = g.bodies }) = record {
        grown = has.grown;
        extends = has.extends;
        bodies = subst (AreBodies t (table_data b.table) side) (sym is.1) bodies;
        long =
            let many = ap length is.1 in
            let all = length-append old.bodies.items (b.body ∷ []) in
            let before = so_far.long in omega (arith, many, all, before);
      } in
      subst (λ x. Grows t side (table_data old.table) (s + 1) (record { table = x; bodies = g.bodies })) (sym is.0) made

  pub no_structure : (d : TableData) (s : ℕ) (b : Body) → IsGrown t d → table_data b.table ≡ d → (kind_at t s ≡ Structure → ⊥)
      → HasBody t side d s b
  no_structure d s b grown is other = record {
    grown = subst (IsGrown t) (sym is) grown;
    extends = subst (λ x. Extends x d) (sym is) (extends_itself d);
    body = λ kind. absurd (other kind);
  }

  pub has_payload : (b : Body) (s : ℕ) → IsGrown t (table_data b.table)
      → false ≡ list_any (is_unbound_on t side) (members_at t s) → b.body ≡ payload_among t (members_at t s)
      → HasBody t side (table_data b.table) s b
  has_payload b s grown none is = record {
    grown = grown;
    extends = extends_itself (table_data b.table);
    body = λ kind. subst (IsBodyShape (table_data b.table) (bound_on t side s)) (sym is) (payload_body t side (table_data b.table) s (sym none));
  }

  pub has_whole : (b : Body) (s : ℕ) → IsGrown t (table_data b.table) → Shaped t → s < shape_count t → kind_at t s ≡ Structure
      → list_any (is_unbound_on t side) (members_at t s) ≡ true
      → length (filter (is_unbound_on t side) (members_at t s)) ≡ length (members_at t s) → b.body ≡ Some s
      → HasBody t side (table_data b.table) s b
  has_whole b s grown shaped lt kind some many is = record {
    grown = grown;
    extends = extends_itself (table_data b.table);
    body = λ k. subst (IsBodyShape (table_data b.table) (bound_on t side s)) (sym is)
        (whole_body t side (table_data b.table) grown.extends shaped s lt kind some many);
  }

  pub has_excerpt : (d : TableData) (b : Body) (s : ℕ) (ks : List ℕ) → IsGrown t d → Shaped t → s < shape_count t
      → list_any (is_unbound_on t side) (members_at t s) ≡ true → ks ≡ filter (is_unbound_on t side) (members_at t s) → AddsBody d ks b
      → HasBody t side d s b
  has_excerpt d b s ks grown shaped lt some is adds = record {
    grown = grown_then t d (table_data b.table) grown adds.extends adds.shaped adds.built;
    extends = adds.extends;
    body = λ kind. excerpt_body t side d grown.extends shaped s lt (table_data b.table) b.body some
        (subst (IsExcerptBody (table_data b.table) d b.body) is adds.excerpt);
  }
