-- What the members of a shape of a service that is ready carry of HTTP bindings: what the table shows of each is what the rules look at.
use Rattle.std.proofs.Common.{◌≡◌, ℕ, Bool, true, false, not, ◌||◌, cond, List, [], ◌∷◌, Option, Some, None, refl, sym, ap, subst, ◌∙◌}
use Rattle.std.proofs.Common.{arith, bytes_eq}
use Rattle.std.specs.Prelude.{is_some}
use Rattle.std.specs.Cmp.Lexicographic.{nat_list_cmp_total}
use Rattle.std.specs.FinMap as fin
use Rattle.std.specs.FinMap.{slice_cmp-IsAntisymmetric, nat_cmp-IsAntisymmetric}
use Rattle.std.specs.List.{Contains, list_any}
use Rattle.std.specs.Ordering.{ordering_reverse}
use Rattle.std.specs.declared.cmp.Ordering.{Ordering}
use Rattle.std.specs.declared.cmp.Ordering.TheVariants.{Less, Equal, Greater}
use Rattle.std.proofs.lemmas.Option.{none-some}
use Rattle.std.proofs.lemmas.Slice.Eq.{bytes_eq-Decides}
use Rattle.sm_tree.specs.Node.{Node}
use Rattle.sm_model.specs.FormedGraph.{IsFormedGraph}
use Rattle.sm_model.specs.Graphs.{Entry, GraphMaps, MemberEntry, NodeMap, ShapeEntry, member_entry, shape_entry, text_cmp}
use Rattle.sm_model.specs.PreludeShapes.{is_prelude_id}
use Rattle.sm_model.specs.Relations.{HasEntry}
use Rattle.sm_model.specs.declared.relation.Relation.TheVariants.{Target}
use Rattle.sm_model.proofs.OneRising.{contains_none}
use Rattle.sm_model.proofs.Worklist.{apart}
use Rattle.sm_shapes.specs.TableData.{BindingData, label, query, query_params, header, prefix_headers, payload, response_code}
use Rattle.sm_compile.specs.Compiled.{IdSet}
use Rattle.sm_compile.specs.Sound.{trait_in, trait_of}
use Rattle.sm_compile.specs.TraitIds.{binding_ids, http_header_id, http_prefix_headers_id, http_query_id}
use Rattle.sm_compile.specs.TraitNodes.{text_of}
use Rattle.sm_rules.specs.Bindings.{BindingTrait, BoundSide, a_header, a_label, a_payload, a_query, a_response_code, binding_id}
use Rattle.sm_rules.specs.Bindings.{bindings_of}
use Rattle.sm_rules.specs.Bindings.{has_binding, is_in_body, is_in_document, some_prefix_headers, some_query_params}
use Rattle.sm_rules.specs.Ready.{NoneFailsIn}
use Rattle.sm_rules.specs.Targets.{by_member}
use Rattle.sm_rules.specs.TraitRows.{Spot, at_member, has_row, is_as_one, rows_of, that_reads}
use Rattle.sm_rules.specs.Traits.{IsSpot, of_member}
use Rattle.sm_rules.specs.WireNames.{header_name, header_prefix, query_name}
use Rattle.sm_rules.specs.Words.{IsMemberOf, IsOwnShape, has_trait, read_trait}
use Rattle.sm_accepted.proofs.ClosedSets.{AreIn}
use Rattle.sm_accepted.proofs.FormedShapes.{member_own}
use Rattle.sm_accepted.proofs.TraitsRight.{by_row}
use Rattle.sm_service.specs.Bound.{SaysBinding}
use Rattle.sm_service.specs.WireMembers.{WireMember, header_of, is_bound_by, prefix_of, query_of, stands_in_body}
use Rattle.sm_service.specs.WireMembers.{stands_in_document, trait_bound}
use Rattle.sm_service.specs.steps.WireSaid.{SaysWireMember}
use Rattle.sm_service.proofs.BareShapes.{bare_of_prelude}
use Rattle.sm_service.proofs.HttpLists.{any_alike, any_not}

-- a text that is there, and one that isn't
there_where : (o : Option Node) (t : List ℕ) → text_of o ≡ Some t → is_some o ≡ true
there_where None t h = absurd (none-some t h)
there_where (Some n) t h = refl

no_text : (o : Option Node) → false ≡ is_some o → None ≡ text_of o
no_text None h = refl
no_text (Some n) h = absurd (apart h)

-- what is bound carries its trait
carried : (traits : NodeMap) (b : BindingData) → SaysBinding traits (Some b) → has_binding traits (trait_bound b) ≡ true
carried traits label h = h
carried traits (query name) h = there_where (fin.get traits http_query_id) name h
carried traits query_params h = h
carried traits (header name) h = there_where (fin.get traits http_header_id) name h
carried traits (prefix_headers prefix) h = there_where (fin.get traits http_prefix_headers_id) prefix h
carried traits payload h = h
carried traits response_code h = h

among_bindings : (b : BindingTrait) → Contains binding_ids (binding_id b)
among_bindings a_label = (0, omega arith, refl)
among_bindings a_query = (1, omega arith, refl)
among_bindings some_query_params = (2, omega arith, refl)
among_bindings a_header = (3, omega arith, refl)
among_bindings some_prefix_headers = (4, omega arith, refl)
among_bindings a_payload = (5, omega arith, refl)
among_bindings a_response_code = (6, omega arith, refl)

-- no two binding traits
abbrev OneBinding : NodeMap → Type 0
OneBinding traits =
    (x y : BindingTrait) → has_binding traits x ≡ true → has_binding traits y ≡ true → bytes_eq (binding_id x) (binding_id y) ≡ true

told : (traits : NodeMap) → OneBinding traits → (b : Option BindingData) → SaysBinding traits b → (wanted : BindingTrait)
    → is_bound_by b wanted ≡ has_binding traits wanted
told traits one None h wanted = sym (any_not (λ id. is_some (fin.get traits id)) binding_ids h (binding_id wanted) (among_bindings wanted))
told traits one (Some b) h wanted = by (has_binding traits wanted) refl (bytes_eq (binding_id wanted) (binding_id (trait_bound b))) refl
  where
    by : (c : Bool) → has_binding traits wanted ≡ c → (d : Bool) → bytes_eq (binding_id wanted) (binding_id (trait_bound b)) ≡ d → d ≡ c
    by true has d is = sym is ∙ one wanted (trait_bound b) has (carried traits b h)
    by false no_such false is = refl
    by false no_such true is =
        absurd (apart (sym no_such ∙ ap (λ i. has_trait i traits) ((bytes_eq-Decides (binding_id wanted) (binding_id (trait_bound b))).0 is)
        ∙ carried traits b h))

-- what counts is there where it is bound
none_counts : (ts : List BindingTrait) → list_any (is_bound_by None) ts ≡ false
none_counts [] = refl
none_counts (t ∷ ts) = none_counts ts

there_if : (c : Bool) (b : Option BindingData) → (b ≡ None → c ≡ false) → is_some (cond c b None) ≡ c
there_if true None h = absurd (apart (sym (h refl)))
there_if true (Some b) h = refl
there_if false b h = refl

counted_there : (ts : List BindingTrait) (b : Option BindingData)
    → is_some (cond (list_any (is_bound_by b) ts) b None) ≡ list_any (is_bound_by b) ts
counted_there ts b =
    there_if (list_any (is_bound_by b) ts) b (λ is. ap (λ o. list_any (is_bound_by o) ts) is ∙ none_counts ts)

-- the names that a binding has
header_told : (traits : NodeMap) (b : Option BindingData) → SaysBinding traits b → is_bound_by b a_header ≡ has_binding traits a_header
    → header_of b ≡ text_of (fin.get traits http_header_id)
header_told traits (Some (header name)) h e = sym h
header_told traits None h e = no_text (fin.get traits http_header_id) e
header_told traits (Some label) h e = no_text (fin.get traits http_header_id) e
header_told traits (Some (query name)) h e = no_text (fin.get traits http_header_id) e
header_told traits (Some query_params) h e = no_text (fin.get traits http_header_id) e
header_told traits (Some (prefix_headers prefix)) h e = no_text (fin.get traits http_header_id) e
header_told traits (Some payload) h e = no_text (fin.get traits http_header_id) e
header_told traits (Some response_code) h e = no_text (fin.get traits http_header_id) e

query_told : (traits : NodeMap) (b : Option BindingData) → SaysBinding traits b → is_bound_by b a_query ≡ has_binding traits a_query
    → query_of b ≡ text_of (fin.get traits http_query_id)
query_told traits (Some (query name)) h e = sym h
query_told traits None h e = no_text (fin.get traits http_query_id) e
query_told traits (Some label) h e = no_text (fin.get traits http_query_id) e
query_told traits (Some (header name)) h e = no_text (fin.get traits http_query_id) e
query_told traits (Some query_params) h e = no_text (fin.get traits http_query_id) e
query_told traits (Some (prefix_headers prefix)) h e = no_text (fin.get traits http_query_id) e
query_told traits (Some payload) h e = no_text (fin.get traits http_query_id) e
query_told traits (Some response_code) h e = no_text (fin.get traits http_query_id) e

prefix_told : (traits : NodeMap) (b : Option BindingData) → SaysBinding traits b
    → is_bound_by b some_prefix_headers ≡ has_binding traits some_prefix_headers
    → prefix_of b ≡ text_of (fin.get traits http_prefix_headers_id)
prefix_told traits (Some (prefix_headers prefix)) h e = sym h
prefix_told traits None h e = no_text (fin.get traits http_prefix_headers_id) e
prefix_told traits (Some label) h e = no_text (fin.get traits http_prefix_headers_id) e
prefix_told traits (Some (query name)) h e = no_text (fin.get traits http_prefix_headers_id) e
prefix_told traits (Some query_params) h e = no_text (fin.get traits http_prefix_headers_id) e
prefix_told traits (Some (header name)) h e = no_text (fin.get traits http_prefix_headers_id) e
prefix_told traits (Some payload) h e = no_text (fin.get traits http_prefix_headers_id) e
prefix_told traits (Some response_code) h e = no_text (fin.get traits http_prefix_headers_id) e

-- bound to a label
pub label_told : (b : Option BindingData) → is_bound_by b a_label ≡ true → b ≡ Some label
label_told (Some label) h = refl
label_told None h = absurd (apart h)
label_told (Some (query name)) h = absurd (apart h)
label_told (Some query_params) h = absurd (apart h)
label_told (Some (header name)) h = absurd (apart h)
label_told (Some (prefix_headers prefix)) h = absurd (apart h)
label_told (Some payload) h = absurd (apart h)
label_told (Some response_code) h = absurd (apart h)

-- where no rule fails, values of traits with a row read
pub reads_at : (g : GraphMaps) (In : IdSet) → NoneFailsIn g In → (id : List ℕ) → In id → is_prelude_id id ≡ false → (spot : Spot)
    → IsSpot g id spot → (trait : List ℕ) → has_row trait ≡ true → read_trait g id trait ≡ trait_of g id trait
reads_at g In none id inside own spot stands trait row = by (trait_of g id trait) refl
  where
    by : (o : Option Node) → trait_of g id trait ≡ o → that_reads trait o ≡ o
    by None is = refl
    by (Some n) is = ap (λ b. cond b (Some n) None) (by_row g In none id inside own spot stands trait n row is)

module _ (g : GraphMaps) (f : IsFormedGraph g) (In : IdSet) (none : NoneFailsIn g In) (shape : List ℕ) (s : ShapeEntry)
    (home : HasEntry g shape (shape_entry s)) (members_in : AreIn In s.members) where
  -- a shape with a member is the model's own
  pub owned : (id : List ℕ) → Contains s.members id → IsOwnShape g shape s
  owned id among = (home, by (is_prelude_id shape) refl)
    where
      by : (b : Bool) → is_prelude_id shape ≡ b → b ≡ false
      by true of_prelude =
          absurd (contains_none id (subst (λ xs. Contains xs id) (bare_of_prelude g f shape s home of_prelude).0 among))
      by false other = refl

  module _ (id : List ℕ) (w : WireMember) (among : Contains s.members id) (says : SaysWireMember g shape id w) where
    abbrev m : MemberEntry
    m = says.m

    pub is_member : IsMemberOf g shape s id m
    is_member = record { home = owned id among; among = among; there = says.there }

    own : is_prelude_id id ≡ false
    own = member_own g f id m says.there

    spot : IsSpot g id (at_member s.kind (fin.get g.shapes m.target))
    spot = of_member (record { shape = shape; s = s; m = m; member = is_member; is = refl })

    -- its target is there
    pub target_there : (t : ShapeEntry) × HasEntry g m.target (shape_entry t)
    target_there = by (fin.get g.shapes m.target) refl
      where
        by : (o : Option Entry) → fin.get g.shapes m.target ≡ o → (t : ShapeEntry) × HasEntry g m.target (shape_entry t)
        by None is = absurd (none.missing id m.target (members_in id among) (record {
          refers = record { e = member_entry m; own = (says.there, own); relation = Target; other = λ e. cc; says = (refl, refl) };
          nothing = λ found. none-some found.0 (sym is ∙ found.1);
        }))
        by (Some (shape_entry t)) is = (t, is)
        by (Some (member_entry other)) is = absurd (none.kinds id m.target (members_in id among) (by_member (record {
          shape = shape;
          s = s;
          m = m;
          member = is_member;
          targets = refl;
          e = member_entry other;
          there = is;
          may_not = refl;
        })))

    -- values of traits read
    pub as_row : (trait : List ℕ) → has_row trait ≡ true → (n : Node) → trait_of g id trait ≡ Some n → is_as_one (rows_of trait) n ≡ true
    as_row trait row n is = by_row g In none id (members_in id among) own (at_member s.kind (fin.get g.shapes m.target)) spot trait n row is

    pub read_is : (trait : List ℕ) → has_row trait ≡ true → read_trait g id trait ≡ fin.get m.traits trait
    read_is trait row =
        reads_at g In none id (members_in id among) own (at_member s.kind (fin.get g.shapes m.target)) spot trait row
        ∙ ap (trait_in trait) says.there

    -- no two binding traits
    one_binding : OneBinding m.traits
    one_binding x y has_x has_y = by (text_cmp (binding_id x) (binding_id y)) refl
      where
        by : (o : Ordering) → text_cmp (binding_id x) (binding_id y) ≡ o → bytes_eq (binding_id x) (binding_id y) ≡ true
        by Equal is =
            (bytes_eq-Decides (binding_id x) (binding_id y)).1
            (slice_cmp-IsAntisymmetric nat_cmp-IsAntisymmetric (binding_id x) (binding_id y) is)
        by Less is = absurd (none.exclusive id (binding_id y) (members_in id among) (record {
          e = member_entry m;
          own = (says.there, own);
          group = binding_ids;
          is_group = (2, omega arith, refl);
          smaller = binding_id x;
          both = (among_bindings x, among_bindings y);
          smaller_there = has_x;
          greater_there = has_y;
          order = is;
        }))
        by Greater is = absurd (none.exclusive id (binding_id x) (members_in id among) (record {
          e = member_entry m;
          own = (says.there, own);
          group = binding_ids;
          is_group = (2, omega arith, refl);
          smaller = binding_id y;
          both = (among_bindings y, among_bindings x);
          smaller_there = has_y;
          greater_there = has_x;
          order = nat_list_cmp_total.antisymm (binding_id y) (binding_id x) ∙ ap ordering_reverse is;
        }))

    -- so what the table shows is what the rules look at
    pub bound_is : (wanted : BindingTrait) → is_bound_by w.binding wanted ≡ has_binding m.traits wanted
    bound_is wanted = told m.traits one_binding w.binding says.binding wanted

    pub document_is : (side : BoundSide) → stands_in_document side w ≡ is_in_document side m.traits
    document_is side =
        ap not (counted_there (bindings_of side) w.binding
        ∙ any_alike (is_bound_by w.binding) (has_binding m.traits) (bindings_of side) bound_is)

    pub body_is : (side : BoundSide) → stands_in_body side w ≡ is_in_body side m.traits
    body_is side =
        ap (λ b. b || stands_in_document side w) (bound_is a_payload)
        ∙ ap (λ b. has_binding m.traits a_payload || b) (document_is side)

    pub header_is : header_of w.binding ≡ header_name g id
    header_is =
        header_told m.traits w.binding says.binding (bound_is a_header) ∙ sym (ap text_of (read_is http_header_id refl))

    pub query_is : query_of w.binding ≡ query_name g id
    query_is = query_told m.traits w.binding says.binding (bound_is a_query) ∙ sym (ap text_of (read_is http_query_id refl))

    pub prefix_is : prefix_of w.binding ≡ header_prefix g id
    prefix_is =
        prefix_told m.traits w.binding says.binding (bound_is some_prefix_headers)
        ∙ sym (ap text_of (read_is http_prefix_headers_id refl))

    pub label_is : has_binding m.traits a_label ≡ true → w.binding ≡ Some label
    label_is has = label_told w.binding (bound_is a_label ∙ has)

    pub has_label : w.binding ≡ Some label → has_binding m.traits a_label ≡ true
    has_label is = sym (bound_is a_label) ∙ ap (λ b. is_bound_by b a_label) is
