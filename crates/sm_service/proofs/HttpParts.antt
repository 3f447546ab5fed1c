-- The members of an input, an output or an error of a service that is ready each have their own parts of a message.
use Rattle.std.proofs.Common.{◌≡◌, ℕ, true, not, ◌++◌, List, [], ◌∷◌, map, Option, Some, None, refl, sym, ap, subst, ◌∙◌}
use Rattle.std.proofs.Common.{arith, bytes_eq}
use Rattle.std.specs.Prelude.{is_some}
use Rattle.std.specs.FinMap as fin
use Rattle.std.specs.Option.{unwrap_or}
use Rattle.std.specs.List.{Contains}
use Rattle.std.specs.Str.{str_eq_ignore_ascii_case, str_to_ascii_lowercase}
use Rattle.std.proofs.lemmas.Option.{none-some}
use Rattle.std.proofs.lemmas.Slice.Eq.{bytes_eq-Decides}
use Rattle.sm_tree.specs.Node.{Node}
use Rattle.sm_tree.specs.Parts.{text_in}
use Rattle.sm_model.specs.FormedGraph.{IsFormedGraph}
use Rattle.sm_model.specs.Graphs.{GraphMaps, ShapeEntry, shape_entry}
use Rattle.sm_model.specs.Relations.{HasEntry}
use Rattle.sm_model.specs.declared.kind.Kind.TheVariants.{Structure}
use Rattle.sm_model.proofs.Worklist.{apart}
use Rattle.sm_shapes.specs.Names.{AllDiffer}
use Rattle.sm_compile.specs.Compiled.{EachSays, IdSet}
use Rattle.sm_compile.specs.Sound.{trait_in, trait_of}
use Rattle.sm_compile.specs.TraitIds.{http_payload_id, http_query_id}
use Rattle.sm_compile.specs.TraitNodes.{text_of}
use Rattle.sm_compile.proofs.SoundTests.{second_of}
use Rattle.sm_rules.specs.Bindings.{BindingTrait, BoundSide, IsBound, a_payload, a_response_code, an_input, binding_id}
use Rattle.sm_rules.specs.Bindings.{some_prefix_headers, some_query_params}
use Rattle.sm_rules.specs.Http.{beside_payload}
use Rattle.sm_rules.specs.Ready.{NoneFailsIn}
use Rattle.sm_rules.specs.Traits.{single_traits}
use Rattle.sm_rules.specs.TraitRows.{has_none}
use Rattle.sm_rules.specs.WireNames.{has_prefix, header_again, header_name, query_again, query_name}
use Rattle.sm_accepted.proofs.ClosedSets.{AreIn}
use Rattle.sm_accepted.proofs.TraitsRight.{or_false}
use Rattle.sm_service.specs.HttpServable.{BeginsWithSome, HaveOwnParts, HaveOwnQueries, IsBodyAlone, IsBoundOnce, headers_among}
use Rattle.sm_service.specs.HttpServable.{prefixes_among}
use Rattle.sm_service.specs.HttpServable.{queries_among}
use Rattle.sm_service.specs.WireMembers.{WireMember, header_of, is_bound_by, prefix_of, query_of}
use Rattle.sm_service.specs.steps.WireSaid.{SaysWireMember}
use Rattle.sm_service.proofs.HttpLists.{IsCut, NoTwoPass, NoneAgain, all_differ, any_passes, at_most_one, cut, found_among, id_of, map_same}
use Rattle.sm_service.proofs.HttpLists.{stands_at, stands_before}
use Rattle.sm_service.proofs.HttpMembers.{as_row, bound_is, document_is, header_is, is_member, owned, prefix_is, query_is, read_is}

-- a text that is filled
filled_there : (o : Option Node) (t : List ℕ) → text_of o ≡ Some t → (n : Node) × (o ≡ Some n) × (text_in n ≡ Some t)
filled_there None t h = absurd (none-some t h)
filled_there (Some n) t h = (n, refl, h)

module _ (g : GraphMaps) (f : IsFormedGraph g) (In : IdSet) (none : NoneFailsIn g In) (shape : List ℕ) (s : ShapeEntry)
    (home : HasEntry g shape (shape_entry s)) (members_in : AreIn In s.members) (inside : In shape) (kind : s.kind ≡ Structure)
    (ws : List WireMember) (says : EachSays (SaysWireMember g shape) s.members ws) where
  abbrev Says : List ℕ → WireMember → Type 0
  Says = SaysWireMember g shape

  -- one of the members, with those before it
  abbrev at_cut : (before : List WireMember) (x : WireMember) (later : List WireMember) → ws ≡ before ++ x ∷ later
      → IsCut Says s.members before x
  at_cut before x later is = cut Says s.members before x later (subst (λ zs. EachSays Says s.members zs) is says)

  here : (c : List (List ℕ)) (id : List ℕ) (rest : List (List ℕ)) → s.members ≡ c ++ id ∷ rest → Contains s.members id
  here c id rest is = subst (λ zs. Contains zs id) (sym is) (stands_at c id rest)

  before_it : (c : List (List ℕ)) (id : List ℕ) (rest : List (List ℕ)) → s.members ≡ c ++ id ∷ rest → (other : List ℕ)
      → Contains c other → Contains s.members other
  before_it c id rest is other among = subst (λ zs. Contains zs other) (sym is) (stands_before c id rest other among)

  -- at most one member carries a trait
  no_two : (wanted : BindingTrait) → Contains single_traits (binding_id wanted)
      → NoTwoPass (λ (m : WireMember). is_bound_by m.binding wanted) ws
  no_two wanted single before x later is y among passes_y passes_x =
      let c = at_cut before x later is in
      let o = id_of Says c.first before c.each y among in
      let x_in = here c.first c.id c.rest c.is in
      let y_in = before_it c.first c.id c.rest c.is o.0 o.1 in
      let carried : (id : List ℕ) (w : WireMember) → Contains s.members id → Says id w → is_bound_by w.binding wanted ≡ true
      → is_some (trait_of g id (binding_id wanted)) ≡ true =
      λ id w in_it said bound. ap (λ e. is_some (trait_in (binding_id wanted) e)) said.there
      ∙ sym (bound_is g f In none shape s home members_in id w in_it said wanted) ∙ bound in
      none.single shape (binding_id wanted) inside (record {
        s = s;
        kind = kind;
        among = single;
        before = c.first;
        second = c.id;
        behind = record { home = owned g f In none shape s home members_in c.id x_in; later = c.rest; members = c.is };
        first = o.0;
        earlier = o.1;
        first_carries = carried o.0 y y_in o.2 passes_y;
        second_carries = carried c.id x x_in c.says passes_x;
      })

  once : (wanted : BindingTrait) → Contains single_traits (binding_id wanted) → IsBoundOnce wanted ws
  once wanted single = at_most_one (λ (m : WireMember). is_bound_by m.binding wanted) ws (no_two wanted single)

  module _ (side : BoundSide) (bound : IsBound g side shape) where
    no_header_again : NoneAgain (λ (m : WireMember). header_of m.binding) str_to_ascii_lowercase ws
    no_header_again before x later is y among t u named other same =
        let c = at_cut before x later is in
        let o = id_of Says c.first before c.each y among in
        let x_in = here c.first c.id c.rest c.is in
        let y_in = before_it c.first c.id c.rest c.is o.0 o.1 in
        none.wire_names c.id t (members_in c.id x_in) (header_again side shape s bound (record {
          before = c.first;
          behind = record { home = owned g f In none shape s home members_in c.id x_in; later = c.rest; members = c.is };
          is = sym (header_is g f In none shape s home members_in c.id x x_in c.says) ∙ named;
          again = any_passes (header_name g) (str_eq_ignore_ascii_case t) u
              ((bytes_eq-Decides (str_to_ascii_lowercase t) (str_to_ascii_lowercase u)).1 (sym same)) c.first o.0 o.1
              (sym (header_is g f In none shape s home members_in o.0 y y_in o.2) ∙ other);
        }))

    headers_differ : AllDiffer (map str_to_ascii_lowercase (headers_among ws))
    headers_differ = all_differ (λ (m : WireMember). header_of m.binding) str_to_ascii_lowercase ws no_header_again

    no_prefix : (name prefix : List ℕ) → Contains (headers_among ws) name → Contains (prefixes_among ws) prefix → BeginsWithSome name prefix
        → ⊥
    no_prefix name prefix has_name has begins =
        let x = found_among (λ (m : WireMember). header_of m.binding) ws name has_name in
        let y = found_among (λ (m : WireMember). prefix_of m.binding) ws prefix has in
        let i = id_of Says s.members ws says x.0 x.1 in
        let j = id_of Says s.members ws says y.0 y.1 in
        none.wire_names i.0 name (members_in i.0 i.1) (has_prefix side shape s bound (record {
          home = owned g f In none shape s home members_in i.0 i.1;
          among = i.1;
          is = sym (header_is g f In none shape s home members_in i.0 x.0 i.1 i.2) ∙ x.2;
          other = j.0;
          other_among = j.1;
          prefix = prefix;
          has_prefix = sym (prefix_is g f In none shape s home members_in j.0 y.0 j.1 j.2) ∙ y.2;
          some = begins.0;
          more = begins.1.0;
          begins = begins.1.1;
        }))

    body_alone : IsBodyAlone side ws
    body_alone m other m_in other_in is_payload in_document =
        let i = id_of Says s.members ws says m m_in in
        let j = id_of Says s.members ws says other other_in in
        none.parts j.0 http_payload_id (members_in j.0 j.1) (beside_payload (record {
          side = side;
          shape = shape;
          s = s;
          m = j.2.m;
          stands = record { bound = bound; member = is_member g f In none shape s home members_in j.0 other j.1 j.2 };
          in_document = sym (document_is g f In none shape s home members_in j.0 other j.1 j.2 side) ∙ in_document;
          other = i.0;
          payload = i.2.m;
          other_member = is_member g f In none shape s home members_in i.0 m i.1 i.2;
          is_payload = sym (bound_is g f In none shape s home members_in i.0 m i.1 i.2 a_payload) ∙ is_payload;
        }) refl)

    pub own_parts : HaveOwnParts side ws
    own_parts = record {
      headers = headers_differ;
      prefixes = no_prefix;
      one_prefix = once some_prefix_headers (2, omega arith, refl);
      one_params = once some_query_params (3, omega arith, refl);
      one_payload = once a_payload (1, omega arith, refl);
      one_code = once a_response_code (4, omega arith, refl);
      alone = body_alone;
    }

  module _ (bound : IsBound g an_input shape) where
    no_query_again : NoneAgain (λ (m : WireMember). query_of m.binding) (λ (t : List ℕ). t) ws
    no_query_again before x later is y among t u named other same =
        let c = at_cut before x later is in
        let o = id_of Says c.first before c.each y among in
        let x_in = here c.first c.id c.rest c.is in
        let y_in = before_it c.first c.id c.rest c.is o.0 o.1 in
        none.wire_names c.id t (members_in c.id x_in) (query_again shape s bound (record {
          before = c.first;
          behind = record { home = owned g f In none shape s home members_in c.id x_in; later = c.rest; members = c.is };
          is = sym (query_is g f In none shape s home members_in c.id x x_in c.says) ∙ named;
          again = any_passes (query_name g) (bytes_eq t) u ((bytes_eq-Decides t u).1 (sym same)) c.first o.0 o.1
              (sym (query_is g f In none shape s home members_in o.0 y y_in o.2) ∙ other);
        }))

    -- a name of the query isn't empty
    filled : (name : List ℕ) → Contains (queries_among ws) name → name ≡ [] → ⊥
    filled name among empty =
        let x = found_among (λ (m : WireMember). query_of m.binding) ws name among in
        let i = id_of Says s.members ws says x.0 x.1 in
        let named : text_of (fin.get i.2.m.traits http_query_id) ≡ Some name =
        ap text_of (sym (read_is g f In none shape s home members_in i.0 x.0 i.1 i.2 http_query_id refl))
        ∙ sym (query_is g f In none shape s home members_in i.0 x.0 i.1 i.2) ∙ x.2 in
        let n = filled_there (fin.get i.2.m.traits http_query_id) name named in
        let row = as_row g f In none shape s home members_in i.0 x.0 i.1 i.2 http_query_id refl n.0
        (ap (trait_in http_query_id) i.2.there ∙ n.1) in
        let full = second_of (is_some (text_in n.0)) _ (sym (or_false _) ∙ row) in
        apart (sym (ap (λ (o : Option (List ℕ)). not (has_none (unwrap_or o []))) (n.2 ∙ ap Some empty)) ∙ full)

    pub own_queries : HaveOwnQueries ws
    own_queries = record {
      differ = subst AllDiffer (map_same (queries_among ws))
          (all_differ (λ (m : WireMember). query_of m.binding) (λ (t : List ℕ). t) ws no_query_again);
      filled = filled;
    }
