-- What a header is called is a token of HTTP, in the table of a service that is ready.
use Rattle.std.proofs.Common.{◌≡◌, inl, ℕ, Bool, true, false, ◌&&◌, List, [], Option, Some, None, refl, sym, ap, ◌∙◌, subst, IsTrue}
use Rattle.std.specs.Prelude.{slice_get, unwrap_or}
use Rattle.std.specs.FinMap as fin
use Rattle.std.specs.List.{Contains}
use Rattle.std.proofs.lemmas.Option.{none-some}
use Rattle.httparse.specs.Grammar.{is_token}
use Rattle.sm_tree.specs.Node.{Node}
use Rattle.sm_tree.specs.Parts.{text_in}
use Rattle.sm_model.specs.FormedGraph.{IsFormedGraph}
use Rattle.sm_model.specs.Graphs.{GraphMaps, MemberEntry, member_entry, shape_entry}
use Rattle.sm_model.specs.PreludeShapes.{is_prelude_id}
use Rattle.sm_model.specs.Relations.{HasEntry}
use Rattle.sm_model.proofs.OneRising.{contains_none}
use Rattle.sm_shapes.specs.TableData.{MemberData, TableData, binding_at, binding_in, header}
use Rattle.sm_compile.specs.Compiled.{IsCompiled, IsTabledMember, Numbering}
use Rattle.sm_compile.specs.Sound.{trait_in, trait_of}
use Rattle.sm_compile.specs.TraitIds.{http_header_id}
use Rattle.sm_compile.specs.TraitNodes.{is_text, text_of}
use Rattle.sm_compile.proofs.SoundTests.{second_of}
use Rattle.sm_rules.specs.Ready.{IsOfService, NoneFailsIn}
use Rattle.sm_rules.specs.TraitRows.{at_member}
use Rattle.sm_rules.specs.Traits.{of_member}
use Rattle.sm_rules.specs.Words.{IsService}
use Rattle.sm_accepted.proofs.ClosedSets.{service_closed}
use Rattle.sm_accepted.proofs.FormedShapes.{member_own}
use Rattle.sm_accepted.proofs.TraitsRight.{by_row, or_false}
use Rattle.sm_service.specs.Bound.{Binds, BindsMember, SaysBinding}
use Rattle.sm_service.proofs.BareShapes.{bare_of_prelude}
use Rattle.sm_service.proofs.ServableRows.{contains_at, listed, said_at}

-- the text of a node that is a token
token_text : (o : Option Node) (name : List ℕ) → text_of o ≡ Some name
    → ((n : Node) → o ≡ Some n → (is_text n && is_token (unwrap_or (text_in n) [])) ≡ true) → IsTrue (is_token name)
token_text None name h said = absurd (none-some name h)
token_text (Some n) name h said =
    sym (ap (λ (u : Option (List ℕ)). is_token (unwrap_or u [])) h) ∙ second_of (is_text n) (is_token (unwrap_or (text_in n) [])) (said n refl)

module _ (g : GraphMaps) (f : IsFormedGraph g) (service : List ℕ) (is : IsService g service) (none : NoneFailsIn g (IsOfService g service)) where
  module _ (id : List ℕ) (tabled : IsTabledMember g (IsOfService g service) id) (m : MemberEntry) (there : HasEntry g id (member_entry m)) where
    listed_there : Contains tabled.1.members id
    listed_there = listed tabled.1 id tabled.4

    home_own : is_prelude_id tabled.0 ≡ false
    home_own = by (is_prelude_id tabled.0) refl
      where
        by : (b : Bool) → is_prelude_id tabled.0 ≡ b → b ≡ false
        by false is = refl
        by true is =
            let bare = (bare_of_prelude g f tabled.0 tabled.1 tabled.3 is).0 in
            absurd (contains_none id (subst (λ xs. Contains xs id) bare listed_there))

    inside : IsOfService g service id
    inside =
        service_closed g service is tabled.0 id tabled.2.0
        (inl (shape_entry tabled.1, tabled.3, inl (refl, listed_there), (member_entry m, there)))

    said : (n : Node) → trait_of g id http_header_id ≡ Some n → (is_text n && is_token (unwrap_or (text_in n) [])) ≡ true
    said n has =
        sym (or_false (is_text n && is_token (unwrap_or (text_in n) [])))
        ∙ by_row g (IsOfService g service) none id inside (member_own g f id m there) (at_member tabled.1.kind (fin.get g.shapes m.target))
        (of_member (record {
          shape = tabled.0;
          s = tabled.1;
          m = m;
          member = record { home = (tabled.3, home_own); among = listed_there; there = there };
          is = refl;
        })) http_header_id n refl has

    pub header_token : (name : List ℕ) → text_of (fin.get m.traits http_header_id) ≡ Some name → IsTrue (is_token name)
    header_token name h =
        token_text (trait_of g id http_header_id) name (ap (λ o. text_of (trait_in http_header_id o)) there ∙ h) said

  module _ (t : TableData) (n : Numbering) (c : IsCompiled g (IsOfService g service) t n) (b : Binds g n t) where
    row_token : (k : ℕ) (name : List ℕ) (o : Option MemberData) → slice_get t.members k ≡ o → binding_in o ≡ Some (header name)
        → IsTrue (is_token name)
    row_token k name None at h = absurd (none-some (header name) h)
    row_token k name (Some d) at h =
        let r = said_at (BindsMember g) n.members t.members k d at b.members in
        header_token r.0 ((c.members r.0).0 (contains_at n.members k r.0 r.1)) r.2.m r.2.there name
        (subst (SaysBinding r.2.m.traits) h r.2.binding)

    pub tokens : (k : ℕ) (name : List ℕ) → binding_at t k ≡ Some (header name) → IsTrue (is_token name)
    tokens k name h = row_token k name (slice_get t.members k) refl h
