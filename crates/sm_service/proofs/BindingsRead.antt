-- Of a service that is ready the traits that name parts of messages have texts, at each member of its table.
use Rattle.std.proofs.Common.{◌≡◌, inl, ℕ, Bool, true, false, List, [], Some, refl, sym, ◌∙◌, subst}
use Rattle.std.specs.Prelude.{cond}
use Rattle.std.specs.FinMap as fin
use Rattle.std.specs.List.{Contains}
use Rattle.sm_tree.specs.Node.{Node}
use Rattle.sm_model.specs.Graphs.{GraphMaps, ShapeEntry, member_entry, shape_entry}
use Rattle.sm_model.specs.PreludeShapes.{is_prelude_id}
use Rattle.sm_model.specs.Relations.{HasEntry}
use Rattle.sm_model.proofs.OneRising.{contains_none}
use Rattle.sm_compile.specs.Compiled.{IsTabledMember}
use Rattle.sm_compile.specs.Kinds.{has_value_members}
use Rattle.sm_compile.specs.Sound.{trait_of}
use Rattle.sm_compile.specs.TraitIds.{http_header_id, http_prefix_headers_id, http_query_id}
use Rattle.sm_compile.specs.TraitNodes.{is_text}
use Rattle.sm_compile.proofs.SoundTests.{first_of}
use Rattle.sm_rules.specs.Ready.{IsOfService, Ready}
use Rattle.sm_rules.specs.TraitRows.{Spot, at_member, has_form, has_row, header_token, filled_text, any_text, is_as_one, rows_of}
use Rattle.sm_rules.specs.Traits.{IsSpot, of_member}
use Rattle.sm_rules.specs.Words.{IsService}
use Rattle.sm_accepted.proofs.ClosedSets.{is_there, service_closed}
use Rattle.sm_accepted.proofs.FormedShapes.{IsThere, formed_entry, member_own}
use Rattle.sm_accepted.proofs.TraitsRight.{by_row, or_false, where_known}
use Rattle.sm_service.specs.steps.BindingsTold.{AreBindingTexts}
use Rattle.sm_service.proofs.BareShapes.{bare_of_prelude}

-- the members at which values stand are members
among_members : (b : Bool) (ids : List (List ℕ)) (id : List ℕ) → Contains (cond b ids []) id → Contains ids id
among_members true ids id h = h
among_members false ids id h = absurd (contains_none id h)

module _ (g : GraphMaps) (service : List ℕ) (is : IsService g service) (ready : Ready g service) (id : List ℕ)
    (tabled : IsTabledMember g (IsOfService g service) id) where
  abbrev shape : List ℕ
  shape = tabled.0

  abbrev s : ShapeEntry
  s = tabled.1

  abbrev home : HasEntry g shape (shape_entry s)
  home = tabled.3

  among : Contains s.members id
  among = among_members (has_value_members s.kind) s.members id tabled.4

  there : IsThere g id
  there = is_there g s.members id (formed_entry g (ready is).formed shape s home).there among

  own_shape : is_prelude_id shape ≡ false
  own_shape = by (is_prelude_id shape) refl
    where
      by : (b : Bool) → is_prelude_id shape ≡ b → b ≡ false
      by true of_prelude =
          absurd (contains_none id (subst (λ xs. Contains xs id) (bare_of_prelude g (ready is).formed shape s home of_prelude).0 among))
      by false own = refl

  pub inside : IsOfService g service id
  inside =
      service_closed g service is shape id tabled.2.0 (inl (shape_entry s, home, inl (refl, among), (member_entry there.0, there.1)))

  abbrev spot : Spot
  spot = at_member s.kind (fin.get g.shapes there.0.target)

  stands : IsSpot g id spot
  stands = of_member (record {
    shape = shape;
    s = s;
    m = there.0;
    member = record { home = (home, own_shape); among = among; there = there.1 };
    is = refl;
  })

  reads : (trait : List ℕ) (n : Node) → has_row trait ≡ true → trait_of g id trait ≡ Some n → is_as_one (rows_of trait) n ≡ true
  reads trait n row at =
      by_row g (IsOfService g service) (ready is).none id inside (member_own g (ready is).formed id there.0 there.1) spot stands trait n
      row at

  pub binding_texts : AreBindingTexts (trait_of g id)
  binding_texts = record {
    query = where_known (trait_of g id http_query_id) is_text
        (λ n at. first_of (is_text n) _ (sym (or_false (has_form filled_text n)) ∙ reads http_query_id n refl at));
    header = where_known (trait_of g id http_header_id) is_text
        (λ n at. first_of (is_text n) _ (sym (or_false (has_form header_token n)) ∙ reads http_header_id n refl at));
    prefix = where_known (trait_of g id http_prefix_headers_id) is_text
        (λ n at. sym (or_false (has_form any_text n)) ∙ reads http_prefix_headers_id n refl at);
  }
