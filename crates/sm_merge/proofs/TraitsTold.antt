-- The table of all that statements give tells, for each place and name, what its values come to.
use Rattle.std.proofs.Common.{◌≡◌, ℕ, List, [], ◌∷◌, ◌++◌, Option, Some, None, refl, sym, ap, subst, ◌∙◌}
use Rattle.std.specs.Prelude.{MatchOption}
use Rattle.std.specs.List.{flat_map}
use Rattle.std.specs.FinMap.Entries.{find}
use Rattle.sm_tree.specs.Node.{Node}
use Rattle.std.specs.Option.{unwrap_or}
use Rattle.sm_model.specs.steps.Rising.{Rise}
use Rattle.sm_model.specs.Given.{AreNodes}
use Rattle.sm_model.specs.Graphs.{MemberGiven, text_cmp}
use Rattle.sm_merge.specs.Stated.{Stated, apply_stated, metadata_stated, shape_stated}
use Rattle.sm_merge.specs.Places.{metadata_by, trait_values, values_under}
use Rattle.sm_merge.specs.steps.Folding.{IsFolded}
use Rattle.sm_groups.specs.Groups.{all_under}
use Rattle.sm_merge.specs.steps.Placed.{AreMembersOfNodes, AreOfNodes, TraitLists, bare_by, placed_by, placed_members}
use Rattle.sm_merge.specs.steps.ShapeTables.{AreSoundBares}
use Rattle.sm_merge.specs.steps.Tables.{ArePlacedNodes, ArePlacesOf, AreTraitsOf, ComeToTraits, all_given, folded_named}
use Rattle.sm_merge.specs.steps.Tables.{names_in, named_view, places_view}
use Rattle.sm_merge.specs.declared.value.Folded.{Folded}
use Rattle.sm_merge.specs.declared.table.NamedValue.{NamedValue}
use Rattle.sm_merge.specs.declared.table.PlaceRow.{PlaceRow}
use Rattle.sm_merge.proofs.PlacedFound.{given_found}

pub traits_told : (ss : List Stated) (rows : List PlaceRow) → ArePlacesOf (flat_map placed_by ss) rows → AreTraitsOf ss rows
traits_told ss rows table = record {
  rise = table.rise;
  names = λ place. named_rise (all_under place (flat_map placed_by ss)) (find text_cmp place (places_view rows)) (table.each place);
  each = λ place name. at_place place name (find text_cmp place (places_view rows)) (table.each place);
}
  where
    named_rise : (tss : List (List (List ℕ × Node))) (o : Option (List NamedValue)) → MatchOption o (tss ≡ []) (ComeToTraits tss)
        → Rise (names_in (unwrap_or o []))
    named_rise tss None h = tt
    named_rise tss (Some vs) h = h.rise

    values : (place name : List ℕ) → all_under name (all_given (all_under place (flat_map placed_by ss))) ≡ trait_values ss place name
    values place name = ap (values_under name) (given_found place ss)

    named : (place name : List ℕ) (o : Option Folded)
        → MatchOption o (all_under name (all_given (all_under place (flat_map placed_by ss)))
        ≡ []) (IsFolded (all_under name (all_given (all_under place (flat_map placed_by ss)))))
        → MatchOption o (trait_values ss place name ≡ []) (IsFolded (trait_values ss place name))
    named place name None h = sym (values place name) ∙ h
    named place name (Some f) h = subst (λ vs. IsFolded vs f) (values place name) h

    at_place : (place name : List ℕ) (o : Option (List NamedValue))
        → MatchOption o ((all_under place (flat_map placed_by ss)) ≡ []) (ComeToTraits (all_under place (flat_map placed_by ss)))
        → MatchOption (folded_named name o) (trait_values ss place name ≡ []) (IsFolded (trait_values ss place name))
    at_place place name None h = sym (values place name) ∙ ap (λ tss. all_under name (all_given tss)) h
    at_place place name (Some vs) h = named place name (find text_cmp name (named_view vs)) (h.each name)

-- the values that are given are nodes
placed_nodes : (shape : List ℕ) (ms : List MemberGiven) (rest : TraitLists) → AreMembersOfNodes ms → ArePlacedNodes rest
    → ArePlacedNodes (placed_members shape ms ++ rest)
placed_nodes shape [] rest h more = more
placed_nodes shape (m ∷ ms) rest h more = (h.0, placed_nodes shape ms rest h.1 more)

pub traits_are_nodes : (ss : List Stated) → AreOfNodes ss → ArePlacedNodes (flat_map placed_by ss)
traits_are_nodes [] h = tt
traits_are_nodes (metadata_stated key value ∷ ss) h = traits_are_nodes ss h.1
traits_are_nodes (shape_stated s ∷ ss) h =
    (h.0.0, placed_nodes s.shape.id s.shape.members (flat_map placed_by ss) h.0.1 (traits_are_nodes ss h.1))
traits_are_nodes (apply_stated id ts ∷ ss) h = (h.0, traits_are_nodes ss h.1)

pub metadata_are_nodes : (ss : List Stated) → AreOfNodes ss → AreNodes (flat_map metadata_by ss)
metadata_are_nodes [] h = tt
metadata_are_nodes (metadata_stated key value ∷ ss) h = (h.0, metadata_are_nodes ss h.1)
metadata_are_nodes (shape_stated s ∷ ss) h = metadata_are_nodes ss h.1
metadata_are_nodes (apply_stated id ts ∷ ss) h = metadata_are_nodes ss h.1

pub bares_are_sound : (ss : List Stated) → AreOfNodes ss → AreSoundBares (flat_map bare_by ss)
bares_are_sound [] h = tt
bares_are_sound (metadata_stated key value ∷ ss) h = bares_are_sound ss h.1
bares_are_sound (shape_stated s ∷ ss) h = (refl, h.0.2, bares_are_sound ss h.1)
bares_are_sound (apply_stated id ts ∷ ss) h = bares_are_sound ss h.1
