-- What a faithful change makes of a graph as merging makes them has the form of a graph, and is whole.
use Rattle.std.proofs.Common.{◌≡◌, ◌<◌, ◌^◌, inl, inr, ℕ, List, [], length, Some, sym, ap, subst, ◌∙◌, IsUtf8}
use Rattle.std.specs.FinMap as fin
use Rattle.sm_tree.specs.Node.{Node}
use Rattle.sm_model.specs.Formed.{HaveForm}
use Rattle.sm_model.specs.FormedGraph.{IsFormedGraph}
use Rattle.sm_model.specs.Given.{IsNodeMap}
use Rattle.sm_model.specs.Graphs.{Entry, GraphMaps, NodeMap, ShapeEntry, member_entry, shape_entry}
use Rattle.sm_model.specs.Kinds.{member_form}
use Rattle.sm_model.specs.Relations.{HasEntry}
use Rattle.sm_model.proofs.MapFacts.{keys_differ}
use Rattle.sm_merge.specs.Limits.{IsWithinLimits}
use Rattle.sm_merge.specs.Merged.{IsOfPrelude}
use Rattle.sm_merge.proofs.EntriesFound.{each_has, has_get, map_again}
use Rattle.sm_merge.proofs.GraphSound.{IsNamedNode, IsSoundEntry}
use Rattle.sm_merge.proofs.RegularGraphs.{IsRegular, IsRegularEntry}
use Rattle.sm_merge.proofs.RestatedShapes.{named_alike}
use Rattle.sm_merge.proofs.Restating.{prelude_id}
use Rattle.sm_transform.specs.Changed.{IsMadeOf}
use Rattle.sm_again.proofs.GraphLoads.{IsWhole}
use Rattle.sm_again.proofs.MergedShapes.{IsWholeShape, all_differ, are_given, as_many, nodes_of, prelude_plain, shapes_again, shapes_given}
use Rattle.sm_changed_again.proofs.Faithful.{IsFaithful}
use Rattle.sm_changed_again.proofs.KeptGraphs.{kept_regular, kept_sound, left_each, sound_traits}
use Rattle.sm_changed_again.proofs.PreludeAgain.{prelude_among}
use Rattle.sm_changed_again.proofs.SmallerGraphs.{kept_within}

-- the names of a graph's shapes are those of their types
abbrev pub HasTypeNames : GraphMaps → Type 0
HasTypeNames g = (id : List ℕ) (s : ShapeEntry) → fin.get g.shapes id ≡ Some (shape_entry s) → IsWholeShape g id s

-- keys and values of metadata
abbrev pub HasNamedKeys : GraphMaps → Type 0
HasNamedKeys g = (k : List ℕ) (n : Node) → fin.get g.metadata k ≡ Some n → IsNamedNode IsUtf8 k n

module _ (g h : GraphMaps) (Stays : List ℕ → Type 0) (moved : List ℕ → List ℕ) (after : Entry → Entry)
    (made : IsMadeOf Stays moved after g h) (f : IsFaithful g Stays moved after) (regular : IsRegular g)
    (sound : (k : List ℕ) (e : Entry) → HasEntry g k e → IsSoundEntry k e) (shapes : HasTypeNames g) (keyed : HasNamedKeys g)
    (within : IsWithinLimits g) (few : length (fin.entries h.shapes) < 2 ^ 32) where
  now_regular : IsRegular h
  now_regular = kept_regular g h Stays moved after made f regular sound

  now_sound : (k : List ℕ) (e : Entry) → HasEntry h k e → IsSoundEntry k e
  now_sound = kept_sound g h Stays moved after made f regular sound

  -- shapes are whole
  abbrev IsWholeEntry : List ℕ → Entry → Type 0
  IsWholeEntry id (shape_entry s) = IsWholeShape h id s
  IsWholeEntry id (member_entry m) = Unit {0}

  entry_whole : (id : List ℕ) (e : Entry) → HasEntry g id e → Stays id → IsRegularEntry g id e → (now : Entry) → Path Entry now (after e)
      → IsWholeEntry (moved id) now
  entry_whole id (shape_entry s) has stays r now is =
      let k = f.shape id s has stays r in
      let w = shapes id s has in
      let names : r.names ≡ w.names = named_alike id r.names w.names (sym r.members ∙ w.members) in
      subst (IsWholeEntry (moved id)) (sym (is ∙ k.is)) (record {
        is = f.ids id r.is;
        names = k.left;
        members = k.members;
        form = k.form (subst (HaveForm (member_form s.kind)) (sym names) w.form);
        body = k.body;
        each = λ name among. let held = left_each g h Stays moved after made f regular sound id s r k name among in (held.0, held.1);
      })
  entry_whole id (member_entry m) has stays r now is =
      let k = f.member id m has stays in subst (IsWholeEntry (moved id)) (sym (is ∙ k.is)) tt

  now_whole : HasTypeNames h
  now_whole id s found =
      let c = (made.shapes id (shape_entry s)).0 found in
      elim (regular.entries c.0 c.1 c.2) [
        | inl of_prelude ↦
            let same = f.prelude c.0 c.1 of_prelude in
            let plain = prelude_plain c.0 (shape_entry s) (subst (IsOfPrelude c.0) (sym (c.5 ∙ same.1)) of_prelude) in
            subst (λ k. IsWholeShape h k s) (sym (c.4 ∙ f.kept_ids c.0 (prelude_id c.0 c.1 of_prelude))) (record {
              is = plain.0;
              names = [];
              members = plain.1;
              form = plain.2;
              body = plain.3;
              each = λ name never. absurd never;
            })
        | inr own ↦ subst (λ k. IsWholeShape h k s) (sym c.4) (entry_whole c.0 c.1 c.2 c.3 own (shape_entry s) c.5)
      ]

  -- the metadata stays
  now_keyed : HasNamedKeys h
  now_keyed k n found = keyed k n (sym (ap (λ (m : NodeMap). fin.get m k) made.metadata) ∙ found)

  now_metadata : IsNodeMap (fin.entries h.metadata)
  now_metadata = record {
    differ = keys_differ h.metadata;
    nodes = nodes_of IsUtf8 (fin.entries h.metadata) (each_has (IsNamedNode IsUtf8) (fin.entries h.metadata)
        (λ k n there. now_keyed k n (has_get h.metadata k n there)));
  }

  now_formed : IsFormedGraph h
  now_formed = record {
    shapes = shapes_given h now_whole;
    metadata = fin.entries h.metadata;
    given = record {
      each = are_given h now_whole now_regular now_sound;
      differ = all_differ h now_whole now_regular now_sound;
      few = subst (λ n. n < 2 ^ 32) (sym (as_many h now_whole now_regular now_sound)) few;
      metadata_is = now_metadata;
    };
    prelude = prelude_among h now_whole now_regular;
    is = λ i. record {
      shapes = shapes_again h now_whole now_regular now_sound i;
      metadata = sym (map_again h.metadata) i;
    };
  }

  pub now_is_whole : IsWhole h
  now_is_whole = record {
    formed = now_formed;
    regular = now_regular;
    traits = λ k e found. sound_traits k e (now_sound k e found);
    keys = λ k n found. (now_keyed k n found).0;
    within = kept_within g h Stays moved after made f within;
  }
