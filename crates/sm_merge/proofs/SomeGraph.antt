-- It can't be that statements of formed files have no graph: one thing at most stands under an id, and the ids are a list.
use Rattle.std.proofs.Common.{◌≡◌, inl, inr, ℕ, Bool, true, false, List, [], ◌∷◌, ◌++◌, map, length, Some, None, refl, sym, ap}
use Rattle.std.proofs.Common.{subst, ◌∙◌, arith, bytes_eq, length-append}
use Rattle.std.specs.Prelude.{◌&&◌, not, if◌then◌else◌, slice_get}
use Rattle.std.specs.FinMap as fin
use Rattle.std.specs.List.{cons_option, flat_map}
use Rattle.std.proofs.lemmas.Bool.{and_parts}
use Rattle.std.proofs.lemmas.Option.{none-some, same_Some}
use Rattle.std.proofs.lemmas.Slice.Eq.{bytes_eq-Decides}
use Rattle.sm_model.specs.Formed.{StandsAmong}
use Rattle.sm_model.specs.Given.{given_ids}
use Rattle.sm_model.specs.Graphs.{Entry, GraphMaps, given_entries, member_entry, member_id, shape_entry, text_cmp}
use Rattle.sm_model.specs.PreludeShapes.{is_prelude_id, prelude_shapes}
use Rattle.sm_model.specs.References.{IsShapeId}
use Rattle.sm_model.proofs.MapFacts.{keys}
use Rattle.sm_merge.specs.Laws.{SomeGraph}
use Rattle.sm_model.specs.Used.{shape_part}
use Rattle.sm_merge.specs.Merged.{IsGraphOf, IsMergedMember, IsMergedShape, IsOfPrelude, StandsUnder, with_enum_value}
use Rattle.sm_merge.specs.Mixins.{EffectiveShape, IsEffective, names_of}
use Rattle.sm_merge.specs.Places.{metadata_by, metadata_values, shape_under, shapes_under}
use Rattle.sm_merge.specs.Stated.{ShapeStated, Stated, apply_stated, metadata_stated, shape_stated, stated_by}
use Rattle.sm_merge.specs.Values.{IsValueOf}
use Rattle.sm_merge.specs.steps.SoundStated.{AreSoundStated}
use Rattle.sm_merge.proofs.Amongs.{Among, among_back, among_front, map_among}
use Rattle.sm_merge.proofs.EntriesFound.{found_has, has_key, made_has}
use Rattle.sm_ids.proofs.MadeIds.{one_name}
use Rattle.sm_ids.proofs.TextCuts.{of_member, of_shape}
use Rattle.sm_merge.proofs.EntryKeys.{shapes_of}
use Rattle.sm_merge.proofs.OneEffective.{one_effective}
use Rattle.sm_merge.proofs.OneValue.{one_value}
use Rattle.sm_merge.proofs.PreludeGiven.{prelude_given, stands_by_test}
use Rattle.sm_merge.proofs.SomeEffective.{Comes, Must, either_way, must, some_map, thence, values_named}
use Rattle.sm_merge.proofs.StatedSound.{sound_under, statements_sound}
use Rattle.sm_merge.proofs.WholeGiven.{clash}

-- the ids of statements for shapes
abbrev pub ids_by : Stated → List (List ℕ)
ids_by (metadata_stated key value) = []
ids_by (shape_stated s) = s.shape.id ∷ []
ids_by (apply_stated id traits) = []

abbrev pub stated_ids : List Stated → List (List ℕ)
stated_ids ss = flat_map ids_by ss

pub stated_among : (id : List ℕ) (ss : List Stated) (s : ShapeStated) → shape_under id ss ≡ Some s → Among id (stated_ids ss)
stated_among id [] s there = absurd (none-some s there)
stated_among id (metadata_stated key value ∷ ss) s there = stated_among id ss s there
stated_among id (shape_stated t ∷ ss) s there =
    by_test (λ rest. stated_among id ss s rest) (bytes_eq t.shape.id id && not (is_prelude_id id)) refl there
  where
    by_test : (shape_under id ss ≡ Some s → Among id (stated_ids ss)) → (b : Bool)
        → (bytes_eq t.shape.id id && not (is_prelude_id id)) ≡ b
        → slice_get (cons_option (if b then Some t else None) (shapes_under id ss)) 0 ≡ Some s → Among id (t.shape.id ∷ stated_ids ss)
    by_test later true is at =
        inl ((bytes_eq-Decides t.shape.id id).0 (and_parts (bytes_eq t.shape.id id) (not (is_prelude_id id)) is).0)
    by_test later false is at = inr (later at)
stated_among id (apply_stated target traits ∷ ss) s there = stated_among id ss s there

pub among_stands : (k : List ℕ) (ks : List (List ℕ)) → Among k ks → StandsAmong k ks
among_stands k [] h = h
among_stands k (j ∷ ks) (inl same) = inl (sym same)
among_stands k (j ∷ ks) (inr h) = inr (among_stands k ks h)

pub stands_among : (k : List ℕ) (ks : List (List ℕ)) → StandsAmong k ks → Among k ks
stands_among k [] h = h
stands_among k (j ∷ ks) (inl same) = inl (sym same)
stands_among k (j ∷ ks) (inr h) = inr (stands_among k ks h)

-- the ids of the members that shapes with these ids come to
pub record MemberIds (ss : List Stated) (ids : List (List ℕ)) : Type 0 where
  pub found : List (List ℕ)
  pub all : (id : List ℕ) → Among id ids → (m : EffectiveShape) → IsEffective ss id m → (name : List ℕ)
      → Among name (names_of m.members) → Among (member_id id name) found

module _ (ss : List Stated) where
  with_shape : (x : List ℕ) (ids : List (List ℕ)) → Comes ss x → MemberIds ss ids → MemberIds ss (x ∷ ids)
  with_shape x ids (e, is) rest = record {
    found = front ++ rest.found;
    all = by_place;
  }
    where
      front : List (List ℕ)
      front = map (member_id x) (names_of e.members)

      by_place : (id : List ℕ) → Among id (x ∷ ids) → (m : EffectiveShape) → IsEffective ss id m → (name : List ℕ)
          → Among name (names_of m.members) → Among (member_id id name) (front ++ rest.found)
      by_place id (inl same) m of name there =
          let one = one_effective ss x m e (subst (λ k. IsEffective ss k m) (sym same) of) is in
          among_front (member_id id name) front rest.found (subst (λ k. Among (member_id k name) front) same
          (map_among (member_id x) (names_of e.members) name (subst (λ n. Among name (names_of n.members)) one there)))
      by_place id (inr h) m of name there = among_back (member_id id name) front rest.found (rest.all id h m of name there)

  without_shape : (x : List ℕ) (ids : List (List ℕ)) → (Comes ss x → ⊥) → MemberIds ss ids → MemberIds ss (x ∷ ids)
  without_shape x ids none rest = record { found = rest.found; all = by_place }
    where
      by_place : (id : List ℕ) → Among id (x ∷ ids) → (m : EffectiveShape) → IsEffective ss id m → (name : List ℕ)
          → Among name (names_of m.members) → Among (member_id id name) rest.found
      by_place id (inl same) m of name there = absurd (none (m, subst (λ k. IsEffective ss k m) (sym same) of))
      by_place id (inr h) m of name there = rest.all id h m of name there

  pub member_ids : (ids : List (List ℕ)) → Must (MemberIds ss ids)
  member_ids [] = must (record { found = []; all = λ id h m of name there. absurd h })
  member_ids (x ∷ ids) =
      thence (member_ids ids) (λ rest. thence (either_way (Comes ss x)) (λ known. elim known [
        | inl here ↦ must (with_shape x ids here rest)
        | inr none ↦ must (without_shape x ids none rest)
      ]))

-- what stands under an id is one thing
longer : (shape name : List ℕ) → shape ≡ member_id shape name → ⊥
longer shape name same =
    let more = ap length same in
    let counted = length-append shape (36 ∷ name) in
    omega (arith, more, counted)

module _ (ss : List Stated) (sound : AreSoundStated ss) where
  shape_id : (id : List ℕ) (s : ShapeStated) → shape_under id ss ≡ Some s → IsShapeId id
  shape_id id s there = let under = sound_under id ss s sound there in subst IsShapeId under.same under.shape.id

  own_part : (id : List ℕ) (e : Entry) → (h : IsMergedMember ss id e) → shape_part id ≡ h.shape
  own_part id e h = ap shape_part h.under ∙ of_member h.shape (shape_id h.shape h.s h.there) h.name

  one_shape : (id : List ℕ) (e f : Entry) → IsMergedShape ss id e → IsMergedShape ss id f → e ≡ f
  one_shape id e f h k =
      let s = same_Some h.s k.s (sym h.there ∙ k.there) in
      let m = one_effective ss id h.m k.m h.is_effective k.is_effective in
      h.is ∙ (λ i. shape_entry (record {
        kind = (s i).shape.kind;
        members = map (member_id id) (names_of (m i).members);
        properties = (s i).shape.properties;
        traits = (m i).traits;
      })) ∙ sym k.is

  one_member : (id : List ℕ) (e f : Entry) → IsMergedMember ss id e → IsMergedMember ss id f → e ≡ f
  one_member id e f h k =
      let shape : h.shape ≡ k.shape = sym (own_part id e h) ∙ own_part id f k in
      let s = same_Some h.s k.s (sym h.there ∙ ap (λ x. shape_under x ss) shape ∙ k.there) in
      let m = one_effective ss k.shape h.m k.m (subst (λ x. IsEffective ss x h.m) shape h.is_effective) k.is_effective in
      let name = one_name k.shape h.name k.name (ap (λ x. member_id x h.name) (sym shape) ∙ sym h.under ∙ k.under) in
      let of = same_Some h.of k.of (sym h.found ∙ (λ i. fin.find text_cmp (name i) (m i).members) ∙ k.found) in
      h.is ∙ (λ i. member_entry (with_enum_value (s i).shape.kind (name i) (of i))) ∙ sym k.is

  pub apart : (id : List ℕ) (e f : Entry) → IsMergedShape ss id e → IsMergedMember ss id f → ⊥
  apart id e f h k =
      let same : id ≡ k.shape = sym (of_shape id (shape_id id h.s h.there)) ∙ own_part id f k in
      longer k.shape k.name (sym same ∙ k.under)

  of_prelude : (id : List ℕ) (e : Entry) → IsOfPrelude id e → is_prelude_id (shape_part id) ≡ true
  of_prelude id e h =
      stands_by_test (shape_part id) (given_ids prelude_shapes) (shapes_of prelude_shapes prelude_given.each id
      (has_key id e (given_entries prelude_shapes) (made_has (given_entries prelude_shapes) id e h)))

  pub shape_own : (id : List ℕ) (e f : Entry) → IsMergedShape ss id e → IsOfPrelude id f → ⊥
  shape_own id e f h k =
      clash (is_prelude_id id) (ap is_prelude_id (sym (of_shape id (shape_id id h.s h.there))) ∙ of_prelude id f k)
      (sound_under id ss h.s sound h.there).own

  member_own : (id : List ℕ) (e f : Entry) → IsMergedMember ss id e → IsOfPrelude id f → ⊥
  member_own id e f h k =
      clash (is_prelude_id h.shape) (ap is_prelude_id (sym (own_part id e h)) ∙ of_prelude id f k)
      (sound_under h.shape ss h.s sound h.there).own

  one_stands : (id : List ℕ) (e f : Entry) → StandsUnder ss id e → StandsUnder ss id f → e ≡ f
  one_stands id e f (inl h) (inl k) = one_shape id e f h k
  one_stands id e f (inl h) (inr (inl k)) = absurd (apart id e f h k)
  one_stands id e f (inl h) (inr (inr k)) = absurd (shape_own id e f h k)
  one_stands id e f (inr (inl h)) (inl k) = absurd (apart id f e k h)
  one_stands id e f (inr (inl h)) (inr (inl k)) = one_member id e f h k
  one_stands id e f (inr (inl h)) (inr (inr k)) = absurd (member_own id e f h k)
  one_stands id e f (inr (inr h)) (inl k) = absurd (shape_own id f e k h)
  one_stands id e f (inr (inr h)) (inr (inl k)) = absurd (member_own id f e k h)
  one_stands id e f (inr (inr h)) (inr (inr k)) = same_Some e f (sym h ∙ k)

-- and the ids are a list
module _ (ss : List Stated) (ids : MemberIds ss (stated_ids ss)) where
  abbrev pub own_ids : List (List ℕ)
  own_ids = stated_ids ss ++ ids.found

  pub own_shape : (id : List ℕ) (e : Entry) → IsMergedShape ss id e → Among id own_ids
  own_shape id e h = among_front id (stated_ids ss) ids.found (stated_among id ss h.s h.there)

  pub own_member : (id : List ℕ) (e : Entry) → IsMergedMember ss id e → Among id own_ids
  own_member id e h =
      let named = stands_among h.name (names_of h.m.members) (has_key h.name h.of h.m.members
      (found_has h.name h.of h.m.members h.found)) in
      among_back id (stated_ids ss) ids.found (subst (λ k. Among k ids.found) (sym h.under)
      (ids.all h.shape (stated_among h.shape ss h.s h.there) h.m h.is_effective h.name named))

  abbrev all_ids : List (List ℕ)
  all_ids = own_ids ++ keys (given_entries prelude_shapes)

  covers : (id : List ℕ) (e : Entry) → StandsUnder ss id e → Among id all_ids
  covers id e (inl h) = among_front id own_ids (keys (given_entries prelude_shapes)) (own_shape id e h)
  covers id e (inr (inl h)) = among_front id own_ids (keys (given_entries prelude_shapes)) (own_member id e h)
  covers id e (inr (inr h)) =
      among_back id own_ids (keys (given_entries prelude_shapes)) (stands_among id (keys (given_entries prelude_shapes))
      (has_key id e (given_entries prelude_shapes) (made_has (given_entries prelude_shapes) id e h)))

pub graph_there : (ss : List Stated) → AreSoundStated ss → Must ((g : GraphMaps) × IsGraphOf ss g)
graph_there ss sound =
    thence (member_ids ss (stated_ids ss)) (λ ids.
    thence (some_map (StandsUnder ss) (one_stands ss sound) (all_ids ss ids)
    (λ id e h. among_stands id (all_ids ss ids) (covers ss ids id e h)))
    (λ shapes.
    thence (some_map (λ key n. IsValueOf (metadata_values ss key) n) (λ key n m. one_value (metadata_values ss key) n m)
    (keys (flat_map metadata_by ss)) (λ key n h. values_named key (flat_map metadata_by ss) n h)) (λ metadata.
    must (record { shapes = shapes.0; metadata = metadata.0 }, record { shapes = shapes.1; metadata = metadata.1 }))))

pub some_graph : SomeGraph
some_graph files formed none = graph_there (stated_by files) (statements_sound files formed) (λ g. none g.0 g.1)
