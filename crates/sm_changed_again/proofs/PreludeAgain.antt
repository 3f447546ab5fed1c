-- The shapes of the prelude are among those that a graph is made of, where they stand in it as they are.
use Rattle.std.proofs.Common.{◌≡◌, inl, inr, ℕ, Bool, true, false, List, [], ◌∷◌, map, length, Some, refl, sym, ap, subst, ◌∙◌, arith}
use Rattle.std.specs.Cmp.Lexicographic.{nat_list_cmp_total}
use Rattle.std.specs.FinMap as fin
use Rattle.std.specs.FinMap.{entries-insert, len-empty, len-entries}
use Rattle.std.specs.FinMap.Entries.{put}
use Rattle.std.specs.List.{Contains, list_all}
use Rattle.std.proofs.lemmas.Bool.{and_parts, true≢false}
use Rattle.std.proofs.lemmas.Option.{same_Some}
use Rattle.sm_tree.specs.Node.{Node}
use Rattle.sm_model.specs.Graphs.{Entry, GraphMaps, MemberGiven, ShapeEntry, ShapeGiven, given_entries, given_shape, member_entry}
use Rattle.sm_model.specs.Graphs.{member_id, shape_entry, text_cmp}
use Rattle.sm_model.specs.GraphView.{IsShapeEntry}
use Rattle.sm_model.specs.PreludeShapes.{prelude_shapes}
use Rattle.sm_model.specs.Relations.{HasEntry}
use Rattle.sm_model.proofs.LinkedEntries.{cons_cases}
use Rattle.sm_model.proofs.MapFacts.{Each}
use Rattle.sm_model.proofs.OneRising.{contains_behind, contains_head}
use Rattle.sm_merge.specs.Merged.{IsOfPrelude}
use Rattle.sm_merge.proofs.EntriesFound.{Has, get_has, has_before, has_behind, has_made}
use Rattle.sm_merge.proofs.EntryKeys.{entries_differ}
use Rattle.sm_merge.proofs.PreludeGiven.{AreOfPrelude, prelude_given, shapes_are}
use Rattle.sm_merge.proofs.RegularGraphs.{IsRegular}
use Rattle.sm_again.proofs.MergedShapes.{IsThere, IsWholeShape, LooksUp, each_there, given_of, members_of, put_shape, shape_at}
use Rattle.sm_again.proofs.MergedShapes.{shapes_given}

-- a map of one entry at most is its entries
abbrev is_short : List (List ℕ × Node) → Bool
is_short [] = true
is_short (p ∷ []) = true
is_short (p ∷ q ∷ ps) = false

empty_list : {X : Type 0} (xs : List X) → length xs ≡ 0 → xs ≡ []
empty_list [] h = refl
empty_list (x ∷ xs) h = absurd (omega (arith, h))

abbrev entries_made : List (List ℕ × Node) → List (List ℕ × Node)
entries_made ps = fin.entries (fin.from_entries {R = text_cmp} ps)

no_entries : entries_made [] ≡ []
no_entries = empty_list (entries_made []) (sym (len-entries {X = Node} {R = text_cmp} fin.empty) ∙ len-empty text_cmp Node)

short_again : (ps : List (List ℕ × Node)) → is_short ps ≡ true → entries_made ps ≡ ps
short_again [] h = no_entries
short_again (p ∷ []) h =
    entries-insert nat_list_cmp_total (fin.from_entries {R = text_cmp} []) p.0 p.1 ∙ ap (put text_cmp p.0 p.1) no_entries
short_again (p ∷ q ∷ ps) h = absurd (true≢false (sym h))

-- shapes of the prelude
record IsPlain (s : ShapeGiven) : Type 0 where
  bare : s.members ≡ []
  traits : entries_made s.traits ≡ s.traits

plain_among : (ss : List ShapeGiven) → AreOfPrelude ss → list_all (λ (s : ShapeGiven). is_short s.traits) ss ≡ true → (s : ShapeGiven)
    → Contains ss s → IsPlain s
plain_among [] are test s among = absurd (omega (arith, among.1))
plain_among (t ∷ ss) are test s among =
    let parts = and_parts (is_short t.traits) (list_all (λ (x : ShapeGiven). is_short x.traits) ss) test in
    elim (cons_cases t ss s among) [
      | inl is ↦ subst IsPlain is (record { bare = are.0.bare; traits = short_again t.traits parts.0 })
      | inr later ↦ plain_among ss are.1 parts.1 s later
    ]

abbrev pub entry_given : ShapeGiven → ShapeEntry
entry_given s = record {
  kind = s.kind;
  members = map (λ (m : MemberGiven). member_id s.id m.name) s.members;
  properties = s.properties;
  traits = fin.from_entries s.traits;
}

given_has : (ss : List ShapeGiven) (s : ShapeGiven) → Contains ss s → Has s.id (shape_entry (entry_given s)) (given_entries ss)
given_has [] s among = absurd (omega (arith, among.1))
given_has (t ∷ ss) s among = elim (cons_cases t ss s among) [
  | inl is ↦ subst (λ (x : ShapeGiven). Has x.id (shape_entry (entry_given x)) (given_entries (t ∷ ss))) is
      (has_before t.id (shape_entry (entry_given t)) (given_shape t) (given_entries ss) (inl (refl, refl)))
  | inr later ↦ has_behind s.id (shape_entry (entry_given s)) (given_shape t) (given_entries ss) (given_has ss s later)
]

pub of_prelude : (s : ShapeGiven) → Contains prelude_shapes s → IsOfPrelude s.id (shape_entry (entry_given s))
of_prelude s among =
    has_made (given_entries prelude_shapes) s.id (shape_entry (entry_given s))
    (entries_differ prelude_shapes prelude_given.each prelude_given.differ) (given_has prelude_shapes s among)

-- each shape of a graph is among those that it is made of
module _ (h : GraphMaps) (whole : (id : List ℕ) (s : ShapeEntry) → fin.get h.shapes id ≡ Some (shape_entry s) → IsWholeShape h id s) where
  record IsGiven (id : List ℕ) (ss : List ShapeGiven) : Type 0 where
    s : ShapeEntry
    found : IsThere h whole id (shape_entry s)
    among : Contains ss (shape_at h whole id s found)

  given_here : (id : List ℕ) (e : Entry) (found : IsThere h whole id e) (rest : List ShapeGiven) → IsShapeEntry e
      → IsGiven id (put_shape h whole id e found rest)
  given_here id (shape_entry s) found rest is = record {
    s = s;
    found = found;
    among = contains_head (shape_at h whole id s found) rest;
  }
  given_here id (member_entry m) found rest is = absurd is

  given_later : (id j : List ℕ) (e : Entry) (found : IsThere h whole j e) (rest : List ShapeGiven) → IsGiven id rest
      → IsGiven id (put_shape h whole j e found rest)
  given_later id j (shape_entry s) found rest i = record {
    s = i.s;
    found = i.found;
    among = contains_behind (shape_at h whole j s found) (shape_at h whole id i.s i.found) rest i.among;
  }
  given_later id j (member_entry m) found rest i = i

  given_in : (es : List (List ℕ × Entry)) (there : Each (IsThere h whole) es) (id : List ℕ) (e : Entry) → Has id e es → IsShapeEntry e
      → IsGiven id (given_of h whole es there)
  given_in [] there id e has shape = absurd has
  given_in (x ∷ es) there id e (inl same) shape =
      subst (λ k. IsGiven k (given_of h whole (x ∷ es) there)) (sym same.0)
      (given_here x.0 x.1 there.0 (given_of h whole es there.1) (subst IsShapeEntry same.1 shape))
  given_in (x ∷ es) there id e (inr later) shape =
      given_later id x.0 x.1 there.0 (given_of h whole es there.1) (given_in es there.1 id e later shape)

  none_looked : (id : List ℕ) (names : List (List ℕ)) (look : LooksUp h id names) → map (member_id id) names ≡ []
      → members_of h id names look ≡ []
  none_looked id [] look none = refl
  none_looked id (k ∷ ks) look none = absurd (let n = ap length none in omega (arith, n))

  abbrev shape_or : ShapeEntry → Entry → ShapeEntry
  shape_or d (shape_entry s) = s
  shape_or d (member_entry m) = d

  pub prelude_among : IsRegular h → (s : ShapeGiven) → Contains prelude_shapes s → Contains (shapes_given h whole) s
  prelude_among regular s among =
      let plain = plain_among prelude_shapes shapes_are refl s among in
      let now = entry_given s in
      let there : HasEntry h s.id (shape_entry now) = regular.prelude s.id (shape_entry now) (of_prelude s among) in
      let i = given_in (fin.entries h.shapes) (each_there h whole) s.id (shape_entry now)
      (get_has h.shapes s.id (shape_entry now) there) tt in
      let w = whole s.id i.s i.found in
      let one : Path ShapeEntry i.s now = ap (shape_or now) (same_Some (shape_entry i.s) (shape_entry now) (sym i.found ∙ there)) in
      let none : map (λ (m : MemberGiven). member_id s.id m.name) s.members ≡ [] =
      ap (map (λ (m : MemberGiven). member_id s.id m.name)) plain.bare in
      let members : members_of h s.id w.names w.each ≡ s.members =
      none_looked s.id w.names w.each (sym w.members ∙ ap (λ (x : ShapeEntry). x.members) one ∙ none) ∙ sym plain.bare in
      let traits : fin.entries i.s.traits ≡ s.traits = ap (λ (x : ShapeEntry). fin.entries x.traits) one ∙ plain.traits in
      let same : Path ShapeGiven (shape_at h whole s.id i.s i.found) s =
      λ n. record {
        id = s.id;
        kind = (one n).kind;
        members = members n;
        properties = (one n).properties;
        traits = traits n;
      } in
      subst (Contains (shapes_given h whole)) same i.among
