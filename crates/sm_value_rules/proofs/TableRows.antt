-- The rows of a table that says what a graph says of all that some shapes reach, by ids.
use Rattle.std.proofs.Common.{◌≡◌, inl, inr, ℕ, zero, suc, ◌<◌, Bool, true, false, cond, List, [], ◌∷◌, ◌++◌, length, get_or, refl, sym, ap}
use Rattle.std.proofs.Common.{◌∙◌, subst}
use Rattle.std.specs.Prelude.{Some, slice_get}
use Rattle.std.specs.List.{Contains}
use Rattle.std.proofs.lemmas.Option.{get_or_from_slice_get, none-some, same_Some, slice_get-get_or, slice_get_within}
use Rattle.sm_model.specs.Graphs.{GraphMaps, MemberEntry, ShapeEntry, member_entry, shape_entry}
use Rattle.sm_model.specs.Relations.{HasEntry}
use Rattle.sm_model.specs.declared.kind.Kind.{Kind}
use Rattle.sm_model.proofs.OneRising.{contains_none}
use Rattle.sm_shapes.specs.Names.{AllDiffer}
use Rattle.sm_shapes.specs.TableData.{MemberData, ShapeData, TableData, home_in, member_count, members_at, shape_count}
use Rattle.sm_shapes.specs.TableData.{members_in as listed_in}
use Rattle.sm_compile.specs.Compiled.{EachSays, Numbering, SaysMember, SaysShape, members_in, members_under}
use Rattle.sm_compile.specs.Kinds.{has_value_members, members_of_kind, value_members}
use Rattle.sm_compile.specs.Reached.{IsReached, LeadsBy}
use Rattle.sm_compile.specs.Sound.{IsValueShape}
use Rattle.sm_compile.proofs.RowsAlike.{contains_mapped, each_length, one_block}
use Rattle.sm_rules.specs.NodeChecks.{HasRow}
use Rattle.sm_value_rules.proofs.OtherNumbers.{at_contains, contains_at}

-- a row that says something of the name at its place
pub row_there : {D : Type 0} (Says : List ℕ → D → Type 0) (ids : List (List ℕ)) (ds : List D) → EachSays Says ids ds → (k : ℕ)
    (id : List ℕ) → slice_get ids k ≡ Some id → (d : D) × (slice_get ds k ≡ Some d) × Says id d
row_there Says [] ds h k id e = absurd (none-some id e)
row_there Says (x ∷ ids) [] h k id e = absurd h
row_there Says (x ∷ ids) (d ∷ ds) h zero id e = (d, refl, subst (λ y. Says y d) (same_Some x id e) h.0)
row_there Says (x ∷ ids) (d ∷ ds) h (suc k) id e = row_there Says ids ds h.1 k id e

-- a member at which values stand is one of its shape's
pub among_members : (kind : Kind) (ids : List (List ℕ)) (id : List ℕ) → Contains (members_of_kind kind ids) id → Contains ids id
among_members kind ids id h = by (has_value_members kind) h
  where
    by : (b : Bool) → Contains (cond b ids []) id → Contains ids id
    by true there = there
    by false there = absurd (contains_none id there)

-- what is reached by a way, and one step more
pub way_on : (g : GraphMaps) (from : List ℕ) (by : List (List ℕ)) (mid to : List ℕ) → LeadsBy g from by mid → LeadsBy g mid (to ∷ []) to
    → LeadsBy g from (by ++ to ∷ []) to
way_on g from [] mid to h step = subst (λ x. LeadsBy g x (to ∷ []) to) (sym h) step
way_on g from (next ∷ by) mid to h step = (h.0, way_on g next by mid to h.1 step)

-- a shape's member and its target are reached where the shape is
pub target_reached : (g : GraphMaps) (root shape id : List ℕ) (s : ShapeEntry) (m : MemberEntry) (target : ShapeEntry)
    → IsReached g root shape
    → HasEntry g shape (shape_entry s) → Contains s.members id → HasEntry g id (member_entry m) → HasEntry g m.target (shape_entry target)
    → IsReached g root m.target
target_reached g root shape id s m target reached there listed member found =
    let first = way_on g root reached.0 shape id reached.1
    (inl (shape_entry s, there, inl (refl, listed), (member_entry m, member)), refl) in (
      (reached.0 ++ id ∷ []) ++ m.target ∷ [],
      way_on g root (reached.0 ++ id ∷ []) id m.target first
          (inr (member_entry m, member, (refl, refl), (shape_entry target, found)), refl),
    )

-- a member of a shape that is reached
pub record IsMemberReached (g : GraphMaps) (root : List ℕ) (n : Numbering) (k : ℕ) : Type 0 where
  pub id : List ℕ
  pub at : slice_get n.members k ≡ Some id
  pub shape : List ℕ
  pub s : ShapeEntry
  pub reached : IsReached g root shape
  pub value : IsValueShape g shape
  pub there : HasEntry g shape (shape_entry s)
  pub listed : Contains (value_members s) id

module _ (g : GraphMaps) (root : List ℕ) (roots : List (List ℕ)) (t : TableData) (j : ℕ) (h : HasRow g roots t root j) where
  abbrev pub n : Numbering
  n = h.numbering

  pub shapes_many : length n.shapes ≡ shape_count t
  shapes_many = each_length (SaysShape g t.patterns n) n.shapes t.shapes h.compiled.says_shapes

  pub members_many : length n.members ≡ member_count t
  members_many = each_length (SaysMember g t.patterns n) n.members t.members h.compiled.says_members

  pub shape_row : (s : ℕ) (id : List ℕ) → slice_get n.shapes s ≡ Some id
      → (d : ShapeData) × (slice_get t.shapes s ≡ Some d) × SaysShape g t.patterns n id d
  shape_row s id at = row_there (SaysShape g t.patterns n) n.shapes t.shapes h.compiled.says_shapes s id at

  pub member_row : (k : ℕ) (id : List ℕ) → slice_get n.members k ≡ Some id
      → (d : MemberData) × (slice_get t.members k ≡ Some d) × SaysMember g t.patterns n id d
  member_row k id at = row_there (SaysMember g t.patterns n) n.members t.members h.compiled.says_members k id at

  pub within : (s : ℕ) (id : List ℕ) → slice_get n.shapes s ≡ Some id → s < shape_count t
  within s id at = subst (λ c. s < c) shapes_many (slice_get_within n.shapes s id at)

  -- what is reached from the root stands in the table
  pub shape_there : (id : List ℕ) → IsReached g root id → IsValueShape g id → (s : ℕ) × (slice_get n.shapes s ≡ Some id)
  shape_there id reached value = contains_at n.shapes id ((h.compiled.shapes id).1 ((root, h.among, reached), value))

  pub value_there : (s : ℕ) (id : List ℕ) → slice_get n.shapes s ≡ Some id → IsValueShape g id
  value_there s id at = ((h.compiled.shapes id).0 (at_contains n.shapes s id at)).1

  pub member_there : (id shape : List ℕ) (s : ShapeEntry) → IsReached g root shape → IsValueShape g shape → HasEntry g shape (shape_entry s)
      → Contains (value_members s) id → (k : ℕ) × (slice_get n.members k ≡ Some id)
  member_there id shape s reached value there listed =
      contains_at n.members id ((h.compiled.members id).1 (shape, s, ((root, h.among, reached), value), there, listed))

  -- the shape in which a member stands
  pub home_is : (k : ℕ) (good : IsMemberReached g root n k) (d : MemberData) → slice_get t.members k ≡ Some d
      → SaysMember g t.patterns n good.id d → get_or n.shapes d.shape [] ≡ good.shape
  home_is k good d at says =
      let inside = slice_get_within t.members k d at in
      let home = ap home_in at in
      let homes = h.shaped.homes k inside in
      let less : d.shape < length n.shapes = says.shape_number in
      let id = get_or n.shapes d.shape [] in
      let row = shape_row d.shape id (slice_get-get_or n.shapes d.shape [] less) in
      let listed = subst (λ ks. Contains ks k) (ap (members_at t) home ∙ ap listed_in row.1) homes.1 in
      let named = subst (λ ids. Contains ids (get_or n.members k [])) row.2.members
      (contains_mapped (λ i. get_or n.members i []) row.0.members k listed) in
      let here = subst (λ e. Contains (members_in e) (get_or n.members k [])) (sym row.2.there) named in
      let its = subst (Contains (members_under g id)) (get_or_from_slice_get n.members k good.id [] good.at) here in
      let place = shape_there good.shape good.reached good.value in
      let there = subst (λ e. Contains (members_in e) good.id) (sym good.there) good.listed in
      let block = subst (λ x. Contains (members_under g x) good.id)
      (sym (get_or_from_slice_get n.shapes place.0 good.shape [] place.1)) there in
      let differ = subst AllDiffer h.compiled.members_follow h.compiled.members_once in
      let same = one_block (members_under g) n.shapes differ d.shape place.0 good.id less
      (slice_get_within n.shapes place.0 good.shape place.1)
      its block in
      ap (λ s. get_or n.shapes s []) same ∙ get_or_from_slice_get n.shapes place.0 good.shape [] place.1
