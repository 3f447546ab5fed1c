-- Two tables that say what a graph says of all that a shape reaches: their members with one id are twins, and so are the numbers of the
-- shape, though members may have been given defaults.
use Rattle.std.proofs.Common.{◌≡◌, ℕ, ◌<◌, List, [], ◌∷◌, map, length, get_or, refl, sym, ap, ◌∙◌, subst, arith, drop, is_some}
use Rattle.std.specs.Prelude.{Option, Some, None, slice_get, unwrap_or}
use Rattle.std.specs.FinMap as fin
use Rattle.std.specs.List.{AllByRecursion, Contains}
use Rattle.std.specs.Option.{option_map}
use Rattle.std.proofs.lemmas.List.{length-map}
use Rattle.std.proofs.lemmas.Option.{slice_get-get_or}
use Rattle.sm_model.specs.Graphs.{GraphMaps, MemberEntry, ShapeEntry, member_id, shape_entry}
use Rattle.sm_model.specs.Relations.{HasEntry}
use Rattle.sm_model.proofs.OneRising.{contains_behind, contains_head}
use Rattle.sm_shapes.specs.Broken.{pattern_broken, unless}
use Rattle.sm_shapes.specs.DefaultPuts.{with_default}
use Rattle.sm_shapes.specs.Fitting.{Test, finder}
use Rattle.sm_shapes.specs.InOrder.{AreMembersOf, HasItsMembers}
use Rattle.sm_shapes.specs.Places.{member_place, root_place}
use Rattle.sm_shapes.specs.TableData.{ConstraintData, MemberData, TableData, constraints_in, default_at, first_text, format_in, kind_at}
use Rattle.sm_shapes.specs.TableData.{json_name_at, json_name_in, kind_in, member_count, members_at, name_at, name_in, required_in}
use Rattle.sm_shapes.specs.TableData.{members_in as listed_in}
use Rattle.sm_shapes.specs.TableData.{constraints_at, shape_constraints_at, shape_constraints_in, shape_format_in, sparse_at, sparse_in}
use Rattle.sm_shapes.specs.TableData.{target_at, target_in, unique_at, unique_in}
use Rattle.sm_shapes.specs.Values.{Val}
use Rattle.sm_shapes.specs.declared.fault.FaultKind.TheVariants.{Pattern}
use Rattle.sm_shapes.specs.declared.kinds.ShapeKind.{ShapeKind}
use Rattle.sm_shapes.specs.declared.kinds.ShapeKind.TheVariants as kinds
use Rattle.sm_shapes.specs.Names.{AllDiffer}
use Rattle.sm_codec.specs.steps.Twins.{AreTwins, HaveTwins, SayAlike, moved}
use Rattle.sm_compile.specs.Compiled.{NamesText, Numbering, SayConstraints, SaysMember, SaysShape}
use Rattle.sm_compile.specs.Kinds.{table_kind, value_members}
use Rattle.sm_compile.specs.Reached.{IsReached}
use Rattle.sm_compile.specs.Said.{ConstraintsSaid, constraints_said, default_said, format_seen}
use Rattle.sm_compile.specs.Sound.{IsValueShape}
use Rattle.sm_compile.specs.TraitIds.{json_name_id, required_id, sparse_id, unique_items_id}
use Rattle.sm_compile.specs.TraitNodes.{effective_traits, own_traits, text_of}
use Rattle.sm_compile.proofs.OnePatterns.{same_member, same_shape}
use Rattle.sm_ids.proofs.MadeIds.{one_name}
use Rattle.sm_compile.proofs.RowsAlike.{contains_mapped}
use Rattle.sm_rules.specs.NodeChecks.{HasRow}
use Rattle.sm_value_rules.proofs.OtherNumbers.{other_number, same_name_there}
use Rattle.sm_value_rules.proofs.TableRows.{IsMemberReached, among_members, home_is, member_row, member_there, members_many, shape_row}
use Rattle.sm_value_rules.proofs.TableRows.{target_reached, value_there, within}

-- what one graph says of values, tables say alike
say_alike : (t u : TableData) (test : Test) (c d : ConstraintData) (said other : ConstraintsSaid) → Path ConstraintsSaid said other
    → SayConstraints t.patterns c said → SayConstraints u.patterns d other → SayAlike t u test c d
say_alike t u test c d said other e h k = record {
  min = h.min ∙ (λ i. (e i).min) ∙ sym k.min;
  max = h.max ∙ (λ i. (e i).max) ∙ sym k.max;
  pattern = by c.pattern d.pattern said.pattern h.pattern
      (subst (λ (s : ConstraintsSaid). NamesText u.patterns d.pattern s.pattern) (sym e) k.pattern);
  texts = h.texts ∙ (λ i. (e i).texts) ∙ sym k.texts;
  numbers = h.numbers ∙ (λ i. (e i).numbers) ∙ sym k.numbers;
}
  where
    by : (a b : Option ℕ) (text : Option (List ℕ)) → NamesText t.patterns a text → NamesText u.patterns b text → (x : List ℕ)
        → pattern_broken (finder t test) a x ≡ pattern_broken (finder u test) b x
    by None None text p q x = refl
    by (Some a) (Some b) (Some w) p q x = ap (λ ts. unless (test (first_text ts) x) Pattern) (p ∙ sym q)
    by (Some a) (Some b) None p q x = absurd p
    by None (Some b) None p q x = absurd q
    by None (Some b) (Some w) p q x = absurd p
    by (Some a) None None p q x = absurd p
    by (Some a) None (Some w) p q x = absurd q

-- a list has one member and a map two
one_listed : (t : TableData) (kd : ShapeKind) (ks : List ℕ) → HasItsMembers t kd ks → kd ≡ kinds.List → length ks ≡ 1
one_listed t kd ks own e = by ks (subst (λ k. HasItsMembers t k ks) e own)
  where
    by : (js : List ℕ) → HasItsMembers t kinds.List js → length js ≡ 1
    by [] h = absurd h
    by (k ∷ []) h = refl
    by (k ∷ j ∷ js) h = absurd h

two_listed : (t : TableData) (kd : ShapeKind) (ks : List ℕ) → HasItsMembers t kd ks → kd ≡ kinds.Map → length ks ≡ 2
two_listed t kd ks own e = by ks (subst (λ k. HasItsMembers t k ks) e own)
  where
    by : (js : List ℕ) → HasItsMembers t kinds.Map js → length js ≡ 2
    by [] h = absurd h
    by (k ∷ []) h = absurd h
    by (k ∷ j ∷ []) h = refl
    by (k ∷ j ∷ l ∷ js) h = absurd h

-- members of two tables with one id each stand for one where they are in range
module _ (xs ys : List (List ℕ)) (differ : AllDiffer ys) where
  same_listed : (ks js : List ℕ) → AllByRecursion (λ k. k < length xs) ks → AllByRecursion (λ k. k < length ys) js
      → map (λ k. get_or xs k []) ks ≡ map (λ k. get_or ys k []) js → map (other_number xs ys) ks ≡ js
  same_listed [] [] p q e = refl
  same_listed [] (j ∷ js) p q e =
      let many : 0 ≡ length (j ∷ js) = ap length e ∙ length-map (j ∷ js) (λ k. get_or ys k []) in absurd (omega (arith, many))
  same_listed (k ∷ ks) [] p q e =
      let many : length (k ∷ ks) ≡ 0 = sym (length-map (k ∷ ks) (λ k. get_or xs k [])) ∙ ap length e in absurd (omega (arith, many))
  same_listed (k ∷ ks) (j ∷ js) p q e =
      let name : get_or xs k [] ≡ get_or ys j [] = ap (λ ns. get_or ns 0 []) e in
      let names : map (λ k. get_or xs k []) ks ≡ map (λ k. get_or ys k []) js = ap (drop 1) e in
      let one = same_name_there xs ys differ k j (get_or xs k []) (slice_get-get_or xs k [] p.0)
      (slice_get-get_or ys j [] q.0 ∙ ap Some (sym name)) in
      let more = same_listed ks js p.1 q.1 names in λ i. one i ∷ more i

numbers_within : (t : TableData) (s : ℕ) (ks : List ℕ) (n : ℕ) → n ≡ member_count t → AreMembersOf t s ks → AllByRecursion (λ k. k < n) ks
numbers_within t s [] n e h = tt
numbers_within t s (k ∷ ks) n e h = (subst (λ c. k < c) (sym e) h.0, numbers_within t s ks n e h.2)

-- the rows of one shape, but for what they say of values
pub record ShapeTwins (t u : TableData) (f : ℕ → ℕ) (Good : ℕ → Type 0) (a b : ℕ) : Type 0 where
  pub kind : kind_at t a ≡ kind_at u b
  pub unique : unique_at t a ≡ unique_at u b
  pub sparse : sparse_at t a ≡ sparse_at u b
  pub members : map f (members_at t a) ≡ members_at u b
  pub good : AllByRecursion Good (members_at t a)
  pub one : kind_at t a ≡ kinds.List → length (members_at t a) ≡ 1
  pub two : kind_at t a ≡ kinds.Map → length (members_at t a) ≡ 2

-- the rows of one member
pub record MemberTwins (g : GraphMaps) (n m : Numbering) (t u : TableData) (k l : ℕ) (id shape : List ℕ) : Type 0 where
  pub d : MemberData
  pub e : MemberData
  pub at_d : slice_get t.members k ≡ Some d
  pub at_e : slice_get u.members l ≡ Some e
  pub a : SaysMember g t.patterns n id d
  pub b : SaysMember g u.patterns m id e
  pub home_d : get_or n.shapes d.shape [] ≡ shape
  pub home_e : get_or m.shapes e.shape [] ≡ shape

module _ (g : GraphMaps) (n m : Numbering) (t u : TableData) (k l : ℕ) (id shape : List ℕ) (r : MemberTwins g n m t u k l id shape) where
  pub one_member : Path MemberEntry r.a.m r.b.m
  one_member = same_member g id r.a.m r.b.m r.a.there r.b.there

  pub one_target : Path ShapeEntry r.a.target r.b.target
  one_target = same_shape g r.b.m.target r.a.target r.b.target
      (subst (λ (x : MemberEntry). HasEntry g x.target (shape_entry r.a.target)) one_member r.a.target_there) r.b.target_there

  one_home : Path ShapeEntry r.a.home r.b.home
  one_home = same_shape g shape r.a.home r.b.home (subst (λ s. HasEntry g s (shape_entry r.a.home)) r.home_d r.a.home_there)
      (subst (λ s. HasEntry g s (shape_entry r.b.home)) r.home_e r.b.home_there)

  pub names_alike : r.d.name ≡ r.e.name
  names_alike = one_name shape r.d.name r.e.name
      (ap (λ s. member_id s r.d.name) (sym r.home_d) ∙ sym r.a.name ∙ r.b.name ∙ ap (λ s. member_id s r.e.name) r.home_e)

  pub json_names_alike : r.d.json_name ≡ r.e.json_name
  json_names_alike = r.a.json_name ∙ (λ i. text_of (fin.get (one_member i).traits json_name_id)) ∙ sym r.b.json_name

  pub required_alike : r.d.required ≡ r.e.required
  required_alike = r.a.required ∙ (λ i. is_some (fin.get (one_member i).traits required_id)) ∙ sym r.b.required

  pub format_alike : r.d.format ≡ r.e.format
  format_alike = r.a.format ∙ (λ i. format_seen (effective_traits (one_member i).traits (one_target i).traits)) ∙ sym r.b.format

  pub nodes_alike : r.d.default_node ≡ r.e.default_node
  nodes_alike =
      r.a.default_node ∙ (λ i. default_said (one_home i).kind (one_member i) (one_target i).kind) ∙ sym r.b.default_node

  pub constraints_alike : (x y : TableData) (test : Test) → x.patterns ≡ t.patterns → y.patterns ≡ u.patterns
      → SayAlike x y test r.d.constraints r.e.constraints
  constraints_alike x y test p q = say_alike x y test r.d.constraints r.e.constraints
      (constraints_said g r.a.target (effective_traits r.a.m.traits r.a.target.traits))
      (constraints_said g r.b.target (effective_traits r.b.m.traits r.b.target.traits))
      (λ i. constraints_said g (one_target i) (effective_traits (one_member i).traits (one_target i).traits))
      (subst (λ ps. SayConstraints ps r.d.constraints (constraints_said g r.a.target (effective_traits r.a.m.traits r.a.target.traits)))
      (sym p)
      r.a.constraints)
      (subst (λ ps. SayConstraints ps r.e.constraints (constraints_said g r.b.target (effective_traits r.b.m.traits r.b.target.traits)))
      (sym q)
      r.b.constraints)

-- a table whose members have been given defaults, or stay as they are
abbrev pub AreGiven : TableData → List MemberData → Type 0
AreGiven t rows =
    (k : ℕ) (d : MemberData) → slice_get t.members k ≡ Some d → (v : Option Val) × (slice_get rows k ≡ Some (with_default d v))

abbrev pub given : TableData → List MemberData → TableData
given t rows = record { shapes = t.shapes; members = rows; patterns = t.patterns }

module _ (g : GraphMaps) (root : List ℕ) (roots others : List (List ℕ)) (t u : TableData) (row other_row : ℕ)
    (h : HasRow g roots t root row)
    (o : HasRow g others u root other_row) where
  abbrev n : Numbering
  n = h.numbering

  abbrev m : Numbering
  m = o.numbering

  abbrev pub f : ℕ → ℕ
  f = other_number n.members m.members

  abbrev pub Good : ℕ → Type 0
  Good = IsMemberReached g root n

  -- the members of a shape that is reached are good
  all_good : (shape : List ℕ) (s : ShapeEntry) → IsReached g root shape → IsValueShape g shape → HasEntry g shape (shape_entry s)
      → (ks : List ℕ) → ((k : ℕ) → Contains ks k → Contains (value_members s) (get_or n.members k []))
      → AllByRecursion (λ k. k < length n.members) ks → AllByRecursion Good ks
  all_good shape s reached value there [] listed inside = tt
  all_good shape s reached value there (k ∷ ks) listed inside =
      let one : Good k = record {
        id = get_or n.members k [];
        at = slice_get-get_or n.members k [] inside.0;
        shape = shape;
        s = s;
        reached = reached;
        value = value;
        there = there;
        listed = listed k (contains_head k ks);
      } in
      (one, all_good shape s reached value there ks (λ l among. listed l (contains_behind k l ks among)) inside.1)

  shape_twins : (id : List ℕ) (a b : ℕ) → slice_get n.shapes a ≡ Some id → slice_get m.shapes b ≡ Some id → IsReached g root id
      → ShapeTwins t u f Good a b
  shape_twins id a b at_a at_b reached =
      let p = shape_row g root roots t row h a id at_a in
      let q = shape_row g root others u other_row o b id at_b in
      let x : SaysShape g t.patterns n id p.0 = p.2 in
      let y : SaysShape g u.patterns m id q.0 = q.2 in
      let shape = same_shape g id x.s y.s x.there y.there in
      let less = within g root roots t row h a id at_a in
      let also = within g root others u other_row o b id at_b in
      let named = ap (λ ks. map (λ k. get_or n.members k []) (listed_in ks)) p.1 ∙ x.members in
      let others_named = ap (λ ks. map (λ k. get_or m.members k []) (listed_in ks)) q.1 ∙ y.members in
      let inside = numbers_within t a (members_at t a) (length n.members) (members_many g root roots t row h) (h.shaped.members a less) in
      let in_other = numbers_within u b (members_at u b) (length m.members) (members_many g root others u other_row o)
      (o.shaped.members b also) in
      record {
        kind = ap kind_in p.1 ∙ x.kind ∙ (λ i. table_kind (shape i).kind) ∙ sym y.kind ∙ sym (ap kind_in q.1);
        unique = ap unique_in p.1 ∙ x.unique ∙ (λ i. is_some (fin.get (shape i).traits unique_items_id)) ∙ sym y.unique
            ∙ sym (ap unique_in q.1);
        sparse = ap sparse_in p.1 ∙ x.sparse ∙ (λ i. is_some (fin.get (shape i).traits sparse_id)) ∙ sym y.sparse
            ∙ sym (ap sparse_in q.1);
        members = same_listed n.members m.members o.compiled.members_once (members_at t a) (members_at u b) inside in_other
            (named ∙ (λ i. value_members (shape i)) ∙ sym others_named);
        good = all_good id x.s reached (value_there g root roots t row h a id at_a) x.there (members_at t a)
            (λ k among. subst (λ ids. Contains ids (get_or n.members k [])) named
            (contains_mapped (λ l. get_or n.members l []) (members_at t a) k among)) inside;
        one = one_listed t (kind_at t a) (members_at t a) (h.shaped.own a less);
        two = two_listed t (kind_at t a) (members_at t a) (h.shaped.own a less);
      }

  pub member_twins : (k : ℕ) (good : Good k) → MemberTwins g n m t u k (f k) good.id good.shape
  member_twins k good =
      let p = member_row g root roots t row h k good.id good.at in
      let place = member_there g root others u other_row o good.id good.shape good.s good.reached good.value good.there good.listed in
      let moved_to = same_name_there n.members m.members o.compiled.members_once k place.0 good.id good.at place.1 in
      let at = subst (λ l. slice_get m.members l ≡ Some good.id) (sym moved_to) place.1 in
      let q = member_row g root others u other_row o (f k) good.id at in
      let there : IsMemberReached g root m (f k) = record {
        id = good.id;
        at = at;
        shape = good.shape;
        s = good.s;
        reached = good.reached;
        value = good.value;
        there = good.there;
        listed = good.listed;
      } in
      record {
        d = p.0;
        e = q.0;
        at_d = p.1;
        at_e = q.1;
        a = p.2;
        b = q.2;
        home_d = home_is g root roots t row h k good p.0 p.1 p.2;
        home_e = home_is g root others u other_row o (f k) there q.0 q.1 q.2;
      }

  target_twins : (k : ℕ) (good : Good k) (r : MemberTwins g n m t u k (f k) good.id good.shape)
      → ShapeTwins t u f Good r.d.target r.e.target
  target_twins k good r =
      let member = one_member g n m t u k (f k) good.id good.shape r in
      shape_twins r.a.m.target r.d.target r.e.target r.a.target_number
      (r.b.target_number ∙ ap (λ (e : MemberEntry). Some e.target) (sym member))
      (target_reached g root good.shape good.id good.s r.a.m r.a.target good.reached good.there
      (among_members good.s.kind good.s.members good.id good.listed) r.a.there r.a.target_there)

  -- the tables with defaults that they have been given
  module _ (test : Test) (left right : List MemberData) (first : AreGiven t left) (second : AreGiven u right) where
    abbrev x : TableData
    x = given t left

    abbrev y : TableData
    y = given u right

    place_twins : (k : ℕ) → Good k → AreTwins x y test f Good (member_place k) (member_place (f k))
    place_twins k good =
        let r = member_twins k good in
        let p = (first k r.d r.at_d).1 in
        let q = (second (f k) r.e r.at_e).1 in
        let s = target_twins k good r in
        let target : target_at x k ≡ r.d.target = ap target_in p in
        let other : target_at y (f k) ≡ r.e.target = ap target_in q in
        record {
          kind = ap (kind_at t) target ∙ s.kind ∙ sym (ap (kind_at u) other);
          format = ap format_in p ∙ format_alike g n m t u k (f k) good.id good.shape r ∙ sym (ap format_in q);
          unique = ap (unique_at t) target ∙ s.unique ∙ sym (ap (unique_at u) other);
          sparse = ap (sparse_at t) target ∙ s.sparse ∙ sym (ap (sparse_at u) other);
          constraints = subst (λ c. SayAlike x y test c (constraints_at y (f k))) (sym (ap constraints_in p))
              (subst (λ c. SayAlike x y test r.d.constraints c) (sym (ap constraints_in q))
              (constraints_alike g n m t u k (f k) good.id good.shape r x y test refl refl));
          members = ap (λ a. map f (members_at t a)) target ∙ s.members ∙ sym (ap (members_at u) other);
          good = subst (λ a. AllByRecursion Good (members_at t a)) (sym target) s.good;
          one = subst (λ a. kind_at t a ≡ kinds.List → length (members_at t a) ≡ 1) (sym target) s.one;
          two = subst (λ a. kind_at t a ≡ kinds.Map → length (members_at t a) ≡ 2) (sym target) s.two;
        }

    name_twins : (k : ℕ) → Good k → name_at x k ≡ name_at y (f k)
    name_twins k good =
        let r = member_twins k good in
        ap name_in (first k r.d r.at_d).1 ∙ names_alike g n m t u k (f k) good.id good.shape r
        ∙ sym (ap name_in (second (f k) r.e r.at_e).1)

    json_name_twins : (k : ℕ) → Good k → json_name_at x k ≡ json_name_at y (f k)
    json_name_twins k good =
        let r = member_twins k good in
        let name = names_alike g n m t u k (f k) good.id good.shape r in
        let json = json_names_alike g n m t u k (f k) good.id good.shape r in
        ap json_name_in (first k r.d r.at_d).1 ∙ (λ i. unwrap_or (json i) (name i)) ∙ sym (ap json_name_in (second (f k) r.e r.at_e).1)

    pub have_twins : ((k : ℕ) → Good k → option_map (moved f) (default_at x k) ≡ default_at y (f k))
        → HaveTwins x y test f Good
    have_twins defaults = record {
      name = name_twins;
      json_name = json_name_twins;
      required = λ k good.
          let r = member_twins k good in
          ap required_in (first k r.d r.at_d).1 ∙ required_alike g n m t u k (f k) good.id good.shape r
          ∙ sym (ap required_in (second (f k) r.e r.at_e).1);
      default = defaults;
      member = place_twins;
    }

    pub root_twins : AreTwins x y test f Good (root_place row) (root_place other_row)
    root_twins =
        let p = shape_row g root roots t row h row root h.number in
        let q = shape_row g root others u other_row o other_row root o.number in
        let a : SaysShape g t.patterns n root p.0 = p.2 in
        let b : SaysShape g u.patterns m root q.0 = q.2 in
        let s = shape_twins root row other_row h.number o.number ([], refl) in
        let shape = same_shape g root a.s b.s a.there b.there in
        let alike = say_alike x y test p.0.constraints q.0.constraints (constraints_said g a.s (own_traits a.s.traits))
        (constraints_said g b.s (own_traits b.s.traits)) (λ i. constraints_said g (shape i) (own_traits (shape i).traits)) a.constraints
        b.constraints in
        record {
          kind = s.kind;
          format = ap shape_format_in p.1 ∙ a.format ∙ (λ i. format_seen (own_traits (shape i).traits)) ∙ sym b.format
              ∙ sym (ap shape_format_in q.1);
          unique = s.unique;
          sparse = s.sparse;
          constraints = subst (λ c. SayAlike x y test c (shape_constraints_at y other_row)) (sym (ap shape_constraints_in p.1))
              (subst (λ c. SayAlike x y test p.0.constraints c) (sym (ap shape_constraints_in q.1)) alike);
          members = s.members;
          good = s.good;
          one = s.one;
          two = s.two;
        }
