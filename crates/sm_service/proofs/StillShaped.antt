-- A table that differs from another in bindings and media types alone is in order where the other is, and no member with the node of a
-- default has a binding.
use Rattle.std.proofs.Common.{◌≡◌, ℕ, ◌<◌, Bool, ◌||◌, List, [], ◌∷◌, map, length, Option, Some, None, refl, sym, ap, ◌∙◌}
use Rattle.std.proofs.Common.{subst, arith}
use Rattle.std.specs.Prelude.{is_some, slice_get, IsUtf8}
use Rattle.std.specs.List.{Contains, filter}
use Rattle.std.specs.List.Sorted.{IsStrictlySortedBy}
use Rattle.std.specs.Option.{option_map}
use Rattle.std.specs.Ordering.{nat_cmp}
use Rattle.std.proofs.lemmas.List.{length-map}
use Rattle.std.proofs.lemmas.Option.{none-some, slice_get-map}
use Rattle.sm_tree.specs.Node.{Node}
use Rattle.sm_shapes.specs.DefaultPuts.{HasNoDefault}
use Rattle.sm_shapes.specs.Fitting.{Test}
use Rattle.sm_shapes.specs.InOrder.{AreByName, AreMembersOf, AreStored, Built, HasItsMembers, IsTextKind, MayHaveNode, NamesPattern, Shaped}
use Rattle.sm_shapes.specs.InOrder.{is_needed}
use Rattle.sm_shapes.specs.Names.{AllDiffer}
use Rattle.sm_shapes.specs.TableData.{ConstraintData, MemberData, ShapeData, TableData, binding_at, by_json_name_at, by_json_name_in}
use Rattle.sm_shapes.specs.TableData.{by_name_at, by_name_in, constraints_at, constraints_in, default_at, default_in, default_node_at}
use Rattle.sm_shapes.specs.TableData.{default_node_in, home_at, home_in, json_name_at, json_name_in, kind_at, kind_in, member_count}
use Rattle.sm_shapes.specs.TableData.{members_at, members_in, name_at, name_in, needed_at, needed_in, required_at, required_in, shape_count}
use Rattle.sm_shapes.specs.TableData.{shape_constraints_at, shape_constraints_in, target_at, target_in, texts_numbered}
use Rattle.sm_shapes.specs.declared.kinds.ShapeKind.{ShapeKind}
use Rattle.sm_shapes.specs.declared.kinds.ShapeKind.TheVariants as kind

-- a row without bindings and media types
abbrev pub bare_member : MemberData → MemberData
bare_member d = record d { binding = None; media_type = None }

abbrev pub bare_shape : ShapeData → ShapeData
bare_shape d = record d { media_type = None }

-- two tables that differ in these alone
pub record AreAlike (t u : TableData) : Type 0 where
  pub members : map bare_member u.members ≡ map bare_member t.members
  pub shapes : map bare_shape u.shapes ≡ map bare_shape t.shapes
  pub patterns : u.patterns ≡ t.patterns

module _ (t u : TableData) (alike : AreAlike t u) where
  at_member : {A : Type 0} (look : Option MemberData → A) → ((o : Option MemberData) → look (option_map bare_member o) ≡ look o)
      → (k : ℕ) → look (slice_get u.members k) ≡ look (slice_get t.members k)
  at_member look same k =
      sym (same (slice_get u.members k)) ∙ ap look (sym (slice_get-map bare_member u.members k))
      ∙ ap (λ (ds : List MemberData). look (slice_get ds k)) alike.members
      ∙ ap look (slice_get-map bare_member t.members k) ∙ same (slice_get t.members k)

  at_shape : {A : Type 0} (look : Option ShapeData → A) → ((o : Option ShapeData) → look (option_map bare_shape o) ≡ look o)
      → (s : ℕ) → look (slice_get u.shapes s) ≡ look (slice_get t.shapes s)
  at_shape look same s =
      sym (same (slice_get u.shapes s)) ∙ ap look (sym (slice_get-map bare_shape u.shapes s))
      ∙ ap (λ (ds : List ShapeData). look (slice_get ds s)) alike.shapes
      ∙ ap look (slice_get-map bare_shape t.shapes s) ∙ same (slice_get t.shapes s)

  same_home : (k : ℕ) → home_at u k ≡ home_at t k
  same_home k = at_member home_in same k
    where
      same : (o : Option MemberData) → home_in (option_map bare_member o) ≡ home_in o
      same None = refl
      same (Some m) = refl

  same_name : (k : ℕ) → name_at u k ≡ name_at t k
  same_name k = at_member name_in same k
    where
      same : (o : Option MemberData) → name_in (option_map bare_member o) ≡ name_in o
      same None = refl
      same (Some m) = refl

  same_json_name : (k : ℕ) → json_name_at u k ≡ json_name_at t k
  same_json_name k = at_member json_name_in same k
    where
      same : (o : Option MemberData) → json_name_in (option_map bare_member o) ≡ json_name_in o
      same None = refl
      same (Some m) = refl

  same_target : (k : ℕ) → target_at u k ≡ target_at t k
  same_target k = at_member target_in same k
    where
      same : (o : Option MemberData) → target_in (option_map bare_member o) ≡ target_in o
      same None = refl
      same (Some m) = refl

  same_required : (k : ℕ) → required_at u k ≡ required_at t k
  same_required k = at_member required_in same k
    where
      same : (o : Option MemberData) → required_in (option_map bare_member o) ≡ required_in o
      same None = refl
      same (Some m) = refl

  same_constraints : (k : ℕ) → constraints_at u k ≡ constraints_at t k
  same_constraints k = at_member constraints_in same k
    where
      same : (o : Option MemberData) → constraints_in (option_map bare_member o) ≡ constraints_in o
      same None = refl
      same (Some m) = refl

  pub same_default_node : (k : ℕ) → default_node_at u k ≡ default_node_at t k
  same_default_node k = at_member default_node_in same k
    where
      same : (o : Option MemberData) → default_node_in (option_map bare_member o) ≡ default_node_in o
      same None = refl
      same (Some m) = refl

  same_default : (k : ℕ) → default_at u k ≡ default_at t k
  same_default k = at_member default_in same k
    where
      same : (o : Option MemberData) → default_in (option_map bare_member o) ≡ default_in o
      same None = refl
      same (Some m) = refl

  kind_is : (s : ℕ) → kind_at u s ≡ kind_at t s
  kind_is s = at_shape kind_in same s
    where
      same : (o : Option ShapeData) → kind_in (option_map bare_shape o) ≡ kind_in o
      same None = refl
      same (Some d) = refl

  same_members : (s : ℕ) → members_at u s ≡ members_at t s
  same_members s = at_shape members_in same s
    where
      same : (o : Option ShapeData) → members_in (option_map bare_shape o) ≡ members_in o
      same None = refl
      same (Some d) = refl

  same_by_name : (s : ℕ) → by_name_at u s ≡ by_name_at t s
  same_by_name s = at_shape by_name_in same s
    where
      same : (o : Option ShapeData) → by_name_in (option_map bare_shape o) ≡ by_name_in o
      same None = refl
      same (Some d) = refl

  same_by_json_name : (s : ℕ) → by_json_name_at u s ≡ by_json_name_at t s
  same_by_json_name s = at_shape by_json_name_in same s
    where
      same : (o : Option ShapeData) → by_json_name_in (option_map bare_shape o) ≡ by_json_name_in o
      same None = refl
      same (Some d) = refl

  same_needed : (s : ℕ) → needed_at u s ≡ needed_at t s
  same_needed s = at_shape needed_in same s
    where
      same : (o : Option ShapeData) → needed_in (option_map bare_shape o) ≡ needed_in o
      same None = refl
      same (Some d) = refl

  same_shape_constraints : (s : ℕ) → shape_constraints_at u s ≡ shape_constraints_at t s
  same_shape_constraints s = at_shape shape_constraints_in same s
    where
      same : (o : Option ShapeData) → shape_constraints_in (option_map bare_shape o) ≡ shape_constraints_in o
      same None = refl
      same (Some d) = refl

  member_many : member_count u ≡ member_count t
  member_many = sym (length-map u.members bare_member) ∙ ap length alike.members ∙ length-map t.members bare_member

  shape_many : shape_count u ≡ shape_count t
  shape_many = sym (length-map u.shapes bare_shape) ∙ ap length alike.shapes ∙ length-map t.shapes bare_shape

  within : (k : ℕ) → k < member_count u → k < member_count t
  within k h = subst (λ n. k < n) member_many h

  inside : (s : ℕ) → s < shape_count u → s < shape_count t
  inside s h = subst (λ n. s < n) shape_many h

  -- as functions of numbers
  names_path : Path (ℕ → List ℕ) (name_at t) (name_at u)
  names_path = λ i k. (sym (same_name k)) i

  json_names_path : Path (ℕ → List ℕ) (json_name_at t) (json_name_at u)
  json_names_path = λ i k. (sym (same_json_name k)) i

  needed_path : Path (ℕ → Bool) (is_needed t) (is_needed u)
  needed_path = λ i k. (sym (same_required k)) i || (is_some ((sym (same_default_node k)) i) || is_some ((sym (same_default k)) i))

  still_members : (s : ℕ) (ks : List ℕ) → AreMembersOf t s ks → AreMembersOf u s ks
  still_members s [] h = tt
  still_members s (k ∷ ks) h = (subst (λ n. k < n) (sym member_many) h.0, same_home k ∙ h.1, still_members s ks h.2)

  key_kind : (k : ℕ) → kind_at u (target_at u k) ≡ kind_at t (target_at t k)
  key_kind k = kind_is (target_at u k) ∙ ap (kind_at t) (same_target k)

  still_own : (kd : ShapeKind) (ks : List ℕ) → HasItsMembers t kd ks → HasItsMembers u kd ks
  still_own kind.List (k ∷ []) h = h
  still_own kind.List [] h = h
  still_own kind.List (j ∷ k ∷ ks) h = h
  still_own kind.Map [] h = h
  still_own kind.Map (k ∷ []) h = h
  still_own kind.Map (j ∷ k ∷ []) h = subst IsTextKind (sym (key_kind j)) h
  still_own kind.Map (j ∷ k ∷ l ∷ ks) h = h
  still_own kind.Blob ks h = h
  still_own kind.Boolean ks h = h
  still_own kind.Text ks h = h
  still_own kind.Enum ks h = h
  still_own kind.Byte ks h = h
  still_own kind.Short ks h = h
  still_own kind.Integer ks h = h
  still_own kind.IntEnum ks h = h
  still_own kind.Long ks h = h
  still_own kind.Timestamp ks h = h
  still_own kind.Structure ks h = h
  still_own kind.Union ks h = h
  still_own kind.LeftOut ks h = h

  still_named : (o : Option ℕ) → NamesPattern t o → NamesPattern u o
  still_named None h = tt
  still_named (Some n) h = (h.0, ap (texts_numbered n) alike.patterns ∙ h.1)

  pub still_no_default : HasNoDefault t → HasNoDefault u
  still_no_default none k = same_default k ∙ none k

  pub still_built : HasNoDefault t → (added : List (List ℕ)) (test : Test) → Built t added test → Built u added test
  still_built none added test h = record {
    stored = subst (λ ps. AreStored ps added) (sym alike.patterns) h.stored;
    defaults = λ k v is. absurd (none-some v (sym (still_no_default none k) ∙ is));
  }

  pub still_shaped : HasNoDefault t → ((k : ℕ) (n : Node) → default_node_at u k ≡ Some n → binding_at u k ≡ None) → Shaped t → Shaped u
  still_shaped none unbound shaped = record {
    targets = λ k h.
        let a = same_target k in let b = shape_many in let c = shaped.targets k (within k h) in omega (arith, a, b, c);
    homes = λ k h.
        let a = same_home k in
        let b = shape_many in
        let c = shaped.homes k (within k h) in (
          let d = c.0 in omega (arith, a, b, d),
          subst (λ xs. Contains xs k) (sym (same_members (home_at u k))) (subst (λ s. Contains (members_at t s) k) (sym a) c.1),
        );
    members = λ s h.
        subst (AreMembersOf u s) (sym (same_members s)) (still_members s (members_at t s) (shaped.members s (inside s h)));
    rises = λ s h. subst (IsStrictlySortedBy nat_cmp) (sym (same_members s)) (shaped.rises s (inside s h));
    by_name = λ s h.
        subst (λ f. AreByName f (members_at u s) (by_name_at u s)) names_path
        (subst (λ xs. AreByName (name_at t) xs (by_name_at u s)) (sym (same_members s))
        (subst (AreByName (name_at t) (members_at t s)) (sym (same_by_name s)) (shaped.by_name s (inside s h))));
    by_json_name = λ s h.
        subst (λ f. AreByName f (members_at u s) (by_json_name_at u s)) json_names_path
        (subst (λ xs. AreByName (json_name_at t) xs (by_json_name_at u s)) (sym (same_members s))
        (subst (AreByName (json_name_at t) (members_at t s)) (sym (same_by_json_name s)) (shaped.by_json_name s (inside s h))));
    needed = λ s h.
        same_needed s ∙ shaped.needed s (inside s h) ∙ ap (filter (is_needed t)) (sym (same_members s))
        ∙ ap (λ (f : ℕ → Bool). filter f (members_at u s)) needed_path;
    own = λ s h.
        subst (HasItsMembers u (kind_at u s)) (sym (same_members s))
        (subst (λ kd. HasItsMembers u kd (members_at t s)) (sym (kind_is s))
        (still_own (kind_at t s) (members_at t s) (shaped.own s (inside s h))));
    names = λ s h.
        subst (λ f. AllDiffer (map f (members_at u s))) names_path
        (subst (λ xs. AllDiffer (map (name_at t) xs)) (sym (same_members s)) (shaped.names s (inside s h)));
    json_names = λ s h.
        subst (λ f. AllDiffer (map f (members_at u s))) json_names_path
        (subst (λ xs. AllDiffer (map (json_name_at t) xs)) (sym (same_members s)) (shaped.json_names s (inside s h)));
    utf8 = λ k h.
        let texts = shaped.utf8 k (within k h) in
        (subst IsUtf8 (sym (same_name k)) texts.0, subst IsUtf8 (sym (same_json_name k)) texts.1);
    shape_patterns = λ s h.
        subst (λ (c : ConstraintData). NamesPattern u c.pattern) (sym (same_shape_constraints s))
        (still_named (shape_constraints_at t s).pattern (shaped.shape_patterns s (inside s h)));
    member_patterns = λ k h.
        subst (λ (c : ConstraintData). NamesPattern u c.pattern) (sym (same_constraints k))
        (still_named (constraints_at t k).pattern (shaped.member_patterns k (within k h)));
    nodes = λ k n is.
        let may = shaped.nodes k n (sym (same_default_node k) ∙ is) in (
          (kind_is (home_at u k) ∙ ap (kind_at t) (same_home k) ∙ may.0.0, unbound k n is),
          subst (λ kd. MayHaveNode kd n) (sym (key_kind k)) may.1,
        );
    values = λ k v is. absurd (none-some v (sym (still_no_default none k) ∙ is));
    fit = λ k v is. absurd (none-some v (sym (still_no_default none k) ∙ is));
  }
