-- The members of a shape target what they may, and their traits have values of their forms, where no rule fails.
use Rattle.std.proofs.Common.{◌≡◌, inl, inr, ℕ, Bool, true, false, ◌&&◌, ◌||◌, List, [], ◌∷◌, map, Option, Some, None, refl, sym, ap, subst}
use Rattle.std.proofs.Common.{◌∙◌, arith, bytes_eq, length, FitsSigned}
use Rattle.std.specs.Prelude.{codes, not, ℤ}
use Rattle.std.specs.Int.{w32}
use Rattle.std.specs.FinMap as fin
use Rattle.std.specs.List.{Contains, list_any}
use Rattle.std.proofs.lemmas.Option.{none-some, same_Some}
use Rattle.std.proofs.lemmas.Slice.Eq.{bytes_eq-Decides}
use Rattle.sm_tree.specs.Node.{Node, text, int}
use Rattle.sm_model.specs.Formed.{HaveForm}
use Rattle.sm_model.specs.FormedGraph.{IsFormedGraph}
use Rattle.sm_model.specs.Graphs.{Entry, shape_entry, member_entry, GraphMaps, MemberEntry, ShapeEntry, member_id}
use Rattle.sm_model.specs.Kinds.{member_form}
use Rattle.sm_model.specs.PreludeShapes.{is_prelude_id, unit_id, unit_shape}
use Rattle.sm_model.specs.Relations.{HasEntry}
use Rattle.sm_model.specs.declared.kind.Kind.{Kind}
use Rattle.sm_model.specs.declared.kind.Kind.TheVariants as model
use Rattle.sm_model.specs.declared.relation.Relation.TheVariants.{Target}
use Rattle.sm_model.proofs.LinkedEntries.{cons_here}
use Rattle.sm_model.proofs.Worklist.{apart}
use Rattle.sm_compile.specs.Compiled.{IdSet}
use Rattle.sm_compile.specs.Kinds.{has_values, is_text_kind, may_target}
use Rattle.sm_compile.specs.Sound.{AreSoundMembers, HasTextKey, IsSoundMember, TargetsText, trait_in, trait_of}
use Rattle.sm_compile.specs.TraitIds.{enum_value_id}
use Rattle.sm_compile.specs.TraitNodes.{is_enum_value, is_number, is_text, own_traits, where_there, fits_word}
use Rattle.sm_rules.specs.TraitRows.{at_member, takes_in, with_members}
use Rattle.sm_rules.specs.Constraints.{HasItsValue, IsEnumKind, wrong_value}
use Rattle.sm_rules.specs.Ready.{NoneFailsIn}
use Rattle.sm_rules.specs.Targets.{by_member, is_key, may_be_target}
use Rattle.sm_rules.specs.Traits.{IsSpot, of_member}
use Rattle.sm_rules.specs.Words.{IsMemberOf, IsOwnShape}
use Rattle.sm_compile.proofs.SoundTests.{fits_back, fits_from, formed_along}
use Rattle.sm_accepted.proofs.ClosedSets.{AreIn}
use Rattle.sm_accepted.proofs.FormedShapes.{AreThere, member_own, prelude_is}
use Rattle.sm_accepted.proofs.GivenShapes.{behind_head}
use Rattle.sm_accepted.proofs.Lists.{split_at}
use Rattle.sm_accepted.proofs.TraitsRight.{by_row, formed_traits, must, or_false, where_known}

-- a value that can't be wrong is right: a text that isn't empty, a number of 32 bits
abbrev IsFilled : Option Node → Type 0
IsFilled o = (t : List ℕ) × (o ≡ Some (text t)) × (t ≡ [] → ⊥)

abbrev IsWord : Option Node → Type 0
IsWord o = (z : ℤ) × (o ≡ Some (int z)) × FitsSigned w32 z

text_there : (o : Option Node) → ((IsFilled o → ⊥) → ⊥) → IsFilled o
text_there None denied = absurd (denied (λ h. none-some (text h.0) h.1))
text_there (Some (text [])) denied = absurd (denied (λ h. let e = h.1 in h.2 cc))
text_there (Some (text (c ∷ cs))) denied = (c ∷ cs, refl, λ e. omega (arith, ap length e))
text_there (Some n) denied = absurd (denied (λ h. let e = h.1 in cc))

number_there : (g : GraphMaps) (o : Option Node) → ((IsWord o → ⊥) → ⊥) → IsWord o
number_there g None denied = absurd (denied (λ h. none-some (int h.0) h.1))
number_there g (Some (int z)) denied = by (fits_word z) refl
  where
    by : (b : Bool) → fits_word z ≡ b → IsWord (Some (int z))
    by true fits = (z, refl, fits_from g z fits)
    by false wide =
        absurd (denied (λ h. let e = h.1 in let same : z ≡ h.0 = cc in apart (sym wide ∙ ap fits_word same ∙ fits_back g h.0 h.2)))
number_there g (Some n) denied = absurd (denied (λ h. let e = h.1 in cc))

its_value : (g : GraphMaps) (id : List ℕ) (kind : Kind) → (IsEnumKind kind → (HasItsValue g kind id → ⊥) → ⊥) → HasItsValue g kind id
its_value g id model.Enum denied = text_there (trait_of g id enum_value_id) (denied (inl refl))
its_value g id model.IntEnum denied = number_there g (trait_of g id enum_value_id) (denied (inr refl))
its_value g id kind denied = tt

-- so `enumValue` has a value of its shape's type
same_node : (a b : Node) (test : Node → Bool) → Some a ≡ Some b → test b ≡ true → test a ≡ true
same_node a b test is h = ap test (same_Some a b is) ∙ h

enum_value : (g : GraphMaps) (id : List ℕ) (kind : Kind) (n : Node) → HasItsValue g kind id → trait_of g id enum_value_id ≡ Some n
    → (is_text n || is_number n) ≡ true → is_enum_value kind n ≡ true
enum_value g id model.Enum n value is any = same_node n (text value.0) is_text (sym is ∙ value.1) refl
enum_value g id model.IntEnum n value is any = same_node n (int value.0) is_number (sym is ∙ value.1) refl
enum_value g id kind n value is any = any

-- a target that the rule takes may stand there
of_text : (kind : Kind) → is_text_kind kind ≡ true → has_values kind ≡ true
of_text model.Text h = refl
of_text model.Enum h = refl
of_text kind h = absurd (apart h)

may_from : (home : Kind) (key unit : Bool) (kind : Kind) → may_be_target home key unit kind ≡ true
    → (is_text_kind kind ≡ true → unit ≡ false) → may_target home unit kind ≡ true
may_from model.Map true unit kind h apart_from =
    ap (λ b. b && not unit) (of_text kind h) ∙ ap not (apart_from h)
may_from model.Map false unit kind h apart_from = h
may_from home key unit kind h apart_from = h

-- what a place takes in, by the target
seen_at_target : (kinds : Kind → Bool) (home kind : Kind) (s : ShapeEntry) → s.kind ≡ kind
    → list_any (takes_in (at_member home (Some (shape_entry s)))) (with_members kinds) ≡ kinds kind
seen_at_target kinds home kind s is = or_false (kinds s.kind) ∙ ap kinds is

module _ (g : GraphMaps) (f : IsFormedGraph g) (In : IdSet) (none : NoneFailsIn g In) (shape : List ℕ) (s : ShapeEntry)
    (home : IsOwnShape g shape s) (members_in : AreIn In s.members) where
  -- a text isn't the prelude's unit
  no_unit : (target : List ℕ) (t : ShapeEntry) → HasEntry g target (shape_entry t) → is_text_kind t.kind ≡ true
      → bytes_eq target unit_id ≡ false
  no_unit target t there is = by (bytes_eq target unit_id) refl
    where
      by : (b : Bool) → bytes_eq target unit_id ≡ b → b ≡ false
      by false other = refl
      by true same =
          let unit = prelude_is g f unit_shape (20, omega arith, refl) t
          (subst (λ i. HasEntry g i (shape_entry t)) ((bytes_eq-Decides target unit_id).0 same) there) in
          absurd (apart (sym (ap (λ (x : ShapeEntry). is_text_kind x.kind) unit) ∙ is))

  -- each member has a value where it must
  pub value_there : (id : List ℕ) → Contains s.members id → HasItsValue g s.kind id
  value_there id among =
      let at = split_at s.members id among in
      its_value g id s.kind (λ enum denied. none.enums id [] (members_in id among) (wrong_value (record {
        shape = shape;
        s = s;
        before = at.before;
        behind = record { home = home; later = at.later; members = at.is };
        kind = enum;
        wrong = inl denied;
      }) refl))

  module _ (id : List ℕ) (among : Contains s.members id) (m : MemberEntry) (there : HasEntry g id (member_entry m)) where
    member_in : In id
    member_in = members_in id among

    own : is_prelude_id id ≡ false
    own = member_own g f id m there

    is_member : IsMemberOf g shape s id m
    is_member = record { home = home; among = among; there = there }

    pub stands : IsSpot g id (at_member s.kind (fin.get g.shapes m.target))
    stands = of_member (record { shape = shape; s = s; m = m; member = is_member; is = refl })

    -- its target is there, and may be
    target_there : (o : Option Entry) → fin.get g.shapes m.target ≡ o → (t : ShapeEntry) × HasEntry g m.target (shape_entry t)
    target_there None is = absurd (none.missing id m.target member_in (record {
      refers = record { e = member_entry m; own = (there, own); relation = Target; other = λ e. cc; says = (refl, refl) };
      nothing = λ found. none-some found.0 (sym is ∙ found.1);
    }))
    target_there (Some (shape_entry t)) is = (t, is)
    target_there (Some (member_entry n)) is = absurd (none.kinds id m.target member_in (by_member (record {
      shape = shape;
      s = s;
      m = m;
      member = is_member;
      targets = refl;
      e = member_entry n;
      there = is;
      may_not = refl;
    })))

    pub may_be : (t : ShapeEntry) → HasEntry g m.target (shape_entry t)
        → may_be_target s.kind (is_key shape id) (bytes_eq m.target unit_id) t.kind ≡ true
    may_be t is =
        must (may_be_target s.kind (is_key shape id) (bytes_eq m.target unit_id) t.kind)
        (λ wrong. none.kinds id m.target member_in (by_member (record {
          shape = shape;
          s = s;
          m = m;
          member = is_member;
          targets = refl;
          e = shape_entry t;
          there = is;
          may_not = wrong;
        })))

    any_value : (n : Node) → trait_of g id enum_value_id ≡ Some n → (is_text n || is_number n) ≡ true
    any_value n is =
        sym (or_false (is_text n || is_number n))
        ∙ by_row g In none id member_in own (at_member s.kind (fin.get g.shapes m.target)) stands enum_value_id n refl is

    sound_at : (t : ShapeEntry) → HasEntry g m.target (shape_entry t) → IsSoundMember g s.kind id
    sound_at t is = record {
      m = m;
      there = there;
      target = t;
      found = is;
      may_target = may_from s.kind (is_key shape id) (bytes_eq m.target unit_id) t.kind (may_be t is) (no_unit m.target t is);
      traits = formed_along t.kind (trait_of g id) (own_traits m.traits) (λ name. ap (trait_in name) there)
          (formed_traits g In none id member_in own (at_member s.kind (fin.get g.shapes m.target)) stands t.kind
          (λ kinds. ap (λ (o : Option Entry). list_any (takes_in (at_member s.kind o)) (with_members kinds)) is
          ∙ seen_at_target kinds s.kind t.kind t refl));
      value = subst (λ (o : Option Node). where_there (is_enum_value s.kind) o ≡ true) (ap (trait_in enum_value_id) there)
          (where_known (trait_of g id enum_value_id) (is_enum_value s.kind)
          (λ n has. enum_value g id s.kind n (value_there id among) has (any_value n has)));
    }

    pub sound_member : IsSoundMember g s.kind id
    sound_member = let t = target_there (fin.get g.shapes m.target) refl in sound_at t.0 t.1

  sound_all : (ids : List (List ℕ)) → ((id : List ℕ) → Contains ids id → Contains s.members id) → AreThere g ids
      → AreSoundMembers g s.kind ids
  sound_all [] inside there = tt
  sound_all (id ∷ ids) inside there = (
    sound_member id (inside id (cons_here id ids)) there.0.0 there.0.1,
    sound_all ids (λ other among. inside other (behind_head id ids other among)) there.1,
  )

  pub sound_members : AreThere g s.members → AreSoundMembers g s.kind s.members
  sound_members there = sound_all s.members (λ id among. among) there

  -- the key of a map is a text
  key_text : (id : List ℕ) → Contains s.members id → id ≡ member_id shape (codes "key") → s.kind ≡ model.Map → TargetsText g id
  key_text id among is kind m t there found =
      let key : is_key shape id ≡ true = (bytes_eq-Decides id (member_id shape (codes "key"))).1 is in
      let unit = bytes_eq m.target unit_id in
      sym (ap (λ b. may_be_target model.Map b unit t.kind) key) ∙ sym (ap (λ k. may_be_target k (is_key shape id) unit t.kind) kind)
      ∙ may_be id among m there t found

  text_key : (kind : Kind) → s.kind ≡ kind → (ids names : List (List ℕ)) → ids ≡ map (member_id shape) names
      → HaveForm (member_form kind) names → ((id : List ℕ) → Contains ids id → Contains s.members id) → HasTextKey g kind ids
  text_key model.Map is [] names named form inside = tt
  text_key model.Map is (id ∷ ids) names named form inside =
      let first : id ∷ ids ≡ member_id shape (codes "key") ∷ member_id shape (codes "value") ∷ [] =
      named ∙ ap (map (member_id shape)) form in
      let key : id ≡ member_id shape (codes "key") = cc in key_text id (inside id (cons_here id ids)) key is
  text_key kind is ids names named form inside = tt

  pub has_text_key : (names : List (List ℕ)) → s.members ≡ map (member_id shape) names → HaveForm (member_form s.kind) names
      → HasTextKey g s.kind s.members
  has_text_key names named form = text_key s.kind refl s.members names named form (λ id among. among)
