-- What a shape comes to that is stated once, as a graph has it: the members and traits that it has in the graph.
use Rattle.std.proofs.Common.{◌≡◌, inl, inr, ℕ, List, [], ◌∷◌, map, Some, refl, sym, ap, subst, ◌∙◌, append-nil}
use Rattle.std.specs.Prelude.{◌↔◌}
use Rattle.std.specs.List.{flat_map, slice_get}
use Rattle.std.specs.FinMap as fin
use Rattle.std.proofs.lemmas.Option.{none-some}
use Rattle.sm_tree.specs.Node.{Node}
use Rattle.sm_model.specs.Formed.{DifferInNames}
use Rattle.sm_model.specs.Given.{given_names}
use Rattle.sm_model.specs.Graphs.{MemberEntry, MemberGiven, NodeMap, ShapeEntry, ShapeGiven, ShapeMap, member_entry, member_id}
use Rattle.sm_model.specs.References.{IsShapeId}
use Rattle.sm_model.proofs.MapFacts.{keys}
use Rattle.sm_merge.specs.Mixins.{AreCopied, AreEffectiveMembers, EffectiveMembers, EffectiveShape, IsEffective, IsEffectiveValue}
use Rattle.sm_merge.specs.Mixins.{each_once, effective, names_of, no_mixins, own_member}
use Rattle.sm_model.specs.Used.{shape_part}
use Rattle.sm_merge.specs.Places.{shape_traits_at, shapes_under, trait_values, traits_at, values_under}
use Rattle.sm_merge.specs.Stated.{ShapeStated, Stated}
use Rattle.sm_merge.specs.Values.{IsValueOf}
use Rattle.sm_merge.proofs.EntriesFound.{Has, has_found}
use Rattle.sm_ids.proofs.MadeIds.{one_name}
use Rattle.sm_ids.proofs.TextCuts.{of_member, of_shape}
use Rattle.sm_merge.proofs.NamesOnce.{once_again}
use Rattle.sm_merge.specs.Restated.{AreMembersIn, IsMemberIn, IsShapeIn}
use Rattle.sm_merge.proofs.RestatedValues.{AreOwnShapes, IsOneOf, from_shape, given_by, map_values, member_traits, own_traits}

module _ (shapes : ShapeMap) where
  abbrev pub members_from : (shape : List ℕ) (ms : List MemberGiven) → AreMembersIn shapes shape ms → EffectiveMembers
  members_from shape [] h = []
  members_from shape (m ∷ ms) h = (m.name, record { target = m.target; traits = h.0.traits }) ∷ members_from shape ms h.1

  abbrev pub shape_from : (s : ShapeGiven) → IsShapeIn shapes s → EffectiveShape
  shape_from s h = record { members = members_from s.id s.members h.members; traits = h.traits }

  -- the shape in the graph
  abbrev pub entry_in : (s : ShapeGiven) → IsShapeIn shapes s → ShapeEntry
  entry_in s h = record {
    kind = s.kind;
    members = map (λ m. member_id s.id m.name) s.members;
    properties = s.properties;
    traits = h.traits;
  }

  pub names_from : (shape : List ℕ) (ms : List MemberGiven) (h : AreMembersIn shapes shape ms)
      → names_of (members_from shape ms h) ≡ given_names ms
  names_from shape [] h = refl
  names_from shape (m ∷ ms) h = ap (λ names. m.name ∷ names) (names_from shape ms h.1)

  pub ids_from : (shape : List ℕ) (ms : List MemberGiven) (h : AreMembersIn shapes shape ms)
      → map (λ (m : MemberGiven). member_id shape m.name) ms ≡ map (member_id shape) (names_of (members_from shape ms h))
  ids_from shape [] h = refl
  ids_from shape (m ∷ ms) h = ap (λ ids. member_id shape m.name ∷ ids) (ids_from shape ms h.1)

  -- a member is in the graph
  pub member_found : (shape : List ℕ) (ms : List MemberGiven) (h : AreMembersIn shapes shape ms) (name : List ℕ) (e : MemberEntry)
      → Has name e (members_from shape ms h) → fin.get shapes (member_id shape name) ≡ Some (member_entry e)
  member_found shape [] h name e has = absurd has
  member_found shape (m ∷ ms) h name e (inl (same, is)) =
      ap (λ k. fin.get shapes (member_id shape k)) same ∙ h.0.found ∙ ap (λ x. Some (member_entry x)) (sym is)
  member_found shape (m ∷ ms) h name e (inr later) = member_found shape ms h.1 name e later

  -- and is one that is given
  pub record IsGivenMember (shape : List ℕ) (ms : List MemberGiven) (name : List ℕ) : Type 0 where
    pub m : MemberGiven
    pub one : IsOneOf m ms
    pub named : m.name ≡ name
    pub is_in : IsMemberIn shapes shape m

  pub member_given : (shape : List ℕ) (ms : List MemberGiven) (h : AreMembersIn shapes shape ms) (name : List ℕ) (e : MemberEntry)
      → Has name e (members_from shape ms h) → IsGivenMember shape ms name
  member_given shape [] h name e has = absurd has
  member_given shape (m ∷ ms) h name e (inl (same, is)) = record { m = m; one = inl refl; named = sym same; is_in = h.0 }
  member_given shape (m ∷ ms) h name e (inr later) =
      let rest = member_given shape ms h.1 name e later in
      record { m = rest.m; one = inr rest.one; named = rest.named; is_in = rest.is_in }

-- the same ids of members are those of the same names
abbrev first_or : List (List ℕ) → List ℕ
first_or [] = []
first_or (k ∷ ks) = k

abbrev behind : List (List ℕ) → List (List ℕ)
behind [] = []
behind (k ∷ ks) = ks

abbrev IsCons : List (List ℕ) → Type 0
IsCons [] = ⊥
IsCons (k ∷ ks) = Unit {0}

pub named_alike : (shape : List ℕ) (names others : List (List ℕ)) → map (member_id shape) names ≡ map (member_id shape) others
    → names ≡ others
named_alike shape [] [] e = refl
named_alike shape [] (k ∷ ks) e = absurd (subst IsCons (sym e) tt)
named_alike shape (j ∷ js) [] e = absurd (subst IsCons e tt)
named_alike shape (j ∷ js) (k ∷ ks) e =
    let first : j ≡ k = one_name shape j k (ap first_or e) in
    let rest : js ≡ ks = named_alike shape js ks (ap behind e) in
    λ i. first i ∷ rest i

ids_of_names : (shape : List ℕ) (ms : List MemberGiven)
    → map (member_id shape) (given_names ms) ≡ map (λ (m : MemberGiven). member_id shape m.name) ms
ids_of_names shape [] = refl
ids_of_names shape (m ∷ ms) = ap (λ ids. member_id shape m.name ∷ ids) (ids_of_names shape ms)

pub same_names : (shape : List ℕ) (ms : List MemberGiven) (names : List (List ℕ))
    → map (λ (m : MemberGiven). member_id shape m.name) ms ≡ map (member_id shape) names → given_names ms ≡ names
same_names shape ms names e = named_alike shape (given_names ms) names (ids_of_names shape ms ∙ e)

-- members as they are stated
own_keys : (ms : List MemberGiven) → keys (map own_member ms) ≡ given_names ms
own_keys [] = refl
own_keys (m ∷ ms) = ap (λ names. m.name ∷ names) (own_keys ms)

pub own_differ : (ms : List MemberGiven) → DifferInNames (given_names ms) → DifferInNames (keys (map own_member ms))
own_differ ms d = subst DifferInNames (sym (own_keys ms)) d

abbrev bare : MemberGiven → MemberEntry
bare m = record { target = m.target; traits = fin.empty }

own_has : (m : MemberGiven) (ms : List MemberGiven) → IsOneOf m ms → Has m.name (bare m) (map own_member ms)
own_has m [] h = absurd h
own_has m (n ∷ ns) (inl same) = inl (ap (λ (k : MemberGiven). k.name) same, ap bare same)
own_has m (n ∷ ns) (inr later) = inr (own_has m ns later)

all_once : (names : List (List ℕ)) → DifferInNames names → each_once names ≡ names
all_once names d = ap each_once (sym (append-nil names)) ∙ once_again names [] d (λ k never. absurd never)

pub record IsStatedOnce (ss : List Stated) (shapes : ShapeMap) (s : ShapeStated) : Type 0 where
  pub own : AreOwnShapes ss
  pub alone : shapes_under s.shape.id ss ≡ s ∷ []
  pub is : IsShapeId s.shape.id
  pub plain : s.mixins ≡ []
  pub is_in : IsShapeIn shapes s.shape
  pub differ : DifferInNames (given_names s.shape.members)

module _ (ss : List Stated) (shapes : ShapeMap) (s : ShapeStated) (h : IsStatedOnce ss shapes s) where
  given_there : (place : List ℕ) → shape_part place ≡ s.shape.id → flat_map (traits_at place) ss ≡ shape_traits_at place s.shape
  given_there place same =
      from_shape place ss h.own ∙ ap (λ k. given_by place (shapes_under k ss)) same ∙ ap (given_by place) h.alone
      ∙ append-nil (shape_traits_at place s.shape)

  pub values_of_shape : (t : List ℕ) → trait_values ss s.shape.id t ≡ values_under t (fin.entries h.is_in.traits)
  values_of_shape t =
      ap (values_under t) (given_there s.shape.id (of_shape s.shape.id h.is) ∙ own_traits s.shape ∙ h.is_in.same)

  pub values_of_member : (m : MemberGiven) → IsOneOf m s.shape.members → (i : IsMemberIn shapes s.shape.id m) → (t : List ℕ)
      → trait_values ss (member_id s.shape.id m.name) t ≡ values_under t (fin.entries i.traits)
  values_of_member m one i t =
      ap (values_under t) (given_there (member_id s.shape.id m.name) (of_member s.shape.id h.is m.name)
      ∙ member_traits s.shape h.is h.differ m one ∙ i.same)

  value_given : (place : List ℕ) (m : NodeMap) (t : List ℕ) (n : Node) → trait_values ss place t ≡ values_under t (fin.entries m)
      → (fin.get m t ≡ Some n) ↔ IsEffectiveValue ss place [] t n
  value_given place m t n same = (
    λ found. inl (subst (λ vs. IsValueOf vs n) (sym same) ((map_values m t n).0 found)),
    λ value. elim value [
      | inl given ↦ (map_values m t n).1 (subst (λ vs. IsValueOf vs n) same given)
      | inr copied ↦ absurd (none-some n copied.1)
    ],
  )

  each_member : (ms : List MemberGiven) (i : AreMembersIn shapes s.shape.id ms)
      → ((m : MemberGiven) → IsOneOf m ms → IsOneOf m s.shape.members)
      → AreEffectiveMembers ss s.shape.id [] (map own_member s.shape.members) (members_from shapes s.shape.id ms i)
  each_member [] i within = tt
  each_member (m ∷ ms) i within = (
    record {
      first = bare m;
      found = has_found m.name (bare m) (map own_member s.shape.members) (own_differ s.shape.members h.differ)
          (own_has m s.shape.members (within m (inl refl)));
      target = refl;
      traits = λ t n. value_given (member_id s.shape.id m.name) i.0.traits t n (values_of_member m (within m (inl refl)) i.0 t);
    },
    each_member ms i.1 (λ n later. within n (inr later)),
  )

  pub comes_to : IsEffective ss s.shape.id (shape_from shapes s.shape h.is_in)
  comes_to =
      effective s.shape.id (shape_from shapes s.shape h.is_in) s [] (ap (λ ts. slice_get ts 0) h.alone)
      (subst (λ mixins. AreCopied ss s mixins []) (sym h.plain) (no_mixins s))
      (record {
        names = names_from shapes s.shape.id s.shape.members h.is_in.members
            ∙ sym (ap each_once (own_keys s.shape.members) ∙ all_once (given_names s.shape.members) h.differ);
        members = each_member s.shape.members h.is_in.members (λ m one. one);
        traits = λ t n. value_given s.shape.id h.is_in.traits t n (values_of_shape t);
      })
