-- What a shape comes to with its mixins is what a graph may be made of, as its own members are and those of its mixins.
use Rattle.std.proofs.Common.{◌≡◌, inl, inr, ℕ, Bool, true, false, cond, List, [], ◌∷◌, ◌++◌, map, Option, Some, None, refl, sym, ap}
use Rattle.std.proofs.Common.{subst, ◌∙◌, append_assoc, append-nil}
use Rattle.std.specs.List.{flat_map}
use Rattle.std.specs.Option.{option_or}
use Rattle.std.specs.FinMap as fin
use Rattle.std.specs.FinMap.{get-remove, get-retain_keys, slice_cmp-IsAntisymmetric, nat_cmp-IsAntisymmetric}
use Rattle.std.specs.Cmp.Lexicographic.{nat_list_cmp_total}
use Rattle.std.specs.Ordering.{eq_by_cmp}
use Rattle.std.proofs.lemmas.Option.{none-some, same_Some}
use Rattle.sm_ids.specs.Identifier.{IsIdentifier}
use Rattle.sm_ids.specs.IdText.{IsIdText}
use Rattle.sm_tree.specs.Node.{Node}
use Rattle.sm_tree.specs.Same.{IsNode}
use Rattle.sm_model.specs.Formed.{StandsAmong, HaveForm}
use Rattle.sm_model.specs.Given.{given_names}
use Rattle.sm_model.specs.Graphs.{MemberEntry, MemberGiven, NodeMap, member_id, text_cmp}
use Rattle.sm_model.specs.Kinds.{MemberForm, none, exactly, any, member_form}
use Rattle.sm_model.specs.declared.kind.Kind.{Kind}
use Rattle.sm_model.proofs.MapFacts.{Each, each_joined}
use Rattle.sm_merge.specs.Mixins.{AreCopied, AreEffectiveMembers, EffectiveMembers, EffectiveShape, IsEffective}
use Rattle.sm_merge.specs.Mixins.{IsEffectiveValue, IsMadeFrom, all_members, copy_of, each_once, effective, is_copied, last_there}
use Rattle.sm_merge.specs.Mixins.{member_copied, member_value, member_values, mixed_in, mixin_trait, names_of, no_mixins, own_member}
use Rattle.sm_merge.specs.Mixins.{passed_over, shape_values}
use Rattle.sm_merge.specs.Places.{shape_under, trait_values}
use Rattle.sm_merge.specs.Stated.{ShapeStated, Stated}
use Rattle.sm_merge.specs.Values.{IsValueOf}
use Rattle.sm_merge.proofs.EntriesFound.{found_has, has_each}
use Rattle.sm_merge.proofs.EntryKeys.{IsFineForm, fine_form}
use Rattle.sm_merge.proofs.NamesOnce.{once_again, once_differ, stands_either}
use Rattle.sm_merge.specs.steps.SoundStated.{AreNamedTargets, AreSoundStated, IsSoundShape}
use Rattle.sm_merge.proofs.StatedSound.{sound_under}

-- all values of a map are nodes
abbrev pub HoldsNodes : NodeMap → Type 0
HoldsNodes m = (t : List ℕ) (n : Node) → fin.get m t ≡ Some n → IsNode n

-- a name with a target, and with traits
abbrev pub IsNamedTarget : List ℕ → MemberEntry → Type 0
IsNamedTarget name e = IsIdentifier name × IsIdText e.target

abbrev pub IsSoundMember : List ℕ → MemberEntry → Type 0
IsSoundMember name e = IsNamedTarget name e × HoldsNodes e.traits

pub record IsSoundEffective (kind : Kind) (m : EffectiveShape) : Type 0 where
  pub names : HaveForm (member_form kind) (names_of m.members)
  pub members : Each IsSoundMember m.members
  pub traits : HoldsNodes m.traits

abbrev AreSoundCopies : Kind → List EffectiveShape → Type 0
AreSoundCopies kind [] = Unit {0}
AreSoundCopies kind (m ∷ ms) = IsSoundEffective kind m × AreSoundCopies kind ms

-- what is copied
pub some_of : (b : Bool) (o : Option Node) (n : Node) → cond b o None ≡ Some n → o ≡ Some n
some_of true o n h = h
some_of false o n h = absurd (none-some n h)

pub some_left : (b : Bool) (o : Option Node) (n : Node) → cond b None o ≡ Some n → o ≡ Some n
some_left true o n h = absurd (none-some n h)
some_left false o n h = h

copied_names : (ms : EffectiveMembers) → names_of ms ≡ names_of (map (λ e. (e.0, member_copied e.1)) ms)
copied_names [] = refl
copied_names (m ∷ ms) = ap (λ names. m.0 ∷ names) (copied_names ms)

copied_members : (ms : EffectiveMembers) → Each IsSoundMember ms → Each IsSoundMember (map (λ e. (e.0, member_copied e.1)) ms)
copied_members [] h = tt
copied_members (m ∷ ms) h = (
  (
    h.0.0,
    λ t n found. h.0.1 t n (some_left (eq_by_cmp text_cmp t mixin_trait) (fin.get m.1.traits t) n
        (sym (get-remove nat_list_cmp_total m.1.traits mixin_trait t) ∙ found)),
  ),
  copied_members ms h.1,
)

copy_sound : (kind : Kind) (value : Node) (m : EffectiveShape) → IsSoundEffective kind m → IsSoundEffective kind (copy_of value m)
copy_sound kind value m h = record {
  names = subst (HaveForm (member_form kind)) (copied_names m.members) h.names;
  members = copied_members m.members h.members;
  traits = λ t n found. h.traits t n (some_of (is_copied value t) (fin.get m.traits t) n
      (sym (get-retain_keys m.traits (is_copied value) t
      (λ x tied. ap (is_copied value) (sym (slice_cmp-IsAntisymmetric nat_cmp-IsAntisymmetric t x tied)))) ∙ found));
}

-- names of all members
names_joined : (ms ns : EffectiveMembers) → names_of (ms ++ ns) ≡ names_of ms ++ names_of ns
names_joined [] ns = refl
names_joined (m ∷ ms) ns = ap (λ names. m.0 ∷ names) (names_joined ms ns)

own_names : (own : List MemberGiven) → names_of (map own_member own) ≡ given_names own
own_names [] = refl
own_names (m ∷ ms) = ap (λ names. m.name ∷ names) (own_names ms)

abbrev mixed_names : List EffectiveShape → List MemberGiven → List (List ℕ)
mixed_names copied own = names_of (all_members copied own)

first_mixed : (m : EffectiveShape) (copied : List EffectiveShape) (own : List MemberGiven)
    → mixed_names (m ∷ copied) own ≡ names_of m.members ++ mixed_names copied own
first_mixed m copied own =
    ap names_of (append_assoc m.members (flat_map (λ e. e.members) copied) (map own_member own))
    ∙ names_joined m.members (all_members copied own)

none_first : (ks js : List (List ℕ)) → ks ≡ [] → ks ++ js ≡ js
none_first ks js h = ap (λ l. l ++ js) h

-- a list of names of a form, and behind it others
abbrev AllHaveForm : MemberForm → List EffectiveShape → Type 0
AllHaveForm form [] = Unit {0}
AllHaveForm form (m ∷ ms) = HaveForm form (names_of m.members) × AllHaveForm form ms

forms_of : (kind : Kind) (ms : List EffectiveShape) → AreSoundCopies kind ms → AllHaveForm (member_form kind) ms
forms_of kind [] h = tt
forms_of kind (m ∷ ms) h = (h.0.names, forms_of kind ms h.1)

no_names : (copied : List EffectiveShape) (own : List MemberGiven) → AllHaveForm none copied → given_names own ≡ []
    → mixed_names copied own ≡ []
no_names [] own h is = own_names own ∙ is
no_names (m ∷ copied) own h is =
    first_mixed m copied own ∙ none_first (names_of m.members) (mixed_names copied own) h.0 ∙ no_names copied own h.1 is

among_wanted : (wanted : List (List ℕ)) (copied : List EffectiveShape) (own : List MemberGiven) → AllHaveForm (exactly wanted) copied
    → given_names own ≡ wanted → (k : List ℕ) → StandsAmong k (mixed_names copied own) → StandsAmong k wanted
among_wanted wanted [] own h is k s = subst (StandsAmong k) (own_names own ∙ is) s
among_wanted wanted (m ∷ copied) own h is k s =
    elim (stands_either k (names_of m.members) (mixed_names copied own) (subst (StandsAmong k) (first_mixed m copied own) s)) [
      | inl here ↦ subst (StandsAmong k) h.0 here
      | inr later ↦ among_wanted wanted copied own h.1 is k later
    ]

all_wanted : (wanted : List (List ℕ)) → IsFineForm (exactly wanted) → (copied : List EffectiveShape) (own : List MemberGiven)
    → AllHaveForm (exactly wanted) copied → given_names own ≡ wanted → each_once (mixed_names copied own) ≡ wanted
all_wanted wanted fine [] own h is =
    ap each_once (own_names own ∙ is ∙ sym (append-nil wanted)) ∙ once_again wanted [] fine (λ k never. absurd never)
all_wanted wanted fine (m ∷ copied) own h is =
    ap each_once (first_mixed m copied own ∙ ap (λ l. l ++ mixed_names copied own) h.0)
    ∙ once_again wanted (mixed_names copied own) fine (among_wanted wanted copied own h.1 is)

form_once : (form : MemberForm) → IsFineForm form → (copied : List EffectiveShape) (own : List MemberGiven) → AllHaveForm form copied
    → HaveForm form (given_names own) → HaveForm form (each_once (mixed_names copied own))
form_once none fine copied own h is = ap each_once (no_names copied own h is)
form_once (exactly wanted) fine copied own h is = all_wanted wanted fine copied own h is
form_once any fine copied own h is = once_differ (mixed_names copied own)

-- all members are names with targets
targets_of : (ms : EffectiveMembers) → Each IsSoundMember ms → Each IsNamedTarget ms
targets_of [] h = tt
targets_of (m ∷ ms) h = (h.0.0, targets_of ms h.1)

own_targets : (own : List MemberGiven) → AreNamedTargets own → Each IsNamedTarget (map own_member own)
own_targets [] h = tt
own_targets (m ∷ ms) h = ((h.0, h.1), own_targets ms h.2)

all_targets : (kind : Kind) (copied : List EffectiveShape) (own : List MemberGiven) → AreSoundCopies kind copied → AreNamedTargets own
    → Each IsNamedTarget (all_members copied own)
all_targets kind [] own h is = own_targets own is
all_targets kind (m ∷ copied) own h is =
    subst (Each IsNamedTarget) (sym (append_assoc m.members (flat_map (λ e. e.members) copied) (map own_member own)))
    (each_joined IsNamedTarget m.members (all_members copied own) (targets_of m.members h.0.members) (all_targets kind copied own h.1 is))

-- a value that a copy has is a node
shape_value : (kind : Kind) (copied : List EffectiveShape) → AreSoundCopies kind copied → (t : List ℕ) (n : Node)
    → last_there (shape_values copied t) ≡ Some n → IsNode n
shape_value kind [] h t n is = absurd (none-some n is)
shape_value kind (m ∷ copied) h t n is =
    by_rest (λ rest. shape_value kind copied h.1 t n rest) (last_there (shape_values copied t)) refl is
  where
    by_rest : (last_there (shape_values copied t) ≡ Some n → IsNode n) → (o : Option Node) → last_there (shape_values copied t) ≡ o
        → option_or o (fin.get m.traits t) ≡ Some n → IsNode n
    by_rest later None same found = h.0.traits t n found
    by_rest later (Some x) same found = later (same ∙ found)

found_value : (member : List ℕ) (ms : EffectiveMembers) → Each IsSoundMember ms → (t : List ℕ) (n : Node)
    → member_value t (fin.find text_cmp member ms) ≡ Some n → IsNode n
found_value member ms h t n is = by_found (fin.find text_cmp member ms) refl is
  where
    by_found : (o : Option MemberEntry) → fin.find text_cmp member ms ≡ o → member_value t o ≡ Some n → IsNode n
    by_found None same found = absurd (none-some n found)
    by_found (Some e) same found = (has_each IsSoundMember member e ms h (found_has member e ms same)).1 t n found

member_node : (kind : Kind) (copied : List EffectiveShape) → AreSoundCopies kind copied → (member t : List ℕ) (n : Node)
    → last_there (member_values copied member t) ≡ Some n → IsNode n
member_node kind [] h member t n is = absurd (none-some n is)
member_node kind (m ∷ copied) h member t n is =
    by_rest (λ rest. member_node kind copied h.1 member t n rest) (last_there (member_values copied member t)) refl is
  where
    by_rest : (last_there (member_values copied member t) ≡ Some n → IsNode n) → (o : Option Node)
        → last_there (member_values copied member t) ≡ o
        → option_or o (member_value t (fin.find text_cmp member m.members)) ≡ Some n → IsNode n
    by_rest later None same found = found_value member m.members h.0.members t n found
    by_rest later (Some x) same found = later (same ∙ found)

-- values that are given are nodes
abbrev pub GivesNodes : List Stated → Type 0
GivesNodes ss = (place name : List ℕ) (n : Node) → IsValueOf (trait_values ss place name) n → IsNode n

value_node : (ss : List Stated) → GivesNodes ss → (place : List ℕ) (copied : List (Option Node)) (name : List ℕ) (n : Node)
    → (last_there copied ≡ Some n → IsNode n) → IsEffectiveValue ss place copied name n → IsNode n
value_node ss given place copied name n last (inl direct) = given place name n direct
value_node ss given place copied name n last (inr (none_given, is)) = last is

module _ (ss : List Stated) (given : GivesNodes ss) where
  members_sound : (kind : Kind) (id : List ℕ) (copied : List EffectiveShape) (all : EffectiveMembers) → AreSoundCopies kind copied
      → Each IsNamedTarget all → (ms : EffectiveMembers) → AreEffectiveMembers ss id copied all ms → Each IsSoundMember ms
  members_sound kind id copied all h targets [] are = tt
  members_sound kind id copied all h targets (m ∷ ms) are =
      let first = are.0 in
      let named = has_each IsNamedTarget m.0 first.first all targets (found_has m.0 first.first all first.found) in (
        (
          (named.0, subst IsIdText (sym first.target) named.1),
          λ t n found. value_node ss given (member_id id m.0) (member_values copied m.0 t) t n (member_node kind copied h m.0 t n)
              ((first.traits t n).0 found),
        ),
        members_sound kind id copied all h targets ms are.1,
      )

  made_sound : (id : List ℕ) (s : ShapeStated) (copied : List EffectiveShape) (m : EffectiveShape) → AreSoundCopies s.shape.kind copied
      → IsSoundShape s.shape → IsMadeFrom ss id s copied m → IsSoundEffective s.shape.kind m
  made_sound id s copied m h sound made = record {
    names = subst (HaveForm (member_form s.shape.kind)) (sym made.names)
        (form_once (member_form s.shape.kind) (fine_form s.shape.kind) copied s.shape.members
        (forms_of s.shape.kind copied h) sound.names);
    members = members_sound s.shape.kind id copied (all_members copied s.shape.members) h
        (all_targets s.shape.kind copied s.shape.members h sound.members) m.members made.members;
    traits = λ t n found. value_node ss given id (shape_values copied t) t n (shape_value s.shape.kind copied h t n)
        ((made.traits t n).0 found);
  }

mutual
  pub effective_sound : (ss : List Stated) → GivesNodes ss → AreSoundStated ss → (id : List ℕ) (m : EffectiveShape) → IsEffective ss id m
      → (s : ShapeStated) → shape_under id ss ≡ Some s → IsSoundEffective s.shape.kind m
  effective_sound ss given sound id m (effective i n t copied there from made) s at =
      let same : Path ShapeStated t s = same_Some t s (sym there ∙ at) in
      subst (λ u. IsSoundEffective u.shape.kind m) same
      (made_sound ss given id t copied m (copies_sound ss given sound t t.mixins copied from) (sound_under id ss t sound there).shape made)

  copies_sound : (ss : List Stated) → GivesNodes ss → AreSoundStated ss → (s : ShapeStated) (mixins : List (List ℕ))
      (copied : List EffectiveShape) → AreCopied ss s mixins copied → AreSoundCopies s.shape.kind copied
  copies_sound ss given sound s mixins copied (no_mixins a) = tt
  copies_sound ss given sound s mixins copied (mixed_in a mixin more c m rest is behind) =
      let kind = s.shape.kind in (
        copy_sound kind c.mixin_value m
            (subst (λ k. IsSoundEffective k m) c.kind (effective_sound ss given sound mixin m is c.found c.there)),
        copies_sound ss given sound s more rest behind,
      )
  copies_sound ss given sound s mixins copied (passed_over a mixin more rest never behind) = copies_sound ss given sound s more rest behind
