-- The members of a merged shape have the names of its type: statements have them, and a mixin is of the type of what mixes it in.
use Rattle.std.proofs.Common.{◌≡◌, ℕ, Bool, true, false, List, [], ◌∷◌, ◌++◌, map, filter, Some, None, refl, sym, ap, subst}
use Rattle.std.proofs.Common.{◌∙◌, append_assoc, append-nil, bytes_eq}
use Rattle.std.specs.Prelude.{◌&&◌, not, if◌then◌else◌}
use Rattle.std.specs.List.{cons_option, flat_map, slice_get}
use Rattle.std.proofs.lemmas.Option.{none-some, same_Some}
use Rattle.sm_model.specs.Formed.{AreFormed, DifferInNames, HaveForm, stated_names}
use Rattle.sm_model.specs.Given.{given_names}
use Rattle.sm_model.specs.Graphs.{Entry, MemberGiven}
use Rattle.sm_model.specs.Kinds.{MemberForm, none, exactly, any, member_form}
use Rattle.sm_model.specs.PreludeShapes.{is_prelude_id}
use Rattle.sm_model.specs.Said.{MemberSaid, Said, apply_said, metadata_said, shape_said}
use Rattle.sm_model.specs.declared.kind.Kind.{Kind}
use Rattle.sm_model.specs.declared.kind.Kind.TheVariants.{Blob, Boolean, Text, Enum, Byte, Short, Integer, IntEnum, Long, Float}
use Rattle.sm_model.specs.declared.kind.Kind.TheVariants.{Double, BigInteger, BigDecimal, Timestamp, Document, List as list_kind}
use Rattle.sm_model.specs.declared.kind.Kind.TheVariants.{Map, Structure, Union, Service, Operation, Resource}
use Rattle.sm_merge.specs.Meaning.{Defined}
use Rattle.sm_merge.specs.Merged.{IsMergedShape}
use Rattle.sm_merge.specs.Mixins.{AreCopied, EffectiveMembers, EffectiveShape, IsEffective, all_members, each_once, effective}
use Rattle.sm_merge.specs.Mixins.{member_copied, mixed_in, names_of, no_mixins, own_member, passed_over}
use Rattle.sm_merge.specs.Places.{shape_under, shapes_under}
use Rattle.sm_merge.specs.Stated.{AreFormedFiles, ShapeStated, Stated, all_said, defined_among, member_stated, shape_with_ids, stated}
use Rattle.sm_merge.specs.Stated.{stated_by}
use Rattle.sm_merge.proofs.EntryKeys.{keys_joined}

-- the names that a type asks for; where it asks for none in particular, they only differ
abbrev pub AreOf : MemberForm → List (List ℕ) → Type 0
AreOf none names = names ≡ []
AreOf (exactly wanted) names = names ≡ wanted
AreOf any names = Unit {0}

pub form_of : (form : MemberForm) (names : List (List ℕ)) → AreOf form names → DifferInNames names → HaveForm form names
form_of none names h differ = h
form_of (exactly wanted) names h differ = h
form_of any names h differ = differ

of_form : (form : MemberForm) (names : List (List ℕ)) → HaveForm form names → AreOf form names
of_form none names h = h
of_form (exactly wanted) names h = h
of_form any names h = tt

-- names in front of names that stand once each
abbrev in_front : List (List ℕ) → List (List ℕ) → List (List ℕ)
in_front [] names = names
in_front (k ∷ ks) names = k ∷ filter (λ other. not (bytes_eq k other)) (in_front ks names)

once_in_front : (ks js : List (List ℕ)) → each_once (ks ++ js) ≡ in_front ks (each_once js)
once_in_front [] js = refl
once_in_front (k ∷ ks) js = ap (λ names. k ∷ filter (λ other. not (bytes_eq k other)) names) (once_in_front ks js)

-- those of a type come to themselves, alone and in front of themselves
abbrev IsKeptForm : MemberForm → Type 0
IsKeptForm none = Unit {0}
IsKeptForm (exactly names) = (in_front names [] ≡ names) × (in_front names names ≡ names)
IsKeptForm any = Unit {0}

kept_form : (kind : Kind) → IsKeptForm (member_form kind)
kept_form list_kind = (refl, refl)
kept_form Map = (refl, refl)
kept_form Structure = tt
kept_form Union = tt
kept_form Enum = tt
kept_form IntEnum = tt
kept_form Blob = tt
kept_form Boolean = tt
kept_form Text = tt
kept_form Byte = tt
kept_form Short = tt
kept_form Integer = tt
kept_form Long = tt
kept_form Float = tt
kept_form Double = tt
kept_form BigInteger = tt
kept_form BigDecimal = tt
kept_form Timestamp = tt
kept_form Document = tt
kept_form Service = tt
kept_form Operation = tt
kept_form Resource = tt

-- all members of a shape: those of its mixins, and its own
abbrev mixed_names : List EffectiveShape → List MemberGiven → List (List ℕ)
mixed_names copied own = names_of (all_members copied own)

own_named : (own : List MemberGiven) → names_of (map own_member own) ≡ given_names own
own_named [] = refl
own_named (m ∷ ms) = ap (λ names. m.name ∷ names) (own_named ms)

mixin_first : (m : EffectiveShape) (copied : List EffectiveShape) (own : List MemberGiven)
    → mixed_names (m ∷ copied) own ≡ names_of m.members ++ mixed_names copied own
mixin_first m copied own =
    ap names_of (append_assoc m.members (flat_map (λ e. e.members) copied) (map own_member own))
    ∙ keys_joined m.members (all_members copied own)

same_copied : (ms : EffectiveMembers) → names_of ms ≡ names_of (map (λ e. (e.0, member_copied e.1)) ms)
same_copied [] = refl
same_copied (m ∷ ms) = ap (λ names. m.0 ∷ names) (same_copied ms)

abbrev AllAreOf : MemberForm → List EffectiveShape → Type 0
AllAreOf form [] = Unit {0}
AllAreOf form (m ∷ ms) = AreOf form (names_of m.members) × AllAreOf form ms

-- they are those of the type, each once
module _ (form : MemberForm) (wanted : List (List ℕ)) (same : (names : List (List ℕ)) → AreOf form names → names ≡ wanted)
    (alone : in_front wanted [] ≡ wanted) (again : in_front wanted wanted ≡ wanted) where
  wanted_once : (copied : List EffectiveShape) (own : List MemberGiven) → AllAreOf form copied → given_names own ≡ wanted
      → each_once (mixed_names copied own) ≡ wanted
  wanted_once [] own h is =
      ap each_once (own_named own ∙ is ∙ sym (append-nil wanted)) ∙ once_in_front wanted [] ∙ alone
  wanted_once (m ∷ copied) own h is =
      ap each_once (mixin_first m copied own ∙ ap (λ l. l ++ mixed_names copied own) (same (names_of m.members) h.0))
      ∙ once_in_front wanted (mixed_names copied own) ∙ ap (in_front wanted) (wanted_once copied own h.1 is) ∙ again

mixed_are : (form : MemberForm) → IsKeptForm form → (copied : List EffectiveShape) (own : List MemberGiven) → AllAreOf form copied
    → AreOf form (given_names own) → AreOf form (each_once (mixed_names copied own))
mixed_are none kept copied own h is = wanted_once none [] (λ names e. e) refl refl copied own h is
mixed_are (exactly wanted) kept copied own h is = wanted_once (exactly wanted) wanted (λ names e. e) kept.0 kept.1 copied own h is
mixed_are any kept copied own h is = tt

abbrev IsOfType : ShapeStated → Type 0
IsOfType s = AreOf (member_form s.shape.kind) (given_names s.shape.members)

abbrev AllOfType : List Stated → Type 0
AllOfType ss = (id : List ℕ) (s : ShapeStated) → shape_under id ss ≡ Some s → IsOfType s

mutual
  effective_are : (ss : List Stated) → AllOfType ss → (id : List ℕ) (m : EffectiveShape) → IsEffective ss id m → (s : ShapeStated)
      → shape_under id ss ≡ Some s → AreOf (member_form s.shape.kind) (names_of m.members)
  effective_are ss all id m (effective i n t copied there from made) s at =
      let same : Path ShapeStated t s = same_Some t s (sym there ∙ at) in
      subst (λ u. AreOf (member_form u.shape.kind) (names_of m.members)) same
      (subst (AreOf (member_form t.shape.kind)) (sym made.names)
      (mixed_are (member_form t.shape.kind) (kept_form t.shape.kind) copied t.shape.members (copies_are ss all t t.mixins copied from)
      (all id t there)))

  copies_are : (ss : List Stated) → AllOfType ss → (s : ShapeStated) (mixins : List (List ℕ)) (copied : List EffectiveShape)
      → AreCopied ss s mixins copied → AllAreOf (member_form s.shape.kind) copied
  copies_are ss all s mixins copied (no_mixins a) = tt
  copies_are ss all s mixins copied (mixed_in a mixin more c m rest is behind) = (
    subst (AreOf (member_form s.shape.kind)) (same_copied m.members)
        (subst (λ k. AreOf (member_form k) (names_of m.members)) c.kind (effective_are ss all mixin m is c.found c.there)),
    copies_are ss all s more rest behind,
  )
  copies_are ss all s mixins copied (passed_over a mixin more rest never behind) = copies_are ss all s more rest behind

-- statements of formed files
module _ (defined : Defined) where
  stated_kept : (ms : List MemberSaid) → stated_names ms ≡ given_names (map (member_stated defined) ms)
  stated_kept [] = refl
  stated_kept (m ∷ ms) = ap (λ names. m.name ∷ names) (stated_kept ms)

  module _ (id : List ℕ) where
    stated_of : (ss : List Said) → AreFormed ss → (s : ShapeStated) → shape_under id (map (stated defined) ss) ≡ Some s → IsOfType s
    stated_of [] h s there = absurd (none-some s there)
    stated_of (metadata_said key value ∷ ss) h s there = stated_of ss h.1 s there
    stated_of (shape_said t ∷ ss) h s there =
        by_test (λ rest. stated_of ss h.1 s rest) (bytes_eq t.id id && not (is_prelude_id id)) there
      where
        by_test : (shape_under id (map (stated defined) ss) ≡ Some s → IsOfType s) → (b : Bool)
            → slice_get (cons_option (if b then Some (shape_with_ids defined t) else None) (shapes_under id (map (stated defined) ss))) 0
            ≡ Some s → IsOfType s
        by_test later true at =
            subst IsOfType (same_Some (shape_with_ids defined t) s at)
            (of_form (member_form t.kind) (given_names (map (member_stated defined) t.members))
            (subst (HaveForm (member_form t.kind)) (stated_kept t.members) h.0.names))
        by_test later false at = later at
    stated_of (apply_said target traits ∷ ss) h s there = stated_of ss h.1 s there

formed_joined : (ss more : List Said) → AreFormed ss → AreFormed more → AreFormed (ss ++ more)
formed_joined [] more h rest = rest
formed_joined (s ∷ ss) more h rest = (h.0, formed_joined ss more h.1 rest)

all_formed : (files : List (List Said)) → AreFormedFiles files → AreFormed (all_said files)
all_formed [] h = tt
all_formed (file ∷ files) h = formed_joined file (all_said files) h.0 (all_formed files h.1)

pub merged_names : (files : List (List Said)) → AreFormedFiles files → (id : List ℕ) (e : Entry)
    → (h : IsMergedShape (stated_by files) id e) → AreOf (member_form h.s.shape.kind) (names_of h.m.members)
merged_names files formed id e h =
    effective_are (stated_by files)
    (λ k s there. stated_of (defined_among (all_said files)) k (all_said files) (all_formed files formed) s there) id h.m h.is_effective h.s
    h.there
