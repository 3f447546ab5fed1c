-- Shapes, sections and files of a text that is UTF-8 are as merging asks for them.
use Rattle.std.proofs.Common.{◌≡◌, ℕ, inl, inr, Bool, true, false, cond, true≢false, List, [], ◌∷◌, ◌++◌, Option, Some, None, codes}
use Rattle.std.proofs.Common.{refl, sym}
use Rattle.std.proofs.Common.{ap, subst, ◌∙◌}
use Rattle.std.specs.Prelude.{IsUtf8}
use Rattle.std.specs.List.{filter, flat_map}
use Rattle.sm_ids.specs.Identifier.{IsIdentifier, IsNamespace}
use Rattle.sm_tree.specs.Limits.{most_levels}
use Rattle.sm_model.specs.Formed.{DifferInNames, HaveForm, AreProperties, AreTraits, IsFormed, AreFormed, IsRaw}
use Rattle.sm_model.specs.Kinds.{any, member_form}
use Rattle.sm_model.specs.Properties.{operation_fields, property_forms}
use Rattle.sm_model.specs.References.{AreReferences, AreIds}
use Rattle.sm_model.specs.Said.{TraitSaid, MemberSaid, Said}
use Rattle.sm_model.specs.declared.kind.Kind.{Kind}
use Rattle.sm_model.specs.declared.kind.Kind.TheVariants.{Blob, Boolean, Text, Enum, Byte, Short, Integer, IntEnum, Long, Float}
use Rattle.sm_model.specs.declared.kind.Kind.TheVariants.{Double, BigInteger}
use Rattle.sm_model.specs.declared.kind.Kind.TheVariants.{BigDecimal, Timestamp, Document, List as list_kind, Map, Structure, Union}
use Rattle.sm_model.specs.declared.kind.Kind.TheVariants.{Service, Operation, Resource}
use Rattle.sm_idl.specs.Productions.{Tokens, spaced, Production, each, many}
use Rattle.sm_idl.specs.Words.{IsNew, IsWordId, word_that, identifier, key}
use Rattle.sm_idl.specs.Nodes.{Home, Pair, pair_names, node}
use Rattle.sm_idl.specs.Traits.{traits, apply}
use Rattle.sm_idl.specs.Members.{enum_member, member, field, members, mixins}
use Rattle.sm_idl.specs.Bodies.{Suffixes, suffixes, PartSaid, part_names, part, property}
use Rattle.sm_idl.specs.Shapes.{type_word, BodySaid, simple_body, members_body, part_pairs, operation_body, pairs_body, body}
use Rattle.sm_idl.specs.Shapes.{shape_with}
use Rattle.sm_idl.specs.Shapes.{shape, apply_item, item}
use Rattle.sm_idl.specs.Idl.{control, metadata, used, is_absolute, home_of, SectionSaid, items, section, FileSaid, section_home}
use Rattle.sm_idl.specs.Idl.{section_said}
use Rattle.sm_idl.specs.Idl.{metadata_statements, file}
use Rattle.sm_idl.specs.Laws.{FormedStatements}
use Rattle.sm_idl.proofs.FirmFiles.{control_firm, metadata_firm}
use Rattle.sm_idl.proofs.FirmShort.{row_firm}
use Rattle.sm_idl.proofs.UsedWords.{relative_not_absolute}
use Rattle.sm_idl.proofs.Yields.{AreFine, fine_behind, tokens_fine, Yields, IfThere, Each, each_more, yields_one, yields_gives}
use Rattle.sm_idl.proofs.Yields.{yields_both, yields_or}
use Rattle.sm_idl.proofs.Yields.{yields_maybe, yields_each, yields_many, yields_word, yields_marked, yields_worded, yields_given}
use Rattle.sm_idl.proofs.YieldNodes.{IsHome, shape_id, IsRawPair, key_yields, node_yields, traits_yields, traits_joined, documented_yields}
use Rattle.sm_idl.proofs.YieldNodes.{braced_yields, apply_yields}
use Rattle.sm_idl.proofs.YieldMembers.{IsNext, HasForm, MayHave, enum_yields, plain_yields, field_yields, members_yields, mixins_yields}
use Rattle.sm_idl.proofs.YieldBodies.{IsField, property_yields, are_properties, no_properties, AreParts, no_parts, part_yields}

-- what a shape of the type has beside its id and its traits
pub record IsBody (kind : Kind) (b : BodySaid) : Type 0 where
  pub members : HasForm (member_form kind) b.members
  pub mixins : AreReferences b.mixins
  pub properties : AreProperties (property_forms kind) b.properties
  pub defined : AreFormed b.defined

simple_yields : (home : Home) (kind : Kind) → IsHome home → HaveForm (member_form kind) [] → Yields (simple_body home) (IsBody kind)
simple_yields home kind h form =
    yields_given (mixins home) _ AreReferences (IsBody kind) (mixins_yields home h) (λ mixed are.
    record { members = (tt, form); mixins = are; properties = no_properties (property_forms kind); defined = tt })

members_body_yields : (home : Home) (kind : Kind) (p : List MemberSaid → Production MemberSaid) → IsHome home → MayHave (member_form kind)
    → ((before : List MemberSaid) → Yields (p before) (IsNext before)) → Yields (members_body home (member_form kind) p) (IsBody kind)
members_body_yields home kind p h may each_one =
    yields_both (mixins home) _ AreReferences (IsBody kind) (mixins_yields home h) (λ mixed are.
    yields_given (members (member_form kind) p) _ (HasForm (member_form kind)) (IsBody kind)
    (members_yields (member_form kind) p may each_one) (λ ms form.
    record { members = form; mixins = are; properties = no_properties (property_forms kind); defined = tt }))

-- operations, services and resources
pairs_same : (ps : List PartSaid) → pair_names (part_pairs ps) ≡ part_names ps
pairs_same [] = refl
pairs_same (p ∷ ps) = ap (λ l. p.name ∷ l) (pairs_same ps)

pairs_fields : (ps : List PartSaid) → Each (λ p. IsField operation_fields (p.name, p.value)) ps
    → Each (IsField operation_fields) (part_pairs ps)
pairs_fields [] h = tt
pairs_fields (p ∷ ps) h = (h.0, pairs_fields ps h.1)

pub formed_joined : (ss us : List Said) → AreFormed ss → AreFormed us → AreFormed (ss ++ us)
formed_joined [] us h k = k
formed_joined (s ∷ ss) us h k = (h.0, formed_joined ss us h.1 k)

parts_defined : (ps : List PartSaid) → Each (λ p. AreFormed p.defined) ps → AreFormed (flat_map (λ p. p.defined) ps)
parts_defined [] h = tt
parts_defined (p ∷ ps) h = formed_joined p.defined (flat_map (λ q. q.defined) ps) h.0 (parts_defined ps h.1)

operation_yields : (home : Home) (endings : Suffixes) (name : List ℕ) → IsHome home
    → Yields (operation_body home endings name) (IsBody Operation)
operation_yields home endings name h =
    yields_marked (codes "{") _ (IsBody Operation) (λ _.
    yields_both (each (part home endings name)) _ AreParts (IsBody Operation)
    (yields_each (part home endings name) AreParts (part_yields home endings name h) [] no_parts) (λ ps are.
    yields_marked (codes "}") _ (IsBody Operation) (λ _.
    yields_gives _ (IsBody Operation) (record {
      members = (tt, refl);
      mixins = tt;
      properties = are_properties operation_fields (part_pairs ps)
          (subst DifferInNames (sym (pairs_same ps)) are.differ, pairs_fields ps are.fields);
      defined = parts_defined ps are.defined;
    }))))

pairs_yields : (home : Home) (kind : Kind) → IsHome home → HaveForm (member_form kind) [] → Yields (pairs_body home kind) (IsBody kind)
pairs_yields home kind h form =
    yields_given _ _ (AreProperties (property_forms kind)) (IsBody kind)
    (braced_yields (property home (property_forms kind)) (IsField (property_forms kind)) (AreProperties (property_forms kind))
    (property_yields home (property_forms kind) h) (are_properties (property_forms kind))) (λ properties are.
    record { members = (tt, form); mixins = tt; properties = are; defined = tt })

body_yields : (home : Home) (endings : Suffixes) (kind : Kind) (name : List ℕ) → IsHome home
    → Yields (body home endings kind name) (IsBody kind)
body_yields home endings Blob name h = simple_yields home Blob h refl
body_yields home endings Boolean name h = simple_yields home Boolean h refl
body_yields home endings Text name h = simple_yields home Text h refl
body_yields home endings Byte name h = simple_yields home Byte h refl
body_yields home endings Short name h = simple_yields home Short h refl
body_yields home endings Integer name h = simple_yields home Integer h refl
body_yields home endings Long name h = simple_yields home Long h refl
body_yields home endings Float name h = simple_yields home Float h refl
body_yields home endings Double name h = simple_yields home Double h refl
body_yields home endings BigInteger name h = simple_yields home BigInteger h refl
body_yields home endings BigDecimal name h = simple_yields home BigDecimal h refl
body_yields home endings Timestamp name h = simple_yields home Timestamp h refl
body_yields home endings Document name h = simple_yields home Document h refl
body_yields home endings Enum name h = members_body_yields home Enum (enum_member home) h tt (enum_yields home h)
body_yields home endings IntEnum name h = members_body_yields home IntEnum (enum_member home) h tt (enum_yields home h)
body_yields home endings list_kind name h =
    members_body_yields home list_kind (member home (member_form list_kind)) h tt (plain_yields home (member_form list_kind) h)
body_yields home endings Map name h = members_body_yields home Map (member home (member_form Map)) h tt (plain_yields home
    (member_form Map) h)
body_yields home endings Union name h = members_body_yields home Union (member home any) h tt (plain_yields home any h)
body_yields home endings Structure name h = members_body_yields home Structure (field home) h tt (field_yields home h)
body_yields home endings Operation name h = operation_yields home endings name h
body_yields home endings Service name h = pairs_yields home Service h refl
body_yields home endings Resource name h = pairs_yields home Resource h refl

-- shapes and items
type_yields : Yields type_word (λ _. Unit {0})
type_yields = yields_one _ _ (λ t x fine says. tt)

shape_with_yields : (home : Home) (endings : Suffixes) (docs : List TraitSaid) → IsHome home → AreTraits docs
    → Yields (shape_with home endings docs) AreFormed
shape_with_yields home endings docs h d =
    yields_both (traits home) _ AreTraits AreFormed (traits_yields home h) (λ ts are.
    yields_both type_word _ (λ _. Unit {0}) AreFormed type_yields (λ kind _.
    yields_both identifier _ IsIdentifier AreFormed (yields_word IsIdentifier) (λ name is.
    yields_given (body home endings kind name) _ (IsBody kind) AreFormed (body_yields home endings kind name h) (λ b has. (
      record {
        id = shape_id home.namespace name h.0 is;
        names = has.members.1;
        members = has.members.0;
        mixins = has.mixins;
        properties = has.properties;
        traits = traits_joined docs ts d are;
      },
      has.defined,
    )))))

item_yields : (home : Home) (endings : Suffixes) → IsHome home → Yields (item home endings) AreFormed
item_yields home endings h =
    yields_or (shape home endings) (apply_item home) AreFormed
    (documented_yields (shape_with home endings) AreFormed (λ docs d. shape_with_yields home endings docs h d))
    (yields_given (apply home) (λ said. said ∷ []) IsFormed AreFormed (apply_yields home h) (λ said is. (is, tt)))

all_joined : (sss : List (List Said)) → Each AreFormed sss → AreFormed (flat_map (λ ss. ss) sss)
all_joined [] h = tt
all_joined (ss ∷ sss) h = formed_joined ss (flat_map (λ us. us) sss) h.0 (all_joined sss h.1)

-- sections
pub record IsSection (s : SectionSaid) : Type 0 where
  pub home : IsHome s.home
  pub said : AreFormed s.said

items_yields : (home : Home) (endings : Suffixes) → IsHome home → Yields (items home endings) IsSection
items_yields home endings h =
    yields_given (many (item home endings)) _ (Each AreFormed) IsSection
    (yields_many (item home endings) AreFormed (item_yields home endings h)) (λ said are. record { home = h; said = all_joined said are })

kept_used : (w : List ℕ) (ws : List (List ℕ)) (b : Bool) → is_absolute w ≡ b → IsWordId w → AreIds ws → AreIds (cond b (w ∷ ws) ws)
kept_used w ws true e (inl k) h = (k, h)
kept_used w ws true e (inr k) h = absurd (true≢false (sym e ∙ relative_not_absolute w k))
kept_used w ws false e k h = h

used_ids : (ws : List (List ℕ)) → Each IsWordId ws → AreIds (filter is_absolute ws)
used_ids [] h = tt
used_ids (w ∷ ws) h = kept_used w (filter is_absolute ws) (is_absolute w) refl h.0 (used_ids ws h.1)

section_yields : (endings : Suffixes) → Yields (section endings) IsSection
section_yields endings =
    yields_worded (codes "namespace") _ IsSection (λ _.
    yields_both (word_that IsNamespace) _ IsNamespace IsSection (yields_word IsNamespace) (λ namespace is.
    yields_both (many used) _ (Each IsWordId) IsSection
    (yields_many used IsWordId (yields_worded (codes "use") _ IsWordId (λ _. yields_word IsWordId))) (λ ws are.
    items_yields (home_of namespace ws) endings (is, used_ids ws are))))

-- metadata
metadata_yields : (home : Option Home) → IfThere IsHome home → (before : List Pair) → Each IsRawPair before
    → Yields (metadata home before) (λ p. Each IsRawPair (before ++ p ∷ []))
metadata_yields home h before are =
    yields_worded (codes "metadata") _ _ (λ _.
    yields_both (key (pair_names before)) _ (λ k. IsUtf8 k × IsNew k (pair_names before)) _ (key_yields (pair_names before)) (λ k is.
    yields_marked (codes "=") _ _ (λ _.
    yields_given (node home most_levels) (λ n. (k, n)) IsRaw _ (node_yields home most_levels h) (λ n raw.
    each_more IsRawPair before (k, n) are (is.0, raw)))))

metadata_formed : (ms : List Pair) → Each IsRawPair ms → AreFormed (metadata_statements ms)
metadata_formed [] h = tt
metadata_formed (m ∷ ms) h = (h.0, metadata_formed ms h.1)

-- files
home_there : (s : Option SectionSaid) → IfThere IsSection s → IfThere IsHome (section_home s)
home_there None h = tt
home_there (Some s) h = h.home

said_there : (s : Option SectionSaid) → IfThere IsSection s → AreFormed (section_said s)
said_there None h = tt
said_there (Some s) h = h.said

file_formed : (f : FileSaid) (ts : Tokens) → AreFine ts → (file f.home).whole f ts [] → AreFormed f.said
file_formed f ts fine (cs, t, a, (ms, u, b, (s, v, c, (e, end)))) =
    let front = (row_firm (control f.home) [] (control_firm f.home)).takes cs ts t a in
    let behind : AreFine t = fine_behind front.taken t (subst AreFine front.cut fine) in
    let middle = (row_firm (metadata f.home) [] (metadata_firm f.home)).takes ms t u b in
    let rest : AreFine u = fine_behind middle.taken u (subst AreFine middle.cut behind) in
    let is : IfThere IsSection s = ((yields_maybe (section (suffixes cs)) IsSection (section_yields (suffixes cs))).good s u v rest c).0 in
    let home : IfThere IsHome f.home = subst (IfThere IsHome) (sym (ap (λ g. g.home) e)) (home_there s is) in
    let pairs : Each IsRawPair ms =
    ((yields_each (metadata f.home) (Each IsRawPair) (metadata_yields f.home home) [] tt).good ms t u behind b).0
    in
    subst AreFormed (sym (ap (λ g. g.said) e))
    (formed_joined (metadata_statements ms) (section_said s) (metadata_formed ms pairs) (said_there s is))

pub formed_statements : FormedStatements
formed_statements bytes f u (xs, (to, leads, end), h) = file_formed f (spaced bytes xs) (tokens_fine bytes to xs u leads) h
