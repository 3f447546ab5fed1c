-- What the parts of a shape's reading say of it, and of the statements of a file.
use Rattle.std.proofs.Common.{◌≡◌, ◌<◌, inl, inr, ℕ, List, [], ◌∷◌, ◌++◌, codes, Option}
use Rattle.std.proofs.Common.{Result, Ok, Err, refl, sym, ap, subst, ◌∙◌, length, append_assoc, append-nil}
use Rattle.std.specs.List.{flat_map}
use Rattle.std.proofs.lemmas.Grind.{flat_map-append}
use Rattle.sm_ids.specs.Identifier.{IsIdentifier}
use Rattle.sm_model.specs.Properties.{property_forms}
use Rattle.sm_model.specs.Raw.{Raw, empty_raw}
use Rattle.sm_model.specs.Said.{TraitSaid, MemberSaid, Said, shape_said}
use Rattle.sm_model.specs.declared.kind.Kind.{Kind}
use Rattle.sm_model.specs.declared.kind.Kind.TheVariants.{Blob, Boolean, Text, Enum, Byte, Short, Integer, IntEnum, Long, Float}
use Rattle.sm_model.specs.declared.kind.Kind.TheVariants.{Double, BigInteger}
use Rattle.sm_model.specs.declared.kind.Kind.TheVariants.{BigDecimal, Timestamp, Document, List as list_kind, Map, Structure, Union}
use Rattle.sm_model.specs.declared.kind.Kind.TheVariants.{Service, Operation, Resource}
use Rattle.sm_model.specs.declared.reference.Ref.{Ref}
use Rattle.sm_idl.specs.Productions.{Tokens, Production, gives, ◌>>=◌, each, many}
use Rattle.sm_idl.specs.Words.{mark, identifier}
use Rattle.sm_idl.specs.Nodes.{Home, Pair, as_object}
use Rattle.sm_idl.specs.Traits.{traits, DocsBefore, docs_trait, apply}
use Rattle.sm_idl.specs.Members.{members, mixins}
use Rattle.sm_idl.specs.Bodies.{Suffixes, PartSaid, part, property, braced_pairs}
use Rattle.sm_idl.specs.Shapes.{type_word, BodySaid, simple_body, members_body, part_pairs, operation_body, pairs_body, body, stated_shape}
use Rattle.sm_idl.specs.Shapes.{shape_with, shape, apply_item, item}
use Rattle.sm_idl.specs.declared.members.MemberKind.{MemberKind}
use Rattle.sm_idl.specs.declared.reader.ReadStop.{ReadStop}
use Rattle.sm_idl.specs.steps.Classes.{Either, AMark, AnyWord, TraitGoesOn, Brace, With, Paren}
use Rattle.sm_idl.specs.steps.FileClasses.{TypeWord, ShapeStart, Apply, ItemStart, ItemGoesOn, ItemsGoOn}
use Rattle.sm_idl.specs.steps.Firm.{HeadIs, AreApart, IsFirm}
use Rattle.sm_idl.specs.steps.MemberSteps.{form_of, entry}
use Rattle.sm_idl.specs.steps.ReaderView.{NoToken, StopsIn, ReadsOn}
use Rattle.sm_idl.specs.steps.Reading.{IsRead}
use Rattle.sm_idl.specs.steps.ShapeSteps.{body_form, body_by, AddsSaid}
use Rattle.sm_idl.proofs.TokenLists.{head_apart}
use Rattle.sm_idl.proofs.TokenClasses.{mark_no_word, turned}
use Rattle.sm_idl.proofs.FirmShort.{then_firm, given_firm, front_firm, row_firm}
use Rattle.sm_idl.proofs.FirmNodes.{mark_firm}
use Rattle.sm_idl.proofs.FirmTraits.{word_firm}
use Rattle.sm_idl.proofs.FirmMembers.{mixins_firm, members_firm}
use Rattle.sm_idl.proofs.FirmBodies.{part_firm, with_no_brace, braced_pairs_firm, property_firm}
use Rattle.sm_idl.proofs.FirmShapes.{type_word_firm, behind_type_firm, type_no_trait}
use Rattle.sm_idl.proofs.FirmShapes.{shape_with_firm, shape_firm, apply_item_firm, item_firm}
use Rattle.sm_idl.proofs.FirmShapes.{item_apart, shape_no_apply}
use Rattle.sm_idl.proofs.MemberRows.{entry_firm}
use Rattle.sm_idl.proofs.Passing.{read_whole, read_wider, stop_wider, shorter, stops_first, stops_behind, stops_in_row, stops_past_row}
use Rattle.sm_idl.proofs.Passing.{behind_read, past_read, value_read, value_stop}
use Rattle.sm_idl.proofs.Choosing.{left_read, left_stop, right_read, right_stop, documented_read, documented_stop}
use Rattle.sm_idl.proofs.Bracketed as bracketed
use Rattle.sm_idl.proofs.Rows.{IsRow, row_none, row_more, row_read, row_stop}

abbrev pub body_at : List MemberSaid → List Ref → Raw → List Said → BodySaid
body_at ms mixed properties defined = record { members = ms; mixins = mixed; properties = properties; defined = defined }

-- bodies of the same parts
pub same_body : (l m : List MemberSaid) (x y : List Ref) (n p : Raw) (d e : List Said) → l ≡ m → x ≡ y → n ≡ p → d ≡ e
    → body_at l x n d ≡ body_at m y p e
same_body l m x y n p d e f g h i =
    ap (λ z. body_at z x n d) f ∙ ap (λ z. body_at m z n d) g ∙ ap (λ z. body_at m y z d) h ∙ ap (λ z. body_at m y p z) i

module _ (home : Home) where
  -- the body of a simple shape
  abbrev simple_made : List Ref → BodySaid
  simple_made mixed = record { members = []; mixins = mixed; properties = empty_raw; defined = [] }

  pub simple_stop : (s r : Tokens) (stop : ReadStop) → StopsIn With (mixins home) s r stop → StopsIn With (simple_body home) s r stop
  simple_stop s r stop k = value_stop With (mixins home) simple_made s r stop k

  pub simple_read : (mixed : List Ref) (b : BodySaid) (s r : Tokens) → b ≡ simple_made mixed → IsRead With (mixins home) mixed s r
      → IsRead With (simple_body home) b s r
  simple_read mixed b s r e m =
      subst (λ z. IsRead With (simple_body home) z s r) (sym e) (value_read (mixins home) simple_made mixed s r m)

  -- of one with members
  module _ (kind : MemberKind) where
    abbrev members_made : List Ref → List MemberSaid → BodySaid
    members_made mixed ms = record { members = ms; mixins = mixed; properties = empty_raw; defined = [] }

    abbrev braced : Production (List MemberSaid)
    braced = members (form_of kind) (entry home kind)

    abbrev behind_mixins : List Ref → Production BodySaid
    behind_mixins mixed = braced >>= (λ ms. gives (members_made mixed ms))

    mixins_rest : (mixed : List Ref) → IsFirm ⊥ Brace NoToken (behind_mixins mixed)
    mixins_rest mixed = given_firm braced (λ ms. _) (members_firm (form_of kind) (entry home kind) (entry_firm home kind))

    pub members_body_firm : IsFirm ⊥ (Either With Brace) NoToken (members_body home (form_of kind) (entry home kind))
    members_body_firm = front_firm (mixins home) behind_mixins (mixins_firm home) mixins_rest with_no_brace

    pub mixed_stop : (s r : Tokens) (stop : ReadStop) → StopsIn With (mixins home) s r stop
        → StopsIn NoToken (members_body home (form_of kind) (entry home kind)) s r stop
    mixed_stop s r stop k = stops_in_row (mixins home) behind_mixins mixins_rest with_no_brace s r stop k

    pub braced_stop : (mixed : List Ref) (s a r : Tokens) (stop : ReadStop) → IsRead With (mixins home) mixed s a
        → StopsIn NoToken braced a r stop → StopsIn NoToken (members_body home (form_of kind) (entry home kind)) s r stop
    braced_stop mixed s a r stop m k =
        stops_past_row (mixins home) behind_mixins mixins_rest with_no_brace mixed s a r stop m (stops_first NoToken braced _ a r stop k)

    pub members_body_read : (mixed : List Ref) (ms : List MemberSaid) (b : BodySaid) (s a r : Tokens) → b ≡ members_made mixed ms
        → IsRead With (mixins home) mixed s a → braced.whole ms a r
        → (members_body home (form_of kind) (entry home kind)).whole b s r
    members_body_read mixed ms b s a r e m k = (mixed, a, read_whole (mixins home) mixed s a m, (ms, r, k, (e, refl)))

  -- of an operation
  module _ (endings : Suffixes) (name : List ℕ) where
    abbrev operation_made : List PartSaid → BodySaid
    operation_made ps =
        record { members = []; mixins = []; properties = as_object (part_pairs ps); defined = flat_map (λ p. p.defined) ps }

    word_no_brace : AreApart AnyWord (AMark (codes "}"))
    word_no_brace = turned _ _ (mark_no_word (codes "}"))

    abbrev all_parts : Production (List PartSaid)
    all_parts = each (part home endings name)

    pub operation_body_firm : IsFirm ⊥ Brace NoToken (operation_body home endings name)
    operation_body_firm =
        then_firm (mark (codes "{")) _ (mark_firm (codes "{")) (λ _.
        front_firm all_parts _ (row_firm (part home endings name) [] (part_firm home endings name)) (λ ps.
        given_firm (mark (codes "}")) (λ _. _) (mark_firm (codes "}"))) word_no_brace)

    pub operation_open : (s r : Tokens) (stop : ReadStop) → StopsIn NoToken (mark (codes "{")) s r stop
        → StopsIn NoToken (operation_body home endings name) s r stop
    operation_open s r stop k = bracketed.stops_at_opener (codes "{") (codes "}") AnyWord all_parts operation_made word_no_brace s r stop k

    pub operation_within : (s a r : Tokens) (stop : ReadStop) → (mark (codes "{")).whole tt s a → StopsIn AnyWord all_parts a r stop
        → StopsIn NoToken (operation_body home endings name) s r stop
    operation_within s a r stop h k =
        bracketed.stops_between (codes "{") (codes "}") AnyWord all_parts operation_made word_no_brace s a r stop h k

    pub operation_close : (ps : List PartSaid) (s a b r : Tokens) (stop : ReadStop) → (mark (codes "{")).whole tt s a
        → IsRead AnyWord all_parts ps a b → StopsIn NoToken (mark (codes "}")) b r stop
        → StopsIn NoToken (operation_body home endings name) s r stop
    operation_close ps s a b r stop h m k =
        bracketed.stops_at_close (codes "{") (codes "}") AnyWord all_parts operation_made word_no_brace ps s a b r stop h m k

    body_of : Raw → List Said → BodySaid
    body_of properties defined = record { members = []; mixins = []; properties = properties; defined = defined }

    pub operation_read : (ps : List PartSaid) (pairs : List Pair) (defined : List Said) (b : BodySaid) (s a c r : Tokens)
        → pairs ≡ part_pairs ps → defined ≡ flat_map (λ p. p.defined) ps
        → b ≡ record { members = []; mixins = []; properties = as_object pairs; defined = defined } → (mark (codes "{")).whole tt s a
        → IsRead AnyWord all_parts ps a c → (mark (codes "}")).whole tt c r → (operation_body home endings name).whole b s r
    unfolding body_of
    operation_read ps pairs defined b s a c r e f g h m k =
        subst (λ z. (operation_body home endings name).whole z s r)
        (sym (g ∙ ap (λ l. body_of (as_object l) defined) e ∙ ap (λ l. body_of (as_object (part_pairs ps)) l) f))
        (bracketed.read_between (codes "{") (codes "}") AnyWord all_parts operation_made word_no_brace ps s a c r h m k)

  -- of a service or a resource
  module _ (kind : Kind) where
    abbrev pairs_made : Raw → BodySaid
    pairs_made properties = record { members = []; mixins = []; properties = properties; defined = [] }

    pub pairs_body_firm : IsFirm ⊥ Brace NoToken (pairs_body home kind)
    pairs_body_firm = given_firm (braced_pairs (property home (property_forms kind))) (λ properties. _)
        (braced_pairs_firm (property home (property_forms kind)) (property_firm home (property_forms kind)))

    pub pairs_body_stop : (s r : Tokens) (stop : ReadStop) → StopsIn NoToken (braced_pairs (property home (property_forms kind))) s r stop
        → StopsIn NoToken (pairs_body home kind) s r stop
    pairs_body_stop s r stop k = value_stop NoToken (braced_pairs (property home (property_forms kind))) pairs_made s r stop k

    pub pairs_body_read : (n : Raw) (b : BodySaid) (s r : Tokens) → b ≡ pairs_made n
        → (braced_pairs (property home (property_forms kind))).whole n s r → (pairs_body home kind).whole b s r
    pairs_body_read n b s r e h = (n, r, h, (e, refl))

-- the body of each type, by its form
pub body_is : (home : Home) (endings : Suffixes) (kind : Kind) (name : List ℕ)
    → Path (Production BodySaid) (body home endings kind name) (body_by home endings kind name (body_form kind))
body_is home endings Blob name = refl
body_is home endings Boolean name = refl
body_is home endings Text name = refl
body_is home endings Byte name = refl
body_is home endings Short name = refl
body_is home endings Integer name = refl
body_is home endings Long name = refl
body_is home endings Float name = refl
body_is home endings Double name = refl
body_is home endings BigInteger name = refl
body_is home endings BigDecimal name = refl
body_is home endings Timestamp name = refl
body_is home endings Document name = refl
body_is home endings Enum name = refl
body_is home endings IntEnum name = refl
body_is home endings list_kind name = refl
body_is home endings Map name = refl
body_is home endings Union name = refl
body_is home endings Structure name = refl
body_is home endings Operation name = refl
body_is home endings Service name = refl
body_is home endings Resource name = refl

pub from_form : {V : Type 0} (home : Home) (endings : Suffixes) (kind : Kind) (name : List ℕ) (view : V → BodySaid) (s r : Tokens)
    (result : Result V ReadStop) → ReadsOn With view (body_by home endings kind name (body_form kind)) s r result
    → ReadsOn With view (body home endings kind name) s r result
from_form home endings kind name view s r (Ok v) h = subst (λ P. IsRead With P (view v) s r) (sym (body_is home endings kind name)) h
from_form home endings kind name view s r (Err stop) h = subst (λ P. StopsIn With P s r stop) (sym (body_is home endings kind name)) h

module _ (home : Home) (endings : Suffixes) where
  -- a shape
  module _ (docs : List TraitSaid) where
    abbrev statements_of : Kind → List ℕ → List TraitSaid → BodySaid → List Said
    statements_of kind name ts b = shape_said (stated_shape home kind name b ts) ∷ b.defined

    abbrev behind_name : List TraitSaid → Kind → List ℕ → Production (List Said)
    behind_name ts kind name = body home endings kind name >>= (λ b. gives (statements_of kind name (docs ++ ts) b))

    abbrev behind_type : List TraitSaid → Kind → Production (List Said)
    behind_type ts kind = identifier >>= behind_name ts kind

    abbrev behind_traits : List TraitSaid → Production (List Said)
    behind_traits ts = type_word >>= behind_type ts

    traits_rest : (ts : List TraitSaid) → IsFirm ⊥ TypeWord With (behind_traits ts)
    traits_rest ts = behind_type_firm home endings docs ts

    pub shape_traits_stop : (s r : Tokens) (stop : ReadStop) → StopsIn TraitGoesOn (traits home) s r stop
        → StopsIn With (shape_with home endings docs) s r stop
    shape_traits_stop s r stop k = stops_in_row (traits home) behind_traits traits_rest type_no_trait s r stop k

    past_traits : (ts : List TraitSaid) (s a r : Tokens) (stop : ReadStop) → IsRead TraitGoesOn (traits home) ts s a
        → StopsIn With (behind_traits ts) a r stop → StopsIn With (shape_with home endings docs) s r stop
    past_traits ts s a r stop m k = stops_past_row (traits home) behind_traits traits_rest type_no_trait ts s a r stop m k

    pub shape_type_stop : (ts : List TraitSaid) (s a r : Tokens) (stop : ReadStop) → IsRead TraitGoesOn (traits home) ts s a
        → StopsIn NoToken type_word a r stop → StopsIn With (shape_with home endings docs) s r stop
    shape_type_stop ts s a r stop m k = past_traits ts s a r stop m (stops_first With type_word (behind_type ts) a r stop k)

    pub shape_name_stop : (ts : List TraitSaid) (kind : Kind) (s a b r : Tokens) (stop : ReadStop) → IsRead TraitGoesOn (traits home) ts s a
        → type_word.whole kind a b → StopsIn NoToken identifier b r stop → StopsIn With (shape_with home endings docs) s r stop
    shape_name_stop ts kind s a b r stop m h k =
        past_traits ts s a r stop m
        (stops_behind With type_word (behind_type ts) type_word_firm kind a b r stop h
        (stops_first With identifier (behind_name ts kind) b r stop k))

    pub shape_body_stop : (ts : List TraitSaid) (kind : Kind) (name : List ℕ) (s a b c r : Tokens) (stop : ReadStop)
        → IsRead TraitGoesOn (traits home) ts s a → type_word.whole kind a b → identifier.whole name b c
        → StopsIn With (body home endings kind name) c r stop → StopsIn With (shape_with home endings docs) s r stop
    shape_body_stop ts kind name s a b c r stop m h i k =
        past_traits ts s a r stop m
        (stops_behind With type_word (behind_type ts) type_word_firm kind a b r stop h
        (stops_behind With identifier (behind_name ts kind) (word_firm IsIdentifier) name b c r stop i
        (value_stop With (body home endings kind name) (statements_of kind name (docs ++ ts)) c r stop k)))

    pub shape_made : (ts all_of : List TraitSaid) (kind : Kind) (name : List ℕ) (w : BodySaid) (old new : List Said) (s a b c r : Tokens)
        → all_of ≡ docs ++ ts → new ≡ old ++ statements_of kind name all_of w → IsRead TraitGoesOn (traits home) ts s a
        → type_word.whole kind a b → identifier.whole name b c → IsRead With (body home endings kind name) w c r
        → (ss : List Said) × (new ≡ old ++ ss) × IsRead With (shape_with home endings docs) ss s r
    shape_made ts all_of kind name w old new s a b c r e f m h i k = (
      statements_of kind name (docs ++ ts) w,
      f ∙ ap (λ l. old ++ statements_of kind name l w) e,
      past_read (traits home) behind_traits traits_rest type_no_trait ts (statements_of kind name (docs ++ ts) w) s a r m
          (behind_read type_word (behind_type ts) type_word_firm kind (statements_of kind name (docs ++ ts) w) a b r h
          (behind_read identifier (behind_name ts kind) (word_firm IsIdentifier) name (statements_of kind name (docs ++ ts) w) b c r i
          (value_read (body home endings kind name) (statements_of kind name (docs ++ ts)) w c r k))),
    )

  pub shape_documented : (d : Option (List ℕ)) (ts : List TraitSaid) (old new : List Said) (s r : Tokens) (result : Result Unit ReadStop)
      → ts ≡ docs_trait d → DocsBefore s d → AddsSaid With (shape_with home endings ts) old new s r result
      → AddsSaid With (shape home endings) old new s r result
  shape_documented d ts old new s r (Ok x) e h (ss, f, k) = (
    ss,
    f,
    documented_read ShapeStart With (shape_with home endings) (shape_with_firm home endings) d ss s r h
        (subst (λ z. IsRead With (shape_with home endings z) ss s r) e k),
  )
  shape_documented d ts old new s r (Err stop) e h k =
      documented_stop ShapeStart With (shape_with home endings) (shape_with_firm home endings) d s r stop h
      (subst (λ z. StopsIn With (shape_with home endings z) s r stop) e k)

  -- an item
  with_goes_on : (t : _) → With t → ItemGoesOn t
  with_goes_on t h = inl h

  paren_goes_on : (t : _) → Paren t → ItemGoesOn t
  paren_goes_on t h = inr h

  pub item_shape : (old new : List Said) (s r : Tokens) (result : Result Unit ReadStop) → (HeadIs Apply s → ⊥)
      → AddsSaid With (shape home endings) old new s r result → AddsSaid ItemGoesOn (item home endings) old new s r result
  item_shape old new s r (Ok x) none (ss, f, k) = (
    ss,
    f,
    read_wider (item home endings) ss s r with_goes_on
        (left_read ShapeStart Apply With Paren (shape home endings) (apply_item home) (shape_firm home endings) (apply_item_firm home)
        shape_no_apply ss s r k),
  )
  item_shape old new s r (Err stop) none k =
      stop_wider (item home endings) s r stop with_goes_on
      (left_stop ShapeStart Apply With Paren (shape home endings) (apply_item home) (shape_firm home endings) (apply_item_firm home)
      shape_no_apply s r stop none k)

  pub item_apply : (said : Said) (old new : List Said) (s r : Tokens) → new ≡ old ++ said ∷ [] → IsRead Paren (apply home) said s r
      → (ss : List Said) × (new ≡ old ++ ss) × IsRead ItemGoesOn (item home endings) ss s r
  item_apply said old new s r f k = (
    said ∷ [],
    f,
    read_wider (item home endings) (said ∷ []) s r paren_goes_on
        (right_read ShapeStart Apply With Paren (shape home endings) (apply_item home) (shape_firm home endings) (apply_item_firm home)
        (turned _ _ shape_no_apply) (said ∷ []) s r (value_read (apply home) (λ x. x ∷ []) said s r k)),
  )

  pub item_apply_stop : (s r : Tokens) (stop : ReadStop) → HeadIs Apply s → StopsIn Paren (apply home) s r stop
      → StopsIn ItemGoesOn (item home endings) s r stop
  item_apply_stop s r stop here k =
      stop_wider (item home endings) s r stop paren_goes_on
      (right_stop ShapeStart Apply With Paren (shape home endings) (apply_item home) (shape_firm home endings) (apply_item_firm home)
      (turned _ _ shape_no_apply) s r stop (λ h. head_apart ShapeStart Apply s shape_no_apply h here)
      (value_stop Paren (apply home) (λ x. x ∷ []) s r stop k))

  -- items that came
  abbrev joined : List (List Said) → List Said
  joined sss = flat_map (λ ss. ss) sss

  abbrev pub ItemsSoFar : List Said → List Said → Tokens → Tokens → Type 0
  ItemsSoFar old new s a = (sss : List (List Said)) × (new ≡ old ++ joined sss) × IsRow (Either ItemStart ItemGoesOn)
      (λ _. item home endings) [] sss s a

  pub items_none : (old : List Said) (s : Tokens) → ItemsSoFar old old s s
  items_none old s = (
    [],
    sym (append-nil old),
    row_none ItemStart ItemGoesOn (λ _. item home endings) (λ _. item_firm home endings)
        item_apart [] s,
  )

  pub items_more : (old have new : List Said) (s a r : Tokens) → ItemsSoFar old have s a
      → (ss : List Said) × (new ≡ have ++ ss) × IsRead ItemGoesOn (item home endings) ss a r → ItemsSoFar old new s r
  items_more old have new s a r (sss, e, i) (ss, f, k) = (
    sss ++ ss ∷ [],
    f ∙ ap (λ l. l ++ ss) e ∙ append_assoc old (joined sss) ss
        ∙ ap (λ l. old ++ l) (ap (λ l. joined sss ++ l) (sym (append-nil ss)) ∙ sym (flat_map-append (λ x. x) sss (ss ∷ []))),
    row_more ItemStart ItemGoesOn (λ _. item home endings) (λ _. item_firm home endings) item_apart [] sss ss s a r i k,
  )

  pub items_fewer : (ss : List Said) (a r : Tokens) → IsRead ItemGoesOn (item home endings) ss a r → length r < length a
  items_fewer ss a r k = shorter (item home endings) (item_firm home endings) ss a r (read_whole (item home endings) ss a r k)

  pub items_read : (old new : List Said) (s a : Tokens) → ItemsSoFar old new s a → (HeadIs ItemStart a → ⊥)
      → (sss : List (List Said)) × (new ≡ old ++ joined sss) × IsRead ItemsGoOn (many (item home endings)) sss s a
  items_read old new s a (sss, e, i) none =
      (sss, e, row_read ItemStart ItemGoesOn (λ _. item home endings) (λ _. item_firm home endings) item_apart [] sss s a i none)

  pub items_stop : (old new : List Said) (s a r : Tokens) (stop : ReadStop) → ItemsSoFar old new s a → HeadIs ItemStart a
      → StopsIn ItemGoesOn (item home endings) a r stop → StopsIn ItemsGoOn (many (item home endings)) s r stop
  items_stop old new s a r stop (sss, e, i) here k =
      row_stop ItemStart ItemGoesOn (λ _. item home endings) (λ _. item_firm home endings) item_apart [] sss s a r stop i here k
