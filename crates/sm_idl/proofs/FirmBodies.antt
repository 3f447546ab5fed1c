-- The bodies of operations, services and resources can be read from the front.
use Rattle.std.proofs.Common.{◌≡◌, ◌⊎◌, inl, inr, ℕ, List, [], ◌++◌, Option, Some, None, codes, refl, sym, ap, ◌∙◌}
use Rattle.sm_lex.specs.Tokens.{Lexeme}
use Rattle.sm_tree.specs.Node.{text}
use Rattle.sm_ids.specs.IdText.{IsIdText}
use Rattle.sm_model.specs.Kinds.{any}
use Rattle.sm_model.specs.Properties.{TypeFields, form_named}
use Rattle.sm_model.specs.Raw.{Raw, raw_leaf, raw_id}
use Rattle.sm_model.specs.Said.{TraitSaid}
use Rattle.sm_model.specs.declared.property.PropertyForm.{PropertyForm}
use Rattle.sm_model.specs.declared.property.PropertyForm.TheVariants.{Reference, References, NamedReferences, Text, Rename}
use Rattle.sm_idl.specs.Productions.{Production, one, each, many}
use Rattle.sm_idl.specs.Words.{IsWord, IsString, IsBlock, IsKey, IsNew, IsWordId, mark, id}
use Rattle.sm_idl.specs.Nodes.{Home, written, IsNodeId, Pair, pair_names, pair_of}
use Rattle.sm_idl.specs.Traits.{traits}
use Rattle.sm_idl.specs.Members.{field, members, mixins}
use Rattle.sm_idl.specs.Bodies.{Suffixes, PartSaid, part_names, part_word, part_target, inline_name}
use Rattle.sm_idl.specs.Bodies.{inline_with, part_inline, part_shape, part_errors, part, reference, references, braced_pairs}
use Rattle.sm_idl.specs.Bodies.{TextSays, text_node, new_name, renaming, field_value, FieldNamed, property}
use Rattle.sm_idl.specs.steps.ReaderView.{NoToken}
use Rattle.sm_idl.specs.steps.Classes.{Either, AMark, AWord, AnyWord, NoMark, At, TraitGoesOn, Brace, With}
use Rattle.sm_idl.specs.steps.Firm.{Class, AreApart, IsFirm}
use Rattle.sm_idl.proofs.FirmParts.{firm_wider}
use Rattle.sm_idl.proofs.FirmEach.{firm_or}
use Rattle.sm_idl.proofs.FirmShort.{AnyToken, token_firm, then_firm, given_firm, front_firm, row_firm}
use Rattle.sm_idl.proofs.TokenClasses.{marks_unlike, words_unlike, mark_no_word, mark_no_leaf}
use Rattle.sm_idl.proofs.TokenClasses.{turned, apart_either, either_apart}
use Rattle.sm_idl.proofs.OneSaying.{one_word, one_string, one_block, one_key, word_no_text, word_no_block, text_no_block}
use Rattle.sm_idl.proofs.FirmNodes.{mark_firm, pair_firm, key_no_mark}
use Rattle.sm_idl.proofs.FirmDocumented.{documented_firm}
use Rattle.sm_idl.proofs.FirmTraits.{word_firm, traits_firm}
use Rattle.sm_idl.proofs.FirmMembers.{members_firm, field_firm, mixins_firm}

pub part_word_firm : (name : List ℕ) (before : List PartSaid) → IsFirm ⊥ (AWord name) NoToken (part_word name before)
part_word_firm name before = token_firm (λ t _. IsWord name t × IsNew name (part_names before)) (AWord name) (λ t x y h k. refl)
    (λ t x h. h.0)

pub target_firm : (home : Home) (name : List ℕ) → IsFirm ⊥ (AMark (codes ":")) NoToken (part_target home name)
target_firm home name = then_firm (mark (codes ":")) _ (mark_firm (codes ":")) (λ _. given_firm id (λ w. _) (word_firm IsWordId))

suffix_of : Option (List ℕ) → List ℕ
suffix_of None = []
suffix_of (Some s) = s

one_suffix : (suffix : Option (List ℕ)) (a b : List ℕ) → suffix ≡ Some a → suffix ≡ Some b → a ≡ b
unfolding suffix_of
one_suffix suffix a b e f = ap suffix_of (sym e ∙ f)

pub inline_name_firm : (operation : List ℕ) (suffix : Option (List ℕ))
    → IsFirm ⊥ (AMark (codes ":=")) NoToken (inline_name operation suffix)
inline_name_firm operation suffix = token_firm _ (AMark (codes ":="))
    (λ t x y h k. h.1.2 ∙ ap (λ end. operation ++ end) (one_suffix suffix h.1.0 k.1.0 h.1.1 k.1.1) ∙ sym k.1.2) (λ t x h. h.0)

pub with_no_brace : AreApart With Brace
with_no_brace = turned _ _ (λ t h k. mark_no_word (codes "{") t h k.0)

pub traits_no_body : AreApart TraitGoesOn (Either With Brace)
traits_no_body = either_apart _ _ _
    (apart_either _ _ _ (λ t h k. mark_no_word (codes "@") t h k.0) (marks_unlike (codes "@") (codes "{") refl))
    (apart_either _ _ _ (λ t h k. mark_no_word (codes "(") t h k.0) (marks_unlike (codes "(") (codes "{") refl))

pub inline_with_firm : (home : Home) (structure name : List ℕ) (docs : List TraitSaid)
    → IsFirm ⊥ (Either At (Either With Brace)) NoToken (inline_with home structure name docs)
inline_with_firm home structure name docs =
    front_firm (traits home) _ (traits_firm home) (λ ts.
    front_firm (mixins home) _ (mixins_firm home) (λ mixed.
    given_firm (members any (field home)) (λ ms. _) (members_firm any (field home) (field_firm home))) with_no_brace) traits_no_body

pub inline_firm : (home : Home) (operation : List ℕ) (suffix : Option (List ℕ)) (name : List ℕ)
    → IsFirm ⊥ (AMark (codes ":=")) NoToken (part_inline home operation suffix name)
inline_firm home operation suffix name =
    then_firm (inline_name operation suffix) _ (inline_name_firm operation suffix) (λ structure.
    documented_firm (Either At (Either With Brace)) NoToken (inline_with home structure name) (inline_with_firm home structure name))

pub shape_part_firm : (home : Home) (operation : List ℕ) (suffix : Option (List ℕ)) (name : List ℕ) (before : List PartSaid)
    → IsFirm ⊥ (AWord name) NoToken (part_shape home operation suffix name before)
shape_part_firm home operation suffix name before =
    then_firm (part_word name before) _ (part_word_firm name before) (λ _.
    firm_wider (λ e. e) (λ t a. a) (λ t g. elim g [ inl n ↦ n | inr n ↦ n ])
    (firm_or (AMark (codes ":")) (AMark (codes ":=")) NoToken NoToken (part_target home name) (part_inline home operation suffix name)
    (target_firm home name) (inline_firm home operation suffix name) (marks_unlike (codes ":") (codes ":=") refl)))

pub errors_firm : (home : Home) (before : List PartSaid) → IsFirm ⊥ (AWord (codes "errors")) NoToken (part_errors home before)
errors_firm home before =
    then_firm (part_word (codes "errors") before) _ (part_word_firm (codes "errors") before) (λ _.
    then_firm (mark (codes ":")) _ (mark_firm (codes ":")) (λ _.
    then_firm (mark (codes "[")) _ (mark_firm (codes "[")) (λ _.
    front_firm (many id) _ (row_firm (λ _. id) [] (λ _. word_firm IsWordId)) (λ ws.
    given_firm (mark (codes "]")) (λ _. _) (mark_firm (codes "]"))) (turned _ _ (mark_no_word (codes "]"))))))

pub part_firm : (home : Home) (endings : Suffixes) (operation : List ℕ) (before : List PartSaid)
    → IsFirm ⊥ AnyWord NoToken (part home endings operation before)
part_firm home endings operation before =
    firm_wider (λ e. e) (λ t a. elim a [ inl w ↦ w.0 | inr w ↦ elim w [ inl v ↦ v.0 | inr v ↦ v.0 ] ])
    (λ t g. elim g [ inl n ↦ n | inr n ↦ elim n [ inl o ↦ o | inr o ↦ o ] ])
    (firm_or (AWord (codes "input")) (Either (AWord (codes "output")) (AWord (codes "errors"))) NoToken (Either NoToken NoToken) _ _
    (shape_part_firm home operation endings.input (codes "input") before)
    (firm_or (AWord (codes "output")) (AWord (codes "errors")) NoToken NoToken _ _
    (shape_part_firm home operation endings.output (codes "output") before)
    (errors_firm home before) (words_unlike (codes "output") (codes "errors") refl))
    (apart_either _ _ _ (words_unlike (codes "input") (codes "output") refl) (words_unlike (codes "input") (codes "errors") refl)))

-- the nodes of fields

pub reference_firm : (home : Home) → IsFirm ⊥ AnyWord NoToken (reference home)
reference_firm home = given_firm _ (λ w. _) (word_firm IsNodeId)

pub references_firm : (home : Home) → IsFirm ⊥ (AMark (codes "[")) NoToken (references home)
references_firm home =
    then_firm (mark (codes "[")) _ (mark_firm (codes "[")) (λ _.
    front_firm (many (reference home)) _ (row_firm (λ _. reference home) [] (λ _. reference_firm home)) (λ ws.
    given_firm (mark (codes "]")) (λ _. _) (mark_firm (codes "]"))) (turned _ _ (mark_no_word (codes "]"))))

pub braced_pairs_firm : (P : List Pair → Production Pair) → ((before : List Pair) → IsFirm ⊥ NoMark NoToken (P before))
    → IsFirm ⊥ Brace NoToken (braced_pairs P)
braced_pairs_firm P p =
    then_firm (mark (codes "{")) _ (mark_firm (codes "{")) (λ _.
    front_firm (each P) _ (row_firm P [] p) (λ ps.
    given_firm (mark (codes "}")) (λ _. _) (mark_firm (codes "}"))) (turned _ _ (mark_no_leaf (codes "}"))))

-- a string or a block has one text
one_text : (t : Lexeme) (v w : List ℕ) → IsString v t ⊎ IsBlock v t → IsString w t ⊎ IsBlock w t → v ≡ w
one_text t v w (inl h) (inl k) = one_string t v w h k
one_text t v w (inr h) (inr k) = one_block t v w h k
one_text t v w (inl h) (inr k) = absurd (text_no_block t h.0 k.0)
one_text t v w (inr h) (inl k) = absurd (text_no_block t k.0 h.0)

no_word_text : (t : Lexeme) (v w : List ℕ) → IsString v t ⊎ IsBlock v t → IsWord w t → ⊥
no_word_text t v w (inl h) k = word_no_text t k.0 h.0
no_word_text t v w (inr h) k = word_no_block t k.0 h.0

one_text_node : (home : Home) (t : Lexeme) (m n : Raw) → TextSays home t m → TextSays home t n → m ≡ n
one_text_node home t m n (inl h) (inl k) = h.2 ∙ ap (λ v. raw_leaf (text v)) (one_text t h.0 k.0 h.1 k.1) ∙ sym k.2
one_text_node home t m n (inr h) (inr k) = h.3 ∙ ap (λ w. raw_id (written home w _)) (one_word t h.0 k.0 h.1 k.1) ∙ sym k.3
one_text_node home t m n (inl h) (inr k) = absurd (no_word_text t h.0 k.0 h.1 k.1)
one_text_node home t m n (inr h) (inl k) = absurd (no_word_text t k.0 h.0 k.1 h.1)

text_firm : (home : Home) → IsFirm ⊥ AnyToken NoToken (text_node home)
text_firm home = token_firm (TextSays home) AnyToken (one_text_node home) (λ t n h. tt)

new_name_firm : IsFirm ⊥ AnyToken NoToken new_name
new_name_firm = token_firm _ AnyToken (λ t m n h k. h.3 ∙ ap (λ v. raw_leaf (text v)) (one_text t h.0 k.0 h.1 k.1) ∙ sym k.3) (λ t n h. tt)

pub renaming_firm : (before : List Pair) → IsFirm ⊥ NoMark NoToken (renaming before)
renaming_firm before =
    then_firm _ _ (token_firm (λ t k. IsKey k t × IsIdText k × IsNew k (pair_names before)) NoMark (λ t j k h m. one_key t j k h.0 m.0)
    (λ t k h. key_no_mark t k h.0)) (λ k.
    then_firm (mark (codes ":")) _ (mark_firm (codes ":")) (λ _. given_firm new_name (λ n. (k, n)) new_name_firm))

any_firm : (A : Class) (P : Production Raw) → IsFirm ⊥ A NoToken P → IsFirm ⊥ AnyToken NoToken P
any_firm A P p = firm_wider (λ e. e) (λ t a. tt) (λ t n. n) p

field_value_firm : (home : Home) (form : PropertyForm) → IsFirm ⊥ AnyToken NoToken (field_value home form)
field_value_firm home Reference = any_firm AnyWord (reference home) (reference_firm home)
field_value_firm home References = any_firm (AMark (codes "[")) (references home) (references_firm home)
field_value_firm home NamedReferences = any_firm Brace _ (braced_pairs_firm (pair_of (reference home)) (pair_firm AnyWord
    (reference home) (reference_firm home)))
field_value_firm home Text = text_firm home
field_value_firm home Rename = any_firm Brace _ (braced_pairs_firm renaming renaming_firm)

form_of : Option PropertyForm → PropertyForm
form_of None = Text
form_of (Some f) = f

pub one_field : (fields : TypeFields) (before : List Pair) (t : Lexeme) (f g : List ℕ × PropertyForm)
    → FieldNamed fields before t f → FieldNamed fields before t g → f ≡ g
unfolding form_of
one_field fields before t f g h k =
    let name : f.0 ≡ g.0 = one_key t f.0 g.0 h.0 k.0 in
    let form : f.1 ≡ g.1 = ap form_of (sym h.1 ∙ ap (λ n. form_named n fields) name ∙ k.1) in
    ap (λ n. (n, f.1)) name ∙ ap (λ x. (g.0, x)) form

pub property_firm : (home : Home) (fields : TypeFields) (before : List Pair) → IsFirm ⊥ NoMark NoToken (property home fields before)
property_firm home fields before =
    then_firm (one (FieldNamed fields before)) _ (token_firm (FieldNamed fields before) NoMark (one_field fields before)
    (λ t f h. key_no_mark t f.0 h.0)) (λ f.
    then_firm (mark (codes ":")) _ (mark_firm (codes ":")) (λ _. given_firm (field_value home f.1) (λ n. (f.0, n))
    (field_value_firm home f.1)))
