-- What is written for the members of a shape is read as they are said.
use Rattle.std.proofs.Common.{◌≡◌, ℕ, inl, inr, Bool, true, false, List, [], ◌∷◌, ◌++◌, map, None, refl, sym, ap, subst, ◌∙◌}
use Rattle.std.proofs.Common.{append-nil, codes}
use Rattle.std.specs.Prelude.{if◌then◌else◌}
use Rattle.std.specs.Str.{bytes_eq}
use Rattle.std.proofs.lemmas.List.{map_push}
use Rattle.sm_ids.specs.Identifier.{IsIdentifier}
use Rattle.sm_ids.specs.IdText.{IsIdText}
use Rattle.sm_model.specs.Formed.{StandsAmong, DifferInNames, stated_names}
use Rattle.sm_model.specs.Kinds.{MemberForm, exactly, any}
use Rattle.sm_model.specs.PreludeShapes.{unit_id}
use Rattle.sm_model.specs.References.{absolute}
use Rattle.sm_model.specs.Said.{TraitSaid, MemberSaid}
use Rattle.sm_model.specs.declared.reference.Ref.{Ref}
use Rattle.sm_model.proofs.MapFacts.{Each}
use Rattle.sm_idl.specs.Productions.{Tokens, Production, each, each_behind}
use Rattle.sm_idl.specs.Words.{IsWord, IsNew, IsWordId, id as id_word_of}
use Rattle.sm_idl.specs.Nodes.{Home, written}
use Rattle.sm_idl.specs.Traits.{traits}
use Rattle.sm_idl.specs.Members.{IsNameOf, HasMembers, member_under, arranged, member_name, equals_node, given_value}
use Rattle.sm_idl.specs.Members.{enum_member_with, enum_member, member_with, member, field, members}
use Rattle.sm_idl.specs.Written.{NodePairs, indent, trait_lines, member_text}
use Rattle.sm_idl.specs.WrittenFile.{traits_said, target_said}
use Rattle.sm_idl.specs.declared.write.form.WrittenForm.{WrittenForm}
use Rattle.sm_idl.specs.declared.write.form.WrittenForm.TheVariants.{Names, Targets}
use Rattle.sm_idl.proofs.TextTokens.{AreWhite, Goes, Spells, goes_white, goes_whites, goes_gives, goes_both, goes_missing, goes_none}
use Rattle.sm_idl.proofs.TextTokens.{goes_next, goes_documented, goes_joined, goes_flat, flat_four, goes_value}
use Rattle.sm_idl.proofs.WrittenTokens.{goes_marked, goes_marked_where, goes_word, identifier_word, id_word}
use Rattle.sm_idl.proofs.TraitsWritten.{IsTraitValue, traits_go, new_names}

-- members that are found in a graph
pub record FoundMember : Type 0 where
  pub name : List ℕ
  pub target : List ℕ
  pub traits : NodePairs

pub record IsFound (m : FoundMember) : Type 0 where
  pub name : IsIdentifier m.name
  pub target : IsIdText m.target
  pub traits : Each IsTraitValue m.traits

abbrev pub AreFound : List FoundMember → Type 0
AreFound [] = Unit {0}
AreFound (m ∷ ms) = IsFound m × AreFound ms

abbrev pub found_lines : Bool → List FoundMember → List ℕ
found_lines targets [] = []
found_lines targets (m ∷ ms) = member_text targets m.name m.target m.traits ++ found_lines targets ms

abbrev pub said_with : List ℕ → Ref → List TraitSaid → MemberSaid
said_with name target ts = record { name = name; target = target; traits = ts }

abbrev pub one_said : Home → WrittenForm → FoundMember → MemberSaid
one_said home form m = said_with m.name (target_said home form m.target) (traits_said home m.traits)

abbrev pub found_said : Home → WrittenForm → List FoundMember → List MemberSaid
found_said home form ms = map (one_said home form) ms

abbrev pub found_names : List FoundMember → List (List ℕ)
found_names ms = map (λ m. m.name) ms

pub indent_white : AreWhite indent
indent_white = (refl, (refl, (refl, (refl, tt))))

-- one member
abbrev pub ReadsMembers : Home → WrittenForm → Bool → MemberForm → (List MemberSaid → Production MemberSaid) → Type 1
ReadsMembers home written_as targets form p = (before : List MemberSaid) (m : FoundMember) (s : List ℕ) (Q : Tokens → Type 0) → IsFound m
    → IsNameOf form m.name → IsNew m.name (stated_names before) → Goes Q s
    → Goes (Spells (p before) (one_said home written_as m) Q) (member_text targets m.name m.target m.traits ++ s)

pub enum_goes : (home : Home) → ReadsMembers home Names false any (enum_member home)
enum_goes home before m s Q is named new h =
    let ts : List TraitSaid = traits_said home m.traits in
    goes_flat (flat_four (trait_lines indent m.traits) indent m.name [] (codes "\n") s)
    (goes_value (enum_member home before) (ap (said_with m.name (absolute unit_id false)) (append-nil ts))
    (goes_documented (enum_member_with home before)
    (goes_both (traits home) _ ts
    (traits_go home indent m.traits [] (indent ++ (m.name ++ (10 ∷ s))) indent_white is.traits
    (goes_whites indent indent_white
    (goes_both (member_name any before) _ m.name
    (goes_word (λ t n. IsWord n t × (IsIdentifier n × IsNameOf any n × IsNew n (stated_names before))) m.name m.name
    (identifier_word m.name is.name) refl (λ t w. (w, (is.name, tt, new)))
    (goes_both (given_value home) _ None
    (goes_missing (equals_node home)
    (goes_gives (said_with m.name (absolute unit_id false) (ts ++ [])) (goes_white 10 refl h)))))))))))

pub plain_goes : (home : Home) (form : MemberForm) → ReadsMembers home Targets true form (member home form)
plain_goes home form before m s Q is named new h =
    let ts : List TraitSaid = traits_said home m.traits in
    goes_flat (flat_four (trait_lines indent m.traits) indent m.name (58 ∷ (32 ∷ m.target)) (codes "\n") s)
    (goes_documented (member_with home form before)
    (goes_both (traits home) _ ts
    (traits_go home indent m.traits [] (indent ++ (m.name ++ (58 ∷ (32 ∷ (m.target ++ (10 ∷ s)))))) indent_white is.traits
    (goes_whites indent indent_white
    (goes_both (member_name form before) _ m.name
    (goes_word (λ t n. IsWord n t × (IsIdentifier n × IsNameOf form n × IsNew n (stated_names before))) m.name m.name
    (identifier_word m.name is.name) refl (λ t w. (w, (is.name, named, new)))
    (goes_marked 58 _ refl refl
    (goes_white 32 refl
    (goes_both id_word_of _ m.target
    (goes_word (λ t w. IsWord w t × IsWordId w) m.target m.target (id_word m.target is.target) refl (λ t w. (w, inl is.target))
    (goes_gives (one_said home Targets m) (goes_white 10 refl h))))))))))))

pub field_goes : (home : Home) → ReadsMembers home Targets true any (field home)
field_goes home before m s Q is named new h =
    let ts : List TraitSaid = traits_said home m.traits in
    let target : Ref = written home m.target false in
    goes_value (field home before) (ap (said_with m.name target) (append-nil ts))
    (goes_both (member home any before) _ (one_said home Targets m)
    (plain_goes home any before m s _ is named new
    (goes_both (given_value home) _ None
    (goes_missing (equals_node home) (goes_gives (said_with m.name target (ts ++ [])) h)))))

abbrev pub AreNewMembers : List MemberSaid → List FoundMember → Type 0
AreNewMembers before ms = (k : List ℕ) → StandsAmong k (found_names ms) → IsNew k (stated_names before)

abbrev pub AreNamesOf : MemberForm → List FoundMember → Type 0
AreNamesOf form [] = Unit {0}
AreNamesOf form (m ∷ ms) = IsNameOf form m.name × AreNamesOf form ms

pub members_row : (home : Home) (written_as : WrittenForm) (targets : Bool) (form : MemberForm)
    (p : List MemberSaid → Production MemberSaid) → ReadsMembers home written_as targets form p
    → (ms : List FoundMember) (before : List MemberSaid) (s : List ℕ) (Q : Tokens → Type 0)
    → AreFound ms → AreNamesOf form ms → DifferInNames (found_names ms) → AreNewMembers before ms → Goes Q s
    → Goes (Spells (each_behind p before) (found_said home written_as ms) Q) (found_lines targets ms ++ s)
members_row home written_as targets form p one [] before s Q are named differ new h = goes_none p before h
members_row home written_as targets form p one (m ∷ ms) before s Q are named differ new h =
    let said : MemberSaid = one_said home written_as m in
    let later : AreNewMembers (before ++ said ∷ []) ms = λ k has among.
    new_names (stated_names before) m.name (found_names ms) new differ.0 k has
    (subst (StandsAmong k) (map_push (λ x. x.name) before said) among)
    in
    goes_joined (member_text targets m.name m.target m.traits) (found_lines targets ms) s
    (goes_next p before said (found_said home written_as ms)
    (one before m (found_lines targets ms ++ s) _ are.0 named.0 (new m.name (inl refl))
    (members_row home written_as targets form p one ms (before ++ said ∷ []) s Q are.1 named.1 differ.1 later h)))

-- the members of a shape have the form of its type
pub record FitsForm (form : MemberForm) (ms : List FoundMember) (said : List MemberSaid) : Type 0 where
  pub named : AreNamesOf form ms
  pub differ : DifferInNames (found_names ms)
  pub has : HasMembers form said
  pub order : arranged form said ≡ said

pub members_go : (home : Home) (written_as : WrittenForm) (targets : Bool) (form : MemberForm) (p : List MemberSaid → Production MemberSaid)
    → ReadsMembers home written_as targets form p → (ms : List FoundMember) (s : List ℕ) {Q : Tokens → Type 0} → AreFound ms
    → FitsForm form ms (found_said home written_as ms) → Goes Q s
    → Goes (Spells (members form p) (found_said home written_as ms) Q) (123 ∷ (10 ∷ (found_lines targets ms ++ (125 ∷ (10 ∷ s)))))
members_go home written_as targets form p one ms s are fits h =
    let said : List MemberSaid = found_said home written_as ms in
    goes_value (members form p) fits.order
    (goes_marked 123 _ refl refl
    (goes_white 10 refl
    (goes_both (each p) _ said
    (members_row home written_as targets form p one ms [] (125 ∷ (10 ∷ s)) _ are fits.named fits.differ (λ k has among. among)
    (goes_marked_where 125 (HasMembers form said) _ refl refl fits.has
    (goes_gives (arranged form said) (goes_white 10 refl h)))))))

-- each form
any_named : (ms : List FoundMember) → AreNamesOf any ms
any_named [] = tt
any_named (m ∷ ms) = (tt, any_named ms)

pub fits_any : (home : Home) (written_as : WrittenForm) (ms : List FoundMember) → DifferInNames (found_names ms)
    → FitsForm any ms (found_said home written_as ms)
fits_any home written_as ms differ = record { named = any_named ms; differ = differ; has = tt; order = refl }

pub fits_list : (home : Home) (written_as : WrittenForm) (ms : List FoundMember) → found_names ms ≡ codes "member" ∷ []
    → FitsForm (exactly (codes "member" ∷ [])) ms (found_said home written_as ms)
fits_list home written_as [] e = absurd cc
fits_list home written_as (m ∷ []) e =
    let is : m.name ≡ codes "member" = cc in
    let x : MemberSaid = one_said home written_as m in record {
      named = (inl is, tt);
      differ = ((λ among. among), tt);
      has = (inl (sym is), tt);
      order = ap (λ b. (if b then x ∷ [] else []) ++ []) (ap (λ n. bytes_eq n (codes "member")) is);
    }
fits_list home written_as (m ∷ (n ∷ ms)) e = absurd cc

pub fits_map : (home : Home) (written_as : WrittenForm) (ms : List FoundMember) → found_names ms ≡ codes "key" ∷ (codes "value" ∷ [])
    → FitsForm (exactly (codes "key" ∷ (codes "value" ∷ []))) ms (found_said home written_as ms)
fits_map home written_as [] e = absurd cc
fits_map home written_as (m ∷ []) e = absurd cc
fits_map home written_as (m ∷ (n ∷ [])) e =
    let first : m.name ≡ codes "key" = cc in
    let second : n.name ≡ codes "value" = cc in
    let x : MemberSaid = one_said home written_as m in
    let y : MemberSaid = one_said home written_as n in record {
      named = (inl first, (inr (inl second), tt));
      differ = (
        (λ among. elim among [
          | inl same ↦ let wrong : codes "key" ≡ codes "value" = sym first ∙ same ∙ second in absurd cc
          | inr later ↦ later
        ]),
        ((λ among. among), tt),
      );
      has = (inl (sym first), (inr (inl (sym second)), tt));
      order = ap (λ b. (if b then x ∷ [] else member_under (codes "key") (y ∷ []))
          ++ (member_under (codes "value") (x ∷ (y ∷ [])) ++ [])) (ap (λ k. bytes_eq k (codes "key")) first)
          ∙ ap (λ b. x ∷ ((if b then x ∷ [] else member_under (codes "value") (y ∷ [])) ++ []))
          (ap (λ k. bytes_eq k (codes "value")) first)
          ∙ ap (λ b. x ∷ ((if b then y ∷ [] else []) ++ [])) (ap (λ k. bytes_eq k (codes "value")) second);
    }
fits_map home written_as (m ∷ (n ∷ (k ∷ ms))) e = absurd cc
