-- Members and mixins can be read from the front.
use Rattle.std.proofs.Common.{ℕ, List, [], codes, refl}
use Rattle.sm_model.specs.Kinds.{MemberForm, any}
use Rattle.sm_model.specs.Said.{TraitSaid, MemberSaid}
use Rattle.sm_idl.specs.Productions.{Production, ◌>>◌, maybe, each, many}
use Rattle.sm_idl.specs.Words.{IsMark, IsWordId, mark, mark_where, the_word, id}
use Rattle.sm_idl.specs.Nodes.{Home}
use Rattle.sm_idl.specs.Traits.{node_in, traits}
use Rattle.sm_idl.specs.Members.{HasMembers, member_name, given_value, enum_member_with, enum_member, member_with, member, field}
use Rattle.sm_idl.specs.Members.{members, with_mixins, mixins}
use Rattle.sm_idl.specs.steps.ReaderView.{NoToken}
use Rattle.sm_idl.specs.steps.Classes.{AMark, AnyWord, TraitGoesOn, Brace, Equals, MemberStart, With}
use Rattle.sm_idl.specs.steps.Firm.{AreApart, IsFirm}
use Rattle.sm_idl.proofs.FirmParts.{firm_wider}
use Rattle.sm_idl.proofs.FirmMany.{firm_each}
use Rattle.sm_idl.proofs.FirmShort.{token_firm, then_firm, given_firm, front_firm, row_firm, option_firm}
use Rattle.sm_idl.proofs.TokenClasses.{marks_unlike, mark_no_word, turned, apart_either, either_apart}
use Rattle.sm_idl.proofs.FirmNodes.{mark_firm}
use Rattle.sm_idl.proofs.FirmDocumented.{documented_firm}
use Rattle.sm_idl.proofs.FirmTraits.{word_firm, the_word_firm, node_in_firm, traits_firm}

pub value_firm : (home : Home) → IsFirm (Unit {0}) Equals Equals (given_value home)
value_firm home = option_firm (mark (codes "=") >> node_in home) (then_firm (mark (codes "=")) _ (mark_firm (codes "="))
    (λ _. node_in_firm home))

pub name_firm : (form : MemberForm) (before : List MemberSaid) → IsFirm ⊥ AnyWord NoToken (member_name form before)
name_firm form before = word_firm _

pub traits_no_word : AreApart TraitGoesOn AnyWord
traits_no_word = either_apart _ _ _ (mark_no_word (codes "@")) (mark_no_word (codes "("))

pub enum_member_with_firm : (home : Home) (before : List MemberSaid) (docs : List TraitSaid)
    → IsFirm ⊥ MemberStart Equals (enum_member_with home before docs)
enum_member_with_firm home before docs =
    front_firm (traits home) _ (traits_firm home) (λ ts.
    then_firm (member_name any before) _ (name_firm any before) (λ name.
    given_firm (given_value home) (λ value. _) (value_firm home))) traits_no_word

pub enum_member_firm : (home : Home) (before : List MemberSaid) → IsFirm ⊥ MemberStart Equals (enum_member home before)
enum_member_firm home before = documented_firm MemberStart Equals (enum_member_with home before) (enum_member_with_firm home before)

pub member_with_firm : (home : Home) (form : MemberForm) (before : List MemberSaid) (docs : List TraitSaid)
    → IsFirm ⊥ MemberStart NoToken (member_with home form before docs)
member_with_firm home form before docs =
    front_firm (traits home) _ (traits_firm home) (λ ts.
    then_firm (member_name form before) _ (name_firm form before) (λ name.
    then_firm (mark (codes ":")) _ (mark_firm (codes ":")) (λ _. given_firm id (λ target. _) (word_firm IsWordId)))) traits_no_word

pub member_firm : (home : Home) (form : MemberForm) (before : List MemberSaid) → IsFirm ⊥ MemberStart NoToken (member home form before)
member_firm home form before = documented_firm MemberStart NoToken (member_with home form before) (member_with_firm home form before)

pub field_firm : (home : Home) (before : List MemberSaid) → IsFirm ⊥ MemberStart Equals (field home before)
field_firm home before =
    then_firm (member home any before) _ (member_firm home any before) (λ m. given_firm (given_value home) (λ value. _) (value_firm home))

pub equals_no_member : AreApart Equals MemberStart
equals_no_member = apart_either _ _ _ (marks_unlike (codes "=") (codes "@") refl) (mark_no_word (codes "="))

pub closing_firm : (m : List ℕ) (Holds : Type 0) → IsFirm ⊥ (AMark m) NoToken (mark_where m Holds)
closing_firm m Holds = token_firm (λ t _. IsMark m t × Holds) (AMark m) (λ t x y h k. refl) (λ t x h. h.0)

pub members_firm : (form : MemberForm) (P : List MemberSaid → Production MemberSaid) → ((before : List MemberSaid)
    → IsFirm ⊥ MemberStart Equals (P before))
    → IsFirm ⊥ Brace NoToken (members form P)
members_firm form P p =
    then_firm (mark (codes "{")) _ (mark_firm (codes "{")) (λ _.
    front_firm (each P) _ (firm_each MemberStart Equals P p equals_no_member []) (λ ms.
    given_firm (mark_where (codes "}") (HasMembers form ms)) (λ _. _) (closing_firm (codes "}") (HasMembers form ms)))
    (either_apart _ _ _ (either_apart _ _ _ (marks_unlike (codes "@") (codes "}") refl) (turned _ _ (mark_no_word (codes "}"))))
    (marks_unlike (codes "=") (codes "}") refl)))

-- members without a value
pub plain_firm : (home : Home) (form : MemberForm) (before : List MemberSaid) → IsFirm ⊥ MemberStart Equals (member home form before)
plain_firm home form before = firm_wider (λ e. e) (λ t a. a) (λ t n. absurd n) (member_firm home form before)

pub with_mixins_firm : (home : Home) → IsFirm ⊥ With NoToken (with_mixins home)
with_mixins_firm home =
    then_firm (the_word (codes "with")) _ (the_word_firm (codes "with")) (λ _.
    then_firm (mark (codes "[")) _ (mark_firm (codes "[")) (λ _.
    front_firm (many id) _ (row_firm (λ _. id) [] (λ _. word_firm IsWordId)) (λ ws.
    given_firm (mark (codes "]")) (λ _. _) (mark_firm (codes "]"))) (turned _ _ (mark_no_word (codes "]")))))

pub mixins_firm : (home : Home) → IsFirm (Unit {0}) With With (mixins home)
mixins_firm home = given_firm (maybe (with_mixins home)) (λ given. _) (option_firm (with_mixins home) (with_mixins_firm home))
