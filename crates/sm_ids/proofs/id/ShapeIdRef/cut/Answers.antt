use Rattle.std.proofs.Common.{◌∙◌, sym, subst}
use Rattle.sm_ids.specs.Identifier.{IsIdentifier, IsNamespace}
use Rattle.sm_ids.proofs.Parting.{id_ascii, namespace_is, name_is, rest_is, copied_member, cut_spells}
use Rattle.sm_ids.proofs.id.ShapeIdRef.cut.Goals as goal

pub member_at-member-requires-clause-ascii : goal.member_at-member-requires-clause-ascii
member_at-member-requires-clause-ascii c = id_ascii c.requires.id c.args.text.now c.requires.spells

pub invariant_of-result : goal.invariant_of-result
invariant_of-result c =
    let h = c.requires in record {
      is_namespace = subst IsNamespace (sym (c.range-namespace.ensures.value ∙ namespace_is c.args.text.now c.args.ends h))
          h.spells.is_id.namespace;
      is_name = subst IsIdentifier (sym (c.range-name.ensures.value ∙ name_is c.args.text.now c.args.ends h)) h.spells.is_id.name;
      is_member = copied_member c.member_at-member.result h.id.member
          (c.member_at-member.ensures h.id.member (rest_is c.args.text.now c.args.ends h)) h.spells.is_id.member;
    }

pub returns : goal.returns
returns c =
    let h = c.requires in
    cut_spells c.args.text.now _ _ _ h.id h.spells (c.range-namespace.ensures.value ∙ namespace_is c.args.text.now c.args.ends h)
    (c.range-name.ensures.value ∙ name_is c.args.text.now c.args.ends h)
    (c.member_at-member.ensures h.id.member (rest_is c.args.text.now c.args.ends h))
