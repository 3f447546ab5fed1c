-- A measure for recursions over nodes of statements: each part weighs less than the whole.
use Rattle.std.proofs.Common.{ℕ, ◌+◌}
use Rattle.sm_model.specs.Raw.{Raw, Raws, RawMembers, raw_leaf, raw_id, raw_list, raw_object, no_raws, raw, no_raw_members, raw_member}

abbrev mutual
  pub raw_weight : Raw → ℕ
  raw_weight (raw_leaf n) = 1
  raw_weight (raw_id r) = 1
  raw_weight (raw_list ns) = raws_weight ns + 1
  raw_weight (raw_object ms) = raw_members_weight ms + 1

  pub raws_weight : Raws → ℕ
  raws_weight no_raws = 0
  raws_weight (raw n ns) = raw_weight n + raws_weight ns + 1

  pub raw_members_weight : RawMembers → ℕ
  raw_members_weight no_raw_members = 0
  raw_members_weight (raw_member k n ms) = raw_weight n + raw_members_weight ms + 1
