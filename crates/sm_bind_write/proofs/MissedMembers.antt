-- The first member that isn't carried, and members before it.
use Rattle.std.proofs.Common.{◌≡◌, ℕ, true, false, List, ◌∷◌, ◌++◌, sym, ap, ◌∙◌, subst}
use Rattle.std.specs.Prelude.{Option, None, Some, IfSome}
use denote.Ref.{Bor}
use Rattle.std.specs.Option.{option_map}
use Rattle.sm_tree.specs.declared.path.Step.TheVariants.{Member}
use Rattle.sm_shapes.specs.Fitting.{Fits, any_text}
use Rattle.sm_shapes.specs.Places.{member_place}
use Rattle.sm_shapes.specs.TableData.{name_at}
use Rattle.sm_shapes.specs.Values.{FieldVals, Val}
use Rattle.sm_shapes.specs.ValueView.{val_of}
use Rattle.sm_shapes.specs.declared.values.Value.{Value}
use Rattle.sm_codec.specs.Encoded.{are_none, first_path}
use Rattle.sm_codec.specs.Written.{paths_under}
use Rattle.sm_bind.specs.Roles.{Bound}
use Rattle.sm_bind_write.specs.CarriedParts.{uncarried_member, uncarried_members}
use Rattle.sm_bind_write.specs.WrittenParts.{value_of}
use Rattle.sm_bind_write.specs.steps.FieldsMet.{AllAbove, FieldsIn, fields_behind, first_value}
use Rattle.sm_bind_write.proofs.FirstPaths.{first_of_some, none_first, none_joined, none_under}
use Rattle.sm_bind_write.proofs.MetFields.{members_behind, met}

-- what holds of a value that there may be
pub holds_seen : (P : Val → Type 0) (o : Option (Bor Value)) → IfSome (option_map (λ v. val_of v.now) o) P → IfSome o (λ v. P (val_of v.now))
holds_seen P None h = tt
holds_seen P (Some v) h = h

-- what is told of the next member is what is told of all
module _ (b : Bound) (k : ℕ) (ks : List ℕ) (fs : FieldVals) (o : Option Val) (above : AllAbove k ks) (inside : FieldsIn b.table (k ∷ ks) fs)
    (seen : o ≡ first_value k fs) where
  same_value : o ≡ value_of k fs
  same_value = seen ∙ (met b.table k ks fs above inside).0

  pub value_fits : IfSome o (λ v. Fits b.table any_text (member_place k) v)
  value_fits = subst (λ w. IfSome w (λ v. Fits b.table any_text (member_place k) v)) (sym seen) (met b.table k ks fs above inside).1

  pub fields_rest : FieldsIn b.table ks (fields_behind k fs)
  fields_rest = (met b.table k ks fs above inside).2

  pub missed_here : are_none (uncarried_member b k o) ≡ false
      → first_path (uncarried_members b fs (k ∷ ks)) ≡ first_path (paths_under (Member (name_at b.table k)) (uncarried_member b k o))
  missed_here some =
      ap (λ w. first_path (paths_under (Member (name_at b.table k)) (uncarried_member b k w) ++ uncarried_members b fs ks)) (sym same_value)
      ∙ first_of_some (Member (name_at b.table k)) (uncarried_member b k o) (uncarried_members b fs ks) some

  pub missed_behind : are_none (uncarried_member b k o) ≡ true
      → first_path (uncarried_members b fs (k ∷ ks)) ≡ first_path (uncarried_members b (fields_behind k fs) ks)
  missed_behind none =
      ap (λ w. first_path (paths_under (Member (name_at b.table k)) (uncarried_member b k w) ++ uncarried_members b fs ks)) (sym same_value)
      ∙ none_joined (paths_under (Member (name_at b.table k)) (uncarried_member b k o)) (uncarried_members b fs ks)
      (none_under (Member (name_at b.table k)) (uncarried_member b k o) (none_first (uncarried_member b k o) none))
      ∙ ap first_path (members_behind b k ks fs above)
