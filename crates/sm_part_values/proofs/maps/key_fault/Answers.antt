use Rattle.std.proofs.Common.{◌≡◌, true, sym, ap, ◌∙◌}
use Rattle.std.specs.Prelude.{slice_index_or}
use Rattle.std.proofs.lemmas.Str.{is_utf8-from_IsUtf8}
use Rattle.sm_shapes.specs.Broken.{broken, first_broken}
use Rattle.sm_shapes.specs.ConstraintView.{constraint_data}
use Rattle.sm_shapes.specs.Fitting.{finder}
use Rattle.sm_shapes.specs.Places.{key_place, member_place}
use Rattle.sm_shapes.specs.TableData.{constraints_in, kind_at, members_at, target_in}
use Rattle.sm_shapes.specs.TableView.{table_data}
use Rattle.sm_shapes.specs.Values.{text_val}
use Rattle.sm_codec.specs.Codec.{codec_of}
use Rattle.sm_codec.specs.Conventions.{json_convention}
use Rattle.sm_codec.specs.PlaceView.{place_of}
use Rattle.sm_codec.specs.Readings.{key_faults}
use Rattle.sm_part_values.specs.steps.Maps.{IsFirstKind}
use Rattle.sm_part_values.proofs.TextsJoined.{key_first, map_ok}
use Rattle.sm_part_values.proofs.maps.key_fault.Goals as goal

pub returns-clause-first : goal.returns-clause-first
returns-clause-first g c =
    let t = table_data c.args.table.now in
    let test = g.P.Patterns.test in
    let codec = codec_of t (json_convention true) test in
    let p = place_of c.args.place in
    let key = c.args.key.now in
    let cs = constraint_data c.member-row.result.now.constraints in
    let at_k : key_place t p ≡ member_place c.key_member.result =
    ap member_place (sym (c.key_member.ensures ∙ ap (λ ms. slice_index_or ms 0 0) c.members.ensures
    ∙ ap (λ s. slice_index_or (members_at t s) 0 0) c.shape.ensures)) in
    map_ok c.judge_text.result (λ first. first ≡ first_broken (broken (finder t test) c.kind.result cs (text_val key)))
    (IsFirstKind (key_faults codec p key))
    (λ o e. key_first codec p key (is_utf8-from_IsUtf8 key c.utf8.key) c.key_member.result at_k cs c.kind.result
    (ap constraints_in c.member-row.ensures) (ap (kind_at t) (ap target_in c.member-row.ensures) ∙ sym c.kind.ensures) o e)
    c.judge_text.ensures.first
