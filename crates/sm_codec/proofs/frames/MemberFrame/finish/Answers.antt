use Rattle.std.proofs.Common.{◌≡◌, cond, [], sym, ap, ◌∙◌}
use Rattle.std.specs.Prelude.{Some, None}
use Rattle.std.specs.Option.{option_map}
use Rattle.sm_shapes.specs.Values.{structure_val, fields_of}
use Rattle.sm_shapes.specs.TableView.{table_data}
use Rattle.sm_shapes.specs.declared.fault.FaultKind.TheVariants.{Missing}
use Rattle.sm_codec.specs.Decoding.{good, bad}
use Rattle.sm_codec.specs.FrameView.{fault_at, member_frame, outcome_of}
use Rattle.sm_codec.specs.steps.MemberSteps.{at_member}
use Rattle.sm_codec.specs.steps.ClosingSteps.{EndsGood, structure_end}
use Rattle.sm_codec.proofs.StructureOutcome.{end_is, lacking, put_needed, missing_in, known_by}
use Rattle.sm_codec.proofs.frames.MemberFrame.finish.Goals as goal

pub returns-in-None-None : goal.returns-in-None-None
returns-in-None-None c =
    let t = table_data c.args.table.now in
    let f = member_frame c.args.self in
    let least = lacking t f.shape f.fields c.needed-needed.result.now c.first_missing-missing.result c.requires.shaped c.requires.shape
    c.first_missing-missing.ensures c.needed-needed.ensures in
    let ends = end_is t f None None (ap (option_map fault_at) c.in-None-None.is-0) (least ∙ c.in-None-None.is-1) in
    known_by (λ o. EndsGood t c.needed-needed.result.now f.fields (outcome_of o))
    (λ o. outcome_of o ≡ structure_end t f) c.with_defaults.result
    (λ o is. is ∙ ap (λ fs. good (structure_val (fields_of fs)))
    (put_needed t f.shape f.fields c.needed-needed.result.now c.requires.shaped c.requires.shape c.needed-needed.ensures) ∙ sym ends)
    c.with_defaults.ensures

pub missing_at-requires : goal.missing_at-requires
missing_at-requires c =
    let t = table_data c.args.table.now in
    let f = member_frame c.args.self in
    let least = lacking t f.shape f.fields c.needed-needed.result.now c.first_missing-missing.result c.requires.shaped c.requires.shape
    c.first_missing-missing.ensures c.needed-needed.ensures in
    missing_in t f.shape f.fields c.in-None-Some.member c.requires.shaped c.requires.shape (least ∙ c.in-None-Some.is-1)

pub returns-in-None-Some : goal.returns-in-None-Some
returns-in-None-Some c =
    let t = table_data c.args.table.now in
    let f = member_frame c.args.self in
    let least = lacking t f.shape f.fields c.needed-needed.result.now c.first_missing-missing.result c.requires.shaped c.requires.shape
    c.first_missing-missing.ensures c.needed-needed.ensures in
    let k = c.in-None-Some.member in
    let ends = end_is t f None (Some k) (ap (option_map fault_at) c.in-None-Some.is-0) (least ∙ c.in-None-Some.is-1) in
    known_by (λ o. outcome_of o ≡ bad (at_member t k ([], Missing))) (λ o. outcome_of o ≡ structure_end t f) c.missing_at.result
    (λ o is. is ∙ sym ends) c.missing_at.ensures

pub returns-in-Some-None : goal.returns-in-Some-None
returns-in-Some-None c =
    let t = table_data c.args.table.now in
    let f = member_frame c.args.self in
    let least = lacking t f.shape f.fields c.needed-needed.result.now c.first_missing-missing.result c.requires.shaped c.requires.shape
    c.first_missing-missing.ensures c.needed-needed.ensures in
    sym (end_is t f (Some (fault_at c.in-Some-None.fault)) None (ap (option_map fault_at) c.in-Some-None.is-0)
    (least ∙ c.in-Some-None.is-1))

pub missing_at-requires-then-stands_before : goal.missing_at-requires-then-stands_before
missing_at-requires-then-stands_before c =
    let t = table_data c.args.table.now in
    let f = member_frame c.args.self in
    let least = lacking t f.shape f.fields c.needed-needed.result.now c.first_missing-missing.result c.requires.shaped c.requires.shape
    c.first_missing-missing.ensures c.needed-needed.ensures in
    missing_in t f.shape f.fields c.in-Some-Some.member c.requires.shaped c.requires.shape (least ∙ c.in-Some-Some.is-1)

pub returns-then-stands_before : goal.returns-then-stands_before
returns-then-stands_before c =
    let t = table_data c.args.table.now in
    let f = member_frame c.args.self in
    let least = lacking t f.shape f.fields c.needed-needed.result.now c.first_missing-missing.result c.requires.shaped c.requires.shape
    c.first_missing-missing.ensures c.needed-needed.ensures in
    let k = c.in-Some-Some.member in
    let w = fault_at c.in-Some-Some.fault in
    let ends = end_is t f (Some w) (Some k) (ap (option_map fault_at) c.in-Some-Some.is-0) (least ∙ c.in-Some-Some.is-1) in
    let first = ap (λ b. cond b (bad (at_member t k ([], Missing))) (bad w)) (sym c.if-stands_before.ensures) in
    known_by (λ o. outcome_of o ≡ bad (at_member t k ([], Missing))) (λ o. outcome_of o ≡ structure_end t f)
    c.missing_at-then-stands_before.result (λ o is. is ∙ sym (ends ∙ first)) c.missing_at-then-stands_before.ensures

pub returns : goal.returns
returns c =
    let t = table_data c.args.table.now in
    let f = member_frame c.args.self in
    let least = lacking t f.shape f.fields c.needed-needed.result.now c.first_missing-missing.result c.requires.shaped c.requires.shape
    c.first_missing-missing.ensures c.needed-needed.ensures in
    let k = c.in-Some-Some.member in
    let w = fault_at c.in-Some-Some.fault in
    let ends = end_is t f (Some w) (Some k) (ap (option_map fault_at) c.in-Some-Some.is-0) (least ∙ c.in-Some-Some.is-1) in
    sym (ends ∙ ap (λ b. cond b (bad (at_member t k ([], Missing))) (bad w)) (sym c.if-stands_before.ensures))
