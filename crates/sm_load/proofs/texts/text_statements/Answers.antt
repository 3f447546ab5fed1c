use Rattle.std.proofs.Common.{Err, refl, sym, subst}
use Rattle.std.specs.Str.{IsValidUpTo}
use Rattle.sm_idl.specs.Answers.{ReadsIdl}
use Rattle.sm_idl.specs.Idl.{Idl}
use Rattle.sm_idl.proofs.IdlAnswers.{refused_by}
use Rattle.sm_load.specs.ModelFiles.HasStatements.{in_idl}
use Rattle.sm_load.proofs.texts.text_statements.Goals as goal

pub returns-in-Err : goal.returns-in-Err
returns-in-Err c = λ name other. (
  refl,
  (other, subst (IsValidUpTo c.args.bytes.now) (sym c.valid_up_to.ensures) c.in-Err.ensures.cases.1),
)

pub returns-in-Ok-read_idl : goal.returns-in-Ok-read_idl
returns-in-Ok-read_idl c = λ name other.
    let (f, said, version, idl) = c.in-Ok-read_idl.ensures.reads in (
      in_idl (record {
        other_name = other;
        is_utf8 = c.in-Ok.ensures.cases.1;
        file = f;
        is_text = subst (Idl f) c.in-Ok.ensures.cases.0 idl;
        version = version;
        says = said;
      }),
      c.in-Ok-read_idl.ensures.formed,
    )

pub returns-in_default : goal.returns-in_default
returns-in_default c = λ name other. (
  refl,
  (
    other,
    c.in-Ok.ensures.cases.1,
    refused_by c.args.bytes.now c.in-Err-read_idl.refusal
        (subst (λ t. ReadsIdl t (Err c.in-Err-read_idl.refusal)) c.in-Ok.ensures.cases.0 c.in-Err-read_idl.ensures.reads)
        c.in_default.not-NoMemory,
  ),
)
