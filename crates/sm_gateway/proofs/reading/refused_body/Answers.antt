use Rattle.std.proofs.Common.{refl}
use Rattle.sm_protocols.specs.messages.HeadAnswers.{not_served, unknown_error, unknown_operation, wrong_media_type, wrong_protocol}
use Rattle.sm_protocols.specs.messages.MessageAnswers.{by_fault, by_head, by_syntax}
use Rattle.sm_protocols.specs.messages.declared.refusal.MessageRefusal.TheVariants.{Fault, MediaType, Protocol, Syntax, UnknownError}
use Rattle.sm_protocols.specs.messages.declared.refusal.MessageRefusal.TheVariants.{UnknownOperation, Unserved}
use Rattle.sm_gateway.proofs.RefusalsSaid.{refuses}
use Rattle.sm_gateway.proofs.reading.refused_body.Goals as goal

pub returns-in-Protocol : goal.returns-in-Protocol
returns-in-Protocol c = refuses c.args.refusal Protocol (by_head wrong_protocol) c.in-Protocol.is refl

pub returns-in-UnknownOperation : goal.returns-in-UnknownOperation
returns-in-UnknownOperation c = refuses c.args.refusal UnknownOperation (by_head unknown_operation) c.in-UnknownOperation.is refl

pub returns-in-Unserved : goal.returns-in-Unserved
returns-in-Unserved c =
    refuses c.args.refusal (Unserved c.in-Unserved.path) (by_head (not_served c.in-Unserved.path)) c.in-Unserved.is refl

pub returns-in-MediaType : goal.returns-in-MediaType
returns-in-MediaType c = refuses c.args.refusal MediaType (by_head wrong_media_type) c.in-MediaType.is refl

pub returns-in-UnknownError : goal.returns-in-UnknownError
returns-in-UnknownError c = refuses c.args.refusal UnknownError (by_head unknown_error) c.in-UnknownError.is refl

pub returns-in-Syntax : goal.returns-in-Syntax
returns-in-Syntax c = refuses c.args.refusal (Syntax c.in-Syntax.why) (by_syntax c.in-Syntax.why) c.in-Syntax.is refl

pub returns-in-Fault : goal.returns-in-Fault
returns-in-Fault c =
    refuses c.args.refusal (Fault c.in-Fault.fault) (by_fault c.in-Fault.fault.path c.in-Fault.fault.kind) c.in-Fault.is refl
