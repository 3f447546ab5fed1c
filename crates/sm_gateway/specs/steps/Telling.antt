-- What a function makes of a refusal that is told: of running out of memory it makes nothing.
use Rattle.sm_protocols.specs.messages.HeadAnswers.{not_served, unknown_error, unknown_operation, wrong_media_type, wrong_protocol}
use Rattle.sm_protocols.specs.messages.MessageAnswers.{Refusal, by_fault, by_head, by_syntax}
use Rattle.sm_protocols.specs.messages.declared.refusal.MessageRefusal.{MessageRefusal}
use Rattle.sm_protocols.specs.messages.declared.refusal.MessageRefusal.TheVariants.{Fault, MediaType, NoMemory, Protocol, Syntax, UnknownError}
use Rattle.sm_protocols.specs.messages.declared.refusal.MessageRefusal.TheVariants.{UnknownOperation, Unserved}

abbrev pub ToldAs : (Refusal → Type 0) → MessageRefusal → Type 0
ToldAs is Protocol = is (by_head wrong_protocol)
ToldAs is UnknownOperation = is (by_head unknown_operation)
ToldAs is (Unserved path) = is (by_head (not_served path))
ToldAs is MediaType = is (by_head wrong_media_type)
ToldAs is UnknownError = is (by_head unknown_error)
ToldAs is (Syntax why) = is (by_syntax why)
ToldAs is (Fault f) = is (by_fault f.path f.kind)
ToldAs is NoMemory = ⊥
