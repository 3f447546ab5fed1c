-- Where restJson1 is spoken: what is kept is of the service, and what it serves is served without restriction.
use Rattle.std.proofs.Common.{◌≡◌, ℕ, List, Option, None, subst}
use Rattle.sm_compile.specs.declared.compiled.Served.{Served}
use Rattle.sm_compile.specs.declared.compiled.Served.TheVariants.{Yes, Unserved}
use Rattle.sm_awsjson.specs.service.ServiceData.{ServiceData}
use Rattle.sm_awsjson.specs.messages.Goals.{operation_at}
use Rattle.sm_awsjson.specs.messages.HeadAnswers.{path_unserved}
use Rattle.sm_awsjson.specs.messages.IsForm.{ServesOperation}
use Rattle.sm_awsjson.specs.messages.MessageForm.{MessageForm}
use Rattle.sm_rest_laws.specs.rest.RestForm.{rest_form}
use Rattle.sm_rest_laws.specs.rest.RestOf.{IsRestOf}
use Rattle.sm_rest_laws.specs.rest.RestServable.{RestServable}
use Rattle.sm_rest_laws.specs.rest.declared.context.Rest.{Rest}
use Rattle.sm_protocols.specs.Forms.{form_of}
use Rattle.sm_protocols.specs.Kept.{IsKeptOf, protocol_of}
use Rattle.sm_protocols.specs.declared.spoken.Spoken.{Spoken}
use Rattle.sm_protocols.specs.declared.spoken.Spoken.TheVariants.{RestJson1}

pub rest_kept : (s : ServiceData) (spoken : Spoken) (rest : Rest) → spoken ≡ RestJson1 rest → IsKeptOf s spoken → IsRestOf s rest
rest_kept s spoken rest is h = subst (IsKeptOf s) is h

pub rest_serves : (s : ServiceData) (spoken : Spoken) (rest : Rest) → spoken ≡ RestJson1 rest → (form_of (protocol_of spoken)).serves s
    → RestServable s
rest_serves s spoken rest is h = subst (λ k. (form_of (protocol_of k)).serves s) is h

pub rest_serves_it : (s : ServiceData) (spoken : Spoken) (rest : Rest) (o : ℕ) → spoken ≡ RestJson1 rest
    → ServesOperation (form_of (protocol_of spoken)) s o → ServesOperation rest_form s o
rest_serves_it s spoken rest o is h = subst (λ k. ServesOperation (form_of (protocol_of k)) s o) is h

-- an operation that is served isn't restricted
pub unrestricted : (f : MessageForm) (s : ServiceData) (o : ℕ) → ServesOperation f s o → f.restriction s o ≡ None
unrestricted f s o h = by (operation_at s o).served (f.restriction s o) h.served
  where
    by : (served : Served) (path : Option (List ℕ)) → path_unserved served path ≡ None → path ≡ None
    by Yes path e = e
    by (Unserved other) path e = absurd cc
