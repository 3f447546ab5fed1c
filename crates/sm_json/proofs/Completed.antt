-- What a reader has handed on since its first byte is what the bytes complete, no more and no less.
use Rattle.std.proofs.Common.{◌≡◌, ℕ, List, [], refl, subst, arith}
use Rattle.sm_tree.specs.Events.{NodeEvent}
use Rattle.sm_tree.specs.Timing.{Completes}
use Rattle.sm_tree.specs.Syntax.{most_levels}
use Rattle.sm_json.specs.Timing.{json_timing}
use Rattle.sm_json.specs.steps.StringReading.{string_so_far}
use Rattle.sm_json.specs.steps.Rest.{json_start, JsonLeads}
use Rattle.sm_json.specs.steps.Machine.{where_of, json_state, JsonIsSound, JsonGoes}
use Rattle.sm_json.specs.declared.place.JsonPlace.{JsonPlace}
use Rattle.sm_json.specs.declared.place.JsonPlace.TheVariants.{Value, FirstEntry, FirstKey, NextKey, Colon, After, Word, Number, Text}
use Rattle.sm_json.specs.declared.read.Reader.{Reader}
use Rattle.sm_json.specs.Laws.{NoEventYet}
use Rattle.sm_json.proofs.Whole.{leads_none}
use Rattle.sm_json.proofs.Readers.{kept_at}
use Rattle.sm_json.proofs.Onward.{reader_goes_on}
use Rattle.sm_json.proofs.Later.{IsGoingOn, run_completes, one_completed}

-- a reader between two bytes is nowhere where something is over
going_at : (r : Reader) (p : JsonPlace) → r.place ≡ p → JsonIsSound r
    → IsGoingOn (where_of p r.number.items r.text.spot (string_so_far r.text))
going_at r Value e sound = tt
going_at r FirstEntry e sound = tt
going_at r FirstKey e sound = tt
going_at r NextKey e sound = tt
going_at r Colon e sound = tt
going_at r After e sound = tt
going_at r (Word w taken) e sound = kept_at r (Word w taken) e sound
going_at r (Number phase) e sound = tt
going_at r (Text role) e sound = r.text.live

pub begun : (r q : Reader) (bs : List ℕ) (out : List NodeEvent) → JsonGoes r bs out q → json_state r ≡ json_start
    → JsonLeads most_levels json_start bs out (json_state q)
begun r q bs out goes begins = subst (λ x. JsonLeads most_levels x bs out (json_state q)) begins (goes.leads most_levels (omega arith))

pub bytes_complete : (r q : Reader) (bs : List ℕ) (out : List NodeEvent) → JsonGoes r bs out q → json_state r ≡ json_start
    → Completes json_timing bs out
bytes_complete r q bs out goes begins =
    run_completes bs out (json_state q) (begun r q bs out goes begins) (reader_goes_on q goes.sound) (going_at q q.place refl goes.sound)

pub bytes_complete_one : (r q : Reader) (bs : List ℕ) (out es : List NodeEvent) → JsonGoes r bs out q → json_state r ≡ json_start
    → Completes json_timing bs es → es ≡ out
bytes_complete_one r q bs out es goes begins h =
    one_completed bs out es (json_state q) (begun r q bs out goes begins) (going_at q q.place refl goes.sound) h

-- before the first byte
pub none_yet : NoEventYet
none_yet es done = one_completed [] [] es json_start (leads_none most_levels json_start) tt done
