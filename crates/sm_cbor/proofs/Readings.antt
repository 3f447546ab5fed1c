-- Steps of the reader, from the laws of `CborLeads`: those that hand on nothing or one event, how they join.
use Rattle.std.proofs.Common.{◌≡◌, ℕ, ◌≤◌, List, [], ◌∷◌, ◌++◌, refl, sym, ap, subst, ◌∙◌, arith, length, length-append, append_assoc}
use Rattle.sm_tree.specs.Limits.{most_levels}
use Rattle.sm_tree.specs.Events.{NodeEvent}
use Rattle.sm_tree.specs.Streams.{StandsFor}
use Rattle.sm_tree.specs.Timing.{TimedEvent, by_byte, HandsOn}
use Rattle.sm_tree.proofs.Handing.{hands_sooner, hands_joined, takes_both}
use Rattle.sm_cbor.specs.steps.Marks.{Keys}
use Rattle.sm_cbor.specs.steps.Rest.{CborState, CborRest, CborLeads, LeadsBack}
use Rattle.sm_tree.specs.steps.Handing.{TakesAll}
use Rattle.sm_cbor.specs.steps.Machine.{cbor_state_at, cbor_state_of, IsSoundReader, CborGoes}
use Rattle.sm_cbor.specs.declared.place.CborPlace.{CborPlace}
use Rattle.sm_cbor.specs.declared.read.Reader.{Reader}

-- a step that hands on nothing, and one that hands on an event with its last byte
pub leads_silent : {w : Keys} {limit : ℕ} {x y : CborState} {v : List ℕ}
    → ((s : List ℕ) (es : List TimedEvent) → CborRest w limit x (v ++ s) es → CborRest w limit y s es)
    → ((s : List ℕ) (es : List TimedEvent) → CborRest w limit y s es → CborRest w limit x (v ++ s) es) → CborLeads w limit x v [] y
leads_silent to from = record { onward = λ s es h. ([], es, refl, tt, to s es h); back = λ s es h. ([], tt, from s es h) }

pub leads_one : {w : Keys} {limit : ℕ} {x y : CborState} {v : List ℕ} (e : NodeEvent)
    → ((s : List ℕ) (es : List TimedEvent) → CborRest w limit x (v ++ s) es
    → (fs : List TimedEvent) × CborRest w limit y s fs × (es ≡ by_byte e (length s) ∷ fs))
    → ((s : List ℕ) (fs : List TimedEvent) → CborRest w limit y s fs → CborRest w limit x (v ++ s) (by_byte e (length s) ∷ fs))
    → CborLeads w limit x v (e ∷ []) y
leads_one e to from = record {
  onward = λ s es h.
      let (fs, rest, is) = to s es h in (by_byte e (length s) ∷ [], fs, is, (refl, omega arith, tt), rest);
  back = λ s fs h. (by_byte e (length s) ∷ [], (refl, omega arith, tt), from s fs h);
}

-- no byte leads from a state to itself, and two steps join to one
pub leads_none : (w : Keys) (limit : ℕ) (x : CborState) → CborLeads w limit x [] [] x
leads_none w limit x = leads_silent (λ s es h. h) (λ s es h. h)

-- what the first of two steps hands on is complete where the second has ended
sooner : (v s : List ℕ) (os : List TimedEvent) (out : List NodeEvent) → HandsOn (length (v ++ s)) os out → HandsOn (length s) os out
sooner v s os out h = hands_sooner (length (v ++ s)) (length s) os out (let all = length-append v s in omega arith) h

pub back_joined : (w : Keys) (limit : ℕ) (x y z : CborState) (u v : List ℕ) (out more : List NodeEvent) → LeadsBack w limit x u out y
    → LeadsBack w limit y v more z → LeadsBack w limit x (u ++ v) (out ++ more) z
back_joined w limit x y z u v out more h g s gs rest =
    let (ps, hands1, rest1) = g s gs rest in
    let (os, hands, rest2) = h (v ++ s) (ps ++ gs) rest1 in (
      os ++ ps,
      hands_joined (length s) os ps out more (sooner v s os out hands) hands1,
      subst (λ q. CborRest w limit x q ((os ++ ps) ++ gs)) (sym (append_assoc u v s))
          (subst (λ q. CborRest w limit x (u ++ (v ++ s)) q) (sym (append_assoc os ps gs)) rest2),
    )

pub leads_joined : (w : Keys) (limit : ℕ) (x y z : CborState) (u v : List ℕ) (out more : List NodeEvent) → CborLeads w limit x u out y
    → CborLeads w limit y v more z → CborLeads w limit x (u ++ v) (out ++ more) z
leads_joined w limit x y z u v out more h g = record {
  onward = λ s es rest.
      let (os, fs, e, hands, rest1) = h.onward (v ++ s) es (subst (λ q. CborRest w limit x q es) (append_assoc u v s) rest) in
      let (ps, gs, e1, hands1, rest2) = g.onward s fs rest1 in (
        os ++ ps,
        gs,
        e ∙ ap (λ q. os ++ q) e1 ∙ sym (append_assoc os ps gs),
        hands_joined (length s) os ps out more (sooner v s os out hands) hands1,
        rest2,
      );
  back = back_joined w limit x y z u v out more h.back g.back;
}

-- a step of a state before a step of the reader
pub goes_by : (S M T : StandsFor) (before mid behind : Reader) (p q : CborPlace) (u v : List ℕ) (es : List NodeEvent)
    → CborGoes M mid [] q v T behind → TakesAll S es M
    → ((w : Keys) (limit : ℕ) → most_levels ≤ limit → CborLeads w limit (cbor_state_at before p) u es (cbor_state_at mid q))
    → CborGoes S before [] p (u ++ v) T behind
goes_by S M T before mid behind p q u v es goes taken leads = record {
  out = es ++ goes.out;
  leads = λ w limit high. leads_joined w limit (cbor_state_at before p) (cbor_state_at mid q) (cbor_state_of behind) u v es goes.out
      (leads w limit high) (goes.leads w limit high);
  taken = takes_both S M T es goes.out taken goes.taken;
  sound = goes.sound;
}

-- a step of a state whose events were handed on with those of the reader's step
pub goes_with : (S T : StandsFor) (before mid behind : Reader) (p q : CborPlace) (u v : List ℕ) (es : List NodeEvent)
    → CborGoes S mid es q v T behind
    → ((w : Keys) (limit : ℕ) → most_levels ≤ limit → CborLeads w limit (cbor_state_at before p) u es (cbor_state_at mid q))
    → CborGoes S before [] p (u ++ v) T behind
goes_with S T before mid behind p q u v es goes leads = record {
  out = es ++ goes.out;
  leads = λ w limit high. leads_joined w limit (cbor_state_at before p) (cbor_state_at mid q) (cbor_state_of behind) u v es goes.out
      (leads w limit high) (goes.leads w limit high);
  taken = goes.taken;
  sound = goes.sound;
}

-- the reader stands where it has come to
pub goes_to : (S T : StandsFor) (before behind : Reader) (p : CborPlace) (u : List ℕ) (es : List NodeEvent) → IsSoundReader behind
    → TakesAll S es T
    → ((w : Keys) (limit : ℕ) → most_levels ≤ limit → CborLeads w limit (cbor_state_at before p) u es (cbor_state_of behind))
    → CborGoes S before [] p u T behind
goes_to S T before behind p u es sound taken leads = record { out = es; leads = leads; taken = taken; sound = sound }
