-- From states to texts: how the laws of `JsonLeads` are made and joined, what may stand where the bytes end, and what a run of
-- the reader says of a whole text.
use Rattle.std.proofs.Common.{◌≡◌, ℕ, ◌≤◌, List, [], ◌∷◌, ◌++◌, refl, sym, ap, subst, ◌∙◌, arith, length, length-append, append_assoc}
use Rattle.std.proofs.Common.{append-nil}
use Rattle.sm_tree.specs.Node.{Node}
use Rattle.sm_tree.specs.Levels.{levels}
use Rattle.sm_tree.specs.Events.{NodeEvent, events}
use Rattle.sm_tree.specs.Timing.{TimedEvent, by_byte, untimed}
use Rattle.sm_tree.specs.Timing.{HandsOn}
use Rattle.sm_tree.proofs.Handing.{hands_sooner, hands_joined, hands_untimed, untimed_append}
use Rattle.sm_json.specs.JsonText.{JsonText}
use Rattle.sm_json.specs.Timing.{ValueTimed, json_timing}
use Rattle.sm_json.specs.steps.Rest.{JsonState, json_start, JsonRest, JsonLeads}
use Rattle.sm_json.proofs.Timed.{text_timed, timed_text}

-- bytes that complete no event, and bytes whose last one completes one
pub silent_leads : (limit : ℕ) (x : JsonState) (w : List ℕ) (y : JsonState)
    → ((s : List ℕ) (ts : List TimedEvent) → JsonRest limit x (w ++ s) ts → JsonRest limit y s ts)
    → ((s : List ℕ) (ts : List TimedEvent) → JsonRest limit y s ts → JsonRest limit x (w ++ s) ts)
    → JsonLeads limit x w [] y
silent_leads limit x w y on come = record {
  onward = λ s ts h. ([], ts, refl, tt, on s ts h);
  back = λ s us h. ([], tt, come s us h);
}

pub spoken_leads : (limit : ℕ) (x : JsonState) (w : List ℕ) (e : NodeEvent) (y : JsonState)
    → ((s : List ℕ) (ts : List TimedEvent) → JsonRest limit x (w ++ s) ts
    → (us : List TimedEvent) × (ts ≡ by_byte e (length s) ∷ us) × JsonRest limit y s us)
    → ((s : List ℕ) (us : List TimedEvent) → JsonRest limit y s us → JsonRest limit x (w ++ s) (by_byte e (length s) ∷ us))
    → JsonLeads limit x w (e ∷ []) y
spoken_leads limit x w e y on come = record {
  onward = λ s ts h.
      let (us, is, rest) = on s ts h in (by_byte e (length s) ∷ [], us, is, (refl, omega arith, tt), rest);
  back = λ s us h. (by_byte e (length s) ∷ [], (refl, omega arith, tt), come s us h);
}

-- no byte leads from a state to itself, and two steps join to one
pub leads_none : (limit : ℕ) (x : JsonState) → JsonLeads limit x [] [] x
leads_none limit x = silent_leads limit x [] x (λ s ts h. h) (λ s ts h. h)

both : (w s : List ℕ) (os ps : List TimedEvent) (out more : List NodeEvent) → HandsOn (length (w ++ s)) os out → HandsOn (length s) ps more
    → HandsOn (length s) (os ++ ps) (out ++ more)
both w s os ps out more hands hands1 =
    hands_joined (length s) os ps out more (hands_sooner (length (w ++ s)) (length s) os out (omega (arith, length-append w s)) hands)
    hands1

pub leads_joined : (limit : ℕ) (x y z : JsonState) (v w : List ℕ) (out more : List NodeEvent) → JsonLeads limit x v out y
    → JsonLeads limit y w more z → JsonLeads limit x (v ++ w) (out ++ more) z
leads_joined limit x y z v w out more h g = record {
  onward = λ s ts rest.
      let (os, us, e, hands, rest1) = h.onward (w ++ s) ts (subst (λ u. JsonRest limit x u ts) (append_assoc v w s) rest) in
      let (ps, vs, e1, hands1, rest2) = g.onward s us rest1 in
      (os ++ ps, vs, e ∙ ap (λ u. os ++ u) e1 ∙ sym (append_assoc os ps vs), both w s os ps out more hands hands1, rest2);
  back = λ s us rest.
      let (ps, hands1, rest1) = g.back s us rest in
      let (os, hands, rest2) = h.back (w ++ s) (ps ++ us) rest1 in (
        os ++ ps,
        both w s os ps out more hands hands1,
        subst (λ u. JsonRest limit x u ((os ++ ps) ++ us)) (sym (append_assoc v w s))
            (subst (λ u. JsonRest limit x (v ++ (w ++ s)) u) (sym (append_assoc os ps us)) rest2),
      );
}

-- what the first state says of a whole text
pub start_timed : (limit : ℕ) (bs : List ℕ) (ts : List TimedEvent) → JsonRest limit json_start bs ts
    → (n : Node) × json_timing n bs ts × (levels n ≤ limit)
start_timed limit bs ts (s, k, (n, r, us, h, room, (k1, e))) = (n, (s, r, k, subst (λ x. ValueTimed n s r ts x) e h, k1), omega arith)

pub timed_start : (limit : ℕ) (bs : List ℕ) (n : Node) (ts : List TimedEvent) → json_timing n bs ts → levels n ≤ limit
    → JsonRest limit json_start bs ts
timed_start limit bs n ts (s, r, k, h, k1) room = (s, k, (n, r, [], h, omega arith, (k1, refl)))

pub start_text : (limit : ℕ) (bs : List ℕ) (ts : List TimedEvent) → JsonRest limit json_start bs ts
    → (n : Node) × JsonText n bs × (levels n ≤ limit) × (untimed ts ≡ events n [])
start_text limit bs ts h =
    let (n, timed, room) = start_timed limit bs ts h in
    let (text, is) = timed_text n bs ts timed in (n, text, room, is)

pub text_start : (limit : ℕ) (bs : List ℕ) (n : Node) → JsonText n bs → levels n ≤ limit
    → (ts : List TimedEvent) × JsonRest limit json_start bs ts
text_start limit bs n text room =
    let (ts, timed) = text_timed n bs text in (ts, timed_start limit bs n ts timed room)

-- a run through all the bytes to a state in which they may end: the bytes are a text with these events
pub run_is_text : (limit : ℕ) (bs : List ℕ) (out : List NodeEvent) (last : List TimedEvent) (x : JsonState)
    → JsonLeads limit json_start bs out x → JsonRest limit x [] last
    → (n : Node) × JsonText n bs × (levels n ≤ limit) × (out ++ untimed last ≡ events n [])
run_is_text limit bs out last x h rest =
    let (os, hands, rest1) = h.back [] last rest in
    let (n, text, room, is) = start_text limit bs (os ++ last)
    (subst (λ u. JsonRest limit json_start u (os ++ last)) (append-nil bs) rest1) in
    (n, text, room, ap (λ es. es ++ untimed last) (sym (hands_untimed 0 os out hands)) ∙ sym (untimed_append os last) ∙ is)

-- a run through all the bytes to a state in which they may not end: they are no text
pub run_is_cut : (limit : ℕ) (bs : List ℕ) (out : List NodeEvent) (x : JsonState) → JsonLeads limit json_start bs out x
    → ((ts : List TimedEvent) → JsonRest limit x [] ts → ⊥)
    → (n : Node) → JsonText n bs → levels n ≤ limit → ⊥
run_is_cut limit bs out x h cut n t room =
    let (ts, begun) = text_start limit bs n t room in
    let (os, us, e, hands, rest) = h.onward [] ts (subst (λ u. JsonRest limit json_start u ts) (sym (append-nil bs)) begun) in cut us rest
