-- A service of model files is served by each protocol: the values of traits in its graph are JSON, so the texts that are written into
-- targets are bytes, and defaults change none of them.
use Rattle.std.proofs.Common.{◌≡◌, ℕ, zero, suc, List, [], ◌∷◌, Option, None, Some, refl, sym, ◌∙◌, subst}
use Rattle.std.specs.Prelude.{slice_get}
use Rattle.std.specs.FinMap as fin
use Rattle.std.proofs.lemmas.Option.{none-some}
use Rattle.sm_io.specs.Files.{Folder}
use Rattle.sm_tree.specs.Json.{IsJson}
use Rattle.sm_tree.specs.Node.{Node}
use Rattle.sm_model.specs.Graphs.{Entry, member_entry, shape_entry, traits_in}
use Rattle.sm_merge.proofs.GraphSound.{IsSoundEntry, stands_sound}
use Rattle.sm_shapes.specs.Fitting.{Test}
use Rattle.sm_shapes.specs.TableData.{MemberData, binding_in}
use Rattle.sm_codec.specs.Codec.{Codec}
use Rattle.sm_codec.specs.Defaults.{filled, filled_members, node_codec}
use Rattle.sm_compile.specs.Sound.{trait_in}
use Rattle.sm_http.specs.declared.message.Protocol.{Protocol}
use Rattle.sm_asked_service.specs.service.Filled.{over_table}
use Rattle.sm_asked_service.specs.service.ServiceData.{ServiceData}
use Rattle.sm_gateway.specs.rest.Laws.{HasJsonTraits, TargetTextsWhereJson}
use Rattle.sm_gateway.specs.rest.RestServable.{HasTargetTexts, RestServable}
use Rattle.sm_asked_service.specs.asked.Loading.{Loaded}
use Rattle.sm_asked_service.specs.asked.Stages.{Told}
use Rattle.sm_asked_service.specs.LoadsService.{CanBeServed, IsLoadedService}
use Rattle.sm_asked_service.specs.ServiceStages.{ServiceMade, service_of}
use Rattle.sm_gateway.proofs.protocols.ProtocolsServe.{each_serves}
use Rattle.sm_gateway.specs.GatewayData.{ServesBoth}

-- the values of traits
json_held : (id : List ℕ) (e : Entry) → IsSoundEntry id e → (trait : List ℕ) (n : Node) → fin.get (traits_in e) trait ≡ Some n → IsJson n
json_held id (shape_entry s) h trait n found = (h.2 trait n found).1.0
json_held id (member_entry m) h trait n found = (h.2 trait n found).1.0

pub loaded_json : (files : Option Folder) (names : List (List ℕ)) (l : Loaded files names) → HasJsonTraits l.graph
loaded_json files names l id trait n is = by (fin.get l.graph.shapes id) refl is
  where
    by : (there : Option Entry) → fin.get l.graph.shapes id ≡ there → trait_in trait there ≡ Some n → IsJson n
    by None same found = absurd (none-some n found)
    by (Some e) same found =
        json_held id e (stands_sound l.accepted.said l.accepted.formed id e ((l.accepted.merged.is_graph.shapes id e).0 same)) trait n found

-- defaults change no binding
binding_stays : (c : Codec) (k : ℕ) (ms : List MemberData) (j : ℕ)
    → binding_in (slice_get (filled_members c k ms) j) ≡ binding_in (slice_get ms j)
binding_stays c k [] j = refl
binding_stays c k (m ∷ ms) zero = refl
binding_stays c k (m ∷ ms) (suc j) = binding_stays c (suc k) ms j

texts_stay : (s : ServiceData) (test : Test) → HasTargetTexts s → HasTargetTexts (over_table s (filled s.table test))
texts_stay s test h = record {
  patterns = h.patterns;
  queries = λ k name is. h.queries k name (sym (binding_stays (node_codec s.table test) 0 s.table.members k) ∙ is);
}

made_texts : TargetTextsWhereJson → (t : Told) (names : List (List ℕ)) (service : List ℕ) (m : ServiceMade t names service)
    → HasTargetTexts (service_of t names service m)
made_texts texts t names service m =
    texts_stay m.one t.test
    (texts m.there.loaded.graph service m.one (loaded_json t.files names m.there.loaded) m.compiled.of_graph)

-- so a gateway of it serves, between any two protocols
pub loaded_serves : TargetTextsWhereJson → (t : Told) (names : List (List ℕ)) (service : List ℕ) (s : ServiceData)
    → IsLoadedService t names service s → (added : List (List ℕ)) → CanBeServed s t.test added → (front back : Protocol) (host : List ℕ)
    → ServesBoth (record { service = s; front = front; back = back; host = host }) t.test
loaded_serves texts t names service s loaded added served front back host =
    let all : RestServable s = record {
      http = served.http_servable;
      texts = subst HasTargetTexts (sym loaded.is) (made_texts texts t names service loaded.made);
    } in
    record {
      servable = served.servable;
      asks = (each_serves front s all, each_serves back s all);
      defaults = served.pass;
    }
