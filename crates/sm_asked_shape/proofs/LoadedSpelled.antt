-- What stands in a graph that model files come to is spelled: members have ids, and the values of their traits are JSON.
use Rattle.std.proofs.Common.{◌≡◌, ℕ, List, ◌∷◌, ◌++◌, Option, Some, sym, ap, subst, ◌∙◌, append_assoc, append-nil}
use Rattle.std.proofs.lemmas.Option.{same_Some}
use Rattle.sm_io.specs.Files.{Folder}
use Rattle.sm_ids.specs.Identifier.{IsIdentifier}
use Rattle.sm_ids.specs.IdText.{Id, IsIdText, member_text}
use Rattle.sm_model.specs.Graphs.{Entry, shape_entry, member_entry, member_id}
use Rattle.sm_model.specs.References.{IsShapeId}
use Rattle.sm_merge.proofs.GraphSound.{IsMemberId, IsSoundEntry, stands_sound}
use Rattle.sm_compile.specs.Laws.{IsSpelledEntry, IsSpelledGraph}
use Rattle.sm_asked.specs.Loading.{Loaded}

-- the id of a member, from its parts
member_text_of : (shape name : List ℕ) → IsShapeId shape → IsIdentifier name → IsIdText (member_id shape name)
member_text_of shape name of named =
    let id : Id = of.0 in
    let base : shape ≡ id.namespace ++ 35 ∷ id.name =
    of.1.spelled ∙ ap (λ o. id.namespace ++ 35 ∷ (id.name ++ member_text o)) of.2
    ∙ ap (λ x. id.namespace ++ 35 ∷ x) (append-nil id.name) in (
      record { namespace = id.namespace; name = id.name; member = Some name },
      record {
        is_id = record {
          namespace = of.1.is_id.namespace;
          name = of.1.is_id.name;
          member = λ x is. subst IsIdentifier (same_Some name x is) named;
        };
        spelled = ap (λ x. x ++ 36 ∷ name) base ∙ append_assoc id.namespace (35 ∷ id.name) (36 ∷ name);
      },
    )

spelled_member : (id : List ℕ) → IsMemberId id → IsIdText id
spelled_member id h = subst IsIdText (sym h.is) (member_text_of h.shape h.name h.of_shape h.named)

spelled_entry : (id : List ℕ) (e : Entry) → IsSoundEntry id e → IsSpelledEntry id e
spelled_entry id (shape_entry s) h = tt
spelled_entry id (member_entry m) h = (spelled_member id h.0, λ name n at. (h.2 name n at).1.0)

pub loaded_spelled : (files : Option Folder) (names : List (List ℕ)) (l : Loaded files names) → IsSpelledGraph l.graph
loaded_spelled files names l id e found =
    spelled_entry id e
    (stands_sound l.accepted.said l.accepted.formed id e ((l.accepted.merged.is_graph.shapes id e).0 found))
