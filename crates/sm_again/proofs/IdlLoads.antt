-- The texts of all namespaces of a model in the IDL load to the model.
use Rattle.std.proofs.Common.{inl, inr, ℕ, List, [], ◌∷◌, Ok, refl, sym, subst, IsUtf8}
use Rattle.sm_ids.specs.Identifier.{IsNamespace}
use Rattle.sm_ids.specs.TextParts.{local_part}
use Rattle.sm_ids.proofs.TextCuts.{id_cut}
use Rattle.sm_model.specs.Formed.{StandsAmong}
use Rattle.sm_model.specs.GraphView.{maps_of}
use Rattle.sm_model.specs.Graphs.{GraphMaps}
use Rattle.sm_ast.proofs.JsonGiven.{identifier_utf8}
use Rattle.sm_idl.specs.Written.{written_idl}
use Rattle.sm_idl.specs.WrittenFile.{namespace_file}
use Rattle.sm_merge.specs.Answers.{MergesTo}
use Rattle.sm_merge.proofs.GraphSound.{stands_sound}
use Rattle.sm_load.specs.Laws.{FormedFiles, SoundWithoutErrors}
use Rattle.sm_load.specs.Loading.{AreAccepted}
use Rattle.sm_load.specs.ModelFiles.{FileGiven, HaveStatements}
use Rattle.sm_load.specs.ModelFiles.HasStatements.{in_idl}
use Rattle.sm_again.specs.LoadsAgain.{AreIdlFiles, IdlLoads}
use Rattle.sm_again.specs.WrittenMerges.{written_files}
use Rattle.sm_again.specs.WrittenTexts.{AllSayIdl, written_texts}
use Rattle.sm_again.proofs.EnumTargets.{enums_target_unit, shape_id}
use Rattle.sm_again.proofs.GraphLoads.{accepted_whole}
use Rattle.sm_again.proofs.IdlUtf8.{idl_utf8}
use Rattle.sm_again.proofs.JsonGraphs.{entry_json, metadata_json}
use Rattle.sm_again.proofs.WrittenTexts.{read_merges}

-- each file has its statements
have_all : (g : GraphMaps) (ns : List (List ℕ)) (texts : List FileGiven) → AreIdlFiles g ns texts
    → AllSayIdl (written_texts g ns) (written_files g ns) → ((n : List ℕ) → StandsAmong n ns → IsUtf8 (written_idl g n))
    → HaveStatements texts (written_files g ns)
have_all g [] texts is say utf8 = subst (λ fs. HaveStatements fs []) (sym is) refl
have_all g (n ∷ ns) texts (name, rest, is, other, more) say utf8 =
    subst (λ fs. HaveStatements fs (written_files g (n ∷ ns))) (sym is) (
      (namespace_file g n).said,
      written_files g ns,
      refl,
      in_idl (record {
        other_name = other;
        is_utf8 = utf8 n (inl refl);
        file = say.0.file;
        is_text = say.0.is_text;
        version = say.0.version;
        says = say.0.says;
      }),
      have_all g ns rest more say.1 (λ m later. utf8 m (inr later)),
    )

-- the texts are UTF-8
text_utf8 : SoundWithoutErrors → (files : List FileGiven) (g : GraphMaps) → AreAccepted files g → (namespace : List ℕ)
    → IsNamespace namespace → IsUtf8 (written_idl g namespace)
text_utf8 sound files g a namespace is =
    idl_utf8 g (λ id e found. entry_json id e (stands_sound a.said a.formed id e ((a.merged.is_graph.shapes id e).0 found)))
    (λ id s found. identifier_utf8 (local_part id) (id_cut id (shape_id sound g (accepted_whole files g a) a.no_error id s found)).name)
    (metadata_json a.said g a.formed a.merged.is_graph) namespace is

pub idl_loads : FormedFiles → SoundWithoutErrors → IdlLoads
idl_loads formed sound files m namespaces texts loads shallow all are room idl =
    let a = loads.accepted in
    let g = maps_of m.graph in
    let merged : MergesTo a.said (Ok m.graph) = (a.merged.is_graph, a.merged.within, a.merged.right) in
    let again = read_merges a.said m.graph namespaces a.formed merged shallow
    (enums_target_unit sound g (accepted_whole files g a) a.no_error) all room are in
    let have = have_all g namespaces texts idl again.said (λ n among. text_utf8 sound files g a n (are n among)) in
    let comes : MergesTo (written_files g namespaces) (Ok m.graph) = again.merges (written_files g namespaces) again.said in record {
      accepted = record {
        said = written_files g namespaces;
        statements = have;
        formed = formed texts (written_files g namespaces) have;
        merged = record { is_graph = comes.0; within = comes.1; right = comes.2 };
        no_error = a.no_error;
      };
      events = loads.events;
    }
