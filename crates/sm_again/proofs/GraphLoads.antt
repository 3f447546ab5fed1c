-- The text of a graph in the JSON AST, as the one file, loads to the graph: of any graph that is made as merging makes them.
use Rattle.std.proofs.Common.{◌≡◌, ◌≤◌, inl, inr, ℕ, List, [], ◌∷◌, Some, refl, sym, subst, IsUtf8}
use Rattle.std.specs.FinMap as fin
use Rattle.sm_tree.specs.Json.{IsJson}
use Rattle.sm_tree.specs.Levels.{levels}
use Rattle.sm_tree.specs.Limits.{most_levels}
use Rattle.sm_tree.specs.Node.{Node}
use Rattle.sm_json.specs.JsonText.{JsonText}
use Rattle.sm_json.specs.Laws.{WrittenSpells}
use Rattle.sm_json.specs.Strings.{Whitespace}
use Rattle.sm_model.specs.FormedGraph.{IsFormedGraph}
use Rattle.sm_model.specs.GraphView.{maps_of}
use Rattle.sm_model.specs.Graphs.{Entry, GraphMaps, member_entry, shape_entry, traits_in}
use Rattle.sm_ast.specs.Ast.{Ast}
use Rattle.sm_ast.specs.GraphSaid.{graph_said}
use Rattle.sm_ast.specs.Laws.{WrittenIsJson, WrittenSays}
use Rattle.sm_ast.specs.Written.{written_ast}
use Rattle.sm_merge.specs.Limits.{IsWithinLimits}
use Rattle.sm_merge.proofs.FormedGraphs.{merged_formed}
use Rattle.sm_merge.proofs.GraphSound.{HoldsNamed, IsSoundEntry, metadata_named, stands_sound}
use Rattle.sm_merge.proofs.RegularGraphs.{IsRegular, merged_regular}
use Rattle.sm_load.specs.Laws.{FormedFiles}
use Rattle.sm_load.specs.Loading.{AreAccepted, HasError}
use Rattle.sm_load.specs.ModelFiles.{EndsInJson, FileGiven, HaveStatements, file_given}
use Rattle.sm_load.specs.ModelFiles.HasStatements.{in_ast}
use Rattle.sm_again.specs.LoadsAgain.{AstLoads, ast_text}
use Rattle.sm_again.proofs.AstMerges.{said_again}
use Rattle.sm_again.proofs.GraphNamed.{formed_named}

-- a graph as merging makes them: of the form of one, its bodies and members as they are told, its traits under ids, within the limits
pub record IsWhole (g : GraphMaps) : Type 0 where
  pub formed : IsFormedGraph g
  pub regular : IsRegular g
  pub traits : (k : List ℕ) (e : Entry) → fin.get g.shapes k ≡ Some e → HoldsNamed (traits_in e)
  pub keys : (k : List ℕ) (n : Node) → fin.get g.metadata k ≡ Some n → IsUtf8 k
  pub within : IsWithinLimits g

-- what stands in one that is accepted
sound_traits : (id : List ℕ) (e : Entry) → IsSoundEntry id e → HoldsNamed (traits_in e)
sound_traits id (shape_entry s) h = h.2
sound_traits id (member_entry m) h = h.2

pub accepted_whole : (files : List FileGiven) (g : GraphMaps) → AreAccepted files g → IsWhole g
accepted_whole files g a = record {
  formed = merged_formed a.said a.formed g a.merged.is_graph a.merged.within;
  regular = merged_regular a.said a.formed g a.merged.is_graph;
  traits = λ k e found. sound_traits k e (stands_sound a.said a.formed k e ((a.merged.is_graph.shapes k e).0 found));
  keys = λ k n found. (metadata_named a.said a.formed k n ((a.merged.is_graph.metadata k n).0 found)).0;
  within = a.merged.within;
}

module _ (is_json : WrittenIsJson) (says : WrittenSays) (spells : WrittenSpells) (files_formed : FormedFiles) where
  module _ (g : GraphMaps) (w : IsWhole g) where
    tree_json : IsJson (written_ast g)
    tree_json =
        subst (λ (x : GraphMaps). IsJson (written_ast x)) (sym w.formed.is)
        (is_json w.formed.shapes w.formed.metadata w.formed.given (formed_named g w.formed w.traits w.keys))

    tree_says : Ast (graph_said g) (written_ast g)
    tree_says =
        subst (λ (x : GraphMaps). Ast (graph_said x) (written_ast x)) (sym w.formed.is)
        (says w.formed.shapes w.formed.metadata w.formed.given (formed_named g w.formed w.traits w.keys))

    -- white space may stand behind a text
    is_text : JsonText (written_ast g) (ast_text g)
    is_text = (ast_text g, 10 ∷ [], same_text (ast_text g), spells (written_ast g) (10 ∷ []) tree_json, inr (refl, refl))
      where
        same_text : (s : List ℕ) → Whitespace s s
        same_text [] = refl
        same_text (c ∷ s) = inl refl

    pub graph_loads : (HasError g → ⊥) → levels (written_ast g) ≤ most_levels → (name : List ℕ) → EndsInJson name
        → AreAccepted (file_given name (ast_text g) ∷ []) g
    graph_loads none few name ends =
        let comes = said_again g w.regular in
        let have : HaveStatements (file_given name (ast_text g) ∷ []) (graph_said g ∷ []) = (
          graph_said g,
          [],
          refl,
          in_ast (record { is_json = ends; tree = written_ast g; is_text = (is_text, few); says = tree_says }),
          refl,
        ) in record {
          said = graph_said g ∷ [];
          statements = have;
          formed = files_formed (file_given name (ast_text g) ∷ []) (graph_said g ∷ []) have;
          merged = record { is_graph = comes.graph; within = w.within; right = comes.nothing_wrong };
          no_error = none;
        }

  pub ast_loads : AstLoads
  ast_loads files m name loads few ends = record {
    accepted = graph_loads (maps_of m.graph) (accepted_whole files (maps_of m.graph) loads.accepted) loads.accepted.no_error few name ends;
    events = loads.events;
  }
