-- Files that say the same statements in the same order load to the same model.
use Rattle.std.proofs.Common.{◌≡◌, ◌∷◌, List, [], Ok, sym, ap, subst, ◌∙◌}
use Rattle.sm_json.proofs.OneTree.{one_tree}
use Rattle.sm_model.specs.Said.{Said}
use Rattle.sm_ast.specs.Ast.{Ast}
use Rattle.sm_ast.proofs.OneReading.{one_reading}
use Rattle.sm_idl.proofs.OneFile.{one_reading as one_file}
use Rattle.sm_merge.specs.Answers.{MergesTo}
use Rattle.sm_merge.specs.Laws.{OneFileOrSeveral}
use Rattle.sm_merge.specs.Stated.{all_said}
use Rattle.sm_idl.specs.Idl.{FileSaid}
use Rattle.sm_load.specs.Laws.{FormedFiles}
use Rattle.sm_load.specs.ModelFiles.{FileGiven, HasStatements, HaveStatements}
use Rattle.sm_load.specs.ModelFiles.HasStatements.{in_ast, in_idl}
use Rattle.sm_again.specs.LoadsAgain.{SameStatements}

-- a file says one list of statements, and so do several
said_same : (f : FileGiven) (s t : List Said) → HasStatements f s → HasStatements f t → s ≡ t
said_same f s t (in_ast h) (in_ast i) =
    one_reading s t i.tree (subst (Ast s) (one_tree h.tree i.tree f.bytes h.is_text.0 i.is_text.0) h.says) i.says
said_same f s t (in_ast h) (in_idl i) = absurd (i.other_name h.is_json)
said_same f s t (in_idl h) (in_ast i) = absurd (h.other_name i.is_json)
said_same f s t (in_idl h) (in_idl i) =
    sym h.says ∙ ap (λ (x : FileSaid). x.said) (one_file f.bytes h.file i.file h.is_text i.is_text) ∙ i.says

all_same : (fs : List FileGiven) (ss ts : List (List Said)) → HaveStatements fs ss → HaveStatements fs ts → ss ≡ ts
all_same [] ss ts h i = h ∙ sym i
all_same (f ∷ fs) ss ts (s, more, e, is, later) (t, more1, e1, is1, later1) =
    e ∙ ap (λ x. x ∷ more) (said_same f s t is is1) ∙ ap (λ xs. t ∷ xs) (all_same fs more more1 later later1) ∙ sym e1

pub same_load : FormedFiles → OneFileOrSeveral → SameStatements
same_load formed several files more said others m have have1 same loads =
    let a = loads.accepted in
    let one : all_said a.said ≡ all_said others = ap all_said (all_same files a.said said a.statements have) ∙ same in
    let merged : MergesTo others (Ok m.graph) =
    several a.said others (Ok m.graph) one (a.merged.is_graph, a.merged.within, a.merged.right) in record {
      accepted = record {
        said = others;
        statements = have1;
        formed = formed more others have1;
        merged = record { is_graph = merged.0; within = merged.1; right = merged.2 };
        no_error = a.no_error;
      };
      events = loads.events;
    }
