use Rattle.std.proofs.Common.{subst, sym}
use Rattle.sm_io.specs.Seen.{files_seen}
use Rattle.sm_tree.specs.Json.{IsJson}
use Rattle.sm_ast.specs.Written.{written_ast}
use Rattle.sm_model_commands.specs.Forms.{graph_form}
use Rattle.sm_model_commands.proofs.Converts.{stop_comes, text_comes}
use Rattle.sm_model_commands.proofs.MergedJson.{loaded_json}
use Rattle.sm_model_commands.proofs.convert.convert.Goals as goal

pub graph_text-requires : goal.graph_text-requires
graph_text-requires g c =
    let loads = c.in-Ok.ensures.loads in
    subst (λ x. IsJson (written_ast x)) (sym loads.1) (loaded_json (g.F.Files.held c.args.files.now) c.args.words.models.now loads.0)

pub returns-in-Ok-graph_text-clause-comes : goal.returns-in-Ok-graph_text-clause-comes
returns-in-Ok-graph_text-clause-comes g c =
    text_comes (files_seen (g.F.Files.held c.args.files.now) (g.F.Files.read_faults c.args.files.now)
    (g.F.Files.write_faults c.args.files.now))
    (files_seen (g.F.Files.held c.load_models.new.files) (g.F.Files.read_faults c.load_models.new.files)
    (g.F.Files.write_faults c.load_models.new.files))
    c.args.words.models.now (graph_form c.args.words.form) c.in-Ok.model c.in-Ok-graph_text.text c.in-Ok.ensures.loads
    c.in-Ok-graph_text.ensures

pub returns-clause-comes : goal.returns-clause-comes
returns-clause-comes g c =
    stop_comes (files_seen (g.F.Files.held c.args.files.now) (g.F.Files.read_faults c.args.files.now)
    (g.F.Files.write_faults c.args.files.now))
    (files_seen (g.F.Files.held c.load_models.new.files) (g.F.Files.read_faults c.load_models.new.files)
    (g.F.Files.write_faults c.load_models.new.files))
    c.args.words.models.now (graph_form c.args.words.form) c.in-Err.stop c.in-Err.ensures.loads
