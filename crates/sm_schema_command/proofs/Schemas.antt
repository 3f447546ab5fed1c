-- What the command `schema` comes to, from what its shape and its text do.
use Rattle.std.proofs.Common.{◌≡◌, ℕ, Bool, true, false, List, [], ◌∷◌, None, Ok, Err, ap, subst, refl}
use Rattle.std.specs.Global.{Vec}
use Rattle.sm_io.specs.Seen.{FilesSeen, Stream}
use Rattle.sm_shapes.specs.Fitting.{Test}
use Rattle.sm_shapes.specs.TableData.{TableData}
use Rattle.sm_shapes.specs.TableView.{table_data}
use Rattle.sm_model.specs.GraphView.{maps_of}
use Rattle.sm_compile.specs.Answers.{StoreSeen, seen_table}
use Rattle.sm_compile.specs.declared.compiled.OneShape.{OneShape}
use Rattle.sm_asked_shape.specs.load.declared.model.Model.{Model}
use Rattle.sm_notes.proofs.NotesNumbered.{notes_numbered}
use Rattle.sm_schema.specs.Described.{IsSchema}
use Rattle.sm_schema.specs.Noted.{IsNotedSchema, NotesData}
use Rattle.sm_asked_shape.specs.asked.Answer.{done}
use Rattle.sm_asked_shape.specs.asked.CommandAsked.{CommandAsked, told_by}
use Rattle.sm_asked_shape.specs.asked.Comes.{CommandComesTo}
use Rattle.sm_asked_shape.specs.asked.Loading.{Loads}
use Rattle.sm_asked_shape.specs.asked.declared.lines.Shown.TheVariants.{Errors}
use Rattle.sm_asked_shape.proofs.asked.Answered.{none_is_some}
use Rattle.sm_asked_shape.specs.asked.Outside.{InputsSeen, inputs_seen}
use Rattle.sm_asked_shape.specs.asked.Stages.{Told}
use Rattle.sm_asked_shape.specs.asked.declared.stop.CommandStop.{CommandStop}
use Rattle.sm_asked_shape.specs.asked.declared.stop.CommandStop.TheVariants.{NoMemory as out_of_memory}
use Rattle.sm_asked_shape.specs.LoadsShape.{IsLoadedShape, LoadsShape}
use Rattle.sm_asked_shape.specs.ShapeStages.{TableMade, table_of}
use Rattle.sm_asked_shape.specs.ShapeTables.{HasTableOf, IsFilledShape}
use Rattle.sm_asked_shape.specs.declared.shape.LoadedShape.{LoadedShape}
use Rattle.sm_asked_shape.proofs.ShapeComes.{shape_comes, shape_stops}
use Rattle.sm_schema_command.specs.Schema.{SchemaSays, schema_asked}
use Rattle.sm_schema_command.specs.Schema.SchemaSays.{not_served, printed}
use Rattle.sm_schema_command.specs.steps.SchemaSteps.{IsNotedText, IsSchemaText}

module _ (files files1 : FilesSeen) (test : Test) (store store1 : StoreSeen) (name shape : List ℕ) (json_names described : Bool)
    (input : Stream) where
  abbrev before : InputsSeen
  before = inputs_seen files input test store

  abbrev after : InputsSeen
  after = inputs_seen files1 input test store1

  abbrev command : CommandAsked
  command = schema_asked name shape json_names described

  pub schema_stops : (stop : CommandStop) → files1.held ≡ files.held
      → LoadsShape files files1 test store store1 name shape (Err stop) → CommandComesTo before after command (Err stop)
  schema_stops stop held h =
      shape_stops files files1 input test store store1 name shape command stop held (λ t a says. (a, not_served says, refl)) h

  pub schema_prints : (text : Vec ℕ) → store1.refusals ≡ store.refusals
      → SchemaSays (told_by before None) name shape json_names described (done text.items) → CommandComesTo before after command (Ok text)
  schema_prints text count says =
      shape_comes files files1 input test store store1 name (λ t a. SchemaSays t name shape json_names described a) (Ok text) count says

  pub schema_short : store1.refusals ≡ store.refusals → CommandComesTo before after command (Err out_of_memory)
  schema_short count =
      shape_comes files files1 input test store store1 name (λ t a. SchemaSays t name shape json_names described a) (Err out_of_memory)
      count tt

module _ (files files1 : FilesSeen) (test : Test) (store store1 : StoreSeen) (name shape : List ℕ) (json_names : Bool)
    (input : Stream) where
  abbrev told_now : Told
  told_now = told_by (inputs_seen files input test store) None

  -- as it stands in what is accepted alone
  pub says_schema : (one : LoadedShape) (text : List ℕ) → IsLoadedShape told_now name shape one
      → IsSchemaText (table_data one.table) json_names one.shape text → SchemaSays told_now name shape json_names false (done text)
  says_schema one text loaded (tree, is, e) =
      printed loaded.served tree
      (subst (λ s. IsSchema (table_of told_now name shape loaded.served.table) json_names s tree) loaded.number
      (subst (λ (t : TableData). IsSchema t json_names one.shape tree) loaded.table is))
      (ap done e)

  -- with what the graph says to people
  pub says_noted : (m : Model) (now : StoreSeen) (one : OneShape) (made : LoadedShape) (text : List ℕ)
      → Loads Errors files files1 (name ∷ []) (Ok m) → HasTableOf (maps_of m.graph) shape test store now one
      → IsFilledShape one test store1.added made
      → IsNotedText (maps_of m.graph) shape (table_data made.table) json_names made.shape text
      → SchemaSays told_now name shape json_names true (done text)
  says_noted m now one made text loads table fills noted =
      let g = loads.0.graph in
      let here : HasTableOf g shape test store now one = subst (λ x. HasTableOf x shape test store now one) loads.1 table in
      let is : IsNotedText g shape (table_data made.table) json_names made.shape text =
      subst (λ x. IsNotedText x shape (table_data made.table) json_names made.shape text) loads.1 noted in
      let there : TableMade told_now name shape = record {
        there = record { loaded = loads.0; is = here.is };
        now = now;
        one = seen_table one;
        compiled = here.compiled;
        free = λ u e among. none_is_some u e;
      } in
      let t = table_of told_now name shape there in
      printed (record { table = there; served = fills.served }) is.tree
      (subst (λ (x : NotesData). IsNotedSchema t json_names x one.shape is.tree)
      (notes_numbered g shape (table_data one.table) here.compiled.numbering here.compiled.compiled is.notes is.are)
      (subst (λ s. IsNotedSchema t json_names is.notes s is.tree) fills.number
      (subst (λ (x : TableData). IsNotedSchema x json_names is.notes made.shape is.tree) fills.table is.is)))
      (ap done is.text_is)
