-- What each command comes to: a clause for each command.
use Rattle.std.proofs.Common.{ℕ, Bool, List, Option, refl}
use Rattle.sm_bodies.specs.declared.form.BodyForm.{BodyForm}
use Rattle.sm_io.specs.Files.{Folder}
use Rattle.sm_model_commands.specs.asked.Answer.{Answer}
use Rattle.sm_model_commands.specs.asked.CommandAsked.{CommandAsked, over_files}
use Rattle.sm_model_commands.specs.asked.AskedLaws.{ReachesInput}
use Rattle.sm_model_commands.proofs.asked.OverFiles.{none_over_files, reach_over_files}
use Rattle.sm_cross_command.proofs.asked_ends.WholeEnds.{PutsWhole}
use Rattle.sm_model_commands.specs.Check.{CheckSays, check_asked}
use Rattle.sm_model_commands.specs.Convert.{ConvertSays, convert_asked}
use Rattle.sm_model_commands.specs.Forms.{GraphForm, graph_form}
use Rattle.sm_model_commands.specs.Select.{SelectSays, select_asked}
use Rattle.sm_body_command.specs.Body.{body_asked}
use Rattle.sm_body_command.proofs.BodyReaches.{body_reaches, body_writes}
use Rattle.sm_cross_command.specs.Cross.{cross_asked}
use Rattle.sm_cross_command.specs.CrossWords.{CrossAsked}
use Rattle.sm_cross_command.proofs.CrossReaches.{cross_reaches}
use Rattle.sm_schema_command.specs.Schema.{schema_asked}
use Rattle.sm_schema_command.proofs.NamesWords.{schema_reaches, schema_writes}
use Rattle.sm_transform_command.specs.Transform.{TransformSays, transform_asked}
use Rattle.sm_transform_command.specs.TransformForm.{ChangeAsked, change_asked}
use Rattle.sm_commands.specs.Commands.{Command, asked_of, body_command, check_command, convert_command, cross_command, schema_command}
use Rattle.sm_commands.specs.Commands.{select_command, transform_command}
use Rattle.sm_commands.specs.Says.{InputReached}
use Rattle.sm_commands.specs.declared.words.WholeForm.{WholeForm}
use Rattle.sm_commands.specs.declared.words.WholeForm.TheVariants.{Body, Check, Convert, Schema, Select, Transform}
use Rattle.sm_commands.specs.steps.FormSteps.{whole_command}

-- what holds of what each command asks holds of every command
pub of_each : (P : CommandAsked → Type 0) → ((models : List (List ℕ)) → P (check_asked models))
    → ((model shape : List ℕ) (near far : BodyForm) → P (body_asked model shape near far))
    → ((models : List (List ℕ)) (form : GraphForm) → P (convert_asked models form))
    → ((models : List (List ℕ)) (selector : List ℕ) → P (select_asked models selector))
    → ((model shape : List ℕ) (json_names described : Bool) → P (schema_asked model shape json_names described))
    → ((w : CrossAsked) → P (cross_asked w)) → ((models : List (List ℕ)) (asked : ChangeAsked) → P (transform_asked models asked))
    → (command : Command) → P (asked_of command)
of_each P check body convert select schema cross transform (check_command models) = check models
of_each P check body convert select schema cross transform (body_command model shape near far) = body model shape near far
of_each P check body convert select schema cross transform (convert_command models form) = convert models form
of_each P check body convert select schema cross transform (select_command models selector) = select models selector
of_each P check body convert select schema cross transform (schema_command model shape json_names described) =
    schema model shape json_names described
of_each P check body convert select schema cross transform (cross_command w) = cross w
of_each P check body convert select schema cross transform (transform_command models asked) = transform models asked

pub input_reached : InputReached
input_reached = of_each ReachesInput (λ models. reach_over_files models (λ files a. CheckSays files models a)) body_reaches
    (λ models form. reach_over_files models (λ files a. ConvertSays files models form a))
    (λ models selector. reach_over_files models (λ files a. SelectSays files models selector a)) schema_reaches cross_reaches
    (λ models asked. reach_over_files models (λ files a. TransformSays files models asked a))

-- those of one piece write no file
over_models : (models : List (List ℕ)) (Says : Option Folder → Answer → Type 0) → PutsWhole (over_files models Says)
over_models models Says =
    record { streams = refl; writes = refl; named = none_over_files models Says; reach = reach_over_files models Says }

pub puts_whole : (form : WholeForm) → PutsWhole (asked_of (whole_command form))
puts_whole (Check words) = over_models words.models.now (λ files a. CheckSays files words.models.now a)
puts_whole (Body words) = record {
  streams = refl;
  writes = refl;
  named = body_writes words.model.now words.shape.now words.near words.far;
  reach = body_reaches words.model.now words.shape.now words.near words.far;
}
puts_whole (Convert words) = over_models words.models.now (λ files a. ConvertSays files words.models.now (graph_form words.form) a)
puts_whole (Select words) = over_models words.models.now (λ files a. SelectSays files words.models.now words.selector.now a)
puts_whole (Schema words) = record {
  streams = refl;
  writes = refl;
  named = schema_writes words.model.now words.shape.now words.json_names words.described;
  reach = schema_reaches words.model.now words.shape.now words.json_names words.described;
}
puts_whole (Transform words) = over_models words.models.now (λ files a. TransformSays files words.models.now (change_asked words.change) a)
