-- The command that words ask for, as the code holds it.
use Rattle.sm_model_commands.specs.Forms.{graph_form}
use Rattle.sm_cross_command.specs.CrossView.{cross_said}
use Rattle.sm_transform_command.specs.TransformForm.{change_asked}
use Rattle.sm_commands.specs.Commands.{Command, body_command, check_command, convert_command, cross_command, schema_command, select_command}
use Rattle.sm_commands.specs.Commands.{transform_command}
use Rattle.sm_commands.specs.declared.words.CommandForm.{CommandForm}
use Rattle.sm_commands.specs.declared.words.CommandForm.TheVariants.{Cross, Whole}
use Rattle.sm_commands.specs.declared.words.WholeForm.{WholeForm}
use Rattle.sm_commands.specs.declared.words.WholeForm.TheVariants.{Body, Check, Convert, Schema, Select, Transform}

-- one that puts its answer as one piece, and writes no file
abbrev pub whole_command : WholeForm → Command
whole_command (Check words) = check_command words.models.now
whole_command (Body words) = body_command words.model.now words.shape.now words.near words.far
whole_command (Convert words) = convert_command words.models.now (graph_form words.form)
whole_command (Select words) = select_command words.models.now words.selector.now
whole_command (Schema words) = schema_command words.model.now words.shape.now words.json_names words.described
whole_command (Transform words) = transform_command words.models.now (change_asked words.change)

abbrev pub command_of : CommandForm → Command
command_of (Whole form) = whole_command form
command_of (Cross words) = cross_command (cross_said words)
