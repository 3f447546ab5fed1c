-- What an example of the code stands for.
use Rattle.sm_shapes.specs.ValueView.{val_of}
use Rattle.sm_messages.specs.Answers.{reply_role, reply_val}
use Rattle.sm_messages.specs.declared.reply.Reply.{Reply}
use Rattle.sm_examples.specs.ExampleData.{ExampleData, ReplyData}
use Rattle.sm_examples.specs.declared.example.Example.{Example}

abbrev pub reply_data : Reply → ReplyData
reply_data r = record { role = reply_role r; value = reply_val r }

abbrev pub example_data : Example → ExampleData
example_data e = record { operation = e.operation; input = val_of e.input; reply = reply_data e.reply }
