-- What holds of all commands: each comes to one thing, to some, and reads the input for none but those behind its stage.
use Rattle.sm_model_commands.specs.asked.AskedLaws.{ComesToOne, ComesToSome, ReachesInput}
use Rattle.sm_commands.specs.Commands.{Command, asked_of}

-- a law: what is told determines what a command comes to
abbrev pub OneAnswer : Type 0
OneAnswer = (command : Command) → ComesToOne (asked_of command)

-- a law: where the files are there that a command may read, it comes to something
abbrev pub SomeAnswer : Type 0
SomeAnswer = (command : Command) → ComesToSome (asked_of command)

-- a law: a command comes to what it says with the input untouched, or reaches the input; and it reaches it only where it touches it
abbrev pub InputReached : Type 0
InputReached = (command : Command) → ReachesInput (asked_of command)
