-- What the words of a file are relative to, as the code holds it.
use Rattle.sm_idl.specs.Nodes.{Home}
use Rattle.sm_idl.specs.declared.home.FileHome.{FileHome}

abbrev pub home_of_file : FileHome → Home
home_of_file h = record { namespace = h.namespace.now; uses = h.uses.now }
