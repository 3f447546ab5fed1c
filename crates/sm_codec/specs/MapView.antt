-- What a decoder's frame of a map stands for. Contracts that speak of one cite it.
use Rattle.std.specs.Prelude.{ℕ, List, [], ◌∷◌, ◌++◌, Option, Some, None}
use Rattle.std.specs.Map.{keys_of}
use Rattle.std.specs.Option.{option_map}
use Rattle.sm_shapes.specs.Values.{Val}
use Rattle.sm_shapes.specs.ValueView.{val_of}
use Rattle.sm_shapes.specs.declared.values.Value.{Value}
use Rattle.sm_codec.specs.Decoding as decoding
use Rattle.sm_codec.specs.FrameView.{fault_at}
use Rattle.sm_codec.specs.declared.frames.keys.KeyFrame.{KeyFrame}

-- the entries of those keys that have a value
abbrev pub held_entry : List ℕ → Option Value → List (List ℕ × Val)
held_entry key None = []
held_entry key (Some v) = (key, val_of v) ∷ []

abbrev pub held_entries : List (List ℕ × Option Value) → List (List ℕ × Val)
held_entries [] = []
held_entries (e ∷ es) = held_entry e.0 e.1 ++ held_entries es

abbrev pub key_frame : KeyFrame → decoding.KeyFrame
key_frame f = record {
  shape = f.shape;
  entries = held_entries f.keys.entries;
  seen = keys_of f.keys.entries;
  current = f.current;
  fault = option_map fault_at f.fault;
}
