-- What the parts of a value behind `=` say of it.
use Rattle.std.proofs.Common.{Some, None, codes}
use Rattle.sm_model.specs.Raw.{Raw}
use Rattle.sm_idl.specs.Productions.{Tokens, maybe}
use Rattle.sm_idl.specs.Words.{mark}
use Rattle.sm_idl.specs.Nodes.{Home}
use Rattle.sm_idl.specs.Traits.{node_in}
use Rattle.sm_idl.specs.Members.{equals_node, given_value}
use Rattle.sm_idl.specs.declared.reader.ReadStop.{ReadStop}
use Rattle.sm_idl.specs.steps.ReaderView.{NoToken, StopsIn}
use Rattle.sm_idl.specs.steps.Firm.{HeadIs, IsFirm}
use Rattle.sm_idl.specs.steps.Classes.{Equals}
use Rattle.sm_idl.specs.steps.Reading.{IsRead}
use Rattle.sm_idl.proofs.FirmShort.{then_firm}
use Rattle.sm_idl.proofs.FirmNodes.{mark_firm}
use Rattle.sm_idl.proofs.FirmTraits.{node_in_firm}
use Rattle.sm_idl.proofs.Passing.{one_class, read_wider, stop_wider, whole_read, stops_first, stops_behind}
use Rattle.sm_idl.proofs.Choosing as choosing

module _ (home : Home) where
  firm : IsFirm ⊥ Equals NoToken (equals_node home)
  firm = then_firm (mark (codes "=")) _ (mark_firm (codes "=")) (λ _. node_in_firm home)

  pub stops_at_equals : (s r : Tokens) (stop : ReadStop) → StopsIn NoToken (mark (codes "=")) s r stop
      → StopsIn NoToken (equals_node home) s r stop
  stops_at_equals s r stop k = stops_first NoToken (mark (codes "=")) (λ _. node_in home) s r stop k

  pub stops_in_value : (s a r : Tokens) (stop : ReadStop) → (mark (codes "=")).whole tt s a → StopsIn NoToken (node_in home) a r stop
      → StopsIn NoToken (equals_node home) s r stop
  stops_in_value s a r stop h k =
      stops_behind NoToken (mark (codes "=")) (λ _. node_in home) (mark_firm (codes "=")) tt s a r stop h k

  pub value_none : (s : Tokens) → (HeadIs Equals s → ⊥) → IsRead Equals (given_value home) None s s
  value_none s none =
      read_wider (maybe (equals_node home)) None s s (one_class Equals)
      (choosing.none_read Equals NoToken (equals_node home) firm s none)

  pub value_some : (n : Raw) (s r : Tokens) → (equals_node home).whole n s r → IsRead Equals (given_value home) (Some n) s r
  value_some n s r h =
      read_wider (maybe (equals_node home)) (Some n) s r (one_class Equals)
      (choosing.some_read Equals NoToken (equals_node home) firm n s r (whole_read (equals_node home) firm n s r h))

  pub value_stop : (s r : Tokens) (stop : ReadStop) → HeadIs Equals s → StopsIn NoToken (equals_node home) s r stop
      → StopsIn Equals (given_value home) s r stop
  value_stop s r stop here k =
      stop_wider (maybe (equals_node home)) s r stop (one_class Equals)
      (choosing.some_stop Equals NoToken (equals_node home) firm s r stop here k)
