-- What a step of a command comes to, carried on to where more is known.
use Rattle.std.proofs.Common.{ℕ, List, Result, Ok, Err, sym, subst}
use Rattle.std.specs.Global.{Vec}
use Rattle.sm_asked.specs.Answer.{Answer, done, refused, pattern_refused, past}
use Rattle.sm_asked.specs.Comes.{StepStops, StepComesTo, EndsWithLine, EndsWithLimit, EndsWithPattern}
use Rattle.sm_asked.specs.declared.stop.CommandStop.{CommandStop}
use Rattle.sm_asked.specs.declared.stop.CommandStop.TheVariants.{Refused, Pattern, Limit, ReadFault, NoMemory}

-- a step that ends with a line has the answer of that line
pub line_stops : (Says : Answer → Type 0) (Failed Short : Type 0) (line : List ℕ) (stop : CommandStop) → Says (refused line) → Short
    → EndsWithLine line stop → StepStops Says Failed Short stop
line_stops Says Failed Short line (Refused printed) says short ends = subst (λ x. Says (refused x)) (sym ends) says
line_stops Says Failed Short line (Pattern printed) says short ends = absurd ends
line_stops Says Failed Short line (Limit printed) says short ends = absurd ends
line_stops Says Failed Short line ReadFault says short ends = absurd ends
line_stops Says Failed Short line NoMemory says short ends = short

pub limit_stops : (Says : Answer → Type 0) (Failed Short : Type 0) (line : List ℕ) (stop : CommandStop) → Says (past line) → Short
    → EndsWithLimit line stop → StepStops Says Failed Short stop
limit_stops Says Failed Short line (Refused printed) says short ends = absurd ends
limit_stops Says Failed Short line (Pattern printed) says short ends = absurd ends
limit_stops Says Failed Short line (Limit printed) says short ends = subst (λ x. Says (past x)) (sym ends) says
limit_stops Says Failed Short line ReadFault says short ends = absurd ends
limit_stops Says Failed Short line NoMemory says short ends = short

pub pattern_stops : (Says : Answer → Type 0) (Failed Short : Type 0) (line : List ℕ) (stop : CommandStop) → Says (pattern_refused line) → Short
    → EndsWithPattern line stop → StepStops Says Failed Short stop
pattern_stops Says Failed Short line (Refused printed) says short ends = absurd ends
pattern_stops Says Failed Short line (Pattern printed) says short ends = subst (λ x. Says (pattern_refused x)) (sym ends) says
pattern_stops Says Failed Short line (Limit printed) says short ends = absurd ends
pattern_stops Says Failed Short line ReadFault says short ends = absurd ends
pattern_stops Says Failed Short line NoMemory says short ends = short

-- what holds of a step's answer, failed read and `NoMemory`, holds where more is known
pub stops_map : (Says Tells : Answer → Type 0) (F G S T : Type 0) (stop : CommandStop) → ((a : Answer) → Says a → Tells a) → (F → G) → (S → T)
    → StepStops Says F S stop → StepStops Tells G T stop
stops_map Says Tells F G S T (Refused line) says failed short h = says (refused line.items) h
stops_map Says Tells F G S T (Pattern line) says failed short h = says (pattern_refused line.items) h
stops_map Says Tells F G S T (Limit line) says failed short h = says (past line.items) h
stops_map Says Tells F G S T ReadFault says failed short h = failed h
stops_map Says Tells F G S T NoMemory says failed short h = short h

pub comes_map : (Says Tells : Answer → Type 0) (F G S T : Type 0) (result : Result (Vec ℕ) CommandStop) → ((a : Answer) → Says a → Tells a)
    → (F → G) → (S → T) → StepComesTo Says F S result → StepComesTo Tells G T result
comes_map Says Tells F G S T (Ok text) says failed short h = says (done text.items) h
comes_map Says Tells F G S T (Err stop) says failed short h = stops_map Says Tells F G S T stop says failed short h
