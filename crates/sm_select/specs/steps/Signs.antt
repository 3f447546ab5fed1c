-- The signs of a selector, their bytes, and which of some signs stands at the start of a text.
use Rattle.std.specs.Prelude.{◌==◌, ◌&&◌, ℕ, Bool, true, false, not, cond, List, [], ◌∷◌, drop, length, Option, Some, None, codes}
use Rattle.sm_select.specs.declared.tokens.Sign.{Sign}
use Rattle.sm_select.specs.declared.tokens.Sign.TheVariants.{Star, Greater, Smaller, Tilde, OpenNames, CloseNames, OpenPath, ClosePath}
use Rattle.sm_select.specs.declared.tokens.Sign.TheVariants.{OpenIs, OpenNot, OpenTest, Close, Comma, Bar, IdNamespace, IdName, IdMember}
use Rattle.sm_select.specs.declared.tokens.Sign.TheVariants.{TraitBar, Op}
use Rattle.sm_select.specs.declared.selector.SelectorOp.TheVariants.{Equal, Unequal, Starts, Ends, Contains}
use Rattle.sm_select.specs.Tokens.{is_run_byte}
use Rattle.sm_select.specs.Grammar.{op_sign}

abbrev pub sign_text : Sign → List ℕ
sign_text Star = codes "*"
sign_text Greater = codes ">"
sign_text Smaller = codes "<"
sign_text Tilde = codes "~>"
sign_text OpenNames = codes "-["
sign_text CloseNames = codes "]->"
sign_text OpenPath = codes "["
sign_text ClosePath = codes "]"
sign_text OpenIs = codes ":is("
sign_text OpenNot = codes ":not("
sign_text OpenTest = codes ":test("
sign_text Close = codes ")"
sign_text Comma = codes ","
sign_text Bar = codes "|"
sign_text IdNamespace = codes "id|namespace"
sign_text IdName = codes "id|name"
sign_text IdMember = codes "id|member"
sign_text TraitBar = codes "trait|"
sign_text (Op op) = op_sign op

-- s begins with t
abbrev pub opens : List ℕ → List ℕ → Bool
opens [] s = true
opens (c ∷ t) [] = false
opens (c ∷ t) (d ∷ s) = (c == d) && opens t s

abbrev pub goes_on_with_run : List ℕ → Bool
goes_on_with_run [] = false
goes_on_with_run (c ∷ s) = is_run_byte c

-- the sign may end before r
abbrev pub sign_ends : Sign → List ℕ → Bool
sign_ends Smaller r = not (opens (codes "-[") r)
sign_ends OpenPath r = not (opens (codes "@") r)
sign_ends IdNamespace r = not (goes_on_with_run r)
sign_ends IdName r = not (goes_on_with_run r)
sign_ends IdMember r = not (goes_on_with_run r)
sign_ends Star r = true
sign_ends Greater r = true
sign_ends Tilde r = true
sign_ends OpenNames r = true
sign_ends CloseNames r = true
sign_ends ClosePath r = true
sign_ends OpenIs r = true
sign_ends OpenNot r = true
sign_ends OpenTest r = true
sign_ends Close r = true
sign_ends Comma r = true
sign_ends Bar r = true
sign_ends TraitBar r = true
sign_ends (Op op) r = true

abbrev pub stands : Sign → List ℕ → Bool
stands a s = opens (sign_text a) s && sign_ends a (drop (length (sign_text a)) s)

-- the first of these signs that stands at the start of s
abbrev pub first_sign : List Sign → List ℕ → Option Sign
first_sign [] s = None
first_sign (a ∷ more) s = cond (stands a s) (Some a) (first_sign more s)

-- the signs that may come where a step, a path and so on are wanted
abbrev pub step_signs : List Sign
step_signs = Star ∷ Greater ∷ Smaller ∷ Tilde ∷ OpenPath ∷ OpenNames ∷ OpenIs ∷ OpenNot ∷ OpenTest ∷ Close ∷ Comma ∷ []

abbrev pub path_signs : List Sign
path_signs = IdNamespace ∷ IdMember ∷ TraitBar ∷ IdName ∷ []

abbrev pub behind_path_signs : List Sign
behind_path_signs = Bar ∷ ClosePath ∷ Op Equal ∷ Op Unequal ∷ Op Starts ∷ Op Ends ∷ Op Contains ∷ []

abbrev pub behind_value_signs : List Sign
behind_value_signs = Comma ∷ ClosePath ∷ []

abbrev pub behind_name_signs : List Sign
behind_name_signs = Comma ∷ CloseNames ∷ []
