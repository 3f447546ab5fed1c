-- A sign is ASCII, so a character ends behind it.
use Rattle.std.proofs.Common.{◌≡◌, ℕ, ◌<◌, true, List, length, drop, refl, arith}
use Rattle.std.specs.Prelude.{IsUtf8}
use Rattle.std.specs.Char.{is_ascii}
use Rattle.std.specs.List.{list_all}
use Rattle.std.specs.Str.{IsCharBoundary}
use Rattle.std.proofs.lemmas.Bool.Decides.{nat_tests}
use Rattle.sm_ids.proofs.Cutting.{both}
use Rattle.sm_select.specs.declared.selector.SelectorOp.TheVariants.{Equal, Unequal, Starts, Ends, Contains}
use Rattle.sm_select.specs.declared.tokens.Sign.{Sign}
use Rattle.sm_select.specs.declared.tokens.Sign.TheVariants.{Star, Greater, Smaller, Tilde, OpenNames, CloseNames, OpenPath, ClosePath}
use Rattle.sm_select.specs.declared.tokens.Sign.TheVariants.{OpenIs, OpenNot, OpenTest, Close, Comma, Bar, IdNamespace, IdName, IdMember}
use Rattle.sm_select.specs.declared.tokens.Sign.TheVariants.{TraitBar, Op}
use Rattle.sm_select.specs.steps.Signs.{sign_text, opens, sign_ends, stands}
use Rattle.sm_select.proofs.SignTexts.{opens_cut}
use Rattle.sm_select.proofs.Boundaries.{boundary}

ascii_small : (c : ℕ) → is_ascii c ≡ true → c < 128
ascii_small c h = grind (arith, nat_tests)

sign_ascii : (a : Sign) → list_all is_ascii (sign_text a) ≡ true
sign_ascii Star = refl
sign_ascii Greater = refl
sign_ascii Smaller = refl
sign_ascii Tilde = refl
sign_ascii OpenNames = refl
sign_ascii CloseNames = refl
sign_ascii OpenPath = refl
sign_ascii ClosePath = refl
sign_ascii OpenIs = refl
sign_ascii OpenNot = refl
sign_ascii OpenTest = refl
sign_ascii Close = refl
sign_ascii Comma = refl
sign_ascii Bar = refl
sign_ascii IdNamespace = refl
sign_ascii IdName = refl
sign_ascii IdMember = refl
sign_ascii TraitBar = refl
sign_ascii (Op Equal) = refl
sign_ascii (Op Unequal) = refl
sign_ascii (Op Starts) = refl
sign_ascii (Op Ends) = refl
sign_ascii (Op Contains) = refl

pub sign_boundary : (a : Sign) (s : List ℕ) → stands a s ≡ true → IsUtf8 s → IsCharBoundary s (length (sign_text a))
sign_boundary a s h u = boundary is_ascii ascii_small s (sign_text a) (drop (length (sign_text a)) s)
    (opens_cut (sign_text a) s (both (opens (sign_text a) s) (sign_ends a (drop (length (sign_text a)) s)) h).0) (sign_ascii a) u
