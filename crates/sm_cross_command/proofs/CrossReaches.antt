-- The command `cross` leaves the input untouched, or reaches it; and it writes the file that it names alone.
use Rattle.std.proofs.Common.{◌≡◌, ◌⊎◌, [], ◌∷◌, Some, inl, inr, ap, sym, subst, ◌∙◌, refl, arith}
use Rattle.std.specs.Prelude.{Contains}
use Rattle.std.proofs.lemmas.Option.{same_Some}
use Rattle.sm_asked_ends.specs.asked.Answer.{Came, FileWritten}
use Rattle.sm_asked_ends.specs.asked.Answer.InputUse.{untouched}
use Rattle.sm_asked_ends.specs.asked.AskedLaws.{ReachesInput, WritesAsNamed}
use Rattle.sm_asked_ends.specs.asked.Stages.{Told}
use Rattle.sm_asked_ends.proofs.asked.Answered.{none_is_some}
use Rattle.sm_cross_command.specs.Cross.{CrossSays, cross_asked, requests_file}
use Rattle.sm_cross_command.specs.Cross.CrossSays.{not_opened, session}
use Rattle.sm_cross_command.specs.CrossStages.{CrossOpens}
use Rattle.sm_cross_command.specs.CrossWords.{CrossAsked}

says_reaches : (t : Told) (w : CrossAsked) (c : Came) → CrossSays t w c → (c.input ≡ untouched) ⊎ CrossOpens t w
says_reaches t w c (not_opened a h e) = inl (ap (λ (x : Came). x.input) e)
says_reaches t w c (session opens front is said x e) = inr opens

pub cross_reaches : (w : CrossAsked) → ReachesInput (cross_asked w)
cross_reaches w t = (λ c says. says_reaches t w c says, λ opens. refl)

writes_named : (t : Told) (w : CrossAsked) (c : Came) (file : FileWritten) → CrossSays t w c → c.written ≡ Some file
    → Contains (w.out_file ∷ []) file.name
writes_named t w c file (not_opened a h e) is = none_is_some file (sym (ap (λ (x : Came). x.written) e) ∙ is)
writes_named t w c file (session opens front bytes said x e) is =
    let same : requests_file w.out_file said ≡ file = same_Some (requests_file w.out_file said) file
    (sym (ap (λ (x : Came). x.written) e) ∙ is) in
    subst (λ (f : FileWritten). Contains (w.out_file ∷ []) f.name) same (0, omega arith, refl)

pub cross_writes : (w : CrossAsked) → WritesAsNamed (cross_asked w)
cross_writes w t c file says is = writes_named t w c file says is
