-- A body has one content and leads to one goal, by a format of which bytes are a text of one tree at most; and it arrives at one thing.
use Rattle.std.proofs.Common.{◌≡◌, ℕ, List, Option, None, Some, refl, sym, ap, ◌∙◌, subst}
use Rattle.std.specs.Prelude.{Result, Ok, Err}
use Rattle.std.proofs.lemmas.Option.{same_Some}
use Rattle.sm_tree.specs.Node.{Node}
use Rattle.sm_tree.specs.Syntax.{IsRead, IsRefused, Syntax, TreeFormat}
use Rattle.sm_tree.specs.SyntaxLaws.{HasOneAnswer}
use Rattle.sm_tree.specs.declared.refusal.SyntaxRefusal.{SyntaxRefusal}
use Rattle.sm_service.specs.ServiceData.{ServiceData}
use Rattle.sm_messages.specs.Goals.{Goal, goal_of, the_error}
use Rattle.sm_messages.specs.HeadAnswers.{Address, to_goal, to_named_error}
use Rattle.sm_messages.specs.Heads.{is_empty}
use Rattle.sm_messages.specs.IsForm.{ReadsMessages}
use Rattle.sm_messages.specs.MessageAnswers.{use_of}
use Rattle.sm_messages.specs.MessageForm.{BodyUse, Content, HasContent, MessageForm, a_tree, as_bytes, as_empty_object, as_text, naming}
use Rattle.sm_messages.specs.MessageForm.{nothing, raw_bytes, unread}
use Rattle.sm_messages.specs.Messages.{LeadsTo, NamesError, error_of_tree}

-- bytes are a text of one tree at most
abbrev pub HasOneTree : TreeFormat → Type 0
HasOneTree F = (n m : Node) (bs : List ℕ) → F n bs → F m bs → n ≡ m

pub read_once : (F : TreeFormat) → HasOneTree F → HasOneTree (IsRead F)
read_once F one n m bs x y = one n m bs x.0 y.0

pub one_content : (F : TreeFormat) → HasOneTree F → (u : BodyUse) (bytes : List ℕ) (c d : Content) → HasContent F u bytes c
    → HasContent F u bytes d → c ≡ d
one_content F one as_text bytes (a_tree n) (a_tree m) x y = ap a_tree (one n m bytes x y)
one_content F one as_text bytes (a_tree n) (raw_bytes b) x y = absurd y
one_content F one as_text bytes (a_tree n) nothing x y = absurd y
one_content F one as_text bytes (raw_bytes b) d x y = absurd x
one_content F one as_text bytes nothing d x y = absurd x
one_content F one as_empty_object bytes c d x y = x ∙ sym y
one_content F one as_bytes bytes c d x y = x ∙ sym y
one_content F one unread bytes c d x y = x ∙ sym y

same_tree : (n m : Node) → a_tree n ≡ a_tree m → n ≡ m
same_tree n m e = cc

one_error : (F : TreeFormat) → HasOneTree F → (f : MessageForm) (s : ServiceData) (body : List ℕ) (o e d : ℕ) → NamesError F f s body o e
    → NamesError F f s body o d → e ≡ d
one_error F one f s body o e d x y =
    let trees = same_tree x.tree y.tree (one_content F one (naming f (is_empty body)) body (a_tree x.tree) (a_tree y.tree) x.has y.has) in
    same_Some e d (sym x.names ∙ ap (error_of_tree f s o) trees ∙ y.names)

pub one_goal : (F : TreeFormat) → HasOneTree F → (f : MessageForm) (s : ServiceData) (body : List ℕ) (there : Address) (g h : Goal)
    → LeadsTo F f s body there g → LeadsTo F f s body there h → g ≡ h
one_goal F one f s body (to_goal k) g h x y = sym x ∙ y
one_goal F one f s body (to_named_error o) g h x y =
    x.2 ∙ ap (λ e. goal_of o (the_error e)) (one_error F one f s body o x.0 y.0 x.1 y.1) ∙ sym y.2

-- what a body arrives at that has an address: no tree, a tree that tells no error, or a goal with its content
pub data Arrived : Type 0 where
  no_tree : SyntaxRefusal → Arrived
  no_error : Arrived
  arrived : Goal → Content → Arrived

abbrev pub IsUnnamed : MessageForm → ServiceData → List ℕ → Address → Type 0
IsUnnamed f s body (to_goal g) = ⊥
IsUnnamed f s body (to_named_error o) =
    (n : Node) × HasContent (IsRead f.syntax.text) (naming f (is_empty body)) body (a_tree n) × (error_of_tree f s o n ≡ None)

abbrev pub Arrives : MessageForm → ServiceData → List ℕ → Address → Arrived → Type 0
Arrives f s body there (no_tree r) = (use_of f s body there ≡ as_text) × IsRefused f.syntax body r
Arrives f s body there no_error = IsUnnamed f s body there
Arrives f s body there (arrived g c) =
    LeadsTo (IsRead f.syntax.text) f s body there g × HasContent (IsRead f.syntax.text) (f.body_use s g (is_empty body)) body c

err_or_ok : (r : SyntaxRefusal) (n : Node) → Path (Result Node SyntaxRefusal) (Err r) (Ok n) → ⊥
err_or_ok r n e = cc

same_err : (r q : SyntaxRefusal) → Path (Result Node SyntaxRefusal) (Err r) (Err q) → r ≡ q
same_err r q e = cc

-- bytes that are refused as a text have no content as one
refused_or_read : (S : Syntax) → HasOneAnswer S → (u : BodyUse) (body : List ℕ) (r : SyntaxRefusal) (c : Content) → u ≡ as_text
    → IsRefused S body r → HasContent (IsRead S.text) u body c → ⊥
refused_or_read S one as_text body r (a_tree n) e x y = err_or_ok r n (one body (Err r) (Ok n) x y)
refused_or_read S one as_text body r (raw_bytes b) e x y = y
refused_or_read S one as_text body r nothing e x y = y
refused_or_read S one as_empty_object body r c e x y = cc
refused_or_read S one as_bytes body r c e x y = cc
refused_or_read S one unread body r c e x y = cc

refused_or_unnamed : (f : MessageForm) → ReadsMessages f → (s : ServiceData) (body : List ℕ) (there : Address) (r : SyntaxRefusal)
    → use_of f s body there ≡ as_text → IsRefused f.syntax body r → IsUnnamed f s body there → ⊥
refused_or_unnamed f is s body (to_goal g) r e x y = y
refused_or_unnamed f is s body (to_named_error o) r e x y =
    refused_or_read f.syntax is.one_answer (naming f (is_empty body)) body r (a_tree y.0) e x y.1

refused_or_led : (f : MessageForm) → ReadsMessages f → (s : ServiceData) (body : List ℕ) (there : Address) (r : SyntaxRefusal) (g : Goal)
    (c : Content) → use_of f s body there ≡ as_text → IsRefused f.syntax body r → LeadsTo (IsRead f.syntax.text) f s body there g
    → HasContent (IsRead f.syntax.text) (f.body_use s g (is_empty body)) body c → ⊥
refused_or_led f is s body (to_goal k) r g c e x led has =
    refused_or_read f.syntax is.one_answer (f.body_use s k (is_empty body)) body r c e x
    (subst (λ h. HasContent (IsRead f.syntax.text) (f.body_use s h (is_empty body)) body c) (sym led) has)
refused_or_led f is s body (to_named_error o) r g c e x led has =
    let names = led.1 in
    refused_or_read f.syntax is.one_answer (naming f (is_empty body)) body r (a_tree names.tree) e x names.has

none_or_some : (e : ℕ) → Path (Option ℕ) None (Some e) → ⊥
none_or_some e h = cc

unnamed_or_led : (f : MessageForm) → ReadsMessages f → (s : ServiceData) (body : List ℕ) (there : Address) (g : Goal)
    → IsUnnamed f s body there → LeadsTo (IsRead f.syntax.text) f s body there g → ⊥
unnamed_or_led f is s body (to_goal k) g x led = x
unnamed_or_led f is s body (to_named_error o) g x led =
    let names = led.1 in
    let F = IsRead f.syntax.text in
    let trees = same_tree x.0 names.tree (one_content F (read_once f.syntax.text is.one_reading) (naming f (is_empty body)) body (a_tree
    x.0) (a_tree names.tree) x.1 names.has) in
    none_or_some led.0 (sym x.2 ∙ ap (error_of_tree f s o) trees ∙ names.names)

pub one_arrival : (f : MessageForm) → ReadsMessages f → (s : ServiceData) (body : List ℕ) (there : Address) (a b : Arrived)
    → Arrives f s body there a → Arrives f s body there b → a ≡ b
one_arrival f is s body there (no_tree r) (no_tree q) x y =
    ap no_tree (same_err r q (is.one_answer body (Err r) (Err q) x.1 y.1))
one_arrival f is s body there (no_tree r) no_error x y = absurd (refused_or_unnamed f is s body there r x.0 x.1 y)
one_arrival f is s body there (no_tree r) (arrived g c) x y = absurd (refused_or_led f is s body there r g c x.0 x.1 y.0 y.1)
one_arrival f is s body there no_error (no_tree r) x y = absurd (refused_or_unnamed f is s body there r y.0 y.1 x)
one_arrival f is s body there no_error no_error x y = refl
one_arrival f is s body there no_error (arrived g c) x y = absurd (unnamed_or_led f is s body there g x y.0)
one_arrival f is s body there (arrived g c) (no_tree r) x y = absurd (refused_or_led f is s body there r g c y.0 y.1 x.0 x.1)
one_arrival f is s body there (arrived g c) no_error x y = absurd (unnamed_or_led f is s body there g y x.0)
one_arrival f is s body there (arrived g c) (arrived h d) x y =
    let F = IsRead f.syntax.text in
    let once = read_once f.syntax.text is.one_reading in
    let goals = one_goal F once f s body there g h x.0 y.0 in
    let has = subst (λ k. HasContent F (f.body_use s k (is_empty body)) body c) goals x.1 in
    ap (λ k. arrived k c) goals ∙ ap (arrived h) (one_content F once (f.body_use s h (is_empty body)) body c d has y.1)
