-- What links of some relations lead to is the image by these relations.
use Rattle.std.proofs.Common.{◌≡◌, ℕ, Bool, true, false, List, length, refl, ◌∙◌, subst}
use Rattle.sm_model.specs.GraphView.{IsShapeNumber, entries_of, maps_of}
use Rattle.sm_model.specs.Links.{AreLinks, IsLinked}
use Rattle.sm_model.specs.Relations.{IsRelated}
use Rattle.sm_model.specs.declared.graph.Graph.{Graph}
use Rattle.sm_model.specs.declared.link.Link.{Link}
use Rattle.sm_model.specs.declared.relation.Relation.{Relation}
use Rattle.sm_model.specs.Reaching.{id_of_number, IsMarked}
use Rattle.sm_select.specs.Followed.{AreFollowed, Follows}
use Rattle.sm_select.specs.Images.{AreImage, IsImage, turned}
use Rattle.sm_select.specs.Picks.{LeadsAlong}
use Rattle.sm_select.proofs.ImageNumbers.{marked_number}

module _ (g : Graph) (relations : List Relation) (starts : List Bool) where
  follows_image : (back : Bool) (l : Link) (b : ℕ) → IsLinked g l → Follows relations back starts l b
      → IsShapeNumber g b × IsImage g starts (turned back (LeadsAlong (maps_of g) relations)) b
  follows_image false l b at f = (
    subst (IsShapeNumber g) f.2 at.to,
    (
      l.from,
      f.1,
      (
        l.relation,
        f.0,
        subst (λ k. IsRelated l.relation (maps_of g) (id_of_number g l.from) (id_of_number g k)) f.2 at.related,
      ),
    ),
  )
  follows_image true l b at f = (
    subst (IsShapeNumber g) f.2 at.from,
    (
      l.to,
      f.1,
      (
        l.relation,
        f.0,
        subst (λ k. IsRelated l.relation (maps_of g) (id_of_number g k) (id_of_number g l.to)) f.2 at.related,
      ),
    ),
  )

  image_follows : (back : Bool) (a b : ℕ) → IsShapeNumber g a → IsShapeNumber g b → IsMarked starts a
      → turned back (LeadsAlong (maps_of g) relations) (id_of_number g a) (id_of_number g b)
      → (l : Link) × IsLinked g l × Follows relations back starts l b
  image_follows false a b lt gt marked h =
      (record { relation = h.0; from = a; to = b }, record { from = lt; to = gt; related = h.2 }, (h.1, marked, refl))
  image_follows true a b lt gt marked h =
      (record { relation = h.0; from = b; to = a }, record { from = gt; to = lt; related = h.2 }, (h.1, marked, refl))

  pub along_image : (back : Bool) (links : List Link) (marks : List Bool) → AreLinks g links → length starts ≡ length (entries_of g)
      → length marks ≡ length starts → AreFollowed links relations back starts marks
      → AreImage g starts (turned back (LeadsAlong (maps_of g) relations)) marks
  along_image back links marks are long whole followed = record {
    whole = whole ∙ long;
    marked = λ b. (
      λ h. let f = (followed b).0 h in follows_image back f.0 b ((are f.0).0 f.1) f.2,
      λ h.
          let l = image_follows back h.1.0 b (marked_number g starts h.1.0 long h.1.1) h.0 h.1.1 h.1.2 in
          (followed b).1 (l.0, (are l.0).1 l.1, l.2),
    );
  }
