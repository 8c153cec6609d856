-- Two documents that are the same but for lines, offsets and the forms of matrices: what alike texts write.
-- Assumes nothing.
use Rattle.std.specs.Prelude.{ℕ, ◌≤◌, ◌≡◌, List, [], ◌∷◌}
use Rattle.doc.specs.Document.{Named, Step, Model, Map, Matrix, Section, Document}
use Rattle.law_alike.specs.Way.Found.{found_at}

-- two lists of one length; elements at the same index are related
pub data All2 {A B : Type 0} (Rel : A → B → Type 0) : List A → List B → Type 0 where
  none : All2 Rel [] []
  more : {x : A} {y : B} {xs : List A} {ys : List B} → Rel x y → All2 Rel xs ys → All2 Rel (x ∷ xs) (y ∷ ys)

pub record SameNamed (a b : Named) : Type 0 where
  pub name : a.name.text ≡ b.name.text

pub record SameStep (a b : Step) : Type 0 where
  pub kind : a.kind ≡ b.kind
  pub name : a.name.text ≡ b.name.text
  pub mult : a.mult ≡ b.mult
  pub amount : a.amount ≡ b.amount
  pub side : a.side.text ≡ b.side.text

pub record SameModel (a b : Model) : Type 0 where
  pub name : a.name.text ≡ b.name.text
  pub type : a.type ≡ b.type
  pub steps : All2 SameStep a.steps b.steps

pub record SameMap (a b : Map) : Type 0 where
  pub name : a.name.text ≡ b.name.text
  pub order : a.order ≡ b.order
  pub rows : a.rows ≡ b.rows
  pub columns : a.columns ≡ b.columns
  pub pins : All2 SameNamed a.pins b.pins

-- the same number at every row and column
pub record SameMatrix (a b : Matrix) : Type 0 where
  pub kind : a.kind ≡ b.kind
  pub conductors : a.conductors ≡ b.conductors
  pub numbers : (i j : ℕ) → 1 ≤ i → i ≤ j → j ≤ a.conductors → found_at i j a.values ≡ found_at i j b.values

pub record SameSection (a b : Section) : Type 0 where
  pub name : a.name.text ≡ b.name.text
  pub method : a.method ≡ b.method
  pub matrices : All2 SameMatrix a.matrices b.matrices

pub record SameDocument (a b : Document) : Type 0 where
  pub listed : All2 SameNamed a.listed b.listed
  pub models : All2 SameModel a.models b.models
  pub maps : All2 SameMap a.maps b.maps
  pub sections : All2 SameSection a.sections b.sections
