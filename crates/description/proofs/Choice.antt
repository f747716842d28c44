-- What holds whichever way a test, or a search, turns out.
use mathlib.Core.Bool.{Bool, true, false}
use mathlib.Core.Option.{Option, none, some}
use mathlib.Core.Path.{◌≡◌, refl}

-- a test, with what it says
pub either_way : (t : Bool) {X : Type 0} → (t ≡ true → X) → (t ≡ false → X) → X
either_way true f g = f refl
either_way false f g = g refl

module _ {A : Type 0} (P : A → Type 0) where
  pub by_test : (t : Bool) {x y : A} → (t ≡ true → P x) → (t ≡ false → P y) → P (elim t [ true ↦ x | false ↦ y ])
  by_test true f g = f refl
  by_test false f g = g refl

  pub by_search : {B : Type 0} (s : Option B) {x : A} {f : B → A} → (s ≡ none → P x) → ((b : B) → s ≡ some b → P (f b)) → P (elim s [ none ↦ x | some b ↦ f b ])
  by_search none g h = g refl
  by_search (some b) g h = h b refl
