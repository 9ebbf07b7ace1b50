-- A case on an option, and what every element of a list has.
use Rattle.std.specs.Prelude.{List, [], ◌∷◌, Option, None, Some}

-- the second case waits under its λ
abbrev pub maybe {κ} : {A : Type 0} {B : Type κ} → Option A → B → (A → B) → B
maybe None b f = b
maybe (Some a) b f = f a

abbrev pub Every {ℓ} : {A : Type ℓ} → (A → Type 0) → List A → Type 0
Every P [] = Unit {0}
Every P (x ∷ xs) = P x × Every P xs
