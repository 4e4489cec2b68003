-- What the loop over the parameters of a derivation hashes. Assumes nothing.
use Rattle.std.proofs.Common.{◌≡◌, ℕ, zero, suc, ◌+◌, ◌/◌, ◌%◌, ◌<◌, List, [], ◌∷◌, ◌++◌, map, length, get_or, take, sym, refl, ap, ◌∙◌, append_assoc, arith}
use Rattle.digest.specs.Hmac.{joined}
use Rattle.digest.proofs.Keys.{joined_step}
use Rattle.keys.specs.Kdf.{two_bytes, with_length, Short}

-- the parameters, each with its length, where each is some value's bytes
abbrev pub hashes : {X : Type 0} → (X → List ℕ) → List X → List ℕ
hashes f xs = joined (map (λ x. with_length (f x)) xs)

pub hashes-all : {X : Type 0} (f : X → List ℕ) (xs : List X) → hashes f xs ≡ joined (map with_length (map f xs))
hashes-all f [] = refl
hashes-all f (x ∷ xs) = ap (λ l. with_length (f x) ++ l) (hashes-all f xs)

-- every parameter is short
pub short-at : {X : Type 0} (f : X → List ℕ) (xs : List X) (i : ℕ) (d : X) → Short (map f xs) → i < length xs → length (f (get_or xs i d)) < 65536
short-at f [] i d all h = omega arith
short-at f (x ∷ xs) zero d all h = all.0
short-at f (x ∷ xs) (suc i) d all h = short-at f xs i d all.1 (omega arith)

-- a length below 65,536 as two bytes
pub two_bytes-below : (n : ℕ) → n < 65536 → n / 256 % 256 ∷ n % 256 ∷ [] ≡ two_bytes n
two_bytes-below n h = let e : n / 256 % 256 ≡ n / 256 = omega arith in ap (λ x. x ∷ n % 256 ∷ []) e

-- one parameter more
pub hashes-step : {X : Type 0} (f : X → List ℕ) (xs : List X) (i fc : ℕ) (d : X) (bytes : List ℕ) → Short (map f xs) → i < length xs → bytes ≡ length (f (get_or xs i d)) / 256 % 256 ∷ length (f (get_or xs i d)) % 256 ∷ []
    → (fc ∷ hashes f (take i xs) ++ f (get_or xs i d)) ++ bytes ≡ fc ∷ hashes f (take (i + 1) xs)
hashes-step f xs i fc d bytes all h is =
    let p = f (get_or xs i d) in
    let two : bytes ≡ two_bytes (length p) = is ∙ two_bytes-below (length p) (short-at f xs i d all h) in
    let step = joined_step (λ x. with_length (f x)) xs i d h in
    ap (λ l. fc ∷ l) (append_assoc (hashes f (take i xs)) p bytes ∙ ap (λ b. hashes f (take i xs) ++ (p ++ b)) two ∙ sym step)
