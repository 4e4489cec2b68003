-- How an outcome that is Ok came about. Assumes nothing.
use Rattle.std.proofs.Common.{◌≡◌, Bool, true, false, cond, ◌⊎◌, Some, None, Ok, Err, Option, Result, refl, inl, inr}
use Rattle.nas.specs.Outcomes.{then, raised}

pub then_ok : {X Y E : Type 0} (r : Result X E) (next : X → Result Y E) (y : Y) → Ok y ≡ then r next → (x : X) × (Ok x ≡ r) × (Ok y ≡ next x)
then_ok (Ok x) next y e = (x, refl, e)
then_ok (Err f) next y e = cc

pub raised-ok : {X E G : Type 0} (inside : E → G) (r : Result X E) (x : X) → Ok x ≡ raised inside r → Ok x ≡ r
raised-ok inside (Ok y) x e = cc
raised-ok inside (Err f) x e = cc

pub cond-ok : {X E : Type 0} (b : Bool) (r : Result X E) (f : E) (x : X) → Ok x ≡ cond b r (Err f) → (b ≡ true) × (Ok x ≡ r)
cond-ok true r f x e = (refl, e)
cond-ok false r f x e = cc

pub cond-not : {X E : Type 0} (b : Bool) (r : Result X E) (f : E) (x : X) → Ok x ≡ cond b (Err f) r → (b ≡ false) × (Ok x ≡ r)
cond-not false r f x e = (refl, e)
cond-not true r f x e = cc

pub cond-some : {X : Type 0} (b : Bool) (x y : X) → Some y ≡ cond b (Some x) None → (b ≡ true) × (y ≡ x)
cond-some true x y e = (refl, cc)
cond-some false x y e = cc

pub cond-than : {X : Type 0} (b : Bool) (o : Option X) (y : X) → Some y ≡ cond b o None → (b ≡ true) × (Some y ≡ o)
cond-than true o y e = (refl, e)
cond-than false o y e = cc

pub cond-or : {X : Type 0} (b : Bool) (x : X) (o : Option X) (y : X) → Some y ≡ cond b (Some x) o → ((b ≡ true) × (y ≡ x)) ⊎ (Some y ≡ o)
cond-or true x o y e = inl (refl, cc)
cond-or false x o y e = inr e
