-- The attributes of a request, by their places in the packet (RFC 4187, section 8.1). Assumes nothing.
use Rattle.std.specs.Prelude.{◌≡◌, ℕ, ◌+◌, ◌-◌, ◌*◌, ◌<◌, Bool, true, false, cond, ◌&&◌, List, length, Ok, Err, Result, ◌==◌, nat_le, slice_index}
use Rattle.std.proofs.Common.{arith}
use Rattle.std.proofs.lemmas.Bool.{and_parts, cond_both, leb-true}
use Rattle.nas.specs.Parts.{Field, field, cut}
use Rattle.nas.specs.Walk.{walk}
use Rattle.attributes.specs.declared.attribute.Attribute.{Attribute}
use Rattle.attributes.specs.declared.attribute.Attribute.TheVariants.{Rand, Autn, Mac, KdfInput, Kdf, IdentityRequest, Skippable, Other}
use Rattle.attributes.specs.declared.attribute.IdentityKind.{IdentityKind}
use Rattle.attributes.specs.declared.attribute.IdentityKind.TheVariants.{Permanent, Any, FullAuthentication}
use Rattle.attributes.specs.declared.attribute.Subtype.{Subtype}
use Rattle.attributes.specs.declared.attribute.Subtype.TheVariants.{Challenge, Identity}
use Rattle.attributes.specs.declared.fault.AttributeFault.{AttributeFault}
use Rattle.attributes.specs.declared.fault.AttributeFault.TheVariants.{Cut}

-- an attribute: its value, behind type and length, with the place of the attribute's first byte
pub data Attr : Type 0 where
  rand : Field → Attr
  autn : Field → Attr
  mac : Field → Attr
  kdf_input : Field → Attr
  kdf : Field → Attr
  identity_request : IdentityKind → Field → Attr
  skippable : Field → Attr
  other : Field → Attr

abbrev pub attribute : Attribute → Attr
attribute (Rand p) = rand (field p)
attribute (Autn p) = autn (field p)
attribute (Mac p) = mac (field p)
attribute (KdfInput p) = kdf_input (field p)
attribute (Kdf p) = kdf (field p)
attribute (IdentityRequest k p) = identity_request k (field p)
attribute (Skippable p) = skippable (field p)
attribute (Other p) = other (field p)

abbrev pub field_of : Attr → Field
field_of (rand f) = f
field_of (autn f) = f
field_of (mac f) = f
field_of (kdf_input f) = f
field_of (kdf f) = f
field_of (identity_request k f) = f
field_of (skippable f) = f
field_of (other f) = f

-- the place after it
abbrev pub end_of : Attr → ℕ
end_of a = (field_of a).place + 2 + length (field_of a).octets

-- by its type: AT_RAND 1, AT_AUTN 2, AT_PERMANENT_ID_REQ 10, AT_MAC 11, AT_ANY_ID_REQ 13, AT_FULLAUTH_ID_REQ 17,
-- AT_KDF_INPUT 23, AT_KDF 24; one of 128 or more may be passed over
abbrev pub attribute_of : ℕ → Field → Attr
attribute_of t f =
    cond (t == 1) (rand f)
    (cond (t == 2) (autn f)
    (cond (t == 10) (identity_request Permanent f)
    (cond (t == 11) (mac f)
    (cond (t == 13) (identity_request Any f)
    (cond (t == 17) (identity_request FullAuthentication f)
    (cond (t == 23) (kdf_input f)
    (cond (t == 24) (kdf f)
    (cond (nat_le 128 t) (skippable f) (other f)))))))))

-- the length of the attribute at a place: its second byte counts words of four bytes
abbrev pub size_at : List ℕ → ℕ → ℕ
size_at p q = 4 * slice_index p (q + 1)

abbrev pub end_at : List ℕ → ℕ → ℕ
end_at p q = q + size_at p q

abbrev pub field_at : List ℕ → ℕ → Field
field_at p q = record { place = q; octets = cut p (q + 2) (size_at p q - 2) }

-- the attribute at a place, or that it has no length, a length of zero, or passes the packet's end
abbrev pub attribute_at : List ℕ → ℕ → Result Attr AttributeFault
attribute_at p q =
    cond (nat_le 1 (slice_index p (q + 1)) && nat_le (end_at p q) (length p))
    (Ok (attribute_of (slice_index p q) (field_at p q)))
    (Err (Cut q))

-- the attributes from a place on, if all are whole; no packet has more attributes than bytes
abbrev pub attributes_from : List ℕ → ℕ → Result (List Attr) AttributeFault
attributes_from p q = walk (attribute_at p) (end_at p) (length p) (length p) q

-- neither one of this subtype nor one that may be passed over
abbrev pub foreign : Subtype → Attr → Bool
foreign s (skippable f) = false
foreign s (other f) = true
foreign Challenge (identity_request k f) = true
foreign Identity (identity_request k f) = false
foreign Challenge (rand f) = false
foreign Identity (rand f) = true
foreign Challenge (autn f) = false
foreign Identity (autn f) = true
foreign Challenge (mac f) = false
foreign Identity (mac f) = true
foreign Challenge (kdf_input f) = false
foreign Identity (kdf_input f) = true
foreign Challenge (kdf f) = false
foreign Identity (kdf f) = true

-- no attribute is empty
pub goes_on : (p : List ℕ) (q : ℕ) (a : Attr) → attribute_at p q ≡ Ok a → q < end_at p q
goes_on p q a =
    cond_both (nat_le 1 (slice_index p (q + 1)) && nat_le (end_at p q) (length p))
    (Ok (attribute_of (slice_index p q) (field_at p q))) (Err (Cut q)) (λ r. r ≡ Ok a → q < end_at p q)
    (λ t _. let some = leb-true 1 (slice_index p (q + 1)) (and_parts _ _ t).0 in omega (arith, some))
    (λ _ e. cc)
