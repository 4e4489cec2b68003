-- The information elements of a message, by their places in it. Assumes nothing.
use Rattle.std.specs.Prelude.{ℕ, ◌+◌, ◌<◌, ◌≤◌, Bool, cond, List, [], length, Ok, Err, Result, ◌==◌, nat_le, slice_index}
use Rattle.std.proofs.Common.{arith}
use Rattle.std.proofs.lemmas.Bool.{cond_both}
use Rattle.nas.specs.declared.element.Element.{Element}
use Rattle.nas.specs.declared.element.Element.TheVariants.{OneOctet, Rand, Tlv, TlvE}
use Rattle.nas.specs.declared.fault.ElementFault.{ElementFault}
use Rattle.nas.specs.declared.fault.ElementFault.TheVariants.{Cut}
use Rattle.nas.specs.Parts.{Field, cut, two_bytes}
use Rattle.nas.specs.Walk.{walk}

-- an element: its tag (the information element identifier), the tag's place, how many bytes stand before its value, and the value
pub record Elem : Type 0 where
  pub tag : ℕ
  pub place : ℕ
  pub header : ℕ
  pub value : List ℕ

abbrev pub element : Element → Elem
element (OneOctet t p) = record { tag = t; place = p; header = 1; value = [] }
element (Rand p v) = record { tag = 0x21; place = p; header = 1; value = v.now }
element (Tlv t p v) = record { tag = t; place = p; header = 2; value = v.now }
element (TlvE t p v) = record { tag = t; place = p; header = 3; value = v.now }

-- a tag of 80 or more is the whole element; RAND has no length bytes, tags 70 to 7F have two, all others one
abbrev pub header_of : ℕ → ℕ
header_of t = cond (nat_le 0x80 t) 1 (cond (t == 0x21) 1 (cond (nat_le 0x70 t) 3 2))

-- the length of its value, where one and two are the numbers in the one and in the two bytes after the tag
abbrev pub length_of : ℕ → ℕ → ℕ → ℕ
length_of t one two = cond (nat_le 0x80 t) 0 (cond (t == 0x21) 16 (cond (nat_le 0x70 t) two one))

abbrev pub length_at : List ℕ → ℕ → ℕ
length_at m p = length_of (slice_index m p) (slice_index m (p + 1)) (two_bytes m (p + 1))

-- the place after the element
abbrev pub end_at : List ℕ → ℕ → ℕ
end_at m p = p + header_of (slice_index m p) + length_at m p

abbrev pub whole_at : List ℕ → ℕ → Elem
whole_at m p = record {
  tag = slice_index m p;
  place = p;
  header = header_of (slice_index m p);
  value = cut m (p + header_of (slice_index m p)) (length_at m p);
}

-- the element at a place, or that it is cut there
abbrev pub element_at : List ℕ → ℕ → Result Elem ElementFault
element_at m p = cond (nat_le (end_at m p) (length m)) (Ok (whole_at m p)) (Err (Cut p))

-- the elements from a place on, if all are whole; no message has more elements than bytes
abbrev pub elements : List ℕ → ℕ → Result (List Elem) ElementFault
elements m p = walk (element_at m) (end_at m) (length m) (length m) p

abbrev pub tagged : ℕ → Elem → Bool
tagged t e = e.tag == t

-- an element's value, with its own place or with that of the tag
abbrev pub value_of : Elem → Field
value_of e = record { place = e.place + e.header; octets = e.value }

abbrev pub at_tag : Elem → Field
at_tag e = record { place = e.place; octets = e.value }

abbrev pub end_of : Elem → ℕ
end_of e = e.place + e.header + length e.value

-- no element is empty
some_header : (t : ℕ) → 1 ≤ header_of t
some_header t =
    cond_both (nat_le 0x80 t) _ _ (λ n. 1 ≤ n) (λ _. omega arith)
    (λ _. cond_both (t == 0x21) _ _ (λ n. 1 ≤ n) (λ _. omega arith) (λ _. cond_both (nat_le 0x70 t) 3 2 (λ n. 1 ≤ n) (λ _. omega arith) (λ _. omega arith)))

pub goes_on : (m : List ℕ) (p : ℕ) → p < end_at m p
goes_on m p = omega (arith, some_header (slice_index m p))
