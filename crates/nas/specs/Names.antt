-- The name of a serving network: 5G:mnc, three digits, .mcc, three digits, .3gppnetwork.org, and for a private network a colon and eleven digits. Assumes nothing.
use Rattle.std.specs.Prelude.{ℕ, ◌+◌, Bool, cond, ◌&&◌, ◌||◌, List, length, Some, None, codes, Option, ◌==◌, nat_le, slice_index}
use Rattle.std.specs.Bool.{then_some}
use Rattle.std.specs.List.{list_all}
use Rattle.std.specs.Str.{bytes_eq}
use Rattle.nas.specs.declared.name.Base.{Base}
use Rattle.nas.specs.declared.name.Base.TheVariants.{Decimal, Hexadecimal}
use Rattle.nas.specs.declared.name.NetworkKind.{NetworkKind}
use Rattle.nas.specs.declared.name.NetworkKind.TheVariants.{Public, Private}
use Rattle.nas.specs.Parts.{cut}

-- 0 to 9, and in base 16 also A to F
abbrev pub is_digit : Base → ℕ → Bool
is_digit Decimal b = nat_le 0x30 b && nat_le b 0x39
is_digit Hexadecimal b = (nat_le 0x30 b && nat_le b 0x39) || (nat_le 0x41 b && nat_le b 0x46)

abbrev pub all_digits : Base → List ℕ → Bool
all_digits base s = list_all (λ b. is_digit base b) s

-- the text t at place p, with three digits after it
abbrev pub labelled : List ℕ → ℕ → List ℕ → Bool
labelled s p t = bytes_eq (cut s p (length t)) t && all_digits Decimal (cut s (p + length t) 3)

-- the name of a public network (PLMN)
abbrev pub plmn_name : List ℕ → Bool
plmn_name s = labelled s 0 (codes "5G:mnc") && labelled s 9 (codes ".mcc") && bytes_eq (cut s 16 16) (codes ".3gppnetwork.org")

-- a colon and a network identifier (NID) after it
abbrev pub nid_after : List ℕ → Bool
nid_after s = slice_index s 32 == 0x3A && all_digits Hexadecimal (cut s 33 11)

unfoldable pub network_kind : List ℕ → Option NetworkKind
network_kind s =
    cond (length s == 32) (then_some (plmn_name s) Public)
    (cond (length s == 44) (then_some (plmn_name s && nid_after s) Private) None)

-- the number of the refusal of a name
abbrev pub name_number : Option NetworkKind → ℕ
name_number (Some k) = 0
name_number None = 2
