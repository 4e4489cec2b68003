-- What the device writes: EAP responses of RFC 3748, and AUTHENTICATION RESPONSE of TS 24.501. Assumes nothing.
use Rattle.std.specs.Prelude.{ℕ, ◌+◌, ◌/◌, ◌%◌, Bool, cond, ◌&&◌, List, [], ◌∷◌, ◌++◌, length, drop, Some, None, Option, nat_le}
use Rattle.nas.specs.declared.reply.Response.{Response}
use Rattle.nas.specs.declared.reply.Response.TheVariants.{Identity, Notification, Nak}
use Rattle.nas.specs.Parts.{cut}

-- code 2, identifier, length of the whole packet, type, body
abbrev pub response_packet : ℕ → ℕ → List ℕ → List ℕ
response_packet i t body = 2 ∷ i ∷ (length body + 5) / 256 ∷ (length body + 5) % 256 ∷ t ∷ body

-- types 1 Identity, 2 Notification, 3 Nak
abbrev pub response : ℕ → Response → List ℕ
response i (Identity suci) = response_packet i 1 suci.now
response i Notification = response_packet i 2 []
response i (Nak wanted) = response_packet i 3 (wanted ∷ [])

-- a two-byte length can tell it, and the buffer has room
abbrev pub fits : List ℕ → List ℕ → Bool
fits p out = nat_le (length p) 65535 && nat_le (length p) (length out)

abbrev pub written_length : List ℕ → List ℕ → Option ℕ
written_length p out = cond (fits p out) (Some (length p)) None

-- the buffer with the packet at its start, if it fits
abbrev pub written : List ℕ → List ℕ → List ℕ
written p out = cond (fits p out) (p ++ drop (length p) out) out

-- 7E 00 57, then the EAP message: tag 78, length and packet
abbrev pub reply_message : List ℕ → List ℕ
reply_message p = 0x7E ∷ 0x00 ∷ 0x57 ∷ 0x78 ∷ length p / 256 ∷ length p % 256 ∷ p

abbrev pub fits_framed : ℕ → List ℕ → Bool
fits_framed n b = nat_le n 65535 && nat_le (n + 6) (length b)

abbrev pub framed_length : ℕ → List ℕ → Option ℕ
framed_length n b = cond (fits_framed n b) (Some (n + 6)) None

-- the buffer b with the message of the packet of n bytes that stands at byte 6, if it fits
abbrev pub framed : ℕ → List ℕ → List ℕ
framed n b = cond (fits_framed n b) (reply_message (cut b 6 n) ++ drop (n + 6) b) b
