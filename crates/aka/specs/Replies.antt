-- What the device answers: the bodies of the replies, behind the EAP type (RFC 4187, section 9). Reserved bytes are zero.
-- Assumes nothing.
use Rattle.std.specs.Prelude.{ℕ, ◌+◌, ◌-◌, ◌*◌, ◌/◌, ◌%◌, List, [], ◌∷◌, ◌++◌, map, length, take, drop, replicate}
use Rattle.digest.specs.Hmac.{hmac, joined}
use Rattle.nas.specs.Replies.{response_packet}
use Rattle.attributes.specs.Requests.{kdf_list}
use Rattle.aka.specs.declared.reply.Reply.{Reply}
use Rattle.aka.specs.declared.reply.Reply.TheVariants.{ClientError, AuthenticationReject, SynchronizationFailure, Identity, Challenge}

abbrev pub aka_type : ℕ
aka_type = 50

-- AKA-Client-Error: subtype 14, and AT_CLIENT_ERROR_CODE 22 with code 0
abbrev pub client_error_body : List ℕ
client_error_body = 14 ∷ 0 ∷ 0 ∷ 22 ∷ 1 ∷ 0 ∷ 0 ∷ []

-- AKA-Authentication-Reject: subtype 2
abbrev pub authentication_reject_body : List ℕ
authentication_reject_body = 2 ∷ 0 ∷ 0 ∷ []

-- AT_KDF 24
abbrev pub kdf_attribute : ℕ → List ℕ
kdf_attribute v = 24 ∷ 1 ∷ v / 256 ∷ v % 256 ∷ []

-- AKA-Synchronization-Failure: subtype 4, AT_AUTS 4, and each AT_KDF of the challenge
abbrev pub synchronization_failure_body : List ℕ → List ℕ → List ℕ
synchronization_failure_body auts kdfs = ((4 ∷ 0 ∷ 0 ∷ 4 ∷ 4 ∷ []) ++ take 14 auts) ++ joined (map kdf_attribute kdfs)

-- the words that an attribute needs for n bytes behind type, length and their number
abbrev pub words_for : ℕ → ℕ
words_for n = (n + 7) / 4

-- AKA-Identity: subtype 5, and AT_IDENTITY 14 with the SUCI, filled with zeros to a whole word
abbrev pub identity_body : List ℕ → List ℕ
identity_body suci =
    ((5 ∷ 0 ∷ 0 ∷ 14 ∷ words_for (length suci) ∷ length suci / 256 ∷ length suci % 256 ∷ []) ++ suci)
    ++ replicate (4 * words_for (length suci) - 4 - length suci) 0

-- AKA-Challenge: subtype 1, AT_RES 3 with the length of RES in bits, and AT_MAC 11 up to its MAC
abbrev pub challenge_front : List ℕ → List ℕ
challenge_front res = ((1 ∷ 0 ∷ 0 ∷ 3 ∷ 5 ∷ 0 ∷ 128 ∷ []) ++ take 16 res) ++ 11 ∷ 5 ∷ 0 ∷ 0 ∷ []

-- the first 16 bytes of HMAC-SHA-256 with K_aut
unfoldable pub mac_with : List ℕ → List ℕ → List ℕ
mac_with k_aut_of message = take 16 (hmac k_aut_of message)

-- its MAC goes over the whole reply with the MAC zeroed
unfoldable pub challenge_body : ℕ → List ℕ → List ℕ → List ℕ
challenge_body identifier res k_aut_of =
    challenge_front res ++ mac_with k_aut_of (response_packet identifier aka_type (challenge_front res ++ replicate 16 0))

-- the packet p with the whole value of the AT_MAC at place q zeroed: two reserved bytes and the MAC
abbrev pub zeroed_at : List ℕ → ℕ → List ℕ
zeroed_at p q = take (q + 2) p ++ (replicate 18 0 ++ drop (q + 20) p)

-- a reply, with what it says
pub data Answer : Type 0 where
  client_error : Answer
  authentication_reject : Answer
  synchronization_failure : (auts kdfs : List ℕ) → Answer
  identity : Answer
  challenge : (res k_aut_of : List ℕ) → Answer

abbrev pub answer : Reply → Answer
answer ClientError = client_error
answer AuthenticationReject = authentication_reject
answer (SynchronizationFailure auts kdfs) = synchronization_failure auts (kdf_list kdfs).values
answer Identity = identity
answer (Challenge res k_aut_of) = challenge res k_aut_of

-- to the request with this identifier
abbrev pub body_of : ℕ → (suci : List ℕ) → Answer → List ℕ
body_of identifier suci client_error = client_error_body
body_of identifier suci authentication_reject = authentication_reject_body
body_of identifier suci (synchronization_failure auts kdfs) = synchronization_failure_body auts kdfs
body_of identifier suci identity = identity_body suci
body_of identifier suci (challenge res k_aut_of) = challenge_body identifier res k_aut_of
