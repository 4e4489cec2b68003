-- What every message that was read has, so that a caller need not open the definition of reading. Assumes nothing.
use Rattle.std.specs.Prelude.{◌≡◌, ℕ, ◌+◌, ◌%◌, ◌<◌, ◌≤◌, List, length, Some, None, slice_index, slice_index_or}
use Rattle.nas.specs.declared.packet.Code.{Code}
use Rattle.nas.specs.declared.packet.Code.TheVariants.{Request as CodeRequest, Success as CodeSuccess, Failure as CodeFailure}
use Rattle.nas.specs.Messages.{Contents, request, success, failure, reject}
use Rattle.nas.specs.Packets.{EapPacket}
use Rattle.nas.specs.Parts.{Field, cut}

-- the octets stand in the message m, from place p on
pub record Lies (m : List ℕ) (p : ℕ) (octets : List ℕ) : Type 0 where
  pub inside : p + length octets ≤ length m
  pub there : octets ≡ cut m p (length octets)

-- an ngKSI and an ABBA that keys can be made with
pub record ForKeys (k : ℕ) (a : Field) : Type 0 where
  pub ngksi : k < 16
  pub key_set : k % 8 ≡ 7 → ⊥
  pub least : 2 ≤ length a.octets
  pub most : length a.octets ≤ 255

-- a packet of the message m, whose first byte is c and means the code d
pub record Carried (m : List ℕ) (c : ℕ) (d : Code) (p : EapPacket) : Type 0 where
  pub lies : Lies m p.whole.place p.whole.octets
  pub least : 4 ≤ length p.whole.octets
  pub first : slice_index_or p.whole.octets 0 0 ≡ c
  pub code : p.code ≡ d
  pub identifier : p.identifier ≡ slice_index p.whole.octets 1

pub record SoundRequest (m : List ℕ) (k : ℕ) (a : Field) (p : EapPacket) : Type 0 where
  pub short : length m ≤ 2048
  pub keys : ForKeys k a
  pub abba_place : a.place ≡ 4
  pub abba : Lies m 5 a.octets
  pub packet : Carried m 1 CodeRequest p
  pub typed : 5 ≤ length p.whole.octets

pub record SoundSuccess (m : List ℕ) (k : ℕ) (a : Field) (p : EapPacket) : Type 0 where
  pub short : length m ≤ 2048
  pub keys : ForKeys k a
  pub abba : Lies m (a.place + 2) a.octets
  pub packet : Carried m 3 CodeSuccess p
  pub whole : length p.whole.octets ≡ 4

pub record SoundFailure (m : List ℕ) (p : EapPacket) : Type 0 where
  pub short : length m ≤ 2048
  pub packet : Carried m 4 CodeFailure p
  pub whole : length p.whole.octets ≡ 4

abbrev pub Sound : List ℕ → Contents → Type 0
Sound m (request k a p) = SoundRequest m k a p
Sound m (success k a p) = SoundSuccess m k a p
Sound m (failure p) = SoundFailure m p
Sound m (reject None) = length m ≤ 2048
Sound m (reject (Some p)) = SoundFailure m p
