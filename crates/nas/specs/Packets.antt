-- The EAP packet of RFC 3748: code, identifier, length of the whole packet and, in a request, type and body. Assumes nothing.
use Rattle.std.specs.Prelude.{ℕ, cond, ◌&&◌, length, Some, None, Ok, Err, Option, Result, ◌==◌, nat_le, slice_index}
use Rattle.nas.specs.declared.fault.PacketFault.{PacketFault}
use Rattle.nas.specs.declared.fault.PacketFault.TheVariants.{WrongLength, WrongCode}
use Rattle.nas.specs.declared.message.MessageType.{MessageType}
use Rattle.nas.specs.declared.message.MessageType.TheVariants.{Request as InRequest, Result as InResult, Reject as InReject}
use Rattle.nas.specs.declared.packet.Code.{Code}
use Rattle.nas.specs.declared.packet.Code.TheVariants.{Request, Success, Failure}
use Rattle.nas.specs.declared.packet.Packet.{Packet}
use Rattle.nas.specs.Parts.{Field, field, two_bytes}

pub record EapPacket : Type 0 where
  pub code : Code
  pub identifier : ℕ
  pub whole : Field

abbrev pub eap_packet : Packet → EapPacket
eap_packet p = record { code = p.code; identifier = p.identifier; whole = field p.part }

-- what the code c means in each message, if it may stand there in a packet of n bytes
abbrev pub code_in : MessageType → ℕ → ℕ → Option Code
code_in InRequest c n = cond (c == 1 && nat_le 5 n) (Some Request) None
code_in InResult c n = cond (n == 4) (cond (c == 3) (Some Success) (cond (c == 4) (Some Failure) None)) None
code_in InReject c n = cond (c == 4 && n == 4) (Some Failure) None

abbrev pub coded : {F : Type 0} → Option Code → Field → Result EapPacket (PacketFault F)
coded (Some c) w = Ok (record { code = c; identifier = slice_index w.octets 1; whole = w })
coded None w = Err (WrongCode w.place)

-- the packet of a message of this type
abbrev pub packet_in : {F : Type 0} → MessageType → Field → Result EapPacket (PacketFault F)
packet_in t w =
    cond (nat_le 4 (length w.octets) && two_bytes w.octets 2 == length w.octets)
    (coded (code_in t (slice_index w.octets 0) (length w.octets)) w)
    (Err (WrongLength w.place))
