-- The network's authentication messages of TS 24.501, by their bytes: each part is a cut of the message, with its place. Assumes nothing.
use Rattle.std.specs.Prelude.{ℕ, ◌+◌, ◌%◌, cond, ◌&&◌, List, length, Some, None, Ok, Err, Option, Result, ◌==◌, nat_le, slice_index}
use Rattle.std.specs.Option.{option_map}
use Rattle.nas.specs.declared.fault.ElementFault.{ElementFault}
use Rattle.nas.specs.declared.fault.ElementFault.TheVariants.{Cut}
use Rattle.nas.specs.declared.fault.MessageFault.{MessageFault}
use Rattle.nas.specs.declared.fault.MessageFault.TheVariants.{WrongHeader, WrongType, InElement, NoEapMessage, InPacket, NoKeySet, WrongAbba}
use Rattle.nas.specs.declared.message.Mandatory.{Mandatory}
use Rattle.nas.specs.declared.message.Mandatory.TheVariants.{Request as RequestParts, Result as ResultParts, Reject as RejectParts}
use Rattle.nas.specs.declared.message.Message.{Message}
use Rattle.nas.specs.declared.message.Message.TheVariants.{Request, Success, Failure, Reject}
use Rattle.nas.specs.declared.message.MessageType.{MessageType}
use Rattle.nas.specs.declared.message.MessageType.TheVariants.{Request as InRequest, Result as InResult, Reject as InReject}
use Rattle.nas.specs.declared.packet.Code.{Code}
use Rattle.nas.specs.declared.packet.Code.TheVariants.{Request as CodeRequest, Success as CodeSuccess, Failure as CodeFailure}
use Rattle.nas.specs.Elements.{Elem, elements, tagged, value_of, at_tag}
use Rattle.nas.specs.Outcomes.{then, raised}
use Rattle.nas.specs.Packets.{EapPacket, eap_packet, packet_in}
use Rattle.nas.specs.Parts.{Field, field, cut, two_bytes}
use Rattle.nas.specs.Walk.{first}

-- what a message says: ngKSI, ABBA and EAP packet
pub data Contents : Type 0 where
  request : ℕ → Field → EapPacket → Contents
  success : ℕ → Field → EapPacket → Contents
  failure : EapPacket → Contents
  reject : Option EapPacket → Contents

abbrev pub contents : Message → Contents
contents (Request k a p) = request k (field a) (eap_packet p)
contents (Success k a p) = success k (field a) (eap_packet p)
contents (Failure p) = failure (eap_packet p)
contents (Reject p) = reject (option_map eap_packet p)

abbrev pub message_type_of : ℕ → Option MessageType
message_type_of t = cond (t == 0x56) (Some InRequest) (cond (t == 0x5A) (Some InResult) (cond (t == 0x58) (Some InReject) None))

-- the mandatory parts, which stand before the elements: ngKSI, and the ABBA of a request or the EAP message of a result
pub data Fixed : Type 0 where
  of_request : ℕ → Field → Fixed
  of_result : ℕ → Field → Fixed
  of_reject : Fixed

abbrev pub fixed : Mandatory → Fixed
fixed (RequestParts k a) = of_request k (field a)
fixed (ResultParts k e) = of_result k (field e)
fixed RejectParts = of_reject

-- the ngKSI is the low half of byte 3
abbrev pub ngksi_of : List ℕ → Result ℕ ElementFault
ngksi_of m = cond (nat_le 4 (length m)) (Ok (slice_index m 3 % 16)) (Err (Cut 3))

-- format LV: a value behind one length byte, which is its place
abbrev pub lv_at : List ℕ → ℕ → Result Field ElementFault
lv_at m p = cond (nat_le (p + 1 + slice_index m p) (length m)) (Ok (record { place = p; octets = cut m (p + 1) (slice_index m p) })) (Err (Cut p))

-- format LV-E: a value behind two length bytes, with the place of its own first byte
abbrev pub lv_e_at : List ℕ → ℕ → Result Field ElementFault
lv_e_at m p = cond (nat_le (p + 2 + two_bytes m p) (length m)) (Ok (record { place = p + 2; octets = cut m (p + 2) (two_bytes m p) })) (Err (Cut p))

abbrev pub fixed_in : MessageType → List ℕ → Result Fixed ElementFault
fixed_in InRequest m = then (ngksi_of m) (λ k. then (lv_at m 4) (λ a. Ok (of_request k a)))
fixed_in InResult m = then (ngksi_of m) (λ k. then (lv_e_at m 4) (λ e. Ok (of_result k e)))
fixed_in InReject m = Ok of_reject

abbrev pub typed : {F : Type 0} → Option MessageType → List ℕ → Result Fixed (MessageFault F)
typed (Some t) m = raised InElement (fixed_in t m)
typed None m = Err WrongType

-- 3 to 2,048 bytes that start with 7E (5GS mobility management) and 00 (not protected), and one of the three types
abbrev pub mandatory : {F : Type 0} → List ℕ → Result Fixed (MessageFault F)
mandatory m =
    cond (nat_le 3 (length m) && nat_le (length m) 2048 && slice_index m 0 == 0x7E && slice_index m 1 == 0x00)
    (typed (message_type_of (slice_index m 2)) m)
    (Err WrongHeader)

-- where the elements start
abbrev pub start_of : Fixed → ℕ
start_of (of_request k a) = 5 + length a.octets
start_of (of_result k e) = 6 + length e.octets
start_of of_reject = 3

unfoldable pub elements_start : {F : Type 0} → List ℕ → Result ℕ (MessageFault F)
elements_start m = then (mandatory m) (λ h. Ok (start_of h))

-- the elements of a message
abbrev pub elements_of : {F : Type 0} → List ℕ → Result (List Elem) (MessageFault F)
elements_of m = then (elements_start m) (λ p. raised InElement (elements m p))

-- an EAP message has to be there
abbrev pub needed : {X F : Type 0} → Option X → ℕ → Result X (MessageFault F)
needed (Some x) n = Ok x
needed None n = Err (NoEapMessage n)

abbrev pub long_enough : {F : Type 0} → Option Field → ℕ → Result Field (MessageFault F)
long_enough (Some a) n = cond (nat_le 2 (length a.octets)) (Ok a) (Err (WrongAbba a.place))
long_enough None n = Err (WrongAbba n)

-- keys are made with a key set, so not with the ngKSI 7 (of either kind), and with an ABBA of two bytes or more
abbrev pub for_keys : {F : Type 0} → ℕ → Option Field → ℕ → Result Field (MessageFault F)
for_keys k a n = cond (k % 8 == 7) (Err NoKeySet) (long_enough a n)

-- a request of n bytes with these elements: tag 78 is the EAP message
abbrev pub request_of : {F : Type 0} → ℕ → Field → Result (List Elem) ElementFault → ℕ → Result Contents (MessageFault F)
request_of k a es n =
    then (raised InElement (first (tagged 0x78) es)) (λ o.
    then (needed o n) (λ e.
    then (raised InPacket (packet_in InRequest (value_of e))) (λ p.
    then (for_keys k (Some a) n) (λ b.
    Ok (request k b p)))))

abbrev pub result_for : {F : Type 0} → Code → ℕ → Option Elem → EapPacket → ℕ → Result Contents (MessageFault F)
result_for CodeSuccess k o p n = then (for_keys k (option_map at_tag o) n) (λ b. Ok (success k b p))
result_for CodeRequest k o p n = Ok (failure p)
result_for CodeFailure k o p n = Ok (failure p)

-- a result: tag 38 is the ABBA, which a success has to have
abbrev pub result_of : {F : Type 0} → ℕ → Field → Result (List Elem) ElementFault → ℕ → Result Contents (MessageFault F)
result_of k w es n =
    then (raised InElement (first (tagged 0x38) es)) (λ o.
    then (raised InPacket (packet_in InResult w)) (λ p.
    result_for p.code k o p n))

abbrev pub reject_for : {F : Type 0} → Option Elem → Result Contents (MessageFault F)
reject_for None = Ok (reject None)
reject_for (Some e) = then (raised InPacket (packet_in InReject (value_of e))) (λ p. Ok (reject (Some p)))

-- a reject needs no EAP message
abbrev pub reject_of : {F : Type 0} → Result (List Elem) ElementFault → Result Contents (MessageFault F)
reject_of es = then (raised InElement (first (tagged 0x78) es)) (λ o. reject_for o)

abbrev pub contents_of : {F : Type 0} → Fixed → Result (List Elem) ElementFault → ℕ → Result Contents (MessageFault F)
contents_of (of_request k a) es n = request_of k a es n
contents_of (of_result k w) es n = result_of k w es n
contents_of of_reject es n = reject_of es

-- the whole message, or the first question that it fails
unfoldable pub read_message : {F : Type 0} → List ℕ → Result Contents (MessageFault F)
read_message m = then (mandatory m) (λ h. contents_of h (elements m (start_of h)) (length m))
