-- EAP-AKA' (RFC 4187, RFC 5448) over any card: questions 25 to 32, after those that reading a request asks. Assumes nothing.
use Rattle.std.specs.Prelude.{ℕ, Bool, true, false, cond, List, [], ◌∷◌, ◌++◌, Some, None, Ok, Err, Option, Result, ◌==◌, nat_le, slice_index}
use Rattle.std.specs.Str.{bytes_eq}
use Rattle.keys.specs.Keys.{ck_prime, ik_prime, master_key, k_aut_of, msk_of, emsk_of}
use Rattle.nas.specs.Replies.{response_packet}
use Rattle.method.specs.declared.weighing.Verdict.{Verdict}
use Rattle.method.specs.declared.weighing.Verdict.TheVariants.{GoOn, Granted, Unproven}
use Rattle.method.specs.Method.{Holding, Processed}
use Rattle.method.specs.Subscribers.{Subscriber}
use Rattle.attributes.specs.declared.attribute.IdentityKind.{IdentityKind}
use Rattle.attributes.specs.declared.attribute.IdentityKind.TheVariants.{Permanent, Any, FullAuthentication}
use Rattle.attributes.specs.declared.fault.RequestFault.{RequestFault}
use Rattle.attributes.specs.declared.request.IdentityRequest.{IdentityRequest}
use Rattle.attributes.specs.Requests as requests
use Rattle.attributes.specs.Requests.{Asked, ChallengeParts, read_request}
use Rattle.cards.specs.declared.kinds.CardOutcome.{CardOutcome}
use Rattle.cards.specs.declared.kinds.CardOutcome.TheVariants.{Out, Wrong, Stale, Good}
use Rattle.cards.specs.Card.{Answered, CardDefinition}
use Rattle.aka.specs.declared.decision.Decision.{Decision}
use Rattle.aka.specs.declared.fault.AkaFault.{AkaFault}
use Rattle.aka.specs.declared.fault.AkaFault.TheVariants.{InRequest, IdentityRefused, WrongKdf, WrongNetwork, NoCard, NotSeparated, WrongAutn, StaleSequence, WrongMac}
use Rattle.aka.specs.Replies.{Answer, answer, client_error, authentication_reject, synchronization_failure, identity, challenge, body_of, aka_type, mac_with, zeroed_at}

-- a verdict, what is answered, and the block that is held then
pub record Decided : Type 0 where
  pub verdict : Verdict AkaFault
  pub answer : Answer
  pub block : Option (List ℕ)

abbrev pub decided : Decision → Decided
decided d = record { verdict = d.verdict; answer = answer d.reply; block = d.block }

abbrev pub unproven : AkaFault → Answer → Decided
unproven f a = record { verdict = Unproven f; answer = a; block = None }

-- ---- an identity request

-- the identity is not told while a block is held, and the permanent one never is
abbrev pub untold : Option (List ℕ) → IdentityKind → Bool
untold (Some b) k = true
untold None Permanent = true
untold None Any = false
untold None FullAuthentication = false

-- question 25
abbrev pub on_identity : Option (List ℕ) → IdentityRequest → Decided
on_identity held i =
    cond (untold held i.kind)
    (unproven (IdentityRefused i.at) client_error)
    (record { verdict = GoOn; answer = identity; block = held })

-- ---- a challenge

-- the network prefers the function of EAP-AKA', number 1
abbrev pub prefers_aka_prime : List ℕ → Bool
prefers_aka_prime [] = false
prefers_aka_prime (v ∷ vs) = v == 1

-- questions 26 and 27, before the card is asked
abbrev pub offered : Subscriber → ChallengeParts → Result (Unit {0}) AkaFault
offered s c =
    cond (prefers_aka_prime c.kdfs.values)
    (cond (bytes_eq c.network.octets s.snn) (Ok tt) (Err (WrongNetwork c.network.place)))
    (Err (WrongKdf c.kdfs.place))

-- MK, from AUTN and the card's CK and IK
abbrev pub master_key_for : Subscriber → (autn ck ik : List ℕ) → List ℕ
master_key_for s autn ck ik = master_key (ck_prime ck ik s.snn autn) (ik_prime ck ik s.snn autn) s.supi

-- MSK, then EMSK
abbrev pub key_block : List ℕ → List ℕ
key_block mk = msk_of mk ++ emsk_of mk

-- question 32
abbrev pub on_keys : (packet : List ℕ) → ChallengeParts → (res k_aut_of block : List ℕ) → Decided
on_keys p c res k_aut_of block =
    cond (bytes_eq c.mac.bytes (mac_with k_aut_of (zeroed_at p c.mac.at)))
    (record { verdict = Granted; answer = challenge res k_aut_of; block = Some block })
    (unproven (WrongMac c.mac.at) client_error)

abbrev pub on_master_key : (packet : List ℕ) → ChallengeParts → (res mk : List ℕ) → Decided
on_master_key p c res mk = on_keys p c res (k_aut_of mk) (key_block mk)

-- question 29: the separation bit, the highest of AMF in AUTN
abbrev pub separated : ChallengeParts → Decided → Decided
separated c d = cond (nat_le 128 (slice_index c.autn.bytes 6)) d (unproven (NotSeparated c.autn.at) authentication_reject)

-- questions 28 to 32, of what the card said
abbrev pub on_outcome : (packet : List ℕ) → Subscriber → ChallengeParts → CardOutcome → Decided
on_outcome p s c Out = unproven NoCard client_error
on_outcome p s c Wrong = separated c (unproven (WrongAutn c.autn.at) authentication_reject)
on_outcome p s c (Stale auts) = separated c (unproven (StaleSequence c.autn.at) (synchronization_failure auts c.kdfs.values))
on_outcome p s c (Good res ck ik) = separated c (on_master_key p c res (master_key_for s c.autn.bytes ck ik))

-- ---- a request

-- a decision, and the stage that the card is in then
pub record Judged (S : Type 0) : Type 0 where
  pub decision : Decided
  pub stage : S

module _ (card : CardDefinition) (h : Holding card.Stage) (packet : List ℕ) (s : Subscriber) where
  -- the card is asked once, and keeps its next holding whatever follows
  abbrev pub by_card : ChallengeParts → Answered card.Stage → Judged card.Stage
  by_card c a = record { decision = on_outcome packet s c a.outcome; stage = a.next }

  abbrev pub on_challenge : ChallengeParts → Result (Unit {0}) AkaFault → Judged card.Stage
  on_challenge c (Ok u) = by_card c (card.answers h.stage c.rand.bytes c.autn.bytes)
  on_challenge c (Err f) = record { decision = unproven f authentication_reject; stage = h.stage }

  abbrev pub on_request : Result Asked RequestFault → Judged card.Stage
  on_request (Ok (requests.identity i)) = record { decision = on_identity h.block i; stage = h.stage }
  on_request (Ok (requests.challenge c)) = on_challenge c (offered s c)
  on_request (Err f) = record { decision = unproven (InRequest f) client_error; stage = h.stage }

  abbrev pub judged : Judged card.Stage
  judged = on_request (read_request packet)

abbrev pub given : {S : Type 0} → (identifier : ℕ) → (suci : List ℕ) → Judged S → Processed AkaFault S
given i suci j = record {
  verdict = j.decision.verdict;
  reply = response_packet i aka_type (body_of i suci j.decision.answer);
  next = record { block = j.decision.block; stage = j.stage };
}

abbrev pub aka : (card : CardDefinition) → Holding card.Stage → (packet : List ℕ) → Subscriber → (suci : List ℕ) → Processed AkaFault card.Stage
aka card h packet s suci = given (slice_index packet 1) suci (judged card h packet s)
