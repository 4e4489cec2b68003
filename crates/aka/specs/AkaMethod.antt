-- The definition of EAP-AKA' over a card, with what every method keeps. Assumes nothing.
use Rattle.method.specs.Method.{Definition, Holding}
use Rattle.method.specs.Subscribers.{subscriber}
use Rattle.attributes.specs.Requests.{challenge_parts}
use Rattle.cards.specs.Card.{CardDefinition}
use Rattle.aka.specs.declared.aka_prime.AkaPrime.{AkaPrime}
use Rattle.aka.specs.declared.decision.Challenged.{Challenged}
use Rattle.aka.specs.declared.fault.AkaFault.{AkaFault}
use Rattle.aka.specs.Aka.{Judged, aka, offered, on_challenge}
use Rattle.aka.specs.AkaKeeps as keeps
use Rattle.aka.specs.Faults.{number_of, place_of}
use Rattle.aka.specs.Replies.{aka_type}

-- the stage is the card's holding, and clearing keeps it
abbrev pub aka_definition : CardDefinition → Definition AkaFault
aka_definition card = record {
  number = number_of;
  place = place_of;
  Stage = card.Stage;
  eap_type = aka_type;
  processes = aka card;
  cleared = λ s. s;
  type_of_a_method = keeps.type_of_a_method;
  granted_leaves_a_block = keeps.granted_leaves_a_block card;
  unproven_leaves_none = keeps.unproven_leaves_none card;
  go_on_leaves_the_block = keeps.go_on_leaves_the_block card;
  reason_of_layer_4 = keeps.reason_of_layer_4 card;
  place_inside = keeps.place_inside card;
  reply_of_its_type = keeps.reply_of_its_type card;
}

-- a block, and the stage that the card is in
abbrev pub aka_holding : {C S : Type 0} → (C → S) → AkaPrime C → Holding S
aka_holding stage_of m = record { block = m.block; stage = stage_of m.card }

-- what is judged of a challenge
abbrev pub judged_of : (card : CardDefinition) → Holding card.Stage → Challenged → Judged card.Stage
judged_of card h c =
    let s = subscriber c.subscription.now in
    let parts = challenge_parts c.challenge in
    on_challenge card h c.packet.now s parts (offered s parts)
