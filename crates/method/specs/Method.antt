-- What an EAP method holds, what processing a packet gives, and what every method keeps.
-- Assumes nothing.
use Rattle.std.specs.Prelude.{◌≡◌, ℕ, ◌+◌, ◌<◌, ◌≤◌, List, ◌++◌, length, drop, Some, None, Option, slice_index}
use Rattle.nas.specs.Replies.{response_packet}
use Rattle.method.specs.declared.weighing.Verdict.{Verdict}
use Rattle.method.specs.declared.weighing.Verdict.TheVariants.{GoOn, Granted, Unproven}
use Rattle.method.specs.declared.weighing.Weighing.{Weighing}
use Rattle.method.specs.Subscribers.{Subscriber}

-- a block of key material, MSK then EMSK, and a stage of the method's own
pub record Holding (S : Type 0) : Type 0 where
  pub block : Option (List ℕ)
  pub stage : S

-- what processing gives: a verdict, with the method's fault F if unproven, a reply, and what the method holds then
pub record Processed (F S : Type 0) : Type 0 where
  pub verdict : Verdict F
  pub reply : List ℕ
  pub next : Holding S

-- A method's own written definition: its stage, its EAP type, what processing a packet gives from what it holds, the
-- subscription and the SUCI, and the stage that clearing leaves; and, as proofs, what every method keeps. A fault has a
-- number and a place inside the packet.
pub record Definition (F : Type 0) : Type 1 where
  pub number : F → ℕ
  pub place : F → ℕ
  pub Stage : Type 0
  pub eap_type : ℕ
  pub processes : Holding Stage → (packet : List ℕ) → Subscriber → (suci : List ℕ) → Processed F Stage
  pub cleared : Stage → Stage
  pub type_of_a_method : (4 ≤ eap_type) × (eap_type ≤ 253)
  pub granted_leaves_a_block :
      (h : Holding Stage) (packet : List ℕ) (s : Subscriber) (suci : List ℕ) →
      (processes h packet s suci).verdict ≡ Granted →
      (b : List ℕ) × ((processes h packet s suci).next.block ≡ Some b) × (length b ≡ 128)
  pub unproven_leaves_none :
      (h : Holding Stage) (packet : List ℕ) (s : Subscriber) (suci : List ℕ) (f : F) →
      (processes h packet s suci).verdict ≡ Unproven f → (processes h packet s suci).next.block ≡ None
  pub go_on_leaves_the_block :
      (h : Holding Stage) (packet : List ℕ) (s : Subscriber) (suci : List ℕ) →
      (processes h packet s suci).verdict ≡ GoOn → (processes h packet s suci).next.block ≡ h.block
  pub reason_of_layer_4 :
      (h : Holding Stage) (packet : List ℕ) (s : Subscriber) (suci : List ℕ) (f : F) →
      (processes h packet s suci).verdict ≡ Unproven f → (21 ≤ number f) × (number f ≤ 34)
  pub place_inside :
      (h : Holding Stage) (packet : List ℕ) (s : Subscriber) (suci : List ℕ) (f : F) → 5 ≤ length packet →
      (processes h packet s suci).verdict ≡ Unproven f → place f < length packet
  pub reply_of_its_type :
      (h : Holding Stage) (packet : List ℕ) (s : Subscriber) (suci : List ℕ) →
      5 ≤ length packet → 1 ≤ length suci → length suci ≤ 255 →
      (body : List ℕ) × ((processes h packet s suci).reply ≡ response_packet (slice_index packet 1) eap_type body) × (5 + length body ≤ 1500)

-- clearing leaves no block, and the stage that the definition names
abbrev pub emptied : {F : Type 0} → (D : Definition F) → Holding D.Stage → Holding D.Stage
emptied D h = record { block = None; stage = D.cleared h.stage }

-- a buffer with the reply in front, and the rest as it was
abbrev pub replied : List ℕ → List ℕ → List ℕ
replied reply buffer = reply ++ drop (length reply) buffer

-- that one call did what p says: its verdict, the length of its reply, the buffer and what is held before and after
pub record Gives {F S : Type 0} (p : Processed F S) (result : Weighing F) (buffer written : List ℕ) (held : Holding S) : Type 0 where
  pub verdict : result.verdict ≡ p.verdict
  pub len : result.reply_len ≡ length p.reply
  pub reply : written ≡ replied p.reply buffer
  pub holds : held ≡ p.next
