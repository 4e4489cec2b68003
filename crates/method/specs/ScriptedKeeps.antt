-- What every method keeps, of the scripted method. Assumes nothing.
use Rattle.std.specs.Prelude.{◌≡◌, ℕ, ◌+◌, ◌<◌, ◌≤◌, Bool, true, false, cond, List, [], length, take, drop, Some, None, Option, nat_le, slice_index, refl}
use Rattle.std.proofs.Common.{arith, leb-true, lit≤, length-drop}
use Rattle.std.proofs.lemmas.List.{length-take-le}
use Rattle.nas.specs.Replies.{response_packet}
use Rattle.method.specs.declared.row.Outcome.{Outcome}
use Rattle.method.specs.declared.row.Outcome.TheVariants.{GoOn as SaysGoOn, Grant, Refuse}
use Rattle.method.specs.declared.row.ScriptedFault.{ScriptedFault}
use Rattle.method.specs.declared.row.ScriptedFault.TheVariants.{NoRow, OutsideStore}
use Rattle.method.specs.declared.weighing.Verdict.TheVariants.{GoOn, Granted, Unproven}
use Rattle.method.specs.Method.{Holding}
use Rattle.method.specs.Scripted.{Script, Decision, number_of, first_row, decided, scripted, scripted_type}
use Rattle.method.specs.Subscribers.{Subscriber}

pub type_of_a_method : (4 ≤ scripted_type) × (scripted_type ≤ 253)
type_of_a_method = (lit≤ tt, lit≤ tt)

module _ (store : List ℕ) (at : ℕ) where
  -- the decision of a grant, by whether the block lies inside the store
  abbrev at_place : Bool → Decision
  at_place b = cond b (record { verdict = Granted; block = Some (take 128 (drop at store)) }) (record { verdict = Unproven OutsideStore; block = None })

  granted_at : (b : Bool) → nat_le (at + 128) (length store) ≡ b → (at_place b).verdict ≡ Granted → (x : List ℕ) × ((at_place b).block ≡ Some x) × (length x ≡ 128)
  granted_at true inside e =
      let fits = leb-true (at + 128) (length store) inside in
      let rest = length-drop at store in
      (take 128 (drop at store), refl, length-take-le 128 (drop at store) (omega arith))
  granted_at false inside e = cc

  unproven_at : (b : Bool) (f : ScriptedFault) → (at_place b).verdict ≡ Unproven f → (at_place b).block ≡ None
  unproven_at true f e = cc
  unproven_at false f e = refl

  go_on_at : (b : Bool) (held : Option (List ℕ)) → (at_place b).verdict ≡ GoOn → (at_place b).block ≡ held
  go_on_at true held e = cc
  go_on_at false held e = cc

module _ (s : Script) (held : Option (List ℕ)) where
  granted_decided : (o : Option Outcome) → (decided o s held).verdict ≡ Granted → (x : List ℕ) × ((decided o s held).block ≡ Some x) × (length x ≡ 128)
  granted_decided None e = cc
  granted_decided (Some SaysGoOn) e = cc
  granted_decided (Some (Grant at)) e = granted_at s.store at (nat_le (at + 128) (length s.store)) refl e
  granted_decided (Some Refuse) e = cc

  unproven_decided : (o : Option Outcome) (f : ScriptedFault) → (decided o s held).verdict ≡ Unproven f → (decided o s held).block ≡ None
  unproven_decided None f e = refl
  unproven_decided (Some SaysGoOn) f e = cc
  unproven_decided (Some (Grant at)) f e = unproven_at s.store at (nat_le (at + 128) (length s.store)) f e
  unproven_decided (Some Refuse) f e = refl

  go_on_decided : (o : Option Outcome) → (decided o s held).verdict ≡ GoOn → (decided o s held).block ≡ held
  go_on_decided None e = cc
  go_on_decided (Some SaysGoOn) e = refl
  go_on_decided (Some (Grant at)) e = go_on_at s.store at (nat_le (at + 128) (length s.store)) held e
  go_on_decided (Some Refuse) e = cc

module _ (h : Holding Script) (packet : List ℕ) (s : Subscriber) (suci : List ℕ) where
  abbrev row : Option Outcome
  row = first_row h.stage.rows (slice_index packet 1)

  pub granted_leaves_a_block : (scripted h packet s suci).verdict ≡ Granted → (x : List ℕ) × ((scripted h packet s suci).next.block ≡ Some x) × (length x ≡ 128)
  granted_leaves_a_block e = granted_decided h.stage h.block row e

  pub unproven_leaves_none : (f : ScriptedFault) → (scripted h packet s suci).verdict ≡ Unproven f → (scripted h packet s suci).next.block ≡ None
  unproven_leaves_none f e = unproven_decided h.stage h.block row f e

  pub go_on_leaves_the_block : (scripted h packet s suci).verdict ≡ GoOn → (scripted h packet s suci).next.block ≡ h.block
  go_on_leaves_the_block e = go_on_decided h.stage h.block row e

  pub reason_of_layer_4 : (f : ScriptedFault) → (scripted h packet s suci).verdict ≡ Unproven f → (21 ≤ number_of f) × (number_of f ≤ 34)
  reason_of_layer_4 NoRow e = (lit≤ tt, lit≤ tt)
  reason_of_layer_4 OutsideStore e = (lit≤ tt, lit≤ tt)

  pub place_inside : (f : ScriptedFault) → 5 ≤ length packet → (scripted h packet s suci).verdict ≡ Unproven f → 0 < length packet
  place_inside f long e = omega arith

  pub reply_of_its_type : 5 ≤ length packet → 1 ≤ length suci → length suci ≤ 255 →
      (body : List ℕ) × ((scripted h packet s suci).reply ≡ response_packet (slice_index packet 1) scripted_type body) × (5 + length body ≤ 1500)
  reply_of_its_type long least most = ([], refl, lit≤ tt)
