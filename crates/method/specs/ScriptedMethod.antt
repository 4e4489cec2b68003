-- The scripted method's definition, with what every method keeps. Assumes nothing.
use Rattle.method.specs.declared.row.ScriptedFault.{ScriptedFault}
use Rattle.method.specs.declared.row.Scripted.{Scripted}
use Rattle.method.specs.Method.{Definition, Holding}
use Rattle.method.specs.Scripted.{Script, number_of, scripted, scripted_type}
use Rattle.method.specs.ScriptedKeeps as keeps

abbrev pub scripted_definition : Definition ScriptedFault
scripted_definition = record {
  number = number_of;
  place = λ _. 0;
  Stage = Script;
  eap_type = scripted_type;
  processes = scripted;
  cleared = λ s. s;
  type_of_a_method = keeps.type_of_a_method;
  granted_leaves_a_block = keeps.granted_leaves_a_block;
  unproven_leaves_none = keeps.unproven_leaves_none;
  go_on_leaves_the_block = keeps.go_on_leaves_the_block;
  reason_of_layer_4 = keeps.reason_of_layer_4;
  place_inside = keeps.place_inside;
  reply_of_its_type = keeps.reply_of_its_type;
}

abbrev pub scripted_holding : Scripted → Holding Script
scripted_holding m = record { block = m.block; stage = record { rows = m.rows.now; store = m.store.now } }
