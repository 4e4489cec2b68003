use Rattle.std.proofs.Common.{◌≡◌, ◌/◌, ◌%◌, ◌++◌, map, length, get_or, take, sym, ap, ◌∙◌, arith, length-append, length-take, append_assoc}
use Rattle.std.proofs.lemmas.List.{take_all}
use Rattle.digest.specs.Hmac.{joined}
use Rattle.digest.proofs.Keys.{joined_step}
use Rattle.aka.specs.AkaKeeps.{kdfs_length}
use Rattle.aka.specs.Replies.{kdf_attribute}
use Rattle.aka.proofs.reply.put_kdfs.Goals as goal

pub put-requires : goal.put-requires
put-requires c =
    let before = take c.loop-value.value-index c.values-values.result.now in
    let few = c.values-values.ensures.few in
    let short = length-take c.loop-value.value-index c.values-values.result.now in
    let bytes = kdfs_length before in
    let sofar = ap length c.loop-value.invariant in
    let all = length-append c.args.body.now.items (joined (map kdf_attribute before)) in
    omega arith

pub loop-value-preserved : goal.loop-value-preserved
loop-value-preserved c =
    let values = c.values-values.result.now in
    let i = c.loop-value.value-index in
    let v = get_or values i 0 in
    let high : v / 256 % 256 ≡ v / 256 = omega (arith, c.type_inv.values i) in
    let more : c.put.new.body.items ≡ c.loop-value.body.items ++ kdf_attribute v = rw (c.to_be_bytes.ensures, high) at c.put.ensures in
    let before = c.args.body.now.items in
    let sofar = joined (map kdf_attribute (take i values)) in
    more ∙ ap (λ l. l ++ kdf_attribute v) c.loop-value.invariant ∙ append_assoc before sofar (kdf_attribute v) ∙ ap (λ l. before ++ l) (sym (joined_step kdf_attribute values i 0 c.loop-value-test.true))

pub returns : goal.returns
returns c =
    let values = c.values-values.result.now in
    let before = c.args.body.now.items in
    let all : take c.loop-value.value-index values ≡ values = take_all c.loop-value.value-index values c.loop-value-test.false in
    let added : c.loop-value.body.items ≡ before ++ joined (map kdf_attribute values) = c.loop-value.invariant ∙ ap (λ l. before ++ joined (map kdf_attribute l)) all in
    let few = c.values-values.ensures.few in
    let bytes = kdfs_length values in
    let long = simp length-append at (ap length added) in
    record { items = added ∙ ap (λ l. before ++ joined (map kdf_attribute l)) c.values-values.ensures.value; short = omega arith }
