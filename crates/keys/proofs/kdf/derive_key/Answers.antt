use Rattle.std.proofs.Common.{ℕ, List, [], ◌∷◌, ap, ◌∙◌, subst, arith, Bor}
use Rattle.std.proofs.lemmas.List.{take_all}
use Rattle.digest.specs.Hmac.{hmac}
use Rattle.digest.specs.Keyed.{Keyed}
use Rattle.keys.specs.Kdf.{kdf}
use Rattle.keys.proofs.Derived.{hashes, hashes-all, hashes-step, short-at}
use Rattle.keys.proofs.kdf.derive_key.Goals as goal

pub overflow_cast-len : goal.overflow_cast-len
overflow_cast-len c =
    let none : Bor (List ℕ) = record { ref_ptr = (0, 0); now = [] } in
    omega (arith, short-at (λ x. x.now) c.args.parameters.now c.loop-p.p-index none c.requires c.loop-p-test.true)

pub loop-p-preserved : goal.loop-p-preserved
loop-p-preserved c =
    let key = c.args.key.now in
    let step = hashes-step (λ x. x.now) c.args.parameters.now c.loop-p.p-index c.args.fc _ c.to_be_bytes.result c.requires c.loop-p-test.true c.to_be_bytes.ensures in
    subst (Keyed c.update-in-loop-p-2.new.self key) step (c.update-in-loop-p-2.ensures key _ (c.update-in-loop-p.ensures key _ c.loop-p.invariant))

pub returns : goal.returns
unfolding kdf
returns c =
    let key = c.args.key.now in
    let all = take_all c.loop-p.p-index c.args.parameters.now (omega arith) in
    c.finish.ensures key _ c.loop-p.invariant ∙ ap (λ l. hmac key (c.args.fc ∷ hashes (λ x. x.now) l)) all ∙ ap (λ l. hmac key (c.args.fc ∷ l)) (hashes-all (λ x. x.now) c.args.parameters.now)
