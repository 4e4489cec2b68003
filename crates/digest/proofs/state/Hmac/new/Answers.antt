use Rattle.std.proofs.Common.{◌≡◌, ℕ, [], ◌++◌, map, sym, ap, ◌∙◌, subst}
use lib.Bits.{bit_xor}
use Rattle.std.proofs.lemmas.List.{append-nil}
use Rattle.digest.specs.Absorbed.{Absorbed}
use Rattle.digest.specs.Hmac.{key_xor, ipad, opad}
use Rattle.digest.proofs.state.Hmac.new.Goals as goal

pub returns : goal.returns
unfolding key_xor
returns c =
    let key = c.args.key.now in
    let inner : c.masked.result ≡ key_xor key ipad ++ [] = c.masked.ensures ∙ ap (map (λ (b : ℕ). bit_xor b ipad)) c.block_key-block.ensures ∙ sym (append-nil (key_xor key ipad)) in
    let outer : c.masked-2.result ≡ key_xor key opad = c.masked-2.ensures ∙ ap (map (λ (b : ℕ). bit_xor b opad)) c.block_key-block.ensures in
    record {
      inside = subst (Absorbed c.update.new.self) inner (c.update.ensures [] c.new-inner.ensures);
      outside = subst (Absorbed c.update-2.new.self) outer (c.update-2.ensures [] c.new-outer.ensures);
    }
